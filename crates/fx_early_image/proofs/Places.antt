-- Where each instruction stands in the code.
use Rattle.std.proofs.Common.{◌≡◌, ℕ, pos, ◌+◌, ◌-◌, ◌*◌, ◌%◌, ◌<◌, ◌≤◌, ◌-ℤ◌, List, [], ◌∷◌, ◌++◌, length, replicate, refl, ap, sym, ◌∙◌, subst, arith, get_or, length-append}
use Rattle.std.proofs.Math.ListN.{get_or-append}
use Rattle.std.proofs.lemmas.List.{get_or-append-add}
use Rattle.std.proofs.lemmas.Grind.{flat_map-append}
use Rattle.std.specs.List.{flat_map}
use Rattle.fx_x64_forms.specs.declared.operand.Width.TheVariants.{W64}
use Rattle.fx_x64_forms.specs.declared.operand.Reg.TheVariants.{Rax, Rcx, Rdi}
use Rattle.fx_x64_forms.specs.declared.inst.Inst.{Inst}
use Rattle.fx_x64_forms.specs.declared.inst.Inst.TheVariants.{MovImm, Store, Jmp, Call, Ret, Hlt}
use Rattle.fx_x64_code.specs.Spelling.{spelling}
use Rattle.fx_machine_model.specs.Standing.{StandsAt}
use Rattle.fx_early_image.specs.Code.{console, at_rax, putc_code, putc_bytes, main_bytes, spelled, start_code, abort_code, filled, entry_table, range_bytes, code_bytes}
use Rattle.fx_early_image.proofs.Lengths.{length-table, length-putcs}

stands_front : (xs ys : List ℕ) → StandsAt (xs ++ ys) 0 xs
stands_front xs ys = record {
  room = let a = length-append xs ys in omega (arith, a);
  same = λ k lt. let e : 0 + k ≡ k = omega arith in ap (λ n. get_or (xs ++ ys) n 0) e ∙ get_or-append xs ys 0 k lt;
}

stands_back : (xs ys : List ℕ) (n : ℕ) → length xs ≡ n → StandsAt (xs ++ ys) n ys
stands_back xs ys n e = record {
  room = let a = length-append xs ys in omega (arith, a, e);
  same = λ k lt. ap (λ m. get_or (xs ++ ys) (m + k) 0) (sym e) ∙ get_or-append-add xs ys k 0;
}

-- what stands in what stands in the code
stands_within : (xs ys zs : List ℕ) (a b c : ℕ) → a + b ≡ c → StandsAt xs a ys → StandsAt ys b zs → StandsAt xs c zs
stands_within xs ys zs a b c e outer inner = record {
  room = let o = outer.room in let i = inner.room in omega (arith, o, i, e);
  same = λ k lt.
      let i = inner.room in
      let f : c + k ≡ a + (b + k) = omega (arith, e) in
      ap (λ n. get_or xs n 0) f ∙ outer.same (b + k) (omega (arith, i, lt)) ∙ inner.same k lt;
}

stands_filled : (unit : ℕ) (bytes : List ℕ) → StandsAt (filled unit bytes) 0 bytes
unfolding filled
stands_filled unit bytes = stands_front bytes (replicate ((unit - length bytes % unit) % unit) 0xf4)

module _ (constants : List ℕ) where
  abbrev n : ℕ
  n = length (range_bytes constants)

  range_stands : StandsAt (code_bytes constants) 0 (range_bytes constants)
  unfolding code_bytes
  range_stands =
      let s = range_bytes constants ++ spelled (start_code n) in
      stands_within _ (s ++ spelled abort_code) _ 0 0 0 refl (stands_filled 4096 (s ++ spelled abort_code))
      (stands_within _ s _ 0 0 0 refl (stands_front s (spelled abort_code)) (stands_front (range_bytes constants) (spelled (start_code n))))

  start_stands : StandsAt (code_bytes constants) n (spelled (start_code n))
  unfolding code_bytes
  start_stands =
      let s = range_bytes constants ++ spelled (start_code n) in
      let e : 0 + n ≡ n = omega arith in
      stands_within _ (s ++ spelled abort_code) _ 0 n n e (stands_filled 4096 (s ++ spelled abort_code))
      (stands_within _ s _ 0 n n e (stands_front s (spelled abort_code)) (stands_back (range_bytes constants) (spelled (start_code n)) n refl))

  unfilled_stands : StandsAt (range_bytes constants) 0 (entry_table ++ main_bytes constants)
  unfolding range_bytes
  unfilled_stands = stands_filled 4096 (entry_table ++ main_bytes constants)

  in_range : (offset : ℕ) (bytes : List ℕ) → StandsAt (entry_table ++ main_bytes constants) offset bytes → StandsAt (code_bytes constants) offset bytes
  in_range offset bytes h =
      let e : 0 + offset ≡ offset = omega arith in
      stands_within _ (range_bytes constants) _ 0 offset offset e range_stands (stands_within _ (entry_table ++ main_bytes constants) _ 0 offset offset e unfilled_stands h)

  -- the entry table's jump
  pub jump_stands : StandsAt (code_bytes constants) 0 (spelling (Jmp (pos 11)))
  jump_stands =
      in_range 0 (spelling (Jmp (pos 11)))
      (stands_within _ entry_table _ 0 0 0 refl (stands_front entry_table (main_bytes constants)) (stands_filled 16 (spelling (Jmp (pos 11)))))

  in_main : (b c : ℕ) (bytes : List ℕ) → 16 + b ≡ c → StandsAt (main_bytes constants) b bytes → StandsAt (code_bytes constants) c bytes
  in_main b c bytes e h = in_range c bytes (stands_within _ (main_bytes constants) _ 16 b c e (stands_back entry_table (main_bytes constants) 16 length-table) h)

  -- the console's address
  pub console_stands : StandsAt (code_bytes constants) 16 (spelling (MovImm Rax (pos console)))
  console_stands = in_main 0 16 _ refl (stands_front (spelling (MovImm Rax (pos console))) (flat_map putc_bytes constants ++ spelling Ret))

  abbrev putcs : List ℕ
  putcs = flat_map putc_bytes constants

  in_body : (b c : ℕ) (bytes : List ℕ) → 23 + b ≡ c → StandsAt (putcs ++ spelling Ret) b bytes → StandsAt (code_bytes constants) c bytes
  in_body b c bytes e h =
      let f : 16 + (7 + b) ≡ c = omega (arith, e) in
      in_main (7 + b) c bytes f (stands_within _ (putcs ++ spelling Ret) _ 7 b (7 + b) refl (stands_back (spelling (MovImm Rax (pos console))) (putcs ++ spelling Ret) 7 refl) h)

  -- the return, behind all constants
  pub return_stands : (c : ℕ) → 23 + 14 * length constants ≡ c → StandsAt (code_bytes constants) c (spelling Ret)
  return_stands c e = in_body (14 * length constants) c (spelling Ret) e (stands_back putcs (spelling Ret) (14 * length constants) (length-putcs constants))

  putc_stands : (before rest : List ℕ) (c : ℕ) → constants ≡ before ++ c ∷ rest → StandsAt putcs (14 * length before) (putc_bytes c)
  putc_stands before rest c e =
      let whole : putcs ≡ flat_map putc_bytes before ++ flat_map putc_bytes (c ∷ rest) = ap (flat_map putc_bytes) e ∙ flat_map-append putc_bytes before (c ∷ rest) in
      let f : 14 * length before + 0 ≡ 14 * length before = omega arith in
      subst (λ xs. StandsAt xs (14 * length before) (putc_bytes c)) (sym whole)
      (stands_within _ (flat_map putc_bytes (c ∷ rest)) _ (14 * length before) 0 (14 * length before) f
      (stands_back (flat_map putc_bytes before) (flat_map putc_bytes (c ∷ rest)) (14 * length before) (length-putcs before))
      (stands_front (putc_bytes c) (flat_map putc_bytes rest)))

  at_putc : (before rest : List ℕ) (c b place : ℕ) (bytes : List ℕ) → constants ≡ before ++ c ∷ rest → 23 + 14 * length before + b ≡ place → StandsAt (putc_bytes c) b bytes → StandsAt (code_bytes constants) place bytes
  at_putc before rest c b place bytes e f h =
      let g : 23 + (14 * length before + b) ≡ place = omega (arith, f) in
      let z : 0 + (14 * length before + b) ≡ 14 * length before + b = omega arith in
      in_body (14 * length before + b) place bytes g
      (stands_within _ putcs _ 0 (14 * length before + b) (14 * length before + b) z (stands_front putcs (spelling Ret))
      (stands_within _ (putc_bytes c) _ (14 * length before) b (14 * length before + b) refl (putc_stands before rest c e) h))

  -- a constant, where those before it are written
  pub constant_stands : (before rest : List ℕ) (c place : ℕ) → constants ≡ before ++ c ∷ rest → 23 + 14 * length before ≡ place → StandsAt (code_bytes constants) place (spelling (MovImm Rcx (pos c)))
  constant_stands before rest c place e f =
      let g : 23 + 14 * length before + 0 ≡ place = omega (arith, f) in
      at_putc before rest c 0 place _ e g (stands_front (spelling (MovImm Rcx (pos c))) (spelling (Store W64 at_rax Rcx) ++ []))

  -- and its store
  pub store_stands : (before rest : List ℕ) (c place : ℕ) → constants ≡ before ++ c ∷ rest → 23 + 14 * length before + 7 ≡ place → StandsAt (code_bytes constants) place (spelling (Store W64 at_rax Rcx))
  store_stands before rest c place e f =
      at_putc before rest c 7 place _ e f (stands_back (spelling (MovImm Rcx (pos c))) (spelling (Store W64 at_rax Rcx) ++ []) 7 refl)

  in_start : (b c : ℕ) (bytes : List ℕ) → n + b ≡ c → StandsAt (spelled (start_code n)) b bytes → StandsAt (code_bytes constants) c bytes
  in_start b c bytes e h = stands_within _ (spelled (start_code n)) _ n b c e start_stands h

  abbrev call : List ℕ
  call = spelling (Call (pos 0 -ℤ pos (n + 5)))

  abbrev zeros : List ℕ
  zeros = spelling (MovImm Rax (pos 0)) ++ (spelling (MovImm Rdi (pos 0)) ++ (spelling Hlt ++ []))

  pub call_stands : StandsAt (code_bytes constants) n call
  call_stands = let e : n + 0 ≡ n = omega arith in in_start 0 n _ e (stands_front call zeros)

  behind_call : (b c : ℕ) (bytes : List ℕ) → 5 + b ≡ c → StandsAt zeros b bytes → StandsAt (spelled (start_code n)) c bytes
  behind_call b c bytes e h = stands_within _ zeros _ 5 b c e (stands_back call zeros 5 refl) h

  pub rax_stands : (c : ℕ) → n + 5 ≡ c → StandsAt (code_bytes constants) c (spelling (MovImm Rax (pos 0)))
  rax_stands c e = in_start 5 c _ e (behind_call 0 5 _ refl (stands_front (spelling (MovImm Rax (pos 0))) (spelling (MovImm Rdi (pos 0)) ++ (spelling Hlt ++ []))))

  pub rdi_stands : (c : ℕ) → n + 12 ≡ c → StandsAt (code_bytes constants) c (spelling (MovImm Rdi (pos 0)))
  rdi_stands c e = in_start 12 c _ e (behind_call 7 12 _ refl
      (stands_within _ (spelling (MovImm Rdi (pos 0)) ++ (spelling Hlt ++ [])) _ 7 0 7 refl (stands_back (spelling (MovImm Rax (pos 0))) _ 7 refl) (stands_front (spelling (MovImm Rdi (pos 0))) (spelling Hlt ++ []))))

  pub hlt_stands : (c : ℕ) → n + 19 ≡ c → StandsAt (code_bytes constants) c (spelling Hlt)
  hlt_stands c e = in_start 19 c _ e (behind_call 14 19 _ refl
      (stands_within _ (spelling Hlt ++ []) _ 14 0 14 refl (stands_back (spelling (MovImm Rax (pos 0)) ++ spelling (MovImm Rdi (pos 0))) (spelling Hlt ++ []) 14 refl) (stands_front (spelling Hlt) [])))
