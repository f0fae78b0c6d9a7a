-- What each turn of the image's run does.
use Rattle.std.proofs.Common.{◌≡◌, ℕ, ℤ, pos, negsuc, ◌+◌, ◌-◌, ◌*◌, ◌/◌, ◌%◌, ◌^◌, ◌<◌, ◌≤◌, ◌-ℤ◌, ◌⊎◌, inl, inr, Bool, true, false, List, [], ◌∷◌, ◌++◌, length, Option, None, Some, refl, ap, sym, ◌∙◌, subst, arith, lit<, lit≤}
use Rattle.std.specs.Int.{w32, w64, cast_unsigned}
use Rattle.std.specs.Prelude.{FitsSigned}
use Rattle.fx_outcomes.specs.Runs.{Next, Goes, Stops}
use Rattle.fx_base.specs.declared.device_op.DeviceOp.{DeviceOp}
use Rattle.fx_x64_forms.specs.declared.operand.Width.TheVariants.{W64}
use Rattle.fx_x64_forms.specs.declared.operand.Reg.{Reg}
use Rattle.fx_x64_forms.specs.declared.operand.Reg.TheVariants.{Rax, Rcx, Rdi}
use Rattle.fx_x64_forms.specs.declared.inst.Inst.{Inst}
use Rattle.fx_x64_forms.specs.declared.inst.Inst.TheVariants.{MovImm, Store, Jmp, Call, Ret, Hlt}
use Rattle.fx_x64_code.specs.Spelling.{spelling, IsRow}
use Rattle.fx_cpu.specs.Registers.{plus, below, above, past}
use Rattle.fx_cpu.specs.Memory.{word_at, stored}
use Rattle.fx_cpu.specs.Does.{need, finish}
use Rattle.fx_cpu.specs.declared.registers.Regs.{Regs}
use Rattle.fx_image.specs.Layout.{code_start}
use Rattle.fx_image.specs.declared.forms.Image.{Image}
use Rattle.fx_machine_model.specs.Moves.{World, Move, move, perform}
use Rattle.fx_machine_model.specs.declared.stop.Stop.{Stop}
use Rattle.fx_machine_model.specs.declared.stop.Stop.TheVariants.{Exit}
use Rattle.fx_machine_model.specs.Standing.{Fits, HoldsCode, StandsAt}
use Rattle.fx_machine_model.proofs.Standing.{executes}
use Rattle.fx_machine_model.proofs.Executing.{quiet, writes_stack, reads_stack, writes_register}
use Rattle.fx_early_image.specs.Code.{console, at_rax}
use Rattle.fx_early_image.specs.Layout.{laid_out, first_rsp}
use Rattle.fx_early_image.specs.Source.{console_store}

-- Registers of the run: all but these are 0, and so are the flags and PKRU.
abbrev pub regs : ℕ → ℕ → ℕ → ℕ → Regs
regs rip rax rcx rsp = record {
  gpr = rax ∷ rcx ∷ 0 ∷ 0 ∷ rsp ∷ 0 ∷ 0 ∷ 0 ∷ 0 ∷ 0 ∷ 0 ∷ 0 ∷ 0 ∷ 0 ∷ 0 ∷ 0 ∷ [];
  rip = rip;
  flags = record { cf = false; zf = false; sf = false; of = false };
  pkru = record { 0 = 0 };
}

-- the stack pointer in main, where its return address stands
abbrev pub main_rsp : ℕ
main_rsp = 0x2000_4fd8

-- a whole number of pages, from one to four
abbrev pub Pages : ℕ → Type 0
Pages n = (n ≡ 4096) ⊎ ((n ≡ 8192) ⊎ ((n ≡ 12288) ⊎ (n ≡ 16384)))

each_page : (P : ℕ → Type 0) → P 4096 → P 8192 → P 12288 → P 16384 → (n : ℕ) → Pages n → P n
each_page P a b c d n (inl e) = subst P (sym e) a
each_page P a b c d n (inr (inl e)) = subst P (sym e) b
each_page P a b c d n (inr (inr (inl e))) = subst P (sym e) c
each_page P a b c d n (inr (inr (inr e))) = subst P (sym e) d

-- from behind the call back to the code's beginning
back : (n : ℕ) → Pages n → plus (code_start + (n + 5)) (pos 0 -ℤ pos (n + 5)) ≡ code_start
unfolding plus
back n pages = each_page (λ n. plus (code_start + (n + 5)) (pos 0 -ℤ pos (n + 5)) ≡ code_start) refl refl refl refl n pages

back_fits : (n : ℕ) → Pages n → FitsSigned w32 (pos 0 -ℤ pos (n + 5))
back_fits n pages = each_page (λ n. FitsSigned w32 (pos 0 -ℤ pos (n + 5))) (record { sfits = omega arith }) (record { sfits = omega arith }) (record { sfits = omega arith }) (record { sfits = omega arith }) n pages

small_fits : (c : ℕ) → c < 2 ^ 31 → FitsSigned w32 (pos c)
small_fits c lt = record { sfits = lt }

module _ (n : ℕ) (code : List ℕ) (fits : Fits (laid_out n code)) (pages : Pages n) where
  abbrev image : Image
  image = laid_out n code

  -- an instruction that stands at RIP, by what it does
  does : (i : Inst) (r : Regs) (w : World) (offset : ℕ) (to : Move) → HoldsCode image w.memory → IsRow i → r.rip ≡ code_start + offset → StandsAt code offset (spelling i) → perform image 0 i (length (spelling i)) r w ≡ to → move image 0 r w ≡ to
  does i r w offset to holds row at stands go =
      let e : offset ≡ r.rip - code_start = omega (arith, at) in
      let from : code_start ≤ r.rip = omega (arith, at) in
      executes image 0 r w i fits refl holds row from (subst (λ k. StandsAt code k (spelling i)) e stands) ∙ go

  -- the call of main, which leaves the return address
  pub call_turn : (w : World) → HoldsCode image w.memory → StandsAt code n (spelling (Call (pos 0 -ℤ pos (n + 5))))
      → move image 0 (regs (code_start + n) 0 0 first_rsp) w ≡ Goes [] (regs code_start 0 0 main_rsp, record w { memory = stored w.memory W64 main_rsp (code_start + (n + 5)) })
  unfolding below
  call_turn w holds stands =
      let rel : ℤ = pos 0 -ℤ pos (n + 5) in
      let r = regs (code_start + n) 0 0 first_rsp in
      let ip : (code_start + n + 5) % 2 ^ 64 ≡ code_start + (n + 5) = small n pages in
      does (Call rel) r w n _ holds (refl, back_fits n pages) refl stands
      (writes_stack image 0 (Call rel) 5 r w fits refl 0 W64 main_rsp ((code_start + n + 5) % 2 ^ 64) refl (lit< tt) (lit≤ tt) (lit≤ tt) (lit≤ tt) refl
      ∙ ap (λ a. let x : Move = Goes [] (regs (plus a rel) 0 0 main_rsp, record w { memory = stored w.memory W64 main_rsp a }) in x) ip
      ∙ ap (λ a. let x : Move = Goes [] (regs a 0 0 main_rsp, record w { memory = stored w.memory W64 main_rsp (code_start + (n + 5)) }) in x) (back n pages))
    where
      small : (n : ℕ) → Pages n → (code_start + n + 5) % 2 ^ 64 ≡ code_start + (n + 5)
      small n pages = each_page (λ n. (code_start + n + 5) % 2 ^ 64 ≡ code_start + (n + 5)) refl refl refl refl n pages

  -- the entry table's jump
  pub jump_turn : (w : World) → HoldsCode image w.memory → StandsAt code 0 (spelling (Jmp (pos 11))) → move image 0 (regs code_start 0 0 main_rsp) w ≡ Goes [] (regs (code_start + 16) 0 0 main_rsp, w)
  unfolding plus
  jump_turn w holds stands =
      let r = regs code_start 0 0 main_rsp in
      does (Jmp (pos 11)) r w 0 _ holds (refl, small_fits 11 (lit< tt)) refl stands (quiet image 0 (Jmp (pos 11)) 5 r w refl)

  -- the console's address
  pub console_turn : (w : World) → HoldsCode image w.memory → StandsAt code 16 (spelling (MovImm Rax (pos console))) → move image 0 (regs (code_start + 16) 0 0 main_rsp) w ≡ Goes [] (regs (code_start + 23) console 0 main_rsp, w)
  console_turn w holds stands =
      let r = regs (code_start + 16) 0 0 main_rsp in
      does (MovImm Rax (pos console)) r w 16 _ holds (refl, small_fits console (lit< tt)) refl stands (quiet image 0 (MovImm Rax (pos console)) 7 r w refl)

  -- a constant
  pub constant_turn : (w : World) (c offset rcx : ℕ) → c < 256 → offset < 2 ^ 20 → HoldsCode image w.memory → StandsAt code offset (spelling (MovImm Rcx (pos c))) → move image 0 (regs (code_start + offset) console rcx main_rsp) w ≡ Goes [] (regs (code_start + (offset + 7)) console c main_rsp, w)
  constant_turn w c offset rcx small near holds stands =
      let r = regs (code_start + offset) console rcx main_rsp in
      let ip : (code_start + offset + 7) % 2 ^ 64 ≡ code_start + (offset + 7) = omega arith in
      let fit : c < 2 ^ 31 = omega arith in
      does (MovImm Rcx (pos c)) r w offset _ holds (refl, small_fits c fit) refl stands
      (quiet image 0 (MovImm Rcx (pos c)) 7 r w refl
      ∙ ap (λ a. let x : Move = Goes [] (regs a console c main_rsp, w) in x) ip)

  -- its store
  pub store_turn : (w : World) (c offset : ℕ) → c < 256 → offset < 2 ^ 20 → HoldsCode image w.memory → StandsAt code offset (spelling (Store W64 at_rax Rcx)) → move image 0 (regs (code_start + offset) console c main_rsp) w ≡ Goes (console_store c ∷ []) (regs (code_start + (offset + 7)) console c main_rsp, w)
  unfolding plus
  store_turn w c offset small near holds stands =
      let r = regs (code_start + offset) console c main_rsp in
      let ip : (code_start + offset + 7) % 2 ^ 64 ≡ code_start + (offset + 7) = omega arith in
      let whole : c % 2 ^ 64 ≡ c = omega arith in
      does (Store W64 at_rax Rcx) r w offset _ holds (refl, small_fits 0 (lit< tt)) refl stands
      (writes_register image 0 (Store W64 at_rax Rcx) 7 r w fits refl 0 0 (c % 2 ^ 64) refl (lit< tt) (lit< tt) refl
      ∙ ap (λ v. let x : Move = Goes (console_store v ∷ []) (regs ((code_start + offset + 7) % 2 ^ 64) console c main_rsp, w) in x) whole
      ∙ ap (λ a. let x : Move = Goes (console_store c ∷ []) (regs a console c main_rsp, w) in x) ip)

  -- the return to behind the call
  pub return_turn : (w : World) (offset rcx : ℕ) → HoldsCode image w.memory → StandsAt code offset (spelling Ret) → word_at w.memory W64 main_rsp ≡ code_start + (n + 5) → move image 0 (regs (code_start + offset) console rcx main_rsp) w ≡ Goes [] (regs (code_start + (n + 5)) console rcx first_rsp, w)
  unfolding above
  return_turn w offset rcx holds stands word =
      let r = regs (code_start + offset) console rcx main_rsp in
      does Ret r w offset _ holds (refl, tt) refl stands
      (reads_stack image 0 Ret 1 r w fits refl 0 W64 main_rsp refl (lit< tt) (lit≤ tt) (lit≤ tt) (lit≤ tt) refl
      ∙ ap (λ a. let x : Move = Goes [] (regs a console rcx first_rsp, w) in x) word)

  -- RAX and RDI for the exit, and the exit
  pub rax_turn : (w : World) (offset rax rcx : ℕ) → offset < 2 ^ 20 → HoldsCode image w.memory → StandsAt code offset (spelling (MovImm Rax (pos 0))) → move image 0 (regs (code_start + offset) rax rcx first_rsp) w ≡ Goes [] (regs (code_start + (offset + 7)) 0 rcx first_rsp, w)
  rax_turn w offset rax rcx near holds stands =
      let r = regs (code_start + offset) rax rcx first_rsp in
      let ip : (code_start + offset + 7) % 2 ^ 64 ≡ code_start + (offset + 7) = omega arith in
      does (MovImm Rax (pos 0)) r w offset _ holds (refl, small_fits 0 (lit< tt)) refl stands
      (quiet image 0 (MovImm Rax (pos 0)) 7 r w refl ∙ ap (λ a. let x : Move = Goes [] (regs a 0 rcx first_rsp, w) in x) ip)

  pub rdi_turn : (w : World) (offset rcx : ℕ) → offset < 2 ^ 20 → HoldsCode image w.memory → StandsAt code offset (spelling (MovImm Rdi (pos 0))) → move image 0 (regs (code_start + offset) 0 rcx first_rsp) w ≡ Goes [] (regs (code_start + (offset + 7)) 0 rcx first_rsp, w)
  rdi_turn w offset rcx near holds stands =
      let r = regs (code_start + offset) 0 rcx first_rsp in
      let ip : (code_start + offset + 7) % 2 ^ 64 ≡ code_start + (offset + 7) = omega arith in
      does (MovImm Rdi (pos 0)) r w offset _ holds (refl, small_fits 0 (lit< tt)) refl stands
      (quiet image 0 (MovImm Rdi (pos 0)) 7 r w refl ∙ ap (λ a. let x : Move = Goes [] (regs a 0 rcx first_rsp, w) in x) ip)

  pub hlt_turn : (w : World) (offset rcx : ℕ) → HoldsCode image w.memory → StandsAt code offset (spelling Hlt) → move image 0 (regs (code_start + offset) 0 rcx first_rsp) w ≡ Stops [] (Exit (pos 0))
  hlt_turn w offset rcx holds stands = does Hlt (regs (code_start + offset) 0 rcx first_rsp) w offset _ holds (refl, tt) refl stands refl
