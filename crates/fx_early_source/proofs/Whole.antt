-- The grammar and the reading agree: statements and whole programs.
use Rattle.std.proofs.Common.{◌≡◌, ℕ, ◌<◌, ◌≤◌, zero, suc, List, [], ◌∷◌, ◌++◌, length, Option, Some, None, Bool, true, false, refl, ap, sym, ◌∙◌, subst, arith, append_assoc, codes}
use Rattle.std.specs.Option.{option_map_or}
use Rattle.std.specs.List.{flat_map, list_all, AllByRecursion}
use Rattle.std.proofs.lemmas.Option.{some_pair_parts, same_Some, cond_some, none-some}
use Rattle.std.proofs.lemmas.List.{append-nil}
use Rattle.std.proofs.lemmas.Bool.{cond-true}
use Rattle.fx_early_source.specs.Grammar.{is_space, IsSpace, decimal, put_tokens, end_tokens, Spells, IsProgram}
use Rattle.fx_early_source.specs.Reading.{skip, strip, after, digits, number, argument, puts, ending, opening, reading, is_spaced, is_nil, ◌>>=◌}
use Rattle.fx_early_source.proofs.Laws.{first_of, bind_some, skip-sound, skip-space, after-sound, after-complete, after-other, number-sound, number-complete, digits-none}
use Rattle.fx_early_source.proofs.Fronts.{chosen}
use Rattle.fx_early_source.proofs.Statements.{behind, puts-none, puts-stop, puts-more, puts-bad}

-- the number of a list of tokens that a read token begins
token-sound : (token text rest : List ℕ) (tokens : List (List ℕ)) → after token text ≡ Some rest → Spells tokens rest → Spells (token ∷ tokens) text
token-sound token text rest tokens found more =
    let s = after-sound token text rest found in
    (s.0, rest, s.1, more, s.2)

number-token : (n : ℕ) (text rest : List ℕ) (tokens : List (List ℕ)) → number text ≡ Some (n, rest) → Spells tokens rest → Spells (decimal n ∷ tokens) text × (n < 256)
number-token n text rest tokens found more =
    let s = number-sound text n rest found in
    ((s.0, rest, s.1, more, s.2), s.3)

-- the tokens behind `__putc`
abbrev argument_tokens : ℕ → List (List ℕ) → List (List ℕ)
argument_tokens c tokens = codes "(" ∷ decimal c ∷ codes ")" ∷ codes ";" ∷ tokens

argument-sound : (text : List ℕ) (c : ℕ) (rest : List ℕ) (tokens : List (List ℕ)) → argument text ≡ Some (c, rest) → Spells tokens rest → Spells (argument_tokens c tokens) text × (c < 256)
unfolding argument
argument-sound text c rest tokens found more =
    let a = bind_some (after (codes "(") text) _ (c, rest) found in
    let b = bind_some (number a.0) _ (c, rest) a.2 in
    let d = bind_some (after (codes ")") b.0.1) _ (c, rest) b.2 in
    let e = bind_some (after (codes ";") d.0) _ (c, rest) d.2 in
    let parts : (b.0.0 ≡ c) × (e.0 ≡ rest) = some_pair_parts b.0.0 c e.0 rest e.2 in
    let end : Spells (codes ";" ∷ tokens) d.0 = token-sound (codes ";") d.0 e.0 tokens e.1 (subst (Spells tokens) (sym parts.1) more) in
    let close : Spells (codes ")" ∷ codes ";" ∷ tokens) b.0.1 = token-sound (codes ")") b.0.1 d.0 (codes ";" ∷ tokens) d.1 end in
    let n : Spells (decimal b.0.0 ∷ codes ")" ∷ codes ";" ∷ tokens) a.0 × (b.0.0 < 256) = number-token b.0.0 a.0 b.0.1 (codes ")" ∷ codes ";" ∷ tokens) b.1 close in
    (token-sound (codes "(") text a.0 (decimal c ∷ codes ")" ∷ codes ";" ∷ tokens) a.1 (subst (λ m. Spells (decimal m ∷ codes ")" ∷ codes ";" ∷ tokens) a.0) parts.0 n.0), subst (λ m. m < 256) parts.0 n.1)

-- statements before other tokens, and what is said of their constants
pub record Put (most : ℕ) (text constants : List ℕ) (tokens : List (List ℕ)) : Type 0 where
  pub spelled : Spells (flat_map put_tokens constants ++ tokens) text
  pub few : length constants ≤ most
  pub bytes : AllByRecursion (λ constant. constant < 256) constants

nothing : (most : ℕ) (text constants rest : List ℕ) (tokens : List (List ℕ)) → ◌≡◌ {A = Option (List ℕ × List ℕ)} (Some ([], text)) (Some (constants, rest)) → Spells tokens rest → Put most text constants tokens
nothing most text constants rest tokens same more =
    let parts : ([] ≡ constants) × (text ≡ rest) = some_pair_parts [] constants text rest same in
    subst (λ cs. Put most text cs tokens) parts.0 (record { spelled = subst (Spells tokens) (sym parts.1) more; few = omega arith; bytes = tt })

-- one statement more
step : (most : ℕ) (tokens : List (List ℕ)) → ((t cs r : List ℕ) → puts most t ≡ Some (cs, r) → Spells tokens r → Put most t cs tokens)
    → (text constants rest inside : List ℕ) (c : ℕ × List ℕ) → after (codes "__putc") text ≡ Some inside → argument inside ≡ Some c
    → puts (suc most) text ≡ Some (constants, rest) → Spells tokens rest → Put (suc most) text constants tokens
step most tokens again text constants rest inside c begun is found more = by_rest (puts most c.1) refl (sym (puts-more most text inside c.1 c.0 begun is) ∙ found) where
  by_rest : (o : Option (List ℕ × List ℕ)) → puts most c.1 ≡ o → behind (c.0 ∷ []) o ≡ Some (constants, rest) → Put (suc most) text constants tokens
  by_rest None same wrong = cc
  by_rest (Some p) same right =
      let parts : (c.0 ∷ p.0 ≡ constants) × (p.1 ≡ rest) = some_pair_parts (c.0 ∷ p.0) constants p.1 rest right in
      let later : Put most c.1 p.0 tokens = again c.1 p.0 p.1 same (subst (Spells tokens) (sym parts.1) more) in
      let first : Spells (argument_tokens c.0 (flat_map put_tokens p.0 ++ tokens)) inside × (c.0 < 256) = argument-sound inside c.0 c.1 (flat_map put_tokens p.0 ++ tokens) is later.spelled in
      let whole : Spells (codes "__putc" ∷ argument_tokens c.0 (flat_map put_tokens p.0 ++ tokens)) text = token-sound (codes "__putc") text inside (argument_tokens c.0 (flat_map put_tokens p.0 ++ tokens)) begun first.0 in
      subst (λ cs. Put (suc most) text cs tokens) parts.0 (record { spelled = whole; few = omega (arith, later.few); bytes = (first.1, later.bytes) })

pub puts-sound : (most : ℕ) (text constants rest : List ℕ) (tokens : List (List ℕ)) → puts most text ≡ Some (constants, rest) → Spells tokens rest → Put most text constants tokens
puts-sound zero text constants rest tokens found more = nothing zero text constants rest tokens (sym (puts-none text) ∙ found) more
puts-sound (suc most) text constants rest tokens found more = by_first (λ t cs r. puts-sound most t cs r tokens) (after (codes "__putc") text) refl where
  by_argument : ((t cs r : List ℕ) → puts most t ≡ Some (cs, r) → Spells tokens r → Put most t cs tokens) → (inside : List ℕ) → after (codes "__putc") text ≡ Some inside → (o : Option (ℕ × List ℕ)) → argument inside ≡ o → Put (suc most) text constants tokens
  by_argument again inside begun None bad = absurd (none-some (constants, rest) (sym (puts-bad most text inside begun bad) ∙ found))
  by_argument again inside begun (Some c) is = step most tokens again text constants rest inside c begun is found more

  by_first : ((t cs r : List ℕ) → puts most t ≡ Some (cs, r) → Spells tokens r → Put most t cs tokens) → (o : Option (List ℕ)) → after (codes "__putc") text ≡ o → Put (suc most) text constants tokens
  by_first again None stop = nothing (suc most) text constants rest tokens (sym (puts-stop (suc most) text stop) ∙ found) more
  by_first again (Some inside) begun = by_argument again inside begun (argument inside) refl

ending-sound : (text rest : List ℕ) → ending text ≡ Some rest → IsSpace rest → (returns : Bool) × Spells (end_tokens returns) text
unfolding ending
ending-sound text rest found white = by_first (after (codes "return") text) refl found where
  by_first : (o : Option (List ℕ)) → after (codes "return") text ≡ o → option_map_or (λ r. after (codes ";") r >>= after (codes "}")) o (after (codes "}") text) ≡ Some rest → (returns : Bool) × Spells (end_tokens returns) text
  by_first None stop brace = (false, token-sound (codes "}") text rest [] brace white)
  by_first (Some r) begun last =
      let a = bind_some (after (codes ";") r) _ rest last in
      (true, token-sound (codes "return") text r (codes ";" ∷ codes "}" ∷ []) begun (token-sound (codes ";") r a.0 (codes "}" ∷ []) a.1 (token-sound (codes "}") a.0 rest [] a.2 white)))

-- `void` and the tokens behind it
record Opened (text : List ℕ) (tokens : List (List ℕ)) : Type 0 where
  front : List ℕ
  gap : List ℕ
  rest : List ℕ
  spaced : IsSpace front × IsSpace gap × (0 < length gap)
  main : Spells (codes "main" ∷ tokens) rest
  text_is : text ≡ front ++ codes "void" ++ gap ++ rest

gap-some : (gap rest : List ℕ) → is_spaced (gap ++ codes "main" ++ rest) ≡ true → 0 < length gap
gap-some [] rest h = cc
gap-some (b ∷ gap) rest h = omega arith

opening-sound : (text inside : List ℕ) (tokens : List (List ℕ)) → opening text ≡ Some inside → Spells tokens inside → Opened text (codes "(" ∷ codes ")" ∷ codes "{" ∷ tokens)
unfolding opening
opening-sound text inside tokens found more =
    let v = bind_some (after (codes "void") text) _ inside found in
    let t = chosen (is_spaced v.0) _ inside v.2 in
    let b = bind_some (after (codes "main") v.0 >>= after (codes "(") >>= after (codes ")")) (after (codes "{")) inside t.1 in
    let d = bind_some (after (codes "main") v.0 >>= after (codes "(")) (after (codes ")")) b.0 b.1 in
    let e = bind_some (after (codes "main") v.0) (after (codes "(")) d.0 d.1 in
    let m : Spells (codes "(" ∷ codes ")" ∷ codes "{" ∷ tokens) e.0 =
    token-sound (codes "(") e.0 d.0 (codes ")" ∷ codes "{" ∷ tokens) e.2 (token-sound (codes ")") d.0 b.0 (codes "{" ∷ tokens) d.2 (token-sound (codes "{") b.0 inside tokens b.2 more)) in
    let s = after-sound (codes "void") text v.0 v.1 in
    let g = after-sound (codes "main") v.0 e.0 e.1 in
    record {
      front = s.0;
      gap = g.0;
      rest = codes "main" ++ e.0;
      spaced = (s.1, g.1, gap-some g.0 e.0 (subst (λ w. is_spaced w ≡ true) g.2 t.0));
      main = ([], e.0, refl, m, refl);
      text_is = s.2 ∙ ap (λ w. s.0 ++ codes "void" ++ w) (g.2 ∙ append_assoc g.0 (codes "main") e.0) ∙ sym (append_assoc (s.0 ++ codes "void") g.0 (codes "main" ++ e.0));
    }

is_nil-sound : (text : List ℕ) → is_nil text ≡ true → text ≡ []
is_nil-sound [] h = refl
is_nil-sound (b ∷ text) h = cc

pub reading-sound : (text constants : List ℕ) → reading 1000 text ≡ Some constants → IsProgram text constants
unfolding reading
reading-sound text constants found =
    let b = bind_some (opening text >>= puts 1000) _ constants found in
    let a = bind_some (opening text) (puts 1000) b.0 b.1 in
    let d = bind_some (ending b.0.1) _ constants b.2 in
    let e : (is_nil (skip d.0) ≡ true) × (b.0.0 ≡ constants) = cond_some (is_nil (skip d.0)) b.0.0 constants d.2 in
    let s = skip-sound d.0 in
    let white : IsSpace d.0 = subst IsSpace (sym (s.2 ∙ ap (λ t. s.0 ++ t) (is_nil-sound (skip d.0) e.0) ∙ append-nil s.0)) s.1 in
    let end = ending-sound b.0.1 d.0 d.1 white in
    let body : Put 1000 a.0 b.0.0 (end_tokens end.0) = puts-sound 1000 a.0 b.0.0 b.0.1 (end_tokens end.0) a.2 end.1 in
    let o : Opened text (codes "(" ∷ codes ")" ∷ codes "{" ∷ (flat_map put_tokens b.0.0 ++ end_tokens end.0)) = opening-sound text a.0 (flat_map put_tokens b.0.0 ++ end_tokens end.0) a.1 body.spelled in
    subst (IsProgram text) e.1 (record { returns = end.0; front = o.front; gap = o.gap; rest = o.rest; spaced = o.spaced; main = o.main; text_is = o.text_is; few = body.few; bytes = body.bytes })

-- ---- what is spelled is read

bind_is : {A B : Type 0} (o : Option A) (x : A) (f : A → Option B) → o ≡ Some x → (o >>= f) ≡ f x
bind_is o x f is = ap (λ p. p >>= f) is

argument-complete : (c : ℕ) (tokens : List (List ℕ)) (text : List ℕ) → c < 256 → Spells (argument_tokens c tokens) text → (rest : List ℕ) × (argument text ≡ Some (c, rest)) × Spells tokens rest
unfolding argument
argument-complete c tokens text small a =
    let b = a.3 in
    let d = b.3 in
    let e = d.3 in
    let stop : digits b.1 ≡ ([], b.1) = subst (λ t. digits t ≡ ([], t)) (sym d.4) (digits-none d.0 d.1 d.2) in (
      e.1,
      bind_is (after (codes "(") text) a.1 _ (after-complete (codes "(") a.0 a.1 text a.2 refl a.4)
          ∙ bind_is (number a.1) (c, b.1) _ (number-complete c b.0 b.1 a.1 b.2 small stop b.4)
          ∙ bind_is (after (codes ")") b.1) d.1 _ (after-complete (codes ")") d.0 d.1 b.1 d.2 refl d.4)
          ∙ bind_is (after (codes ";") d.1) e.1 _ (after-complete (codes ";") e.0 e.1 d.1 e.2 refl e.4),
      e.3,
    )

no-putc : (returns : Bool) (text : List ℕ) → Spells (end_tokens returns) text → after (codes "__putc") text ≡ None
no-putc true text s = after-other (codes "__putc") (codes "return") s.0 s.1 text s.2 refl s.4
no-putc false text s = after-other (codes "__putc") (codes "}") s.0 s.1 text s.2 refl s.4

puts-complete : (most : ℕ) (constants text : List ℕ) (returns : Bool) → length constants ≤ most → AllByRecursion (λ c. c < 256) constants → Spells (flat_map put_tokens constants ++ end_tokens returns) text
    → (rest : List ℕ) × (puts most text ≡ Some (constants, rest)) × Spells (end_tokens returns) rest
puts-complete most [] text returns few bytes spelled = (text, puts-stop most text (no-putc returns text spelled), spelled)
puts-complete zero (c ∷ constants) text returns few bytes spelled = absurd (omega arith)
puts-complete (suc most) (c ∷ constants) text returns few bytes spelled =
    let a = argument-complete c (flat_map put_tokens constants ++ end_tokens returns) spelled.1 bytes.0 spelled.3 in
    let b = puts-complete most constants a.0 returns (omega arith) bytes.1 a.2 in (
      b.0,
      puts-more most text spelled.1 a.0 c (after-complete (codes "__putc") spelled.0 spelled.1 text spelled.2 refl spelled.4) a.1 ∙ ap (behind (c ∷ [])) b.1,
      b.2,
    )

ending-complete : (returns : Bool) (text : List ℕ) → Spells (end_tokens returns) text → (rest : List ℕ) × (ending text ≡ Some rest) × IsSpace rest
unfolding ending
ending-complete true text a =
    let b = a.3 in
    let d = b.3 in (
      d.1,
      ap (λ o. option_map_or (λ r. after (codes ";") r >>= after (codes "}")) o (after (codes "}") text)) (after-complete (codes "return") a.0 a.1 text a.2 refl a.4)
          ∙ bind_is (after (codes ";") a.1) b.1 (after (codes "}")) (after-complete (codes ";") b.0 b.1 a.1 b.2 refl b.4)
          ∙ after-complete (codes "}") d.0 d.1 b.1 d.2 refl d.4,
      d.3,
    )
ending-complete false text a = (
  a.1,
  ap (λ o. option_map_or (λ r. after (codes ";") r >>= after (codes "}")) o (after (codes "}") text)) (after-other (codes "return") (codes "}") a.0 a.1 text a.2 refl a.4)
      ∙ after-complete (codes "}") a.0 a.1 text a.2 refl a.4,
  a.3,
)

spaced-gap : (gap rest : List ℕ) → IsSpace gap → 0 < length gap → is_spaced (gap ++ rest) ≡ true
spaced-gap [] rest white some = absurd (omega arith)
spaced-gap (b ∷ gap) rest white some = first_of (is_space b) (list_all is_space gap) white

opening-complete : (front gap rest text : List ℕ) (tokens : List (List ℕ)) → IsSpace front → IsSpace gap → 0 < length gap → Spells (codes "main" ∷ codes "(" ∷ codes ")" ∷ codes "{" ∷ tokens) rest
    → text ≡ front ++ codes "void" ++ gap ++ rest → (inside : List ℕ) × (opening text ≡ Some inside) × Spells tokens inside
unfolding opening
opening-complete front gap rest text tokens white gap_white some a is =
    let b = a.3 in
    let d = b.3 in
    let e = d.3 in
    let main : after (codes "main") (gap ++ rest) ≡ Some a.1 = ap (strip (codes "main")) (skip-space gap rest gap_white) ∙ after-complete (codes "main") a.0 a.1 rest a.2 refl a.4 in (
      e.1,
      bind_is (after (codes "void") text) (gap ++ rest) _ (after-complete (codes "void") front (gap ++ rest) text white refl (is ∙ append_assoc (front ++ codes "void") gap rest))
          ∙ cond-true (is_spaced (gap ++ rest)) _ None (spaced-gap gap rest gap_white some)
          ∙ ap (λ o. o >>= after (codes "(") >>= after (codes ")") >>= after (codes "{")) main
          ∙ ap (λ o. o >>= after (codes ")") >>= after (codes "{")) (after-complete (codes "(") b.0 b.1 a.1 b.2 refl b.4)
          ∙ ap (λ o. o >>= after (codes "{")) (after-complete (codes ")") d.0 d.1 b.1 d.2 refl d.4)
          ∙ after-complete (codes "{") e.0 e.1 d.1 e.2 refl e.4,
      e.3,
    )

pub reading-complete : (text constants : List ℕ) → IsProgram text constants → reading 1000 text ≡ Some constants
unfolding reading
reading-complete text constants p =
    let o = opening-complete p.front p.gap p.rest text (flat_map put_tokens constants ++ end_tokens p.returns) p.spaced.0 p.spaced.1 p.spaced.2 p.main p.text_is in
    let b = puts-complete 1000 constants o.0 p.returns p.few p.bytes o.2 in
    let e = ending-complete p.returns b.0 b.2 in
    let done : is_nil (skip e.0) ≡ true = ap is_nil (ap skip (sym (append-nil e.0)) ∙ skip-space e.0 [] e.2) in
    bind_is (opening text >>= puts 1000) (constants, b.0) _ (bind_is (opening text) o.0 (puts 1000) o.1 ∙ b.1)
    ∙ bind_is (ending b.0) e.0 _ e.1
    ∙ cond-true (is_nil (skip e.0)) (Some constants) None done

-- a text has at most one reading
pub one_reading : (text a b : List ℕ) → IsProgram text a → IsProgram text b → a ≡ b
one_reading text a b p q = same_Some a b (sym (reading-complete text a p) ∙ reading-complete text b q)
