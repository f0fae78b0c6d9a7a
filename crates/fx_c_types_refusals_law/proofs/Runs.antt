-- Declarations that are tried one behind the other, and the first that is refused.
use Rattle.std.proofs.Common.{◌≡◌, ℕ, ◌+◌, List, [], ◌∷◌, ◌++◌, length, Result, Ok, Err, refl, sym, ap, ◌∙◌, arith}
use Rattle.fx_c_types_rules.specs.declared.fault.TypeKind.{TypeKind}
use Rattle.fx_c_types_rules.specs.declared.fault.Fault.{Fault}
use Rattle.fx_c_types_rules.specs.declared.fault.Fault.TheVariants as fault
use Rattle.fx_c_types_rules.specs.Checks.{Checked}
use Rattle.fx_c_types_heads.specs.Heads.{HeadsTree, head}
use Rattle.fx_c_types.specs.declared.fault.TypeError.{TypeError}
use Rattle.fx_c_types.specs.declared.fault.TypeError.TheVariants.{Rule, OutOfMemory}
use Rattle.fx_c_types.specs.Programs.{PlacedDecl, BodiesTree, at_declaration, ◌>>>◌, heads_of, body_of, bodies_of}

-- a refusal in the declaration with a number
abbrev pub named : Fault → ℕ → TypeError
named (fault.Rule kind) n = Rule kind n
named fault.OutOfMemory n = OutOfMemory

named_at : {A B : Type 0} (n : ℕ) (f : Fault) (g : A → Result B TypeError) → (at_declaration n (Err f) >>> g) ≡ Err (named f n)
named_at n (fault.Rule kind) g = refl
named_at n fault.OutOfMemory g = refl

module _ {S : Type 0} (step : S → PlacedDecl → Checked S) where
  abbrev pub run : ℕ → S → List PlacedDecl → Result S TypeError
  run n s [] = Ok s
  run n s (d ∷ ds) = at_declaration n (step s d) >>> (λ t. run (n + 1) t ds)

  -- where they stop: those before pass
  pub record Stops (n : ℕ) (s : S) (ds : List PlacedDecl) (e : TypeError) : Type 0 where
    pub before : List PlacedDecl
    pub after : List PlacedDecl
    pub here : PlacedDecl
    pub reached : S
    pub refusal : Fault
    pub split : ds ≡ before ++ here ∷ after
    pub passed : run n s before ≡ Ok reached
    pub fails : step reached here ≡ Err refusal
    pub is : e ≡ named refusal (n + length before)

  pub stops : (n : ℕ) (s : S) (ds : List PlacedDecl) (e : TypeError) → run n s ds ≡ Err e → Stops n s ds e
  stops n s [] e is = absurd cc
  stops n s (d ∷ ds) e is = by (λ t passed. stops (n + 1) t ds e passed) (step s d) refl
    where
      by : ((t : S) → run (n + 1) t ds ≡ Err e → Stops (n + 1) t ds e) → (r : Checked S) → step s d ≡ r → Stops n s (d ∷ ds) e
      by behind (Ok t) first =
          let more : Stops (n + 1) t ds e = behind t (sym (ap (λ r. at_declaration n r >>> (λ t. run (n + 1) t ds)) first) ∙ is) in
          record {
            before = d ∷ more.before;
            after = more.after;
            here = more.here;
            reached = more.reached;
            refusal = more.refusal;
            split = ap (λ l. d ∷ l) more.split;
            passed = ap (λ r. at_declaration n r >>> (λ t. run (n + 1) t more.before)) first ∙ more.passed;
            fails = more.fails;
            is = let place : n + 1 + length more.before ≡ n + length (d ∷ more.before) = omega arith in more.is ∙ ap (named more.refusal) place;
          }
      by behind (Err f) first =
          let whole : Err e ≡ Err (named f n) = sym is ∙ ap (λ r. at_declaration n r >>> (λ t. run (n + 1) t ds)) first ∙ named_at n f (λ t. run (n + 1) t ds) in
          let same : e ≡ named f n = cc in
          let place : n ≡ n + 0 = omega arith in
          record {
            before = [];
            after = ds;
            here = d;
            reached = s;
            refusal = f;
            split = refl;
            passed = refl;
            fails = first;
            is = same ∙ ap (named f) place;
          }

  -- and the other way round
  pub stopped : (n : ℕ) (s t : S) (before after : List PlacedDecl) (d : PlacedDecl) (kind : TypeKind) → run n s before ≡ Ok t → step t d ≡ Err (fault.Rule kind) → run n s (before ++ d ∷ after) ≡ Err (Rule kind (n + length before))
  stopped n s t [] after d kind passed fails =
      let same : s ≡ t = cc in
      let place : n ≡ n + 0 = omega arith in
      ap (λ r. at_declaration n r >>> (λ t. run (n + 1) t after)) (ap (λ x. step x d) same ∙ fails) ∙ ap (λ k. Err (Rule kind k)) place
  stopped n s t (x ∷ before) after d kind passed fails = by (λ u more. stopped (n + 1) u t before after d kind more fails) (step s x) refl
    where
      by : ((u : S) → run (n + 1) u before ≡ Ok t → run (n + 1) u (before ++ d ∷ after) ≡ Err (Rule kind (n + 1 + length before))) → (r : Checked S) → step s x ≡ r → run n s (x ∷ (before ++ d ∷ after)) ≡ Err (Rule kind (n + length (x ∷ before)))
      by behind (Ok u) first =
          let rest : run (n + 1) u before ≡ Ok t = sym (ap (λ r. at_declaration n r >>> (λ t. run (n + 1) t before)) first) ∙ passed in
          let place : n + 1 + length before ≡ n + length (x ∷ before) = omega arith in
          ap (λ r. at_declaration n r >>> (λ t. run (n + 1) t (before ++ d ∷ after))) first
          ∙ behind u rest
          ∙ ap (λ k. Err (Rule kind k)) place
      by behind (Err f) first =
          let whole : Err (named f n) ≡ Ok t = sym (named_at n f (λ t. run (n + 1) t before)) ∙ sym (ap (λ r. at_declaration n r >>> (λ t. run (n + 1) t before)) first) ∙ passed in
          absurd cc

-- ---- heads and bodies

abbrev pub head_step : HeadsTree → PlacedDecl → Checked HeadsTree
head_step h d = head h d.library d.decl

abbrev pub body_step : HeadsTree → BodiesTree → PlacedDecl → Checked BodiesTree
body_step h b d = body_of h b d.decl

after : {A B : Type 0} (r : Result A TypeError) (f g : A → Result B TypeError) → ((x : A) → f x ≡ g x) → (r >>> f) ≡ (r >>> g)
after (Ok x) f g same = same x
after (Err e) f g same = refl

pub heads_run : (n : ℕ) (h : HeadsTree) (ds : List PlacedDecl) → heads_of n h ds ≡ run head_step n h ds
heads_run n h [] = refl
heads_run n h (d ∷ ds) = after (at_declaration n (head_step h d)) (λ g. heads_of (n + 1) g ds) (λ g. run head_step (n + 1) g ds) (λ g. heads_run (n + 1) g ds)

pub bodies_run : (n : ℕ) (h : HeadsTree) (b : BodiesTree) (ds : List PlacedDecl) → bodies_of n h b ds ≡ run (body_step h) n b ds
bodies_run n h b [] = refl
bodies_run n h b (d ∷ ds) = after (at_declaration n (body_step h b d)) (λ c. bodies_of (n + 1) h c ds) (λ c. run (body_step h) (n + 1) c ds) (λ c. bodies_run (n + 1) h c ds)
