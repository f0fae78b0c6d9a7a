-- Where the objects of a state of a run stand.
use Rattle.std.proofs.Common.{◌≡◌, ◌≢◌, ◌⊎◌, inl, inr, ℕ, zero, suc, ◌+◌, ◌-◌, ◌*◌, ◌<◌, ◌≤◌, Bool, true, false, ◌&&◌, nat_lt, nat_le, List, [], ◌∷◌, ◌++◌, length, get_or, slice_get, Option, Some, None, if◌then◌else◌, refl, sym, ap, subst, ◌∙◌, arith}
use Rattle.std.specs.Prelude.{slice_index_or}
use Rattle.std.proofs.lemmas.Bool.{cases_eq, cases_lt, cases_order, cases_Bool, ltb-true, ltb-false, leb-true, lt-ltb, le-ltb, and_parts}
use Rattle.std.proofs.lemmas.List.{length-map}
use Rattle.std.proofs.lemmas.Option.{slice_get-get_or}
use Rattle.fx_config.specs.declared.configuration.Config.{Config}
use Rattle.fx_c_ast.specs.declared.checked.TProgram.{TProgram}
use Rattle.fx_grants.specs.declared.grants.Grants.{Grants}
use Rattle.fx_shadow.specs.Stacks.{stack_size, stack_low}
use Rattle.fx_sections.specs.declared.placement.Placement.{Placement}
use Rattle.fx_outcomes.specs.Runs.{Next, Goes, Stops, later}
use Rattle.fx_base.specs.declared.device_op.DeviceOp.{DeviceOp}
use Rattle.fx_c_mean_blocks.specs.declared.block.Object.{Object}
use Rattle.fx_c_mean_model.specs.declared.end.End.{End}
use Rattle.fx_c_mean_model.specs.declared.rights.Rights.{Rights}
use Rattle.fx_c_mean_model.specs.Programs.{Program, program_of, global_of, function_at, size_in, first_memory}
use Rattle.fx_c_mean_model.specs.Rights.{home, no_variable}
use Rattle.fx_c_mean_model.specs.States.{Plainly, ByGate, First, Enter, Stuck, Call, Frame, Caller, Arguments, Spot, Does}
use Rattle.fx_c_mean_model.specs.Steps.{Thread, Running, Waiting, Ended, State, Outcome, step}
use Rattle.fx_c_mean_model.specs.Expected.{Run, with_answers, asks, advance, run_step, started, run_after, state_at}
use Rattle.fx_c_mean_places.specs.Places.{Standing, standing, callers_in, calls_at, calls_of, calls_from, calls_in, owns, variable_address, address_among, address_of}
use Rattle.fx_c_mean_places_law.specs.Laws.{IsPlacedAt, AreOf, AreApart, IsGoing, AllGoOn}
use Rattle.fx_c_mean_places_law.proofs.Memory.{is_within}
use Rattle.fx_c_mean_places_law.proofs.Silent.{callers}
use Rattle.fx_c_mean_places_law.proofs.Kept.{Owned, OwnedAt, Elsewhere, Kept, After, stepped, begins}
use Rattle.fx_c_mean_places_law.proofs.Apart.{Room, Clear, in_one, stands_high}
use Rattle.fx_c_mean_places_law.proofs.Pairs.{Each, each_at, InOrder, ordered_at, Good, good_in, ordered_in, roomy}
use Rattle.fx_c_mean_places_law.proofs.Static.{count_globals, literal_count, global_size, literal_size, global_within, literal_there, globals_stand, literals_stand, static_count, global_object, literal_object}

-- ---- runs

module _ (p : Program) (r : Rights) where
  after_answers : (answers : List ℕ) (o : Outcome) (y : Run) (made : List DeviceOp) → After p r o → with_answers answers o ≡ Goes made y → Kept p r y.state
  after_answers answers (Goes m s) y made h e =
      let same : record { state = s; answers = answers } ≡ y = cc in
      subst (λ (x : Run). Kept p r x.state) same h
  after_answers answers (Stops m f) y made h e = cc

  advanced : (b : Bool) (s : State) (answers : List ℕ) (y : Run) (made : List DeviceOp) → Kept p r s → advance p r b s answers ≡ Goes made y → Kept p r y.state
  advanced false s answers y made v e = after_answers answers (step p r 0 s) y made (stepped p r s 0 v) e
  advanced true s [] y made v e =
      let same : record { state = s; answers = [] } ≡ y = cc in
      subst (λ (x : Run). Kept p r x.state) same v
  advanced true s (answer ∷ answers) y made v e = after_answers answers (step p r answer s) y made (stepped p r s answer v) e

  runs : (n : ℕ) (x : Run) → Kept p r x.state → Kept p r (run_after p r n x).state
  runs zero x v = v
  runs (suc n) x v = next (run_step p r x) (λ y made e. runs n y (advanced (asks x.state) x.state x.answers y made v e))
    where
      next : (o : Next DeviceOp Run End) → ((y : Run) (made : List DeviceOp) → o ≡ Goes made y → Kept p r (run_after p r n y).state) → Kept p r (later o x (λ y. run_after p r n y)).state
      next (Goes made y) h = h y made refl
      next (Stops made f) h = v

  pub kept_at : (answers : List ℕ) (n : ℕ) → Kept p r (state_at p r answers n)
  kept_at answers n = runs n (started p answers) (begins p r)

-- ---- who has an object, and where it stands

module _ (p : Program) (r : Rights) (k : Config) where
  -- an object is one of these calls'
  abbrev Among : ℕ → List Standing → Type 0
  Among i [] = ⊥
  Among i (x ∷ xs) = (owns p x.call i ≡ true) ⊎ Among i xs

  here_or : (b : Bool) (a : ℕ) (rest : Option ℕ) → (b ≡ true) ⊎ ((c : ℕ) × (rest ≡ Some c)) → (c : ℕ) × ((if b then Some a else rest) ≡ Some c)
  here_or true a rest h = (a, refl)
  here_or false a rest (inl e) = cc
  here_or false a rest (inr h) = h

  stands : (i : ℕ) (xs : List Standing) → Among i xs → (a : ℕ) × (address_among p r k xs i ≡ Some a)
  stands i [] h = absurd h
  stands i (x ∷ xs) (inl e) = here_or (owns p x.call i) (variable_address p r k x (i - x.call.base)) (address_among p r k xs i) (inl e)
  stands i (x ∷ xs) (inr h) = here_or (owns p x.call i) (variable_address p r k x (i - x.call.base)) (address_among p r k xs i) (inr (stands i xs h))

  among_first : (i : ℕ) (xs ys : List Standing) → Among i xs → Among i (xs ++ ys)
  among_first i [] ys h = absurd h
  among_first i (x ∷ xs) ys (inl e) = inl e
  among_first i (x ∷ xs) ys (inr h) = inr (among_first i xs ys h)

  among_second : (i : ℕ) (xs ys : List Standing) → Among i ys → Among i (xs ++ ys)
  among_second i [] ys h = h
  among_second i (x ∷ xs) ys h = inr (among_second i xs ys h)

  among_callers : (i t : ℕ) (rest : List Frame) → Owned p r i (callers rest) → Among i (callers_in p r t rest)
  among_callers i t [] h = absurd h
  among_callers i t (Caller call crosses ∷ rest) (inl e) = inl e
  among_callers i t (Caller call crosses ∷ rest) (inr h) = inr (among_callers i t rest h)
  among_callers i t (Arguments f First before more ∷ rest) h = among_callers i t rest h
  among_callers i t (Arguments f Plainly before more ∷ rest) h = among_callers i t rest h
  among_callers i t (Arguments f ByGate before more ∷ rest) h = among_callers i t rest h
  among_callers i t (_ ∷ rest) h = among_callers i t rest h

  among_calls : (i t : ℕ) (call : Call) (rest : List Frame) → Owned p r i (Caller call false ∷ callers rest) → Among i (standing p r t call rest ∷ callers_in p r t rest)
  among_calls i t call rest (inl e) = inl e
  among_calls i t call rest (inr h) = inr (among_callers i t rest h)

  among_spot : (i t : ℕ) (call : Call) (spot : Spot) → IsGoing spot → OwnedAt p r i call spot → Among i (calls_at p r t call spot)
  among_spot i t call (Does Stuck rest) goes h = absurd goes
  among_spot i t call (Does (Enter f First values) rest) goes h = absurd h
  among_spot i t call (Does (Enter f Plainly values) rest) goes h = among_calls i t call rest h
  among_spot i t call (Does (Enter f ByGate values) rest) goes h = among_calls i t call rest h
  among_spot i t call (Does act rest) goes h = among_calls i t call rest h

  among_threads : (i n t : ℕ) (ts : List Thread) (spot : Spot) (call : Call) → slice_get ts t ≡ Some (Waiting spot call) → IsGoing spot → OwnedAt p r i call spot → Among i (calls_from p r n ts)
  among_threads i n t [] spot call e goes h = cc
  among_threads i n zero (x ∷ ts) spot call e goes h =
      let same : x ≡ Waiting spot call = cc in
      among_first i (calls_of p r n x) (calls_from p r (n + 1) ts) (subst (λ y. Among i (calls_of p r n y)) (sym same) (among_spot i n call spot goes h))
  among_threads i n (suc t) (x ∷ ts) spot call e goes h = among_second i (calls_of p r n x) (calls_from p r (n + 1) ts) (among_threads i (n + 1) t ts spot call e goes h)

  pub somewhere : (s : State) → Kept p r s → AllGoOn s → (i : ℕ) (o : Object) → length (first_memory p) ≤ i → slice_get s.memory i ≡ Some o → o.live ≡ true → (a : ℕ) × (address_among p r k (calls_in p r s) i ≡ Some a)
  somewhere s v go i o le e live = stands i (calls_in p r s) (elim (v.owned i o le e live) [
    | inl h ↦ among_first i (calls_at p r s.current s.call s.spot) (calls_from p r 0 s.threads) (among_spot i s.current s.call s.spot go.here h)
    | inr h ↦ among_second i (calls_at p r s.current s.call s.spot) (calls_from p r 0 s.threads) (among_threads i 0 h.0 s.threads h.1 h.2 h.3 (go.there h.0 h.1 h.2 h.3) h.4)
  ])

  -- the call that has an object that stands somewhere
  pub record Found (xs : List Standing) (n a : ℕ) : Type 0 where
    pub place : ℕ
    pub call : Standing
    pub among : slice_get xs place ≡ Some call
    pub own : owns p call.call n ≡ true
    pub there : a ≡ variable_address p r k call (n - call.call.base)

  found_in : (x : Standing) (xs : List Standing) (n a : ℕ) → (address_among p r k xs n ≡ Some a → Found xs n a) → (b : Bool) → owns p x.call n ≡ b
      → (if b then Some (variable_address p r k x (n - x.call.base)) else address_among p r k xs n) ≡ Some a → Found (x ∷ xs) n a
  found_in x xs n a more true is f = record { place = 0; call = x; among = refl; own = is; there = cc }
  found_in x xs n a more false is f =
      let known = more f in
      record { place = suc known.place; call = known.call; among = known.among; own = known.own; there = known.there }

  pub found : (xs : List Standing) (n a : ℕ) → address_among p r k xs n ≡ Some a → Found xs n a
  found [] n a e = cc
  found (x ∷ xs) n a e = found_in x xs n a (λ f. found xs n a f) (owns p x.call n) refl e

-- ---- objects of a program

module _ (p : TProgram) (g : Grants) (k : Config) (at : Placement) (is : IsPlacedAt p g k at) (r : Rights) where
  abbrev P : Program
  P = program_of p

  abbrev G : ℕ
  G = length p.globals

  abbrev L : ℕ
  L = length p.literals

  count : length P.globals ≡ G
  count = length-map p.globals global_of

  -- which kind of object it is
  data Kind (s : State) (n a : ℕ) : Type 0 where
    Global : n < G → slice_get at.globals n ≡ Some a → Kind s n a
    Literal : (i : ℕ) → n ≡ G + i → i < L → slice_get at.literals i ≡ Some a → Kind s n a
    Local : G + L ≤ n → address_among P r k (calls_in P r s) n ≡ Some a → Kind s n a

  by_kind : (s : State) (n : ℕ) (b c : Bool) → nat_lt n (length P.globals) ≡ b → nat_lt n (length P.globals + length P.literals) ≡ c → (a : ℕ)
      → (if b then slice_get at.globals n else if c then slice_get at.literals (n - length P.globals) else address_among P r k (calls_in P r s) n) ≡ Some a → Kind s n a
  by_kind s n true c e f a h = Global (omega (arith, ltb-true n (length P.globals) e, count)) h
  by_kind s n false true e f a h =
      let low = ltb-false n (length P.globals) e in
      let high = ltb-true n (length P.globals + length P.literals) f in
      Literal (n - length P.globals) (omega (arith, count)) (omega (arith, count)) h
  by_kind s n false false e f a h = Local (omega (arith, ltb-false n (length P.globals + length P.literals) f, count)) h

  kind : (s : State) (n a : ℕ) → address_of P r k at s n ≡ Some a → Kind s n a
  kind s n a h = by_kind s n (nat_lt n (length P.globals)) (nat_lt n (length P.globals + length P.literals)) refl refl a h

  one_size : (m : List Object) (n : ℕ) (o u : Object) (z : ℕ) → slice_get m n ≡ Some o → slice_get m n ≡ Some u → u.size ≡ z → o.size ≡ z
  one_size m n o u z e f h =
      let same : Some o ≡ Some u = sym e ∙ f in
      let one : o ≡ u = cc in
      ap (λ (x : Object). x.size) one ∙ h

  size_global : (s : State) → Kept P r s → (n : ℕ) (o : Object) → n < G → slice_get s.memory n ≡ Some o → o.size ≡ global_size p g k at is n
  size_global s v n o less e =
      let (u, f, z) = global_object p g k at is n less in
      let (w, h, y) = v.first n u f in
      one_size s.memory n o w (global_size p g k at is n) e h (y ∙ z)

  size_literal : (s : State) → Kept P r s → (n i : ℕ) (o : Object) → n ≡ G + i → i < L → slice_get s.memory n ≡ Some o → o.size ≡ literal_size p g k at is i
  size_literal s v n i o at_i less e =
      let (u, f, z) = literal_object p g k at is i less in
      let (w, h, y) = v.first (G + i) u f in
      one_size s.memory (G + i) o w (literal_size p g k at is i) (ap (slice_get s.memory) (sym at_i) ∙ e) h (y ∙ z)

  size_local : (s : State) → Kept P r s → (n a : ℕ) (o : Object) (f : Found P r k (calls_in P r s) n a) → slice_get s.memory n ≡ Some o
      → (n - f.call.call.base < length (function_at P f.call.call.function).variables) × (f.call.call.base ≤ n) × (o.size ≡ size_in P (slice_index_or (function_at P f.call.call.function).variables (n - f.call.call.base) no_variable).ty)
  size_local s v n a o f e =
      let c = f.call.call in
      let parts = and_parts (nat_le c.base n) (nat_lt n (c.base + length (function_at P c.function).variables)) f.own in
      let low = leb-true c.base n parts.0 in
      let high = ltb-true n (c.base + length (function_at P c.function).variables) parts.1 in
      let within : n - c.base < length (function_at P c.function).variables = omega arith in
      let good = each_at (Good P r s.memory) (calls_in P r s) f.place f.call (good_in P r s v) f.among in
      let (u, h, z) = good.1 (n - c.base) within in
      let split : c.base + (n - c.base) ≡ n = omega arith in
      (within, low, one_size s.memory n o u _ e (ap (slice_get s.memory) (sym split) ∙ h) z)

  pub all_stand : (s : State) → Kept P r s → AllGoOn s → (i : ℕ) (o : Object) → slice_get s.memory i ≡ Some o → o.live ≡ true → (a : ℕ) × (address_of P r k at s i ≡ Some a)
  all_stand s v go i o e live = by_tests (nat_lt i (length P.globals)) (nat_lt i (length P.globals + length P.literals)) refl refl
    where
      by_tests : (b c : Bool) → nat_lt i (length P.globals) ≡ b → nat_lt i (length P.globals + length P.literals) ≡ c
          → (a : ℕ) × ((if b then slice_get at.globals i else if c then slice_get at.literals (i - length P.globals) else address_among P r k (calls_in P r s) i) ≡ Some a)
      by_tests true c f h = (get_or at.globals i 0, slice_get-get_or at.globals i 0 (omega (arith, ltb-true i (length P.globals) f, count, count_globals p g k at is)))
      by_tests false true f h =
          let low = ltb-false i (length P.globals) f in
          let high = ltb-true i (length P.globals + length P.literals) h in
          (get_or at.literals (i - length P.globals) 0, slice_get-get_or at.literals (i - length P.globals) 0 (omega (arith, literal_count p g k at is)))
      by_tests false false f h = somewhere P r k s v go i o (omega (arith, ltb-false i (length P.globals + length P.literals) h, count, static_count p g k at is)) e live

  module _ (own : AreOf P k r) where
    turned : (a m b n : ℕ) → AreApart a m b n → AreApart b n a m
    turned a m b n (inl e) = inr e
    turned a m b n (inr e) = inl e

    is_high : (s : State) → Kept P r s → (n a : ℕ) (o : Object) → slice_get s.memory n ≡ Some o → address_among P r k (calls_in P r s) n ≡ Some a → 0x2000_0000 ≤ a
    is_high s v n a o e h =
        let f = found P r k (calls_in P r s) n a h in
        let (within, low, size) = size_local s v n a o f e in
        let good = each_at (Good P r s.memory) (calls_in P r s) f.place f.call (good_in P r s v) f.among in
        omega (arith, stands_high p k r own f.call (n - f.call.call.base) within (roomy p k r own s.memory f.call good), f.there)

    locals : (s : State) → Kept P r s → (i j : ℕ) → i ≢ j → (o u : Object) (a b : ℕ) → slice_get s.memory i ≡ Some o → slice_get s.memory j ≡ Some u
        → address_among P r k (calls_in P r s) i ≡ Some a → address_among P r k (calls_in P r s) j ≡ Some b → AreApart a o.size b u.size
    locals s v i j other o u a b e f h q =
        let xs = calls_in P r s in
        let x = found P r k xs i a h in
        let y = found P r k xs j b q in
        let (x_in, x_low, x_size) = size_local s v i a o x e in
        let (y_in, y_low, y_size) = size_local s v j b u y f in
        let x_room = roomy p k r own s.memory x.call (each_at (Good P r s.memory) xs x.place x.call (good_in P r s v) x.among) in
        let apart : AreApart (variable_address P r k x.call (i - x.call.call.base)) (size_in P (slice_index_or (function_at P x.call.call.function).variables (i - x.call.call.base) no_variable).ty) (variable_address P r k y.call (j - y.call.call.base)) (size_in P (slice_index_or (function_at P y.call.call.function).variables (j - y.call.call.base) no_variable).ty) =
        elim (cases_order x.place y.place) [
          | inl same ↦
              let both : Some x.call ≡ Some y.call = sym x.among ∙ ap (slice_get xs) same ∙ y.among in
              let one : x.call ≡ y.call = cc in
              in_same x.call y.call one x_room (λ bases. omega (arith, other)) x_in y_in
          | inr order ↦ elim order [
            | inl less ↦ ordered_at (Clear p k r own) xs x.place y.place x.call y.call (ordered_in p k r own s v) less x.among y.among (i - x.call.call.base) (j - y.call.call.base) x_in y_in
            | inr less ↦ turned _ _ _ _ (ordered_at (Clear p k r own) xs y.place x.place y.call x.call (ordered_in p k r own s v) less y.among x.among (j - y.call.call.base) (i - x.call.call.base) y_in x_in)
          ]
        ] in
        with_sizes _ _ _ _ a o.size b u.size x.there x_size y.there y_size apart
      where
        with_sizes : (a m b n c x d y : ℕ) → c ≡ a → x ≡ m → d ≡ b → y ≡ n → AreApart a m b n → AreApart c x d y
        with_sizes a m b n c x d y e f h q (inl le) = inl (omega arith)
        with_sizes a m b n c x d y e f h q (inr le) = inr (omega arith)

        in_same : (x y : Standing) → x ≡ y → Room p k r own x → (x.call.base ≡ y.call.base → i - x.call.base ≢ j - y.call.base) → i - x.call.base < length (function_at P x.call.function).variables → j - y.call.base < length (function_at P y.call.function).variables
            → AreApart (variable_address P r k x (i - x.call.base)) (size_in P (slice_index_or (function_at P x.call.function).variables (i - x.call.base) no_variable).ty) (variable_address P r k y (j - y.call.base)) (size_in P (slice_index_or (function_at P y.call.function).variables (j - y.call.base) no_variable).ty)
        in_same x y e room differ l h =
            let at_one : (z : Standing) → x ≡ z → (x.call.base ≡ z.call.base → i - x.call.base ≢ j - z.call.base) → j - z.call.base < length (function_at P z.call.function).variables
            → AreApart (variable_address P r k x (i - x.call.base)) (size_in P (slice_index_or (function_at P x.call.function).variables (i - x.call.base) no_variable).ty) (variable_address P r k z (j - z.call.base)) (size_in P (slice_index_or (function_at P z.call.function).variables (j - z.call.base) no_variable).ty)
            = λ z same. subst (λ w. (x.call.base ≡ w.call.base → i - x.call.base ≢ j - w.call.base) → j - w.call.base < length (function_at P w.call.function).variables
            → AreApart (variable_address P r k x (i - x.call.base)) (size_in P (slice_index_or (function_at P x.call.function).variables (i - x.call.base) no_variable).ty) (variable_address P r k w (j - w.call.base)) (size_in P (slice_index_or (function_at P w.call.function).variables (j - w.call.base) no_variable).ty)) same
            (λ d q. in_one p k r own x room (i - x.call.base) (j - x.call.base) (d refl) l q) in
            at_one y e differ h

    by_kinds : (s : State) → Kept P r s → (i j : ℕ) → i ≢ j → (o u : Object) (a b : ℕ) → slice_get s.memory i ≡ Some o → slice_get s.memory j ≡ Some u → Kind s i a → Kind s j b → AreApart a o.size b u.size
    by_kinds s v i j other o u a b e f (Global l h) (Global m q) =
        with_sizes _ _ _ _ (size_global s v i o l e) (size_global s v j u m f) (globals_stand p g k at is i j a b other h q)
      where
        with_sizes : (x m y n : ℕ) → x ≡ m → y ≡ n → AreApart a m b n → AreApart a x b y
        with_sizes x m y n e f (inl le) = inl (omega arith)
        with_sizes x m y n e f (inr le) = inr (omega arith)
    by_kinds s v i j other o u a b e f (Global l h) (Literal n c m q) =
        inr (omega (arith, (global_within p g k at is i a h).0, (literal_there p g k at is n b q).1, size_literal s v j n u c m f))
    by_kinds s v i j other o u a b e f (Global l h) (Local m q) =
        inl (omega (arith, (global_within p g k at is i a h).1, size_global s v i o l e, is_high s v j b u f q))
    by_kinds s v i j other o u a b e f (Literal n c l h) (Global m q) =
        inl (omega (arith, (global_within p g k at is j b q).0, (literal_there p g k at is n a h).1, size_literal s v i n o c l e))
    by_kinds s v i j other o u a b e f (Literal n c l h) (Literal w d m q) =
        with_sizes _ _ _ _ (size_literal s v i n o c l e) (size_literal s v j w u d m f) (literals_stand p g k at is n w a b (λ same. other (omega arith)) h q)
      where
        with_sizes : (x m y n : ℕ) → x ≡ m → y ≡ n → AreApart a m b n → AreApart a x b y
        with_sizes x m y n e f (inl le) = inl (omega arith)
        with_sizes x m y n e f (inr le) = inr (omega arith)
    by_kinds s v i j other o u a b e f (Literal n c l h) (Local m q) =
        inl (omega (arith, (literal_there p g k at is n a h).1, size_literal s v i n o c l e, is_high s v j b u f q))
    by_kinds s v i j other o u a b e f (Local l h) (Global m q) =
        inr (omega (arith, (global_within p g k at is j b q).1, size_global s v j u m f, is_high s v i a o e h))
    by_kinds s v i j other o u a b e f (Local l h) (Literal n c m q) =
        inr (omega (arith, (literal_there p g k at is n b q).1, size_literal s v j n u c m f, is_high s v i a o e h))
    by_kinds s v i j other o u a b e f (Local l h) (Local m q) = locals s v i j other o u a b e f h q

    pub all_apart : (s : State) → Kept P r s → (i j : ℕ) → i ≢ j → (o u : Object) (a b : ℕ) → slice_get s.memory i ≡ Some o → slice_get s.memory j ≡ Some u
        → address_of P r k at s i ≡ Some a → address_of P r k at s j ≡ Some b → AreApart a o.size b u.size
    all_apart s v i j other o u a b e f h q = by_kinds s v i j other o u a b e f (kind s i a h) (kind s j b q)

    pub one_byte : (s : State) → Kept P r s → (i j m n : ℕ) (o u : Object) (a b : ℕ) → slice_get s.memory i ≡ Some o → slice_get s.memory j ≡ Some u
        → address_of P r k at s i ≡ Some a → address_of P r k at s j ≡ Some b → m < o.size → n < u.size → a + m ≡ b + n → (i ≡ j) × (m ≡ n)
    one_byte s v i j m n o u a b e f h q l w same =
        elim (cases_eq i j) [
          | inl one ↦
              let both : Some a ≡ Some b = sym h ∙ ap (address_of P r k at s) one ∙ q in
              let here : a ≡ b = cc in
              (one, omega arith)
          | inr other ↦ elim (all_apart s v i j other o u a b e f h q) [
            | inl le ↦ absurd (omega arith)
            | inr le ↦ absurd (omega arith)
          ]
        ]
