-- Parameters and locals of calls have no byte in common.
use Rattle.std.proofs.Common.{◌≡◌, ◌≢◌, ◌⊎◌, inl, inr, ℕ, zero, suc, ◌+◌, ◌-◌, ◌*◌, ◌<◌, ◌≤◌, Bool, true, false, ◌&&◌, nat_eq, nat_lt, nat_le, List, [], ◌∷◌, ◌++◌, length, map, take, get_or, slice_get, Option, Some, None, if◌then◌else◌, refl, sym, ap, subst, ◌∙◌, arith}
use Rattle.std.specs.Prelude.{slice_index_or}
use Rattle.std.proofs.lemmas.Bool.{cases_eq, cases_lt, cases_Bool, leb-true, ltb-true, and_parts}
use Rattle.fx_config.specs.declared.configuration.Config.{Config}
use Rattle.fx_c_ast.specs.declared.checked.TLocal.{TLocal}
use Rattle.fx_c_ast.specs.declared.checked.TFunction.{TFunction}
use Rattle.fx_c_ast.specs.declared.checked.TProgram.{TProgram}
use Rattle.fx_c_ast.specs.CheckedTrees.{TyTree, ty_tree, local_types, struct_types, tstmt_trees}
use Rattle.fx_c_ast.specs.Layout.{known_layouts}
use Rattle.fx_c_ast.specs.StackUse.{slots_size, fs}
use Rattle.fx_shadow.specs.Frames.{slots_of, slot_below}
use Rattle.fx_shadow.specs.Stacks.{has_halves, stack_size, stack_number, stack_low}
use Rattle.fx_shadow.proofs.Slots.{slots_apart, slot_inside, slots_size-take}
use Rattle.fx_shadow.proofs.Spans.{spans_in_bytes, one_row}
use Rattle.fx_c_mean_blocks.specs.declared.block.Object.{Object}
use Rattle.fx_c_mean_model.specs.declared.rights.Rights.{Rights}
use Rattle.fx_c_mean_model.specs.Programs.{Program, Variable, Function, variable_of, function_of, program_of, no_function, function_at, size_in}
use Rattle.fx_c_mean_model.specs.Rights.{home, is_shared, stack_of, no_variable}
use Rattle.fx_c_mean_places.specs.Places.{Standing, below_pointer, variable_address}
use Rattle.fx_c_mean_places_law.specs.Laws.{AreOf, AreApart}

-- ---- functions' variables

function_is : (structs : List (List TyTree)) (all : List TFunction) (f : ℕ) → ((g : TFunction) × (slice_index_or (map (function_of structs) all) f no_function ≡ function_of structs g)) ⊎ (slice_index_or (map (function_of structs) all) f no_function ≡ no_function)
function_is structs [] f = inr refl
function_is structs (g ∷ all) zero = inl (g, refl)
function_is structs (g ∷ all) (suc f) = function_is structs all f

count_is : (all : List TLocal) → length (map variable_of all) ≡ length all
count_is [] = refl
count_is (x ∷ all) = ap suc (count_is all)

variable_is : (all : List TLocal) (i : ℕ) (d : TLocal) → i < length all → slice_index_or (map variable_of all) i no_variable ≡ variable_of (get_or all i d)
variable_is [] i d l = absurd (omega arith)
variable_is (x ∷ all) zero d l = refl
variable_is (x ∷ all) (suc i) d l = variable_is all i d (omega arith)

types_are : (n : ℕ) (all : List TLocal) → map (λ (v : Variable). v.ty) (take n (map variable_of all)) ≡ local_types (take n all)
types_are zero all = refl
types_are (suc n) [] = refl
types_are (suc n) (x ∷ all) = ap (λ l. ty_tree x.ty ∷ l) (types_are n all)

-- what is known of the slots of a function's variables
record Slots (p : Program) (f : Function) : Type 0 where
  apart : (i j : ℕ) → i < j → j < length f.variables → below_pointer p f.variables i + size_in p (slice_index_or f.variables j no_variable).ty + 16 ≤ below_pointer p f.variables j
  inside : (i : ℕ) → i < length f.variables → size_in p (slice_index_or f.variables i no_variable).ty + 16 ≤ below_pointer p f.variables i
  within : (i : ℕ) → i < length f.variables → below_pointer p f.variables i + 16 ≤ f.frame

module _ (p : TProgram) where
  abbrev P : Program
  P = program_of p

  abbrev structs : List (List TyTree)
  structs = struct_types p.structs

  below_is : (all : List TLocal) (i : ℕ) → below_pointer P (map variable_of all) i ≡ slot_below structs all i
  below_is all i = ap (slots_size (known_layouts structs)) (types_are (i + 1) all)

  size_is : (all : List TLocal) (i : ℕ) (d : TLocal) → i < length all → size_in P (slice_index_or (map variable_of all) i no_variable).ty ≡ size_in P (ty_tree (get_or all i d).ty)
  size_is all i d l = ap (λ (v : Variable). size_in P v.ty) (variable_is all i d l)

  slots_known : (g : TFunction) (d : TLocal) → Slots P (function_of structs g)
  slots_known g d =
      let all = g.locals in
      record {
        apart = λ i j less l.
            let within : j < length all = omega (arith, count_is all) in
            omega (arith, slots_apart structs all i j less within d, below_is all i, below_is all j, size_is all j d within);
        inside = λ i l.
            let within : i < length all = omega (arith, count_is all) in
            omega (arith, slot_inside structs all i within d, below_is all i, size_is all i d within);
        within = λ i l. omega (arith, slots_size-take structs (i + 1) all, below_is all i);
      }

  no_slots : Slots P no_function
  no_slots = record { apart = λ i j less l. absurd (omega arith); inside = λ i l. absurd (omega arith); within = λ i l. absurd (omega arith) }

  slots : (f : ℕ) → Slots P (function_at P f)
  slots f = elim (function_is structs p.functions f) [
    | inl h ↦ subst (Slots P) (sym h.1) (known h.0 h.0.locals)
    | inr e ↦ subst (Slots P) (sym e) no_slots
  ]
    where
      known : (g : TFunction) (all : List TLocal) → Slots P (function_of structs g)
      known g all = slots_known g (record { shared = false; ty = g.result })

  module _ (k : Config) (r : Rights) (own : AreOf P k r) where
    abbrev frame : Standing → ℕ
    frame x = (function_at P x.call.function).frame

    abbrev vars : Standing → List Variable
    vars x = (function_at P x.call.function).variables

    abbrev size : Standing → ℕ → ℕ
    size x i = size_in P (slice_index_or (vars x) i no_variable).ty

    abbrev below : Standing → ℕ → ℕ
    below x i = below_pointer P (vars x) i

    abbrev low : Standing → ℕ
    low x = stack_low k x.thread (home P r x.call.function)

    abbrev address : Standing → ℕ → ℕ
    address x i = variable_address P r k x i

    -- its frame fits into its stack
    abbrev pub Room : Standing → Type 0
    Room x = x.in_use + frame x + 96 ≤ stack_size k

    abbrev pub Clear : Standing → Standing → Type 0
    Clear x y = (i j : ℕ) → i < length (vars x) → j < length (vars y) → AreApart (address x i) (size x i) (address y j) (size y j)

    -- a variable stands in one half of its stack
    record Lies (x : Standing) (i a : ℕ) : Type 0 where
      half : ℕ
      which : (half ≡ 0) ⊎ (half ≡ stack_size k)
      exact : a + 48 + x.in_use + below x i ≡ low x + half + stack_size k

    in_half : (x : Standing) (i : ℕ) (b : Bool) → low x + stack_size k - 48 - x.in_use - below x i + 48 + x.in_use + below x i ≡ low x + stack_size k → Lies x i (low x + stack_size k - 48 - x.in_use - below x i + (if b then stack_size k else 0))
    in_half x i true e = record { half = stack_size k; which = inr refl; exact = omega arith }
    in_half x i false e = record { half = 0; which = inl refl; exact = omega arith }

    lies : (x : Standing) (i : ℕ) → i < length (vars x) → Room x → Lies x i (address x i)
    lies x i l room = in_half x i (is_shared P x.call.function i && has_halves k.mechanism) (omega (arith, (slots x.call.function).within i l))

    -- ---- two calls on one stack

    nested : (x y : Standing) → Room x → Room y → low x ≡ low y → y.in_use + frame y ≤ x.in_use → Clear x y
    nested x y room space same deeper i j l h =
        let first = lies x i l room in
        let second = lies y j h space in
        let one = (slots x.call.function).inside i l in
        let two = (slots y.call.function).inside j h in
        let three = (slots x.call.function).within i l in
        let four = (slots y.call.function).within j h in
        let a = first.exact in
        let b = second.exact in
        elim first.which [
          | inl e ↦ elim second.which [
            | inl f ↦ inl (omega arith)
            | inr f ↦ inl (omega arith)
          ]
          | inr e ↦ elim second.which [
            | inl f ↦ inr (omega arith)
            | inr f ↦ inl (omega arith)
          ]
        ]

    swapped : (a m b n : ℕ) → AreApart a m b n → AreApart b n a m
    swapped a m b n (inl e) = inr e
    swapped a m b n (inr e) = inl e

    -- two variables of one call
    in_order : (x : Standing) → Room x → (i j : ℕ) → i < j → i < length (vars x) → j < length (vars x) → AreApart (address x i) (size x i) (address x j) (size x j)
    in_order x room i j less l h =
        let first = lies x i l room in
        let second = lies x j h room in
        let one = (slots x.call.function).inside i l in
        let two = (slots x.call.function).inside j h in
        let three = (slots x.call.function).within i l in
        let four = (slots x.call.function).within j h in
        let five = (slots x.call.function).apart i j less h in
        let a = first.exact in
        let b = second.exact in
        elim first.which [
          | inl e ↦ elim second.which [
            | inl f ↦ inr (omega arith)
            | inr f ↦ inl (omega arith)
          ]
          | inr e ↦ elim second.which [
            | inl f ↦ inr (omega arith)
            | inr f ↦ inr (omega arith)
          ]
        ]

    pub in_one : (x : Standing) → Room x → (i j : ℕ) → i ≢ j → i < length (vars x) → j < length (vars x) → AreApart (address x i) (size x i) (address x j) (size x j)
    in_one x room i j other l h =
        elim (cases_lt i j) [
          | inl less ↦ in_order x room i j less l h
          | inr le ↦
              let less : j < i = omega (arith, other) in
              swapped (address x j) (size x j) (address x i) (size x i) (in_order x room j i less h l)
        ]

    -- ---- two stacks

    elsewhere : (x y : Standing) → Room x → Room y → stack_number k x.thread (home P r x.call.function) ≢ stack_number k y.thread (home P r y.call.function) → Clear x y
    elsewhere x y room space other i j l h =
        let first = lies x i l room in
        let second = lies y j h space in
        let one = (slots x.call.function).inside i l in
        let two = (slots y.call.function).inside j h in
        let three = (slots x.call.function).within i l in
        let four = (slots y.call.function).within j h in
        let a = first.exact in
        let b = second.exact in
        let spans = spans_in_bytes (stack_number k x.thread (home P r x.call.function)) (stack_number k y.thread (home P r y.call.function)) (stack_size k) other in
        let upper : (first.half ≤ stack_size k) × (second.half ≤ stack_size k) = (at_most (first.half) first.which, at_most (second.half) second.which) in
        elim spans [
          | inl le ↦ inl (omega (arith, upper.0, upper.1))
          | inr le ↦ inr (omega (arith, upper.0, upper.1))
        ]
      where
        at_most : (n : ℕ) → (n ≡ 0) ⊎ (n ≡ stack_size k) → n ≤ stack_size k
        at_most n (inl e) = omega arith
        at_most n (inr e) = omega arith

    halved : (b : Bool) → r.own_stacks ≡ b → (f : ℕ) → stack_of P r f ≡ (if b then home P r f else 0)
    halved b e f = ap (λ c. if c then home P r f else 0) e

    numbered : (b : Bool) → has_halves k.mechanism ≡ b → (t c : ℕ) → stack_number k t c ≡ (if b then t * length k.compartments + c else t)
    numbered b e t c = ap (λ h. if h then t * length k.compartments + c else t) e

    -- threads that differ have no stack in common
    pub by_thread : (x y : Standing) → Room x → Room y → x.thread ≢ y.thread → Clear x y
    by_thread x y room space other =
        elsewhere x y room space (λ e. other (elim (cases_Bool (has_halves k.mechanism)) [
          | inl h ↦ (one_row (length k.compartments) x.thread (home P r x.call.function) y.thread (home P r y.call.function) (own.homes x.call.function) (own.homes y.call.function)
              (sym (numbered true h x.thread (home P r x.call.function)) ∙ e ∙ numbered true h y.thread (home P r y.call.function))).0
          | inr h ↦ sym (numbered false h x.thread (home P r x.call.function)) ∙ e ∙ numbered false h y.thread (home P r y.call.function)
        ]))

    -- a call of a thread and one of its callers: on another stack, or above the caller's frame
    pub by_stack : (x y : Standing) → Room x → Room y → x.thread ≡ y.thread → (stack_of P r y.call.function ≡ stack_of P r x.call.function → y.in_use + frame y ≤ x.in_use) → Clear x y
    by_stack x y room space thread deeper =
        elim (cases_Bool (has_halves k.mechanism)) [
          | inl h ↦
              let own_too : r.own_stacks ≡ true = own.stacks ∙ h in
              elim (cases_eq (home P r x.call.function) (home P r y.call.function)) [
                | inl same ↦ nested x y room space (ap (λ t. stack_low k t (home P r x.call.function)) thread ∙ ap (stack_low k y.thread) same)
                    (deeper (halved true own_too y.call.function ∙ sym same ∙ sym (halved true own_too x.call.function)))
                | inr other ↦ elsewhere x y room space (λ e. other (one_row (length k.compartments) x.thread (home P r x.call.function) y.thread (home P r y.call.function) (own.homes x.call.function) (own.homes y.call.function)
                    (sym (numbered true h x.thread (home P r x.call.function)) ∙ e ∙ numbered true h y.thread (home P r y.call.function))).1)
              ]
          | inr h ↦
              let common : r.own_stacks ≡ false = own.stacks ∙ h in
              let number = λ (z : Standing). numbered false h z.thread (home P r z.call.function) in
              let low_is : low x ≡ low y = ap (λ n. 0x2000_1000 + n * (2 * stack_size k + 0x2000)) (number x ∙ thread ∙ sym (number y)) in
              nested x y room space low_is (deeper (halved false common y.call.function ∙ sym (halved false common x.call.function)))
        ]

    -- stacks lie above all else
    pub stands_high : (x : Standing) (i : ℕ) → i < length (vars x) → Room x → 0x2000_0000 ≤ address x i
    stands_high x i l room =
        let at = lies x i l room in
        let a = at.exact in
        let inside = (slots x.call.function).within i l in
        omega arith
