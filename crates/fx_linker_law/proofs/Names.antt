-- The names of an image's objects differ.
use Rattle.std.proofs.Common.{◌≡◌, ◌≤◌, ℕ, ◌+◌, Bool, true, false, not, ◌&&◌, nat_eq, List, [], ◌∷◌, ◌++◌, length, map, All, refl, sym, ap, subst, arith}
use Rattle.std.specs.Prelude.{codes}
use Rattle.std.specs.List.{list_any}
use Rattle.std.specs.Str.{bytes_eq}
use Rattle.std.proofs.lemmas.Bool.{and_from, and_parts, and_left, or_from, or_parts, not-true, not_from_false, eqb-true, eq-eqb, false≢true}
use Rattle.std.proofs.lemmas.List.Elements.{All-head, All-tail}
use Rattle.fx_config.specs.declared.configuration.Compartment.{Compartment}
use Rattle.fx_config.specs.Names as config
use Rattle.fx_c_ast.specs.declared.checked.TGlobal.{TGlobal}
use Rattle.fx_image.specs.declared.forms.Obj.{Obj}
use Rattle.fx_image.specs.Rules.{is_c_name, is_distinct_by}
use Rattle.fx_linker_law.proofs.Tally.{one, tally, tables_named, globals_named}

-- ---- equal bytes

same_bytes : (a b : List ℕ) → bytes_eq a b ≡ true → a ≡ b
same_bytes [] [] h = refl
same_bytes [] (b ∷ bs) h = absurd (false≢true h)
same_bytes (a ∷ rest) [] h = absurd (false≢true h)
same_bytes (a ∷ rest) (b ∷ bs) h =
    let parts = and_parts (nat_eq a b) (bytes_eq rest bs) h in
    let first : a ≡ b = eqb-true a b parts.0 in
    let others : rest ≡ bs = same_bytes rest bs parts.1 in
    cc

own_bytes : (a : List ℕ) → bytes_eq a a ≡ true
own_bytes [] = refl
own_bytes (a ∷ rest) = and_from (nat_eq a a) (bytes_eq rest rest) (eq-eqb a a refl) (own_bytes rest)

-- ---- objects of which each name is one's

none_is : (b : Bool) → one b ≡ 0 → b ≡ false
none_is true h = absurd (omega (arith, h))
none_is false h = refl

abbrev pub same_names : Obj → Obj → Bool
same_names a b = bytes_eq a.name b.name

none_named : (n : List ℕ) (os : List Obj) → tally (bytes_eq n) os ≡ 0 → list_any (λ (o : Obj). bytes_eq n o.name) os ≡ false
none_named n [] h = refl
none_named n (o ∷ os) h =
    or_from (bytes_eq n o.name) (list_any (λ (x : Obj). bytes_eq n x.name) os)
    (none_is (bytes_eq n o.name) (omega (arith, h))) (none_named n os (omega (arith, h)))

pub distinct_objects : (os : List Obj) → ((n : List ℕ) → tally (bytes_eq n) os ≤ 1) → is_distinct_by same_names os ≡ true
distinct_objects [] few = refl
distinct_objects (o ∷ os) few =
    let own : one (bytes_eq o.name o.name) ≡ 1 = ap one (own_bytes o.name) in
    let none : tally (bytes_eq o.name) os ≡ 0 = omega (arith, few o.name, own) in
    and_from (not (list_any (same_names o) os)) (is_distinct_by same_names os)
    (not_from_false (list_any (same_names o) os) (none_named o.name os none))
    (distinct_objects os (λ n. omega (arith, few n)))

-- ---- globals

no_global : (n : List ℕ) (gs : List TGlobal) → list_any (λ (g : TGlobal). bytes_eq n g.name) gs ≡ false → globals_named (bytes_eq n) gs ≡ 0
no_global n [] h = refl
no_global n (g ∷ gs) h =
    let parts = or_parts (bytes_eq n g.name) (list_any (λ (x : TGlobal). bytes_eq n x.name) gs) h in
    let here : one (bytes_eq n g.name) ≡ 0 = ap one parts.0 in
    omega (arith, here, no_global n gs parts.1)

abbrev same_globals : TGlobal → TGlobal → Bool
same_globals a b = bytes_eq a.name b.name

one_global : (n : List ℕ) (gs : List TGlobal) → is_distinct_by same_globals gs ≡ true → globals_named (bytes_eq n) gs ≤ 1
one_global n [] h = omega arith
one_global n (g ∷ gs) h =
    let parts = and_parts (not (list_any (same_globals g) gs)) (is_distinct_by same_globals gs) h in
    by (bytes_eq n g.name) refl (not-true (list_any (same_globals g) gs) parts.0) (one_global n gs parts.1)
  where
    by : (b : Bool) → bytes_eq n g.name ≡ b → list_any (same_globals g) gs ≡ false → globals_named (bytes_eq n) gs ≤ 1
        → one (bytes_eq n g.name) + globals_named (bytes_eq n) gs ≤ 1
    by true e differ few =
        let none = no_global g.name gs differ in
        let here : one (bytes_eq n g.name) ≡ 1 = ap one e in
        let moved : globals_named (bytes_eq n) gs ≡ globals_named (bytes_eq g.name) gs = ap (λ m. globals_named (bytes_eq m) gs) (same_bytes n g.name e) in
        omega (arith, here, none, moved)
    by false e differ few =
        let here : one (bytes_eq n g.name) ≡ 0 = ap one e in
        omega (arith, here, few)

-- ---- tables

abbrev table_name : Compartment → List ℕ
table_name c = codes ".rt." ++ c.name

abbrev names_of : List Compartment → List (List ℕ)
names_of cs = map (λ (c : Compartment). c.name) cs

no_table : (name : List ℕ) (cs : List Compartment) → list_any (bytes_eq name) (names_of cs) ≡ false → tables_named (bytes_eq (codes ".rt." ++ name)) cs ≡ 0
no_table name [] h = refl
no_table name (c ∷ cs) h =
    let parts = or_parts (bytes_eq name c.name) (list_any (bytes_eq name) (names_of cs)) h in
    let here : one (bytes_eq (codes ".rt." ++ name) (table_name c)) ≡ 0 = ap one parts.0 in
    omega (arith, here, no_table name cs parts.1)

one_table : (n : List ℕ) (cs : List Compartment) → config.all_differ bytes_eq (names_of cs) ≡ true → tables_named (bytes_eq n) cs ≤ 1
one_table n [] h = omega arith
one_table n (c ∷ cs) h =
    let parts = and_parts (not (list_any (bytes_eq c.name) (names_of cs))) (config.all_differ bytes_eq (names_of cs)) h in
    by (bytes_eq n (table_name c)) refl (not-true (list_any (bytes_eq c.name) (names_of cs)) parts.0) (one_table n cs parts.1)
  where
    by : (b : Bool) → bytes_eq n (table_name c) ≡ b → list_any (bytes_eq c.name) (names_of cs) ≡ false → tables_named (bytes_eq n) cs ≤ 1
        → one (bytes_eq n (table_name c)) + tables_named (bytes_eq n) cs ≤ 1
    by true e differ few =
        let none = no_table c.name cs differ in
        let here : one (bytes_eq n (table_name c)) ≡ 1 = ap one e in
        let moved : tables_named (bytes_eq n) cs ≡ tables_named (bytes_eq (table_name c)) cs = ap (λ m. tables_named (bytes_eq m) cs) (same_bytes n (table_name c) e) in
        omega (arith, here, none, moved)
    by false e differ few =
        let here : one (bytes_eq n (table_name c)) ≡ 0 = ap one e in
        omega (arith, here, few)

-- ---- a table's name begins with a dot, and a global's does not

undotted_tables : (a : ℕ) (rest : List ℕ) (cs : List Compartment) → nat_eq a 46 ≡ false → tables_named (bytes_eq (a ∷ rest)) cs ≡ 0
undotted_tables a rest [] h = refl
undotted_tables a rest (c ∷ cs) h =
    let other : bytes_eq (a ∷ rest) (table_name c) ≡ false = and_left (nat_eq a 46) _ h in
    let here : one (bytes_eq (a ∷ rest) (table_name c)) ≡ 0 = ap one other in
    omega (arith, here, undotted_tables a rest cs h)

unnamed_tables : (cs : List Compartment) → tables_named (bytes_eq []) cs ≡ 0
unnamed_tables [] = refl
unnamed_tables (c ∷ cs) = omega (arith, unnamed_tables cs)

no_dot : (rest name : List ℕ) → is_c_name name ≡ true → bytes_eq (46 ∷ rest) name ≡ false
no_dot rest [] h = refl
no_dot rest (d ∷ ds) h = by (nat_eq 46 d) refl
  where
    by : (b : Bool) → nat_eq 46 d ≡ b → (nat_eq 46 d && bytes_eq rest ds) ≡ false
    by true e =
        let dotted : is_c_name (46 ∷ ds) ≡ true = subst (λ (x : ℕ). is_c_name (x ∷ ds) ≡ true) (sym (eqb-true 46 d e)) h in
        absurd (false≢true dotted)
    by false e = and_left (nat_eq 46 d) (bytes_eq rest ds) e

abbrev named : TGlobal → Type 0
named g = is_c_name g.name ≡ true

dotted_globals : (rest : List ℕ) (gs : List TGlobal) → All named gs → globals_named (bytes_eq (46 ∷ rest)) gs ≡ 0
dotted_globals rest [] all = refl
dotted_globals rest (g ∷ gs) all =
    let here : one (bytes_eq (46 ∷ rest) g.name) ≡ 0 = ap one (no_dot rest g.name (All-head named g gs all)) in
    omega (arith, here, dotted_globals rest gs (All-tail named g gs all))

-- one table or global has a name
pub one_named : (n : List ℕ) (cs : List Compartment) (gs : List TGlobal) → config.all_differ bytes_eq (names_of cs) ≡ true → is_distinct_by same_globals gs ≡ true → All named gs
    → tables_named (bytes_eq n) cs + globals_named (bytes_eq n) gs ≤ 1
one_named [] cs gs tables globals all = omega (arith, unnamed_tables cs, one_global [] gs globals)
one_named (a ∷ rest) cs gs tables globals all = by (nat_eq a 46) refl
  where
    by : (b : Bool) → nat_eq a 46 ≡ b → tables_named (bytes_eq (a ∷ rest)) cs + globals_named (bytes_eq (a ∷ rest)) gs ≤ 1
    by true e =
        let moved : globals_named (bytes_eq (a ∷ rest)) gs ≡ globals_named (bytes_eq (46 ∷ rest)) gs = ap (λ x. globals_named (bytes_eq (x ∷ rest)) gs) (eqb-true a 46 e) in
        omega (arith, one_table (a ∷ rest) cs tables, moved, dotted_globals rest gs all)
    by false e = omega (arith, undotted_tables a rest cs e, one_global (a ∷ rest) gs globals)

-- ---- all of them

abbrev pub any : List ℕ → Bool
any n = true

pub tally_all : (os : List Obj) → tally any os ≡ length os
tally_all [] = refl
tally_all (o ∷ os) = omega (arith, tally_all os)

pub tables_all : (cs : List Compartment) → tables_named any cs ≡ length cs
tables_all [] = refl
tables_all (c ∷ cs) = omega (arith, tables_all cs)

pub globals_all : (gs : List TGlobal) → globals_named any gs ≡ length gs
globals_all [] = refl
globals_all (g ∷ gs) = omega (arith, globals_all gs)
