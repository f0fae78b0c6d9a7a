-- A program is judged where the check accepts it, and the other way round.
use Rattle.std.proofs.Common.{◌≡◌, ℕ, zero, suc, ◌+◌, ◌<◌, ◌≤◌, Bool, true, List, [], ◌∷◌, length, slice_get, Option, Some, None, Ok, refl, ap, ◌∙◌, arith}
use Rattle.std.specs.Prelude.{codes}
use Rattle.std.proofs.lemmas.Bool.{leb-true, le-leb, and_parts, and_from}
use Rattle.std.proofs.lemmas.List.{length-append}
use Rattle.fx_c_ast.specs.ParsedTrees.{TypeTree, ParamTree, DeclTree, StructTree, GlobalTree, StmtTrees}
use Rattle.fx_c_ast.specs.ParsedTrees as parsed
use Rattle.fx_c_ast.specs.CheckedTrees.{TyTree, VoidTy, IntTy}
use Rattle.fx_c_types_heads.specs.Names.{found}
use Rattle.fx_c_types_rules.specs.Types.{category}
use Rattle.fx_c_types_rules.specs.Locals.{LocalTree, types_of_locals}
use Rattle.fx_c_types_heads.specs.Heads.{HeadsTree, FunctionHead, no_heads}
use Rattle.fx_c_types_heads.specs.Sizes.{known}
use Rattle.fx_c_ast.specs.StackUse.{frame_size}
use Rattle.fx_c_types.specs.Programs.{PlacedDecl, ProgramTree, BodiesTree, tags_of, heads_of, body_from, no_bodies, function_of, scope_of, function_body, body_of, bodies_of, gives_status, has_none, main_at, main_of, main_number, well_typed}
use Rattle.fx_c_types_rules_law.proofs.Ends.{Ends, answered, refused, bind_ends, demand_ends, map_ends, bind_ok, demand_ok}
use Rattle.fx_c_types_rules_law.proofs.StatementRules.{body_is, body_holds}
use Rattle.fx_c_types_rules_law.specs.Declarations.{DeclaresHead, struct_head, global_head, function_head}
use Rattle.fx_c_types_rules_law.specs.WholePrograms as judged
use Rattle.fx_c_types_rules_law.specs.WholePrograms.{AreHeads, no_heads_more, one_head, MeansBody, AreBodies, no_more_bodies, one_body, GivesStatus, integer_status, no_status, IsMain, main_function, MeansProgram}
use Rattle.fx_c_types_rules_law.proofs.Steps.{then_ends, at_ends, then_ok, at_ok}
use Rattle.fx_c_types_rules_law.proofs.HeadRules.{head_is, head_holds}

-- ---- heads

pub heads_are : (n : ℕ) (h : HeadsTree) (ds : List PlacedDecl) → Ends (AreHeads h ds) (heads_of n h ds)
heads_are n h [] = answered no_heads_more
heads_are n h (d ∷ ds) = then_ends _ _ (at_ends n _ (head_is h d.library d.decl)) (λ g is. map_ends _ (heads_are (n + 1) g ds) (λ k more. one_head is more))

pub heads_hold : {h g : HeadsTree} {ds : List PlacedDecl} (n : ℕ) → AreHeads h ds g → heads_of n h ds ≡ Ok g
heads_hold n no_heads_more = refl
heads_hold n (one_head {h} {g} {k} {d} {ds} is more) = then_ok _ _ _ _ (at_ok n _ _ (head_holds is)) (heads_hold (n + 1) more)

-- ---- how many functions there are

abbrev pub functions_in : DeclTree → ℕ
functions_in (StructTree name members) = 0
functions_in (GlobalTree grant readers t name init) = 0
functions_in (parsed.FunctionTree entry t name params body) = 1

abbrev pub function_count : List PlacedDecl → ℕ
function_count [] = 0
function_count (d ∷ ds) = functions_in d.decl + function_count ds

one_more : {h g : HeadsTree} {library : ℕ} {d : DeclTree} → DeclaresHead h library d g → length g.functions ≡ length h.functions + functions_in d
one_more (struct_head {h} next new is small) = omega arith
one_more (global_head {h} new is given) = omega arith
one_more (function_head {h} {library} {entry} {t} {ty} {name} {params} {ps} new distinct m result are few) =
    length-append h.functions (record { library = library; entry = entry; answer = ty; name = name; params = ps } ∷ [])

pub all_counted : {h g : HeadsTree} {ds : List PlacedDecl} → AreHeads h ds g → length g.functions ≡ length h.functions + function_count ds
all_counted no_heads_more = omega arith
all_counted (one_head {h} {g} {k} {d} {ds} is more) = omega (arith, one_more is, all_counted more)

some_at : {A : Type 0} (xs : List A) (n : ℕ) → n < length xs → (x : A) × (slice_get xs n ≡ Some x)
some_at [] n less = absurd (omega arith)
some_at (z ∷ xs) zero less = (z, refl)
some_at (z ∷ xs) (suc n) less = some_at xs n (omega arith)

-- ---- bodies

-- a body with how many functions there are behind it
abbrev Adds : HeadsTree → BodiesTree → DeclTree → BodiesTree → Type 0
Adds h b d c = MeansBody h b d c × (length c.functions ≡ length b.functions + functions_in d)

function_is : (h : HeadsTree) (b : BodiesTree) (entry : Bool) (t : TypeTree) (name : List ℕ) (params : List ParamTree) (body : StmtTrees) (f : FunctionHead) → slice_get h.functions (length b.functions) ≡ Some f → Ends (Adds h b (parsed.FunctionTree entry t name params body)) (function_body h b (Some f) params body)
function_is h b entry t name params body f is =
    bind_ends _ _ (body_is (scope_of h b f) (body_from b.literals f params) body) (λ x means. demand_ends _ _ _ (λ short.
    answered (judged.function_body is means (leb-true (frame_size (known h.layouts) (types_of_locals x.1.locals) x.0) 65536 short), length-append b.functions (function_of f x.1.locals x.0 ∷ []))))

body_of_is : (h : HeadsTree) (b : BodiesTree) (d : DeclTree) → length b.functions + functions_in d ≤ length h.functions → Ends (Adds h b d) (body_of h b d)
body_of_is h b (StructTree name members) fits = answered (judged.struct_declared, omega arith)
body_of_is h b (GlobalTree grant readers t name init) fits = answered (judged.global_declared, omega arith)
body_of_is h b (parsed.FunctionTree entry t name params body) fits =
    let f = some_at h.functions (length b.functions) (omega arith) in
    rw f.1 (function_is h b entry t name params body f.0 f.1)

pub bodies_are : (n : ℕ) (h : HeadsTree) (b : BodiesTree) (ds : List PlacedDecl) → length b.functions + function_count ds ≤ length h.functions → Ends (AreBodies h b ds) (bodies_of n h b ds)
bodies_are n h b [] fits = answered no_more_bodies
bodies_are n h b (d ∷ ds) fits =
    then_ends _ _ (at_ends n _ (body_of_is h b d.decl (omega arith))) (λ c is. map_ends _ (bodies_are (n + 1) h c ds (omega (arith, is.1))) (λ e more. one_body is.0 more))

body_of_holds : {h : HeadsTree} {b c : BodiesTree} {d : DeclTree} → MeansBody h b d c → body_of h b d ≡ Ok c
body_of_holds judged.struct_declared = refl
body_of_holds judged.global_declared = refl
body_of_holds (judged.function_body {h} {b} {entry} {t} {name} {params} {body} {f} {ts} {c} is means short) =
    ap (λ r. function_body h b r params body) is
    ∙ bind_ok _ _ _ _ (body_holds means) (demand_ok _ _ _ _ (le-leb (frame_size (known h.layouts) (types_of_locals c.locals) ts) 65536 short) refl)

pub bodies_hold : {h : HeadsTree} {b c : BodiesTree} {ds : List PlacedDecl} (n : ℕ) → AreBodies h b ds c → bodies_of n h b ds ≡ Ok c
bodies_hold n no_more_bodies = refl
bodies_hold n (one_body {h} {b} {c} {e} {d} {ds} is more) = then_ok _ _ _ _ (at_ok n _ _ (body_of_holds is)) (bodies_hold (n + 1) more)

-- ---- the function that a program begins with

status_is : (t : TyTree) → gives_status (category t) ≡ true → GivesStatus t
status_is VoidTy h = no_status
status_is (IntTy i) h = integer_status
status_is t h = absurd cc

status_holds : {t : TyTree} → GivesStatus t → gives_status (category t) ≡ true
status_holds no_status = refl
status_holds integer_status = refl

none_is : (ps : List LocalTree) → has_none ps ≡ true → ps ≡ []
none_is [] h = refl
none_is (p ∷ ps) h = absurd cc

main_at_is : (h : HeadsTree) (n : ℕ) (r : Option FunctionHead) → found (codes "main") h.function_names ≡ Some n → slice_get h.functions n ≡ r → Ends (IsMain h) (main_at r n)
main_at_is h n None is at = refused
main_at_is h n (Some f) is at = demand_ends _ _ _ (λ start.
    let both = and_parts (has_none f.params) (gives_status (category f.answer)) start in
    answered (main_function is at (none_is f.params both.0) (status_is f.answer both.1)))

main_of_is : (h : HeadsTree) (r : Option ℕ) → found (codes "main") h.function_names ≡ r → Ends (IsMain h) (main_of h r)
main_of_is h None is = refused
main_of_is h (Some n) is = main_at_is h n (slice_get h.functions n) is refl

pub main_is : (h : HeadsTree) → Ends (IsMain h) (main_number h)
main_is h = main_of_is h (found (codes "main") h.function_names) refl

pub main_holds : {h : HeadsTree} {n : ℕ} → IsMain h n → main_number h ≡ Ok n
main_holds (main_function {h} {n} {f} is at none status) =
    ap (main_of h) is ∙ ap (λ r. main_at r n) at
    ∙ demand_ok _ _ _ _ (and_from (has_none f.params) (gives_status (category f.answer)) (ap has_none none) (status_holds status)) refl

-- ---- programs

pub program_is : (ds : List PlacedDecl) → Ends (MeansProgram ds) (well_typed ds)
program_is ds =
    then_ends _ _ (heads_are 0 (no_heads (tags_of [] ds)) ds) (λ h heads.
    then_ends _ _ (bodies_are 0 h no_bodies ds (counted h heads)) (λ b bodies.
    then_ends _ _ (at_ends 0 _ (main_is h)) (λ main start. answered (judged.program heads bodies start))))
  where
    counted : (h : HeadsTree) → AreHeads (no_heads (tags_of [] ds)) ds h → 0 + function_count ds ≤ length h.functions
    counted h heads = let all : length h.functions ≡ 0 + function_count ds = all_counted heads in omega arith

pub program_holds : {ds : List PlacedDecl} {p : ProgramTree} → MeansProgram ds p → well_typed ds ≡ Ok p
program_holds (judged.program heads bodies start) =
    then_ok _ _ _ _ (heads_hold 0 heads) (then_ok _ _ _ _ (bodies_hold 0 bodies) (then_ok _ _ _ _ (at_ok 0 _ _ (main_holds start)) refl))
