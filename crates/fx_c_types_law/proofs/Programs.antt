-- What a program that keeps all rules has.
use Rattle.std.proofs.Common.{◌≡◌, ℕ, zero, suc, ◌+◌, ◌<◌, ◌≤◌, inl, inr, true, false, nat_le, List, [], ◌∷◌, ◌++◌, length, get_or, slice_get, Option, Some, None, Ok, refl, sym, ap, ◌∙◌, arith, subst}
use Rattle.std.specs.Prelude.{All, codes}
use Rattle.std.proofs.Math.Nat.{min-le_left}
use Rattle.std.proofs.lemmas.Bool.{leb-true, cases_lt}
use Rattle.std.proofs.lemmas.List.{length-append, get_or_append_left, get_or_push}
use Rattle.std.proofs.lemmas.List.Elements.{All-nil, All-head, All-tail, All-push, All-weaker}
use Rattle.fx_c_ast.specs.ParsedTrees.{ParamTree, DeclTree, StructTree, GlobalTree, FunctionTree, StmtTrees}
use Rattle.fx_c_ast.specs.CheckedTrees.{TStmtTrees, NoTStmts}
use Rattle.fx_c_ast.proofs.Layouts.{more_bound}
use Rattle.fx_c_types_rules.specs.declared.fault.TypeKind.TheVariants.{FrameTooLong, NoMain}
use Rattle.fx_c_types_rules.specs.Locals.{types_of_locals}
use Rattle.fx_c_ast.specs.StackUse.{frame_size}
use Rattle.fx_c_types_heads.specs.Names.{found}
use Rattle.fx_c_types_heads.specs.Sizes.{known}
use Rattle.fx_c_types_heads.specs.Heads.{HeadsTree, FunctionHead, no_heads, head}
use Rattle.fx_c_types_bodies.specs.Bodies.{ScopeTree, BodyTree, checked_all, place_16}
use Rattle.fx_c_types.specs.Programs as program
use Rattle.fx_c_types.specs.Programs.{PlacedDecl, ProgramTree, at_declaration, ◌>>>◌, tags_of, heads_of, body_from, BodiesTree, no_bodies, function_of, with_function, finished, scope_of, function_body, next_body, body_of, bodies_of, is_start, main_at, main_of, main_number, program_of, well_typed}
use Rattle.fx_c_types_law.proofs.Ends.{Ends, bind_ends, then_ends, demand_ends, at_ends, weaker, both_end}
use Rattle.fx_c_types_law.proofs.Heads.{IsSizedLocal, HasScalars, IsSound, none_sound, structs_in, functions_in, Follows, head_ends}
use Rattle.fx_c_types_model.specs.Jumps.{all_inside}
use Rattle.fx_c_types_law.proofs.Jumps.{all_checked_inside}
use Rattle.fx_c_types_law.proofs.Bodies.{IsText, IsFine, all_fine}

-- how many structs are declared
abbrev pub struct_count : List PlacedDecl → ℕ
struct_count [] = 0
struct_count (d ∷ ds) = structs_in d.decl + struct_count ds

-- how many functions are declared
abbrev pub function_count : List PlacedDecl → ℕ
function_count [] = 0
function_count (d ∷ ds) = functions_in d.decl + function_count ds

functions_few : (ds : List PlacedDecl) → function_count ds ≤ length ds
functions_few [] = omega arith
functions_few (d ∷ ds) =
    let one : functions_in d.decl ≤ 1 = in_one d.decl in
    omega (arith, functions_few ds)
  where
    in_one : (d : DeclTree) → functions_in d ≤ 1
    in_one (StructTree name members) = omega arith
    in_one (GlobalTree grant readers ty name init) = omega arith
    in_one (FunctionTree entry answer name params body) = omega arith

-- ---- heads

pub record HasHeads (h : HeadsTree) (ds : List PlacedDecl) (g : HeadsTree) : Type 0 where
  pub sound : IsSound g
  pub structs : length g.structs ≡ length h.structs + struct_count ds
  pub globals : length g.globals ≤ length h.globals + length ds
  pub functions : length g.functions ≡ length h.functions + function_count ds

heads_end : (n : ℕ) (h : HeadsTree) (ds : List PlacedDecl) → IsSound h → Ends (HasHeads h ds) (heads_of n h ds)
heads_end n h [] is = record { sound = is; structs = omega arith; globals = omega arith; functions = omega arith }
heads_end n h (d ∷ ds) is =
    then_ends (Follows h d.decl) (HasHeads h (d ∷ ds)) (at_declaration n (head h d.library d.decl)) (λ h. heads_of (n + 1) h ds)
    (at_ends (Follows h d.decl) n (head h d.library d.decl) (head_ends h d.library d.decl is)) (λ g follows.
    weaker (HasHeads g ds) (HasHeads h (d ∷ ds)) (heads_of (n + 1) g ds) (heads_end (n + 1) g ds follows.sound) (λ last has. record {
      sound = has.sound;
      structs = omega (arith, has.structs, follows.structs);
      globals = omega (arith, has.globals, follows.globals);
      functions = omega (arith, has.functions, follows.functions);
    }))

-- ---- bodies

pub record HasFrameIn (h : HeadsTree) (f : program.FunctionTree) : Type 0 where
  pub sized : All (IsSizedLocal h.layouts (length h.structs)) f.locals
  pub small : frame_size (known h.layouts) (types_of_locals f.locals) f.body ≤ 65536
  pub few : f.params ≤ 6
  pub inside : all_inside false f.body ≡ true

-- the function of a head
abbrev pub IsOf : FunctionHead → program.FunctionTree → Type 0
IsOf f g = (g.params ≡ place_16 (length f.params)) × (g.answer ≡ f.answer)

pub record HasBodies (h : HeadsTree) (b : BodiesTree) : Type 0 where
  pub functions : All (HasFrameIn h) b.functions
  pub literals : All IsText b.literals
  pub heads : (k : ℕ) (e : FunctionHead) (d : program.FunctionTree) → k < length b.functions → IsOf (get_or h.functions k e) (get_or b.functions k d)

-- what one more declaration leaves
record HasNext (h : HeadsTree) (b : BodiesTree) (structs functions_more : ℕ) (c : BodiesTree) : Type 0 where
  bodies : HasBodies h c
  declared : c.declared ≤ b.declared + structs
  functions : length c.functions ≡ length b.functions + functions_more

at_get : (fs : List FunctionHead) (n : ℕ) (f e : FunctionHead) → slice_get fs n ≡ Some f → get_or fs n e ≡ f
at_get [] n f e is = cc
at_get (x ∷ fs) zero f e is = cc
at_get (x ∷ fs) (suc n) f e is = at_get fs n f e is

there : (fs : List FunctionHead) (n : ℕ) → n < length fs → slice_get fs n ≡ None → ⊥
there [] n less is = absurd (omega arith)
there (x ∷ fs) zero less is = cc
there (x ∷ fs) (suc n) less is = there fs n (omega arith) is

finished_ends : (h : HeadsTree) (b : BodiesTree) (f : FunctionHead) (x : TStmtTrees × BodyTree) → HasBodies h b → HasScalars h.layouts f → slice_get h.functions (length b.functions) ≡ Some f → IsFine (scope_of h b f) x.1 → all_inside false x.0 ≡ true → Ends (HasNext h b 0 1) (finished h b f x)
finished_ends h b f x has scalars at fine inside =
    let made : program.FunctionTree = function_of f x.1.locals x.0 in
    demand_ends (HasNext h b 0 1) (nat_le (frame_size (known h.layouts) (types_of_locals x.1.locals) x.0) 65536) FrameTooLong (Ok (with_function b x.1.literals made)) (λ short.
    let few : place_16 (length f.params) ≤ length f.params = min-le_left (length f.params) 65535 in
    let frame : HasFrameIn h made = record { sized = fine.0; small = leb-true (frame_size (known h.layouts) (types_of_locals x.1.locals) x.0) 65536 short; few = omega (arith, scalars.1); inside = inside } in
    record {
      bodies = record { functions = All-push (HasFrameIn h) b.functions made has.functions frame; literals = fine.1; heads = more_heads made (refl, refl) };
      declared = omega arith;
      functions = simp length-append;
    })
  where
    more_heads : (made : program.FunctionTree) → IsOf f made → (k : ℕ) (e : FunctionHead) (d : program.FunctionTree) → k < length (b.functions ++ made ∷ []) → IsOf (get_or h.functions k e) (get_or (b.functions ++ made ∷ []) k d)
    more_heads made is k e d less = elim (cases_lt k (length b.functions)) [
      | inl before ↦ rw (get_or_append_left b.functions (made ∷ []) d k before) (has.heads k e d before)
      | inr after ↦
          let count : length (b.functions ++ made ∷ []) ≡ length b.functions + 1 = length-append b.functions (made ∷ []) in
          let last : length b.functions ≡ k = omega arith in
          rw (get_or_push b.functions made d k last, sym last, at_get h.functions (length b.functions) f e at) is
    ]

scalars_sized : (h : HeadsTree) (f : FunctionHead) → HasScalars h.layouts f → All (IsSizedLocal h.layouts (length h.structs)) f.params
scalars_sized h f are = All-weaker (IsSizedLocal h.layouts 0) (IsSizedLocal h.layouts (length h.structs)) (λ p sized. more_bound (known h.layouts) 0 (length h.structs) p.ty (omega arith) sized) f.params are.0

function_ends : (h : HeadsTree) (b : BodiesTree) (f : Option FunctionHead) (params : List ParamTree) (body : StmtTrees) → b.declared ≤ length h.structs → HasBodies h b → length b.functions < length h.functions → slice_get h.functions (length b.functions) ≡ f → ((g : FunctionHead) → f ≡ Some g → HasScalars h.layouts g) → Ends (HasNext h b 0 1) (function_body h b f params body)
function_ends h b None params body within has less at scalars = absurd (there h.functions (length b.functions) less at)
function_ends h b (Some f) params body within has less at scalars =
    let s : ScopeTree = scope_of h b f in
    let from : BodyTree = body_from b.literals f params in
    let Fine : TStmtTrees × BodyTree → Type 0 = λ x. IsFine s x.1 in
    let Inside : TStmtTrees × BodyTree → Type 0 = λ x. all_inside false x.0 ≡ true in
    bind_ends (λ (x : TStmtTrees × BodyTree). Fine x × Inside x) (HasNext h b 0 1) (checked_all s false from NoTStmts body) (λ x. finished h b f x)
    (both_end Fine Inside (checked_all s false from NoTStmts body)
    (all_fine s within false from NoTStmts body (scalars_sized h f (scalars f refl), has.literals))
    (all_checked_inside s false from NoTStmts body refl))
    (λ x both. finished_ends h b f x has (scalars f refl) at both.0 both.1)

head_there : (P : FunctionHead → Type 0) (fs : List FunctionHead) (n : ℕ) (g : FunctionHead) → All P fs → slice_get fs n ≡ Some g → P g
head_there P [] n g all is = cc
head_there P (f ∷ fs) zero g all is = let e : f ≡ g = cc in subst P e (All-head P f fs all)
head_there P (f ∷ fs) (suc n) g all is = head_there P fs n g (All-tail P f fs all) is

body_ends : (h : HeadsTree) (b : BodiesTree) (d : DeclTree) → IsSound h → b.declared ≤ length h.structs → length b.functions + functions_in d ≤ length h.functions → HasBodies h b → Ends (HasNext h b (structs_in d) (functions_in d)) (body_of h b d)
body_ends h b (StructTree name members) is within few has = record { bodies = record { functions = has.functions; literals = has.literals; heads = has.heads }; declared = min-le_left (b.declared + 1) 4294967295; functions = omega arith }
body_ends h b (GlobalTree grant readers t name init) is within few has = record { bodies = has; declared = omega arith; functions = omega arith }
body_ends h b (FunctionTree entry answer name params body) is within few has =
    function_ends h b (slice_get h.functions (length b.functions)) params body within has (omega arith) refl (λ g at. head_there (HasScalars h.layouts) h.functions (length b.functions) g is.functions at)

record HasAll (h : HeadsTree) (count : ℕ) (c : BodiesTree) : Type 0 where
  bodies : HasBodies h c
  functions : length c.functions ≡ count

bodies_end : (n : ℕ) (h : HeadsTree) (b : BodiesTree) (ds : List PlacedDecl) → IsSound h → b.declared + struct_count ds ≤ length h.structs → length b.functions + function_count ds ≤ length h.functions → HasBodies h b → Ends (HasAll h (length b.functions + function_count ds)) (bodies_of n h b ds)
bodies_end n h b [] is within few has = record { bodies = has; functions = omega arith }
bodies_end n h b (d ∷ ds) is within few has =
    then_ends (HasNext h b (structs_in d.decl) (functions_in d.decl)) (HasAll h (length b.functions + function_count (d ∷ ds))) (at_declaration n (body_of h b d.decl)) (λ b. bodies_of (n + 1) h b ds)
    (at_ends (HasNext h b (structs_in d.decl) (functions_in d.decl)) n (body_of h b d.decl) (body_ends h b d.decl is (omega arith) (omega arith) has)) (λ c next.
    weaker (HasAll h (length c.functions + function_count ds)) (HasAll h (length b.functions + function_count (d ∷ ds))) (bodies_of (n + 1) h c ds) (bodies_end (n + 1) h c ds is (omega (arith, next.declared)) (omega (arith, next.functions)) next.bodies) (λ last all. record {
      bodies = all.bodies;
      functions = omega (arith, all.functions, next.functions);
    }))

-- ---- the function that the program begins with

abbrev pub IsStart : HeadsTree → ℕ → Type 0
IsStart h n = (n < length h.functions) × ((e : FunctionHead) → is_start (get_or h.functions n e) ≡ true)

in_range : (fs : List FunctionHead) (n : ℕ) (f : FunctionHead) → slice_get fs n ≡ Some f → n < length fs
in_range [] n f is = cc
in_range (x ∷ fs) zero f is = omega arith
in_range (x ∷ fs) (suc n) f is = omega (arith, in_range fs n f is)

main_found : (h : HeadsTree) (n : ℕ) (f : Option FunctionHead) → slice_get h.functions n ≡ f → Ends (IsStart h) (main_at f n)
main_found h n None at = tt
main_found h n (Some f) at = demand_ends (IsStart h) (is_start f) NoMain (Ok n) (λ start. (in_range h.functions n f at, λ e. ap is_start (at_get h.functions n f e at) ∙ start))

main_ends : (h : HeadsTree) (n : Option ℕ) → Ends (IsStart h) (main_of h n)
main_ends h None = tt
main_ends h (Some n) = main_found h n (slice_get h.functions n) refl

-- ---- programs

pub record IsAccepted (count : ℕ) (p : ProgramTree) : Type 0 where
  pub heads : HeadsTree
  pub sound : IsSound heads
  pub structs : heads.structs ≡ p.structs
  pub globals : heads.globals ≡ p.globals
  pub functions : All (HasFrameIn heads) p.functions
  pub literals : All IsText p.literals
  pub few_globals : length p.globals ≤ count
  pub few_functions : length p.functions ≤ count
  pub same_count : length p.functions ≡ length heads.functions
  pub of_heads : (k : ℕ) (e : FunctionHead) (d : program.FunctionTree) → k < length p.functions → IsOf (get_or heads.functions k e) (get_or p.functions k d)
  pub start : IsStart heads p.main

pub accepted : (ds : List PlacedDecl) → Ends (IsAccepted (length ds)) (well_typed ds)
accepted ds =
    let none : HeadsTree = no_heads (tags_of [] ds) in
    let main : HeadsTree → BodiesTree → _ = λ h b. at_declaration 0 (main_number h) >>> (λ main. Ok (program_of h b main)) in
    then_ends (HasHeads none ds) (IsAccepted (length ds)) (heads_of 0 none ds) (λ h. bodies_of 0 h no_bodies ds >>> (λ b. main h b)) (heads_end 0 none ds (none_sound (tags_of [] ds))) (λ h has.
    then_ends (HasAll h (length no_bodies.functions + function_count ds)) (IsAccepted (length ds)) (bodies_of 0 h no_bodies ds) (λ b. main h b)
    (bodies_end 0 h no_bodies ds has.sound (omega (arith, has.structs)) (omega (arith, has.functions)) (record { functions = All-nil (HasFrameIn h); literals = All-nil IsText; heads = λ k e d less. absurd (omega arith) })) (λ b all.
    then_ends (IsStart h) (IsAccepted (length ds)) (at_declaration 0 (main_number h)) (λ main. Ok (program_of h b main)) (at_ends (IsStart h) 0 (main_number h) (main_ends h (found (codes "main") h.function_names))) (λ n start. record {
      heads = h;
      sound = has.sound;
      structs = refl;
      globals = refl;
      functions = all.bodies.functions;
      literals = all.bodies.literals;
      few_globals = omega (arith, has.globals);
      few_functions = omega (arith, all.functions, functions_few ds);
      same_count = omega (arith, all.functions, has.functions);
      of_heads = all.bodies.heads;
      start = start;
    })))
