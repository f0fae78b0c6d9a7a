-- The bodies of a program that keeps all rules.
use Rattle.std.proofs.Common.{◌≡◌, ℕ, zero, suc, ◌+◌, ◌*◌, ◌<◌, ◌≤◌, ◌^◌, false, nat_le, List, [], ◌∷◌, length, take, slice_get, slice_index_or, Option, Some, None, Result, Ok, Err, refl, sym, ap, ◌∙◌, arith, subst}
use Rattle.std.proofs.Math.Nat.{min-le_left}
use Rattle.std.proofs.lemmas.Bool.{leb-true}
use Rattle.std.proofs.lemmas.List.{length-append}
use Rattle.std.proofs.lemmas.List.Elements.{All-head, All-tail}
use Rattle.std.specs.Prelude.{All}
use Rattle.fx_c_ast.specs.declared.layout.Layout.{Layout}
use Rattle.fx_c_ast.specs.ParsedTrees.{TypeTree, ParamTree, DeclTree, StructTree, GlobalTree, FunctionTree, StmtTrees}
use Rattle.fx_c_ast.specs.CheckedTrees.{TyTree, TStmtTrees, NoTStmts}
use Rattle.fx_c_ast.specs.Layout.{known_layouts, IsSized}
use Rattle.fx_c_ast.proofs.Layouts.{more_bound}
use Rattle.fx_c_types_heads.specs.Names.{found}
use Rattle.fx_c_types_rules.specs.declared.fault.TypeKind.TheVariants.{FrameTooLong}
use Rattle.fx_c_types_rules.specs.Checks.{Checked}
use Rattle.fx_c_types_rules.specs.Locals.{LocalTree, types_of_locals}
use Rattle.fx_c_types_heads.specs.Written.{ty_of}
use Rattle.fx_c_types_heads.specs.Sizes.{known}
use Rattle.fx_c_types_heads.specs.Heads.{HeadsTree, FunctionHead, no_heads, head, object_type}
use Rattle.fx_c_ast.specs.StackUse.{slots_size, frame_size}
use Rattle.fx_c_types_bodies.specs.Bodies.{ScopeTree, BodyTree, checked_all, place_16}
use Rattle.fx_c_types.specs.declared.fault.TypeError.{TypeError}
use Rattle.fx_c_types.specs.Programs as program
use Rattle.fx_c_types.specs.Programs.{PlacedDecl, ProgramTree, at_declaration, ◌>>>◌, with_name, name_unless, tags_of, heads_of, param_block, body_from, BodiesTree, no_bodies, function_of, with_function, finished, scope_of, function_body, next_body, body_of, bodies_of, main_number, program_of, well_typed}
use Rattle.fx_c_types_law.proofs.Ends.{Ends, bind_ends, then_ends, demand_ends, at_ends, weaker, both_end}
use Rattle.fx_c_types_law.proofs.Known.{sized_same, table_is}
use Rattle.fx_c_types_law.proofs.Heads.{all_types, length-all_types, IsSound, none_sound, HasScalars, structs_in, functions_in, Follows, head_ends, object_ends}
use Rattle.fx_c_types_law.proofs.Programs.{struct_count, function_count}
use Rattle.fx_c_types_model.specs.Tables.{IsNamed}
use Rattle.fx_c_types_model.specs.Trees.{AreRight}
use Rattle.fx_c_types_trees_law.proofs.Lists.{Before, there, some_at, AreBelow, below_more}
use Rattle.fx_c_types_trees_law.proofs.Scope.{tables_in, AreNamed, below_lead, IsTied, Within}
use Rattle.fx_c_types_trees_law.proofs.Bodies.{Grows, all_checked_good}
use Rattle.fx_c_types_trees_law.proofs.Tied.{index_push, each_push, EachAt, IsTiedTo, IsMade, IsNext, head_tied, name_numbers, tags_numbers}

-- ---- heads

-- the functions that declarations make, from a place in the table of functions on
abbrev pub AreMade : List PlacedDecl → ℕ → List FunctionHead → Type 0
AreMade [] k fs = Unit {0}
AreMade (d ∷ ds) k fs = IsMade d.decl k fs × AreMade ds (k + functions_in d.decl) fs

made_later : (d : DeclTree) (k : ℕ) (fs gs : List FunctionHead) → Before fs gs → IsMade d k fs → IsMade d k gs
made_later (StructTree name members) k fs gs before made = tt
made_later (GlobalTree grant readers ty name init) k fs gs before made = tt
made_later (FunctionTree entry answer name params body) k fs gs before made = (made.0, before k made.0 made.1, made.2)

record HasTied (bound : ℕ) (h : HeadsTree) (ds : List PlacedDecl) (g : HeadsTree) : Type 0 where
  sound : IsSound g
  tied : IsTiedTo bound g
  structs : length g.structs ≡ length h.structs + struct_count ds
  functions : length g.functions ≡ length h.functions + function_count ds
  before : Before h.functions g.functions
  made : AreMade ds (length h.functions) g.functions

heads_tied : (bound n : ℕ) (h : HeadsTree) (ds : List PlacedDecl) → IsSound h → IsTiedTo bound h → Ends (HasTied bound h ds) (heads_of n h ds)
heads_tied bound n h [] sound tied = record { sound = sound; tied = tied; structs = omega arith; functions = omega arith; before = λ k x at. at; made = tt }
heads_tied bound n h (d ∷ ds) sound tied =
    let Both : HeadsTree → Type 0 = λ g. Follows h d.decl g × IsNext bound h d.decl g in
    let first : _ = head h d.library d.decl in
    then_ends Both (HasTied bound h (d ∷ ds)) (at_declaration n first) (λ h. heads_of (n + 1) h ds)
    (at_ends Both n first (both_end (Follows h d.decl) (IsNext bound h d.decl) first (head_ends h d.library d.decl sound) (head_tied bound h d.library d.decl tied))) (λ g step.
    weaker (HasTied bound g ds) (HasTied bound h (d ∷ ds)) (heads_of (n + 1) g ds) (heads_tied bound (n + 1) g ds step.0.sound step.1.0) (λ last has. record {
      sound = has.sound;
      tied = has.tied;
      structs = omega (arith, has.structs, step.0.structs);
      functions = omega (arith, has.functions, step.0.functions);
      before = λ k x at. has.before k x (step.1.1 k x at);
      made = (made_later d.decl (length h.functions) g.functions last.functions has.before step.1.2, subst (λ k. AreMade ds k last.functions) step.0.functions has.made);
    }))

-- ---- one body

block_names : (names : List (List ℕ × ℕ)) (ps : List ParamTree) (count : ℕ) → AreBelow (length names) names → length names + length ps ≤ count → AreBelow count (param_block names ps)
block_names names [] count is le = below_more (length names) count (omega arith) names is
block_names names (p ∷ ps) count is le =
    let next = name_numbers names p.name (found p.name names) is in
    block_names (with_name names p.name) ps count next.0 (omega (arith, next.1, le))

-- the head that others see of a checked function
abbrev pub tree_head : program.FunctionTree → FunctionHead
tree_head f = record { library = f.library; entry = f.entry; answer = f.answer; name = f.name; params = take f.params f.locals }

take_before : {A : Type 0} (xs ys : List A) → Before xs ys → take (length xs) ys ≡ xs
take_before [] ys before = refl
take_before (x ∷ xs) [] before = let gone : slice_get [] zero ≡ Some x = before zero x refl in cc
take_before (x ∷ xs) (y ∷ ys) before =
    let first : y ≡ x = (let at : Some y ≡ Some x = before zero x refl in cc) in
    ap (λ z. z ∷ take (length xs) ys) first ∙ ap (λ zs. x ∷ zs) (take_before xs ys (λ n z at. before (suc n) z at))

many_slots : (layouts : List Layout) (ls : List LocalTree) → 16 * length ls ≤ slots_size (known layouts) (types_of_locals ls)
many_slots layouts [] = omega arith
many_slots layouts (l ∷ ls) = omega (arith, many_slots layouts ls)

-- a function whose body is right wherever the strings so far stand
pub record IsRightFunction (h : HeadsTree) (texts : List (List ℕ)) (f : program.FunctionTree) : Type 0 where
  pub named : AreNamed (length (all_types h.structs)) f.locals
  pub params : f.params ≤ length f.locals
  pub right : (literals : List (List ℕ)) → Before texts literals → length literals ≤ 2 ^ 32 → ((k : ℕ) → length (slice_index_or (all_types h.structs) k []) ≤ 2 ^ 32) → AreRight (tables_in h f.library f.answer literals f.locals) f.body

pub record AreRightBodies (h : HeadsTree) (b : BodiesTree) : Type 0 where
  pub functions : EachAt (IsRightFunction h b.literals) b.functions
  pub heads : (k : ℕ) (f : program.FunctionTree) → slice_get b.functions k ≡ Some f → slice_get h.functions k ≡ Some (tree_head f)

-- what one more declaration leaves
record HasNext (h : HeadsTree) (b : BodiesTree) (structs functions_more : ℕ) (c : BodiesTree) : Type 0 where
  bodies : AreRightBodies h c
  declared : c.declared ≤ b.declared + structs
  functions : length c.functions ≡ length b.functions + functions_more

later_texts : (h : HeadsTree) (old new : List (List ℕ)) (f : program.FunctionTree) → Before old new → IsRightFunction h old f → IsRightFunction h new f
later_texts h old new f before is = record { named = is.named; params = is.params; right = λ literals all few members. is.right literals (λ n x at. all n x (before n x at)) few members }

for_all : {A B : Type 0} (P : B → A → Type 0) (r : Checked A) → ((y : B) → Ends (P y) r) → Ends (λ x. (y : B) → P y x) r
for_all P (Ok x) h = h
for_all P (Err e) h = tt

module _ (h : HeadsTree) (sound : IsSound h) (tied : IsTied h) where
  abbrev bound : ℕ
  bound = length (all_types h.structs)

  sizes : (declared : ℕ) → declared ≤ length (all_types h.structs) → (t : TypeTree) → Ends (λ ty. IsSized (known_layouts (all_types h.structs)) (length (all_types h.structs)) ty) (object_type h declared t)
  sizes declared le t =
      let types : List (List TyTree) = all_types h.structs in
      weaker (λ ty. (ty ≡ ty_of h.tags t) × IsSized (known h.layouts) declared (ty_of h.tags t)) (λ ty. IsSized (known_layouts types) (length types) ty) (object_type h declared t) (object_ends h declared t) (λ ty is.
      let here : IsSized (known h.layouts) declared ty = subst (IsSized (known h.layouts) declared) (sym is.0) is.1 in
      sized_same (known h.layouts) (known_layouts types) (length types) (table_is (known h.layouts) types sound.describes) ty (more_bound (known h.layouts) declared (length types) ty le here))

  -- what is there after a body, by any tables that have it
  abbrev IsGood : FunctionHead → BodyTree → (TStmtTrees × BodyTree) → Type 0
  IsGood f b x = (y : List (List ℕ) × List LocalTree) → Grows bound b x.1 × (Within h y.0 y.1 x.1 → AreRight (tables_in h f.library f.answer y.0 y.1) x.0)

  finished_right : (b : BodiesTree) (f : FunctionHead) (params : List ParamTree) (x : TStmtTrees × BodyTree) → AreRightBodies h b → slice_get h.functions (length b.functions) ≡ Some f → AreNamed bound f.params → length f.params ≤ 6 → IsGood f (body_from b.literals f params) x → Ends (HasNext h b 0 1) (finished h b f x)
  finished_right b f params x has at named six good =
      let made : program.FunctionTree = function_of f x.1.locals x.0 in
      let grows : Grows bound (body_from b.literals f params) x.1 = (good ([], [])).0 in
      demand_ends (HasNext h b 0 1) (nat_le (frame_size (known h.layouts) (types_of_locals x.1.locals) x.0) 65536) FrameTooLong (Ok (with_function b x.1.literals made)) (λ short.
      let size : frame_size (known h.layouts) (types_of_locals x.1.locals) x.0 ≤ 65536 = leb-true (frame_size (known h.layouts) (types_of_locals x.1.locals) x.0) 65536 short in
      let slots : 16 * length x.1.locals ≤ slots_size (known h.layouts) (types_of_locals x.1.locals) = many_slots h.layouts x.1.locals in
      let few : length x.1.locals ≤ 65536 = omega arith in
      let place : place_16 (length f.params) ≡ length f.params = omega arith in
      let same : tree_head made ≡ f =
      ap (λ n. record { library = f.library; entry = f.entry; answer = f.answer; name = f.name; params = take n x.1.locals }) place
      ∙ ap (λ ps. record { library = f.library; entry = f.entry; answer = f.answer; name = f.name; params = ps }) (take_before f.params x.1.locals grows.slots) in
      let here : IsRightFunction h x.1.literals made = record {
        named = grows.named named;
        params = omega (arith, place, grows.more);
        right = λ literals before texts members. (good (literals, x.1.locals)).1 (record { texts = before; slots = λ n y is. is; named = grows.named named; strings = texts; frame = few; few = members });
      } in
      record {
        bodies = record {
          functions = each_push (IsRightFunction h x.1.literals) b.functions made (λ n y is. later_texts h b.literals x.1.literals y grows.texts (has.functions n y is)) here;
          heads = index_push (λ k y. slice_get h.functions k ≡ Some (tree_head y)) b.functions made has.heads (at ∙ ap (λ y. Some y) (sym same));
        };
        declared = omega arith;
        functions = length-append b.functions (made ∷ []);
      })

  function_right : (b : BodiesTree) (r : Option FunctionHead) (params : List ParamTree) (body : StmtTrees) → b.declared ≤ bound → AreRightBodies h b → ((f : FunctionHead) → slice_get h.functions (length b.functions) ≡ Some f → HasScalars h.layouts f × (length f.params ≡ length params)) → length b.functions < length h.functions → slice_get h.functions (length b.functions) ≡ r → Ends (HasNext h b 0 1) (function_body h b r params body)
  function_right b None params body within has scalars less at =
      let x = some_at h.functions (length b.functions) less in
      let gone : Some x.0 ≡ None = sym x.1 ∙ at in
      absurd cc
  function_right b (Some f) params body within has scalars less at =
      let s : ScopeTree = scope_of h b f in
      let from : BodyTree = body_from b.literals f params in
      let is = scalars f at in
      let reach : AreBelow (length f.params) (param_block [] params) = block_names [] params (length f.params) tt (omega (arith, is.1)) in
      bind_ends (IsGood f from) (HasNext h b 0 1) (checked_all s false from NoTStmts body) (λ x. finished h b f x)
      (for_all (λ (y : List (List ℕ) × List LocalTree) (x : TStmtTrees × BodyTree). Grows bound from x.1 × (Within h y.0 y.1 x.1 → AreRight (tables_in h f.library f.answer y.0 y.1) x.0)) (checked_all s false from NoTStmts body) (λ y.
      all_checked_good s tied within (sizes b.declared within) y.0 y.1 (tied.answers (length b.functions) f at).0 false from NoTStmts body (reach, tt) (λ w. tt)))
      (λ x good. finished_right b f params x has at (tied.params (length b.functions) f at) is.0.1 good)

  function_at : (fs : List FunctionHead) (n : ℕ) (f : FunctionHead) → All (HasScalars h.layouts) fs → slice_get fs n ≡ Some f → HasScalars h.layouts f
  function_at [] n f all is = cc
  function_at (x ∷ fs) zero f all is = let e : x ≡ f = cc in subst (HasScalars h.layouts) e (All-head (HasScalars h.layouts) x fs all)
  function_at (x ∷ fs) (suc n) f all is = function_at fs n f (All-tail (HasScalars h.layouts) x fs all) is

  body_right : (b : BodiesTree) (d : DeclTree) → b.declared ≤ bound → AreRightBodies h b → IsMade d (length b.functions) h.functions → Ends (HasNext h b (structs_in d) (functions_in d)) (body_of h b d)
  body_right b (StructTree name members) within has made = record { bodies = record { functions = has.functions; heads = has.heads }; declared = min-le_left (b.declared + 1) 4294967295; functions = omega arith }
  body_right b (GlobalTree grant readers ty name init) within has made = record { bodies = has; declared = omega arith; functions = omega arith }
  body_right b (FunctionTree entry answer name params body) within has made =
      function_right b (slice_get h.functions (length b.functions)) params body within has
      (λ f at. (function_at h.functions (length b.functions) f sound.functions at, (let same : made.0 ≡ f = (let e : Some made.0 ≡ Some f = sym made.1 ∙ at in cc) in subst (λ (f : FunctionHead). length f.params ≡ length params) same made.2)))
      (there h.functions (length b.functions) made.0 made.1) refl

  record HasAll (count : ℕ) (c : BodiesTree) : Type 0 where
    bodies : AreRightBodies h c
    functions : length c.functions ≡ count

  bodies_right : (n : ℕ) (b : BodiesTree) (ds : List PlacedDecl) → b.declared + struct_count ds ≤ bound → AreRightBodies h b → AreMade ds (length b.functions) h.functions → Ends (HasAll (length b.functions + function_count ds)) (bodies_of n h b ds)
  bodies_right n b [] within has made = record { bodies = has; functions = omega arith }
  bodies_right n b (d ∷ ds) within has made =
      then_ends (HasNext h b (structs_in d.decl) (functions_in d.decl)) (HasAll (length b.functions + function_count (d ∷ ds))) (at_declaration n (body_of h b d.decl)) (λ b. bodies_of (n + 1) h b ds)
      (at_ends (HasNext h b (structs_in d.decl) (functions_in d.decl)) n (body_of h b d.decl) (body_right b d.decl (omega arith) has made.0)) (λ c next.
      weaker (HasAll (length c.functions + function_count ds)) (HasAll (length b.functions + function_count (d ∷ ds))) (bodies_of (n + 1) h c ds)
      (bodies_right (n + 1) c ds (omega (arith, next.declared)) next.bodies (subst (λ k. AreMade ds k h.functions) (sym next.functions) made.1)) (λ last all. record {
        bodies = all.bodies;
        functions = omega (arith, all.functions, next.functions);
      }))

-- ---- programs

pub record IsRightProgram (p : ProgramTree) : Type 0 where
  pub heads : HeadsTree
  pub structs : heads.structs ≡ p.structs
  pub globals : heads.globals ≡ p.globals
  pub count : length p.functions ≡ length heads.functions
  pub tied : IsTied heads
  pub functions : EachAt (IsRightFunction heads p.literals) p.functions
  pub of_heads : (k : ℕ) (f : program.FunctionTree) → slice_get p.functions k ≡ Some f → slice_get heads.functions k ≡ Some (tree_head f)

none_tied : (bound : ℕ) (tags : List (List ℕ × ℕ)) → AreBelow bound tags → IsTiedTo bound (no_heads tags)
none_tied bound tags are = record { tags = below_lead bound tags are; names = tt; globals = λ n x at. cc; members = λ k n t at. cc; functions = λ n f at. cc }

tied_is : (bound : ℕ) (h : HeadsTree) → length (all_types h.structs) ≡ bound → IsTiedTo bound h → IsTied h
tied_is bound h same is =
    let to : (P : ℕ → Type 0) → P bound → P (length (all_types h.structs)) = λ P x. subst P (sym same) x in
    record {
      tags = λ name n at. to (λ k. n < k) (is.tags name n at);
      names = below_lead (length h.globals) h.global_names is.names;
      globals = λ n v at. to (λ k. IsNamed k v.ty) (is.globals n v at);
      members = λ j n t at. to (λ k. IsNamed k t) (is.members j n t at);
      answers = λ n f at. (to (λ k. IsNamed k f.answer) (is.functions n f at).0, (is.functions n f at).1);
      params = λ n f at. to (λ k. AreNamed k f.params) (is.functions n f at).2;
    }

pub accepted_right : (ds : List PlacedDecl) → Ends IsRightProgram (well_typed ds)
accepted_right ds =
    let tags : List (List ℕ × ℕ) = tags_of [] ds in
    let none : HeadsTree = no_heads tags in
    let bound : ℕ = struct_count ds in
    let numbers = tags_numbers [] ds tt in
    let below : AreBelow bound tags = below_more (length tags) bound (omega (arith, numbers.1)) tags numbers.0 in
    let main : HeadsTree → BodiesTree → Result ProgramTree TypeError = λ h b. at_declaration 0 (main_number h) >>> (λ main. Ok (program_of h b main)) in
    then_ends (HasTied bound none ds) IsRightProgram (heads_of 0 none ds) (λ h. bodies_of 0 h no_bodies ds >>> (λ b. main h b)) (heads_tied bound 0 none ds (none_sound tags) (none_tied bound tags below)) (λ h has.
    let same : length (all_types h.structs) ≡ bound = length-all_types h.structs ∙ has.structs ∙ omega arith in
    let tied : IsTied h = tied_is bound h same has.tied in
    then_ends (HasAll h has.sound tied (length no_bodies.functions + function_count ds)) IsRightProgram (bodies_of 0 h no_bodies ds) (λ b. main h b)
    (bodies_right h has.sound tied 0 no_bodies ds (omega (arith, same)) (record { functions = λ n f at. cc; heads = λ k f at. cc }) has.made) (λ b all.
    then_ends (λ (n : ℕ). Unit {0}) IsRightProgram (at_declaration 0 (main_number h)) (λ main. Ok (program_of h b main)) (any (at_declaration 0 (main_number h))) (λ n _. record {
      heads = h;
      structs = refl;
      globals = refl;
      count = omega (arith, all.functions, has.functions);
      tied = tied;
      functions = all.bodies.functions;
      of_heads = all.bodies.heads;
    })))
  where
    any : {A E : Type 0} (r : Result A E) → Ends (λ (x : A). Unit {0}) r
    any (Ok x) = tt
    any (Err e) = tt
