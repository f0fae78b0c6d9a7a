-- The same facts, of a checked program itself.
use Rattle.std.proofs.Common.{◌≡◌, ℕ, zero, suc, get_or, ◌&&◌, ◌+◌, ◌*◌, ◌^◌, ◌<◌, ◌≤◌, Bool, true, false, ◌==◌, if◌then◌else◌, List, [], ◌∷◌, length, length-take, take, map, refl, ap, ◌∙◌, arith, subst}
use Rattle.std.specs.Prelude.{All, sum}
use Rattle.std.specs.Int.{w64, to_le_bytes}
use Rattle.std.proofs.Math.Nat.{min-le_left}
use Rattle.std.proofs.lemmas.Bool.{leb-true}
use Rattle.std.proofs.lemmas.List.Sums.{sum_by-cons}
use Rattle.std.proofs.lemmas.List.Elements.{All-nil, All-cons, All-head, All-tail, All-weaker}
use Rattle.fx_config.specs.declared.configuration.Config.{Config}
use Rattle.fx_c_ast.specs.declared.layout.Layout.{Layout}
use Rattle.fx_c_ast.specs.declared.operator.IntType.TheVariants.{Char}
use Rattle.fx_c_ast.specs.declared.parsed.Init.{Init}
use Rattle.fx_c_ast.specs.declared.parsed.Init.TheVariants.{Zero, Number, Text}
use Rattle.fx_c_ast.specs.declared.checked.TStruct.{TStruct}
use Rattle.fx_c_ast.specs.declared.checked.TGlobal.{TGlobal}
use Rattle.fx_c_ast.specs.declared.checked.TLocal.{TLocal}
use Rattle.fx_c_ast.specs.declared.checked.TFunction.{TFunction}
use Rattle.fx_c_ast.specs.declared.checked.TProgram.{TProgram}
use Rattle.fx_c_ast.specs.CheckedTrees.{TyTree, VoidTy, IntTy, ArrayTy, ty_tree, tstmt_trees, member_types, local_types, struct_types}
use Rattle.fx_c_ast.specs.Layout.{type_layout, known_layouts, IsSized, StructsAreSized}
use Rattle.fx_c_ast.specs.StackUse.{need_stmts, slot_size, slots_size, frame_bytes}
use Rattle.fx_c_ast.proofs.Layouts.{size_small, types_length}
use Rattle.fx_c_types_rules.specs.Structs as plain
use Rattle.fx_c_types_rules.specs.Locals.{LocalTree, local_trees, types_of_locals}
use Rattle.fx_c_types_heads.specs.Sizes.{known}
use Rattle.fx_c_types_rules.specs.Types.{category}
use Rattle.fx_c_types_heads.specs.Heads.{GlobalHead, FunctionHead, is_initial}
use Rattle.fx_c_types_bodies.specs.Bodies.{place_16}
use Rattle.fx_c_types_heads.specs.HeadsView.{global_tree, global_heads}
use Rattle.fx_c_types_heads.proofs.Fields.{types_are, length-struct_trees}
use Rattle.fx_grants.specs.declared.grants.Grants.{Grants}
use Rattle.fx_shadow.specs.Frames.{HasFrame, HasFrames}
use Rattle.fx_sections.specs.Initials.{before_used, used_bytes, initial_bytes}
use Rattle.fx_sections.specs.Placement.{IsPlaceable, initial_total, literal_sizes}
use Rattle.fx_c_types.specs.Programs as program
use Rattle.fx_c_types.specs.Programs.{ProgramTree, has_none, gives_status}
use Rattle.fx_c_types.specs.ProgramView.{declarations, function_tree, function_trees, program_tree}
use Rattle.fx_c_types.specs.declared.program.SourceFile.{SourceFile}
use Rattle.fx_c_types_model.specs.Jumps.{all_inside}
use Rattle.fx_c_types.specs.WellTyped.{WellTyped}
use Rattle.fx_c_types_law.proofs.Known.{Agree, Describes, type_same, sized_same, table_is, structs_sized}
use Rattle.fx_c_types_law.proofs.Ends.{Ends}
use Rattle.fx_c_types_law.proofs.Heads.{all_types, IsSizedLocal, IsSizedGlobal}
use Rattle.fx_c_types_law.proofs.Bodies.{IsText}
use Rattle.fx_c_types_law.proofs.Programs.{HasFrameIn, IsOf, IsAccepted, accepted}

types_same : (ss : List TStruct) → all_types (plain.struct_trees ss) ≡ struct_types ss
types_same [] = refl
types_same (s ∷ ss) = ap (λ ts. ts ∷ all_types (plain.struct_trees ss)) (types_are s.members) ∙ ap (λ tss. member_types s.members ∷ tss) (types_same ss)

globals_all : (P : GlobalHead → Type 0) (gs : List TGlobal) → All P (global_heads gs) → All (λ g. P (global_tree g)) gs
globals_all P [] all = All-nil (λ g. P (global_tree g))
globals_all P (g ∷ gs) all =
    All-cons (λ g. P (global_tree g)) g gs (All-head P (global_tree g) (global_heads gs) all) (globals_all P gs (All-tail P (global_tree g) (global_heads gs) all))

length-globals : (gs : List TGlobal) → length (global_heads gs) ≡ length gs
length-globals [] = refl
length-globals (g ∷ gs) = ap suc (length-globals gs)

length-functions : (fs : List TFunction) → length (function_trees fs) ≡ length fs
length-functions [] = refl
length-functions (f ∷ fs) = ap suc (length-functions fs)

functions_all : (P : program.FunctionTree → Type 0) (fs : List TFunction) → All P (function_trees fs) → All (λ f. P (function_tree f)) fs
functions_all P [] all = All-nil (λ f. P (function_tree f))
functions_all P (f ∷ fs) all =
    All-cons (λ f. P (function_tree f)) f fs (All-head P (function_tree f) (function_trees fs) all) (functions_all P fs (All-tail P (function_tree f) (function_trees fs) all))

abbrev tree_of : TLocal → LocalTree
tree_of l = record { shared = l.shared; ty = ty_tree l.ty }

locals_all : (P : LocalTree → Type 0) (ls : List TLocal) → All P (local_trees ls) → All (λ l. P (tree_of l)) ls
locals_all P [] all = All-nil (λ l. P (tree_of l))
locals_all P (l ∷ ls) all =
    All-cons (λ l. P (tree_of l)) l ls (All-head P (tree_of l) (local_trees ls) all) (locals_all P ls (All-tail P (tree_of l) (local_trees ls) all))

-- slots are as long by a table of layouts as by the structs' own
slots_same : (layouts : List Layout) (tss : List (List TyTree)) (bound : ℕ) → Agree (known layouts) (known_layouts tss) bound → (ls : List TLocal) → All (IsSizedLocal layouts bound) (local_trees ls) → slots_size (known layouts) (types_of_locals (local_trees ls)) ≡ slots_size (known_layouts tss) (local_types ls)
slots_same layouts tss bound same [] all = refl
slots_same layouts tss bound same (l ∷ ls) all =
    let sized : IsSized (known layouts) bound (ty_tree l.ty) = All-head (IsSizedLocal layouts bound) (record { shared = l.shared; ty = ty_tree l.ty }) (local_trees ls) all in
    ap (λ (x : Layout). slot_size x.size + slots_size (known layouts) (types_of_locals (local_trees ls))) (type_same (known layouts) (known_layouts tss) (known layouts) bound same (ty_tree l.ty) sized)
    ∙ ap (λ n. slot_size (type_layout (known_layouts tss) (ty_tree l.ty)).size + n) (slots_same layouts tss bound same ls (All-tail (IsSizedLocal layouts bound) (record { shared = l.shared; ty = ty_tree l.ty }) (local_trees ls) all))

pub accepted_is : (files : List SourceFile) (p : TProgram) → WellTyped files p → IsAccepted (length (declarations files)) (program_tree p)
accepted_is files p is = subst (λ r. Ends (IsAccepted (length (declarations files))) r) is (accepted (declarations files))

module _ (p : TProgram) (count : ℕ) (has : IsAccepted count (program_tree p)) where
  layouts : List Layout
  layouts = has.heads.layouts

  types : all_types has.heads.structs ≡ struct_types p.structs
  types = ap all_types has.structs ∙ types_same p.structs

  described : Describes (known has.heads.layouts) (struct_types p.structs)
  described = subst (λ tss. Describes (known has.heads.layouts) tss) types has.sound.describes

  counted : length has.heads.structs ≡ length p.structs
  counted = ap length has.structs ∙ length-struct_trees p.structs

  same : Agree (known has.heads.layouts) (known_layouts (struct_types p.structs)) (length p.structs)
  same m less = table_is (known has.heads.layouts) (struct_types p.structs) described m (rw (types_length p.structs) less)

  pub sized_structs : StructsAreSized (struct_types p.structs)
  sized_structs = structs_sized (known has.heads.layouts) (struct_types p.structs) described

  globals : All (λ (v : TGlobal). IsSizedGlobal has.heads.layouts (length p.structs) (global_tree v)) p.globals
  globals =
      globals_all (IsSizedGlobal has.heads.layouts (length p.structs)) p.globals
      (subst (λ n. All (IsSizedGlobal has.heads.layouts n) (global_heads p.globals)) counted (subst (λ gs. All (IsSizedGlobal has.heads.layouts (length has.heads.structs)) gs) has.globals has.sound.globals))

  pub initialised : All (λ (v : TGlobal). IsSized (known_layouts (struct_types p.structs)) (length p.structs) (ty_tree v.ty) × (is_initial (ty_tree v.ty) v.init ≡ true)) p.globals
  initialised =
      All-weaker (λ (v : TGlobal). IsSizedGlobal has.heads.layouts (length p.structs) (global_tree v)) (λ (v : TGlobal). IsSized (known_layouts (struct_types p.structs)) (length p.structs) (ty_tree v.ty) × (is_initial (ty_tree v.ty) v.init ≡ true))
      (λ v is. (sized_same (known has.heads.layouts) (known_layouts (struct_types p.structs)) (length p.structs) same (ty_tree v.ty) is.0, is.1)) p.globals globals

  pub sized_globals : All (λ (v : TGlobal). IsSized (known_layouts (struct_types p.structs)) (length p.structs) (ty_tree v.ty)) p.globals
  sized_globals =
      All-weaker (λ (v : TGlobal). IsSizedGlobal has.heads.layouts (length p.structs) (global_tree v)) (λ (v : TGlobal). IsSized (known_layouts (struct_types p.structs)) (length p.structs) (ty_tree v.ty))
      (λ v is. sized_same (known has.heads.layouts) (known_layouts (struct_types p.structs)) (length p.structs) same (ty_tree v.ty) is.0) p.globals globals

  frame_of : (f : TFunction) → HasFrameIn has.heads (function_tree f) → HasFrame p.structs f
  frame_of f frame =
      let sized : All (IsSizedLocal has.heads.layouts (length p.structs)) (local_trees f.locals) = subst (λ n. All (IsSizedLocal has.heads.layouts n) (local_trees f.locals)) counted frame.sized in
      let slots : slots_size (known has.heads.layouts) (types_of_locals (local_trees f.locals)) ≡ slots_size (known_layouts (struct_types p.structs)) (local_types f.locals) = slots_same has.heads.layouts (struct_types p.structs) (length p.structs) same f.locals sized in
      record {
        sized = All-weaker (λ (l : TLocal). IsSized (known has.heads.layouts) (length p.structs) (ty_tree l.ty)) (λ (l : TLocal). IsSized (known_layouts (struct_types p.structs)) (length p.structs) (ty_tree l.ty))
            (λ l small. sized_same (known has.heads.layouts) (known_layouts (struct_types p.structs)) (length p.structs) same (ty_tree l.ty) small) f.locals
            (locals_all (IsSizedLocal has.heads.layouts (length p.structs)) f.locals sized);
        small = subst (λ n. frame_bytes n (need_stmts (tstmt_trees f.body.items)) ≤ 65536) slots frame.small;
      }

  pub framed : HasFrames p
  framed = record {
    structs = sized_structs;
    functions = All-weaker (λ f. HasFrameIn has.heads (function_tree f)) (HasFrame p.structs) frame_of p.functions (functions_all (HasFrameIn has.heads) p.functions has.functions);
  }

  pub few : (length p.globals ≤ count) × (length p.functions ≤ count)
  few = (rw (length-globals p.globals) at has.few_globals, rw (length-functions p.functions) at has.few_functions)

tree_at : (fs : List TFunction) (n : ℕ) (d : TFunction) → n < length fs → get_or (function_trees fs) n (function_tree d) ≡ function_tree (get_or fs n d)
tree_at [] n d less = absurd (omega arith)
tree_at (f ∷ fs) zero d less = refl
tree_at (f ∷ fs) (suc n) d less = tree_at fs n d (omega arith)

no_params : (ls : List LocalTree) → has_none ls ≡ true → length ls ≡ 0
no_params [] h = refl
no_params (l ∷ ls) h = cc

both : (a b : Bool) → (a && b) ≡ true → (a ≡ true) × (b ≡ true)
both true b h = (refl, h)
both false b h = absurd cc

module _ (p : TProgram) (count : ℕ) (has : IsAccepted count (program_tree p)) where
  pub few_params : All (λ (f : TFunction). f.params ≤ 6) p.functions
  few_params = All-weaker (λ f. HasFrameIn has.heads (function_tree f)) (λ (f : TFunction). f.params ≤ 6) (λ f frame. frame.few) p.functions (functions_all (HasFrameIn has.heads) p.functions has.functions)

  pub jumps : All (λ (f : TFunction). all_inside false (tstmt_trees f.body.items) ≡ true) p.functions
  jumps = All-weaker (λ f. HasFrameIn has.heads (function_tree f)) (λ (f : TFunction). all_inside false (tstmt_trees f.body.items) ≡ true) (λ f frame. frame.inside) p.functions (functions_all (HasFrameIn has.heads) p.functions has.functions)

  pub main_there : p.main < length p.functions
  main_there = omega (arith, length-functions p.functions, has.same_count, has.start.0)

  pub main_starts : (d : TFunction) → ((get_or p.functions p.main d).params ≡ 0) × (gives_status (category (ty_tree (get_or p.functions p.main d).result)) ≡ true)
  main_starts d =
      let e : FunctionHead = record { library = 0; entry = false; answer = VoidTy; name = []; params = [] } in
      let f : FunctionHead = get_or has.heads.functions p.main e in
      let start = both (has_none f.params) (gives_status (category f.answer)) (has.start.1 e) in
      let same : IsOf f (function_tree (get_or p.functions p.main d)) = rw (tree_at p.functions p.main d main_there) at (has.of_heads p.main e (function_tree d) (omega (arith, length-functions p.functions, main_there))) in
      (same.0 ∙ ap place_16 (no_params f.params start.0), ap (λ (t : TyTree). gives_status (category t)) same.1 ∙ start.1)

sum_small : (ls : List (List ℕ)) → All IsText ls → sum (map (λ (l : List ℕ). length l) ls) ≤ 67108864 * length ls
sum_small [] all = omega arith
sum_small (l ∷ ls) all =
    let more : sum (map (λ (x : List ℕ). length x) (l ∷ ls)) ≡ length l + sum (map (λ (x : List ℕ). length x) ls) = sum_by-cons (λ x. x) (length l) (map (λ (x : List ℕ). length x) ls) in
    omega (arith, All-head IsText l ls all, sum_small ls (All-tail IsText l ls all))

-- ---- initial bytes

before_used-le : (b : ℕ) (bs : List ℕ) → length (before_used b bs) ≤ length bs + 1
before_used-le b [] = elim (b == 0) as (λ (t : Bool). length (if t then [] else b ∷ []) ≤ 0 + 1) [ true ↦ omega arith | false ↦ omega arith ]
before_used-le b (c ∷ cs) = omega arith

used_bytes-le : (bs : List ℕ) → length (used_bytes bs) ≤ length bs
used_bytes-le [] = omega arith
used_bytes-le (b ∷ bs) = omega (arith, before_used-le b (used_bytes bs), used_bytes-le bs)

-- an initial value is no longer than a type may be
initial-le : (f : ℕ → Layout) (bound : ℕ) (t : TyTree) (init : Init) → IsSized f bound t → is_initial t init ≡ true → length (initial_bytes (type_layout f t).size init) ≤ 67108864
initial-le f bound t Zero sized is = omega arith
initial-le f bound t (Number n) sized is =
    let size : ℕ = (type_layout f t).size in
    let cut : length (take size (to_le_bytes w64 n)) ≤ size = simp length-take (min-le_left size (length (to_le_bytes w64 n))) in
    omega (arith, used_bytes-le (take size (to_le_bytes w64 n)), size_small f bound t sized)
initial-le f bound (ArrayTy (IntTy Char) count) (Text bytes) sized is =
    let fits : length bytes + 1 ≤ count = leb-true (length bytes + 1) count is in
    let small : 1 * count ≤ 67108864 = sized.0 in
    omega (arith, used_bytes-le bytes)
initial-le f bound t (Text bytes) sized is = cc

initials-le : (tss : List (List TyTree)) (bound : ℕ) (gs : List TGlobal) → All (λ (g : TGlobal). IsSized (known_layouts tss) bound (ty_tree g.ty) × (is_initial (ty_tree g.ty) g.init ≡ true)) gs → initial_total tss gs ≤ 67108864 * length gs
initials-le tss bound [] all = omega arith
initials-le tss bound (g ∷ gs) all =
    let P : TGlobal → Type 0 = λ g. IsSized (known_layouts tss) bound (ty_tree g.ty) × (is_initial (ty_tree g.ty) g.init ≡ true) in
    let here : P g = All-head P g gs all in
    omega (arith, initial-le (known_layouts tss) bound (ty_tree g.ty) g.init here.0 here.1, initials-le tss bound gs (All-tail P g gs all))

pub placeable : (p : TProgram) (count : ℕ) (has : IsAccepted count (program_tree p)) (g : Grants) (k : Config) → length g.globals ≡ length p.globals → length k.compartments ≤ 16 → length p.globals + length p.literals < 2 ^ 31 → IsPlaceable p g k
placeable p count has g k pairs compartments objects =
    let texts : sum (literal_sizes p) ≤ 67108864 * length p.literals = sum_small p.literals has.literals in
    let initials : initial_total (struct_types p.structs) p.globals ≤ 67108864 * length p.globals = initials-le (struct_types p.structs) (length p.structs) p.globals (initialised p count has) in
    record {
      structs = sized_structs p count has;
      globals = sized_globals p count has;
      same = pairs;
      compartments = compartments;
      objects = objects;
      texts = omega arith;
    }
