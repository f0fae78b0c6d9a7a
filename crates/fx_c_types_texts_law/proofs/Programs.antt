-- The bodies of a program that keeps all rules are good.
use Rattle.std.proofs.Common.{◌≡◌, ℕ, zero, suc, ◌+◌, ◌≤◌, true, false, nat_le, List, [], ◌∷◌, ◌++◌, length, slice_get, Option, Some, None, Ok, arith, subst}
use Rattle.std.specs.Prelude.{All}
use Rattle.std.proofs.Math.Nat.{min-le_left}
use Rattle.std.proofs.lemmas.List.Elements.{All-nil, All-cons}
use Rattle.fx_c_ast.specs.declared.parsed.Decl.{Decl}
use Rattle.fx_c_ast.specs.declared.checked.TFunction.{TFunction}
use Rattle.fx_c_ast.specs.declared.checked.TProgram.{TProgram}
use Rattle.fx_c_ast.specs.ParsedTrees.{TypeTree, ParamTree, DeclTree, StructTree, GlobalTree, FunctionTree, StmtTrees, decl_trees}
use Rattle.fx_c_ast.specs.CheckedTrees.{TyTree, TExprTree, TStmtTrees, NoTStmts, tstmt_trees}
use Rattle.fx_c_types_rules.specs.declared.fault.TypeKind.TheVariants.{FrameTooLong}
use Rattle.fx_c_types_rules.specs.Types.{is_complete}
use Rattle.fx_c_types_rules.specs.Structs as plain
use Rattle.fx_c_types_heads.specs.Written.{ty_of}
use Rattle.fx_c_types_heads.specs.Heads.{HeadsTree, FunctionHead, no_heads, object_type}
use Rattle.fx_c_types_rules.specs.Locals.{types_of_locals}
use Rattle.fx_c_types_heads.specs.Sizes.{known}
use Rattle.fx_c_ast.specs.StackUse.{frame_size}
use Rattle.fx_c_types_bodies.specs.Bodies.{ScopeTree, BodyTree, checked_all}
use Rattle.fx_c_types.specs.declared.program.SourceFile.{SourceFile}
use Rattle.fx_c_types.specs.Programs as program
use Rattle.fx_c_types.specs.Programs.{PlacedDecl, ProgramTree, at_declaration, ◌>>>◌, tags_of, heads_of, body_from, BodiesTree, no_bodies, function_of, with_function, finished, scope_of, function_body, body_of, bodies_of, main_number, program_of, well_typed}
use Rattle.fx_c_types.specs.ProgramView.{placed_in, declarations, function_trees}
use Rattle.fx_c_types.specs.WellTyped.{WellTyped}
use Rattle.fx_c_types_law.proofs.Ends.{Ends, bind_ends, then_ends, demand_ends, at_ends}
use Rattle.fx_c_types_law.proofs.Heads.{structs_in}
use Rattle.fx_c_types_model.specs.Each.{EachInAll}
use Rattle.fx_c_types_texts_law.specs.Texts.{AreFilesOf}
use Rattle.fx_c_types_texts_law.proofs.Trees.{IsBare, IsDeclared, WrittenInAll, IsWritten, AreWritten, text_written}
use Rattle.fx_c_types_texts_law.proofs.Nodes.{Good, AreClosed, AllLocals, AllGlobals, AllStructs, AllFunctions, any}
use Rattle.fx_c_types_texts_law.proofs.Bodies.{Knows, Leaves, all_checked_good}

-- ---- declarations

-- how many structs are declared
abbrev pub struct_count : List PlacedDecl → ℕ
struct_count [] = 0
struct_count (d ∷ ds) = structs_in d.decl + struct_count ds

abbrev pub AllPlaced : List PlacedDecl → Type 0
AllPlaced [] = Unit {0}
AllPlaced (d ∷ ds) = IsWritten d.decl × AllPlaced ds

placed_written : (library : ℕ) (ds : List Decl) (rest : List PlacedDecl) → AreWritten (decl_trees ds) → AllPlaced rest → AllPlaced (placed_in library ds ++ rest)
placed_written library [] rest are more = more
placed_written library (d ∷ ds) rest are more = (are.0, placed_written library ds rest are.1 more)

pub files_written : (texts : List (List ℕ)) (files : List SourceFile) → AreFilesOf texts files → AllPlaced (declarations files)
files_written [] [] are = tt
files_written [] (f ∷ fs) are = absurd are
files_written (t ∷ ts) [] are = absurd are
files_written (t ∷ ts) (f ∷ fs) are = placed_written f.library f.unit.decls (declarations fs) (text_written t (decl_trees f.unit.decls) are.0) (files_written ts fs are.1)

-- ---- bodies

-- what a program's heads have, where it has so many structs
pub record KnowsHeads (T E : TyTree → Type 0) (bound : ℕ) (h : HeadsTree) : Type 0 where
  pub closed : AreClosed T
  pub has_size : (n : ℕ) (t : TyTree) → n ≤ bound → T t → is_complete n t ≡ true → E t
  pub bare : (t : TypeTree) → IsBare t → T (ty_of h.tags t)
  pub object : (n : ℕ) (t : TypeTree) → n ≤ bound → IsDeclared t → Ends (λ ty. (ty ≡ ty_of h.tags t) × T ty) (object_type h n t)
  pub globals : AllGlobals T h.globals
  pub structs : AllStructs T h.structs
  pub functions : AllFunctions T h.functions

abbrev pub AllBodies : (TExprTree → Type 0) → List program.FunctionTree → Type 0
AllBodies P [] = Unit {0}
AllBodies P (f ∷ fs) = EachInAll P f.body × AllBodies P fs

bodies_push : (P : TExprTree → Type 0) (fs : List program.FunctionTree) (f : program.FunctionTree) → AllBodies P fs → EachInAll P f.body → AllBodies P (fs ++ f ∷ [])
bodies_push P [] f all is = (is, tt)
bodies_push P (x ∷ fs) f all is = (all.0, bodies_push P fs f all.1 is)

abbrev FitsHead : (TyTree → Type 0) → Option FunctionHead → Type 0
FitsHead T None = Unit {0}
FitsHead T (Some f) = T f.answer × AllLocals T f.params

head_at : (T : TyTree → Type 0) (fs : List FunctionHead) (n : ℕ) → AllFunctions T fs → FitsHead T (slice_get fs n)
head_at T [] n all = tt
head_at T (f ∷ fs) zero all = all.0
head_at T (f ∷ fs) (suc n) all = head_at T fs n all.1

module _ (T E : TyTree → Type 0) (bound : ℕ) (h : HeadsTree) (knows : KnowsHeads T E bound h) where
  -- good bodies, and at most so many structs more
  abbrev Next : BodiesTree → ℕ → BodiesTree → Type 0
  Next b structs c = AllBodies (Good T E) c.functions × (c.declared ≤ b.declared + structs)

  in_scope : (b : BodiesTree) (f : FunctionHead) → b.declared ≤ bound → T f.answer → Knows T E (scope_of h b f)
  in_scope b f within answer = record {
    closed = knows.closed;
    has_size = λ t is whole. knows.has_size b.declared t within is whole;
    bare = knows.bare;
    object = λ t is. knows.object b.declared t within is;
    globals = knows.globals;
    structs = knows.structs;
    functions = knows.functions;
    answer = answer;
  }

  function_good : (b : BodiesTree) (r : Option FunctionHead) (params : List ParamTree) (body : StmtTrees) → b.declared ≤ bound → FitsHead T r → WrittenInAll body → AllBodies (Good T E) b.functions → Ends (Next b 0) (function_body h b r params body)
  function_good b None params body within fits w all = (all, omega arith)
  function_good b (Some f) params body within fits w all =
      let s : ScopeTree = scope_of h b f in
      let from : BodyTree = body_from b.literals f params in
      bind_ends (Leaves T (EachInAll (Good T E))) (Next b 0) (checked_all s false from NoTStmts body) (λ x. finished h b f x)
      (all_checked_good T E s (in_scope b f within fits.0) false from NoTStmts body fits.1 w tt) (λ x k.
      let made : program.FunctionTree = function_of f x.1.locals x.0 in
      demand_ends (Next b 0) (nat_le (frame_size (known h.layouts) (types_of_locals x.1.locals) x.0) 65536) FrameTooLong (Ok (with_function b x.1.literals made)) (λ _.
      (bodies_push (Good T E) b.functions made all k.1, omega arith)))

  body_good : (b : BodiesTree) (d : DeclTree) → b.declared + structs_in d ≤ bound → IsWritten d → AllBodies (Good T E) b.functions → Ends (Next b (structs_in d)) (body_of h b d)
  body_good b (StructTree name members) within w all = (all, min-le_left (b.declared + 1) 4294967295)
  body_good b (GlobalTree grant readers ty name init) within w all = (all, omega arith)
  body_good b (FunctionTree entry answer name params body) within w all =
      function_good b (slice_get h.functions (length b.functions)) params body (omega (arith, within)) (head_at T h.functions (length b.functions) knows.functions) w.2 all

  bodies_good : (n : ℕ) (b : BodiesTree) (ds : List PlacedDecl) → b.declared + struct_count ds ≤ bound → AllPlaced ds → AllBodies (Good T E) b.functions → Ends (λ (c : BodiesTree). AllBodies (Good T E) c.functions) (bodies_of n h b ds)
  bodies_good n b [] within w all = all
  bodies_good n b (d ∷ ds) within w all =
      then_ends (Next b (structs_in d.decl)) (λ (c : BodiesTree). AllBodies (Good T E) c.functions) (at_declaration n (body_of h b d.decl)) (λ b. bodies_of (n + 1) h b ds)
      (at_ends (Next b (structs_in d.decl)) n (body_of h b d.decl) (body_good b d.decl (omega (arith, within)) w.0 all)) (λ c next.
      bodies_good (n + 1) c ds (omega (arith, next.1, within)) w.1 next.0)

-- ---- programs

-- by a property of types that may look into the program's structs
pub program_good : (T E : List plain.StructTree → TyTree → Type 0) (ds : List PlacedDecl) → AllPlaced ds
    → Ends (λ (h : HeadsTree). KnowsHeads (T h.structs) (E h.structs) (struct_count ds) h) (heads_of 0 (no_heads (tags_of [] ds)) ds)
    → Ends (λ (p : ProgramTree). AllBodies (Good (T p.structs) (E p.structs)) p.functions) (well_typed ds)
program_good T E ds w heads =
    let Q : ProgramTree → Type 0 = λ p. AllBodies (Good (T p.structs) (E p.structs)) p.functions in
    let H : HeadsTree → Type 0 = λ h. KnowsHeads (T h.structs) (E h.structs) (struct_count ds) h in
    then_ends H Q (heads_of 0 (no_heads (tags_of [] ds)) ds) (λ h. bodies_of 0 h no_bodies ds >>> (λ b. at_declaration 0 (main_number h) >>> (λ main. Ok (program_of h b main)))) heads (λ h knows.
    then_ends (λ (b : BodiesTree). AllBodies (Good (T h.structs) (E h.structs)) b.functions) Q (bodies_of 0 h no_bodies ds) (λ b. at_declaration 0 (main_number h) >>> (λ main. Ok (program_of h b main)))
    (bodies_good (T h.structs) (E h.structs) (struct_count ds) h knows 0 no_bodies ds (omega arith) w tt) (λ b all.
    then_ends (λ (n : ℕ). Unit {0}) Q (at_declaration 0 (main_number h)) (λ main. Ok (program_of h b main)) (any (at_declaration 0 (main_number h))) (λ n _. all)))

all_functions : (P Q : TExprTree → Type 0) (fs : List TFunction) → ((all : TStmtTrees) → EachInAll P all → EachInAll Q all) → AllBodies P (function_trees fs) → All (λ (f : TFunction). EachInAll Q (tstmt_trees f.body.items)) fs
all_functions P Q [] each all = All-nil (λ (f : TFunction). EachInAll Q (tstmt_trees f.body.items))
all_functions P Q (f ∷ fs) each all = All-cons (λ (f : TFunction). EachInAll Q (tstmt_trees f.body.items)) f fs (each (tstmt_trees f.body.items) all.0) (all_functions P Q fs each all.1)

-- the functions of a checked program have what follows of good bodies
pub functions_good : (T E : List plain.StructTree → TyTree → Type 0) (Q : TExprTree → Type 0) (files : List SourceFile) (p : TProgram) → WellTyped files p → AllPlaced (declarations files)
    → Ends (λ (h : HeadsTree). KnowsHeads (T h.structs) (E h.structs) (struct_count (declarations files)) h) (heads_of 0 (no_heads (tags_of [] (declarations files))) (declarations files))
    → ((all : TStmtTrees) → EachInAll (Good (T (plain.struct_trees p.structs)) (E (plain.struct_trees p.structs))) all → EachInAll Q all)
    → All (λ (f : TFunction). EachInAll Q (tstmt_trees f.body.items)) p.functions
functions_good T E Q files p is w heads each =
    let R : ProgramTree → Type 0 = λ q. AllBodies (Good (T q.structs) (E q.structs)) q.functions in
    all_functions (Good (T (plain.struct_trees p.structs)) (E (plain.struct_trees p.structs))) Q p.functions each
    (subst (λ r. Ends R r) is (program_good T E (declarations files) w heads))
