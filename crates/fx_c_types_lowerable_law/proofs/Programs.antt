-- The bodies of a program that keeps all rules, by the words that its declarations are written with.
use Rattle.std.proofs.Common.{◌≡◌, ℕ, ◌+◌, ◌*◌, ◌≤◌, false, nat_le, List, [], ◌∷◌, ◌++◌, length, slice_get, Option, Some, None, Ok, refl, ap, arith, subst}
use Rattle.std.specs.Prelude.{All}
use Rattle.std.proofs.lemmas.List.Elements.{All-nil, All-cons}
use Rattle.fx_c_ast.specs.declared.parsed.Decl.{Decl}
use Rattle.fx_c_ast.specs.declared.checked.TFunction.{TFunction}
use Rattle.fx_c_ast.specs.declared.checked.TProgram.{TProgram}
use Rattle.fx_c_ast.specs.ParsedTrees.{ParamTree, DeclTree, StructTree, GlobalTree, FunctionTree, StmtTrees, decl_trees}
use Rattle.fx_c_ast.specs.CheckedTrees.{TStmtTrees, NoTStmts, tstmt_trees}
use Rattle.fx_c_ast.specs.StackUse.{frame_size}
use Rattle.fx_c_types_rules.specs.declared.fault.TypeKind.TheVariants.{FrameTooLong}
use Rattle.fx_c_types_rules.specs.Locals.{types_of_locals}
use Rattle.fx_c_types_heads.specs.Sizes.{known}
use Rattle.fx_c_types_heads.specs.Heads.{HeadsTree, FunctionHead, no_heads}
use Rattle.fx_c_types_bodies.specs.Bodies.{BodyTree, checked_all}
use Rattle.fx_c_types.specs.declared.program.SourceFile.{SourceFile}
use Rattle.fx_c_types.specs.Programs as program
use Rattle.fx_c_types.specs.Programs.{PlacedDecl, ProgramTree, at_declaration, ◌>>>◌, tags_of, heads_of, body_from, BodiesTree, no_bodies, function_of, with_function, finished, scope_of, function_body, body_of, bodies_of, main_number, program_of, well_typed}
use Rattle.fx_c_types.specs.ProgramView.{placed_in, declarations, function_trees}
use Rattle.fx_c_types.specs.WellTyped.{WellTyped}
use Rattle.fx_c_types_model.specs.Each.{EachInAll}
use Rattle.fx_c_types_model.specs.Counts.{nodes_in_all, body_nodes}
use Rattle.fx_c_types_model.specs.Values.{NumberFits, ConversionFits, AreEvaluated}
use Rattle.fx_c_types_law.proofs.Ends.{Ends, bind_ends, then_ends, demand_ends, at_ends, weaker}
use Rattle.fx_c_types_texts_law.specs.Texts.{AreFilesOf, bytes_of}
use Rattle.fx_c_types_texts_law.proofs.Nodes.{any}
use Rattle.fx_c_types_texts_law.proofs.Weaker.{each_in_all}
use Rattle.fx_c_types_lowerable_law.proofs.Sources.{ConstantInAll, ConstantBody, ConstantBodies, least_in_all, least_body, least_bodies}
use Rattle.fx_c_types_lowerable_law.proofs.Words.{text_constant, text_takes}
use Rattle.fx_c_types_lowerable_law.proofs.Made.{IsPlain}
use Rattle.fx_c_types_lowerable_law.proofs.Bodies.{AreBuilt, First, all_built}

-- ---- declarations

abbrev AllConstant : List PlacedDecl → Type 0
AllConstant [] = Unit {0}
AllConstant (d ∷ ds) = ConstantBody d.decl × AllConstant ds

abbrev least_placed : List PlacedDecl → ℕ
least_placed [] = 0
least_placed (d ∷ ds) = least_body d.decl + least_placed ds

placed_constant : (library : ℕ) (ds : List Decl) (rest : List PlacedDecl) → ConstantBodies (decl_trees ds) → AllConstant rest → AllConstant (placed_in library ds ++ rest)
placed_constant library [] rest are more = more
placed_constant library (d ∷ ds) rest are more = (are.0, placed_constant library ds rest are.1 more)

files_constant : (texts : List (List ℕ)) (files : List SourceFile) → AreFilesOf texts files → AllConstant (declarations files)
files_constant [] [] are = tt
files_constant [] (f ∷ fs) are = absurd are
files_constant (t ∷ ts) [] are = absurd are
files_constant (t ∷ ts) (f ∷ fs) are = placed_constant f.library f.unit.decls (declarations fs) (text_constant t (decl_trees f.unit.decls) are.0) (files_constant ts fs are.1)

-- the declarations of a file behind others: how many they are, and the words of their bodies
placed_counts : (library : ℕ) (ds : List Decl) (rest : List PlacedDecl) → length (placed_in library ds ++ rest) + least_placed (placed_in library ds ++ rest) ≡ (length (decl_trees ds) + least_bodies (decl_trees ds)) + (length rest + least_placed rest)
placed_counts library [] rest = omega arith
placed_counts library (d ∷ ds) rest = omega (arith, placed_counts library ds rest)

-- each takes a word, beside those of its body
files_take : (texts : List (List ℕ)) (files : List SourceFile) → AreFilesOf texts files → length (declarations files) + least_placed (declarations files) ≤ bytes_of texts
files_take [] [] are = omega arith
files_take [] (f ∷ fs) are = absurd are
files_take (t ∷ ts) [] are = absurd are
files_take (t ∷ ts) (f ∷ fs) are =
    omega (arith, placed_counts f.library f.unit.decls (declarations fs), text_takes t (decl_trees f.unit.decls) are.0, files_take ts fs are.1)

-- ---- bodies

abbrev tree_nodes : List program.FunctionTree → ℕ
tree_nodes [] = 0
tree_nodes (f ∷ fs) = nodes_in_all f.body + tree_nodes fs

-- of a function
abbrev IsFine : TStmtTrees → Type 0
IsFine body = EachInAll IsPlain body × AreEvaluated body

abbrev AllFine : List program.FunctionTree → Type 0
AllFine [] = Unit {0}
AllFine (f ∷ fs) = IsFine f.body × AllFine fs

record Gives (n : ℕ) (fs : List program.FunctionTree) : Type 0 where
  fine : AllFine fs
  count : tree_nodes fs ≤ n

push_gives : (m n : ℕ) (fs : List program.FunctionTree) (f : program.FunctionTree) → Gives m fs → AreBuilt n f.body → Gives (m + n) (fs ++ f ∷ [])
push_gives m n [] f all is = record { fine = ((is.plain, is.whole), tt); count = omega (arith, all.count, is.count) }
push_gives m n (x ∷ fs) f all is =
    let k : Gives (tree_nodes fs + n) (fs ++ f ∷ []) = push_gives (tree_nodes fs) n fs f (record { fine = all.fine.1; count = omega arith }) is in
    record { fine = (all.fine.0, k.fine); count = omega (arith, all.count, k.count) }

-- bodies of at most so many nodes
abbrev BodiesGive : ℕ → BodiesTree → Type 0
BodiesGive n b = Gives n b.functions

gives_more : (m n : ℕ) (fs : List program.FunctionTree) → m ≤ n → Gives m fs → Gives n fs
gives_more m n fs le h = record { fine = h.fine; count = omega (arith, le, h.count) }

function_gives : (h : HeadsTree) (b : BodiesTree) (n : ℕ) (r : Option FunctionHead) (params : List ParamTree) (body : StmtTrees) → ConstantInAll body → Gives n b.functions → Ends (BodiesGive (n + 3 * least_in_all body)) (function_body h b r params body)
function_gives h b n None params body w all = gives_more n (n + 3 * least_in_all body) b.functions (omega arith) all
function_gives h b n (Some f) params body w all =
    let from : BodyTree = body_from b.literals f params in
    let Q : BodiesTree → Type 0 = BodiesGive (n + 3 * least_in_all body) in
    bind_ends (First (AreBuilt (0 + 3 * least_in_all body))) Q (checked_all (scope_of h b f) false from NoTStmts body) (λ x. finished h b f x)
    (all_built (scope_of h b f) false from 0 NoTStmts body w (record { plain = tt; whole = tt; count = omega arith })) (λ x k.
    let made : program.FunctionTree = function_of f x.1.locals x.0 in
    demand_ends Q (nat_le (frame_size (known h.layouts) (types_of_locals x.1.locals) x.0) 65536) FrameTooLong (Ok (with_function b x.1.literals made)) (λ _.
    push_gives n (3 * least_in_all body) b.functions made all (record { plain = k.plain; whole = k.whole; count = omega (arith, k.count) })))

body_gives : (h : HeadsTree) (b : BodiesTree) (n : ℕ) (d : DeclTree) → ConstantBody d → Gives n b.functions → Ends (BodiesGive (n + 3 * least_body d)) (body_of h b d)
body_gives h b n (StructTree name members) w all = gives_more n (n + 3 * 0) b.functions (omega arith) all
body_gives h b n (GlobalTree grant readers ty name init) w all = gives_more n (n + 3 * 0) b.functions (omega arith) all
body_gives h b n (FunctionTree entry answer name params body) w all = function_gives h b n (slice_get h.functions (length b.functions)) params body w all

bodies_give : (h : HeadsTree) (k : ℕ) (b : BodiesTree) (n : ℕ) (ds : List PlacedDecl) → AllConstant ds → Gives n b.functions → Ends (BodiesGive (n + 3 * least_placed ds)) (bodies_of k h b ds)
bodies_give h k b n [] w all = gives_more n (n + 3 * 0) b.functions (omega arith) all
bodies_give h k b n (d ∷ ds) w all =
    let Q : BodiesTree → Type 0 = BodiesGive (n + 3 * (least_body d.decl + least_placed ds)) in
    then_ends (BodiesGive (n + 3 * least_body d.decl)) Q (at_declaration k (body_of h b d.decl)) (λ b. bodies_of (k + 1) h b ds)
    (at_ends (BodiesGive (n + 3 * least_body d.decl)) k (body_of h b d.decl) (body_gives h b n d.decl w.0 all)) (λ c next.
    weaker (BodiesGive ((n + 3 * least_body d.decl) + 3 * least_placed ds)) Q (bodies_of (k + 1) h c ds) (bodies_give h (k + 1) c (n + 3 * least_body d.decl) ds w.1 next) (λ last give.
    gives_more ((n + 3 * least_body d.decl) + 3 * least_placed ds) (n + 3 * (least_body d.decl + least_placed ds)) last.functions (omega arith) give))

-- ---- programs

abbrev ProgramGives : ℕ → ProgramTree → Type 0
ProgramGives n p = Gives n p.functions

program_gives : (ds : List PlacedDecl) → AllConstant ds → Ends (ProgramGives (0 + 3 * least_placed ds)) (well_typed ds)
program_gives ds w =
    let none : HeadsTree = no_heads (tags_of [] ds) in
    let n : ℕ = 0 + 3 * least_placed ds in
    then_ends (λ (h : HeadsTree). Unit {0}) (ProgramGives n) (heads_of 0 none ds) (λ h. bodies_of 0 h no_bodies ds >>> (λ b. at_declaration 0 (main_number h) >>> (λ main. Ok (program_of h b main)))) (any (heads_of 0 none ds)) (λ h _.
    then_ends (BodiesGive n) (ProgramGives n) (bodies_of 0 h no_bodies ds) (λ b. at_declaration 0 (main_number h) >>> (λ main. Ok (program_of h b main)))
    (bodies_give h 0 no_bodies 0 ds w (record { fine = tt; count = omega arith })) (λ b all.
    then_ends (λ (n : ℕ). Unit {0}) (ProgramGives n) (at_declaration 0 (main_number h)) (λ main. Ok (program_of h b main)) (any (at_declaration 0 (main_number h))) (λ m _. all)))

checked_gives : (texts : List (List ℕ)) (files : List SourceFile) (p : TProgram) → AreFilesOf texts files → WellTyped files p → Gives (0 + 3 * least_placed (declarations files)) (function_trees p.functions)
checked_gives texts files p are is =
    subst (λ r. Ends (ProgramGives (0 + 3 * least_placed (declarations files))) r) is (program_gives (declarations files) (files_constant texts files are))

-- ---- a checked program itself

all_fine : (P : TStmtTrees → Type 0) → ((all : TStmtTrees) → IsFine all → P all) → (fs : List TFunction) → AllFine (function_trees fs) → All (λ (f : TFunction). P (tstmt_trees f.body.items)) fs
all_fine P follows [] fine = All-nil (λ (f : TFunction). P (tstmt_trees f.body.items))
all_fine P follows (f ∷ fs) fine = All-cons (λ (f : TFunction). P (tstmt_trees f.body.items)) f fs (follows (tstmt_trees f.body.items) fine.0) (all_fine P follows fs fine.1)

nodes_same : (fs : List TFunction) → tree_nodes (function_trees fs) ≡ body_nodes fs
nodes_same [] = refl
nodes_same (f ∷ fs) = ap (λ n. nodes_in_all (tstmt_trees f.body.items) + n) (nodes_same fs)

-- each number in a body fits its type
pub numbers_fit : (texts : List (List ℕ)) (files : List SourceFile) (p : TProgram) → AreFilesOf texts files → WellTyped files p → All (λ (f : TFunction). EachInAll NumberFits (tstmt_trees f.body.items)) p.functions
numbers_fit texts files p are is =
    all_fine (λ all. EachInAll NumberFits all) (λ all fine. each_in_all IsPlain NumberFits (λ e plain. plain.0) all fine.0) p.functions (checked_gives texts files p are is).fine

-- each conversion joins types that differ
pub conversions_fit : (texts : List (List ℕ)) (files : List SourceFile) (p : TProgram) → AreFilesOf texts files → WellTyped files p → All (λ (f : TFunction). EachInAll ConversionFits (tstmt_trees f.body.items)) p.functions
conversions_fit texts files p are is =
    all_fine (λ all. EachInAll ConversionFits all) (λ all fine. each_in_all IsPlain ConversionFits (λ e plain. plain.1) all fine.0) p.functions (checked_gives texts files p are is).fine

-- what is evaluated alone has a value
pub values_whole : (texts : List (List ℕ)) (files : List SourceFile) (p : TProgram) → AreFilesOf texts files → WellTyped files p → All (λ (f : TFunction). AreEvaluated (tstmt_trees f.body.items)) p.functions
values_whole texts files p are is = all_fine AreEvaluated (λ all fine. fine.1) p.functions (checked_gives texts files p are is).fine

-- three nodes at most for each byte
pub nodes_few : (texts : List (List ℕ)) (files : List SourceFile) (p : TProgram) → AreFilesOf texts files → WellTyped files p → body_nodes p.functions ≤ 3 * bytes_of texts
nodes_few texts files p are is = omega (arith, (checked_gives texts files p are is).count, nodes_same p.functions, files_take texts files are)

-- a declaration takes a byte
pub declarations_few : (texts : List (List ℕ)) (files : List SourceFile) → AreFilesOf texts files → length (declarations files) ≤ bytes_of texts
declarations_few texts files are = omega (arith, files_take texts files are)
