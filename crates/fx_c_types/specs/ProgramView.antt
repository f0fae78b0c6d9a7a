-- What contracts see of a program's files and of a checked program.
use Rattle.std.specs.Prelude.{ℕ, List, [], ◌∷◌, ◌++◌}
use Rattle.fx_c_ast.specs.declared.parsed.Decl.{Decl}
use Rattle.fx_c_ast.specs.declared.checked.TFunction.{TFunction}
use Rattle.fx_c_ast.specs.declared.checked.TProgram.{TProgram}
use Rattle.fx_c_ast.specs.ParsedTrees.{decl_tree}
use Rattle.fx_c_ast.specs.CheckedTrees.{ty_tree, tstmt_trees}
use Rattle.fx_c_types_rules.specs.Structs.{struct_trees}
use Rattle.fx_c_types_rules.specs.Locals.{local_trees}
use Rattle.fx_c_types_heads.specs.HeadsView.{global_heads}
use Rattle.fx_c_types.specs.declared.program.SourceFile.{SourceFile}
use Rattle.fx_c_types.specs.declared.program.Placed.{Placed}
use Rattle.fx_c_types.specs.declared.program.Bodies.{Bodies}
use Rattle.fx_c_types.specs.Programs.{PlacedDecl, FunctionTree, BodiesTree, ProgramTree}

abbrev pub placed_in : ℕ → List Decl → List PlacedDecl
placed_in library [] = []
placed_in library (d ∷ ds) = record { library = library; decl = decl_tree d } ∷ placed_in library ds

-- the declarations of all files, in program order
abbrev pub declarations : List SourceFile → List PlacedDecl
declarations [] = []
declarations (f ∷ fs) = placed_in f.library f.unit.decls ++ declarations fs

abbrev pub placed_trees : List Placed → List PlacedDecl
placed_trees [] = []
placed_trees (p ∷ ps) = record { library = p.library; decl = decl_tree p.decl.now } ∷ placed_trees ps

abbrev pub function_tree : TFunction → FunctionTree
function_tree f = record { library = f.library; entry = f.entry; answer = ty_tree f.result; name = f.name; params = f.params; locals = local_trees f.locals; body = tstmt_trees f.body.items }

abbrev pub function_trees : List TFunction → List FunctionTree
function_trees [] = []
function_trees (f ∷ fs) = function_tree f ∷ function_trees fs

abbrev pub bodies_tree : Bodies → BodiesTree
bodies_tree b = record { declared = b.declared; literals = b.literals.items; functions = function_trees b.functions.items }

abbrev pub program_tree : TProgram → ProgramTree
program_tree p = record { structs = struct_trees p.structs; globals = global_heads p.globals; literals = p.literals; functions = function_trees p.functions; main = p.main }
