-- Small programs, written out as trees, for the examples.
use Rattle.std.proofs.Common.{ℕ, pos, Bool, false, List, [], ◌∷◌, Some, None}
use Rattle.fx_outcomes.specs.Runs.{Outcome}
use Rattle.fx_base.specs.declared.device_op.DeviceOp.{DeviceOp}
use Rattle.fx_c_ast.specs.declared.operator.IntType.TheVariants.{Int, Long}
use Rattle.fx_c_ast.specs.declared.parsed.Init.{Init}
use Rattle.fx_c_ast.specs.CheckedTrees.{TyTree, VoidTy, IntTy, TExprTree, ENumber, EConvert, TExprTrees, NoTExprs, MoreTExprs, TStmtTree, SReturn, TStmtTrees, NoTStmts, MoreTStmts}
use Rattle.fx_c_mean_model.specs.declared.end.End.{End}
use Rattle.fx_c_mean_model.specs.declared.end.End.TheVariants.{Exit}
use Rattle.fx_c_mean_model.specs.declared.rights.Rights.{Rights}
use Rattle.fx_c_mean_model.specs.Programs.{Program, Function, Variable, GlobalVariable}

abbrev pub int : TyTree
int = IntTy Int

abbrev pub long : TyTree
long = IntTy Long

-- a number of type int, and one of type long
abbrev pub num : ℕ → TExprTree
num n = ENumber int n

abbrev pub lnum : ℕ → TExprTree
lnum n = ENumber long n

abbrev pub to_long : TExprTree → TExprTree
to_long e = EConvert long e

abbrev pub one : TExprTree → TExprTrees
one e = MoreTExprs e NoTExprs

abbrev pub block : List TStmtTree → TStmtTrees
block [] = NoTStmts
block (s ∷ ss) = MoreTStmts s (block ss)

abbrev pub gives_back : TExprTree → TStmtTree
gives_back e = SReturn (Some e)

abbrev pub variables : List TyTree → List Variable
variables [] = []
variables (t ∷ ts) = record { shared = false; ty = t } ∷ variables ts

-- a function of a library, with this frame
abbrev pub function : ℕ → TyTree → ℕ → List TyTree → ℕ → List TStmtTree → Function
function library gives params types frame body = record { library = library; gives = gives; params = params; variables = variables types; body = block body; frame = frame }

abbrev pub global : ℕ → TyTree → Init → GlobalVariable
global library ty init = record { library = library; ty = ty; init = init }

-- `main` is the first function
abbrev pub program : List GlobalVariable → List (List ℕ) → List Function → Program
program globals literals functions = record { structs = []; globals = globals; literals = literals; functions = functions; main = 0 }

-- one compartment under plain calls
abbrev pub single : Rights
single = record { homes = 0 ∷ []; readers = []; writers = []; guarded = false; own_stacks = false; stack_pages = 4 }

abbrev pub Ends : Type 0
Ends = Outcome DeviceOp End

abbrev pub ends : List DeviceOp → End → Ends
ends made e = record { made = made; finish = Some e }

abbrev pub exits : ℕ → Ends
exits n = ends [] (Exit (pos n))

-- a program of one compartment whose `main` has these locals and this body, and two more functions
abbrev pub with_functions : List TyTree → List TStmtTree → Function → Function → Program
with_functions locals body f g = program [] [] (function 0 long 0 locals 32 body ∷ f ∷ g ∷ [])

abbrev pub nothing_more : Function
nothing_more = function 0 VoidTy 0 [] 16 []

abbrev pub main_of : List TyTree → List TStmtTree → Program
main_of locals body = with_functions locals body nothing_more nothing_more
