-- Arguments of calls, and the operations of devices and threads.
use Rattle.std.specs.Prelude.{ℕ, Bool, true, false, ◌&&◌, List, [], ◌∷◌, Ok}
use Rattle.fx_c_ast.specs.declared.operator.IntType.TheVariants.{Long}
use Rattle.fx_c_ast.specs.CheckedTrees.{TyTree, VoidTy, IntTy, TExprTree, TExprTrees, NoTExprs, MoreTExprs, EPutc, EDevStore, ESwitch}
use Rattle.fx_c_types_rules.specs.declared.fault.TypeKind.TheVariants.{NotInteger, Arguments}
use Rattle.fx_c_types_rules.specs.Checks.{Checked, ◌>>=◌, refuse, demand}
use Rattle.fx_c_types_rules.specs.Types.{category}
use Rattle.fx_c_types_rules.specs.Locals.{LocalTree}
use Rattle.fx_c_types_rules.specs.Values.{type_of, value_of, is_scalar, converted, as_long, agrees}

-- each is an integer or a pointer
abbrev pub are_scalars : TExprTrees → Bool
are_scalars NoTExprs = true
are_scalars (MoreTExprs e rest) = is_scalar (category (type_of e)) && are_scalars rest

-- there is one for each parameter, and it can be converted
abbrev pub are_passed : List LocalTree → TExprTrees → Bool
are_passed [] NoTExprs = true
are_passed [] (MoreTExprs e rest) = false
are_passed (p ∷ ps) NoTExprs = false
are_passed (p ∷ ps) (MoreTExprs e rest) = agrees p.ty e && are_passed ps rest

-- each converted to the parameter's type
abbrev pub passed : List LocalTree → TExprTrees → TExprTrees
passed [] es = NoTExprs
passed (p ∷ ps) NoTExprs = NoTExprs
passed (p ∷ ps) (MoreTExprs e rest) = MoreTExprs (converted p.ty e) (passed ps rest)

-- the values that are passed to parameters
abbrev pub arguments : List LocalTree → TExprTrees → Checked TExprTrees
arguments params es = demand (are_scalars es) NotInteger (demand (are_passed params es) Arguments (Ok (passed params es)))

-- trees behind others
abbrev pub joined : TExprTrees → TExprTrees → TExprTrees
joined NoTExprs more = more
joined (MoreTExprs e rest) more = MoreTExprs e (joined rest more)

abbrev pub putc : TExprTree → Checked TExprTree
putc e = as_long (value_of e) >>= (λ e. Ok (EPutc VoidTy e))

abbrev pub device_store : ℕ → ℕ → TExprTree → Checked TExprTree
device_store device register e = as_long (value_of e) >>= (λ e. Ok (EDevStore VoidTy device register e))

abbrev pub switch : TExprTree → Checked TExprTree
switch e = as_long (value_of e) >>= (λ e. Ok (ESwitch VoidTy e))
