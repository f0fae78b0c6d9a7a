-- How many operands expressions need, and what calls pass.
use Rattle.std.proofs.Common.{◌≡◌, ℕ, ◌+◌, ◌≤◌, false, arith}
use Rattle.fx_c_ast.specs.declared.operator.Binop.{Binop}
use Rattle.fx_c_ast.specs.declared.operator.Binop.TheVariants.{Land, Lor}
use Rattle.fx_c_ast.specs.CheckedTrees.{TExprTree, EUn, EBin, ECast, EConvert, EIndex, EMember, EArrow, ECall, EGate, TExprTrees, NoTExprs, MoreTExprs}
use Rattle.fx_c_ast.specs.StackUse.{need, need_two}
use Rattle.fx_c_mean_model.specs.Programs.{Program, function_at}
use Rattle.fx_c_lower_model.specs.Steps.{is_logical}

abbrev pub count : TExprTrees → ℕ
count NoTExprs = 0
count (MoreTExprs e more) = count more + 1

-- a call passes as many arguments as its function has parameters
abbrev pub CallPasses : Program → TExprTree → Type 0
CallPasses p (ECall ty f all) = count all ≡ (function_at p f).params
CallPasses p (EGate ty f all) = count all ≡ (function_at p f).params
CallPasses p e = Unit {0}

pub need_first : (o : Binop) (a b : ℕ) → a ≤ need_two o a b
need_first Land a b = omega arith
need_first Lor a b = omega arith
need_first o a b = omega arith

pub need_second : (o : Binop) (a b : ℕ) → b ≤ need_two o a b
need_second Land a b = omega arith
need_second Lor a b = omega arith
need_second o a b = omega arith

-- of two that are both pending
pub need_both : (o : Binop) (a b : ℕ) → is_logical o ≡ false → 1 + b ≤ need_two o a b
need_both Land a b e = absurd cc
need_both Lor a b e = absurd cc
need_both o a b e = omega arith

pub need_some : (e : TExprTree) → 1 ≤ need e
need_some (EUn ty o e) = need_some e
need_some (EBin ty o a b) = omega (arith, need_some a, need_first o (need a) (need b))
need_some (ECast ty e) = need_some e
need_some (EConvert ty e) = need_some e
need_some (EIndex ty a b) = omega (arith, need_some a)
need_some (EMember ty e n) = need_some e
need_some (EArrow ty e n) = need_some e
need_some e = omega arith
