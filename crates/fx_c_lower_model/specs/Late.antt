-- What is owed behind the code of an expression: source steps that have no op of their own.
use Rattle.std.specs.Prelude.{ℕ, ◌+◌, Bool, true, false}
use Rattle.fx_c_ast.specs.CheckedTrees.{TExprTree, EUn, ECast, EConvert}
use Rattle.fx_c_mean_model.specs.Programs.{Program}
use Rattle.fx_c_mean_model.specs.States.{type_of}
use Rattle.fx_c_lower_model.specs.Steps.{chosen, is_loaded, load_late, unary_late, takes_value}
use Rattle.fx_c_lower_model.specs.Steps.{cast_late}
use Rattle.fx_c_lower_model.specs.Direct.{Direct, Constant, Whole, Other, direct}

abbrev pub value_late_by : Direct → ℕ → ℕ
value_late_by Other owed = owed
value_late_by d owed = 0

-- behind the code up to an lvalue's address, or to any other expression's value
abbrev pub late : Program → TExprTree → ℕ
late p (EUn ty o e) =
    unary_late o
    (chosen (takes_value o) (value_late_by (direct p e) (load_late (is_loaded e) (late p e)))
    (late p e))
late p (ECast ty e) =
    cast_late (value_late_by (direct p e) (load_late (is_loaded e) (late p e))) (type_of e) ty
late p (EConvert ty e) =
    cast_late (value_late_by (direct p e) (load_late (is_loaded e) (late p e))) (type_of e) ty
late p e = 0

-- behind the code of a value
abbrev pub value_late : Program → TExprTree → ℕ
value_late p e = value_late_by (direct p e) (load_late (is_loaded e) (late p e))
