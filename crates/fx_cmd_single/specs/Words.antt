-- The words of the command `single CONF [--steps N]`.
use Rattle.std.specs.Prelude.{ℕ, ◌&&◌, if◌then◌else◌, List, [], ◌∷◌, Option, Some, None, option_map, unwrap_or, codes, bytes_eq}
use Rattle.fx_cmd_base.specs.Words.{number_of, is_file_name}
use Rattle.fx_cmd_single.specs.declared.words.SingleWords.{SingleWords}

-- the configuration's name, and the budget of cost, where one is given
pub record SingleGiven : Type 0 where
  pub config : List ℕ
  pub steps : Option ℕ

-- the configuration, and the words behind it
abbrev pub single_behind : List ℕ → List (List ℕ) → Option SingleGiven
single_behind config [] = Some (record { config = config; steps = None })
single_behind config (flag ∷ []) = None
single_behind config (flag ∷ value ∷ []) =
    if bytes_eq flag (codes "--steps") then option_map (λ n. record { config = config; steps = Some n }) (number_of value) else None
single_behind config (flag ∷ value ∷ next ∷ rest) = None

abbrev pub single_words : List (List ℕ) → Option SingleGiven
single_words [] = None
single_words (command ∷ []) = None
single_words (command ∷ config ∷ rest) = if bytes_eq command (codes "single") && is_file_name config then single_behind config rest else None

abbrev pub single_given : SingleWords → SingleGiven
single_given words = record { config = words.config.now; steps = words.steps }

-- the cost of a run for which no budget is given
abbrev pub default_budget : ℕ
default_budget = 50_000_000

abbrev pub budget_of : SingleGiven → ℕ
budget_of given = unwrap_or given.steps default_budget
