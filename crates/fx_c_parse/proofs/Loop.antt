-- Repetitions, as a loop makes them.
use Rattle.std.proofs.Common.{◌≡◌, ℕ, ◌<◌, List, length, Option}
use Rattle.fx_c_parse.specs.Words.{Word}
use Rattle.fx_c_parse.specs.Reading.{◌>>=◌, Turn, turns}

-- the repetition from here, and what is made of its end, is the whole
pub record Continues {A B : Type 0} (step : A → List Word → Turn A) (finish : A × List Word → Option B) (x : A) (ws : List Word) (total : Option B) : Type 0 where
  pub left : ℕ
  pub enough : length ws < left
  pub same : (turns step left x ws >>= finish) ≡ total
