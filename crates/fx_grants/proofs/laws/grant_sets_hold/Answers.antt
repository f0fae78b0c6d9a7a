use Rattle.fx_grants.proofs.Granted.{write_global, read_global, write_literal, read_literal, touch_local}
use Rattle.fx_grants.proofs.laws.grant_sets_hold.Goals as goal

pub returns : goal.returns
returns c = λ p k n less few. record {
  write_global = λ g h d. write_global p k n less g h d;
  read_global = λ g h d. read_global p k n less g h d;
  write_literal = λ l. write_literal p k n l;
  read_literal = λ l. read_literal p k n less l;
  touch_local = λ f l write h d within e. touch_local p k n less f l write h d within e;
}
