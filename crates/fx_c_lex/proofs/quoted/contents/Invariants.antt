use Rattle.std.proofs.Common.{◌≡◌, drop}
use Rattle.std.specs.Prelude.{false}
use Rattle.fx_c_lex.specs.Reading.{contents_at, behind}
use Rattle.fx_c_lex.proofs.quoted.contents.Given as goal

abbrev pub invariant-loop-i : goal.invariant-loop-i
invariant-loop-i l = behind l.bytes.items l.i (contents_at l.quote l.escaped (drop l.i l.text)) ≡ contents_at l.quote false l.text
