use Rattle.std.proofs.Common.{sym, ◌∙◌}
use Rattle.fx_c_lex.proofs.Spellings.{other, spelled}
use Rattle.fx_c_lex.proofs.words.place_of.Goals as goal

pub returns-then-eq : goal.returns-then-eq
returns-then-eq c = spelled _ _ _ _ c.loop-i-test.true (sym c.if-eq.true ∙ c.eq.ensures) c.loop-i.invariant

pub loop-i-preserved : goal.loop-i-preserved
loop-i-preserved c = other _ _ _ _ c.loop-i-test.true (sym c.if-eq.false ∙ c.eq.ensures) c.loop-i.invariant
