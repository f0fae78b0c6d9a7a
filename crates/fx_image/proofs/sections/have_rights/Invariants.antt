use Rattle.std.proofs.Common.{◌≡◌, drop, cond, eqb}
use Rattle.fx_image.specs.Keys.{is_keyed, pkru_of}
use Rattle.fx_image.specs.Rules.{all_numbered}
use Rattle.fx_image.specs.declared.forms.Comp.{Comp}
use Rattle.fx_image.proofs.sections.have_rights.Given as goal

abbrev pub invariant-loop-c : goal.invariant-loop-c
invariant-loop-c l = all_numbered (λ c (comp : Comp). eqb comp.pkru (cond (is_keyed l.mechanism) (pkru_of l.sections l.scheduler c) 0)) l.c (drop l.c l.comps) ≡ all_numbered (λ c (comp : Comp). eqb comp.pkru (cond (is_keyed l.mechanism) (pkru_of l.sections l.scheduler c) 0)) 0 l.comps
