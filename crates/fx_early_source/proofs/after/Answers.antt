use Rattle.std.proofs.Common.{◌≡◌, Option, Some, None, List, ◌++◌, ℕ, ap, sym, ◌∙◌}
use Rattle.std.specs.Option.{option_copied, MatchOption}
use Rattle.std.proofs.lemmas.Bool.Decides.{Decides-eqb}
use Rattle.std.proofs.lemmas.Slice.Eq.{strip_prefix_is}
use denote.Ref.{Bor}
use Rattle.fx_early_source.specs.Reading.{strip}
use Rattle.fx_early_source.proofs.Fronts.{strip-same, strip-none}
use Rattle.fx_early_source.proofs.after.Goals as goal

-- what strip_prefix says is what strip gives
stripped : (text token : List ℕ) (r : Option (Bor (List ℕ))) → MatchOption r ((rest : List ℕ) → text ≡ token ++ rest → ⊥) (λ x. text ≡ token ++ x.now) → option_copied r ≡ strip token text
stripped text token None never = sym (strip-none token text never)
stripped text token (Some x) is = sym (ap (strip token) is ∙ strip-same token x.now)

pub returns : goal.returns
returns c = stripped c.skip.result.now c.args.token.now c.strip_prefix.result (strip_prefix_is Decides-eqb c.skip.result.now c.args.token.now c.strip_prefix.result c.strip_prefix.ensures.cases)
    ∙ ap (strip c.args.token.now) c.skip.ensures
