-- Under plain calls nothing is denied.
use Rattle.std.proofs.Common.{◌≡◌, ℕ, Bool, ◌==◌, ◌||◌, ap, subst, ⊎_elim}
use Rattle.std.specs.Prelude.{MatchBool, nat_eq}
use Rattle.fx_faithful.specs.Ends.{NothingIsDenied}

pub nothing_is_denied : NothingIsDenied
nothing_is_denied image address write refusal none denial = let h = simp none at denial in h
