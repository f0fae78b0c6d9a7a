-- What a command came to that puts a text, seen from the top call.
use Rattle.std.proofs.Common.{◌≡◌, ℕ, List, inl, inr, Option, arith}
use Rattle.fx_base.specs.Told.{Told}
use Rattle.fx_cmd_base.specs.Streams.{Gained, TookNothing}
use Rattle.fx_cmd_base.specs.Ends.{ErrorStream}
use Rattle.flexos.specs.Texts.{PutsText}

module _ (text : List ℕ) (taken gained : Option (List ℕ)) (fine failed result : ℕ) (err : ErrorStream) where
  -- a text isn't usage
  pub text_is_no_usage : PutsText text taken gained fine failed result err → result ≡ 2 → ⊥
  text_is_no_usage (inl put) two = omega (arith, put.0)
  text_is_no_usage (inr (rose, part, inl own)) two = omega (arith, own.0)
  text_is_no_usage (inr (rose, part, inr fault)) two = omega (arith, fault.0)

  -- with status 0 it was put
  pub text_done : PutsText text taken gained fine failed result err → result ≡ 0 → Told (Gained text) taken gained × Told TookNothing err.told err.printed
  text_done (inl put) none = (put.1, put.2)
  text_done (inr (rose, part, inl own)) none = absurd (omega (arith, own.0))
  text_done (inr (rose, part, inr fault)) none = absurd (omega (arith, fault.0))
