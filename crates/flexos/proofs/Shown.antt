-- What the command `show` came to, seen from the top call.
use Rattle.std.proofs.Common.{◌≡◌, ℕ, List, Result, Ok, Err, inl, inr, sym, ◌∙◌, arith}
use Rattle.fx_cmd_base.specs.Ends.{ErrorStream}
use Rattle.fx_cmd_run.specs.Lines.{unbegun_status}
use Rattle.fx_cmd_run.specs.declared.load.Unbegun.{Unbegun}
use Rattle.fx_cmd_run.specs.declared.load.Unbegun.TheVariants as unbegun
use Rattle.fx_cmd_show.specs.Failures.{unshown_status}
use Rattle.fx_cmd_show.specs.Shows.{Reports}
use Rattle.fx_cmd_show.specs.declared.failure.Unshown.{Unshown}
use Rattle.fx_cmd_show.specs.declared.failure.Unshown.TheVariants.{NoImage, WriteFault, OutOfMemory}

pub unbegun_usage : (why : Unbegun) → unbegun_status why ≡ 2 → ⊥
unbegun_usage (unbegun.Unread file error) status = omega arith
unbegun_usage (unbegun.Refused error) status = omega arith
unbegun_usage unbegun.OutOfMemory status = omega arith

-- an image that is not shown isn't usage
unshown_usage : (why : Unshown) → unshown_status why ≡ 2 → ⊥
unshown_usage (NoImage why) status = unbegun_usage why status
unshown_usage WriteFault status = omega arith
unshown_usage OutOfMemory status = omega arith

pub show_is_no_usage : (name : List ℕ) (came : Result (Unit {0}) Unshown) (result : ℕ) (err : ErrorStream) → Reports name came result err → result ≡ 2 → ⊥
show_is_no_usage name (Ok x) result err done two = omega (arith, done.0)
show_is_no_usage name (Err why) result err (inl (inl own)) two = unshown_usage why (sym own.0 ∙ two)
show_is_no_usage name (Err why) result err (inl (inr fault)) two = omega (arith, fault.0)
show_is_no_usage name (Err why) result err (inr (inl memory)) two = omega (arith, memory.0)
show_is_no_usage name (Err why) result err (inr (inr fault)) two = omega (arith, fault.0)
