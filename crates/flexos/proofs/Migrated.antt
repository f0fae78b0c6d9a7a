-- What the command `migrate` came to, seen from the top call.
use Rattle.std.proofs.Common.{◌≡◌, ℕ, List, Result, Ok, Err, inl, inr, sym, ◌∙◌, arith}
use Rattle.fx_cmd_base.specs.Ends.{ErrorStream}
use Rattle.fx_cmd_migrate.specs.Failures.{unmigrated_status}
use Rattle.fx_cmd_migrate.specs.Migrates.{Reports}
use Rattle.fx_cmd_migrate.specs.declared.failure.Unmigrated.{Unmigrated}
use Rattle.fx_cmd_migrate.specs.declared.failure.Unmigrated.TheVariants.{NoImage, WriteFailed, OutOfMemory}
use Rattle.flexos.proofs.Shown.{unbegun_usage}

-- an image that is not migrated isn't usage
unmigrated_usage : (why : Unmigrated) → unmigrated_status why ≡ 2 → ⊥
unmigrated_usage (NoImage why) status = unbegun_usage why status
unmigrated_usage WriteFailed status = omega arith
unmigrated_usage OutOfMemory status = omega arith

pub migrate_is_no_usage : (old new : List ℕ) (came : Result (Unit {0}) Unmigrated) (result : ℕ) (err : ErrorStream) → Reports old new came result err → result ≡ 2 → ⊥
migrate_is_no_usage old new (Ok x) result err done two = omega (arith, done.0)
migrate_is_no_usage old new (Err why) result err (inl (inl own)) two = unmigrated_usage why (sym own.0 ∙ two)
migrate_is_no_usage old new (Err why) result err (inl (inr fault)) two = omega (arith, fault.0)
migrate_is_no_usage old new (Err why) result err (inr (inl memory)) two = omega (arith, memory.0)
migrate_is_no_usage old new (Err why) result err (inr (inr fault)) two = omega (arith, fault.0)
