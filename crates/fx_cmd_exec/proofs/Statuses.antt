-- Statuses that are other numbers.
use Rattle.std.proofs.Common.{◌≡◌, ℕ, ◌<◌, refl, arith}
use Rattle.fx_cmd_run.specs.Lines.{unbegun_status}
use Rattle.fx_cmd_run.specs.declared.load.Unbegun.{Unbegun}
use Rattle.fx_cmd_run.specs.declared.load.Unbegun.TheVariants as unbegun

-- a status that is another number
pub apart : {P : Type 0} (status result wanted : ℕ) → result ≡ status → result ≡ wanted → wanted < status → P
apart status result wanted is that less = absurd (omega arith)

pub unbegun_some : {P : Type 0} (why : Unbegun) → unbegun_status why ≡ 0 → P
unbegun_some (unbegun.Unread file error) status = apart 4 4 0 refl status (omega arith)
unbegun_some (unbegun.Refused error) status = apart 3 3 0 refl status (omega arith)
unbegun_some unbegun.OutOfMemory status = apart 6 6 0 refl status (omega arith)
