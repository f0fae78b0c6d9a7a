use Rattle.std.proofs.Common.{rules, ◌≡◌, ◌≤◌, ◌++◌, [], sym, length, append-nil}
use Rattle.std.proofs.lemmas.Option.{slice_get_past}
use Rattle.fx_linker.specs.Tables.{record_at}
use Rattle.fx_linker.proofs.tables.put_record.Goals as goal

pub returns-in-None : goal.returns-in-None
returns-in-None c =
    let past : length c.args.p.now.functions ≤ c.args.function = search rules in
    rw (slice_get_past c.args.p.now.functions c.args.function past) (sym (append-nil c.args.out.now.items))
