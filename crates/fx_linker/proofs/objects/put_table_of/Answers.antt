use Rattle.std.proofs.Common.{rules, ◌≡◌, ◌≤◌, ◌++◌, [], sym, length, append-nil}
use Rattle.std.proofs.lemmas.Option.{slice_get_past}
use Rattle.fx_linker.specs.Data.{table_object}
use Rattle.fx_linker.proofs.objects.put_table_of.Goals as goal

pub returns-in-None : goal.returns-in-None
returns-in-None c =
    let past : length c.args.compartments.now ≤ c.args.number = search rules in
    rw (slice_get_past c.args.compartments.now c.args.number past) (sym (append-nil c.args.objects.now.items))
