use Rattle.std.proofs.Common.{◌∙◌, ap}
use Rattle.fx_c_types_heads.specs.Names.{found}
use Rattle.fx_c_types_heads.proofs.Tables.{found_is}
use Rattle.fx_c_types_heads.proofs.names.Names.find.Goals as goal

pub returns : goal.returns
returns c =
    c.copied.ensures ∙ c.get.ensures.value ∙ found_is c.args.name.now c.self.inside.map.entries
    ∙ ap (found c.args.name.now) c.self.view_is
