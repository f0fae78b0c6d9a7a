use Rattle.std.proofs.Common.{◌∙◌, ap, sym, length}
use Rattle.fx_c_types_heads.proofs.Tables.{length-named}
use Rattle.fx_c_types_heads.proofs.names.Names.len.Goals as goal

pub returns : goal.returns
returns c = c.len.ensures.len ∙ sym (length-named c.self.inside.map.entries) ∙ ap length c.self.view_is
