use Rattle.std.proofs.Common.{Some, ap, ◌∙◌}
use Rattle.fx_base.specs.MemFiles.{content_of}
use Rattle.fx_base.proofs.Entries.{content_of-same, content_of-other}
use Rattle.fx_base.proofs.mem_files.MemFiles.add.Goals as goal

pub returns-clause-ok : goal.returns-clause-ok
returns-clause-ok c =
    content_of-same c.self.inside.files c.insert.new.self c.in_ok-name.name c.in_ok-bytes.bytes c.args.name.now c.in_ok-name.ensures.ok c.in_ok-insert.ensures.updates
    ∙ ap Some c.in_ok-bytes.ensures.items

pub returns-clause-others : goal.returns-clause-others
returns-clause-others c = λ other differs.
    content_of-other c.self.inside.files c.insert.new.self c.in_ok-name.name c.in_ok-bytes.bytes other (λ same. differs (same ∙ c.in_ok-name.ensures.ok)) c.in_ok-insert.ensures.updates
    ∙ ap (λ s. content_of s.files other) c.self.view_is
