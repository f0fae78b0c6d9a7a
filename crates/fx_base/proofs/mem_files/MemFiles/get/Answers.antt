use Rattle.std.proofs.Common.{Some, ap, sym, ◌∙◌}
use Rattle.std.specs.Option.{option_map}
use Rattle.fx_base.specs.MemFiles.{content_of}
use Rattle.fx_base.proofs.Entries.{content_of-entries}
use Rattle.fx_base.proofs.mem_files.MemFiles.get.Goals as goal

pub returns-in-Some : goal.returns-in-Some
returns-in-Some c =
    ap Some c.as_slice.ensures.value
    ∙ ap (option_map (λ v. v.items)) c.in-Some.ensures.value
    ∙ sym (content_of-entries c.self.inside.files.entries c.args.name.now)
    ∙ ap (λ s. content_of s.files c.args.name.now) c.self.view_is

pub returns-in-None : goal.returns-in-None
returns-in-None c =
    ap (option_map (λ v. v.items)) c.in-None.ensures.value
    ∙ sym (content_of-entries c.self.inside.files.entries c.args.name.now)
    ∙ ap (λ s. content_of s.files c.args.name.now) c.self.view_is
