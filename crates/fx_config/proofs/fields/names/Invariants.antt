use Rattle.toml.specs.View.{view}
use Rattle.fx_config.specs.Document.{string_of}
use Rattle.fx_config.proofs.Loops.{ReadTo}
use Rattle.fx_config.proofs.fields.names.Given as goal

abbrev pub invariant-loop-element : goal.invariant-loop-element
invariant-loop-element l = ReadTo (λ v. string_of (view v)) l.values l.element-index l.found.items
