use Rattle.std.proofs.Common.{ℕ, List, Option, Result, Ok, Err, IfErr, Vec, Global, subst, sym}
use Rattle.fx_base.specs.Files.{Held}
use Rattle.fx_cmd_exec.specs.declared.unbuilt.Unbuilt.{Unbuilt}
use Rattle.fx_cmd_exec.specs.declared.unbuilt.Unbuilt.TheVariants.{Other, OutOfMemory}
use Rattle.fx_cmd_exec.specs.declared.unbuilt.Other.TheVariants as other
use Rattle.fx_cmd_exec.specs.Lines.{source_name}
use Rattle.fx_cmd_load.specs.Reading.{source_limit, WasRead}
use Rattle.fx_cmd_exec.specs.Causes.{SourceCause, IsOtherSource}
use Rattle.fx_cmd_exec.proofs.inputs.take_source.Goals as goal

-- a text that was read and refused is the source's
refused_came : (held : Option Held) (before now : ℕ) (text : List ℕ) (came : Unbuilt) → WasRead source_limit held source_name text → IsOtherSource text came → SourceCause held before now came
refused_came held before now text (Other other.Source) content refused = (text, content, refused)
refused_came held before now text (Other other.Config) content refused = absurd refused
refused_came held before now text OutOfMemory content refused = tt
refused_came held before now text _ content refused = absurd refused

refused_text : (held : Option Held) (before now : ℕ) (text : List ℕ) (r : Result (Vec ℕ Global) Unbuilt) → WasRead source_limit held source_name text → IfErr r (IsOtherSource text) → IfErr r (SourceCause held before now)
refused_text held before now text (Ok v) content refused = tt
refused_text held before now text (Err came) content refused = refused_came held before now text came content refused

pub returns-in-Ok-clause-cause : goal.returns-in-Ok-clause-cause
returns-in-Ok-clause-cause g c =
    let held = g.F.Files.held c.args.files.now in
    refused_text held (g.F.Files.faults c.args.files.now) (g.F.Files.faults c.read.new.self) c.deref.result.now c.constants_of.result
    (subst (WasRead source_limit held source_name) (sym c.deref.ensures.value) (c.in-Ok.ensures.content, c.in-Ok.ensures.within)) c.constants_of.ensures.cause
