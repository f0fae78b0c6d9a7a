use Rattle.std.proofs.Common.{ℕ, List, Result, Ok, Err, Vec, Global, IfOk, IsErrOf, ◌∙◌, sym}
use Rattle.std.proofs.lemmas.Option.{none-some}
use Rattle.fx_early_source.specs.declared.SourceError.{SourceError}
use Rattle.fx_early_source.specs.declared.SourceError.TheVariants.{Form, OutOfMemory}
use Rattle.fx_early_source.specs.Grammar.{IsProgram}
use Rattle.fx_early_source.specs.Reading.{reading, Reads}
use Rattle.fx_early_source.proofs.Whole.{reading-sound, reading-complete}
use Rattle.fx_early_source.proofs.read.Goals as goal

read_is : (text : List ℕ) (r : Result (Vec ℕ Global) SourceError) → Reads (λ v. v.items) r (reading 1000 text) → IfOk r (λ v. IsProgram text v.items)
read_is text (Ok v) found = reading-sound text v.items found
read_is text (Err e) found = tt

refused_is : (text : List ℕ) (r : Result (Vec ℕ Global) SourceError) → Reads (λ v. v.items) r (reading 1000 text) → IsErrOf r Form → (constants : List ℕ) → IsProgram text constants → ⊥
refused_is text (Ok v) found wrong constants p = cc
refused_is text (Err Form) found same constants p = none-some constants (sym found ∙ reading-complete text constants p)
refused_is text (Err OutOfMemory) found wrong constants p = cc

pub returns-clause-read : goal.returns-clause-read
returns-clause-read c = read_is c.args.text.now c.program.result c.program.ensures

pub returns-clause-refused : goal.returns-clause-refused
returns-clause-refused c = refused_is c.args.text.now c.program.result c.program.ensures
