-- What the files hold over the stages of a command.
use Rattle.std.proofs.Common.{◌≡◌, ℕ, List, Option, Some, None, Result, Ok, Err, IfOk, IfErr, sym, ◌∙◌}
use Rattle.fx_base.specs.Told.{Told}
use Rattle.fx_base.specs.Files.{Held, SameFiles, SameElsewhere}
use Rattle.fx_image.specs.Rules.{IsImage}
use Rattle.fx_image.specs.Spelling.{image_spelling}
use Rattle.fx_image.specs.declared.forms.Image.{Image}
use Rattle.fx_early_image.specs.Layout.{early_image}
use Rattle.fx_early_image.specs.Faithful.{EarlyFaithful}
use Rattle.fx_run_core.proofs.Telling.{told_join}
use Rattle.fx_cmd_load.specs.Reading.{source_limit, HasContent, LeavesCount}
use Rattle.fx_cmd_load.proofs.Stages.{was_before, counted_twice, fault_leaves}
use Rattle.fx_cmd_exec.specs.declared.unbuilt.Unbuilt.{Unbuilt}
use Rattle.fx_cmd_exec.specs.Lines.{source_name}
use Rattle.fx_cmd_exec.specs.declared.unbuilt.Unbuilt.TheVariants.{Other, FileFault, OutOfMemory}
use Rattle.fx_cmd_exec.specs.declared.unbuilt.Which.TheVariants as which
use Rattle.fx_cmd_exec.specs.Causes.{HasProgram, ImageCause, UnbuiltLeaves, early_document}
use Rattle.fx_cmd_exec.specs.Builds.{Builds, Writes}

pub same_twice : (a b c : Option Held) → Told SameFiles a b → Told SameFiles b c → Told SameFiles a c
same_twice a b c = told_join SameFiles SameFiles SameFiles (λ x y z p q. λ name. q name ∙ p name) a b c

pub program_before : (a b : Option Held) (constants : List ℕ) → Told SameFiles a b → HasProgram b constants → HasProgram a constants
program_before a b constants same p = (p.0, was_before source_limit a b source_name p.0 same p.1, p.2)

pub written_after : (a b c : Option Held) (name bytes : List ℕ) → Told SameFiles a b → Told (λ (old new : Held). new name ≡ Some bytes) b c → Told (λ (old new : Held). new name ≡ Some bytes) a c
written_after a b c name bytes same written = told_join SameFiles (λ (old new : Held). new name ≡ Some bytes) (λ (old new : Held). new name ≡ Some bytes) (λ x y z p q. q) a b c same written

pub others_after : (a b c : Option Held) (name : List ℕ) → Told SameFiles a b → Told (SameElsewhere name) b c → Told (SameElsewhere name) a c
others_after a b c name same others = told_join SameFiles (SameElsewhere name) (SameElsewhere name) (λ x y z p q. λ other differs. q other differs ∙ p other) a b c same others

-- the parts of what was built
pub built : (config : List ℕ) (held : Option Held) (constants : List ℕ) (r : Result Image Unbuilt) → HasContent held config early_document → HasProgram held constants
    → IfOk r (λ i. i ≡ early_image constants) → IfOk r (λ i. IsImage i) → IfOk r (λ i. EarlyFaithful constants i) → IfOk r (λ i. (x : List ℕ) × Builds config held x i)
built config held constants (Ok i) configured program value rules faithful = (constants, record { configured = configured; program = program; value = value; rules = rules; faithful = faithful })
built config held constants (Err why) configured program value rules faithful = tt

pub writes : (name : List ℕ) (a b c : Option Held) (r : Result Image Unbuilt) → Told SameFiles a b → IfOk r (λ i. Told (λ (old new : Held). new name ≡ Some (image_spelling i)) b c) → Told (SameElsewhere name) b c → IfOk r (λ i. Writes name i a c)
writes name a b c (Ok i) same written others = record { written = written_after a b c name (image_spelling i) same written; others = others_after a b c name same others }
writes name a b c (Err why) same written others = tt

-- what was written stands under its name as long as nothing changes
pub writes_after : (name : List ℕ) (image : Image) (a b c : Option Held) → Writes name image a b → Told SameFiles b c → Writes name image a c
writes_after name image a b c w same = record {
  written = told_join (λ (old new : Held). new name ≡ Some (image_spelling image)) SameFiles (λ (old new : Held). new name ≡ Some (image_spelling image)) (λ x y z p q. q name ∙ p) a b c w.written same;
  others = told_join (SameElsewhere name) SameFiles (SameElsewhere name) (λ x y z p q. λ other differs. q other ∙ p other differs) a b c w.others same;
}

pub same_back : (a b : Option Held) → Told SameFiles a b → Told SameFiles b a
same_back None None same = tt
same_back None (Some y) same = absurd same
same_back (Some x) None same = absurd same
same_back (Some x) (Some y) same = λ name. sym (same name)

-- ---- the count of faults

-- a stage behind one that left the count
pub unbuilt_leaves : (a b : Option Held) (first before now : ℕ) (why : Unbuilt) → Told SameFiles a b → LeavesCount a first before → UnbuiltLeaves b before now why → UnbuiltLeaves a first now why
unbuilt_leaves a b first before now (Other form) same p q = counted_twice a b first before now same p q
unbuilt_leaves a b first before now (FileFault which.Config error) same p q = fault_leaves error a b first before now same p q
unbuilt_leaves a b first before now (FileFault which.Source error) same p q = fault_leaves error a b first before now same p q
unbuilt_leaves a b first before now (FileFault which.Image error) same p q = tt
unbuilt_leaves a b first before now OutOfMemory same p q = tt

-- the writing of the image is free of it
pub image_leaves : (held : Option Held) (first before now : ℕ) (why : Unbuilt) → ImageCause before now why → UnbuiltLeaves held first now why
image_leaves held first before now (Other form) cause = absurd cause
image_leaves held first before now (FileFault which.Config error) cause = absurd cause
image_leaves held first before now (FileFault which.Source error) cause = absurd cause
image_leaves held first before now (FileFault which.Image error) cause = tt
image_leaves held first before now OutOfMemory cause = tt

pub image_leaving : (held : Option Held) (first before now : ℕ) (r : Result Image Unbuilt) → IfErr r (ImageCause before now) → IfErr r (UnbuiltLeaves held first now)
image_leaving held first before now (Ok i) cause = tt
image_leaving held first before now (Err why) cause = image_leaves held first before now why cause
