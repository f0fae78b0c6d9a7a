-- What the command came to, at a program that isn't one of constant output, from its stages.
use Rattle.std.proofs.Common.{◌≡◌, ℕ, ◌≤◌, List, Option, Some, None, Result}
use Rattle.std.proofs.Common.{[], ◌∷◌, ◌++◌, codes, inl, inr, refl, subst, sym}
use Rattle.fx_base.specs.Told.{Told}
use Rattle.fx_base.specs.Files.{Held, SameFiles}
use Rattle.fx_device.specs.Rules.{Meaning}
use Rattle.fx_image.specs.declared.forms.Image.{Image}
use Rattle.fx_cmd_load.specs.Reading.{LeavesCount}
use Rattle.fx_cmd_base.specs.Words.{ExecGiven}
use Rattle.fx_cmd_base.specs.Streams.{Streams}
use Rattle.fx_base.specs.declared.files.FileError.{FileError}
use Rattle.fx_cmd_base.specs.RefusalWords.{file_fault}
use Rattle.fx_cmd_base.specs.Ends.{ErrorStream, Ended, EndedOrWanted}
use Rattle.fx_cmd_build.specs.Builds.{BuildsImage}
use Rattle.fx_cmd_run.specs.Comes.{ImageComes}
use Rattle.fx_cmd_run.specs.Reports.{Reports}
use Rattle.fx_cmd_run.specs.declared.command.Finished.{Finished}
use Rattle.fx_cmd_run.specs.declared.load.Unbegun.{Unbegun}
use Rattle.fx_cmd_run.proofs.Late.{image_before}
use Rattle.fx_cmd_exec.specs.Causes.{UnbuiltLeaves}
use Rattle.fx_cmd_exec.specs.Builds.{WhyUnbuilt}
use Rattle.fx_cmd_exec.specs.declared.unbuilt.Unbuilt.{Unbuilt}
use Rattle.fx_cmd_exec.specs.declared.unbuilt.Unbuilt.TheVariants.{Other, FileFault, OutOfMemory}
use Rattle.fx_cmd_exec.specs.declared.unbuilt.Which.{Which}
use Rattle.fx_cmd_exec.specs.Lines.{name_of}
use Rattle.fx_cmd_exec.specs.Reports.{ReportsUnbuilt}
use Rattle.fx_cmd_exec.specs.declared.unbuilt.Other.{Other as Form}
use Rattle.fx_cmd_exec.specs.declared.unbuilt.Other.TheVariants as other
use Rattle.fx_cmd_exec.specs.Moments.{once_written}
use Rattle.fx_cmd_exec.specs.Any.{IsOther, ExecutesAny, ComesAny, DoesAny}
use Rattle.fx_cmd_exec.proofs.Holding.{writes_after, same_back}

builds_after : (config name : List ℕ) (image : Image) (held mid after : Option Held)
    → BuildsImage config name image held mid → Told SameFiles mid after
    → BuildsImage config name image held after
builds_after config name image held mid after b same =
    let w = writes_after name image held mid after
    (record { written = b.written; others = b.others }) same in
    record {
      k = b.k;
      p = b.p;
      program = b.program;
      plain = b.plain;
      value = b.value;
      rules = b.rules;
      written = w.written;
      others = w.others;
    }

-- an image was run from the moment at which it was written
pub executes_any : (given : ExecGiven) (boxes : List (Option Meaning)) (before after : Streams)
    (held mid : Option Held) (middle result : ℕ) (err : ErrorStream) (image : Image)
    (came : Result Finished Unbegun)
    → BuildsImage given.config given.run.image image held mid → before.file_faults ≤ middle
    → Told SameFiles mid after.held
    → ImageComes given.run.options boxes (record before { held = mid; file_faults = middle }) after
    image came
    → Reports given.run came result err → ExecutesAny given boxes before after held result err
executes_any given boxes before after held mid middle result err image came b later same comes
    reports = record {
      image = image;
      builds = builds_after given.config given.run.image image held mid after.held b same;
      came = came;
      comes = image_before given.run.options boxes (once_written before after) after mid middle image
          came later (same_back mid after.held same) comes;
      reports = reports;
    }

same_refl : (held : Option Held) → Told SameFiles held held
same_refl None = tt
same_refl (Some x) = λ name. refl

-- the program is another one, by why it has no image of constant output
is_other : (given : ExecGiven) (held after : Option Held) (before now : ℕ) (form : Form)
    → WhyUnbuilt given held after before now (Other form)
    → IsOther given.config held × Told SameFiles held after
is_other given held after before now other.Config why = (inl why.0, why.1)
is_other given held after before now other.Source why =
    (inr (why.0, why.1.0, why.1.1, why.1.2), why.2)

comes_before : (given : ExecGiven) (boxes : List (Option Meaning)) (before after : Streams)
    (held : Option Held) (faults result : ℕ) (err : ErrorStream) → before.file_faults ≤ faults
    → ComesAny given boxes (record before { held = held; file_faults = faults }) after held faults
    result err
    → ComesAny given boxes before after held faults result err
comes_before given boxes before after held faults result err later (inl e) = inl (record {
  image = e.image;
  builds = e.builds;
  came = e.came;
  comes = image_before given.run.options boxes (once_written before after) after after.held faults
      e.image e.came later (same_back after.held after.held (same_refl after.held)) e.comes;
  reports = e.reports;
})
comes_before given boxes before after held faults result err later (inr n) = inr (record {
  why = n.why;
  cause = n.cause;
  untouched = record {
    input = n.untouched.input;
    input_faults = n.untouched.input_faults;
    output = n.untouched.output;
    output_faults = n.untouched.output_faults;
  };
  reports = n.reports;
})

-- the program was found to be another one, and then built
pub does_any : (given : ExecGiven) (boxes : List (Option Meaning)) (before after : Streams)
    (mid : Option Held) (middle result : ℕ) (err : ErrorStream) (form : Form)
    → WhyUnbuilt given before.held mid before.file_faults middle (Other form)
    → LeavesCount before.held before.file_faults middle → before.file_faults ≤ middle
    → ComesAny given boxes (record before { held = mid; file_faults = middle }) after mid middle
    result err
    → DoesAny given boxes before after result err
does_any given boxes before after mid middle result err form why counted later comes =
    let x = is_other given before.held mid before.file_faults middle form why in
    record {
      other = x.0;
      held = mid;
      faults = middle;
      read = record { same = x.1; counted = counted };
      does = comes_before given boxes before after mid middle result err later comes;
    }

pub does_other : (given : ExecGiven) (boxes : List (Option Meaning)) (before after : Streams)
    (mid : Option Held) (middle result : ℕ) (err : ErrorStream) (why : Unbuilt) (form : Form)
    → why ≡ Other form
    → WhyUnbuilt given before.held mid before.file_faults middle why
    → UnbuiltLeaves before.held before.file_faults middle why → before.file_faults ≤ middle
    → ComesAny given boxes (record before { held = mid; file_faults = middle }) after mid middle
    result err
    → DoesAny given boxes before after result err
does_other given boxes before after mid middle result err why form is cause counted later comes =
    does_any given boxes before after mid middle result err form
    (subst (WhyUnbuilt given before.held mid before.file_faults middle) is cause)
    (subst (UnbuiltLeaves before.held before.file_faults middle) is counted) later comes

-- ---- a program of constant output that has no image

pub fault_reported : (given : ExecGiven) (why : Unbuilt) (which : Which) (error : FileError)
    (name : List ℕ) (result : ℕ) (err : ErrorStream) → why ≡ FileFault which error
    → name ≡ name_of given which → EndedOrWanted 4 (file_fault name error ++ 10 ∷ []) result err
    → ReportsUnbuilt given why result err
fault_reported given why which error name result err is named said =
    subst (λ w. ReportsUnbuilt given w result err) (sym is)
    (subst (λ n. EndedOrWanted 4 (file_fault n error ++ 10 ∷ []) result err) named said)

pub memory_reported : (given : ExecGiven) (why : Unbuilt) (result : ℕ) (err : ErrorStream)
    → why ≡ OutOfMemory → Ended 6 (codes "out of memory\n") result err
    → ReportsUnbuilt given why result err
memory_reported given why result err is said =
    subst (λ w. ReportsUnbuilt given w result err) (sym is) said
