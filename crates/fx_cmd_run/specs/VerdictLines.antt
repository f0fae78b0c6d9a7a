-- The line of a run's end.
use Rattle.std.specs.Prelude.{ℕ, if◌then◌else◌, List, [], ◌∷◌, ◌++◌, Option, Some, None, slice_get, codes}
use Rattle.std.specs.Fmt.{decimal, signed_decimal}
use Rattle.fx_image.specs.Layout.{has_halves}
use Rattle.fx_image.specs.declared.find.Found.{Found}
use Rattle.fx_image.specs.declared.find.Found.TheVariants.{Object, Stack, Nothing}
use Rattle.fx_image.specs.declared.forms.Comp.{Comp}
use Rattle.fx_image.specs.declared.forms.Image.{Image}
use Rattle.fx_image.specs.declared.forms.Obj.{Obj}
use Rattle.fx_cmd_base.specs.Hex.{hex}
use Rattle.fx_cmd_run.specs.declared.verdict.Verdict.{Verdict}
use Rattle.fx_cmd_run.specs.declared.verdict.Verdict.TheVariants.{Exited, Denied, StackFull, Divide}
use Rattle.fx_cmd_run.specs.declared.verdict.Verdict.TheVariants.{BadThread, ThreadsFull, Invalid}
use Rattle.fx_cmd_run.specs.declared.verdict.Verdict.TheVariants.{Protection, Aborted, Page, Spent}
use Rattle.fx_cmd_run.specs.declared.verdict.Verdict.TheVariants.{DeviceFault, ReadFault}
use Rattle.fx_cmd_run.specs.declared.verdict.Verdict.TheVariants.{WriteFault, OutOfMemory}

-- A compartment by its name; what no compartment is has another word.
abbrev pub comp_name : Option Comp → List ℕ → List ℕ
comp_name None other = other
comp_name (Some c) other = c.name

abbrev pub name_in : Image → ℕ → List ℕ → List ℕ
name_in image c other = comp_name (slice_get image.compartments c) other

abbrev pub object_name : Option Obj → List ℕ
object_name None = codes "none"
object_name (Some o) = o.name

-- What was denied, and how far in it. Where a thread has one stack for all compartments, the thread alone is told.
abbrev pub place_words : Image → Found → List ℕ
place_words image (Object object offset) = object_name (slice_get image.objects object) ++ (codes "+" ++ decimal offset)
place_words image (Stack thread compartment offset) =
    codes "stack " ++ (decimal thread ++ ((if has_halves image.mechanism then codes "/" ++ name_in image compartment (codes "none") else []) ++ (codes "+" ++ decimal offset)))
place_words image Nothing = codes "none"

abbrev pub stack_name : Image → ℕ → List ℕ
stack_name image stack = if has_halves image.mechanism then name_in image stack (decimal stack) else codes "common"

abbrev pub words_of : Image → Verdict → List ℕ
words_of image (Exited value turns) = codes "exit " ++ (signed_decimal value ++ (codes " in " ++ (decimal turns ++ codes " turns")))
words_of image (Denied domain place write) =
    codes "denied: compartment " ++ (name_in image domain (codes "none") ++ ((if write then codes " write " else codes " read ") ++ place_words image place))
words_of image (StackFull thread stack) = codes "stack full: thread " ++ (decimal thread ++ (codes " stack " ++ stack_name image stack))
words_of image Divide = codes "divide"
words_of image BadThread = codes "bad thread"
words_of image ThreadsFull = codes "threads full"
words_of image Invalid = codes "broken: invalid"
words_of image Protection = codes "broken: protection"
words_of image Aborted = codes "broken: aborted"
words_of image (Page address) = codes "broken: page " ++ hex address
words_of image (Spent turns) = codes "steps spent: " ++ decimal turns
words_of image (DeviceFault device) = codes "device fault: " ++ decimal device
words_of image ReadFault = codes "read fault"
words_of image WriteFault = codes "write fault"
words_of image OutOfMemory = codes "out of memory"

-- The line, ended by a line feed.
abbrev pub line_of : Image → Verdict → List ℕ
line_of image verdict = words_of image verdict ++ 10 ∷ []
