-- What operations put out and take in, and what a source and a sink tell of it.
use Rattle.std.specs.Prelude.{ℕ, ◌≡◌, ◌-◌, ◌^◌, ◌%◌, ◌==◌, ◌&&◌, Bool, not, if◌then◌else◌, List, [], ◌∷◌, ◌++◌, drop, Option, Some, None}
use Rattle.std.specs.List.{flat_map}
use Rattle.fx_base.specs.declared.device_op.DeviceOp.{DeviceOp}

-- what a load of 64 bits gets where there is nothing
abbrev pub all_ones : ℕ
all_ones = 2 ^ 64 - 1

abbrev pub is_console : DeviceOp → Bool
is_console op = (op.device == 0) && (op.reg == 0)

-- the byte that an operation puts out: the lowest of a store to the console's register 0
abbrev pub output_of : DeviceOp → List ℕ
output_of op = if is_console op && op.write then (op.value % 256) ∷ [] else []

abbrev pub outputs : List DeviceOp → List ℕ
outputs ops = flat_map output_of ops

-- what an operation took of the input: the value of a load of that register
abbrev pub input_of : DeviceOp → List ℕ
input_of op = if is_console op && not op.write then op.value ∷ [] else []

abbrev pub inputs : List DeviceOp → List ℕ
inputs ops = flat_map input_of ops

-- the values are the bytes that a source lost, in order, and all ones after its end
abbrev pub Reads : List ℕ → List ℕ → List ℕ → Type 0
Reads [] start left = left ≡ start
Reads (v ∷ vs) [] left = (v ≡ all_ones) × Reads vs [] left
Reads (v ∷ vs) (b ∷ bs) left = (v ≡ b) × Reads vs bs left

-- it may have lost one more
abbrev pub ReadsMore : List ℕ → List ℕ → List ℕ → Type 0
ReadsMore values start left = (middle : List ℕ) × Reads values start middle × (left ≡ drop 1 middle)

-- what a load of the console is answered, by what the source had and has; one that fails takes nothing
abbrev pub Answers : Option ℕ → List ℕ → List ℕ → Type 0
Answers None left after = after ≡ left
Answers (Some answer) left after = Reads (answer ∷ []) left after

-- a sink gained these bytes without the last one
abbrev pub GainedButLast : List ℕ → List ℕ → List ℕ → Type 0
GainedButLast bytes start now = (front : List ℕ) × (last : ℕ) × (bytes ≡ front ++ last ∷ []) × (now ≡ start ++ front)

abbrev pub Same : List ℕ → List ℕ → Type 0
Same old new = new ≡ old

-- one byte was lost, if there was one
abbrev pub LostOne : List ℕ → List ℕ → Type 0
LostOne old new = new ≡ drop 1 old
