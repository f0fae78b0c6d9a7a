-- The words of the commands `run IMAGE` and `exec CONF IMAGE` with the options of a run.
use Rattle.std.specs.Prelude.{ℕ, ◌+◌, ◌*◌, ◌-◌, ◌^◌, ◌==◌, Bool, false, not, ◌&&◌, nat_le, nat_lt, if◌then◌else◌, List, [], ◌∷◌, Option, Some, None, option_map, option_and_then, codes, bytes_eq}

-- ---- numbers

-- The number of some decimal digits, behind others; none where one is no digit, or it is past 64 bits.
abbrev pub next_number : ℕ → ℕ → Option ℕ
next_number so_far digit =
    if nat_le 48 digit && nat_le digit 57 && nat_lt (so_far * 10 + (digit - 48)) (2 ^ 64) then Some (so_far * 10 + (digit - 48)) else None

abbrev pub digits_number : ℕ → List ℕ → Option ℕ
digits_number so_far [] = Some so_far
digits_number so_far (digit ∷ rest) = option_and_then (λ n. digits_number n rest) (next_number so_far digit)

-- A number is `0`, or digits without a leading zero.
abbrev pub number_of : List ℕ → Option ℕ
number_of [] = None
number_of (digit ∷ []) = digits_number 0 (digit ∷ [])
number_of (digit ∷ next ∷ rest) = if digit == 48 then None else digits_number 0 (digit ∷ next ∷ rest)

-- ---- options

-- A file's name is a word of at least one byte that doesn't begin with a dash.
abbrev pub is_file_name : List ℕ → Bool
is_file_name [] = false
is_file_name (first ∷ rest) = not (first == 45)

-- The options that were given: the most turns, the file of the schedule, and the device to be unplugged with
-- the number of its operations before.
pub record Given : Type 0 where
  pub steps : Option ℕ
  pub schedule : Option (List ℕ)
  pub unplug : Option (ℕ × ℕ)

-- A value for an option that wasn't given yet.
abbrev pub first_time : {A : Type 0} → Option A → Option A → Option A
first_time None value = value
first_time (Some x) value = None

abbrev pub with_steps : List ℕ → Given → Option Given
with_steps word o = option_map (λ n. record o { steps = Some n }) (first_time o.steps (number_of word))

abbrev pub with_schedule : List ℕ → Given → Option Given
with_schedule word o = option_map (λ name. record o { schedule = Some name }) (first_time o.schedule (if is_file_name word then Some word else None))

-- The device is one of 1 to 15.
abbrev pub device_of : ℕ → Option ℕ
device_of n = if nat_le 1 n && nat_le n 15 then Some n else None

abbrev pub plug_of : List ℕ → List ℕ → Option (ℕ × ℕ)
plug_of device count =
    option_and_then (λ d. option_map (λ n. (d, n)) (number_of count)) (option_and_then device_of (number_of device))

abbrev pub with_unplug : List ℕ → List ℕ → Given → Option Given
with_unplug device count o = option_map (λ u. record o { unplug = Some u }) (first_time o.unplug (plug_of device count))

-- An option with one value.
abbrev pub with_option : List ℕ → List ℕ → Given → Option Given
with_option flag value o =
    if bytes_eq flag (codes "--steps") then with_steps value o
    else if bytes_eq flag (codes "--schedule") then with_schedule value o
    else None

-- All options, in any order.
abbrev pub options_of : List (List ℕ) → Given → Option Given
options_of [] o = Some o
options_of (flag ∷ []) o = None
options_of (flag ∷ value ∷ []) o = with_option flag value o
options_of (flag ∷ value ∷ next ∷ rest) o =
    if bytes_eq flag (codes "--unplug") then option_and_then (options_of rest) (with_unplug value next o)
    else option_and_then (options_of (next ∷ rest)) (with_option flag value o)

abbrev pub none_given : Given
none_given = record { steps = None; schedule = None; unplug = None }

-- An image's name, and the options of its run.
pub record RunGiven : Type 0 where
  pub image : List ℕ
  pub options : Given

-- ---- commands

-- The image and the options, behind a command.
abbrev pub run_behind : List (List ℕ) → Option RunGiven
run_behind [] = None
run_behind (image ∷ rest) =
    if is_file_name image then option_map (λ o. record { image = image; options = o }) (options_of rest none_given) else None

-- The command `run IMAGE`.
abbrev pub run_words : List (List ℕ) → Option RunGiven
run_words [] = None
run_words (command ∷ rest) = if bytes_eq command (codes "run") then run_behind rest else None

-- The command `exec CONF IMAGE`: the configuration, and the run of the image that is built.
pub record ExecGiven : Type 0 where
  pub config : List ℕ
  pub run : RunGiven

abbrev pub exec_words : List (List ℕ) → Option ExecGiven
exec_words [] = None
exec_words (command ∷ []) = None
exec_words (command ∷ config ∷ rest) =
    if bytes_eq command (codes "exec") && is_file_name config then option_map (λ r. record { config = config; run = r }) (run_behind rest) else None
