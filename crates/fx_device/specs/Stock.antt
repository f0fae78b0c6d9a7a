-- The rules of the devices in memory.
use Rattle.std.specs.Prelude.{◌≡◌, ℕ, ◌+◌, ◌%◌, ◌^◌, Bool, false, ◌&&◌, nat_eq, ◌==◌, List, [], ◌∷◌, drop, slice_index, slice_set, Option, Some, None, is_some, is_none, bytes_eq, if◌then◌else◌}
use Rattle.std.specs.List.{list_any}
use Rattle.fx_base.specs.Faults.{counted}
use Rattle.fx_device.specs.Rules.{Held, held, LoadRule, StoreRule}

-- two states are one
abbrev pub same_held : Held → Held → Bool
same_held a b = bytes_eq a.state b.state && nat_eq a.faults b.faults

-- the answer is this value
abbrev pub is_value : Option ℕ → ℕ → Bool
is_value None value = false
is_value (Some v) value = nat_eq v value

-- a device that never fails: what a register's load gives and leaves, and what its store leaves
abbrev pub loads_always : (List ℕ → ℕ → ℕ) → (List ℕ → ℕ → List ℕ) → LoadRule
loads_always value next before reg answer after = is_value answer (value before.state reg) && same_held after (held (next before.state reg) before.faults)

abbrev pub stores_always : (List ℕ → ℕ → ℕ → List ℕ) → StoreRule
stores_always next before reg v done after = done && same_held after (held (next before.state reg v) before.faults)

-- ---- a store of words: its state is the position and then the words

-- register 0 is the position and register 1 the word there, or 0 past the end; every other register is 0
abbrev pub word_value : List ℕ → ℕ → ℕ
word_value state reg =
    if reg == 0 then slice_index state 0
    else if reg == 1 then slice_index (drop 1 state) (slice_index state 0)
    else 0

abbrev pub word_kept : List ℕ → ℕ → List ℕ
word_kept state reg = state

-- a store to register 0 sets the position, one to register 1 the word there, if it is not past the end
abbrev pub word_stored : List ℕ → ℕ → ℕ → List ℕ
word_stored state reg v =
    if reg == 0 then v ∷ drop 1 state
    else if reg == 1 then slice_index state 0 ∷ slice_set (drop 1 state) (slice_index state 0) v
    else state

-- ---- a counter: its state is the number

-- register 0 is the number, and every other register is 0
abbrev pub count_value : List ℕ → ℕ → ℕ
count_value state reg = if reg == 0 then slice_index state 0 else 0

-- a load of register 0 adds one, modulo 2 ^ 64
abbrev pub count_next : List ℕ → ℕ → List ℕ
count_next state reg = if reg == 0 then (slice_index state 0 + 1) % 2 ^ 64 ∷ [] else state

abbrev pub count_stored : List ℕ → ℕ → ℕ → List ℕ
count_stored state reg v = if reg == 0 then v ∷ [] else state

-- ---- a device that fails at listed calls: its state is the number of calls that succeeded, and then the inner one's

-- whether the number of the next call is listed: one more than the calls that succeeded and those that failed
abbrev pub fails_next : List ℕ → Held → Bool
fails_next failing before = list_any (λ number. nat_eq number (slice_index before.state 0 + before.faults + 1)) failing

-- a call that fails leaves the state and counts a fault
abbrev pub after_fault : Held → Held
after_fault before = held before.state (counted before.faults)

-- one more call succeeded, and no fault came
abbrev pub counts_success : Held → Held → Bool
counts_success before after = nat_eq (slice_index after.state 0) (counted (slice_index before.state 0)) && nat_eq after.faults before.faults

-- the state of the inner device, which never fails, beside its count of faults
abbrev pub inner_of : ℕ → Held → Held
inner_of faults outer = held (drop 1 outer.state) faults

abbrev pub loads_failing : List ℕ → ℕ → LoadRule → LoadRule
loads_failing failing faults inner before reg answer after =
    if fails_next failing before then is_none answer && same_held after (after_fault before)
    else is_some answer && counts_success before after && inner (inner_of faults before) reg answer (inner_of faults after)

abbrev pub stores_failing : List ℕ → ℕ → StoreRule → StoreRule
stores_failing failing faults inner before reg v done after =
    if fails_next failing before then if done then false else same_held after (after_fault before)
    else done && counts_success before after && inner (inner_of faults before) reg v done (inner_of faults after)

-- no call of a device with these rules fails
abbrev pub NeverFails : LoadRule → StoreRule → Type 0
NeverFails loads stores = ((before : Held) (reg : ℕ) (after : Held) → loads before reg None after ≡ false) × ((before : Held) (reg v : ℕ) (after : Held) → stores before reg v false after ≡ false)
