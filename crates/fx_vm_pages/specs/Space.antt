use Rattle.std.specs.Prelude.{ℕ, ◌≡◌, ◌==◌, if◌then◌else◌, Option, Some, None, IsSome, Result, Ok, Err}
use Rattle.std.specs.Ordering.{nat_cmp}
use Rattle.std.specs.BTreeMap.{get}
use Rattle.fx_vm_pages.specs.declared.entry.Entry.{Entry}
use Rattle.fx_vm_pages.specs.declared.space.MapError.{MapError}
use Rattle.fx_vm_pages.specs.declared.space.MapError.TheVariants.{Taken, OutOfMemory}
use Rattle.fx_vm_pages.specs.declared.space.Space.{Space}

-- What an address space shows: the entry of each page.
abbrev pub entry_of : Space → ℕ → Option Entry
entry_of space page = get nat_cmp space.pages page

abbrev pub SameEntries : Space → Space → Type 0
SameEntries before after = (page : ℕ) → entry_of after page ≡ entry_of before page

-- A page gets its entry where it had none, and every other page keeps its own; else nothing changes.
abbrev pub Maps : Space → ℕ → Entry → Result (Unit {0}) MapError → Space → Type 0
Maps before page entry (Ok done) after =
    (entry_of before page ≡ None) × ((other : ℕ) → entry_of after other ≡ (if other == page then Some entry else entry_of before other))
Maps before page entry (Err Taken) after = IsSome (entry_of before page) × SameEntries before after
Maps before page entry (Err OutOfMemory) after = (entry_of before page ≡ None) × SameEntries before after
