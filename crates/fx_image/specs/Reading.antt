-- Reading an image from left to right, with the first fault that is met: each field is taken whole,
-- and then its rule is tried.
use Rattle.std.specs.Prelude.{◌≡◌, ℕ, zero, suc, ◌==◌, nat_lt, if◌then◌else◌, List, [], ◌∷◌, length, take, drop, Option, Some, None, Result, Ok, Err}
use Rattle.std.specs.Int.{w16, w32, w64, from_le_bytes}
use Rattle.std.specs.Str.{bytes_eq}
use Rattle.fx_image.specs.Spelling.{magic}
use Rattle.fx_image.specs.Rules.{is_version, is_mechanism, is_count, are_stacks, are_compartments}
use Rattle.fx_image.specs.Rules.{are_sections, is_code, are_literals, are_objects, are_entries}
use Rattle.fx_image.specs.Rules.{are_stubs, is_in_runtime, are_owners, are_starts, first_unlisted}
use Rattle.fx_image.specs.declared.error.ImageError.{ImageError}
use Rattle.fx_image.specs.declared.error.ImageError.TheVariants.{Magic, Version, Short, Extra, Field, KeySequence, OutOfMemory}
use Rattle.fx_image.specs.declared.forms.Comp.{Comp}
use Rattle.fx_image.specs.declared.forms.Section.{Section}
use Rattle.fx_image.specs.declared.forms.Obj.{Obj}
use Rattle.fx_image.specs.declared.forms.EntryRec.{EntryRec}
use Rattle.fx_image.specs.declared.forms.Stub.{Stub}
use Rattle.fx_image.specs.declared.forms.Start.{Start}
use Rattle.fx_image.specs.declared.forms.Image.{Image}
use Rattle.fx_image.specs.declared.reading.Head.{Head}
use Rattle.fx_image.specs.declared.reading.Front.{Front}

infixl 10 ◌>>=◌
abbrev pub ◌>>=◌ : {A B : Type 0} → Result A ImageError → (A → Result B ImageError) → Result B ImageError
(Ok x) >>= f = f x
(Err e) >>= f = Err e

-- an error is the one that reading gives, unless memory ran out
abbrev pub Fails : {Y : Type 0} → ImageError → Result Y ImageError → Type 0
Fails Magic read = read ≡ Err Magic
Fails Version read = read ≡ Err Version
Fails Short read = read ≡ Err Short
Fails Extra read = read ≡ Err Extra
Fails (Field n) read = read ≡ Err (Field n)
Fails (KeySequence at) read = read ≡ Err (KeySequence at)
Fails OutOfMemory read = Unit {0}

-- What a function returned, seen by view, is what reading gives, unless memory ran out.
abbrev pub Gives : {X Y : Type 0} → (X → Y) → Result X ImageError → Result Y ImageError → Type 0
Gives view (Ok x) read = read ≡ Ok (view x)
Gives view (Err e) read = Fails e read

-- What is read: a value, and the bytes after it.
abbrev pub Read : Type 0 → Type 0
Read X = Result (X × List ℕ) ImageError

-- this many bytes
unfoldable pub bytes_at : ℕ → List ℕ → Read (List ℕ)
bytes_at n bytes = if nat_lt (length bytes) n then Err Short else Ok (take n bytes, drop n bytes)

unfoldable pub u8_at : List ℕ → Read ℕ
u8_at [] = Err Short
u8_at (b ∷ bytes) = Ok (b, bytes)

unfoldable pub u16_at : List ℕ → Read ℕ
u16_at bytes = bytes_at 2 bytes >>= λ x. Ok (from_le_bytes w16 x.0, x.1)

unfoldable pub u32_at : List ℕ → Read ℕ
u32_at bytes = bytes_at 4 bytes >>= λ x. Ok (from_le_bytes w32 x.0, x.1)

unfoldable pub u64_at : List ℕ → Read ℕ
u64_at bytes = bytes_at 8 bytes >>= λ x. Ok (from_le_bytes w64 x.0, x.1)

-- a length in one byte, and the bytes
unfoldable pub name_at : List ℕ → Read (List ℕ)
name_at bytes = u8_at bytes >>= λ n. bytes_at n.0 n.1

-- a length in four bytes, and the bytes
unfoldable pub block_at : List ℕ → Read (List ℕ)
block_at bytes = u32_at bytes >>= λ n. bytes_at n.0 n.1

unfoldable pub comp_at : List ℕ → Read Comp
comp_at bytes = do
  name ← name_at bytes
  start ← u32_at name.1
  len ← u32_at start.1
  pkru ← u32_at len.1
  Ok (record { name = name.0; start = start.0; len = len.0; pkru = pkru.0 }, pkru.1)

-- readers and writers: in version 1 one set for both
unfoldable pub pair_at : ℕ → List ℕ → Read (ℕ × ℕ)
pair_at version bytes = do
  first ← u16_at bytes
  if version == 1 then Ok ((first.0, first.0), first.1) else (u16_at first.1 >>= λ second. Ok ((first.0, second.0), second.1))

unfoldable pub section_at : ℕ → List ℕ → Read Section
section_at version bytes = do
  pair ← pair_at version bytes
  key ← u8_at pair.1
  page ← u32_at key.1
  pages ← u32_at page.1
  Ok (record { readers = pair.0.0; writers = pair.0.1; key = key.0; page = page.0; pages = pages.0 }, pages.1)

unfoldable pub obj_at : List ℕ → Read Obj
obj_at bytes = do
  name ← name_at bytes
  section ← u16_at name.1
  address ← u64_at section.1
  size ← u32_at address.1
  initial ← block_at size.1
  Ok (record { name = name.0; section = section.0; address = address.0; size = size.0; initial = initial.0 }, initial.1)

unfoldable pub entry_at : List ℕ → Read EntryRec
entry_at bytes = do
  name ← name_at bytes
  compartment ← u8_at name.1
  number ← u16_at compartment.1
  callers ← u16_at number.1
  Ok (record { name = name.0; compartment = compartment.0; number = number.0; callers = callers.0 }, callers.1)

unfoldable pub stub_at : List ℕ → Read Stub
stub_at bytes = do
  from ← u8_at bytes
  to ← u8_at from.1
  entry ← u16_at to.1
  offset ← u32_at entry.1
  first ← u32_at offset.1
  second ← u32_at first.1
  Ok (record { from = from.0; to = to.0; entry = entry.0; offset = offset.0; first = first.0; second = second.0 }, second.1)

unfoldable pub start_at : List ℕ → Read Start
start_at bytes = do
  rip ← u32_at bytes
  rsp ← u64_at rip.1
  Ok (record { rip = rip.0; rsp = rsp.0 }, rsp.1)

-- this many records
unfoldable pub records_at : {X : Type 0} → (List ℕ → Read X) → ℕ → List ℕ → Read (List X)
records_at at zero bytes = Ok ([], bytes)
records_at at (suc n) bytes = do
  first ← at bytes
  others ← records_at at n first.1
  Ok (first.0 ∷ others.0, others.1)

-- a table whose count has two bytes
unfoldable pub table_at : {X : Type 0} → (List ℕ → Read X) → List ℕ → Read (List X)
table_at at bytes = u16_at bytes >>= λ count. records_at at count.0 count.1

-- a table whose count has four bytes
unfoldable pub long_table_at : {X : Type 0} → (List ℕ → Read X) → List ℕ → Read (List X)
long_table_at at bytes = u32_at bytes >>= λ count. records_at at count.0 count.1

unfoldable pub known_at : List ℕ → Read ℕ
known_at bytes = do
  version ← u16_at bytes
  if is_version version.0 then Ok version else Err Version

-- the magic bytes and the version
unfoldable pub version_at : List ℕ → Read ℕ
version_at bytes = do
  first ← bytes_at 4 bytes
  if bytes_eq first.0 magic then known_at first.1 else Err Magic

-- version 1 has 8 threads and no byte for them
unfoldable pub threads_at : ℕ → List ℕ → Read ℕ
threads_at version bytes = if version == 1 then Ok (8, bytes) else u8_at bytes

unfoldable pub mechanism_at : List ℕ → Read ℕ
mechanism_at bytes = do
  mechanism ← u8_at bytes
  if is_mechanism mechanism.0 then Ok mechanism else Err (Field 3)

-- the number of compartments
unfoldable pub count_at : ℕ → List ℕ → Read ℕ
count_at mechanism bytes = do
  count ← u8_at bytes
  if is_count mechanism count.0 then Ok count else Err (Field 4)

-- the pages of a stack and the threads
unfoldable pub sizes_at : ℕ → List ℕ → Read (ℕ × ℕ)
sizes_at version bytes = do
  pages ← u8_at bytes
  threads ← threads_at version pages.1
  Ok ((pages.0, threads.0), threads.1)

unfoldable pub stacks_at : ℕ → List ℕ → Read (ℕ × ℕ)
stacks_at version bytes = do
  sizes ← sizes_at version bytes
  if are_stacks version sizes.0.0 sizes.0.1 then Ok sizes else Err (Field 5)

-- a compartment's number, in the field of this number
unfoldable pub member_at : ℕ → ℕ → List ℕ → Read ℕ
member_at field count bytes = do
  c ← u8_at bytes
  if nat_lt c.0 count then Ok c else Err (Field field)

unfoldable pub head_at : List ℕ → Read Head
head_at bytes = do
  version ← version_at bytes
  mechanism ← mechanism_at version.1
  count ← count_at mechanism.0 mechanism.1
  stacks ← stacks_at version.0 count.1
  scheduler ← member_at 6 count.0 stacks.1
  home ← member_at 7 count.0 scheduler.1
  Ok (record { version = version.0; mechanism = mechanism.0; count = count.0; stack_pages = stacks.0.0; threads = stacks.0.1; scheduler = scheduler.0; home = home.0 }, home.1)

unfoldable pub compartments_at : ℕ → List ℕ → Read (List Comp)
compartments_at count bytes = do
  comps ← records_at comp_at count bytes
  if are_compartments comps.0 then Ok comps else Err (Field 8)

unfoldable pub sections_at : Head → List Comp → List ℕ → Read (List Section)
sections_at head comps bytes = do
  sections ← table_at (section_at head.version) bytes
  if are_sections head.version head.mechanism head.scheduler comps sections.0 then Ok sections else Err (Field 9)

unfoldable pub code_at : List Comp → List ℕ → Read (List ℕ)
code_at comps bytes = do
  code ← block_at bytes
  if is_code comps code.0 then Ok code else Err (Field 10)

unfoldable pub literals_at : List ℕ → Read (List ℕ)
literals_at bytes = do
  literals ← block_at bytes
  if are_literals literals.0 then Ok literals else Err (Field 11)

unfoldable pub objects_at : List Section → List ℕ → Read (List Obj)
objects_at sections bytes = do
  objects ← long_table_at obj_at bytes
  if are_objects sections objects.0 then Ok objects else Err (Field 12)

unfoldable pub entries_at : List Comp → List ℕ → Read (List EntryRec)
entries_at comps bytes = do
  entries ← table_at entry_at bytes
  if are_entries comps entries.0 then Ok entries else Err (Field 13)

unfoldable pub stubs_at : ℕ → List Comp → List ℕ → List EntryRec → List ℕ → Read (List Stub)
stubs_at mechanism comps code entries bytes = do
  stubs ← table_at stub_at bytes
  if are_stubs mechanism comps code entries stubs.0 then Ok stubs else Err (Field 14)

unfoldable pub abort_at : List Comp → List ℕ → List ℕ → Read ℕ
abort_at comps code bytes = do
  abort ← u32_at bytes
  if is_in_runtime comps code abort.0 then Ok abort else Err (Field 15)

unfoldable pub owners_at : ℕ → List ℕ → Read (List ℕ)
owners_at count bytes = do
  owners ← bytes_at 16 bytes
  if are_owners count owners.0 then Ok owners else Err (Field 16)

unfoldable pub starts_at : List ℕ → Read (List Start)
starts_at bytes = u8_at bytes >>= λ count. records_at start_at count.0 count.1

-- what follows where all fields are good and nothing is left
abbrev pub sequences : Image → Option ℕ → Result Image ImageError
sequences i None = Ok i
sequences i (Some at) = Err (KeySequence at)

-- the rule of the last field, that nothing follows, and that no WRPKRU is unlisted
unfoldable pub finished : Image → List ℕ → Result Image ImageError
finished i rest =
    if are_starts i then (if length rest == 0 then sequences i (first_unlisted i.stubs i.code) else Err Extra)
    else Err (Field 17)

-- the fields before the entries
unfoldable pub front_at : List ℕ → Read Front
front_at bytes = do
  head ← head_at bytes
  comps ← compartments_at head.0.count head.1
  sections ← sections_at head.0 comps.0 comps.1
  code ← code_at comps.0 sections.1
  literals ← literals_at code.1
  objects ← objects_at sections.0 literals.1
  Ok (record { head = head.0; compartments = comps.0; sections = sections.0; code = code.0; literals = literals.0; objects = objects.0 }, objects.1)

unfoldable pub back_at : Front → List ℕ → Result Image ImageError
back_at front bytes = do
  entries ← entries_at front.compartments bytes
  stubs ← stubs_at front.head.mechanism front.compartments front.code entries.0 entries.1
  abort ← abort_at front.compartments front.code stubs.1
  owners ← owners_at (length front.compartments) abort.1
  starts ← starts_at owners.1
  finished
      (record {
        version = front.head.version;
        mechanism = front.head.mechanism;
        stack_pages = front.head.stack_pages;
        threads = front.head.threads;
        scheduler = front.head.scheduler;
        home = front.head.home;
        compartments = front.compartments;
        sections = front.sections;
        code = front.code;
        literals = front.literals;
        objects = front.objects;
        entries = entries.0;
        stubs = stubs.0;
        abort = abort.0;
        owners = owners.0;
        starts = starts.0;
      })
      starts.1

-- The image that the bytes spell, all of them, or the first refusal in the order of the fields.
unfoldable pub image_at : List ℕ → Result Image ImageError
image_at bytes = front_at bytes >>= λ front. back_at front.0 front.1
