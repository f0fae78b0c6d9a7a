use Rattle.std.specs.Prelude.{ℕ, ◌^◌, ◌<◌, ◌==◌, if◌then◌else◌, List, [], ◌∷◌, ◌++◌, length}
use Rattle.std.specs.List.{flat_map}
use Rattle.std.specs.Int.{to_le_bytes, w16, w32, w64}
use Rattle.fx_image.specs.declared.forms.Comp.{Comp}
use Rattle.fx_image.specs.declared.forms.Section.{Section}
use Rattle.fx_image.specs.declared.forms.Obj.{Obj}
use Rattle.fx_image.specs.declared.forms.EntryRec.{EntryRec}
use Rattle.fx_image.specs.declared.forms.Stub.{Stub}
use Rattle.fx_image.specs.declared.forms.Start.{Start}
use Rattle.fx_image.specs.declared.forms.Image.{Image}

-- The bytes of an image, field by field. Numbers are little-endian.

unfoldable pub u16_spelling : ℕ → List ℕ
u16_spelling n = to_le_bytes w16 n

unfoldable pub u32_spelling : ℕ → List ℕ
u32_spelling n = to_le_bytes w32 n

unfoldable pub u64_spelling : ℕ → List ℕ
u64_spelling n = to_le_bytes w64 n

-- a length in one byte, and the bytes
abbrev pub name_spelling : List ℕ → List ℕ
name_spelling bytes = length bytes ∷ bytes

-- a length in four bytes, and the bytes
abbrev pub block_spelling : List ℕ → List ℕ
block_spelling bytes = u32_spelling (length bytes) ++ bytes

-- FXIM
abbrev pub magic : List ℕ
magic = 70 ∷ 88 ∷ 73 ∷ 77 ∷ []

-- version 1 has no byte for the threads
abbrev pub threads_spelling : ℕ → ℕ → List ℕ
threads_spelling version threads = if version == 1 then [] else threads ∷ []

-- up to the compartment of main
abbrev pub head_spelling : Image → List ℕ
head_spelling i =
    magic ++ (u16_spelling i.version ++ (i.mechanism ∷ length i.compartments ∷ i.stack_pages
    ∷ (threads_spelling i.version i.threads ++ i.scheduler ∷ i.home ∷ [])))

abbrev pub comp_spelling : Comp → List ℕ
comp_spelling c =
    name_spelling c.name ++ (u32_spelling c.start ++ (u32_spelling c.len ++ u32_spelling c.pkru))

-- version 1 has one set for both
abbrev pub pair_spelling : ℕ → ℕ → ℕ → List ℕ
pair_spelling version readers writers =
    if version == 1 then u16_spelling writers else u16_spelling readers ++ u16_spelling writers

abbrev pub section_spelling : ℕ → Section → List ℕ
section_spelling version s =
    pair_spelling version s.readers s.writers ++ (s.key ∷ (u32_spelling s.page ++ u32_spelling s.pages))

abbrev pub obj_spelling : Obj → List ℕ
obj_spelling o =
    name_spelling o.name ++ (u16_spelling o.section ++ (u64_spelling o.address
    ++ (u32_spelling o.size ++ block_spelling o.initial)))

-- whether the lengths of an object's name and initial bytes have room in their fields
pub record HasRoom (o : Obj) : Type 0 where
  pub name : length o.name < 256
  pub initial : length o.initial < 2 ^ 32

abbrev pub entry_spelling : EntryRec → List ℕ
entry_spelling e =
    name_spelling e.name ++ (e.compartment ∷ (u16_spelling e.number ++ u16_spelling e.callers))

abbrev pub stub_spelling : Stub → List ℕ
stub_spelling s =
    s.from ∷ s.to ∷ (u16_spelling s.entry ++ (u32_spelling s.offset
    ++ (u32_spelling s.first ++ u32_spelling s.second)))

abbrev pub start_spelling : Start → List ℕ
start_spelling s = u32_spelling s.rip ++ u64_spelling s.rsp

-- from the abort stub on
abbrev pub tail_spelling : Image → List ℕ
tail_spelling i =
    u32_spelling i.abort ++ (i.owners ++ length i.starts ∷ flat_map start_spelling i.starts)

-- the bytes of an image
unfoldable pub image_spelling : Image → List ℕ
image_spelling i =
    head_spelling i
    ++ (flat_map comp_spelling i.compartments
    ++ ((u16_spelling (length i.sections) ++ flat_map (section_spelling i.version) i.sections)
    ++ (block_spelling i.code
    ++ (block_spelling i.literals
    ++ ((u32_spelling (length i.objects) ++ flat_map obj_spelling i.objects)
    ++ ((u16_spelling (length i.entries) ++ flat_map entry_spelling i.entries)
    ++ ((u16_spelling (length i.stubs) ++ flat_map stub_spelling i.stubs)
    ++ tail_spelling i)))))))
