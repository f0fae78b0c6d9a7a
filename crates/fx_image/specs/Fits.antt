-- What the types of an image's fields hold: each number is one of its width, each byte one below 256,
-- each length one that its field can say. Every image that a program has is such. In a law, where an
-- image is any record, it is a premise.
use Rattle.std.specs.Prelude.{◌≡◌, ℕ, ◌^◌, ◌<◌, List, length, slice_index}
use Rattle.std.specs.List.{AllByRecursion}
use Rattle.fx_image.specs.declared.forms.Comp.{Comp}
use Rattle.fx_image.specs.declared.forms.Section.{Section}
use Rattle.fx_image.specs.declared.forms.Obj.{Obj}
use Rattle.fx_image.specs.declared.forms.EntryRec.{EntryRec}
use Rattle.fx_image.specs.declared.forms.Stub.{Stub}
use Rattle.fx_image.specs.declared.forms.Start.{Start}
use Rattle.fx_image.specs.declared.forms.Image.{Image}

abbrev pub IsBytes : List ℕ → Type 0
IsBytes bytes = (k : ℕ) → slice_index bytes k < 256

-- fewer bytes than the limit
abbrev pub IsText : ℕ → List ℕ → Type 0
IsText limit bytes = (length bytes < limit) × IsBytes bytes

abbrev pub FitsComp : Comp → Type 0
FitsComp c = IsText 256 c.name × ((c.start < 2 ^ 32) × ((c.len < 2 ^ 32) × (c.pkru < 2 ^ 32)))

abbrev pub FitsSection : Section → Type 0
FitsSection s =
    ((s.readers < 2 ^ 16) × (s.writers < 2 ^ 16)) × ((s.key < 256) × ((s.page < 2 ^ 32) × (s.pages < 2 ^ 32)))

abbrev pub FitsObj : Obj → Type 0
FitsObj o =
    IsText 256 o.name × ((o.section < 2 ^ 16) × ((o.address < 2 ^ 64) × ((o.size < 2 ^ 32) × IsText (2 ^ 32) o.initial)))

abbrev pub FitsEntry : EntryRec → Type 0
FitsEntry e = IsText 256 e.name × ((e.compartment < 256) × ((e.number < 2 ^ 16) × (e.callers < 2 ^ 16)))

abbrev pub FitsStub : Stub → Type 0
FitsStub s =
    (s.from < 256) × ((s.to < 256) × ((s.entry < 2 ^ 16) × ((s.offset < 2 ^ 32) × ((s.first < 2 ^ 32) × (s.second < 2 ^ 32)))))

abbrev pub FitsStart : Start → Type 0
FitsStart s = (s.rip < 2 ^ 32) × (s.rsp < 2 ^ 64)

pub record FitsImage (i : Image) : Type 0 where
  pub version : i.version < 2 ^ 16
  pub mechanism : i.mechanism < 256
  pub stack_pages : i.stack_pages < 256
  pub threads : i.threads < 256
  pub scheduler : i.scheduler < 256
  pub home : i.home < 256
  pub compartments : AllByRecursion FitsComp i.compartments
  pub sections : AllByRecursion FitsSection i.sections
  pub code : IsText (2 ^ 32) i.code
  pub literals : IsText (2 ^ 32) i.literals
  pub objects : AllByRecursion FitsObj i.objects
  pub entries : AllByRecursion FitsEntry i.entries
  pub stubs : AllByRecursion FitsStub i.stubs
  pub abort : i.abort < 2 ^ 32
  pub owners : (length i.owners ≡ 16) × IsBytes i.owners
  pub starts : AllByRecursion FitsStart i.starts
