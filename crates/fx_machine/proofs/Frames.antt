-- Where pages are that may be written, and where those of code, and which frames they have.
use Rattle.std.proofs.Common.{◌≡◌, ℕ, ◌-◌, ◌<◌, ◌≤◌, Bool, true, false, Option, Some, refl, sym, ◌∙◌, subst, arith}
use Rattle.std.specs.Prelude.{slice_get, ◌&&◌, ◌==◌, not, if◌then◌else◌}
use Rattle.fx_vm_pages.specs.Entries.{is_writable, is_executable}
use Rattle.fx_vm_pages.specs.declared.entry.Entry.{Entry}
use Rattle.fx_image.specs.Keys.{has_member, is_keyed}
use Rattle.fx_image.specs.declared.forms.Section.{Section}
use Rattle.fx_image.specs.Rules.{IsImage}
use Rattle.fx_image.specs.declared.forms.Image.{Image}
use Rattle.fx_machine_model.specs.Layout.{page_entry, mapped, is_ept, private_key, common_key, owner_of, stack_compartment, stack_of}
use Rattle.fx_machine_model.proofs.Pages.{fits, spread, spread_from}
use Rattle.fx_machine_model.proofs.ByRegion.{Regions, by_region}
use Rattle.fx_machine.specs.Frames.{CodeIsNeverWritten, FramesAreOwn}

-- a page's frame has its number; one that may be written lies behind the code, one of code doesn't
record Stands (page : ℕ) (e : Entry) : Type 0 where
  frame : e.frame ≡ page
  written : is_writable e.flags ≡ true → 0xe000 ≤ page
  code : is_executable e.flags ≡ true → page < 0xe000

abbrev Stood : ℕ → Option Entry → Type 0
Stood page entry = (e : Entry) → entry ≡ Some e → Stands page e

stood : (page flags key : ℕ) → (is_writable (record { 0 = flags }) ≡ true → 0xe000 ≤ page) → (is_executable (record { 0 = flags }) ≡ true → page < 0xe000) → Stood page (mapped page flags key)
stood page flags key w x e is =
    let same : record { frame = page; flags = record { 0 = flags }; key = key } ≡ e = cc in
    subst (Stands page) same (record { frame = refl; written = w; code = x })

stands : (image : Image) (space page : ℕ) → IsImage image → Stood page (page_entry image space page)
stands image space page h = by_region image space page (Stood page) regions
  where
    read : (t : Bool) (key : ℕ) → 0xe000 ≤ page → Stood page (mapped page (if t then 0 else 1) key)
    read true key from = stood page 0 key (λ e. from) (λ e. cc)
    read false key from = stood page 1 key (λ e. from) (λ e. cc)

    written : (t : Bool) (key : ℕ) → 0xe000 ≤ page → Stood page (mapped page (if t then 1 else 0) key)
    written true key from = stood page 1 key (λ e. from) (λ e. cc)
    written false key from = stood page 0 key (λ e. from) (λ e. cc)

    behind : (i : ℕ) (s : Section) → slice_get image.sections i ≡ Some s → s.page ≤ page → 0xe000 ≤ page
    behind i s at from = let first = spread_from 0x10000 image.sections i s (spread image h) at in omega arith

    regions : Regions image space page (Stood page)
    regions = record {
      none = λ e is. cc;
      code = λ from to maps. let c = (fits image h).code in stood page 2 0 (λ e. cc) (λ e. omega arith);
      literal = λ from to. stood page 0 0 (λ e. cc) (λ e. cc);
      mailbox = λ from is. stood page 1 0 (λ e. from) (λ e. cc);
      thread = λ at. read (is_ept image && not (space == image.scheduler)) (if is_keyed image.mechanism then 1 else 0) (omega arith);
      device = λ from to owned. stood page 5 (private_key image (owner_of image (page - 0xf100))) (λ e. omega arith) (λ e. cc);
      section = λ i s at from to one. stood page 1 s.key (λ e. behind i s at from) (λ e. cc);
      machine = λ i s at from to ept reads. written (has_member s.writers space) s.key (behind i s at from);
      whole = λ from small inside halves. stood page 1 (common_key image) (λ e. omega arith) (λ e. cc);
      low = λ from small inside halves ours. stood page 1 (private_key image (stack_compartment image (stack_of image page))) (λ e. omega arith) (λ e. cc);
      high = λ from small past inside halves. stood page 1 (common_key image) (λ e. omega arith) (λ e. cc);
    }

pub code_is_never_written : CodeIsNeverWritten
code_is_never_written image h s t p q written fetched is also w x same =
    let a = stands image s p h written is in
    let b = stands image t q h fetched also in
    let from = a.written w in
    let to = b.code x in
    let one = a.frame in
    let other = b.frame in
    omega arith

pub frames_are_own : FramesAreOwn
frames_are_own image h s p q one other is also same =
    let a = stands image s p h one is in
    let b = stands image s q h other also in
    sym a.frame ∙ same ∙ b.frame
