-- What the frames of pages mean for what is written and what is executed.
use Rattle.std.specs.Prelude.{ℕ, ◌≡◌, ◌≢◌, true, Some}
use Rattle.fx_vm_pages.specs.Entries.{is_writable, is_executable}
use Rattle.fx_vm_pages.specs.declared.entry.Entry.{Entry}
use Rattle.fx_image.specs.Rules.{IsImage}
use Rattle.fx_image.specs.declared.forms.Image.{Image}
use Rattle.fx_machine_model.specs.Layout.{page_entry}

-- No page that may be written has the frame of a page that instructions may be fetched from, whichever
-- spaces the two are seen from.
abbrev pub CodeIsNeverWritten : Type 0
CodeIsNeverWritten =
    (image : Image) → IsImage image → (s t p q : ℕ) (written fetched : Entry) → page_entry image s p ≡ Some written → page_entry image t q ≡ Some fetched
    → is_writable written.flags ≡ true → is_executable fetched.flags ≡ true → written.frame ≢ fetched.frame

-- Within one space no two pages have one frame.
abbrev pub FramesAreOwn : Type 0
FramesAreOwn =
    (image : Image) → IsImage image → (s p q : ℕ) (one other : Entry) → page_entry image s p ≡ Some one → page_entry image s q ≡ Some other → one.frame ≡ other.frame → p ≡ q
