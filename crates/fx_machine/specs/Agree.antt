-- What a buffer of entries keeps.
use Rattle.std.specs.Prelude.{ℕ, ◌≡◌, ◌<◌, slice_index_or}
use Rattle.fx_image.specs.declared.forms.Image.{Image}
use Rattle.fx_machine_model.specs.Layout.{page_entry}
use Rattle.fx_machine.specs.declared.pages.Pages.{Pages}
use Rattle.fx_machine.specs.declared.pages.Slot.{Slot}

-- Each slot has the entry of its page in its space.
abbrev pub Agrees : Image → Pages → Type 0
Agrees image p = (k : ℕ) (d : Slot) → k < 64 → (slice_index_or p.slots k d).entry ≡ page_entry image (slice_index_or p.slots k d).space (slice_index_or p.slots k d).page
