-- What a region has at boot, by what is put into it.
use Rattle.std.specs.Prelude.{ℕ, ◌+◌, ◌-◌, ◌/◌, ◌%◌, ◌^◌, ◌&&◌, nat_le, nat_lt, if◌then◌else◌, List, Option, Some, None, unwrap_or, slice_index}
use Rattle.fx_image.specs.Layout.{stack_span, first_stack}
use Rattle.fx_image.specs.declared.forms.Image.{Image}
use Rattle.fx_machine_model.specs.Boot.{idle_place, idle_word}

-- The bytes of a region that begins at an address, where some of them stand and others stay.
abbrev pub over : (ℕ → Option ℕ) → ℕ → List ℕ → ℕ → ℕ
over bytes start old k = unwrap_or (bytes (start + k)) (slice_index old k)

-- The byte of a word of 8 bytes that stands in each of the first n stacks' spans, at this place.
abbrev pub in_each : ℕ → ℕ → ℕ → ℕ → ℕ → Option ℕ
in_each span place word n address =
    let at = address - first_stack in
    if nat_le first_stack address && nat_lt (at / span) n && nat_le place (at % span) && nat_lt (at % span) (place + 8)
    then Some (word / 256 ^ (at % span - place) % 256)
    else None

-- The byte of an idle word of the first n stacks.
abbrev pub idle_below : Image → ℕ → ℕ → Option ℕ
idle_below image n = in_each (stack_span image) (idle_place image) (idle_word image) n
