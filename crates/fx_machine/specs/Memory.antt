-- What a machine keeps of memory: the bytes of four regions, over those of the image at boot.
use Rattle.std.specs.Prelude.{ℕ, ◌≡◌, ◌+◌, ◌-◌, ◌≤◌, Bool, false, nat_le, nat_lt, if◌then◌else◌, length, Option, None, slice_get, unwrap_or}
use Rattle.fx_x64_forms.specs.Numbers.{width_bytes}
use Rattle.fx_x64_forms.specs.declared.operand.Width.{Width}
use Rattle.fx_image.specs.Layout.{first_stack}
use Rattle.fx_image.specs.declared.forms.Image.{Image}
use Rattle.fx_machine_model.specs.Layout.{is_ept}
use Rattle.fx_machine_model.specs.Boot.{boot_byte}
use Rattle.fx_machine_model.specs.Regions.{word_start, sections_start, sections_length, stacks_length}
use Rattle.fx_machine.specs.declared.memory.Memory.{Memory}

-- Where the mailboxes begin.
abbrev pub mail_start : ℕ
mail_start = 0xe00_0000

-- The bytes of the mailboxes: a page for each two compartments, under `ept`.
abbrev pub mail_length : Image → ℕ
mail_length image = if is_ept image then 0x10_0000 else 0

-- What is said of an address by the region that it belongs to: of the stacks, the sections, the current
-- thread's word, the mailboxes, or none of these.
abbrev pub by_region : {A : Type 0} → ℕ → A → A → A → A → A → A
by_region a stacks sections word mail other =
    if nat_le first_stack a then stacks
    else if nat_le sections_start a then sections
    else if nat_le word_start a then word
    else if nat_le mail_start a then mail
    else other

-- The byte that a region has at an address.
abbrev pub held : Memory → ℕ → Option ℕ
held m a =
    by_region a (slice_get m.stacks.items (a - first_stack)) (slice_get m.sections.items (a - sections_start)) (slice_get m.word.items (a - word_start)) (slice_get m.mail.items (a - mail_start)) None

-- Whether a region has one there.
abbrev pub is_held : Memory → ℕ → Bool
is_held m a =
    by_region a (nat_lt (a - first_stack) (length m.stacks.items))
    (nat_lt (a - sections_start) (length m.sections.items))
    (nat_lt (a - word_start) (length m.word.items))
    (nat_lt (a - mail_start) (length m.mail.items)) false

-- The byte at an address.
abbrev pub memory_of : Image → Memory → ℕ → ℕ
memory_of image m a = unwrap_or (held m a) (boot_byte image a)

-- The regions have the lengths that the image says.
pub record IsLaidOut (image : Image) (memory : Memory) : Type 0 where
  pub stacks : length memory.stacks.items ≡ stacks_length image
  pub sections : length memory.sections.items ≡ sections_length image
  pub word : length memory.word.items ≡ 4096
  pub mail : length memory.mail.items ≡ mail_length image

-- All bytes of a word at an address are in a region of this size from `start` on, and below `end`.
pub record HasWord (start end size : ℕ) (width : Width) (address : ℕ) : Type 0 where
  pub from : start ≤ address
  pub below : address + width_bytes width ≤ end
  pub inside : address - start + width_bytes width ≤ size
