-- The regions of memory that may be written.
use Rattle.std.specs.Prelude.{ℕ, ◌+◌, ◌-◌, ◌*◌, max, List, [], ◌∷◌}
use Rattle.fx_image.specs.Layout.{stack_count, stack_span}
use Rattle.fx_image.specs.declared.forms.Image.{Image}
use Rattle.fx_image.specs.declared.forms.Section.{Section}

-- Where they begin: the current thread's word and the sections. The stacks begin at the first one's
-- low half.
abbrev pub word_start : ℕ
word_start = 0xf00_0000

abbrev pub sections_start : ℕ
sections_start = 0x1000_0000

-- The page behind the last one of a list of sections.
abbrev pub sections_end : List Section → ℕ
sections_end [] = 0x10000
sections_end (section ∷ rest) = max (section.page + section.pages) (sections_end rest)

-- The bytes of the sections and of the stacks, the unmapped pages between them included.
abbrev pub sections_length : Image → ℕ
sections_length image = 4096 * (sections_end image.sections - 0x10000)

abbrev pub stacks_length : Image → ℕ
stacks_length image = stack_count image * stack_span image
