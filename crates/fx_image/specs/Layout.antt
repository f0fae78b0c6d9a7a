use Rattle.std.specs.Prelude.{ℕ, ◌+◌, ◌-◌, ◌*◌, ◌/◌, ◌%◌, Bool, ◌==◌, nat_lt, nat_le, ◌&&◌, ◌||◌, if◌then◌else◌, List, [], ◌∷◌, length}
use Rattle.fx_image.specs.declared.forms.Obj.{Obj}
use Rattle.fx_image.specs.declared.forms.Image.{Image}
use Rattle.fx_image.specs.declared.find.Found.{Found}
use Rattle.fx_image.specs.declared.find.Found.TheVariants.{Object, Stack, Nothing}

-- the address of the code's first byte
abbrev pub code_start : ℕ
code_start = 0x40_0000

-- Whether each compartment has stacks of its own, with a high half that all may use: under full and
-- ept. Elsewhere a thread has one stack.
abbrev pub has_halves : ℕ → Bool
has_halves mechanism = mechanism == 2 || mechanism == 3

-- the bytes of a stack, or of each of its halves
abbrev pub stack_bytes : Image → ℕ
stack_bytes i = 4096 * i.stack_pages

-- from one stack's low half to the next one's: two halves and two unmapped pages
abbrev pub stack_span : Image → ℕ
stack_span i = 2 * stack_bytes i + 0x2000

-- where the low half of stack 0 starts
abbrev pub first_stack : ℕ
first_stack = 0x2000_1000

abbrev pub stack_count : Image → ℕ
stack_count i = if has_halves i.mechanism then i.threads * length i.compartments else i.threads

-- where the low half of stack k starts; the high half starts `stack_bytes` above
abbrev pub stack_low : Image → ℕ → ℕ
stack_low i k = first_stack + k * stack_span i

-- the bytes from a stack's low half on that are mapped
abbrev pub stack_mapped : Image → ℕ
stack_mapped i = if has_halves i.mechanism then 2 * stack_bytes i else stack_bytes i

-- the stack of this number, which is `thread * n + compartment` where compartments have stacks
abbrev pub numbered_stack : Image → ℕ → ℕ → Found
numbered_stack i k offset =
    if has_halves i.mechanism then Stack (k / length i.compartments) (k % length i.compartments) offset
    else Stack k 0 offset

-- whether the address is in a half of a stack that is mapped
abbrev pub is_in_stack : Image → ℕ → Bool
is_in_stack i address =
    nat_le first_stack address
    && nat_lt ((address - first_stack) / stack_span i) (stack_count i)
    && nat_lt ((address - first_stack) % stack_span i) (stack_mapped i)

-- the stack whose low or high half has the address, with the distance from the low half's start
abbrev pub stack_at : Image → ℕ → Found
stack_at i address =
    if is_in_stack i address then numbered_stack i ((address - first_stack) / stack_span i) ((address - first_stack) % stack_span i)
    else Nothing

-- the first of the objects, numbered from k, whose range has the address, with the distance from its
-- start; `other` where none has
abbrev pub object_from : ℕ → ℕ → List Obj → Found → Found
object_from k address [] other = other
object_from k address (o ∷ os) other =
    if nat_le o.address address && nat_lt address (o.address + o.size) then Object k (address - o.address)
    else object_from (k + 1) address os other

-- The object of an address: the object whose range has it, else the stack that has it.
unfoldable pub object_at : Image → ℕ → Found
object_at i address = object_from 0 address i.objects (stack_at i address)
