-- Where vCPUs start.
use Rattle.std.proofs.Common.{◌≡◌, ◌≤◌, ◌<◌, ℕ, suc, ◌+◌, ◌-◌, ◌*◌, ◌/◌, ◌%◌, Bool, true, false, ◌&&◌, ◌==◌, nat_le, nat_lt, List, [], ◌∷◌, length, All, refl, ap, ◌∙◌, arith, lit≤}
use Rattle.std.specs.Prelude.{cond, slice_index}
use Rattle.std.specs.List.{list_all}
use Rattle.std.proofs.Math.Nat.{mul_assoc, mul_comm}
use Rattle.std.proofs.lemmas.Bool.{and_from, lt-ltb, le-leb, eq-eqb}
use Rattle.std.proofs.lemmas.Nat.{mod-mul-add, div-mul-add}
use Rattle.std.proofs.lemmas.List.Elements.{All-head}
use Rattle.fx_config.specs.declared.configuration.Config.{Config}
use Rattle.fx_config.specs.declared.configuration.Mechanism.{Mechanism}
use Rattle.fx_config.specs.declared.configuration.Mechanism.TheVariants.{Call, Light, Full, Ept}
use Rattle.fx_shadow.specs.Stacks as shadow
use Rattle.fx_image.specs.Layout as layout
use Rattle.fx_image.specs.declared.forms.Image.{Image}
use Rattle.fx_image.specs.Rules.{is_start}
use Rattle.fx_linker.specs.Data.{mechanism_number, first_pointer, start_compartment, starts_from}
use Rattle.fx_linker_law.proofs.Tests.{three, four}

-- the bytes of a stack, of the span of stacks, and where the first stack begins, for so many pages
abbrev bytes : ℕ → ℕ
bytes pages = 4096 * pages

abbrev span : ℕ → ℕ
span pages = 2 * bytes pages + 0x2000

-- a place in stack number `number`
abbrev pointer : (number pages : ℕ) → ℕ
pointer number pages = layout.first_stack + number * span pages + bytes pages - 32

behind_first : (number pages : ℕ) → 1 ≤ pages → pointer number pages - layout.first_stack ≡ number * span pages + (bytes pages - 32)
behind_first number pages some = omega arith

-- the pointer of a stack of a number is in that stack
in_stack : (number pages count mapped : ℕ) → 1 ≤ pages → number < count → bytes pages ≤ mapped
    → (nat_le layout.first_stack (pointer number pages) && nat_lt ((pointer number pages - layout.first_stack) / span pages) count && nat_lt ((pointer number pages - layout.first_stack) % span pages) mapped) ≡ true
in_stack number pages count mapped some few wide =
    let place = behind_first number pages some in
    let low : bytes pages - 32 < span pages = omega arith in
    let whole : (pointer number pages - layout.first_stack) / span pages ≡ number = ap (λ n. n / span pages) place ∙ div-mul-add number (span pages) (bytes pages - 32) low in
    let part : (pointer number pages - layout.first_stack) % span pages ≡ bytes pages - 32 = ap (λ n. n % span pages) place ∙ mod-mul-add number (span pages) (bytes pages - 32) low in
    three (nat_le layout.first_stack (pointer number pages)) (nat_lt ((pointer number pages - layout.first_stack) / span pages) count) (nat_lt ((pointer number pages - layout.first_stack) % span pages) mapped)
    (le-leb layout.first_stack (pointer number pages) (omega arith))
    (lt-ltb ((pointer number pages - layout.first_stack) / span pages) count (omega arith))
    (lt-ltb ((pointer number pages - layout.first_stack) % span pages) mapped (omega arith))

-- a pointer stands at a multiple of 16
split : (pages : ℕ) → span pages ≡ 16 * (512 * pages + 512)
split pages = omega arith

spans : (number pages : ℕ) → number * span pages ≡ 16 * ((512 * pages + 512) * number)
spans number pages = mul_comm number (span pages) ∙ ap (λ n. n * number) (split pages) ∙ mul_assoc 16 (512 * pages + 512) number

sixteenth : (n m pages : ℕ) → 1 ≤ pages → n ≡ 16 * m → (layout.first_stack + n + bytes pages - 32) % 16 ≡ 0
sixteenth n m pages some e = omega arith

aligned : (number pages : ℕ) → 1 ≤ pages → pointer number pages % 16 ≡ 0
aligned number pages some = sixteenth (number * span pages) ((512 * pages + 512) * number) pages some (spans number pages)

-- the number of a compartment's stack in thread 0
abbrev number_of : Bool → (count c : ℕ) → ℕ
number_of halves count c = cond halves (0 * count + c) 0

stacked : (halves : Bool) (count c pages : ℕ) → 1 ≤ pages → c < count
    → (nat_le layout.first_stack (pointer (number_of halves count c) pages)
    && nat_lt ((pointer (number_of halves count c) pages - layout.first_stack) / span pages) (cond halves (16 * count) 16)
    && nat_lt ((pointer (number_of halves count c) pages - layout.first_stack) % span pages) (cond halves (2 * bytes pages) (bytes pages))) ≡ true
stacked true count c pages some few = in_stack (0 * count + c) pages (16 * count) (2 * bytes pages) some (omega arith) (omega arith)
stacked false count c pages some few = in_stack 0 pages 16 (bytes pages) some (lit≤ tt) (omega arith)

-- an image's mechanism has halves where the configuration's has
same_halves : (m : Mechanism) → layout.has_halves (mechanism_number m) ≡ shadow.has_halves m
same_halves Call = refl
same_halves Light = refl
same_halves Full = refl
same_halves Ept = refl

-- what an image has of a configuration
pub record IsOf (k : Config) (i : Image) : Type 0 where
  pub mechanism : i.mechanism ≡ mechanism_number k.mechanism
  pub pages : i.stack_pages ≡ k.stack_pages
  pub threads : i.threads ≡ 16
  pub count : length i.compartments ≡ length k.compartments

pub start_compartment_within : (m : Mechanism) (home v n : ℕ) → home < n → v < n → start_compartment m home v < n
start_compartment_within Call home v n h w = h
start_compartment_within Light home v n h w = h
start_compartment_within Full home v n h w = h
start_compartment_within Ept home v n h w = w

in_own_stack : (k : Config) (i : Image) (c : ℕ) → IsOf k i → 1 ≤ k.stack_pages → c < length k.compartments → layout.is_in_stack i (first_pointer k c) ≡ true
in_own_stack k i c is some few =
    rw (is.mechanism, is.pages, is.threads, is.count, same_halves k.mechanism)
    (stacked (shadow.has_halves k.mechanism) (length k.compartments) c k.stack_pages some few)

-- a start at a place of the code, on the stack of a compartment
one_start : (k : Config) (i : Image) (c place : ℕ) → IsOf k i → 1 ≤ k.stack_pages → c < length k.compartments → place < length i.code
    → is_start i (record { rip = layout.code_start + place; rsp = first_pointer k c }) ≡ true
one_start k i c place is some few within =
    four (nat_le layout.code_start (layout.code_start + place)) (nat_lt (layout.code_start + place) (layout.code_start + length i.code)) (first_pointer k c % 16 == 0) (layout.is_in_stack i (first_pointer k c))
    (le-leb layout.code_start (layout.code_start + place) (omega arith))
    (lt-ltb (layout.code_start + place) (layout.code_start + length i.code) (omega arith))
    (eq-eqb (first_pointer k c % 16) 0 (aligned (shadow.stack_number k 0 c) k.stack_pages some))
    (in_own_stack k i c is some few)

pub starts_length : (k : Config) (home : ℕ) (runtime : List ℕ) (v : ℕ) (pieces : List ℕ) → length (starts_from k home runtime v pieces) ≡ length pieces
starts_length k home runtime v [] = refl
starts_length k home runtime v (q ∷ qs) = ap suc (starts_length k home runtime (v + 1) qs)

pub started : (k : Config) (home : ℕ) (runtime : List ℕ) (i : Image) (v : ℕ) (pieces : List ℕ) → IsOf k i → 1 ≤ k.stack_pages → home < length k.compartments → v + length pieces ≤ length k.compartments
    → All (λ q. slice_index runtime q < length i.code) pieces → list_all (is_start i) (starts_from k home runtime v pieces) ≡ true
started k home runtime i v [] is some housed few within = refl
started k home runtime i v (q ∷ qs) is some housed few within =
    let c = start_compartment k.mechanism home v in
    and_from (is_start i (record { rip = layout.code_start + slice_index runtime q; rsp = first_pointer k c })) (list_all (is_start i) (starts_from k home runtime (v + 1) qs))
    (one_start k i c (slice_index runtime q) is some (start_compartment_within k.mechanism home v (length k.compartments) housed (omega arith)) (All-head (λ x. slice_index runtime x < length i.code) q qs within))
    (started k home runtime i (v + 1) qs is some housed (omega arith) (λ j d less. within (suc j) d (omega arith)))
