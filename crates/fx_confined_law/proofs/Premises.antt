-- The premises of the laws are met by images made by hand.
use Rattle.std.proofs.Common.{◌≡◌, ℕ, zero, suc, ◌+◌, ◌-◌, ◌%◌, ◌<◌, ◌⊎◌, inl, inr, pos, negsuc, Bool, true, false, List, [], ◌∷◌, ◌++◌, length, take, drop, All, Option, None, Some, refl, sym, ap, ◌∙◌, subst, arith, length-append}
use Rattle.std.specs.Prelude.{nat_eq, nat_lt, nat_le, ◌&&◌, ◌||◌, if◌then◌else◌, slice_get, unwrap_or}
use Rattle.std.specs.List.{starts_with, list_all}
use Rattle.std.proofs.lemmas.Bool.Decides.{nat_tests}
use Rattle.std.proofs.lemmas.List.{length-replicate}
use Rattle.std.proofs.lemmas.List.Elements.{All-append}
use Rattle.fx_x64_forms.specs.declared.operand.Width.TheVariants.{W32}
use Rattle.fx_x64_forms.specs.declared.operand.Reg.TheVariants.{Rax}
use Rattle.fx_x64_forms.specs.declared.operand.Cond.TheVariants.{Ne}
use Rattle.fx_x64_forms.specs.declared.inst.AluOp.TheVariants.{Cmp}
use Rattle.fx_x64_forms.specs.declared.inst.Inst.TheVariants.{AluImm, Jcc, MovImm, Hlt, Wrpkru}
use Rattle.fx_x64_code.specs.Spelling.{spelling}
use Rattle.fx_cpu.specs.Registers.{plus}
use Rattle.fx_image.specs.Keys.{pkru_of, keys_below}
use Rattle.fx_image.specs.Rules.{IsImage, are_sections, is_listed, is_key_sequence, key_sequence, unlisted_from, first_unlisted, has_none}
use Rattle.fx_image.specs.declared.forms.Stub.{Stub}
use Rattle.fx_machine_model.specs.Boot.{idle_byte}
use Rattle.fx_machine_model.specs.Layout.{first_of}
use Rattle.fx_machine_model.specs.Standing.{StandsAt}
use Rattle.fx_machine_model.proofs.Placing.{stands_whole, stands_front, stands_back}
use Rattle.fx_machine_law.proofs.Found.{stands_drop}
use Rattle.fx_confined_law.specs.Confined.{IsCheck, HasChecks, HasBytes}
use Rattle.fx_confined_law.specs.Premises.{halts, gate, gate_code, light_image, ept_image, PremisesAreMet}

-- ---- the code

length_halts : (n : ℕ) → length (halts n) ≡ n
unfolding halts
length_halts n = length-replicate n 0xf4

length_code : length gate_code ≡ 12288
unfolding gate_code
length_code =
    let a = length-append (halts 8192) (gate ++ halts 4056) in
    let b = length-append gate (halts 4056) in
    let c = length_halts 8192 in
    let d = length_halts 4056 in
    let e : length gate ≡ 40 = refl in
    omega arith

-- HLTs begin no WRPKRU
pass_halts : (stubs : List Stub) (n k : ℕ) (rest : List ℕ) → unlisted_from stubs k (halts n ++ rest) ≡ unlisted_from stubs (k + n) rest
unfolding halts
pass_halts stubs zero k rest = let e : k ≡ k + 0 = omega arith in ap (λ j. unlisted_from stubs j rest) e
pass_halts stubs (suc n) k rest =
    let e : k + 1 + n ≡ k + suc n = omega arith in
    pass_halts stubs n (k + 1) rest ∙ ap (λ j. unlisted_from stubs j rest) e

no_more : (stubs : List Stub) (n k : ℕ) → unlisted_from stubs k (halts n) ≡ None
unfolding halts
no_more stubs zero k = refl
no_more stubs (suc n) k = no_more stubs n (k + 1)

abbrev stubs : List Stub
stubs = light_image.stubs

gate_listed : (rest : List ℕ) → unlisted_from stubs 8192 (gate ++ rest) ≡ unlisted_from stubs 8232 rest
gate_listed rest = refl

none_unlisted : first_unlisted stubs gate_code ≡ None
unfolding first_unlisted gate_code
none_unlisted = pass_halts stubs 8192 0 (gate ++ halts 4056) ∙ gate_listed (halts 4056) ∙ no_more stubs 4056 8232

-- ---- what stands in it

gate_stands : StandsAt gate_code 8192 gate
unfolding gate_code
gate_stands = subst (λ n. StandsAt (halts 8192 ++ (gate ++ halts 4056)) n gate) (length_halts 8192) (stands_whole (halts 8192) gate (halts 4056))

-- what stands in the gate, behind some bytes and before others
part : (at : ℕ) (front bytes rest : List ℕ) → gate ≡ front ++ (bytes ++ rest) → 8192 + length front ≡ at → StandsAt gate_code at bytes
part at front bytes rest e f =
    subst (λ n. StandsAt gate_code n bytes) f
    (stands_front gate_code (8192 + length front) bytes rest (stands_back gate_code 8192 front (bytes ++ rest) (subst (StandsAt gate_code 8192) e gate_stands)))

is_sequence : (at : ℕ) → StandsAt gate_code at (spelling Wrpkru) → is_key_sequence gate_code at ≡ true
is_sequence at s = ap (λ l. starts_with nat_eq l key_sequence) (stands_drop gate_code at (spelling Wrpkru) s)

first_stands : StandsAt gate_code 8193 (spelling Wrpkru)
first_stands = part 8193 (take 1 gate) (spelling Wrpkru) (drop 4 gate) refl refl

second_stands : StandsAt gate_code 8208 (spelling Wrpkru)
second_stands = part 8208 (take 16 gate) (spelling Wrpkru) (drop 19 gate) refl refl

-- ---- the rules

sections_light : are_sections 2 1 0 light_image.compartments light_image.sections ≡ true
unfolding pkru_of keys_below
sections_light = refl

is_light : IsImage light_image
is_light =
    let size = length_code in
    let one = is_sequence 8193 first_stands in
    let two = is_sequence 8208 second_stands in
    record {
      version = refl;
      mechanism = refl;
      count = refl;
      stacks = refl;
      scheduler = refl;
      home = refl;
      compartments = refl;
      sections = sections_light;
      code = rw size refl;
      literals = refl;
      objects = refl;
      entries = refl;
      stubs = rw (size, one, two) refl;
      abort = rw size refl;
      owners = refl;
      starts = rw size refl;
      sequences = ap has_none none_unlisted;
    }

-- ---- the checks

listed_places : (at : ℕ) → is_listed stubs at ≡ true → (at ≡ 8193) ⊎ (at ≡ 8208)
listed_places at e = by (nat_eq 8193 at) (nat_eq 8208 at) refl refl e
  where
    eq_if : (a b : ℕ) → nat_eq a b ≡ true → b ≡ a
    eq_if a b e = grind (arith, nat_tests)

    by : (s t : Bool) → nat_eq 8193 at ≡ s → nat_eq 8208 at ≡ t → (s || t) || false ≡ true → (at ≡ 8193) ⊎ (at ≡ 8208)
    by true t p q e = inl (eq_if 8193 at p)
    by false true p q e = inr (eq_if 8208 at q)
    by false false p q e = cc

first_check : IsCheck light_image 8193
unfolding plus
first_check = record {
  compartment = 1;
  comp = record { name = 98 ∷ []; start = 4096; len = 4096; pkru = 0xfffffc38 };
  value = negsuc 967;
  back = pos 16;
  is = refl;
  same = refl;
  rows = ((refl, record { sfits = omega arith }), (refl, record { sfits = omega arith }));
  compares = part 8196 (take 4 gate) (spelling (AluImm Cmp W32 Rax (negsuc 967))) (drop 10 gate) refl refl;
  jumps = part 8202 (take 10 gate) (spelling (Jcc Ne (pos 16))) (drop 16 gate) refl refl;
  leads = refl;
}

second_check : IsCheck light_image 8208
unfolding plus
second_check = record {
  compartment = 0;
  comp = record { name = 97 ∷ []; start = 0; len = 4096; pkru = 0xfffffcc0 };
  value = negsuc 831;
  back = pos 1;
  is = refl;
  same = refl;
  rows = ((refl, record { sfits = omega arith }), (refl, record { sfits = omega arith }));
  compares = part 8211 (take 19 gate) (spelling (AluImm Cmp W32 Rax (negsuc 831))) (drop 25 gate) refl refl;
  jumps = part 8217 (take 25 gate) (spelling (Jcc Ne (pos 1))) (drop 31 gate) refl refl;
  leads = refl;
}

has_checks : HasChecks light_image
has_checks = record {
  checks = λ at e. elim (listed_places at e) [
    | inl first ↦ subst (IsCheck light_image) (sym first) first_check
    | inr second ↦ subst (IsCheck light_image) (sym second) second_check
  ];
  moves = part 8224 (take 32 gate) (spelling (MovImm Rax (pos 4))) (drop 39 gate) refl refl;
  halts = part 8231 (take 39 gate) (spelling Hlt) [] refl refl;
}

-- ---- its bytes

abbrev AreBytes : List ℕ → Type 0
AreBytes xs = All (λ b. b < 256) xs

byte_list : (b : ℕ) (xs : List ℕ) → b < 256 → AreBytes xs → AreBytes (b ∷ xs)
byte_list b xs small all zero d lt = small
byte_list b xs small all (suc i) d lt = all i d (omega arith)

halts_bytes : (n : ℕ) → AreBytes (halts n)
unfolding halts
halts_bytes zero = λ i d lt. absurd (omega arith)
halts_bytes (suc n) = byte_list 0xf4 (halts n) (omega arith) (halts_bytes n)

both : (a b : Bool) → a && b ≡ true → (a ≡ true) × (b ≡ true)
both true b e = (refl, e)
both false b e = cc

lt_if : (a b : ℕ) → nat_lt a b ≡ true → a < b
lt_if a b e = grind (arith, nat_tests)

all_small : (xs : List ℕ) → list_all (λ b. nat_lt b 256) xs ≡ true → AreBytes xs
all_small [] e = λ i d lt. absurd (omega arith)
all_small (x ∷ xs) e = let (a, b) = both (nat_lt x 256) (list_all (λ b. nat_lt b 256) xs) e in byte_list x xs (lt_if x 256 a) (all_small xs b)

idle_small : (t : Bool) (x : ℕ) → unwrap_or (first_of (None ∷ None ∷ (if t then Some (x % 256) else None) ∷ [])) 0 < 256
idle_small true x = omega arith
idle_small false x = omega arith

no_byte : (t : Bool) (k : ℕ) → ◌≡◌ {A = Option ℕ} (if t then slice_get [] k else None) None
no_byte true zero = refl
no_byte true (suc k) = refl
no_byte false k = refl

has_bytes : HasBytes light_image
unfolding gate_code
has_bytes = record {
  code = All-append (λ b. b < 256) (halts 8192) (gate ++ halts 4056) (halts_bytes 8192) (All-append (λ b. b < 256) gate (halts 4056) (all_small gate refl) (halts_bytes 4056));
  others = λ address. subst (λ x. unwrap_or (first_of (x ∷ None ∷ idle_byte light_image address ∷ [])) 0 < 256) (sym (no_byte (nat_le 0x600000 address) (address - 0x600000))) (idle_small _ _);
}

-- ---- two machines

is_ept_image : IsImage ept_image
unfolding first_unlisted
is_ept_image =
    let size = length_halts 12288 in
    record {
      version = refl;
      mechanism = refl;
      count = refl;
      stacks = refl;
      scheduler = refl;
      home = refl;
      compartments = refl;
      sections = refl;
      code = rw size refl;
      literals = refl;
      objects = refl;
      entries = refl;
      stubs = refl;
      abort = rw size refl;
      owners = refl;
      starts = rw size refl;
      sequences = ap has_none (no_more [] 12288 0);
    }

pub premises_are_met : PremisesAreMet
premises_are_met = record {
  light = is_light;
  keyed = refl;
  checks = has_checks;
  bytes = has_bytes;
  machines = is_ept_image;
  ept = refl;
}
