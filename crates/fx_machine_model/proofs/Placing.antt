-- Where bytes stand in the code, and what memory holds of it at boot.
use Rattle.std.proofs.Common.{◌≡◌, ℕ, ◌+◌, ◌-◌, ◌<◌, true, List, [], ◌∷◌, ◌++◌, length, None, Some, ap, ◌∙◌, arith, cond, length-append}
use Rattle.std.specs.Prelude.{slice_index, slice_get, nat_le, unwrap_or}
use Rattle.std.proofs.lemmas.Bool.Decides.{nat_tests}
use Rattle.std.proofs.lemmas.List.{get_or_append_left, get_or-append-add}
use Rattle.std.proofs.lemmas.Option.{slice_get-get_or}
use Rattle.fx_image.specs.Layout.{code_start}
use Rattle.fx_image.specs.declared.forms.Image.{Image}
use Rattle.fx_machine_model.specs.Layout.{first_of}
use Rattle.fx_machine_model.specs.Boot.{boot_byte, byte_from, object_byte, idle_byte}
use Rattle.fx_machine_model.specs.Standing.{HoldsCode, StandsAt}

-- what stands between a front and a rest
pub stands_whole : (front bytes rest : List ℕ) → StandsAt (front ++ (bytes ++ rest)) (length front) bytes
stands_whole front bytes rest = record {
  room = omega (arith, length-append front (bytes ++ rest), length-append bytes rest);
  same = λ k lt. get_or-append-add front (bytes ++ rest) k 0 ∙ get_or_append_left bytes rest 0 k lt;
}

-- the front and the back of what stands
pub stands_front : (code : List ℕ) (offset : ℕ) (a b : List ℕ) → StandsAt code offset (a ++ b) → StandsAt code offset a
stands_front code offset a b s = let n = length-append a b in let r = s.room in record {
  room = omega arith;
  same = λ k lt. s.same k (omega arith) ∙ get_or_append_left a b 0 k lt;
}

pub stands_back : (code : List ℕ) (offset : ℕ) (a b : List ℕ) → StandsAt code offset (a ++ b) → StandsAt code (offset + length a) b
stands_back code offset a b s = let n = length-append a b in let r = s.room in record {
  room = omega arith;
  same = λ k lt.
      let e : offset + length a + k ≡ offset + (length a + k) = omega arith in
      ap (slice_index code) e ∙ s.same (length a + k) (omega arith) ∙ get_or-append-add a b k 0;
}

code_at_boot : (image : Image) (k : ℕ) → k < length image.code → boot_byte image (code_start + k) ≡ slice_index image.code k
unfolding boot_byte
code_at_boot image k lt =
    let a = code_start + k in
    let first : nat_le code_start a ≡ true = grind (arith, nat_tests) in
    let place : a - code_start ≡ k = omega arith in
    let byte : byte_from image.code code_start a ≡ Some (slice_index image.code k) =
    ap (λ t. cond t (slice_get image.code (a - code_start)) None) first ∙ ap (slice_get image.code) place ∙ slice_get-get_or image.code k 0 lt in
    ap (λ x. unwrap_or (first_of (x ∷ byte_from image.literals 0x600000 a ∷ object_byte image.objects a ∷ idle_byte image a ∷ [])) 0) byte

-- memory holds the code at boot
pub boot_code : (image : Image) → HoldsCode image (boot_byte image)
boot_code image = record { code = code_at_boot image }
