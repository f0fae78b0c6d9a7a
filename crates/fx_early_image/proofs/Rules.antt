-- The image meets the rules.
use Rattle.std.proofs.Common.{◌≡◌, ℕ, ◌+◌, ◌%◌, ◌<◌, ◌≤◌, List, sym, subst, ◌∷◌, get_or, suc, Fits, w8, [], length, refl, ap, ◌∙◌, arith, Option, None, eq-eqb, le-leb, lt-ltb}
use Rattle.std.proofs.lemmas.Bool.Decides.{nat_tests}
use Rattle.std.specs.Prelude.{All}
use Rattle.fx_image.specs.Rules.{IsImage, has_none, unlisted_from, first_unlisted}
use Rattle.fx_image.specs.declared.forms.Image.{Image}
use Rattle.fx_early_image.specs.Code.{range_bytes, code_bytes}
use Rattle.fx_early_image.specs.Layout.{laid_out, early_image}
use Rattle.fx_early_image.proofs.Lengths.{range_length, range_some, range_whole, length-code}
use Rattle.fx_early_image.proofs.Calm.{AreBytes, calm-code, none_unlisted}

is_laid_out : (n : ℕ) (code : List ℕ) → 4096 ≤ n → n ≤ 16384 → n % 4096 ≡ 0 → length code ≡ n + 4096 → unlisted_from [] 0 code ≡ None → IsImage (laid_out n code)
unfolding first_unlisted
is_laid_out n code some most whole size quiet =
    let w : length code % 4096 ≡ 0 = omega (arith, size) in
    record {
      version = refl;
      mechanism = refl;
      count = refl;
      stacks = refl;
      scheduler = refl;
      home = refl;
      compartments = rw (eq-eqb (n % 4096) 0 whole) refl;
      sections = refl;
      code = grind (arith, nat_tests, size, w);
      literals = refl;
      objects = refl;
      entries = grind (arith, nat_tests);
      stubs = refl;
      abort = grind (arith, nat_tests, size);
      owners = refl;
      starts = grind (arith, nat_tests, size);
      sequences = ap has_none quiet;
    }

pub is_laid : (constants : List ℕ) → length constants ≤ 1000 → AreBytes constants → IsImage (laid_out (length (range_bytes constants)) (code_bytes constants))
is_laid constants few small =
    is_laid_out (length (range_bytes constants)) (code_bytes constants)
    (range_some constants) (range_length constants few) (range_whole constants) (length-code constants)
    (none_unlisted 0 (code_bytes constants) (calm-code constants few small))

pub is_image : (constants : List ℕ) → length constants ≤ 1000 → AreBytes constants → IsImage (early_image constants)
unfolding early_image
is_image constants few small = is_laid constants few small

pub are_bytes : (cs : List ℕ) → ((k : ℕ) → Fits w8 (get_or cs k 0)) → AreBytes cs
are_bytes [] each = tt
are_bytes (c ∷ cs) each = let h = each 0 in (h.fits, are_bytes cs (λ k. each (suc k)))

pub from_all : (cs : List ℕ) → All (λ c. c < 256) cs → AreBytes cs
from_all [] each = tt
from_all (c ∷ cs) each = (each 0 0 (omega arith), from_all cs (λ k d lt. each (suc k) d (omega (arith, lt))))

-- what is laid out is the image
laid : (constants : List ℕ) (n : ℕ) (code : List ℕ) → n ≡ length (range_bytes constants) → code ≡ code_bytes constants → laid_out n code ≡ early_image constants
unfolding early_image
laid constants n code e f = rw (e, f) refl

pub is_built : (constants : List ℕ) (n : ℕ) (code : List ℕ) (i : Image) → length constants ≤ 1000 → AreBytes constants → i ≡ laid_out n code → n ≡ length (range_bytes constants) → code ≡ code_bytes constants → IsImage i
is_built constants n code i few small at e f = subst IsImage (sym (at ∙ laid constants n code e f)) (is_image constants few small)
