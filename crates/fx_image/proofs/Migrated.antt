-- An image meets the rules in version 2 too.
use Rattle.std.proofs.Common.{◌≡◌, ℕ, ◌^◌, Bool, true, not, ◌&&◌, ◌||◌, eqb, ltb, leb, List, [], ◌∷◌, length, Result, Ok, Err, refl, sym, subst, inl, inr}
use Rattle.std.specs.Prelude.{bit_and, IfOk}
use Rattle.std.specs.List.{list_all}
use Rattle.std.proofs.lemmas.Bool.{and_parts, and_from, or_cases, or_left, or_right}
use Rattle.fx_image.specs.Rules.{IsImage, are_stacks, is_pair, are_sections, are_spread, are_few, leading, leads, has_key, all_numbered, is_distinct_by, same_pair, have_rights}
use Rattle.fx_image.specs.declared.forms.Comp.{Comp}
use Rattle.fx_image.specs.declared.forms.Section.{Section}
use Rattle.fx_image.specs.declared.forms.Image.{Image}

stacks_later : (version pages threads : ℕ) → are_stacks version pages threads ≡ true → are_stacks 2 pages threads ≡ true
stacks_later version pages threads e =
    let both = and_parts (leb 1 pages && leb pages 64) (eqb threads 8 || (eqb threads 16 && not (eqb version 1))) e in
    let which : (eqb threads 8 || (eqb threads 16 && true)) ≡ true =
    elim (or_cases (eqb threads 8) (eqb threads 16 && not (eqb version 1)) both.1) [
      | inl eight ↦ or_left (eqb threads 8) (eqb threads 16 && true) eight
      | inr sixteen ↦ or_right (eqb threads 8) (eqb threads 16 && true) (and_from (eqb threads 16) true (and_parts (eqb threads 16) (not (eqb version 1)) sixteen).0 refl)
    ] in
    and_from (leb 1 pages && leb pages 64) (eqb threads 8 || (eqb threads 16 && true)) both.0 which

pairs_later : (version n : ℕ) (ss : List Section) → list_all (is_pair version n) ss ≡ true → list_all (is_pair 2 n) ss ≡ true
pairs_later version n [] e = refl
pairs_later version n (s ∷ ss) e =
    let both = and_parts (is_pair version n s) (list_all (is_pair version n) ss) e in
    let sets = (ltb 0 s.writers && eqb (bit_and s.writers s.readers) s.writers) && ltb s.readers (2 ^ n) in
    let some = (and_parts sets (not (eqb version 1) || eqb s.readers s.writers) both.0).0 in
    and_from (is_pair 2 n s) (list_all (is_pair 2 n) ss) (and_from sets true some refl) (pairs_later version n ss both.1)

one_changed : (a b c d d' e f g h : Bool) → (d ≡ true → d' ≡ true) → (((((((a && b) && c) && d) && e) && f) && g) && h) ≡ true → (((((((a && b) && c) && d') && e) && f) && g) && h) ≡ true
one_changed a b c d d' e f g h change all =
    let p1 = and_parts ((((((a && b) && c) && d) && e) && f) && g) h all in
    let p2 = and_parts (((((a && b) && c) && d) && e) && f) g p1.0 in
    let p3 = and_parts ((((a && b) && c) && d) && e) f p2.0 in
    let p4 = and_parts (((a && b) && c) && d) e p3.0 in
    let p5 = and_parts ((a && b) && c) d p4.0 in
    and_from ((((((a && b) && c) && d') && e) && f) && g) h (and_from (((((a && b) && c) && d') && e) && f) g (and_from ((((a && b) && c) && d') && e) f (and_from (((a && b) && c) && d') e (and_from ((a && b) && c) d' p5.0 (change p5.1)) p4.1) p3.1) p2.1) p1.1

sections_later : (version mechanism scheduler : ℕ) (comps : List Comp) (ss : List Section) → are_sections version mechanism scheduler comps ss ≡ true → are_sections 2 mechanism scheduler comps ss ≡ true
sections_later version mechanism scheduler comps ss e =
    one_changed (are_spread 0x10000 ss) (are_few mechanism ss) (leb (leading (length comps)) (length ss)) (list_all (is_pair version (length comps)) ss) (list_all (is_pair 2 (length comps)) ss)
    (all_numbered (leads (length comps)) 0 ss) (all_numbered (has_key mechanism) 0 ss) (is_distinct_by same_pair ss) (have_rights mechanism ss scheduler comps)
    (pairs_later version (length comps) ss) e

pub migrated : (i : Image) → IsImage i → IsImage (record i { version = 2 })
migrated i is = record {
  version = refl;
  mechanism = is.mechanism;
  count = is.count;
  stacks = stacks_later i.version i.stack_pages i.threads is.stacks;
  scheduler = is.scheduler;
  home = is.home;
  compartments = is.compartments;
  sections = sections_later i.version i.mechanism i.scheduler i.compartments i.sections is.sections;
  code = is.code;
  literals = is.literals;
  objects = is.objects;
  entries = is.entries;
  stubs = is.stubs;
  abort = is.abort;
  owners = is.owners;
  starts = is.starts;
  sequences = is.sequences;
}

pub migrated_result : {E : Type 0} (i : Image) (r : Result Image E) → IsImage i → IfOk r (λ j. j ≡ record i { version = 2 }) → IfOk r IsImage
migrated_result i (Ok j) is same = subst IsImage (sym same) (migrated i is)
migrated_result i (Err e) is same = tt
