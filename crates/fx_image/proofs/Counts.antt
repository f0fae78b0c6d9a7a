-- Counting a compartment's entries one after the other.
use Rattle.std.proofs.Common.{◌≡◌, ℕ, ◌+◌, ◌<◌, Bool, true, ◌&&◌, cond, eqb, ltb, List, length, get_or, take, sym, ap, ◌∙◌, arith}
use Rattle.std.specs.Prelude.{sum_by}
use Rattle.std.proofs.lemmas.List.Sums.{sum_by_more, count_by-le-length}
use Rattle.std.proofs.lemmas.List.{length-take}
use Rattle.fx_image.specs.Rules.{entry_count, is_between, is_placed, is_stub}
use Rattle.fx_image.specs.declared.forms.Comp.{Comp}
use Rattle.fx_image.specs.declared.forms.Stub.{Stub}
use Rattle.fx_image.specs.declared.forms.EntryRec.{EntryRec}

pub counted_more : (entries : List EntryRec) (i : ℕ) (e : EntryRec) (c n m : ℕ) → i < length entries → e ≡ get_or entries i e → n ≡ entry_count (take i entries) c → m ≡ n + cond (eqb e.compartment c) 1 0
    → m ≡ entry_count (take (i + 1) entries) c
counted_more entries i e c n m lt is n-is m-is =
    let f = λ (x : EntryRec). cond (eqb x.compartment c) 1 0 in
    let more : sum_by f (take (i + 1) entries) ≡ sum_by f (take i entries) + f (get_or entries i e) = sum_by_more f entries i e lt in
    m-is ∙ ap (λ k. k + cond (eqb e.compartment c) 1 0) n-is ∙ ap (λ (x : EntryRec). entry_count (take i entries) c + f x) is ∙ sym more

pub few_counted : (entries : List EntryRec) (i c n : ℕ) → n ≡ entry_count (take i entries) c → length entries < 65536 → n < 65536
few_counted entries i c n is few = omega (arith, is, count_by-le-length (λ (e : EntryRec). eqb e.compartment c) (take i entries), length-take i entries)

-- a stub's rule, by what the code asks
pub stub_is : (comps : List Comp) (code : List ℕ) (entries : List EntryRec) (s : Stub) (count : ℕ) (good : Bool) → is_between (length comps) s ≡ true → count ≡ entry_count entries s.to
    → good ≡ (ltb s.entry count && is_placed comps code s) → is_stub comps code entries s ≡ good
stub_is comps code entries s count good between counts is =
    ap (λ (b : Bool). (b && ltb s.entry (entry_count entries s.to)) && is_placed comps code s) between
    ∙ ap (λ (n : ℕ). ltb s.entry n && is_placed comps code s) (sym counts) ∙ sym is
