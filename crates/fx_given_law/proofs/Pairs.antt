-- The sets of compartments that a configuration grants a program's globals to.
use Rattle.std.proofs.Common.{◌≡◌, ◌<◌, ◌≤◌, ℕ, zero, suc, ◌^◌, List, [], ◌∷◌, length, map, Option}
use Rattle.std.proofs.Common.{Some, None, unwrap_or, refl, subst, inl, inr, bit_and, arith}
use Rattle.std.specs.Prelude.{All, Ok, slice_index, slice_index_or}
use Rattle.std.specs.Int.{bit_at}
use Rattle.std.proofs.lemmas.Bool.{cases_lt}
use Rattle.std.proofs.lemmas.Nat.{or_lt, pow_pos}
use Rattle.std.proofs.lemmas.Nat.Bits.{bit_at_or, bit_at_and, bit_at-zero, bit_at_ones}
use Rattle.std.proofs.lemmas.Nat.Bits.{bit_at_above, bit_at-lt, same_from_bits}
use Rattle.std.proofs.lemmas.List.Elements.{All-map}
use Rattle.std.proofs.lemmas.List.Quantifiers.{position-Some}
use Rattle.std.proofs.Math.Pow.{pow-lt, ones_lt}
use Rattle.fx_config.specs.declared.configuration.Config.{Config}
use Rattle.fx_config.specs.declared.configuration.Library.{Library}
use Rattle.fx_config.specs.declared.configuration.Compartment.{Compartment}
use Rattle.fx_c_ast.specs.declared.checked.TGlobal.{TGlobal}
use Rattle.fx_c_ast.specs.declared.checked.TProgram.{TProgram}
use Rattle.fx_c_ast.specs.declared.parsed.Grant.{Grant}
use Rattle.fx_c_ast.specs.declared.parsed.Grant.TheVariants as annotation
use Rattle.fx_grants.specs.declared.grants.Pair.{Pair}
use Rattle.fx_grants.specs.declared.grants.Grants.{Grants}
use Rattle.fx_grants.specs.Sets.{with_member, with_members, only, all_of}
use Rattle.fx_grants.specs.Homes.{holds_library, compartment_of, home_of, homes_of, home_at}
use Rattle.fx_grants.specs.GrantSets.{granted, pair_of}
use Rattle.fx_grants.specs.Refusals.{resolved}
use Rattle.fx_linker_law.specs.Premises.{ArePairs}
use Rattle.fx_given_law.proofs.Granted.{grants_are}

-- ---- sets inside sets

abbrev IsInside : ℕ → ℕ → Type 0
IsInside s t = (i : ℕ) → bit_at s i ≤ bit_at t i

inside_both : (a b c : ℕ) → IsInside a b → IsInside b c → IsInside a c
inside_both a b c first second i = omega (arith, first i, second i)

with_inside : (s c : ℕ) → IsInside s (with_member s c)
with_inside s c i = omega (arith, bit_at_or s (2 ^ c) i)

members_inside : (s : ℕ) (cs : List ℕ) → IsInside s (with_members s cs)
members_inside s [] i = omega arith
members_inside s (c ∷ cs) i =
    inside_both s (with_member s c) (with_members (with_member s c) cs) (with_inside s c)
    (members_inside (with_member s c) cs) i

all_inside : (n s : ℕ) → s < 2 ^ n → IsInside s (all_of n)
all_inside n s below i = elim (cases_lt i n) [
  | inl less ↦ omega (arith, bit_at_ones n i less, bit_at-lt s i)
  | inr past ↦ omega (arith, bit_at_above s n i below past)
]

-- what a set has of one that it is inside
inside_and : (s t : ℕ) → IsInside s t → bit_and s t ≡ s
inside_and s t inside = same_from_bits (bit_and s t) s (λ i. least i (inside i))
  where
    least : (i : ℕ) → bit_at s i ≤ bit_at t i → bit_at (bit_and s t) i ≡ bit_at s i
    least i le = omega (arith, bit_at_and s t i)

-- a set with members is inside no empty one
inside_some : (s t : ℕ) → 0 < s → IsInside s t → 0 < t
inside_some s zero some inside =
    let none : s ≡ 0 = same_from_bits s 0 (λ i. empty i (inside i)) in
    absurd (omega (arith, some, none))
  where
    empty : (i : ℕ) → bit_at s i ≤ bit_at 0 i → bit_at s i ≡ bit_at 0 i
    empty i le = omega (arith, bit_at-zero i)
inside_some s (suc t) some inside = omega arith

only_inside : (c : ℕ) → IsInside (2 ^ c) (only c)
only_inside c i = omega (arith, bit_at_or 0 (2 ^ c) i)

only_some : (c : ℕ) → 0 < only c
only_some c = inside_some (2 ^ c) (only c) (pow_pos c) (only_inside c)

-- ---- compartments of libraries

no_compartment : Compartment
no_compartment = record { name = []; libraries = []; calls = None; devices = [] }

module _ (k : Config) (some : 0 < length k.compartments) where
  abbrev count : ℕ
  count = length k.compartments

  home_within : (name : List ℕ) → home_of k name < length k.compartments
  home_within name = by (compartment_of k name) refl
    where
      by : (o : Option ℕ) → compartment_of k name ≡ o → unwrap_or o 0 < length k.compartments
      by None is = some
      by (Some n) is =
          (position-Some (holds_library name) k.compartments n no_compartment is).0

  homes_within : (ls : List Library) (n : ℕ)
      → slice_index (map (λ (l : Library). home_of k l.name) ls) n < length k.compartments
  homes_within [] n = some
  homes_within (l ∷ ls) zero = home_within l.name
  homes_within (l ∷ ls) (suc n) = homes_within ls n

  member_below : (s c : ℕ) → s < 2 ^ length k.compartments → c < length k.compartments
      → with_member s c < 2 ^ length k.compartments
  member_below s c below less =
      or_lt (length k.compartments) s (2 ^ c) below
      (pow-lt {i = c} {j = length k.compartments} less)

  members_below : (s : ℕ) (names : List (List ℕ)) → s < 2 ^ length k.compartments
      → with_members s (map (home_of k) names) < 2 ^ length k.compartments
  members_below s [] below = below
  members_below s (n ∷ names) below =
      members_below (with_member s (home_of k n)) names
      (member_below s (home_of k n) below (home_within n))

  -- what an annotation adds stays within the compartments
  granted_below : (s : ℕ) (grant : Grant) → s < 2 ^ length k.compartments
      → granted k s grant < 2 ^ length k.compartments
  granted_below s annotation.Private below = below
  granted_below s (annotation.Libraries names) below = members_below s names below
  granted_below s annotation.All below = ones_lt (length k.compartments)

  granted_inside : (s : ℕ) (grant : Grant) → s < 2 ^ length k.compartments
      → IsInside s (granted k s grant)
  granted_inside s annotation.Private below i = omega arith
  granted_inside s (annotation.Libraries names) below i = members_inside s (map (home_of k) names) i
  granted_inside s annotation.All below i = all_inside (length k.compartments) s below i

  abbrev IsPair : Pair → Type 0
  IsPair q =
      (0 < q.writers) × (bit_and q.writers q.readers ≡ q.writers)
      × (q.readers < 2 ^ length k.compartments)

  pair_is : (v : TGlobal) → IsPair (pair_of k (homes_of k) v)
  pair_is v =
      let home : ℕ = home_at (homes_of k) v.library in
      let first : only home < 2 ^ length k.compartments =
      member_below 0 home (pow_pos (length k.compartments)) (homes_within k.libraries v.library) in
      let writers : ℕ = granted k (only home) v.grant in
      let second : writers < 2 ^ length k.compartments =
      granted_below (only home) v.grant first in (
        inside_some (only home) writers (only_some home) (granted_inside (only home) v.grant first),
        inside_and writers (granted k writers v.readers) (granted_inside writers v.readers second),
        granted_below writers v.readers second,
      )

pub granted_pairs : (p : TProgram) (k : Config) (g : Grants) → 0 < length k.compartments
    → resolved p k ≡ Ok g → ArePairs (length k.compartments) g.globals
granted_pairs p k g some is =
    let all : All (IsPair k some) (map (pair_of k (homes_of k)) p.globals) =
    All-map (IsPair k some) (pair_of k (homes_of k)) p.globals
    (λ j d less. pair_is k some (slice_index_or p.globals j d)) in
    subst (λ (x : Grants). ArePairs (length k.compartments) x.globals) (grants_are p k g is) all
