-- What the grants of a program are, compartment by compartment.
use Rattle.std.proofs.Common.{◌≡◌, ℕ, zero, suc, ◌<◌, Bool, true, false, not, ◌&&◌, ◌||◌, if◌then◌else◌, nat_eq, List, [], ◌∷◌, map, length, get_or, slice_get, Option, Some, None, unwrap_or, refl, sym, ap, ◌∙◌, arith}
use Rattle.std.proofs.lemmas.Nat.Bits.{bit_at-zero}
use Rattle.std.specs.List.{list_any}
use Rattle.fx_config.specs.declared.configuration.Config.{Config}
use Rattle.fx_c_ast.specs.declared.checked.TGlobal.{TGlobal}
use Rattle.fx_c_ast.specs.declared.checked.TLocal.{TLocal}
use Rattle.fx_c_ast.specs.declared.checked.TFunction.{TFunction}
use Rattle.fx_c_ast.specs.declared.checked.TProgram.{TProgram}
use Rattle.fx_c_ast.specs.declared.parsed.Grant.{Grant}
use Rattle.fx_c_ast.specs.declared.parsed.Grant.TheVariants.{Private, Libraries, All}
use Rattle.fx_grants.specs.Sets.{has_member, with_members, only, all_of}
use Rattle.fx_grants.specs.Homes.{home_of, homes_of, home_at}
use Rattle.fx_grants.specs.GrantSets.{granted, pair_of, function_grants, grants_of, has_common_stacks, denies_nothing, global_set, local_set, may_of}
use Rattle.fx_grants.specs.declared.grants.Place.TheVariants.{Global, Literal, Local}
use Rattle.fx_grants.specs.Laws.{names_compartment, is_writer, is_reader, is_local_holder}
use Rattle.fx_grants.proofs.Members.{has_member-with_members, has_member-only, has_member-all_of, or_false, or_true}

list_any-map : {A B : Type 0} (p : B → Bool) (f : A → B) (xs : List A) → list_any p (map f xs) ≡ list_any (λ x. p (f x)) xs
list_any-map p f [] = refl
list_any-map p f (x ∷ xs) = ap (λ b. p (f x) || b) (list_any-map p f xs)

-- an annotation adds the compartments that it names
pub has_member-granted : (k : Config) (s : ℕ) (grant : Grant) (c : ℕ) → c < length k.compartments → has_member (granted k s grant) c ≡ (has_member s c || names_compartment k grant c)
has_member-granted k s Private c less = sym (or_false (has_member s c))
has_member-granted k s (Libraries names) c less = has_member-with_members s (map (home_of k) names) c ∙ ap (λ b. has_member s c || b) (list_any-map (λ h. nat_eq h c) (home_of k) names)
has_member-granted k s All c less = has_member-all_of (length k.compartments) c less ∙ sym (or_true (has_member s c))

pub writer_is : (k : Config) (g : TGlobal) (c : ℕ) → c < length k.compartments → has_member (pair_of k (homes_of k) g).writers c ≡ is_writer k g c
writer_is k g c less = has_member-granted k (only (home_at (homes_of k) g.library)) g.grant c less ∙ ap (λ b. b || names_compartment k g.grant c) (has_member-only (home_at (homes_of k) g.library) c)

pub reader_is : (k : Config) (g : TGlobal) (c : ℕ) → c < length k.compartments → has_member (pair_of k (homes_of k) g).readers c ≡ is_reader k g c
reader_is k g c less = has_member-granted k (granted k (only (home_at (homes_of k) g.library)) g.grant) g.readers c less ∙ ap (λ b. b || names_compartment k g.readers c) (writer_is k g c less)

-- the element at a place, found in a list that is made of another
pub slice_get-map : {A B : Type 0} (f : A → B) (xs : List A) (n : ℕ) (d : A) → n < length xs → slice_get (map f xs) n ≡ Some (f (get_or xs n d))
slice_get-map f [] n d less = absurd (omega arith)
slice_get-map f (x ∷ xs) zero d less = refl
slice_get-map f (x ∷ xs) (suc n) d less = slice_get-map f xs n d (omega arith)

choose : (b x : Bool) → (if b then true else x) ≡ (b || x)
choose true x = refl
choose false x = refl

both_false : (b x : Bool) → x ≡ false → (if b then false else x) ≡ false
both_false true x h = refl
both_false false x h = h

both_true : (b x : Bool) → x ≡ true → (if b then true else x) ≡ true
both_true true x h = refl
both_true false x h = h

not_and_false : (w : Bool) → not (w && false) ≡ true
not_and_false true = refl
not_and_false false = refl

module _ (p : TProgram) (k : Config) (c : ℕ) where
  pub write_global : c < length k.compartments → (n : ℕ) → n < length p.globals → (d : TGlobal) → may_of (grants_of p k) c (Global n) true ≡ (denies_nothing k.mechanism || is_writer k (get_or p.globals n d) c)
  write_global less n h d =
      ap (λ o. if denies_nothing k.mechanism then true else has_member (global_set o true) c) (slice_get-map (pair_of k (homes_of k)) p.globals n d h)
      ∙ ap (λ b. if denies_nothing k.mechanism then true else b) (writer_is k (get_or p.globals n d) c less)
      ∙ choose (denies_nothing k.mechanism) (is_writer k (get_or p.globals n d) c)

  pub read_global : c < length k.compartments → (n : ℕ) → n < length p.globals → (d : TGlobal) → may_of (grants_of p k) c (Global n) false ≡ (denies_nothing k.mechanism || is_reader k (get_or p.globals n d) c)
  read_global less n h d =
      ap (λ o. if denies_nothing k.mechanism then true else has_member (global_set o false) c) (slice_get-map (pair_of k (homes_of k)) p.globals n d h)
      ∙ ap (λ b. if denies_nothing k.mechanism then true else b) (reader_is k (get_or p.globals n d) c less)
      ∙ choose (denies_nothing k.mechanism) (is_reader k (get_or p.globals n d) c)

  pub write_literal : (n : ℕ) → may_of (grants_of p k) c (Literal n) true ≡ false
  write_literal n = both_false (denies_nothing k.mechanism) (has_member 0 c) (ap (λ b. nat_eq b 1) (bit_at-zero c))

  pub read_literal : c < length k.compartments → (n : ℕ) → may_of (grants_of p k) c (Literal n) false ≡ true
  read_literal less n = both_true (denies_nothing k.mechanism) (has_member (all_of (length k.compartments)) c) (has_member-all_of (length k.compartments) c less)

  -- the compartments of a local's set
  holder : c < length k.compartments → (b : Bool) (home : ℕ) → has_member (if b then all_of (length k.compartments) else only home) c ≡ (b || nat_eq home c)
  holder less true home = has_member-all_of (length k.compartments) c less
  holder less false home = has_member-only home c

  pub touch_local : c < length k.compartments → (f l : ℕ) (write : Bool) → f < length p.functions → (d : TFunction) → l < length (get_or p.functions f d).locals → (e : TLocal)
      → may_of (grants_of p k) c (Local f l) write ≡ (denies_nothing k.mechanism || is_local_holder k (get_or p.functions f d) (get_or (get_or p.functions f d).locals l e) c)
  touch_local less f l write h d within e =
      let fn = get_or p.functions f d in
      let shared = (get_or fn.locals l e).shared in
      ap (λ o. if denies_nothing k.mechanism then not (write && false) else has_member (local_set (grants_of p k) o l) c) (slice_get-map (function_grants (homes_of k)) p.functions f d h)
      ∙ ap (λ o. if denies_nothing k.mechanism then not (write && false) else has_member (if has_common_stacks k.mechanism || unwrap_or o false then all_of (length k.compartments) else only (home_at (homes_of k) fn.library)) c) (slice_get-map (λ (v : TLocal). v.shared) fn.locals l e within)
      ∙ ap (λ b. if denies_nothing k.mechanism then b else has_member (if has_common_stacks k.mechanism || shared then all_of (length k.compartments) else only (home_at (homes_of k) fn.library)) c) (not_and_false write)
      ∙ ap (λ b. if denies_nothing k.mechanism then true else b) (holder less (has_common_stacks k.mechanism || shared) (home_at (homes_of k) fn.library))
      ∙ choose (denies_nothing k.mechanism) (is_local_holder k fn (get_or fn.locals l e) c)
