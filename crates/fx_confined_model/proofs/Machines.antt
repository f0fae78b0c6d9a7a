-- Under `ept` a space maps what is granted to its compartment.
use Rattle.std.proofs.Common.{◌≡◌, ◌≢◌, ℕ, ◌-◌, ◌*◌, Bool, true, false, Option, None, refl, sym, ap, subst, arith}
use Rattle.std.specs.Prelude.{nat_eq, ◌==◌, ◌||◌, ◌&&◌, not, if◌then◌else◌}
use Rattle.std.proofs.lemmas.Bool.Decides.{nat_tests}
use Rattle.fx_vm_pages.specs.Access.{byte_refusal}
use Rattle.fx_vm_pages.specs.declared.access.Access.{Access}
use Rattle.fx_vm_pages.specs.declared.access.Access.TheVariants.{Read, Write, Fetch}
use Rattle.fx_vm_pages.specs.declared.entry.Entry.{Entry}
use Rattle.fx_vm_pages.specs.declared.entry.Pkru.{Pkru}
use Rattle.fx_image.specs.Keys.{has_member, is_keyed}
use Rattle.fx_image.specs.Layout.{has_halves}
use Rattle.fx_image.specs.Rules.{IsImage}
use Rattle.fx_image.specs.declared.forms.Image.{Image}
use Rattle.fx_machine_model.specs.Layout.{space_of, stack_of, page_entry, holds, is_ept, mapped, maps_code, owner_of, stack_compartment}
use Rattle.fx_confined_model.specs.Grants.{Granted, MayRead, MayWrite, read_code, read_literal, read_thread, read_section, read_use, write_thread, write_section, write_use, of_low_half, of_high_half, of_device, of_mailbox}
use Rattle.fx_machine_model.proofs.ByRegion.{Regions, by_region}
use Rattle.fx_confined_model.proofs.Permits.{allowed}

eq_if : (a b : ℕ) → nat_eq a b ≡ true → a ≡ b
eq_if a b e = grind (arith, nat_tests)

clash : (t : Bool) → t ≡ true → t ≡ false → ⊥
clash true e f = cc
clash false e f = cc

-- a machine's own: where one test is given the other holds
own_if : (t u : Bool) → t ≡ true → not t || u ≡ true → u ≡ true
own_if true u e f = f
own_if false u e f = cc

not_closed : (t u : Bool) → t ≡ true → t && not u ≡ false → u ≡ true
not_closed true true e f = refl
not_closed true false e f = cc
not_closed false u e f = cc

module _ (image : Image) (h : IsImage image) (ept : is_ept image ≡ true) (c page : ℕ) (pkru : Pkru) (form : Bool) where
  space_is : space_of image c ≡ c
  space_is = ap (λ t. if t then c else 0) ept

  low_is : (is_ept image && not (c == stack_compartment image (stack_of image page))) ≡ false → stack_compartment image (stack_of image page) ≡ c
  low_is e = sym (eq_if c (stack_compartment image (stack_of image page)) (not_closed (is_ept image) (c == stack_compartment image (stack_of image page)) ept e))

  owner_is : holds image c (owner_of image (page - 0xf100)) ≡ true → owner_of image (page - 0xf100) ≡ c
  owner_is e = sym (eq_if c (owner_of image (page - 0xf100)) (own_if (is_ept image) (c == owner_of image (page - 0xf100)) ept e))

  written : (t : Bool) (key : ℕ) → byte_refusal (mapped page (if t then 1 else 0) key) pkru Write form ≡ None → t ≡ true
  written true key e = refl
  written false key e = let f = allowed page 0 key pkru Write form e in cc

  scheduled : (t : Bool) (key : ℕ) → (is_ept image && not t) ≡ (is_ept image && not t) → byte_refusal (mapped page (if is_ept image && not t then 0 else 1) key) pkru Write form ≡ None → t ≡ true
  scheduled true key same e = refl
  scheduled false key same e =
      let one : byte_refusal (mapped page 0 key) pkru Write form ≡ None = subst (λ u. byte_refusal (mapped page (if u && true then 0 else 1) key) pkru Write form ≡ None) ept e in
      let f = allowed page 0 key pkru Write form one in cc

  reads : byte_refusal (page_entry image c page) pkru Read form ≡ None → MayRead image c page
  reads = by_region image c page P regions
    where
      P : Option Entry → Type 0
      P x = byte_refusal x pkru Read form ≡ None → MayRead image c page

      regions : Regions image c page P
      regions = record {
        none = λ e. cc;
        code = λ from to maps e. read_code (from, to, subst (λ s. maps_code image s ((page - 0x400) * 4096) ≡ true) (sym space_is) maps);
        literal = λ from to e. read_literal (from, to);
        mailbox = λ from is e. read_use (of_mailbox (from, is));
        thread = λ at e. read_thread at;
        device = λ from to own e. read_use (of_device (from, to, owner_is own));
        section = λ i s at from to one e. absurd (clash (is_ept image) ept one);
        machine = λ i s at from to here member e. read_section (i, s, at, from, to, member);
        whole = λ from small inside halves e. read_use (of_low_half (from, small, inside, λ yes. absurd (clash (has_halves image.mechanism) yes halves)));
        low = λ from small inside halves ours e. read_use (of_low_half (from, small, inside, λ yes. low_is ours));
        high = λ from small past inside halves e. read_use (of_high_half (from, small, past, inside, halves));
      }

  pub writes : byte_refusal (page_entry image c page) pkru Write form ≡ None → MayWrite image c page
  writes = by_region image c page P regions
    where
      P : Option Entry → Type 0
      P x = byte_refusal x pkru Write form ≡ None → MayWrite image c page

      regions : Regions image c page P
      regions = record {
        none = λ e. cc;
        code = λ from to maps e. let f = allowed page 2 0 pkru Write form e in cc;
        literal = λ from to e. let f = allowed page 0 0 pkru Write form e in cc;
        mailbox = λ from is e. write_use (of_mailbox (from, is));
        thread = λ at e. write_thread at (eq_if c image.scheduler (scheduled (c == image.scheduler) (if is_keyed image.mechanism then 1 else 0) refl e));
        device = λ from to own e. write_use (of_device (from, to, owner_is own));
        section = λ i s at from to one e. absurd (clash (is_ept image) ept one);
        machine = λ i s at from to here member e. write_section (i, s, at, from, to, written (has_member s.writers c) s.key e);
        whole = λ from small inside halves e. write_use (of_low_half (from, small, inside, λ yes. absurd (clash (has_halves image.mechanism) yes halves)));
        low = λ from small inside halves ours e. write_use (of_low_half (from, small, inside, λ yes. low_is ours));
        high = λ from small past inside halves e. write_use (of_high_half (from, small, past, inside, halves));
      }

  -- What the space permits is granted.
  pub permits : (access : Access) → access ≢ Fetch → byte_refusal (page_entry image c page) pkru access form ≡ None → Granted image c access page
  permits Read kind e = reads e
  permits Write kind e = writes e
  permits Fetch kind e = absurd (kind refl)
