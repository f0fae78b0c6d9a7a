-- Accesses within one page.
use Rattle.std.proofs.Common.{◌≡◌, ℕ, zero, suc, ◌+◌, ◌-◌, ◌%◌, ◌^◌, ◌<◌, ◌≤◌, Bool, true, false, cond, Option, None, Some, refl, ap, ◌∙◌, subst, arith}
use Rattle.std.specs.Prelude.{◌&&◌, not, if◌then◌else◌}
use Rattle.std.specs.Result.{is_ok}
use Rattle.fx_vm_pages.specs.Entries.{is_device}
use Rattle.fx_vm_pages.specs.declared.access.Refusal.TheVariants.{Permission, Key}
use Rattle.fx_vm_pages.specs.declared.entry.Entry.{Entry}
use Rattle.fx_vm_pages.specs.declared.entry.Pkru.{Pkru}
use Rattle.fx_vm_pages.specs.declared.access.Access.{Access}
use Rattle.fx_vm_pages.specs.declared.access.Refusal.{Refusal}
use Rattle.fx_vm_pages.specs.Access.{is_allowed, is_locked, verdict, permitted, byte_refusal, refused_from, refused_or, page_of, is_register_form, access_check}
use Rattle.fx_machine_model.specs.Moves.{device_at}
use Rattle.fx_machine_model.proofs.Checks.{check_region}
use Rattle.fx_machine.specs.Reaching.{reach_of, reach_by, unless_device, IsPlain}
use Rattle.fx_machine.specs.declared.check.Reach.TheVariants.{Memory}

pub check_is : (entries : ℕ → Option Entry) (pkru : Pkru) (access : Access) (a n : ℕ) → access_check entries pkru access a n ≡ refused_from entries pkru access (is_register_form a n) a n
unfolding access_check
check_is entries pkru access a n = refl

pub page_free : (entries : ℕ → Option Entry) (pkru : Pkru) (access : Access) (a n : ℕ) → a < 2 ^ 64 → a % 4096 + n ≤ 4096 → byte_refusal (entries (page_of a)) pkru access (is_register_form a n) ≡ None → access_check entries pkru access a n ≡ None
page_free entries pkru access a n lt inside free =
    check_region entries pkru access (page_of a) (page_of a + 1) a n (omega arith) (omega arith) (omega arith) lt
    (λ page from to.
    let same : page_of a ≡ page = omega arith in
    subst (λ q. byte_refusal (entries q) pkru access (is_register_form a n) ≡ None) same free)

pub page_refused : (entries : ℕ → Option Entry) (pkru : Pkru) (access : Access) (a n : ℕ) (why : Refusal) → 0 < n → byte_refusal (entries (page_of a)) pkru access (is_register_form a n) ≡ Some why → access_check entries pkru access a n ≡ Some (a, why)
unfolding access_check
page_refused entries pkru access a zero why some e = absurd (omega arith)
page_refused entries pkru access a (suc n) why some e = ap (λ x. refused_or a x (refused_from entries pkru access (is_register_form a (suc n)) ((a + 1) % 2 ^ 64) n)) e

-- ---- pages of memory

free_by : (allowed device locked form : Bool) → device ≡ false
    → is_ok (verdict (if not allowed then Some Permission else if device && not true then Some Permission else if locked then Some Key else None)) ≡ true
    → ◌≡◌ {A = Option Refusal} (if not allowed then Some Permission else if device && not form then Some Permission else if locked then Some Key else None) None
free_by true true locked form d e = cc
free_by true false true form d e = cc
free_by true false false form d e = refl
free_by false device locked form d e = cc

plain_free : (entry : Option Entry) (pkru : Pkru) (access : Access) (form : Bool) → IsPlain entry → is_ok (permitted entry pkru access) ≡ true → byte_refusal entry pkru access form ≡ None
plain_free None pkru access form plain ok = cc
plain_free (Some e) pkru access form plain ok = free_by (is_allowed e access) (is_device e.flags) (is_locked pkru e.key access) form plain ok

plain_no_device : (entry : Option Entry) (a : ℕ) → IsPlain entry → device_at entry a ≡ None
plain_no_device None a plain = refl
plain_no_device (Some e) a plain = ap (λ t. cond t (Some (page_of a - 0xf100)) None) plain

pub plain_memory : (entries : ℕ → Option Entry) (pkru : Pkru) (access : Access) (a n : ℕ) (entry : Option Entry) → entry ≡ entries (page_of a) → IsPlain entry → is_ok (permitted entry pkru access) ≡ true → a < 2 ^ 64 → a % 4096 + n ≤ 4096
    → reach_of entries pkru access a n ≡ Memory
plain_memory entries pkru access a n entry is plain ok lt inside =
    let free = page_free entries pkru access a n lt inside (subst (λ x. byte_refusal x pkru access (is_register_form a n) ≡ None) is (plain_free entry pkru access (is_register_form a n) plain ok)) in
    let none = subst (λ x. device_at x a ≡ None) is (plain_no_device entry a plain) in
    ap (λ x. reach_by x (device_at (entries (page_of a)) a)) free ∙ ap unless_device none
