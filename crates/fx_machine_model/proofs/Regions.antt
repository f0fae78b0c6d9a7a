-- Accesses that each region permits, where there is one address space.
use Rattle.std.proofs.Common.{◌≡◌, ◌≢◌, ℕ, ◌+◌, ◌*◌, ◌-◌, ◌%◌, ◌^◌, ◌<◌, ◌≤◌, Bool, true, false, None, Some, length, refl, sym, ap, ◌∙◌, subst, arith}
use Rattle.std.specs.Prelude.{if◌then◌else◌, nat_eq, ◌&&◌, not}
use Rattle.std.proofs.Math.Nat.{mul_left_comm}
use Rattle.fx_vm_pages.specs.Access.{byte_refusal, is_register_form, is_locked, page_of, access_check}
use Rattle.fx_vm_pages.specs.declared.entry.Pkru.{Pkru}
use Rattle.fx_vm_pages.specs.declared.access.Access.{Access}
use Rattle.fx_vm_pages.specs.declared.access.Access.TheVariants.{Read, Write, Fetch}
use Rattle.fx_image.specs.Layout.{code_start, has_halves, stack_low, stack_bytes, stack_span, stack_count}
use Rattle.fx_image.specs.declared.forms.Image.{Image}
use Rattle.fx_machine_model.specs.Layout.{page_entry, maps_code, mapped, is_ept, owner_of, private_key, common_key, low_half, stack_compartment}
use Rattle.fx_machine_model.specs.Moves.{device_at}
use Rattle.fx_machine_model.specs.Standing.{Fits}
use Rattle.fx_machine_model.proofs.Checks.{check_page, check_region}
use Rattle.fx_machine_model.proofs.Pages.{code_page, maps_all, device_page, stack_low_page}

-- A byte of code that the space maps is fetched, whatever PKRU holds.
pub fetch_mapped : (image : Image) (space : ℕ) (pkru : Pkru) (offset : ℕ) → Fits image → offset < length image.code → maps_code image space ((page_of (code_start + offset) - 0x400) * 4096) ≡ true → access_check (page_entry image space) pkru Fetch (code_start + offset) 1 ≡ None
fetch_mapped image space pkru offset f lt maps =
    let c = f.code in
    let page = page_of (code_start + offset) in
    let is : page_entry image space page ≡ mapped page 2 0 = code_page image space page (omega arith) (omega arith) maps in
    check_page (page_entry image space) pkru Fetch (code_start + offset) 1 (record { frame = page; flags = record { 0 = 2 }; key = 0 }) (omega arith) (omega arith) is refl

-- Where there is one address space, it maps all code.
pub fetch_code : (image : Image) (space : ℕ) (pkru : Pkru) (offset : ℕ) → Fits image → is_ept image ≡ false → offset < length image.code → access_check (page_entry image space) pkru Fetch (code_start + offset) 1 ≡ None
fetch_code image space pkru offset f h lt = fetch_mapped image space pkru offset f lt (maps_all image space ((page_of (code_start + offset) - 0x400) * 4096) h)

-- The address of a device's register.
abbrev pub register_address : ℕ → ℕ → ℕ
register_address device register = 0xf100000 + 4096 * device + 8 * register

register_page : (device register : ℕ) → register < 512 → page_of (register_address device register) ≡ 0xf100 + device
register_page device register lt = omega arith

register_entry : (image : Image) (space device register : ℕ) → Fits image → is_ept image ≡ false → device < 16 → register < 512 → page_entry image space (page_of (register_address device register)) ≡ mapped (0xf100 + device) 5 (private_key image (owner_of image device))
register_entry image space device register f h d r =
    let e : (0xf100 + device) - 0xf100 ≡ device = omega arith in
    ap (page_entry image space) (register_page device register r) ∙ device_page image space (0xf100 + device) f h (omega arith) (omega arith) ∙ ap (λ n. mapped (0xf100 + device) 5 (private_key image (owner_of image n))) e

-- An 8-byte load or store of a register is an operation on its device.
pub device_register : (image : Image) (space device register : ℕ) → Fits image → is_ept image ≡ false → device < 16 → register < 512 → device_at (page_entry image space (page_of (register_address device register))) (register_address device register) ≡ Some device
device_register image space device register f h d r =
    let p = register_page device register r in
    let e : page_of (register_address device register) - 0xf100 ≡ device = omega arith in
    ap (λ x. device_at x (register_address device register)) (register_entry image space device register f h d r) ∙ ap Some e

register_form : (device register : ℕ) → is_register_form (register_address device register) 8 ≡ true
register_form device register = let e : register_address device register % 8 ≡ 0 = omega arith in rw e refl

pub use_register : (image : Image) (space device register : ℕ) (pkru : Pkru) (access : Access) → Fits image → is_ept image ≡ false → device < 16 → register < 512 → access ≢ Fetch → is_locked pkru (private_key image (owner_of image device)) access ≡ false → access_check (page_entry image space) pkru access (register_address device register) 8 ≡ None
use_register image space device register pkru access f h d r kind free =
    check_page (page_entry image space) pkru access (register_address device register) 8 _ (omega arith) (omega arith) (register_entry image space device register f h d r) (allowed access kind free)
  where
    allowed : (access : Access) → access ≢ Fetch → is_locked pkru (private_key image (owner_of image device)) access ≡ false → byte_refusal (mapped (0xf100 + device) 5 (private_key image (owner_of image device))) pkru access (is_register_form (register_address device register) 8) ≡ None
    allowed Read kind free = let e = register_form device register in simp (e, free)
    allowed Write kind free = let e = register_form device register in simp (e, free)
    allowed Fetch kind free = absurd (kind refl)

-- The key of the low half of stack k.
abbrev pub low_key : Image → ℕ → ℕ
low_key image k = if has_halves image.mechanism then private_key image (stack_compartment image k) else common_key image

by_half : (page a b : ℕ) (halves closed : Bool) → closed ≡ false → (if not halves then mapped page 1 a else if closed then None else mapped page 1 b) ≡ mapped page 1 (if halves then b else a)
by_half page a b true closed e = rw e refl
by_half page a b false closed e = refl

low_entry : (image : Image) (space k page : ℕ) → is_ept image ≡ false → low_half image space k page ≡ mapped page 1 (low_key image k)
low_entry image space k page h =
    by_half page (common_key image) (private_key image (stack_compartment image k)) (has_halves image.mechanism) (is_ept image && not (nat_eq space (stack_compartment image k))) (ap (λ t. t && not (nat_eq space (stack_compartment image k))) h)

-- The stacks begin at whole pages.
stack_pages : (image : Image) (k : ℕ) → stack_low image k ≡ 4096 * (0x20001 + k * (2 * image.stack_pages + 2))
stack_pages image k =
    let e : stack_span image ≡ 4096 * (2 * image.stack_pages + 2) = omega arith in
    let m : k * (4096 * (2 * image.stack_pages + 2)) ≡ 4096 * (k * (2 * image.stack_pages + 2)) = mul_left_comm k 4096 (2 * image.stack_pages + 2) in
    ap (λ n. 0x20001000 + k * n) e ∙ omega arith

stack_entry_at : (image : Image) (space k address : ℕ) → Fits image → is_ept image ≡ false → k < stack_count image → stack_low image k ≤ address → address < stack_low image k + stack_bytes image → page_entry image space (page_of address) ≡ mapped (page_of address) 1 (low_key image k)
stack_entry_at image space k address f h small from to =
    let e = stack_pages image k in
    let place = page_of address * 4096 - stack_low image k in
    stack_low_page image space k place (page_of address) f h small (omega arith) (omega arith) ∙ low_entry image space k (page_of address) h

-- No device is in a stack.
pub device_stack : (image : Image) (space k address : ℕ) → Fits image → is_ept image ≡ false → k < stack_count image → stack_low image k ≤ address → address < stack_low image k + stack_bytes image → device_at (page_entry image space (page_of address)) address ≡ None
device_stack image space k address f h small from to = ap (λ x. device_at x address) (stack_entry_at image space k address f h small from to)

-- Bytes within the low half of stack k.
pub use_stack : (image : Image) (space k address bytes : ℕ) (pkru : Pkru) (access : Access) → Fits image → is_ept image ≡ false → k < stack_count image → stack_low image k ≤ address → address + bytes ≤ stack_low image k + stack_bytes image → stack_low image k + stack_bytes image ≤ 2 ^ 64 → bytes ≢ 0 → access ≢ Fetch → is_locked pkru (low_key image k) access ≡ false → access_check (page_entry image space) pkru access address bytes ≡ None
use_stack image space k address bytes pkru access f h small from to top some kind free =
    let e = stack_pages image k in
    let low = 0x20001 + k * (2 * image.stack_pages + 2) in
    check_region (page_entry image space) pkru access low (low + image.stack_pages) address bytes (omega arith) (omega arith) (omega arith) (omega arith)
    (λ page first last.
    let is : page_entry image space page ≡ mapped page 1 (low_key image k) = stack_low_page image space k (page * 4096 - stack_low image k) page f h small (omega arith) (omega arith) ∙ low_entry image space k page h in
    subst (λ x. byte_refusal x pkru access (is_register_form address bytes) ≡ None) (sym is) (allowed access page kind free))
  where
    allowed : (access : Access) (page : ℕ) → access ≢ Fetch → is_locked pkru (low_key image k) access ≡ false → byte_refusal (mapped page 1 (low_key image k)) pkru access (is_register_form address bytes) ≡ None
    allowed Read page kind free = simp free
    allowed Write page kind free = simp free
    allowed Fetch page kind free = absurd (kind refl)
