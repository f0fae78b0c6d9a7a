-- What a turn leaves, and that its access was permitted.
use Rattle.std.proofs.Common.{◌≡◌, ℕ, ◌+◌, ◌%◌, ◌^◌, ◌<◌, ◌≤◌, ◌⊎◌, inl, inr, Bool, true, false, [], Option, None, Some, refl, sym, ap, ◌∙◌, subst, arith, cond, lit≤}
use Rattle.std.specs.Prelude.{nat_lt, ◌&&◌, not, if◌then◌else◌}
use Rattle.std.proofs.lemmas.Bool.Decides.{nat_tests}
use Rattle.fx_x64_forms.specs.Numbers.{width_bytes}
use Rattle.fx_x64_forms.specs.declared.operand.Width.{Width}
use Rattle.fx_x64_forms.specs.declared.operand.Width.TheVariants.{W8, W16, W32, W64}
use Rattle.fx_x64_forms.specs.declared.operand.Reg.{Reg}
use Rattle.fx_x64_forms.specs.declared.operand.Reg.TheVariants.{Rsp, Rcx, Rdx}
use Rattle.fx_x64_forms.specs.declared.inst.UnaryOp.{UnaryOp}
use Rattle.fx_x64_forms.specs.declared.inst.UnaryOp.TheVariants.{Not, Neg, Div, Idiv}
use Rattle.fx_x64_forms.specs.declared.inst.Inst.{Inst}
use Rattle.fx_x64_forms.specs.declared.inst.Inst.TheVariants.{Mov, Load, LoadZero, LoadSign, Zero, Sign, Store, MovImm, MovImm64, Lea, Alu, AluImm, Imul, Shift, Unary, Cqo, Setcc, Jcc, Jmp, Call, Ret, Push, Pop, Hlt, Nop, Wrpkru, Rdpkru}
use Rattle.fx_vm_pages.specs.Entries.{is_device}
use Rattle.fx_vm_pages.specs.Access.{access_check, byte_refusal, page_of, is_register_form, is_allowed, is_locked}
use Rattle.fx_vm_pages.specs.declared.entry.Entry.{Entry}
use Rattle.fx_vm_pages.specs.declared.entry.Pkru.{Pkru}
use Rattle.fx_vm_pages.specs.declared.access.Access.{Access}
use Rattle.fx_vm_pages.specs.declared.access.Access.TheVariants.{Read, Write}
use Rattle.fx_vm_pages.specs.declared.access.Refusal.{Refusal}
use Rattle.fx_vm_pages.specs.declared.access.Refusal.TheVariants.{Permission, Key}
use Rattle.fx_cpu.specs.Registers.{reg, past, plus, below, quotient}
use Rattle.fx_cpu.specs.Memory.{stored, behind, byte_of, is_among}
use Rattle.fx_cpu.specs.Does.{need, finish, unary_need, division_need, key_need, is_low_zero}
use Rattle.fx_cpu.specs.declared.registers.Regs.{Regs}
use Rattle.fx_cpu.specs.declared.need.Need.{Need}
use Rattle.fx_cpu.specs.declared.need.Need.TheVariants as needs
use Rattle.fx_image.specs.declared.forms.Image.{Image}
use Rattle.fx_machine_model.specs.Layout.{page_entry}
use Rattle.fx_machine_model.specs.Moves.{World}
use Rattle.fx_machine_model.specs.declared.fetched.Fetched.TheVariants.{Found}
use Rattle.fx_machine_model.proofs.Checks.{each_free}
use Rattle.fx_machine_model.specs.Touches.{Touch, touch_of, found_touch, found_at, access_of}
use Rattle.fx_machine_law.specs.Kept.{AccessesArePermitted, OnlyWritesChange, MoveKeepsByte}
use Rattle.fx_machine_model.proofs.Ways.{Made, Ways, goes}

-- ---- a store is below 2 ^ 64

by_division : (x : Option (ℕ × ℕ)) (width : Width) (a v : ℕ) → division_need x ≡ needs.Writes width a v → ⊥
by_division None width a v e = cc
by_division (Some x) width a v e = cc

by_unary : (op : UnaryOp) (w : Width) (q : Reg) (s : Regs) (width : Width) (a v : ℕ) → unary_need op w q s ≡ needs.Writes width a v → ⊥
by_unary Not w q s width a v e = cc
by_unary Neg w q s width a v e = cc
by_unary Div w q s width a v e = by_division (quotient false w q s) width a v e
by_unary Idiv w q s width a v e = by_division (quotient true w q s) width a v e

by_key : (t : Bool) (width : Width) (a v : ℕ) → key_need t ≡ needs.Writes width a v → ⊥
by_key true width a v e = cc
by_key false width a v e = cc

pub write_low : (i : Inst) (s : Regs) (width : Width) (a v : ℕ) → need i s ≡ needs.Writes width a v → a < 2 ^ 64
unfolding plus below
write_low (Mov w dst src) s width a v e = cc
write_low (Load w dst mem) s width a v e = cc
write_low (LoadZero from dst mem) s width a v e = cc
write_low (LoadSign from dst mem) s width a v e = cc
write_low (Zero from dst src) s width a v e = cc
write_low (Sign from dst src) s width a v e = cc
write_low (Store w mem src) s width a v e = let at : plus (reg s mem.base) mem.disp ≡ a = cc in subst (λ b. b < 2 ^ 64) at (omega arith)
write_low (MovImm dst imm) s width a v e = cc
write_low (MovImm64 dst imm) s width a v e = cc
write_low (Lea dst mem) s width a v e = cc
write_low (Alu op w dst src) s width a v e = cc
write_low (AluImm op w dst imm) s width a v e = cc
write_low (Imul w dst src) s width a v e = cc
write_low (Shift op w dst) s width a v e = cc
write_low (Unary op w by) s width a v e = absurd (by_unary op w by s width a v e)
write_low Cqo s width a v e = cc
write_low (Setcc c dst) s width a v e = cc
write_low (Jcc c rel) s width a v e = cc
write_low (Jmp rel) s width a v e = cc
write_low (Call rel) s width a v e = let at : below (reg s Rsp) ≡ a = cc in subst (λ b. b < 2 ^ 64) at (omega arith)
write_low Ret s width a v e = cc
write_low (Push x) s width a v e = let at : below (reg s Rsp) ≡ a = cc in subst (λ b. b < 2 ^ 64) at (omega arith)
write_low (Pop x) s width a v e = cc
write_low Hlt s width a v e = cc
write_low Nop s width a v e = cc
write_low Wrpkru s width a v e = absurd (by_key (is_low_zero s Rcx && is_low_zero s Rdx) width a v e)
write_low Rdpkru s width a v e = absurd (by_key (is_low_zero s Rcx) width a v e)

-- ---- a byte that a store doesn't reach, or can't

pub elsewhere : (memory : ℕ → ℕ) (width : Width) (a v k : ℕ) → is_among a (width_bytes width) k ≡ false → stored memory width a v k ≡ memory k
unfolding stored
elsewhere memory width a v k e = ap (λ t. cond t (byte_of v (behind a k)) (memory k)) e

lt_if : (a b : ℕ) → nat_lt a b ≡ true → a < b
lt_if a b e = grind (arith, nat_tests)

both : (a b : Bool) → a && b ≡ true → (a ≡ true) × (b ≡ true)
both true b e = (refl, e)
both false b e = cc

small_width : (width : Width) → width_bytes width ≤ 8
small_width W8 = lit≤ tt
small_width W16 = lit≤ tt
small_width W32 = lit≤ tt
small_width W64 = lit≤ tt

-- a byte that is reached, by its place in the access
pub reached : (a n k : ℕ) → a < 2 ^ 64 → is_among a n k ≡ true → (behind a k < n) × ((a + behind a k) % 2 ^ 64 ≡ k)
reached a n k low e =
    let (top, near) = both (nat_lt k (2 ^ 64)) (nat_lt (behind a k) n) e in
    let t : k < 2 ^ 64 = lt_if k (2 ^ 64) top in
    (lt_if (behind a k) n near, omega arith)

-- what takes an access of another form takes a device's form
open_form : (x : Option Entry) (pkru : Pkru) (form : Bool) → byte_refusal x pkru Write form ≡ None → byte_refusal x pkru Write true ≡ None
open_form None pkru form e = cc
open_form (Some x) pkru true e = e
open_form (Some x) pkru false e = by (is_allowed x Write) (is_device x.flags) (is_locked pkru x.key Write) e
  where
    by : (allowed device locked : Bool) → ◌≡◌ {A = Option Refusal} (if not allowed then Some Permission else if device && not false then Some Permission else if locked then Some Key else None) None → ◌≡◌ {A = Option Refusal} (if not allowed then Some Permission else if device && not true then Some Permission else if locked then Some Key else None) None
    by true true locked e = cc
    by true false true e = cc
    by true false false e = refl
    by false device locked e = cc

-- where nothing refuses a write, its bytes' pages are open
pub write_opens : (entries : ℕ → Option Entry) (pkru : Pkru) (a n k : ℕ) → a < 2 ^ 64 → access_check entries pkru Write a n ≡ None → is_among a n k ≡ true → byte_refusal (entries (page_of k)) pkru Write true ≡ None
write_opens entries pkru a n k low free e =
    let (near, at) = reached a n k low e in
    open_form (entries (page_of k)) pkru (is_register_form a n)
    (subst (λ b. byte_refusal (entries (page_of b)) pkru Write (is_register_form a n) ≡ None) at (each_free entries pkru Write a n (behind a k) low free near))

-- ---- the three laws

pub move_keeps_byte : MoveKeepsByte
move_keeps_byte image vcpu r q w y o k e closed = goes image vcpu r w P ways o q y e
  where
    P : Made
    P o q y = y.memory k ≡ w.memory k

    at : (width : Width) (a v : ℕ) (t : Bool) → is_among a (width_bytes width) k ≡ t → a < 2 ^ 64 → access_check (page_entry image vcpu) r.pkru Write a (width_bytes width) ≡ None → stored w.memory width a v k ≡ w.memory k
    at width a v true e low free = absurd (closed (write_opens (page_entry image vcpu) r.pkru a (width_bytes width) k low free e))
    at width a v false e low free = elsewhere w.memory width a v k e

    ways : Ways image vcpu r w P
    ways = record {
      quiet = λ i len found n. refl;
      loads = λ i len found width a n free dev. refl;
      asks = λ i len found width a n free device dev answer rest is. refl;
      waits = λ i len found width a n free device dev. refl;
      stores = λ i len found width a v n free dev. at width a v (is_among a (width_bytes width) k) refl (write_low i (past r len) width a v n) free;
      tells = λ i len found width a v n free device dev. refl;
    }

-- the access of a turn, by its instruction
pub touch_is : (image : Image) (vcpu : ℕ) (r : Regs) (w : World) (i : Inst) (len : ℕ) (n : Need) → found_at image vcpu r w ≡ Found i len → need i (past r len) ≡ n → access_of image vcpu r w ≡ touch_of n
touch_is image vcpu r w i len n found is = ap (λ x. found_touch x r) found ∙ ap touch_of is

-- a turn without an access, and one with a permitted one
abbrev IsFree : Image → ℕ → Regs → World → Option Touch → Type 0
IsFree image vcpu r w x = (t : Touch) → x ≡ Some t → access_check (page_entry image vcpu) r.pkru t.access t.address (width_bytes t.width) ≡ None

free_read : (image : Image) (vcpu : ℕ) (r : Regs) (w : World) (access : Access) (a : ℕ) (width : Width) → access_check (page_entry image vcpu) r.pkru access a (width_bytes width) ≡ None → IsFree image vcpu r w (Some (record { access = access; address = a; width = width }))
free_read image vcpu r w access a width free t e =
    let s : record { access = access; address = a; width = width } ≡ t = cc in
    subst (λ (t : Touch). access_check (page_entry image vcpu) r.pkru t.access t.address (width_bytes t.width) ≡ None) s free

pub accesses_are_permitted : AccessesArePermitted
accesses_are_permitted image vcpu r q w y o t e is = goes image vcpu r w P ways o q y e t is
  where
    P : Made
    P o q y = IsFree image vcpu r w (access_of image vcpu r w)

    at : (i : Inst) (len : ℕ) (n : Need) → found_at image vcpu r w ≡ Found i len → need i (past r len) ≡ n → IsFree image vcpu r w (touch_of n) → P o q y
    at i len n found is h = subst (IsFree image vcpu r w) (sym (touch_is image vcpu r w i len n found is)) h

    ways : Ways image vcpu r w P
    ways = record {
      quiet = λ i len found n. at i len needs.Quiet found n (λ t e. cc);
      loads = λ i len found width a n free dev. at i len (needs.Reads width a) found n (free_read image vcpu r w Read a width free);
      asks = λ i len found width a n free device dev answer rest is. at i len (needs.Reads width a) found n (free_read image vcpu r w Read a width free);
      waits = λ i len found width a n free device dev. at i len (needs.Reads width a) found n (free_read image vcpu r w Read a width free);
      stores = λ i len found width a v n free dev. at i len (needs.Writes width a v) found n (free_read image vcpu r w Write a width free);
      tells = λ i len found width a v n free device dev. at i len (needs.Writes width a v) found n (free_read image vcpu r w Write a width free);
    }

pub only_writes_change : OnlyWritesChange
only_writes_change image vcpu r q w y o k e = goes image vcpu r w P ways o q y e
  where
    P : Made
    P o q y = (y.memory k ≡ w.memory k) ⊎ ((t : Touch) × (access_of image vcpu r w ≡ Some t) × (t.access ≡ Write) × (is_among t.address (width_bytes t.width) k ≡ true))

    at : (i : Inst) (len : ℕ) (width : Width) (a v : ℕ) (t : Bool) → found_at image vcpu r w ≡ Found i len → need i (past r len) ≡ needs.Writes width a v → is_among a (width_bytes width) k ≡ t → P [] (finish i (past r len) 0) (record w { memory = stored w.memory width a v })
    at i len width a v true found n e = inr (record { access = Write; address = a; width = width }, touch_is image vcpu r w i len (needs.Writes width a v) found n, refl, e)
    at i len width a v false found n e = inl (elsewhere w.memory width a v k e)

    ways : Ways image vcpu r w P
    ways = record {
      quiet = λ i len found n. inl refl;
      loads = λ i len found width a n free dev. inl refl;
      asks = λ i len found width a n free device dev answer rest is. inl refl;
      waits = λ i len found width a n free device dev. inl refl;
      stores = λ i len found width a v n free dev. at i len width a v (is_among a (width_bytes width) k) found n refl;
      tells = λ i len found width a v n free device dev. inl refl;
    }
