-- A turn that touches no device is a step over the port of its address space.
use Rattle.std.proofs.Common.{◌≡◌, ℕ, zero, suc, ◌+◌, ◌%◌, ◌^◌, ◌<◌, Bool, true, false, List, [], ◌∷◌, ◌++◌, length, Option, None, Some, refl, sym, ap, ◌∙◌, subst, arith}
use Rattle.std.specs.Prelude.{◌&&◌, not, if◌then◌else◌, Result, Ok, Err, MatchOption}
use Rattle.fx_outcomes.specs.Runs.{Goes, Stops}
use Rattle.fx_x64_forms.specs.Numbers.{width_bytes}
use Rattle.fx_x64_forms.specs.declared.operand.Width.{Width}
use Rattle.fx_x64_forms.specs.declared.operand.Width.TheVariants.{W8}
use Rattle.fx_x64_forms.specs.declared.operand.Reg.{Reg}
use Rattle.fx_x64_forms.specs.declared.operand.Reg.TheVariants.{Rcx, Rdx}
use Rattle.fx_x64_forms.specs.declared.inst.UnaryOp.{UnaryOp}
use Rattle.fx_x64_forms.specs.declared.inst.UnaryOp.TheVariants.{Not, Neg, Div, Idiv}
use Rattle.fx_x64_forms.specs.declared.inst.Inst.{Inst}
use Rattle.fx_x64_forms.specs.declared.inst.Inst.TheVariants.{Mov, Load, LoadZero, LoadSign, Zero, Sign, Store, MovImm, MovImm64, Lea, Alu, AluImm, Imul, Shift, Unary, Cqo, Setcc, Jcc, Jmp, Call, Ret, Push, Pop, Hlt, Nop, Wrpkru, Rdpkru}
use Rattle.fx_x64_code.specs.Decoded.{decoded}
use Rattle.fx_vm_pages.specs.Entries.{is_device}
use Rattle.fx_vm_pages.specs.Access.{access_check, byte_refusal, refused_from, refused_or, is_register_form, is_allowed, page_of}
use Rattle.fx_vm_pages.specs.declared.entry.Entry.{Entry}
use Rattle.fx_vm_pages.specs.declared.entry.Pkru.{Pkru}
use Rattle.fx_vm_pages.specs.declared.access.Access.TheVariants.{Read, Write, Fetch}
use Rattle.fx_vm_pages.specs.declared.access.Refusal.{Refusal}
use Rattle.fx_cpu.specs.Registers.{past, quotient}
use Rattle.fx_cpu.specs.Memory.{on, word_at, stored}
use Rattle.fx_cpu.specs.Does.{need, finish, unary_need, division_need, key_need, is_low_zero}
use Rattle.fx_cpu.specs.World as cpu
use Rattle.fx_cpu.specs.Steps as steps
use Rattle.fx_cpu.specs.Fetches.{Fetches}
use Rattle.fx_cpu.specs.declared.port.Place.{Place}
use Rattle.fx_cpu.specs.declared.registers.Regs.{Regs}
use Rattle.fx_cpu.specs.declared.need.Need.{Need}
use Rattle.fx_cpu.specs.declared.need.Need.TheVariants as needs
use Rattle.fx_cpu.specs.declared.trap.PortStop.{PortStop}
use Rattle.fx_cpu.specs.declared.trap.PortStop.TheVariants.{Refused}
use Rattle.fx_cpu.specs.declared.trap.Trap.{Trap}
use Rattle.fx_cpu.specs.declared.trap.Trap.TheVariants.{Page, Invalid, Divide, Protection, Halt}
use Rattle.fx_cpu.specs.declared.trap.Stepped.{Stepped}
use Rattle.fx_cpu.specs.declared.trap.Stepped.TheVariants.{Went, Fault}
use Rattle.fx_cpu.proofs.Memory.{word_fits}
use Rattle.fx_image.specs.declared.forms.Image.{Image}
use Rattle.fx_machine_model.specs.Layout.{page_entry}
use Rattle.fx_machine_model.specs.Moves.{World, Move, move, move_by, perform, perform_need, checked, read, write, fetched, unless_refused, unless_found, device_at, trapped}
use Rattle.fx_machine_model.specs.Touches.{Touch, touch_of, found_touch}
use Rattle.fx_machine_model.specs.declared.fetched.Fetched.{Fetched}
use Rattle.fx_machine_model.specs.declared.fetched.Fetched.TheVariants.{Found, RefusedAt, Unspelled}
use Rattle.fx_machine_law.specs.Steps.{port_of, waits_by, stop_of, IsStep, MoveIsStep}

-- ---- a fetch looks at no key

any_key : (x : Option Entry) (p q : Pkru) (form : Bool) → byte_refusal x p Fetch form ≡ byte_refusal x q Fetch form
any_key None p q form = refl
any_key (Some x) p q form = refl

fetch_any : (entries : ℕ → Option Entry) (p q : Pkru) (a : ℕ) → access_check entries p Fetch a 1 ≡ access_check entries q Fetch a 1
unfolding access_check
fetch_any entries p q a = ap (λ x. refused_or a x None) (any_key (entries (page_of a)) p q (is_register_form a 1))

-- ---- what stops an instruction

module _ (image : Image) (vcpu : ℕ) (r : Regs) where
  abbrev Known : Trap → Type 0
  Known trap = stop_of image vcpu r trap ≡ trapped trap r

  same : (s t : Trap) → needs.Stops s ≡ needs.Stops t → s ≡ t
  same s t e = cc

  by_division : (x : Option (ℕ × ℕ)) (trap : Trap) → division_need x ≡ needs.Stops trap → Known trap
  by_division None trap e = subst Known (same Divide trap e) refl
  by_division (Some x) trap e = cc

  by_unary : (op : UnaryOp) (w : Width) (q : Reg) (s : Regs) (trap : Trap) → unary_need op w q s ≡ needs.Stops trap → Known trap
  by_unary Not w q s trap e = cc
  by_unary Neg w q s trap e = cc
  by_unary Div w q s trap e = by_division (quotient false w q s) trap e
  by_unary Idiv w q s trap e = by_division (quotient true w q s) trap e

  by_key : (t : Bool) (trap : Trap) → key_need t ≡ needs.Stops trap → Known trap
  by_key true trap e = cc
  by_key false trap e = subst Known (same Protection trap e) refl

  stops_known : (i : Inst) (s : Regs) (trap : Trap) → need i s ≡ needs.Stops trap → Known trap
  stops_known (Mov w dst src) s trap e = cc
  stops_known (Load w dst mem) s trap e = cc
  stops_known (LoadZero from dst mem) s trap e = cc
  stops_known (LoadSign from dst mem) s trap e = cc
  stops_known (Zero from dst src) s trap e = cc
  stops_known (Sign from dst src) s trap e = cc
  stops_known (Store w mem src) s trap e = cc
  stops_known (MovImm dst imm) s trap e = cc
  stops_known (MovImm64 dst imm) s trap e = cc
  stops_known (Lea dst mem) s trap e = cc
  stops_known (Alu op w dst src) s trap e = cc
  stops_known (AluImm op w dst imm) s trap e = cc
  stops_known (Imul w dst src) s trap e = cc
  stops_known (Shift op w dst) s trap e = cc
  stops_known (Unary op w by) s trap e = by_unary op w by s trap e
  stops_known Cqo s trap e = cc
  stops_known (Setcc c dst) s trap e = cc
  stops_known (Jcc c rel) s trap e = cc
  stops_known (Jmp rel) s trap e = cc
  stops_known (Call rel) s trap e = cc
  stops_known Ret s trap e = cc
  stops_known (Push x) s trap e = cc
  stops_known (Pop x) s trap e = cc
  stops_known Hlt s trap e = subst Known (same Halt trap e) refl
  stops_known Nop s trap e = cc
  stops_known Wrpkru s trap e = by_key (is_low_zero s Rcx && is_low_zero s Rdx) trap e
  stops_known Rdpkru s trap e = by_key (is_low_zero s Rcx) trap e

-- ---- one instruction

module _ (image : Image) (vcpu : ℕ) (r : Regs) (w : World) (counts : ℕ → ℕ) (small : (k : ℕ) → w.memory k < 256) where
  abbrev port : List (Place × ℕ) → cpu.World
  port notes = port_of image vcpu w counts notes

  -- what a move answers, as what an instruction does, by what it asks of memory
  abbrev Did : Need → Inst → Regs → List (Place × ℕ) → Move → Type 0
  Did asked i next notes (Goes made after) = (n : cpu.World) × steps.Does_by asked i next r (port notes) Went after.0 n × (n.bytes ≡ after.1.memory) × (made ≡ []) × (after.1.answers ≡ w.answers)
  Did asked i next notes (Stops made stop) = (trap : Trap) × (n : cpu.World) × steps.Does_by asked i next r (port notes) (Fault trap) r n × (n.bytes ≡ w.memory) × (made ≡ []) × (stop ≡ stop_of image vcpu r trap)

  abbrev Plain : Option Touch → Type 0
  Plain x = (t : Touch) → x ≡ Some t → device_at (page_entry image vcpu (page_of t.address)) t.address ≡ None

  by_read : (i : Inst) (len : ℕ) (notes : List (Place × ℕ)) (width : Width) (a : ℕ) (x : Option (ℕ × Refusal)) → access_check (page_entry image vcpu) r.pkru Read a (width_bytes width) ≡ x → (device : Option ℕ) → device_at (page_entry image vcpu (page_of a)) a ≡ device → device ≡ None
      → Did (needs.Reads width a) i (past r len) notes (checked image vcpu r.pkru Read x (read i len r w width a device))
  by_read i len notes width a None free None at plain = (
    record (port notes) { notes = cpu.noted (port notes) Read width a (word_at w.memory width a) },
    (word_at w.memory width a, refl, (free, ap (λ d. waits_by d w.answers) at, word_fits w.memory width a small, (λ e. refl), refl)),
    refl,
    refl,
    refl,
  )
  by_read i len notes width a None free (Some device) at plain = cc
  by_read i len notes width a (Some first) e device at plain =
      (Page first.0 Read first.1, port notes, (Refused first.0 first.1, refl, refl, (e, refl)), refl, refl, refl)

  by_write : (i : Inst) (len : ℕ) (notes : List (Place × ℕ)) (width : Width) (a v : ℕ) (x : Option (ℕ × Refusal)) → access_check (page_entry image vcpu) r.pkru Write a (width_bytes width) ≡ x → (device : Option ℕ) → device_at (page_entry image vcpu (page_of a)) a ≡ device → device ≡ None
      → Did (needs.Writes width a v) i (past r len) notes (checked image vcpu r.pkru Write x (write i len r w width a v device))
  by_write i len notes width a v None free None at plain = (
    record (port notes) { bytes = cpu.bytes_after (device_at (page_entry image vcpu (page_of a)) a) w.memory width a v; notes = cpu.noted (port notes) Write width a v },
    (refl, (free, refl)),
    ap (λ d. cpu.bytes_after d w.memory width a v) at,
    refl,
    refl,
  )
  by_write i len notes width a v None free (Some device) at plain = cc
  by_write i len notes width a v (Some first) e device at plain =
      (Page first.0 Write first.1, port notes, (Refused first.0 first.1, refl, refl, (e, refl)), refl, refl, refl)

  by_need : (asked : Need) (i : Inst) (len : ℕ) (notes : List (Place × ℕ)) → need i (past r len) ≡ asked → Plain (touch_of asked) → Did asked i (past r len) notes (perform_need image vcpu asked i len r w)
  by_need needs.Quiet i len notes e plain = (port notes, (refl, refl), refl, refl, refl)
  by_need (needs.Reads width a) i len notes e plain =
      by_read i len notes width a (access_check (page_entry image vcpu) r.pkru Read a (width_bytes width)) refl (device_at (page_entry image vcpu (page_of a)) a) refl (plain (record { access = Read; address = a; width = width }) refl)
  by_need (needs.Writes width a v) i len notes e plain =
      by_write i len notes width a v (access_check (page_entry image vcpu) r.pkru Write a (width_bytes width)) refl (device_at (page_entry image vcpu (page_of a)) a) refl (plain (record { access = Write; address = a; width = width }) refl)
  by_need (needs.Stops trap) i len notes e plain = (trap, port notes, (refl, refl, refl), refl, refl, sym (stops_known image vcpu r i (past r len) trap e))

  -- ---- the bytes of it

  abbrev Stepping : ℕ → List ℕ → List (Place × ℕ) → Move → Type 0
  Stepping left text notes (Goes made after) = (n : cpu.World) × Fetches left text r (port notes) Went after.0 n × (n.bytes ≡ after.1.memory) × (made ≡ []) × (after.1.answers ≡ w.answers)
  Stepping left text notes (Stops made stop) = (trap : Trap) × (n : cpu.World) × Fetches left text r (port notes) (Fault trap) r n × (n.bytes ≡ w.memory) × (made ≡ []) × (stop ≡ stop_of image vcpu r trap)

  module _ (left : ℕ) (text : List ℕ) (notes : List (Place × ℕ)) where
    abbrev place : ℕ
    place = on r.rip (length text)

    abbrev longer : List ℕ
    longer = text ++ w.memory place ∷ []

    abbrev noted : List (Place × ℕ)
    noted = cpu.noted (port notes) Fetch W8 place (w.memory place)

    -- one more byte was fetched, and what follows
    one_more : (t : Stepped) (s : Regs) (n : cpu.World) → access_check (page_entry image vcpu) r.pkru Fetch place 1 ≡ None
        → MatchOption (decoded longer) (Fetches left longer r (port noted) t s n) (λ found. steps.Does found.0 found.1 r (port noted) t s n) → Fetches (suc left) text r (port notes) t s n
    unfolding Fetches
    one_more t s n free rest = (Ok (w.memory place), port noted, (sym (fetch_any (page_entry image vcpu) r.pkru (record { 0 = 0 }) place) ∙ free, refl, refl), rest)

    -- no more bytes may be fetched
    refused_more : (first : ℕ × Refusal) → access_check (page_entry image vcpu) r.pkru Fetch place 1 ≡ Some first → Fetches (suc left) text r (port notes) (Fault (Page first.0 Fetch first.1)) r (port notes)
    unfolding Fetches
    refused_more first e = (Err (Refused first.0 first.1), port notes, (sym (fetch_any (page_entry image vcpu) r.pkru (record { 0 = 0 }) place) ∙ e, refl), (refl, refl, refl))

    abbrev Later : Stepped → Regs → cpu.World → Option (Inst × ℕ) → Type 0
    Later t s n x = MatchOption x (Fetches left longer r (port noted) t s n) (λ found. steps.Does found.0 found.1 r (port noted) t s n)

    undecoded : decoded longer ≡ None → access_check (page_entry image vcpu) r.pkru Fetch place 1 ≡ None → (m : Move) → Stepping left longer noted m → Stepping (suc left) text notes m
    undecoded d free (Goes made after) (n, does, bytes, none, same) = (n, one_more Went after.0 n free (subst (Later Went after.0 n) (sym d) does), bytes, none, same)
    undecoded d free (Stops made stop) (trap, n, does, bytes, none, is) = (trap, n, one_more (Fault trap) r n free (subst (Later (Fault trap) r n) (sym d) does), bytes, none, is)

    spelled : (found : Inst × ℕ) → decoded longer ≡ Some found → access_check (page_entry image vcpu) r.pkru Fetch place 1 ≡ None → (m : Move) → Did (need found.0 (past r found.1)) found.0 (past r found.1) noted m → Stepping (suc left) text notes m
    spelled found d free (Goes made after) (n, does, bytes, none, same) = (n, one_more Went after.0 n free (subst (Later Went after.0 n) (sym d) does), bytes, none, same)
    spelled found d free (Stops made stop) (trap, n, does, bytes, none, is) = (trap, n, one_more (Fault trap) r n free (subst (Later (Fault trap) r n) (sym d) does), bytes, none, is)

  no_spelling : (text : List ℕ) (notes : List (Place × ℕ)) → Fetches 0 text r (port notes) (Fault Invalid) r (port notes)
  unfolding Fetches
  no_spelling text notes = (refl, refl, refl)

  by_fetch : (left : ℕ) (text : List ℕ) (notes : List (Place × ℕ)) → Plain (found_touch (fetched (page_entry image vcpu) r.pkru w.memory r.rip left text) r)
      → Stepping left text notes (move_by image vcpu (fetched (page_entry image vcpu) r.pkru w.memory r.rip left text) r w)
  unfolding fetched
  by_fetch zero text notes plain = (Invalid, port notes, no_spelling text notes, refl, refl, refl)
  by_fetch (suc left) text notes plain = by_check (access_check (page_entry image vcpu) r.pkru Fetch (on r.rip (length text)) 1) refl (by_fetch left longer2 noted2) plain
    where
      longer2 : List ℕ
      longer2 = text ++ w.memory (on r.rip (length text)) ∷ []

      noted2 : List (Place × ℕ)
      noted2 = cpu.noted (port notes) Fetch W8 (on r.rip (length text)) (w.memory (on r.rip (length text)))

      rest : Fetched
      rest = fetched (page_entry image vcpu) r.pkru w.memory r.rip left longer2

      by_decoded : access_check (page_entry image vcpu) r.pkru Fetch (on r.rip (length text)) 1 ≡ None → (x : Option (Inst × ℕ)) → decoded longer2 ≡ x → (Plain (found_touch rest r) → Stepping left longer2 noted2 (move_by image vcpu rest r w))
          → Plain (found_touch (unless_found x rest) r) → Stepping (suc left) text notes (move_by image vcpu (unless_found x rest) r w)
      by_decoded free None d go plain = undecoded left text notes d free (move_by image vcpu rest r w) (go plain)
      by_decoded free (Some found) d go plain =
          spelled left text notes found d free (perform image vcpu found.0 found.1 r w) (by_need (need found.0 (past r found.1)) found.0 found.1 noted2 refl plain)

      by_check : (x : Option (ℕ × Refusal)) → access_check (page_entry image vcpu) r.pkru Fetch (on r.rip (length text)) 1 ≡ x → (Plain (found_touch rest r) → Stepping left longer2 noted2 (move_by image vcpu rest r w))
          → Plain (found_touch (unless_refused x (unless_found (decoded longer2) rest)) r) → Stepping (suc left) text notes (move_by image vcpu (unless_refused x (unless_found (decoded longer2) rest)) r w)
      by_check None free go plain = by_decoded free (decoded longer2) refl go plain
      by_check (Some first) e go plain = (Page first.0 Fetch first.1, port notes, refused_more left text notes first e, refl, refl, refl)

-- a whole turn
pub move_is_step : MoveIsStep
unfolding move
move_is_step image vcpu r w counts notes small plain = by_fetch image vcpu r w counts small 15 [] notes plain
