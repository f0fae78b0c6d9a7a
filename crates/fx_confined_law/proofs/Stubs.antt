-- The points of the gates: behind each listed WRPKRU, and the abort stub.
use Rattle.std.proofs.Common.{rules, ◌≡◌, ℕ, pos, ◌+◌, ◌-◌, ◌%◌, ◌^◌, ◌<◌, ◌≤◌, ◌⊎◌, inl, inr, Bool, true, false, length, refl, sym, ap, ◌∙◌, subst, arith}
use Rattle.std.specs.Prelude.{nat_eq, not, if◌then◌else◌}
use Rattle.std.specs.Int.{w64, cast_unsigned}
use Rattle.std.proofs.lemmas.Bool.Decides.{nat_tests}
use Rattle.fx_x64_forms.specs.declared.inst.Inst.{Inst}
use Rattle.fx_x64_forms.specs.declared.inst.Inst.TheVariants.{AluImm, Jcc, MovImm, Hlt, Wrpkru}
use Rattle.fx_x64_forms.specs.declared.inst.AluOp.TheVariants.{Cmp}
use Rattle.fx_x64_forms.specs.declared.operand.Width.TheVariants.{W32}
use Rattle.fx_x64_forms.specs.declared.operand.Reg.TheVariants.{Rax}
use Rattle.fx_x64_forms.specs.declared.operand.Cond.TheVariants.{Ne}
use Rattle.fx_x64_code.specs.Spelling.{spelling, IsRow}
use Rattle.fx_word_ops.specs.Words.{cut}
use Rattle.fx_cpu.specs.Registers.{reg, past, plus}
use Rattle.fx_cpu.specs.Does.{need, finish}
use Rattle.fx_cpu.specs.declared.registers.Regs.{Regs}
use Rattle.fx_cpu.specs.declared.need.Need.TheVariants as needs
use Rattle.fx_cpu.specs.declared.trap.Trap.{Trap}
use Rattle.fx_image.specs.Layout.{code_start}
use Rattle.fx_image.specs.Rules.{IsImage, is_listed}
use Rattle.fx_image.specs.declared.forms.Image.{Image}
use Rattle.fx_machine_model.specs.Layout.{is_ept}
use Rattle.fx_machine_model.proofs.Pages.{fits}
use Rattle.fx_machine_model.specs.Standing.{StandsAt}
use Rattle.fx_confined_model.specs.Grants.{IsHeld}
use Rattle.fx_confined_law.specs.Confined.{IsCheck, HasChecks}
use Rattle.fx_confined_law.proofs.Points as points

-- RIP stands at this instruction of a check or of the abort stub, and this holds there: at the comparison
-- PKRU is EAX; at the jump equality says that PKRU is a compartment's.
pub data AtPoint (image : Image) (i : Inst) (r : Regs) : Type 0 where
  compares : (at : ℕ) (listed : is_listed image.stubs at ≡ true) (c : IsCheck image at) → i ≡ AluImm Cmp W32 Rax c.value → r.rip ≡ code_start + at + 3 → r.pkru.0 ≡ cut W32 (reg r Rax) → AtPoint image i r
  jumps : (at : ℕ) (listed : is_listed image.stubs at ≡ true) (c : IsCheck image at) → i ≡ Jcc Ne c.back → r.rip ≡ code_start + at + 9 → (r.flags.zf ≡ true → IsHeld image r.pkru) → AtPoint image i r
  moves : i ≡ MovImm Rax (pos 4) → r.rip ≡ code_start + image.abort → AtPoint image i r
  halts : i ≡ Hlt → r.rip ≡ code_start + image.abort + 7 → AtPoint image i r

eq_if : (a b : ℕ) → nat_eq a b ≡ true → a ≡ b
eq_if a b e = grind (arith, nat_tests)

same_word : (x y : ℕ) → x < 2 ^ 32 → y < 2 ^ 32 → (x + (2 ^ 32 - y)) % 2 ^ 32 ≡ 0 → x ≡ y
same_word x y a b e = omega arith

small_word : (a : ℕ) → a % 2 ^ 32 < 2 ^ 32
small_word a = omega arith

module _ (image : Image) (h : IsImage image) (single : is_ept image ≡ false) (has : HasChecks image) where
  abbrev pub Inv : Regs → Type 0
  Inv r = points.Inv image h single (IsHeld image) (AtPoint image) r

  -- the code that stands at a point
  pub move_row : IsRow (MovImm Rax (pos 4))
  move_row = (refl, search rules)

  row : (i : Inst) (r : Regs) → AtPoint image i r → IsRow i
  row i r (compares at listed c e rip p) = subst IsRow (sym e) c.rows.0
  row i r (jumps at listed c e rip p) = subst IsRow (sym e) c.rows.1
  row i r (moves e rip) = subst IsRow (sym e) move_row
  row i r (halts e rip) = subst IsRow (sym e) (refl, tt)

  from : (i : Inst) (r : Regs) → AtPoint image i r → code_start ≤ r.rip
  from i r (compares at listed c e rip p) = omega arith
  from i r (jumps at listed c e rip p) = omega arith
  from i r (moves e rip) = omega arith
  from i r (halts e rip) = omega arith

  moved : (a b : ℕ) (i j : Inst) → a ≡ b → i ≡ j → StandsAt image.code a (spelling i) → StandsAt image.code b (spelling j)
  moved a b i j p q s = subst (λ k. StandsAt image.code b (spelling k)) q (subst (λ n. StandsAt image.code n (spelling i)) p s)

  stands : (i : Inst) (r : Regs) → AtPoint image i r → StandsAt image.code (r.rip - code_start) (spelling i)
  stands i r (compares at listed c e rip p) = moved (at + 3) (r.rip - code_start) (AluImm Cmp W32 Rax c.value) i (omega arith) (sym e) c.compares
  stands i r (jumps at listed c e rip p) = moved (at + 9) (r.rip - code_start) (Jcc Ne c.back) i (omega arith) (sym e) c.jumps
  stands i r (moves e rip) = moved image.abort (r.rip - code_start) (MovImm Rax (pos 4)) i (omega arith) (sym e) has.moves
  stands i r (halts e rip) = moved (image.abort + 7) (r.rip - code_start) Hlt i (omega arith) (sym e) has.halts

  abbrev Asks : Regs → Inst → Type 0
  Asks r i = (need i (past r (length (spelling i))) ≡ needs.Quiet) ⊎ ((trap : Trap) × (need i (past r (length (spelling i))) ≡ needs.Stops trap))

  asks : (i : Inst) (r : Regs) → AtPoint image i r → Asks r i
  asks i r (compares at listed c e rip p) = subst (Asks r) (sym e) (inl refl)
  asks i r (jumps at listed c e rip p) = subst (Asks r) (sym e) (inl refl)
  asks i r (moves e rip) = subst (Asks r) (sym e) (inl refl)
  asks i r (halts e rip) = subst (Asks r) (sym e) (inr (_, refl))

  abbrev Next : Regs → Inst → Type 0
  Next r i = need i (past r (length (spelling i))) ≡ needs.Quiet → Inv (finish i (past r (length (spelling i))) 0)

  jumped : (r : Regs) (at : ℕ) (c : IsCheck image at) → r.rip ≡ code_start + at + 9 → (t : Bool) → r.flags.zf ≡ t → (r.flags.zf ≡ true → IsHeld image r.pkru)
      → Inv (if not t then record (past r 6) { rip = plus ((r.rip + 6) % 2 ^ 64) c.back } else past r 6)
  jumped r at c rip true e p = inl (p e)
  jumped r at c rip false e p =
      let to : plus ((r.rip + 6) % 2 ^ 64) c.back ≡ code_start + image.abort = ap (λ n. plus ((n + 6) % 2 ^ 64) c.back) rip ∙ c.leads in
      inr (MovImm Rax (pos 4), moves refl to)

  next : (i : Inst) (r : Regs) → AtPoint image i r → Next r i
  next i r (compares at listed c e rip p) =
      subst (Next r) (sym e)
      (λ quiet.
      let f = (fits image h).code in
      let room = c.compares.room in
      let x = cut W32 (reg r Rax) in
      let y = cut W32 (cast_unsigned w64 c.value) in
      let to : (r.rip + 6) % 2 ^ 64 ≡ code_start + at + 9 = omega arith in
      let held : nat_eq ((x + (2 ^ 32 - y)) % 2 ^ 32) 0 ≡ true → IsHeld image r.pkru =
      λ z. (c.compartment, c.comp, c.is, sym c.same ∙ sym (same_word x y (small_word _) (small_word _) (eq_if ((x + (2 ^ 32 - y)) % 2 ^ 32) 0 z)) ∙ sym p) in
      inr (Jcc Ne c.back, jumps at listed c refl to held))
  next i r (jumps at listed c e rip p) = subst (Next r) (sym e) (λ quiet. jumped r at c rip r.flags.zf refl p)
  next i r (moves e rip) =
      subst (Next r) (sym e)
      (λ quiet.
      let f = (fits image h).code in
      let room = has.moves.room in
      let to : (r.rip + 7) % 2 ^ 64 ≡ code_start + image.abort + 7 = omega arith in
      inr (Hlt, halts refl to))
  next i r (halts e rip) = subst (Next r) (sym e) (λ quiet. cc)

  enters : (r : Regs) → is_listed image.stubs (r.rip - code_start) ≡ true → code_start ≤ r.rip → Inv (finish Wrpkru (past r 3) 0)
  enters r listed above =
      let at = r.rip - code_start in
      let c = has.checks at listed in
      let f = (fits image h).code in
      let room = c.compares.room in
      let to : (r.rip + 3) % 2 ^ 64 ≡ code_start + at + 3 = omega arith in
      inr (AluImm Cmp W32 Rax c.value, compares at listed c refl to refl)

  pub closed : points.Closed image h single (IsHeld image) (AtPoint image)
  closed = record { row = row; from = from; stands = stands; asks = asks; next = next; enters = enters }
