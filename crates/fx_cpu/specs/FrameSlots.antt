use Rattle.std.specs.Prelude.{ℕ, negsuc, ◌≡◌, ◌<◌, ◌≤◌, ◌+◌, ◌-◌, ◌%◌, ◌^◌, List, [], ◌∷◌}
use Rattle.fx_x64_forms.specs.declared.operand.Width.TheVariants.{W64}
use Rattle.fx_x64_forms.specs.declared.operand.Mem.{Mem}
use Rattle.fx_x64_forms.specs.declared.operand.Reg.TheVariants.{Rax, Rcx, Rdx, Rbp}
use Rattle.fx_x64_forms.specs.declared.inst.AluOp.TheVariants.{Add}
use Rattle.fx_x64_forms.specs.declared.inst.Inst.{Inst}
use Rattle.fx_x64_forms.specs.declared.inst.Inst.TheVariants.{Load, Store, Alu, Push, Pop}
use Rattle.fx_vm_pages.specs.declared.entry.Pkru.{Pkru}
use Rattle.fx_word_ops.specs.Sums.{sum_of}
use Rattle.fx_word_ops.specs.declared.flags.Flags.{Flags}
use Rattle.fx_cpu.specs.Memory.{word_at, stored}
use Rattle.fx_cpu.specs.Runs.{State, run_all}

-- The slot of a frame that begins k + 1 bytes below RBP.
abbrev pub slot : ℕ → Mem
slot k = record { base = Rbp; disp = negsuc k }

-- A push, a store to one slot, a load of another, an add and a pop, each with its length.
abbrev pub slot_program : List (Inst × ℕ)
slot_program =
    (Push Rax, 1)
    ∷ (Store W64 (slot 15) Rax, 7)
    ∷ (Load W64 Rcx (slot 31), 7)
    ∷ (Alu Add W64 Rax Rcx, 3)
    ∷ (Pop Rdx, 1)
    ∷ []

-- They leave exactly these registers and bytes, where the stack lies below the two slots: RAX has the
-- sum, RCX what was loaded, RDX what was pushed, and all other registers but RIP what they had.
abbrev pub FrameSlotsHold : Type 0
FrameSlotsHold =
    (a c d b S B si di r8 r9 r10 r11 r12 r13 r14 r15 ip : ℕ) (f : Flags) (k : Pkru) (m : ℕ → ℕ) →
    a < 2 ^ 64 → word_at m W64 (B - 32) < 2 ^ 64 → 8 ≤ S → S + 32 ≤ B → B < 2 ^ 64 →
    let x = word_at m W64 (B - 32) in
    ◌≡◌ {A = State}
    (run_all slot_program
    (record { regs = record { gpr = a ∷ c ∷ d ∷ b ∷ S ∷ B ∷ si ∷ di ∷ r8 ∷ r9 ∷ r10 ∷ r11 ∷ r12 ∷ r13 ∷ r14 ∷ r15 ∷ []; rip = ip; flags = f; pkru = k }; mem = m }))
    (record {
      regs = record { gpr = (a + x) % 2 ^ 64 ∷ x ∷ a ∷ b ∷ S ∷ B ∷ si ∷ di ∷ r8 ∷ r9 ∷ r10 ∷ r11 ∷ r12 ∷ r13 ∷ r14 ∷ r15 ∷ []; rip = (ip + 19) % 2 ^ 64; flags = (sum_of W64 a x).1; pkru = k };
      mem = stored (stored m W64 (S - 8) a) W64 (B - 16) a;
    })
