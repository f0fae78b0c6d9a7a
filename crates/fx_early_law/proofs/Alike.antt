-- A run that loads from no device is the same whatever answers are left.
use Rattle.std.proofs.Common.{◌≡◌, ℕ, suc, ◌%◌, List, [], ◌∷◌, ◌++◌, Option, Some, None, true, false, refl, ap, sym, ◌∙◌, subst}
use Rattle.std.specs.List.{AllByRecursion}
use Rattle.fx_base.specs.declared.device_op.DeviceOp.{DeviceOp}
use Rattle.fx_outcomes.specs.Runs.{Next, Goes, Stops, Outcome, run, before, act, later, turns}
use Rattle.fx_outcomes.specs.Many.{Many, turn, placed}
use Rattle.fx_cpu.specs.declared.registers.Regs.{Regs}
use Rattle.fx_cpu.specs.declared.need.Need.{Need}
use Rattle.fx_cpu.specs.declared.need.Need.TheVariants as needs
use Rattle.fx_cpu.specs.Does.{need}
use Rattle.fx_cpu.specs.Registers.{past}
use Rattle.fx_x64_forms.specs.declared.operand.Width.{Width}
use Rattle.fx_x64_forms.specs.declared.inst.Inst.{Inst}
use Rattle.fx_x64_forms.specs.Numbers.{width_bytes}
use Rattle.fx_vm_pages.specs.declared.entry.Pkru.{Pkru}
use Rattle.fx_vm_pages.specs.declared.access.Access.{Access}
use Rattle.fx_vm_pages.specs.declared.access.Access.TheVariants.{Read, Write}
use Rattle.fx_vm_pages.specs.declared.access.Refusal.{Refusal}
use Rattle.fx_vm_pages.specs.Access.{access_check, page_of}
use Rattle.fx_image.specs.declared.forms.Image.{Image}
use Rattle.fx_machine_model.specs.Layout.{page_entry}
use Rattle.fx_machine_model.specs.Moves.{World, Move, device_at, checked, read, write, perform_need, fetched, move_by, move}
use Rattle.fx_machine_model.specs.declared.stop.Stop.{Stop}
use Rattle.fx_machine_model.specs.declared.fetched.Fetched.{Fetched}
use Rattle.fx_machine_model.specs.declared.fetched.Fetched.TheVariants.{Found, RefusedAt, Unspelled}

-- every operation is a store
abbrev pub AreStores : List DeviceOp → Type 0
AreStores ops = AllByRecursion (λ op. op.write ≡ true) ops

stores-append : (xs ys : List DeviceOp) → AreStores (xs ++ ys) → AreStores xs × AreStores ys
stores-append [] ys h = (tt, h)
stores-append (x ∷ xs) ys h = let rest = stores-append xs ys h.1 in ((h.0, rest.0), rest.1)

module _ (image : Image) (v : ℕ) (vs other : List ℕ) where
  -- memory, where an answer is left, and where others are
  abbrev one : (ℕ → ℕ) → World
  one memory = record { memory = memory; answers = v ∷ vs }

  abbrev two : (ℕ → ℕ) → World
  two memory = record { memory = memory; answers = other }

  -- a move of stores alone leaves the answers, and is the same with the others
  abbrev Same : Move → Move → Type 0
  Same (Goes made x) y = AreStores made → (x.1.answers ≡ v ∷ vs) × (y ≡ Goes made (x.0, two x.1.memory))
  Same (Stops made stop) y = y ≡ Stops made stop

  same_checked : (c : ℕ) (pkru : Pkru) (access : Access) (refused : Option (ℕ × Refusal)) (x y : Move) → Same x y → Same (checked image c pkru access refused x) (checked image c pkru access refused y)
  same_checked c pkru access None x y h = h
  same_checked c pkru access (Some first) x y h = refl

  same_read : (i : Inst) (len : ℕ) (r : Regs) (memory : ℕ → ℕ) (width : Width) (address : ℕ) (device : Option ℕ) → Same (read i len r (one memory) width address device) (read i len r (two memory) width address device)
  same_read i len r memory width address None = λ stores. (refl, refl)
  same_read i len r memory width address (Some device) = λ stores. absurd (no_load stores.0) where
    no_load : false ≡ true → ⊥
    no_load h = cc

  same_write : (i : Inst) (len : ℕ) (r : Regs) (memory : ℕ → ℕ) (width : Width) (address value : ℕ) (device : Option ℕ) → Same (write i len r (one memory) width address value device) (write i len r (two memory) width address value device)
  same_write i len r memory width address value None = λ stores. (refl, refl)
  same_write i len r memory width address value (Some device) = λ stores. (refl, refl)

  same_need : (c : ℕ) (asked : Need) (i : Inst) (len : ℕ) (r : Regs) (memory : ℕ → ℕ) → Same (perform_need image c asked i len r (one memory)) (perform_need image c asked i len r (two memory))
  same_need c needs.Quiet i len r memory = λ stores. (refl, refl)
  same_need c (needs.Reads width address) i len r memory =
      let device = device_at (page_entry image c (page_of address)) address in
      same_checked c r.pkru Read (access_check (page_entry image c) r.pkru Read address (width_bytes width)) (read i len r (one memory) width address device) (read i len r (two memory) width address device)
      (same_read i len r memory width address device)
  same_need c (needs.Writes width address value) i len r memory =
      let device = device_at (page_entry image c (page_of address)) address in
      same_checked c r.pkru Write (access_check (page_entry image c) r.pkru Write address (width_bytes width)) (write i len r (one memory) width address value device) (write i len r (two memory) width address value device)
      (same_write i len r memory width address value device)
  same_need c (needs.Stops trap) i len r memory = refl

  same_fetched : (c : ℕ) (found : Fetched) (r : Regs) (memory : ℕ → ℕ) → Same (move_by image c found r (one memory)) (move_by image c found r (two memory))
  same_fetched c (Found i len) r memory = same_need c (need i (past r len)) i len r memory
  same_fetched c (RefusedAt first) r memory = refl
  same_fetched c Unspelled r memory = refl

  same_move : (c : ℕ) (r : Regs) (memory : ℕ → ℕ) → Same (move image c r (one memory)) (move image c r (two memory))
  unfolding move
  same_move c r memory = same_fetched c (fetched (page_entry image c) r.pkru memory r.rip 15 []) r memory

  -- ---- a turn

  abbrev first : (ℕ → Regs) → (ℕ → ℕ) → Many Regs World
  first cpus memory = record { cpus = cpus; world = one memory }

  abbrev second : (ℕ → Regs) → (ℕ → ℕ) → Many Regs World
  second cpus memory = record { cpus = cpus; world = two memory }

  abbrev SameTurn : Next DeviceOp (Many Regs World) Stop → Next DeviceOp (Many Regs World) Stop → Type 0
  SameTurn (Goes made n) y = AreStores made → (n.world.answers ≡ v ∷ vs) × (y ≡ Goes made (second n.cpus n.world.memory))
  SameTurn (Stops made stop) y = y ≡ Stops made stop

  same_placed : (cpus : ℕ → Regs) (c : ℕ) (x y : Move) → Same x y → SameTurn (placed cpus c x) (placed cpus c y)
  same_placed cpus c (Goes made x) y h = λ stores. let p = h stores in (p.0, ap (placed cpus c) p.1)
  same_placed cpus c (Stops made stop) y h = ap (placed cpus c) h

  same_turn : (c : ℕ) (cpus : ℕ → Regs) (memory : ℕ → ℕ) → SameTurn (turn (move image) c (first cpus memory)) (turn (move image) c (second cpus memory))
  same_turn c cpus memory = same_placed cpus c (move image c (cpus c) (one memory)) (move image c (cpus c) (two memory)) (same_move c (cpus c) memory)

  -- ---- a run

  module _ (processors : ℕ) where
    abbrev run_by : List ℕ → Many Regs World → Outcome DeviceOp Stop
    run_by us m = run (turn (move image)) processors us m

    abbrev turns_by : List ℕ → Many Regs World → ℕ
    turns_by us m = turns (turn (move image)) processors us m

    abbrev Alike : List ℕ → (ℕ → Regs) → (ℕ → ℕ) → Type 0
    Alike us cpus memory =
        AreStores (run_by us (first cpus memory)).made → (run_by us (second cpus memory) ≡ run_by us (first cpus memory)) × (turns_by us (second cpus memory) ≡ turns_by us (first cpus memory))

    -- what follows a turn is alike where what follows its state is
    alike_next : (us : List ℕ) → ((cpus : ℕ → Regs) (memory : ℕ → ℕ) → Alike us cpus memory) → (x y : Next DeviceOp (Many Regs World) Stop) → SameTurn x y → AreStores (act x (run_by us)).made
        → (act y (run_by us) ≡ act x (run_by us)) × (later y 0 (turns_by us) ≡ later x 0 (turns_by us))
    alike_next us more (Goes made n) y same stores =
        let parts = stores-append made (run_by us n).made stores in
        let p = same parts.0 in
        let state : List ℕ → Many Regs World = λ answers. record { cpus = n.cpus; world = record { memory = n.world.memory; answers = answers } } in
        let rest = more n.cpus n.world.memory (subst (λ answers. AreStores (run_by us (state answers)).made) p.0 parts.1) in (
          ap (λ (z : Next DeviceOp (Many Regs World) Stop). act z (run_by us)) p.1 ∙ ap (before made) (rest.0 ∙ sym (ap (λ answers. run_by us (state answers)) p.0)),
          ap (λ (z : Next DeviceOp (Many Regs World) Stop). later z 0 (turns_by us)) p.1 ∙ rest.1 ∙ sym (ap (λ answers. turns_by us (state answers)) p.0),
        )
    alike_next us more (Stops made stop) y same stores =
        (ap (λ (z : Next DeviceOp (Many Regs World) Stop). act z (run_by us)) same, ap (λ (z : Next DeviceOp (Many Regs World) Stop). later z 0 (turns_by us)) same)

    pub alike : (us : List ℕ) (cpus : ℕ → Regs) (memory : ℕ → ℕ) → Alike us cpus memory
    alike [] cpus memory stores = (refl, refl)
    alike (u ∷ us) cpus memory stores =
        let c = u % processors in
        let next = alike_next us (alike us) (turn (move image) c (first cpus memory)) (turn (move image) c (second cpus memory)) (same_turn c cpus memory) stores in
        (next.0, ap suc next.1)
