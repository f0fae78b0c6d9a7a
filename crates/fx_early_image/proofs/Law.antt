-- The image keeps to its program.
use Rattle.std.proofs.Common.{◌≡◌, ℕ, zero, suc, ℤ, pos, ◌+◌, ◌-◌, ◌*◌, ◌/◌, ◌%◌, ◌^◌, ◌<◌, ◌≤◌, ◌-ℤ◌, ◌⊎◌, inl, inr, Bool, true, false, List, [], ◌∷◌, ◌++◌, length, get_or, Option, None, Some, refl, ap, sym, ◌∙◌, subst, arith, append_assoc, length-append}
use Rattle.std.proofs.lemmas.List.{append-nil}
use Rattle.fx_outcomes.specs.Runs.{Next, Goes, Stops}
use Rattle.fx_outcomes.specs.Many.{Many, then_next, join, ahead, watched}
use Rattle.fx_outcomes.proofs.Several as several
use Rattle.fx_base.specs.declared.device_op.DeviceOp.{DeviceOp}
use Rattle.fx_x64_forms.specs.declared.operand.Width.TheVariants.{W64}
use Rattle.fx_cpu.specs.Memory.{word_at, stored}
use Rattle.fx_cpu.specs.declared.registers.Regs.{Regs}
use Rattle.fx_vm_pages.specs.Access.{access_check}
use Rattle.fx_vm_pages.specs.declared.access.Access.TheVariants.{Write}
use Rattle.fx_image.specs.Layout.{code_start}
use Rattle.fx_image.specs.declared.forms.Image.{Image}
use Rattle.fx_machine_model.specs.Layout.{page_entry}
use Rattle.fx_machine_model.specs.Moves.{World, Move, move}
use Rattle.fx_machine_model.specs.Running.{boot}
use Rattle.fx_machine_model.specs.declared.stop.Stop.{Stop}
use Rattle.fx_machine_model.specs.declared.stop.Stop.TheVariants as stops
use Rattle.fx_machine_model.specs.Standing.{Fits, HoldsCode, StandsAt}
use Rattle.fx_machine_model.proofs.Pages.{fits}
use Rattle.fx_machine_model.proofs.Regions.{use_stack}
use Rattle.fx_machine_model.proofs.Standing.{stored_keeps}
use Rattle.fx_machine_model.proofs.Placing.{boot_code}
use Rattle.fx_c_mean_model.specs.declared.end.End.{End}
use Rattle.fx_c_mean_model.specs.declared.end.End.TheVariants.{Exit}
use Rattle.fx_faithful.specs.Ends.{IsUndefined, Corresponds}
use Rattle.fx_faithful.specs.Faith.{Faithful}
use Rattle.fx_early_image.specs.Code.{console, range_bytes, code_bytes}
use Rattle.fx_early_image.specs.Layout.{laid_out, early_image, first_rsp}
use Rattle.fx_early_image.specs.Source.{State, Starting, Writing, step, extra, console_store}
use Rattle.fx_early_image.specs.Faithful.{names, EarlyFaithful, ImagesAreFaithful}
use Rattle.fx_early_image.proofs.Lengths.{range_length, range_some, range_whole}
use Rattle.fx_early_image.proofs.Calm.{AreBytes, pages}
use Rattle.fx_early_image.proofs.Rules.{is_laid, from_all}
use Rattle.fx_early_image.proofs.Places as places
use Rattle.fx_early_image.proofs.Turns as turns

-- the word that was just stored
word_kept : (m : ℕ → ℕ) (v : ℕ) → v < 2 ^ 32 → word_at (stored m W64 turns.main_rsp v) W64 turns.main_rsp ≡ v
unfolding word_at stored
word_kept m v lt = omega arith

byte_at : (before rest : List ℕ) (c : ℕ) → AreBytes (before ++ c ∷ rest) → c < 256
byte_at [] rest c small = small.0
byte_at (b ∷ before) rest c small = byte_at before rest c small.1

module _ (answers : List ℕ) (constants : List ℕ) (few : length constants ≤ 1000) (small : AreBytes constants) where
  abbrev n : ℕ
  n = length (range_bytes constants)

  abbrev code : List ℕ
  code = code_bytes constants

  abbrev image : Image
  image = laid_out n code

  whole : turns.Pages n
  whole = pages n (range_some constants) (range_length constants few) (range_whole constants)

  fitting : Fits image
  fitting = fits image (is_laid constants few small)

  -- the address behind the call of main
  abbrev behind_call : ℕ
  behind_call = code_start + (n + 5)

  abbrev InLoop : ℕ → Regs → Type 0
  InLoop e r = ⊥

  abbrev Uncalled : ℕ → World → Type 0
  Uncalled e w = Unit {0}

  -- Before the start RIP is at the runtime's beginning. In main it is at the first constant that is not
  -- yet written, with the console's address in RAX and the return address on the stack.
  abbrev At : ℕ → State → Regs → World → Type 0
  At c (Starting cs) r w = (c ≡ 0) × (cs ≡ constants) × (r ≡ turns.regs (code_start + n) 0 0 first_rsp) × HoldsCode image w.memory
  At c (Writing cs) r w =
      (c ≡ 0) × HoldsCode image w.memory × (word_at w.memory W64 turns.main_rsp ≡ behind_call)
      × ((done : List ℕ) × (rcx : ℕ) × (constants ≡ done ++ cs) × (r ≡ turns.regs (code_start + (23 + 14 * length done)) console rcx turns.main_rsp))

  abbrev Same : End → Stop → Type 0
  Same = Corresponds (names answers) image

  abbrev Leads : ℕ → ℕ → ℕ → Next DeviceOp State End → Regs → World → Type 0
  Leads p k c a r w = several.Leads DeviceOp State End Regs World Stop IsUndefined Same step extra (move image) 1 InLoop Uncalled At p k c a r w

  abbrev calm : World → Bool
  calm x = true

  abbrev row : ℕ → Regs → World → Next DeviceOp (Regs × World) (Option Stop)
  row k r w = ahead (λ r w. watched calm (move image 0 r w)) k r w

  leads : (k : ℕ) (s : State) (r : Regs) (w : World) (o : List DeviceOp) (q : Regs) (x : World) → row k r w ≡ Goes o (q, x) → At 0 s q x → Leads 0 k 0 (Goes o s) r w
  leads k s r w o q x go at = several.row_to DeviceOp State End Regs World Stop IsUndefined Same step extra (move image) 1 InLoop Uncalled At calm _ k 0 s r w o q x (λ x h e lt ne. tt) go (inl at)

  ends : (k : ℕ) (r : Regs) (w : World) (o : List DeviceOp) (e : End) (t : Stop) → Same e t → row k r w ≡ Stops o (Some t) → Leads 0 k 0 (Stops o e) r w
  ends k r w o e t same go = several.row_out DeviceOp State End Regs World Stop IsUndefined Same step extra (move image) 1 InLoop Uncalled At calm _ k 0 r w o e t (λ x h e lt ne. tt) same go

  -- one turn, and then the others
  one : (k : ℕ) (r : Regs) (w : World) (o : List DeviceOp) (q : Regs) (x : World) → move image 0 r w ≡ Goes o (q, x) → row (suc k) r w ≡ then_next o (row k q x)
  one k r w o q x e = ap (λ (z : Move). join (watched calm z) (λ y. row k y.0 y.1)) e

  last : (r : Regs) (w : World) (t : Stop) → move image 0 r w ≡ Stops [] t → row 1 r w ≡ Stops [] (Some t)
  last r w t e = ap (λ (z : Move). join (watched calm z) (λ y. row 0 y.0 y.1)) e

  abbrev Starts : ℕ → State → Regs → World → Type 0
  Starts c s r w = ((e : End) × (step s ≡ Stops [] e) × IsUndefined e) ⊎ ((k : ℕ) × (p : ℕ) × (suc k ≤ 256 * (extra s + 1)) × Leads p (suc k) c (step s) r w)

  free : access_check (page_entry image 0) (record { 0 = 0 }) Write turns.main_rsp 8 ≡ None
  free = use_stack image 0 0 turns.main_rsp 8 (record { 0 = 0 }) Write fitting refl (omega arith) (omega arith) (omega arith) (omega arith) (λ e. omega (arith, e)) (λ e. cc) refl

  stored_kept : (w : World) → HoldsCode image w.memory → HoldsCode image (stored w.memory W64 turns.main_rsp behind_call)
  stored_kept w holds = stored_keeps image 0 (record { 0 = 0 }) w.memory W64 turns.main_rsp behind_call fitting holds free

  -- the start, the jump to main, and the console's address
  begins : (w : World) → HoldsCode image w.memory → Starts 0 (Starting constants) (turns.regs (code_start + n) 0 0 first_rsp) w
  begins w holds =
      let r = turns.regs (code_start + n) 0 0 first_rsp in
      let q1 = turns.regs code_start 0 0 turns.main_rsp in
      let q2 = turns.regs (code_start + 16) 0 0 turns.main_rsp in
      let q3 = turns.regs (code_start + 23) console 0 turns.main_rsp in
      let x : World = record w { memory = stored w.memory W64 turns.main_rsp behind_call } in
      let kept : HoldsCode image x.memory = stored_kept w holds in
      let low : behind_call < 2 ^ 32 = let m = range_length constants few in omega (arith, m) in
      let go : row 3 r w ≡ Goes [] (q3, x) =
      one 2 r w [] q1 x (turns.call_turn n code fitting whole w holds (places.call_stands constants))
      ∙ ap (then_next []) (one 1 q1 x [] q2 x (turns.jump_turn n code fitting whole x kept (places.jump_stands constants))
      ∙ ap (then_next []) (one 0 q2 x [] q3 x (turns.console_turn n code fitting whole x kept (places.console_stands constants)))) in
      inr (2, 0, omega arith, leads 3 (Writing constants) r w [] q3 x go (refl, kept, word_kept w.memory behind_call low, ([], 0, refl, refl)))

  -- a constant and its store
  writes : (w : World) (done rest : List ℕ) (c rcx : ℕ) → HoldsCode image w.memory → word_at w.memory W64 turns.main_rsp ≡ behind_call → constants ≡ done ++ c ∷ rest
      → Starts 0 (Writing (c ∷ rest)) (turns.regs (code_start + (23 + 14 * length done)) console rcx turns.main_rsp) w
  writes w done rest c rcx holds word parts =
      let offset = 23 + 14 * length done in
      let r = turns.regs (code_start + offset) console rcx turns.main_rsp in
      let q1 = turns.regs (code_start + (offset + 7)) console c turns.main_rsp in
      let q2 = turns.regs (code_start + (offset + 7 + 7)) console c turns.main_rsp in
      let byte : c < 256 = byte_at done rest c (subst AreBytes parts small) in
      let total = ap length parts in
      let sum = length-append done (c ∷ rest) in
      let near : offset < 2 ^ 20 = omega (arith, total, sum, few) in
      let near7 : offset + 7 < 2 ^ 20 = omega (arith, total, sum, few) in
      let go : row 2 r w ≡ Goes (console_store c ∷ []) (q2, w) =
      one 1 r w [] q1 w (turns.constant_turn n code fitting whole w c offset rcx byte near holds (places.constant_stands constants done rest c offset parts refl))
      ∙ ap (then_next []) (one 0 q1 w (console_store c ∷ []) q2 w (turns.store_turn n code fitting whole w c (offset + 7) byte near7 holds (places.store_stands constants done rest c (offset + 7) parts refl))) in
      let longer : length (done ++ c ∷ []) ≡ length done + 1 = length-append done (c ∷ []) in
      let place : offset + 7 + 7 ≡ 23 + 14 * length (done ++ c ∷ []) = omega (arith, longer) in
      inr (
        1,
        0,
        omega arith,
        leads 2 (Writing rest) r w (console_store c ∷ []) q2 w go
            (refl, holds, word, (done ++ c ∷ [], c, parts ∙ sym (append_assoc done (c ∷ []) rest), ap (λ a. turns.regs (code_start + a) console c turns.main_rsp) place)),
      )

  -- the return and the exit
  finishes : (w : World) (done : List ℕ) (rcx : ℕ) → HoldsCode image w.memory → word_at w.memory W64 turns.main_rsp ≡ behind_call → constants ≡ done ++ []
      → Starts 0 (Writing []) (turns.regs (code_start + (23 + 14 * length done)) console rcx turns.main_rsp) w
  finishes w done rcx holds word parts =
      let offset = 23 + 14 * length done in
      let r = turns.regs (code_start + offset) console rcx turns.main_rsp in
      let q1 = turns.regs (code_start + (n + 5)) console rcx first_rsp in
      let q2 = turns.regs (code_start + (n + 5 + 7)) 0 rcx first_rsp in
      let q3 = turns.regs (code_start + (n + 5 + 7 + 7)) 0 rcx first_rsp in
      let all : constants ≡ done = parts ∙ append-nil done in
      let place : 23 + 14 * length constants ≡ offset = ap (λ l. 23 + 14 * length l) all in
      let m = range_length constants few in
      let near5 : n + 5 < 2 ^ 20 = omega (arith, m) in
      let near12 : n + 5 + 7 < 2 ^ 20 = omega (arith, m) in
      let p12 : n + 12 ≡ n + 5 + 7 = omega arith in
      let p19 : n + 19 ≡ n + 5 + 7 + 7 = omega arith in
      let go : row 4 r w ≡ Stops [] (Some (stops.Exit (pos 0))) =
      one 3 r w [] q1 w (turns.return_turn n code fitting whole w offset rcx holds (places.return_stands constants offset place) word)
      ∙ ap (then_next []) (one 2 q1 w [] q2 w (turns.rax_turn n code fitting whole w (n + 5) console rcx near5 holds (places.rax_stands constants (n + 5) refl))
      ∙ ap (then_next []) (one 1 q2 w [] q3 w (turns.rdi_turn n code fitting whole w (n + 5 + 7) rcx near12 holds (places.rdi_stands constants (n + 5 + 7) p12))
      ∙ ap (then_next []) (last q3 w (stops.Exit (pos 0)) (turns.hlt_turn n code fitting whole w (n + 5 + 7 + 7) rcx holds (places.hlt_stands constants (n + 5 + 7 + 7) p19))))) in
      inr (3, 0, omega arith, ends 4 r w [] (Exit (pos 0)) (stops.Exit (pos 0)) refl go)

  starts : (c : ℕ) (s : State) (r : Regs) (w : World) → At c s r w → Starts c s r w
  starts c (Starting cs) r w (at0, all, regs, holds) =
      subst (λ c. Starts c (Starting cs) r w) (sym at0)
      (subst (λ cs. Starts 0 (Starting cs) r w) (sym all)
      (subst (λ r. Starts 0 (Starting constants) r w) (sym regs) (begins w holds)))
  starts c (Writing []) r w (at0, holds, word, (done, rcx, parts, regs)) =
      subst (λ c. Starts c (Writing []) r w) (sym at0)
      (subst (λ r. Starts 0 (Writing []) r w) (sym regs) (finishes w done rcx holds word parts))
  starts c (Writing (b ∷ rest)) r w (at0, holds, word, (done, rcx, parts, regs)) =
      subst (λ c. Starts c (Writing (b ∷ rest)) r w) (sym at0)
      (subst (λ r. Starts 0 (Writing (b ∷ rest)) r w) (sym regs) (writes w done rest b rcx holds word parts))

laid_keeps : (constants : List ℕ) → length constants ≤ 1000 → AreBytes constants → EarlyFaithful constants (laid_out (length (range_bytes constants)) (code_bytes constants))
unfolding Faithful
laid_keeps constants few small answers fit =
    let i = image answers constants few small in
    several.several_keep DeviceOp State End Regs World Stop IsUndefined (Same answers constants few small) step extra (move i) 1
    (InLoop answers constants few small) (Uncalled answers constants few small) (At answers constants few small)
    (record { idle = λ e r w h u. absurd h }) (record { starts = λ c s r w a alone. starts answers constants few small c s r w a }) 0 (Starting constants) (boot i answers)
    (omega arith, (λ e lt ne. tt), (λ e lt ne. absurd (omega arith)), inl (refl, refl, refl, boot_code i))

pub images_are_faithful : ImagesAreFaithful
unfolding early_image
images_are_faithful constants few each = laid_keeps constants few (from_all constants each)
