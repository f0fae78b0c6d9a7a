-- Loads, stores and struct copies.
use Rattle.std.proofs.Common.{◌≡◌, Bool, true, false, ℕ, zero, suc, ◌+◌, ◌≤◌, ◌⊎◌, inl, inr, List, [], ◌∷◌, Option, Some, None, Result, Ok, Err, if◌then◌else◌, refl, sym, ap, ◌∙◌, subst, arith}
use Rattle.std.specs.Prelude.{slice_get, nat_lt}
use Rattle.fx_outcomes.specs.Runs.{Goes, Stops}
use Rattle.fx_c_ast.specs.CheckedTrees.{TyTree, IntTy, PtrTy}
use Rattle.fx_c_mean_blocks.specs.declared.value.Value.{Value}
use Rattle.fx_c_mean_blocks.specs.declared.value.Value.TheVariants.{Address}
use Rattle.fx_c_mean_blocks.specs.declared.value.Cell.{Cell}
use Rattle.fx_c_mean_blocks.specs.declared.value.Cell.TheVariants.{Byte, Part}
use Rattle.fx_c_mean_blocks.specs.declared.block.Place.{Place}
use Rattle.fx_c_mean_blocks.specs.declared.block.Place.TheVariants.{Local}
use Rattle.fx_c_mean_blocks.specs.declared.block.Object.{Object}
use Rattle.fx_c_mean_blocks.specs.declared.fault.Fault.{Fault}
use Rattle.fx_c_mean_blocks.specs.declared.fault.Fault.TheVariants as fault
use Rattle.fx_c_mean_blocks.specs.Blocks.{and_then, holds, if_holds, cells_at, value_in, number_in, number_of, pointer_of, null_of, are_parts, with_place, byte_read, cells_of, loaded, writable, written, width}
use Rattle.fx_c_mean_model.specs.declared.rights.Rights.{Rights}
use Rattle.fx_c_mean_model.specs.Programs.{Program, size_in}
use Rattle.fx_c_mean_model.specs.States.{Call, Frame, Loads, Combines, Load, Store, ReadByte, Act, Spot, Does, give, follow}
use Rattle.fx_c_mean_model.specs.Steps as source
use Rattle.fx_c_mean_model.specs.Steps.{place_of, further}
use Rattle.fx_c_lin.specs.declared.op.Right.TheVariants as right
use Rattle.fx_c_lin.specs.Ops as op
use Rattle.fx_c_lin.specs.Machine as lin
use Rattle.fx_c_lin.specs.Machine.{Saved, At, Copies, word_of}
use Rattle.fx_c_lower_model.specs.Steps.{costing}
use Rattle.fx_c_lower_law.specs.Fits.{FitsLocal}
use Rattle.fx_c_lower_law.proofs.Places.{HasAt}
use Rattle.fx_c_lower_law.proofs.Words.{cells_word}
use Rattle.fx_c_lower_law.proofs.Relation.{Knows, places_of}
use Rattle.fx_c_lower_law.proofs.Relation as relation
use Rattle.fx_c_lower_law.proofs.Lands as lands
use Rattle.fx_c_lower_law.proofs.Below as below
use Rattle.fx_c_lower_law.proofs.Objects.{places_written}
use Rattle.fx_c_lower_law.proofs.Own.{may_own, loaded_place, writable_place, own_found}
use Rattle.fx_c_lower_law.proofs.Results as results
use Rattle.fx_c_lower_law.proofs.Acts as acts

-- ---- what isn't loaded is undefined

abbrev fault_of : {A : Type 0} → Fault → Result A Fault → Fault
fault_of other (Ok a) = other
fault_of other (Err e) = e

null_fault : (x : Option ℕ) (e : Fault) → null_of x ≡ Err e → e ≡ fault.Undefined
null_fault (Some zero) e h = absurd cc
null_fault (Some (suc n)) e h = sym (ap (fault_of fault.Undefined) h)
null_fault None e h = sym (ap (fault_of fault.Undefined) h)

parts_fault : (b : Bool) (v : Value) (e : Fault) → (if b then Ok v else Err fault.Undefined) ≡ Err e → e ≡ fault.Undefined
parts_fault true v e h = absurd cc
parts_fault false v e h = sym (ap (fault_of fault.Undefined) h)

pointer_fault : (cells : List Cell) (e : Fault) → pointer_of cells ≡ Err e → e ≡ fault.Undefined
pointer_fault [] e h = null_fault (number_of []) e h
pointer_fault (Byte b ∷ cells) e h = null_fault (number_of (Byte b ∷ cells)) e h
pointer_fault (Part i q ∷ cells) e h = parts_fault (are_parts 0 q (Part i q ∷ cells)) (Address q) e h

number_fault : (x : Option ℕ) (e : Fault) → number_in x ≡ Err e → e ≡ fault.Undefined
number_fault (Some w) e h = absurd cc
number_fault None e h = sym (ap (fault_of fault.Undefined) h)

value_fault : (ty : TyTree) (cells : List Cell) (e : Fault) → value_in ty cells ≡ Err e → e ≡ fault.Undefined
value_fault (IntTy i) cells e h = number_fault (number_of cells) e h
value_fault (PtrTy t) cells e h = pointer_fault cells e h
value_fault ty cells e h = sym (ap (fault_of fault.Undefined) h)

placed_fault : (y : Result Value Fault) (place : Place) (e : Fault) → ((d : Fault) → y ≡ Err d → d ≡ fault.Undefined) → and_then y (with_place place) ≡ Err e → e ≡ fault.Undefined
placed_fault (Ok v) place e by h = absurd cc
placed_fault (Err d) place e by h = sym (ap (fault_of fault.Undefined) h) ∙ by d refl

held_fault : (b : Bool) (o : Object) (ty : TyTree) (at : ℕ) (e : Fault) → and_then (if b then Ok o else Err fault.Undefined) (λ (o : Object). and_then (value_in ty (cells_at o at (width ty))) (with_place o.place)) ≡ Err e → e ≡ fault.Undefined
held_fault true o ty at e h = placed_fault (value_in ty (cells_at o at (width ty))) o.place e (λ d k. value_fault ty (cells_at o at (width ty)) d k) h
held_fault false o ty at e h = sym (ap (fault_of fault.Undefined) h)

object_fault : (x : Option Object) (ty : TyTree) (at : ℕ) (e : Fault) → and_then (if_holds at (width ty) x) (λ (o : Object). and_then (value_in ty (cells_at o at (width ty))) (with_place o.place)) ≡ Err e → e ≡ fault.Undefined
object_fault None ty at e h = sym (ap (fault_of fault.Undefined) h)
object_fault (Some o) ty at e h = held_fault (holds at (width ty) o) o ty at e h

module _ (p : Program) (r : Rights) (all : List (List op.Step)) (s : source.State) (us : List lin.Thread) (cs : List Saved) (waiting : relation.ThreadsAt p all (places_of s.memory) s.threads us) (knows : Knows p (places_of s.memory) s.call) where
  abbrev c : Call
  c = s.call

  abbrev K : List op.Step
  K = relation.K p all c

  abbrev Res : ℕ → Act → List Frame → ℕ → List Value → Type 0
  Res owed now rest at stack = results.Result2 p r all owed s now rest (results.built p r all s us cs (At at stack))

  abbrev ActAt : ℕ → Act → List Frame → ℕ → List Value → Type 0
  ActAt owed now rest at stack = relation.ActAt p all s.memory c owed now rest at stack

  abbrev Awaits : (owed : ℕ) → List Frame → ℕ → List Value → Type 0
  Awaits owed rest at stack = relation.Awaits p all c owed rest at stack

  abbrev Leaves : List Frame → Type 0
  Leaves rest = relation.Leaves p all (places_of s.memory) rest cs

  abbrev Same : source.Outcome → lin.Outcome → Type 0
  Same x y = results.Same p r all x y

  -- ---- loads

  load_at : (ty : TyTree) (v : Value) (rest : List Frame) (at : ℕ) (old under : List Value) → Leaves rest → Awaits 0 rest (at + 1) under → Same (source.loads p r s rest ty v) (lin.loads p r (results.built p r all s us cs (At at old)) at under ty (word_of v))
  load_at ty (Address q) rest at old under leaves h =
      results.if_value p r all s us cs waiting (loaded s.memory ty (Address q)) _ _ (λ x. results.if_allowed p r all s us cs waiting (Address q) (Address q) false x.1 _ _ (At at old) refl refl (acts.gave p r all s us cs waiting knows rest at (at + 1) x.0 old under leaves h))
  load_at ty v rest at old under leaves h = inl refl

  -- an access to a variable of the call is granted
  grant_own : (v : Value) (write : Bool) (n : ℕ) (place : Place) (done : source.Outcome) → place ≡ Local c.function n → source.granted p r s v write place done ≡ done
  grant_own v write n place done e = rw (e, may_own p r c.function n write) refl

  own_loads : (ty : TyTree) (n : ℕ) (rest : List Frame) → FitsLocal p c.function ty n → (x : Result (Value × Place) Fault) → loaded s.memory ty (place_of (c.base + n) 0) ≡ x → source.if_value x (λ (y : Value × Place). source.granted p r s (place_of (c.base + n) 0) false y.1 (source.gives s rest y.0)) ≡ source.if_value x (λ (y : Value × Place). source.gives s rest y.0)
  own_loads ty n rest fits (Ok y) e = grant_own (place_of (c.base + n) 0) false n y.1 (source.gives s rest y.0) (own_found p s.memory c n y.1 knows fits.0 (loaded_place s.memory ty _ y e))
  own_loads ty n rest fits (Err e2) e = refl

  same_load : (rest : List Frame) (at : ℕ) (stack : List Value) (x : Result (Value × Place) Fault) → Leaves rest → Awaits 0 rest (at + 1) stack → Same (source.if_value x (λ (y : Value × Place). source.gives s rest y.0)) (lin.pushes (results.built p r all s us cs (At at stack)) at stack (lin.first_of x))
  same_load rest at stack (Ok y) leaves h = acts.gave p r all s us cs waiting knows rest at (at + 1) y.0 stack stack leaves h
  same_load rest at stack (Err fault.Divide) leaves h = inl refl
  same_load rest at stack (Err fault.Undefined) leaves h = inl refl

  local_load : (ty : TyTree) (n : ℕ) (rest : List Frame) (owed at : ℕ) (stack : List Value) → Leaves rest → FitsLocal p c.function ty n → HasAt K at (costing (1 + owed) (op.LoadLocal n) ∷ []) → Awaits 0 rest (at + 1) stack → Res owed (Load ty (place_of (c.base + n) 0)) rest at stack
  local_load ty n rest owed at stack leaves fits has go =
      acts.made p r all s us cs waiting knows owed (Load ty (place_of (c.base + n) 0)) rest at stack _ has.0 (omega arith) (omega arith) refl
      (λ answer. rw (own_loads ty n rest fits (loaded s.memory ty (place_of (c.base + n) 0)) refl, fits.1) (same_load rest at stack (loaded s.memory ty (place_of (c.base + n) 0)) leaves go))

  value_at : (ty : TyTree) (n : ℕ) (rest : List Frame) (owed at : ℕ) (stack : List Value) (y : Value × Place) → FitsLocal p c.function ty n → loaded s.memory ty (place_of (c.base + n) 0) ≡ Ok y → relation.IsRightOf p all ty rest → relation.HeldValue p all c owed n rest at stack → relation.SpotAt p all s.memory c owed (give y.0 rest) (At at stack)
  value_at ty n [] owed at stack y fits e is h = absurd h
  value_at ty n (Combines o a b v ∷ rest) owed at stack y fits e is h =
      (right.Local n, h.0, h.2, (h.1, subst (λ t. FitsLocal p c.function t n) (sym is) fits, y.1, subst (λ t. loaded s.memory t (place_of (c.base + n) 0) ≡ Ok (y.0, y.1)) (sym is) e), h.3)
  value_at ty n (x ∷ rest) owed at stack y fits e is h = absurd h

  held_load : (ty : TyTree) (n : ℕ) (rest : List Frame) (owed at : ℕ) (stack : List Value) → Leaves rest → FitsLocal p c.function ty n → relation.IsRightOf p all ty rest → relation.HeldValue p all c (owed + 1) n rest at stack → Res owed (Load ty (place_of (c.base + n) 0)) rest at stack
  held_load ty n rest owed at stack leaves fits is h = on (loaded s.memory ty (place_of (c.base + n) 0)) refl where
    on : (x : Result (Value × Place) Fault) → loaded s.memory ty (place_of (c.base + n) 0) ≡ x → Res owed (Load ty (place_of (c.base + n) 0)) rest at stack
    on (Ok y) e =
        acts.quiet p r all s us cs waiting knows owed (Load ty (place_of (c.base + n) 0)) rest at stack (give y.0 rest) (acts.value_cost p r all s us cs waiting knows rest (owed + 1) n at stack h)
        (λ answer. own_loads ty n rest fits (loaded s.memory ty (place_of (c.base + n) 0)) refl ∙ ap (λ (x : Result (Value × Place) Fault). source.if_value x (λ (z : Value × Place). source.gives s rest z.0)) e) refl refl
        (value_at ty n rest (owed + 1) at stack y fits e is h) (below.below_give p all (places_of s.memory) cs rest y.0 leaves)
    on (Err d) e =
        let u : d ≡ fault.Undefined = object_fault (slice_get s.memory (c.base + n)) ty 0 d e in
        results.Breaks (λ answer. ap (λ (x : Result (Value × Place) Fault). source.if_value x (λ (z : Value × Place). source.granted p r s (place_of (c.base + n) 0) false z.1 (source.gives s rest z.0))) e ∙ ap (λ x. Stops [] (source.end_of x)) u) refl refl

  own_load : (ty : TyTree) (n : ℕ) (rest : List Frame) (owed at : ℕ) (stack : List Value) → Leaves rest → relation.Held p all c owed n (Loads ty ∷ rest) at stack → Res owed (Load ty (place_of (c.base + n) 0)) rest at stack
  own_load ty n rest owed at stack leaves h = on h.1 where
    on : (HasAt K at (costing (1 + owed) (op.LoadLocal n) ∷ []) × Awaits 0 rest (at + 1) stack) ⊎ (relation.IsRightOf p all ty rest × relation.HeldValue p all c (owed + 1) n rest at stack) → Res owed (Load ty (place_of (c.base + n) 0)) rest at stack
    on (inl k) = local_load ty n rest owed at stack leaves h.0 k.0 k.1
    on (inr k) = held_load ty n rest owed at stack leaves h.0 k.0 k.1

  pub load : (ty : TyTree) (v : Value) (rest : List Frame) (owed at : ℕ) (stack : List Value) → Leaves rest → ActAt owed (Load ty v) rest at stack → Res owed (Load ty v) rest at stack
  load ty v rest owed at stack leaves (inl h) =
      rw h.1 (acts.made p r all s us cs waiting knows owed (Load ty v) rest at (word_of v ∷ h.0) _ h.2.0.0 (omega arith) (omega arith) refl (λ answer. load_at ty v rest at (word_of v ∷ h.0) h.0 leaves h.2.1))
  load ty v rest owed at stack leaves (inr h) = rw h.1 (own_load ty h.0 rest owed at stack leaves h.2)

  -- ---- stores

  -- what is known is known of memory that is written to
  came : (to : Value) (cells : List Cell) (spot : Spot) (at least : ℕ) (there : lin.Spot) → least ≤ 96 → relation.BelowAt p all (places_of s.memory) spot cs → lands.Lands p all (written s.memory to cells) c spot at least → Same (Goes [] (record s { memory = written s.memory to cells; spot = spot })) (Goes [] (record (results.built p r all s us cs there) { memory = written s.memory to cells; spot = At at [] }))
  came to cells spot at least there le leaves h =
      let e : places_of s.memory ≡ places_of (written s.memory to cells) = sym (places_written s.memory to cells) in
      results.came p r all (record s { memory = written s.memory to cells }) us cs (subst (λ l. relation.ThreadsAt p all l s.threads us) e waiting) spot at least [] there le
      (subst (λ l. relation.BelowAt p all l spot cs) e leaves) (subst (λ l. Knows p l c) e knows) h

  store_at : (to v : Value) (n : ℕ) (rest : List Frame) (at : ℕ) (old : List Value) → Leaves rest → relation.Done p all c rest (at + 1) → Same (Goes [] (record s { memory = written s.memory to (cells_of n v); spot = follow rest })) (Goes [] (record (results.built p r all s us cs (At at old)) { memory = written s.memory to (cells_of n v); spot = At (at + 1) [] }))
  store_at to v n rest at old leaves h =
      came to (cells_of n v) (follow rest) (at + 1) 2 (At at old) (omega arith) (below.below_follow p all (places_of s.memory) cs rest leaves) (lands.done_at p all (written s.memory to (cells_of n v)) c rest (at + 1) h)

  by_address : (ty : TyTree) (to v : Value) (rest : List Frame) (owed at : ℕ) → Leaves rest → HasAt K at (costing (1 + owed) (op.Store ty) ∷ []) → relation.Done p all c rest (at + 1) → Res owed (Store ty to v) rest at (word_of v ∷ (word_of to ∷ []))
  by_address ty (Address q) v rest owed at leaves has done =
      acts.made p r all s us cs waiting knows owed (Store ty (Address q) v) rest at (word_of v ∷ (Address q ∷ [])) _ has.0 (omega arith) (omega arith) refl
      (λ answer. rw (cells_word (width ty) v) (results.if_value p r all s us cs waiting (writable s.memory (Address q) (width ty)) _ _ (λ place. results.if_allowed p r all s us cs waiting (Address q) (Address q) true place _ _ (At at (word_of v ∷ (Address q ∷ []))) refl refl (store_at (Address q) v (width ty) rest at (word_of v ∷ (Address q ∷ [])) leaves done))))
  by_address ty to v rest owed at leaves has done =
      acts.made p r all s us cs waiting knows owed (Store ty to v) rest at (word_of v ∷ (word_of to ∷ [])) _ has.0 (omega arith) (omega arith) refl (λ answer. inl refl)

  -- the write of a variable of the call
  own_stores : (ty : TyTree) (n : ℕ) (v : Value) (rest : List Frame) (at : ℕ) (old : List Value) → FitsLocal p c.function ty n → Leaves rest → relation.Done p all c rest (at + 1) → (x : Result Place Fault) → writable s.memory (place_of (c.base + n) 0) (width ty) ≡ x → Same (source.if_value x (λ (place : Place). source.granted p r s (place_of (c.base + n) 0) true place (Goes [] (record s { memory = written s.memory (place_of (c.base + n) 0) (cells_of (width ty) v); spot = follow rest })))) (lin.checked x (λ (place : Place). Goes [] (record (results.built p r all s us cs (At at old)) { memory = written s.memory (place_of (c.base + n) 0) (cells_of (width ty) v); spot = At (at + 1) [] })))
  own_stores ty n v rest at old fits leaves done (Ok place) e =
      rw (grant_own (place_of (c.base + n) 0) true n place (Goes [] (record s { memory = written s.memory (place_of (c.base + n) 0) (cells_of (width ty) v); spot = follow rest })) (own_found p s.memory c n place knows fits.0 (writable_place s.memory _ (width ty) place e)))
      (store_at (place_of (c.base + n) 0) v (width ty) rest at old leaves done)
  own_stores ty n v rest at old fits leaves done (Err fault.Divide) e = inl refl
  own_stores ty n v rest at old fits leaves done (Err fault.Undefined) e = inl refl

  pub store : (ty : TyTree) (to v : Value) (rest : List Frame) (owed at : ℕ) (stack : List Value) → Leaves rest → ActAt owed (Store ty to v) rest at stack → Res owed (Store ty to v) rest at stack
  store ty to v rest owed at stack leaves (inl h) = rw h.0 (by_address ty to v rest owed at leaves h.1 h.2)
  store ty to v rest owed at stack leaves (inr h) =
      rw (h.0, h.2) (acts.made p r all s us cs waiting knows owed (Store ty (place_of (c.base + h.1) 0) v) rest at (word_of v ∷ []) _ h.4.0 (omega arith) (omega arith) refl
      (λ answer. rw (h.3.1, cells_word (width ty) v) (own_stores ty h.1 v rest at (word_of v ∷ []) h.3 leaves h.5 (writable s.memory (place_of (c.base + h.1) 0) (width ty)) refl)))

  -- ---- struct copies

  pub copied : (ty : TyTree) (to v : Value) (done : ℕ) (rest : List Frame) (at : ℕ) → Leaves rest → relation.Done p all c rest (at + 1) → (there : lin.Spot) → Same (source.reads_byte p r s rest ty to v done) (lin.copy_reads p r (results.built p r all s us cs there) at [] (size_in p ty) (word_of to) (word_of v) done)
  copied ty to (Address q) done rest at leaves h there =
      results.if_value p r all s us cs waiting (byte_read s.memory (further (Address q) done)) _ _ (λ x. results.if_allowed p r all s us cs waiting (further (Address q) done) (further (Address q) done) false x.1 _ _ there refl refl
      (refl, record { threads = us; callers = cs; there = Copies at [] (size_in p ty) (word_of to) (Address q) done (Some x.0); is = refl; waiting = waiting; spot = ((refl, refl, refl, refl, refl, refl, refl, h), leaves, knows) }))
  copied ty to v done rest at leaves h there = inl refl

  pub copy : (ty : TyTree) (to v : Value) (done : ℕ) (rest : List Frame) (owed at : ℕ) (stack : List Value) → Leaves rest → ActAt owed (ReadByte ty to v done) rest at stack → Res owed (ReadByte ty to v done) rest at stack
  copy ty to v done rest owed at stack leaves h =
      rw (h.0, h.1) (acts.made p r all s us cs waiting knows owed (ReadByte ty to v 0) rest at _ _ h.2.0 (omega arith) (omega arith) refl (λ answer. copied ty to v 0 rest at leaves h.3 (At at (word_of v ∷ (word_of to ∷ [])))))

  pub wrote : (ty : TyTree) (to v : Value) (done : ℕ) (cell : Cell) (rest : List Frame) (at : ℕ) → Leaves rest → relation.Done p all c rest (at + 1) → (there : lin.Spot) → Same (source.stores p r s (further to done) 1 (cell ∷ []) (source.next_byte p rest ty to v (done + 1))) (lin.copy_writes p r (results.built p r all s us cs there) at [] (size_in p ty) (word_of to) (word_of v) done cell)
  wrote ty (Address q) v done cell rest at leaves h there =
      results.if_value p r all s us cs waiting (writable s.memory (further (Address q) done) 1) _ _ (λ place. results.if_allowed p r all s us cs waiting (further (Address q) done) (further (Address q) done) true place _ _ there refl refl (by (nat_lt (done + 1) (size_in p ty)))) where
        e : places_of s.memory ≡ places_of (written s.memory (further (Address q) done) (cell ∷ []))
        e = sym (places_written s.memory (further (Address q) done) (cell ∷ []))

        by : (b : Bool) → Same (Goes [] (record s { memory = written s.memory (further (Address q) done) (cell ∷ []); spot = if b then Does (ReadByte ty (Address q) v (done + 1)) rest else follow rest })) (Goes [] (record (results.built p r all s us cs there) { memory = written s.memory (further (Address q) done) (cell ∷ []); spot = if b then Copies at [] (size_in p ty) (Address q) (word_of v) (done + 1) None else At (at + 1) [] }))
        by true = (refl, record { threads = us; callers = cs; there = Copies at [] (size_in p ty) (Address q) (word_of v) (done + 1) None; is = refl; waiting = subst (λ l. relation.ThreadsAt p all l s.threads us) e waiting; spot = ((refl, refl, refl, refl, refl, refl, refl, h), subst (λ l. relation.Leaves p all l rest cs) e leaves, subst (λ l. Knows p l c) e knows) })
        by false = came (further (Address q) done) (cell ∷ []) (follow rest) (at + 1) 2 there (omega arith) (below.below_follow p all (places_of s.memory) cs rest leaves) (lands.done_at p all (written s.memory (further (Address q) done) (cell ∷ [])) c rest (at + 1) h)
  wrote ty to v done cell rest at leaves h there = inl refl
