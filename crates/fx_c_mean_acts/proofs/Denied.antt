-- A step that is denied leaves memory as it is: one that accesses memory does so, and no other is denied.
use Rattle.std.proofs.Common.{◌≡◌, ◌⊎◌, inl, inr, List, [], Some, None, refl, ap, ◌∙◌, subst}
use Rattle.fx_outcomes.specs.Runs.{Stops}
use Rattle.fx_c_mean_blocks.specs.declared.block.Object.{Object}
use Rattle.fx_c_mean_model.specs.declared.end.End.{End}
use Rattle.fx_c_mean_model.specs.declared.end.End.TheVariants.{Denied}
use Rattle.fx_c_mean_model.specs.declared.rights.Rights.{Rights}
use Rattle.fx_c_mean_model.specs.Programs.{Program}
use Rattle.fx_c_mean_model.specs.States.{Frame, Does}
use Rattle.fx_c_mean_model.specs.Steps.{State, Outcome, perform, step}
use Rattle.fx_c_mean_model.specs.Laws.{access_at, access_of, DeniesAccess}
use Rattle.fx_c_mean_model.proofs.Accesses.{denies_access}
use Rattle.fx_c_mean_control.specs.Views.{act_of}
use Rattle.fx_c_mean_control.specs.declared.frames.Act.{Act}
use Rattle.fx_c_mean_control.specs.declared.frames.Act.TheVariants as act
use Rattle.fx_c_mean_acts.specs.declared.state.Moved.{Moved}
use Rattle.fx_c_mean_acts.specs.declared.state.Moved.TheVariants as moved
use Rattle.fx_c_mean_acts.specs.Cores.{Comes, Keeps, KeepsWhereDenied, KeepsByAccess}

abbrev Sorted : Act → List Frame → Moved → List Object → List Object → Type 0
Sorted a rest m before after = (access_at (Does (act_of a) rest) ≡ None) ⊎ (KeepsByAccess a m before after → KeepsWhereDenied m before after)

sorted : (a : Act) (rest : List Frame) (m : Moved) (before after : List Object) → Sorted a rest m before after
sorted (act.Load ty v) rest m before after = inr (λ h. h)
sorted (act.Store ty to v) rest m before after = inr (λ h. h)
sorted (act.ReadByte ty to v done) rest m before after = inr (λ h. h)
sorted (act.WriteByte ty to v done cell) rest m before after = inr (λ h. h)
sorted (act.Push v) rest m before after = inl refl
sorted (act.SizeOf ty) rest m before after = inl refl
sorted (act.GlobalAddress n) rest m before after = inl refl
sorted (act.LiteralAddress n) rest m before after = inl refl
sorted (act.LocalAddress n) rest m before after = inl refl
sorted (act.Apply op ty v) rest m before after = inl refl
sorted (act.Convert from to v) rest m before after = inl refl
sorted (act.Step struct member v) rest m before after = inl refl
sorted (act.Combine op first second v w) rest m before after = inl refl
sorted (act.Decide op b v) rest m before after = inl refl
sorted (act.Judge v) rest m before after = inl refl
sorted (act.Enter f how values) rest m before after = inl refl
sorted (act.Ask device register) rest m before after = inl refl
sorted (act.Tell device register v) rest m before after = inl refl
sorted (act.Spawn f v) rest m before after = inl refl
sorted (act.Switch v) rest m before after = inl refl
sorted act.Own rest m before after = inl refl
sorted (act.Branch v s) rest m before after = inl refl
sorted (act.Test v l) rest m before after = inl refl
sorted (act.JumpBack l) rest m before after = inl refl
sorted act.Break rest m before after = inl refl
sorted act.Continue rest m before after = inl refl
sorted (act.Leave v) rest m before after = inl refl
sorted act.FallOff rest m before after = inl refl
sorted act.Stuck rest m before after = inl refl

-- a step that makes no access is not denied
unaccessed : (p : Program) (r : Rights) (s : State) (e : End) → access_of s ≡ None → step p r 0 s ≡ Stops [] e → (before after : List Object) → Keeps e before after
unaccessed p r s e none is before after compartment object offset write same =
    let at : step p r 0 s ≡ Stops [] (Denied compartment object offset write) = is ∙ ap (λ (x : End). Stops [] x) same in
    let denied = subst (λ (o : Outcome). DeniesAccess p r s o) at (denies_access p r 0 s) in
    let there : access_of s ≡ Some _ = denied.accesses in
    cc

stopped : (p : Program) (r : Rights) (s : State) (a : Act) (rest : List Frame) (e : End) (before after : List Object) → s.spot ≡ Does (act_of a) rest → step p r 0 s ≡ Stops [] e
    → Sorted a rest (moved.Stopped e) before after → KeepsByAccess a (moved.Stopped e) before after → Keeps e before after
stopped p r s a rest e before after at is (inl none) kept = unaccessed p r s e (ap access_at at ∙ none) is before after
stopped p r s a rest e before after at is (inr by) kept = by kept

-- of a step that ended the run
pub keeps_where_denied : (p : Program) (r : Rights) (s t : State) (a : Act) (rest : List Frame) (e : End) (before after : List Object) → s.spot ≡ Does (act_of a) rest
    → Comes (perform p r 0 s (Does (act_of a) rest)) (moved.Stopped e) s t → KeepsByAccess a (moved.Stopped e) before after → Keeps e before after
keeps_where_denied p r s t a rest e before after at comes kept =
    stopped p r s a rest e before after at (ap (λ x. perform p r 0 s x) at ∙ comes) (sorted a rest (moved.Stopped e) before after) kept
