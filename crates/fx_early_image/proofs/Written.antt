-- What the runs of the image write.
use Rattle.std.proofs.Common.{◌≡◌, ℕ, zero, suc, pos, ◌+◌, ◌*◌, ◌^◌, ◌<◌, ◌≤◌, ◌⊎◌, inl, inr, List, [], ◌∷◌, ◌++◌, length, take, drop, map, Option, None, Some, refl, ap, sym, ◌∙◌, subst, arith, append_assoc}
use Rattle.std.specs.Prelude.{All}
use Rattle.std.proofs.Math.Seq.{take-length}
use Rattle.std.proofs.lemmas.List.{take-append-drop}
use Rattle.fx_outcomes.specs.Runs.{Next, Goes, Stops, Outcome, within, expected}
use Rattle.fx_outcomes.specs.Keeping.{IsPrefix, Keeps, Alike, Lost}
use Rattle.fx_base.specs.declared.device_op.DeviceOp.{DeviceOp}
use Rattle.fx_machine_model.specs.Running.{run_image}
use Rattle.fx_machine_model.specs.Boot.{vcpus}
use Rattle.fx_machine_model.specs.declared.stop.Stop.{Stop}
use Rattle.fx_machine_model.specs.declared.stop.Stop.TheVariants as stops
use Rattle.fx_c_mean_model.specs.declared.end.End.{End}
use Rattle.fx_c_mean_model.specs.declared.end.End.TheVariants.{Exit}
use Rattle.fx_faithful.specs.Ends.{IsUndefined, Corresponds}
use Rattle.fx_faithful.specs.Faith.{Faithful}
use Rattle.fx_early_image.specs.Layout.{early_image}
use Rattle.fx_early_image.specs.Source.{State, Starting, Writing, step, extra, console_store, early_expected}
use Rattle.fx_early_image.specs.Faithful.{names, EarlyFaithful, RunsWriteConstants}
use Rattle.fx_early_image.proofs.Law.{images_are_faithful}

-- the constants of a state
abbrev left : State → List ℕ
left (Starting cs) = cs
left (Writing cs) = cs

-- what a program has done within a budget, from a state on
abbrev Wrote : List ℕ → Outcome DeviceOp End → Type 0
Wrote cs x = IsPrefix x.made (map console_store cs) × ((e : End) → x.finish ≡ Some e → (e ≡ Exit (pos 0)) × (x.made ≡ map console_store cs))

wrote : (k wait : ℕ) (s : State) → Wrote (left s) (within step extra k wait s)
wrote zero wait s = ((map console_store (left s), refl), λ e h. cc)
wrote (suc k) (suc wait) s = wrote k wait s
wrote (suc k) zero (Starting cs) = wrote k (extra (Writing cs)) (Writing cs)
wrote (suc k) zero (Writing []) = (([], refl), λ e h. (cc, refl))
wrote (suc k) zero (Writing (c ∷ cs)) =
    let ih = wrote k (extra (Writing cs)) (Writing cs) in
    ((ih.0.0, ap (λ l. console_store c ∷ l) ih.0.1), λ e h. ((ih.1 e h).0, ap (λ l. console_store c ∷ l) (ih.1 e h).1))

prefix_of_take : {A : Type 0} (i : ℕ) (xs ys zs : List A) → zs ≡ take i xs → IsPrefix xs ys → IsPrefix zs ys
prefix_of_take i xs ys zs e p =
    (drop i xs ++ p.0, p.1 ∙ ap (λ l. l ++ p.0) (sym (take-append-drop i xs)) ∙ append_assoc (take i xs) (drop i xs) p.0 ∙ ap (λ l. l ++ (drop i xs ++ p.0)) (sym e))

module _ (constants answers : List ℕ) (schedule : List ℕ) where
  abbrev x : ℕ → Outcome DeviceOp End
  x = early_expected constants answers

  abbrev y : Outcome DeviceOp Stop
  y = run_image (early_image constants) answers schedule

  abbrev Same : End → Stop → Type 0
  Same = Corresponds (names answers) (early_image constants)

  lost : (k : ℕ) → Lost IsUndefined (x k).finish → ⊥
  lost k (e, is, undefined) = subst IsUndefined ((wrote k (extra (Starting constants)) (Starting constants)).1 e is).0 undefined

  front : (k : ℕ) → (take (length y.made) y.made ≡ take (length y.made) (x k).made) ⊎ (Lost IsUndefined (x k).finish × (length (x k).made < length y.made)) → IsPrefix y.made (map console_store constants)
  front k (inl e) = prefix_of_take (length y.made) (x k).made (map console_store constants) y.made (sym (take-length y.made) ∙ e) (wrote k (extra (Starting constants)) (Starting constants)).0
  front k (inr l) = absurd (lost k l.0)

  exits : (e : End) (t : Stop) → e ≡ Exit (pos 0) → Same e t → t ≡ stops.Exit (pos 0)
  exits e t is same = exit t (subst (λ e. Same e t) is same)
    where
      exit : (t : Stop) → Same (Exit (pos 0)) t → t ≡ stops.Exit (pos 0)
      exit (stops.Exit v) same = ap stops.Exit (sym same)
      exit _ same = absurd same

  ended : (t : Stop) (k : ℕ) → Alike Same (x k) y ⊎ Lost IsUndefined (x k).finish → y.finish ≡ Some t → (t ≡ stops.Exit (pos 0)) × (y.made ≡ map console_store constants)
  ended t k (inl (made, e, u, is, stop, same)) here =
      let w = (wrote k (extra (Starting constants)) (Starting constants)).1 e is in
      let one : u ≡ t = cc in
      (sym one ∙ exits e u w.0 same, made ∙ w.1)
  ended t k (inr l) here = absurd (lost k l)

pub runs_write_constants : RunsWriteConstants
unfolding Faithful
runs_write_constants constants few each answers fit schedule =
    let keeps = images_are_faithful constants few each answers fit in
    let (k, h) = keeps.prefix schedule (length (run_image (early_image constants) answers schedule).made) (omega arith) in
    (front constants answers schedule k h, λ t here. let (j, g) = keeps.stops schedule t here in ended constants answers schedule t j g here)
