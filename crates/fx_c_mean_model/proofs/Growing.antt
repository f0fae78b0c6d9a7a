-- A run within a greater cost.
use Rattle.std.proofs.Common.{ℕ, zero, suc, ◌≤◌, List, [], ◌++◌, refl, sym, ap, ◌∙◌, arith, append_assoc, append-nil}
use Rattle.fx_outcomes.specs.Runs.{Next, Goes, Stops, Outcome, nothing, before, act, within}
use Rattle.fx_c_mean_model.specs.Laws.{Grows}

of_nothing : {O E : Type 0} (x : Outcome O E) → Grows nothing x
of_nothing x = record { made = (x.made, refl); finish = λ e h. cc }

of_itself : {O E : Type 0} (x : Outcome O E) → Grows x x
of_itself x = record { made = ([], sym (append-nil x.made)); finish = λ e h. refl }

behind : {O E : Type 0} (o : List O) (x y : Outcome O E) → Grows x y → Grows (before o x) (before o y)
behind o x y g = record { made = (g.made.0, ap (λ l. o ++ l) g.made.1 ∙ sym (append_assoc o x.made g.made.0)); finish = λ e h. ap (before o) (g.finish e h) }

through : {O S E : Type 0} (n : Next O S E) (f g : S → Outcome O E) → ((t : S) → Grows (f t) (g t)) → Grows (act n f) (act n g)
through (Goes o t) f g h = behind o (f t) (g t) (h t)
through (Stops o e) f g h = of_itself _

pub grows : {O S E : Type 0} (step : S → Next O S E) (extra : S → ℕ) (k j wait : ℕ) (s : S) → k ≤ j → Grows (within step extra k wait s) (within step extra j wait s)
grows step extra zero j wait s le = of_nothing (within step extra j wait s)
grows step extra (suc k) zero wait s le = absurd (omega arith)
grows step extra (suc k) (suc j) (suc wait) s le = grows step extra k j wait s (omega arith)
grows step extra (suc k) (suc j) zero s le = through (step s) _ _ (λ t. grows step extra k j (extra t) t (omega arith))
