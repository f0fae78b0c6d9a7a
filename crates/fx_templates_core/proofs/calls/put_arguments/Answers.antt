use Rattle.std.proofs.Common.{◌≡◌, ◌≢◌, ℕ, ◌-◌, zero, suc, [], ◌∷◌, ◌++◌, refl, ap, ◌∙◌, sub-one, arith, rules}
use Rattle.std.proofs.lemmas.Result.{on_ok_weaker}
use Rattle.fx_x64_forms.specs.declared.operand.Reg.TheVariants.{Rax}
use Rattle.fx_templates_core.specs.Pieces.{copy}
use Rattle.fx_templates_core.specs.Calls.{argument, load_arguments, arguments}
use Rattle.fx_templates_core.proofs.Joining.{joined}
use Rattle.fx_templates_core.proofs.calls.put_arguments.Goals as goal

some_arguments : (locals k count : ℕ) → count ≢ 0
    → (copy (argument (count - 1)) Rax ∷ []) ++ load_arguments locals k (count - 1) ≡ arguments locals k count
some_arguments locals k zero some = absurd (some refl)
some_arguments locals k (suc i) some = rw (sub-one (suc i)) refl

pub returns-in_ok-copy : goal.returns-in_ok-copy
returns-in_ok-copy c =
    let ne : c.args.count ≢ 0 = c.if-count-eq0.false in
    let from : c.from.result ≡ c.args.count - 1 = first_of (omega arith, search rules) in
    let first : c.copy.new.out.items ≡ c.args.out.now.items ++ copy (argument (c.args.count - 1)) Rax ∷ [] =
    c.in_ok-copy.ensures ∙ ap (λ r. c.args.out.now.items ++ copy r Rax ∷ []) (c.argument.ensures ∙ ap argument from) in
    on_ok_weaker c.load_arguments.result
    (λ e. joined _ _ _ (copy (argument (c.args.count - 1)) Rax ∷ []) (load_arguments c.args.locals c.args.k (c.args.count - 1)) first e
    ∙ ap (λ z. c.args.out.now.items ++ z) (some_arguments c.args.locals c.args.k c.args.count ne))
    c.load_arguments.ensures
