use Rattle.std.proofs.Common.{◌≡◌, ◌-◌, ◌+◌, suc, ℕ, List, [], ◌∷◌, Option, Some, ap, sym, ◌∙◌, arith, length, length-append}
use Rattle.std.specs.Option.{option_copied, option_map}
use Rattle.std.proofs.lemmas.List.{append-nil}
use denote.Ref.{Bor}
use Rattle.fx_early_source.specs.Reading.{puts}
use Rattle.fx_early_source.proofs.Statements.{behind, behind-append, puts-none, puts-stop, puts-more, puts-bad}
use Rattle.fx_early_source.proofs.puts.Goals as goal

-- a found constant and the text behind it, as a clause sees them
abbrev plain : Option (ℕ × Bor (List ℕ)) → Option (ℕ × List ℕ)
plain found = option_map (λ (p : ℕ × Bor (List ℕ)). (p.0, p.1.now)) found

pub returns-in_default : goal.returns-in_default
returns-in_default c =
    let cs = c.loop-rest.constants.items in
    sym c.loop-rest.invariant.read
    ∙ ap (behind cs) (puts-stop (1000 - length cs) c.loop-rest.rest.now (sym c.after.ensures ∙ ap option_copied c.in_default.is))
    ∙ ap (λ all. Some (all, c.loop-rest.rest.now)) (append-nil cs)

pub returns-in_default-argument : goal.returns-in_default-argument
returns-in_default-argument c =
    let cs = c.loop-rest.constants.items in
    let left : 1000 - length cs ≡ suc (999 - length cs) = omega arith in
    sym c.loop-rest.invariant.read
    ∙ ap (λ n. behind cs (puts n c.loop-rest.rest.now)) left
    ∙ ap (behind cs) (puts-bad (999 - length cs) c.loop-rest.rest.now c.in-Some.inside.now (sym c.after.ensures ∙ ap option_copied c.in-Some.is) (sym c.argument.ensures ∙ ap plain c.in_default-argument.is))

pub loop-rest-preserved : goal.loop-rest-preserved
loop-rest-preserved c =
    let cs = c.loop-rest.constants.items in
    let b = c.in-Some-argument.behind.now in
    let longer : length c.push.new.self.items ≡ length cs + 1 = ap length c.in_ok-push.ensures.items ∙ length-append cs (c.in-Some-argument.constant ∷ []) in
    let left : 1000 - length cs ≡ suc (999 - length cs) = omega arith in
    let next : 1000 - length c.push.new.self.items ≡ 999 - length cs = omega arith in
    record {
      few = omega arith;
      read =
          ap (λ n. behind c.push.new.self.items (puts n b)) next
          ∙ ap (λ all. behind all (puts (999 - length cs) b)) c.in_ok-push.ensures.items
          ∙ behind-append cs (c.in-Some-argument.constant ∷ []) (puts (999 - length cs) b)
          ∙ ap (behind cs) (sym (puts-more (999 - length cs) c.loop-rest.rest.now c.in-Some.inside.now b c.in-Some-argument.constant (sym c.after.ensures ∙ ap option_copied c.in-Some.is) (sym c.argument.ensures ∙ ap plain c.in-Some-argument.is)))
          ∙ ap (λ n. behind cs (puts n c.loop-rest.rest.now)) (sym left)
          ∙ c.loop-rest.invariant.read;
    }

pub returns : goal.returns
returns c =
    let cs = c.loop-rest.constants.items in
    let none_left : 1000 - length cs ≡ 0 = omega arith in
    sym c.loop-rest.invariant.read
    ∙ ap (λ n. behind cs (puts n c.loop-rest.rest.now)) none_left
    ∙ ap (behind cs) (puts-none c.loop-rest.rest.now)
    ∙ ap (λ all. Some (all, c.loop-rest.rest.now)) (append-nil cs)
