use Rattle.std.proofs.Common.{◌≡◌, ℕ, sym, ap, ◌∙◌, length, Option, Some, None}
use Rattle.std.specs.Prelude.{nat_eq}
use Rattle.std.specs.List.{starts_with}
use Rattle.fx_x64_forms.specs.declared.inst.Inst.{Inst}
use Rattle.fx_x64_code.specs.Decoded.{decoded}
use Rattle.fx_x64_code.proofs.Confirmed.{decoded-unguessed, decoded-no_row, decoded-other, decoded-guessed}
use Rattle.fx_x64_code.proofs.Decoding.{answer_spelled, answer_complete}
use Rattle.fx_x64_code.proofs.decode.decode.Goals as goal

pub returns-in-None : goal.returns-in-None
returns-in-None c =
    let value : ◌≡◌ {A = Option (Inst × ℕ)} None (decoded c.args.b.now) = sym (decoded-unguessed c.args.b.now (sym c.read.ensures ∙ c.in-None.is)) in
    record { value = value; spelled = answer_spelled c.args.b.now None value; complete = answer_complete c.args.b.now None value }

pub returns-then-not-is_row : goal.returns-then-not-is_row
returns-then-not-is_row c =
    let value : ◌≡◌ {A = Option (Inst × ℕ)} None (decoded c.args.b.now) = sym (decoded-no_row c.args.b.now c.in-Some.i (sym c.read.ensures ∙ c.in-Some.is) (sym c.is_row.ensures ∙ c.if-not-is_row.true)) in
    record { value = value; spelled = answer_spelled c.args.b.now None value; complete = answer_complete c.args.b.now None value }

pub returns-then-starts_with : goal.returns-then-starts_with
returns-then-starts_with c =
    let spelled = c.as_slice-bytes.ensures ∙ c.spell-spelled.ensures in
    let answer = Some (c.in-Some.i, length c.as_slice-bytes.result.now) in
    let value : answer ≡ decoded c.args.b.now =
    ap (λ s. Some (c.in-Some.i, length s)) spelled
    ∙ sym (decoded-guessed c.args.b.now c.in-Some.i (sym c.read.ensures ∙ c.in-Some.is) (sym c.is_row.ensures ∙ c.if-not-is_row.false)
    (ap (starts_with nat_eq c.args.b.now) (sym spelled) ∙ sym c.starts_with.ensures.value ∙ c.if-starts_with.true)) in
    record { value = value; spelled = answer_spelled c.args.b.now answer value; complete = answer_complete c.args.b.now answer value }

pub returns-else-starts_with : goal.returns-else-starts_with
returns-else-starts_with c =
    let spelled = c.as_slice-bytes.ensures ∙ c.spell-spelled.ensures in
    let value : ◌≡◌ {A = Option (Inst × ℕ)} None (decoded c.args.b.now) =
    sym (decoded-other c.args.b.now c.in-Some.i (sym c.read.ensures ∙ c.in-Some.is)
    (ap (starts_with nat_eq c.args.b.now) (sym spelled) ∙ sym c.starts_with.ensures.value ∙ c.if-starts_with.false)) in
    record { value = value; spelled = answer_spelled c.args.b.now None value; complete = answer_complete c.args.b.now None value }
