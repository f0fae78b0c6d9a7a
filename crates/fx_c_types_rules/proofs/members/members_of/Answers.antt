use Rattle.std.proofs.Common.{◌≡◌, ap, sym, ◌∙◌, arith, slice_get}
use Rattle.std.proofs.lemmas.Bool.Decides.{nat_tests}
use Rattle.fx_c_ast.specs.declared.checked.TStruct.{TStruct}
use Rattle.fx_c_types_rules.specs.Structs.{member_trees, struct_trees, struct_members, members_of}
use Rattle.fx_c_types_rules.proofs.Rows.{struct_at, struct_beyond}
use Rattle.fx_c_types_rules.proofs.members.members_of.Goals as goal

pub returns-then-n-structs : goal.returns-then-n-structs
returns-then-n-structs c = let b = struct_beyond c.args.structs.now c.args.n c.if-n-structs.true in let h = c.if-n-declared.false in grind (arith, nat_tests)

pub returns : goal.returns
returns c =
    let s = struct_at c.args.structs.now c.args.n c.index-structs-n.result (omega arith) c.index-structs-n.is in
    let h = c.if-n-declared.false in
    let there : members_of (slice_get (struct_trees c.args.structs.now) c.args.n) ≡ struct_members (struct_trees c.args.structs.now) c.args.declared c.args.n = grind (arith, nat_tests) in
    ap member_trees c.as_slice.ensures ∙ ap (λ (d : TStruct). member_trees d.members) (sym c.index-structs-n.is) ∙ s ∙ there
