use Rattle.std.proofs.Common.{◌≡◌, ◌∙◌, ap, sym, true, false, length}
use Rattle.fx_c_ast.specs.CheckedTrees.{ty_tree}
use Rattle.fx_c_ast.specs.ParsedTrees.{type_tree}
use Rattle.fx_c_types_rules.specs.Structs.{place_32, member_trees as struct_members}
use Rattle.fx_c_types_heads.specs.Written.{ty_of, is_object, has_elements}
use Rattle.fx_c_types_heads.specs.HeadsView.{heads_tree}
use Rattle.fx_c_types_heads.proofs.Fields.{member_refused, member_taken, object_elements, push_elements}
use Rattle.fx_c_types_heads.proofs.heads.Heads.members.Goals as goal

pub returns-then-not-is_object-clause-members : goal.returns-then-not-is_object-clause-members
returns-then-not-is_object-clause-members c =
    let h = heads_tree c.args.self.now in
    let f = c.member-item.result in
    let refused : is_object h.tags (place_32 (length h.structs)) (type_tree f.0) ≡ false = ap (λ n. is_object h.tags n (type_tree f.0)) (sym c.declared-declared.ensures) ∙ sym c.is_object.ensures ∙ c.if-not-is_object.true in
    λ _. member_refused h c.args.members.now c.loop-member.member-index f c.loop-member-test.true c.member-item.is (struct_members c.loop-member.all.items) _ refused c.loop-member.invariant.behind

pub loop-member-preserved : goal.loop-member-preserved
loop-member-preserved c =
    let h = heads_tree c.args.self.now in
    let f = c.member-item.result in
    let taken : is_object h.tags (place_32 (length h.structs)) (type_tree f.0) ≡ true = ap (λ n. is_object h.tags n (type_tree f.0)) (sym c.declared-declared.ensures) ∙ sym c.is_object.ensures ∙ c.if-not-is_object.false in
    let ty : ty_of h.tags (type_tree f.0) ≡ ty_tree c.in_ok-ty.ty = let e = c.in_ok-ty.ensures in cc in
    let name : f.1 ≡ c.in_ok-name.name = let e = c.in_ok-name.ensures in cc in
    let has : has_elements (ty_tree c.in_ok-ty.ty) ≡ true = ap has_elements (sym ty) ∙ object_elements h.tags (place_32 (length h.structs)) (type_tree f.0) taken in
    record {
      behind = rw c.in_ok-push.ensures.items (member_taken h c.args.members.now c.loop-member.member-index f c.loop-member-test.true c.member-item.is c.loop-member.all.items (record { ty = c.in_ok-ty.ty; name = c.in_ok-name.name }) _ taken ty name c.loop-member.invariant.behind);
      elements = rw c.in_ok-push.ensures.items (push_elements c.loop-member.all.items (record { ty = c.in_ok-ty.ty; name = c.in_ok-name.name }) c.loop-member.invariant.elements has);
    }
