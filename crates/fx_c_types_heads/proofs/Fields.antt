-- Lists of members and of parameters, item by item.
use Rattle.std.proofs.Common.{◌≡◌, ℕ, zero, suc, ◌+◌, ◌<◌, ◌≤◌, Bool, true, false, ◌&&◌, refl, sym, ap, ◌∙◌, arith, List, [], ◌∷◌, ◌++◌, length, drop, get_or, drop-cons, add-one, append_assoc, Err}
use Rattle.fx_c_ast.specs.declared.parsed.TypeName.{TypeName}
use Rattle.fx_c_ast.specs.declared.parsed.Param.{Param}
use Rattle.fx_c_ast.specs.declared.checked.TLocal.{TLocal}
use Rattle.fx_c_ast.specs.declared.checked.TMember.{TMember}
use Rattle.fx_c_ast.specs.declared.checked.TStruct.{TStruct}
use Rattle.fx_c_ast.specs.ParsedTrees.{TypeTree, ParamTree, type_tree, param_tree, param_trees, member_trees}
use Rattle.fx_c_ast.specs.CheckedTrees.{TyTree, ty_tree, member_types}
use Rattle.fx_c_types_rules.specs.Locals.{LocalTree, local_trees}
use Rattle.fx_c_types_rules.specs.Structs as plain
use Rattle.fx_c_types_rules.specs.Structs.{place_32}
use Rattle.fx_c_types_rules.specs.Checks.{Checked, demand}
use Rattle.fx_c_types_rules.specs.declared.fault.Fault.TheVariants.{Rule}
use Rattle.fx_c_types_rules.specs.declared.fault.TypeKind.TheVariants.{UnknownType}
use Rattle.fx_c_types_heads.specs.Written.{ty_of, is_named, is_object, has_elements}
use Rattle.fx_c_types_heads.specs.Sizes.{all_have_elements}
use Rattle.fx_c_types_rules.specs.Types.{is_complete}
use Rattle.fx_c_types_heads.specs.Heads.{HeadsTree, params_of, members_behind, types_of}

pub split : {A : Type 0} (xs : List A) (i : ℕ) (x : A) → i < length xs → x ≡ get_or xs i x → drop i xs ≡ x ∷ drop (i + 1) xs
split xs i x h is = drop-cons xs i x h ∙ ap (λ z. z ∷ drop (suc i) xs) (sym is) ∙ ap (λ n. x ∷ drop n xs) (sym (add-one i))

push_local : (all : List TLocal) (l : TLocal) → local_trees (all ++ l ∷ []) ≡ local_trees all ++ record { shared = l.shared; ty = ty_tree l.ty } ∷ []
push_local [] l = refl
push_local (x ∷ all) l = ap (λ ls. record { shared = x.shared; ty = ty_tree x.ty } ∷ ls) (push_local all l)

pub push_member : (all : List TMember) (m : TMember) → plain.member_trees (all ++ m ∷ []) ≡ plain.member_trees all ++ record { ty = ty_tree m.ty; name = m.name } ∷ []
push_member [] m = refl
push_member (x ∷ all) m = ap (λ ls. record { ty = ty_tree x.ty; name = x.name } ∷ ls) (push_member all m)

-- one more parameter
pub next_param : (tags : List (List ℕ × ℕ)) (ps : List Param) (i : ℕ) (p : Param) (all : List TLocal) (l : TLocal) (total : List LocalTree) → i < length ps → p ≡ get_or ps i p → params_of tags (param_tree p ∷ []) ≡ record { shared = l.shared; ty = ty_tree l.ty } ∷ [] → local_trees all ++ params_of tags (param_trees (drop i ps)) ≡ total → local_trees (all ++ l ∷ []) ++ params_of tags (param_trees (drop (i + 1) ps)) ≡ total
next_param tags ps i p all l total h is same before =
    ap (λ ls. ls ++ params_of tags (param_trees (drop (i + 1) ps))) (push_local all l)
    ∙ append_assoc (local_trees all) (record { shared = l.shared; ty = ty_tree l.ty } ∷ []) (params_of tags (param_trees (drop (i + 1) ps)))
    ∙ ap (λ ls. local_trees all ++ (ls ++ params_of tags (param_trees (drop (i + 1) ps)))) (sym same)
    ∙ ap (λ ls. local_trees all ++ params_of tags (param_trees ls)) (sym (split ps i p h is))
    ∙ before

pub next_field : (fs : List (TypeName × List ℕ)) (i : ℕ) (f : TypeName × List ℕ) → i < length fs → f ≡ get_or fs i f → member_trees (drop i fs) ≡ (type_tree f.0, f.1) ∷ member_trees (drop (i + 1) fs)
next_field fs i f h is = ap member_trees (split fs i f h is)

module _ (h : HeadsTree) (fs : List (TypeName × List ℕ)) (i : ℕ) (f : TypeName × List ℕ) (within : i < length fs) (is : f ≡ get_or fs i f) where
  -- what members_behind does at a member, by the test on it
  at_member : List plain.MemberTree → Bool → Checked (List plain.MemberTree)
  at_member before b = demand b UnknownType (members_behind h (before ++ record { ty = ty_of h.tags (type_tree f.0); name = f.1 } ∷ []) (member_trees (drop (i + 1) fs)))

  begins : (before : List plain.MemberTree) → members_behind h before (member_trees (drop i fs)) ≡ at_member before (is_object h.tags (place_32 (length h.structs)) (type_tree f.0))
  unfolding at_member
  begins before = ap (members_behind h before) (next_field fs i f within is)

  pub member_refused : (before : List plain.MemberTree) (total : Checked (List plain.MemberTree)) → is_object h.tags (place_32 (length h.structs)) (type_tree f.0) ≡ false → members_behind h before (member_trees (drop i fs)) ≡ total → total ≡ Err (Rule UnknownType)
  unfolding at_member
  member_refused before total refused same = sym same ∙ begins before ∙ ap (at_member before) refused

  pub member_taken : (all : List TMember) (m : TMember) (total : Checked (List plain.MemberTree)) → is_object h.tags (place_32 (length h.structs)) (type_tree f.0) ≡ true → ty_of h.tags (type_tree f.0) ≡ ty_tree m.ty → f.1 ≡ m.name → members_behind h (plain.member_trees all) (member_trees (drop i fs)) ≡ total → members_behind h (plain.member_trees (all ++ m ∷ [])) (member_trees (drop (i + 1) fs)) ≡ total
  unfolding at_member
  member_taken all m total taken ty name same =
      ap (λ ms. members_behind h ms (member_trees (drop (i + 1) fs))) (push_member all m)
      ∙ ap (λ (t : TyTree). members_behind h (plain.member_trees all ++ record { ty = t; name = m.name } ∷ []) (member_trees (drop (i + 1) fs))) (sym ty)
      ∙ ap (λ (n : List ℕ). members_behind h (plain.member_trees all ++ record { ty = ty_of h.tags (type_tree f.0); name = n } ∷ []) (member_trees (drop (i + 1) fs))) (sym name)
      ∙ ap (at_member (plain.member_trees all)) (sym taken)
      ∙ sym (begins (plain.member_trees all)) ∙ same

pub length-struct_trees : (ss : List TStruct) → length (plain.struct_trees ss) ≡ length ss
length-struct_trees [] = refl
length-struct_trees (s ∷ ss) = ap suc (length-struct_trees ss)

pub push_struct : (ss : List TStruct) (s : TStruct) → plain.struct_trees (ss ++ s ∷ []) ≡ plain.struct_trees ss ++ record { name = s.name; members = plain.member_trees s.members } ∷ []
push_struct [] s = refl
push_struct (x ∷ ss) s = ap (λ ls. record { name = x.name; members = plain.member_trees x.members } ∷ ls) (push_struct ss s)

pub types_are : (ms : List TMember) → types_of (plain.member_trees ms) ≡ member_types ms
types_are [] = refl
types_are (m ∷ ms) = ap (λ ts. ty_tree m.ty ∷ ts) (types_are ms)

and_true : (a b : Bool) → (a && b) ≡ true → b ≡ true
and_true true b h = h
and_true false b h = cc

-- a member's type has elements where it is an object's
pub object_elements : (tags : List (List ℕ × ℕ)) (declared : ℕ) (t : TypeTree) → is_object tags declared t ≡ true → has_elements (ty_of tags t) ≡ true
object_elements tags declared t h = and_true (is_named tags t && is_complete declared (ty_of tags t)) (has_elements (ty_of tags t)) h

both : (a b : Bool) → a ≡ true → b ≡ true → (a && b) ≡ true
both a b p q = ap (λ x. x && b) p ∙ q

first : (a b : Bool) → (a && b) ≡ true → a ≡ true
first true b h = refl
first false b h = h

pub push_elements : (all : List TMember) (m : TMember) → all_have_elements (member_types all) ≡ true → has_elements (ty_tree m.ty) ≡ true → all_have_elements (member_types (all ++ m ∷ [])) ≡ true
push_elements [] m h has = both (has_elements (ty_tree m.ty)) true has refl
push_elements (x ∷ all) m h has =
    both (has_elements (ty_tree x.ty)) (all_have_elements (member_types (all ++ m ∷ []))) (first (has_elements (ty_tree x.ty)) (all_have_elements (member_types all)) h)
    (push_elements all m (and_true (has_elements (ty_tree x.ty)) (all_have_elements (member_types all)) h) has)
