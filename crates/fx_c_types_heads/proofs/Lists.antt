-- Lists of globals, functions and layouts, item by item.
use Rattle.std.proofs.Common.{◌≡◌, ℕ, zero, suc, ◌<◌, ◌≤◌, nat_le, Bool, true, false, not, ◌||◌, refl, ap, sym, ◌∙◌, arith, Ok, Err, List, [], ◌∷◌, ◌++◌, length, Option, Some, None, is_some}
use Rattle.fx_c_ast.specs.declared.layout.Layout.{Layout}
use Rattle.fx_c_ast.specs.declared.checked.TGlobal.{TGlobal}
use Rattle.std.proofs.lemmas.Bool.Decides.{nat_tests}
use Rattle.fx_c_types_rules.specs.declared.fault.Fault.TheVariants.{Rule}
use Rattle.fx_c_types_rules.specs.declared.fault.TypeKind.TheVariants.{TooLarge}
use Rattle.fx_c_types_rules.specs.Checks.{demand}
use Rattle.fx_c_ast.specs.declared.parsed.Param.{Param}
use Rattle.fx_c_ast.specs.ParsedTrees.{param_trees}
use Rattle.fx_c_types_heads.specs.declared.heads.Head.{Head}
use Rattle.fx_c_types_heads.specs.Sizes.{known, IsKnown, AreKnown}
use Rattle.fx_c_types_heads.specs.HeadsView.{global_tree, global_heads, function_head, function_heads}

pub length-global_heads : (gs : List TGlobal) → length (global_heads gs) ≡ length gs
length-global_heads [] = refl
length-global_heads (g ∷ gs) = ap suc (length-global_heads gs)

pub push_global : (gs : List TGlobal) (g : TGlobal) → global_heads (gs ++ g ∷ []) ≡ global_heads gs ++ global_tree g ∷ []
push_global [] g = refl
push_global (x ∷ gs) g = ap (λ ls. global_tree x ∷ ls) (push_global gs g)

pub length-function_heads : (fs : List Head) → length (function_heads fs) ≡ length fs
length-function_heads [] = refl
length-function_heads (f ∷ fs) = ap suc (length-function_heads fs)

pub push_head : (fs : List Head) (f : Head) → function_heads (fs ++ f ∷ []) ≡ function_heads fs ++ function_head f ∷ []
push_head [] f = refl
push_head (x ∷ fs) f = ap (λ ls. function_head x ∷ ls) (push_head fs f)

pub push_known : (ls : List Layout) (l : Layout) → AreKnown ls → IsKnown l → AreKnown (ls ++ l ∷ [])
push_known [] l are is zero = is
push_known [] l are is (suc n) = are n
push_known (x ∷ ls) l are is zero = are zero
push_known (x ∷ ls) l are is (suc n) = push_known ls l (λ m. are (suc m)) is n

pub none_from : (a : Option ℕ) → is_some a ≡ false → a ≡ None
none_from None h = refl
none_from (Some n) h = cc

pub not_declared : (a b : Option ℕ) → not (is_some a || is_some b) ≡ true → (a ≡ None) × (b ≡ None)
not_declared None None h = (refl, refl)
not_declared None (Some n) h = cc
not_declared (Some n) b h = cc

pub small_layout : (r l : Layout) → l ≡ r → l.size ≤ 67108864 → demand (nat_le r.size 67108864) TooLarge (Ok r) ≡ Ok l
small_layout r l e h =
    let here : demand (nat_le l.size 67108864) TooLarge (Ok l) ≡ Ok l = grind (arith, nat_tests) in
    ap (λ (x : Layout). demand (nat_le x.size 67108864) TooLarge (Ok x)) (sym e) ∙ here

pub large_layout : (r : Layout) → 67108864 < r.size → demand (nat_le r.size 67108864) TooLarge (Ok r) ≡ Err (Rule TooLarge)
large_layout r h = grind (arith, nat_tests)

pub length-param_trees : (ps : List Param) → length (param_trees ps) ≡ length ps
length-param_trees [] = refl
length-param_trees (p ∷ ps) = ap suc (length-param_trees ps)
