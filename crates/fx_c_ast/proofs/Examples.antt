-- Layouts that a C compiler for x86-64 gives, and stack use counted by hand.
use Rattle.std.proofs.Common.{◌≡◌, ℕ, List, [], ◌∷◌, refl}
use Rattle.fx_c_ast.specs.declared.layout.Layout.{Layout}
use Rattle.fx_c_ast.specs.declared.operator.IntType.TheVariants.{Char, Short, Int, Long}
use Rattle.fx_c_ast.specs.declared.operator.Binop.TheVariants.{Add, Land}
use Rattle.fx_c_ast.specs.CheckedTrees.{TyTree, IntTy, StructTy, PtrTy, ArrayTy, TExprTree, ENumber, EBin, ECall, NoTExprs, MoreTExprs, SAssign}
use Rattle.fx_c_ast.specs.Layout.{struct_layout, layout_of}
use Rattle.fx_c_ast.specs.StackUse.{need, need_stmt}

laid : ℕ → ℕ → Layout
laid size align = record { size = size; align = align }

-- struct a { char c; short s; char d; };  struct b { char c; struct a a[3]; long *p; int i; };
structs : List (List TyTree)
structs = (IntTy Char ∷ IntTy Short ∷ IntTy Char ∷ []) ∷ (IntTy Char ∷ ArrayTy (StructTy 0) 3 ∷ PtrTy (IntTy Long) ∷ IntTy Int ∷ []) ∷ []

small_struct : layout_of structs (StructTy 0) ≡ laid 6 2
unfolding struct_layout structs laid
small_struct = refl

large_struct : layout_of structs (StructTy 1) ≡ laid 40 8
unfolding struct_layout structs laid
large_struct = refl

array_of_arrays : layout_of structs (ArrayTy (ArrayTy (StructTy 1) 5) 7) ≡ laid 1400 8
unfolding struct_layout structs laid
array_of_arrays = refl

one : TExprTree
one = ENumber (IntTy Int) 1

-- 1 + (1 + 1) holds three operands, (1 && 1) one, f(1, 1, 1 + 1) four
three : need (EBin (IntTy Int) Add one (EBin (IntTy Int) Add one one)) ≡ 3
unfolding one
three = refl

single : need (EBin (IntTy Int) Land one one) ≡ 1
unfolding one
single = refl

four : need (ECall (IntTy Int) 0 (MoreTExprs one (MoreTExprs one (MoreTExprs (EBin (IntTy Int) Add one one) NoTExprs)))) ≡ 4
unfolding one
four = refl

assignment : need_stmt (SAssign one (EBin (IntTy Int) Add one one)) ≡ 3
unfolding one
assignment = refl
