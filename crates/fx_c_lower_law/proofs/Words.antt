-- Words stand for their values.
use Rattle.std.proofs.Common.{◌≡◌, ℕ, suc, ◌+◌, List, [], ◌∷◌, ◌++◌, length, map, refl, ap, ◌∙◌, arith}
use Rattle.fx_c_ast.specs.declared.operator.IntType.{IntType}
use Rattle.fx_c_ast.specs.declared.operator.IntType.TheVariants.{Char, Uchar, Short, Ushort, Int, Uint, Long, Ulong}
use Rattle.fx_c_ast.specs.CheckedTrees.{TyTree, VoidTy, IntTy, StructTy, PtrTy, ArrayTy}
use Rattle.fx_c_mean_blocks.specs.declared.value.Value.{Value}
use Rattle.fx_c_mean_blocks.specs.declared.value.Value.TheVariants.{Void, Number, Null, Address}
use Rattle.fx_c_mean_blocks.specs.Blocks.{cells_of}
use Rattle.fx_c_mean_model.specs.Programs.{Program, Variable, call_objects, live_object, size_in}
use Rattle.fx_c_mean_model.specs.Steps.{is_true, exit_value}
use Rattle.fx_c_mean_blocks.specs.declared.block.Place.TheVariants.{Local}
use Rattle.fx_c_lin.specs.Machine.{word_of, popped}
use Rattle.fx_c_lower_law.proofs.Relation.{pushed}

pub cells_word : (n : ℕ) (v : Value) → cells_of n (word_of v) ≡ cells_of n v
cells_word n Void = refl
cells_word n (Number w) = refl
cells_word n Null = refl
cells_word n (Address q) = refl

pub true_word : (v : Value) → is_true (word_of v) ≡ is_true v
true_word Void = refl
true_word (Number w) = refl
true_word Null = refl
true_word (Address q) = refl

null_exit : (i : IntType) → exit_value (IntTy i) (Number 0) ≡ exit_value (IntTy i) Null
null_exit Char = refl
null_exit Uchar = refl
null_exit Short = refl
null_exit Ushort = refl
null_exit Int = refl
null_exit Uint = refl
null_exit Long = refl
null_exit Ulong = refl

pub exit_word : (t : TyTree) (v : Value) → exit_value t (word_of v) ≡ exit_value t v
exit_word (IntTy i) Null = null_exit i
exit_word (IntTy i) Void = refl
exit_word (IntTy i) (Number w) = refl
exit_word (IntTy i) (Address q) = refl
exit_word VoidTy v = refl
exit_word (StructTy n) v = refl
exit_word (PtrTy t) v = refl
exit_word (ArrayTy t n) v = refl

pub objects_word : (p : Program) (f n : ℕ) (xs : List Variable) (vs : List Value) → call_objects p f n xs (map word_of vs) ≡ call_objects p f n xs vs
objects_word p f n [] vs = refl
objects_word p f n (x ∷ xs) [] = refl
objects_word p f n (x ∷ xs) (v ∷ vs) =
    ap (λ c. live_object (Local f n) (size_in p x.ty) c ∷ call_objects p f (n + 1) xs (map word_of vs)) (cells_word (size_in p x.ty) v)
    ∙ ap (λ l. live_object (Local f n) (size_in p x.ty) (cells_of (size_in p x.ty) v) ∷ l) (objects_word p f (n + 1) xs vs)

pub popped_all : (vs : List Value) (k : ℕ) (stack values : List Value) → popped (length vs + k) (pushed vs stack) values ≡ popped k stack (map word_of vs ++ values)
popped_all [] k stack values = let e : 0 + k ≡ k = omega arith in rw e
popped_all (v ∷ vs) k stack values =
    let e : length (v ∷ vs) + k ≡ length vs + suc k = omega arith in
    rw e (popped_all vs (suc k) (word_of v ∷ stack) values)
