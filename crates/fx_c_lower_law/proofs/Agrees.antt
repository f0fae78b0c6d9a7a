-- An op on words gives what the source's operator gives at the values, or the source's is undefined.
use Rattle.std.proofs.Common.{◌≡◌, Bool, true, false, not, ◌&&◌, ℕ, ◌+◌, ◌-◌, ◌%◌, ◌^◌, ◌<◌, ◌⊎◌, inl, inr, List, Option, Some, None, Result, Ok, Err, if◌then◌else◌, refl, sym, ap, ◌∙◌, arith}
use Rattle.std.specs.Prelude.{nat_eq, nat_lt, nat_le, int_lt, ℤ, neg_ℤ}
use Rattle.std.proofs.lemmas.Bool.Decides.{nat_tests}
use Rattle.fx_c_ast.specs.declared.operator.IntType.{IntType}
use Rattle.fx_c_ast.specs.declared.operator.IntType.TheVariants.{Long, Ulong}
use Rattle.fx_c_ast.specs.declared.operator.Binop.{Binop}
use Rattle.fx_c_ast.specs.declared.operator.Binop.TheVariants.{Add, Sub, Lt, Gt, Le, Ge, Eq, Ne}
use Rattle.fx_c_ast.specs.CheckedTrees.{TyTree, IntTy, PtrTy}
use Rattle.fx_word_ops.specs.Words.{signed}
use Rattle.fx_c_mean_blocks.specs.declared.value.Value.{Value}
use Rattle.fx_c_mean_blocks.specs.declared.value.Value.TheVariants.{Number, Null, Address}
use Rattle.fx_c_mean_blocks.specs.declared.block.Object.{Object}
use Rattle.fx_c_mean_blocks.specs.declared.fault.Fault.{Fault}
use Rattle.fx_c_mean_blocks.specs.declared.fault.Fault.TheVariants as fault
use Rattle.fx_c_mean_blocks.specs.Integers.{number, converted, truth}
use Rattle.fx_c_mean_blocks.specs.Blocks.{moved, is_comparable, same_pointer}
use Rattle.fx_c_mean_blocks.specs.Operators.{elements, integers, difference, pointer_result, pointer_moved, binary_result, offsets_of, in_order}
use Rattle.fx_c_mean_model.specs.Programs.{Program}
use Rattle.fx_c_lin.specs.Ops as op
use Rattle.fx_c_lin.specs.Machine as lin
use Rattle.fx_c_lin.specs.Machine.{word_of, pointer_of_word}
use Rattle.fx_c_lower_model.specs.Steps.{compared, is_comparison, opposite}
use Rattle.fx_c_lower_law.specs.Fits.{FitsIndex, FitsPair}
use Rattle.fx_c_lower_law.proofs.Relation.{is_wide, if_widened}
use Rattle.fx_c_lower_law.proofs.Wide.{wide_is}

abbrev pub Agrees : Result Value Fault → Result Value Fault → Type 0
Agrees x y = (y ≡ x) ⊎ (x ≡ Err fault.Undefined)

-- ---- numbers of elements

-- a word that stands for the number that a value is
abbrev pub Counts : IntType → IntType → Value → Value → Type 0
Counts i k v w = (b : ℕ) → v ≡ Number b → (n : ℕ) × (w ≡ Number n) × (number k n ≡ number i b)

whole_long : (x : ℕ) (b : Bool) → x < 2 ^ 64 → ((if b then x + (2 ^ 64 - 2 ^ 64) else x) % 2 ^ 64) % 2 ^ 64 ≡ x
whole_long x true le = omega arith
whole_long x false le = omega arith

long_is : (w : ℕ) → number Long (converted Long Long w) ≡ number Long w
long_is w = ap (λ x. signed (2 ^ 63) x) (whole_long (w % 2 ^ 64) (nat_le (2 ^ 63) (w % 2 ^ 64)) (omega arith))

abbrev number_in : Value → ℕ
number_in (Number n) = n
number_in v = 0

same_word : (v : Value) (w b : ℕ) → word_of v ≡ Number w → v ≡ Number b → w ≡ b
same_word v w b e q = ap number_in (sym e ∙ ap word_of q)

-- a number in an op is a long
pub long_counts : (i : IntType) → FitsIndex i → (v : Value) (w : ℕ) → word_of v ≡ Number w → Counts i Long v (Number (converted i Long w))
long_counts Long fits v w e b q = (converted Long Long w, refl, long_is w ∙ ap (number Long) (same_word v w b e q))
long_counts Ulong fits v w e b q = absurd fits
long_counts i fits v w e b q = (converted i Long w, refl, wide_is i refl w ∙ ap (number i) (same_word v w b e q))

-- a pending number is one once it is widened
pub wide_counts : (i : IntType) → FitsIndex i → (v : Value) → Counts i Long v (if_widened (is_wide i) i (word_of v))
wide_counts Long fits v b q = (b, ap word_of q, refl)
wide_counts Ulong fits v b q = absurd fits
wide_counts i fits v b q = (converted i Long b, ap (λ x. lin.conversion_of (op.Convert i Long) (word_of x)) q, wide_is i refl b)

-- a variable's value is read as its type says
pub own_counts : (i : IntType) (v : Value) → Counts i i v (word_of v)
own_counts i v b q = (b, ap word_of q, refl)

moved_agrees : (memory : List Object) (v : Value) (d : ℤ) → Agrees (moved memory v d) (moved memory (word_of v) d)
moved_agrees memory (Address q) d = inl refl
moved_agrees memory v d = inr refl

pub add_agrees : (memory : List Object) (bytes : ℕ) (i k : IntType) (v w x : Value) → Counts i k w x → Agrees (pointer_moved memory Add bytes i v w) (lin.indexed memory bytes k (word_of v) x)
add_agrees memory bytes i k v (Number b) x h =
    let n = h b refl in
    rw (n.1, n.2) (moved_agrees memory v (elements bytes (number i b)))
add_agrees memory bytes i k v w x h = inr refl

pub sub_agrees : (memory : List Object) (bytes : ℕ) (i : IntType) (v w x : Value) → Counts i Long w x → Agrees (pointer_moved memory Sub bytes i v w) (lin.indexed_back memory bytes (word_of v) x)
sub_agrees memory bytes i v (Number b) x h =
    let n = h b refl in
    rw (n.1, n.2) (moved_agrees memory v (neg_ℤ (elements bytes (number i b))))
sub_agrees memory bytes i v w x h = inr refl

-- ---- integers and pointers

pub integers_agree : (o : Binop) (i : IntType) (v w : Value) → Agrees (integers o i v w) (integers o i (word_of v) (word_of w))
integers_agree o i (Number a) (Number b) = inl refl
integers_agree o i v w = inr refl

pub difference_agrees : (bytes : ℕ) (v w : Value) → Agrees (difference bytes v w) (difference bytes (word_of v) (word_of w))
difference_agrees bytes (Address q) (Address q2) = inl refl
difference_agrees bytes v w = inr refl

and_false : (b : Bool) → (b && false) ≡ false
and_false true = refl
and_false false = refl

pub pointers_agree : (o : Binop) (memory : List Object) (bytes : ℕ) (v w : Value) → o ≡ Sub ⊎ Agrees (pointer_result memory o bytes v w) (pointer_result memory o 1 (pointer_of_word (word_of v)) (pointer_of_word (word_of w)))
pointers_agree Sub memory bytes v w = inl refl
pointers_agree o memory bytes Null Null = inr (inl refl)
pointers_agree o memory bytes Null (Address q) = inr (inl refl)
pointers_agree o memory bytes (Address q) Null = inr (inl refl)
pointers_agree o memory bytes (Address q) (Address q2) = inr (inl refl)
pointers_agree Eq memory bytes (Address q) w = inr (inr (rw (and_false (is_comparable memory (Address q))) refl))
pointers_agree Ne memory bytes (Address q) w = inr (inr (rw (and_false (is_comparable memory (Address q))) refl))
pointers_agree o memory bytes v w = inr (inr refl)

-- ---- comparisons

not_not : (b : Bool) → not (not b) ≡ b
not_not true = refl
not_not false = refl

-- the comparison's truth, and that of the opposite one
abbrev pub Compares : Result Value Fault → Result Value Fault → Result Value Fault → Type 0
Compares x y z = ((t : Bool) × (x ≡ Ok (Number (truth t))) × (y ≡ Ok (Number (truth t))) × (z ≡ Ok (Number (truth (not t))))) ⊎ (x ≡ Err fault.Undefined)

abbrev told : Bool → Result Value Fault
told b = Ok (Number (truth b))

back_again : (b : Bool) → told b ≡ told (not (not b))
back_again b = ap told (sym (not_not b))

integers_compare : (o : Binop) (i : IntType) (a b : ℕ) → is_comparison o ≡ true → Compares (integers o i (Number a) (Number b)) (integers o i (Number a) (Number b)) (integers (opposite o) i (Number a) (Number b))
integers_compare Lt i a b e = inl (int_lt (number i a) (number i b), refl, refl, refl)
integers_compare Gt i a b e = inl (int_lt (number i b) (number i a), refl, refl, refl)
integers_compare Le i a b e = inl (not (int_lt (number i b) (number i a)), refl, refl, back_again (int_lt (number i b) (number i a)))
integers_compare Ge i a b e = inl (not (int_lt (number i a) (number i b)), refl, refl, back_again (int_lt (number i a) (number i b)))
integers_compare Eq i a b e = inl (nat_eq a b, refl, refl, refl)
integers_compare Ne i a b e = inl (not (nat_eq a b), refl, refl, back_again (nat_eq a b))
integers_compare o i a b e = absurd cc

either_order : (a b : ℕ) → nat_le b a ≡ not (nat_lt a b)
either_order a b = on (nat_lt a b) refl where
  on : (x : Bool) → nat_lt a b ≡ x → nat_le b a ≡ not x
  on true e = grind (arith, nat_tests)
  on false e = grind (arith, nat_tests)

abbrev is_order : Binop → Bool
is_order Lt = true
is_order Gt = true
is_order Le = true
is_order Ge = true
is_order o = false

order_compare : (o : Binop) (x : Option (ℕ × ℕ)) → is_order o ≡ true → Compares (in_order o x) (in_order o x) (in_order (opposite o) x)
order_compare Lt (Some (a, b)) e = inl (nat_lt a b, refl, refl, ap told (either_order a b))
order_compare Ge (Some (a, b)) e = inl (nat_le b a, refl, refl, back_again (nat_lt a b) ∙ ap (λ z. told (not z)) (sym (either_order a b)))
order_compare Gt (Some (a, b)) e = inl (nat_lt b a, refl, refl, ap told (either_order b a))
order_compare Le (Some (a, b)) e = inl (nat_le a b, refl, refl, back_again (nat_lt b a) ∙ ap (λ z. told (not z)) (sym (either_order b a)))
order_compare o None e = inr refl
order_compare o x e = absurd cc

abbrev pub pointer_word : Value → Value
pointer_word v = pointer_of_word (word_of v)

order_pointers : (o : Binop) (v w : Value) → is_order o ≡ true → Compares (in_order o (offsets_of v w)) (in_order o (offsets_of (pointer_word v) (pointer_word w))) (in_order (opposite o) (offsets_of (pointer_word v) (pointer_word w)))
order_pointers o Null Null e = order_compare o (Some (0, 0)) e
order_pointers o (Address q) (Address q2) e = order_compare o (offsets_of (Address q) (Address q2)) e
order_pointers o v w e = inr refl

equal_compare : (b x : Bool) → Compares (if b then told x else Err fault.Undefined) (if b then told x else Err fault.Undefined) (if b then told (not x) else Err fault.Undefined)
equal_compare true x = inl (x, refl, refl, refl)
equal_compare false x = inr refl

differ_compare : (b x : Bool) → Compares (if b then told (not x) else Err fault.Undefined) (if b then told (not x) else Err fault.Undefined) (if b then told x else Err fault.Undefined)
differ_compare true x = inl (not x, refl, refl, back_again x)
differ_compare false x = inr refl

pointers_compare : (o : Binop) (memory : List Object) (bytes : ℕ) (v w : Value) → is_comparison o ≡ true → Compares (pointer_result memory o bytes v w) (pointer_result memory o 1 (pointer_word v) (pointer_word w)) (pointer_result memory (opposite o) 1 (pointer_word v) (pointer_word w))
pointers_compare Lt memory bytes v w e = order_pointers Lt v w refl
pointers_compare Gt memory bytes v w e = order_pointers Gt v w refl
pointers_compare Le memory bytes v w e = order_pointers Le v w refl
pointers_compare Ge memory bytes v w e = order_pointers Ge v w refl
pointers_compare Eq memory bytes Null Null e = equal_compare true true
pointers_compare Eq memory bytes Null (Address q) e = equal_compare (is_comparable memory (Address q)) false
pointers_compare Eq memory bytes (Address q) Null e = equal_compare (is_comparable memory (Address q) && true) false
pointers_compare Eq memory bytes (Address q) (Address q2) e = equal_compare (is_comparable memory (Address q) && is_comparable memory (Address q2)) (same_pointer q q2)
pointers_compare Eq memory bytes (Address q) w e = inr (rw (and_false (is_comparable memory (Address q))) refl)
pointers_compare Eq memory bytes v w e = inr refl
pointers_compare Ne memory bytes Null Null e = differ_compare true true
pointers_compare Ne memory bytes Null (Address q) e = differ_compare (is_comparable memory (Address q)) false
pointers_compare Ne memory bytes (Address q) Null e = differ_compare (is_comparable memory (Address q) && true) false
pointers_compare Ne memory bytes (Address q) (Address q2) e = differ_compare (is_comparable memory (Address q) && is_comparable memory (Address q2)) (same_pointer q q2)
pointers_compare Ne memory bytes (Address q) w e = inr (rw (and_false (is_comparable memory (Address q))) refl)
pointers_compare Ne memory bytes v w e = inr refl
pointers_compare o memory bytes v w e = absurd cc

integer_words : (o : Binop) (i : IntType) (v w : Value) → is_comparison o ≡ true → Compares (integers o i v w) (integers o i (word_of v) (word_of w)) (integers (opposite o) i (word_of v) (word_of w))
integer_words o i (Number a) (Number b) e = integers_compare o i a b e
integer_words o i v w e = inr refl

-- a comparison that is a condition, and the opposite one
pub compares : (s t : TyTree) (p : Program) (o : Binop) (memory : List Object) (v w : Value) → is_comparison o ≡ true → FitsPair o s t → Compares (binary_result p.structs memory o s t v w) (lin.comparison memory o (compared s) (word_of v) (word_of w)) (lin.comparison memory (opposite o) (compared s) (word_of v) (word_of w))
compares (IntTy i) (IntTy j) p o memory v w e fits = integer_words o i v w e
compares (PtrTy s) (PtrTy t) p o memory v w e fits = pointers_compare o memory _ v w e
compares (PtrTy s) (IntTy i) p Add memory v w e fits = absurd cc
compares (PtrTy s) (IntTy i) p Sub memory v w e fits = absurd cc
compares (PtrTy s) (IntTy i) p o memory v w e fits = absurd fits
compares (IntTy i) (PtrTy t) p Add memory v w e fits = absurd cc
compares (IntTy i) (PtrTy t) p o memory v w e fits = absurd fits
compares s t p o memory v w e fits = absurd fits
