-- A program of one function of two parameters, `long` and `char`, has frames.
use Rattle.std.proofs.Common.{◌≡◌, ℕ, zero, suc, ◌≤◌, ◌<◌, List, [], ◌∷◌, All, length, refl, sym, subst, arith, lit≤}
use Rattle.fx_c_ast.specs.declared.checked.Ty.{Int}
use Rattle.fx_c_ast.specs.declared.checked.TStruct.{TStruct}
use Rattle.fx_c_ast.specs.declared.checked.TLocal.{TLocal}
use Rattle.fx_c_ast.specs.declared.checked.TFunction.{TFunction}
use Rattle.fx_c_ast.specs.declared.checked.TProgram.{TProgram}
use Rattle.fx_c_ast.specs.declared.operator.IntType.TheVariants.{Long, Char}
use Rattle.fx_c_ast.specs.CheckedTrees.{ty_tree, struct_types}
use Rattle.fx_c_ast.specs.Layout.{known_layouts, IsSized, StructsAreSized}
use Rattle.fx_c_ast.specs.StackUse.{fs}
use Rattle.fx_shadow.specs.Frames.{HasFrame, HasFrames}

all_of_one : {X : Type 0} (P : X → Type 0) (x : X) → P x → All P (x ∷ [])
all_of_one P x h zero d l = h
all_of_one P x h (suc k) d l = absurd (omega arith)

all_of_two : {X : Type 0} (P : X → Type 0) (x y : X) → P x → P y → All P (x ∷ y ∷ [])
all_of_two P x y h g zero d l = h
all_of_two P x y h g (suc zero) d l = g
all_of_two P x y h g (suc (suc k)) d l = absurd (omega arith)

no_structs : (ss : List TStruct) → ss ≡ [] → StructsAreSized (struct_types ss)
no_structs ss e = subst (λ xs. StructsAreSized (struct_types xs)) (sym e) (λ n h. absurd (omega arith))

two_sized : (ss : List TStruct) (f : TFunction) (a b : TLocal) → f.locals ≡ a ∷ b ∷ [] → a.ty ≡ Int Long → b.ty ≡ Int Char → All (λ (l : TLocal). IsSized (known_layouts (struct_types ss)) (length ss) (ty_tree l.ty)) f.locals
two_sized ss f a b two is_long is_char =
    let P : TLocal → Type 0 = λ (l : TLocal). IsSized (known_layouts (struct_types ss)) (length ss) (ty_tree l.ty) in
    subst (All P) (sym two) (all_of_two P a b
    (subst (λ t. IsSized (known_layouts (struct_types ss)) (length ss) (ty_tree t)) (sym is_long) tt)
    (subst (λ t. IsSized (known_layouts (struct_types ss)) (length ss) (ty_tree t)) (sym is_char) tt))

two_small : (ss : List TStruct) (f : TFunction) (a b : TLocal) → f.locals ≡ a ∷ b ∷ [] → a.ty ≡ Int Long → b.ty ≡ Int Char → f.body.items ≡ [] → fs (struct_types ss) f ≡ 80
two_small ss f a b two is_long is_char none = rw (two, none, is_long, is_char) refl

pub two_parameters : (p : TProgram) (f : TFunction) (a b : TLocal) → p.structs ≡ [] → p.functions ≡ f ∷ [] → f.locals ≡ a ∷ b ∷ [] → a.ty ≡ Int Long → b.ty ≡ Int Char → f.body.items ≡ [] → HasFrames p
two_parameters p f a b structs functions two is_long is_char none = record {
  structs = no_structs p.structs structs;
  functions = subst (All (HasFrame p.structs)) (sym functions) (all_of_one (HasFrame p.structs) f (record {
    sized = two_sized p.structs f a b two is_long is_char;
    small = subst (λ n. n ≤ 65536) (sym (two_small p.structs f a b two is_long is_char none)) (lit≤ tt);
  }));
}
