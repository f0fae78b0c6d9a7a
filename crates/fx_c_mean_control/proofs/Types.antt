-- The type of an expression's tree.
use Rattle.std.proofs.Common.{◌≡◌, refl}
use Rattle.fx_c_ast.specs.declared.checked.TExpr.{TExpr}
use Rattle.fx_c_ast.specs.declared.checked.TKind.{TKind, Number, Literal, Global, Local, Un', Bin', Cast', Convert', Size, Index', Member', Arrow', Call', Gate', Getc, Putc', DevLoad, DevStore', Spawn', Switch', Me}
use Rattle.fx_c_ast.specs.CheckedTrees.{TyTree, kind_tree}
use Rattle.fx_c_mean_model.specs.States.{type_of}

pub type_is : (ty : TyTree) (k : TKind) → type_of (kind_tree ty k) ≡ ty
type_is ty (Number value) = refl
type_is ty (Literal n) = refl
type_is ty (Global n) = refl
type_is ty (Local n) = refl
type_is ty (Un' op p t e) = refl
type_is ty (Bin' op p s a q t b) = refl
type_is ty (Cast' p t e) = refl
type_is ty (Convert' p t e) = refl
type_is ty (Size t) = refl
type_is ty (Index' p s a q t b) = refl
type_is ty (Member' p t e n) = refl
type_is ty (Arrow' p t e n) = refl
type_is ty (Call' f shape all) = refl
type_is ty (Gate' f shape all) = refl
type_is ty Getc = refl
type_is ty (Putc' p t e) = refl
type_is ty (DevLoad d r) = refl
type_is ty (DevStore' d r p t e) = refl
type_is ty (Spawn' f p t e) = refl
type_is ty (Switch' p t e) = refl
type_is ty Me = refl
