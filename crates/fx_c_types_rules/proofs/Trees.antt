-- What the view of a tree carries.
use Rattle.std.proofs.Common.{◌≡◌, refl}
use Rattle.fx_c_ast.specs.declared.checked.TKind.{TKind, Number, Literal, Global, Local, Un', Bin', Cast', Convert', Size, Index', Member', Arrow', Call', Gate', Getc, Putc', DevLoad, DevStore', Spawn', Switch', Me}
use Rattle.fx_c_ast.specs.CheckedTrees.{TyTree, kind_tree}
use Rattle.fx_c_types_rules.specs.Values.{type_of}

pub type_is : (t : TyTree) (k : TKind) → type_of (kind_tree t k) ≡ t
type_is t (Number value) = refl
type_is t (Literal n) = refl
type_is t (Global n) = refl
type_is t (Local n) = refl
type_is t (Un' op p s e) = refl
type_is t (Bin' op p s a q u b) = refl
type_is t (Cast' p s e) = refl
type_is t (Convert' p s e) = refl
type_is t (Size s) = refl
type_is t (Index' p s a q u b) = refl
type_is t (Member' p s e n) = refl
type_is t (Arrow' p s e n) = refl
type_is t (Call' f shape all) = refl
type_is t (Gate' f shape all) = refl
type_is t Getc = refl
type_is t (Putc' p s e) = refl
type_is t (DevLoad d r) = refl
type_is t (DevStore' d r p s e) = refl
type_is t (Spawn' f p s e) = refl
type_is t (Switch' p s e) = refl
type_is t Me = refl
