-- The tables of a run are those of the program.
use Rattle.std.proofs.Common.{◌≡◌, ℕ, zero, suc, ◌+◌, ◌*◌, ◌<◌, ◌≤◌, List, [], ◌∷◌, length, map, take, get_or, ◌++◌, ◌-◌, Some, None, true, false, ltb, refl, sym, ap, ◌∙◌, subst, arith, add-one}
use Rattle.std.proofs.Math.Path.{fun_ext}
use Rattle.std.specs.Prelude.{slice_get, slice_index_or, replicate}
use Rattle.fx_c_ast.specs.declared.checked.TStruct.{TStruct}
use Rattle.fx_c_ast.specs.declared.checked.TFunction.{TFunction}
use Rattle.fx_c_ast.specs.CheckedTrees.{ty_tree, member_types, struct_types}
use Rattle.fx_c_ast.proofs.Layouts.{types_length, types_at}
use Rattle.std.proofs.lemmas.Bool.{ltb-true, ltb-false}
use Rattle.fx_c_ast.specs.declared.layout.Layout.{Layout}
use Rattle.fx_c_ast.specs.CheckedTrees.{TyTree}
use Rattle.fx_c_ast.specs.Layout.{members_layout, struct_layout, known_layouts, type_layout, round_up}
use Rattle.fx_c_ast.specs.StackUse.{fs}
use Rattle.fx_c_mean_control.specs.Tables.{looked_up}
use Rattle.fx_c_lower_tables.specs.Layers.{layer, layers, all_layouts, frame_by}
use Rattle.fx_c_mean_model.specs.Programs.{Function, no_function, function_of}

-- ---- frames

pub frame_found : (fs : List ℕ) (gs : List Function) (i x : ℕ) → fs ≡ map (λ (f : Function). f.frame) gs → slice_get fs i ≡ Some x → x ≡ (slice_index_or gs i no_function).frame
frame_found fs [] i x e h = let q : slice_get {X = ℕ} [] i ≡ Some x = subst (λ (l : List ℕ). slice_get l i ≡ Some x) e h in cc
frame_found fs (g ∷ gs) zero x e h = let q : slice_get (map (λ (f : Function). f.frame) (g ∷ gs)) 0 ≡ Some x = subst (λ (l : List ℕ). slice_get l 0 ≡ Some x) e h in cc
frame_found fs (g ∷ gs) (suc i) x e h = frame_found (map (λ (f : Function). f.frame) gs) gs i x refl (subst (λ (l : List ℕ). slice_get l (suc i) ≡ Some x) e h)

pub frame_missing : (fs : List ℕ) (gs : List Function) (i : ℕ) → fs ≡ map (λ (f : Function). f.frame) gs → slice_get fs i ≡ None → 0 ≡ (slice_index_or gs i no_function).frame
frame_missing fs [] i e h = refl
frame_missing fs (g ∷ gs) zero e h = let q : slice_get (map (λ (f : Function). f.frame) (g ∷ gs)) 0 ≡ None = subst (λ (l : List ℕ). slice_get l 0 ≡ None) e h in cc
frame_missing fs (g ∷ gs) (suc i) e h = frame_missing (map (λ (f : Function). f.frame) gs) gs i refl (subst (λ (l : List ℕ). slice_get l (suc i) ≡ None) e h)

-- ---- layouts

-- each item of a mapped list, and what stands past its end
at_map : {A B : Type 0} (h : A → B) (xs : List A) (i : ℕ) (d : A) → slice_index_or (map h xs) i (h d) ≡ h (slice_index_or xs i d)
at_map h [] i d = refl
at_map h (x ∷ xs) zero d = refl
at_map h (x ∷ xs) (suc i) d = at_map h xs i d

none_known : (count n : ℕ) → looked_up (replicate count (record { size = 0; align = 1 })) n ≡ record { size = 0; align = 1 }
none_known zero n = refl
none_known (suc count) zero = refl
none_known (suc count) (suc n) = none_known count n

-- after so many rounds the layouts are those in which so many structs stand inside one another
known_after : (all : List (List TyTree)) (k : ℕ) → looked_up (layers all k) ≡ struct_layout all k
unfolding layers struct_layout
known_after all zero = fun_ext (λ n. none_known (length all) n)
known_after all (suc k) = fun_ext (λ n. ap (λ (f : ℕ → Layout). slice_index_or (map (members_layout f) all) n (record { size = 0; align = 1 })) (known_after all k) ∙ at_map (members_layout (struct_layout all k)) all n [])

-- what a table of a program's structs says is known of them
pub tables : (table : List Layout) (all : List (List TyTree)) → table ≡ all_layouts all → looked_up table ≡ known_layouts all
tables table all e = ap looked_up e ∙ known_after all (length all)

-- a round more
pub one_more : (all : List (List TyTree)) (k : ℕ) (table next : List Layout) → table ≡ layers all k → next ≡ layer all table → next ≡ layers all (k + 1)
unfolding layers
one_more all k table next e h = h ∙ ap (layer all) e ∙ ap (layers all) (sym (add-one k))

-- a round that changes nothing is the last
stays : (all : List (List TyTree)) (k : ℕ) → layers all (suc k) ≡ layers all k → (j : ℕ) → layers all (k + j) ≡ layers all k
unfolding layers
stays all k e zero = let n : k + 0 ≡ k = omega arith in ap (layers all) n
stays all k e (suc j) = let n : k + suc j ≡ suc (k + j) = omega arith in ap (layers all) n ∙ ap (layer all) (stays all k e j) ∙ e

pub settled : (all : List (List TyTree)) (k n : ℕ) (table next : List Layout) → table ≡ layers all k → next ≡ layer all table → next ≡ table → k ≤ n → table ≡ layers all n
unfolding layers
settled all k n table next e h same le =
    let fix : layers all (suc k) ≡ layers all k = sym (ap (layer all) e) ∙ sym h ∙ same ∙ e in
    let all_rounds : k + (n - k) ≡ n = omega arith in
    e ∙ sym (stays all k fix (n - k)) ∙ ap (layers all) all_rounds

-- the first round
pub no_rounds : (ss : List TStruct) (table : List Layout) → table ≡ replicate (length ss) (record { size = 0; align = 1 }) → table ≡ layers (struct_types ss) 0
unfolding layers
no_rounds ss table e = e ∙ ap (λ (n : ℕ). replicate n (record { size = 0; align = 1 })) (sym (types_length ss))

-- one struct more
pub types_more : (f : List TyTree → Layout) (ss : List TStruct) (i : ℕ) (s : TStruct) → i < length ss → s ≡ get_or ss i s → map f (struct_types (take (i + 1) ss)) ≡ map f (struct_types (take i ss)) ++ f (member_types s.members) ∷ []
types_more f [] i s l e = absurd (omega arith)
types_more f (x ∷ xs) zero s l e = ap (λ (y : TStruct). f (member_types y.members) ∷ []) (sym e)
types_more f (x ∷ xs) (suc i) s l e =
    let n : suc i + 1 ≡ suc (i + 1) = omega arith in
    ap (λ (n : ℕ). map f (struct_types (take n (x ∷ xs)))) n
    ∙ ap (λ (ys : List Layout). f (member_types x.members) ∷ ys) (types_more f xs i s (omega arith) e)

-- the members of a struct that is there, and of one that is not
pub member_found : (ss : List TStruct) (n : ℕ) (s : TStruct) → true ≡ ltb n (length ss) → s ≡ get_or ss n s → member_types s.members ≡ slice_index_or (struct_types ss) n []
member_found ss n s l e = ap (λ (x : TStruct). member_types x.members) e ∙ sym (types_at ss n s (ltb-true n (length ss) (sym l)))

past_types : (ss : List TStruct) (n : ℕ) → length ss ≤ n → [] ≡ slice_index_or (struct_types ss) n []
past_types [] n l = refl
past_types (x ∷ xs) zero l = absurd (omega arith)
past_types (x ∷ xs) (suc n) l = past_types xs n (omega arith)

pub member_missing : (ss : List TStruct) (n : ℕ) → false ≡ ltb n (length ss) → [] ≡ slice_index_or (struct_types ss) n []
member_missing ss n l = past_types ss n (ltb-false n (length ss) (sym l))

-- ---- stack use

-- the stack use of each function, by a table of the structs' layouts
pub frames_are : (all : List (List TyTree)) (table : List Layout) → table ≡ all_layouts all → (gs : List TFunction) → map (λ (f : TFunction). frame_by (looked_up table) f) gs ≡ map (λ (f : Function). f.frame) (map (function_of all) gs)
frames_are all table e [] = refl
frames_are all table e (g ∷ gs) =
    ap (λ (n : ℕ). n ∷ map (λ (f : TFunction). frame_by (looked_up table) f) gs) (ap (λ (k : ℕ → Layout). frame_by k g) (tables table all e))
    ∙ ap (λ (ns : List ℕ). fs all g ∷ ns) (frames_are all table e gs)
