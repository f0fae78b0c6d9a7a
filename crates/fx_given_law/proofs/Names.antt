-- The names in a program whose files are the trees of texts.
use Rattle.std.proofs.Common.{◌≡◌, ℕ, Bool, true, ◌&&◌, ◌||◌, not, List, [], ◌∷◌, refl, sym, ap}
use Rattle.std.proofs.Common.{◌∙◌, subst}
use Rattle.std.specs.Prelude.{All}
use Rattle.std.specs.List.{list_any}
use Rattle.std.specs.Str.{bytes_eq}
use Rattle.std.proofs.lemmas.List.Elements.{All-nil, All-cons, All-head, All-tail}
use Rattle.fx_c_ast.specs.declared.checked.TGlobal.{TGlobal}
use Rattle.fx_c_ast.specs.declared.checked.TFunction.{TFunction}
use Rattle.fx_c_ast.specs.declared.checked.TProgram.{TProgram}
use Rattle.fx_image.specs.Rules as image
use Rattle.fx_c_types_heads.specs.Heads.{GlobalHead}
use Rattle.fx_c_types_heads.specs.HeadsView.{global_tree, global_heads}
use Rattle.fx_c_types.specs.declared.program.SourceFile.{SourceFile}
use Rattle.fx_c_types.specs.ProgramView.{declarations, function_tree, function_trees, program_tree}
use Rattle.fx_c_types.specs.WellTyped.{WellTyped}
use Rattle.fx_c_types_law.proofs.Ends.{Ends}
use Rattle.fx_c_types_texts_law.specs.Texts.{AreFilesOf}
use Rattle.fx_given_law.specs.Laws.{HasNames}
use Rattle.fx_given_law.proofs.Words.{files_named}
use Rattle.fx_given_law.proofs.Heads.{same_name, FunctionNamed, IsNamedTree, tree_named}

abbrev GlobalNamed : GlobalHead → Type 0
GlobalNamed g = image.is_c_name g.name ≡ true

globals_all : (gs : List TGlobal) → All GlobalNamed (global_heads gs)
    → All (λ g. GlobalNamed (global_tree g)) gs
globals_all [] all = All-nil (λ g. GlobalNamed (global_tree g))
globals_all (g ∷ gs) all =
    All-cons (λ g. GlobalNamed (global_tree g)) g gs
    (All-head GlobalNamed (global_tree g) (global_heads gs) all)
    (globals_all gs (All-tail GlobalNamed (global_tree g) (global_heads gs) all))

functions_all : (fs : List TFunction) → All FunctionNamed (function_trees fs)
    → All (λ f. FunctionNamed (function_tree f)) fs
functions_all [] all = All-nil (λ f. FunctionNamed (function_tree f))
functions_all (f ∷ fs) all =
    All-cons (λ f. FunctionNamed (function_tree f)) f fs
    (All-head FunctionNamed (function_tree f) (function_trees fs) all)
    (functions_all fs (All-tail FunctionNamed (function_tree f) (function_trees fs) all))

abbrev same : TGlobal → TGlobal → Bool
same a b = bytes_eq a.name b.name

any_same : (x : TGlobal) (gs : List TGlobal)
    → list_any (same_name (global_tree x)) (global_heads gs) ≡ list_any (same x) gs
any_same x [] = refl
any_same x (g ∷ gs) = ap (λ b. same x g || b) (any_same x gs)

distinct_same : (gs : List TGlobal)
    → image.is_distinct_by same_name (global_heads gs) ≡ image.is_distinct_by same gs
distinct_same [] = refl
distinct_same (g ∷ gs) =
    ap (λ b. not b && image.is_distinct_by same_name (global_heads gs)) (any_same g gs)
    ∙ ap (λ b. not (list_any (same g) gs) && b) (distinct_same gs)

pub written_names : (texts : List (List ℕ)) (files : List SourceFile) (p : TProgram)
    → AreFilesOf texts files → WellTyped files p → HasNames p
written_names texts files p are is =
    let tree : IsNamedTree (program_tree p) =
    subst (Ends IsNamedTree) is (tree_named (declarations files) (files_named texts files are)) in
    record {
      globals = globals_all p.globals tree.globals;
      distinct = sym (distinct_same p.globals) ∙ tree.distinct;
      functions = functions_all p.functions tree.functions;
    }
