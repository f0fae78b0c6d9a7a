-- Elements that are counted have a size, in a program whose files are the trees of texts.
use Rattle.std.proofs.Common.{◌≡◌, ℕ, List, [], ◌∷◌, refl, ap, ◌∙◌, subst}
use Rattle.std.specs.Prelude.{All}
use Rattle.fx_c_ast.specs.declared.checked.TStruct.{TStruct}
use Rattle.fx_c_ast.specs.declared.checked.TFunction.{TFunction}
use Rattle.fx_c_ast.specs.declared.checked.TProgram.{TProgram}
use Rattle.fx_c_ast.specs.CheckedTrees.{TyTree, tstmt_trees, member_types, struct_types}
use Rattle.fx_c_ast.specs.Layout.{known_layouts}
use Rattle.fx_c_types_rules.specs.Structs as plain
use Rattle.fx_c_types_heads.proofs.Fields.{types_are}
use Rattle.fx_c_types.specs.declared.program.SourceFile.{SourceFile}
use Rattle.fx_c_types.specs.ProgramView.{declarations}
use Rattle.fx_c_types.specs.WellTyped.{WellTyped}
use Rattle.fx_c_types_law.proofs.Heads.{all_types}
use Rattle.fx_c_types_model.specs.Each.{EachInAll}
use Rattle.fx_c_types_model.specs.Fits.{Elements, HasElementSize, ElementFits}
use Rattle.fx_c_types_texts_law.specs.Texts.{AreFilesOf}
use Rattle.fx_c_types_texts_law.proofs.Nodes.{Good}
use Rattle.fx_c_types_texts_law.proofs.Programs.{AllPlaced, files_written, functions_good}
use Rattle.fx_c_types_texts_law.proofs.Weaker.{each_in_all}
use Rattle.fx_c_types_texts_law.proofs.Sizes.{IsMeasured}
use Rattle.fx_c_types_texts_law.proofs.Heads.{written_heads}

types_same : (ss : List TStruct) → all_types (plain.struct_trees ss) ≡ struct_types ss
types_same [] = refl
types_same (s ∷ ss) = ap (λ ts. ts ∷ all_types (plain.struct_trees ss)) (types_are s.members) ∙ ap (λ tss. member_types s.members ∷ tss) (types_same ss)

pub elements_fit : (texts : List (List ℕ)) (files : List SourceFile) (p : TProgram) → AreFilesOf texts files → WellTyped files p → All (λ (f : TFunction). EachInAll (ElementFits (struct_types p.structs)) (tstmt_trees f.body.items)) p.functions
elements_fit texts files p are is =
    let w : AllPlaced (declarations files) = files_written texts files are in
    let tss : List (List TyTree) = all_types (plain.struct_trees p.structs) in
    functions_good (λ ss. IsMeasured (known_layouts (all_types ss))) (λ ss. HasElementSize (all_types ss)) (ElementFits (struct_types p.structs)) files p is w (written_heads (declarations files) w)
    (each_in_all (Good (IsMeasured (known_layouts tss)) (HasElementSize tss)) (ElementFits (struct_types p.structs)) (λ e has. subst (λ (tss : List (List TyTree)). Elements (HasElementSize tss) e) (types_same p.structs) has.1))
