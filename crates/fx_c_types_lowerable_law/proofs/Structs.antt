-- Structs of a checked program have bytes.
use Rattle.std.proofs.Common.{◌≡◌, ℕ, List, [], ◌∷◌, Ok, refl, ap, ◌∙◌, subst}
use Rattle.fx_c_ast.specs.declared.checked.TStruct.{TStruct}
use Rattle.fx_c_ast.specs.declared.checked.TProgram.{TProgram}
use Rattle.fx_c_ast.specs.CheckedTrees.{member_types, struct_types}
use Rattle.fx_c_types_rules.specs.Structs as plain
use Rattle.fx_c_types_heads.specs.Heads.{HeadsTree, no_heads}
use Rattle.fx_c_types_heads.proofs.Fields.{types_are}
use Rattle.fx_c_types.specs.declared.program.SourceFile.{SourceFile}
use Rattle.fx_c_types.specs.Programs.{PlacedDecl, ProgramTree, BodiesTree, at_declaration, ◌>>>◌, tags_of, heads_of, no_bodies, bodies_of, main_number, program_of, well_typed}
use Rattle.fx_c_types.specs.ProgramView.{declarations}
use Rattle.fx_c_types.specs.WellTyped.{WellTyped}
use Rattle.fx_c_types_model.specs.Lowerable.{StructsHaveBytes}
use Rattle.fx_c_types_law.proofs.Ends.{Ends, then_ends}
use Rattle.fx_c_types_law.proofs.Heads.{all_types}
use Rattle.fx_c_types_texts_law.specs.Texts.{AreFilesOf}
use Rattle.fx_c_types_texts_law.proofs.Nodes.{any}
use Rattle.fx_c_types_texts_law.proofs.Programs.{AllPlaced, files_written}
use Rattle.fx_c_types_texts_law.proofs.Heads.{structs_some}

abbrev HasBytes : ProgramTree → Type 0
HasBytes p = StructsHaveBytes (all_types p.structs)

program_bytes : (ds : List PlacedDecl) → AllPlaced ds → Ends HasBytes (well_typed ds)
program_bytes ds w =
    let none : HeadsTree = no_heads (tags_of [] ds) in
    then_ends (λ (h : HeadsTree). StructsHaveBytes (all_types h.structs)) HasBytes (heads_of 0 none ds) (λ h. bodies_of 0 h no_bodies ds >>> (λ b. at_declaration 0 (main_number h) >>> (λ main. Ok (program_of h b main)))) (structs_some ds w) (λ h some.
    then_ends (λ (b : BodiesTree). Unit {0}) HasBytes (bodies_of 0 h no_bodies ds) (λ b. at_declaration 0 (main_number h) >>> (λ main. Ok (program_of h b main))) (any (bodies_of 0 h no_bodies ds)) (λ b _.
    then_ends (λ (n : ℕ). Unit {0}) HasBytes (at_declaration 0 (main_number h)) (λ main. Ok (program_of h b main)) (any (at_declaration 0 (main_number h))) (λ m _. some)))

types_same : (ss : List TStruct) → all_types (plain.struct_trees ss) ≡ struct_types ss
types_same [] = refl
types_same (s ∷ ss) = ap (λ ts. ts ∷ all_types (plain.struct_trees ss)) (types_are s.members) ∙ ap (λ tss. member_types s.members ∷ tss) (types_same ss)

pub structs_bytes : (texts : List (List ℕ)) (files : List SourceFile) (p : TProgram) → AreFilesOf texts files → WellTyped files p → StructsHaveBytes (struct_types p.structs)
structs_bytes texts files p are is =
    subst StructsHaveBytes (types_same p.structs) (subst (λ r. Ends HasBytes r) is (program_bytes (declarations files) (files_written texts files are)))
