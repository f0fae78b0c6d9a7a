-- A program of one literal of two bytes and no globals may be placed.
use Rattle.std.proofs.Common.{◌≡◌, ℕ, ◌+◌, ◌<◌, ◌≤◌, ◌^◌, List, [], ◌∷◌, All, length, map, sum, refl, sym, ap, subst, ◌∙◌, arith, lit<}
use Rattle.std.proofs.lemmas.List.{length-map}
use Rattle.fx_config.specs.declared.configuration.Config.{Config}
use Rattle.fx_c_ast.specs.declared.checked.TGlobal.{TGlobal}
use Rattle.fx_c_ast.specs.declared.checked.TStruct.{TStruct}
use Rattle.fx_c_ast.specs.declared.checked.TProgram.{TProgram}
use Rattle.fx_c_ast.specs.CheckedTrees.{ty_tree, struct_types}
use Rattle.fx_c_ast.specs.Layout.{known_layouts, IsSized, StructsAreSized}
use Rattle.fx_grants.specs.declared.grants.Grants.{Grants}
use Rattle.fx_sections.specs.Placement.{IsPlaceable, literal_sizes, initial_total}

no_structs : (ss : List TStruct) → ss ≡ [] → StructsAreSized (struct_types ss)
no_structs ss e = subst (λ xs. StructsAreSized (struct_types xs)) (sym e) (λ n h. absurd (omega arith))

no_globals : (P : TGlobal → Type 0) (gs : List TGlobal) → gs ≡ [] → All P gs
no_globals P gs e = subst (All P) (sym e) (λ k d h. absurd (omega arith))

pub one_literal : (p : TProgram) (g : Grants) (k : Config) → p.structs ≡ [] → p.globals ≡ [] → literal_sizes p ≡ 2 ∷ [] → g.globals ≡ [] → length k.compartments ≡ 1 → IsPlaceable p g k
one_literal p g k structs globals sizes pairs count = record {
  structs = no_structs p.structs structs;
  globals = no_globals (λ (v : TGlobal). IsSized (known_layouts (struct_types p.structs)) (length p.structs) (ty_tree v.ty)) p.globals globals;
  same = ap length pairs ∙ sym (ap length globals);
  compartments = omega arith;
  objects = omega (arith, ap length globals, ap length sizes, length-map p.literals (λ (l : List ℕ). length l));
  texts = rw (sizes, globals) (lit< tt);
}
