-- Why and where a program is refused.
use Rattle.std.specs.Prelude.{◌≡◌, ℕ, List, [], ◌∷◌, ◌++◌, length, Some, Err}
use Rattle.fx_c_types_rules.specs.declared.fault.TypeKind.{TypeKind}
use Rattle.fx_c_types_rules.specs.declared.fault.TypeKind.TheVariants.{NoMain}
use Rattle.fx_c_types_rules.specs.declared.fault.Fault.TheVariants.{Rule}
use Rattle.fx_c_types_heads.specs.Heads.{HeadsTree, no_heads}
use Rattle.fx_c_types.specs.Programs.{PlacedDecl, BodiesTree, tags_of, no_bodies, body_of}
use Rattle.fx_c_types_rules_law.specs.WholePrograms.{AreHeads, AreBodies, IsMain}
use Rattle.fx_c_types_refusals_law.specs.Kinds.{kinds, first_broken}
use Rattle.fx_c_types_refusals_law.specs.Heads.{breaks_head}

pub data IsRefused : List PlacedDecl → TypeKind → ℕ → Type 0 where
  -- the heads before it keep all rules, and this is the first that it breaks; no body is tried
  head_refused : {ds : List PlacedDecl} {h : HeadsTree} {kind : TypeKind} (before : List PlacedDecl) (d : PlacedDecl) (after : List PlacedDecl) → ds ≡ before ++ d ∷ after
      → AreHeads (no_heads (tags_of [] ds)) before h → first_broken (breaks_head h d.decl) kinds ≡ Some kind
      → IsRefused ds kind (length before)
  -- all heads keep all rules, and so do the bodies before it
  body_refused : {ds : List PlacedDecl} {h : HeadsTree} {b : BodiesTree} {kind : TypeKind} (before : List PlacedDecl) (d : PlacedDecl) (after : List PlacedDecl) → ds ≡ before ++ d ∷ after
      → AreHeads (no_heads (tags_of [] ds)) ds h → AreBodies h no_bodies before b → body_of h b d.decl ≡ Err (Rule kind)
      → IsRefused ds kind (length before)
  -- all heads and bodies keep all rules, but there is no function that the program begins with
  main_missing : {ds : List PlacedDecl} {h : HeadsTree} {b : BodiesTree}
      → AreHeads (no_heads (tags_of [] ds)) ds h → AreBodies h no_bodies ds b → ((n : ℕ) → IsMain h n → ⊥)
      → IsRefused ds NoMain 0
