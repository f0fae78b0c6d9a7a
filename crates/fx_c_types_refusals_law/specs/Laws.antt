-- What the checker refuses, and for which rule.
use Rattle.std.specs.Prelude.{◌≡◌, ◌↔◌, ℕ, List, Some, slice_get}
use Rattle.fx_c_ast.specs.ParsedTrees.{DeclTree}
use Rattle.fx_c_types_rules.specs.declared.fault.TypeKind.{TypeKind}
use Rattle.fx_c_types_heads.specs.Heads.{HeadsTree, head}
use Rattle.fx_c_types.specs.declared.program.SourceFile.{SourceFile}
use Rattle.fx_c_types.specs.Programs.{ProgramTree}
use Rattle.fx_c_types.specs.ProgramView.{declarations}
use Rattle.fx_c_types.specs.WellTyped.{BreaksRule}
use Rattle.fx_c_types_rules_law.specs.WholePrograms.{MeansProgram}
use Rattle.fx_c_types_refusals_law.specs.Kinds.{kinds, first_broken, IsRefusedFor}
use Rattle.fx_c_types_refusals_law.specs.Heads.{breaks_head}
use Rattle.fx_c_types_refusals_law.specs.Refused.{IsRefused}

-- each kind has a place in the table, and one alone
abbrev pub KindsAreListed : Type 0
KindsAreListed = (kind : TypeKind) → (n : ℕ) × (slice_get kinds n ≡ Some kind) × ((m : ℕ) → slice_get kinds m ≡ Some kind → m ≡ n)

-- a head is refused for the first rule of the table that it breaks, and passes where it breaks none
abbrev pub HeadsAreRefused : Type 0
HeadsAreRefused = (h : HeadsTree) (library : ℕ) (d : DeclTree) → IsRefusedFor (head h library d) (first_broken (breaks_head h d) kinds)

-- files break a rule first in a declaration exactly where what stands before it keeps all rules and it breaks that one
abbrev pub ProgramsAreRefused : Type 0
ProgramsAreRefused = (files : List SourceFile) (kind : TypeKind) (n : ℕ) → IsRefused (declarations files) kind n ↔ BreaksRule files kind n

-- files break some rule exactly where they mean no program
abbrev pub RefusedWhereNoneIsMeant : Type 0
RefusedWhereNoneIsMeant = (files : List SourceFile) → ((kind : TypeKind) × (n : ℕ) × BreaksRule files kind n) ↔ ((p : ProgramTree) → MeansProgram (declarations files) p → ⊥)
