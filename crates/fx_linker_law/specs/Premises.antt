-- What a configuration that was read, and what parts that are built, have beside what the linker
-- asks.
use Rattle.std.specs.Prelude.{◌≡◌, ℕ, ◌*◌, ◌<◌, ◌≤◌, ◌==◌, ◌^◌, Bool, not, ◌&&◌, nat_eq, bit_and}
use Rattle.std.specs.Prelude.{if◌then◌else◌, IsTrue, List, [], ◌∷◌, All, length, map, slice_index}
use Rattle.std.specs.Prelude.{slice_index_or, Option, None, Some}
use Rattle.std.specs.List.{list_all, starts_with}
use Rattle.std.specs.Str.{bytes_eq}
use Rattle.fx_config.specs.declared.configuration.Config.{Config}
use Rattle.fx_config.specs.declared.configuration.Compartment.{Compartment}
use Rattle.fx_config.specs.Names.{is_c_name, all_differ}
use Rattle.fx_c_ast.specs.declared.checked.TProgram.{TProgram}
use Rattle.fx_c_ast.specs.declared.checked.TGlobal.{TGlobal}
use Rattle.fx_c_ast.specs.CheckedTrees.{TyTree, struct_types}
use Rattle.fx_grants.specs.declared.grants.Pair.{Pair}
use Rattle.fx_grants.specs.declared.grants.Grants.{Grants}
use Rattle.fx_sections.specs.Placement.{IsPlaceable, global_size}
use Rattle.fx_sections.specs.Initials.{initial_bytes}
use Rattle.fx_x64_forms.specs.declared.piece.Piece.{Piece}
use Rattle.fx_x64_forms.specs.declared.piece.Target.{Target}
use Rattle.fx_x64_forms.specs.declared.piece.Target.TheVariants.{Label, Function, Stub, Abort}
use Rattle.fx_x64_forms.specs.declared.piece.Target.TheVariants.{Idle, Switch}
use Rattle.fx_x64_code.specs.Spelling.{spelling}
use Rattle.fx_image.specs.declared.forms.EntryRec.{EntryRec}
use Rattle.fx_image.specs.Rules.{is_count, are_counted, unlisted_from, has_none}
use Rattle.fx_image.specs.Rules as image
use Rattle.fx_linker.specs.declared.parts.Parts.{Parts}
use Rattle.fx_linker.specs.Data.{mechanism_number}
use Rattle.fx_linker.specs.Places.{pieces_size}
use Rattle.fx_linker.specs.Linked.{home_of, parts_layout, outer_reach}

-- A configuration: from 1 to 8 compartments, under ept to 16, of different names, one of which is
-- the scheduler's; stacks of 1 to 64 pages.
pub record IsSound (k : Config) : Type 0 where
  pub count : IsTrue (is_count (mechanism_number k.mechanism) (length k.compartments))
  pub least : 1 ≤ k.stack_pages
  pub most : k.stack_pages ≤ 64
  pub scheduler : k.scheduler < length k.compartments
  pub names : IsTrue (list_all (λ (c : Compartment). is_c_name c.name) k.compartments)
  pub distinct : IsTrue (all_differ bytes_eq (map (λ (c : Compartment). c.name) k.compartments))

-- Parts with a range for each compartment, whose `main` is in one of them, and whose runtime's
-- places are numbers of its pieces. There is one start, and under ept one for each compartment.
pub record IsMade (parts : Parts) (p : TProgram) (k : Config) : Type 0 where
  pub ranges : length parts.ranges ≡ length k.compartments
  pub home : home_of parts p < length k.compartments
  pub abort : parts.map.abort < length parts.runtime
  pub starts : All (λ (piece : ℕ). piece < length parts.runtime) parts.map.starts
  pub vcpus : length parts.map.starts
      ≡ (if mechanism_number k.mechanism == 3 then length k.compartments else 1)

-- parts whose code has no more bytes than an image may have
abbrev pub IsShort : Parts → Type 0
IsShort parts = (parts_layout parts).size ≤ 1048576

-- pairs of a set of readers of these compartments with a set of writers inside it that isn't empty
abbrev pub ArePairs : ℕ → List Pair → Type 0
ArePairs n pairs =
    All (λ (q : Pair). (0 < q.writers) × (bit_and q.writers q.readers ≡ q.writers)
    × (q.readers < 2 ^ n)) pairs

-- ---- sequences

-- Bytes in which WRPKRU's don't stand, and which don't go on with the rest of them: they begin
-- neither with 01 EF nor with EF.
abbrev pub is_quiet : List ℕ → Bool
is_quiet bytes =
    has_none (unlisted_from [] 0 bytes)
    && not (starts_with nat_eq bytes (0x01 ∷ 0xef ∷ []))
    && not (starts_with nat_eq bytes (0xef ∷ []))

abbrev pub AreQuiet : List Piece → Type 0
AreQuiet pieces = All (λ (q : Piece). IsTrue (is_quiet (spelling q.inst))) pieces

-- where these are the places of functions, a function that is led to stands in so many bytes
abbrev pub LeadsInto : (functions : List ℕ) → (size : ℕ) → Option Target → Type 0
LeadsInto functions size None = Unit {0}
LeadsInto functions size (Some (Label k)) = Unit {0}
LeadsInto functions size (Some (Function f)) = slice_index functions f ≤ size
LeadsInto functions size (Some (Stub n)) = Unit {0}
LeadsInto functions size (Some Abort) = Unit {0}
LeadsInto functions size (Some Idle) = Unit {0}
LeadsInto functions size (Some Switch) = Unit {0}

-- Parts whose instructions spell no WRPKRU, alone or behind another, and whose runtime leads to
-- functions by jumps of entry tables that are in the code.
pub record HasNoKeys (parts : Parts) (p : TProgram) : Type 0 where
  pub ranges : All AreQuiet parts.ranges
  pub runtime : AreQuiet parts.runtime
  pub inside : All (λ (q : Piece). LeadsInto (outer_reach parts p (parts_layout parts)).functions
      (parts_layout parts).size q.target) parts.runtime

-- ---- entries

-- An entry of one of n compartments with these ranges: it has a C name, room for its jump in its
-- compartment's range, and callers among the compartments.
abbrev pub IsEntryOf : List (List Piece) → ℕ → EntryRec → Type 0
IsEntryOf ranges n e =
    IsTrue (image.is_c_name e.name) × (e.compartment < length ranges)
    × (16 * e.number < pieces_size (slice_index_or ranges e.compartment []))
    × (e.callers < 2 ^ n)

-- Entries by compartment, and each compartment's numbers from 0 without a gap.
pub record HasEntries (parts : Parts) (k : Config) : Type 0 where
  pub few : length parts.entries < 2 ^ 16
  pub each : All (IsEntryOf parts.ranges (length k.compartments)) parts.entries
  pub counted : IsTrue (are_counted 0 0 parts.entries)

-- ---- objects

-- the initial bytes of a global are no more than it has
abbrev pub HasInitial : List (List TyTree) → TGlobal → Type 0
HasInitial structs v = length (initial_bytes (global_size structs v) v.init) ≤ global_size structs v

-- A program whose globals have different C names, and initial bytes that fit.
pub record HasGlobals (p : TProgram) : Type 0 where
  pub names : All (λ (v : TGlobal). IsTrue (image.is_c_name v.name)) p.globals
  pub distinct : IsTrue (image.is_distinct_by (λ (a b : TGlobal). bytes_eq a.name b.name) p.globals)
  pub initials : All (HasInitial (struct_types p.structs)) p.globals

-- the initial bytes of each compartment's table are no more than the 4,096 that it has
abbrev pub HasTables : Parts → Type 0
HasTables parts = All (λ (bytes : List ℕ). length bytes ≤ 4096) parts.map.initials

-- ---- all of them

-- What an image asks of a program, its grants and its configuration.
pub record IsGiven (p : TProgram) (g : Grants) (k : Config) : Type 0 where
  pub configuration : IsSound k
  pub globals : HasGlobals p
  pub grants : ArePairs (length k.compartments) g.globals
  pub placeable : IsPlaceable p g k

-- What an image of one rights domain asks of its parts: there are no stubs.
pub record IsBuilt (parts : Parts) (p : TProgram) (k : Config) : Type 0 where
  pub made : IsMade parts p k
  pub keys : HasNoKeys parts p
  pub entries : HasEntries parts k
  pub tables : HasTables parts
  pub stubs : parts.map.stubs ≡ []
