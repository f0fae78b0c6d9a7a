-- What is loaded and granted has what its image asks of it.
use Rattle.std.proofs.Common.{◌≡◌, ◌≤◌, ℕ, ◌+◌, Bool, true, false, ◌==◌, if◌then◌else◌, List, []}
use Rattle.std.proofs.Common.{◌∷◌, length, length-take, take, Option, Ok, arith}
use Rattle.std.specs.Prelude.{All, nat_le}
use Rattle.std.specs.Int.{w64, to_le_bytes}
use Rattle.std.proofs.Math.Nat.{min-le_left}
use Rattle.std.proofs.lemmas.Bool.{and_from, leb-true, le-leb}
use Rattle.std.proofs.lemmas.List.Elements.{All-weaker}
use Rattle.fx_base.specs.Files.{Held}
use Rattle.fx_config.specs.declared.configuration.Config.{Config}
use Rattle.fx_config.specs.declared.configuration.Mechanism.{Mechanism}
use Rattle.fx_config.specs.declared.configuration.Mechanism.TheVariants.{Call, Light, Full, Ept}
use Rattle.fx_config.specs.Reading.{compartment_limit}
use Rattle.fx_config_law.specs.Laws.{HasBounds}
use Rattle.fx_config_law.proofs.Configurations.{read_bounds}
use Rattle.fx_c_ast.specs.declared.layout.Layout.{Layout}
use Rattle.fx_c_ast.specs.declared.operator.IntType.TheVariants.{Char}
use Rattle.fx_c_ast.specs.declared.parsed.Init.{Init}
use Rattle.fx_c_ast.specs.declared.parsed.Init.TheVariants.{Zero, Number, Text}
use Rattle.fx_c_ast.specs.declared.checked.TGlobal.{TGlobal}
use Rattle.fx_c_ast.specs.declared.checked.TProgram.{TProgram}
use Rattle.fx_c_ast.specs.CheckedTrees.{TyTree, IntTy, ArrayTy, ty_tree, struct_types}
use Rattle.fx_c_ast.specs.Layout.{type_layout, known_layouts, IsSized}
use Rattle.fx_grants.specs.declared.grants.Grants.{Grants}
use Rattle.fx_grants.specs.Refusals.{resolved}
use Rattle.fx_sections.specs.Initials.{before_used, used_bytes, initial_bytes}
use Rattle.fx_image.specs.Rules.{is_count}
use Rattle.fx_c_types_heads.specs.Heads.{is_initial}
use Rattle.fx_c_types.specs.declared.program.SourceFile.{SourceFile}
use Rattle.fx_c_types.specs.ProgramView.{declarations}
use Rattle.fx_c_types.specs.WellTyped.{WellTyped}
use Rattle.fx_c_types_law.proofs.Facts.{accepted_is, initialised}
use Rattle.fx_c_types_texts_law.specs.Texts.{AreFilesOf}
use Rattle.fx_linker.specs.Data.{mechanism_number}
use Rattle.fx_linker_law.specs.Premises.{IsSound, HasInitial, IsGiven}
use Rattle.fx_cmd_load.specs.declared.parsing.ParsedFile.{ParsedFile}
use Rattle.fx_cmd_load.specs.Named.{Named, from_library}
use Rattle.fx_cmd_load.specs.Parsing.{AreParsed}
use Rattle.fx_cmd_load.specs.Loading.{HasFewParts}
use Rattle.fx_cmd_load.specs.Programs.{sources_of, IsProgramOf}
use Rattle.fx_cmd_place.proofs.Granted.{placeable}
use Rattle.fx_cmd_place.proofs.Ready.{ready}
use Rattle.fx_given_law.specs.Laws.{HasFunctionNames, HasNames}
use Rattle.fx_given_law.proofs.Pairs.{granted_pairs}
use Rattle.fx_given_law.proofs.Names.{written_names}

-- ---- the configuration

counted : (m : Mechanism) (n : ℕ) → 1 ≤ n → n ≤ compartment_limit m
    → is_count (mechanism_number m) n ≡ true
counted Call n some few = and_from (nat_le 1 n) (nat_le n 8) (le-leb 1 n some) (le-leb n 8 few)
counted Light n some few = and_from (nat_le 1 n) (nat_le n 8) (le-leb 1 n some) (le-leb n 8 few)
counted Full n some few = and_from (nat_le 1 n) (nat_le n 8) (le-leb 1 n some) (le-leb n 8 few)
counted Ept n some few = and_from (nat_le 1 n) (nat_le n 16) (le-leb 1 n some) (le-leb n 16 few)

sound : (k : Config) → HasBounds k → IsSound k
sound k has = record {
  count = counted k.mechanism (length k.compartments) has.some has.few;
  least = has.least;
  most = has.most;
  scheduler = has.scheduler;
  names = has.names;
  distinct = has.distinct;
}

-- ---- initial bytes

before_used-le : (b : ℕ) (bs : List ℕ) → length (before_used b bs) ≤ length bs + 1
before_used-le b [] = elim (b == 0) as (λ (t : Bool). length (if t then [] else b ∷ []) ≤ 0 + 1)
    [ true ↦ omega arith | false ↦ omega arith ]
before_used-le b (c ∷ cs) = omega arith

used_bytes-le : (bs : List ℕ) → length (used_bytes bs) ≤ length bs
used_bytes-le [] = omega arith
used_bytes-le (b ∷ bs) = omega (arith, before_used-le b (used_bytes bs), used_bytes-le bs)

-- the initial bytes of a value are no more than its type has
initial_fits : (f : ℕ → Layout) (t : TyTree) (init : Init) → is_initial t init ≡ true
    → length (initial_bytes (type_layout f t).size init) ≤ (type_layout f t).size
initial_fits f t Zero is = omega arith
initial_fits f t (Number n) is =
    let size : ℕ = (type_layout f t).size in
    let cut : length (take size (to_le_bytes w64 n)) ≤ size =
    simp length-take (min-le_left size (length (to_le_bytes w64 n))) in
    omega (arith, used_bytes-le (take size (to_le_bytes w64 n)), cut)
initial_fits f (ArrayTy (IntTy Char) count) (Text bytes) is =
    let fits : length bytes + 1 ≤ count = leb-true (length bytes + 1) count is in
    omega (arith, used_bytes-le bytes, fits)
initial_fits f t (Text bytes) is = cc

initials_fit : (files : List SourceFile) (p : TProgram) → WellTyped files p
    → All (HasInitial (struct_types p.structs)) p.globals
initials_fit files p is =
    let f : ℕ → Layout = known_layouts (struct_types p.structs) in
    All-weaker
    (λ (v : TGlobal). IsSized f (length p.structs) (ty_tree v.ty)
    × (is_initial (ty_tree v.ty) v.init ≡ true))
    (HasInitial (struct_types p.structs))
    (λ v has. initial_fits f (ty_tree v.ty) v.init has.1) p.globals
    (initialised p (length (declarations files)) (accepted_is files p is))

-- ---- all of them

files_are : (ns : List Named) (ts : List (List ℕ)) (fs : List ParsedFile) → AreParsed ns ts fs
    → AreFilesOf ts (sources_of fs)
files_are [] [] [] parsed = tt
files_are [] [] (f ∷ fs) parsed = absurd parsed
files_are [] (t ∷ ts) fs parsed = absurd parsed
files_are (n ∷ ns) [] fs parsed = absurd parsed
files_are (n ∷ ns) (t ∷ ts) [] parsed = absurd parsed
files_are (n ∷ ns) (t ∷ ts) (f ∷ fs) parsed = (parsed.1, files_are ns ts fs parsed.2)

pub configured_given : (name : List ℕ) (held : Option Held) (p : TProgram) (g : Grants) (k : Config)
    → IsProgramOf name held k p → HasFewParts k → resolved p k ≡ Ok g
    → IsGiven p g k × HasFunctionNames p
configured_given name held p g k program few granted =
    let configured = program.1.0 in
    let given = program.1.1 in
    let bounds : HasBounds k = read_bounds configured.0 k configured.3 in
    let files : List SourceFile = sources_of program.0 in
    let are : AreFilesOf given.0 files =
    files_are (from_library 0 k.libraries) given.0 program.0 given.2 in
    let names : HasNames p = written_names given.0 files p are program.2 in (
      record {
        configuration = sound k bounds;
        globals = record {
          names = names.globals;
          distinct = names.distinct;
          initials = initials_fit files p program.2;
        };
        grants = granted_pairs p k g (omega (arith, bounds.some)) granted;
        placeable = placeable p k g (ready name held k p program few) granted;
      },
      names.functions,
    )
