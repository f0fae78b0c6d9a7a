-- Each device of a program is there: no more of types is asked than nothing.
use Rattle.std.proofs.Common.{◌≡◌, ℕ, List, [], ◌∷◌, Result, Ok, Err, refl}
use Rattle.std.specs.Prelude.{All}
use Rattle.fx_c_ast.specs.declared.checked.TFunction.{TFunction}
use Rattle.fx_c_ast.specs.declared.checked.TProgram.{TProgram}
use Rattle.fx_c_ast.specs.ParsedTrees.{TypeTree}
use Rattle.fx_c_ast.specs.CheckedTrees.{TyTree, tstmt_trees}
use Rattle.fx_c_types_rules.specs.declared.fault.TypeKind.TheVariants.{UnknownType, TooLarge}
use Rattle.fx_c_types_rules.specs.Checks.{Checked, demand}
use Rattle.fx_c_types_rules.specs.Structs as plain
use Rattle.fx_c_types_rules.specs.Locals.{LocalTree}
use Rattle.fx_c_types_heads.specs.Written.{ty_of, is_object}
use Rattle.fx_c_types_heads.specs.Sizes.{is_small}
use Rattle.fx_c_types_heads.specs.Heads.{HeadsTree, GlobalHead, FunctionHead, no_heads, object_type}
use Rattle.fx_c_types.specs.declared.fault.TypeError.{TypeError}
use Rattle.fx_c_types.specs.declared.program.SourceFile.{SourceFile}
use Rattle.fx_c_types.specs.Programs.{PlacedDecl, tags_of, heads_of}
use Rattle.fx_c_types.specs.ProgramView.{declarations}
use Rattle.fx_c_types.specs.WellTyped.{WellTyped}
use Rattle.fx_c_types_law.proofs.Ends.{Ends, demand_ends}
use Rattle.fx_c_types_model.specs.Each.{EachInAll}
use Rattle.fx_c_types_model.specs.Fits.{DeviceFits}
use Rattle.fx_c_types_texts_law.specs.Texts.{AreFilesOf}
use Rattle.fx_c_types_texts_law.proofs.Nodes.{Good, AllLocals, AllGlobals, AllMembers, AllStructs, AllFunctions}
use Rattle.fx_c_types_texts_law.proofs.Programs.{struct_count, files_written, KnowsHeads, functions_good}
use Rattle.fx_c_types_texts_law.proofs.Weaker.{each_in_all}

abbrev Free : TyTree → Type 0
Free t = Unit {0}

locals_free : (ls : List LocalTree) → AllLocals Free ls
locals_free [] = tt
locals_free (l ∷ ls) = (tt, locals_free ls)

globals_free : (gs : List GlobalHead) → AllGlobals Free gs
globals_free [] = tt
globals_free (g ∷ gs) = (tt, globals_free gs)

members_free : (ms : List plain.MemberTree) → AllMembers Free ms
members_free [] = tt
members_free (m ∷ ms) = (tt, members_free ms)

structs_free : (ss : List plain.StructTree) → AllStructs Free ss
structs_free [] = tt
structs_free (s ∷ ss) = (members_free s.members, structs_free ss)

functions_free : (fs : List FunctionHead) → AllFunctions Free fs
functions_free [] = tt
functions_free (f ∷ fs) = ((tt, locals_free f.params), functions_free fs)

object_free : (h : HeadsTree) (n : ℕ) (t : TypeTree) → Ends (λ ty. (ty ≡ ty_of h.tags t) × Free ty) (object_type h n t)
object_free h n t =
    let Q : TyTree → Type 0 = λ ty. (ty ≡ ty_of h.tags t) × Free ty in
    let last : Checked TyTree = Ok (ty_of h.tags t) in
    demand_ends Q (is_object h.tags n t) UnknownType (demand (is_small h.layouts (ty_of h.tags t)) TooLarge last) (λ _.
    demand_ends Q (is_small h.layouts (ty_of h.tags t)) TooLarge last (λ _. (refl, tt)))

heads_free : (bound : ℕ) (h : HeadsTree) → KnowsHeads Free Free bound h
heads_free bound h = record {
  closed = record { number = λ i. tt; nothing = tt; address = λ t is. tt; behind = λ t is. tt; item = λ t count is. tt; text = λ n less. tt };
  has_size = λ n t within is whole. tt;
  bare = λ t is. tt;
  object = λ n t within is. object_free h n t;
  globals = globals_free h.globals;
  structs = structs_free h.structs;
  functions = functions_free h.functions;
}

any_heads : (bound : ℕ) (r : Result HeadsTree TypeError) → Ends (λ (h : HeadsTree). KnowsHeads Free Free bound h) r
any_heads bound (Ok h) = heads_free bound h
any_heads bound (Err e) = tt

pub devices_fit : (texts : List (List ℕ)) (files : List SourceFile) (p : TProgram) → AreFilesOf texts files → WellTyped files p → All (λ (f : TFunction). EachInAll DeviceFits (tstmt_trees f.body.items)) p.functions
devices_fit texts files p are is =
    let ds : List PlacedDecl = declarations files in
    functions_good (λ ss. Free) (λ ss. Free) DeviceFits files p is (files_written texts files are)
    (any_heads (struct_count ds) (heads_of 0 (no_heads (tags_of [] ds)) ds))
    (each_in_all (Good Free Free) DeviceFits (λ e has. has.2))
