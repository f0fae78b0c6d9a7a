-- Each member of a struct takes a word of its text, and each word a byte.
use Rattle.std.proofs.Common.{◌≡◌, ℕ, suc, ◌+◌, ◌<◌, ◌≤◌, Bool, ◌&&◌, not, nat_le, List, [], ◌∷◌, ◌++◌, length, Ok, refl, ap, arith, subst}
use Rattle.std.specs.Prelude.{All}
use Rattle.std.proofs.lemmas.List.{length_push}
use Rattle.std.proofs.lemmas.List.Elements.{All-nil, All-cons}
use Rattle.fx_c_ast.specs.declared.checked.TMember.{TMember}
use Rattle.fx_c_ast.specs.declared.checked.TStruct.{TStruct}
use Rattle.fx_c_ast.specs.declared.checked.TProgram.{TProgram}
use Rattle.fx_c_ast.specs.declared.layout.Layout.{Layout}
use Rattle.fx_c_ast.specs.declared.parsed.Decl.{Decl}
use Rattle.fx_c_ast.specs.declared.parsed.Grant.{Grant}
use Rattle.fx_c_ast.specs.declared.parsed.Init.{Init}
use Rattle.fx_c_ast.specs.ParsedTrees.{TypeTree, ParamTree, DeclTree, StructTree, GlobalTree, FunctionTree, decl_trees}
use Rattle.fx_c_ast.specs.CheckedTrees.{TyTree}
use Rattle.fx_c_lex.specs.declared.keyword.TheConstants.{SHARED, READ}
use Rattle.fx_c_parse.specs.Words.{Word, words}
use Rattle.fx_c_parse.specs.Phrases.{IsDeclarator, declarator, IsShared, unshared, shared}
use Rattle.fx_c_parse.specs.Units.{IsList, no_item, next_item, IsMember, struct_member, IsNextName, next_name, IsGrant, no_grant, grant_all, grant_some, IsInitial, no_initial, negative, positive, byte_value, text_value, IsEntry, no_entry, entry, IsParameter, parameter, IsNextParameter, next_parameter, IsParameters, no_parameter, void_alone, parameters, IsDeclaration, structure, global, function}
use Rattle.fx_c_parse.specs.Exact.{IsTextOf}
use Rattle.fx_c_parse.proofs.Counts.{no_more_words}
use Rattle.fx_c_parse.proofs.Growth.{dims_shorter, pointer_shorter}
use Rattle.fx_c_parse.proofs.CompleteStatements.{statements_shorter}
use Rattle.fx_c_types_heads.specs.Names.{found}
use Rattle.fx_c_types_rules.specs.declared.fault.TypeKind.TheVariants.{Twice, UnknownType, TooManyParameters, Initialiser}
use Rattle.fx_c_types_rules.specs.Checks.{Checked, ◌>>=◌, demand}
use Rattle.fx_c_types_rules.specs.Structs as plain
use Rattle.fx_c_types_rules.specs.Structs.{place_32}
use Rattle.fx_c_types_heads.specs.Written.{ty_of, is_object}
use Rattle.fx_c_types_heads.specs.Heads.{HeadsTree, GlobalHead, FunctionHead, no_heads, repeats, is_declared, object_type, members_behind, names_of, is_next, struct_layout, with_struct, struct_head, is_initial, with_global, global_head, is_answer, are_params, param_names, params_of, with_function, function_head, head}
use Rattle.fx_c_types.specs.declared.program.SourceFile.{SourceFile}
use Rattle.fx_c_types.specs.Programs.{PlacedDecl, ProgramTree, BodiesTree, at_declaration, ◌>>>◌, tags_of, heads_of, no_bodies, bodies_of, main_number, program_of, well_typed}
use Rattle.fx_c_types.specs.ProgramView.{placed_in, declarations}
use Rattle.fx_c_types.specs.WellTyped.{WellTyped}
use Rattle.fx_c_types_law.proofs.Ends.{Ends, bind_ends, then_ends, demand_ends, at_ends, weaker}
use Rattle.fx_c_types_texts_law.specs.Texts.{AreFilesOf, bytes_of}
use Rattle.fx_c_types_texts_law.proofs.Nodes.{any}

-- ---- the grammar

declarator_shorter : (ws : List Word) (t : TypeTree) (name : List ℕ) (rest : List Word) → IsDeclarator ws t name rest → length rest < length ws
declarator_shorter _ _ _ _ (declarator {n} {m} {ws} {a} {t} {u} {name} {rest} pointer dims le) = omega (arith, pointer_shorter n ws t _ pointer, dims_shorter m a t u rest dims)

shared_shorter : (ws : List Word) (s : Bool) (rest : List Word) → IsShared ws s rest → length rest ≤ length ws
shared_shorter _ _ _ unshared = omega arith
shared_shorter _ _ _ shared = omega arith

list_shorter : {A : Type 0} (Is : List Word → A → List Word → Type 0) → ((ws : List Word) (x : A) (rest : List Word) → Is ws x rest → length rest ≤ length ws) → (ws : List Word) (xs : List A) (rest : List Word) → IsList Is ws xs rest → length rest ≤ length ws
list_shorter Is each _ _ _ no_item = omega arith
list_shorter Is each _ _ _ (next_item {ws} {a} {x} {xs} {rest} first others) = omega (arith, each ws x a first, list_shorter Is each a xs rest others)

name_shorter : (ws : List Word) (name : List ℕ) (rest : List Word) → IsNextName ws name rest → length rest ≤ length ws
name_shorter _ _ _ next_name = omega arith

grant_shorter : (word : ℕ) (ws : List Word) (g : Grant) (rest : List Word) → IsGrant word ws g rest → length rest ≤ length ws
grant_shorter _ _ _ _ no_grant = omega arith
grant_shorter _ _ _ _ grant_all = omega arith
grant_shorter _ _ _ _ (grant_some {word} {name} {names} {a} {rest} is) = omega (arith, list_shorter IsNextName name_shorter a names _ is)

initial_shorter : (ws : List Word) (i : Init) (rest : List Word) → IsInitial ws i rest → length rest ≤ length ws
initial_shorter _ _ _ no_initial = omega arith
initial_shorter _ _ _ negative = omega arith
initial_shorter _ _ _ positive = omega arith
initial_shorter _ _ _ byte_value = omega arith
initial_shorter _ _ _ text_value = omega arith

entry_shorter : (ws : List Word) (e : Bool) (rest : List Word) → IsEntry ws e rest → length rest ≤ length ws
entry_shorter _ _ _ no_entry = omega arith
entry_shorter _ _ _ entry = omega arith

parameter_shorter : (ws : List Word) (p : ParamTree) (rest : List Word) → IsParameter ws p rest → length rest ≤ length ws
parameter_shorter _ _ _ (parameter {n} {ws} {a} {s} {t} {name} {rest} mark pointer le) = omega (arith, shared_shorter ws s a mark, pointer_shorter n a t _ pointer)

next_parameter_shorter : (ws : List Word) (p : ParamTree) (rest : List Word) → IsNextParameter ws p rest → length rest ≤ length ws
next_parameter_shorter _ _ _ (next_parameter {a} {p} {rest} is) = omega (arith, parameter_shorter a p rest is)

parameters_shorter : (ws : List Word) (ps : List ParamTree) (rest : List Word) → IsParameters ws ps rest → length rest ≤ length ws
parameters_shorter _ _ _ no_parameter = omega arith
parameters_shorter _ _ _ void_alone = omega arith
parameters_shorter _ _ _ (parameters {ws} {a} {p} {ps} {rest} first others) = omega (arith, parameter_shorter ws p a first, list_shorter IsNextParameter next_parameter_shorter a ps rest others)

-- each member takes a word
member_shorter : (ws : List Word) (m : TypeTree × List ℕ) (rest : List Word) → IsMember ws m rest → length rest < length ws
member_shorter _ _ _ (struct_member {ws} {t} {name} {rest} is) = omega (arith, declarator_shorter ws t name _ is)

members_hold : (ws : List Word) (ms : List (TypeTree × List ℕ)) (rest : List Word) → IsList IsMember ws ms rest → length ms + length rest ≤ length ws
members_hold _ _ _ no_item = omega arith
members_hold _ _ _ (next_item {ws} {a} {x} {xs} {rest} first others) = omega (arith, member_shorter ws x a first, members_hold a xs rest others)

declaration_shorter : (ws : List Word) (d : DeclTree) (rest : List Word) → IsDeclaration ws d rest → length rest ≤ length ws
declaration_shorter _ _ _ (structure {a} {b} {name} {m} {ms} {rest} first others) = omega (arith, member_shorter a m b first, members_hold b ms _ others)
declaration_shorter _ _ _ (global {ws} {a} {b} {c} {g} {r} {t} {name} {i} {rest} writers readers declared begins) = omega (arith, grant_shorter SHARED ws g a writers, grant_shorter READ a r b readers, declarator_shorter b t name c declared, initial_shorter c i _ begins)
declaration_shorter _ _ _ (function {n} {h} {ws} {a} {b} {c} {e} {t} {name} {ps} {ss} {rest} mark pointer le heads body within) = omega (arith, entry_shorter ws e a mark, pointer_shorter n a t _ pointer, parameters_shorter b ps _ heads, statements_shorter c ss h _ body)

-- a struct has at most so many members
abbrev MembersFit : ℕ → DeclTree → Type 0
MembersFit n (StructTree name members) = length members ≤ n
MembersFit n (GlobalTree grant readers t name init) = Unit {0}
MembersFit n (FunctionTree marked answer name params body) = Unit {0}

abbrev AllFit : ℕ → List DeclTree → Type 0
AllFit n [] = Unit {0}
AllFit n (d ∷ ds) = MembersFit n d × AllFit n ds

declaration_fits : (n : ℕ) (ws : List Word) (d : DeclTree) (rest : List Word) → IsDeclaration ws d rest → length ws ≤ n → MembersFit n d
declaration_fits n _ _ _ (structure {a} {b} {name} {m} {ms} {rest} first others) le = omega (arith, member_shorter a m b first, members_hold b ms _ others, le)
declaration_fits n _ _ _ (global writers readers declared begins) le = tt
declaration_fits n _ _ _ (function mark pointer low heads body within) le = tt

unit_fits : (n : ℕ) (ws : List Word) (ds : List DeclTree) (rest : List Word) → IsList IsDeclaration ws ds rest → length ws ≤ n → AllFit n ds
unit_fits n _ _ _ no_item le = tt
unit_fits n _ _ _ (next_item {ws} {a} {x} {xs} {rest} first others) le = (declaration_fits n ws x a first le, unit_fits n a xs rest others (omega (arith, declaration_shorter ws x a first, le)))

text_fits : (n : ℕ) (text : List ℕ) (ds : List DeclTree) → IsTextOf text ds → length text ≤ n → AllFit n ds
text_fits n text ds is le = unit_fits n (words text is.0) ds [] is.2 (omega (arith, no_more_words text is.0 is.1, le))

-- ---- files

abbrev AllPlacedFit : ℕ → List PlacedDecl → Type 0
AllPlacedFit n [] = Unit {0}
AllPlacedFit n (d ∷ ds) = MembersFit n d.decl × AllPlacedFit n ds

placed_fit : (n library : ℕ) (ds : List Decl) (rest : List PlacedDecl) → AllFit n (decl_trees ds) → AllPlacedFit n rest → AllPlacedFit n (placed_in library ds ++ rest)
placed_fit n library [] rest fit more = more
placed_fit n library (d ∷ ds) rest fit more = (fit.0, placed_fit n library ds rest fit.1 more)

files_fit : (n : ℕ) (texts : List (List ℕ)) (files : List SourceFile) → AreFilesOf texts files → bytes_of texts ≤ n → AllPlacedFit n (declarations files)
files_fit n [] [] are le = tt
files_fit n [] (f ∷ fs) are le = absurd are
files_fit n (t ∷ ts) [] are le = absurd are
files_fit n (t ∷ ts) (f ∷ fs) are le = placed_fit n f.library f.unit.decls (declarations fs) (text_fits n t (decl_trees f.unit.decls) are.0 (omega (arith, le))) (files_fit n ts fs are.1 (omega (arith, le)))

-- ---- heads

abbrev FewMembers : ℕ → List plain.StructTree → Type 0
FewMembers n [] = Unit {0}
FewMembers n (s ∷ ss) = (length s.members ≤ n) × FewMembers n ss

few_push : (n : ℕ) (ss : List plain.StructTree) (s : plain.StructTree) → FewMembers n ss → length s.members ≤ n → FewMembers n (ss ++ s ∷ [])
few_push n [] s few le = (le, tt)
few_push n (x ∷ ss) s few le = (few.0, few_push n ss s few.1 le)

members_counted : (h : HeadsTree) (before : List plain.MemberTree) (ms : List (TypeTree × List ℕ)) → Ends (λ (all : List plain.MemberTree). length all ≡ length before + length ms) (members_behind h before ms)
members_counted h before [] = omega arith
members_counted h before (m ∷ ms) =
    let next : plain.MemberTree = record { ty = ty_of h.tags m.0; name = m.1 } in
    let pushed : length (before ++ next ∷ []) ≡ length before + 1 = length_push before next in
    demand_ends (λ (all : List plain.MemberTree). length all ≡ length before + length (m ∷ ms)) (is_object h.tags (place_32 (length h.structs)) m.0) UnknownType (members_behind h (before ++ next ∷ []) ms) (λ _.
    weaker (λ (all : List plain.MemberTree). length all ≡ length (before ++ next ∷ []) + length ms) (λ (all : List plain.MemberTree). length all ≡ length before + length (m ∷ ms)) (members_behind h (before ++ next ∷ []) ms)
    (members_counted h (before ++ next ∷ []) ms) (λ all is. omega (arith, is, pushed)))

abbrev Few : ℕ → HeadsTree → Type 0
Few n g = FewMembers n g.structs

struct_few : (n : ℕ) (h : HeadsTree) (name : List ℕ) (members : List (TypeTree × List ℕ)) → length members ≤ n → FewMembers n h.structs → Ends (Few n) (struct_head h name members)
struct_few n h name members le few =
    let build : List plain.MemberTree → Checked HeadsTree = λ ms. struct_layout h.layouts ms >>= (λ layout. Ok (with_struct h layout name ms)) in
    demand_ends (Few n) (is_next (found name h.tags) (place_32 (length h.structs))) Twice (demand (not (repeats [] (names_of members))) Twice (members_behind h [] members >>= build)) (λ _.
    demand_ends (Few n) (not (repeats [] (names_of members))) Twice (members_behind h [] members >>= build) (λ _.
    bind_ends (λ (all : List plain.MemberTree). length all ≡ 0 + length members) (Few n) (members_behind h [] members) build (members_counted h [] members) (λ ms count.
    bind_ends (λ (l : Layout). Unit {0}) (Few n) (struct_layout h.layouts ms) (λ layout. Ok (with_struct h layout name ms)) (any (struct_layout h.layouts ms)) (λ layout _.
    few_push n h.structs (record { name = name; members = ms }) few (omega (arith, count, le))))))

global_few : (n : ℕ) (h : HeadsTree) (library : ℕ) (grant readers : Grant) (t : TypeTree) (name : List ℕ) (init : Init) → FewMembers n h.structs → Ends (Few n) (global_head h library grant readers t name init)
global_few n h library grant readers t name init few =
    let bound : ℕ = place_32 (length h.structs) in
    let made : TyTree → GlobalHead = λ ty. record { library = library; grant = grant; readers = readers; ty = ty; name = name; init = init } in
    let build : TyTree → Checked HeadsTree = λ ty. demand (is_initial ty init) Initialiser (Ok (with_global h (made ty))) in
    demand_ends (Few n) (not (is_declared h name)) Twice (object_type h bound t >>= build) (λ _.
    bind_ends (λ (ty : TyTree). Unit {0}) (Few n) (object_type h bound t) build (any (object_type h bound t)) (λ ty _.
    demand_ends (Few n) (is_initial ty init) Initialiser (Ok (with_global h (made ty))) (λ _. few)))

function_few : (n : ℕ) (h : HeadsTree) (library : ℕ) (marked : Bool) (answer : TypeTree) (name : List ℕ) (params : List ParamTree) → FewMembers n h.structs → Ends (Few n) (function_head h library marked answer name params)
function_few n h library marked answer name params few =
    let made : FunctionHead = record { library = library; entry = marked; answer = ty_of h.tags answer; name = name; params = params_of h.tags params } in
    let last : Checked HeadsTree = Ok (with_function h made) in
    let short : Checked HeadsTree = demand (nat_le (length params) 6) TooManyParameters last in
    let types : Checked HeadsTree = demand (is_answer h.tags answer && are_params h.tags params) UnknownType short in
    demand_ends (Few n) (not (is_declared h name)) Twice (demand (not (repeats [] (param_names params))) Twice types) (λ _.
    demand_ends (Few n) (not (repeats [] (param_names params))) Twice types (λ _.
    demand_ends (Few n) (is_answer h.tags answer && are_params h.tags params) UnknownType short (λ _.
    demand_ends (Few n) (nat_le (length params) 6) TooManyParameters last (λ _. few))))

head_few : (n : ℕ) (h : HeadsTree) (library : ℕ) (d : DeclTree) → MembersFit n d → FewMembers n h.structs → Ends (Few n) (head h library d)
head_few n h library (StructTree name members) fit few = struct_few n h name members fit few
head_few n h library (GlobalTree grant readers t name init) fit few = global_few n h library grant readers t name init few
head_few n h library (FunctionTree marked answer name params body) fit few = function_few n h library marked answer name params few

heads_few : (n k : ℕ) (h : HeadsTree) (ds : List PlacedDecl) → AllPlacedFit n ds → FewMembers n h.structs → Ends (Few n) (heads_of k h ds)
heads_few n k h [] fit few = few
heads_few n k h (d ∷ ds) fit few =
    then_ends (Few n) (Few n) (at_declaration k (head h d.library d.decl)) (λ h. heads_of (k + 1) h ds)
    (at_ends (Few n) k (head h d.library d.decl) (head_few n h d.library d.decl fit.0 few)) (λ g more. heads_few n (k + 1) g ds fit.1 more)

program_few : (n : ℕ) (ds : List PlacedDecl) → AllPlacedFit n ds → Ends (λ (p : ProgramTree). FewMembers n p.structs) (well_typed ds)
program_few n ds fit =
    let Q : ProgramTree → Type 0 = λ p. FewMembers n p.structs in
    then_ends (Few n) Q (heads_of 0 (no_heads (tags_of [] ds)) ds) (λ h. bodies_of 0 h no_bodies ds >>> (λ b. at_declaration 0 (main_number h) >>> (λ main. Ok (program_of h b main)))) (heads_few n 0 (no_heads (tags_of [] ds)) ds fit tt) (λ h few.
    then_ends (λ (b : BodiesTree). Unit {0}) Q (bodies_of 0 h no_bodies ds) (λ b. at_declaration 0 (main_number h) >>> (λ main. Ok (program_of h b main))) (any (bodies_of 0 h no_bodies ds)) (λ b _.
    then_ends (λ (m : ℕ). Unit {0}) Q (at_declaration 0 (main_number h)) (λ main. Ok (program_of h b main)) (any (at_declaration 0 (main_number h))) (λ m _. few)))

length_members : (ms : List TMember) → length (plain.member_trees ms) ≡ length ms
length_members [] = refl
length_members (m ∷ ms) = ap suc (length_members ms)

all_few : (n : ℕ) (ss : List TStruct) → FewMembers n (plain.struct_trees ss) → All (λ (s : TStruct). length s.members ≤ n) ss
all_few n [] few = All-nil (λ (s : TStruct). length s.members ≤ n)
all_few n (s ∷ ss) few = All-cons (λ (s : TStruct). length s.members ≤ n) s ss (omega (arith, few.0, length_members s.members)) (all_few n ss few.1)

pub members_few : (n : ℕ) (texts : List (List ℕ)) (files : List SourceFile) (p : TProgram) → AreFilesOf texts files → bytes_of texts ≤ n → WellTyped files p → All (λ (s : TStruct). length s.members ≤ n) p.structs
members_few n texts files p are le is =
    all_few n p.structs (subst (λ r. Ends (λ (p : ProgramTree). FewMembers n p.structs) r) is (program_few n (declarations files) (files_fit n texts files are le)))
