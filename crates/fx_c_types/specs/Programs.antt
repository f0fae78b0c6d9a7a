-- The check of a program: all heads in program order, then all bodies, then the function that the program begins with.
use Rattle.std.specs.Prelude.{ℕ, Bool, true, false, ◌+◌, ◌&&◌, nat_le, List, [], ◌∷◌, ◌++◌, length, Option, Some, None, slice_get, codes, Result, Ok, Err}
use Rattle.fx_c_ast.specs.ParsedTrees.{ParamTree, DeclTree, StructTree, GlobalTree, StmtTrees}
use Rattle.fx_c_ast.specs.ParsedTrees as parsed
use Rattle.fx_c_ast.specs.CheckedTrees.{TyTree, TStmtTrees, NoTStmts}
use Rattle.fx_c_types_heads.specs.Names.{found}
use Rattle.fx_c_types_rules.specs.declared.fault.TypeKind.TheVariants.{FrameTooLong, NoMain}
use Rattle.fx_c_types_rules.specs.declared.fault.Fault.TheVariants as fault
use Rattle.fx_c_types_rules.specs.Checks.{Checked, ◌>>=◌, refuse, demand}
use Rattle.fx_c_types_rules.specs.declared.category.Category.{Category}
use Rattle.fx_c_types_rules.specs.declared.category.Category.TheVariants.{Nothing, Integer}
use Rattle.fx_c_types_rules.specs.Types.{category}
use Rattle.fx_c_types_rules.specs.Structs as plain
use Rattle.fx_c_types_rules.specs.Structs.{place_32}
use Rattle.fx_c_types_rules.specs.Locals.{LocalTree, types_of_locals}
use Rattle.fx_c_ast.specs.StackUse.{frame_size}
use Rattle.fx_c_types_heads.specs.Sizes.{known}
use Rattle.fx_c_types_heads.specs.Heads.{HeadsTree, GlobalHead, FunctionHead, no_heads, head}
use Rattle.fx_c_types.specs.declared.fault.TypeError.{TypeError}
use Rattle.fx_c_types.specs.declared.fault.TypeError.TheVariants.{Rule, OutOfMemory}
use Rattle.fx_c_types_bodies.specs.Bodies.{ScopeTree, BodyTree, checked_all, place_16}

-- a declaration with the number of its library
pub record PlacedDecl : Type 0 where
  pub library : ℕ
  pub decl : DeclTree

-- a checked function; the first `params` of its locals are its parameters
pub record FunctionTree : Type 0 where
  pub library : ℕ
  pub entry : Bool
  pub answer : TyTree
  pub name : List ℕ
  pub params : ℕ
  pub locals : List LocalTree
  pub body : TStmtTrees

pub record ProgramTree : Type 0 where
  pub structs : List plain.StructTree
  pub globals : List GlobalHead
  pub literals : List (List ℕ)
  pub functions : List FunctionTree
  pub main : ℕ

-- a check of the declaration with a number
abbrev pub at_declaration : {A : Type 0} → ℕ → Checked A → Result A TypeError
at_declaration n (Ok x) = Ok x
at_declaration n (Err (fault.Rule kind)) = Err (Rule kind n)
at_declaration n (Err fault.OutOfMemory) = Err OutOfMemory

infixl 10 ◌>>>◌
abbrev pub ◌>>>◌ : {A B : Type 0} → Result A TypeError → (A → Result B TypeError) → Result B TypeError
Ok x >>> f = f x
Err e >>> f = Err e

-- ---- the tags of all structs, by their first declarations

-- a name with the next number, if it isn't there
abbrev pub name_unless : Option ℕ → List (List ℕ × ℕ) → List ℕ → List (List ℕ × ℕ)
name_unless None names name = names ++ (name, place_32 (length names)) ∷ []
name_unless (Some n) names name = names

abbrev pub with_name : List (List ℕ × ℕ) → List ℕ → List (List ℕ × ℕ)
with_name names name = name_unless (found name names) names name

abbrev pub with_tag : List (List ℕ × ℕ) → DeclTree → List (List ℕ × ℕ)
with_tag tags (StructTree name members) = with_name tags name
with_tag tags (GlobalTree grant readers ty name init) = tags
with_tag tags (parsed.FunctionTree entry answer name params body) = tags

abbrev pub tags_of : List (List ℕ × ℕ) → List PlacedDecl → List (List ℕ × ℕ)
tags_of tags [] = tags
tags_of tags (d ∷ ds) = tags_of (with_tag tags d.decl) ds

-- ---- heads, from the declaration with a number on

abbrev pub heads_of : ℕ → HeadsTree → List PlacedDecl → Result HeadsTree TypeError
heads_of n h [] = Ok h
heads_of n h (d ∷ ds) = at_declaration n (head h d.library d.decl) >>> (λ h. heads_of (n + 1) h ds)

-- ---- bodies

-- parameters are the first locals, and their names, which differ, stand in the outermost block
abbrev pub param_block : List (List ℕ × ℕ) → List ParamTree → List (List ℕ × ℕ)
param_block names [] = names
param_block names (p ∷ ps) = param_block (with_name names p.name) ps

abbrev pub body_from : List (List ℕ) → FunctionHead → List ParamTree → BodyTree
body_from literals f params = record { literals = literals; locals = f.params; blocks = param_block [] params ∷ [] }

-- what is there between two bodies: the structs and functions so far, and the strings
pub record BodiesTree : Type 0 where
  pub declared : ℕ
  pub literals : List (List ℕ)
  pub functions : List FunctionTree

abbrev pub no_bodies : BodiesTree
no_bodies = record { declared = 0; literals = []; functions = [] }

abbrev pub function_of : FunctionHead → List LocalTree → TStmtTrees → FunctionTree
function_of f locals body = record { library = f.library; entry = f.entry; answer = f.answer; name = f.name; params = place_16 (length f.params); locals = locals; body = body }

abbrev pub with_function : BodiesTree → List (List ℕ) → FunctionTree → BodiesTree
with_function b literals f = record b { literals = literals; functions = b.functions ++ f ∷ [] }

-- a body that is checked: its frame has to be short enough
abbrev pub finished : HeadsTree → BodiesTree → FunctionHead → (TStmtTrees × BodyTree) → Checked BodiesTree
finished h b f x =
    demand (nat_le (frame_size (known h.layouts) (types_of_locals x.1.locals) x.0) 65536) FrameTooLong
    (Ok (with_function b x.1.literals (function_of f x.1.locals x.0)))

abbrev pub scope_of : HeadsTree → BodiesTree → FunctionHead → ScopeTree
scope_of h b f = record { heads = h; declared = b.declared; library = f.library; answer = f.answer }

abbrev pub function_body : HeadsTree → BodiesTree → Option FunctionHead → List ParamTree → StmtTrees → Checked BodiesTree
function_body h b None params body = Ok b
function_body h b (Some f) params body =
    checked_all (scope_of h b f) false (body_from b.literals f params) NoTStmts body >>= (λ x. finished h b f x)

-- the body of the next function
abbrev pub next_body : HeadsTree → BodiesTree → List ParamTree → StmtTrees → Checked BodiesTree
next_body h b params body = function_body h b (slice_get h.functions (length b.functions)) params body

-- a declaration, after which a struct is complete
abbrev pub body_of : HeadsTree → BodiesTree → DeclTree → Checked BodiesTree
body_of h b (StructTree name members) = Ok (record b { declared = place_32 (b.declared + 1) })
body_of h b (GlobalTree grant readers ty name init) = Ok b
body_of h b (parsed.FunctionTree entry answer name params body) = next_body h b params body

abbrev pub bodies_of : ℕ → HeadsTree → BodiesTree → List PlacedDecl → Result BodiesTree TypeError
bodies_of n h b [] = Ok b
bodies_of n h b (d ∷ ds) = at_declaration n (body_of h b d.decl) >>> (λ b. bodies_of (n + 1) h b ds)

-- ---- the program

abbrev pub gives_status : Category → Bool
gives_status Nothing = true
gives_status (Integer i) = true
gives_status _ = false

-- it begins with a function without parameters whose result is an integer or void
abbrev pub has_none : List LocalTree → Bool
has_none [] = true
has_none (p ∷ ps) = false

abbrev pub is_start : FunctionHead → Bool
is_start f = has_none f.params && gives_status (category f.answer)

abbrev pub main_at : Option FunctionHead → ℕ → Checked ℕ
main_at None n = refuse NoMain
main_at (Some f) n = demand (is_start f) NoMain (Ok n)

abbrev pub main_of : HeadsTree → Option ℕ → Checked ℕ
main_of h None = refuse NoMain
main_of h (Some n) = main_at (slice_get h.functions n) n

abbrev pub main_number : HeadsTree → Checked ℕ
main_number h = main_of h (found (codes "main") h.function_names)

abbrev pub program_of : HeadsTree → BodiesTree → ℕ → ProgramTree
program_of h b main = record { structs = h.structs; globals = h.globals; literals = b.literals; functions = b.functions; main = main }

-- the checked program, or the first violation
abbrev pub well_typed : List PlacedDecl → Result ProgramTree TypeError
well_typed ds =
    heads_of 0 (no_heads (tags_of [] ds)) ds >>> (λ h.
    bodies_of 0 h no_bodies ds >>> (λ b.
    at_declaration 0 (main_number h) >>> (λ main. Ok (program_of h b main))))
