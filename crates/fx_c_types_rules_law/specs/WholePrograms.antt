-- Programs: all heads in program order, then all bodies, and the function that it begins with (C11 5.1.2.2.1, 6.9).
use Rattle.std.specs.Prelude.{◌≡◌, ℕ, ◌+◌, ◌≤◌, Bool, false, List, [], ◌∷◌, length, Some, slice_get, codes}
use Rattle.fx_c_ast.specs.declared.operator.IntType.{IntType}
use Rattle.fx_c_ast.specs.declared.parsed.Grant.{Grant}
use Rattle.fx_c_ast.specs.declared.parsed.Init.{Init}
use Rattle.fx_c_ast.specs.ParsedTrees.{TypeTree, ParamTree, DeclTree, StructTree, GlobalTree, StmtTrees}
use Rattle.fx_c_ast.specs.ParsedTrees as parsed
use Rattle.fx_c_ast.specs.CheckedTrees.{TyTree, VoidTy, IntTy, TStmtTrees}
use Rattle.fx_c_types_heads.specs.Names.{found}
use Rattle.fx_c_types_rules.specs.Structs.{place_32}
use Rattle.fx_c_types_heads.specs.Heads.{HeadsTree, FunctionHead, no_heads}
use Rattle.fx_c_types_rules.specs.Locals.{types_of_locals}
use Rattle.fx_c_types_heads.specs.Sizes.{known}
use Rattle.fx_c_ast.specs.StackUse.{frame_size}
use Rattle.fx_c_types_bodies.specs.Bodies.{BodyTree}
use Rattle.fx_c_types.specs.Programs.{PlacedDecl, ProgramTree, BodiesTree, tags_of, body_from, no_bodies, function_of, with_function, scope_of, program_of}
use Rattle.fx_c_types_rules_law.specs.Statements.{MeanStatements}
use Rattle.fx_c_types_rules_law.specs.Declarations.{DeclaresHead}

-- declarations one behind the other
pub data AreHeads : HeadsTree → List PlacedDecl → HeadsTree → Type 0 where
  no_heads_more : {h : HeadsTree} → AreHeads h [] h
  one_head : {h g k : HeadsTree} {d : PlacedDecl} {ds : List PlacedDecl} → DeclaresHead h d.library d.decl g → AreHeads g ds k → AreHeads h (d ∷ ds) k

-- what a declaration adds to the bodies before it: a struct is complete behind its declaration (6.2.5, 22); a function's
-- statements keep all rules where its parameters are the first locals, and a call of it takes at most 65,536 bytes of
-- stack (the last is this project's own)
pub data MeansBody : HeadsTree → BodiesTree → DeclTree → BodiesTree → Type 0 where
  struct_declared : {h : HeadsTree} {b : BodiesTree} {name : List ℕ} {members : List (TypeTree × List ℕ)} → MeansBody h b (StructTree name members) (record b { declared = place_32 (b.declared + 1) })
  global_declared : {h : HeadsTree} {b : BodiesTree} {grant readers : Grant} {t : TypeTree} {name : List ℕ} {init : Init} → MeansBody h b (GlobalTree grant readers t name init) b
  function_body : {h : HeadsTree} {b : BodiesTree} {entry : Bool} {t : TypeTree} {name : List ℕ} {params : List ParamTree} {body : StmtTrees} {f : FunctionHead} {ts : TStmtTrees} {c : BodyTree}
      → slice_get h.functions (length b.functions) ≡ Some f → MeanStatements (scope_of h b f) false (body_from b.literals f params) body ts c
      → frame_size (known h.layouts) (types_of_locals c.locals) ts ≤ 65536
      → MeansBody h b (parsed.FunctionTree entry t name params body) (with_function b c.literals (function_of f c.locals ts))

pub data AreBodies : HeadsTree → BodiesTree → List PlacedDecl → BodiesTree → Type 0 where
  no_more_bodies : {h : HeadsTree} {b : BodiesTree} → AreBodies h b [] b
  one_body : {h : HeadsTree} {b c e : BodiesTree} {d : PlacedDecl} {ds : List PlacedDecl} → MeansBody h b d.decl c → AreBodies h c ds e → AreBodies h b (d ∷ ds) e

-- an integer, or nothing
pub data GivesStatus : TyTree → Type 0 where
  integer_status : {i : IntType} → GivesStatus (IntTy i)
  no_status : GivesStatus VoidTy

-- a function `main` without parameters (5.1.2.2.1, of which the profile has this form)
pub data IsMain : HeadsTree → ℕ → Type 0 where
  main_function : {h : HeadsTree} {n : ℕ} {f : FunctionHead} → found (codes "main") h.function_names ≡ Some n → slice_get h.functions n ≡ Some f → f.params ≡ [] → GivesStatus f.answer → IsMain h n

-- the declarations of all files, in their order, and the checked program that they mean. `tags_of` numbers the tags of
-- all structs, so that a type behind a pointer may name one that is declared later (6.7.2.3, 7 and 8)
pub data MeansProgram : List PlacedDecl → ProgramTree → Type 0 where
  program : {ds : List PlacedDecl} {h : HeadsTree} {b : BodiesTree} {main : ℕ}
      → AreHeads (no_heads (tags_of [] ds)) ds h → AreBodies h no_bodies ds b → IsMain h main
      → MeansProgram ds (program_of h b main)
