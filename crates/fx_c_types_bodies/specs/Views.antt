-- What contracts see of the state of a check.
use Rattle.std.specs.Prelude.{Box, Option, Some, None}
use Rattle.std.specs.declared.alloc.Global.{Global}
use Rattle.fx_c_ast.specs.declared.parsed.Stmt.{Stmt}
use Rattle.fx_c_ast.specs.declared.checked.TStmt.{TStmt}
use Rattle.fx_c_ast.specs.ParsedTrees.{MaybeStmt, Absent, Present, stmt_tree}
use Rattle.fx_c_ast.specs.CheckedTrees.{MaybeTStmt, NoTStmt, OneTStmt, tstmt_tree, ty_tree}
use Rattle.fx_c_types_rules.specs.Locals.{local_trees}
use Rattle.fx_c_types_heads.specs.HeadsView.{heads_tree}
use Rattle.fx_c_types_bodies.specs.declared.scope.Scope.{Scope}
use Rattle.fx_c_types_bodies.specs.declared.scope.Body.{Body}
use Rattle.fx_c_types_bodies.specs.Bodies.{ScopeTree, BodyTree}

abbrev pub scope_tree : Scope → ScopeTree
scope_tree s = record { heads = heads_tree s.heads.now; declared = s.declared; library = s.library; answer = ty_tree s.answer.now }

abbrev pub body_tree : Body → BodyTree
body_tree b = record { literals = b.literals.items; locals = local_trees b.locals.items; blocks = b.blocks.items }

-- a statement that may be there
abbrev pub held_stmt : Option (Box Stmt Global) → MaybeStmt
held_stmt None = Absent
held_stmt (Some s) = Present (stmt_tree s.value)

abbrev pub held_tree : Option (Box TStmt Global) → MaybeTStmt
held_tree None = NoTStmt
held_tree (Some s) = OneTStmt (tstmt_tree s.value)
