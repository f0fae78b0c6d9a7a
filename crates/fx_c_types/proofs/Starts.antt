-- The function with a number, and the function that a program begins with.
use Rattle.std.proofs.Common.{◌≡◌, ℕ, ◌<◌, ◌≤◌, Bool, sym, ap, ◌∙◌, List, [], length, get_or, slice_get, Some, Result, Ok, Err}
use Rattle.std.specs.Prelude.{codes}
use Rattle.fx_c_ast.specs.ParsedTrees.{ParamTree, StmtTrees}
use Rattle.fx_c_types_heads.specs.Names.{found}
use Rattle.fx_c_types_rules.specs.declared.fault.Fault.TheVariants.{Rule}
use Rattle.fx_c_types_rules.specs.declared.fault.TypeKind.TheVariants.{NoMain}
use Rattle.fx_c_types_rules.specs.Checks.{demand}
use Rattle.fx_c_types_heads.specs.declared.heads.Head.{Head}
use Rattle.fx_c_types_heads.specs.declared.heads.Heads.{Heads}
use Rattle.fx_c_types_heads.specs.Heads.{HeadsTree, no_heads}
use Rattle.fx_c_types_heads.specs.HeadsView.{heads_tree, function_head, function_heads}
use Rattle.fx_c_types_bodies.proofs.Items.{function_at, function_beyond}
use Rattle.fx_c_types.specs.declared.fault.TypeError.{TypeError}
use Rattle.fx_c_types.specs.declared.program.Bodies.{Bodies}
use Rattle.fx_c_types.specs.Programs.{PlacedDecl, BodiesTree, ProgramTree, at_declaration, ◌>>>◌, tags_of, heads_of, function_body, next_body, no_bodies, bodies_of, is_start, main_at, main_of, main_number, program_of, well_typed}
use Rattle.fx_c_types.specs.ProgramView.{bodies_tree}
use Rattle.fx_c_types.proofs.Lists.{length-function_trees}

module _ (h : Heads) (n : ℕ) (named : found (codes "main") h.function_names ≡ Some n) where
  pub main_missing : length h.functions.items ≤ n → main_number (heads_tree h) ≡ Err (Rule NoMain)
  main_missing le = ap (main_of (heads_tree h)) named ∙ ap (λ g. main_at g n) (function_beyond h.functions.items n le)

  pub main_tried : (f : Head) (b : Bool) → n < length h.functions.items → f ≡ get_or h.functions.items n f → is_start (function_head f) ≡ b → main_number (heads_tree h) ≡ demand b NoMain (Ok n)
  main_tried f b less is start = ap (main_of (heads_tree h)) named ∙ ap (λ g. main_at g n) (function_at h.functions.items n f less is) ∙ ap (λ x. demand x NoMain (Ok n)) start

module _ (h : Heads) (b : Bodies) (params : List ParamTree) (body : StmtTrees) where
  at_count : next_body (heads_tree h) (bodies_tree b) params body ≡ function_body (heads_tree h) (bodies_tree b) (slice_get (function_heads h.functions.items) (length b.functions.items)) params body
  at_count = ap (λ n. function_body (heads_tree h) (bodies_tree b) (slice_get (function_heads h.functions.items) n) params body) (length-function_trees b.functions.items)

  pub no_next : length h.functions.items ≤ length b.functions.items → next_body (heads_tree h) (bodies_tree b) params body ≡ Ok (bodies_tree b)
  no_next le = at_count ∙ ap (λ f. function_body (heads_tree h) (bodies_tree b) f params body) (function_beyond h.functions.items (length b.functions.items) le)

  pub next_is : (f : Head) → length b.functions.items < length h.functions.items → f ≡ get_or h.functions.items (length b.functions.items) f → next_body (heads_tree h) (bodies_tree b) params body ≡ function_body (heads_tree h) (bodies_tree b) (Some (function_head f)) params body
  next_is f less is = at_count ∙ ap (λ g. function_body (heads_tree h) (bodies_tree b) g params body) (function_at h.functions.items (length b.functions.items) f less is)

-- what the check of a program does behind the heads
abbrev pub behind_heads : HeadsTree → List PlacedDecl → Result ProgramTree TypeError
behind_heads h ds = bodies_of 0 h no_bodies ds >>> (λ b. at_declaration 0 (main_number h) >>> (λ main. Ok (program_of h b main)))

pub heads_done : (ds ps : List PlacedDecl) (tags : List (List ℕ × ℕ)) (h : HeadsTree) → ps ≡ ds → tags ≡ tags_of [] ps → heads_of 0 (no_heads tags) ps ≡ Ok h → well_typed ds ≡ behind_heads h ps
heads_done ds ps tags h same tagged done =
    ap well_typed (sym same)
    ∙ ap (λ t. heads_of 0 (no_heads t) ps >>> (λ g. behind_heads g ps)) (sym tagged)
    ∙ ap (λ r. r >>> (λ g. behind_heads g ps)) done

pub bodies_refused : (h : HeadsTree) (ds : List PlacedDecl) (e : TypeError) → bodies_of 0 h no_bodies ds ≡ Err e → behind_heads h ds ≡ Err e
bodies_refused h ds e r = ap (λ x. x >>> (λ b. at_declaration 0 (main_number h) >>> (λ main. Ok (program_of h b main)))) r

pub main_refused : (h : HeadsTree) (ds : List PlacedDecl) (b : BodiesTree) (e : TypeError) → bodies_of 0 h no_bodies ds ≡ Ok b → at_declaration 0 (main_number h) ≡ Err e → behind_heads h ds ≡ Err e
main_refused h ds b e r m =
    ap (λ x. x >>> (λ b. at_declaration 0 (main_number h) >>> (λ main. Ok (program_of h b main)))) r
    ∙ ap (λ x. x >>> (λ main. Ok (program_of h b main))) m
