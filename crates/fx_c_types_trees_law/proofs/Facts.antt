-- The same of a checked program itself.
use Rattle.std.proofs.Common.{◌≡◌, ℕ, zero, suc, ◌≤◌, ◌^◌, List, [], ◌∷◌, length, slice_get, slice_index_or, Some, refl, sym, ap, ◌∙◌, arith, subst}
use Rattle.std.specs.Prelude.{All}
use Rattle.std.proofs.lemmas.List.Elements.{All-nil, All-cons, All-head, All-tail}
use Rattle.fx_c_ast.specs.declared.checked.TMember.{TMember}
use Rattle.fx_c_ast.specs.declared.checked.TStruct.{TStruct}
use Rattle.fx_c_ast.specs.declared.checked.TGlobal.{TGlobal}
use Rattle.fx_c_ast.specs.declared.checked.TLocal.{TLocal}
use Rattle.fx_c_ast.specs.declared.checked.TFunction.{TFunction}
use Rattle.fx_c_ast.specs.declared.checked.TProgram.{TProgram}
use Rattle.fx_c_ast.specs.CheckedTrees.{TyTree, ty_tree, tstmt_trees, member_types, struct_types}
use Rattle.fx_c_types_rules.specs.Structs as plain
use Rattle.fx_c_types_rules.specs.Locals.{local_trees}
use Rattle.fx_c_types_heads.specs.Heads.{GlobalHead, FunctionHead}
use Rattle.fx_c_types_heads.specs.HeadsView.{global_tree, global_heads}
use Rattle.fx_c_types_heads.proofs.Fields.{types_are, length-struct_trees}
use Rattle.fx_c_types.specs.declared.program.SourceFile.{SourceFile}
use Rattle.fx_c_types.specs.Programs as program
use Rattle.fx_c_types.specs.ProgramView.{declarations, function_tree, function_trees, program_tree}
use Rattle.fx_c_types.specs.WellTyped.{WellTyped}
use Rattle.fx_c_types_law.proofs.Ends.{Ends}
use Rattle.fx_c_types_law.proofs.Heads.{all_types, length-all_types}
use Rattle.fx_c_types_model.specs.Tables.{Tables, IsNamed, head_of, heads_of, tables}
use Rattle.fx_c_types_model.specs.Nodes.{IsAnswer}
use Rattle.fx_c_types_model.specs.Trees.{AreRight}
use Rattle.fx_c_types_trees_law.specs.Laws.{NumbersFit}
use Rattle.fx_c_types_trees_law.proofs.Scope.{tables_in, AreNamed}
use Rattle.fx_c_types_trees_law.proofs.Programs.{tree_head, IsRightFunction, IsRightProgram, accepted_right}

pub right_program : (files : List SourceFile) (p : TProgram) → WellTyped files p → IsRightProgram (program_tree p)
right_program files p is = subst (λ r. Ends IsRightProgram r) is (accepted_right (declarations files))

-- ---- lists

types_same : (ss : List TStruct) → all_types (plain.struct_trees ss) ≡ struct_types ss
types_same [] = refl
types_same (s ∷ ss) = ap (λ ts. ts ∷ all_types (plain.struct_trees ss)) (types_are s.members) ∙ ap (λ tss. member_types s.members ∷ tss) (types_same ss)

abbrev tree_heads : List program.FunctionTree → List FunctionHead
tree_heads [] = []
tree_heads (f ∷ fs) = tree_head f ∷ tree_heads fs

heads_same : (fs : List TFunction) → heads_of fs ≡ tree_heads (function_trees fs)
heads_same [] = refl
heads_same (f ∷ fs) = ap (λ hs. head_of f ∷ hs) (heads_same fs)

all_heads : (fs : List program.FunctionTree) (hs : List FunctionHead) → length fs ≡ length hs → ((k : ℕ) (f : program.FunctionTree) → slice_get fs k ≡ Some f → slice_get hs k ≡ Some (tree_head f)) → tree_heads fs ≡ hs
all_heads [] [] same is = refl
all_heads [] (h ∷ hs) same is = absurd (omega arith)
all_heads (f ∷ fs) [] same is = absurd (omega arith)
all_heads (f ∷ fs) (h ∷ hs) same is =
    let first : tree_head f ≡ h = (let at : Some h ≡ Some (tree_head f) = is zero f refl in cc) in
    ap (λ x. x ∷ tree_heads fs) first ∙ ap (λ xs. h ∷ xs) (all_heads fs hs (omega arith) (λ k g at. is (suc k) g at))

all_functions : (P : TFunction → Type 0) (fs : List TFunction) → ((k : ℕ) (f : TFunction) → slice_get (function_trees fs) k ≡ Some (function_tree f) → P f) → All P fs
all_functions P [] h = All-nil P
all_functions P (f ∷ fs) h = All-cons P f fs (h zero f refl) (all_functions P fs (λ k g at. h (suc k) g at))

all_globals : (P : TGlobal → Type 0) (vs : List TGlobal) → ((k : ℕ) (v : TGlobal) → slice_get (global_heads vs) k ≡ Some (global_tree v) → P v) → All P vs
all_globals P [] h = All-nil P
all_globals P (v ∷ vs) h = All-cons P v vs (h zero v refl) (all_globals P vs (λ k w at. h (suc k) w at))

all_members : (P : TyTree → Type 0) (ms : List TMember) → ((n : ℕ) (t : TyTree) → slice_get (member_types ms) n ≡ Some t → P t) → All (λ (m : TMember). P (ty_tree m.ty)) ms
all_members P [] h = All-nil (λ (m : TMember). P (ty_tree m.ty))
all_members P (m ∷ ms) h = All-cons (λ (m : TMember). P (ty_tree m.ty)) m ms (h zero (ty_tree m.ty) refl) (all_members P ms (λ n t at. h (suc n) t at))

all_structs : (P : TyTree → Type 0) (ss : List TStruct) → ((k n : ℕ) (t : TyTree) → slice_get (slice_index_or (struct_types ss) k []) n ≡ Some t → P t) → All (λ (s : TStruct). All (λ (m : TMember). P (ty_tree m.ty)) s.members) ss
all_structs P [] h = All-nil (λ (s : TStruct). All (λ (m : TMember). P (ty_tree m.ty)) s.members)
all_structs P (s ∷ ss) h =
    All-cons (λ (s : TStruct). All (λ (m : TMember). P (ty_tree m.ty)) s.members) s ss
    (all_members P s.members (λ n t at. h zero n t at)) (all_structs P ss (λ k n t at. h (suc k) n t at))

all_locals : (bound : ℕ) (ls : List TLocal) → AreNamed bound (local_trees ls) → All (λ (l : TLocal). IsNamed bound (ty_tree l.ty)) ls
all_locals bound [] h = All-nil (λ (l : TLocal). IsNamed bound (ty_tree l.ty))
all_locals bound (l ∷ ls) h = All-cons (λ (l : TLocal). IsNamed bound (ty_tree l.ty)) l ls h.0 (all_locals bound ls h.1)

length_locals : (ls : List TLocal) → length (local_trees ls) ≡ length ls
length_locals [] = refl
length_locals (l ∷ ls) = ap suc (length_locals ls)

length_members : (ms : List TMember) → length (member_types ms) ≡ length ms
length_members [] = refl
length_members (m ∷ ms) = ap suc (length_members ms)

few_members : (ss : List TStruct) → All (λ (s : TStruct). length s.members ≤ 2 ^ 32) ss → (k : ℕ) → length (slice_index_or (struct_types ss) k []) ≤ 2 ^ 32
few_members [] all k = omega arith
few_members (s ∷ ss) all zero = omega (arith, length_members s.members, All-head (λ (s : TStruct). length s.members ≤ 2 ^ 32) s ss all)
few_members (s ∷ ss) all (suc k) = few_members ss (All-tail (λ (s : TStruct). length s.members ≤ 2 ^ 32) s ss all) k

-- ---- a program

module _ (p : TProgram) (has : IsRightProgram (program_tree p)) where
  types : all_types has.heads.structs ≡ struct_types p.structs
  types = ap all_types has.structs ∙ types_same p.structs

  count : length (all_types has.heads.structs) ≡ length p.structs
  count = length-all_types has.heads.structs ∙ ap length has.structs ∙ length-struct_trees p.structs

  functions : has.heads.functions ≡ heads_of p.functions
  functions = sym (heads_same p.functions ∙ all_heads (function_trees p.functions) has.heads.functions has.count has.of_heads)

  -- the tables of a function are those of the program's heads
  tables_are : (f : TFunction) → tables_in has.heads f.library (ty_tree f.result) p.literals (local_trees f.locals) ≡ tables p f
  tables_are f =
      let with : List (List TyTree) → List GlobalHead → List FunctionHead → Tables = λ structs globals functions. record { structs = structs; globals = globals; literals = p.literals; functions = functions; locals = local_trees f.locals; library = f.library; answer = ty_tree f.result } in
      ap (λ x. with x has.heads.globals has.heads.functions) types
      ∙ ap (λ x. with (struct_types p.structs) x has.heads.functions) has.globals
      ∙ ap (λ x. with (struct_types p.structs) (global_heads p.globals) x) functions

  pub bodies_are_right : NumbersFit p → All (λ (f : TFunction). AreRight (tables p f) (tstmt_trees f.body.items)) p.functions
  bodies_are_right fit = all_functions (λ f. AreRight (tables p f) (tstmt_trees f.body.items)) p.functions (λ k f at.
      let is : IsRightFunction has.heads p.literals (function_tree f) = has.functions k (function_tree f) at in
      let few : (n : ℕ) → length (slice_index_or (all_types has.heads.structs) n []) ≤ 2 ^ 32 = λ n. subst (λ (tss : List (List TyTree)). length (slice_index_or tss n []) ≤ 2 ^ 32) (sym types) (few_members p.structs fit.1 n) in
      subst (λ g. AreRight g (tstmt_trees f.body.items)) (tables_are f) (is.right p.literals (λ n x there. there) fit.0 few))

  named : (t : TyTree) → IsNamed (length (all_types has.heads.structs)) t → IsNamed (length p.structs) t
  named t is = subst (λ n. IsNamed n t) count is

  pub globals_are_named : All (λ (v : TGlobal). IsNamed (length p.structs) (ty_tree v.ty)) p.globals
  globals_are_named = all_globals (λ (v : TGlobal). IsNamed (length p.structs) (ty_tree v.ty)) p.globals (λ k v at.
      named (ty_tree v.ty) (has.tied.globals k (global_tree v) (subst (λ gs. slice_get gs k ≡ Some (global_tree v)) (sym has.globals) at)))

  pub members_are_named : All (λ (s : TStruct). All (λ (m : TMember). IsNamed (length p.structs) (ty_tree m.ty)) s.members) p.structs
  members_are_named = all_structs (λ t. IsNamed (length p.structs) t) p.structs (λ k n t at.
      named t (has.tied.members k n t (subst (λ tss. slice_get (slice_index_or tss k []) n ≡ Some t) (sym types) at)))

  pub functions_are_named : All (λ (f : TFunction). IsNamed (length p.structs) (ty_tree f.result) × IsAnswer (ty_tree f.result) × (f.params ≤ length f.locals) × All (λ (l : TLocal). IsNamed (length p.structs) (ty_tree l.ty)) f.locals) p.functions
  functions_are_named = all_functions (λ (f : TFunction). IsNamed (length p.structs) (ty_tree f.result) × IsAnswer (ty_tree f.result) × (f.params ≤ length f.locals) × All (λ (l : TLocal). IsNamed (length p.structs) (ty_tree l.ty)) f.locals) p.functions (λ k f at.
      let is : IsRightFunction has.heads p.literals (function_tree f) = has.functions k (function_tree f) at in
      let answer = has.tied.answers k (tree_head (function_tree f)) (has.of_heads k (function_tree f) at) in
      (named (ty_tree f.result) answer.0, answer.1, omega (arith, is.params, length_locals f.locals), all_locals (length p.structs) f.locals (subst (λ n. AreNamed n (local_trees f.locals)) count is.named)))
