-- Repetitions, as loops go through them.
use Rattle.std.proofs.Common.{◌≡◌, ℕ, zero, suc, ◌<◌, Bool, true, false, List, [], ◌∷◌, ◌++◌, length, Option, Some, sym, ap, ◌∙◌, subst, arith}
use Rattle.std.specs.Prelude.{if◌then◌else◌}
use Rattle.fx_c_ast.specs.declared.parsed.TypeName.{TypeName}
use Rattle.fx_c_ast.specs.declared.parsed.Param.{Param}
use Rattle.fx_c_ast.specs.ParsedTrees.{TypeTree, ParamTree, type_tree, member_trees, param_tree, param_trees}
use Rattle.fx_c_lex.specs.declared.sign.TheConstants.{CLOSE_BRACE, COMMA}
use Rattle.fx_c_parse.specs.Words.{Word, has_sign, tail}
use Rattle.fx_c_parse.specs.Reading.{◌>>=◌, Turn, Ends, Tries, turned, turns}
use Rattle.fx_c_parse.specs.Declarations.{member_of, member_turn, parameter_of, parameter_turn}
use Rattle.fx_c_parse.proofs.Loop.{Continues}
use Rattle.fx_c_parse.proofs.Lists.{members_more, params_more}

pub continues_end : {A B : Type 0} → (step : A → List Word → Turn A) (finish : A × List Word → Option B) (x : A) (ws : List Word) (total : Option B) → Continues step finish x ws total → step x ws ≡ Ends → total ≡ finish (x, ws)
continues_end step finish x ws total c e = by_count c.left c.enough c.same
  where
    by_count : (n : ℕ) → length ws < n → (turns step n x ws >>= finish) ≡ total → total ≡ finish (x, ws)
    by_count zero lt s = absurd (omega (arith, lt))
    by_count (suc n) lt s = sym s ∙ ap (λ t. turned (turns step n) x ws t >>= finish) e

pub continues_more : {A B : Type 0} → (step : A → List Word → Turn A) (finish : A × List Word → Option B) (x y : A) (ws rest : List Word) (total : Option B) → Continues step finish x ws total → step x ws ≡ Tries (Some (y, rest)) → length rest < length ws → Continues step finish y rest total
continues_more step finish x y ws rest total c e shorter = by_count c.left c.enough c.same
  where
    by_count : (n : ℕ) → length ws < n → (turns step n x ws >>= finish) ≡ total → Continues step finish y rest total
    by_count zero lt s = absurd (omega (arith, lt))
    by_count (suc n) lt s = record { left = n; enough = omega (arith, lt, shorter); same = sym (ap (λ t. turned (turns step n) x ws t >>= finish) e) ∙ s }

-- one more member of a struct
pub member_goes_on : {B : Type 0} → (finish : List (TypeTree × List ℕ) × List Word → Option B) (total : Option B) (all : List (TypeName × List ℕ)) (ws : List Word) (one : TypeName × List ℕ) (after : List Word) (new : List (TypeName × List ℕ)) (brace : Bool) → Continues member_turn finish (member_trees all) ws total → brace ≡ has_sign CLOSE_BRACE ws → brace ≡ false → member_of ws ≡ Some ((type_tree one.0, one.1), after) → new ≡ all ++ one ∷ [] → length after < length ws → Continues member_turn finish (member_trees new) after total
member_goes_on finish total all ws one after new brace c is tested read pushed shorter =
    let step : member_turn (member_trees all) ws ≡ Tries (Some (member_trees all ++ (type_tree one.0, one.1) ∷ [], after)) =
    ap (λ (b : Bool). if b then Ends else Tries (member_of ws >>= λ x. Some (member_trees all ++ x.0 ∷ [], x.1))) (sym is ∙ tested)
    ∙ ap (λ (r : Option ((TypeTree × List ℕ) × List Word)). Tries (r >>= λ x. Some (member_trees all ++ x.0 ∷ [], x.1))) read in
    let more = continues_more member_turn finish (member_trees all) (member_trees all ++ (type_tree one.0, one.1) ∷ []) ws after total c step shorter in
    subst (λ l. Continues member_turn finish l after total) (sym (ap member_trees pushed ∙ members_more all one)) more

-- one more parameter
pub parameter_goes_on : {B : Type 0} → (finish : List ParamTree × List Word → Option B) (total : Option B) (all : List Param) (ws mid : List Word) (one : Param) (after : List Word) (new : List Param) (comma : Bool) → Continues parameter_turn finish (param_trees all) ws total → comma ≡ has_sign COMMA ws → comma ≡ true → mid ≡ tail ws → parameter_of mid ≡ Some (param_tree one, after) → new ≡ all ++ one ∷ [] → length after < length ws → Continues parameter_turn finish (param_trees new) after total
parameter_goes_on finish total all ws mid one after new comma c is tested next read pushed shorter =
    let read_tail : parameter_of (tail ws) ≡ Some (param_tree one, after) = subst (λ l. parameter_of l ≡ Some (param_tree one, after)) next read in
    let step : parameter_turn (param_trees all) ws ≡ Tries (Some (param_trees all ++ param_tree one ∷ [], after)) =
    ap (λ (b : Bool). if b then Tries (parameter_of (tail ws) >>= λ x. Some (param_trees all ++ x.0 ∷ [], x.1)) else Ends) (sym is ∙ tested)
    ∙ ap (λ (r : Option (ParamTree × List Word)). Tries (r >>= λ x. Some (param_trees all ++ x.0 ∷ [], x.1))) read_tail in
    let more = continues_more parameter_turn finish (param_trees all) (param_trees all ++ param_tree one ∷ []) ws after total c step shorter in
    subst (λ l. Continues parameter_turn finish l after total) (sym (ap param_trees pushed ∙ params_more all one)) more
