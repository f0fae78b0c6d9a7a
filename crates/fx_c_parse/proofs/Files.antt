-- Declarations read one after the other, as the parser's loop does.
use Rattle.std.proofs.Common.{◌≡◌, ℕ, zero, suc, ◌+◌, ◌<◌, List, [], ◌∷◌, ◌++◌, length, Some, None, Result, Ok, Err, refl, sym, ap, ◌∙◌, subst, Bool, false, arith}
use Rattle.fx_c_ast.specs.declared.parsed.Unit.{Unit as Parsed}
use Rattle.std.specs.Prelude.{◌==◌, IsErr, IsErrAnd}
use Rattle.std.proofs.lemmas.Bool.{eqb-false}
use Rattle.std.proofs.lemmas.List.{length-append}
use Rattle.fx_c_ast.specs.declared.parsed.Decl.{Decl}
use Rattle.fx_c_ast.specs.ParsedTrees.{DeclTree, decl_tree, decl_trees}
use Rattle.fx_c_lex.specs.declared.token.Token.{Token}
use Rattle.fx_c_parse.specs.declared.fault.Fault.{Fault}
use Rattle.fx_c_parse.specs.declared.fault.Fault.TheVariants as fault
use Rattle.fx_c_parse.specs.declared.fault.ParseError.{ParseError}
use Rattle.fx_c_parse.specs.declared.fault.ParseError.TheVariants.{Byte, Syntax, OutOfMemory}
use Rattle.fx_c_parse.specs.Words.{Word, words}
use Rattle.fx_c_parse.specs.Declarations.{declaration_of, unit_step, units, unit_of, Reads, GivesUnit, GivesOf}
use Rattle.fx_c_parse.specs.Reading.{Fails}
use Rattle.fx_c_parse.proofs.Counts.{words_length}
use Rattle.fx_c_parse.proofs.Lists.{decls_more}

-- the declarations from here, behind those done, are the whole
pub record Continues (done : List DeclTree) (ws : List Word) (total : Result (List DeclTree) ℕ) : Type 0 where
  pub left : ℕ
  pub enough : length ws < left
  pub same : units left done ws ≡ total

pub begins_file : (ws : List Word) → Continues [] ws (unit_of ws)
unfolding unit_of
begins_file ws = record { left = length ws + 1; enough = omega arith; same = refl }

pub ends_file : (done : List DeclTree) (ws : List Word) (total : Result (List DeclTree) ℕ) → Continues done ws total → ws ≡ [] → total ≡ Ok done
ends_file done ws total c e = by_count c.left c.enough c.same
  where
    by_count : (n : ℕ) → length ws < n → units n done ws ≡ total → total ≡ Ok done
    by_count zero lt s = absurd (omega (arith, lt))
    by_count (suc n) lt s = sym s ∙ ap (units (suc n) done) e

-- the turn at words that aren't at their end
turn_is : (n : ℕ) (done : List DeclTree) (ws : List Word) → 0 < length ws → units (suc n) done ws ≡ unit_step (units n) done (declaration_of ws)
turn_is n done [] some = absurd (omega (arith, some))
turn_is n done (w ∷ ws) some = refl

pub fails_file : (done : List DeclTree) (ws : List Word) (total : Result (List DeclTree) ℕ) → Continues done ws total → 0 < length ws → declaration_of ws ≡ None → total ≡ Err (length done)
fails_file done ws total c some e = by_count c.left c.enough c.same
  where
    by_count : (n : ℕ) → length ws < n → units n done ws ≡ total → total ≡ Err (length done)
    by_count zero lt s = absurd (omega (arith, lt))
    by_count (suc n) lt s = sym s ∙ turn_is n done ws some ∙ ap (unit_step (units n) done) e

pub goes_on_in_file : (done : List DeclTree) (ws : List Word) (total : Result (List DeclTree) ℕ) (d : DeclTree) (rest : List Word) → Continues done ws total → 0 < length ws → declaration_of ws ≡ Some (d, rest) → length rest < length ws → Continues (done ++ d ∷ []) rest total
goes_on_in_file done ws total d rest c some e shorter = by_count c.left c.enough c.same
  where
    by_count : (n : ℕ) → length ws < n → units n done ws ≡ total → Continues (done ++ d ∷ []) rest total
    by_count zero lt s = absurd (omega (arith, lt))
    by_count (suc n) lt s = record { left = n; enough = omega (arith, lt, shorter); same = sym (ap (unit_step (units n) done) e) ∙ sym (turn_is n done ws some) ∙ s }

pub gives_of : (text : List ℕ) (ts : List Token) (r : Result Parsed ParseError) (read : Result (List Token) ℕ) → read ≡ Ok ts → GivesUnit r (unit_of (words text ts)) → GivesOf text r read
gives_of text ts (Ok u) read e h = (ts, e, h)
gives_of text ts (Err (Syntax n)) read e h = (ts, e, h)
gives_of text ts (Err (Byte at)) read e h = absurd h
gives_of text ts (Err OutOfMemory) read e h = tt

pub begins_with : (ds : List Decl) (ws : List Word) → ds ≡ [] → Continues (decl_trees ds) ws (unit_of ws)
begins_with ds ws e = subst (λ l. Continues (decl_trees l) ws (unit_of ws)) (sym e) (begins_file ws)

trees_length : (ds : List Decl) → length (decl_trees ds) ≡ length ds
trees_length [] = refl
trees_length (d ∷ ds) = ap suc (trees_length ds)

-- a cursor that isn't at the end has words before it
pub words_left : (text : List ℕ) (ts : List Token) (empty : Bool) → empty ≡ (length ts == 0) → empty ≡ false → 0 < length (words text ts)
words_left text ts empty e f =
    let some : length ts ≡ 0 → ⊥ = eqb-false (length ts) 0 (sym e ∙ f) in
    omega (arith, words_length text ts, some)

-- a fault in a declaration
pub fault_read : (e : Fault) (ds : List Decl) (ws : List Word) (total : Result (List DeclTree) ℕ) (count : ℕ) → Continues (decl_trees ds) ws total → 0 < length ws → count ≡ length ds → Fails e (declaration_of ws) → Reads (Err e) (decl_trees ds) count total
fault_read fault.Syntax ds ws total count c some q f = fails_file (decl_trees ds) ws total c some f ∙ ap (λ n. Err n) (trees_length ds ∙ sym q)
fault_read fault.OutOfMemory ds ws total count c some q f = tt

pub fault_handed_on : (r : Result (Unit {0}) Fault) (e : Fault) (done : List DeclTree) (count : ℕ) (total : Result (List DeclTree) ℕ) → IsErr r × IsErrAnd r (λ x. x ≡ e) → Reads (Err e) done count total → Reads r done count total
fault_handed_on (Ok x) e done count total h k = absurd h.1
fault_handed_on (Err x) e done count total h k = subst (λ z. Reads (Err z) done count total) (sym h.1) k

pub pushed_length : (ds new : List Decl) (d : Decl) → new ≡ ds ++ d ∷ [] → length new ≡ length ds + 1
pushed_length ds new d e = ap length e ∙ length-append ds (d ∷ [])

-- one more declaration
pub declaration_goes_on : (ds : List Decl) (ws : List Word) (total : Result (List DeclTree) ℕ) (d : Decl) (rest : List Word) (new : List Decl) → Continues (decl_trees ds) ws total → 0 < length ws → declaration_of ws ≡ Some (decl_tree d, rest) → length rest < length ws → new ≡ ds ++ d ∷ [] → Continues (decl_trees new) rest total
declaration_goes_on ds ws total d rest new c some e shorter pushed =
    subst (λ l. Continues l rest total) (sym (ap decl_trees pushed ∙ decls_more ds d)) (goes_on_in_file (decl_trees ds) ws total (decl_tree d) rest c some e shorter)
