-- Statements, as the parser goes into them.
use Rattle.std.proofs.Common.{◌≡◌, ℕ, zero, suc, ◌-◌, ◌<◌, List, Option, Some, Result, refl, sym, ap, ◌∙◌, subst, arith}
use Rattle.fx_c_ast.specs.ParsedTrees.{StmtTree, BlockTree, StmtTrees}
use Rattle.fx_c_parse.specs.declared.fault.Fault.{Fault}
use Rattle.fx_c_parse.specs.declared.front.StatementFront.{StatementFront}
use Rattle.fx_c_parse.specs.declared.front.StatementFront.TheVariants as front
use Rattle.fx_c_parse.specs.Words.{Word, tail}
use Rattle.fx_c_parse.specs.Reading.{◌>>=◌, Gives}
use Rattle.fx_c_parse.specs.Fronts.{statement_front}
use Rattle.fx_c_parse.specs.Statements.{leaf_of, statements_by, statement_by, statement_at}

abbrev Found : Type 0
Found = StmtTree × List Word

-- a statement, by what it begins with
pub read_as : (budget : ℕ) (ws : List Word) (f : StatementFront) → 0 < budget → f ≡ statement_front ws → statement_at budget ws ≡ statement_by (statement_at (budget - 1)) ws f
read_as zero ws f some e = absurd (omega (arith, some))
read_as (suc b) ws f some e =
    let lower : b ≡ suc b - 1 = omega arith in
    ap (statement_by (statement_at b) ws) (sym e) ∙ ap (λ n. statement_by (statement_at n) ws f) lower

-- what a reading of the words behind the first gave is what the statement is
pub read_behind : {X : Type 0} → (view : X → Found) (r : Result X Fault) (budget : ℕ) (ws mid : List Word) (f : StatementFront) (read : List Word → Option Found) → 0 < budget → f ≡ statement_front ws → mid ≡ tail ws → statement_by (statement_at (budget - 1)) ws f ≡ read (tail ws) → Gives view r (read mid) → Gives view r (statement_at budget ws)
read_behind view r budget ws mid f read some e next by gives =
    subst (Gives view r) (sym (read_as budget ws f some e ∙ by)) (subst (λ l. Gives view r (read l)) next gives)

pub block_read : (budget : ℕ) (ws mid : List Word) (ss : StmtTrees) (rest : List Word) (s : StmtTree) → 0 < budget → front.Block ≡ statement_front ws → mid ≡ tail ws → statements_by (statement_at (budget - 1)) mid ≡ Some (ss, rest) → s ≡ BlockTree ss → statement_at budget ws ≡ Some (s, rest)
block_read budget ws mid ss rest s some e next read made =
    let at_tail : statements_by (statement_at (budget - 1)) (tail ws) ≡ Some (ss, rest) = subst (λ l. statements_by (statement_at (budget - 1)) l ≡ Some (ss, rest)) next read in
    read_as budget ws front.Block some e
    ∙ ap (λ (r : Option (StmtTrees × List Word)). r >>= λ x. Some (BlockTree x.0, x.1)) at_tail
    ∙ ap (λ t. Some (t, rest)) (sym made)

leaf_is : (item : List Word → Option Found) (ws : List Word) (f : StatementFront) → (f ≡ front.Block → ⊥) → (f ≡ front.If → ⊥) → (f ≡ front.While → ⊥) → (f ≡ front.For → ⊥) → statement_by item ws f ≡ leaf_of f ws
leaf_is item ws front.Block b i w c = absurd (b refl)
leaf_is item ws front.If b i w c = absurd (i refl)
leaf_is item ws front.While b i w c = absurd (w refl)
leaf_is item ws front.For b i w c = absurd (c refl)
leaf_is item ws front.Empty b i w c = refl
leaf_is item ws front.Local b i w c = refl
leaf_is item ws front.Break b i w c = refl
leaf_is item ws front.Continue b i w c = refl
leaf_is item ws front.Return b i w c = refl
leaf_is item ws front.Simple b i w c = refl

pub leaf_read : {X : Type 0} → (view : X → Found) (r : Result X Fault) (budget : ℕ) (ws : List Word) (f g : StatementFront) → 0 < budget → f ≡ statement_front ws → g ≡ f → (f ≡ front.Block → ⊥) → (f ≡ front.If → ⊥) → (f ≡ front.While → ⊥) → (f ≡ front.For → ⊥) → Gives view r (leaf_of g ws) → Gives view r (statement_at budget ws)
leaf_read view r budget ws f g some e same b i w c gives =
    subst (Gives view r) (sym (read_as budget ws f some e ∙ leaf_is (statement_at (budget - 1)) ws f b i w c)) (subst (λ z. Gives view r (leaf_of z ws)) same gives)
