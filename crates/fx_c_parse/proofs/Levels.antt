-- The levels of binary operators, as the parser's loop goes through them.
use Rattle.std.proofs.Common.{◌≡◌, ℕ, zero, suc, ◌+◌, ◌-◌, ◌<◌, List, length, Option, Some, sym, ap, ◌∙◌, subst, arith}
use Rattle.fx_c_ast.specs.declared.operator.Binop.{Binop}
use Rattle.fx_c_ast.specs.ParsedTrees.{ExprTree, BinTree}
use Rattle.fx_c_parse.specs.Words.{Word, tail}
use Rattle.fx_c_parse.specs.Reading.{◌>>=◌, Tries, turned, turns}
use Rattle.fx_c_parse.specs.Fronts.{operator_at}
use Rattle.fx_c_parse.specs.Expressions.{Reads, deeper, flat, unary_by, binary_turn_by, binary_turn, binary_at}
use Rattle.fx_c_parse.proofs.Loop.{Continues}

pub lowest_level : (budget level : ℕ) (ws : List Word) → 0 < budget → level ≡ 0 → binary_at budget level ws ≡ unary_by (binary_at (budget - 1)) budget ws
lowest_level zero level ws some none = absurd (omega (arith, some))
lowest_level (suc b) level ws some none =
    let less : b ≡ suc b - 1 = omega arith in
    ap (λ l. binary_at (suc b) l ws) none ∙ ap (λ n. unary_by (binary_at n) (suc b) ws) less

pub next_level : (budget level : ℕ) (ws : List Word) → 0 < budget → 0 < level → binary_at budget level ws ≡ (binary_at budget (level - 1) ws >>= λ x. turns (binary_turn (binary_at (budget - 1) (level - 1)) budget (level - 1)) (length x.2 + 1) (x.0, x.1) x.2 >>= λ y. Some (flat y))
next_level zero level ws some more = absurd (omega (arith, some))
next_level (suc b) zero ws some more = absurd (omega (arith, more))
next_level (suc b) (suc l) ws some more =
    let lower : b ≡ suc b - 1 = omega arith in
    let less : l ≡ suc l - 1 = omega arith in
    ap (λ n. binary_at (suc b) l ws >>= λ x. turns (binary_turn (binary_at n l) (suc b) l) (length x.2 + 1) (x.0, x.1) x.2 >>= λ y. Some (flat y)) lower
    ∙ ap (λ n. binary_at (suc b) n ws >>= λ x. turns (binary_turn (binary_at (suc b - 1) n) (suc b) n) (length x.2 + 1) (x.0, x.1) x.2 >>= λ y. Some (flat y)) less

-- after a first operand, operators of the last level may go on
pub begins_level : (budget level : ℕ) (ws : List Word) (x : ExprTree) (h : ℕ) (rest : List Word) → 0 < budget → 0 < level → binary_at budget (level - 1) ws ≡ Some (x, h, rest) → Continues (binary_turn (binary_at (budget - 1) (level - 1)) budget (level - 1)) (λ y. Some (flat y)) (x, h) rest (binary_at budget level ws)
begins_level budget level ws x h rest some more e =
    record {
      left = length rest + 1;
      enough = omega arith;
      same = sym (next_level budget level ws some more ∙ ap (λ (r : Reads). r >>= λ x. turns (binary_turn (binary_at (budget - 1) (level - 1)) budget (level - 1)) (length x.2 + 1) (x.0, x.1) x.2 >>= λ y. Some (flat y)) e);
    }

-- one more operator
pub goes_on : (below : List Word → Reads) (budget level : ℕ) (total : Reads) (x : ExprTree) (h : ℕ) (ws : List Word) (op : Binop) (mid : List Word) (y : ExprTree) (k : ℕ) (after : List Word) (m : ℕ) (z : ExprTree) → Continues (binary_turn below budget level) (λ y. Some (flat y)) (x, h) ws total → Some op ≡ operator_at level ws → mid ≡ tail ws → below mid ≡ Some (y, k, after) → deeper h k budget ≡ Some m → z ≡ BinTree op x y → length after < length ws → Continues (binary_turn below budget level) (λ y. Some (flat y)) (z, m) after total
goes_on below budget level total x h ws op mid y k after m z c found next read fits made shorter = by_count c.left c.enough c.same
  where
    right : below (tail ws) ≡ Some (y, k, after)
    right = subst (λ l. below l ≡ Some (y, k, after)) next read

    step : binary_turn below budget level (x, h) ws ≡ Tries (Some ((z, m), after))
    step =
        sym (ap (binary_turn_by below budget (x, h) ws) found)
        ∙ ap (λ (r : Reads). Tries (r >>= λ v. deeper h v.1 budget >>= λ n. Some ((BinTree op x v.0, n), v.2))) right
        ∙ ap (λ (r : Option ℕ). Tries (r >>= λ n. Some ((BinTree op x y, n), after))) fits
        ∙ ap (λ t. Tries (Some ((t, m), after))) (sym made)

    by_count : (n : ℕ) → length ws < n → (turns (binary_turn below budget level) n (x, h) ws >>= λ y. Some (flat y)) ≡ total → Continues (binary_turn below budget level) (λ y. Some (flat y)) (z, m) after total
    by_count zero lt s = absurd (omega (arith, lt))
    by_count (suc n) lt s = record { left = n; enough = omega (arith, lt, shorter); same = sym (ap (λ t. turned (turns (binary_turn below budget level) n) (x, h) ws t >>= λ y. Some (flat y)) step) ∙ s }
