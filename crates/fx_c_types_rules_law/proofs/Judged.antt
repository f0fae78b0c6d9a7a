-- Both directions at once, and that what is judged is determined.
use Rattle.std.proofs.Common.{◌≡◌, false, Result, Ok, ap}
use Rattle.fx_c_ast.specs.CheckedTrees.{NoTStmts}
use Rattle.fx_c_types_bodies.specs.Bodies.{typed, checked, checked_all}
use Rattle.fx_c_types_rules_law.specs.Laws.{ExpressionsAreJudged, StatementsAreJudged, BodiesAreJudged, ExpressionsAreDetermined, StatementsAreDetermined}
use Rattle.fx_c_types_rules_law.proofs.Ends.{ok_is, of_answer}
use Rattle.fx_c_types_rules_law.proofs.ExpressionRules.{typed_is, typed_holds}
use Rattle.fx_c_types_rules_law.proofs.StatementRules.{checked_is, checked_holds, body_is, body_holds}

pub expressions : ExpressionsAreJudged
expressions s b c e t = (λ h. typed_holds h, λ is. of_answer (typed s b e) (t, c) (typed_is s b e) is)

pub statements : StatementsAreJudged
statements s loop b c t u = (λ h. checked_holds h, λ is. of_answer (checked s loop b t) (u, c) (checked_is s loop b t) is)

pub bodies : BodiesAreJudged
bodies s b c all ts = (λ h. body_holds h, λ is. of_answer (checked_all s false b NoTStmts all) (ts, c) (body_is s b all) is)

same_pair : {A B E : Type 0} (r : Result (A × B) E) (x u : A) (y v : B) → r ≡ Ok (x, y) → r ≡ Ok (u, v) → (x ≡ u) × (y ≡ v)
same_pair r x u y v h k = let same = ok_is (x, y) (u, v) r h k in (ap (λ p. p.0) same, ap (λ p. p.1) same)

pub one_tree : ExpressionsAreDetermined
one_tree s b c d e t u h k = same_pair (typed s b e) t u c d (typed_holds h) (typed_holds k)

pub one_statement : StatementsAreDetermined
one_statement s loop b c d t u v h k = same_pair (checked s loop b t) u v c d (checked_holds h) (checked_holds k)
