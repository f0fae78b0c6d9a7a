use Rattle.fx_c_lex.proofs.Ordered.{are_in_order, are_the_only, is_first_place}
use Rattle.fx_c_lex.proofs.laws.one_list_of_tokens.Goals as goal

pub returns-clause-in_order : goal.returns-clause-in_order
returns-clause-in_order c = are_in_order

pub returns-clause-only : goal.returns-clause-only
returns-clause-only c = are_the_only

pub returns-clause-first : goal.returns-clause-first
returns-clause-first c = is_first_place
