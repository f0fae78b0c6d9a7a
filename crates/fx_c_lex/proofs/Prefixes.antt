-- A loop that counts what passes a test at the front of a list: one step.
use Rattle.std.proofs.lemmas.List.Sums.{prefix_len-drop_yes, prefix_len-drop_no, prefix_len-drop_all}

pub ruleset prefix_steps = (prefix_len-drop_yes, prefix_len-drop_no, prefix_len-drop_all)
