-- The runner's frames and steps, as those of the meaning: trees as plain data.
use Rattle.std.specs.Prelude.{ℕ, List, [], ◌∷◌, take, Option, Some, None, Box}
use Rattle.std.specs.Global.{Global}
use Rattle.fx_c_ast.specs.declared.checked.TStmt.{TStmt}
use Rattle.fx_c_ast.specs.CheckedTrees.{TExprTrees, NoTExprs, MoreTExprs, TStmtTree, SEmpty, SIf}
use Rattle.fx_c_ast.specs.CheckedTrees.{SWhile, SFor, MaybeTStmt, NoTStmt, OneTStmt, ty_tree}
use Rattle.fx_c_ast.specs.CheckedTrees.{texpr_tree, texpr_trees, tstmt_tree, tstmt_trees}
use Rattle.fx_c_mean_blocks.specs.declared.value.Value.{Value}
use Rattle.fx_c_mean_model.specs.States as states
use Rattle.fx_c_mean_model.specs.States.{Spot, Does, start, reach, give, begin, begin_all, follow, begin_loop, begin_body, loop_body, after_body}
use Rattle.fx_c_mean_control.specs.declared.frames.Way.{Way}
use Rattle.fx_c_mean_control.specs.declared.frames.Way.TheVariants as way
use Rattle.fx_c_mean_control.specs.declared.frames.Call.{Call}
use Rattle.fx_c_mean_control.specs.declared.frames.Values.{Values}
use Rattle.fx_c_mean_control.specs.declared.frames.Frame.{Frame}
use Rattle.fx_c_mean_control.specs.declared.frames.Frame.TheVariants as frame
use Rattle.fx_c_mean_control.specs.declared.frames.Act.{Act}
use Rattle.fx_c_mean_control.specs.declared.frames.Act.TheVariants as act
use Rattle.fx_c_mean_control.specs.declared.frames.Now.{Now}
use Rattle.fx_c_mean_control.specs.declared.frames.Now.TheVariants as now

abbrev pub maybe_of : Option (Box TStmt Global) → MaybeTStmt
maybe_of None = NoTStmt
maybe_of (Some s) = OneTStmt (tstmt_tree s.value)

-- a statement as the loop that it is
abbrev pub loop_of : TStmtTree → states.Loop
loop_of (SWhile test s) = states.While test s
loop_of (SFor first test next s) = states.For test next s
loop_of _ = states.For None NoTStmt SEmpty

-- the branches of a statement that is a choice
abbrev pub first_branch : TStmtTree → TStmtTree
first_branch (SIf test s other) = s
first_branch _ = SEmpty

abbrev pub second_branch : TStmtTree → MaybeTStmt
second_branch (SIf test s other) = other
second_branch _ = NoTStmt

abbrev pub loop_at : TStmt → states.Loop
loop_at s = loop_of (tstmt_tree s)

abbrev pub way_of : Way → states.Way
way_of way.Plainly = states.Plainly
way_of way.ByGate = states.ByGate
way_of way.First = states.First

abbrev pub call_of : Call → states.Call
call_of c = record { function = c.function; base = c.base }

abbrev pub values_of : Values → List Value
values_of v = take v.len v.items

abbrev pub frame_of : Frame → states.Frame
frame_of (frame.Loads ty) = states.Loads (ty_tree ty.now)
frame_of (frame.Applies op ty) = states.Applies op (ty_tree ty.now)
frame_of (frame.Converts from to) = states.Converts (ty_tree from.now) (ty_tree to.now)
frame_of (frame.Steps struct member) = states.Steps (ty_tree struct.now) member
frame_of (frame.Second op first b) = states.Second op (ty_tree first.now) (texpr_tree b.now)
frame_of (frame.Combines op first second v) = states.Combines op (ty_tree first.now) (ty_tree second.now) v
frame_of (frame.Decides op b) = states.Decides op (texpr_tree b.now)
frame_of frame.Truth = states.Truth
frame_of (frame.Arguments f how before more) = states.Arguments f (way_of how) (values_of before) (texpr_trees more.now)
frame_of (frame.Tells device register) = states.Tells device register
frame_of (frame.Spawns f) = states.Spawns f
frame_of frame.Switches = states.Switches
frame_of (frame.Target ty e) = states.Target (ty_tree ty.now) (texpr_tree e.now)
frame_of (frame.Into ty to) = states.Into (ty_tree ty.now) to
frame_of frame.Discards = states.Discards
frame_of (frame.Forks s) = states.Forks (first_branch (tstmt_tree s.now)) (second_branch (tstmt_tree s.now))
frame_of (frame.Tests l) = states.Tests (loop_at l.now)
frame_of frame.Answers = states.Answers
frame_of (frame.Then more) = states.Then (tstmt_trees more.now)
frame_of (frame.Enters l) = states.Enters (loop_at l.now)
frame_of (frame.Body l) = states.Body (loop_at l.now)
frame_of (frame.Third l) = states.Third (loop_at l.now)
frame_of (frame.Caller call crosses) = states.Caller (call_of call) crosses

abbrev pub frames_of : List Frame → List states.Frame
frames_of [] = []
frames_of (f ∷ fs) = frame_of f ∷ frames_of fs

abbrev pub act_of : Act → states.Act
act_of (act.Push v) = states.Push v
act_of (act.SizeOf ty) = states.SizeOf (ty_tree ty.now)
act_of (act.GlobalAddress n) = states.GlobalAddress n
act_of (act.LiteralAddress n) = states.LiteralAddress n
act_of (act.LocalAddress n) = states.LocalAddress n
act_of (act.Load ty v) = states.Load (ty_tree ty.now) v
act_of (act.Apply op ty v) = states.Apply op (ty_tree ty.now) v
act_of (act.Convert from to v) = states.Convert (ty_tree from.now) (ty_tree to.now) v
act_of (act.Step struct member v) = states.Step (ty_tree struct.now) member v
act_of (act.Combine op first second v w) = states.Combine op (ty_tree first.now) (ty_tree second.now) v w
act_of (act.Decide op b v) = states.Decide op (texpr_tree b.now) v
act_of (act.Judge v) = states.Judge v
act_of (act.Enter f how values) = states.Enter f (way_of how) (values_of values)
act_of (act.Ask device register) = states.Ask device register
act_of (act.Tell device register v) = states.Tell device register v
act_of (act.Spawn f v) = states.Spawn f v
act_of (act.Switch v) = states.Switch v
act_of act.Own = states.Self
act_of (act.Store ty to v) = states.Store (ty_tree ty.now) to v
act_of (act.ReadByte ty to v done) = states.ReadByte (ty_tree ty.now) to v done
act_of (act.WriteByte ty to v done cell) = states.WriteByte (ty_tree ty.now) to v done cell
act_of (act.Branch v s) = states.Branch v (first_branch (tstmt_tree s.now)) (second_branch (tstmt_tree s.now))
act_of (act.Test v l) = states.Test v (loop_at l.now)
act_of (act.JumpBack l) = states.JumpBack (loop_at l.now)
act_of act.Break = states.Break
act_of act.Continue = states.Continue
act_of (act.Leave v) = states.Leave v
act_of act.FallOff = states.FallOff
act_of act.Stuck = states.Stuck

-- where a thread stands that has these frames
abbrev pub spot_of : Now → List states.Frame → Spot
spot_of (now.Does a) rest = Does (act_of a) rest
spot_of (now.Starts e) rest = start (texpr_tree e.now) rest
spot_of (now.Reaches e) rest = reach (texpr_tree e.now) rest
spot_of (now.Gives v) rest = give v rest
spot_of (now.Begins s) rest = begin (tstmt_tree s.now) rest (follow rest)
spot_of (now.BeginsAll all) rest = begin_all (tstmt_trees all.now) rest (follow rest)
spot_of (now.BeginsLoop l) rest = begin_loop (loop_at l.now) rest
spot_of (now.BeginsBody l) rest = begin_body (loop_at l.now) (loop_body (loop_at l.now)) rest
spot_of (now.EndsBody l) rest = after_body (loop_at l.now) rest
spot_of now.Follows rest = follow rest

-- what a call with these arguments begins with
abbrev pub called_with : ℕ → states.Way → TExprTrees → List states.Frame → Spot
called_with f how NoTExprs rest = Does (states.Enter f how []) rest
called_with f how (MoreTExprs e more) rest = start e (states.Arguments f how [] more ∷ rest)

-- what follows the values of arguments
abbrev pub argued : ℕ → states.Way → List Value → TExprTrees → List states.Frame → Spot
argued f how values NoTExprs rest = Does (states.Enter f how values) rest
argued f how values (MoreTExprs e more) rest = start e (states.Arguments f how values more ∷ rest)

-- a frame that is done with the value that it gets
abbrev pub IsLast : Frame → Type 0
IsLast (frame.Second op first b) = ⊥
IsLast (frame.Arguments f how before more) = ⊥
IsLast (frame.Target ty e) = ⊥
IsLast _ = Unit {0}
