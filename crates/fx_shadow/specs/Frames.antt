-- What a call of a function takes of its stack, and where its parameters and locals stand (this
-- project's own layout).
use Rattle.std.specs.Prelude.{ℕ, ◌≤◌, ◌+◌, List, length, take, All}
use Rattle.fx_c_ast.specs.declared.checked.TStruct.{TStruct}
use Rattle.fx_c_ast.specs.declared.checked.TLocal.{TLocal}
use Rattle.fx_c_ast.specs.declared.checked.TFunction.{TFunction}
use Rattle.fx_c_ast.specs.declared.checked.TProgram.{TProgram}
use Rattle.fx_c_ast.specs.CheckedTrees.{TyTree, ty_tree, local_types, struct_types}
use Rattle.fx_c_ast.specs.Layout.{known_layouts, IsSized, StructsAreSized}
use Rattle.fx_c_ast.specs.StackUse.{depth, slots_size, locals_size, fs}
use Rattle.fx_shadow.specs.declared.frames.FrameSize.{FrameSize}
use Rattle.fx_shadow.specs.declared.frames.SlotPlace.{SlotPlace}

-- a function whose parameters and locals have sizes, and whose frame is within the limit
pub record HasFrame (structs : List TStruct) (f : TFunction) : Type 0 where
  pub sized : All (λ (l : TLocal). IsSized (known_layouts (struct_types structs)) (length structs) (ty_tree l.ty)) f.locals
  pub small : fs (struct_types structs) f ≤ 65536

-- a program of sized structs whose functions have frames
pub record HasFrames (p : TProgram) : Type 0 where
  pub structs : StructsAreSized (struct_types p.structs)
  pub functions : All (HasFrame p.structs) p.functions

-- the bytes of the slots of some locals
abbrev pub slots_of : List (List TyTree) → List TLocal → ℕ
slots_of structs locals = slots_size (known_layouts structs) (local_types locals)

abbrev pub frame_of : List (List TyTree) → TFunction → FrameSize
frame_of structs f = record { size = fs structs f; locals = locals_size structs f; depth = depth f }

-- how far below the frame pointer the slot of local i begins: behind it and the slots before it
abbrev pub slot_below : List (List TyTree) → List TLocal → ℕ → ℕ
slot_below structs locals i = slots_of structs (take (i + 1) locals)

-- what is to be known of a local at this place of the list
abbrev pub slot_of : List (List TyTree) → List TLocal → ℕ → TLocal → SlotPlace
slot_of structs locals i l = record { below = slot_below structs locals i; shared = l.shared }
