-- Nodes that fit and nodes that don't, by hand.
use Rattle.std.proofs.Common.{[], lit≤, arith}
use Rattle.fx_c_ast.specs.declared.operator.IntType.TheVariants.{Int, Long}
use Rattle.fx_c_ast.specs.declared.operator.Binop.TheVariants.{Add, Sub}
use Rattle.fx_c_ast.specs.CheckedTrees.{VoidTy, IntTy, PtrTy, ArrayTy, ENumber, ELocal, EBin, EDevLoad, EDevStore}
use Rattle.fx_c_types_model.specs.Each.{Each}
use Rattle.fx_c_types_model.specs.Fits.{DeviceFits, HasElementSize, ElementFits}

last_register : DeviceFits (EDevLoad (IntTy Long) 15 511)
last_register = (lit≤ tt, lit≤ tt)

no_device : DeviceFits (EDevLoad (IntTy Long) 16 0) → ⊥
no_device h = omega (arith, h.0)

no_register : Each DeviceFits (EDevStore VoidTy 0 512 (ENumber (IntTy Long) 1)) → ⊥
no_register h = omega (arith, h.0.1)

-- int *p, *q; p - q
ints_apart : ElementFits [] (EBin (IntTy Long) Sub (ELocal (PtrTy (IntTy Int)) 0) (ELocal (PtrTy (IntTy Int)) 1))
ints_apart = (tt, lit≤ tt, lit≤ tt)

-- a pointer to rows of three ints, moved by two rows
rows : ElementFits [] (EBin (PtrTy (ArrayTy (IntTy Int) 3)) Add (ELocal (PtrTy (ArrayTy (IntTy Int) 3)) 0) (ENumber (IntTy Int) 2))
rows = (((lit≤ tt, tt), lit≤ tt, lit≤ tt), tt)

-- nothing has elements of type void, or of arrays of none
no_void : HasElementSize [] VoidTy → ⊥
no_void h = h.0

no_row : HasElementSize [] (ArrayTy (IntTy Int) 0) → ⊥
no_row h = omega (arith, h.1)
