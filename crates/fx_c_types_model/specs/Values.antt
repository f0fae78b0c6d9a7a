-- Numbers, conversions and values in checked trees.
use Rattle.std.specs.Prelude.{◌≡◌, ◌≢◌, ◌⊎◌, ℕ, ◌<◌, ◌^◌, true, Option, Some, None}
use Rattle.fx_c_ast.specs.declared.operator.IntType.{IntType}
use Rattle.fx_c_ast.specs.declared.operator.IntType.TheVariants.{Int, Uint, Long, Ulong}
use Rattle.fx_c_ast.specs.CheckedTrees.{TyTree, VoidTy, IntTy, PtrTy, ArrayTy, TExprTree, ENumber}
use Rattle.fx_c_ast.specs.CheckedTrees.{EConvert, TStmtTree, SEmpty, SBlock, SLocal, SEval, SAssign}
use Rattle.fx_c_ast.specs.CheckedTrees.{SIf, SWhile, SFor, SBreak, SContinue, SReturn, TStmtTrees}
use Rattle.fx_c_ast.specs.CheckedTrees.{NoTStmts, MoreTStmts, MaybeTStmt, NoTStmt, OneTStmt}
use Rattle.fx_c_types_rules.specs.Values.{type_of, is_zero}

-- the types that a number may have which is written, and the numbers that each holds (C11 6.4.4.1, 5)
abbrev pub IsConstant : IntType → ℕ → Type 0
IsConstant Int n = n < 2 ^ 31
IsConstant Uint n = n < 2 ^ 32
IsConstant Long n = n < 2 ^ 63
IsConstant Ulong n = n < 2 ^ 64
IsConstant i n = ⊥

-- a number fits its type
abbrev pub NumberFits : TExprTree → Type 0
NumberFits (ENumber (IntTy i) value) = IsConstant i value
NumberFits (ENumber ty value) = ⊥
NumberFits e = Unit {0}

-- what a conversion without a cast joins, to a type and from that of e: integers; a pointer that is tested; pointers of
-- which one is to void; the number 0 as a pointer; an array as a pointer to its first element (C11 6.3.2, 6.5.16.1)
abbrev pub Joins : TyTree → TyTree → TExprTree → Type 0
Joins (IntTy i) (IntTy j) e = Unit {0}
Joins (IntTy i) (PtrTy t) e = i ≡ Int
Joins (PtrTy s) (PtrTy t) e = (s ≡ VoidTy) ⊎ (t ≡ VoidTy)
Joins (PtrTy s) (IntTy i) e = is_zero e ≡ true
Joins (PtrTy s) (ArrayTy t count) e = s ≡ t
Joins s t e = ⊥

-- and the two types differ
abbrev pub ConversionFits : TExprTree → Type 0
ConversionFits (EConvert ty e) = (type_of e ≢ ty) × Joins ty (type_of e) e
ConversionFits e = Unit {0}

-- each type but an array type: what a value may have (C11 6.3.2.1, 3)
abbrev pub IsNoArray : TyTree → Type 0
IsNoArray (ArrayTy t count) = ⊥
IsNoArray t = Unit {0}

-- what a statement evaluates alone has a value
abbrev mutual
  pub IsEvaluated : TStmtTree → Type 0
  IsEvaluated SEmpty = Unit {0}
  IsEvaluated (SBlock all) = AreEvaluated all
  IsEvaluated (SLocal n init) = Unit {0}
  IsEvaluated (SEval e) = IsNoArray (type_of e)
  IsEvaluated (SAssign to e) = Unit {0}
  IsEvaluated (SIf test s other) = IsEvaluated s × MaybeEvaluated other
  IsEvaluated (SWhile test s) = IsEvaluated s
  IsEvaluated (SFor first test next s) = MaybeEvaluated first × MaybeEvaluated next × IsEvaluated s
  IsEvaluated SBreak = Unit {0}
  IsEvaluated SContinue = Unit {0}
  IsEvaluated (SReturn e) = Unit {0}

  pub MaybeEvaluated : MaybeTStmt → Type 0
  MaybeEvaluated NoTStmt = Unit {0}
  MaybeEvaluated (OneTStmt s) = IsEvaluated s

  pub AreEvaluated : TStmtTrees → Type 0
  AreEvaluated NoTStmts = Unit {0}
  AreEvaluated (MoreTStmts s rest) = IsEvaluated s × AreEvaluated rest
