-- Sizes only grow, so that one too large stays so.
use Rattle.std.proofs.Common.{◌≡◌, ℕ, zero, suc, ◌+◌, ◌-◌, ◌*◌, ◌<◌, ◌≤◌, Bool, true, false, ◌&&◌, not, max, nat_eq, List, [], ◌∷◌, ◌++◌, length, get_or, lit≤, refl, sym, ap, ◌∙◌, arith, subst}
use Rattle.std.specs.Prelude.{IsTrue}
use Rattle.fx_c_ast.specs.declared.layout.Layout.{Layout}
use Rattle.fx_c_ast.specs.declared.operator.IntType.{IntType}
use Rattle.fx_c_ast.specs.declared.operator.IntType.TheVariants.{Char, Uchar, Short, Ushort, Int, Uint, Long, Ulong}
use Rattle.fx_c_ast.specs.CheckedTrees.{TyTree, VoidTy, IntTy, StructTy, PtrTy, ArrayTy}
use Rattle.fx_c_ast.specs.Layout.{integer_size, round_up, type_layout, members_end, greatest_align, members_layout}
use Rattle.fx_c_ast.proofs.Layouts.{round_from, greatest_from}
use Rattle.fx_c_types_heads.specs.Written.{has_elements}
use Rattle.fx_c_types_heads.specs.Sizes.{known, IsKnown, AreKnown, all_have_elements}

integer_positive : (i : IntType) → 1 ≤ integer_size i
integer_positive Char = lit≤ tt
integer_positive Uchar = lit≤ tt
integer_positive Short = lit≤ tt
integer_positive Ushort = lit≤ tt
integer_positive Int = lit≤ tt
integer_positive Uint = lit≤ tt
integer_positive Long = lit≤ tt
integer_positive Ulong = lit≤ tt

type_align : (f : ℕ → Layout) → ((n : ℕ) → 1 ≤ (f n).align) → (t : TyTree) → 1 ≤ (type_layout f t).align
type_align f all VoidTy = lit≤ tt
type_align f all (IntTy i) = integer_positive i
type_align f all (StructTy n) = all n
type_align f all (PtrTy t) = lit≤ tt
type_align f all (ArrayTy t count) = type_align f all t

end_from : (f : ℕ → Layout) → ((n : ℕ) → 1 ≤ (f n).align) → (at : ℕ) (ts : List TyTree) → at ≤ members_end f at ts
end_from f all at [] = omega arith
end_from f all at (t ∷ ts) =
    let next : ℕ = round_up at (type_layout f t).align + (type_layout f t).size in
    let le : at ≤ round_up at (type_layout f t).align = round_from at (type_layout f t).align (type_align f all t) in
    let more : next ≤ members_end f next ts = end_from f all next ts in
    omega arith

-- where members end is not before where some of them end
pub end_grows : (layouts : List Layout) → AreKnown layouts → (at : ℕ) (ts : List TyTree) → at ≤ members_end (known layouts) at ts
end_grows layouts all at ts = end_from (known layouts) (λ n. (all n).1) at ts

-- a struct is as long as its members
pub struct_from : (layouts : List Layout) (ts : List TyTree) → members_end (known layouts) 0 ts ≤ (members_layout (known layouts) ts).size
struct_from layouts ts = round_from (members_end (known layouts) 0 ts) (greatest_align (known layouts) 1 ts) (greatest_from (known layouts) 1 ts)

-- a struct whose members end too late is too large
pub large_end : (layouts : List Layout) → AreKnown layouts → (end : ℕ) (t : TyTree) (rest all : List TyTree) → members_end (known layouts) end (t ∷ rest) ≡ members_end (known layouts) 0 all → 67108864 < round_up end (type_layout (known layouts) t).align + (type_layout (known layouts) t).size → 67108864 < (members_layout (known layouts) all).size
large_end layouts are end t rest all same large =
    let next : ℕ = round_up end (type_layout (known layouts) t).align + (type_layout (known layouts) t).size in
    let grows : next ≤ members_end (known layouts) next rest = end_grows layouts are next rest in
    let whole : members_end (known layouts) 0 all ≤ (members_layout (known layouts) all).size = struct_from layouts all in
    let e : members_end (known layouts) next rest ≡ members_end (known layouts) 0 all = same in
    omega arith

pub large_member : (layouts : List Layout) → AreKnown layouts → (end : ℕ) (t : TyTree) (rest all : List TyTree) → members_end (known layouts) end (t ∷ rest) ≡ members_end (known layouts) 0 all → 67108864 < (type_layout (known layouts) t).size → 67108864 < (members_layout (known layouts) all).size
large_member layouts are end t rest all same large = large_end layouts are end t rest all same (omega arith)
