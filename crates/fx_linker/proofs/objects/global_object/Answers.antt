use Rattle.std.proofs.Common.{◌≤◌, length, sym, subst, arith}
use Rattle.fx_c_ast.specs.CheckedTrees.{ty_tree, struct_types}
use Rattle.fx_c_ast.specs.Layout.{known_layouts}
use Rattle.fx_c_ast.proofs.Layouts.{size_small}
use Rattle.fx_linker.proofs.objects.global_object.Goals as goal

pub overflow_cast-result-2 : goal.overflow_cast-result-2
overflow_cast-result-2 c =
    let small : c.size_of-size.result ≤ 67108864 = subst (λ n. n ≤ 67108864) (sym c.size_of-size.ensures) (size_small (known_layouts (struct_types c.args.p.now.structs)) (length c.args.p.now.structs) (ty_tree c.args.global.now.ty) c.requires.sized) in
    omega (arith, small)
