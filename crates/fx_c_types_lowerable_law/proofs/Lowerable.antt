-- A checked program of texts has all that its lowering takes.
use Rattle.std.proofs.Common.{ℕ, ◌≤◌, List, length, get_or, arith}
use Rattle.std.specs.Prelude.{All}
use Rattle.fx_c_ast.specs.declared.checked.TFunction.{TFunction}
use Rattle.fx_c_ast.specs.declared.checked.TProgram.{TProgram}
use Rattle.fx_c_ast.specs.CheckedTrees.{struct_types}
use Rattle.fx_c_ast.specs.Layout.{StructsAreSized}
use Rattle.fx_shadow.specs.Frames.{HasFrame}
use Rattle.fx_c_types.specs.declared.program.SourceFile.{SourceFile}
use Rattle.fx_c_types.specs.ProgramView.{declarations, program_tree}
use Rattle.fx_c_types.specs.WellTyped.{WellTyped}
use Rattle.fx_c_types_model.specs.Lowerable.{IsLowerableFunction, IsLowerable}
use Rattle.fx_c_types_law.proofs.Programs.{IsAccepted}
use Rattle.fx_c_types_law.proofs.Facts.{accepted_is, sized_structs, sized_globals, framed, few, few_params, jumps, main_there, main_starts}
use Rattle.fx_c_types_trees_law.proofs.Programs.{IsRightProgram}
use Rattle.fx_c_types_trees_law.proofs.Facts.{right_program, globals_are_named, members_are_named, functions_are_named}
use Rattle.fx_c_types_texts_law.specs.Texts.{AreFilesOf, bytes_of}
use Rattle.fx_c_types_texts_law.proofs.Numbers.{literals_few, bodies_right}
use Rattle.fx_c_types_texts_law.proofs.Devices.{devices_fit}
use Rattle.fx_c_types_texts_law.proofs.Elements.{elements_fit}
use Rattle.fx_c_types_lowerable_law.proofs.Layouts.{members_inside}
use Rattle.fx_c_types_lowerable_law.proofs.Structs.{structs_bytes}
use Rattle.fx_c_types_lowerable_law.proofs.Programs.{numbers_fit, conversions_fit, values_whole, nodes_few, declarations_few}

module _ (texts : List (List ℕ)) (files : List SourceFile) (p : TProgram) (are : AreFilesOf texts files) (small : bytes_of texts ≤ 67108864) (is : WellTyped files p) where
  count : ℕ
  count = length (declarations files)

  has : IsAccepted (length (declarations files)) (program_tree p)
  has = accepted_is files p is

  right : IsRightProgram (program_tree p)
  right = right_program files p is

  function_lowerable : All (IsLowerableFunction p) p.functions
  function_lowerable k d less =
      let f : TFunction = get_or p.functions k d in
      let named = functions_are_named p right k d less in
      let frame : HasFrame p.structs f = (framed p (length (declarations files)) has).functions k d less in
      record {
        few_params = few_params p (length (declarations files)) has k d less;
        params = named.2;
        locals = λ j l within. (frame.sized j l within, named.3 j l within);
        answer = named.1;
        named = named.0;
        frame = frame.small;
        right = bodies_right texts files p are small is k d less;
        jumps = jumps p (length (declarations files)) has k d less;
        values = values_whole texts files p are is k d less;
        numbers = numbers_fit texts files p are is k d less;
        conversions = conversions_fit texts files p are is k d less;
        devices = devices_fit texts files p are is k d less;
        elements = elements_fit texts files p are is k d less;
      }

  pub lowerable : IsLowerable p
  lowerable =
      let sized : StructsAreSized (struct_types p.structs) = sized_structs p (length (declarations files)) has in
      let counts = few p (length (declarations files)) has in
      record {
        sized = sized;
        bytes = structs_bytes texts files p are is;
        inside = members_inside (struct_types p.structs) sized;
        members = members_are_named p right;
        globals = λ k d less. (sized_globals p (length (declarations files)) has k d less, globals_are_named p right k d less);
        functions = function_lowerable;
        main = main_there p (length (declarations files)) has;
        starts = λ d. (main_starts p (length (declarations files)) has d).0;
        nodes = omega (arith, nodes_few texts files p are is, small);
        literals = omega (arith, literals_few texts files p are is, small);
        few_globals = omega (arith, counts.0, declarations_few texts files are, small);
        few_functions = omega (arith, counts.1, declarations_few texts files are, small);
      }
