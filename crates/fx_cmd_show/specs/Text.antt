-- The whole text of an image, line after line. Its form is this project's own.
use Rattle.std.specs.Prelude.{ℕ, List, ◌++◌}
use Rattle.fx_image.specs.declared.forms.Image.{Image}
use Rattle.fx_cmd_show.specs.Lists.{each_line, lines_of}
use Rattle.fx_cmd_show.specs.Lines.{header, compartment_line, section_line, object_line, entry_line}
use Rattle.fx_cmd_show.specs.Lines.{stub_line, device_line, start_line}

-- the compartments with their entries
unfoldable pub code_lines : Image → List ℕ
code_lines i =
    each_line (compartment_line i.mechanism) 0 i.compartments
    ++ lines_of (entry_line i.compartments) i.entries

-- the sections with their objects
unfoldable pub data_lines : Image → List ℕ
data_lines i =
    each_line (section_line i.compartments) 0 i.sections ++ lines_of object_line i.objects

-- the gates' stubs, the owners of the devices, and where each vCPU starts
unfoldable pub gate_lines : Image → List ℕ
gate_lines i =
    lines_of (stub_line i.compartments) i.stubs
    ++ (each_line (device_line i.compartments) 0 i.owners ++ each_line start_line 0 i.starts)

unfoldable pub text_of : Image → List ℕ
text_of i = header i ++ (code_lines i ++ (data_lines i ++ gate_lines i))
