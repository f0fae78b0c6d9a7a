use Rattle.std.specs.Prelude.{ℕ, ◌+◌, List, [], ◌∷◌, length, replicate}
use Rattle.fx_image.specs.Layout.{code_start}
use Rattle.fx_image.specs.declared.forms.Comp.{Comp}
use Rattle.fx_image.specs.declared.forms.Section.{Section}
use Rattle.fx_image.specs.declared.forms.Obj.{Obj}
use Rattle.fx_image.specs.declared.forms.EntryRec.{EntryRec}
use Rattle.fx_image.specs.declared.forms.Start.{Start}
use Rattle.fx_image.specs.declared.forms.Image.{Image}
use Rattle.fx_early_image.specs.Code.{range_bytes, code_bytes}

-- The image of such a program: one compartment `a` under `call`, four stack pages, sixteen threads.

-- The one compartment's name.
abbrev pub compartment_name : List ℕ
compartment_name = 97 ∷ []

abbrev pub compartment : ℕ → Comp
compartment range = record { name = compartment_name; start = 0; len = range; pkru = 0 }

-- The one section: readers and writers are the compartment, one page at 10000000.
abbrev pub section : Section
section = record { readers = 1; writers = 1; key = 0; page = 0x1_0000; pages = 1 }

-- `.rt.a`, the compartment's table, 4,096 bytes of 0.
abbrev pub table : Obj
table = record { name = 46 ∷ 114 ∷ 116 ∷ 46 ∷ 97 ∷ []; section = 0; address = 0x1000_0000; size = 4096; initial = [] }

-- `main`, entry 0, which no compartment may call.
abbrev pub main_entry : EntryRec
main_entry = record { name = 109 ∷ 97 ∷ 105 ∷ 110 ∷ []; compartment = 0; number = 0; callers = 0 }

-- Below the 32 bytes that a stack's top keeps for the runtime, on thread 0's stack.
abbrev pub first_rsp : ℕ
first_rsp = 0x2000_4fe0

abbrev pub start : ℕ → Start
start range = record { rip = code_start + range; rsp = first_rsp }

-- The abort stub stands behind the 20 bytes of the start.
abbrev pub laid_out : ℕ → List ℕ → Image
laid_out range code = record {
  version = 2;
  mechanism = 0;
  stack_pages = 4;
  threads = 16;
  scheduler = 0;
  home = 0;
  compartments = compartment range ∷ [];
  sections = section ∷ [];
  code = code;
  literals = [];
  objects = table ∷ [];
  entries = main_entry ∷ [];
  stubs = [];
  abort = range + 20;
  owners = replicate 16 0;
  starts = start range ∷ [];
}

unfoldable pub early_image : List ℕ → Image
early_image constants = laid_out (length (range_bytes constants)) (code_bytes constants)
