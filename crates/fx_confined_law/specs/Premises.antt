-- Images made by hand that meet the premises of the laws.
use Rattle.std.specs.Prelude.{◌≡◌, ℕ, true, List, [], ◌∷◌, ◌++◌, replicate}
use Rattle.fx_image.specs.Keys.{is_keyed}
use Rattle.fx_image.specs.Rules.{IsImage}
use Rattle.fx_image.specs.declared.forms.Comp.{Comp}
use Rattle.fx_image.specs.declared.forms.Image.{Image}
use Rattle.fx_image.specs.declared.forms.Section.{Section}
use Rattle.fx_machine_model.specs.Layout.{is_ept}
use Rattle.fx_confined_law.specs.Confined.{HasChecks, HasBytes}

-- So many HLT.
unfoldable pub halts : ℕ → List ℕ
halts n = replicate n 0xf4

-- A NOP, and then twice WRPKRU, CMP EAX with a PKRU value, and JNE to the abort stub: with b's value on the way
-- in, with a's on the way back. Then HLT, and the abort stub: MOV RAX, 4 and HLT.
abbrev pub gate : List ℕ
gate =
    0x90 ∷ 0x0f ∷ 0x01 ∷ 0xef ∷ 0x81 ∷ 0xf8 ∷ 0x38 ∷ 0xfc ∷ 0xff ∷ 0xff ∷ 0x0f ∷ 0x85 ∷ 0x10 ∷ 0 ∷ 0 ∷ 0
    ∷ 0x0f ∷ 0x01 ∷ 0xef ∷ 0x81 ∷ 0xf8 ∷ 0xc0 ∷ 0xfc ∷ 0xff ∷ 0xff ∷ 0x0f ∷ 0x85 ∷ 0x01 ∷ 0 ∷ 0 ∷ 0
    ∷ 0xf4 ∷ 0x48 ∷ 0xc7 ∷ 0xc0 ∷ 4 ∷ 0 ∷ 0 ∷ 0 ∷ 0xf4 ∷ []

-- Two pages of the compartments, and one of the runtime.
unfoldable pub gate_code : List ℕ
gate_code = halts 8192 ++ (gate ++ halts 4056)

abbrev pub compartment : ℕ → ℕ → ℕ → Comp
compartment letter start pkru = record { name = letter ∷ []; start = start; len = 4096; pkru = pkru }

-- A section of one set twice, one page.
abbrev pub section : ℕ → ℕ → ℕ → Section
section set key page = record { readers = set; writers = set; key = key; page = page; pages = 1 }

-- Compartments a and b under `light`, and one stub from a to b's entry `f`.
abbrev pub light_image : Image
light_image = record {
  version = 2;
  mechanism = 1;
  stack_pages = 1;
  threads = 8;
  scheduler = 0;
  home = 0;
  compartments = compartment 97 0 0xfffffcc0 ∷ compartment 98 4096 0xfffffc38 ∷ [];
  sections = section 1 2 0x10000 ∷ section 2 3 0x10002 ∷ section 3 4 0x10004 ∷ [];
  code = gate_code;
  literals = [];
  objects = [];
  entries = record { name = 102 ∷ []; compartment = 1; number = 0; callers = 1 } ∷ [];
  stubs = record { from = 0; to = 1; entry = 0; offset = 8192; first = 8193; second = 8208 } ∷ [];
  abort = 8224;
  owners = replicate 16 0;
  starts = record { rip = 0x400000; rsp = 0x20001fe0 } ∷ [];
}

-- Two machines a and b under `ept`.
abbrev pub ept_image : Image
ept_image = record {
  version = 2;
  mechanism = 3;
  stack_pages = 1;
  threads = 8;
  scheduler = 0;
  home = 0;
  compartments = compartment 97 0 0 ∷ compartment 98 4096 0 ∷ [];
  sections = section 1 0 0x10000 ∷ section 2 0 0x10002 ∷ section 3 0 0x10004 ∷ [];
  code = halts 12288;
  literals = [];
  objects = [];
  entries = [];
  stubs = [];
  abort = 8224;
  owners = replicate 16 0;
  starts = record { rip = 0x400000; rsp = 0x20001fe0 } ∷ record { rip = 0x400000; rsp = 0x20001fe0 } ∷ [];
}

-- The premises of the laws under keys, and of those under `ept`, are met.
pub record PremisesAreMet : Type 0 where
  pub light : IsImage light_image
  pub keyed : is_keyed light_image.mechanism ≡ true
  pub checks : HasChecks light_image
  pub bytes : HasBytes light_image
  pub machines : IsImage ept_image
  pub ept : is_ept ept_image ≡ true
