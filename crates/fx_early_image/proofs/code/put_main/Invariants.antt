use Rattle.std.proofs.Common.{◌≡◌, ◌++◌, drop}
use Rattle.std.specs.List.{flat_map}
use Rattle.fx_early_image.specs.Code.{putc_bytes, main_bytes}
use Rattle.fx_x64_forms.specs.declared.inst.Inst.TheVariants.{Ret}
use Rattle.fx_x64_code.specs.Spelling.{spelling}
use Rattle.fx_early_image.proofs.code.put_main.Given as goal

-- what is written, and what is left to write, are the whole
abbrev pub invariant-loop-byte : goal.invariant-loop-byte
invariant-loop-byte l = l.out.items ++ flat_map putc_bytes (drop l.byte-index l.constants) ++ spelling Ret ≡ l.fn.out.items ++ main_bytes l.constants
