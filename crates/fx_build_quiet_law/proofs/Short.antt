-- What is linked is short enough.
use Rattle.std.proofs.Common.{◌≡◌, Bool, true, false, nat_lt, refl, Ok, Err, if◌then◌else◌}
use Rattle.std.proofs.lemmas.Bool.{ltb-false}
use Rattle.fx_image.specs.declared.forms.Image.{Image}
use Rattle.fx_linker.specs.declared.error.LinkError.{LinkError}
use Rattle.fx_linker.specs.declared.error.LinkError.TheVariants.{CodeTooLong}
use Rattle.fx_linker.specs.Linked.{parts_layout, image_of}
use Rattle.fx_build_quiet_law.specs.Quiet.{LinkedAreShort}

-- what isn't refused has no cause for it
unless : (b : Bool) (e : LinkError) (x i : Image) → (if b then Err e else Ok x) ≡ Ok i → b ≡ false
unless true e x i is = absurd cc
unless false e x i is = refl

pub short : LinkedAreShort
short parts p places k i is =
    let size = (parts_layout parts).size in
    ltb-false 1048576 size
    (unless (nat_lt 1048576 size) (CodeTooLong size) (image_of parts p places k) i is)
