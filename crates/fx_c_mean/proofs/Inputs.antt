-- Operations that take no input.
use Rattle.std.proofs.Common.{◌≡◌, Bool, true, false, not, ◌&&◌, refl}

-- a load of another register than the console's
pub other_load : (b : Bool) → b ≡ false → b && not false ≡ false
other_load false e = refl
other_load true e = cc

-- a store
pub no_load : (b : Bool) → b && not true ≡ false
no_load false = refl
no_load true = refl
