-- The owners of devices.
use Rattle.std.proofs.Common.{◌≡◌, ◌≤◌, ◌<◌, ℕ, zero, suc, ◌+◌, Bool, true, false, nat_lt, List, [], ◌∷◌, length, refl, arith}
use Rattle.std.specs.Prelude.{cond}
use Rattle.std.specs.List.{list_all}
use Rattle.std.proofs.lemmas.Bool.{and_from, lt-ltb}
use Rattle.fx_config.specs.declared.configuration.Compartment.{Compartment}
use Rattle.fx_linker.specs.Data.{lists, owner_from, owners_from}

chosen : (b : Bool) (x y n : ℕ) → x < n → y < n → cond b x y < n
chosen true x y n p q = p
chosen false x y n p q = q

owner_within : (device c n : ℕ) (cs : List Compartment) → 0 < n → c + length cs ≤ n → owner_from device c cs < n
owner_within device c n [] some few = some
owner_within device c n (x ∷ cs) some few =
    chosen (lists device x) c (owner_from device (c + 1) cs) n (omega arith) (owner_within device (c + 1) n cs some (omega arith))

pub owners_within : (cs : List Compartment) (device count n : ℕ) → 0 < n → length cs ≤ n → list_all (λ c. nat_lt c n) (owners_from cs device count) ≡ true
owners_within cs device zero n some few = refl
owners_within cs device (suc count) n some few =
    and_from (nat_lt (owner_from device 0 cs) n) (list_all (λ c. nat_lt c n) (owners_from cs (device + 1) count))
    (lt-ltb (owner_from device 0 cs) n (owner_within device 0 n cs some (omega arith)))
    (owners_within cs (device + 1) count n some few)
