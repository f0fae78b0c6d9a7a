use Rattle.std.proofs.Common.{◌≡◌, List, [], ◌∷◌, refl}
use Rattle.fx_image.specs.Keys.{keys_below, pkru_of}
use Rattle.fx_image.specs.declared.forms.Section.{Section}

-- Two compartments under protection keys, the first of them the scheduler's: a section for each and
-- one for both. Keys 0 and 1 are free of sections, and keys from 5 on are unused.
abbrev two : List Section
two = record { readers = 1; writers = 1; key = 2; page = 0; pages = 1 }
    ∷ record { readers = 2; writers = 2; key = 3; page = 0; pages = 1 }
    ∷ record { readers = 3; writers = 3; key = 4; page = 0; pages = 1 } ∷ []

first : pkru_of two 0 0 ≡ 0xffff_fcc0
unfolding keys_below pkru_of
first = refl

second : pkru_of two 0 1 ≡ 0xffff_fc38
unfolding keys_below pkru_of
second = refl

-- the first compartment's section may be read by the second one too: its key is 4
abbrev shared : List Section
shared = record { readers = 1; writers = 1; key = 2; page = 0; pages = 1 }
    ∷ record { readers = 2; writers = 2; key = 3; page = 0; pages = 1 }
    ∷ record { readers = 3; writers = 3; key = 4; page = 0; pages = 1 }
    ∷ record { readers = 3; writers = 1; key = 5; page = 0; pages = 1 } ∷ []

first_shared : pkru_of shared 0 0 ≡ 0xffff_f0c0
unfolding keys_below pkru_of
first_shared = refl

second_shared : pkru_of shared 0 1 ≡ 0xffff_f838
unfolding keys_below pkru_of
second_shared = refl
