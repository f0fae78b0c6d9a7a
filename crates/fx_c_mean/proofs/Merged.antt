-- Where all compartments are merged into one.
use Rattle.std.proofs.Common.{refl, true, false}
use Rattle.fx_c_mean_blocks.specs.declared.block.Place.TheVariants.{Global, Literal, Local}
use Rattle.fx_c_mean.specs.Laws.{SameMerged}

pub same_merged : SameMerged
same_merged p k c (Global n) true = refl
same_merged p k c (Global n) false = refl
same_merged p k c (Literal n) true = refl
same_merged p k c (Literal n) false = refl
same_merged p k c (Local f local) true = refl
same_merged p k c (Local f local) false = refl
