-- Each kind of refusal stands in the table once.
use Rattle.std.proofs.Common.{◌≡◌, ℕ, zero, suc, Option, Some, None, refl, sym, ap, ◌∙◌}
use Rattle.std.specs.Prelude.{slice_get}
use Rattle.fx_c_types_rules.specs.declared.fault.TypeKind.{TypeKind}
use Rattle.fx_c_types_rules.specs.declared.fault.TypeKind.TheVariants.{Twice, UnknownType, TooLarge, TooManyParameters, Initialiser, UnknownName, NotInteger, NotPointer, NotLvalue, Mismatch, Arguments, ReturnType, CrossCall, NotEntry, BreakOutside, FrameTooLong, NoMain}
use Rattle.fx_c_types_refusals_law.specs.Kinds.{kinds}
use Rattle.fx_c_types_refusals_law.specs.Laws.{KindsAreListed}

place : TypeKind → ℕ
place Twice = 0
place UnknownType = 1
place TooLarge = 2
place TooManyParameters = 3
place Initialiser = 4
place UnknownName = 5
place NotInteger = 6
place NotPointer = 7
place NotLvalue = 8
place Mismatch = 9
place Arguments = 10
place ReturnType = 11
place CrossCall = 12
place NotEntry = 13
place BreakOutside = 14
place FrameTooLong = 15
place NoMain = 16

there : (kind : TypeKind) → slice_get kinds (place kind) ≡ Some kind
unfolding place
there Twice = refl
there UnknownType = refl
there TooLarge = refl
there TooManyParameters = refl
there Initialiser = refl
there UnknownName = refl
there NotInteger = refl
there NotPointer = refl
there NotLvalue = refl
there Mismatch = refl
there Arguments = refl
there ReturnType = refl
there CrossCall = refl
there NotEntry = refl
there BreakOutside = refl
there FrameTooLong = refl
there NoMain = refl

abbrev place_of : Option TypeKind → ℕ → ℕ
place_of None other = other
place_of (Some kind) other = place kind

-- what stands at a place has that place
only : (m : ℕ) → place_of (slice_get kinds m) m ≡ m
unfolding place
only zero = refl
only (suc zero) = refl
only (suc (suc zero)) = refl
only (suc (suc (suc zero))) = refl
only (suc (suc (suc (suc zero)))) = refl
only (suc (suc (suc (suc (suc zero))))) = refl
only (suc (suc (suc (suc (suc (suc zero)))))) = refl
only (suc (suc (suc (suc (suc (suc (suc zero))))))) = refl
only (suc (suc (suc (suc (suc (suc (suc (suc zero)))))))) = refl
only (suc (suc (suc (suc (suc (suc (suc (suc (suc zero))))))))) = refl
only (suc (suc (suc (suc (suc (suc (suc (suc (suc (suc zero)))))))))) = refl
only (suc (suc (suc (suc (suc (suc (suc (suc (suc (suc (suc zero))))))))))) = refl
only (suc (suc (suc (suc (suc (suc (suc (suc (suc (suc (suc (suc zero)))))))))))) = refl
only (suc (suc (suc (suc (suc (suc (suc (suc (suc (suc (suc (suc (suc zero))))))))))))) = refl
only (suc (suc (suc (suc (suc (suc (suc (suc (suc (suc (suc (suc (suc (suc zero)))))))))))))) = refl
only (suc (suc (suc (suc (suc (suc (suc (suc (suc (suc (suc (suc (suc (suc (suc zero))))))))))))))) = refl
only (suc (suc (suc (suc (suc (suc (suc (suc (suc (suc (suc (suc (suc (suc (suc (suc zero)))))))))))))))) = refl
only (suc (suc (suc (suc (suc (suc (suc (suc (suc (suc (suc (suc (suc (suc (suc (suc (suc m))))))))))))))))) = refl

pub listed : KindsAreListed
listed kind = (place kind, there kind, λ m is. sym (only m) ∙ ap (λ k. place_of k m) is)
