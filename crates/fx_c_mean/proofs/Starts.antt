-- Memory before the run.
use Rattle.std.proofs.Common.{◌≡◌, ℕ, zero, suc, ◌+◌, ◌-◌, ◌/◌, ◌%◌, ◌<◌, List, [], ◌∷◌, ◌++◌, length, map, take, drop, get_or, refl, sym, ap, ◌∙◌, arith, append_assoc}
use Rattle.std.proofs.lemmas.List.{take_more, drop_more, length-append, length-map, length-replicate}
use Rattle.std.specs.Prelude.{replicate, slice_index}
use Rattle.fx_c_ast.specs.declared.checked.TGlobal.{TGlobal}
use Rattle.fx_c_mean_blocks.specs.declared.block.Object.{Object}
use Rattle.fx_c_mean_blocks.specs.declared.block.Place.TheVariants.{Global, Literal}
use Rattle.fx_c_mean_blocks.specs.declared.value.Cell.{Cell}
use Rattle.fx_c_mean_blocks.specs.declared.value.Cell.TheVariants.{Byte}
use Rattle.fx_c_mean_blocks.specs.Blocks.{bytes_of}
use Rattle.fx_c_mean_model.specs.Programs.{Program, GlobalVariable, global_of, byte_cells, zeros, live_object, size_in, first_cells, global_objects, literal_objects}

zero_past : (n i : ℕ) → get_or (replicate n (Byte 0)) i (Byte 0) ≡ Byte 0
zero_past zero i = refl
zero_past (suc n) zero = refl
zero_past (suc n) (suc i) = zero_past n i

cell_at : (bs : List ℕ) (n i : ℕ) → get_or (byte_cells bs ++ zeros n) i (Byte 0) ≡ Byte (get_or bs i 0)
cell_at [] n i = zero_past n i
cell_at (b ∷ bs) n zero = refl
cell_at (b ∷ bs) n (suc i) = cell_at bs n i

-- one byte more
pub bytes_more : (bs : List ℕ) (size i b : ℕ) → i < size → b ≡ slice_index bs i → take (i + 1) (byte_cells bs ++ zeros (size - length bs)) ≡ take i (byte_cells bs ++ zeros (size - length bs)) ++ Byte b ∷ []
bytes_more bs size i b l e =
    let all = byte_cells bs ++ zeros (size - length bs) in
    let many : length all ≡ length bs + (size - length bs) = length-append (byte_cells bs) (zeros (size - length bs)) ∙ ap (λ (n : ℕ). n + length (zeros (size - length bs))) (length-map bs Byte) ∙ ap (λ (n : ℕ). length bs + n) (length-replicate (size - length bs) (Byte 0)) in
    let there : i < length all = omega arith in
    take_more all i (Byte 0) there ∙ ap (λ (c : Cell). take i all ++ c ∷ []) (cell_at bs (size - length bs) i ∙ ap Byte (sym e))

-- one byte more of a number
pub number_more : (cells : List Cell) (size i above : ℕ) (total : List Cell) → i < size → cells ++ bytes_of (size - i) above ≡ total → (cells ++ Byte (above % 256) ∷ []) ++ bytes_of (size - (i + 1)) (above / 256) ≡ total
number_more cells size i above total l h =
    let e : suc (size - (i + 1)) ≡ size - i = omega arith in
    append_assoc cells (Byte (above % 256) ∷ []) (bytes_of (size - (i + 1)) (above / 256)) ∙ ap (λ (n : ℕ). cells ++ bytes_of n above) e ∙ h

-- one global more
pub globals_more : (p : Program) (before after total : List Object) (gs : List TGlobal) (i n k : ℕ) (g : TGlobal) → n ≡ i → i < length gs → g ≡ get_or gs i g → after ≡ before ++ live_object (Global n) (size_in p (global_of g).ty) (first_cells (size_in p (global_of g).ty) g.init) ∷ [] → k ≡ n + 1 → before ++ global_objects p n (map global_of (drop i gs)) ≡ total → after ++ global_objects p k (map global_of (drop (i + 1) gs)) ≡ total
globals_more p before after total gs i n k g same l is made next h =
    let rest = map global_of (drop (i + 1) gs) in
    let object = live_object (Global n) (size_in p (global_of g).ty) (first_cells (size_in p (global_of g).ty) g.init) in
    let here : map global_of (drop i gs) ≡ global_of g ∷ rest = ap (map global_of) (drop_more gs i g l) ∙ ap (λ (x : TGlobal). global_of x ∷ rest) (sym is) in
    ap (λ (m : List Object). m ++ global_objects p k rest) made
    ∙ ap (λ (m : ℕ). (before ++ object ∷ []) ++ global_objects p m rest) next
    ∙ append_assoc before (object ∷ []) (global_objects p (n + 1) rest)
    ∙ ap (λ (xs : List GlobalVariable). before ++ global_objects p n xs) (sym here) ∙ h

-- one literal more
pub literals_more : (before after total : List Object) (ls : List (List ℕ)) (i n k : ℕ) (b : List ℕ) → n ≡ i → i < length ls → b ≡ get_or ls i b → after ≡ before ++ live_object (Literal n) (length b) (byte_cells b) ∷ [] → k ≡ n + 1 → before ++ literal_objects n (drop i ls) ≡ total → after ++ literal_objects k (drop (i + 1) ls) ≡ total
literals_more before after total ls i n k b same l is made next h =
    let rest = drop (i + 1) ls in
    let object = live_object (Literal n) (length b) (byte_cells b) in
    let here : drop i ls ≡ b ∷ rest = drop_more ls i b l ∙ ap (λ (x : List ℕ). x ∷ rest) (sym is) in
    ap (λ (m : List Object). m ++ literal_objects k rest) made
    ∙ ap (λ (m : ℕ). (before ++ object ∷ []) ++ literal_objects m rest) next
    ∙ append_assoc before (object ∷ []) (literal_objects (n + 1) rest)
    ∙ ap (λ (xs : List (List ℕ)). before ++ literal_objects n xs) (sym here) ∙ h
