use Rattle.std.specs.Prelude.{ℕ, ◌<◌, ◌≤◌, ◌≡◌, ◌≢◌, List, ◌++◌, length, take, Some, None}
use Rattle.fx_x64_forms.specs.declared.inst.Inst.{Inst}
use Rattle.fx_x64_code.specs.Spelling.{spelling, IsRow, Spells}
use Rattle.fx_x64_code.specs.Decoded.{decoded}

-- What is spelled at the front is decoded, whatever follows it.
abbrev pub DecodesSpelling : Type 0
DecodesSpelling = (i : Inst) (rest : List ℕ) → IsRow i → decoded (spelling i ++ rest) ≡ Some (i, length (spelling i))

-- What is decoded is spelled at the front.
abbrev pub DecodedIsSpelled : Type 0
DecodedIsSpelled = (b : List ℕ) (i : Inst) (n : ℕ) → decoded b ≡ Some (i, n) → Spells i (take n b) × (n ≤ length b)

-- Nothing is decoded exactly where no spelling begins the bytes.
abbrev pub UndecodedIsUnspelled : Type 0
UndecodedIsUnspelled = (b : List ℕ) → decoded b ≡ None → (i : Inst) (rest : List ℕ) → IsRow i → b ≢ spelling i ++ rest

abbrev pub UnspelledIsUndecoded : Type 0
UnspelledIsUndecoded = (b : List ℕ) → ((i : Inst) (rest : List ℕ) → IsRow i → b ≢ spelling i ++ rest) → decoded b ≡ None

-- A proper prefix of a spelling decodes to nothing.
abbrev pub PrefixIsUndecoded : Type 0
PrefixIsUndecoded = (i : Inst) (n : ℕ) → IsRow i → n < length (spelling i) → decoded (take n (spelling i)) ≡ None

-- No spelling begins another: where two begin the same bytes, they are spellings of one instruction.
abbrev pub PrefixFree : Type 0
PrefixFree = (i j : Inst) (x y : List ℕ) → IsRow i → IsRow j → spelling i ++ x ≡ spelling j ++ y → i ≡ j

-- Bytes spell one instruction at most, and an instruction has one spelling.
abbrev pub OneInstruction : Type 0
OneInstruction = (i j : Inst) (bytes : List ℕ) → Spells i bytes → Spells j bytes → i ≡ j

abbrev pub OneSpelling : Type 0
OneSpelling = (i : Inst) (a b : List ℕ) → Spells i a → Spells i b → a ≡ b

-- A spelling has 1 to 10 bytes.
abbrev pub SpellingLengths : Type 0
SpellingLengths = (i : Inst) → IsRow i → (1 ≤ length (spelling i)) × (length (spelling i) ≤ 10)
