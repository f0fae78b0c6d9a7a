use Rattle.std.proofs.Common.{◌≡◌, ℕ, ◌<◌, ◌≤◌, List, [], ◌∷◌, Some, None, map, drop, String, Global, string_bytes, codes, length, get_or, true, false, cond, arith, refl, ap, sym, ◌∙◌}
use Rattle.std.proofs.lemmas.List.{take_rest}
use Rattle.std.specs.Prelude.{bytes_eq, option_and_then}
use Rattle.fx_cmd_base.specs.Words.{Given, with_unplug, with_option, options_of}
use Rattle.fx_cmd_base.specs.Views.{given}
use Rattle.fx_cmd_base.proofs.words.Options.+with_words.Goals as goal

-- one word is no option
one : (words : List (String Global)) (o : Given) → 1 ≤ length words → length words < 2 → None ≡ options_of (map string_bytes words) o
one [] o some few = absurd (omega arith)
one (x ∷ []) o some few = refl
one (x ∷ y ∷ more) o some few = absurd (omega arith)

-- the bytes of three words and more
front : (words : List (String Global)) (a b c : String Global) → 3 ≤ length words → a ≡ get_or words 0 a → b ≡ get_or words 1 b → c ≡ get_or words 2 c
    → map string_bytes words ≡ string_bytes a ∷ string_bytes b ∷ string_bytes c ∷ map string_bytes (drop 3 words)
front [] a b c long p q r = absurd (omega arith)
front (x ∷ []) a b c long p q r = absurd (omega arith)
front (x ∷ y ∷ []) a b c long p q r = absurd (omega arith)
front (x ∷ y ∷ z ∷ more) a b c long p q r = cc

behind : (words : List (String Global)) (c : String Global) → 3 ≤ length words → c ≡ get_or words 2 c
    → map string_bytes (drop 2 words) ≡ string_bytes c ∷ map string_bytes (drop 3 words)
behind [] c long r = absurd (omega arith)
behind (x ∷ []) c long r = absurd (omega arith)
behind (x ∷ y ∷ []) c long r = absurd (omega arith)
behind (x ∷ y ∷ z ∷ more) c long r = cc

-- an option of two values, and the options behind it
of_two : (flag value next : List ℕ) (rest : List (List ℕ)) (o p : Given) → bytes_eq flag (codes "--unplug") ≡ true → Some p ≡ with_unplug value next o
    → options_of (flag ∷ value ∷ next ∷ rest) o ≡ options_of rest p
of_two flag value next rest o p is with =
    ap (λ t. cond t (option_and_then (options_of rest) (with_unplug value next o)) (option_and_then (options_of (next ∷ rest)) (with_option flag value o))) is
    ∙ ap (λ given. option_and_then (options_of rest) given) (sym with)

-- an option of one value, and the options behind it
of_one : (flag value next : List ℕ) (rest : List (List ℕ)) (o p : Given) → bytes_eq flag (codes "--unplug") ≡ false → Some p ≡ with_option flag value o
    → options_of (flag ∷ value ∷ next ∷ rest) o ≡ options_of (next ∷ rest) p
of_one flag value next rest o p is with =
    ap (λ t. cond t (option_and_then (options_of rest) (with_unplug value next o)) (option_and_then (options_of (next ∷ rest)) (with_option flag value o))) is
    ∙ ap (λ given. option_and_then (options_of (next ∷ rest)) given) (sym with)

pub returns-in-len1 : goal.returns-in-len1
returns-in-len1 t c = one c.args.words.now (given c.args.self) c.in-len1.len_at_least c.in-len1.len_below

pub returns-in_ok-options-in-len3-up : goal.returns-in_ok-options-in-len3-up
returns-in_ok-options-in-len3-up t c =
    let words = c.args.words.now in
    let flag = c.flag-item-2.result in
    let value = c.value-item-2.result in
    let next = c.next-item.result in
    let rest = map string_bytes (drop 3 words) in
    let options = given c.in_ok-options-in-len3-up.options in
    let named : bytes_eq (string_bytes flag) (codes "--unplug") ≡ true = ap (λ w. bytes_eq w (codes "--unplug")) (sym c.as_str-in-len3-up.ensures.value) ∙ sym c.eq.ensures ∙ c.if-eq.true in
    let with : Some options ≡ with_unplug (string_bytes value) (string_bytes next) (given c.args.self) =
    c.in_ok-options-in-len3-up.ensures ∙ ap (λ w. with_unplug w c.as_str-then-eq-2.result.now (given c.args.self)) c.as_str-then-eq.ensures.value ∙ ap (λ w. with_unplug (string_bytes value) w (given c.args.self)) c.as_str-then-eq-2.ensures.value in
    c.with_words.ensures
    ∙ ap (λ (ws : List (String Global)). options_of (map string_bytes ws) options) (take_rest words 3)
    ∙ sym (of_two (string_bytes flag) (string_bytes value) (string_bytes next) rest (given c.args.self) options named with)
    ∙ sym (ap (λ (ws : List (List ℕ)). options_of ws (given c.args.self)) (front words flag value next c.in-len3-up.len_at_least c.flag-item-2.is c.value-item-2.is c.next-item.is))

pub returns-in_ok-options-in-len3-up-2 : goal.returns-in_ok-options-in-len3-up-2
returns-in_ok-options-in-len3-up-2 t c =
    let words = c.args.words.now in
    let flag = c.flag-item-2.result in
    let value = c.value-item-2.result in
    let next = c.next-item.result in
    let rest = map string_bytes (drop 3 words) in
    let options = given c.in_ok-options-in-len3-up-2.options in
    let named : bytes_eq (string_bytes flag) (codes "--unplug") ≡ false = ap (λ w. bytes_eq w (codes "--unplug")) (sym c.as_str-in-len3-up.ensures.value) ∙ sym c.eq.ensures ∙ c.if-eq.false in
    let with : Some options ≡ with_option (string_bytes flag) (string_bytes value) (given c.args.self) =
    c.in_ok-options-in-len3-up-2.ensures ∙ ap (λ w. with_option w c.as_str-else-eq-2.result.now (given c.args.self)) c.as_str-else-eq.ensures.value ∙ ap (λ w. with_option (string_bytes flag) w (given c.args.self)) c.as_str-else-eq-2.ensures.value in
    c.with_words-else-eq.ensures
    ∙ ap (λ (ws : List (String Global)). options_of (map string_bytes ws) options) (take_rest words 2)
    ∙ ap (λ (ws : List (List ℕ)). options_of ws options) (behind words next c.in-len3-up.len_at_least c.next-item.is)
    ∙ sym (of_one (string_bytes flag) (string_bytes value) (string_bytes next) rest (given c.args.self) options named with)
    ∙ sym (ap (λ (ws : List (List ℕ)). options_of ws (given c.args.self)) (front words flag value next c.in-len3-up.len_at_least c.flag-item-2.is c.value-item-2.is c.next-item.is))
