-- Statements read one after another.
use Rattle.std.proofs.Common.{◌≡◌, ℕ, suc, zero, List, [], ◌∷◌, ◌++◌, Option, Some, None, refl, ap, ◌∙◌, append_assoc, codes}
use Rattle.std.specs.Option.{option_map, option_map_or}
use Rattle.fx_early_source.specs.Reading.{puts, after, argument, ◌>>=◌}

-- these constants stand before those that were read
abbrev pub behind : List ℕ → Option (List ℕ × List ℕ) → Option (List ℕ × List ℕ)
behind front read = option_map (λ (p : List ℕ × List ℕ). (front ++ p.0, p.1)) read

pub behind-append : (front next : List ℕ) (read : Option (List ℕ × List ℕ)) → behind (front ++ next) read ≡ behind front (behind next read)
behind-append front next None = refl
behind-append front next (Some p) = ap (λ all. Some (all, p.1)) (append_assoc front next p.0)

pub puts-none : (text : List ℕ) → puts 0 text ≡ Some ([], text)
unfolding puts
puts-none text = refl

pub puts-stop : (most : ℕ) (text : List ℕ) → after (codes "__putc") text ≡ None → puts most text ≡ Some ([], text)
unfolding puts
puts-stop zero text stop = refl
puts-stop (suc most) text stop = ap (λ o. option_map_or (λ inside. argument inside >>= λ c. puts most c.1 >>= λ more. Some (c.0 ∷ more.0, more.1)) o (Some ([], text))) stop

-- the constant and the rest, as the read of one statement more makes them
one_more : (c : ℕ) (read : Option (List ℕ × List ℕ)) → (read >>= λ more. Some (c ∷ more.0, more.1)) ≡ behind (c ∷ []) read
one_more c None = refl
one_more c (Some p) = refl

pub puts-more : (most : ℕ) (text inside rest : List ℕ) (c : ℕ) → after (codes "__putc") text ≡ Some inside → argument inside ≡ Some (c, rest) → puts (suc most) text ≡ behind (c ∷ []) (puts most rest)
unfolding puts
puts-more most text inside rest c begun found =
    ap (λ o. option_map_or (λ inner. argument inner >>= λ d. puts most d.1 >>= λ more. Some (d.0 ∷ more.0, more.1)) o (Some ([], text))) begun
    ∙ ap (λ o. o >>= λ (d : ℕ × List ℕ). puts most d.1 >>= λ more. Some (d.0 ∷ more.0, more.1)) found
    ∙ one_more c (puts most rest)

pub puts-bad : (most : ℕ) (text inside : List ℕ) → after (codes "__putc") text ≡ Some inside → argument inside ≡ None → puts (suc most) text ≡ None
unfolding puts
puts-bad most text inside begun bad =
    ap (λ o. option_map_or (λ inner. argument inner >>= λ d. puts most d.1 >>= λ more. Some (d.0 ∷ more.0, more.1)) o (Some ([], text))) begun
    ∙ ap (λ o. o >>= λ (d : ℕ × List ℕ). puts most d.1 >>= λ more. Some (d.0 ∷ more.0, more.1)) bad
