-- The parts of an image, written one after the other.
use Rattle.std.proofs.Common.{◌≡◌, ℕ, List, [], ◌++◌, append_assoc}

pub joined : (o0 o1 o2 o3 o4 o5 o6 o7 o8 o9 a1 a2 a3 a4 a5 a6 a7 a8 a9 : List ℕ) → o0 ≡ [] → o1 ≡ o0 ++ a1 → o2 ≡ o1 ++ a2 → o3 ≡ o2 ++ a3 → o4 ≡ o3 ++ a4
    → o5 ≡ o4 ++ a5 → o6 ≡ o5 ++ a6 → o7 ≡ o6 ++ a7 → o8 ≡ o7 ++ a8 → o9 ≡ o8 ++ a9
    → o9 ≡ a1 ++ (a2 ++ (a3 ++ (a4 ++ (a5 ++ (a6 ++ (a7 ++ (a8 ++ a9)))))))
joined o0 o1 o2 o3 o4 o5 o6 o7 o8 o9 a1 a2 a3 a4 a5 a6 a7 a8 a9 e0 e1 e2 e3 e4 e5 e6 e7 e8 e9 =
    rw (e9, e8, e7, e6, e5, e4, e3, e2, e1, e0) (simp append_assoc)
