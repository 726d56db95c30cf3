-- The first places of a list, copied over zeros.
use Rattle.std.proofs.Common.{◌≡◌, ℕ, ◌-◌, min, List, ◌++◌, length, take, drop, replicate, ap, ◌∙◌, arith}
use Rattle.std.proofs.lemmas.List.{drop-replicate, take_min}
use Rattle.replay.specs.Runs.{front}

pub copied : (xs ys : List ℕ) (n : ℕ) → n ≡ min 256 (length xs) → ys ≡ take n xs → ys ++ drop n (replicate 256 0) ≡ front xs
copied xs ys n e same =
    let left : 256 - n ≡ 256 - length xs = omega arith in
    ap (λ zs. zs ++ drop n (replicate 256 0)) (same ∙ ap (λ k. take k xs) e ∙ take_min 256 xs)
    ∙ ap (λ zs. take 256 xs ++ zs) (drop-replicate n 256 0 ∙ ap (λ k. replicate k 0) left)
