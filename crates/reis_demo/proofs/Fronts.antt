-- The bytes of a room behind its first ones, moved to its front.
use Rattle.std.proofs.Common.{◌≡◌, ◌≤◌, ℕ, ◌+◌, ◌-◌, List, length, take, drop, ap, sym, ◌∙◌, length-drop, arith}
use Rattle.std.proofs.lemmas.List.{take_all}
use Rattle.std.proofs.lemmas.List.Edits.{take-paste}
use Rattle.std.specs.List.{copy_within}

pub moved_down : (xs : List ℕ) (n : ℕ) → n ≤ length xs → take (length xs - n) (copy_within xs n (length xs) 0) ≡ drop n xs
moved_down xs n le =
    let zero_n : 0 + (length xs - n) ≡ length xs - n = omega arith in
    let room : length xs - n ≤ length (drop n xs) = omega (arith, length-drop n xs) in
    let whole : take (length xs - n) (drop n xs) ≡ drop n xs = take_all (length xs - n) (drop n xs) (omega (arith, length-drop n xs)) in
    ap (λ k. take k (copy_within xs n (length xs) 0)) (sym zero_n) ∙ take-paste xs 0 (drop n xs) (length xs - n) (omega arith) room ∙ whole
