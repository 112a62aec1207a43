-- Bytes that are cut into pieces.
use Rattle.std.proofs.Common.{◌≡◌, ℕ, zero, suc, ◌+◌, ◌-◌, ◌*◌, ◌/◌, ◌%◌, ◌<◌, ◌≤◌, ◌⊎◌, inl, inr, min, List, [], ◌∷◌, ◌++◌, map, length, take, drop}
use Rattle.std.proofs.Common.{Some, refl, sym, ap, subst, ◌∙◌, arith, drop-drop, length-drop, length-append}
use Rattle.std.proofs.Math.Nat.{add-div_right, div-eq_of_lt, add-mod_right, mod-eq_of_lt}
use Rattle.std.proofs.lemmas.List.{take-append-drop, take-append-le, drop-append-le, take_all, drop_all, append-nil}
use Rattle.std.specs.List.{range_with_len}
use Rattle.std.specs.Int.{div_ceil}
use Rattle.std.specs.Prelude.{slice_get}
use Rattle.std.proofs.Math.Seq.{drop-nil}
use Rattle.ei_spec.specs.Piece.{Piece, stream}
use Rattle.ei_spec.specs.declared.handle.Handle.{Handle}
use Rattle.ei_backend.specs.Outside.{HandsOut}
use Rattle.reis_demo.specs.Generated.{piece_at, cut}

-- ---- how many pieces there are

more_if : (l n : ℕ) → 0 < n → n ≤ l → div_ceil l n ≡ suc (div_ceil (l - n) n)
more_if l n some le =
    let e : l ≡ (l - n) + n = omega arith in
    let q : l / n ≡ (l - n) / n + 1 = ap (λ (x : ℕ). x / n) e ∙ add-div_right (l - n) some in
    let r : l % n ≡ (l - n) % n = ap (λ (x : ℕ). x % n) e ∙ add-mod_right (l - n) n in
    ap (λ (x : ℕ). x + min 1 (l % n)) q ∙ ap (λ (x : ℕ). ((l - n) / n + 1) + min 1 x) r ∙ omega arith

last_if : (l n : ℕ) → 0 < l → l < n → div_ceil l n ≡ suc (div_ceil (l - n) n)
last_if l n some lt =
    let none : l - n ≡ 0 = omega arith in
    let q : l / n ≡ 0 = div-eq_of_lt lt in
    let r : l % n ≡ l = mod-eq_of_lt lt in
    let q0 : 0 / n ≡ 0 = div-eq_of_lt (omega arith) in
    let r0 : 0 % n ≡ 0 = mod-eq_of_lt (omega arith) in
    let here : div_ceil l n ≡ 1 = ap (λ (x : ℕ). x + min 1 (l % n)) q ∙ ap (λ (x : ℕ). 0 + min 1 x) r ∙ omega arith in
    let there : div_ceil 0 n ≡ 0 = ap (λ (x : ℕ). x + min 1 (0 % n)) q0 ∙ ap (λ (x : ℕ). 0 + min 1 x) r0 in
    here ∙ sym (ap suc (ap (λ (x : ℕ). div_ceil x n) none ∙ there))

le_or_lt : (n l : ℕ) → (n ≤ l) ⊎ (l < n)
le_or_lt zero l = inl (omega arith)
le_or_lt (suc n) zero = inr (omega arith)
le_or_lt (suc n) (suc l) = elim (le_or_lt n l) [ inl h ↦ inl (omega (arith, h)) | inr h ↦ inr (omega (arith, h)) ]

more_by : (l n : ℕ) → 0 < n → 0 < l → (n ≤ l) ⊎ (l < n) → div_ceil l n ≡ suc (div_ceil (l - n) n)
more_by l n some_size some (inl le) = more_if l n some_size le
more_by l n some_size some (inr lt) = last_if l n some lt

-- one piece more than of what is left behind the first
pub one_more : (l n : ℕ) → 0 < n → 0 < l → div_ceil l n ≡ suc (div_ceil (l - n) n)
one_more l n some_size some = more_by l n some_size some (le_or_lt n l)

-- ---- the pieces behind the first

piece_behind : (n k : ℕ) (bytes : List ℕ) → piece_at n bytes (k + 1) ≡ piece_at n (drop n bytes) k
piece_behind n k bytes =
    let e : n * (k + 1) ≡ n + n * k = omega arith in
    ap (λ (x : List ℕ). record { bytes = take n x; handles = [] }) (ap (λ (x : ℕ). drop x bytes) e ∙ sym (drop-drop (n * k) n bytes))

behind : (n a k : ℕ) (bytes : List ℕ) → map (piece_at n bytes) (range_with_len (a + 1) k) ≡ map (piece_at n (drop n bytes)) (range_with_len a k)
behind n a zero bytes = refl
behind n a (suc k) bytes =
    ap (λ (p : Piece). p ∷ map (piece_at n bytes) (range_with_len (a + 1 + 1) k)) (piece_behind n a bytes)
    ∙ ap (λ (ps : List Piece). piece_at n (drop n bytes) a ∷ ps) (behind n (a + 1) k bytes)

-- no bytes make no piece
pub cut_nothing : (n : ℕ) (bytes : List ℕ) → 0 < n → length bytes ≡ 0 → cut n bytes ≡ []
unfolding cut
cut_nothing n bytes some none =
    let q0 : 0 / n ≡ 0 = div-eq_of_lt some in
    let r0 : 0 % n ≡ 0 = mod-eq_of_lt some in
    let there : div_ceil 0 n ≡ 0 = ap (λ (x : ℕ). x + min 1 (0 % n)) q0 ∙ ap (λ (x : ℕ). 0 + min 1 x) r0 in
    ap (λ (k : ℕ). map (piece_at n bytes) (range_with_len 0 k)) (ap (λ (x : ℕ). div_ceil x n) none ∙ there)

-- some make a first piece, and those of the bytes behind it
pub cut_first : (n : ℕ) (bytes : List ℕ) → 0 < n → 0 < length bytes → cut n bytes ≡ record { bytes = take n bytes; handles = [] } ∷ cut n (drop n bytes)
unfolding cut
cut_first n bytes some_size some =
    let count : div_ceil (length bytes) n ≡ suc (div_ceil (length (drop n bytes)) n) =
    one_more (length bytes) n some_size some ∙ ap (λ (x : ℕ). suc (div_ceil x n)) (sym (length-drop n bytes)) in
    let start : n * 0 ≡ 0 = omega arith in
    ap (λ (k : ℕ). map (piece_at n bytes) (range_with_len 0 k)) count
    ∙ ap (λ (ps : List Piece). piece_at n bytes 0 ∷ ps) (behind n 0 (div_ceil (length (drop n bytes)) n) bytes)
    ∙ ap (λ (x : List ℕ). record { bytes = take n x; handles = [] } ∷ map (piece_at n (drop n bytes)) (range_with_len 0 (div_ceil (length (drop n bytes)) n))) (ap (λ (x : ℕ). drop x bytes) start)

-- ---- the pieces joined

joined_within : (fuel n : ℕ) (bytes : List ℕ) → 0 < n → length bytes ≤ fuel → stream (cut n bytes) ≡ bytes
unfolding stream
joined_within fuel n [] some le = ap stream (cut_nothing n [] some refl)
joined_within zero n (b ∷ bs) some le = absurd (omega (arith, le))
joined_within (suc fuel) n (b ∷ bs) some le =
    let shorter : length (drop n (b ∷ bs)) ≤ fuel = omega (arith, le, some, length-drop n (b ∷ bs)) in
    ap stream (cut_first n (b ∷ bs) some (omega arith))
    ∙ ap (λ (x : List ℕ). take n (b ∷ bs) ++ x) (joined_within fuel n (drop n (b ∷ bs)) some shorter)
    ∙ take-append-drop n (b ∷ bs)

-- the pieces joined are the bytes
pub joined_again : (n : ℕ) (bytes : List ℕ) → 0 < n → stream (cut n bytes) ≡ bytes
joined_again n bytes some = joined_within (length bytes) n bytes some (omega arith)

-- ---- the first piece is handed out

some_is : {A : Type 0} (a b : A) → Some a ≡ Some b → a ≡ b
some_is a b e = cc

-- from these bytes, where the first of them are those that were filled in
pub hands_first : (n : ℕ) (bytes left filled : List ℕ) (pieces : List Piece) (count : ℕ) (handles : List Handle) → 0 < n → Some (cut n bytes) ≡ Some pieces → left ≡ drop n bytes →
    count ≡ min n (length bytes) → take count filled ≡ take n bytes → HandsOut pieces (Some (cut n left)) (record { bytes = count; handles = 0 }) filled handles
hands_first n [] left filled pieces count handles some told l c t =
    let none : cut n [] ≡ [] = cut_nothing n [] some refl in
    let no_pieces : pieces ≡ [] = sym (some_is (cut n []) pieces told) ∙ none in
    let nothing : count ≡ 0 = omega (arith, c) in
    record {
      left = ap Some (ap (cut n) (l ∙ drop-nil n) ∙ none ∙ sym (ap (λ (ps : List Piece). drop 1 ps) no_pieces));
      ends = λ e. no_pieces;
      piece = λ e. absurd (omega (arith, e, nothing));
    }
hands_first n (b ∷ bs) left filled pieces count handles some told l c t =
    let bytes = b ∷ bs in
    let first : Piece = record { bytes = take n bytes; handles = [] } in
    let all : pieces ≡ first ∷ cut n (drop n bytes) = sym (some_is (cut n bytes) pieces told) ∙ cut_first n bytes some (omega arith) in
    record {
      left = ap Some (ap (cut n) l ∙ sym (ap (λ (ps : List Piece). drop 1 ps) all));
      ends = λ e. absurd (omega (arith, e, c, some));
      piece = λ e. ap (λ (ps : List Piece). slice_get ps 0) all ∙ ap Some (ap (λ (x : List ℕ). record { bytes = x; handles = [] }) (sym t));
    }

-- ---- what waits goes out

-- a front of the bytes that wait, before the rest: so many, or all where there is no rest
pub record GoesOut (waits rest left : List ℕ) (n count : ℕ) : Type 0 where
  pub behind : drop count waits ++ rest ≡ drop n left
  pub front : take count waits ≡ take n left
  pub many : count ≡ min n (length left)

out_long : (waits rest left : List ℕ) (n count : ℕ) → waits ++ rest ≡ left → count ≡ min (length waits) n → n ≤ length waits → GoesOut waits rest left n count
out_long waits rest left n count all c le =
    let same : count ≡ n = omega (arith, c, le) in
    let long : length left ≡ length waits + length rest = ap (λ (x : List ℕ). length x) (sym all) ∙ length-append waits rest in
    record {
      behind = ap (λ (k : ℕ). drop k waits ++ rest) same ∙ sym (drop-append-le n waits rest le) ∙ ap (drop n) all;
      front = ap (λ (k : ℕ). take k waits) same ∙ sym (take-append-le n waits rest le) ∙ ap (take n) all;
      many = omega (arith, same, long, le);
    }

out_short : (waits left : List ℕ) (n count : ℕ) → waits ≡ left → count ≡ min (length waits) n → length waits < n → GoesOut waits [] left n count
out_short waits left n count all c lt =
    let same : count ≡ length waits = omega (arith, c, lt) in
    let long : length left ≡ length waits = ap (λ (x : List ℕ). length x) (sym all) in
    record {
      behind = append-nil (drop count waits) ∙ drop_all count waits (omega (arith, same)) ∙ sym (drop_all n left (omega (arith, long, lt)));
      front = take_all count waits (omega (arith, same)) ∙ all ∙ sym (take_all n left (omega (arith, long, lt)));
      many = omega (arith, same, long, lt);
    }

out_last : (waits left : List ℕ) (n count : ℕ) → waits ≡ left → count ≡ min (length waits) n → (n ≤ length waits) ⊎ (length waits < n) → GoesOut waits [] left n count
out_last waits left n count all c (inl le) = out_long waits [] left n count (append-nil waits ∙ all) c le
out_last waits left n count all c (inr lt) = out_short waits left n count all c lt

pub goes_out : (waits rest left : List ℕ) (n count : ℕ) → waits ++ rest ≡ left → count ≡ min (length waits) n → (n ≤ length waits) ⊎ (rest ≡ []) → GoesOut waits rest left n count
goes_out waits rest left n count all c (inl le) = out_long waits rest left n count all c le
goes_out waits rest left n count all c (inr none) =
    let same : waits ≡ left = sym (append-nil waits) ∙ ap (λ (x : List ℕ). waits ++ x) (sym none) ∙ all in
    subst (λ (x : List ℕ). GoesOut waits x left n count) (sym none) (out_last waits left n count same c (le_or_lt n (length waits)))
