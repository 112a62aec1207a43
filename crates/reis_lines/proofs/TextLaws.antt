-- The first line of a text, and what the others spell.
use Rattle.std.proofs.Common.{◌≡◌, ◌<◌, ◌≤◌, ◌⊎◌, inl, inr, ℕ, ◌+◌, List, [], ◌∷◌, ◌++◌, length, get_or, take, drop, refl, ap, sym, ◌∙◌, append_assoc}
use Rattle.std.proofs.Common.{length-append, length-drop, arith, Some}
use Rattle.std.proofs.lemmas.List.{append-nil, take-append-drop, length-take-le, take_all, take_at, take_more, drop_all}
use Rattle.std.specs.Prelude.{Bool, true, false, ◌==◌, ◌||◌, nat_lt, if◌then◌else◌, Option, None}
use Rattle.reis_lines.specs.Text.{has_newline, before_newline, onto, split, line_bytes, piece_before, pieces_of_lines, pieces_of, bad_line_before}
use Rattle.reis_lines.specs.Text.{bad_line_of_lines}
use Rattle.reis_lines.specs.Text.{bad_line_of}
use Rattle.reis_lines.specs.Held.{FindsNewline, line_len, line_skip}

or_false : (a b : Bool) → (a || b) ≡ false → (a ≡ false) × (b ≡ false)
or_false false b e = (refl, e)
or_false true b e = cc

pub has_newline-append : (a b : List ℕ) → has_newline a ≡ false → has_newline (a ++ b) ≡ has_newline b
has_newline-append [] b e = refl
has_newline-append (x ∷ a) b e = let h = or_false (x == 10) (has_newline a) e in rw h.0 (has_newline-append a b h.1)

pub quiet_more : (xs : List ℕ) (i : ℕ) → has_newline (take i xs) ≡ false → i < length xs → (get_or xs i 0 ≡ 10 → ⊥) → has_newline (take (i + 1) xs) ≡ false
quiet_more xs i e lt ne =
    let no : (get_or xs i 0 == 10) ≡ false = grind arith in
    rw (take_more xs i 0 lt) (has_newline-append (take i xs) (get_or xs i 0 ∷ []) e ∙ rw no refl)

onto-onto : (x : ℕ) (a : List ℕ) (ls : List (List ℕ)) → onto (x ∷ []) (onto a ls) ≡ onto (x ∷ a) ls
onto-onto x a [] = refl
onto-onto x a (l ∷ ls) = refl

onto_some : (a : List ℕ) (ls : List (List ℕ)) → onto [] (onto a ls) ≡ onto a ls
onto_some a [] = refl
onto_some a (l ∷ ls) = refl

cond_same : (t : Bool) (u v : List (List ℕ)) → onto [] u ≡ u → onto [] v ≡ v → onto [] (if t then u else v) ≡ (if t then u else v)
cond_same true u v p q = p
cond_same false u v p q = q

onto_nil : (t : List ℕ) → onto [] (split t) ≡ split t
onto_nil [] = refl
onto_nil (b ∷ bs) = cond_same (b == 10) ([] ∷ split bs) (onto (b ∷ []) (split bs)) refl (onto_some (b ∷ []) (split bs))

pub split_quiet : (a t : List ℕ) → has_newline a ≡ false → split (a ++ t) ≡ onto a (split t)
split_quiet [] t e = sym (onto_nil t)
split_quiet (x ∷ a) t e =
    let h = or_false (x == 10) (has_newline a) e in
    rw h.0 (ap (onto (x ∷ [])) (split_quiet a t h.1) ∙ onto-onto x a (split t))

-- the text begins with a line and its newline
split_line : (found : Option ℕ) (n : ℕ) (held rest : List ℕ) → found ≡ Some n → FindsNewline found held →
    split (held ++ rest) ≡ take n held ∷ split (drop (n + 1) held ++ rest)
split_line None n held rest is f = cc
split_line (Some m) n held rest is f =
    let same : m ≡ n = cc in
    let a = take m held in
    let b = drop (m + 1) held in
    let whole : held ++ rest ≡ a ++ (10 ∷ (b ++ rest)) =
    ap (λ t. t ++ rest) (sym (take-append-drop m held) ∙ ap (λ t. a ++ t) f.here) ∙ append_assoc a (10 ∷ b) rest in
    let lines : split (held ++ rest) ≡ a ∷ split (b ++ rest) =
    ap split whole ∙ split_quiet a (10 ∷ (b ++ rest)) f.before ∙ ap (λ t. t ∷ split (b ++ rest)) (append-nil a) in
    lines ∙ ap (λ k. take k held ∷ split (drop (k + 1) held ++ rest)) same

-- a line that is too long spells nothing
pub too_long : (l : List ℕ) → 131072 < length l → line_bytes l ≡ None
too_long [] lt = refl
too_long (b ∷ bs) lt = let over : nat_lt 131072 (length (b ∷ bs)) ≡ true = grind arith in rw over refl

-- and it is bad
too_long_is_bad : (l : List ℕ) (others : Option ℕ) → 131072 < length l → bad_line_before l others ≡ Some 1
too_long_is_bad [] others lt = absurd (omega arith)
too_long_is_bad (b ∷ bs) others lt = rw (too_long (b ∷ bs) lt) refl

none_onto : (a : List ℕ) (ls : List (List ℕ)) → 131072 < length a → pieces_of_lines (onto a ls) ≡ []
none_onto a [] lt = rw (too_long a lt) refl
none_onto a (l ∷ ls) lt =
    let long : 131072 < length (a ++ l) = omega (arith, length-append a l) in rw (too_long (a ++ l) long) refl

bad_onto : (a : List ℕ) (ls : List (List ℕ)) → 131072 < length a → bad_line_of_lines (onto a ls) ≡ Some 1
bad_onto a [] lt = too_long_is_bad a None lt
bad_onto a (l ∷ ls) lt =
    let long : 131072 < length (a ++ l) = omega (arith, length-append a l) in too_long_is_bad (a ++ l) (bad_line_of_lines ls) long

pub full_or : (n : ℕ) → (131073 ≤ n) ⊎ (n < 131073)
full_or n = grind arith

-- what the first line spells, and the pieces of the others behind it
pub pieces_of-first : (found : Option ℕ) (held rest : List ℕ) → FindsNewline found held →
    (found ≡ None → length held < 131073 → rest ≡ []) →
    pieces_of (held ++ rest) ≡ piece_before (line_bytes (take (line_len found held) held)) (pieces_of (drop (line_skip found held) held ++ rest))
unfolding pieces_of
pieces_of-first (Some n) held rest f ends = ap pieces_of_lines (split_line (Some n) n held rest refl f)
pieces_of-first None held rest f ends =
    let all : take (length held) held ≡ held = take_all (length held) held (omega arith) in
    let gone : drop (length held) held ≡ [] = drop_all (length held) held (omega arith) in
    rw (all, gone) (elim (full_or (length held)) [
      | inl full ↦
          let long : 131072 < length held = omega arith in
          ap pieces_of_lines (split_quiet held rest f) ∙ none_onto held (split rest) long ∙ rw (too_long held long) refl
      | inr less ↦
          let none : rest ≡ [] = ends refl less in
          rw none (ap pieces_of_lines (split_quiet held [] f) ∙ ap (λ t. piece_before (line_bytes t) []) (append-nil held))
    ])

-- the number of the first bad line: the first line's, or one more than among the others
pub bad_line_of-first : (found : Option ℕ) (held rest : List ℕ) → FindsNewline found held →
    (found ≡ None → length held < 131073 → rest ≡ []) →
    bad_line_of (held ++ rest) ≡ bad_line_before (take (line_len found held) held) (bad_line_of (drop (line_skip found held) held ++ rest))
unfolding bad_line_of
bad_line_of-first (Some n) held rest f ends = ap bad_line_of_lines (split_line (Some n) n held rest refl f)
bad_line_of-first None held rest f ends =
    let all : take (length held) held ≡ held = take_all (length held) held (omega arith) in
    let gone : drop (length held) held ≡ [] = drop_all (length held) held (omega arith) in
    rw (all, gone) (elim (full_or (length held)) [
      | inl full ↦
          let long : 131072 < length held = omega arith in
          ap bad_line_of_lines (split_quiet held rest f) ∙ bad_onto held (split rest) long ∙ sym (too_long_is_bad held _ long)
      | inr less ↦
          let none : rest ≡ [] = ends refl less in
          rw none (ap bad_line_of_lines (split_quiet held [] f) ∙ ap (λ t. bad_line_before t None) (append-nil held))
    ])

-- ---- in front of the first newline

pub spelled_none : (l bytes : List ℕ) → line_bytes l ≡ None → line_bytes l ≡ Some bytes → ⊥
spelled_none l bytes none some = cc

quiet_if : (t : Bool) (b : ℕ) (bs : List ℕ) → (b == 10) ≡ t → has_newline bs ≡ false → has_newline (if t then [] else b ∷ bs) ≡ false
quiet_if true b bs e quiet = refl
quiet_if false b bs e quiet = rw e quiet

pub before_quiet : (l : List ℕ) → has_newline (before_newline l) ≡ false
before_quiet [] = refl
before_quiet (b ∷ bs) = quiet_if (b == 10) b (before_newline bs) refl (before_quiet bs)

pub before_of_quiet : (a t : List ℕ) → has_newline a ≡ false → before_newline (a ++ 10 ∷ t) ≡ a
before_of_quiet [] t e = refl
before_of_quiet (x ∷ a) t e = let h = or_false (x == 10) (has_newline a) e in rw h.0 (ap (λ v. x ∷ v) (before_of_quiet a t h.1))

pub before_all : (a : List ℕ) → has_newline a ≡ false → before_newline a ≡ a
before_all [] e = refl
before_all (x ∷ a) e = let h = or_false (x == 10) (has_newline a) e in rw h.0 (ap (λ v. x ∷ v) (before_all a h.1))

-- a line with the newline that stands behind it
pub ended_at : (n : ℕ) (bytes : List ℕ) → drop n bytes ≡ 10 ∷ drop (n + 1) bytes → take (n + 1) bytes ≡ take n bytes ++ 10 ∷ []
ended_at n bytes here =
    let a = take n bytes in
    let t = drop (n + 1) bytes in
    let whole : bytes ≡ (a ++ 10 ∷ []) ++ t = sym (take-append-drop n bytes) ∙ ap (λ v. a ++ v) here ∙ sym (append_assoc a (10 ∷ []) t) in
    let some : n < length bytes = omega (arith, ap length here, length-drop n bytes) in
    let count : length a ≡ n = length-take-le n bytes (omega (arith, some)) in
    ap (take (n + 1)) whole ∙ take_at (a ++ 10 ∷ []) t (n + 1) (omega (arith, length-append a (10 ∷ []), count))

-- a line with its newline, in front of a text
pub split_ended : (l t : List ℕ) → l ≡ before_newline l ++ 10 ∷ [] → split (l ++ t) ≡ before_newline l ∷ split t
split_ended l t ended =
    ap (λ v. split (v ++ t)) ended ∙ ap split (append_assoc (before_newline l) (10 ∷ []) t) ∙ split_quiet (before_newline l) (10 ∷ t) (before_quiet l)
    ∙ ap (λ v. v ∷ split t) (append-nil (before_newline l))

-- a text without a newline is one line
pub split_all : (a : List ℕ) → has_newline a ≡ false → split a ≡ a ∷ []
split_all a quiet = ap split (sym (append-nil a)) ∙ split_quiet a [] quiet ∙ ap (λ v. v ∷ []) (append-nil a)
