-- The values that places have: what is found at a place, written there, and taken from it.
use Rattle.std.proofs.Common.{◌≡◌, ℕ, zero, suc, ◌+◌, ◌<◌, ◌≤◌, eqb, Bool, true, false, cond, ◌&&◌, List, [], ◌∷◌, ◌++◌, length, get_or, Option, Some, None, refl, ap, ◌∙◌, arith}
use Rattle.std.specs.Prelude.{find, position, is_some, nat_lt}
use Rattle.std.specs.List.{filter, position_or_len, All}
use Rattle.std.proofs.lemmas.Bool.Decides.{nat_tests}
use Rattle.std.proofs.lemmas.List.Folds.{find_at}
use Rattle.std.proofs.lemmas.Option.{slice_get_past}
use Rattle.std.proofs.Math.ListN.{set}
use Rattle.std.proofs.lemmas.List.Quantifiers.{position-Some}
use Rattle.ei_keyed.specs.Keyed.{keyed, with_value, without_key}
use Rattle.ei_keyed.specs.Places.{with_place, live, is_of_key, IsPlace, with_written}

-- none is found where none has a place
nat_lt_false : (a b : ℕ) → nat_lt a b ≡ false → b ≤ a
nat_lt_false a b e = grind (arith, nat_tests)

chosen_none : (b : Bool) (i : ℕ) → cond b (Some i) None ≡ None → b ≡ false
chosen_none true i e = absurd cc
chosen_none false i e = refl

find_none : {X : Type 0} (test : X → Bool) (xs : List X) → position test xs ≡ None → find test xs ≡ None
find_none test xs e =
    let past : nat_lt (position_or_len test xs) (length xs) ≡ false = chosen_none _ _ e in
    find_at test xs ∙ slice_get_past xs (position_or_len test xs) (nat_lt_false _ _ past)

module _ {V : Type 0} where
  -- ---- one place in front of others

  here : (key k : ℕ) (o : Option V) (rest : List (ℕ × V)) → (eqb key k && is_some o) ≡ true → keyed key (with_place k o rest) ≡ o
  here key k None rest e = by (eqb key k) e
    where
      by : (b : Bool) → (b && false) ≡ true → keyed key rest ≡ None
      by true e = absurd cc
      by false e = absurd cc
  here key k (Some v) rest e = by (eqb key k) e
    where
      by : (b : Bool) → (b && true) ≡ true → cond b (Some v) (keyed key rest) ≡ Some v
      by true e = refl
      by false e = absurd cc

  past : (key k : ℕ) (o : Option V) (rest : List (ℕ × V)) → (eqb key k && is_some o) ≡ false → keyed key (with_place k o rest) ≡ keyed key rest
  past key k None rest e = refl
  past key k (Some v) rest e = by (eqb key k) e
    where
      by : (b : Bool) → (b && true) ≡ false → cond b (Some v) (keyed key rest) ≡ keyed key rest
      by true e = absurd cc
      by false e = refl

  here_without : (key k : ℕ) (o : Option V) (rest : List (ℕ × V)) → (eqb key k && is_some o) ≡ true → rest ≡ without_key key (with_place k o rest)
  here_without key k None rest e = by (eqb key k) e
    where
      by : (b : Bool) → (b && false) ≡ true → rest ≡ without_key key rest
      by true e = absurd cc
      by false e = absurd cc
  here_without key k (Some v) rest e = by (eqb key k) e
    where
      by : (b : Bool) → (b && true) ≡ true → rest ≡ cond b rest ((k, v) ∷ without_key key rest)
      by true e = refl
      by false e = absurd cc

  past_without : (key k : ℕ) (o : Option V) (rest : List (ℕ × V)) → (eqb key k && is_some o) ≡ false → with_place k o (without_key key rest) ≡ without_key key (with_place k o rest)
  past_without key k None rest e = refl
  past_without key k (Some v) rest e = by (eqb key k) e
    where
      by : (b : Bool) → (b && true) ≡ false → (k, v) ∷ without_key key rest ≡ cond b rest ((k, v) ∷ without_key key rest)
      by true e = absurd cc
      by false e = refl

  -- ---- the first place of a key

  found_from : (key : ℕ) (xs : List (ℕ × Option V)) (i : ℕ) (d : ℕ × Option V) → i < length xs → is_of_key key (get_or xs i d) ≡ true → ((k : ℕ) → k < i → is_of_key key (get_or xs k d) ≡ false) → keyed key (live xs) ≡ (get_or xs i d).1
  found_from key [] i d lt is before = absurd (omega (arith, lt))
  found_from key (x ∷ xs) zero d lt is before = here key x.0 x.1 (live xs) is
  found_from key (x ∷ xs) (suc i) d lt is before =
      past key x.0 x.1 (live xs) (before 0 (omega arith)) ∙ found_from key xs i d (omega (arith, lt)) is (λ k below. before (suc k) (omega arith))

  pub found : (key : ℕ) (xs : List (ℕ × Option V)) (i : ℕ) (d : ℕ × Option V) → IsPlace key xs i → keyed key (live xs) ≡ (get_or xs i d).1
  found key xs i d e = let h = position-Some (is_of_key key) xs i d e in found_from key xs i d h.0 h.1 h.2

  pub place_has : (key : ℕ) (xs : List (ℕ × Option V)) (i : ℕ) (d : ℕ × Option V) → IsPlace key xs i → (eqb key (get_or xs i d).0 && is_some (get_or xs i d).1) ≡ true
  place_has key xs i d e = (position-Some (is_of_key key) xs i d e).1

  pub place_within : (key : ℕ) (xs : List (ℕ × Option V)) (i : ℕ) → IsPlace key xs i → i < length xs
  place_within key [] i e = absurd cc
  place_within key (x ∷ xs) i e = (position-Some (is_of_key key) (x ∷ xs) i x e).0

  taken_from : (key k : ℕ) (xs : List (ℕ × Option V)) (i : ℕ) (d : ℕ × Option V) → i < length xs → is_of_key key (get_or xs i d) ≡ true → ((k : ℕ) → k < i → is_of_key key (get_or xs k d) ≡ false) →
      live (set xs i (k, None)) ≡ without_key key (live xs)
  taken_from key k [] i d lt is before = absurd (omega (arith, lt))
  taken_from key k (x ∷ xs) zero d lt is before = here_without key x.0 x.1 (live xs) is
  taken_from key k (x ∷ xs) (suc i) d lt is before =
      ap (with_place x.0 x.1) (taken_from key k xs i d (omega (arith, lt)) is (λ k below. before (suc k) (omega arith))) ∙ past_without key x.0 x.1 (live xs) (before 0 (omega arith))

  -- its value is taken out
  pub taken : (key k : ℕ) (xs : List (ℕ × Option V)) (i : ℕ) (d : ℕ × Option V) → IsPlace key xs i → live (set xs i (k, None)) ≡ without_key key (live xs)
  taken key k xs i d e = let h = position-Some (is_of_key key) xs i d e in taken_from key k xs i d h.0 h.1 h.2

  written_from : (key : ℕ) (w : V) (xs : List (ℕ × Option V)) (i : ℕ) (d : ℕ × Option V) → i < length xs → is_of_key key (get_or xs i d) ≡ true → ((k : ℕ) → k < i → is_of_key key (get_or xs k d) ≡ false) →
      set xs i (key, Some w) ≡ with_written key xs w
  written_from key w [] i d lt is before = absurd (omega (arith, lt))
  written_from key w (x ∷ xs) zero d lt is before = rw is refl
  written_from key w (x ∷ xs) (suc i) d lt is before = rw (before 0 (omega arith)) (ap (λ ys. x ∷ ys) (written_from key w xs i d (omega (arith, lt)) is (λ k below. before (suc k) (omega arith))))

  -- a value is written there
  pub written : (key : ℕ) (w : V) (xs : List (ℕ × Option V)) (i : ℕ) (d : ℕ × Option V) → IsPlace key xs i → set xs i (key, Some w) ≡ with_written key xs w
  written key w xs i d e = let h = position-Some (is_of_key key) xs i d e in written_from key w xs i d h.0 h.1 h.2

  written_here : (key k : ℕ) (w : V) (o : Option V) (rest : List (ℕ × V)) → (eqb key k && is_some o) ≡ true → (key, w) ∷ rest ≡ with_value key (with_place k o rest) w
  written_here key k w None rest e = by (eqb key k) e
    where
      by : (b : Bool) → (b && false) ≡ true → (key, w) ∷ rest ≡ with_value key rest w
      by true e = absurd cc
      by false e = absurd cc
  written_here key k w (Some v) rest e = by (eqb key k) e
    where
      by : (b : Bool) → (b && true) ≡ true → (key, w) ∷ rest ≡ cond b ((key, w) ∷ rest) ((k, v) ∷ with_value key rest w)
      by true e = refl
      by false e = absurd cc

  written_past : (key k : ℕ) (w : V) (o : Option V) (rest : List (ℕ × V)) → (eqb key k && is_some o) ≡ false → with_place k o (with_value key rest w) ≡ with_value key (with_place k o rest) w
  written_past key k w None rest e = refl
  written_past key k w (Some v) rest e = by (eqb key k) e
    where
      by : (b : Bool) → (b && true) ≡ false → (k, v) ∷ with_value key rest w ≡ cond b ((key, w) ∷ rest) ((k, v) ∷ with_value key rest w)
      by true e = absurd cc
      by false e = refl

  -- the entries after the write
  pub live_written : (key : ℕ) (xs : List (ℕ × Option V)) (w : V) → live (with_written key xs w) ≡ with_value key (live xs) w
  live_written key [] w = refl
  live_written key (x ∷ xs) w = by (live_written key xs w) (is_of_key key x) refl
    where
      by : live (with_written key xs w) ≡ with_value key (live xs) w → (b : Bool) → is_of_key key x ≡ b → live (cond b ((key, Some w) ∷ xs) (x ∷ with_written key xs w)) ≡ with_value key (live (x ∷ xs)) w
      by rest true e = written_here key x.0 w x.1 (live xs) e
      by rest false e = ap (with_place x.0 x.1) rest ∙ written_past key x.0 w x.1 (live xs) e

  -- ---- no place of a key

  absent : (key : ℕ) (xs : List (ℕ × Option V)) → find (is_of_key key) xs ≡ None → keyed key (live xs) ≡ None
  absent key [] e = refl
  absent key (x ∷ xs) e = by (absent key xs) (is_of_key key x) refl e
    where
      by : (find (is_of_key key) xs ≡ None → keyed key (live xs) ≡ None) → (b : Bool) → is_of_key key x ≡ b → cond b (Some x) (find (is_of_key key) xs) ≡ None → keyed key (live (x ∷ xs)) ≡ None
      by rest true is e = absurd cc
      by rest false is e = past key x.0 x.1 (live xs) is ∙ rest e

  pub unfound : (key : ℕ) (xs : List (ℕ × Option V)) → position (is_of_key key) xs ≡ None → keyed key (live xs) ≡ None
  unfound key xs e = absent key xs (find_none (is_of_key key) xs e)

  -- ---- how many there are

  pub length_written : (key : ℕ) (xs : List (ℕ × V)) (w : V) → length (with_value key xs w) ≡ length xs
  length_written key [] w = refl
  length_written key (x ∷ xs) w = by (length_written key xs w) (eqb key x.0)
    where
      by : length (with_value key xs w) ≡ length xs → (b : Bool) → length (cond b ((key, w) ∷ xs) (x ∷ with_value key xs w)) ≡ length (x ∷ xs)
      by rest true = refl
      by rest false = ap suc rest

  pub length_without : (key : ℕ) (xs : List (ℕ × V)) (v : V) → keyed key xs ≡ Some v → length (without_key key xs) + 1 ≡ length xs
  length_without key [] v e = absurd cc
  length_without key (x ∷ xs) v e = by (length_without key xs v) (eqb key x.0) e
    where
      by : (keyed key xs ≡ Some v → length (without_key key xs) + 1 ≡ length xs) → (b : Bool) → cond b (Some x.1) (keyed key xs) ≡ Some v → length (cond b xs (x ∷ without_key key xs)) + 1 ≡ length (x ∷ xs)
      by rest true e = omega arith
      by rest false e = let less = rest e in omega (arith, less)

  pub without_none : (key : ℕ) (xs : List (ℕ × V)) → keyed key xs ≡ None → without_key key xs ≡ xs
  without_none key [] e = refl
  without_none key (x ∷ xs) e = by (without_none key xs) (eqb key x.0) e
    where
      by : (keyed key xs ≡ None → without_key key xs ≡ xs) → (b : Bool) → cond b (Some x.1) (keyed key xs) ≡ None → cond b xs (x ∷ without_key key xs) ≡ x ∷ xs
      by rest true e = absurd cc
      by rest false e = ap (λ ys. x ∷ ys) (rest e)

  -- ---- more places, and fewer

  push_place : (k key : ℕ) (v : V) (o : Option V) (rest : List (ℕ × V)) → with_place k o (rest ++ (key, v) ∷ []) ≡ with_place k o rest ++ (key, v) ∷ []
  push_place k key v None rest = refl
  push_place k key v (Some w) rest = refl

  pub pushed : (key : ℕ) (v : V) (xs : List (ℕ × Option V)) → live (xs ++ (key, Some v) ∷ []) ≡ live xs ++ (key, v) ∷ []
  pushed key v [] = refl
  pushed key v (x ∷ xs) = ap (with_place x.0 x.1) (pushed key v xs) ∙ push_place x.0 key v x.1 (live xs)

  pub length_push : (key : ℕ) (v : V) (xs : List (ℕ × V)) → length (xs ++ (key, v) ∷ []) ≡ length xs + 1
  length_push key v [] = omega arith
  length_push key v (x ∷ xs) = let rest = length_push key v xs in omega (arith, rest)

  -- whether the place has a value that is kept
  abbrev pub keeps : (V → Bool) → Option V → Bool
  keeps kept None = false
  keeps kept (Some v) = kept v

  filter_place : (kept : V → Bool) (k : ℕ) (o : Option V) (xs : List (ℕ × Option V)) (rest : List (ℕ × V)) → live xs ≡ filter (λ x. kept x.1) rest →
      live (cond (keeps kept o) ((k, o) ∷ xs) xs) ≡ filter (λ x. kept x.1) (with_place k o rest)
  filter_place kept k None xs rest e = e
  filter_place kept k (Some v) xs rest e = by (kept v)
    where
      by : (b : Bool) → live (cond b ((k, Some v) ∷ xs) xs) ≡ cond b ((k, v) ∷ filter (λ x. kept x.1) rest) (filter (λ x. kept x.1) rest)
      by true = ap (λ ys. (k, v) ∷ ys) e
      by false = e

  pub filtered : (kept : V → Bool) (xs : List (ℕ × Option V)) → live (filter (λ x. keeps kept x.1) xs) ≡ filter (λ x. kept x.1) (live xs)
  filtered kept [] = refl
  filtered kept (x ∷ xs) = filter_place kept x.0 x.1 (filter (λ x. keeps kept x.1) xs) (live xs) (filtered kept xs)

  close_place : (k : ℕ) (o : Option V) (xs : List (ℕ × Option V)) (rest : List (ℕ × V)) → live xs ≡ rest → live (cond (is_some o) ((k, o) ∷ xs) xs) ≡ with_place k o rest
  close_place k None xs rest e = e
  close_place k (Some v) xs rest e = ap (λ ys. (k, v) ∷ ys) e

  pub closed_up : (xs : List (ℕ × Option V)) → live (filter (λ x. is_some x.1) xs) ≡ live xs
  closed_up [] = refl
  closed_up (x ∷ xs) = close_place x.0 x.1 (filter (λ x. is_some x.1) xs) (live xs) (closed_up xs)

  -- no more have a value than there are
  live_place : (k : ℕ) (o : Option V) (xs : List (ℕ × V)) (n : ℕ) → length xs ≤ n → length (with_place k o xs) ≤ n + 1
  live_place k None xs n le = omega (arith, le)
  live_place k (Some v) xs n le = omega (arith, le)

  pub live_le : (xs : List (ℕ × Option V)) → length (live xs) ≤ length xs
  live_le [] = omega arith
  live_le (x ∷ xs) = let one = live_place x.0 x.1 (live xs) (length xs) (live_le xs) in omega (arith, one)

  -- where all have one
  valued : (k : ℕ) (o : Option V) (xs : List (ℕ × Option V)) → is_some o ≡ true → length (live xs) ≡ length xs → length (live ((k, o) ∷ xs)) ≡ length xs + 1
  valued k None xs s e = absurd cc
  valued k (Some v) xs s e = omega (arith, e)

  pub all_valued : (xs : List (ℕ × Option V)) → All (λ x. is_some x.1 ≡ true) xs → length (live xs) ≡ length xs
  all_valued [] h = refl
  all_valued (x ∷ xs) h = let one = valued x.0 x.1 xs (h 0 x (omega arith)) (all_valued xs (λ k d lt. h (suc k) d (omega (arith, lt)))) in omega (arith, one)
