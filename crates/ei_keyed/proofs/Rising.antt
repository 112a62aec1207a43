-- Places whose keys rise: what keeps them so, and where a key stands among them.
use Rattle.std.proofs.Common.{◌≡◌, ◌≢◌, ◌≤◌, ◌<◌, ◌+◌, ◌-◌, ℕ, zero, suc, eqb, Ok, Err, Result, arith, cond, Bool, true, false, ◌&&◌, List, [], ◌∷◌, ◌++◌, length, get_or, Option, Some, None, refl, sym, ap, ◌∙◌}
use Rattle.std.specs.Prelude.{position, is_some, slice_get, nat_lt, IfSome, IfNone}
use Rattle.std.specs.Result.{result_ok}
use Rattle.std.specs.List.{filter, position_or_len, items_where_true}
use Rattle.std.specs.List.Sorted.{IsSearchInRange, IsBinarySearchResult, IsNonDecreasingBy}
use Rattle.std.specs.Ordering.{nat_cmp, ordering_index}
use Rattle.std.proofs.Math.ListN.{set}
use Rattle.std.proofs.lemmas.Cmp.{ranked}
use Rattle.std.proofs.lemmas.Bool.Decides.{nat_tests}
use Rattle.std.proofs.lemmas.Bool.{eqb-true}
use Rattle.std.proofs.lemmas.List.Sorted.{IsNonDecreasingBy-from_default}
use Rattle.std.proofs.lemmas.List.{get_or_default}
use Rattle.std.proofs.lemmas.Option.{get_or_from_slice_get}
use Rattle.std.proofs.lemmas.List.Sums.{position_or_len_is}
use Rattle.ei_keyed.specs.Keyed.{RiseFrom}
use Rattle.ei_keyed.specs.Places.{is_of_key, IsPlace, HasKey, with_written}

module _ {W : Type 0} where
  from_le : (xs : List (ℕ × W)) (from i : ℕ) (d : ℕ × W) → RiseFrom from xs → i < length xs → from ≤ (get_or xs i d).0
  from_le [] from i d h lt = absurd (omega (arith, lt))
  from_le (x ∷ xs) from zero d h lt = h.0
  from_le (x ∷ xs) from (suc i) d h lt = omega (arith, h.0, from_le xs (x.0 + 1) i d h.1 (omega (arith, lt)))

  pub rises : (xs : List (ℕ × W)) (from i j : ℕ) (d : ℕ × W) → RiseFrom from xs → i < j → j < length xs → (get_or xs i d).0 < (get_or xs j d).0
  rises [] from i j d h lt within = absurd (omega (arith, within))
  rises (x ∷ xs) from i zero d h lt within = absurd (omega arith)
  rises (x ∷ xs) from zero (suc j) d h lt within = omega (arith, from_le xs (x.0 + 1) j d h.1 (omega (arith, within)))
  rises (x ∷ xs) from (suc i) (suc j) d h lt within = rises xs (x.0 + 1) i j d h.1 (omega arith) (omega (arith, within))

  pub lower : (xs : List (ℕ × W)) (from low : ℕ) → RiseFrom from xs → low ≤ from → RiseFrom low xs
  lower [] from low h le = tt
  lower (x ∷ xs) from low h le = (omega (arith, h.0), h.1)

  -- what was read at a place has its key
  pub same_key : (xs : List (ℕ × W)) (key i : ℕ) (y d : ℕ × W) → i < length xs → y ≡ get_or xs i y → key ≡ y.0 → (get_or xs i d).0 ≡ key
  same_key xs key i y d lt at is = ap (λ (z : ℕ × W). z.0) (get_or_default xs i d y lt ∙ sym at) ∙ sym is

  -- a value is put behind, written, and some go
  pub rises_push : (xs : List (ℕ × W)) (from k : ℕ) (v : W) → RiseFrom from xs → from ≤ k → ((i : ℕ) (d : ℕ × W) → i < length xs → (get_or xs i d).0 < k) → RiseFrom from (xs ++ (k, v) ∷ [])
  rises_push [] from k v h le above = (le, tt)
  rises_push (x ∷ xs) from k v h le above =
      (h.0, rises_push xs (x.0 + 1) k v h.1 (omega (arith, above 0 x (omega arith))) (λ i d lt. above (suc i) d (omega (arith, lt))))

  -- all keys are below that one, where the last is
  pub below_all : (xs : List (ℕ × W)) (k : ℕ) (y : ℕ × W) → RiseFrom 0 xs → slice_get xs (length xs - 1) ≡ Some y → y.0 < k → (i : ℕ) (d : ℕ × W) → i < length xs → (get_or xs i d).0 < k
  below_all xs k y h last lt i d within =
      let n : ℕ = length xs - 1 in
      let at : get_or xs n d ≡ y = get_or_from_slice_get xs n y d last in
      let here : i ≡ n → (get_or xs i d).0 < k = λ e. (let q : (get_or xs i d).0 ≡ y.0 = ap (λ (j : ℕ). (get_or xs j d).0) e ∙ ap (λ (z : ℕ × W). z.0) at in omega (arith, q, lt)) in
      let under : i < n → (get_or xs i d).0 < k = λ l. (let q : (get_or xs n d).0 ≡ y.0 = ap (λ (z : ℕ × W). z.0) at in omega (arith, rises xs 0 i n d h l (omega (arith, within)), q, lt)) in
      grind (arith, here, under)

  pub rises_set : (xs : List (ℕ × W)) (from i k : ℕ) (w : W) (d : ℕ × W) → RiseFrom from xs → k ≡ (get_or xs i d).0 → RiseFrom from (set xs i (k, w))
  rises_set [] from i k w d h is = tt
  rises_set (x ∷ xs) from zero k w d h is = (omega (arith, h.0, is), lower xs (x.0 + 1) (k + 1) h.1 (omega (arith, is)))
  rises_set (x ∷ xs) from (suc i) k w d h is = (h.0, rises_set xs (x.0 + 1) i k w d h.1 is)

  pub rises_filter : (p : ℕ × W → Bool) (xs : List (ℕ × W)) (from : ℕ) → RiseFrom from xs → RiseFrom from (filter p xs)
  rises_filter p [] from h = tt
  rises_filter p (x ∷ xs) from h = by (rises_filter p xs (x.0 + 1) h.1) (p x)
    where
      by : RiseFrom (x.0 + 1) (filter p xs) → (b : Bool) → RiseFrom from (cond b (x ∷ filter p xs) (filter p xs))
      by rest true = (h.0, rest)
      by rest false = lower (filter p xs) (x.0 + 1) from rest (omega (arith, h.0))

  pub rises_chosen : (bs : List Bool) (xs : List (ℕ × W)) (from : ℕ) → RiseFrom from xs → RiseFrom from (items_where_true bs xs)
  rises_chosen [] xs from h = tt
  rises_chosen (b ∷ bs) [] from h = tt
  rises_chosen (true ∷ bs) (x ∷ xs) from h = (h.0, rises_chosen bs xs (x.0 + 1) h.1)
  rises_chosen (false ∷ bs) (x ∷ xs) from h = lower (items_where_true bs xs) (x.0 + 1) from (rises_chosen bs xs (x.0 + 1) h.1) (omega (arith, h.0))

module _ {V : Type 0} where
  pub rises_written : (key : ℕ) (xs : List (ℕ × Option V)) (w : V) (from : ℕ) → RiseFrom from xs → RiseFrom from (with_written key xs w)
  rises_written key [] w from h = tt
  rises_written key (x ∷ xs) w from h = by (rises_written key xs w (x.0 + 1) h.1) (eqb key x.0) (is_some x.1) refl
    where
      by : RiseFrom (x.0 + 1) (with_written key xs w) → (b a : Bool) → eqb key x.0 ≡ b → RiseFrom from (cond (b && a) ((key, Some w) ∷ xs) (x ∷ with_written key xs w))
      by rest true true e = (omega (arith, h.0, eqb-true key x.0 e), lower xs (x.0 + 1) (key + 1) h.1 (omega (arith, eqb-true key x.0 e)))
      by rest true false e = (h.0, rest)
      by rest false a e = (h.0, rest)

  -- ---- the one place of a key

  nowhere : (test : ℕ × Option V → Bool) (xs : List (ℕ × Option V)) → ((k : ℕ) (d : ℕ × Option V) → k < length xs → test (get_or xs k d) ≡ false) → position test xs ≡ None
  nowhere test [] none = refl
  nowhere test (x ∷ xs) none =
      let all = x ∷ xs in
      let e : position_or_len test all ≡ length all = position_or_len_is test all (length all) x (omega arith) (λ k lt. none k x lt) (λ lt. absurd (omega (arith, lt))) in
      let past : nat_lt (length all) (length all) ≡ false = grind (arith, nat_tests) in
      rw (e, past) refl

  pub at_place : (xs : List (ℕ × Option V)) (key i : ℕ) (d : ℕ × Option V) → RiseFrom 0 xs → i < length xs → is_of_key key (get_or xs i d) ≡ true → IsPlace key xs i
  at_place xs key i d h lt is =
      let same : eqb key (get_or xs i d).0 ≡ true = left (eqb key (get_or xs i d).0) (is_some (get_or xs i d).1) is in
      let before : (k : ℕ) → k < i → is_of_key key (get_or xs k d) ≡ false = λ k below. (let up = rises xs 0 k i d h below lt in off (eqb key (get_or xs k d).0) (is_some (get_or xs k d).1) (grind (arith, nat_tests))) in
      let e : position_or_len (is_of_key key) xs ≡ i = position_or_len_is (is_of_key key) xs i d (omega (arith, lt)) before (λ _. is) in
      let within : nat_lt i (length xs) ≡ true = grind (arith, nat_tests) in
      rw (e, within) refl
    where
      left : (a b : Bool) → (a && b) ≡ true → a ≡ true
      left true b e = refl
      left false b e = absurd cc

      off : (a b : Bool) → a ≡ false → (a && b) ≡ false
      off a b e = rw e refl

  pub at_place_of : (xs : List (ℕ × Option V)) (key i : ℕ) (y : ℕ × Option V) → RiseFrom 0 xs → HasKey key xs i → y ≡ get_or xs i y → is_some y.1 ≡ true → IsPlace key xs i
  at_place_of xs key i y h p at some = at_place xs key i y h p.within (both (eqb key (get_or xs i y).0) (is_some (get_or xs i y).1) (let e = p.has y in grind (arith, nat_tests)) (ap (λ (z : ℕ × Option V). is_some z.1) (sym at) ∙ some))
    where
      both : (a b : Bool) → a ≡ true → b ≡ true → (a && b) ≡ true
      both a b e f = rw (e, f) refl

  -- the place of the key has no value
  pub no_value : (xs : List (ℕ × Option V)) (key i : ℕ) (y : ℕ × Option V) → RiseFrom 0 xs → HasKey key xs i → y ≡ get_or xs i y → is_some y.1 ≡ false → position (is_of_key key) xs ≡ None
  no_value xs key i y h p at none = nowhere (is_of_key key) xs (λ k d within. by k d within (eqb k i) refl)
    where
      on : (a b : Bool) → b ≡ false → (a && b) ≡ false
      on true b e = e
      on false b e = refl

      off : (a b : Bool) → a ≡ false → (a && b) ≡ false
      off a b e = rw e refl

      apart : (k : ℕ) (d : ℕ × Option V) → k < length xs → k ≢ i → (get_or xs k d).0 ≢ key
      apart k d within other = λ same.
          let below : k < i → (get_or xs k d).0 < (get_or xs i d).0 = λ l. rises xs 0 k i d h l p.within in
          let above : i < k → (get_or xs i d).0 < (get_or xs k d).0 = λ l. rises xs 0 i k d h l within in
          let at = p.has d in grind (arith, below, above)

      by : (k : ℕ) (d : ℕ × Option V) → k < length xs → (b : Bool) → eqb k i ≡ b → is_of_key key (get_or xs k d) ≡ false
      by k d within true e = on (eqb key (get_or xs k d).0) (is_some (get_or xs k d).1) (ap (λ n. is_some (get_or xs n d).1) (eqb-true k i e) ∙ ap (λ (z : ℕ × Option V). is_some z.1) (get_or_default xs i d y p.within ∙ sym at) ∙ none)
      by k d within false e = let other : k ≢ i = grind (arith, nat_tests) in
          let differs = apart k d within other in
          off (eqb key (get_or xs k d).0) (is_some (get_or xs k d).1) (grind (arith, nat_tests, differs))

  -- ---- a search by halves

  pub searched : (xs : List (ℕ × Option V)) (key : ℕ) (r : Result ℕ ℕ) → RiseFrom 0 xs → IsSearchInRange r (length xs) → IsBinarySearchResult (λ x. nat_cmp x.0 key) xs r →
      record { found : IfSome (result_ok r) (HasKey key xs); absent : IfNone (result_ok r) (position (is_of_key key) xs ≡ None) }
  searched xs key (Ok i) h within equal = record { found = record { within = within; has = λ d. ranked _ key _ (sym (equal d)) }; absent = tt }
  searched xs key (Err i) h within parted =
      let grows : (d : ℕ × Option V) → IsNonDecreasingBy (λ x. ordering_index (nat_cmp x.0 key)) xs = λ d. IsNonDecreasingBy-from_default (λ x. ordering_index (nat_cmp x.0 key)) xs d (λ i j le lt.
      let up : (get_or xs i d).0 ≤ (get_or xs j d).0 = grind (arith, rises xs 0 i j d h, λ (same : i ≡ j). ap (λ k. (get_or xs k d).0) same) in
      grind (arith, nat_tests)) in
      record {
        found = tt;
        absent = nowhere (is_of_key key) xs (λ k d lt.
            let below : k < i → (get_or xs k d).0 < key = λ l. ranked _ key _ (sym ((parted (grows d)).0 k d (omega (arith, within)) l)) in
            let above : i ≤ k → key < (get_or xs k d).0 = λ l. ranked _ key _ (sym ((parted (grows d)).1 k d l lt)) in
            off (eqb key (get_or xs k d).0) (is_some (get_or xs k d).1) (grind (arith, nat_tests, below, above)));
      }
    where
      off : (a b : Bool) → a ≡ false → (a && b) ≡ false
      off a b e = rw e refl
