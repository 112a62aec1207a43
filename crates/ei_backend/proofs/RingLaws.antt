-- How large a grown ring is.
use Rattle.std.proofs.Common.{◌≡◌, ◌≢◌, ℕ, zero, suc, ◌+◌, ◌*◌, ◌/◌, ◌^◌, ◌<◌, ◌≤◌, ◌⊎◌, inl, inr, refl, sym, ap, ◌∙◌, arith}
use Rattle.std.proofs.lemmas.Bool.{lt-ltb, le-ltb, cases_lt}
use Rattle.std.proofs.Math.Nat.{pow-suc}
use Rattle.ei_backend.specs.Ring.{first_capacity, doubled, grown}

-- ---- one doubling more, or none

pub doubled_on : (k wanted capacity : ℕ) → capacity < wanted → doubled (suc k) wanted capacity ≡ doubled k wanted (2 * capacity)
unfolding doubled
doubled_on k wanted capacity less = rw (lt-ltb capacity wanted less) refl

pub doubled_none : (k wanted capacity : ℕ) → wanted ≤ capacity → doubled k wanted capacity ≡ capacity
unfolding doubled
doubled_none zero wanted capacity le = refl
doubled_none (suc k) wanted capacity le = rw (le-ltb capacity wanted le) refl

doubled_zero : (wanted capacity : ℕ) → doubled zero wanted capacity ≡ capacity
unfolding doubled
doubled_zero wanted capacity = refl

twice : (capacity j : ℕ) → 2 * capacity * 2 ^ j ≡ capacity * 2 ^ suc j
twice capacity j = rw pow-suc (omega arith)

one_times : (capacity j : ℕ) → capacity ≤ capacity * 2 ^ j
one_times capacity zero = omega arith
one_times capacity (suc j) = omega (arith, one_times capacity j, twice capacity j)

-- ---- what doubling gives

abbrev IsDoubled : ℕ → ℕ → Type 0
IsDoubled capacity n = (j : ℕ) × (n ≡ capacity * 2 ^ j)

pub doubled_is : (k wanted capacity : ℕ) → IsDoubled capacity (doubled k wanted capacity)
doubled_is zero wanted capacity = (0, doubled_zero wanted capacity ∙ omega arith)
doubled_is (suc k) wanted capacity = elim (cases_lt capacity wanted) [
  | inl less ↦ (let h = doubled_is k wanted (2 * capacity) in (suc h.0, doubled_on k wanted capacity less ∙ h.1 ∙ twice capacity h.0))
  | inr le ↦ (0, doubled_none (suc k) wanted capacity le ∙ omega arith)
]

pub doubled_room : (k wanted capacity : ℕ) → wanted ≤ capacity * 2 ^ k → wanted ≤ doubled k wanted capacity
doubled_room zero wanted capacity le = omega (arith, doubled_zero wanted capacity)
doubled_room (suc k) wanted capacity le = elim (cases_lt capacity wanted) [
  | inl less ↦ omega (arith, doubled_on k wanted capacity less, doubled_room k wanted (2 * capacity) (omega (arith, twice capacity k)))
  | inr enough ↦ omega (arith, doubled_none (suc k) wanted capacity enough)
]

pub doubled_most : (j k wanted capacity : ℕ) → wanted ≤ capacity * 2 ^ j → doubled k wanted capacity ≤ capacity * 2 ^ j
doubled_most zero k wanted capacity le = omega (arith, doubled_none k wanted capacity (omega arith))
doubled_most (suc j) zero wanted capacity le = omega (arith, doubled_zero wanted capacity, one_times capacity (suc j))
doubled_most (suc j) (suc k) wanted capacity le = elim (cases_lt capacity wanted) [
  | inl less ↦ omega (arith, doubled_on k wanted capacity less, twice capacity j, doubled_most j k wanted (2 * capacity) (omega (arith, twice capacity j)))
  | inr enough ↦ omega (arith, doubled_none (suc k) wanted capacity enough, one_times capacity (suc j))
]

pub doubled_least : (k wanted capacity : ℕ) → (doubled k wanted capacity ≡ capacity) ⊎ (doubled k wanted capacity < 2 * wanted)
doubled_least zero wanted capacity = inl (doubled_zero wanted capacity)
doubled_least (suc k) wanted capacity = elim (cases_lt capacity wanted) [
  | inl less ↦ inr (elim (doubled_least k wanted (2 * capacity)) [
    | inl same ↦ omega (arith, doubled_on k wanted capacity less)
    | inr below ↦ omega (arith, doubled_on k wanted capacity less)
  ])
  | inr enough ↦ inl (doubled_none (suc k) wanted capacity enough)
]

-- ---- what a ring grows to

pub enough : (n : ℕ) → n + 65536 ≤ first_capacity * 2 ^ n
enough zero = omega arith
enough (suc n) = omega (arith, enough n, pow-suc 2 n)

pub grown_stays : (n capacity : ℕ) → n + 65536 ≤ capacity → grown n capacity ≡ capacity
unfolding grown
grown_stays n capacity le = rw (le-ltb capacity (n + 65536) le) refl

pub grown_more : (n capacity : ℕ) → capacity < n + 65536 → grown n capacity ≡ doubled n (n + 65536) first_capacity
unfolding grown
grown_more n capacity less = rw (lt-ltb capacity (n + 65536) less) refl

pub grown_room : (n capacity : ℕ) → n + 65536 ≤ grown n capacity
grown_room n capacity = elim (cases_lt capacity (n + 65536)) [
  | inl less ↦ omega (arith, grown_more n capacity less, doubled_room n (n + 65536) first_capacity (enough n))
  | inr le ↦ omega (arith, grown_stays n capacity le)
]

pub grown_doubled : (n capacity : ℕ) → capacity < n + 65536 → IsDoubled first_capacity (grown n capacity)
grown_doubled n capacity less = let h = doubled_is n (n + 65536) first_capacity in (h.0, grown_more n capacity less ∙ h.1)

pub grown_least : (n capacity : ℕ) → capacity < n + 65536 → grown n capacity ≢ first_capacity → grown n capacity / 2 < n + 65536
grown_least n capacity less other = elim (doubled_least n (n + 65536) first_capacity) [
  | inl same ↦ absurd (other (grown_more n capacity less ∙ same))
  | inr below ↦ omega (arith, grown_more n capacity less)
]

pub grown_bounded : (n capacity : ℕ) → n < 1048576 → capacity ≤ 2097152 → grown n capacity ≤ 2097152
grown_bounded n capacity few small = elim (cases_lt capacity (n + 65536)) [
  | inl less ↦ omega (arith, grown_more n capacity less, doubled_most 4 n (n + 65536) first_capacity (omega arith))
  | inr le ↦ omega (arith, grown_stays n capacity le)
]

-- doubling goes on from here, and ends where a ring grows to
pub record GoesOn (n capacity wanted larger : ℕ) : Type 0 where
  pub left : ℕ
  pub same : grown n capacity ≡ doubled left wanted larger
  pub enough : wanted ≤ larger * 2 ^ left
  pub some : 0 < larger

pub starts : (n capacity wanted : ℕ) → wanted ≡ n + 65536 → capacity < wanted → GoesOn n capacity wanted first_capacity
starts n capacity wanted is less = record { left = n; same = grown_more n capacity (omega arith) ∙ ap (λ (w : ℕ). doubled n w first_capacity) (sym is); enough = omega (arith, enough n); some = omega arith }

goes_on_left : (n capacity wanted larger left : ℕ) → grown n capacity ≡ doubled left wanted larger → wanted ≤ larger * 2 ^ left → 0 < larger → larger < wanted → GoesOn n capacity wanted (2 * larger)
goes_on_left n capacity wanted larger zero same enough some less = absurd (omega arith)
goes_on_left n capacity wanted larger (suc left) same enough some less =
    record { left = left; same = same ∙ doubled_on left wanted larger less; enough = omega (arith, twice larger left); some = omega arith }

twice_on : (n capacity wanted larger : ℕ) → GoesOn n capacity wanted larger → larger < wanted → GoesOn n capacity wanted (2 * larger)
twice_on n capacity wanted larger g less = goes_on_left n capacity wanted larger g.left g.same g.enough g.some less

pub goes_on : (n capacity wanted larger more : ℕ) → GoesOn n capacity wanted larger → larger < wanted → more ≡ larger * 2 → GoesOn n capacity wanted more
goes_on n capacity wanted larger more g less is = let e : more ≡ 2 * larger = omega arith in rw e (twice_on n capacity wanted larger g less)

pub ends : (n capacity wanted larger : ℕ) → GoesOn n capacity wanted larger → wanted ≤ larger → larger ≡ grown n capacity
ends n capacity wanted larger g le = sym (g.same ∙ doubled_none g.left wanted larger le)

pub is_past : (n capacity wanted larger : ℕ) → GoesOn n capacity wanted larger → larger < wanted → 2 * larger ≤ grown n capacity
is_past n capacity wanted larger g less =
    let h = twice_on n capacity wanted larger g less in
    let d = doubled_is h.left wanted (2 * larger) in
    omega (arith, h.same, d.1, one_times (2 * larger) d.0)
