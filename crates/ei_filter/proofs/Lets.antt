-- A search over rules for one that is asked and doesn't let an item through.
use Rattle.std.proofs.Common.{◌≡◌, ℕ, suc, zero, ◌+◌, ◌<◌, ◌≤◌, Bool, true, false, cond, not, ◌&&◌, List, [], ◌∷◌, length, drop, refl, sym, ap, ◌∙◌, arith}
use Rattle.std.specs.Prelude.{get_or}
use Rattle.std.specs.List.{list_all}
use Rattle.ei_session.specs.Requests.{Request}
use Rattle.ei_filter.specs.Sifts.{enabled}

module _ {R : Type 0} (test : R → Request → Bool) (asked : R → Bool) (item : Request) where
  -- whether those from a place on let it through
  abbrev pub lets_from : ℕ → List R → Bool
  lets_from i rules = list_all (λ t. t item) (enabled test asked (drop i rules))

  dropped : (rules : List R) (i : ℕ) (r : R) → i < length rules → r ≡ get_or rules i r → drop i rules ≡ r ∷ drop (i + 1) rules
  dropped [] i r low h = absurd (omega (arith, low))
  dropped (x ∷ rules) zero r low h = ap (λ z. z ∷ rules) (sym h)
  dropped (x ∷ rules) (suc i) r low h = let e : suc (i + 1) ≡ suc i + 1 = omega arith in dropped rules i r (omega (arith, low)) h ∙ ap (λ (n : ℕ). r ∷ drop n (x ∷ rules)) e

  first : (r : R) (rules : List R) → list_all (λ t. t item) (enabled test asked (r ∷ rules)) ≡ cond (asked r && not (test r item)) false (list_all (λ t. t item) (enabled test asked rules))
  first r rules = by (asked r) refl (test r item) refl
    where
      by : (a : Bool) → asked r ≡ a → (b : Bool) → test r item ≡ b → list_all (λ t. t item) (enabled test asked (r ∷ rules)) ≡ cond (a && not b) false (list_all (λ t. t item) (enabled test asked rules))
      by true e true f = rw (e, f) refl
      by true e false f = rw (e, f) refl
      by false e b f = rw e refl

  pub one : (rules : List R) (i : ℕ) (r : R) (b : Bool) → i < length rules → r ≡ get_or rules i r → (asked r && not (test r item)) ≡ b → lets_from i rules ≡ cond b false (lets_from (i + 1) rules)
  one rules i r b low h e = ap (λ l. list_all (λ t. t item) (enabled test asked l)) (dropped rules i r low h) ∙ first r (drop (i + 1) rules) ∙ ap (λ (c : Bool). cond c false (lets_from (i + 1) rules)) e

  pub at_end : (rules : List R) (i : ℕ) → length rules ≤ i → lets_from i rules ≡ true
  at_end [] zero past = refl
  at_end [] (suc i) past = refl
  at_end (x ∷ rules) zero past = absurd (omega (arith, past))
  at_end (x ∷ rules) (suc i) past = at_end rules i (omega (arith, past))
