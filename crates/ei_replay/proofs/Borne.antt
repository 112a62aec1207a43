-- Each item that was read can be borne by a message.
use Rattle.std.proofs.Common.{◌≡◌, ℕ, zero, suc, ◌+◌, ◌<◌, ◌≤◌, Bool, true, false, eqb, List, [], ◌∷◌, length, get_or, Some, refl, sym, ap, subst, ◌∙◌, arith}
use Rattle.std.specs.Prelude.{slice_get}
use Rattle.std.specs.List.{All}
use Rattle.std.proofs.lemmas.Bool.{eqb-true}
use Rattle.std.proofs.lemmas.Bool.Decides.{nat_tests}
use Rattle.ei_session.specs.Requests.{Request}
use Rattle.ei_session.proofs.Choices.{some_is}
use Rattle.ei_playing.specs.Playing.{IsBorne}

-- each of the first items can
abbrev pub BorneTo : List Request → ℕ → Type 0
BorneTo items at = (k : ℕ) (x : Request) → k < at → slice_get items k ≡ Some x → IsBorne x

pub borne_none : (items : List Request) → BorneTo items 0
borne_none items k x lt e = absurd (omega (arith, lt))

pub borne_more : (items : List Request) (at : ℕ) (x : Request) → slice_get items at ≡ Some x → IsBorne x → BorneTo items at → BorneTo items (at + 1)
borne_more items at x here b h k y lt e = by (eqb k at) refl
  where
    by : (c : Bool) → eqb k at ≡ c → IsBorne y
    by true q =
        let same : k ≡ at = eqb-true k at q in
        let one : Some x ≡ Some y = sym here ∙ ap (slice_get items) (sym same) ∙ e in
        subst (λ (z : Request). IsBorne z) (some_is x y one) b
    by false q = h k y (grind (arith, nat_tests, q, lt)) e

got_any : (xs : List Request) (i : ℕ) (d : Request) → i < length xs → slice_get xs i ≡ Some (get_or xs i d)
got_any [] i d lt = absurd (omega (arith, lt))
got_any (x ∷ xs) zero d lt = refl
got_any (x ∷ xs) (suc i) d lt = got_any xs i d (omega (arith, lt))

pub borne_all : (items : List Request) (at : ℕ) → length items ≤ at → BorneTo items at → All IsBorne items
borne_all items at past h k d lt = h k (get_or items k d) (omega (arith, past, lt)) (got_any items k d lt)
