-- What keeps the places as they are to be: as many as are counted have a value, and their keys rise where they are said to.
use Rattle.std.proofs.Common.{◌≡◌, ℕ, ◌+◌, ◌-◌, ◌≤◌, Bool, true, false, ◌&&◌, List, [], ◌∷◌, ◌++◌, length, get_or, Option, Some, None, refl, sym, ap, ◌∙◌, arith}
use Rattle.std.specs.Prelude.{is_some, IsSome, IfSome}
use Rattle.std.specs.Option.{option_copied}
use Rattle.std.specs.Borrow.{Bor}
use Rattle.std.specs.List.{filter, All, items_where_true}
use Rattle.std.specs.Fn.{FnReturnsAt}
use Rattle.std.specs.Option.{MatchOption}
use denote.Param.Members.{Shared}
use Rattle.std.proofs.Math.ListN.{set}
use Rattle.std.proofs.lemmas.Bool.{eqb-true}
use Rattle.ei_keyed.specs.Keyed.{RiseFrom, keyed, without_key, Decides}
use Rattle.ei_keyed.specs.Places.{live, IsPlace, IsKept, with_written}
use Rattle.ei_keyed.proofs.Live.{found, place_has, taken, written, live_written, length_written, length_without, pushed, length_push, closed_up, live_le, keeps, all_valued}
use Rattle.ei_keyed.proofs.Rising.{rises_set, rises_filter, rises_written, rises_chosen}

both : (a b : Bool) → (a && b) ≡ true → (a ≡ true) × (b ≡ true)
both true b e = (refl, e)
both false b e = absurd cc

module _ {V : Type 0} where
  some_of : (o : Option V) → is_some o ≡ true → IsSome o
  some_of None e = absurd cc
  some_of (Some v) e = refl

  -- what was read at the place of a key
  pub at_key : (key : ℕ) (xs : List (ℕ × Option V)) (at : ℕ) (y : ℕ × Option V) → IsPlace key xs at → y ≡ get_or xs at y → y.0 ≡ key
  at_key key xs at y p is = ap (λ (z : ℕ × Option V). z.0) is ∙ sym (eqb-true key _ (both _ _ (place_has key xs at y p)).0)

  pub at_value : (key : ℕ) (xs : List (ℕ × Option V)) (at : ℕ) (y : ℕ × Option V) → IsPlace key xs at → y ≡ get_or xs at y → IsSome y.1
  at_value key xs at y p is = some_of y.1 (ap (λ (z : ℕ × Option V). is_some z.1) is ∙ (both _ _ (place_has key xs at y p)).1)

  pub value_found : (key : ℕ) (xs : List (ℕ × Option V)) (at : ℕ) (y : ℕ × Option V) → IsPlace key xs at → y ≡ get_or xs at y → keyed key (live xs) ≡ y.1
  value_found key xs at y p is = found key xs at y p ∙ sym (ap (λ (z : ℕ × Option V). z.1) is)

  -- a value is written
  pub writes : (key : ℕ) (xs : List (ℕ × Option V)) (at : ℕ) (y : ℕ × Option V) (w : V) → IsPlace key xs at → y ≡ get_or xs at y → set xs at (y.0, Some w) ≡ with_written key xs w
  writes key xs at y w p is = ap (λ (k : ℕ). set xs at (k, Some w)) (at_key key xs at y p is) ∙ written key w xs at y p

  pub kept_written : (key : ℕ) (xs : List (ℕ × Option V)) (count : ℕ) (rising : Bool) (at : ℕ) (y : ℕ × Option V) (w : V) → IsKept xs count rising → IsPlace key xs at → y ≡ get_or xs at y →
      IsKept (set xs at (y.0, Some w)) count rising
  kept_written key xs count rising at y w h p is = rw (writes key xs at y w p is) (record {
    counted = h.counted ∙ sym (ap length (live_written key xs w) ∙ length_written key (live xs) w);
    rises = λ e. rises_written key xs w 0 (h.rises e);
  })

  -- a value is taken out
  pub takes : (key : ℕ) (xs : List (ℕ × Option V)) (at : ℕ) (y : ℕ × Option V) → IsPlace key xs at → live (set xs at (y.0, None)) ≡ without_key key (live xs)
  takes key xs at y p = taken key y.0 xs at y p

  one_less : (key : ℕ) (xs : List (ℕ × V)) (o : Option V) → IsSome o → keyed key xs ≡ o → length (without_key key xs) + 1 ≡ length xs
  one_less key xs None s e = absurd cc
  one_less key xs (Some v) s e = length_without key xs v e

  pub fewer : (key : ℕ) (xs : List (ℕ × Option V)) (at : ℕ) (y : ℕ × Option V) → IsPlace key xs at → y ≡ get_or xs at y → length (without_key key (live xs)) + 1 ≡ length (live xs)
  fewer key xs at y p is = one_less key (live xs) y.1 (at_value key xs at y p is) (value_found key xs at y p is)

  pub kept_taken : (key : ℕ) (xs : List (ℕ × Option V)) (count : ℕ) (rising : Bool) (at : ℕ) (y : ℕ × Option V) → IsKept xs count rising → IsPlace key xs at → y ≡ get_or xs at y →
      IsKept (set xs at (y.0, None)) (count - 1) rising
  kept_taken key xs count rising at y h p is = record {
    counted = (let one = fewer key xs at y p is in let n : length (live (set xs at (y.0, None))) ≡ length (without_key key (live xs)) = ap length (takes key xs at y p) in omega (arith, h.counted, one, n));
    rises = λ e. rises_set xs 0 at y.0 None y (h.rises e) (ap (λ (z : ℕ × Option V). z.0) is);
  }

  -- the places are closed up
  pub kept_closed : (xs : List (ℕ × Option V)) (count : ℕ) (rising : Bool) → IsKept xs count rising → IsKept (filter (λ x. is_some x.1) xs) count rising
  kept_closed xs count rising h = record {
    counted = h.counted ∙ sym (ap length (closed_up xs));
    rises = λ e. rises_filter (λ x. is_some x.1) xs 0 (h.rises e);
  }

  -- a value is put behind
  pub kept_pushed : (key : ℕ) (v : V) (xs : List (ℕ × Option V)) (count : ℕ) (rising after : Bool) → IsKept xs count rising → (after ≡ true → RiseFrom 0 (xs ++ (key, Some v) ∷ [])) →
      IsKept (xs ++ (key, Some v) ∷ []) (count + 1) after
  kept_pushed key v xs count rising after h up = record {
    counted = (let n = length_push key v (live xs) in let m : length (live (xs ++ (key, Some v) ∷ [])) ≡ length (live xs ++ (key, v) ∷ []) = ap length (pushed key v xs) in omega (arith, h.counted, n, m));
    rises = up;
  }

  -- one more fits, where there is room
  pub one_more : (xs : List (ℕ × Option V)) (count len : ℕ) (rising : Bool) → IsKept xs count rising → len ≡ length xs → count ≤ len
  one_more xs count len rising h e = let le = live_le xs in omega (arith, h.counted, le, e)

  -- some are kept, each with a value
  pub kept_chosen : (xs : List (ℕ × Option V)) (count : ℕ) (rising : Bool) (bs : List Bool) (ys : List (ℕ × Option V)) (len : ℕ) → IsKept xs count rising → ys ≡ items_where_true bs xs → len ≡ length ys →
      All (λ x. is_some x.1 ≡ true) ys → IsKept ys len rising
  kept_chosen xs count rising bs ys len h e n all = record {
    counted = n ∙ sym (all_valued ys all);
    rises = λ r. rw e (rises_chosen bs xs 0 (h.rises r));
  }

  pub valued_true : (P : V → Type 0) (o : Option V) (b : Bool) → MatchOption o (b ≡ false) P → b ≡ true → is_some o ≡ true
  valued_true P None b m e = absurd cc
  valued_true P (Some v) b m e = refl

  pub decided : {F : Type 0} (g : Shared F (Bor V × Unit {0}) Bool) (kept : V → Bool) (test : F) (o : Option V) (b : Bool) → Decides g kept test → MatchOption o (b ≡ false) (λ v. FnReturnsAt g test v b) → b ≡ keeps kept o
  decided g kept test None b d m = m
  decided g kept test (Some v) b d m = d v b m

  -- what was read there, where something was
  pub likely_found : (o : Option (Bor V)) (x k : Option V) → option_copied o ≡ x → k ≡ x → IfSome o (λ v. k ≡ Some v.now)
  likely_found None x k e f = tt
  likely_found (Some v) x k e f = f ∙ sym e
