-- The loop of the test: what the items so far come to, and that the first wrong one is still to come.
use Rattle.std.proofs.Common.{◌≡◌, ℕ, suc, zero, ◌+◌, ◌<◌, ◌≤◌, Bool, true, false, cond, List, [], ◌∷◌, length, Option, Some, None, refl, sym, ap, ◌∙◌, arith}
use Rattle.std.specs.Prelude.{map, drop, slice_get, get_or}
use Rattle.std.proofs.lemmas.Option.{slice_get-map}
use Rattle.std.specs.Option.{option_map}
use Rattle.ei_session.specs.Setup.{Setup}
use Rattle.ei_session.specs.Requests.{Request}
use Rattle.ei_types.specs.Capability.{bits_of}
use Rattle.ei_record.specs.Replayable.{is_wrong, wrong_from, first_wrong}
use Rattle.ei_replay.specs.declared.played.Played.{Played}
use Rattle.ei_replay.specs.Steps.{step_of, IsNamed}
use Rattle.ei_replay.specs.Played.{wrong_at, Follows, Stands}
use Rattle.ei_replay.proofs.Tells.{tells}
use Rattle.ei_replay.proofs.Goes.{goes}

-- none of the first items is wrong, and this is what they come to
pub record Checked (setup : Setup) (items : List Request) (at : ℕ) (p : Played) : Type 0 where
  pub before : List Request
  pub stands : Stands before p
  pub count : length before ≡ at
  pub rest : wrong_from setup before (drop at items) ≡ first_wrong setup items
  pub same : bits_of p.capabilities ≡ setup.capabilities

pub at_first : (setup : Setup) (items : List Request) (p : Played) → Stands [] p → bits_of p.capabilities ≡ setup.capabilities → Checked setup items 0 p
at_first setup items p s same = record { before = []; stands = s; count = refl; rest = refl; same = same }

pub dropped : {A : Type 0} (xs : List A) (i : ℕ) (x : A) → slice_get xs i ≡ Some x → drop i xs ≡ x ∷ drop (i + 1) xs
dropped [] i x h = absurd cc
dropped (y ∷ ys) zero x h = let same : y ≡ x = cc in ap (λ z. z ∷ ys) same
dropped (y ∷ ys) (suc i) x h = let e : suc (i + 1) ≡ suc i + 1 = omega arith in dropped ys i x h ∙ ap (λ (n : ℕ). x ∷ drop n (y ∷ ys)) e

behind : {A : Type 0} (xs : List A) (i : ℕ) → slice_get (drop i xs) 0 ≡ slice_get xs i
behind [] zero = refl
behind [] (suc i) = refl
behind (x ∷ xs) zero = refl
behind (x ∷ xs) (suc i) = behind xs i

-- the item is wrong, or the others are looked at behind it
wrong_step : (setup : Setup) (before : List Request) (item : Request) (later : List Request) (b : Bool) → is_wrong setup before item (slice_get later 0) ≡ b → wrong_from setup before (item ∷ later) ≡ cond b (Some (length before)) (wrong_from setup (item ∷ before) later)
unfolding wrong_from
wrong_step setup before item later b e = rw e refl

module _ (setup : Setup) (items : List Request) (at : ℕ) (p : Played) (c : Checked setup items at p) (item : Request) (here : slice_get items at ≡ Some item) (low : IsNamed (step_of item)) where
  next : Option Request
  next = slice_get items (at + 1)

  told : wrong_at p (step_of item) (option_map step_of (slice_get items (at + 1))) ≡ is_wrong setup c.before item (slice_get (drop (at + 1) items) 0)
  told = tells setup c.before p c.stands c.same item (slice_get items (at + 1)) low ∙ ap (is_wrong setup c.before item) (sym (behind items (at + 1)))

  from_here : (b : Bool) → wrong_at p (step_of item) (option_map step_of (slice_get items (at + 1))) ≡ b → cond b (Some at) (wrong_from setup (item ∷ c.before) (drop (at + 1) items)) ≡ first_wrong setup items
  from_here b h =
      ap (λ (n : ℕ). cond b (Some n) (wrong_from setup (item ∷ c.before) (drop (at + 1) items))) (sym c.count)
      ∙ sym (wrong_step setup c.before item (drop (at + 1) items) b (sym told ∙ h))
      ∙ ap (wrong_from setup c.before) (sym (dropped items at item here))
      ∙ c.rest

  -- the item is the first that is wrong
  pub stops : wrong_at p (step_of item) (option_map step_of (slice_get items (at + 1))) ≡ true → first_wrong setup items ≡ Some at
  stops h = sym (from_here true h)

  -- or it isn't, and they come to this with it
  pub one_more : (q : Played) → wrong_at p (step_of item) (option_map step_of (slice_get items (at + 1))) ≡ false → Follows p (step_of item) q → Checked setup items (at + 1) q
  one_more q h f = record {
    before = item ∷ c.before;
    stands = goes setup c.before p q c.stands item (slice_get items (at + 1)) (sym (tells setup c.before p c.stands c.same item (slice_get items (at + 1)) low) ∙ h) f;
    count = ap suc c.count ∙ omega arith;
    rest = from_here false h;
    same = ap bits_of f.same ∙ c.same;
  }

drop_all : {A : Type 0} (xs : List A) (i : ℕ) → length xs ≤ i → drop i xs ≡ []
drop_all [] zero h = refl
drop_all [] (suc i) h = refl
drop_all (x ∷ xs) zero h = absurd (omega (arith, h))
drop_all (x ∷ xs) (suc i) h = drop_all xs i (omega (arith, h))

none_left : (setup : Setup) (before : List Request) → wrong_from setup before [] ≡ None
unfolding wrong_from
none_left setup before = refl

pub at_end : (setup : Setup) (items : List Request) (at : ℕ) (p : Played) → Checked setup items at p → length items ≤ at → first_wrong setup items ≡ None
at_end setup items at p c past = sym c.rest ∙ ap (wrong_from setup c.before) (drop_all items at past) ∙ none_left setup c.before

pub got : {A : Type 0} (xs : List A) (i : ℕ) (x : A) → i < length xs → x ≡ get_or xs i x → slice_get xs i ≡ Some x
got [] i x low e = absurd (omega (arith, low))
got (y ∷ ys) zero x low e = ap (λ z. Some z) (sym e)
got (y ∷ ys) (suc i) x low e = got ys i x (omega (arith, low)) e

-- the element at a place, as it is seen
pub seen_at : {A B : Type 0} (f : A → B) (xs : List A) (i : ℕ) (x : A) → i < length xs → x ≡ get_or xs i x → slice_get (map f xs) i ≡ Some (f x)
seen_at f xs i x low e = slice_get-map f xs i ∙ ap (option_map f) (got xs i x low e)

pub all_seen : {A B : Type 0} (f : A → B) (xs : List A) → length (map f xs) ≡ length xs
all_seen f [] = refl
all_seen f (x ∷ xs) = ap suc (all_seen f xs)
