-- Lists of items, none of which is wrong, one behind another.
use Rattle.std.proofs.Common.{◌≡◌, ℕ, Bool, true, false, not, List, [], ◌∷◌, ◌++◌, length, Option, Some, None, refl, ap, ◌∙◌, arith}
use Rattle.std.specs.Prelude.{◌==◌, slice_get}
use Rattle.ei_spec.specs.History.{last_said, occurs}
use Rattle.ei_spec.specs.Groups.{Timed, Framed, Plain as Given, timed}
use Rattle.ei_input.specs.declared.input_event.InputEvent.{InputEvent}
use Rattle.ei_session.specs.Setup.{Setup}
use Rattle.ei_session.specs.Requests.{Request, Plain}
use Rattle.ei_record.specs.Replayable.{disconnects, device_of, gives_mask, mask_before, closes_device, is_there, asks_badly, names_none, lacks, goes_with, is_input_of}
use Rattle.ei_record.specs.Replayable.{touches_badly, writes_badly, is_wrong, wrong_from}

-- these items, put behind those before them
abbrev pub onto : List Request → List Request → List Request
onto [] before = before
onto (x ∷ xs) before = onto xs (x ∷ before)

pub onto_append : (xs ys before : List Request) → onto (xs ++ ys) before ≡ onto ys (onto xs before)
onto_append [] ys before = refl
onto_append (x ∷ xs) ys before = onto_append xs ys (x ∷ before)

abbrev pub is_input : Request → Bool
is_input (Timed d x t) = true
is_input item = false

-- the last of them is no input
abbrev pub ends_plainly : List Request → Bool
ends_plainly [] = true
ends_plainly (x ∷ []) = not (is_input x)
ends_plainly (x ∷ y ∷ ys) = ends_plainly (y ∷ ys)

-- ---- one item

module _ (setup : Setup) (before : List Request) (x : Request) (later : List Request) where
  pub right : is_wrong setup before x (slice_get later 0) ≡ false → wrong_from setup (x ∷ before) later ≡ None → wrong_from setup before (x ∷ later) ≡ None
  unfolding wrong_from
  right e h = rw e h

  right_by : (b : Bool) → is_wrong setup before x (slice_get later 0) ≡ b → wrong_from setup before (x ∷ later) ≡ None → (b ≡ false) × (wrong_from setup (x ∷ before) later ≡ None)
  unfolding wrong_from
  right_by true e h = let g : Some (length before) ≡ None = rw e at h in absurd cc
  right_by false e h = (refl, rw e at h)

  pub was_right : wrong_from setup before (x ∷ later) ≡ None → (is_wrong setup before x (slice_get later 0) ≡ false) × (wrong_from setup (x ∷ before) later ≡ None)
  was_right h = right_by (is_wrong setup before x (slice_get later 0)) refl h

-- what comes behind matters to inputs alone
any_next : (setup : Setup) (before : List Request) (x : Request) (a b : Option Request) → is_input x ≡ false → is_wrong setup before x a ≡ is_wrong setup before x b
unfolding is_wrong
any_next setup before (Timed d i t) a b e = absurd cc
any_next setup before (Framed d s t) a b e = refl
any_next setup before (Given y) a b e = refl

not_input : (x : Request) → not (is_input x) ≡ true → is_input x ≡ false
not_input (Timed d i t) e = absurd cc
not_input (Framed d s t) e = refl
not_input (Given y) e = refl

-- ---- one list behind another

pub right_append : (setup : Setup) (before xs ys : List Request) → wrong_from setup before xs ≡ None → ends_plainly xs ≡ true → wrong_from setup (onto xs before) ys ≡ None → wrong_from setup before (xs ++ ys) ≡ None
right_append setup before [] ys h e g = g
right_append setup before (x ∷ []) ys h e g =
    let w = was_right setup before x [] h in
    right setup before x ys (any_next setup before x (slice_get ys 0) None (not_input x e) ∙ w.0) g
right_append setup before (x ∷ (y ∷ xs)) ys h e g =
    let w = was_right setup before x (y ∷ xs) h in
    right setup before x (y ∷ (xs ++ ys)) w.0 (right_append setup (x ∷ before) (y ∷ xs) ys w.1 e g)

pub plainly_append : (xs ys : List Request) → ends_plainly xs ≡ true → ends_plainly ys ≡ true → ends_plainly (xs ++ ys) ≡ true
plainly_append [] ys e f = f
plainly_append (x ∷ []) [] e f = e
plainly_append (x ∷ []) (y ∷ ys) e f = f
plainly_append (x ∷ (z ∷ xs)) ys e f = plainly_append (z ∷ xs) ys e f

-- ---- an item that is no input

-- before it nothing disconnects, and a device that it names is there
pub record MayCome (setup : Setup) (before : List Request) (item : Request) : Type 0 where
  pub open_still : occurs (λ b x. disconnects x) before ≡ false
  pub asks : asks_badly setup item ≡ false
  pub names : names_none before (device_of item) ≡ false

pub plain_right : (setup : Setup) (before : List Request) (y : Plain) → MayCome setup before (Given y) → wrong_from setup before (Given y ∷ []) ≡ None
unfolding is_wrong wrong_from
plain_right setup before y m = rw (m.open_still, m.asks, m.names) refl

pub frame_right : (setup : Setup) (before : List Request) (d s t : ℕ) → MayCome setup before (Framed d s t) → is_input_of d (slice_get before 0) ≡ true → wrong_from setup before (Framed d s t ∷ []) ≡ None
unfolding is_wrong wrong_from
frame_right setup before d s t m e = rw (m.open_still, m.names, e) refl

-- ---- inputs leave much as it was

pub over_input : (before : List Request) (d : ℕ) (x : InputEvent) (t : ℕ) → occurs (λ b y. disconnects y) (Timed d x t ∷ before) ≡ occurs (λ b y. disconnects y) before
unfolding occurs
over_input before d x t = refl

pub mask_input : (before : List Request) (d : ℕ) (x : InputEvent) (t device : ℕ) → mask_before (Timed d x t ∷ before) device ≡ mask_before before device
unfolding mask_before last_said gives_mask
mask_input before d x t device = refl

pub there_input : (before : List Request) (d : ℕ) (x : InputEvent) (t device : ℕ) → is_there (Timed d x t ∷ before) device ≡ is_there before device
unfolding is_there occurs mask_before last_said gives_mask closes_device
there_input before d x t device = refl

-- ---- a group, and its frame

-- each input can come where it stands
abbrev pub InputsCome : List Request → ℕ → ℕ → List InputEvent → Type 0
InputsCome before d t [] = Unit {0}
InputsCome before d t (x ∷ xs) =
    (lacks (mask_before before d) x ≡ false) × (touches_badly before d x ≡ false) × (writes_badly x ≡ false) × InputsCome (Timed d x t ∷ before) d t xs

-- the device of the group is there, and nothing has disconnected
pub record IsOpenFor (before : List Request) (d : ℕ) : Type 0 where
  pub open_still : occurs (λ b x. disconnects x) before ≡ false
  pub there : is_there before d ≡ true

open_on : (before : List Request) (d : ℕ) (x : InputEvent) (t : ℕ) → IsOpenFor before d → IsOpenFor (Timed d x t ∷ before) d
open_on before d x t o = record { open_still = over_input before d x t ∙ o.open_still; there = there_input before d x t d ∙ o.there }

same_self : (n : ℕ) → (n == n) ≡ true
same_self n = grind arith

input_right : (setup : Setup) (before : List Request) (d : ℕ) (x : InputEvent) (t : ℕ) (next : Option Request) → IsOpenFor before d → lacks (mask_before before d) x ≡ false → touches_badly before d x ≡ false → writes_badly x ≡ false →
    goes_with d t next ≡ true → is_wrong setup before (Timed d x t) next ≡ false
unfolding is_wrong
input_right setup before d x t next o l b w g = rw (o.open_still, o.there, l, g, b, w) refl

frame_here : (before : List Request) (d s t : ℕ) (x : InputEvent) → IsOpenFor before d → (setup : Setup) → wrong_from setup (Timed d x t ∷ before) (Framed d s t ∷ []) ≡ None
frame_here before d s t x o setup =
    let now = open_on before d x t o in
    frame_right setup (Timed d x t ∷ before) d s t (record { open_still = now.open_still; asks = refl; names = ap not now.there }) (same_self d)

pub group_right : (setup : Setup) (before : List Request) (d s t : ℕ) (x : InputEvent) (xs : List InputEvent) → IsOpenFor before d → InputsCome before d t (x ∷ xs) → wrong_from setup before (timed d t (x ∷ xs) ++ (Framed d s t ∷ [])) ≡ None
unfolding timed
group_right setup before d s t x [] o c =
    right setup before (Timed d x t) (Framed d s t ∷ [])
    (input_right setup before d x t (Some (Framed d s t)) o c.0 c.1 c.2 (rw (same_self d, same_self t) refl))
    (frame_here before d s t x o setup)
group_right setup before d s t x (z ∷ xs) o c =
    right setup before (Timed d x t) (timed d t (z ∷ xs) ++ (Framed d s t ∷ []))
    (input_right setup before d x t (Some (Timed d z t)) o c.0 c.1 c.2 (rw (same_self d, same_self t) refl))
    (group_right setup (Timed d x t ∷ before) d s t z xs (open_on before d x t o) c.3)
