-- An input whose values are of the kinds of its row is one that a step can send.
use Rattle.std.proofs.Common.{◌≡◌, ℕ, Bool, true, false, cond, eqb, ◌&&◌, ◌||◌, List, [], ◌∷◌, ◌++◌, map, Option, Some, None, ◌⊎◌, inl, inr, refl, sym, ap, subst, ◌∙◌}
use Rattle.std.specs.Prelude.{ℤ, not, is_some}
use Rattle.std.specs.List.{list_all, flat_map}
use Rattle.std.proofs.lemmas.Bool.{and_parts, eqb-true}
use Rattle.std.proofs.lemmas.Option.{same_Some}
use Rattle.ei_spec.specs.declared.interface.KnownInterface.{KnownInterface}
use Rattle.ei_spec.specs.declared.interface.KnownInterface.TheVariants as known
use Rattle.ei_spec.specs.Rows.{Row, Announces, Nothing, Fixed, Named, row_at}
use Rattle.ei_spec.specs.Table.{table, motion_relative, motion_absolute, scroll, scroll_discrete, scroll_stop, button, key, down, motion, up, cancel, keysym, utf8, swipe, pinch}
use Rattle.ei_spec.specs.Value.{Kind, U32, I32, U64, I64, Float, Text, Nullable, Handle, New, Choice, OpenChoice, Value, Word, Signed, Letters}
use Rattle.ei_spec.proofs.EachInterface.{of_each_row}
use Rattle.ei_spec.specs.FromValues.{two}
use Rattle.ei_input.specs.declared.input_event.InputEvent.{InputEvent}
use Rattle.ei_input.specs.declared.input_event.InputEvent.TheVariants as input_event
use Rattle.ei_input.specs.Inputs.{key_of}
use Rattle.ei_session.specs.Inputs.{is_of_device}
use Rattle.ei_values.specs.declared.value.Value.{Value as Stored}
use Rattle.ei_values.specs.declared.value.Value.TheVariants as stored
use Rattle.ei_values.specs.Stored.{value_view, fits_kind, all_fit, fits_row, fills}
use Rattle.ei_emitting.specs.Emitted.{fits, input_of}
use Rattle.ei_emitting.specs.Emitted.{all_fit as all_views_fit}
use Rattle.ei_emit.specs.Targets.{may_be_input}

-- ---- the rows of a device's interfaces

abbrev is_old : Kind → Bool
is_old New = false
is_old kind = true

abbrev is_nothing : Announces → Bool
is_nothing Nothing = true
is_nothing what = false

abbrev is_plain : KnownInterface → ℕ → Row → Bool
is_plain k n r = not (is_of_device k) || (is_nothing r.announces && list_all is_old r.kinds)

nothing_is : (a : Announces) → is_nothing a ≡ true → a ≡ Nothing
nothing_is Nothing h = refl
nothing_is (Fixed k) h = absurd cc
nothing_is Named h = absurd cc

-- it announces nothing, and no value of it is a new id
pub record IsPlain (r : Row) : Type 0 where
  pub announces : r.announces ≡ Nothing
  pub old : list_all is_old r.kinds ≡ true

pub plain : (k : KnownInterface) (n : ℕ) (r : Row) → is_of_device k ≡ true → row_at n (table true k) ≡ Some r → IsPlain r
plain k n r d e = by (is_of_device k) d (of_each_row is_plain true refl k n r e)
  where
    by : (b : Bool) → b ≡ true → (not b || (is_nothing r.announces && list_all is_old r.kinds)) ≡ true → IsPlain r
    by false f h = absurd cc
    by true f h = let parts = and_parts (is_nothing r.announces) (list_all is_old r.kinds) h in record { announces = nothing_is r.announces parts.0; old = parts.1 }

pub fits_plain : (a : Announces) (kinds : List Kind) (values : List Stored) → a ≡ Nothing → fits_row a kinds values ≡ all_fit kinds values
fits_plain a kinds values e = ap (λ (b : Announces). fits_row b kinds values) e

-- ---- values of the kinds

no_new : (kind : Kind) → is_old kind ≡ true → fits_kind kind stored.New ≡ false
no_new U32 h = refl
no_new I32 h = refl
no_new U64 h = refl
no_new I64 h = refl
no_new Float h = refl
no_new Text h = refl
no_new Nullable h = refl
no_new Handle h = refl
no_new New h = absurd cc
no_new (Choice name values) h = refl
no_new OpenChoice h = refl

no_named : (kind : Kind) (k : KnownInterface) → fits_kind kind (stored.NewInterface k) ≡ false
no_named U32 k = refl
no_named I32 k = refl
no_named U64 k = refl
no_named I64 k = refl
no_named Float k = refl
no_named Text k = refl
no_named Nullable k = refl
no_named Handle k = refl
no_named New k = refl
no_named (Choice name values) k = refl
no_named OpenChoice k = refl

differ : (b : Bool) (P : Type 0) → b ≡ true → b ≡ false → P
differ true P e f = absurd cc
differ false P e f = absurd cc

fills_one : (next : ℕ) (kind : Kind) (v : Stored) → is_old kind ≡ true → fits_kind kind v ≡ true → fills next v ≡ v ∷ []
fills_one next kind stored.New h f = differ (fits_kind kind stored.New) _ f (no_new kind h)
fills_one next kind (stored.NewInterface k) h f = differ (fits_kind kind (stored.NewInterface k)) _ f (no_named kind k)
fills_one next kind v h f = refl

pub fills_same : (next : ℕ) (kinds : List Kind) (values : List Stored) → list_all is_old kinds ≡ true → all_fit kinds values ≡ true → flat_map (fills next) values ≡ values
fills_same next [] [] h f = refl
fills_same next [] (v ∷ vs) h f = absurd cc
fills_same next (kind ∷ kinds) [] h f = absurd cc
fills_same next (kind ∷ kinds) (v ∷ vs) h f =
    let old = and_parts (is_old kind) (list_all is_old kinds) h in
    let fit = and_parts (fits_kind kind v) (all_fit kinds vs) f in
    ap (λ (l : List Stored). l ++ flat_map (fills next) vs) (fills_one next kind v old.0 fit.0) ∙ ap (λ (l : List Stored). v ∷ l) (fills_same next kinds vs old.1 fit.1)

view_fits : (kind : Kind) (v : Stored) → fits_kind kind v ≡ true → fits kind (value_view v) ≡ true
view_fits (Choice name values) (stored.Uint32 n) f = f
view_fits (Choice name values) v f = absurd cc
view_fits kind v f = refl

pub views_fit : (kinds : List Kind) (values : List Stored) → all_fit kinds values ≡ true → all_views_fit kinds (map value_view values) ≡ true
views_fit [] [] f = refl
views_fit [] (v ∷ vs) f = absurd cc
views_fit (kind ∷ kinds) [] f = absurd cc
views_fit (kind ∷ kinds) (v ∷ vs) f =
    let fit = and_parts (fits_kind kind v) (all_fit kinds vs) f in
    ap (λ (b : Bool). b && all_views_fit kinds (map value_view vs)) (view_fits kind v fit.0) ∙ views_fit kinds vs fit.1

-- ---- what they are

-- so it is of all values of these kinds, if they are kinds of an input
abbrev Shown : List Kind → (List Value → Type 0) → Type 0
Shown [] P = P []
Shown (U32 ∷ kinds) P = (n : ℕ) → Shown kinds (λ vs. P (Word n ∷ vs))
Shown (Float ∷ kinds) P = (n : ℕ) → Shown kinds (λ vs. P (Word n ∷ vs))
Shown (Choice name values ∷ kinds) P = (n : ℕ) → Shown kinds (λ vs. P (Word n ∷ vs))
Shown (I32 ∷ kinds) P = (z : ℤ) → Shown kinds (λ vs. P (Signed z ∷ vs))
Shown (Text ∷ kinds) P = (t : List ℕ) → Shown kinds (λ vs. P (Letters t ∷ vs))
Shown kinds P = ⊥

first_shown : (kind : Kind) (kinds : List Kind) (v : Stored) (P : List Value → Type 0) → Shown (kind ∷ kinds) P → fits_kind kind v ≡ true → Shown kinds (λ vs. P (value_view v ∷ vs))
first_shown U32 kinds (stored.Uint32 n) P s f = s n
first_shown U32 kinds v P s f = absurd cc
first_shown Float kinds (stored.Float n) P s f = s n
first_shown Float kinds v P s f = absurd cc
first_shown (Choice name values) kinds (stored.Uint32 n) P s f = s n
first_shown (Choice name values) kinds v P s f = absurd cc
first_shown I32 kinds (stored.Int32 z) P s f = s z
first_shown I32 kinds v P s f = absurd cc
first_shown Text kinds (stored.Text t) P s f = s t
first_shown Text kinds v P s f = absurd cc
first_shown kind kinds v P s f = absurd s

shown : (kinds : List Kind) (values : List Stored) (P : List Value → Type 0) → Shown kinds P → all_fit kinds values ≡ true → P (map value_view values)
shown [] [] P s f = s
shown [] (v ∷ vs) P s f = absurd cc
shown (kind ∷ kinds) [] P s f = absurd cc
shown (kind ∷ kinds) (v ∷ vs) P s f =
    let parts = and_parts (fits_kind kind v) (all_fit kinds vs) f in
    shown kinds vs (λ xs. P (value_view v ∷ xs)) (first_shown kind kinds v P s parts.0) parts.1

-- ---- the inputs of an interface

-- so it is of each row
abbrev Each : (ℕ → Row → Type 0) → List (ℕ × Row) → Type 0
Each P [] = Unit {0}
Each P (x ∷ xs) = P x.0 x.1 × Each P xs

at_row : (P : ℕ → Row → Type 0) (n : ℕ) (rows : List (ℕ × Row)) (r : Row) → Each P rows → row_at n rows ≡ Some r → P n r
at_row P n [] r h e = absurd cc
at_row P n (x ∷ xs) r h e = by (eqb n x.0) refl e (at_row P n xs r h.1)
  where
    by : (b : Bool) → eqb n x.0 ≡ b → cond b (Some x.1) (row_at n xs) ≡ Some r → (row_at n xs ≡ Some r → P n r) → P n r
    by true f g next = subst (λ (k : ℕ). P k r) (sym (eqb-true n x.0 f)) (subst (λ (q : Row). P x.0 q) (same_Some x.1 r g) h.0)
    by false f g next = next g

-- an event that may be an input is one, where its values are of the kinds
abbrev IsInput : KnownInterface → ℕ → Row → Type 0
IsInput k n r = may_be_input k n ≡ true → (values : List Stored) → all_fit r.kinds values ≡ true → is_some (input_of k n (map value_view values)) ≡ true

is_it : (k : KnownInterface) (n : ℕ) (r : Row) → Shown r.kinds (λ vs. is_some (input_of k n vs) ≡ true) → IsInput k n r
is_it k n r s m values f = shown r.kinds values (λ vs. is_some (input_of k n vs) ≡ true) s f

each : (k : KnownInterface) → is_of_device k ≡ true → Each (IsInput k) (table true k)
unfolding input_of
each known.Handshake d = absurd cc
each known.Connection d = absurd cc
each known.Callback d = absurd cc
each known.Pingpong d = absurd cc
each known.Seat d = absurd cc
each known.Device d = absurd cc
each known.Pointer d = (λ m. absurd cc, (is_it known.Pointer 1 motion_relative (λ x y. refl), tt))
each known.PointerAbsolute d = (λ m. absurd cc, (is_it known.PointerAbsolute 1 motion_absolute (λ x y. refl), tt))
each known.Scroll d = (
  λ m. absurd cc,
  (
    is_it known.Scroll 1 scroll (λ x y. refl),
    (
      is_it known.Scroll 2 scroll_discrete (λ x y. refl),
      (is_it known.Scroll 3 scroll_stop (λ x y is_cancel. refl), tt),
    ),
  ),
)
each known.Button d = (λ m. absurd cc, (is_it known.Button 1 button (λ button state. refl), tt))
each known.Keyboard d = (λ m. absurd cc, (λ m. absurd cc, (is_it known.Keyboard 2 key (λ key state. refl), (λ m. absurd cc, tt))))
each known.Touchscreen d = (
  λ m. absurd cc,
  (
    is_it known.Touchscreen 1 down (λ touch x y. refl),
    (
      is_it known.Touchscreen 2 motion (λ touch x y. refl),
      (
        is_it known.Touchscreen 3 up (λ touch. refl),
        (is_it known.Touchscreen 4 cancel (λ touch. refl), tt),
      ),
    ),
  ),
)
each known.Text d = (λ m. absurd cc, (is_it known.Text 1 keysym (λ keysym state. refl), (is_it known.Text 2 utf8 (λ text. refl), tt)))
each known.Gesture d = (λ m. absurd cc, (is_it known.Gesture 1 swipe (λ fingers x y. refl), (is_it known.Gesture 2 pinch (λ scale. refl), tt)))

pub is_input : (k : KnownInterface) (opcode : ℕ) (r : Row) (values : List Stored) → is_of_device k ≡ true → row_at opcode (table true k) ≡ Some r → may_be_input k opcode ≡ true →
    all_fit r.kinds values ≡ true →
    is_some (input_of k opcode (map value_view values)) ≡ true
is_input k opcode r values d e m f = at_row (IsInput k) opcode (table true k) r (each k d) e m values f

-- and no other is one
pub no_input : (k : KnownInterface) (opcode : ℕ) (values : List Value) → may_be_input k opcode ≡ false → (eqb opcode 0 ≡ true) ⊎ (is_some (input_of k opcode values) ≡ false)
unfolding input_of
no_input known.Keyboard opcode values e = by (eqb opcode 0) (eqb opcode 2) refl refl e
  where
    key : Bool → Option InputEvent
    key b = two (λ key number. input_event.KeyboardKey key (key_of number)) (cond b (Some values) None)

    by : (p q : Bool) → eqb opcode 0 ≡ p → eqb opcode 2 ≡ q → (not p && q) ≡ false → (eqb opcode 0 ≡ true) ⊎ (is_some (input_of known.Keyboard opcode values) ≡ false)
    by true q f g h = inl f
    by false true f g h = absurd cc
    by false false f g h = inr (ap (λ (b : Bool). is_some (key b)) g)
no_input k opcode values e = by (eqb opcode 0) refl e
  where
    by : (p : Bool) → eqb opcode 0 ≡ p → (not p && true) ≡ false → (eqb opcode 0 ≡ true) ⊎ (is_some (input_of k opcode values) ≡ false)
    by true f h = inl f
    by false f h = absurd cc
