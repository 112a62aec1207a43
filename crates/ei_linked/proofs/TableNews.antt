-- A row that announces an object has the kind of its id; a row whose message names the interface has id and name first.
use Rattle.std.proofs.Common.{◌≡◌, ℕ, Bool, true, false, ◌&&◌, List, [], ◌∷◌, Option, Some, refl, subst, ◌==◌, if◌then◌else◌}
use Rattle.std.specs.Prelude.{not}
use Rattle.std.specs.List.{list_any}
use Rattle.std.proofs.lemmas.Bool.{and_parts}
use Rattle.std.proofs.lemmas.Option.{same_Some}
use Rattle.ei_spec.specs.declared.interface.KnownInterface.{KnownInterface}
use Rattle.ei_spec.specs.declared.interface.KnownInterface.TheVariants as known
use Rattle.ei_spec.specs.Value.{Kind, New, Text, I64}
use Rattle.ei_spec.specs.Rows.{Row, Announces, Nothing, Fixed, Named, row_at}
use Rattle.ei_spec.specs.Table.{table}

abbrev pub is_new : Kind → Bool
is_new New = true
is_new k = false

abbrev pub has_new : Announces → List Kind → Bool
has_new Nothing kinds = true
has_new (Fixed k) kinds = list_any is_new kinds
has_new Named (New ∷ Text ∷ kinds) = true
has_new Named kinds = false

-- no signed number of 64 bits
abbrev pub is_long : Kind → Bool
is_long I64 = true
is_long k = false

abbrev pub is_fine : Row → Bool
is_fine r = has_new r.announces r.kinds && not (list_any is_long r.kinds)

all_have : List (ℕ × Row) → Bool
all_have [] = true
all_have (r ∷ rs) = is_fine r.1 && all_have rs

table_has : (events : Bool) (interface : KnownInterface) → all_have (table events interface) ≡ true
unfolding all_have
table_has false known.Handshake = refl
table_has false known.Connection = refl
table_has false known.Callback = refl
table_has false known.Pingpong = refl
table_has false known.Seat = refl
table_has false known.Device = refl
table_has false known.Pointer = refl
table_has false known.PointerAbsolute = refl
table_has false known.Scroll = refl
table_has false known.Button = refl
table_has false known.Keyboard = refl
table_has false known.Touchscreen = refl
table_has false known.Text = refl
table_has false known.Gesture = refl
table_has true known.Handshake = refl
table_has true known.Connection = refl
table_has true known.Callback = refl
table_has true known.Pingpong = refl
table_has true known.Seat = refl
table_has true known.Device = refl
table_has true known.Pointer = refl
table_has true known.PointerAbsolute = refl
table_has true known.Scroll = refl
table_has true known.Button = refl
table_has true known.Keyboard = refl
table_has true known.Touchscreen = refl
table_has true known.Text = refl
table_has true known.Gesture = refl

chosen : (b : Bool) (r s : Row) (o : Option Row) → (if b then Some s else o) ≡ Some r → (b ≡ true → s ≡ r) × (b ≡ false → o ≡ Some r)
chosen true r s o e = (λ _. same_Some s r e, λ f. absurd cc)
chosen false r s o e = (λ f. absurd cc, λ _. e)

by_test : (b : Bool) (x r : Row) → is_fine x ≡ true → (b ≡ true → x ≡ r) → (b ≡ false → is_fine r ≡ true) → is_fine r ≡ true
by_test true x r here this other = subst (λ (q : Row). is_fine q ≡ true) (this refl) here
by_test false x r here this other = other refl

row_has : (opcode : ℕ) (rs : List (ℕ × Row)) (r : Row) → all_have rs ≡ true → row_at opcode rs ≡ Some r → is_fine r ≡ true
unfolding all_have
row_has opcode [] r all e = absurd cc
row_has opcode (x ∷ rs) r all e =
    let parts = and_parts (is_fine x.1) (all_have rs) all in
    let choice = chosen (opcode == x.0) r x.1 (row_at opcode rs) e in
    by_test (opcode == x.0) x.1 r parts.0 choice.0 (λ is. row_has opcode rs r parts.1 (choice.1 is))

fine : (events : Bool) (interface : KnownInterface) (opcode : ℕ) (r : Row) → row_at opcode (table events interface) ≡ Some r → is_fine r ≡ true
fine events interface opcode r e = row_has opcode (table events interface) r (table_has events interface) e

pub announces_new : (events : Bool) (interface : KnownInterface) (opcode : ℕ) (r : Row) → row_at opcode (table events interface) ≡ Some r → has_new r.announces r.kinds ≡ true
announces_new events interface opcode r e = (and_parts (has_new r.announces r.kinds) (not (list_any is_long r.kinds)) (fine events interface opcode r e)).0

not_true : (b : Bool) → not b ≡ true → b ≡ false
not_true true e = absurd cc
not_true false e = refl

pub none_long : (events : Bool) (interface : KnownInterface) (opcode : ℕ) (r : Row) → row_at opcode (table events interface) ≡ Some r → list_any is_long r.kinds ≡ false
none_long events interface opcode r e = not_true (list_any is_long r.kinds) (and_parts (has_new r.announces r.kinds) (not (list_any is_long r.kinds)) (fine events interface opcode r e)).1
