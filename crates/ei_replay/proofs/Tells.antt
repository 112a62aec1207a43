-- What the items come to tells whether the next one is wrong.
use Rattle.std.proofs.Common.{◌≡◌, ℕ, ◌<◌, ◌^◌, Bool, true, false, cond, not, ◌&&◌, ◌||◌, eqb, List, length, Option, Some, None, refl, sym, ap, ◌∙◌}
use Rattle.std.specs.Prelude.{is_some, bit_and, nat_le, slice_get}
use Rattle.std.specs.Option.{option_map}
use Rattle.std.proofs.lemmas.Nat.{and_comm}
use Rattle.ei_keyed.specs.Keyed.{keyed}
use Rattle.ei_spec.specs.Groups.{Timed, Framed, Plain as Given}
use Rattle.ei_spec.specs.History.{occurs}
use Rattle.ei_types.specs.Capability.{bits_of, bit_of, has_bit}
use Rattle.ei_types.specs.declared.capability.DeviceCapabilities.{DeviceCapabilities}
use Rattle.ei_input.specs.declared.input_event.InputEvent.{InputEvent}
use Rattle.ei_input.specs.declared.input_event.InputEvent.TheVariants as input_event
use Rattle.ei_session.specs.Setup.{Setup, seat_id}
use Rattle.ei_session.specs.Requests.{Request, Bind, RequestDevice, Ready, DeviceClosed, DeviceStartEmulating, DeviceStopEmulating, Disconnect}
use Rattle.ei_record.specs.Replayable as record_of
use Rattle.ei_record.specs.Replayable.{capability_for, mask_before, closes_device, is_there, touch_is_down, touches_before, asks_badly, names_none, device_of, lacks, touches_badly, writes_badly, stands_badly, is_input_of, is_within, is_wrong}
use Rattle.ei_replay.specs.declared.played.Played.{Played}
use Rattle.ei_replay.specs.Steps.{kind_of, step_of, goes_with, IsNamed}
use Rattle.ei_replay.specs.Made.{MadeView, refuses_kind}
use Rattle.ei_replay.specs.Played.{if_open, open_device, is_it, wrong_input, wrong_step, wrong_at, Touched, IsMade, device_of_input, Stands}
use Rattle.ei_record.proofs.TouchesBefore.{down_count}

-- ---- Bools

not_and : (a b : Bool) → (not a || not b) ≡ (not (a && b) || (false || false))
not_and true true = refl
not_and true false = refl
not_and false b = refl

or_false : (a : Bool) → a ≡ (a || false)
or_false true = refl
or_false false = refl

swapped : (a b c : Bool) → (a || (b || c)) ≡ (b || (a || c))
swapped true true c = refl
swapped true false c = refl
swapped false b c = refl

-- ---- a device

there_by : (before : List Request) (d : ℕ) (mask : Option ℕ) (m : Option MadeView) → IsMade before d mask m → is_some (if_open m) ≡ (is_some mask && not (occurs (closes_device d) before))
there_by before d None None h = refl
there_by before d None (Some m) h = absurd h
there_by before d (Some mask) None h = absurd h
there_by before d (Some mask) (Some m) h = by (m.closed) refl
  where
    by : (b : Bool) → m.closed ≡ b → is_some (cond m.closed None (Some m)) ≡ not (occurs (closes_device d) before)
    by true e = rw e (sym (ap not (sym h.1 ∙ e)))
    by false e = rw e (sym (ap not (sym h.1 ∙ e)))

module _ (before : List Request) (p : Played) (s : Stands before p) where
  there : (d : ℕ) → d < 2 ^ 64 → is_some (open_device p d) ≡ is_there before d
  unfolding is_there
  there d low = there_by before d (mask_before before d) (keyed d p.devices.items) (s.devices d low)

  named : (d : ℕ) → d < 2 ^ 64 → not (is_some (open_device p d)) ≡ (not (is_there before d) || false)
  named d low = ap not (there d low) ∙ or_false (not (is_there before d))

  last_case : (d : ℕ) (o : Option Request) → is_it d (device_of_input o) ≡ is_input_of d o
  last_case d None = refl
  last_case d (Some (Timed e x t)) = refl
  last_case d (Some (Framed e x t)) = refl
  last_case d (Some (Given y)) = refl

  last : (d : ℕ) → is_it d p.last ≡ is_input_of d (slice_get before 0)
  last d = ap (is_it d) s.last ∙ last_case d (slice_get before 0)

-- ---- an input

next_so : (d t : ℕ) (next : Option Request) → goes_with d t (option_map step_of next) ≡ record_of.goes_with d t next
next_so d t None = refl
next_so d t (Some (Timed e x u)) = refl
next_so d t (Some (Framed e s u)) = refl
next_so d t (Some (Given Disconnect)) = refl
next_so d t (Some (Given (Bind seat mask))) = refl
next_so d t (Some (Given (RequestDevice seat mask))) = refl
next_so d t (Some (Given (Ready e))) = refl
next_so d t (Some (Given (DeviceClosed e))) = refl
next_so d t (Some (Given (DeviceStartEmulating e x y))) = refl
next_so d t (Some (Given (DeviceStopEmulating e x))) = refl

module _ (before : List Request) (d : ℕ) (touches : List ℕ) (h : Touched before d touches) where
  count : nat_le 16 (length touches) ≡ nat_le 16 (length (touches_before before d))
  count = ap (nat_le 16) (down_count before d touches h.once h.down)

  kind_so : (x : InputEvent) → refuses_kind (kind_of x) touches ≡ (touches_badly before d x || writes_badly x)
  kind_so (input_event.TouchDown t a b) = rw (count, h.down t) (or_false _)
  kind_so (input_event.TouchMotion t a b) = rw (h.down t) (or_false _)
  kind_so (input_event.TouchUp t) = rw (h.down t) (or_false _)
  kind_so (input_event.TouchCancel t) = rw (h.down t) (or_false _)
  kind_so (input_event.TextUtf8 letters) = refl
  kind_so (input_event.PointerMotion a b) = refl
  kind_so (input_event.PointerMotionAbsolute a b) = refl
  kind_so (input_event.Button a b) = refl
  kind_so (input_event.ScrollDelta a b) = refl
  kind_so (input_event.ScrollStop a b) = refl
  kind_so (input_event.ScrollCancel a b) = refl
  kind_so (input_event.ScrollDiscrete a b) = refl
  kind_so (input_event.KeyboardKey a b) = refl
  kind_so (input_event.TextKeysym a b) = refl
  kind_so (input_event.GestureSwipe a b c) = refl
  kind_so (input_event.GesturePinch a) = refl

input_by : (before : List Request) (d t : ℕ) (x : InputEvent) (next : Option Request) (mask : Option ℕ) (m : Option MadeView) → IsMade before d mask m →
    wrong_input (if_open m) d t (capability_for x) (kind_of x) (option_map step_of next)
    ≡ (not (is_some mask && not (occurs (closes_device d) before)) || (lacks mask x || (not (record_of.goes_with d t next) || (touches_badly before d x || writes_badly x))))
input_by before d t x next None None h = refl
input_by before d t x next None (Some m) h = absurd h
input_by before d t x next (Some mask) None h = absurd h
input_by before d t x next (Some mask) (Some m) h = by m.closed refl
  where
    by : (b : Bool) → m.closed ≡ b → wrong_input (cond m.closed None (Some m)) d t (capability_for x) (kind_of x) (option_map step_of next)
        ≡ (not (not (occurs (closes_device d) before)) || (not (has_bit mask (bit_of (capability_for x))) || (not (record_of.goes_with d t next) || (touches_badly before d x || writes_badly x))))
    by true e = let o : occurs (closes_device d) before ≡ true = sym h.1 ∙ e in rw (e, o) refl
    by false e =
        let o : occurs (closes_device d) before ≡ false = sym h.1 ∙ e in
        rw (e, o, next_so d t next, kind_so before d m.touches h.2 x, h.0) (swapped (not (record_of.goes_with d t next)) (not (has_bit mask (bit_of (capability_for x)))) (touches_badly before d x || writes_badly x))

-- ---- any item

module _ (setup : Setup) (before : List Request) (p : Played) (s : Stands before p) (same : bits_of p.capabilities ≡ setup.capabilities) where
  asked : (seat : ℕ) (mask : ℕ) (set : DeviceCapabilities) → bits_of set ≡ mask → (not (eqb seat seat_id) || not (eqb (bit_and (bits_of p.capabilities) (bits_of set)) (bits_of set))) ≡ (not (eqb seat seat_id && is_within mask setup.capabilities) || (false || false))
  asked seat mask set e =
      let turn : bit_and (bits_of p.capabilities) (bits_of set) ≡ bit_and mask setup.capabilities = ap (λ (n : ℕ). bit_and n (bits_of set)) same ∙ ap (bit_and setup.capabilities) e ∙ and_comm setup.capabilities mask in
      rw (turn, e) (not_and (eqb seat seat_id) (eqb (bit_and mask setup.capabilities) mask))

  input_case : (d t : ℕ) (x : InputEvent) (next : Option Request) → d < 2 ^ 64 → wrong_input (open_device p d) d t (capability_for x) (kind_of x) (option_map step_of next) ≡ (not (is_there before d) || stands_badly before (Timed d x t) next)
  unfolding is_there
  input_case d t x next low = input_by before d t x next (mask_before before d) (keyed d p.devices.items) (s.devices d low)

  steps : (item : Request) (next : Option Request) → IsNamed (step_of item) → wrong_step p (step_of item) (option_map step_of next) ≡ (asks_badly setup item || (names_none before (device_of item) || stands_badly before item next))
  steps (Timed d x t) next low = input_case d t x next low
  steps (Framed d n t) next low = rw (there before p s d low, last before p s d) refl
  steps (Given Disconnect) next low = refl
  steps (Given (Bind seat mask)) next low = asked seat mask (record { 0 = mask }) refl
  steps (Given (RequestDevice seat mask)) next low = asked seat mask (record { 0 = mask }) refl
  steps (Given (Ready d)) next low = named before p s d low
  steps (Given (DeviceClosed d)) next low = named before p s d low
  steps (Given (DeviceStartEmulating d x y)) next low = named before p s d low
  steps (Given (DeviceStopEmulating d x)) next low = named before p s d low

  pub tells : (item : Request) (next : Option Request) → IsNamed (step_of item) → wrong_at p (step_of item) (option_map step_of next) ≡ is_wrong setup before item next
  unfolding is_wrong
  tells item next low = rw (s.over, steps item next low) refl
