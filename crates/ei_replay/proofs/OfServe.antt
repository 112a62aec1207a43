-- What a server hands out asks what the definitions say, where it can be played back.
use Rattle.std.proofs.Common.{◌≡◌, ℕ, Bool, true, false, not, ◌&&◌, eqb, List, [], ◌∷◌, Option, None, refl, sym, ap, ◌∙◌}
use Rattle.std.specs.Prelude.{map, slice_get}
use Rattle.std.proofs.lemmas.Bool.{eqb-true}
use Rattle.ei_spec.specs.declared.interface.KnownInterface.{KnownInterface}
use Rattle.ei_spec.specs.Message.{IsBytes}
use Rattle.ei_spec.specs.Groups.{Timed, Framed, Plain as Given}
use Rattle.ei_input.specs.declared.input_event.InputEvent.{InputEvent}
use Rattle.ei_input.specs.declared.input_event.InputEvent.TheVariants as input_event
use Rattle.ei_session.specs.Setup.{Setup, seat_id}
use Rattle.ei_session.specs.Handshake.{version}
use Rattle.ei_session.specs.Requests.{Request, Bind, RequestDevice, Ready, DeviceClosed, DeviceStartEmulating, DeviceStopEmulating, Disconnect, framed}
use Rattle.ei_session.specs.Served.{accepted}
use Rattle.ei_session.proofs.Choices.{or_none, and_left}
use Rattle.ei_standing.specs.Standing.{handed_as, request_in_code}
use Rattle.ei_record.specs.Replayable.{asks_badly, is_within, is_wrong, wrong_from}
use Rattle.ei_record.proofs.Lists.{was_right}
use Rattle.ei_record.proofs.Law.{handed_out}
use Rattle.ei_replay.specs.Asked.{asked_of}

not_false : (b : Bool) → not b ≡ false → b ≡ true
not_false true h = refl
not_false false h = absurd cc

pub asks_of : (setup : Setup) (before : List Request) (item : Request) (next : Option Request) → is_wrong setup before item next ≡ false → asks_badly setup item ≡ false
unfolding is_wrong
asks_of setup before item next h = (or_none _ _ (or_none _ _ h).1).0

module _ (versions : KnownInterface → ℕ) where
  input_same : (d t : ℕ) (x : InputEvent) → asked_of (handed_as versions (Timed d x t)) ≡ Timed d x t
  input_same d t (input_event.TouchDown a b c) = refl
  input_same d t (input_event.TouchMotion a b c) = refl
  input_same d t (input_event.TouchUp a) = refl
  input_same d t (input_event.TouchCancel a) = refl
  input_same d t (input_event.TextUtf8 a) = refl
  input_same d t (input_event.PointerMotion a b) = refl
  input_same d t (input_event.PointerMotionAbsolute a b) = refl
  input_same d t (input_event.Button a b) = refl
  input_same d t (input_event.ScrollDelta a b) = refl
  input_same d t (input_event.ScrollStop a b) = refl
  input_same d t (input_event.ScrollCancel a b) = refl
  input_same d t (input_event.ScrollDiscrete a b) = refl
  input_same d t (input_event.KeyboardKey a b) = refl
  input_same d t (input_event.TextKeysym a b) = refl
  input_same d t (input_event.GestureSwipe a b c) = refl
  input_same d t (input_event.GesturePinch a) = refl

  seat_of : (setup : Setup) (seat mask : ℕ) → not (eqb seat seat_id && is_within mask setup.capabilities) ≡ false → seat_id ≡ seat
  seat_of setup seat mask h = sym (eqb-true seat seat_id (and_left _ (is_within mask setup.capabilities) (not_false _ h)))

  pub same : (setup : Setup) (item : Request) → asks_badly setup item ≡ false → asked_of (handed_as versions item) ≡ item
  same setup (Timed d x t) h = input_same d t x
  same setup (Framed d s t) h = refl
  same setup (Given (Bind seat mask)) h = ap (λ (n : ℕ). Given (Bind n mask)) (seat_of setup seat mask h)
  same setup (Given (RequestDevice seat mask)) h = ap (λ (n : ℕ). Given (RequestDevice n mask)) (seat_of setup seat mask h)
  same setup (Given (Ready d)) h = refl
  same setup (Given (DeviceClosed d)) h = refl
  same setup (Given (DeviceStartEmulating d x y)) h = refl
  same setup (Given (DeviceStopEmulating d x)) h = refl
  same setup (Given Disconnect) h = refl

  all_same : (setup : Setup) (before items : List Request) → wrong_from setup before items ≡ None → map asked_of (map (handed_as versions) items) ≡ items
  all_same setup before [] h = refl
  all_same setup before (item ∷ later) h =
      let w = was_right setup before item later h in
      ap (λ (x : Request). x ∷ map asked_of (map (handed_as versions) later)) (same setup item (asks_of setup before item (slice_get later 0) w.0))
      ∙ ap (λ (l : List Request). item ∷ l) (all_same setup (item ∷ before) later w.1)

pub of_serve : (setup : Setup) (bytes readings : List ℕ) → IsBytes bytes → map asked_of (map (request_in_code (accepted setup bytes)) (framed setup readings (accepted setup bytes))) ≡ framed setup readings (accepted setup bytes)
of_serve setup bytes readings h = all_same (version (accepted setup bytes)) setup [] (framed setup readings (accepted setup bytes)) (handed_out setup bytes readings h)
