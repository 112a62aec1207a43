-- A request that the converter refuses is refused by the session, and for the same reason.
use Rattle.std.proofs.Common.{◌≡◌, ℕ, Bool, true, false, cond, ◌||◌, ◌&&◌, ◌==◌, List, length, Option, Some, None, refl, sym, ap, subst, ◌∙◌}
use Rattle.std.specs.Prelude.{IsSome, find, bit_and, nat_eq, nat_le, nat_lt}
use Rattle.std.specs.List.{list_any}
use Rattle.std.specs.Option.{option_map}
use Rattle.ei_spec.specs.declared.interface.KnownInterface.TheVariants as known
use Rattle.ei_spec.specs.declared.limits.TheConstants.{MOST_TOUCHES, MOST_TEXT_BYTES}
use Rattle.ei_spec.specs.Interface.{name_of}
use Rattle.ei_spec.specs.Message.{Raw, Whole, front}
use Rattle.ei_types.specs.Capability.{all_bits, bits_of}
use Rattle.ei_types.specs.declared.error.Error.{Error}
use Rattle.ei_types.specs.declared.error.Error.TheVariants as error
use Rattle.ei_types.specs.declared.error.RequestError.TheVariants as request_error
use Rattle.ei_input.specs.declared.input_event.InputEvent.{InputEvent}
use Rattle.ei_input.specs.declared.input_event.InputEvent.TheVariants.{TouchDown, TouchCancel, TextUtf8}
use Rattle.ei_session.specs.Setup.{Setup}
use Rattle.ei_session.specs.Meaning.{Shake, Meaning, Shakes, Syncs, Binds, RequestsDevice, Inputs}
use Rattle.ei_session.specs.Refusals.{InvalidInterfaceVersion, Request as BadRequest, refusal}
use Rattle.ei_request.specs.Held.{SeatView, DeviceView, is_seat, has_interface}
use Rattle.ei_request.specs.Connection.{ConnectionView}
use Rattle.ei_request.specs.Refusing.{Reason, OfHandshake, BadVersion, Bad, Tells, mask_refusal, input_refusal, refusal as refused}
use Rattle.ei_standing.specs.Standing.{refusal_told}
use Rattle.ei_serve.specs.Steps.{Refuses}
use Rattle.ei_serve.proofs.Asked.{judged_refused}

-- it isn't refused as one of the handshake
abbrev pub NoHandshake : Option Reason → Type 0
NoHandshake (Some OfHandshake) = ⊥
NoHandshake x = Unit {0}

either : (b : Bool) (x y : Option Reason) → NoHandshake x → NoHandshake y → NoHandshake (cond b x y)
either true x y p q = p
either false x y p q = q

no_mask : (mask : ℕ) (o : Option SeatView) → NoHandshake (mask_refusal mask o)
no_mask mask None = tt
no_mask mask (Some s) = either (nat_le mask all_bits && (bit_and (bits_of s.capabilities) mask == mask)) None (Some (Bad request_error.InvalidCapabilities)) tt tt

no_input : (version : ℕ) (i : InputEvent) (o : Option DeviceView) → NoHandshake (input_refusal version i o)
no_input version i None = tt
no_input version (TouchDown touch x y) (Some d) =
    either (nat_le MOST_TOUCHES (length d.touches)) (Some (Bad request_error.TooManyTouches)) (cond (list_any (nat_eq touch) d.touches) (Some (Bad request_error.DuplicatedTouchDown)) None) tt
    (either (list_any (nat_eq touch) d.touches) (Some (Bad request_error.DuplicatedTouchDown)) None tt tt)
no_input version (TouchCancel touch) (Some d) = either (nat_lt version 2) (Some (BadVersion (name_of known.Touchscreen) version)) None tt tt
no_input version (TextUtf8 letters) (Some d) = either ((length letters == 0) || nat_lt MOST_TEXT_BYTES (length letters)) (Some (Bad request_error.InvalidTextLength)) None tt tt
no_input version i (Some d) = tt

pub no_handshake : (c : ConnectionView) (id version : ℕ) (x : Meaning) → ((shake : Shake) → x ≡ Shakes shake → ⊥) → NoHandshake (refused c id version x)
no_handshake c id version (Shakes shake) g = absurd (g shake refl)
no_handshake c id version (Syncs callback v) g = either (v == 1) None (Some (BadVersion (name_of known.Callback) v)) tt tt
no_handshake c id version (Binds mask) g = no_mask mask (find (is_seat id) c.seats)
no_handshake c id version (RequestsDevice mask) g = no_mask mask (find (is_seat id) c.seats)
no_handshake c id version (Inputs i) g = no_input version i (find (has_interface id) c.devices)
no_handshake c id version x g = tt

no_reason : (x : Option Reason) → IsSome x → None ≡ x → ⊥
no_reason None s e = let z : false ≡ true = s in absurd cc
no_reason (Some y) s e = absurd cc

-- an error that tells a reason is the session's refusal
pub refuses_as : (setup : Setup) (past : List Raw) (rest : List ℕ) (m : Raw) (after : List ℕ) (x : Option Reason) (e : Error) → front rest ≡ Whole m after → option_map refusal_told x ≡ refusal setup past m → NoHandshake x → (e ≡ error.NoMemory → ⊥) → Tells x e → Refuses setup past rest e
refuses_as setup past rest m after x error.NoMemory f t nh some h = absurd (some refl)
refuses_as setup past rest m after x error.UnexpectedHandshakeEvent f t nh some h = absurd (subst NoHandshake (sym h.1) nh)
refuses_as setup past rest m after x (error.InvalidInterfaceVersion interface v) f t nh some h =
    (m, after, f, judged_refused setup past m (InvalidInterfaceVersion interface.now v) (sym t ∙ ap (option_map refusal_told) (sym h.1)))
refuses_as setup past rest m after x (error.Request q) f t nh some h = (m, after, f, judged_refused setup past m (BadRequest q) (sym t ∙ ap (option_map refusal_told) (sym h.1)))
refuses_as setup past rest m after x (error.Event q) f t nh some h = absurd (no_reason x h.0 h.1)
refuses_as setup past rest m after x (error.Parse q) f t nh some h = absurd (no_reason x h.0 h.1)
refuses_as setup past rest m after x (error.Handshake q) f t nh some h = absurd (no_reason x h.0 h.1)
refuses_as setup past rest m after x e f t nh some h = absurd (no_reason x h.0 h.1)
