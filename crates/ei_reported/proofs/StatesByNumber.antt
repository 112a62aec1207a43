-- Reasons and states are read by their numbers.
use Rattle.std.proofs.Common.{◌≡◌, ℕ, List, [], ◌∷◌, Some, None, refl, ap}
use Rattle.std.specs.Prelude.{codes}
use Rattle.ei_spec.specs.declared.interface.KnownInterface.TheVariants as known
use Rattle.ei_spec.specs.Value.{Word, Letters, Null}
use Rattle.ei_types.specs.declared.enums.DisconnectReason.{DisconnectReason}
use Rattle.ei_types.specs.declared.enums.ButtonState.{ButtonState}
use Rattle.ei_types.specs.declared.enums.ButtonState.TheVariants as button_state
use Rattle.ei_types.specs.declared.enums.KeyState.{KeyState}
use Rattle.ei_types.specs.declared.enums.KeyState.TheVariants as key_state
use Rattle.ei_types.specs.Enums.{IsReason, disconnect_reason_number, button_state_number, key_state_number}
use Rattle.ei_types.proofs.EnumNumbers.{reason_again}
use Rattle.ei_input.specs.Inputs.{button_of, key_of}
use Rattle.ei_reported.specs.Event.{event}
use Rattle.ei_reported.specs.Said.{Disconnects, said}

pub disconnected : (id last_serial : ℕ) (why : DisconnectReason) (t : List ℕ) → IsReason why →
    said (event known.Connection (codes "disconnected") id (Word last_serial ∷ Word (disconnect_reason_number why) ∷ Letters t ∷ [])) ≡ Disconnects last_serial why (Some t)
unfolding said
disconnected id s why t is = ap (λ (r : DisconnectReason). Disconnects s r (Some t)) (reason_again why is)

pub without_text : (id last_serial : ℕ) (why : DisconnectReason) → IsReason why →
    said (event known.Connection (codes "disconnected") id (Word last_serial ∷ Word (disconnect_reason_number why) ∷ Null ∷ [])) ≡ Disconnects last_serial why None
unfolding said
without_text id s why is = ap (λ (r : DisconnectReason). Disconnects s r None) (reason_again why is)

pub button_again : (state : ButtonState) → button_of (button_state_number state) ≡ state
button_again button_state.Released = refl
button_again button_state.Press = refl

pub key_again : (state : KeyState) → key_of (key_state_number state) ≡ state
key_again key_state.Released = refl
key_again key_state.Press = refl
