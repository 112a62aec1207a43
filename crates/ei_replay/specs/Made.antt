-- A device that the items so far made.
use Rattle.std.specs.Prelude.{ℕ, Bool, true, false, not, ◌||◌, List, [], ◌∷◌, ◌++◌, length, nat_eq, nat_le, nat_lt, ◌==◌, refl}
use Rattle.std.specs.List.{list_any}
use Rattle.std.specs.Coded.{Coded, code_by, coded×, coded_ℕ, coded_bool, coded_list}
use Rattle.ei_types.specs.Capability.{bit_of, has_bit}
use Rattle.ei_types.specs.declared.capability.DeviceCapability.{DeviceCapability}
use Rattle.ei_request.specs.Held.{without_first}
use Rattle.ei_replay.specs.declared.step.InputKind.{InputKind}
use Rattle.ei_replay.specs.declared.step.InputKind.TheVariants as input_kind

-- the bits of its capabilities, whether it was closed, and which touches of it are down
pub record MadeView : Type 0 where
  pub mask : ℕ
  pub closed : Bool
  pub touches : List ℕ

abbrev pub made_code : Coded MadeView
made_code = code_by (ℕ × (Bool × List ℕ)) (coded× coded_ℕ (coded× coded_bool (coded_list coded_ℕ))) (λ m. (m.mask, (m.closed, m.touches)))
    (λ p. record { mask = p.0; closed = p.1.0; touches = p.1.1 }) (λ _. refl)

-- whether the touch is down
abbrev pub has_touch : ℕ → List ℕ → Bool
has_touch touch touches = list_any (nat_eq touch) touches

-- whether an input of the kind can't come, where these touches are down
abbrev pub refuses_kind : InputKind → List ℕ → Bool
refuses_kind (input_kind.Down touch) touches = nat_le 16 (length touches) || has_touch touch touches
refuses_kind (input_kind.Move touch) touches = not (has_touch touch touches)
refuses_kind (input_kind.Lift touch) touches = not (has_touch touch touches)
refuses_kind (input_kind.Text len) touches = len == 0 || nat_lt 254 len
refuses_kind input_kind.Plain touches = false

-- nor where the device lacks its capability
abbrev pub refuses : DeviceCapability → InputKind → MadeView → Bool
refuses capability kind m = not (has_bit m.mask (bit_of capability)) || refuses_kind kind m.touches

-- the touches that are down after an input of the kind
abbrev pub touched : InputKind → List ℕ → List ℕ
touched (input_kind.Down touch) touches = touches ++ touch ∷ []
touched (input_kind.Lift touch) touches = without_first (nat_eq touch) touches
touched kind touches = touches

-- the device after it
abbrev pub takes : InputKind → MadeView → MadeView
takes kind m = record m { touches = touched kind m.touches }

-- the device, closed
abbrev pub closed : MadeView → MadeView
closed m = record m { closed = true }
