use Rattle.ei_types.proofs.EnumNumbers.{context_type_told, device_type_told, button_state_told, key_state_told, keymap_type_told, reason_told, reason_again}
use Rattle.ei_types.proofs.EnumNumbers.{any_reason}
use Rattle.ei_types.proofs.laws.enum_numbers.Goals as goal

pub returns : goal.returns
returns c = record {
  context_types = context_type_told;
  reasons = reason_told;
  reason_of = reason_again;
  any_reason = any_reason;
  device_types = device_type_told;
  button_states = button_state_told;
  key_states = key_state_told;
  keymap_types = keymap_type_told;
}
