use Rattle.ei_types.proofs.EnumNumbers.{context_type_back, device_type_back, button_state_back, key_state_back, keymap_type_back, reason_back}
use Rattle.ei_types.proofs.laws.enums_read_back.Goals as goal

pub returns : goal.returns
returns c = record {
  context_types = context_type_back;
  reasons = reason_back;
  device_types = device_type_back;
  button_states = button_state_back;
  key_states = key_state_back;
  keymap_types = keymap_type_back;
}
