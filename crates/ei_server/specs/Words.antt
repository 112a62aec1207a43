-- What the files of proxies cite, in one place: values, and the words of a message that is sent.
pub use Rattle.ei_backend.specs.Proxies.{Word, Long, Signed, Letters, Fd, Sends, SendsText, SendsNew}
pub use Rattle.ei_spec.specs.declared.interface.KnownInterface.{KnownInterface}
pub use Rattle.ei_types.specs.Enums.{button_state_number, key_state_number, keymap_type_number, device_type_number, disconnect_reason_number}
