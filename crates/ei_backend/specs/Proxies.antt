-- What the files of proxies cite, at both ends: values, and the words of a message that is sent, read and shown.
pub use Rattle.ei_spec.specs.Value.{Word, Long, Signed, Letters, Fd}
pub use Rattle.ei_backend.specs.Table.{Announced}
pub use Rattle.ei_backend.specs.Message.{ReadsRow, ReadsWhole}
pub use Rattle.ei_backend.specs.Shown.{Shows}
pub use Rattle.ei_backend.specs.Sends.{Sends, SendsText, SendsNew}
