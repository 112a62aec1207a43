-- What counts as refused.
use Rattle.std.specs.Prelude.{ℕ}
use Rattle.ei_backend.specs.declared.message.PendingRequestResult.{PendingRequestResult}
use Rattle.ei_backend.specs.declared.message.PendingRequestResult.TheVariants as answers

-- a message is refused, or to no object, where no typed one came of it
abbrev pub refused_by : {T : Type 0} → PendingRequestResult T → ℕ
refused_by (answers.Request message) = 0
refused_by (answers.ParseError fault) = 1
refused_by (answers.InvalidObject id) = 1
