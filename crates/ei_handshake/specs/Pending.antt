-- What stands at the front, as a result.
use Rattle.std.specs.Prelude.{◌≡◌, Result, Ok, Err}
use Rattle.ei_backend.specs.declared.message.PendingRequestResult.{PendingRequestResult}
use Rattle.ei_backend.specs.declared.message.PendingRequestResult.TheVariants as pending
use Rattle.ei_types.specs.declared.error.Error.{Error}
use Rattle.ei_types.specs.declared.error.Error.TheVariants as error
use Rattle.ei_types.specs.declared.error.HandshakeError.TheVariants as handshake_error
use Rattle.ei_types.specs.Errors.{error_of_parse}

abbrev pub ResultOf : {T : Type 0} → PendingRequestResult T → Result T Error → Type 0
ResultOf (pending.Request m) result = result ≡ Ok m
ResultOf (pending.ParseError e) result = result ≡ Err (error_of_parse e)
ResultOf (pending.InvalidObject id) result = result ≡ Err (error.Handshake (handshake_error.InvalidObject id))
