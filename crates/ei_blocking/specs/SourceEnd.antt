-- Where a source came to its end.
use Rattle.std.specs.Prelude.{◌≡◌, Bool, false, Result, IsErrOf}
use Rattle.ei_types.specs.declared.error.Error.{Error}
use Rattle.ei_types.specs.declared.error.Error.TheVariants as error

-- an endpoint that wasn't closed came to the source's end
abbrev pub CameToEnd : {T : Type 0} → Bool → Result T Error → Type 0
CameToEnd closed r = (closed ≡ false) × IsErrOf r error.UnexpectedEof
