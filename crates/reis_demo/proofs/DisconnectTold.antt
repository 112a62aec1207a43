-- The program's answer, where the session's is a disconnect.
use Rattle.std.proofs.Common.{◌≡◌, Option, Some, None, Result, Ok, Err, refl}
use Rattle.ei_session.specs.Refusals.{Refusal}
use Rattle.ei_session.specs.Served.{Disconnect}
use Rattle.ei_serve.specs.declared.session.Ended.{Ended}
use Rattle.ei_serve.specs.declared.session.Ended.TheVariants as ended
use Rattle.ei_serve.specs.Refusing.{refusal_of, IsRefused}
use Rattle.ei_serve.specs.Serving.{AnswersAs}
use Rattle.ei_types.specs.Decided.{IsDecided}
use Rattle.ei_types.specs.declared.error.Error.{Error}
use Rattle.ei_types.specs.declared.error.Error.TheVariants as error

not_refused : (o : Option Refusal) → IsRefused o Disconnect → ⊥
not_refused None h = h
not_refused (Some r) h = absurd cc

-- it is the same
pub disconnect_told : (a : Result Ended Error) → AnswersAs Disconnect a → IsDecided a → a ≡ Ok ended.Disconnect
disconnect_told (Ok ended.Disconnect) h d = refl
disconnect_told (Ok ended.End) h d = absurd cc
disconnect_told (Err error.ReadFault) h d = absurd d
disconnect_told (Err error.WriteFault) h d = absurd d
disconnect_told (Err error.NoMemory) h d = absurd d
disconnect_told (Err error.UnexpectedEof) h d = absurd cc
disconnect_told (Err error.PieceLimit) h d = absurd cc
disconnect_told (Err error.HandleLimit) h d = absurd cc
disconnect_told (Err error.IdsExhausted) h d = absurd cc
disconnect_told (Err error.UnexpectedHandshakeEvent) h d = absurd (not_refused (refusal_of error.UnexpectedHandshakeEvent) h)
disconnect_told (Err (error.InvalidInterfaceVersion name n)) h d = absurd (not_refused (refusal_of (error.InvalidInterfaceVersion name n)) h)
disconnect_told (Err (error.Event e)) h d = absurd (not_refused (refusal_of (error.Event e)) h)
disconnect_told (Err (error.Request e)) h d = absurd (not_refused (refusal_of (error.Request e)) h)
disconnect_told (Err (error.Parse e)) h d = absurd (not_refused (refusal_of (error.Parse e)) h)
disconnect_told (Err (error.Handshake e)) h d = absurd (not_refused (refusal_of (error.Handshake e)) h)
disconnect_told (Err error.MessageTooLong) h d = absurd (not_refused (refusal_of error.MessageTooLong) h)
