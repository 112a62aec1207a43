-- Why a message is refused, by what its target is.
use Rattle.std.proofs.Common.{◌≡◌, true, false, List, Some, None, refl}
use Rattle.ei_types.specs.declared.error.HandshakeError.TheVariants as handshake
use Rattle.ei_spec.specs.Message.{Raw}
use Rattle.ei_spec.specs.Rows.{row_at}
use Rattle.ei_spec.specs.Table.{table}
use Rattle.ei_session.specs.Setup.{Setup}
use Rattle.ei_session.specs.Asked.{first}
use Rattle.ei_session.specs.Handshake.{connected}
use Rattle.ei_session.specs.Objects.{Entry, object}
use Rattle.ei_session.specs.Refusals.{Handshake, arguments, tests, refusal}

pub refused_known : (setup : Setup) (before : List Raw) (m : Raw) (e : Entry) → object before m.id ≡ Some e →
    refusal setup before m ≡ first (tests setup before m e (row_at m.opcode (table false e.interface)) (arguments (row_at m.opcode (table false e.interface)) m))
unfolding refusal
refused_known setup before m e k = rw (k, refusal) refl

pub refused_early : (setup : Setup) (before : List Raw) (m : Raw) → connected before ≡ false → object before m.id ≡ None → refusal setup before m ≡ Some (Handshake (handshake.InvalidObject m.id))
unfolding refusal
refused_early setup before m off n = rw (n, refusal, off) refl

pub refused_never : (setup : Setup) (before : List Raw) (m : Raw) → connected before ≡ true → object before m.id ≡ None → refusal setup before m ≡ None
unfolding refusal
refused_never setup before m on n = rw (n, refusal, on) refl
