-- A handshake that begins, or for which no memory is left.
use Rattle.std.proofs.Common.{◌≡◌, ℕ, List, [], Option, Result, Err, refl, subst, arith}
use Rattle.ei_spec.specs.Piece.{Piece}
use Rattle.ei_types.specs.declared.error.Error.{Error}
use Rattle.ei_types.specs.declared.error.Error.TheVariants as error
use Rattle.ei_backend.specs.Backend.{BackendView}
use Rattle.ei_backend.specs.Outside.{SourceView, SinkView}
use Rattle.ei_backend.specs.Pieces.{ArePieces}
use Rattle.ei_greeting.specs.Shaking.{Greeter}
use Rattle.ei_handshake.specs.Client.{unshaken}
use Rattle.ei_handshake.specs.declared.client.HandshakeResp.{HandshakeResp}
use Rattle.ei_blocking.specs.Blocking.{Around, Opens, around}
use Rattle.ei_blocking.proofs.Running.{starts, messages_fail}
use Rattle.ei_blocking.proofs.Stepping.{wants_front}

-- memory ran out before anything was asked
pub unbegun : (g : Greeter) (b : BackendView) (x : SourceView) (s : SinkView) (most : ℕ) (told : List Piece) (left : Option (List Piece)) (ended : Type 0) (result : Result HandshakeResp Error) → result ≡ Err error.NoMemory →
    ArePieces x x ended told left → Opens g most told left result (around b s) (around b s)
unbegun g b x s most told left ended result is are =
    let r = starts g b x s (unshaken g) refl in
    messages_fail g b x s 0 (unshaken g) x s b r most (omega arith) told left ended error.NoMemory (Err error.NoMemory) result (unshaken g) s b refl is
    ([], wants_front g r.turned.c r.turned.past (unshaken g) s s b b refl r.turned.shakes r.turned.sends) are

-- the handshake of a greeter is that of the same greeter
pub of_greeter : (v w : Greeter) (most : ℕ) (told : List Piece) (left : Option (List Piece)) (result : Result HandshakeResp Error) (old new : Around) → v ≡ w → Opens v most told left result old new → Opens w most told left result old new
of_greeter v w most told left result old new same h = subst (λ (g : Greeter). Opens g most told left result old new) same h
