-- A handshake, and the iterator over what comes behind it.
use Rattle.std.specs.Prelude.{◌≡◌, ℕ, List, Option, Result, Ok, Err}
use Rattle.ei_spec.specs.Piece.{Piece}
use Rattle.ei_types.specs.declared.error.Error.{Error}
use Rattle.ei_backend.specs.Backend.{BackendView}
use Rattle.ei_backend.specs.Outside.{SinkView}
use Rattle.ei_greeting.specs.Shaking.{Greeter}
use Rattle.ei_handshake.specs.declared.client.HandshakeResp.{HandshakeResp}
use Rattle.ei_blocking.specs.Blocking.{Opens, around}
use Rattle.ei_event.specs.Connection.{connected}
use Rattle.ei_iterator.specs.Iterator.{IteratorView, new_iterator}

-- the iterator is new behind the handshake, over the endpoint that it left; or the handshake was refused so
abbrev pub Begins : {H : Type 0} → ℕ → BackendView → Result HandshakeResp Error → Result (IteratorView H) Error → Type 0
Begins pieces left (Ok resp) (Ok iterator) = iterator ≡ new_iterator left (connected resp) pieces
Begins pieces left (Err e) (Err why) = why ≡ e
Begins pieces left shaken result = ⊥

-- Over these pieces, of which those are left, the handshake did what the definitions say, and the iterator begins behind it.
pub record OpensIterator {H : Type 0} (g : Greeter) (most : ℕ) (told : List Piece) (left : Option (List Piece)) (result : Result (IteratorView H) Error) (context : BackendView) (old new : SinkView) : Type 0 where
  pub shaken : Result HandshakeResp Error
  pub stays : BackendView
  pub opens : Opens g most told left shaken (around context old) (around stays new)
  pub begins : Begins most stays shaken result
