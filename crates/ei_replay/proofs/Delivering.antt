-- What was flushed into a sink in memory, and what a session does with it.
use Rattle.std.proofs.Common.{◌≡◌, ℕ, false, List, [], ◌∷◌, ◌++◌, Some, Result, Ok, Err, refl, ap, ◌∙◌}
use Rattle.std.specs.Prelude.{is_err, OnOk}
use Rattle.ei_spec.specs.Piece.{Piece}
use Rattle.ei_wire.specs.declared.error.FlushError.{FlushError}
use Rattle.ei_types.specs.declared.error.Error.{Error}
use Rattle.ei_backend.specs.Memory.{TrayView, sink_of}
use Rattle.ei_backend.specs.Outgoing.{nothing, Flushes}
use Rattle.ei_backend.specs.Outside.{with_more}
use Rattle.ei_session.specs.Setup.{Setup}
use Rattle.ei_session.proofs.Choices.{some_is}
use Rattle.ei_serve.specs.Around.{Around}
use Rattle.ei_serve.specs.Steps.{bytes_only}
use Rattle.ei_serve.specs.Turning.{Turns}
use Rattle.ei_serve.specs.declared.session.Turn.{Turn}
use Rattle.ei_serve.specs.declared.state.SessionState.{SessionState}
use Rattle.ei_replay.specs.Sending.{Turned}

-- what holds where it went well, which it did
pub ok_then : {A E : Type 0} (P : Type 0) (r : Result A E) → is_err r ≡ false → OnOk r P → P
ok_then P (Ok a) e h = h
ok_then P (Err x) e h = absurd cc

-- nothing waits any more, and the sink has the bytes that did
pub record AllWent (old new : Piece) (after : TrayView) : Type 0 where
  pub none : new ≡ nothing
  pub bytes : after.held.bytes ≡ old.bytes

pub all_went : (later : TrayView → TrayView → Type 0) (result : Result (Unit {0}) FlushError) (old new : Piece) (before after : TrayView) → is_err result ≡ false → before.held ≡ nothing →
    Flushes sink_of later result old new before after → AllWent old new after
all_went later (Ok u) old new before after e empty f = record {
  none = f.stops;
  bytes =
      ap (λ (p : Piece). p.bytes) (some_is after.held (with_more old.bytes old.handles before.held) (f.went.took before.held refl))
      ∙ ap (λ (p : Piece). p.bytes ++ old.bytes) empty;
}
all_went later (Err x) old new before after e empty f = absurd cc

-- the session took its turn over these bytes
pub turned : (setup : Setup) (pieces : List Piece) (times bytes : List ℕ) (answer : Result Turn Error) (t : SessionState) (before after : Around) →
    Turns setup pieces times answer t before after → before.source.left ≡ Some (bytes_only bytes ∷ []) → Turned setup pieces times bytes answer t before.out after.out
turned setup pieces times bytes answer t before after h one = record { before = before; after = after; turns = h; one = one; out_was = refl; out_is = refl }
