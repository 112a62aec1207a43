-- What became of a client since an earlier time.
use Rattle.std.specs.Prelude.{◌≡◌, ℕ, ◌+◌, ◌≤◌, List, Option, None, IsSome}
use Rattle.ei_spec.specs.Piece.{Piece}
use Rattle.ei_backend.specs.Lent.{LentSource, LentSink}
use Rattle.ei_backend.specs.Outside.{SourceView, SinkView}
use Rattle.ei_session.specs.Setup.{Setup}
use Rattle.ei_types.specs.declared.error.Error.TheVariants as error
use Rattle.ei_hub.specs.declared.client.Client.{Client}
use Rattle.ei_hub.specs.Alone.{Start, IsAlone, AnswersAlone}
use Rattle.ei_hub.specs.Clients.{seen, IsEndOf, IsInputEnd}
use Rattle.ei_hub.specs.Clocks.{AreSomeGiven}

-- A client that had its end is as it was. One that was alone goes on so, or ended as a session by itself, with some of the readings
-- that the clock gave meanwhile; its faults come by the counts of its own source and sink; and where it goes on it took at least so
-- many pieces more.
pub record Since {S K : Type 0} (source_view : S → SourceView) (source_later : S → S → Type 0) (sink_view : K → SinkView) (sink_later : K → K → Type 0)
    (turns : ℕ) (before after : Option (List ℕ)) (c d : Client S K) : Type 0 where
  pub kept : IsSome c.end → d ≡ c
  pub alone : (setup : Setup) (start : Start) (pieces : List Piece) (times : List ℕ) → IsAlone setup start pieces times (seen source_view sink_view c) →
      AnswersAlone setup start pieces times (AreSomeGiven before after) d.end (seen source_view sink_view c) (seen source_view sink_view d)
  pub source : c.end ≡ None → LentSource source_view source_later (IsEndOf d.end error.ReadFault) (IsInputEnd d.end) c.source d.source
  pub sink : c.end ≡ None → LentSink sink_view sink_later (IsEndOf d.end error.WriteFault) c.sink d.sink
  pub more : d.end ≡ None → c.session.taken + turns ≤ d.session.taken
