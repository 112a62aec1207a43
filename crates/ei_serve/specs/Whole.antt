-- All that is said of a whole session.
use Rattle.std.specs.Prelude.{ℕ, ◌+◌, ◌≤◌, List, Option, Result, OnOk, IsErrOf}
use Rattle.ei_spec.specs.Piece.{Piece}
use Rattle.ei_session.specs.Setup.{Setup}
use Rattle.ei_session.specs.Served.{session}
use Rattle.ei_types.specs.declared.error.Error.{Error}
use Rattle.ei_types.specs.declared.error.Error.TheVariants as error
use Rattle.ei_serve.specs.declared.session.Ended.{Ended as HowEnded}
use Rattle.ei_serve.specs.Around.{Around}
use Rattle.ei_serve.specs.Serving.{AnswersAs, TookAllOf, HandsOut, LeftReadings, Replied, ReadValid, Handled, CutShort, CutFull}
use Rattle.ei_backend.specs.Pieces.{TookPieces}
use Rattle.ei_types.specs.Decided.{IsDecided, IsCutShort}

-- Over these pieces, of which those are left, the session did what the definitions say, between what stood around it before its start and at its end.
pub record Serves (setup : Setup) (told : List Piece) (left : Option (List Piece)) (result : Result HowEnded Error) (old new : Around) : Type 0 where
  pub answer : AnswersAs (session setup told).answer result
  pub requests : IsDecided result → HandsOut setup (session setup told).handled old.readings old.out new.out
  pub replies : IsDecided result → Replied setup (session setup told).handled old.sink new.sink
  pub readings : IsDecided result → LeftReadings setup (session setup told).handled old.readings new.readings
  pub valid : OnOk result (ReadValid setup told left (session setup told).handled)
  pub taken : IsDecided result → TookAllOf setup told left result
  pub pieces : (k : ℕ) × (k ≤ setup.pieces + 1) × TookPieces told left k
  pub handled : IsErrOf result error.ReadFault → Handled setup told left old.readings new.readings old.out new.out old.sink new.sink
  pub cut_short : IsCutShort result → CutShort setup told left old.readings new.readings old.out new.out old.sink new.sink
  pub full : IsErrOf result error.NoMemory → CutFull setup told left old.readings new.readings old.out new.out old.sink new.sink
