-- A session whose clock tells these readings hands out and replies the same.
use Rattle.std.proofs.Common.{◌≡◌, ℕ, List, [], ◌++◌, map, Option, Some, None, Result, sym, ap, ◌∙◌, arith}
use Rattle.ei_spec.specs.Message.{Raw}
use Rattle.ei_spec.specs.Piece.{Piece}
use Rattle.ei_types.specs.Decided.{IsDecided}
use Rattle.ei_types.specs.declared.error.Error.{Error}
use Rattle.ei_backend.specs.Outside.{with_more}
use Rattle.ei_session.specs.Setup.{Setup}
use Rattle.ei_session.specs.Requests.{framed}
use Rattle.ei_session.specs.Served.{session}
use Rattle.ei_session.proofs.AllParts.{framed_readings}
use Rattle.ei_request.specs.declared.event.EisRequest.{EisRequest}
use Rattle.ei_standing.specs.Standing.{request_in_code}
use Rattle.ei_serve.specs.declared.session.Ended.{Ended}
use Rattle.ei_serve.specs.Around.{Around}
use Rattle.ei_serve.specs.Serving.{AreReadings}
use Rattle.ei_serve.specs.Whole.{Serves}
use Rattle.reis_alike.specs.Program.{Came}
use Rattle.reis_alike.specs.Alike.{pieces_of, ServesAlike}

told_these : (told : Option (List ℕ)) (these readings : List ℕ) → told ≡ Some these → AreReadings told readings → readings ≡ these
told_these told these readings is h = by told is h
  where
    by : (o : Option (List ℕ)) → o ≡ Some these → AreReadings o readings → readings ≡ these
    by None e r = absurd cc
    by (Some x) e r = let same : x ≡ these = cc in r ∙ same

module _ (setup : Setup) (came : List Came) (out : List EisRequest) (written later : List ℕ) (left : Option (List Piece)) (result : Result Ended Error) (old new : Around) (a : ServesAlike setup came out written) (s : Serves setup (pieces_of came) left result old new)
    (decided : IsDecided result) (told : old.readings ≡ Some (a.readings ++ later)) where
  abbrev messages : List Raw
  messages = (session setup (pieces_of came)).handled

  pub same : (new.out ≡ old.out ++ out) × ((held : Piece) → old.sink.taken ≡ Some held → new.sink.taken ≡ Some (with_more written [] held))
  same =
      let readings_are : (s.requests decided).readings ≡ a.readings ++ later = told_these old.readings (a.readings ++ later) (s.requests decided).readings told (s.requests decided).told_so in
      let all : framed setup (s.requests decided).readings messages ≡ framed setup a.readings messages =
      ap (λ (r : List ℕ). framed setup r messages) readings_are ∙ framed_readings setup a.readings later messages (omega (arith, a.frames)) in
      let mine : out ≡ map (request_in_code messages) (framed setup a.readings messages) =
      a.requests.grown ∙ ap (λ (r : List ℕ). map (request_in_code messages) (framed setup r messages)) a.requests.told_so in (
        (s.requests decided).grown ∙ ap (λ (x : List EisRequest). old.out ++ x) (ap (map (request_in_code messages)) all ∙ sym mine),
        λ held is. (s.replies decided).told held is ∙ ap (λ (x : List ℕ). Some (with_more x [] held)) (sym a.replies),
      )
