-- What a server stands for as it starts.
use Rattle.std.proofs.Common.{◌≡◌, ℕ, List, [], length, Some, None, refl, ap, sym, subst, ◌∙◌, arith}
use Rattle.std.specs.Prelude.{map}
use Rattle.ei_spec.specs.Message.{Raw, all_bytes}
use Rattle.ei_spec.specs.Piece.{Piece}
use Rattle.ei_spec.specs.History.{each, joined, total}
use Rattle.ei_spec.specs.Stream.{Reading}
use Rattle.ei_spec.specs.Groups.{frames_made, grouped}
use Rattle.ei_session.specs.Setup.{Setup}
use Rattle.ei_session.specs.Requests.{framed}
use Rattle.ei_session.specs.Events.{replies}
use Rattle.ei_session.specs.Refusals.{Refusal as Cause}
use Rattle.ei_session.specs.Served.{Outcome}
use Rattle.ei_backend.specs.Outside.{with_more}
use Rattle.ei_request.specs.declared.event.EisRequest.{EisRequest}
use Rattle.ei_standing.specs.Standing.{request_in_code}
use Rattle.ei_types.specs.declared.error.Error.{Error}
use Rattle.ei_types.specs.declared.error.Error.TheVariants as error
use Rattle.ei_serve.specs.declared.session.Session.{Session}
use Rattle.ei_serve.specs.Causes.{Greeted, RefusesToStart}
use Rattle.reis_server.specs.Lent.{replies_view}
use Rattle.ei_serve.specs.Standing.{Stands}
use Rattle.ei_serve.proofs.Histories.{going}
use Rattle.ei_serve.proofs.Running.{nothing_read}
use Rattle.ei_serve.proofs.Serves.{greeted}
use Rattle.reis_server.specs.Fed.{handled, frames, readings_of}
use Rattle.reis_server.specs.Serving.{nothing, bytes_alone, GoesOn, IsServing}

none_handled : (setup : Setup) → handled setup [] ≡ []
unfolding handled
none_handled setup =
    ap (λ (o : Outcome). o.handled) (going setup [] (λ k low high. absurd (omega (arith, low, high)))) ∙ ap (λ (r : Reading Cause). r.past) (nothing_read setup)

no_readings : (setup : Setup) → readings_of setup [] ≡ []
unfolding readings_of joined
no_readings setup = refl

no_requests : (setup : Setup) (readings : List ℕ) → framed setup readings [] ≡ []
unfolding framed each grouped joined
no_requests setup readings = refl

no_frames : (setup : Setup) → frames setup [] ≡ 0
unfolding frames frames_made each total
no_frames setup = refl

piece_so : (new held : Piece) (bytes : List ℕ) → Some new ≡ Some (with_more bytes [] nothing) → with_more new.bytes new.handles nothing ≡ bytes_alone bytes
piece_so new held bytes e = let same : new ≡ with_more bytes [] nothing = cc in ap (λ (p : Piece). with_more p.bytes p.handles nothing) same

-- nothing was fed and nothing taken, and the greeting waits
pub starts : (setup : Setup) (s : Session) (unsent : Piece) → Stands setup [] [] s → Greeted (replies_view nothing) (replies_view unsent) →
    IsServing setup [] nothing [] (record { session = s; unsent = unsent; requests = []; answer = None })
starts setup s unsent stands h = record {
  stands = subst (λ (r : List ℕ). Stands setup [] r s) (sym (no_readings setup)) stands;
  gave = record {
    requests = sym (ap (λ (m : List Raw). map (request_in_code m) (framed setup (readings_of setup []) m)) (none_handled setup) ∙ ap (map (request_in_code [])) (no_requests setup (readings_of setup [])));
    replies = piece_so unsent nothing (all_bytes (replies setup [])) ((greeted setup (replies_view nothing) (replies_view unsent) h).told nothing refl) ∙ ap (λ (m : List Raw). bytes_alone (all_bytes (replies setup m))) (sym (none_handled setup));
    readings = ap length (no_readings setup) ∙ sym (ap (frames setup) (none_handled setup) ∙ no_frames setup);
  };
}

-- only want of memory can hold it up
pub only_memory : (e : Error) → RefusesToStart e → (e ≡ error.WriteFault → ⊥) → e ≡ error.NoMemory
only_memory error.WriteFault h n = absurd (n refl)
only_memory error.NoMemory h n = refl
only_memory e h n = absurd h

-- with a queue that has none
pub starts_queued : (setup : Setup) (s : Session) (old unsent : Piece) (queue : List EisRequest) → old ≡ nothing → queue ≡ [] → Stands setup [] [] s → Greeted (replies_view old) (replies_view unsent) →
    IsServing setup [] nothing [] (record { session = s; unsent = unsent; requests = queue; answer = None })
starts_queued setup s old unsent queue e none stands h =
    subst (λ (r : List EisRequest). GoesOn setup [] nothing [] (record { session = s; unsent = unsent; requests = r; answer = None })) (sym none)
    (starts setup s unsent stands (subst (λ (p : Piece). Greeted (replies_view p) (replies_view unsent)) e h))
