-- What is taken from a server was given by it: the session stays.
use Rattle.std.proofs.Common.{◌≡◌, ℕ, List, [], ◌∷◌, ◌++◌, take, drop, Option, Some, None, Result, Err, refl, ap, sym, ◌∙◌, append_assoc}
use Rattle.std.specs.Option.{option_to_list}
use Rattle.std.proofs.lemmas.List.{take-append-drop}
use Rattle.ei_spec.specs.declared.handle.Handle.{Handle}
use Rattle.ei_spec.specs.Piece.{Piece}
use Rattle.ei_session.specs.Setup.{Setup}
use Rattle.ei_backend.specs.Outside.{with_more}
use Rattle.ei_request.specs.declared.event.EisRequest.{EisRequest}
use Rattle.ei_types.specs.declared.error.Error.{Error}
use Rattle.ei_types.specs.declared.error.Error.TheVariants as error
use Rattle.ei_serve.specs.declared.session.Ended.{Ended}
use Rattle.ei_input.specs.Queue.{first_of, rest_of}
use Rattle.reis_server.specs.Fed.{Fed}
use Rattle.reis_server.specs.Queue.{IsNext}
use Rattle.reis_server.specs.View.{ServerView}
use Rattle.reis_server.specs.Serving.{with_unsent, unsent_after, GaveAll, HasEnded, StandsWith, IsServing}

-- a server with another part of what it gave taken
module _ (setup : Setup) (fed : List Fed) (sent sent_new : Piece) (given given_new : List EisRequest) (s : ServerView) (unsent : Piece) (requests : List EisRequest)
    (replies_same : with_more unsent.bytes unsent.handles sent_new ≡ with_unsent sent s) (requests_same : given_new ++ requests ≡ given ++ s.requests) where
  abbrev t : ServerView
  t = record { session = s.session; unsent = unsent; requests = requests; answer = s.answer }

  gave : GaveAll setup fed sent given s → GaveAll setup fed sent_new given_new t
  gave g = record { requests = requests_same ∙ g.requests; replies = replies_same ∙ g.replies; readings = g.readings }

  ended : (answer : Result Ended Error) → HasEnded setup fed answer sent given s → HasEnded setup fed answer sent_new given_new t
  ended answer h = record { answers = h.answers; decided = h.decided; gave = gave h.gave }

  stands_with : (answer : Option (Result Ended Error)) → StandsWith setup fed answer sent given s → StandsWith setup fed answer sent_new given_new t
  stands_with None h = record { stands = h.stands; gave = gave h.gave }
  stands_with (Some (Err error.NoMemory)) h = record {
    reached = h.reached;
    ahead = h.ahead;
    owed = h.owed;
    requests = requests_same ∙ h.requests;
    replies = (h.replies.0, replies_same ∙ h.replies.1);
    replied = (h.replied.0, replies_same ∙ h.replied.1);
  }
  stands_with (Some answer) h = ended answer h

  pub taken : IsServing setup fed sent given s → IsServing setup fed sent_new given_new t
  taken h = stands_with s.answer h

piece_is : (a b : List ℕ) (h k : List Handle) → a ≡ b → h ≡ k → ◌≡◌ {A = Piece} (record { bytes = a; handles = h }) (record { bytes = b; handles = k })
piece_is a b h k e f = rw (e, f) refl

split_at : {A : Type 0} (n : ℕ) (front xs : List A) → (front ++ take n xs) ++ drop n xs ≡ front ++ xs
split_at n front xs = append_assoc front (take n xs) (drop n xs) ∙ ap (λ (x : List _). front ++ x) (take-append-drop n xs)

-- so many of the replies were taken
pub sent_front : (setup : Setup) (fed : List Fed) (sent : Piece) (given : List EisRequest) (s : ServerView) (bytes handles : ℕ) → IsServing setup fed sent given s →
    IsServing setup fed (with_more (take bytes s.unsent.bytes) (take handles s.unsent.handles) sent) given (record { session = s.session; unsent = unsent_after bytes handles s.unsent; requests = s.requests; answer = s.answer })
sent_front setup fed sent given s bytes handles h =
    taken setup fed sent (with_more (take bytes s.unsent.bytes) (take handles s.unsent.handles) sent) given given s (unsent_after bytes handles s.unsent) s.requests
    (piece_is _ _ _ _ (split_at bytes sent.bytes s.unsent.bytes) (split_at handles sent.handles s.unsent.handles)) refl h

-- it is the oldest
pub next_is : (old new : List EisRequest) (next : Option EisRequest) → next ≡ first_of old → new ≡ rest_of old → IsNext next old new
next_is [] new next f r = rw f (refl, r)
next_is (x ∷ old) new next f r = rw f (rw r refl)

next_same : (given old new : List EisRequest) (next : Option EisRequest) → IsNext next old new → (given ++ option_to_list next) ++ new ≡ given ++ old
next_same given old new None h = append_assoc given [] new ∙ ap (λ (x : List EisRequest). given ++ x) (h.1 ∙ sym h.0)
next_same given old new (Some r) h = append_assoc given (r ∷ []) new ∙ ap (λ (x : List EisRequest). given ++ x) (sym h)

-- the next request was taken
pub next_taken : (setup : Setup) (fed : List Fed) (sent : Piece) (given : List EisRequest) (s : ServerView) (next : Option EisRequest) (requests : List EisRequest) → IsNext next s.requests requests → IsServing setup fed sent given s →
    IsServing setup fed sent (given ++ option_to_list next) (record { session = s.session; unsent = s.unsent; requests = requests; answer = s.answer })
next_taken setup fed sent given s next requests e h =
    taken setup fed sent sent given (given ++ option_to_list next) s s.unsent requests refl (next_same given s.requests requests next e) h
