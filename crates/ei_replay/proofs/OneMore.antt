-- What playing one more item comes to.
use Rattle.std.proofs.Common.{◌≡◌, ℕ, ◌+◌, ◌<◌, ◌≤◌, ◌⊎◌, Bool, true, false, List, [], ◌∷◌, ◌++◌, length, Option, Some, Result, Ok, Err, refl, sym, ap, subst, ◌∙◌, arith, inl, inr}
use Rattle.std.specs.Prelude.{IsErrAnd}
use Rattle.std.proofs.lemmas.List.{append-nil}
use Rattle.ei_spec.specs.Message.{Raw, bytes_of}
use Rattle.ei_spec.specs.Piece.{stream}
use Rattle.ei_spec.specs.Stream.{Stop, Waiting, Ended, reading, stream_of}
use Rattle.ei_types.specs.Capability.{bits_of}
use Rattle.ei_types.specs.declared.error.Error.{Error}
use Rattle.ei_backend.specs.Backend.{BackendView, with_unsent}
use Rattle.ei_backend.specs.Outgoing.{nothing}
use Rattle.ei_backend.proofs.GoingOut.{message_length}
use Rattle.ei_session.specs.Setup.{Setup}
use Rattle.ei_session.specs.Refusals.{Refusal}
use Rattle.ei_session.specs.Requests.{Request, framed}
use Rattle.ei_session.specs.Served.{reading_of, accepted, ran_out}
use Rattle.ei_record.specs.Replayable.{disconnects}
use Rattle.ei_request.specs.declared.event.EisRequest.{EisRequest}
use Rattle.ei_serve.specs.declared.session.Turn.{Turn}
use Rattle.ei_serve.specs.declared.phase.Phase.{Phase}
use Rattle.ei_serve.specs.declared.state.SessionState.{SessionState}
use Rattle.ei_serve.specs.Standing.{StandsAt, IsOver}
use Rattle.ei_playing.specs.Playing.{call_to, target_id, played, messages}
use Rattle.ei_playing.proofs.Keeping.{ids_suffice}
use Rattle.ei_playing.proofs.Sizes.{played_short}
use Rattle.ei_playing.proofs.Steps.{Played as IsPlayed, messages_more, played_more, ends_reading, reads_so, ends_so_read}
use Rattle.ei_playing.proofs.Wants.{IsRight, Meets, right_so, right_short, meets}
use Rattle.ei_player.specs.Objects.{Knows}
use Rattle.ei_replay.specs.declared.player.Player.{Player}
use Rattle.ei_replay.specs.declared.error.ReplayError.{ReplayError}
use Rattle.ei_replay.specs.declared.error.ReplayError.TheVariants as replay_error
use Rattle.ei_replay.specs.Played.{Follows}
use Rattle.ei_replay.specs.Steps.{step_of}
use Rattle.ei_replay.specs.Sending.{after_call, AnnouncesMade, Turned, Delivers}
use Rattle.ei_replay.specs.Player.{ServedAt, Extends, ExtendsInPart, BreaksOff, ComesNext, HasPlayedOne, PlaysOne}
use Rattle.ei_replay.proofs.Announced.{knows_then}
use Rattle.ei_replay.proofs.Goes.{goes}
use Rattle.ei_replay.proofs.Sent.{unsent_so, flushed_so}
use Rattle.ei_replay.proofs.Turning.{IsGoodStop, IsServed, served, cut_off}

-- ---- in part

-- nothing more was handed out
pub stays_so : (setup : Setup) (past ahead reached : List Raw) (out : List EisRequest) → reached ≡ ahead ++ past → ExtendsInPart setup past reached out out
stays_so setup past ahead reached out e = record {
  part = past;
  ahead = ahead;
  reached_is = e;
  extends = record {
    more = [];
    readings = [];
    grown = sym (append-nil out);
    framed_is = sym (append-nil (framed setup [] past));
  };
}

-- all was
pub all_of : (setup : Setup) (past reached : List Raw) (a b : List EisRequest) → Extends setup past reached a b → ExtendsInPart setup past reached a b
all_of setup past reached a b e = record { part = reached; ahead = []; reached_is = refl; extends = e }

pub or_stays : (setup : Setup) (past ahead reached : List Raw) (a b : List EisRequest) → reached ≡ ahead ++ past → (b ≡ a) ⊎ ExtendsInPart setup past reached a b → ExtendsInPart setup past reached a b
or_stays setup past ahead reached a b e (inl same) = subst (ExtendsInPart setup past reached a) (sym same) (stays_so setup past ahead reached a e)
or_stays setup past ahead reached a b e (inr x) = x

-- ---- a session that stands isn't over

pub not_over : (setup : Setup) (past : List Raw) (count : ℕ) (s : SessionState) → ServedAt setup past count s → IsOver s → ⊥
not_over setup past count s at over = subst (λ (p : Phase). StandsAt setup (accepted setup (stream at.pieces)) at.times (reading_of setup (stream at.pieces)).rest at.stands.unread p) over at.stands.phase

-- ---- one more item

abbrev pub stop_for : Bool → Stop Refusal
stop_for true = Ended
stop_for false = Waiting

module _ (setup : Setup) (before : List Request) (item : Request) (next : Option Request) (p : Player) (c : ComesNext setup before item next p) where
  r : IsRight setup before item next
  r = right_so setup before item next c.right

  w : Meets before item (messages before)
  w = meets setup before (messages before) item next c.waits.follows r c.borne

  pub few : length before ≤ 4294967000
  few = let lt = c.few in omega (arith, lt)

  pub more : disconnects item ≡ false → IsPlayed setup (item ∷ before) next
  more e = played_more setup before item next c.waits c.right c.borne few e

  pub next_bytes : stream_of (messages (item ∷ before)) ≡ stream_of (messages before) ++ bytes_of (played before item)
  unfolding stream_of
  next_bytes = ap stream_of (messages_more before item)

  then_by : (b : Bool) → disconnects item ≡ b → reading_of setup (stream_of (messages (item ∷ before))) ≡ reading (messages (item ∷ before)) [] (stop_for b)
  then_by true e = ends_so_read setup (item ∷ before) (ends_reading setup before item next c.waits c.right c.borne few e)
  then_by false e = reads_so setup (item ∷ before) next (more e)

  good_by : (b : Bool) → disconnects item ≡ b → IsGoodStop (stop_for b) (messages (item ∷ before))
  good_by true e = ap ran_out (messages_more before item) ∙ ids_suffice setup before item next (messages before) c.waits.follows r w few
  good_by false e = (more e).follows.on

  now : reading_of setup (stream_of (messages before)) ≡ reading (messages before) [] Waiting
  now = reads_so setup before (Some item) c.waits

  room : length before + 1 < setup.pieces
  room = let limit = c.so_far.limit in let lt = c.few in omega (arith, limit, lt)

  abbrev bytes : List ℕ
  bytes = bytes_of (played before item)

  abbrev at : ServedAt setup (messages before) (length before + 1) p.session
  at = c.so_far.served

  -- what it sends
  pub sends_so : (id : ℕ) → id ≡ target_id before item → (after_call (call_to id item) p.client).unsent ≡ bytes_of (played before item)
  unfolding played
  sends_so id e = ap (λ (n : ℕ). (after_call (call_to n item) p.client).unsent) e ∙ unsent_so (messages before) p.client c.so_far.knows (target_id before item) item

  size_so : (length (bytes_of (played before item)) ≤ 300) × (16 ≤ length (bytes_of (played before item)))
  size_so =
      let short = played_short before item (right_short setup before item next r) in
      let long = message_length (played before item) in
      (omega (arith, short, long), omega (arith, long))

  pub some_sent : (id : ℕ) → id ≡ target_id before item → 0 < length (after_call (call_to id item) p.client).unsent
  some_sent id e = let same = ap length (sends_so id e) in let s = size_so.1 in omega (arith, same, s)

  pub few_sent : (id : ℕ) → id ≡ target_id before item → length (after_call (call_to id item) p.client).unsent ≤ 65536
  few_sent id e = let same = ap length (sends_so id e) in let s = size_so.0 in omega (arith, same, s)

  pub goes_on : IsOver p.session → ⊥
  goes_on over = not_over setup (messages before) (length before + 1) p.session at over

  -- ---- where memory runs out

  ahead_is : messages (item ∷ before) ≡ (played before item ∷ []) ++ messages before
  ahead_is = messages_more before item

  pub untold : (stream : List ℕ) (out : List EisRequest) → BreaksOff setup (messages before) (messages (item ∷ before)) bytes stream stream out out
  untold stream out = record { told = inl refl; extends = stays_so setup (messages before) (played before item ∷ []) (messages (item ∷ before)) out ahead_is }

  cut_by : (t : SessionState) (e : Error) (a b : List EisRequest) → Turned setup at.pieces at.times bytes (Err e) t a b → (b ≡ a) ⊎ ExtendsInPart setup (messages before) (messages (item ∷ before)) a b
  cut_by t e a b h =
      cut_off setup (messages before) (messages (item ∷ before)) bytes (length before + 1) p.session at room now next_bytes (stop_for (disconnects item))
      (then_by (disconnects item) refl) (good_by (disconnects item) refl) t e a b h

  stopped : (t : SessionState) (a b : List EisRequest) → ((b ≡ a) ⊎ ((e : Error) × Turned setup at.pieces at.times bytes (Err e) t a b)) → (b ≡ a) ⊎ ExtendsInPart setup (messages before) (messages (item ∷ before)) a b
  stopped t a b (inl same) = inl same
  stopped t a b (inr h) = cut_by t h.0 a b h.1

  extends_so : (a b : List EisRequest) → (b ≡ a) ⊎ ExtendsInPart setup (messages before) (messages (item ∷ before)) a b → ExtendsInPart setup (messages before) (messages (item ∷ before)) a b
  extends_so a b h = or_stays setup (messages before) (played before item ∷ []) (messages (item ∷ before)) a b ahead_is h

  undelivered : (t : SessionState) (s1 s2 : List ℕ) (o1 o2 : List EisRequest) → Delivers setup at.pieces at.times bytes (Err replay_error.NoMemory) t s1 s2 o1 o2 →
      BreaksOff setup (messages before) (messages (item ∷ before)) bytes s1 s2 o1 o2
  undelivered t s1 s2 o1 o2 h = elim h [
    | inl a ↦ record { told = inl a.0; extends = extends_so o1 o2 (inl a.1) }
    | inr b ↦ record { told = inr b.0; extends = extends_so o1 o2 (stopped t o1 o2 b.1) }
  ]

  delivers_as : (sent : List ℕ) (answer : Result (Unit {0}) ReplayError) (t : SessionState) (s1 s2 : List ℕ) (o1 o2 : List EisRequest) → sent ≡ bytes →
      Delivers setup at.pieces at.times sent answer t s1 s2 o1 o2 → Delivers setup at.pieces at.times bytes answer t s1 s2 o1 o2
  delivers_as sent answer t s1 s2 o1 o2 e h = subst (λ (l : List ℕ). Delivers setup at.pieces at.times l answer t s1 s2 o1 o2) e h

  -- ---- where all was delivered

  served_by : (t : SessionState) (answer : Turn) (a b : List EisRequest) → Turned setup at.pieces at.times bytes (Ok answer) t a b →
      IsServed setup (messages before) (messages (item ∷ before)) (length before + 1) (stop_for (disconnects item)) t a b
  served_by t answer a b h =
      served setup (messages before) (messages (item ∷ before)) bytes (length before + 1) p.session at room now next_bytes (stop_for (disconnects item))
      (then_by (disconnects item) refl) (good_by (disconnects item) refl) t answer a b h

  pub kept_off : (t : SessionState) (s1 s2 : List ℕ) (o1 o2 : List EisRequest) → Delivers setup at.pieces at.times bytes (Ok tt) t s1 s2 o1 o2 →
      BreaksOff setup (messages before) (messages (item ∷ before)) bytes s1 s2 o1 o2
  kept_off t s1 s2 o1 o2 h = record {
    told = inr h.0;
    extends = all_of setup (messages before) (messages (item ∷ before)) o1 o2 (served_by t h.1.0 o1 o2 h.1.1).extends;
  }

  knows_now : (id : ℕ) (new : BackendView) → AnnouncesMade p.played.next (step_of item) (with_unsent nothing (after_call (call_to id item) p.client)) new → disconnects item ≡ false → Knows (messages (item ∷ before)) new
  knows_now id new a e =
      let b = with_unsent nothing (after_call (call_to id item) p.client) in
      let same : b ≡ p.client = flushed_so (messages before) p.client c.so_far.knows id item e in
      subst (λ (l : List Raw). Knows l new) (sym (messages_more before item))
      (knows_then setup before item next p c b new (subst (Knows (messages before)) (sym same) c.so_far.knows) a)

  pub all_played : (id : ℕ) (q : Player) (s1 s2 : List ℕ) (o1 o2 : List EisRequest) → Delivers setup at.pieces at.times bytes (Ok tt) q.session s1 s2 o1 o2 →
      AnnouncesMade p.played.next (step_of item) (with_unsent nothing (after_call (call_to id item) p.client)) q.client → Follows p.played (step_of item) q.played →
      HasPlayedOne setup before item q s1 s2 o1 o2
  all_played id q s1 s2 o1 o2 h a f =
      let s = served_by q.session h.1.0 o1 o2 h.1.1 in
      record {
        told = h.0;
        extends = s.extends;
        goes_on = λ e. record {
          limit = c.so_far.limit;
          served = subst (λ (n : ℕ). ServedAt setup (messages (item ∷ before)) n q.session) (let same : length before + 1 + 1 ≡ length (item ∷ before) + 1 = omega arith in same) (s.goes_on (ap stop_for e));
          knows = knows_now id q.client a e;
          sums = goes setup before p.played q.played c.so_far.sums item next c.right f;
          same = ap bits_of f.same ∙ c.so_far.same;
        };
      }

  -- ---- as the code meets it

  pub fails : (e : ReplayError) (r : Result (Unit {0}) ReplayError) (q : Player) (sent : List ℕ) (t : SessionState) (s1 s2 : List ℕ) (o1 o2 : List EisRequest) → IsErrAnd r (λ x. x ≡ e) →
      sent ≡ bytes_of (played before item) → Delivers setup at.pieces at.times sent (Err e) t s1 s2 o1 o2 → PlaysOne setup before item r q s1 s2 o1 o2
  fails e (Ok u) q sent t s1 s2 o1 o2 is same d = absurd is
  fails replay_error.NoMemory (Err x) q sent t s1 s2 o1 o2 is same d =
      subst (λ (y : ReplayError). PlaysOne setup before item (Err y) q s1 s2 o1 o2) (sym is)
      (undelivered t s1 s2 o1 o2 (delivers_as sent (Err replay_error.NoMemory) t s1 s2 o1 o2 same d))
  fails (replay_error.NotReplayable place) (Err x) q sent t s1 s2 o1 o2 is same d = absurd d

  pub fails_behind : (r : Result (Unit {0}) ReplayError) (q : Player) (sent : List ℕ) (t : SessionState) (s1 s2 : List ℕ) (o1 o2 : List EisRequest) → IsErrAnd r (λ x. x ≡ replay_error.NoMemory) →
      sent ≡ bytes_of (played before item) → Delivers setup at.pieces at.times sent (Ok tt) t s1 s2 o1 o2 → PlaysOne setup before item r q s1 s2 o1 o2
  fails_behind (Ok u) q sent t s1 s2 o1 o2 is same d = absurd is
  fails_behind (Err x) q sent t s1 s2 o1 o2 is same d =
      subst (λ (y : ReplayError). PlaysOne setup before item (Err y) q s1 s2 o1 o2) (sym is) (kept_off t s1 s2 o1 o2 (delivers_as sent (Ok tt) t s1 s2 o1 o2 same d))

  pub plays_all : (id : ℕ) (q : Player) (sent s1 s2 : List ℕ) (o1 o2 : List EisRequest) → sent ≡ bytes_of (played before item) → Delivers setup at.pieces at.times sent (Ok tt) q.session s1 s2 o1 o2 →
      AnnouncesMade p.played.next (step_of item) (with_unsent nothing (after_call (call_to id item) p.client)) q.client → Follows p.played (step_of item) q.played →
      HasPlayedOne setup before item q s1 s2 o1 o2
  plays_all id q sent s1 s2 o1 o2 same d a f = all_played id q s1 s2 o1 o2 (delivers_as sent (Ok tt) q.session s1 s2 o1 o2 same d) a f
