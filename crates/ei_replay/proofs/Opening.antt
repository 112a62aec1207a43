-- What a client and a session are once they have shaken hands.
use Rattle.std.proofs.Common.{◌≡◌, ℕ, ◌<◌, ◌≤◌, ◌⊎◌, true, List, [], ◌++◌, length, Some, None, Result, Ok, Err, refl, sym, ap, subst, ◌∙◌, arith, inl, inr}
use Rattle.std.specs.FinMap as map
use Rattle.std.specs.Prelude.{IsErrAnd}
use Rattle.std.proofs.lemmas.List.{append-nil}
use Rattle.ei_spec.specs.Message.{Raw, front}
use Rattle.ei_spec.specs.Piece.{stream, handle_count}
use Rattle.ei_spec.specs.Stream.{Waiting, reading, read, read_within, stream_of}
use Rattle.ei_spec.specs.History.{each}
use Rattle.ei_spec.specs.declared.interface.KnownInterface.TheVariants as known
use Rattle.ei_types.specs.Capability.{bits_of}
use Rattle.ei_types.specs.declared.error.Error.{Error}
use Rattle.ei_backend.specs.Table.{found, first_object, new_table}
use Rattle.ei_backend.specs.Outgoing.{nothing}
use Rattle.ei_backend.specs.Backend.{BackendView, new_backend, with_unsent}
use Rattle.ei_backend.specs.Endpoint.{Endpoint, endpoint_of}
use Rattle.ei_backend.proofs.Objects.{get_with}
use Rattle.ei_greeting.specs.Shaking.{greeting}
use Rattle.ei_handshake.specs.Handshaker.{sends}
use Rattle.ei_session.specs.Setup.{Setup, connection_id, seat_id}
use Rattle.ei_session.specs.Served.{reading_of}
use Rattle.ei_request.specs.declared.event.EisRequest.{EisRequest}
use Rattle.ei_serve.specs.declared.session.Turn.{Turn}
use Rattle.ei_serve.specs.declared.state.SessionState.{SessionState}
use Rattle.ei_serve.specs.Standing.{Stands as StandsFor, IsOver}
use Rattle.ei_playing.specs.Playing.{player, shaken, messages}
use Rattle.ei_playing.proofs.Early.{shaken_bytes, shaken_some, shaken_few}
use Rattle.ei_playing.proofs.Steps.{played_none, reads_so}
use Rattle.ei_player.specs.Objects.{MayHear, with_peer, Knows}
use Rattle.ei_player.proofs.Knowing.{knows_first}
use Rattle.ei_replay.specs.declared.error.ReplayError.{ReplayError}
use Rattle.ei_replay.specs.declared.error.ReplayError.TheVariants as replay_error
use Rattle.ei_replay.specs.declared.player.Player.{Player}
use Rattle.ei_replay.specs.Played.{Stands}
use Rattle.ei_replay.specs.Sending.{Turned, Delivers}
use Rattle.ei_replay.specs.Player.{HasGreeted, ServedAt, ExtendsInPart, BreaksOff, HasOpened, Opens}
use Rattle.ei_replay.proofs.OneMore.{all_of, or_stays, not_over}
use Rattle.ei_replay.proofs.Turning.{IsServed, served, cut_off}

first_messages : messages [] ≡ shaken
unfolding messages each
first_messages = refl

-- ---- the client

pub first_there : (b : BackendView) → b ≡ new_backend (new_table true 1) → found b.table 0 ≡ Some (first_object true)
first_there b e = ap (λ (x : BackendView). found x.table 0) e ∙ get_with map.empty 0 0 (first_object true)

greeted_so : (b : BackendView) → endpoint_of b ≡ endpoint_of (sends (new_backend (new_table true 1)) (greeting player 0)) → HasGreeted b
greeted_so b e = record {
  unsent_is = ap (λ (x : Endpoint). x.unsent) e ∙ shaken_bytes ∙ ap stream_of (sym first_messages);
  of_client = ap (λ (x : Endpoint). x.client) e;
  next_is = let next = ap (λ (x : Endpoint). x.next_peer) e in omega (arith, next);
}

pub greeted : (first b : BackendView) → first ≡ new_backend (new_table true 1) → endpoint_of b ≡ endpoint_of (sends first (greeting player 0)) → HasGreeted b
greeted first b is e =
    greeted_so b (subst (λ (x : BackendView). endpoint_of b ≡ endpoint_of (sends x (greeting player 0))) is e)

module _ (b : BackendView) (g : HasGreeted b) where
  shaken_size : length b.unsent ≡ length (stream_of shaken)
  shaken_size = ap length (g.unsent_is ∙ ap stream_of first_messages)

  pub some_greeting : 0 < length b.unsent
  some_greeting = let same = shaken_size in let s = shaken_some in omega (arith, same, s)

  pub few_greeting : length b.unsent ≤ 65536
  few_greeting = let same = shaken_size in let s = shaken_few in omega (arith, same, s)

  pub hears_first : MayHear connection_id seat_id (with_unsent nothing b)
  hears_first = let low = g.next_is in record { client = g.of_client; next = low; last = omega arith }

  pub knows_greeted : Knows (messages []) (with_peer (with_peer (with_unsent nothing b) connection_id known.Connection 1) seat_id known.Seat 2)
  knows_greeted = subst (λ (l : List Raw). Knows l (with_peer (with_peer (with_unsent nothing b) connection_id known.Connection 1) seat_id known.Seat 2)) (sym first_messages)
      (knows_first (with_unsent nothing b) g.of_client refl)

-- ---- the session

no_stream : stream [] ≡ stream_of []
unfolding stream stream_of
no_stream = refl

no_count : handle_count [] ≡ 0
unfolding handle_count
no_count = refl

abbrev served_none : (setup : Setup) (s : SessionState) → StandsFor setup [] [] s → ServedAt setup [] 0 s
served_none setup s h = record { pieces = []; times = []; stands = h; stream_is = no_stream; no_handles = no_count; count_is = refl }

reads_none : (setup : Setup) → reading_of setup (stream_of []) ≡ reading [] [] Waiting
unfolding reading_of read read_within front stream_of
reads_none setup = refl

none_then : (past : List Raw) → stream_of past ≡ stream_of [] ++ stream_of past
unfolding stream_of
none_then past = refl

ahead_none : (past : List Raw) → past ≡ past ++ []
ahead_none past = sym (append-nil past)

module _ (setup : Setup) (s : SessionState) (h : StandsFor setup [] [] s) (limit : setup.pieces ≡ 4294967295) where
  room : 0 < setup.pieces
  room = omega (arith, limit)

  then_is : reading_of setup (stream_of (messages [])) ≡ reading (messages []) [] Waiting
  then_is = reads_so setup [] None (played_none setup None)

  served_by : (t : SessionState) (answer : Turn) (a b : List EisRequest) → Turned setup [] [] (stream_of (messages [])) (Ok answer) t a b → IsServed setup [] (messages []) 0 Waiting t a b
  served_by t answer a b x =
      served setup [] (messages []) (stream_of (messages [])) 0 s (served_none setup s h) room (reads_none setup) (none_then (messages [])) Waiting
      then_is (played_none setup None).follows.on t answer a b x

  cut_by : (t : SessionState) (a b : List EisRequest) → ((b ≡ a) ⊎ ((e : Error) × Turned setup [] [] (stream_of (messages [])) (Err e) t a b)) → (b ≡ a) ⊎ ExtendsInPart setup [] (messages []) a b
  cut_by t a b (inl same) = inl same
  cut_by t a b (inr x) =
      cut_off setup [] (messages []) (stream_of (messages [])) 0 s (served_none setup s h) room (reads_none setup) (none_then (messages [])) Waiting
      then_is (played_none setup None).follows.on t x.0 a b x.1

  extends_so : (a b : List EisRequest) → (b ≡ a) ⊎ ExtendsInPart setup [] (messages []) a b → ExtendsInPart setup [] (messages []) a b
  extends_so a b x = or_stays setup [] (messages []) (messages []) a b (ahead_none (messages [])) x

  -- ---- where memory runs out

  pub greeted_in_part : (sent : List ℕ) (t : SessionState) (s1 s2 : List ℕ) (o1 o2 : List EisRequest) → sent ≡ stream_of (messages []) →
      Delivers setup [] [] sent (Err replay_error.NoMemory) t s1 s2 o1 o2 → BreaksOff setup [] (messages []) (stream_of (messages [])) s1 s2 o1 o2
  greeted_in_part sent t s1 s2 o1 o2 e d = elim (subst (λ (l : List ℕ). Delivers setup [] [] l (Err replay_error.NoMemory) t s1 s2 o1 o2) e d) [
    | inl a ↦ record { told = inl a.0; extends = extends_so o1 o2 (inl a.1) }
    | inr b ↦ record { told = inr b.0; extends = extends_so o1 o2 (cut_by t o1 o2 b.1) }
  ]

  pub kept_greeting : (sent : List ℕ) (t : SessionState) (s1 s2 : List ℕ) (o1 o2 : List EisRequest) → sent ≡ stream_of (messages []) →
      Delivers setup [] [] sent (Ok tt) t s1 s2 o1 o2 → BreaksOff setup [] (messages []) (stream_of (messages [])) s1 s2 o1 o2
  kept_greeting sent t s1 s2 o1 o2 e d =
      let x = subst (λ (l : List ℕ). Delivers setup [] [] l (Ok tt) t s1 s2 o1 o2) e d in
      record { told = inr x.0; extends = all_of setup [] (messages []) o1 o2 (served_by t x.1.0 o1 o2 x.1.1).extends }

  -- ---- where all was delivered

  pub opened : (sent : List ℕ) (q : Player) (s1 s2 : List ℕ) (o1 o2 : List EisRequest) → sent ≡ stream_of (messages []) → Delivers setup [] [] sent (Ok tt) q.session s1 s2 o1 o2 →
      Knows (messages []) q.client → Stands [] q.played → bits_of q.played.capabilities ≡ setup.capabilities → HasOpened setup q s1 s2 o1 o2
  opened sent q s1 s2 o1 o2 e d k sums same =
      let x = subst (λ (l : List ℕ). Delivers setup [] [] l (Ok tt) q.session s1 s2 o1 o2) e d in
      let v = served_by q.session x.1.0 o1 o2 x.1.1 in
      record {
        plays = record { limit = limit; served = v.goes_on refl; knows = k; sums = sums; same = same };
        told = x.0;
        extends = v.extends;
      }

  -- ---- as the code meets it

  pub greeting_fails : (e : ReplayError) (r : Result (Unit {0}) ReplayError) (q : Player) (sent : List ℕ) (t : SessionState) (s1 s2 : List ℕ) (o1 o2 : List EisRequest) → IsErrAnd r (λ x. x ≡ e) →
      sent ≡ stream_of (messages []) → Delivers setup [] [] sent (Err e) t s1 s2 o1 o2 → Opens setup r q s1 s2 o1 o2
  greeting_fails e (Ok u) q sent t s1 s2 o1 o2 is same d = absurd is
  greeting_fails replay_error.NoMemory (Err x) q sent t s1 s2 o1 o2 is same d =
      subst (λ (y : ReplayError). Opens setup (Err y) q s1 s2 o1 o2) (sym is) (greeted_in_part sent t s1 s2 o1 o2 same d)
  greeting_fails (replay_error.NotReplayable place) (Err x) q sent t s1 s2 o1 o2 is same d = absurd d

  pub fails_greeted : (r : Result (Unit {0}) ReplayError) (q : Player) (sent : List ℕ) (t : SessionState) (s1 s2 : List ℕ) (o1 o2 : List EisRequest) → IsErrAnd r (λ x. x ≡ replay_error.NoMemory) →
      sent ≡ stream_of (messages []) → Delivers setup [] [] sent (Ok tt) t s1 s2 o1 o2 → Opens setup r q s1 s2 o1 o2
  fails_greeted (Ok u) q sent t s1 s2 o1 o2 is same d = absurd is
  fails_greeted (Err x) q sent t s1 s2 o1 o2 is same d = subst (λ (y : ReplayError). Opens setup (Err y) q s1 s2 o1 o2) (sym is) (kept_greeting sent t s1 s2 o1 o2 same d)

pub begun_goes : (setup : Setup) (s : SessionState) → StandsFor setup [] [] s → IsOver s → ⊥
begun_goes setup s h over = not_over setup [] 0 s (served_none setup s h) over
