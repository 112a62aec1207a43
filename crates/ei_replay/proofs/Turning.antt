-- What a session does with the bytes of one more item.
use Rattle.std.proofs.Common.{◌≡◌, ℕ, ◌+◌, ◌≤◌, ◌<◌, ◌⊎◌, true, false, List, [], ◌∷◌, ◌++◌, length, Option, Some, None, Ok, Err, refl, sym, ap, subst, ◌∙◌, arith, inl, inr}
use Rattle.std.proofs.lemmas.List.{length-append}
use Rattle.ei_spec.specs.Message.{Raw}
use Rattle.ei_spec.specs.Piece.{Piece, stream, handle_count}
use Rattle.ei_spec.specs.Stream.{Stop, Waiting, Ended, Reading, reading, stream_of}
use Rattle.ei_types.specs.declared.error.Error.{Error}
use Rattle.ei_types.specs.declared.error.Error.TheVariants as error
use Rattle.ei_backend.specs.Outside.{SourceView}
use Rattle.ei_backend.specs.Incoming.{Hands, HasNone}
use Rattle.ei_session.specs.Setup.{Setup}
use Rattle.ei_session.specs.Handshake.{connected, version}
use Rattle.ei_session.specs.Refusals.{Refusal}
use Rattle.ei_session.specs.Served.{Answer, Disconnect, End, IdsExhausted, PieceLimit, HandleLimit, Refused, reading_of, accepted, ran_out, is_waiting, session, answer_at}
use Rattle.ei_session.proofs.Choices.{some_is}
use Rattle.ei_request.specs.declared.event.EisRequest.{EisRequest}
use Rattle.ei_serve.specs.declared.session.Turn.{Turn}
use Rattle.ei_serve.specs.declared.session.Turn.TheVariants as turn
use Rattle.ei_serve.specs.declared.state.SessionState.{SessionState}
use Rattle.ei_serve.specs.Around.{Around}
use Rattle.ei_serve.specs.Refusing.{refusal_of}
use Rattle.ei_serve.specs.Standing.{Stands}
use Rattle.ei_serve.specs.Steps.{bytes_only, GivesOut, Goes, GoesInPart}
use Rattle.ei_serve.specs.Taking.{with_next}
use Rattle.ei_serve.specs.Turning.{Turns, Closes, ClosesRefused, GoesOn, BreaksOff}
use Rattle.ei_serve.proofs.Histories.{stream_more, count_more, goes_on_more, going, stopped}
use Rattle.ei_replay.specs.Sending.{Turned}
use Rattle.ei_replay.specs.Player.{ServedAt, Extends, ExtendsInPart}

-- how reading goes on: all was taken, after the handshake, or it ended the connection
abbrev pub IsGoodStop : Stop Refusal → List Raw → Type 0
IsGoodStop Waiting reached = connected reached ≡ true
IsGoodStop Ended reached = ran_out reached ≡ false
IsGoodStop stop reached = ⊥

extends_by : (setup : Setup) (past reached : List Raw) (times used : List ℕ) (a b : List EisRequest) → GivesOut setup past reached times used a b → Extends setup past reached a b
extends_by setup past reached times used a b g = record {
  more = g.more;
  readings = (times ++ used) ++ [];
  grown = g.grown (version reached) (λ on i. refl);
  framed_is = g.framed_is [];
}

-- all was handed out; and the session goes on, unless the client has ended the connection
pub record IsServed (setup : Setup) (past reached : List Raw) (count : ℕ) (stop : Stop Refusal) (t : SessionState) (a b : List EisRequest) : Type 0 where
  pub extends : Extends setup past reached a b
  pub goes_on : stop ≡ Waiting → ServedAt setup reached (count + 1) t

-- how a session over these pieces ends
record EndsSo (setup : Setup) (pieces : List Piece) (reached : List Raw) (stop : Stop Refusal) : Type 0 where
  handled_is : (session setup pieces).handled ≡ reached
  answers : ((session setup pieces).answer ≡ End) ⊎ (((session setup pieces).answer ≡ Disconnect) × (stop ≡ Waiting → ⊥))

module _ (setup : Setup) (past reached : List Raw) (bytes : List ℕ) (count : ℕ) (s : SessionState) (at : ServedAt setup past count s) (room : count < setup.pieces)
    (now : reading_of setup (stream_of past) ≡ reading past [] Waiting) (next : stream_of reached ≡ stream_of past ++ bytes) (stop : Stop Refusal)
    (then_is : reading_of setup (stream_of reached) ≡ reading reached [] stop) (good : IsGoodStop stop reached) where
  abbrev all : List Piece
  all = with_next at.pieces (bytes_only bytes)

  stream_next : stream all ≡ stream_of reached
  stream_next = stream_more at.pieces (bytes_only bytes) ∙ ap (λ (l : List ℕ). l ++ bytes) at.stream_is ∙ sym next

  reads_next : reading_of setup (stream all) ≡ reading reached [] stop
  reads_next = ap (reading_of setup) stream_next ∙ then_is

  accepted_now : accepted setup (stream at.pieces) ≡ past
  accepted_now = ap (λ (l : List ℕ). accepted setup l) at.stream_is ∙ ap (λ (r : Reading Refusal). r.past) now

  accepted_next : accepted setup (stream all) ≡ reached
  accepted_next = ap (λ (r : Reading Refusal). r.past) reads_next

  none : handle_count all ≡ 0
  none = count_more at.pieces (bytes_only bytes) ∙ (let e = at.no_handles in omega (arith, e))

  fits : length at.pieces < setup.pieces
  fits = let e = at.count_is in omega (arith, e, room)

  few : handle_count all ≤ 4096
  few = let e = none in omega (arith, e)

  piece_so : (before after : SourceView) (piece : Piece) → before.left ≡ Some (bytes_only bytes ∷ []) → Hands before piece after → bytes_only bytes ≡ piece
  piece_so before after piece one hands = some_is (bytes_only bytes) piece (hands.told (bytes_only bytes ∷ []) one).first

  outcome_by : (x : Stop Refusal) → stop ≡ x → IsGoodStop x reached → EndsSo setup all reached stop
  outcome_by Waiting e on =
      let whole = going setup all (goes_on_more setup at.pieces (bytes_only bytes) at.stands.goes_on fits few (ap (λ (r : Reading Refusal). r.stop) reads_next ∙ e)) in
      record {
        handled_is = ap (λ o. o.handled) whole ∙ accepted_next;
        answers = inl (ap (λ o. o.answer) whole ∙ rw (accepted_next, on) refl);
      }
  outcome_by Ended e left =
      let whole = stopped setup at.pieces (bytes_only bytes) at.stands.goes_on fits few (ap (λ (r : Reading Refusal). is_waiting r.stop) reads_next ∙ ap is_waiting e) in
      record {
        handled_is = ap (λ o. o.handled) whole ∙ accepted_next;
        answers = inr (ap (λ o. o.answer) whole ∙ ap answer_at reads_next ∙ rw (e, left) refl, λ w. (let q : Waiting ≡ Ended = sym w ∙ e in absurd cc));
      }
  outcome_by x e h = absurd h

  outcome : EndsSo setup all reached stop
  outcome = outcome_by stop refl good

  -- no other answer comes
  no_answer : (a : Answer) → (session setup all).answer ≡ a → (a ≡ End → ⊥) → (a ≡ Disconnect → ⊥) → ⊥
  no_answer a e not_end not_left = elim outcome.answers [ inl x ↦ not_end (sym e ∙ x) | inr y ↦ not_left (sym e ∙ y.0) ]

  from_now : (part : List Raw) (a b : List EisRequest) → Extends setup (accepted setup (stream at.pieces)) part a b → Extends setup past part a b
  from_now part a b x = subst (λ (l : List Raw). Extends setup l part a b) accepted_now x

  to_next : (times used : List ℕ) (x y : Around) (part : List Raw) → part ≡ reached → Goes setup (accepted setup (stream at.pieces)) part times used x y → Extends setup past reached x.out y.out
  to_next times used x y part e g = subst (λ (l : List Raw). Extends setup past l x.out y.out) e (from_now part x.out y.out (extends_by setup (accepted setup (stream at.pieces)) part times used x.out y.out g.gives))

  in_part : (times : List ℕ) (x y : Around) → GoesInPart setup (accepted setup (stream at.pieces)) (accepted setup (stream all)) times x y → ExtendsInPart setup past reached x.out y.out
  in_part times x y g = record {
    part = g.reached;
    ahead = g.ahead.0;
    reached_is = sym accepted_next ∙ g.ahead.1;
    extends = from_now g.reached x.out y.out (extends_by setup (accepted setup (stream at.pieces)) g.reached times g.used x.out y.out g.gives);
  }

  -- ---- a turn that is well

  went_on : (t : SessionState) (x y : Around) → x.source.left ≡ Some (bytes_only bytes ∷ []) → GoesOn setup at.pieces at.times t x y → IsServed setup past reached count stop t x.out y.out
  went_on t x y one g =
      let same = piece_so x.source y.source g.piece one g.hands in
      let ends : accepted setup (stream (with_next at.pieces g.piece)) ≡ reached = ap (λ (p : Piece). accepted setup (stream (with_next at.pieces p))) (sym same) ∙ accepted_next in
      let longer = length-append at.pieces (bytes_only bytes ∷ []) in
      let old = at.count_is in
      record {
        extends = to_next at.times g.used x y (accepted setup (stream (with_next at.pieces g.piece))) ends g.goes;
        goes_on = λ w. record {
          pieces = all;
          times = at.times ++ g.used;
          stands = subst (λ (p : Piece). Stands setup (with_next at.pieces p) (at.times ++ g.used) t) (sym same) g.stands;
          stream_is = stream_next;
          no_handles = none;
          count_is = omega (arith, longer, old);
        };
      }

  closed : (answer : Answer) (x y : Around) → x.source.left ≡ Some (bytes_only bytes ∷ []) → Closes setup at.pieces at.times answer x y → ((session setup all).answer ≡ answer) × Extends setup past reached x.out y.out
  closed answer x y one c =
      let same = piece_so x.source y.source c.piece one c.hands in (
        ap (λ (p : Piece). (session setup (with_next at.pieces p)).answer) same ∙ c.answer_is,
        to_next at.times c.used x y (session setup (with_next at.pieces c.piece)).handled (ap (λ (p : Piece). (session setup (with_next at.pieces p)).handled) (sym same) ∙ outcome.handled_is) c.goes,
      )

  left_off : (t : SessionState) (x y : Around) → x.source.left ≡ Some (bytes_only bytes ∷ []) → Closes setup at.pieces at.times Disconnect x y → IsServed setup past reached count stop t x.out y.out
  left_off t x y one c =
      let k = closed Disconnect x y one c in
      record {
        extends = k.1;
        goes_on = λ w. elim outcome.answers [ inl e ↦ (let q : End ≡ Disconnect = sym e ∙ k.0 in absurd cc) | inr e ↦ absurd (e.1 w) ];
      }

  not_none : {P : Type 0} (x y : SourceView) → x.left ≡ Some (bytes_only bytes ∷ []) → HasNone x y → P
  not_none x y one h = let q : bytes_only bytes ∷ [] ≡ [] = (h.told (bytes_only bytes ∷ []) one).0 in absurd cc

  by_turn : (t : SessionState) (answer : Turn) (x y : Around) → x.source.left ≡ Some (bytes_only bytes ∷ []) → Turns setup at.pieces at.times (Ok answer) t x y → IsServed setup past reached count stop t x.out y.out
  by_turn t turn.GoOn x y one h = went_on t x y one h
  by_turn t turn.Disconnect x y one h = left_off t x y one h
  by_turn t turn.End x y one h = not_none x.source y.source one h.none

  pub served : (t : SessionState) (answer : Turn) (a b : List EisRequest) → Turned setup at.pieces at.times bytes (Ok answer) t a b → IsServed setup past reached count stop t a b
  served t answer a b h = rw (← h.out_was, ← h.out_is) (by_turn t answer h.before h.after h.one h.turns)

  -- ---- a turn that is broken off

  never : {P : Type 0} (answer : Answer) (x y : Around) → x.source.left ≡ Some (bytes_only bytes ∷ []) → (answer ≡ End → ⊥) → (answer ≡ Disconnect → ⊥) → Closes setup at.pieces at.times answer x y → P
  never answer x y one a b c = absurd (no_answer answer (closed answer x y one c).0 a b)

  never_refused : {P : Type 0} (o : Option Refusal) (x y : Around) → x.source.left ≡ Some (bytes_only bytes ∷ []) → ClosesRefused setup at.pieces at.times o x y → P
  never_refused None x y one h = absurd h
  never_refused (Some r) x y one h = never (Refused r) x y one (λ e. absurd cc) (λ e. absurd cc) h

  broken : (x y : Around) → x.source.left ≡ Some (bytes_only bytes ∷ []) → BreaksOff setup at.pieces at.times x y → ExtendsInPart setup past reached x.out y.out
  broken x y one b =
      let same = piece_so x.source y.source b.piece one b.hands in
      in_part at.times x y (subst (λ (p : Piece). GoesInPart setup (accepted setup (stream at.pieces)) (accepted setup (stream (with_next at.pieces p))) at.times x y) (sym same) b.goes)

  by_error : (t : SessionState) (e : Error) (x y : Around) → x.source.left ≡ Some (bytes_only bytes ∷ []) → Turns setup at.pieces at.times (Err e) t x y → (y.out ≡ x.out) ⊎ ExtendsInPart setup past reached x.out y.out
  by_error t error.UnexpectedEof x y one h = not_none x.source y.source one h.none
  by_error t error.PieceLimit x y one h = never PieceLimit x y one (λ e. absurd cc) (λ e. absurd cc) h
  by_error t error.HandleLimit x y one h = never HandleLimit x y one (λ e. absurd cc) (λ e. absurd cc) h
  by_error t error.IdsExhausted x y one h = never IdsExhausted x y one (λ e. absurd cc) (λ e. absurd cc) h
  by_error t error.ReadFault x y one h = inl h.out
  by_error t error.WriteFault x y one h = inr (broken x y one h)
  by_error t error.NoMemory x y one h = elim h [ inl s ↦ inl s.out | inr b ↦ inr (broken x y one b.breaks) ]
  by_error t e x y one h = never_refused (refusal_of e) x y one h

  pub cut_off : (t : SessionState) (e : Error) (a b : List EisRequest) → Turned setup at.pieces at.times bytes (Err e) t a b → (b ≡ a) ⊎ ExtendsInPart setup past reached a b
  cut_off t e a b h = rw (← h.out_was, ← h.out_is) (by_error t e h.before h.after h.one h.turns)
