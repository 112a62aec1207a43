-- One turn more of a client that is alone.
use Rattle.std.proofs.Common.{◌≡◌, ℕ, ◌≤◌, inl, inr, List, [], ◌∷◌, ◌++◌, length, drop, Option, Some, None, Result, Ok, Err}
use Rattle.std.proofs.Common.{refl, ap, sym, subst, ◌∙◌, append_assoc, arith}
use Rattle.std.specs.Prelude.{map}
use Rattle.std.specs.Option.{option_map}
use Rattle.std.proofs.lemmas.Bool.{cases_lt}
use Rattle.std.proofs.lemmas.List.{append-nil, length-append}
use Rattle.ei_spec.specs.Message.{Raw}
use Rattle.ei_spec.specs.Piece.{Piece, stream}
use Rattle.ei_spec.specs.History.{each}
use Rattle.ei_spec.specs.Groups.{frames_made}
use Rattle.ei_session.specs.Setup.{Setup}
use Rattle.ei_session.specs.Requests.{Request, slot, framed}
use Rattle.ei_session.specs.Refusals.{Refusal as Cause}
use Rattle.ei_session.specs.Served.{Answer, Disconnect, End, UnexpectedEof, IdsExhausted, PieceLimit, HandleLimit, Refused, accepted}
use Rattle.ei_session.proofs.AllParts.{framed_readings}
use Rattle.ei_backend.specs.Outside.{SourceView}
use Rattle.ei_backend.specs.Incoming.{Hands}
use Rattle.ei_request.specs.declared.event.EisRequest.{EisRequest}
use Rattle.ei_standing.specs.Standing.{request_in_code}
use Rattle.ei_types.specs.declared.error.Error.{Error}
use Rattle.ei_types.specs.declared.error.Error.TheVariants as error
use Rattle.ei_serve.specs.declared.session.Ended.{Ended as HowEnded}
use Rattle.ei_serve.specs.declared.session.Ended.TheVariants as ended
use Rattle.ei_serve.specs.declared.session.Turn.{Turn}
use Rattle.ei_serve.specs.declared.session.Turn.TheVariants as turn
use Rattle.ei_serve.specs.declared.state.SessionState.{SessionState}
use Rattle.ei_serve.specs.Around.{Around, around, AreDrawn, LeavesReadings}
use Rattle.ei_serve.specs.Steps.{GivesOut, Goes, GoesInPart}
use Rattle.ei_serve.specs.Taking.{with_next}
use Rattle.ei_serve.specs.Refusing.{refusal_of}
use Rattle.ei_serve.specs.Turning.{Closes, ClosesRefused, Finds, GoesOn, Stays, BreaksOff, BreaksOffFull, Turns}
use Rattle.ei_serve.specs.Serving.{IsSourceEnd}
use Rattle.ei_backend.specs.Pieces.{ArePieces, GavePieces}
use Rattle.ei_serve.specs.Whole.{Serves}
use Rattle.ei_serve.proofs.Going.{gives_then}
use Rattle.ei_serve.proofs.Running.{Running, Took, replied_then}
use Rattle.ei_serve.proofs.Serves.{framed_none, grown_so, no_frames, too_many_turns}
use Rattle.ei_serve.proofs.AsTold.{disconnects, ends, failed, front_is, took_so, turn_gave}
use Rattle.ei_serve.specs.EndedBy.{ended_by}
use Rattle.ei_hub.specs.Alone.{ClientView, Start, IsAlone, GaveThese, GoesOnAlone, EndsAlone, AnswersAlone, at_start, at_now}
use Rattle.ei_hub.specs.Clocks.{AreTaken, GaveReadings}
use Rattle.ei_hub.proofs.Readings.{draws_own, leaves_own, draws_all, leaves_all, taken_gave}
use Rattle.ei_serve.proofs.EarlyRequests.{handed_alike}

-- ---- requests

-- all that these messages give was handed out
gives_all : (setup : Setup) (messages : List Raw) (times : List ℕ) (out : List EisRequest) → out ≡ map (request_in_code messages) (framed setup times messages) → frames_made (each (slot setup) messages) ≤ length times →
    GivesOut setup [] messages [] times [] out
gives_all setup messages times out is enough = record {
  more = framed setup times messages;
  grown = λ versions are. is ∙ handed_alike setup times messages versions are;
  framed_is = λ later. framed_readings setup times later messages enough ∙ ap (λ (x : List Request). x ++ framed setup times messages) (sym (framed_none setup (times ++ later)));
}

-- and the other way round
all_given : (setup : Setup) (messages : List Raw) (times : List ℕ) (out : List EisRequest) → GivesOut setup [] messages [] times [] out → out ≡ map (request_in_code messages) (framed setup times messages)
all_given setup messages times out g =
    grown_so setup messages times times [] out g
    (ap (λ (r : List ℕ). framed setup r messages) (sym (append-nil times)) ∙ g.framed_is [] ∙ ap (λ (x : List Request). x ++ g.more) (framed_none setup (times ++ [])))

-- ---- a turn over readings of its own

abbrev over_readings : Option (List ℕ) → Around → Around
over_readings readings a = record a { readings = readings }

goes_own : (setup : Setup) (before reached : List Raw) (times used : List ℕ) (old new : Around) → Goes setup before reached times used old new → Goes setup before reached times used (over_readings (Some used) old) (over_readings (Some []) new)
goes_own setup before reached times used old new g = record {
  behind = g.behind;
  gives = g.gives;
  replies = g.replies;
  drawn = draws_all used;
  leaves = leaves_all used;
  frames = g.frames;
}

part_own : (setup : Setup) (before last : List Raw) (times : List ℕ) (old new : Around) (g : GoesInPart setup before last times old new) → GoesInPart setup before last times (over_readings (Some g.used) old) (over_readings (Some []) new)
part_own setup before last times old new g = record {
  reached = g.reached;
  used = g.used;
  behind = g.behind;
  ahead = g.ahead;
  gives = g.gives;
  replies = g.replies;
  drawn = draws_all g.used;
  leaves = leaves_all g.used;
  least = g.least;
  most = g.most;
}

-- a turn, over a clock that gives it the readings that it used, and no other
pub record OwnTurn (setup : Setup) (pieces : List Piece) (times : List ℕ) (r : Result Turn Error) (t : SessionState) (old new : Around) : Type 0 where
  pub used : List ℕ
  pub drawn : AreDrawn used old.readings
  pub leaves : LeavesReadings used old.readings new.readings
  pub turns : Turns setup pieces times r t (over_readings (Some used) old) (over_readings (Some []) new)

module _ (setup : Setup) (pieces : List Piece) (times : List ℕ) (t : SessionState) (old new : Around) where
  closes_own : (answer : Answer) (h : Closes setup pieces times answer old new) → Closes setup pieces times answer (over_readings (Some h.used) old) (over_readings (Some []) new)
  closes_own answer h = record { piece = h.piece; used = h.used; hands = h.hands; answer_is = h.answer_is; goes = goes_own setup _ _ times h.used old new h.goes }

  finds_own : (answer : Answer) → Finds setup pieces times answer old new → Finds setup pieces times answer (over_readings (Some []) old) (over_readings (Some []) new)
  finds_own answer h = record { none = h.none; answer_is = h.answer_is; goes = goes_own setup _ _ times [] old new h.goes }

  goes_on_own : (h : GoesOn setup pieces times t old new) → GoesOn setup pieces times t (over_readings (Some h.used) old) (over_readings (Some []) new)
  goes_on_own h = record { piece = h.piece; used = h.used; hands = h.hands; stands = h.stands; goes = goes_own setup _ _ times h.used old new h.goes }

  stays_own : Stays old new → Stays (over_readings (Some []) old) (over_readings (Some []) new)
  stays_own h = record { keeps = h.keeps; out = h.out; sink = h.sink; readings = refl }

  breaks_own : (h : BreaksOff setup pieces times old new) → BreaksOff setup pieces times (over_readings (Some h.goes.used) old) (over_readings (Some []) new)
  breaks_own h = record { piece = h.piece; hands = h.hands; room = h.room; few = h.few; goes = part_own setup _ _ times old new h.goes }

  full_own : (h : BreaksOffFull setup pieces times old new) → BreaksOffFull setup pieces times (over_readings (Some h.breaks.goes.used) old) (over_readings (Some []) new)
  unfolding breaks_own part_own
  full_own h = record { breaks = breaks_own h.breaks; wanted = h.wanted }

  none_drawn : AreDrawn [] old.readings
  none_drawn told is = refl

  stays_leaves : Stays old new → LeavesReadings [] old.readings new.readings
  stays_leaves h told is = h.readings ∙ is

  closed_own : (r : Result Turn Error) (answer : Answer) (h : Closes setup pieces times answer old new) →
      Turns setup pieces times r t (over_readings (Some h.used) old) (over_readings (Some []) new) → OwnTurn setup pieces times r t old new
  closed_own r answer h turns = record { used = h.used; drawn = h.goes.drawn; leaves = h.goes.leaves; turns = turns }

  refused_own : (e : Error) (refusal : Option Cause) →
      ((old new : Around) → ClosesRefused setup pieces times refusal old new → Turns setup pieces times (Err e) t old new) → ClosesRefused setup pieces times refusal old new → OwnTurn setup pieces times (Err e) t old new
  refused_own e None is h = absurd h
  refused_own e (Some refusal) is h = record { used = h.used; drawn = h.goes.drawn; leaves = h.goes.leaves; turns = is _ _ (closes_own (Refused refusal) h) }

  pub own_turn : (r : Result Turn Error) → Turns setup pieces times r t old new → OwnTurn setup pieces times r t old new
  own_turn (Ok turn.GoOn) h = record { used = h.used; drawn = h.goes.drawn; leaves = h.goes.leaves; turns = goes_on_own h }
  own_turn (Ok turn.Disconnect) h = closed_own (Ok turn.Disconnect) Disconnect h (closes_own Disconnect h)
  own_turn (Ok turn.End) h = record { used = []; drawn = none_drawn; leaves = h.goes.leaves; turns = finds_own End h }
  own_turn (Err error.UnexpectedEof) h = record { used = []; drawn = none_drawn; leaves = h.goes.leaves; turns = finds_own UnexpectedEof h }
  own_turn (Err error.PieceLimit) h = closed_own (Err error.PieceLimit) PieceLimit h (closes_own PieceLimit h)
  own_turn (Err error.HandleLimit) h = closed_own (Err error.HandleLimit) HandleLimit h (closes_own HandleLimit h)
  own_turn (Err error.IdsExhausted) h = closed_own (Err error.IdsExhausted) IdsExhausted h (closes_own IdsExhausted h)
  own_turn (Err error.ReadFault) h = record { used = []; drawn = none_drawn; leaves = stays_leaves h; turns = stays_own h }
  own_turn (Err error.WriteFault) h = record { used = h.goes.used; drawn = h.goes.drawn; leaves = h.goes.leaves; turns = breaks_own h }
  own_turn (Err error.NoMemory) (inl h) = record { used = []; drawn = none_drawn; leaves = stays_leaves h; turns = inl (stays_own h) }
  own_turn (Err error.NoMemory) (inr h) = record { used = h.breaks.goes.used; drawn = h.breaks.goes.drawn; leaves = h.breaks.goes.leaves; turns = inr (full_own h) }
  own_turn (Err e) h = refused_own e (refusal_of e) (λ a b c. c) h

-- what the clock gave in a turn
pub turn_gave_readings : (setup : Setup) (pieces : List Piece) (times : List ℕ) (r : Result Turn Error) (t : SessionState) (old new : Around) → Turns setup pieces times r t old new → GaveReadings old.readings new.readings
turn_gave_readings setup pieces times r t old new h =
    let o = own_turn setup pieces times t old new r h in
    taken_gave old.readings new.readings o.used o.leaves

-- ---- the pieces

gave_these : (x z : SourceView) (g : GavePieces x z) → GaveThese g.came x z
gave_these x z g = record { gave = g.gave; told = λ told is. let t = g.told told is in (t.0, t.2, t.1) }

gave_one : (piece : Piece) (x z : SourceView) → Hands x piece z → GaveThese (piece ∷ []) x z
gave_one piece x z h = record {
  gave = h.given;
  told = λ told is. let f = h.told told is in (drop 1 told, front_is told piece f.first, f.left_is);
}

-- what is said of a whole session says nothing of the source but what is left
beside : (setup : Setup) (told : List Piece) (left : Option (List Piece)) (answer : Result HowEnded Error) (x z v w : Around) →
    v.out ≡ x.out → v.sink ≡ x.sink → v.readings ≡ x.readings → w.out ≡ z.out → w.sink ≡ z.sink → w.readings ≡ z.readings → Serves setup told left answer x z → Serves setup told left answer v w
beside setup told left answer x z v w a b c d e f h = rw (a, b, c, d, e, f) (record {
  answer = h.answer;
  requests = h.requests;
  replies = h.replies;
  readings = h.readings;
  valid = h.valid;
  taken = h.taken;
  pieces = h.pieces;
  handled = h.handled;
  cut_short = h.cut_short;
  full = h.full;
})

-- ---- a turn of a client that is alone

module _ (setup : Setup) (start : Start) (pieces : List Piece) (times : List ℕ) (x : ClientView) (alone : IsAlone setup start pieces times x) where
  abbrev past : List Raw
  past = accepted setup (stream pieces)

  abbrev behind_these : Option (List Piece) → Option (List Piece)
  behind_these left = option_map (λ (l : List Piece). pieces ++ l) left

  -- the source, as when the client joined
  abbrev source_then : SourceView
  source_then = record x.source { left = behind_these x.source.left; given = start.given }

  gives_x : GivesOut setup [] past [] times [] x.requests
  gives_x = gives_all setup past times x.requests alone.requests (omega (arith, alone.frames))

  module _ (more : List ℕ) where
    abbrev then_so : Around
    then_so = around source_then [] start.sink (Some (times ++ more))

    abbrev now_so : Around
    now_so = around x.source x.requests x.sink (Some more)

    took_at : (left : Option (List Piece)) (told : List Piece) → behind_these left ≡ Some told → Took told left (length pieces) pieces
    took_at None told is = absurd cc
    took_at (Some l) told is =
        let whole : pieces ++ l ≡ told = cc in
        subst (λ (p : List Piece). Took p (Some l) (length pieces) pieces) whole (took_so (length pieces) pieces l refl)

    running : Running setup (length pieces) x.session then_so now_so
    running = record {
      pieces = pieces;
      times = times;
      count = refl;
      stands = alone.stands;
      took = λ told is. took_at x.source.left told is;
      given = alone.given;
      asked = omega arith;
      gives = gives_x;
      replied = alone.replies;
      drawn = draws_own times more;
      leaves = leaves_own times more;
      frames = omega (arith, alone.frames, no_frames setup);
    }

    few : length pieces ≤ setup.pieces
    few = elim (cases_lt setup.pieces (length pieces)) [ inl lt ↦ absurd (too_many_turns setup (length pieces) x.session then_so now_so running lt) | inr le ↦ le ]

    are_all : (z : ClientView) (over : Type 0) (told : List Piece) (left : Option (List Piece)) → ArePieces x.source z.source over told left → ArePieces source_then z.source over (pieces ++ told) left
    are_all z over told left (inl h) = inl (record { told_is = ap behind_these h.told_is; left_is = h.left_is })
    are_all z over told left (inr h) = inr (record {
      came = pieces ++ h.came;
      more = h.more;
      gave = h.gave ∙ ap (λ (l : List Piece). l ++ h.came) alone.given ∙ append_assoc start.given pieces h.came;
      told_is = ap (λ (l : List Piece). pieces ++ l) h.told_is ∙ sym (append_assoc pieces h.came h.more);
      left_is = h.left_is;
      ends = h.ends;
    })

    abbrev end_so : ClientView → Around
    end_so z = around z.source z.requests z.sink (Some [])

    ended_so : (z : ClientView) (answer : Result HowEnded Error) → ((told : List Piece) (left : Option (List Piece)) → ArePieces source_then z.source (IsSourceEnd answer) told left → Serves setup told left answer then_so (end_so z)) →
        (told : List Piece) (left : Option (List Piece)) → ArePieces x.source z.source (IsSourceEnd answer) told left → Serves setup (pieces ++ told) left answer (at_start start (times ++ more)) (at_now z)
    ended_so z answer serves told left are =
        beside setup (pieces ++ told) left answer then_so (end_so z) (at_start start (times ++ more)) (at_now z) refl refl refl refl refl refl
        (serves (pieces ++ told) left (are_all z (IsSourceEnd answer) told left are))

  module _ (before after : Option (List ℕ)) (z : ClientView) where
    abbrev from_here : Around
    from_here = around x.source x.requests x.sink before

    abbrev to_there : Around
    to_there = around z.source z.requests z.sink after

    went_on : z.answer ≡ None → GoesOn setup pieces times z.session from_here to_there → GoesOnAlone setup start pieces times (AreTaken before after) x z
    went_on none g =
        let next = with_next pieces g.piece in
        let then = accepted setup (stream next) in
        let gives = gives_then setup [] past then [] times g.used [] x.requests z.requests g.goes.behind gives_x g.goes.gives in
        record {
          came = g.piece ∷ [];
          used = g.used;
          gave = gave_one g.piece x.source z.source g.hands;
          alone = record {
            goes_on = none;
            stands = g.stands;
            given = g.hands.given ∙ ap (λ (l : List Piece). l ++ g.piece ∷ []) alone.given ∙ append_assoc start.given pieces (g.piece ∷ []);
            requests = all_given setup then (times ++ g.used) z.requests gives;
            replies = replied_then setup past then start.sink x.sink z.sink g.goes.behind alone.replies g.goes.replies;
            frames = omega (arith, alone.frames, g.goes.frames, length-append times g.used);
          };
          drawn_so = (g.goes.drawn, g.goes.leaves);
        }

    closed_so : (r : Result Turn Error) (answer : Result HowEnded Error) → Turns setup pieces times r z.session from_here to_there → (o : OwnTurn setup pieces times r z.session from_here to_there) →
        ((told : List Piece) (left : Option (List Piece)) → ArePieces source_then z.source (IsSourceEnd answer) told left → Serves setup told left answer (then_so o.used) (end_so o.used z)) → EndsAlone setup start pieces times (AreTaken before after) answer x z
    closed_so r answer h o serves =
        let gave = turn_gave setup pieces times r z.session from_here to_there h in
        record {
          came = gave.came;
          used = o.used;
          gave = gave_these x.source z.source gave;
          drawn_so = (o.drawn, o.leaves);
          serves = ended_so o.used z answer serves;
        }

    by_answer : (r : Result Turn Error) → z.answer ≡ ended_by r → Turns setup pieces times r z.session from_here to_there → AnswersAlone setup start pieces times (AreTaken before after) (ended_by r) x z
    unfolding running
    by_answer (Ok turn.GoOn) is h = went_on is h
    by_answer (Ok turn.Disconnect) is h =
        let o = own_turn setup pieces times z.session from_here to_there (Ok turn.Disconnect) h in
        closed_so (Ok turn.Disconnect) (Ok ended.Disconnect) h o
        (λ told left are. disconnects setup (length pieces) x.session (then_so o.used) (now_so o.used) (end_so o.used z) (running o.used) (few o.used) told left z.session are o.turns)
    by_answer (Ok turn.End) is h =
        let o = own_turn setup pieces times z.session from_here to_there (Ok turn.End) h in
        closed_so (Ok turn.End) (Ok ended.End) h o
        (λ told left are. ends setup (length pieces) x.session (then_so o.used) (now_so o.used) (end_so o.used z) (running o.used) (few o.used) told left z.session are o.turns)
    by_answer (Err e) is h =
        let o = own_turn setup pieces times z.session from_here to_there (Err e) h in
        closed_so (Err e) (Err e) h o
        (λ told left are. failed setup (length pieces) x.session (then_so o.used) (now_so o.used) (end_so o.used z) (running o.used) (few o.used) told left z.session e (Err e) refl are o.turns)

    pub turned : (r : Result Turn Error) → z.answer ≡ ended_by r → Turns setup pieces times r z.session from_here to_there → AnswersAlone setup start pieces times (AreTaken before after) z.answer x z
    turned r is h = subst (λ (a : Option (Result HowEnded Error)). AnswersAlone setup start pieces times (AreTaken before after) a x z) (sym is) (by_answer r is h)
