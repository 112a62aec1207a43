-- A session whose requests are let go of behind each turn hands out what one hands out that keeps them.
use Rattle.std.proofs.Common.{◌≡◌, ℕ, ◌+◌, inl, inr, List, [], ◌++◌, length, cond, Option, Some, None, Result, Ok, Err, ap, sym, subst, ◌∙◌}
use Rattle.std.specs.Prelude.{count_by}
use Rattle.std.proofs.lemmas.List.{append-nil, length-append}
use Rattle.std.proofs.lemmas.List.Sums.{sum_by-append}
use Rattle.ei_spec.specs.Message.{Raw}
use Rattle.ei_spec.specs.Piece.{Piece}
use Rattle.ei_session.specs.Setup.{Setup}
use Rattle.ei_session.specs.Refusals.{Refusal as Cause}
use Rattle.ei_session.specs.Served.{Answer, Disconnect, End, UnexpectedEof, IdsExhausted, PieceLimit, HandleLimit, Refused}
use Rattle.ei_types.specs.declared.error.Error.{Error}
use Rattle.ei_types.specs.declared.error.Error.TheVariants as error
use Rattle.ei_request.specs.declared.event.EisRequest.{EisRequest}
use Rattle.ei_serve.specs.declared.session.Ended.{Ended as HowEnded}
use Rattle.ei_serve.specs.declared.session.Turn.{Turn}
use Rattle.ei_serve.specs.declared.session.Turn.TheVariants as turn
use Rattle.ei_serve.specs.declared.state.SessionState.{SessionState}
use Rattle.ei_serve.specs.Around.{Around}
use Rattle.ei_serve.specs.Causes.{RefusesToStart}
use Rattle.ei_types.specs.Decided.{IsDecided}
use Rattle.ei_serve.specs.Refusing.{refusal_of}
use Rattle.ei_serve.specs.Steps.{GivesOut, Goes, GoesInPart}
use Rattle.ei_serve.specs.Turning.{Closes, ClosesRefused, Finds, Stays, BreaksOff, BreaksOffFull, Turns}
use Rattle.ei_serve.proofs.Running.{Running}
use Rattle.reis_demo.specs.declared.tally.Tally.{Tally}
use Rattle.reis_demo.specs.Summary.{is_input_request}
use Rattle.reis_demo.specs.Tally.{Counts, handing}

-- ---- behind the requests that came before

gives_behind : (all new : List EisRequest) (setup : Setup) (before reached : List Raw) (times used : List ℕ) → GivesOut setup before reached times used [] new → GivesOut setup before reached times used all (all ++ new)
gives_behind all new setup before reached times used g = record {
  more = g.more;
  grown = λ versions are. ap (λ (l : List EisRequest). all ++ l) (g.grown versions are);
  framed_is = g.framed_is;
}

module _ (setup : Setup) (pieces : List Piece) (times : List ℕ) (t : SessionState) (all : List EisRequest) (y z : Around) (none : y.out ≡ []) where
  abbrev start : Around
  start = handing all y

  abbrev finish : Around
  finish = handing (all ++ z.out) z

  given : (before reached : List Raw) (used : List ℕ) → GivesOut setup before reached times used y.out z.out → GivesOut setup before reached times used all (all ++ z.out)
  given before reached used g = gives_behind all z.out setup before reached times used (rw (← none) g)

  goes_behind : (before reached : List Raw) (used : List ℕ) → Goes setup before reached times used y z → Goes setup before reached times used start finish
  goes_behind before reached used g = record {
    behind = g.behind;
    gives = given before reached used g.gives;
    replies = g.replies;
    drawn = g.drawn;
    leaves = g.leaves;
    frames = g.frames;
  }

  breaks_behind : (before last : List Raw) → GoesInPart setup before last times y z → GoesInPart setup before last times start finish
  breaks_behind before last g = record {
    reached = g.reached;
    used = g.used;
    behind = g.behind;
    ahead = g.ahead;
    gives = given before g.reached g.used g.gives;
    replies = g.replies;
    drawn = g.drawn;
    leaves = g.leaves;
    least = g.least;
    most = g.most;
  }

  closes_behind : (answer : Answer) → Closes setup pieces times answer y z → Closes setup pieces times answer start finish
  closes_behind answer h = record { piece = h.piece; used = h.used; hands = h.hands; answer_is = h.answer_is; goes = goes_behind _ _ h.used h.goes }

  refused_behind : (refusal : Option Cause) → ClosesRefused setup pieces times refusal y z → ClosesRefused setup pieces times refusal start finish
  refused_behind None h = absurd h
  refused_behind (Some r) h = closes_behind (Refused r) h

  finds_behind : (answer : Answer) → Finds setup pieces times answer y z → Finds setup pieces times answer start finish
  finds_behind answer h = record { none = h.none; answer_is = h.answer_is; goes = goes_behind _ _ [] h.goes }

  stays_behind : Stays y z → Stays start finish
  stays_behind h = record {
    keeps = h.keeps;
    out = ap (λ (l : List EisRequest). all ++ l) (h.out ∙ none) ∙ append-nil all;
    sink = h.sink;
    readings = h.readings;
  }

  breaks_off_behind : BreaksOff setup pieces times y z → BreaksOff setup pieces times start finish
  breaks_off_behind h = record { piece = h.piece; hands = h.hands; room = h.room; few = h.few; goes = breaks_behind _ _ h.goes }

  full_behind : BreaksOffFull setup pieces times y z → BreaksOffFull setup pieces times start finish
  unfolding breaks_off_behind breaks_behind
  full_behind h = record { breaks = breaks_off_behind h.breaks; wanted = h.wanted }

  pub turns_behind : (r : Result Turn Error) → Turns setup pieces times r t y z → Turns setup pieces times r t start finish
  turns_behind (Ok turn.GoOn) h = record { piece = h.piece; used = h.used; hands = h.hands; stands = h.stands; goes = goes_behind _ _ h.used h.goes }
  turns_behind (Ok turn.Disconnect) h = closes_behind Disconnect h
  turns_behind (Ok turn.End) h = finds_behind End h
  turns_behind (Err error.UnexpectedEof) h = finds_behind UnexpectedEof h
  turns_behind (Err error.PieceLimit) h = closes_behind PieceLimit h
  turns_behind (Err error.HandleLimit) h = closes_behind HandleLimit h
  turns_behind (Err error.IdsExhausted) h = closes_behind IdsExhausted h
  turns_behind (Err error.ReadFault) h = stays_behind h
  turns_behind (Err error.WriteFault) h = breaks_off_behind h
  turns_behind (Err error.NoMemory) (inl h) = inl (stays_behind h)
  turns_behind (Err error.NoMemory) (inr h) = inr (full_behind h)
  turns_behind (Err e) h = refused_behind (refusal_of e) h

-- ---- a session that isn't started

undecided_by : (e : Error) → RefusesToStart e → IsDecided {T = HowEnded} (Err e) → ⊥
undecided_by error.WriteFault h d = d
undecided_by error.NoMemory h d = d
undecided_by e h d = absurd h

-- the pieces decide nothing of it
pub undecided : (e : Error) (r : Result HowEnded Error) → r ≡ Err e → RefusesToStart e → IsDecided r → ⊥
undecided e r same h d = undecided_by e h (subst (λ (q : Result HowEnded Error). IsDecided q) same d)

-- ---- the counts

-- some turns were taken, and the requests that came were counted
pub record Counting (setup : Setup) (n : ℕ) (s : SessionState) (tally : Tally) (old new : Around) : Type 0 where
  pub came : List EisRequest
  pub counts : Counts came tally
  pub running : Running setup n s (handing [] old) (handing came new)

-- more of them came
pub counts_more : (came more : List EisRequest) (old new : Tally) → Counts came old → new.requests ≡ old.requests + length more → new.inputs ≡ old.inputs + count_by is_input_request more →
    Counts (came ++ more) new
counts_more came more old new counts requests inputs = record {
  requests = requests ∙ ap (λ (n : ℕ). n + length more) counts.requests ∙ sym (length-append came more);
  inputs = inputs ∙ ap (λ (n : ℕ). n + count_by is_input_request more) counts.inputs ∙ sym (sum_by-append (λ (r : EisRequest). cond (is_input_request r) 1 0) came more);
}
