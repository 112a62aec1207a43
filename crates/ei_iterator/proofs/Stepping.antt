-- One message more: its event is taken and answered, or refused, or it is skipped.
use Rattle.std.proofs.Common.{◌≡◌, ℕ, inl, inr, true, List, [], ◌∷◌, ◌++◌, Option, Some, None, Result, Ok, Err, refl, sym, ap, subst, ◌∙◌}
use Rattle.std.specs.Prelude.{IsSome, IfSome}
use Rattle.std.specs.Ordering.{nat_cmp}
use Rattle.std.specs.FinMap as finite
use Rattle.ei_spec.specs.Piece.{Piece}
use Rattle.ei_spec.specs.Reading.{Fault}
use Rattle.ei_types.specs.declared.error.Error.{Error}
use Rattle.ei_types.specs.declared.error.Error.TheVariants as error
use Rattle.ei_types.specs.declared.error.EventError.{EventError}
use Rattle.ei_types.specs.Errors.{error_of_parse, error_of_flush}
use Rattle.ei_wire.specs.declared.error.ParseError.{ParseError}
use Rattle.ei_wire.specs.declared.error.ParseError.TheVariants as parse_error
use Rattle.ei_wire.specs.declared.error.FlushError.{FlushError}
use Rattle.ei_wire.specs.declared.error.FlushError.TheVariants as flush_error
use Rattle.ei_wire.specs.Gives.{fault_of}
use Rattle.ei_backend.specs.Outside.{SinkView}
use Rattle.ei_backend.specs.Outgoing.{Flushes}
use Rattle.ei_backend.specs.Backend.{BackendView, FrontAnswer, Waits, Gone, Message, Refused, next, unsent_of, with_unsent}
use Rattle.ei_client.specs.declared.event.Event.{Event}
use Rattle.ei_client.specs.Event.{target_of, opcode_of, values_of}
use Rattle.ei_following.specs.Core.{refused, closed_group}
use Rattle.ei_handler.specs.declared.receipt.Receipt.{Receipt}
use Rattle.ei_event.specs.Typed.{said_of}
use Rattle.ei_event.specs.Kept.{KeptView}
use Rattle.ei_event.specs.Core.{core_of}
use Rattle.ei_event.specs.Handles.{Handles, Times, after}
use Rattle.ei_event.specs.Converter.{ConverterView, Ended, ping_in, callback_in, answered, Receives, without_called}
use Rattle.ei_blocking.specs.Still.{still}
use Rattle.ei_blocking.proofs.AnyMemory.{next_same}
use Rattle.ei_iterator.specs.Turns.{Standing, Turn, Skips, Hears, front_at, behind_front, standing_at, AreTurns}
use Rattle.ei_iterator.specs.Next.{Parse, BadEvent}
use Rattle.ei_iterator.specs.Sending.{SentAll, sent_at}
use Rattle.ei_iterator.specs.Around.{Around, around, standing_of, pong, answers_to, HasRead, HasCalled, StandsAs, Did}
use Rattle.ei_iterator.specs.declared.messages.Read.{Read}
use Rattle.ei_iterator.specs.Steps.{Ran, RanOut, Fails, CutsShort, StandsOrLost, ByOne, Behind, parse_trouble}
use Rattle.ei_iterator.proofs.Fronts.{next_unsent, waits_keeps, answered_still, without_still, answered_unsent}
use Rattle.ei_iterator.proofs.Sending.{some_left, all_some, sent_then, sent_in_part}

-- ---- calls that are refused

receives_none : {H : Type 0} (may : H → ℕ → ℕ → Type 0) (c : Option Ended) (e : Error) (waiting : finite.FinMap nat_cmp H) (old new : List Receipt) → Receives may c (Err e) waiting old new → new ≡ old
receives_none may None e waiting old new h = h
receives_none may (Some c) e waiting old new h = h

none_called : {H : Type 0} (c : Option Ended) (e : Error) (waiting : finite.FinMap nat_cmp H) → without_called c (Err e) waiting ≡ waiting
none_called None e waiting = refl
none_called (Some c) e waiting = refl

-- ---- what is to be sent at one flush

at_flush : (w : Piece) (parts : List (List ℕ)) (x y : SinkView) (mid : BackendView) (u : Piece) (made : List ℕ) → SentAll w parts x y (unsent_of mid) → u ≡ record { bytes = mid.unsent ++ made; handles = mid.unsent_handles } → u ≡ sent_at w parts made
at_flush w [] x y mid u made h e = e ∙ ap (λ (p : Piece). record { bytes = p.bytes ++ made; handles = p.handles }) h.1
at_flush w (l ∷ parts) x y mid u made h e = e ∙ ap (λ (p : Piece). record { bytes = p.bytes ++ made; handles = p.handles }) h.unsent

-- ---- behind some turns

module _ {H : Type 0} (may : H → ℕ → ℕ → Type 0) (most : ℕ) (old : Around H) (turns : List Turn) (now : Around H) (ran : Ran may most old turns now) where
  abbrev s : Standing H
  s = standing_at (standing_of old) turns

  -- the front of the definitions' endpoint is that of the code's
  front_is : (a : FrontAnswer) (mid : BackendView) → next true now.endpoint ≡ (a, mid) → front_at s ≡ a
  front_is a mid e = sym (next_same s.endpoint now.endpoint ran.stands.endpoint).answer ∙ ap (λ (p : FrontAnswer × BackendView). p.0) e

  behind_is : (a : FrontAnswer) (mid : BackendView) → next true now.endpoint ≡ (a, mid) → still mid ≡ still (behind_front s)
  behind_is a mid e = ap (λ (p : FrontAnswer × BackendView). still p.1) (sym e) ∙ (next_same s.endpoint now.endpoint ran.stands.endpoint).stands

  mid_unsent : (a : FrontAnswer) (mid : BackendView) → next true now.endpoint ≡ (a, mid) → unsent_of mid ≡ unsent_of now.endpoint
  mid_unsent a mid e = ap (λ (p : FrontAnswer × BackendView). unsent_of p.1) (sym e) ∙ next_unsent now.endpoint

  mid_sends : (a : FrontAnswer) (mid : BackendView) → next true now.endpoint ≡ (a, mid) → SentAll (unsent_of old.endpoint) (answers_to turns) old.sink now.sink (unsent_of mid)
  mid_sends a mid e = subst (λ (p : Piece). SentAll (unsent_of old.endpoint) (answers_to turns) old.sink now.sink p) (sym (mid_unsent a mid e)) ran.sends

  -- cut short before anything was done
  pub cut_here : CutsShort may most old turns StandsOrLost now
  cut_here = record { are = ran.are; stands = inl ran.stands; did = ran.did; sends = all_some (unsent_of old.endpoint) (answers_to turns) old.sink now.sink (unsent_of now.endpoint) ran.sends }

  -- ---- there is none

  pub ran_out : front_at s ≡ Waits → RanOut may most old turns now
  ran_out w = record { ran = ran; waits = w }

  pub waits_so : (mid : BackendView) → next true now.endpoint ≡ (Waits, mid) → RanOut may most old turns (record now { endpoint = mid })
  waits_so mid e =
      let same : mid ≡ now.endpoint = ap (λ (p : FrontAnswer × BackendView). p.1) (sym e) ∙ waits_keeps now.endpoint (ap (λ (p : FrontAnswer × BackendView). p.0) e) in
      subst (λ (b : BackendView). RanOut may most old turns (record now { endpoint = b })) (sym same) (ran_out (front_is Waits mid e))

  -- ---- it can't be read, or is to no object

  of_parse : (pe : ParseError) (f : Fault) (mid : BackendView) → fault_of pe ≡ Some f → next true now.endpoint ≡ (Refused f, mid) → ByOne may most old (Err (error_of_parse pe)) (record now { endpoint = mid }) turns
  of_parse parse_error.NoMemory f mid is e = absurd cc
  of_parse pe f mid is e = record {
    trouble = Parse f;
    is = ap parse_trouble is;
    began = ran.began;
    are = ran.are;
    left = record s { endpoint = behind_front s };
    so = (front_is (Refused f) mid e, refl);
    stands = record { endpoint = behind_is (Refused f) mid e; kept = ran.stands.kept; waiting = ran.stands.waiting };
    did = record { reads = ran.did.reads; calls = ran.did.calls };
    sends = mid_sends (Refused f) mid e;
  }

  by_fault : (pe : ParseError) (o : Option Fault) (mid : BackendView) → fault_of pe ≡ o → IfSome o (λ f. next true now.endpoint ≡ (Refused f, mid)) → IsSome o → ByOne may most old (Err (error_of_parse pe)) (record now { endpoint = mid }) turns
  by_fault pe None mid is e some = absurd cc
  by_fault pe (Some f) mid is e some = of_parse pe f mid is e

  pub unread_so : (pe : ParseError) (mid : BackendView) → IfSome (fault_of pe) (λ f. next true now.endpoint ≡ (Refused f, mid)) × IsSome (fault_of pe) → Behind turns (ByOne may most old (Err (error_of_parse pe)) (record now { endpoint = mid }))
  unread_so pe mid h = ([], refl, by_fault pe (fault_of pe) mid refl h.0 h.1)

  pub skips : (id : ℕ) (mid : BackendView) → next true now.endpoint ≡ (Gone id, mid) → Ran may most old (Skips ∷ turns) (record now { endpoint = mid })
  skips id mid e = record {
    began = ran.began;
    are = (ran.began, ran.are, (id, front_is (Gone id) mid e));
    stands = record { endpoint = behind_is (Gone id) mid e; kept = ran.stands.kept; waiting = ran.stands.waiting };
    did = record { reads = ran.did.reads; calls = ran.did.calls };
    sends = mid_sends (Gone id) mid e;
  }

  -- ---- an event

  module _ (e : Event) (mid : BackendView) (is : next true now.endpoint ≡ (Message (target_of e) (opcode_of e) (values_of e), mid)) (conv : ConverterView H) (told : Option (List ℕ)) where
    abbrev behind : Standing H
    behind = record s { endpoint = behind_front s }

    abbrev front : FrontAnswer
    front = Message (target_of e) (opcode_of e) (values_of e)

    refusal_is : (reason : Option EventError) → refused (core_of now.converter.kept) (said_of e) ≡ reason → refused (core_of s.kept) (said_of e) ≡ reason
    refusal_is reason r = ap (λ (k : KeptView). refused (core_of k) (said_of e)) (sym ran.stands.kept) ∙ r

    -- the call was refused: no clock was asked, and no handler called
    module _ (why : Error) (unread : told ≡ now.readings) (receipts : Receives may (callback_in e) (Err why) now.converter.waiting now.converter.receipts conv.receipts) (waiting : conv.waiting ≡ without_called (callback_in e) (Err why) now.converter.waiting) where
      did_none : Did may old turns (around mid conv now.sink told)
      did_none = record {
        reads = subst (λ (r : Option (List ℕ)). HasRead (standing_of old) turns old.readings r) (sym unread) ran.did.reads;
        calls = subst (λ (r : List Receipt). HasCalled may (standing_of old) turns old.converter.receipts r) (sym (receives_none may (callback_in e) why now.converter.waiting now.converter.receipts conv.receipts receipts)) ran.did.calls;
      }

      waiting_is : conv.waiting ≡ s.waiting
      waiting_is = waiting ∙ none_called (callback_in e) why now.converter.waiting ∙ ran.stands.waiting

      -- for what it is
      refuses : (reason : EventError) (time : ℕ) → refused (core_of now.converter.kept) (said_of e) ≡ Some reason → conv.kept ≡ after now.converter.kept e time → Fails may most old turns (error.Event reason) (around mid conv now.sink told)
      refuses reason time r kept = record {
        trouble = BadEvent reason;
        is = refl;
        began = ran.began;
        are = ran.are;
        left = record s { endpoint = behind_front s; kept = after s.kept e time };
        so = record { event = e; is = front_is front mid is; refuses = refusal_is (Some reason) r; time = time; left_is = refl };
        stands = record { endpoint = behind_is front mid is; kept = kept ∙ ap (λ (k : KeptView). after k e time) ran.stands.kept; waiting = waiting_is };
        did = did_none;
        sends = mid_sends front mid is;
      }

      -- or for want of memory: the event is lost
      loses : conv.kept ≡ now.converter.kept → CutsShort may most old turns StandsOrLost (around mid conv now.sink told)
      loses kept = record {
        are = ran.are;
        stands = inr (record { endpoint = behind_is front mid is; kept = kept ∙ ran.stands.kept; waiting = waiting_is });
        did = did_none;
        sends = all_some (unsent_of old.endpoint) (answers_to turns) old.sink now.sink (unsent_of mid) (mid_sends front mid is);
      }

    pub event_fails : (why : Error) → Handles now.converter.kept e now.readings told (Err why) conv.kept → told ≡ now.readings → Receives may (callback_in e) (Err why) now.converter.waiting now.converter.receipts conv.receipts →
        conv.waiting ≡ without_called (callback_in e) (Err why) now.converter.waiting → ByOne may most old (Err why) (around mid conv now.sink told) turns
    event_fails (error.Event reason) h unread receipts waiting = refuses (error.Event reason) unread receipts waiting reason h.time h.ends.0 h.ends.1
    event_fails error.NoMemory h unread receipts waiting = loses error.NoMemory unread receipts waiting h.ends.1
    event_fails error.UnexpectedHandshakeEvent h unread receipts waiting = absurd h.ends
    event_fails (error.InvalidInterfaceVersion name version) h unread receipts waiting = absurd h.ends
    event_fails (error.Request reason) h unread receipts waiting = absurd h.ends
    event_fails (error.Parse reason) h unread receipts waiting = absurd h.ends
    event_fails (error.Handshake reason) h unread receipts waiting = absurd h.ends
    event_fails error.UnexpectedEof h unread receipts waiting = absurd h.ends
    event_fails error.ReadFault h unread receipts waiting = absurd h.ends
    event_fails error.WriteFault h unread receipts waiting = absurd h.ends
    event_fails error.HandleLimit h unread receipts waiting = absurd h.ends
    event_fails error.IdsExhausted h unread receipts waiting = absurd h.ends
    event_fails error.MessageTooLong h unread receipts waiting = absurd h.ends
    event_fails error.PieceLimit h unread receipts waiting = absurd h.ends

    -- the call was refused, and what it was lent is as before
    pub event_refused : (result : Result Read Error) (why : Error) (new : BackendView) → result ≡ Err why → new ≡ mid → Handles now.converter.kept e now.readings told (Err why) conv.kept → told ≡ now.readings →
        Receives may (callback_in e) (Err why) now.converter.waiting now.converter.receipts conv.receipts → conv.waiting ≡ without_called (callback_in e) (Err why) now.converter.waiting →
        Behind turns (ByOne may most old result (around new conv now.sink told))
    event_refused result why new is' same h unread receipts waiting =
        subst (λ (r : Result Read Error). Behind turns (ByOne may most old r (around new conv now.sink told))) (sym is')
        (subst (λ (b : BackendView). Behind turns (ByOne may most old (Err why) (around b conv now.sink told))) (sym same) ([], refl, event_fails why h unread receipts waiting))

    -- ---- it is taken

    module _ (h : Handles now.converter.kept e now.readings told (Ok tt) conv.kept) (receipts : Receives may (callback_in e) (Ok tt) now.converter.waiting now.converter.receipts conv.receipts)
        (waiting : conv.waiting ≡ without_called (callback_in e) (Ok tt) now.converter.waiting) (sent new : BackendView) (answers : sent ≡ answered (ping_in e) mid) (kept : new ≡ with_unsent (unsent_of new) sent) where
      abbrev turn : Turn
      turn = Hears e h.time

      taken_are : AreTurns most (standing_of old) (turn ∷ turns)
      taken_are = (ran.began, ran.are, (front_is front mid is, refusal_is None h.ends.0))

      taken_stands : (sink : SinkView) → StandsAs (standing_at (standing_of old) (turn ∷ turns)) (around new conv sink told)
      taken_stands sink = record {
        endpoint = ap still kept ∙ ap still answers ∙ answered_still (ping_in e) mid ∙ without_still (ping_in e) mid (behind_front s) (behind_is front mid is);
        kept = h.ends.1 ∙ ap (λ (k : KeptView). after k e h.time) ran.stands.kept;
        waiting = waiting ∙ ap (λ (w : finite.FinMap nat_cmp H). without_called (callback_in e) (Ok tt) w) ran.stands.waiting;
      }

      taken_did : (sink : SinkView) → Did may old (turn ∷ turns) (around new conv sink told)
      taken_did sink = record {
        reads = (now.readings, ran.did.reads, subst (λ (k : KeptView). Times (closed_group (core_of k) (said_of e)) h.time now.readings told) ran.stands.kept h.clock);
        calls = (now.converter.receipts, ran.did.calls, subst (λ (w : finite.FinMap nat_cmp H). Receives may (callback_in e) (Ok tt) w now.converter.receipts conv.receipts) ran.stands.waiting receipts);
      }

      flush_is : unsent_of sent ≡ sent_at (unsent_of old.endpoint) (answers_to turns) (pong (ping_in e))
      flush_is = at_flush (unsent_of old.endpoint) (answers_to turns) old.sink now.sink mid (unsent_of sent) (pong (ping_in e)) (mid_sends front mid is) (ap unsent_of answers ∙ answered_unsent (ping_in e) mid)

      sends_to : (v : SinkView) → now.sink ≡ v → SentAll (unsent_of old.endpoint) (answers_to turns) old.sink v (unsent_of mid)
      sends_to v at = subst (λ (k : SinkView). SentAll (unsent_of old.endpoint) (answers_to turns) old.sink k (unsent_of mid)) at (mid_sends front mid is)

      -- and answered
      takes : {K : Type 0} {view : K → SinkView} {later : K → K → Type 0} (y z : K) → now.sink ≡ view y → Flushes view later (Ok tt) (unsent_of sent) (unsent_of new) y z → Ran may most old (turn ∷ turns) (around new conv (view z) told)
      takes {view = view} {later = later} y z at f = record {
        began = ran.began;
        are = taken_are;
        stands = taken_stands (view z);
        did = taken_did (view z);
        sends = sent_then (unsent_of old.endpoint) {later = later} (answers_to turns) (pong (ping_in e)) old.sink y z (unsent_of sent) (unsent_of new) flush_is (unsent_of mid) (sends_to (view y) at) f;
      }

      pub event_taken : {K : Type 0} {view : K → SinkView} {later : K → K → Type 0} (y z : K) → now.sink ≡ view y → Flushes view later (Ok tt) (unsent_of sent) (unsent_of new) y z → Behind turns (λ all. Ran may most old all (around new conv (view z) told))
      event_taken y z at f = (turn ∷ [], refl, takes y z at f)

      -- or not
      cut_off : {K : Type 0} {view : K → SinkView} {later : K → K → Type 0} (y z : K) → now.sink ≡ view y → (Stands : Standing H → Around H → Type 0) → Stands (standing_at (standing_of old) (turn ∷ turns)) (around new conv (view z) told) → (fault : FlushError) → Flushes view later (Err fault) (unsent_of sent) (unsent_of new) y z → CutsShort may most old (turn ∷ turns) Stands (around new conv (view z) told)
      cut_off {view = view} {later = later} y z at Stands stands fault f = record {
        are = taken_are;
        stands = stands;
        did = taken_did (view z);
        sends = sent_in_part (unsent_of old.endpoint) {later = later} (answers_to turns) (pong (ping_in e)) old.sink y z (unsent_of sent) (unsent_of new) flush_is fault (unsent_of mid) (sends_to (view y) at) f;
      }

      cuts : {K : Type 0} {view : K → SinkView} {later : K → K → Type 0} (y z : K) → now.sink ≡ view y → (fault : FlushError) → Flushes view later (Err fault) (unsent_of sent) (unsent_of new) y z → Behind turns (ByOne may most old (Err (error_of_flush fault)) (around new conv (view z) told))
      cuts {view = view} y z at flush_error.WriteFault f = (
        turn ∷ [],
        refl,
        record {
          event = tt;
          cut = cut_off y z at StandsAs (taken_stands (view z)) flush_error.WriteFault f;
          unsent = some_left f.stops.0 (unsent_of sent) (unsent_of new) f.stops.1 f.stops.2;
        },
      )
      cuts {view = view} y z at flush_error.NoMemory f = (turn ∷ [], refl, cut_off y z at StandsOrLost (inl (taken_stands (view z))) flush_error.NoMemory f)

      pub event_cut : {K : Type 0} {view : K → SinkView} {later : K → K → Type 0} (y z : K) → now.sink ≡ view y → (result : Result Read Error) (fault : FlushError) → result ≡ Err (error_of_flush fault) → Flushes view later (Err fault) (unsent_of sent) (unsent_of new) y z →
          Behind turns (ByOne may most old result (around new conv (view z) told))
      event_cut {view = view} y z at result fault is' f = subst (λ (r : Result Read Error). Behind turns (ByOne may most old r (around new conv (view z) told))) (sym is') (cuts y z at fault f)
