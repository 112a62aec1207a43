-- A turn: a piece, and the messages that it makes whole.
use Rattle.std.proofs.Common.{◌≡◌, ℕ, ◌+◌, ◌-◌, ◌≤◌, ◌<◌, inl, inr, Bool, true, false, cond, List, [], ◌∷◌, ◌++◌, length, Option, Some, None, Result}
use Rattle.std.proofs.Common.{Ok, Err, refl, ap}
use Rattle.std.proofs.Common.{sym, subst, ◌∙◌, arith}
use Rattle.std.specs.Prelude.{min, nat_le, ◌^◌, IsErrOf}
use Rattle.std.proofs.lemmas.Bool.{leb-true, leb-false}
use Rattle.std.proofs.Math.Nat.{min-eq_left}
use Rattle.std.proofs.lemmas.List.{length-append}
use Rattle.ei_spec.specs.declared.handle.Handle.{Handle}
use Rattle.ei_spec.specs.Message.{Raw}
use Rattle.ei_spec.specs.Piece.{Piece, stream, handle_count}
use Rattle.ei_spec.specs.Stream.{Waiting, Reading, read}
use Rattle.ei_session.specs.Setup.{Setup}
use Rattle.ei_session.specs.Handshake.{connected}
use Rattle.ei_session.specs.Refusals.{Refusal as Cause, judge}
use Rattle.ei_session.specs.Served.{Answer, Disconnect, End, UnexpectedEof, IdsExhausted, Refused, Outcome, answer_at, session, accepted, reading_of}
use Rattle.ei_request.specs.declared.event.EisRequest.{EisRequest}
use Rattle.ei_types.specs.declared.error.Error.{Error}
use Rattle.ei_types.specs.declared.error.Error.TheVariants as error
use Rattle.ei_wire.specs.declared.error.ReadError.{ReadError}
use Rattle.ei_wire.specs.declared.error.ReadError.TheVariants as read_error
use Rattle.ei_serve.specs.declared.phase.Phase.{Phase}
use Rattle.ei_serve.specs.declared.state.Terms.{Terms}
use Rattle.ei_serve.specs.declared.state.SessionState.{SessionState}
use Rattle.ei_serve.specs.declared.session.Turn.{Turn}
use Rattle.ei_serve.specs.declared.session.Turn.TheVariants as turn
use Rattle.ei_serve.specs.Standing.{Stands, StandsAt, terms_of}
use Rattle.ei_serve.specs.Around.{Around, around, no_source}
use Rattle.ei_serve.specs.Steps.{Goes, Breaks, BreaksFull}
use Rattle.ei_backend.specs.Outside.{SourceView, SinkView}
use Rattle.ei_backend.specs.Incoming.{Hands, HasNone}
use Rattle.ei_serve.specs.Taking.{with_next, ReadsPhase, Holds, TakesPiece, piece_came}
use Rattle.ei_serve.specs.Refusing.{refusal_of}
use Rattle.ei_serve.specs.Turning.{HandlesOn, HandlesTo, HandlesToRefusal, HandlesAll, Closes, ClosesRefused, GoesOn, BreaksOff, BreaksOffFull, Turns, IsAtEnd}
use Rattle.ei_serve.specs.Turning.{at_end as ended_by, goes_on as going_on}
use Rattle.ei_serve.proofs.Going.{goes_none, goes_beside, breaks_to}
use Rattle.ei_serve.proofs.Wanted.{wanted_since}
use Rattle.ei_serve.proofs.Histories.{count_more, reading_more, goes_on_more, going, stopped, too_many_pieces, too_many_handles_come, IsStopped, not_waiting}

-- ---- taking a piece

module _ (setup : Setup) (pieces : List Piece) (times : List ℕ) (s : SessionState) (stands : Stands setup pieces times s) (source_old source_new : SourceView) (p : Phase) where
  -- what is unread after the piece
  unread_more : (piece : Piece) → length (stands.unread ++ piece.handles) ≡ handle_count (with_next pieces piece)
  unread_more piece = length-append stands.unread piece.handles ∙ ap (λ (n : ℕ). n + length piece.handles) stands.handles ∙ sym (count_more pieces piece)

  pub holds : (n taken : ℕ) (t : SessionState) → ReadsPhase setup (accepted setup (stream pieces)) times (reading_of setup (stream pieces)).rest stands.unread (Ok n) p source_old source_new → s.taken < s.start.terms.pieces → t.start.terms ≡ s.start.terms → t.phase ≡ p → t.taken ≡ s.taken + 1 →
      (piece : Piece) × Hands source_old piece source_new × Holds setup pieces times piece t
  holds n taken t r less same_setup same_phase same_taken =
      let piece = r.0 in
      let count = unread_more piece in (
        piece,
        r.1,
        record {
          started = ap terms_of same_setup ∙ stands.started;
          room = omega (arith, less, stands.taken, ap (λ (x : Setup). x.pieces) stands.started);
          unread = stands.unread ++ piece.handles;
          phase = rw same_phase r.3;
          handles = count;
          few = omega (arith, count, r.2.limit, length-append stands.unread piece.handles);
          taken = same_taken ∙ ap (λ (k : ℕ). k + 1) stands.taken;
        },
      )

  full : s.start.terms.pieces ≤ s.taken → setup.pieces ≤ length pieces
  full h = omega (arith, h, stands.taken, ap (λ (x : Setup). x.pieces) stands.started)

  pub at_limit : (n : ℕ) → ReadsPhase setup (accepted setup (stream pieces)) times (reading_of setup (stream pieces)).rest stands.unread (Ok n) p source_old source_new → s.start.terms.pieces ≤ s.taken →
      (piece : Piece) × Hands source_old piece source_new × (setup.pieces ≤ length pieces)
  at_limit n r h = (r.0, r.1, full h)

  pub at_limit_too : ReadsPhase setup (accepted setup (stream pieces)) times (reading_of setup (stream pieces)).rest stands.unread (Err read_error.HandleLimit) p source_old source_new → s.start.terms.pieces ≤ s.taken →
      (piece : Piece) × Hands source_old piece source_new × (setup.pieces ≤ length pieces)
  at_limit_too r h = (r.0, r.1, full h)

  pub overflows : ReadsPhase setup (accepted setup (stream pieces)) times (reading_of setup (stream pieces)).rest stands.unread (Err read_error.HandleLimit) p source_old source_new → s.taken < s.start.terms.pieces →
      (piece : Piece) × Hands source_old piece source_new × (length pieces < setup.pieces) × (4096 < handle_count (with_next pieces piece))
  overflows r less = (r.0, r.1, omega (arith, less, stands.taken, ap (λ (x : Setup). x.pieces) stands.started), omega (arith, unread_more r.0, r.2.limit, length-append stands.unread r.0.handles))

  pub ends : (t : SessionState) → ReadsPhase setup (accepted setup (stream pieces)) times (reading_of setup (stream pieces)).rest stands.unread (Err read_error.UnexpectedEof) p source_old source_new → t.start.terms ≡ s.start.terms → t.phase ≡ p → t.taken ≡ s.taken →
      HasNone source_old source_new × Stands setup pieces times t
  ends t r same_setup same_phase same_taken = (
    r.0,
    record {
      started = ap terms_of same_setup ∙ stands.started;
      goes_on = stands.goes_on;
      waits = stands.waits;
      unread = stands.unread;
      phase = rw same_phase r.1;
      handles = stands.handles;
      taken = same_taken ∙ stands.taken;
    },
  )

  -- ---- by what was read

  abbrev Reads : Result ℕ ReadError → Type 0
  Reads read = ReadsPhase setup (accepted setup (stream pieces)) times (reading_of setup (stream pieces)).rest stands.unread read p source_old source_new

  err_takes_by : (full : Bool) (read : Result ℕ ReadError) (e : Error) (t : SessionState) → nat_le s.start.terms.pieces s.taken ≡ full → Reads read → piece_came full read ≡ Err e → TakesPiece setup pieces times s (Err e) t source_old source_new
  err_takes_by true (Ok n) e t f r c = let same : error.PieceLimit ≡ e = cc in rw (← same) (at_limit n r (leb-true _ _ f))
  err_takes_by false (Ok n) e t f r c = absurd cc
  err_takes_by true (Err read_error.HandleLimit) e t f r c = let same : error.PieceLimit ≡ e = cc in rw (← same) (at_limit_too r (leb-true _ _ f))
  err_takes_by false (Err read_error.HandleLimit) e t f r c = let same : error.HandleLimit ≡ e = cc in rw (← same) (overflows r (leb-false _ _ f))
  err_takes_by true (Err read_error.UnexpectedEof) e t f r c = absurd cc
  err_takes_by false (Err read_error.UnexpectedEof) e t f r c = absurd cc
  err_takes_by true (Err read_error.ReadFault) e t f r c = let same : error.ReadFault ≡ e = cc in rw (← same) r
  err_takes_by false (Err read_error.ReadFault) e t f r c = let same : error.ReadFault ≡ e = cc in rw (← same) r
  err_takes_by true (Err read_error.NoMemory) e t f r c = let same : error.NoMemory ≡ e = cc in rw (← same) r
  err_takes_by false (Err read_error.NoMemory) e t f r c = let same : error.NoMemory ≡ e = cc in rw (← same) r

  pub err_takes : (full : Bool) (read : Result ℕ ReadError) (e : Error) (r : Result Bool Error) (t : SessionState) → full ≡ nat_le s.start.terms.pieces s.taken → Reads read → Err e ≡ piece_came full read → r ≡ Err e → TakesPiece setup pieces times s r t source_old source_new
  err_takes full read e r t f h c same = rw same (err_takes_by full read e t (sym f) h (sym c))

  none_takes_by : (full : Bool) (read : Result ℕ ReadError) (t : SessionState) → Reads read → piece_came full read ≡ Ok false → t.start.terms ≡ s.start.terms → t.phase ≡ p → t.taken ≡ s.taken → HasNone source_old source_new × Stands setup pieces times t
  none_takes_by true (Ok n) t r c a b d = absurd cc
  none_takes_by false (Ok n) t r c a b d = let g : true ≡ false = cc in absurd cc
  none_takes_by true (Err read_error.HandleLimit) t r c a b d = absurd cc
  none_takes_by false (Err read_error.HandleLimit) t r c a b d = absurd cc
  none_takes_by true (Err read_error.UnexpectedEof) t r c a b d = ends t r a b d
  none_takes_by false (Err read_error.UnexpectedEof) t r c a b d = ends t r a b d
  none_takes_by true (Err read_error.ReadFault) t r c a b d = absurd cc
  none_takes_by false (Err read_error.ReadFault) t r c a b d = absurd cc
  none_takes_by true (Err read_error.NoMemory) t r c a b d = absurd cc
  none_takes_by false (Err read_error.NoMemory) t r c a b d = absurd cc

  pub none_takes : (full : Bool) (read : Result ℕ ReadError) (came : Bool) (t : SessionState) → Reads read → Ok came ≡ piece_came full read → came ≡ false → t.start.terms ≡ s.start.terms → t.phase ≡ p → t.taken ≡ s.taken → HasNone source_old source_new × Stands setup pieces times t
  none_takes full read came t r c no_piece a b d = none_takes_by full read t r (sym c ∙ ap (λ (x : Bool). Ok x) no_piece) a b d

  some_takes_by : (full : Bool) (read : Result ℕ ReadError) (t : SessionState) → nat_le s.start.terms.pieces s.taken ≡ full → Reads read → piece_came full read ≡ Ok true → t.start.terms ≡ s.start.terms → t.phase ≡ p → t.taken ≡ s.taken + 1 → (piece : Piece) × Hands source_old piece source_new × Holds setup pieces times piece t
  some_takes_by true (Ok n) t f r c a b d = absurd cc
  some_takes_by false (Ok n) t f r c a b d = holds n n t r (leb-false _ _ f) a b d
  some_takes_by true (Err read_error.HandleLimit) t f r c a b d = absurd cc
  some_takes_by false (Err read_error.HandleLimit) t f r c a b d = absurd cc
  some_takes_by true (Err read_error.UnexpectedEof) t f r c a b d = let g : false ≡ true = cc in absurd cc
  some_takes_by false (Err read_error.UnexpectedEof) t f r c a b d = let g : false ≡ true = cc in absurd cc
  some_takes_by true (Err read_error.ReadFault) t f r c a b d = absurd cc
  some_takes_by false (Err read_error.ReadFault) t f r c a b d = absurd cc
  some_takes_by true (Err read_error.NoMemory) t f r c a b d = absurd cc
  some_takes_by false (Err read_error.NoMemory) t f r c a b d = absurd cc

  -- a count that has not come to its last value
  room_left : (full : Bool) (read : Result ℕ ReadError) → nat_le s.start.terms.pieces s.taken ≡ full → piece_came full read ≡ Ok true → s.taken < s.start.terms.pieces
  room_left true (Ok n) f c = absurd cc
  room_left false read f c = leb-false _ _ f
  room_left true (Err read_error.HandleLimit) f c = absurd cc
  room_left true (Err read_error.UnexpectedEof) f c = let g : false ≡ true = cc in absurd cc
  room_left true (Err read_error.ReadFault) f c = absurd cc
  room_left true (Err read_error.NoMemory) f c = absurd cc

  pub some_takes : (full : Bool) (read : Result ℕ ReadError) (came : Bool) (t : SessionState) → full ≡ nat_le s.start.terms.pieces s.taken → s.start.terms.pieces < 2 ^ 64 → Reads read → Ok came ≡ piece_came full read → came ≡ true → t.start.terms ≡ s.start.terms → t.phase ≡ p → t.taken ≡ min (s.taken + 1) (2 ^ 64 - 1) → (piece : Piece) × Hands source_old piece source_new × Holds setup pieces times piece t
  some_takes full read came t f small r c some a b d =
      let g : piece_came full read ≡ Ok true = sym c ∙ ap (λ (x : Bool). Ok x) some in
      let less = room_left full read (sym f) g in
      some_takes_by full read t (sym f) r g a b (d ∙ min-eq_left (omega (arith, less, small)))

-- ---- the answers that come before the piece is looked at

module _ (setup : Setup) (pieces : List Piece) (times : List ℕ) (source_old source_new : SourceView) (out : List EisRequest) (took : SinkView) (readings : Option (List ℕ)) where
  abbrev Turned : Result Turn Error → SessionState → Type 0
  Turned r u = Turns setup pieces times r u (around source_old out took readings) (around source_new out took readings)

  -- nothing was given or answered
  nothing : Goes setup (accepted setup (stream pieces)) (accepted setup (stream pieces)) times [] (around source_old out took readings) (around source_new out took readings)
  nothing = goes_beside setup (accepted setup (stream pieces)) (accepted setup (stream pieces)) times [] (around no_source out took readings) (around no_source out took readings) source_old source_new (goes_none setup (accepted setup (stream pieces)) times (around no_source out took readings))

  refused : (s t u : SessionState) (e : Error) → Stands setup pieces times s → TakesPiece setup pieces times s (Err e) t source_old source_new → Turned (Err e) u
  refused s t u error.PieceLimit stands h =
      let is = too_many_pieces setup pieces h.0 stands.goes_on h.2 in
      record { piece = h.0; used = []; hands = h.1; answer_is = ap (λ (o : Outcome). o.answer) is; goes = rw is nothing }
  refused s t u error.HandleLimit stands h =
      let is = too_many_handles_come setup pieces h.0 stands.goes_on h.2 h.3 in
      record { piece = h.0; used = []; hands = h.1; answer_is = ap (λ (o : Outcome). o.answer) is; goes = rw is nothing }
  refused s t u error.ReadFault stands h = record { keeps = h; out = refl; sink = refl; readings = refl }
  refused s t u error.NoMemory stands h = inl (record { keeps = h; out = refl; sink = refl; readings = refl })
  refused s t u e stands h = absurd h

  pub refused_as : (s t u : SessionState) (e : Error) (r : Result Turn Error) → r ≡ Err e → Stands setup pieces times s → TakesPiece setup pieces times s (Err e) t source_old source_new → Turned r u
  refused_as s t u e r same stands h = rw same (refused s t u e stands h)

  end_of : (t : SessionState) (b : Bool) → Stands setup pieces times t → connected (accepted setup (stream pieces)) ≡ b → HasNone source_old source_new → Turned (ended_by b) t
  end_of t true stands c none =
      let is = going setup pieces stands.goes_on in
      record { none = none; answer_is = ap (λ (o : Outcome). o.answer) is ∙ ap (λ (x : Bool). cond x End UnexpectedEof) c; goes = rw is nothing }
  end_of t false stands c none =
      let is = going setup pieces stands.goes_on in
      record { none = none; answer_is = ap (λ (o : Outcome). o.answer) is ∙ ap (λ (x : Bool). cond x End UnexpectedEof) c; goes = rw is nothing }

  pub found_end : (t : SessionState) (b : Bool) (r : Result Turn Error) → r ≡ ended_by b → b ≡ connected (accepted setup (stream pieces)) → HasNone source_old source_new × Stands setup pieces times t → Turned r t
  found_end t b r same c h = rw same (end_of t b h.1 (sym c) h.0)

-- ---- the piece is looked at

module _ (setup : Setup) (pieces : List Piece) (times : List ℕ) (s t u : SessionState) (piece : Piece) (stands : Stands setup pieces times s) (holds_it : Holds setup pieces times piece t) (source_old source_new : SourceView) (hands : Hands source_old piece source_new) (x y : Around) where
  abbrev before : List Raw
  before = accepted setup (stream pieces)

  abbrev unread : List ℕ
  unread = (reading_of setup (stream pieces)).rest ++ piece.bytes

  -- what stands around it, with what the source has left
  abbrev start : Around
  start = record x { source = source_old }

  abbrev finish : Around
  finish = record y { source = source_new }

  same : reading_of setup (stream (with_next pieces piece)) ≡ read (judge setup) before unread
  same = reading_more setup pieces piece stands.waits

  closes : (answer : Answer) → IsStopped answer → HandlesTo setup before times unread answer x y → Closes setup pieces times answer start finish
  closes answer s h =
      let now = reading_of setup (stream (with_next pieces piece)) in
      let at : answer_at now ≡ answer = ap (λ (r : Reading Cause). answer_at r) same ∙ h.answer_is in
      let is = stopped setup pieces piece stands.goes_on holds_it.room holds_it.few (not_waiting now.stop now.past answer at s) in
      let handled : (session setup (with_next pieces piece)).handled ≡ (read (judge setup) before unread).past = ap (λ (o : Outcome). o.handled) is ∙ ap (λ (r : Reading Cause). r.past) same in
      let goes = goes_beside setup before (read (judge setup) before unread).past times h.used x y source_old source_new h.goes in
      record { piece = piece; used = h.used; hands = hands; answer_is = ap (λ (o : Outcome). o.answer) is ∙ at; goes = rw handled goes }

  closes_refused : (refusal : Option Cause) → HandlesToRefusal setup before times unread refusal x y → ClosesRefused setup pieces times refusal start finish
  closes_refused None h = absurd h
  closes_refused (Some refusal) h = closes (Refused refusal) tt h

  goes_on_with : u.start.terms ≡ t.start.terms → u.taken ≡ t.taken → HandlesOn setup before times unread holds_it.unread u.phase x y → GoesOn setup pieces times u start finish
  goes_on_with same_setup same_taken h =
      let waits : (reading_of setup (stream (with_next pieces piece))).stop ≡ Waiting = ap (λ (r : Reading Cause). r.stop) same ∙ h.stands.waits in
      let made : Stands setup (with_next pieces piece) (times ++ h.used) u = record {
        started = ap terms_of same_setup ∙ holds_it.started;
        goes_on = goes_on_more setup pieces piece stands.goes_on holds_it.room holds_it.few waits;
        waits = waits;
        unread = holds_it.unread;
        phase = subst (λ (r : Reading Cause). StandsAt setup r.past (times ++ h.used) r.rest holds_it.unread u.phase) (sym same) h.stands.phase;
        handles = holds_it.handles;
        taken = same_taken ∙ holds_it.taken ∙ sym (length-append pieces (piece ∷ []));
      } in
      let goes = goes_beside setup before (read (judge setup) before unread).past times h.used x y source_old source_new h.goes in
      record { piece = piece; used = h.used; hands = hands; stands = made; goes = subst (λ (r : Reading Cause). Goes setup before r.past times h.used start finish) (sym same) goes }

  breaks : Breaks setup before times unread x y → BreaksOff setup pieces times start finish
  breaks g = record {
    piece = piece;
    hands = hands;
    room = holds_it.room;
    few = holds_it.few;
    goes = breaks_to setup before (read (judge setup) before unread).past (reading_of setup (stream (with_next pieces piece))).past times x y source_old source_new (ap (λ (r : Reading Cause). r.past) same) g;
  }

  breaks_full : BreaksFull setup before times unread x y → BreaksOffFull setup pieces times start finish
  unfolding breaks breaks_to
  breaks_full g = record {
    breaks = breaks g.breaks;
    wanted = wanted_since (reading_of setup (stream (with_next pieces piece))) (read (judge setup) before unread) g.breaks.reached x.sink x.sink y.sink same (omega arith) g.wanted;
  }

  pub handled : (r : Result Turn Error) → u.start.terms ≡ t.start.terms → u.taken ≡ t.taken → HandlesAll setup before times unread holds_it.unread r u.phase x y → Turns setup pieces times r u start finish
  handled (Ok turn.GoOn) same_setup same_taken h = goes_on_with same_setup same_taken h
  handled (Ok turn.Disconnect) same_setup same_taken h = closes Disconnect tt h
  handled (Ok turn.End) same_setup same_taken h = absurd h
  handled (Err error.WriteFault) same_setup same_taken h = breaks h
  handled (Err error.NoMemory) same_setup same_taken h = inr (breaks_full h)
  handled (Err error.IdsExhausted) same_setup same_taken h = closes IdsExhausted tt h
  handled (Err error.ReadFault) same_setup same_taken h = absurd h
  handled (Err error.UnexpectedEof) same_setup same_taken h = absurd h
  handled (Err error.PieceLimit) same_setup same_taken h = absurd h
  handled (Err error.HandleLimit) same_setup same_taken h = absurd h
  handled (Err e) same_setup same_taken h = closes_refused (refusal_of e) h

-- ---- the source's end

-- what the messages give is no end
pub no_end_handled : (setup : Setup) (past : List Raw) (times rest : List ℕ) (handles : List Handle) (r : Result Turn Error) (p : Phase) (x y : Around) (P : Type 0) → HandlesAll setup past times rest handles r p x y → IsAtEnd r → P
no_end_handled setup past times rest handles (Ok turn.GoOn) p x y P h at = absurd at
no_end_handled setup past times rest handles (Ok turn.Disconnect) p x y P h at = absurd at
no_end_handled setup past times rest handles (Ok turn.End) p x y P h at = absurd h
no_end_handled setup past times rest handles (Err error.UnexpectedEof) p x y P h at = absurd h
no_end_handled setup past times rest handles (Err e) p x y P h at = absurd at

pub with_setup : (setup : Setup) (started : Terms) (past : List Raw) (times rest : List ℕ) (handles : List Handle) (r : Result Turn Error) (p : Phase) (x y : Around) → terms_of started ≡ setup → HandlesAll (terms_of started) past times rest handles r p x y → HandlesAll setup past times rest handles r p x y
with_setup setup started past times rest handles r p x y e h = subst (λ (s : Setup). HandlesAll s past times rest handles r p x y) e h

none_by : (full : Bool) (read : Result ℕ ReadError) → piece_came full read ≡ Ok false → IsErrOf read read_error.UnexpectedEof
none_by true (Ok n) c = absurd cc
none_by false (Ok n) c = let g : true ≡ false = cc in absurd cc
none_by true (Err read_error.HandleLimit) c = absurd cc
none_by false (Err read_error.HandleLimit) c = absurd cc
none_by true (Err read_error.UnexpectedEof) c = refl
none_by false (Err read_error.UnexpectedEof) c = refl
none_by true (Err read_error.ReadFault) c = absurd cc
none_by false (Err read_error.ReadFault) c = absurd cc
none_by true (Err read_error.NoMemory) c = absurd cc
none_by false (Err read_error.NoMemory) c = absurd cc

-- no piece came at the end alone
pub none_is_end : (full : Bool) (read : Result ℕ ReadError) (came : Bool) → Ok came ≡ piece_came full read → came ≡ false → IsErrOf read read_error.UnexpectedEof
none_is_end full read came c no_piece = none_by full read (sym c ∙ ap (λ (x : Bool). Ok x) no_piece)

-- an answer that ends the session says nothing of what it is then
pub over_now : (setup : Setup) (pieces : List Piece) (times : List ℕ) (r : Result Turn Error) (t u : SessionState) (x y : Around) → going_on r ≡ false → Turns setup pieces times r t x y → Turns setup pieces times r u x y
over_now setup pieces times (Ok turn.GoOn) t u x y e h = let g : true ≡ false = e in absurd cc
over_now setup pieces times (Ok turn.Disconnect) t u x y e h = h
over_now setup pieces times (Ok turn.End) t u x y e h = h
over_now setup pieces times (Err error.UnexpectedEof) t u x y e h = h
over_now setup pieces times (Err error.PieceLimit) t u x y e h = h
over_now setup pieces times (Err error.HandleLimit) t u x y e h = h
over_now setup pieces times (Err error.IdsExhausted) t u x y e h = h
over_now setup pieces times (Err error.ReadFault) t u x y e h = h
over_now setup pieces times (Err error.WriteFault) t u x y e h = h
over_now setup pieces times (Err error.NoMemory) t u x y e h = h
over_now setup pieces times (Err e) t u x y f h = h
