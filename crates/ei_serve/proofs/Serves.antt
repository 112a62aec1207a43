-- A whole session, turn by turn.
use Rattle.std.proofs.Common.{◌≡◌, ℕ, zero, suc, ◌+◌, ◌-◌, ◌≤◌, ◌<◌, inl, inr, Bool, true, false, cond, List, [], ◌∷◌, ◌++◌, length, take, drop}
use Rattle.std.proofs.Common.{get_or, Option, Some, None}
use Rattle.std.proofs.Common.{Result, Ok, Err, refl, ap, sym, subst, ◌∙◌, append_assoc, arith}
use Rattle.std.specs.Prelude.{map, OnOk, IfErr, IsErrOf, IsSome}
use Rattle.std.specs.Option.{option_map}
use Rattle.std.proofs.lemmas.Bool.{cases_lt, lt-ltb}
use Rattle.std.proofs.lemmas.List.{append-nil, length-append, take_all, take-append-drop}
use Rattle.std.proofs.lemmas.Grind.{flat_map-append}
use Rattle.std.proofs.Math.Seq.{take-append-add}
use Rattle.ei_spec.specs.Message.{Raw, bytes_of, all_bytes}
use Rattle.ei_spec.specs.Piece.{Piece, stream, handle_count}
use Rattle.ei_spec.specs.Stream.{Stop, Reading, Waiting, Ended, HeaderLength, Refusal}
use Rattle.ei_spec.specs.History.{each, joined, total}
use Rattle.ei_spec.specs.Groups.{Item, Input, Frame, Other, Free, Given, Plain, Slot, group, with_frame, gives, grouped, frames_made}
use Rattle.ei_session.specs.Setup.{Setup}
use Rattle.ei_session.specs.Handshake.{connected, version}
use Rattle.ei_session.specs.Refusals.{Refusal as Cause, Parse}
use Rattle.ei_session.specs.Requests.{Request, slot, framed}
use Rattle.ei_session.specs.Replies.{greeting}
use Rattle.ei_session.specs.Events.{replies}
use Rattle.ei_session.specs.Served.{Answer, Disconnect, End, UnexpectedEof, IdsExhausted, PieceLimit, HandleLimit, Refused, Outcome, answer_at}
use Rattle.ei_session.specs.Served.{at_end, is_waiting, is_over, read_first, IsGood}
use Rattle.ei_session.specs.Served.{session, is_over, reading_of, accepted, IsValid}
use Rattle.ei_session.specs.Complete.{AreComplete}
use Rattle.ei_session.proofs.AllParts.{replies_prefix}
use Rattle.ei_session.proofs.Completing.{complete_ends}
use Rattle.ei_backend.specs.Outside.{SourceView, SinkView, with_more}
use Rattle.ei_backend.specs.Incoming.{Hands, HasNone}
use Rattle.ei_request.specs.declared.event.EisRequest.{EisRequest}
use Rattle.ei_standing.specs.Standing.{request_in_code}
use Rattle.ei_types.specs.declared.error.Error.{Error}
use Rattle.ei_types.specs.declared.error.Error.TheVariants as error
use Rattle.ei_wire.specs.declared.error.ParseError.{ParseError}
use Rattle.ei_wire.specs.declared.error.ParseError.TheVariants as parse_error
use Rattle.ei_wire.specs.Gives.{fault_of}
use Rattle.ei_serve.specs.declared.session.Turn.{Turn}
use Rattle.ei_serve.specs.declared.session.Ended.{Ended as HowEnded}
use Rattle.ei_serve.specs.declared.session.Ended.TheVariants as ended
use Rattle.ei_serve.specs.declared.state.SessionState.{SessionState}
use Rattle.ei_serve.specs.Around.{Around, around, first_readings, AreDrawn, LeavesReadings}
use Rattle.ei_serve.specs.Causes.{Greeted, GreetedInPart, RefusesToStart}
use Rattle.ei_serve.specs.Steps.{GivesOut, Replies, RepliesInPart, Goes}
use Rattle.ei_serve.specs.Taking.{with_next}
use Rattle.ei_serve.specs.Refusing.{refusal_of, IsRefused}
use Rattle.ei_serve.specs.Turning.{Closes, ClosesRefused, Finds, Stays, BreaksOff, BreaksOffFull, Turns, IsAtEnd}
use Rattle.ei_serve.specs.Serving.{AnswersAs, IsOfRequest, IsOfSession, IsSourceEnd, HandsOut, LeftReadings, Replied, RepliedInPart}
use Rattle.ei_backend.specs.Pieces.{TookPieces}
use Rattle.ei_types.specs.Decided.{IsDecided, IsCutShort}
use Rattle.ei_serve.specs.Serving.{RepliedAtLeast, ReadValid, TookToTheEnd, TookToPiece, TookAllOf, CutShort, CutFull}
use Rattle.ei_serve.specs.Whole.{Serves}
use Rattle.ei_serve.proofs.NeverRefused.{FineAnswer, session_fine}
use Rattle.ei_serve.proofs.Puts.{puts_greeting, puts_on}
use Rattle.ei_serve.proofs.Going.{drop_none, more_more, gives_none, gives_then, drawn_then, leaves_then}
use Rattle.ei_serve.proofs.Histories.{GoesOn as GoingOn, IsEarly, IsStopped, end_is_no_stop, goes_on_more, going, stopped, too_many_pieces}
use Rattle.ei_serve.proofs.Histories.{too_many_handles_come, session_front}
use Rattle.ei_serve.proofs.Histories.{over_early, front_same, accepted_front, handled_front, handled_next}
use Rattle.ei_serve.proofs.Running.{Running, Took, took_more, nothing_read, replied_then}
use Rattle.ei_serve.proofs.Wanted.{wanted_since}

-- ---- readings

-- the same readings at each place
abbrev Alike : List ℕ → List ℕ → Type 0
Alike a b = (k : ℕ) → get_or a k 0 ≡ get_or b k 0

module _ {X Y : Type 0} (a b : List ℕ) (same : Alike a b) where
  gives_alike_at : (before : List (Slot X Y)) (item : Option (Item X Y)) (serial : ℕ) → gives a before (record { item = item; serial = serial }) ≡ gives b before (record { item = item; serial = serial })
  unfolding gives
  gives_alike_at before None serial = refl
  gives_alike_at before (Some (Input d x)) serial = refl
  gives_alike_at before (Some (Frame d s t)) serial = refl
  gives_alike_at before (Some (Other d y)) serial = ap (λ (t : ℕ). with_frame (group d before) d serial t ++ (Plain y ∷ [])) (same (frames_made before))
  gives_alike_at before (Some (Free y)) serial = refl

  grouped_alike : (slots : List (Slot X Y)) → grouped a slots ≡ grouped b slots
  unfolding grouped joined
  grouped_alike [] = refl
  grouped_alike (s ∷ before) =
      ap (λ (x : List (Given ℕ X Y)). x ++ gives a before s) (grouped_alike before)
      ∙ ap (λ (x : List (Given ℕ X Y)). grouped b before ++ x) (gives_alike_at before s.item s.serial)

framed_alike : (setup : Setup) (a b : List ℕ) (messages : List Raw) → Alike a b → framed setup a messages ≡ framed setup b messages
unfolding framed
framed_alike setup a b messages same = grouped_alike a b same (each (slot setup) messages)

none_at : (k : ℕ) → get_or {A = ℕ} [] k 0 ≡ 0
none_at zero = refl
none_at (suc k) = refl

-- readings that were told, the first n of them apart
told_apart : (n : ℕ) (told : List ℕ) → Alike (first_readings n told ++ drop n told) told
told_apart zero told k = refl
told_apart (suc n) [] zero = refl
told_apart (suc n) [] (suc k) = ap (λ (l : List ℕ). get_or (first_readings n [] ++ l) k 0) (sym (drop_none n)) ∙ told_apart n [] k ∙ none_at k
told_apart (suc n) (t ∷ told) zero = refl
told_apart (suc n) (t ∷ told) (suc k) = told_apart n told k

-- ---- requests

pub framed_none : (setup : Setup) (readings : List ℕ) → framed setup readings [] ≡ []
unfolding framed each grouped joined
framed_none setup readings = refl

all_framed : (setup : Setup) (messages : List Raw) (used later : List ℕ) (old new : List EisRequest) (g : GivesOut setup [] messages [] used old new) → framed setup (used ++ later) messages ≡ g.more
all_framed setup messages used later old new g = g.framed_is later ∙ ap (λ (x : List Request). x ++ g.more) (framed_none setup (used ++ later))

pub grown_so : (setup : Setup) (messages : List Raw) (used readings : List ℕ) (old new : List EisRequest) (g : GivesOut setup [] messages [] used old new) → framed setup readings messages ≡ g.more → new ≡ old ++ map (request_in_code messages) (framed setup readings messages)
grown_so setup messages used readings old new g e =
    g.grown (version messages) (λ on interface. refl) ∙ ap (λ (x : List Request). old ++ map (request_in_code messages) x) (sym e)

-- all requests since the start
pub hands_out : (setup : Setup) (messages : List Raw) (used : List ℕ) (told : Option (List ℕ)) (old new : List EisRequest) → GivesOut setup [] messages [] used old new → AreDrawn used told → HandsOut setup messages told old new
hands_out setup messages used None old new g d = record {
  readings = used ++ [];
  told_so = tt;
  grown = grown_so setup messages used (used ++ []) old new g (all_framed setup messages used [] old new g);
}
hands_out setup messages used (Some told) old new g d = record {
  readings = told;
  told_so = refl;
  grown = grown_so setup messages used told old new g
      (sym (ap (λ (u : List ℕ). framed setup (u ++ drop (length used) told) messages) (d told refl) ∙ framed_alike setup (first_readings (length used) told ++ drop (length used) told) told messages (told_apart (length used) told))
      ∙ all_framed setup messages used (drop (length used) told) old new g);
}

pub no_frames : (setup : Setup) → frames_made (each (slot setup) []) ≡ 0
unfolding frames_made each total
no_frames setup = refl

-- all readings since the start
left_readings : (setup : Setup) (messages : List Raw) (used : List ℕ) (old new : Option (List ℕ)) → length used + frames_made (each (slot setup) []) ≡ frames_made (each (slot setup) messages) → LeavesReadings used old new → LeftReadings setup messages old new
left_readings setup messages used old new frames l told is =
    let count : length used ≡ frames_made (each (slot setup) messages) = omega (arith, frames, no_frames setup) in
    l told is ∙ ap (λ (n : ℕ). Some (drop n told)) count

-- ---- replies

greeting_alone : (setup : Setup) → replies setup [] ≡ greeting ∷ []
unfolding replies joined
greeting_alone setup = refl

greeting_bytes : (setup : Setup) → all_bytes (replies setup []) ≡ bytes_of greeting
greeting_bytes setup = ap all_bytes (greeting_alone setup) ∙ append-nil (bytes_of greeting)

pub greeted : (setup : Setup) (old new : SinkView) → Greeted old new → Replied setup [] old new
greeted setup old new h = record {
  told = λ held told. h.told held told ∙ ap (λ (x : List ℕ). Some (with_more x [] held)) (sym (greeting_bytes setup));
  puts = puts_greeting setup [] old.puts new.puts h.puts;
  wants = h.wants;
}

pub greeted_in_part : (setup : Setup) (old new : SinkView) → GreetedInPart old new → RepliedInPart setup [] old new
greeted_in_part setup old new h = record {
  told = λ held told.
      let g = h.told held told in
      (g.0, g.2 ∙ ap (λ (x : List ℕ). Some (with_more (take g.0 x) [] held)) (sym (greeting_bytes setup)));
  puts = puts_greeting setup [] old.puts new.puts h.puts;
}

-- ---- before the first piece

none_taken : (told : List Piece) (left : Option (List Piece)) → left ≡ Some told → TookPieces told left 0
none_taken told left e = record { within = omega arith; left_is = e }

-- no reading of no pieces stops
none_over : (setup : Setup) (told : List Piece) → is_waiting (read_first setup told 0).stop ≡ false → ⊥
unfolding read_first
none_over setup told e = absurd (let z : true ≡ false = sym (ap (λ (r : Reading Cause). is_waiting r.stop) (nothing_read setup)) ∙ e in cc)

none_handled : (setup : Setup) (told : List Piece) (left : Option (List Piece)) (readings : Option (List ℕ)) (out : List EisRequest) (old new : SinkView) → left ≡ Some told → RepliedInPart setup [] old new → CutShort setup told left readings readings out out old new
none_handled setup told left readings out old new e r = record {
  k = 0;
  took = none_taken told left e;
  reached = [];
  ahead = ((session setup told).handled, sym (append-nil (session setup told).handled));
  owed = λ lt. absurd (omega (arith, lt));
  requests = hands_out setup [] [] readings out out (gives_none setup [] [] [] out (λ given. refl)) (λ given is. refl);
  replies = r;
  readings_left = record { n = 0; least = omega (arith, no_frames setup); most = omega arith; left = λ told is. is };
  replied = λ lt. absurd (omega (arith, lt));
}

-- nothing was taken, and so nothing that is refused
none_full : (setup : Setup) (told : List Piece) (left : Option (List Piece)) (readings : Option (List ℕ)) (out : List EisRequest) (old new : SinkView) → left ≡ Some told → RepliedInPart setup [] old new → CutFull setup told left readings readings out out old new
unfolding none_handled
none_full setup told left readings out old new e r = record { cut = none_handled setup told left readings out old new e r; wanted = λ over. absurd (none_over setup told over) }

-- ---- the stop

is_waiting_so : (stop : Stop Cause) → is_waiting stop ≡ true → stop ≡ Waiting
is_waiting_so Waiting e = refl
is_waiting_so Ended e = absurd cc
is_waiting_so (HeaderLength n) e = absurd cc
is_waiting_so (Refusal c) e = absurd cc

-- where the end was answered the connection stood
end_connected : (past : List Raw) (b : Bool) → connected past ≡ b → (at_end past).answer ≡ End → connected past ≡ true
end_connected past true c e = c
end_connected past false c e = let g : UnexpectedEof ≡ End = sym (ap (λ (x : Bool). cond x End UnexpectedEof) c) ∙ e in absurd cc

stops_at : (setup : Setup) (pieces : List Piece) (piece : Piece) (b : Bool) → GoingOn setup pieces → length pieces < setup.pieces → handle_count (with_next pieces piece) ≤ 4096 → is_waiting (reading_of setup (stream (with_next pieces piece))).stop ≡ b → (session setup (with_next pieces piece)).answer ≡ Disconnect →
    (answer_at (reading_of setup (stream (with_next pieces piece))) ≡ Disconnect) × ((session setup (with_next pieces piece)).handled ≡ accepted setup (stream (with_next pieces piece)))
stops_at setup pieces piece true on room few w e =
    let more = going setup (with_next pieces piece) (goes_on_more setup pieces piece on room few (is_waiting_so _ w)) in
    let late : (at_end (accepted setup (stream (with_next pieces piece)))).answer ≡ Disconnect = sym (ap (λ (o : Outcome). o.answer) more) ∙ e in
    absurd (end_is_no_stop (connected (accepted setup (stream (with_next pieces piece)))) (subst IsStopped (sym late) tt))
stops_at setup pieces piece false on room few w e =
    let is = stopped setup pieces piece on room few w in
    (sym (ap (λ (o : Outcome). o.answer) is) ∙ e, ap (λ (o : Outcome). o.handled) is)

-- where the answer is a disconnect, the stream of all pieces stopped at it, and all its messages were handled
stopped_at : (setup : Setup) (pieces : List Piece) (piece : Piece) → GoingOn setup pieces → (session setup (with_next pieces piece)).answer ≡ Disconnect →
    (answer_at (reading_of setup (stream (with_next pieces piece))) ≡ Disconnect) × ((session setup (with_next pieces piece)).handled ≡ accepted setup (stream (with_next pieces piece)))
stopped_at setup pieces piece on e = elim (cases_lt (length pieces) setup.pieces) [
  | inl room ↦ elim (cases_lt 4096 (handle_count (with_next pieces piece))) [
    | inl many ↦ let g : HandleLimit ≡ Disconnect = sym (ap (λ (o : Outcome). o.answer) (too_many_handles_come setup pieces piece on room many)) ∙ e in absurd cc
    | inr few ↦ stops_at setup pieces piece (is_waiting (reading_of setup (stream (with_next pieces piece))).stop) on room few refl e
  ]
  | inr full ↦ let g : PieceLimit ≡ Disconnect = sym (ap (λ (o : Outcome). o.answer) (too_many_pieces setup pieces piece on full)) ∙ e in absurd cc
]

valid_ended : (setup : Setup) (bytes : List ℕ) → answer_at (reading_of setup bytes) ≡ Disconnect → IsValid setup bytes
valid_ended setup bytes e = subst (λ (a : Answer). IsGood a) (sym e) tt

valid_waiting : (setup : Setup) (bytes : List ℕ) → (reading_of setup bytes).stop ≡ Waiting → connected (accepted setup bytes) ≡ true → IsValid setup bytes
valid_waiting setup bytes e c = rw (e, c) tt

-- ---- the replies, in part

joined_bytes : (a b : List Raw) → all_bytes (a ++ b) ≡ all_bytes a ++ all_bytes b
joined_bytes a b = flat_map-append bytes_of a b

-- the replies to all messages reached begin with those before
replied_then_part : (setup : Setup) (before reached : List Raw) (x y z : SinkView) → ((done : List Raw) × (reached ≡ done ++ before)) → Replied setup before x y → RepliesInPart setup before reached y z → RepliedInPart setup reached x z
replied_then_part setup before reached x y z behind r h = record {
  told = λ held told.
      let q = h.told (with_more (all_bytes (replies setup before)) [] held) (r.told held told) in
      let k = length (all_bytes (replies setup before)) + q.1 in
      let bytes : all_bytes (replies setup before) ++ take q.1 (all_bytes q.0) ≡ take k (all_bytes (replies setup reached)) =
      sym (take-append-add (all_bytes (replies setup before)) (all_bytes q.0) q.1) ∙ ap (take k) (sym (joined_bytes (replies setup before) q.0) ∙ ap all_bytes (sym q.2)) in
      (k, q.3 ∙ ap (λ (t : Piece). Some t) (more_more (all_bytes (replies setup before)) (take q.1 (all_bytes q.0)) held) ∙ ap (λ (t : List ℕ). Some (with_more t [] held)) bytes);
  puts = puts_on setup before reached x.puts y.puts z.puts behind r.puts h.puts;
}

at_least : (setup : Setup) (before reached : List Raw) (x y z : SinkView) → Replied setup before x y → RepliesInPart setup before reached y z → RepliedAtLeast setup before x z
at_least setup before reached x y z r h held told =
    let q = h.told (with_more (all_bytes (replies setup before)) [] held) (r.told held told) in
    (take q.1 (all_bytes q.0), q.3 ∙ ap (λ (t : Piece). Some t) (more_more (all_bytes (replies setup before)) (take q.1 (all_bytes q.0)) held))

-- all of them
all_in_part : (setup : Setup) (messages : List Raw) (x y : SinkView) → Replied setup messages x y → RepliedInPart setup messages x y
all_in_part setup messages x y r = record {
  told = λ held told.
      let bytes = all_bytes (replies setup messages) in
      (length bytes, r.told held told ∙ ap (λ (t : List ℕ). Some (with_more t [] held)) (sym (take_all (length bytes) bytes (omega arith))));
  puts = r.puts;
}

at_least_front : (setup : Setup) (before messages : List Raw) (x y : SinkView) (more : List Raw) → messages ≡ more ++ before → Replied setup messages x y → RepliedAtLeast setup before x y
at_least_front setup before messages x y more e r held told =
    let p = replies_prefix setup more before in
    let bytes : all_bytes (replies setup messages) ≡ all_bytes (replies setup before) ++ all_bytes p.0 =
    ap (λ (m : List Raw). all_bytes (replies setup m)) e ∙ ap all_bytes p.1 ∙ joined_bytes (replies setup before) p.0 in
    (all_bytes p.0, r.told held told ∙ ap (λ (t : List ℕ). Some (with_more t [] held)) bytes)

-- ---- all that is said of a session over pieces that were told

no_fault : (r : Result HowEnded Error) → IsDecided r → IsErrOf r error.ReadFault → ⊥
no_fault (Err error.ReadFault) d e = d
no_fault (Err error.WriteFault) d e = d
no_fault (Err error.NoMemory) d e = d
no_fault r d e = absurd cc

not_full : (r : Result HowEnded Error) → IsDecided r → IsErrOf r error.NoMemory → ⊥
not_full r d e = subst (λ (q : Result HowEnded Error). IsDecided q) e d

not_cut : (r : Result HowEnded Error) → IsDecided r → IsCutShort r → ⊥
not_cut (Err error.ReadFault) d c = d
not_cut (Err error.WriteFault) d c = d
not_cut (Err error.NoMemory) d c = d
not_cut r d c = c

-- not of the source's end
abbrev IsNoEnd : Result HowEnded Error → Type 0
IsNoEnd (Ok ended.End) = ⊥
IsNoEnd (Err error.UnexpectedEof) = ⊥
IsNoEnd r = Unit {0}

took_to_piece : (setup : Setup) (told : List Piece) (left : Option (List Piece)) (r : Result HowEnded Error) → IsNoEnd r → TookToPiece setup told left → TookAllOf setup told left r
took_to_piece setup told left (Ok ended.End) n t = absurd n
took_to_piece setup told left (Err error.UnexpectedEof) n t = absurd n
took_to_piece setup told left r n t = t

took_to_end : (setup : Setup) (told : List Piece) (left : Option (List Piece)) (r : Result HowEnded Error) → IsSourceEnd r → TookToTheEnd setup told left → TookAllOf setup told left r
took_to_end setup told left (Ok ended.End) n t = t
took_to_end setup told left (Err error.UnexpectedEof) n t = t
took_to_end setup told left r n t = absurd n

took_of : (told : List Piece) (left : Option (List Piece)) (n : ℕ) (pieces : List Piece) → Took told left n pieces → TookPieces told left n
took_of told left n pieces t = record { within = t.within; left_is = t.left_is }

cut_so : (setup : Setup) (told : List Piece) (left : Option (List Piece)) (x z : Around) (e : Error) (k : ℕ) → IsCutShort {T = HowEnded} (Err e) → k ≤ setup.pieces + 1 → TookPieces told left k → CutShort setup told left x.readings z.readings x.out z.out x.sink z.sink → (e ≡ error.NoMemory → CutFull setup told left x.readings z.readings x.out z.out x.sink z.sink) → Serves setup told left (Err e) x z
cut_so setup told left x z error.WriteFault k is most took h full = record { answer = tt; requests = λ d. absurd d; replies = λ d. absurd d; readings = λ d. absurd d; valid = tt; taken = λ d. absurd d; pieces = (k, most, took); handled = λ e. absurd cc; cut_short = λ _. h; full = λ e. absurd cc }
cut_so setup told left x z error.NoMemory k is most took h full = record { answer = tt; requests = λ d. absurd d; replies = λ d. absurd d; readings = λ d. absurd d; valid = tt; taken = λ d. absurd d; pieces = (k, most, took); handled = λ e. absurd cc; cut_short = λ _. h; full = λ _. full refl }
cut_so setup told left x z e k is most took h full = absurd is

start_cut : (e : Error) → RefusesToStart e → IsCutShort {T = HowEnded} (Err e)
start_cut error.WriteFault h = tt
start_cut error.NoMemory h = tt
start_cut e h = absurd h

pub no_start_read : (e : Error) → RefusesToStart e → e ≡ error.ReadFault → ⊥
no_start_read e h same = subst RefusesToStart same h

-- a session that didn't start
pub not_started : (setup : Setup) (told : List Piece) (source : SourceView) (left : Option (List Piece)) (out : List EisRequest) (old new : SinkView) (readings : Option (List ℕ)) (e : Error) (r : Result HowEnded Error) → r ≡ Err e → RefusesToStart e → left ≡ Some told → RepliedInPart setup [] old new →
    Serves setup told left r (around source out old readings) (around source out new readings)
not_started setup told source left out old new readings e r same h is replied =
    subst (λ (q : Result HowEnded Error). Serves setup told left q (around source out old readings) (around source out new readings)) (sym same)
    (cut_so setup told left (around source out old readings) (around source out new readings) e 0 (start_cut e h) (omega arith) (none_taken told left is) (none_handled setup told left readings out old new is replied) (λ _. none_full setup told left readings out old new is replied))

module _ (setup : Setup) (n : ℕ) (s : SessionState) (x y z : Around) (run : Running setup n s x y) (few : n ≤ setup.pieces) (told : List Piece) (left_is : x.source.left ≡ Some told) where
  took_now : Took told y.source.left n run.pieces
  took_now = run.took told left_is

  abbrev past : List Raw
  past = accepted setup (stream run.pieces)

  -- what the session gave and replied, and the readings that it took, up to these messages
  gives_to : (messages : List Raw) (used : List ℕ) → ((done : List Raw) × (messages ≡ done ++ past)) → GivesOut setup past messages run.times used y.out z.out → AreDrawn used y.readings → HandsOut setup messages x.readings x.out z.out
  gives_to messages used behind g d =
      hands_out setup messages (run.times ++ used) x.readings x.out z.out (gives_then setup [] past messages [] run.times used x.out y.out z.out behind run.gives g)
      (drawn_then run.times used x.readings y.readings run.drawn run.leaves d)

  replies_to : (messages : List Raw) → ((done : List Raw) × (messages ≡ done ++ past)) → Replies setup past messages y.sink z.sink → Replied setup messages x.sink z.sink
  replies_to messages behind r = replied_then setup past messages x.sink y.sink z.sink behind run.replied r

  leaves_to : (messages : List Raw) (used : List ℕ) → Goes setup past messages run.times used y z → LeftReadings setup messages x.readings z.readings
  leaves_to messages used g =
      left_readings setup messages (run.times ++ used) x.readings z.readings (omega (arith, run.frames, g.frames, length-append run.times used)) (leaves_then run.times used x.readings y.readings z.readings run.leaves g.leaves)

  decided : (r : Result HowEnded Error) (k : ℕ) (used : List ℕ) → IsDecided r → k ≤ setup.pieces + 1 → AnswersAs (session setup told).answer r → TookPieces told z.source.left k → TookAllOf setup told z.source.left r →
      Goes setup past (session setup told).handled run.times used y z → OnOk r (ReadValid setup told z.source.left (session setup told).handled) → Serves setup told z.source.left r x z
  decided r k used d most answers took all g valid = record {
    answer = answers;
    requests = λ _. gives_to (session setup told).handled used g.behind g.gives g.drawn;
    replies = λ _. replies_to (session setup told).handled g.behind g.replies;
    readings = λ _. leaves_to (session setup told).handled used g;
    valid = valid;
    taken = λ _. all;
    pieces = (k, most, took);
    handled = λ e. absurd (no_fault r d e);
    cut_short = λ e. absurd (not_cut r d e);
    full = λ e. absurd (not_full r d e);
  }

  goes_on_told : (j : ℕ) → 1 ≤ j → j ≤ n → is_over setup told j ≡ false
  goes_on_told j low high = sym (front_same setup told n j high) ∙ ap (λ (p : List Piece). is_over setup p j) took_now.are ∙ run.stands.goes_on j low (omega (arith, high, run.count))

  -- ---- the last piece came

  took_next : (piece : Piece) → Hands y.source piece z.source → Took told z.source.left (n + 1) (with_next run.pieces piece)
  took_next piece hands = took_more told y.source z.source n run.pieces piece took_now hands

  session_is : (piece : Piece) → Hands y.source piece z.source → IsEarly (session setup (with_next run.pieces piece)).answer → session setup told ≡ session setup (with_next run.pieces piece)
  session_is piece hands early =
      let are = (took_next piece hands).are in
      session_front setup told (n + 1) (subst (λ (p : List Piece). IsEarly (session setup p).answer) (sym are) early) ∙ ap (session setup) are

  -- the session is over with it
  took_last : (piece : Piece) → Hands y.source piece z.source → IsEarly (session setup (with_next run.pieces piece)).answer → TookToPiece setup told z.source.left
  took_last piece hands early =
      let took = took_next piece hands in
      record {
        k = n + 1;
        took = took_of told z.source.left (n + 1) (with_next run.pieces piece) took;
        some = omega arith;
        goes_on = λ j low lt. goes_on_told j low (omega (arith, lt));
        over = sym (front_same setup told (n + 1) (n + 1) (omega arith)) ∙ ap (λ (p : List Piece). is_over setup p (n + 1)) took.are ∙ ap (λ (k : ℕ). is_over setup (with_next run.pieces piece) (k + 1)) (sym run.count)
            ∙ over_early setup run.pieces piece run.stands.goes_on early;
      }

  closed : (r : Result HowEnded Error) (answer : Answer) → IsDecided r → IsNoEnd r → IsEarly answer → AnswersAs answer r → (h : Closes setup run.pieces run.times answer y z) →
      OnOk r (ReadValid setup told z.source.left (session setup (with_next run.pieces h.piece)).handled) → Serves setup told z.source.left r x z
  closed r answer d no_end early answers h valid =
      let soon = subst (λ (t : Answer). IsEarly t) (sym h.answer_is) early in
      let is = session_is h.piece h.hands soon in
      let took = took_next h.piece h.hands in
      decided r (n + 1) h.used d (omega (arith, few))
      (subst (λ (t : Answer). AnswersAs t r) (sym (ap (λ (o : Outcome). o.answer) is ∙ h.answer_is)) answers)
      (took_of told z.source.left (n + 1) (with_next run.pieces h.piece) took)
      (took_to_piece setup told z.source.left r no_end (took_last h.piece h.hands soon))
      (subst (λ (o : Outcome). Goes setup past o.handled run.times h.used y z) (sym is) h.goes)
      (subst (λ (o : Outcome). OnOk r (ReadValid setup told z.source.left o.handled)) (sym is) valid)

  pub disconnects : Closes setup run.pieces run.times Disconnect y z → Serves setup told z.source.left (Ok ended.Disconnect) x z
  disconnects h =
      let took = took_next h.piece h.hands in
      let stop = stopped_at setup run.pieces h.piece run.stands.goes_on h.answer_is in
      closed (Ok ended.Disconnect) Disconnect tt tt tt refl h (record {
        k = n + 1;
        took = took_of told z.source.left (n + 1) (with_next run.pieces h.piece) took;
        valid = subst (λ (p : List Piece). IsValid setup (stream p)) (sym took.are) (valid_ended setup (stream (with_next run.pieces h.piece)) stop.0);
        messages_are = ap (λ (p : List Piece). accepted setup (stream p)) took.are ∙ sym stop.1;
      })

  -- ---- the source ended

  all_taken : HasNone y.source z.source → (drop n told ≡ []) × (z.source.left ≡ Some [])
  all_taken none = none.told (drop n told) took_now.left_is

  pieces_are : HasNone y.source z.source → run.pieces ≡ told
  pieces_are none = sym took_now.are ∙ sym (append-nil (take n told)) ∙ ap (λ (p : List Piece). take n told ++ p) (sym (all_taken none).0) ∙ take-append-drop n told

  took_end : HasNone y.source z.source → TookPieces told z.source.left n
  took_end none = record { within = took_now.within; left_is = (all_taken none).1 ∙ ap (λ (p : List Piece). Some p) (sym (all_taken none).0) }

  -- every piece that was told was taken
  took_every : HasNone y.source z.source → TookToTheEnd setup told z.source.left
  took_every none =
      let count : length told ≡ n = omega (arith, took_now.within, ap (λ (p : List Piece). length p) (pieces_are none), run.count) in
      record {
        took = subst (λ (k : ℕ). TookPieces told z.source.left k) (sym count) (took_end none);
        goes_on = λ j low high. goes_on_told j low (omega (arith, high, count));
      }

  found : (r : Result HowEnded Error) (answer : Answer) → IsDecided r → IsSourceEnd r → AnswersAs answer r → (h : Finds setup run.pieces run.times answer y z) →
      OnOk r (ReadValid setup told z.source.left (session setup run.pieces).handled) → Serves setup told z.source.left r x z
  found r answer d at answers h valid =
      let is = pieces_are h.none in
      decided r n [] d (omega (arith, few))
      (subst (λ (p : List Piece). AnswersAs (session setup p).answer r) is (subst (λ (t : Answer). AnswersAs t r) (sym h.answer_is) answers))
      (took_end h.none)
      (took_to_end setup told z.source.left r at (took_every h.none))
      (subst (λ (p : List Piece). Goes setup past (session setup p).handled run.times [] y z) is h.goes)
      (subst (λ (p : List Piece). OnOk r (ReadValid setup told z.source.left (session setup p).handled)) is valid)

  pub ends : Finds setup run.pieces run.times End y z → Serves setup told z.source.left (Ok ended.End) x z
  ends h =
      let at = going setup run.pieces run.stands.goes_on in
      found (Ok ended.End) End tt tt refl h (record {
        k = n;
        took = took_end h.none;
        valid = subst (λ (p : List Piece). IsValid setup (stream p)) (sym took_now.are) (valid_waiting setup (stream run.pieces) run.stands.waits (end_connected past _ refl (sym (ap (λ (o : Outcome). o.answer) at) ∙ h.answer_is)));
        messages_are = ap (λ (p : List Piece). accepted setup (stream p)) took_now.are ∙ sym (ap (λ (o : Outcome). o.handled) at);
      })

  -- ---- faults, and want of memory

  goes_on_front : GoingOn setup (take n told)
  goes_on_front = subst (λ (p : List Piece). GoingOn setup p) (sym took_now.are) run.stands.goes_on

  stays_took : Stays y z → TookPieces told z.source.left n
  stays_took h = record { within = took_now.within; left_is = h.keeps.told (drop n told) took_now.left_is }

  -- the requests and the replies are as they were
  hands_here : Stays y z → HandsOut setup past x.readings x.out z.out
  hands_here h = subst (λ (o : List EisRequest). HandsOut setup past x.readings x.out o) (sym h.out) (hands_out setup past run.times x.readings x.out y.out run.gives run.drawn)

  replied_here : Stays y z → Replied setup past x.sink z.sink
  replied_here h = subst (λ (t : SinkView). Replied setup past x.sink t) (sym h.sink) run.replied

  -- so are the readings
  left_here : Stays y z → LeftReadings setup past x.readings z.readings
  left_here h = subst (λ (t : Option (List ℕ)). LeftReadings setup past x.readings t) (sym h.readings) (left_readings setup past run.times x.readings y.readings run.frames run.leaves)

  accepted_is : accepted setup (stream (take n told)) ≡ past
  accepted_is = ap (λ (p : List Piece). accepted setup (stream p)) took_now.are

  pub read_fault : Stays y z → Serves setup told z.source.left (Err error.ReadFault) x z
  read_fault h = record {
    answer = tt;
    requests = λ d. absurd d;
    replies = λ d. absurd d;
    readings = λ d. absurd d;
    valid = tt;
    taken = λ d. absurd d;
    pieces = (n, omega (arith, few), stays_took h);
    handled = λ e. record {
      k = n;
      took = stays_took h;
      goes_on = goes_on_told;
      requests = subst (λ (m : List Raw). HandsOut setup m x.readings x.out z.out) (sym accepted_is) (hands_here h);
      replies = subst (λ (m : List Raw). Replied setup m x.sink z.sink) (sym accepted_is) (replied_here h);
      readings_left = subst (λ (m : List Raw). LeftReadings setup m x.readings z.readings) (sym accepted_is) (left_here h);
    };
    cut_short = λ e. absurd e;
    full = λ e. absurd cc;
  }

  abbrev Broken : Type 0
  Broken = CutShort setup told z.source.left x.readings z.readings x.out z.out x.sink z.sink

  abbrev BrokenFull : Type 0
  BrokenFull = CutFull setup told z.source.left x.readings z.readings x.out z.out x.sink z.sink

  broken : BreaksOff setup run.pieces run.times y z → Broken
  broken h =
      let took = took_next h.piece h.hands in
      let next = handled_next setup told n (omega (arith, took.within)) goes_on_front (omega (arith, h.room, run.count)) (subst (λ (p : List Piece). handle_count p ≤ 4096) (sym took.are) h.few) in
      let last : accepted setup (stream (take (n + 1) told)) ≡ accepted setup (stream (with_next run.pieces h.piece)) = ap (λ (p : List Piece). accepted setup (stream p)) took.are in
      let less : n + 1 - 1 ≡ n = omega arith in
      let before : accepted setup (stream (take (n + 1 - 1) told)) ≡ past = ap (λ (k : ℕ). accepted setup (stream (take k told))) less ∙ accepted_is in
      record {
        k = n + 1;
        took = took_of told z.source.left (n + 1) (with_next run.pieces h.piece) took;
        reached = h.goes.reached;
        ahead = (next.0 ++ h.goes.ahead.0, next.1 ∙ ap (λ (m : List Raw). next.0 ++ m) (last ∙ h.goes.ahead.1) ∙ sym (append_assoc next.0 h.goes.ahead.0 h.goes.reached));
        owed = λ _. (h.goes.behind.0, h.goes.behind.1 ∙ ap (λ (m : List Raw). h.goes.behind.0 ++ m) (sym before));
        requests = gives_to h.goes.reached h.goes.used h.goes.behind h.goes.gives h.goes.drawn;
        replies = replied_then_part setup past h.goes.reached x.sink y.sink z.sink h.goes.behind run.replied h.goes.replies;
        readings_left = record {
          n = length (run.times ++ h.goes.used);
          least = omega (arith, h.goes.least, run.frames, no_frames setup, length-append run.times h.goes.used);
          most = omega (arith, h.goes.most, run.frames, no_frames setup, length-append run.times h.goes.used);
          left = leaves_then run.times h.goes.used x.readings y.readings z.readings run.leaves h.goes.leaves;
        };
        replied = λ _. subst (λ (m : List Raw). RepliedAtLeast setup m x.sink z.sink) (sym before) (at_least setup past h.goes.reached x.sink y.sink z.sink run.replied h.goes.replies);
      }

  broken_full : BreaksOffFull setup run.pieces run.times y z → BrokenFull
  unfolding broken read_first
  broken_full h = record {
    cut = broken h.breaks;
    wanted = λ over.
        wanted_since (read_first setup told (n + 1)) (reading_of setup (stream (with_next run.pieces h.breaks.piece))) h.breaks.goes.reached x.sink y.sink z.sink
        (ap (λ (p : List Piece). reading_of setup (stream p)) (took_next h.breaks.piece h.breaks.hands).are) run.replied.wants h.wanted;
  }

  cut_by : (e : Error) → IsCutShort {T = HowEnded} (Err e) → (h : BreaksOff setup run.pieces run.times y z) → (e ≡ error.NoMemory → BrokenFull) → Serves setup told z.source.left (Err e) x z
  cut_by e is h full =
      cut_so setup told z.source.left x z e (n + 1) is (omega (arith, few)) (took_of told z.source.left (n + 1) (with_next run.pieces h.piece) (took_next h.piece h.hands)) (broken h) full

  stayed : Stays y z → Broken
  stayed h =
      let front = handled_front setup told n took_now.within goes_on_front in
      let owed = accepted_front setup told (n - 1) n (omega arith) in
      let behind : past ≡ owed.0 ++ accepted setup (stream (take (n - 1) told)) = sym accepted_is ∙ owed.1 in
      record {
        k = n;
        took = stays_took h;
        reached = past;
        ahead = (front.0, front.1 ∙ ap (λ (m : List Raw). front.0 ++ m) accepted_is);
        owed = λ _. (owed.0, behind);
        requests = hands_here h;
        replies = all_in_part setup past x.sink z.sink (replied_here h);
        readings_left = record {
          n = frames_made (each (slot setup) past);
          least = omega arith;
          most = omega arith;
          left = left_here h;
        };
        replied = λ _. at_least_front setup (accepted setup (stream (take (n - 1) told))) past x.sink z.sink owed.0 behind (replied_here h);
      }

  -- a session that goes on waits
  waiting_now : is_waiting (read_first setup told n).stop ≡ true
  unfolding read_first
  waiting_now = ap (λ (p : List Piece). is_waiting (reading_of setup (stream p)).stop) took_now.are ∙ ap is_waiting run.stands.waits

  stayed_full : Stays y z → BrokenFull
  unfolding stayed
  stayed_full h = record { cut = stayed h; wanted = λ over. absurd (let b : true ≡ false = sym waiting_now ∙ over in cc) }

  stays_short : Stays y z → Serves setup told z.source.left (Err error.NoMemory) x z
  stays_short h = cut_so setup told z.source.left x z error.NoMemory n tt (omega (arith, few)) (stays_took h) (stayed h) (λ _. stayed_full h)

  -- ---- by the error

  refused : (e : Error) (refusal : Option Cause) → IsDecided {T = HowEnded} (Err e) → IsNoEnd (Err e) → ((a : Answer) → IsRefused refusal a → AnswersAs a (Err e)) → ClosesRefused setup run.pieces run.times refusal y z → Serves setup told z.source.left (Err e) x z
  refused e None d no_end answers h = absurd h
  refused e (Some r) d no_end answers h = closed (Err e) (Refused r) d no_end tt (answers (Refused r) refl) h tt

  pub fails : (e : Error) (t : SessionState) → Turns setup run.pieces run.times (Err e) t y z → Serves setup told z.source.left (Err e) x z
  fails error.UnexpectedEof t h = found (Err error.UnexpectedEof) UnexpectedEof tt tt refl h tt
  fails error.PieceLimit t h = closed (Err error.PieceLimit) PieceLimit tt tt tt refl h tt
  fails error.HandleLimit t h = closed (Err error.HandleLimit) HandleLimit tt tt tt refl h tt
  fails error.IdsExhausted t h = closed (Err error.IdsExhausted) IdsExhausted tt tt tt refl h tt
  fails error.ReadFault t h = read_fault h
  fails error.WriteFault t h = cut_by error.WriteFault tt h (λ e. absurd cc)
  fails error.NoMemory t (inl h) = stays_short h
  fails error.NoMemory t (inr h) = cut_by error.NoMemory tt h.breaks (λ _. broken_full h)
  fails e t h = refused e (refusal_of e) tt tt (λ a r. r) h

  pub failed : (t : SessionState) (e : Error) (r : Result HowEnded Error) → r ≡ Err e → Turns setup run.pieces run.times (Err e) t y z → Serves setup told z.source.left r x z
  failed t e r same h = subst (λ (q : Result HowEnded Error). Serves setup told z.source.left q x z) (sym same) (fails e t h)

-- ---- a good end that is sure

-- an error that is a good end is none of the pieces
no_good : (a : Answer) (e : Error) (refusal : Option Cause) → IsGood a → IsRefused refusal a → ⊥
no_good a e None g h = h
no_good a e (Some r) g h = subst IsGood h g

sure_by : (a : Answer) (e : Error) → IsGood a → AnswersAs a (Err e) → (e ≡ error.ReadFault → ⊥) → (e ≡ error.WriteFault → ⊥) → e ≡ error.NoMemory
sure_by a error.NoMemory g h r w = refl
sure_by a error.ReadFault g h r w = absurd (r refl)
sure_by a error.WriteFault g h r w = absurd (w refl)
sure_by a error.UnexpectedEof g h r w = absurd (subst IsGood h g)
sure_by a error.PieceLimit g h r w = absurd (subst IsGood h g)
sure_by a error.HandleLimit g h r w = absurd (subst IsGood h g)
sure_by a error.IdsExhausted g h r w = absurd (subst IsGood h g)
sure_by a e g h r w = absurd (no_good a e (refusal_of e) g h)

-- over complete pieces, and an outside without faults, an error is want of memory
pub sure : (setup : Setup) (told : List Piece) (left : Option (List Piece)) (e : Error) (r : Result HowEnded Error) (x z : Around) → r ≡ Err e → AreComplete setup told → Serves setup told left r x z → (e ≡ error.ReadFault → ⊥) → (e ≡ error.WriteFault → ⊥) → IfErr r (λ q. q ≡ error.NoMemory)
sure setup told left e r x z same c serves rf wf =
    subst (λ (q : Result HowEnded Error). IfErr q (λ q. q ≡ error.NoMemory)) (sym same)
    (sure_by (session setup told).answer e (complete_ends setup told c).good (subst (λ (q : Result HowEnded Error). AnswersAs (session setup told).answer q) same serves.answer) rf wf)

-- the same of any result
pub sure_of : (setup : Setup) (told : List Piece) (left : Option (List Piece)) (r : Result HowEnded Error) (x z : Around) → AreComplete setup told → Serves setup told left r x z → (IsErrOf r error.ReadFault → ⊥) → (IsErrOf r error.WriteFault → ⊥) → IfErr r (λ q. q ≡ error.NoMemory)
sure_of setup told left (Ok how) x z c serves rf wf = tt
sure_of setup told left (Err e) x z c serves rf wf = sure setup told left e (Err e) x z refl c serves (λ q. rf (ap (λ (f : Error). Err f) q)) (λ q. wf (ap (λ (f : Error). Err f) q))

-- an error of the source's end is that of the turn
no_end_by : (e : Error) → IsSourceEnd (Err e) → IsAtEnd (Err e)
no_end_by error.UnexpectedEof h = tt
no_end_by e h = absurd h

pub no_end : (e : Error) (r : Result HowEnded Error) → r ≡ Err e → IsSourceEnd r → IsAtEnd (Err e)
no_end e r same h = no_end_by e (subst (λ (q : Result HowEnded Error). IsSourceEnd q) same h)

-- a session that isn't started doesn't come to the source's end
pub no_start_end : {P : Type 0} (e : Error) → RefusesToStart e → IsAtEnd (Err e) → P
no_start_end error.UnexpectedEof h at_end = absurd h
no_start_end e h at_end = absurd at_end

pub over_limit : (setup : Setup) (pieces : List Piece) (k : ℕ) → setup.pieces < k → is_over setup pieces k ≡ true
unfolding is_over
over_limit setup pieces k lt = rw (lt-ltb setup.pieces k lt) refl

-- no session goes on after more turns than pieces may be taken
pub too_many_turns : (setup : Setup) (n : ℕ) (s : SessionState) (x y : Around) → Running setup n s x y → setup.pieces < n → ⊥
too_many_turns setup n s x y r lt =
    let g : true ≡ false = sym (over_limit setup r.pieces n lt) ∙ r.stands.goes_on n (omega (arith, lt)) (omega (arith, r.count)) in
    absurd cc

start_only : (e : Error) → RefusesToStart e → IsOfSession e
start_only error.WriteFault h = tt
start_only error.NoMemory h = tt
start_only e h = absurd h

pub start_is_of_session : (e : Error) (r : Result HowEnded Error) → r ≡ Err e → RefusesToStart e → IfErr r IsOfSession
start_is_of_session e r same h = rw same (start_only e h)

-- what can't be read in a message is of a request
closed_parse : (setup : Setup) (pieces : List Piece) (times : List ℕ) (e : ParseError) (x y : Around) → ClosesRefused setup pieces times (option_map Parse (fault_of e)) x y → IsOfRequest e
closed_parse setup pieces times parse_error.NoMemory x y h = absurd h
closed_parse setup pieces times parse_error.NoFd x y h = subst FineAnswer h.answer_is (session_fine setup (with_next pieces h.piece))
closed_parse setup pieces times (parse_error.InvalidInterface name) x y h = subst FineAnswer h.answer_is (session_fine setup (with_next pieces h.piece))
closed_parse setup pieces times e x y h = tt

closed_so : (setup : Setup) (pieces : List Piece) (times : List ℕ) (refusal : Option Cause) (x y : Around) → ClosesRefused setup pieces times refusal x y → IsSome refusal
closed_so setup pieces times None x y h = absurd h
closed_so setup pieces times (Some r) x y h = refl

turn_only : (setup : Setup) (pieces : List Piece) (times : List ℕ) (e : Error) (t : SessionState) (x y : Around) → Turns setup pieces times (Err e) t x y → IsOfSession e
turn_only setup pieces times error.UnexpectedEof t x y h = tt
turn_only setup pieces times error.PieceLimit t x y h = tt
turn_only setup pieces times error.HandleLimit t x y h = tt
turn_only setup pieces times error.IdsExhausted t x y h = tt
turn_only setup pieces times error.ReadFault t x y h = tt
turn_only setup pieces times error.WriteFault t x y h = tt
turn_only setup pieces times error.NoMemory t x y h = tt
turn_only setup pieces times (error.Parse e) t x y h = closed_parse setup pieces times e x y h
turn_only setup pieces times e t x y h = closed_so setup pieces times (refusal_of e) x y h

pub turn_is_of_session : (setup : Setup) (pieces : List Piece) (times : List ℕ) (e : Error) (r : Result HowEnded Error) (t : SessionState) (x y : Around) → r ≡ Err e → Turns setup pieces times (Err e) t x y → IfErr r IsOfSession
turn_is_of_session setup pieces times e r t x y same h = rw same (turn_only setup pieces times e t x y h)

pub turned_only : (setup : Setup) (pieces : List Piece) (times : List ℕ) (r : Result Turn Error) (t : SessionState) (x y : Around) → Turns setup pieces times r t x y → IfErr r IsOfSession
turned_only setup pieces times (Ok turned) t x y h = tt
turned_only setup pieces times (Err e) t x y h = turn_only setup pieces times e t x y h
