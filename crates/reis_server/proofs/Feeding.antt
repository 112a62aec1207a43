-- What a server stands for after one more piece, and at the end.
use Rattle.std.proofs.Common.{◌≡◌, ℕ, ◌+◌, ◌-◌, ◌≤◌, ◌<◌, inl, inr, List, [], ◌∷◌, ◌++◌, length, take, drop, Option, Some, None}
use Rattle.std.proofs.Common.{Result, Ok, Err, refl, ap, sym, subst, ◌∙◌, append_assoc, arith}
use Rattle.std.specs.Prelude.{map, replicate}
use Rattle.std.proofs.lemmas.List.{append-nil, map-append, length-append, length-replicate, length_push, take_all, take_at}
use Rattle.std.proofs.lemmas.Grind.{flat_map-append}
use Rattle.std.proofs.Math.Seq.{take-append-add}
use Rattle.ei_spec.specs.declared.handle.Handle.{Handle}
use Rattle.ei_spec.specs.Message.{Raw, bytes_of, all_bytes}
use Rattle.ei_spec.specs.Piece.{Piece, stream, handle_count}
use Rattle.ei_spec.specs.History.{each}
use Rattle.ei_spec.specs.Groups.{frames_made}
use Rattle.ei_spec.proofs.HistoryLaws.{joined_more}
use Rattle.ei_session.specs.Setup.{Setup}
use Rattle.ei_session.specs.Handshake.{version}
use Rattle.ei_session.specs.Requests.{slot, framed}
use Rattle.ei_session.specs.Events.{replies}
use Rattle.ei_session.specs.Refusals.{Refusal as Cause}
use Rattle.ei_session.specs.Served.{Answer, Outcome, Disconnect, End, UnexpectedEof, IdsExhausted, PieceLimit, HandleLimit, Refused, session, is_over}
use Rattle.ei_session.specs.Served.{is_waiting, reading_of, accepted}
use Rattle.ei_session.proofs.AllParts.{framed_readings, replies_prefix}
use Rattle.ei_backend.specs.Outside.{SourceView, SinkView, with_more}
use Rattle.ei_backend.specs.declared.outside.LastAnswer.{LastAnswer}
use Rattle.reis_server.specs.Lent.{lent_view, replies_view}
use Rattle.ei_backend.specs.Incoming.{Hands}
use Rattle.ei_request.specs.declared.event.EisRequest.{EisRequest}
use Rattle.ei_standing.specs.Standing.{handed_as, request_in_code}
use Rattle.ei_types.specs.declared.error.Error.{Error}
use Rattle.ei_types.specs.declared.error.Error.TheVariants as error
use Rattle.ei_serve.specs.declared.session.Session.{Session}
use Rattle.ei_serve.specs.declared.session.Turn.{Turn}
use Rattle.ei_serve.specs.declared.session.Turn.TheVariants as turn
use Rattle.ei_serve.specs.declared.session.Ended.{Ended}
use Rattle.ei_serve.specs.declared.session.Ended.TheVariants as ended
use Rattle.ei_serve.specs.Around.{Around, around, AreDrawn}
use Rattle.ei_serve.specs.Standing.{Stands}
use Rattle.ei_serve.specs.Steps.{GivesOut, Replies, RepliesInPart, Goes, GoesInPart}
use Rattle.ei_serve.specs.Taking.{with_next}
use Rattle.ei_serve.specs.Refusing.{refusal_of, IsRefused}
use Rattle.ei_serve.specs.Turning.{Closes, ClosesRefused, Finds, Stays, BreaksOff, Turns}
use Rattle.ei_serve.specs.Serving.{AnswersAs}
use Rattle.ei_types.specs.Decided.{IsDecided}
use Rattle.ei_serve.specs.Causes.{NoFault}
use Rattle.ei_serve.proofs.Going.{versions_behind, gives_none, in_part_none}
use Rattle.ei_serve.proofs.Histories.{GoesOn as GoingOn, going, front_same, accepted_front}
use Rattle.ei_serve.specs.EndedBy.{ended_by}
use Rattle.reis_server.specs.Fed.{Fed, pieces_of, handled, frames, readings_with, readings_of}
use Rattle.reis_server.specs.View.{ServerView}
use Rattle.reis_server.specs.Serving.{requests_of, bytes_alone, GaveAll, GoesOn, HasEnded, RanOut, IsServing, IsInputEnd, IsNoInputEnd}
use Rattle.reis_server.proofs.Copies.{first_copies, framed_copies}
use Rattle.ei_serve.proofs.EarlyRequests.{handed_alike}
use Rattle.reis_server.proofs.FewMessages.{FewHandled, handled_few, over_or_on, FewFrames, few_frames}

-- ---- bytes

piece_is : (a b : List ℕ) (h k : List Handle) → a ≡ b → h ≡ k → ◌≡◌ {A = Piece} (record { bytes = a; handles = h }) (record { bytes = b; handles = k })
piece_is a b h k e f = rw (e, f) refl

-- what is taken, with what waits behind it
abbrev behind_taken : Piece → Piece → Piece
behind_taken sent unsent = with_more unsent.bytes unsent.handles sent

more_behind : (sent unsent : Piece) (bytes : List ℕ) → behind_taken sent (with_more bytes [] unsent) ≡ with_more bytes [] (behind_taken sent unsent)
more_behind sent unsent bytes = piece_is _ _ _ _ (sym (append_assoc sent.bytes unsent.bytes bytes)) (sym (append_assoc sent.handles unsent.handles []))

joined_bytes : (a b : List Raw) → all_bytes (a ++ b) ≡ all_bytes a ++ all_bytes b
joined_bytes a b = flat_map-append bytes_of a b

-- more bytes wait behind these
waits_more : (sent unsent new : Piece) (bytes more : List ℕ) → behind_taken sent unsent ≡ bytes_alone bytes → Some new ≡ Some (with_more more [] unsent) → behind_taken sent new ≡ bytes_alone (bytes ++ more)
waits_more sent unsent new bytes more e told =
    let same : new ≡ with_more more [] unsent = cc in
    ap (behind_taken sent) same ∙ more_behind sent unsent more ∙ ap (with_more more []) e

-- ---- what was fed

handled_of : (setup : Setup) (fed : List Fed) → handled setup fed ≡ (session setup (pieces_of fed)).handled
unfolding handled
handled_of setup fed = refl

-- where the session goes on it handled the messages of all pieces
pub handled_is : (setup : Setup) (fed : List Fed) → GoingOn setup (pieces_of fed) → handled setup fed ≡ accepted setup (stream (pieces_of fed))
handled_is setup fed on = handled_of setup fed ∙ ap (λ (o : Outcome). o.handled) (going setup (pieces_of fed) on)

frames_are : (setup : Setup) (messages : List Raw) → frames setup messages ≡ frames_made (each (slot setup) messages)
unfolding frames
frames_are setup messages = refl

readings_more : (setup : Setup) (fed : List Fed) (f : Fed) → readings_of setup (f ∷ fed) ≡ readings_of setup fed ++ readings_with setup fed f
unfolding readings_of
readings_more setup fed f = joined_more (readings_with setup) fed f

-- ---- the messages before the last piece

going_before : (setup : Setup) (pieces : List Piece) (piece : Piece) → GoingOn setup (with_next pieces piece) → GoingOn setup pieces
going_before setup pieces piece on k low high =
    let front : take (length pieces) (with_next pieces piece) ≡ pieces = take_at pieces (piece ∷ []) (length pieces) refl in
    sym (ap (λ (x : List Piece). is_over setup x k) front) ∙ front_same setup (with_next pieces piece) (length pieces) k high ∙ on k low (omega (arith, high, length_push pieces piece))

accepted_before : (setup : Setup) (pieces : List Piece) (piece : Piece) → (done : List Raw) × (accepted setup (stream (with_next pieces piece)) ≡ done ++ accepted setup (stream pieces))
accepted_before setup pieces piece =
    let n = length pieces in
    let h = accepted_front setup (with_next pieces piece) n (n + 1) (omega arith) in
    let whole : take (n + 1) (with_next pieces piece) ≡ with_next pieces piece = take_all (n + 1) (with_next pieces piece) (omega (arith, length_push pieces piece)) in
    let front : take n (with_next pieces piece) ≡ pieces = take_at pieces (piece ∷ []) n refl in
    (h.0, sym (ap (λ (x : List Piece). accepted setup (stream x)) whole) ∙ h.1 ∙ ap (λ (x : List Piece). h.0 ++ accepted setup (stream x)) front)

owed_before : (setup : Setup) (fed : List Fed) → GoingOn setup (pieces_of fed) → (done : List Raw) × (handled setup fed ≡ done ++ handled setup (drop 1 fed))
owed_before setup [] on = ([], refl)
owed_before setup (f ∷ fed) on =
    let h = accepted_before setup (pieces_of fed) f.piece in
    (h.0, handled_is setup (f ∷ fed) on ∙ h.1 ∙ ap (λ (m : List Raw). h.0 ++ m) (sym (handled_is setup fed (going_before setup (pieces_of fed) f.piece on))))

-- ---- a turn

-- a server that goes on, before a turn that reads the clock at this time; the turn handles the messages up to the last
module _ (setup : Setup) (fed : List Fed) (sent : Piece) (given ready coming : List EisRequest) (s : Session) (unsent : Piece)
    (on : GoesOn setup fed sent given (record { session = s; unsent = unsent; requests = ready ++ coming; answer = None })) (k time : ℕ) where
  abbrev before : List Raw
  before = accepted setup (stream (pieces_of fed))

  abbrev times : List ℕ
  times = readings_of setup fed

  before_is : handled setup fed ≡ before
  before_is = handled_is setup fed on.stands.goes_on

  made_before : frames setup (handled setup fed) ≡ frames_made (each (slot setup) before)
  made_before = ap (frames setup) before_is ∙ frames_are setup before

  long : length times ≡ frames_made (each (slot setup) before)
  long = on.gave.readings ∙ made_before

  old_replies : behind_taken sent unsent ≡ bytes_alone (all_bytes (replies setup before))
  old_replies = on.gave.replies ∙ ap (λ (m : List Raw). bytes_alone (all_bytes (replies setup m))) before_is

  module _ (last : List Raw) (count : ℕ) (counted : frames_made (each (slot setup) last) ≡ length times + count) (few : count ≤ k) where
    abbrev all_times : List ℕ
    all_times = times ++ replicate count time

    -- the requests of the messages reached, on the way to the last
    requests_to : (reached : List Raw) (used : List ℕ) (new : List EisRequest) → ((done : List Raw) × (reached ≡ done ++ before)) → ((more : List Raw) × (last ≡ more ++ reached)) →
        GivesOut setup before reached times used coming new → AreDrawn used (Some (replicate k time)) → given ++ (ready ++ new) ≡ map (request_in_code reached) (framed setup all_times reached)
    requests_to reached used new behind ahead gives drawn =
        let v = version reached in
        let later = replicate count time in
        let up = few_frames setup ahead.0 reached in
        let within : frames_made (each (slot setup) reached) ≤ length times + count = omega (arith, up.low, counted, ap (λ (m : List Raw). frames_made (each (slot setup) m)) ahead.1) in
        let old : given ++ (ready ++ coming) ≡ map (handed_as v) (framed setup times before) =
        on.gave.requests ∙ ap (λ (m : List Raw). requests_of setup fed m) before_is ∙ handed_alike setup times before v (versions_behind before reached v behind (λ c i. refl)) in
        let earlier : framed setup times before ≡ framed setup ((times ++ used) ++ later) before =
        sym (ap (λ (x : List ℕ). framed setup x before) (append_assoc times used later) ∙ framed_readings setup times (used ++ later) before (omega (arith, long))) in
        let all : framed setup ((times ++ used) ++ later) reached ≡ framed setup all_times reached =
        ap (λ (u : List ℕ). framed setup ((times ++ u) ++ later) reached) (drawn (replicate k time) refl)
        ∙ framed_copies setup times (length used) k count time reached within few in
        ap (λ (x : List EisRequest). given ++ (ready ++ x)) (gives.grown v (λ c i. refl))
        ∙ ap (λ (x : List EisRequest). given ++ x) (sym (append_assoc ready coming (map (handed_as v) gives.more)))
        ∙ sym (append_assoc given (ready ++ coming) (map (handed_as v) gives.more))
        ∙ ap (λ (x : List EisRequest). x ++ map (handed_as v) gives.more) (old ∙ ap (map (handed_as v)) earlier)
        ∙ sym (map-append (handed_as v) (framed setup ((times ++ used) ++ later) before) gives.more)
        ∙ ap (map (handed_as v)) (sym (gives.framed_is later) ∙ all)

    -- where all were handled, the readings used are copies
    copies_used : (used : List ℕ) → AreDrawn used (Some (replicate k time)) → length used + frames_made (each (slot setup) before) ≡ frames_made (each (slot setup) last) → times ++ used ≡ all_times
    copies_used used drawn made =
        let n : length used ≡ count = omega (arith, made, counted, long) in
        let le : length used ≤ k = omega (arith, n, few) in
        ap (λ (u : List ℕ). times ++ u) (drawn (replicate k time) refl ∙ first_copies (length used) k time le ∙ ap (λ (m : ℕ). replicate m time) n)

    times_made : length all_times ≡ frames_made (each (slot setup) last)
    times_made = length-append times (replicate count time) ∙ ap (λ (n : ℕ). length times + n) (length-replicate {A = ℕ} count time) ∙ sym counted

  -- the replies to the messages reached
  replies_to : (reached : List Raw) (new : Piece) → Replies setup before reached (replies_view unsent) (replies_view new) → behind_taken sent new ≡ bytes_alone (all_bytes (replies setup reached))
  replies_to reached new r =
      let h = r.told unsent refl in
      waits_more sent unsent new (all_bytes (replies setup before)) (all_bytes h.0) old_replies h.2
      ∙ ap bytes_alone (sym (joined_bytes (replies setup before) h.0) ∙ ap all_bytes (sym h.1))

  replies_in_part : (reached : List Raw) (new : Piece) → RepliesInPart setup before reached (replies_view unsent) (replies_view new) → (n : ℕ) × (behind_taken sent new ≡ bytes_alone (take n (all_bytes (replies setup reached))))
  replies_in_part reached new r =
      let h = r.told unsent refl in
      let bytes = all_bytes (replies setup before) in
      let front : bytes ++ take h.1 (all_bytes h.0) ≡ take (length bytes + h.1) (all_bytes (replies setup reached)) =
      sym (take-append-add bytes (all_bytes h.0) h.1) ∙ ap (take (length bytes + h.1)) (sym (joined_bytes (replies setup before) h.0) ∙ ap all_bytes (sym h.2)) in
      (length bytes + h.1, waits_more sent unsent new bytes (take h.1 (all_bytes h.0)) old_replies h.3 ∙ ap bytes_alone front)

  replies_at_least : (reached : List Raw) (new : Piece) → RepliesInPart setup before reached (replies_view unsent) (replies_view new) → (more : List ℕ) × (behind_taken sent new ≡ bytes_alone (all_bytes (replies setup (handled setup fed)) ++ more))
  replies_at_least reached new r =
      let h = r.told unsent refl in
      (take h.1 (all_bytes h.0), waits_more sent unsent new (all_bytes (replies setup (handled setup fed))) (take h.1 (all_bytes h.0)) on.gave.replies h.3)

  -- ---- over a piece that was lent

  module _ (piece : Piece) (short : length piece.bytes ≤ 65536) (enough : 4294967296 ≤ k) where
    abbrev f : Fed
    f = record { piece = piece; time = time }

    abbrev with_piece : List Piece
    with_piece = with_next (pieces_of fed) piece

    abbrev end : List Raw
    end = (session setup with_piece).handled

    end_is : handled setup (f ∷ fed) ≡ end
    end_is = handled_of setup (f ∷ fed)

    few_end : FewHandled before end
    few_end = handled_few setup (pieces_of fed) piece on.stands.goes_on on.stands.waits short

    -- how many frames the piece makes
    abbrev frames_in : ℕ
    frames_in = frames setup (handled setup (f ∷ fed)) - frames setup (handled setup fed)

    made_end : frames setup (handled setup (f ∷ fed)) ≡ frames_made (each (slot setup) end)
    made_end = ap (frames setup) end_is ∙ frames_are setup end

    frames_end : FewFrames setup before end 1114112
    frames_end =
        let h = few_frames setup few_end.more before in
        let same = ap (λ (m : List Raw). frames_made (each (slot setup) m)) few_end.is in
        record { low = omega (arith, h.low, same); high = omega (arith, h.high, same, few_end.few) }

    few_in : frames_in ≤ k
    few_in = omega (arith, enough, frames_end.high, made_before, made_end)

    counted_in : frames_made (each (slot setup) end) ≡ length times + frames_in
    counted_in = omega (arith, frames_end.low, made_before, made_end, long)

    times_now : readings_of setup (f ∷ fed) ≡ times ++ replicate frames_in time
    times_now = readings_more setup fed f

    module _ (t : Session) (new : Piece) (coming_new : List EisRequest) (had : List Piece) (was : LastAnswer) (source_new : SourceView) (readings_new : Option (List ℕ)) where
      abbrev x : Around
      x = around (lent_view (piece ∷ []) had was) coming (replies_view unsent) (Some (replicate k time))

      abbrev y : Around
      y = around source_new coming_new (replies_view new) readings_new

      abbrev after : Option (Result Ended Error) → ServerView
      after answer = record { session = t; unsent = new; requests = ready ++ coming_new; answer = answer }

      gave_all : (answer : Option (Result Ended Error)) (used : List ℕ) → Goes setup before end times used x y → GaveAll setup (f ∷ fed) sent given (after answer)
      gave_all answer used g = record {
        requests = requests_to end frames_in counted_in few_in end used coming_new g.behind ([], refl) g.gives g.drawn
            ∙ ap (λ (r : List ℕ). map (request_in_code end) (framed setup r end)) (sym times_now) ∙ ap (requests_of setup (f ∷ fed)) (sym end_is);
        replies = replies_to end new g.replies ∙ ap (λ (m : List Raw). bytes_alone (all_bytes (replies setup m))) (sym end_is);
        readings = ap length times_now ∙ times_made end frames_in counted_in few_in ∙ sym made_end;
      }

      -- it is over with the piece
      ends : (answer : Result Ended Error) (used : List ℕ) → AnswersAs (session setup with_piece).answer answer → IsDecided answer → Goes setup before end times used x y → HasEnded setup (f ∷ fed) answer sent given (after (Some answer))
      ends answer used answers decided g = record { answers = answers; decided = decided; gave = gave_all (Some answer) used g }

      -- it goes on
      goes_on : (used : List ℕ) → Stands setup with_piece (times ++ used) t → Goes setup before (accepted setup (stream with_piece)) times used x y → GoesOn setup (f ∷ fed) sent given (after None)
      goes_on used stands g =
          let same : accepted setup (stream with_piece) ≡ end = sym (ap (λ (o : Outcome). o.handled) (going setup with_piece stands.goes_on)) in
          let h : Goes setup before end times used x y = subst (λ (m : List Raw). Goes setup before m times used x y) same g in
          record {
            stands = subst (λ (r : List ℕ). Stands setup with_piece r t) (copies_used end frames_in counted_in few_in used h.drawn h.frames ∙ sym times_now) stands;
            gave = gave_all None used h;
          }

      -- it broke off
      breaks : GoesInPart setup before end times x y → RanOut setup (f ∷ fed) sent given (after (Some (Err error.NoMemory)))
      breaks g = record {
        reached = g.reached;
        ahead = (g.ahead.0, end_is ∙ g.ahead.1);
        owed = (g.behind.0, g.behind.1 ∙ ap (λ (m : List Raw). g.behind.0 ++ m) (sym before_is));
        requests = requests_to end frames_in counted_in few_in g.reached g.used coming_new g.behind g.ahead g.gives g.drawn
            ∙ ap (λ (r : List ℕ). map (request_in_code g.reached) (framed setup r g.reached)) (sym times_now);
        replies = replies_in_part g.reached new g.replies;
        replied = replies_at_least g.reached new g.replies;
      }

      -- no piece came
      stays : Stays x y → GoesInPart setup before end times x y
      stays h = record {
        reached = before;
        used = [];
        behind = ([], refl);
        ahead = (few_end.more, few_end.is);
        gives = subst (λ (o : List EisRequest). GivesOut setup before before times [] coming o) (sym h.out) (gives_none setup before before times coming (λ r. refl));
        replies = subst (λ (o : SinkView). RepliesInPart setup before before (replies_view unsent) o) (sym h.sink) (in_part_none setup before (replies_view unsent));
        drawn = λ told is. refl;
        leaves = λ told is. h.readings ∙ is;
        least = omega arith;
        most = omega arith;
      }

      -- the piece that came is the one that was lent
      lent_is : (q : Piece) → Hands x.source q y.source → q ≡ piece
      lent_is q hands = let first : Some piece ≡ Some q = (hands.told (piece ∷ []) refl).first in cc

      accepted_is : length (pieces_of fed) < setup.pieces → handle_count with_piece ≤ 4096 → end ≡ accepted setup (stream with_piece)
      accepted_is room few = over_or_on setup (pieces_of fed) piece (is_waiting (reading_of setup (stream with_piece)).stop) on.stands.goes_on room few refl

      broke : BreaksOff setup (pieces_of fed) times x y → GoesInPart setup before end times x y
      broke b =
          let same = lent_is b.piece b.hands in
          let few : handle_count with_piece ≤ 4096 = subst (λ (p : Piece). handle_count (with_next (pieces_of fed) p) ≤ 4096) same b.few in
          let goes : GoesInPart setup before (accepted setup (stream with_piece)) times x y = subst (λ (p : Piece). GoesInPart setup before (accepted setup (stream (with_next (pieces_of fed) p))) times x y) same b.goes in
          subst (λ (m : List Raw). GoesInPart setup before m times x y) (sym (accepted_is b.room few)) goes

      -- it closed with this answer
      record Closed (is : Answer → Type 0) : Type 0 where
        used : List ℕ
        answer_is : is (session setup with_piece).answer
        goes : Goes setup before end times used x y

      closed : (answer : Answer) → Closes setup (pieces_of fed) times answer x y → Closed (λ a. a ≡ answer)
      closed answer c =
          let same = lent_is c.piece c.hands in
          record {
            used = c.used;
            answer_is = subst (λ (p : Piece). (session setup (with_next (pieces_of fed) p)).answer ≡ answer) same c.answer_is;
            goes = subst (λ (p : Piece). Goes setup before (session setup (with_next (pieces_of fed) p)).handled times c.used x y) same c.goes;
          }

      refused : (o : Option Cause) → ClosesRefused setup (pieces_of fed) times o x y → Closed (IsRefused o)
      refused None h = absurd h
      refused (Some refusal) h = let c = closed (Refused refusal) h in record { used = c.used; answer_is = c.answer_is; goes = c.goes }

      no_end : {P : Type 0} (answer : Answer) → Finds setup (pieces_of fed) times answer x y → P
      no_end answer h = let none : piece ∷ [] ≡ [] = (h.none.told (piece ∷ []) refl).0 in absurd cc

      pub took_one : (turned : Result Turn Error) → NoFault turned → Turns setup (pieces_of fed) times turned t x y → IsServing setup (f ∷ fed) sent given (after (ended_by turned)) × IsNoInputEnd (ended_by turned)
      took_one (Ok turn.GoOn) ok g =
          let same = lent_is g.piece g.hands in
          let stands : Stands setup with_piece (times ++ g.used) t = subst (λ (p : Piece). Stands setup (with_next (pieces_of fed) p) (times ++ g.used) t) same g.stands in
          let goes : Goes setup before (accepted setup (stream with_piece)) times g.used x y = subst (λ (p : Piece). Goes setup before (accepted setup (stream (with_next (pieces_of fed) p))) times g.used x y) same g.goes in
          (goes_on g.used stands goes, tt)
      took_one (Ok turn.Disconnect) ok h = let c = closed Disconnect h in (ends (Ok ended.Disconnect) c.used c.answer_is tt c.goes, λ e. e)
      took_one (Ok turn.End) ok h = no_end End h
      took_one (Err error.UnexpectedEof) ok h = no_end UnexpectedEof h
      took_one (Err error.PieceLimit) ok h = let c = closed PieceLimit h in (ends (Err error.PieceLimit) c.used c.answer_is tt c.goes, λ e. e)
      took_one (Err error.HandleLimit) ok h = let c = closed HandleLimit h in (ends (Err error.HandleLimit) c.used c.answer_is tt c.goes, λ e. e)
      took_one (Err error.IdsExhausted) ok h = let c = closed IdsExhausted h in (ends (Err error.IdsExhausted) c.used c.answer_is tt c.goes, λ e. e)
      took_one (Err error.ReadFault) ok h = absurd ok
      took_one (Err error.WriteFault) ok h = absurd ok
      took_one (Err error.NoMemory) ok (inl h) = (breaks (stays h), λ e. e)
      took_one (Err error.NoMemory) ok (inr h) = (breaks (broke h.breaks), λ e. e)
      took_one (Err e) ok h = let c = refused (refusal_of e) h in (ends (Err e) c.used c.answer_is tt c.goes, λ e. e)

  -- ---- at the end

  module _ (t : Session) (new : Piece) (coming_new : List EisRequest) (had : List Piece) (was : LastAnswer) (source_new : SourceView) (readings_new : Option (List ℕ)) where
    abbrev at : Around
    at = around (lent_view [] had was) coming (replies_view unsent) (Some (replicate k time))

    abbrev to : Around
    to = around source_new coming_new (replies_view new) readings_new

    abbrev ended_so : Option (Result Ended Error) → ServerView
    ended_so answer = record { session = t; unsent = new; requests = ready ++ coming_new; answer = answer }

    abbrev all_handled : List Raw
    all_handled = (session setup (pieces_of fed)).handled

    all_is : handled setup fed ≡ all_handled
    all_is = handled_of setup fed

    no_more : frames_made (each (slot setup) all_handled) ≡ length times + 0
    no_more = omega (arith, ap (λ (m : List Raw). frames_made (each (slot setup) m)) (sym all_is ∙ before_is), long)

    found : (answer : Answer) (result : Result Ended Error) → AnswersAs answer result → IsDecided result → Finds setup (pieces_of fed) times answer at to → HasEnded setup fed result sent given (ended_so (Some result))
    found answer result answers decided h = record {
      answers = subst (λ (a : Answer). AnswersAs a result) (sym h.answer_is) answers;
      decided = decided;
      gave = record {
        requests = requests_to all_handled 0 no_more (omega arith) all_handled [] coming_new h.goes.behind ([], refl) h.goes.gives h.goes.drawn
            ∙ ap (λ (r : List ℕ). map (request_in_code all_handled) (framed setup r all_handled)) (append-nil times) ∙ ap (requests_of setup fed) (sym all_is);
        replies = replies_to all_handled new h.goes.replies ∙ ap (λ (m : List Raw). bytes_alone (all_bytes (replies setup m))) (sym all_is);
        readings = on.gave.readings;
      };
    }

    -- memory ran out where no piece came
    stopped_short : Stays at to → RanOut setup fed sent given (ended_so (Some (Err error.NoMemory)))
    stopped_short h =
        let owed = owed_before setup fed on.stands.goes_on in
        let same : new ≡ unsent = (let told : Some new ≡ Some unsent = ap (λ (v : SinkView). v.taken) h.sink in cc) in
        let bytes = all_bytes (replies setup (handled setup fed)) in
        let front = replies_prefix setup owed.0 (handled setup (drop 1 fed)) in
        let waits : behind_taken sent new ≡ bytes_alone bytes = ap (behind_taken sent) same ∙ on.gave.replies in
        record {
          reached = handled setup fed;
          ahead = ([], refl);
          owed = owed;
          requests = ap (λ (o : List EisRequest). given ++ (ready ++ o)) h.out ∙ on.gave.requests;
          replies = (length bytes, waits ∙ ap bytes_alone (sym (take_all (length bytes) bytes (omega arith))));
          replied = (all_bytes front.0, waits ∙ ap bytes_alone (ap (λ (m : List Raw). all_bytes (replies setup m)) owed.1 ∙ ap all_bytes front.1 ∙ joined_bytes (replies setup (handled setup (drop 1 fed))) front.0));
        }

    no_piece : {P : Type 0} (q : Piece) → Hands at.source q to.source → P
    no_piece q hands = let first : None ≡ Some q = (hands.told [] refl).first in absurd cc

    none_refused : {P : Type 0} (o : Option Cause) → ClosesRefused setup (pieces_of fed) times o at to → P
    none_refused None h = absurd h
    none_refused (Some refusal) h = no_piece h.piece h.hands

    pub took_none : (turned : Result Turn Error) → NoFault turned → Turns setup (pieces_of fed) times turned t at to → IsServing setup fed sent given (ended_so (ended_by turned)) × IsInputEnd (ended_by turned)
    took_none (Ok turn.GoOn) ok h = no_piece h.piece h.hands
    took_none (Ok turn.Disconnect) ok h = no_piece h.piece h.hands
    took_none (Ok turn.End) ok h = (found End (Ok ended.End) refl tt h, tt)
    took_none (Err error.UnexpectedEof) ok h = (found UnexpectedEof (Err error.UnexpectedEof) refl tt h, tt)
    took_none (Err error.PieceLimit) ok h = no_piece h.piece h.hands
    took_none (Err error.HandleLimit) ok h = no_piece h.piece h.hands
    took_none (Err error.IdsExhausted) ok h = no_piece h.piece h.hands
    took_none (Err error.ReadFault) ok h = absurd ok
    took_none (Err error.WriteFault) ok h = absurd ok
    took_none (Err error.NoMemory) ok (inl h) = (stopped_short h, tt)
    took_none (Err error.NoMemory) ok (inr h) = no_piece h.breaks.piece h.breaks.hands
    took_none (Err e) ok h = none_refused (refusal_of e) h
