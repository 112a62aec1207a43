-- The report of a session, and its status.
use Rattle.std.proofs.Common.{◌≡◌, ◌⊎◌, inl, inr, ℕ, List, [], ◌++◌, ◌-◌, take, Option, Some, None, Result, Ok, Err, refl, sym, ap, ◌∙◌, subst, arith}
use Rattle.std.specs.Prelude.{map}
use Rattle.ei_spec.specs.Message.{Raw}
use Rattle.ei_spec.specs.Piece.{Piece, stream}
use Rattle.ei_session.specs.Setup.{Setup}
use Rattle.ei_session.specs.Requests.{framed}
use Rattle.ei_session.specs.Refusals.{Refusal}
use Rattle.ei_session.specs.Served.{Answer, Disconnect, End, UnexpectedEof, IdsExhausted, PieceLimit, HandleLimit, Refused, session, accepted, IsGood}
use Rattle.ei_session.specs.Complete.{AreComplete}
use Rattle.ei_session.proofs.Completing.{complete_ends}
use Rattle.ei_backend.specs.Memory.{TrayView, never_failing, sink_of}
use Rattle.ei_backend.specs.Outside.{with_more}
use Rattle.reis_lines.specs.Input.{Fetched, InputView}
use Rattle.ei_standing.specs.Standing.{request_in_code}
use Rattle.ei_request.specs.declared.event.EisRequest.{EisRequest}
use Rattle.ei_serve.specs.declared.session.Ended.{Ended as HowEnded}
use Rattle.ei_serve.specs.declared.session.Ended.TheVariants as ended
use Rattle.ei_serve.specs.Refusing.{refusal_of, IsRefused}
use Rattle.ei_serve.specs.Serving.{AnswersAs, HandsOut, Replied, CutShort}
use Rattle.ei_types.specs.Decided.{IsDecided}
use Rattle.ei_types.specs.declared.error.Error.{Error}
use Rattle.ei_types.specs.declared.error.Error.TheVariants as error
use Rattle.reis_lines.specs.Text.{pieces_of, bad_line_of, number_from}
use Rattle.reis_lines.specs.Given.{MetBadLine}
use Rattle.reis_lines.specs.InputText.{IsText}
use Rattle.reis_run.specs.Asked.{IsCut, Serves, Runs, MayAnswer}
use Rattle.reis_run.specs.ProgramOutside.{Outside}
use Rattle.reis_run.specs.Tell.{Report, status_of, Tells}
use Rattle.reis_run.specs.declared.words.Command.{Command}
use Rattle.reis_run.specs.Session.{TextEnd, Answered, BadLine, end_behind, end_of, EndsAs, IsDecidedLine, IsReadFault, IsBadLine, HandledGiven}
use Rattle.reis_run.specs.Session.{AreRequests, reply_bytes, TookLines, TellsFault, IsOf, IsOfGiven, IsOfFirst, status_of_answer, status_of_end, IsStatus, HasReadCause}
use Rattle.reis_run.specs.declared.session.LastLine.{LastLine}
use Rattle.reis_run.specs.declared.session.LastLine.TheVariants as last_line

-- ---- what is kept of the session

-- a tray that took nothing
abbrev pub empty_tray : TrayView
empty_tray = record { held = record { bytes = []; handles = [] }; puts = []; failing = never_failing; wants = 0 }

requests_of : (setup : Setup) (messages : List Raw) (readings : Option (List ℕ)) (old new requests : List EisRequest) → HandsOut setup messages readings old new → old ≡ [] → requests ≡ new → AreRequests setup messages readings requests
requests_of setup messages readings old new requests h none same = record {
  readings = h.readings;
  told_so = h.told_so;
  framed_is = same ∙ h.grown ∙ ap (λ (x : List EisRequest). x ++ map (request_in_code messages) (framed setup h.readings messages)) none;
}

held_is : (a b : Piece) → Some a ≡ Some b → a.bytes ≡ b.bytes
held_is a b e = cc

bytes_are : (tray : TrayView) (new : Piece) (more reply : List ℕ) → Some new ≡ Some (with_more more [] tray.held) → tray ≡ empty_tray → reply ≡ new.bytes → reply ≡ more
bytes_are tray new more reply e empty same = same ∙ held_is new (with_more more [] tray.held) e ∙ ap (λ (t : TrayView). t.held.bytes ++ more) empty

-- the tray and the requests behind a session, and what is read of them
pub record Kept (tray : TrayView) (new : Piece) (reply : List ℕ) (old out requests : List EisRequest) : Type 0 where
  pub empty : tray ≡ empty_tray
  pub reply_same : reply ≡ new.bytes
  pub none : old ≡ []
  pub requests_same : requests ≡ out

-- the report of the messages
pub is_of : (setup : Setup) (messages : List Raw) (readings : Option (List ℕ)) (tray : TrayView) (after : TrayView) (reply : List ℕ) (old out requests : List EisRequest) (last : LastLine) → Kept tray after.held reply old out requests →
    HandsOut setup messages readings old out → Replied setup messages (sink_of tray) (sink_of after) → IsOf setup messages readings (record { reply = reply; requests = requests; last = last })
is_of setup messages readings tray after reply old out requests last k h r = record {
  reply_is = bytes_are tray after.held (reply_bytes setup messages) reply (r.told tray.held refl) k.empty k.reply_same;
  requests_are = requests_of setup messages readings old out requests h k.none k.requests_same;
}

pub is_of_given : (setup : Setup) (text : List ℕ) (left readings readings_new : Option (List ℕ)) (tray : TrayView) (after : TrayView) (reply : List ℕ) (old out requests : List EisRequest) (last : LastLine) → Kept tray after.held reply old out requests →
    HandledGiven setup text left readings readings_new old out (sink_of tray) (sink_of after) → IsOfGiven setup text left readings (record { reply = reply; requests = requests; last = last })
is_of_given setup text left readings readings_new tray after reply old out requests last k h = record {
  pieces = h.pieces;
  given = h.given;
  first = h.first;
  goes_on = h.goes_on;
  is_of = is_of setup (accepted setup (stream h.pieces)) readings tray after reply old out requests last k h.requests h.replies;
}

pub is_of_first : (setup : Setup) (text : List ℕ) (fetches : List Fetched) (left readings readings_new : Option (List ℕ)) (tray : TrayView) (after : TrayView) (reply : List ℕ) (old out requests : List EisRequest) (last : LastLine) → Kept tray after.held reply old out requests →
    TookLines text fetches left (λ pieces. CutShort setup (pieces_of text) pieces readings readings_new old out (sink_of tray) (sink_of after)) →
    TookLines text fetches left (IsOfFirst setup (pieces_of text) readings (record { reply = reply; requests = requests; last = last }))
is_of_first setup text fetches left readings readings_new tray after reply old out requests last k w =
    let h = w.took in
    let r = h.replies.told tray.held refl in
    record {
      pieces = w.pieces;
      waiting = w.waiting;
      gave = w.gave;
      more = w.more;
      first = w.first;
      left_is = w.left_is;
      took = record {
        k = h.k;
        took = h.took;
        reached = h.reached;
        ahead = h.ahead;
        owed = h.owed;
        reply_is = (r.0, bytes_are tray after.held (take r.0 (reply_bytes setup h.reached)) reply r.1 k.empty k.reply_same);
        replied = λ some.
            let more = h.replied some tray.held refl in
            (more.0, bytes_are tray after.held (reply_bytes setup (accepted setup (stream (take (h.k - 1) (pieces_of text)))) ++ more.0) reply more.1 k.empty k.reply_same);
        requests_are = requests_of setup h.reached readings old out requests h.requests k.none k.requests_same;
      };
    }

-- ---- the status

refused_status : (a : Answer) (o : Option Refusal) → IsRefused o a → 1 ≡ status_of_answer a
refused_status a None s = absurd s
refused_status a (Some r) s = rw s refl

answer_status : (a : Answer) (answer : Result HowEnded Error) → IsDecided answer → AnswersAs a answer → status_of (last_line.Answer answer) ≡ status_of_answer a
answer_status a (Ok ended.Disconnect) d s = rw s refl
answer_status a (Ok ended.End) d s = rw s refl
answer_status a (Err error.UnexpectedEof) d s = rw s refl
answer_status a (Err error.PieceLimit) d s = rw s refl
answer_status a (Err error.HandleLimit) d s = rw s refl
answer_status a (Err error.IdsExhausted) d s = rw s refl
answer_status a (Err error.ReadFault) d s = absurd d
answer_status a (Err error.WriteFault) d s = absurd d
answer_status a (Err error.NoMemory) d s = absurd d
answer_status a (Err error.UnexpectedHandshakeEvent) d s = absurd s
answer_status a (Err error.MessageTooLong) d s = absurd s
answer_status a (Err (error.Event e)) d s = absurd s
answer_status a (Err (error.InvalidInterfaceVersion name n)) d s = refused_status a (refusal_of (error.InvalidInterfaceVersion name n)) s
answer_status a (Err (error.Request e)) d s = refused_status a (refusal_of (error.Request e)) s
answer_status a (Err (error.Parse e)) d s = refused_status a (refusal_of (error.Parse e)) s
answer_status a (Err (error.Handshake e)) d s = refused_status a (refusal_of (error.Handshake e)) s

line_status : (e : TextEnd) (l : LastLine) → IsDecidedLine l → EndsAs e l → status_of l ≡ status_of_end e
line_status (Answered a) (last_line.Answer answer) d s = answer_status a answer d s
line_status (BadLine n) (last_line.BadLine m) d s = refl
line_status (Answered a) (last_line.BadLine m) d s = absurd s
line_status (BadLine n) (last_line.Answer answer) d s = absurd s

-- a last line is decided, or a read fault, or memory ran out
line_kinds : (l : LastLine) → IsDecidedLine l ⊎ (IsReadFault l ⊎ (status_of l ≡ 5))
line_kinds (last_line.BadLine n) = inl tt
line_kinds (last_line.Answer (Ok e)) = inl tt
line_kinds (last_line.Answer (Err error.ReadFault)) = inr (inl refl)
line_kinds (last_line.Answer (Err error.WriteFault)) = inr (inr refl)
line_kinds (last_line.Answer (Err error.NoMemory)) = inr (inr refl)
line_kinds (last_line.Answer (Err error.UnexpectedEof)) = inl tt
line_kinds (last_line.Answer (Err error.PieceLimit)) = inl tt
line_kinds (last_line.Answer (Err error.HandleLimit)) = inl tt
line_kinds (last_line.Answer (Err error.IdsExhausted)) = inl tt
line_kinds (last_line.Answer (Err error.UnexpectedHandshakeEvent)) = inl tt
line_kinds (last_line.Answer (Err error.MessageTooLong)) = inl tt
line_kinds (last_line.Answer (Err (error.Event e))) = inl tt
line_kinds (last_line.Answer (Err (error.InvalidInterfaceVersion name n))) = inl tt
line_kinds (last_line.Answer (Err (error.Request e))) = inl tt
line_kinds (last_line.Answer (Err (error.Parse e))) = inl tt
line_kinds (last_line.Answer (Err (error.Handshake e))) = inl tt

-- the status of a session over a text
pub is_status : (e : TextEnd) (l : LastLine) (F : Type 0) (result : ℕ) → (IsDecidedLine l → EndsAs e l) → (IsReadFault l → F) →
    (result ≡ status_of l) ⊎ ((result ≡ 4) ⊎ (result ≡ 5)) → IsStatus (status_of_end e) F result
is_status e l F result ends fault (inr less) = inr (inr less)
is_status e l F result ends fault (inl s) = elim (line_kinds l) [
  | inl d ↦ inl (s ∙ line_status e l d (ends d))
  | inr (inl f) ↦ inr (inl (s ∙ ap status_of f, fault f))
  | inr (inr five) ↦ inr (inr (inr (s ∙ five)))
]

-- status 3 is that of a read fault or a bad line
three_kinds : (l : LastLine) → status_of l ≡ 3 → IsReadFault l ⊎ ((n : ℕ) × IsBadLine n l)
three_kinds (last_line.BadLine n) s = inr (n, refl)
three_kinds (last_line.Answer (Ok e)) s = absurd (omega (arith, s))
three_kinds (last_line.Answer (Err error.ReadFault)) s = inl refl
three_kinds (last_line.Answer (Err error.WriteFault)) s = absurd (omega (arith, s))
three_kinds (last_line.Answer (Err error.NoMemory)) s = absurd (omega (arith, s))
three_kinds (last_line.Answer (Err error.UnexpectedEof)) s = absurd (omega (arith, s))
three_kinds (last_line.Answer (Err error.PieceLimit)) s = absurd (omega (arith, s))
three_kinds (last_line.Answer (Err error.HandleLimit)) s = absurd (omega (arith, s))
three_kinds (last_line.Answer (Err error.IdsExhausted)) s = absurd (omega (arith, s))
three_kinds (last_line.Answer (Err error.UnexpectedHandshakeEvent)) s = absurd (omega (arith, s))
three_kinds (last_line.Answer (Err error.MessageTooLong)) s = absurd (omega (arith, s))
three_kinds (last_line.Answer (Err (error.Event e))) s = absurd (omega (arith, s))
three_kinds (last_line.Answer (Err (error.Request e))) s = absurd (omega (arith, s))
three_kinds (last_line.Answer (Err (error.Parse e))) s = absurd (omega (arith, s))
three_kinds (last_line.Answer (Err (error.Handshake e))) s = absurd (omega (arith, s))
three_kinds (last_line.Answer (Err (error.InvalidInterfaceVersion name n))) s = absurd (omega (arith, s))

-- and it has their cause
pub has_cause : (l : LastLine) (F : Type 0) (M : ℕ → Type 0) (result : ℕ) → (IsReadFault l → F) → ((n : ℕ) → IsBadLine n l → M n) →
    (result ≡ status_of l) ⊎ ((result ≡ 4) ⊎ (result ≡ 5)) → HasReadCause result F M
has_cause l F M result fault met (inr (inl four)) = λ three. absurd (omega (arith, three, four))
has_cause l F M result fault met (inr (inr five)) = λ three. absurd (omega (arith, three, five))
has_cause l F M result fault met (inl s) = λ three. elim (three_kinds l (sym s ∙ three)) [
  | inl f ↦ inl (fault f)
  | inr bad ↦ inr (bad.0, met bad.0 bad.1)
]

good_status : (a : Answer) (bad : Option ℕ) → bad ≡ None → IsGood a → status_of_end (end_behind a bad) ≡ 0
good_status End None none g = refl
good_status End (Some n) none g = absurd cc
good_status Disconnect bad none g = refl
good_status UnexpectedEof bad none g = absurd g
good_status IdsExhausted bad none g = absurd g
good_status PieceLimit bad none g = absurd g
good_status HandleLimit bad none g = absurd g
good_status (Refused r) bad none g = absurd g

-- pieces that make a good end sure
pub is_complete : (setup : Setup) (text : List ℕ) (F K : Type 0) (result : ℕ) → bad_line_of text ≡ None → AreComplete setup (pieces_of text) →
    IsStatus (status_of_end (end_of setup text)) F result → (F → ⊥) → (result ≡ 4 → K) → (K → ⊥) → (result ≡ 0) ⊎ (result ≡ 5)
is_complete setup text F K result none complete (inl s) f k nk =
    inl (s ∙ good_status (session setup (pieces_of text)).answer (number_from 0 (bad_line_of text)) (ap (number_from 0) none) (complete_ends setup (pieces_of text) complete).good)
is_complete setup text F K result none complete (inr (inl s)) f k nk = absurd (f s.1)
is_complete setup text F K result none complete (inr (inr (inl s))) f k nk = absurd (nk (k s))
is_complete setup text F K result none complete (inr (inr (inr s))) f k nk = inr s

-- the status of a session whose input's count of faults rose
risen_status : (l : LastLine) → TellsFault l → status_of l ≡ 3
risen_status l (inl f) = ap status_of f
risen_status l (inr bad) = ap status_of bad.1

pub is_risen : (l : LastLine) (R : Type 0) (result : ℕ) → (R → TellsFault l) → (result ≡ status_of l) ⊎ IsCut result → R → (result ≡ 3) ⊎ IsCut result
is_risen l R result tells (inr cut) rose = inr cut
is_risen l R result tells (inl s) rose = inl (s ∙ risen_status l (tells rose))

-- ---- what an input says

module _ {I : Type 0} (view : I → InputView) (old new : I) where
  -- a text by what it says is a text of it
  pub seen_text : (t : List ℕ) (left : Option (List ℕ)) → IsText (λ (v : InputView). v) (view old) (view new) t left → IsText view old new t left
  seen_text t left (inl is) = inl (record { told_is = is.told_is; left_is = is.left_is })
  seen_text t left (inr is) = inr (record { more = is.more; text_is = is.text_is; left_is = is.left_is; ends = is.ends })

  -- and a bad line that it met is met by what it says
  pub seen_met : (n : ℕ) → MetBadLine view old new n → MetBadLine (λ (v : InputView). v) (view old) (view new) n
  seen_met n met = record { place = met.place; bad = met.bad; no_sooner = met.no_sooner; number = met.number }

-- ---- the words

-- what is done at a command is done at the same one
pub runs_as : (usage : List ℕ) (command given : Option Command) (result : ℕ) (before after : Outside) → given ≡ command → Runs usage given result before after → Runs usage command result before after
runs_as usage command given result before after same so = subst (λ (c : Option Command). Runs usage c result before after) same so

pub answers_as : (command given : Option Command) (result : ℕ) → given ≡ command → MayAnswer given result → MayAnswer command result
answers_as command given result same so = subst (λ (c : Option Command). MayAnswer c result) same so

pub serves_as : (text_of : Report → List ℕ) (setup other : Setup) (result : ℕ) (before after : Outside) → setup ≡ other → Serves text_of setup result before after → Serves text_of other result before after
serves_as text_of setup other result before after same so = subst (λ (s : Setup). Serves text_of s result before after) same so

-- what is told of a text is told of the same one
pub told_as : (status : ℕ) (text other : List ℕ) (held : Piece) (result : ℕ) (now : Option Piece) → text ≡ other → Tells status text held result now → Tells status other held result now
told_as status text other held result now e t = subst (λ (x : List ℕ). Tells status x held result now) e t
