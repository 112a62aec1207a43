-- What a session over the lines of an input came to.
use Rattle.std.proofs.Common.{◌≡◌, ◌≤◌, ◌<◌, ◌⊎◌, inl, inr, ℕ, Bool, true, List, [], ◌++◌, ◌-◌, false, length, take, drop, Option, Some, None}
use Rattle.std.proofs.Common.{Result, Ok, Err, refl, sym, ap, ◌∙◌, subst, arith, length-append}
use Rattle.std.proofs.lemmas.List.{append-nil, length-drop, take_at, drop_all}
use Rattle.std.specs.Prelude.{map, IsErrOf, IsSome}
use Rattle.ei_spec.specs.Message.{Raw}
use Rattle.ei_spec.specs.Piece.{Piece, stream}
use Rattle.ei_spec.specs.History.{each, joined}
use Rattle.ei_spec.specs.Groups.{grouped}
use Rattle.ei_session.specs.Setup.{Setup}
use Rattle.ei_session.specs.Requests.{framed}
use Rattle.ei_session.specs.Handshake.{connected}
use Rattle.ei_session.specs.Refusals.{Refusal}
use Rattle.ei_session.specs.Served.{Answer, Disconnect, End, UnexpectedEof, IdsExhausted, PieceLimit, HandleLimit, Refused}
use Rattle.ei_session.specs.Served.{Outcome, at_end, read_first, session, accepted, is_over}
use Rattle.ei_session.proofs.AllParts.{session_end}
use Rattle.ei_backend.specs.Lent.{LentSource}
use Rattle.ei_backend.specs.Outside.{Rose, SourceView, SinkView, with_more}
use Rattle.reis_lines.specs.Asking.{given_in, fetches_since}
use Rattle.reis_lines.specs.Input.{Fetched, InputView}
use Rattle.ei_standing.specs.Standing.{request_in_code}
use Rattle.ei_request.specs.declared.event.EisRequest.{EisRequest}
use Rattle.ei_serve.specs.declared.session.Ended.{Ended as HowEnded}
use Rattle.ei_serve.specs.declared.session.Ended.TheVariants as ended
use Rattle.ei_serve.specs.Refusing.{refusal_of, IsRefused}
use Rattle.ei_serve.specs.Serving.{AnswersAs, IsSourceEnd, AreReadings, HandsOut, Replied}
use Rattle.ei_backend.specs.Pieces.{ArePieces}
use Rattle.ei_types.specs.Decided.{IsDecided, IsCutShort}
use Rattle.ei_serve.specs.Serving.{LeftReadings, Handled, RepliedAtLeast, CutShort, TookAllOf, TookToTheEnd}
use Rattle.ei_backend.specs.Pieces.{TookPieces}
use Rattle.ei_types.specs.declared.error.Error.{Error}
use Rattle.ei_types.specs.declared.error.Error.TheVariants as error
use Rattle.ei_backend.specs.declared.outside.LastAnswer.TheVariants as answers
use Rattle.ei_serve.proofs.Puts.{no_replies}
use Rattle.ei_serve.proofs.Serves.{no_frames}
use Rattle.reis_lines.specs.HexSource.{Reading, text_reading, answer_of, source_of, fresh, left_of, faults_of, LaterReading, LaterSource, HoldsNoLine, FailsHere, AnswersTruly}
use Rattle.reis_lines.specs.Taken.{GaveLines}
use Rattle.reis_lines.specs.declared.hex_source.HexSource.{HexSource}
use Rattle.reis_lines.specs.Text.{pieces_of, bad_line_of, number_from, AreGiven}
use Rattle.reis_lines.specs.Given.{given_since, MetBadLine}
use Rattle.reis_lines.specs.InputText.{IsText}
use Rattle.reis_lines.specs.Lent.{LentInput}
use Rattle.reis_lines.proofs.GivenPieces.{gave_since, pieces_since, spent_at_end, spent_at_bad_line, whole_lines_given, bad_number_given, no_bad_line_given}
use Rattle.reis_lines.proofs.MetLaws.{met_bad_line, lent_by, gave_lines}
use Rattle.reis_lines.proofs.TextBegins.{TextBegins, text_begins}
use Rattle.reis_run.specs.Session.{end_behind, end_of, EndsAs, last_line_of, IsDecidedLine, IsAnswered, IsReadFault, IsCutShortLine, IsBadLine, TellsFault}
use Rattle.reis_run.specs.Session.{HandledGiven, TookLines, TookAllAs, pieces_left, reply_bytes}
use Rattle.reis_run.specs.declared.session.LastLine.TheVariants as last_line

-- ---- the source

-- how a source over a fresh input went on, behind an answer of the session
pub record Went {I : Type 0} (view : I → InputView) (later : I → I → Type 0) (input after : I) (y : HexSource I) (answer : Result HowEnded Error) : Type 0 where
  pub reading : LaterReading view later (fresh input) (text_reading y)
  pub same : after ≡ (text_reading y).input
  pub truly : AnswersTruly view (text_reading y) (answer_of y)
  pub risen : faults_of view (fresh input) < faults_of view (text_reading y) → IsErrOf answer error.ReadFault
  pub rose : IsErrOf answer error.ReadFault → Rose (faults_of view (fresh input)) (faults_of view (text_reading y))
  pub last_end : IsSourceEnd answer → answer_of y ≡ answers.End
  pub last_fault : IsErrOf answer error.ReadFault → answer_of y ≡ answers.Fault

-- what a session says of a source that it was lent
abbrev pub Lent : {I : Type 0} → (I → InputView) → (I → I → Type 0) → Result HowEnded Error → HexSource I → HexSource I → Type 0
Lent view later answer x y =
    LentSource (source_of view) (LaterSource view later) (IsErrOf answer error.ReadFault) (IsSourceEnd answer) x y

pub went : {I : Type 0} (view : I → InputView) (later : I → I → Type 0) (input after : I) (x y : HexSource I) (answer : Result HowEnded Error) →
    text_reading x ≡ fresh input → answer_of x ≡ answers.Nothing → Lent view later answer x y → after ≡ (text_reading y).input →
    Went view later input after y answer
went {I} view later input after x y answer new unasked l same = record {
  reading = subst (λ (v : Reading I). LaterReading view later v (text_reading y)) new l.later_source.reading;
  same = same;
  truly = l.later_source.truly (record { ends = λ e. absurd cc; fails = λ e. absurd cc });
  risen = subst (λ (v : Reading I). faults_of view v < faults_of view (text_reading y) → IsErrOf answer error.ReadFault) new l.read_risen;
  rose = subst (λ (v : Reading I). IsErrOf answer error.ReadFault → Rose (faults_of view v) (faults_of view (text_reading y))) new l.read_fault;
  last_end = l.last_end;
  last_fault = l.last_fault;
}

module _
    {I : Type 0} {view : I → InputView} {later : I → I → Type 0} {input after : I} {y : HexSource I} {answer : Result HowEnded Error}
    (w : Went view later input after y answer) where
  -- a session has a read fault where a bad line was met
  met_fault : (n : ℕ) → (text_reading y).bad ≡ Some n → IsErrOf answer error.ReadFault
  met_fault n is = w.risen (omega (arith, w.reading.count, w.reading.met refl n is))

  -- and where none was met, the input failed
  unmet_rose : (text_reading y).bad ≡ None → IsErrOf answer error.ReadFault → Rose (view input).faults (view after).faults
  unmet_rose none e =
      let same : 0 ≡ (text_reading y).bad_faults = (w.reading.unmet none).1 in
      subst (λ (a : I). Rose (view input).faults (view a).faults) (sym w.same) (omega (arith, w.rose e, same))

  -- what a call says of the input that the source read
  pub went_input : LentInput view later input after
  went_input = subst (λ (a : I). LentInput view later input a) (sym w.same) (lent_by view later input (text_reading y) w.reading)

-- a text that begins with the bytes that the input gave
abbrev pub Begins : {I : Type 0} → (I → InputView) → I → HexSource I → List ℕ → Option (List ℕ) → Type 0
Begins view input y t left = TextBegins view input (text_reading y).input (text_reading y).ended t left

module _
    {I : Type 0} {view : I → InputView} {later : I → I → Type 0} {input after : I} {y : HexSource I} {answer : Result HowEnded Error}
    (w : Went view later input after y answer) {t : List ℕ} {left : Option (List ℕ)} (b : Begins view input y t left) where
  abbrev bytes : List ℕ
  bytes = given_since view input (text_reading y).input

  gave : (view (text_reading y).input).given ≡ (view input).given ++ bytes
  gave = gave_since view later (fresh input) (text_reading y) w.reading

  -- the pieces that are left of the text
  abbrev behind : List Piece
  behind = pieces_of (y.held ++ b.more)

  pieces_are : pieces_of t ≡ (text_reading y).pieces ++ behind
  pieces_are = ap pieces_of b.text_is ∙ pieces_since view later (fresh input) (text_reading y) w.reading refl refl b.more b.ends

  -- they are the pieces of the session
  are_pieces : (x : HexSource I) → text_reading x ≡ fresh input → ArePieces (source_of view x) (source_of view y) (IsSourceEnd answer) (pieces_of t) (Some behind)
  are_pieces x new = inr (record {
    came = (text_reading y).pieces;
    more = behind;
    gave = ap (λ (r : Reading I). r.pieces ++ (text_reading y).pieces) (sym new);
    told_is = pieces_are;
    left_is = refl;
    ends = λ end. spent_at_end y.held b.more y.ended (w.truly.ends (w.last_end end)) b.ends;
  })

  -- at the source's end no line of the text was bad
  no_bad_line : (n : ℕ) → IsSourceEnd answer → number_from 0 (bad_line_of t) ≡ Some n → ⊥
  no_bad_line n end bad =
      let none : bad_line_of t ≡ None =
      ap bad_line_of b.text_is ∙ no_bad_line_given view later (fresh input) (text_reading y) w.reading refl bytes b.more gave b.ends (w.truly.ends (w.last_end end)) in
      let number : number_from 0 (bad_line_of t) ≡ None = ap (number_from 0) none in
      absurd cc

  -- a bad line that was met is the first of the text
  number_is : (n : ℕ) → (text_reading y).bad ≡ Some n → number_from 0 (bad_line_of t) ≡ Some n
  number_is n is =
      ap (λ (v : List ℕ). number_from 0 (bad_line_of v)) b.text_is
      ∙ bad_number_given view later (fresh input) (text_reading y) w.reading refl refl bytes b.more gave b.ends n (w.reading.holds refl n is)

  -- and no piece is left behind it
  none_behind : (n : ℕ) → (text_reading y).bad ≡ Some n → Some behind ≡ Some []
  none_behind n is = ap (λ (v : List Piece). Some v) (spent_at_bad_line y.held b.more y.ended (text_reading y).line n (w.reading.holds refl n is) b.ends)

  -- where no whole line is held, the pieces given are those of the whole lines
  lines_given : HoldsNoLine y.held y.ended → AreGiven t left (text_reading y).pieces
  lines_given no_line = record {
    rest = b.more;
    left_is = b.left_is;
    given = bytes;
    text_is = b.text_is;
    spelled = whole_lines_given view later (fresh input) (text_reading y) w.reading refl refl bytes gave no_line;
  }

-- ---- the answer

refused_other : (o : Option Refusal) (a : Answer) → IsRefused o a → ((r : Refusal) → a ≡ Refused r → ⊥) → ⊥
refused_other None a s not = s
refused_other (Some r) a s not = not r s

-- the answers at the source's end
abbrev IsLast : Answer → Type 0
IsLast End = Unit {0}
IsLast UnexpectedEof = Unit {0}
IsLast a = ⊥

last_not_refused : (a : Answer) → IsLast a → (r : Refusal) → a ≡ Refused r → ⊥
last_not_refused End l r e = cc
last_not_refused UnexpectedEof l r e = cc
last_not_refused Disconnect l r e = l
last_not_refused IdsExhausted l r e = l
last_not_refused PieceLimit l r e = l
last_not_refused HandleLimit l r e = l
last_not_refused (Refused q) l r e = l

last_not : (a b : Answer) → IsLast a → a ≡ b → (IsLast b → ⊥) → ⊥
last_not a b l e not = not (subst IsLast e l)

source_end : (a : Answer) (answer : Result HowEnded Error) → IsLast a → AnswersAs a answer → IsDecided answer → IsSourceEnd answer
source_end a (Ok ended.Disconnect) l s d = absurd (last_not a Disconnect l s (λ n. n))
source_end a (Ok ended.End) l s d = tt
source_end a (Err error.UnexpectedEof) l s d = tt
source_end a (Err error.PieceLimit) l s d = absurd (last_not a PieceLimit l s (λ n. n))
source_end a (Err error.HandleLimit) l s d = absurd (last_not a HandleLimit l s (λ n. n))
source_end a (Err error.IdsExhausted) l s d = absurd (last_not a IdsExhausted l s (λ n. n))
source_end a (Err error.ReadFault) l s d = absurd d
source_end a (Err error.WriteFault) l s d = absurd d
source_end a (Err error.NoMemory) l s d = absurd d
source_end a (Err error.UnexpectedHandshakeEvent) l s d = absurd s
source_end a (Err error.MessageTooLong) l s d = absurd s
source_end a (Err (error.Event e)) l s d = absurd s
source_end a (Err (error.InvalidInterfaceVersion name n)) l s d = absurd (refused_other (refusal_of (error.InvalidInterfaceVersion name n)) a s (last_not_refused a l))
source_end a (Err (error.Request e)) l s d = absurd (refused_other (refusal_of (error.Request e)) a s (last_not_refused a l))
source_end a (Err (error.Parse e)) l s d = absurd (refused_other (refusal_of (error.Parse e)) a s (last_not_refused a l))
source_end a (Err (error.Handshake e)) l s d = absurd (refused_other (refusal_of (error.Handshake e)) a s (last_not_refused a l))

-- the session's answer, where no line was bad at the source's end
answered : (a : Answer) (bad : Option ℕ) (answer : Result HowEnded Error) → AnswersAs a answer → IsDecided answer →
    ((n : ℕ) → bad ≡ Some n → IsSourceEnd answer → ⊥) → EndsAs (end_behind a bad) (last_line.Answer answer)
answered End None answer s d none = s
answered End (Some n) answer s d none = absurd (none n refl (source_end End answer tt s d))
answered UnexpectedEof None answer s d none = s
answered UnexpectedEof (Some n) answer s d none = absurd (none n refl (source_end UnexpectedEof answer tt s d))
answered Disconnect bad answer s d none = s
answered IdsExhausted bad answer s d none = s
answered PieceLimit bad answer s d none = s
answered HandleLimit bad answer s d none = s
answered (Refused r) bad answer s d none = s

-- the pieces came to their end
abbrev IsPiecesEnd : Answer → Type 0
IsPiecesEnd a = IsLast a

some_same : (n m : ℕ) → Some n ≡ Some m → n ≡ m
some_same n m e = cc

none_or_some : (n : ℕ) → None ≡ Some n → ⊥
none_or_some n e = cc

-- the bad line, where the pieces came to their end
ended_bad : (a : Answer) (bad : Option ℕ) (n : ℕ) → IsLast a → bad ≡ Some n → EndsAs (end_behind a bad) (last_line.BadLine n)
ended_bad End (Some m) n l e = some_same m n e
ended_bad End None n l e = absurd (none_or_some n e)
ended_bad UnexpectedEof (Some m) n l e = some_same m n e
ended_bad UnexpectedEof None n l e = absurd (none_or_some n e)
ended_bad Disconnect bad n l e = absurd l
ended_bad IdsExhausted bad n l e = absurd l
ended_bad PieceLimit bad n l e = absurd l
ended_bad HandleLimit bad n l e = absurd l
ended_bad (Refused r) bad n l e = absurd l

-- ---- all pieces were taken

accepted_first : (setup : Setup) (pieces : List Piece) (k : ℕ) → (read_first setup pieces k).past ≡ accepted setup (stream (take k pieces))
unfolding read_first
accepted_first setup pieces k = refl

none_behind_k : (left : Option (List Piece)) (rest : List Piece) → left ≡ Some rest → left ≡ Some [] → rest ≡ []
none_behind_k left rest is none = cc

-- where all the pieces were taken and the session was not over, it handles the messages of them all
all_handled : (setup : Setup) (pieces : List Piece) (k : ℕ) → k ≤ length pieces → drop k pieces ≡ [] → ((j : ℕ) → 1 ≤ j → j ≤ k → is_over setup pieces j ≡ false) →
    accepted setup (stream (take k pieces)) ≡ (session setup pieces).handled
all_handled setup pieces k within none goes_on =
    let whole : k ≡ length pieces = omega (arith, within, length-drop k pieces, ap length none) in
    ap (λ (n : ℕ). accepted setup (stream (take n pieces))) whole ∙ sym (accepted_first setup pieces (length pieces))
    ∙ sym (ap (λ (o : Outcome). o.handled) (session_end setup pieces (λ j low high. goes_on j low (omega (arith, high, whole)))))

-- the requests and the replies of some messages
abbrev pub Both : Setup → List Raw → Option (List ℕ) → List EisRequest → List EisRequest → SinkView → SinkView → Type 0
Both setup messages readings old new took_old took_new = HandsOut setup messages readings old new × Replied setup messages took_old took_new

all_of_handled : (setup : Setup) (pieces : List Piece) (left : Option (List Piece)) (readings readings_left : Option (List ℕ)) (old new : List EisRequest) (took_old took_new : SinkView) → left ≡ Some [] →
    Handled setup pieces left readings readings_left old new took_old took_new → Both setup (session setup pieces).handled readings old new took_old took_new
all_of_handled setup pieces left readings readings_left old new took_old took_new none h =
    subst (λ (ms : List Raw). Both setup ms readings old new took_old took_new) (all_handled setup pieces h.k h.took.within (none_behind_k left (drop h.k pieces) h.took.left_is none) h.goes_on) (h.requests, h.replies)

pieces_end : (past : List Raw) (b : Bool) → connected past ≡ b → IsPiecesEnd (at_end past).answer
pieces_end past true c = rw c tt
pieces_end past false c = rw c tt

-- where all the pieces were taken and the session was not over, they came to their end
ends_first : (setup : Setup) (pieces : List Piece) (k : ℕ) → k ≤ length pieces → drop k pieces ≡ [] → ((j : ℕ) → 1 ≤ j → j ≤ k → is_over setup pieces j ≡ false) → IsPiecesEnd (session setup pieces).answer
ends_first setup pieces k within none goes_on =
    let whole : k ≡ length pieces = omega (arith, within, length-drop k pieces, ap length none) in
    subst (λ (o : Outcome). IsPiecesEnd o.answer) (sym (session_end setup pieces (λ j low high. goes_on j low (omega (arith, high, whole))))) (pieces_end (read_first setup pieces (length pieces)).past _ refl)

ended_of_handled : (setup : Setup) (pieces : List Piece) (left : Option (List Piece)) (readings readings_left : Option (List ℕ)) (old new : List EisRequest) (took_old took_new : SinkView) → left ≡ Some [] →
    Handled setup pieces left readings readings_left old new took_old took_new → IsPiecesEnd (session setup pieces).answer
ended_of_handled setup pieces left readings readings_left old new took_old took_new none h = ends_first setup pieces h.k h.took.within (none_behind_k left (drop h.k pieces) h.took.left_is none) h.goes_on

-- ---- what a session says

-- what a session says of the pieces of its source
pub record Says (setup : Setup) (pieces : List Piece) (left : Option (List Piece)) (readings readings_left : Option (List ℕ)) (answer : Result HowEnded Error) (old new : List EisRequest) (took_old took_new : SinkView) : Type 0 where
  pub answers : AnswersAs (session setup pieces).answer answer
  pub gives : IsDecided answer → HandsOut setup (session setup pieces).handled readings old new
  pub replied : IsDecided answer → Replied setup (session setup pieces).handled took_old took_new
  pub clock : IsDecided answer → LeftReadings setup (session setup pieces).handled readings readings_left
  pub handled : IsErrOf answer error.ReadFault → Handled setup pieces left readings readings_left old new took_old took_new
  pub taken : IsDecided answer → TookAllOf setup pieces left answer
  pub cut : IsCutShort answer → CutShort setup pieces left readings readings_left old new took_old took_new

-- the same over a source that went on, of the pieces of a text
pub record Served {I : Type 0} (view : I → InputView) (later : I → I → Type 0) (input after : I) (y : HexSource I) (setup : Setup) (t : List ℕ) (left readings readings_left : Option (List ℕ)) (answer : Result HowEnded Error) (old new : List EisRequest) (took_old took_new : SinkView) : Type 0 where
  pub went : Went view later input after y answer
  pub begins : Begins view input y t left
  pub says : Says setup (pieces_of t) (Some (pieces_of (y.held ++ begins.more))) readings readings_left answer old new took_old took_new

pub served : {I : Type 0} (view : I → InputView) (later : I → I → Type 0) (input after : I) (x y : HexSource I) (setup : Setup) (t : List ℕ) (left readings readings_left : Option (List ℕ)) (answer : Result HowEnded Error) (old new : List EisRequest) (took_old took_new : SinkView) →
    text_reading x ≡ fresh input → Went view later input after y answer → IsText view input after t left →
    ((pieces : List Piece) (rest : Option (List Piece)) → ArePieces (source_of view x) (source_of view y) (IsSourceEnd answer) pieces rest → Says setup pieces rest readings readings_left answer old new took_old took_new) →
    Served view later input after y setup t left readings readings_left answer old new took_old took_new
served {I} view later input after x y setup t left readings readings_left answer old new took_old took_new fresh_one w is says =
    let b = text_begins view later input (text_reading y) w.reading t left (subst (λ (a : I). IsText view input a t left) w.same is) in
    record { went = w; begins = b; says = says (pieces_of t) (Some (pieces_of (y.held ++ b.more))) (are_pieces w b x fresh_one) }

answer_same : (answer : Result HowEnded Error) → last_line.Answer answer ≡ last_line.Answer (Err error.ReadFault) → answer ≡ Err error.ReadFault
answer_same answer e = cc

bad_not_answer : (n : ℕ) (answer : Result HowEnded Error) → last_line.BadLine n ≡ last_line.Answer answer → ⊥
bad_not_answer n answer e = cc

bad_same : (n m : ℕ) → last_line.BadLine n ≡ last_line.BadLine m → n ≡ m
bad_same n m e = cc

answer_not_bad : (answer : Result HowEnded Error) (n : ℕ) → last_line.Answer answer ≡ last_line.BadLine n → ⊥
answer_not_bad answer n e = cc

-- of all pieces the first k were taken, and these are left behind them
record FirstTaken (all first : List Piece) (k : ℕ) : Type 0 where
  pub number : k ≡ length first
  pub same : take k all ≡ first

first_taken : (all first behind : List Piece) (k : ℕ) → k ≤ length all → all ≡ first ++ behind → drop k all ≡ behind → FirstTaken all first k
first_taken all first behind k within whole left =
    let n : k ≡ length first = omega (arith, within, ap length whole, length-append first behind, ap length left, length-drop k all) in
    record { number = n; same = ap (take k) whole ∙ take_at first behind k (sym n) }

pieces_same : (a b : List Piece) → Some a ≡ Some b → a ≡ b
pieces_same a b e = cc

not_bad : (P : Type 0) (bad : Option ℕ) → P ⊎ IsSome bad → bad ≡ None → P
not_bad P bad (inl q) none = q
not_bad P None (inr some) none = absurd cc
not_bad P (Some n) (inr some) none = absurd cc

-- a source whose pieces were all taken, with none of which the session was over
took_to_end : (setup : Setup) (pieces : List Piece) (left : Option (List Piece)) (readings readings_left : Option (List ℕ)) (old new : List EisRequest) (took_old took_new : SinkView) → left ≡ Some [] →
    Handled setup pieces left readings readings_left old new took_old took_new → TookToTheEnd setup pieces left
took_to_end setup pieces left readings readings_left old new took_old took_new none h =
    let spent : drop h.k pieces ≡ [] = none_behind_k left (drop h.k pieces) h.took.left_is none in
    let whole : h.k ≡ length pieces = omega (arith, h.took.within, length-drop h.k pieces, ap length spent) in
    record {
      took = subst (λ (n : ℕ). TookPieces pieces left n) whole h.took;
      goes_on = λ j low high. h.goes_on j low (omega (arith, high, whole));
    }

module _
    {I : Type 0} {view : I → InputView} {later : I → I → Type 0} {input after : I} {y : HexSource I} {answer : Result HowEnded Error}
    (w : Went view later input after y answer) where
  pub line_fault : (bad : Option ℕ) → bad ≡ (text_reading y).bad → IsReadFault (last_line_of bad answer) → Rose (view input).faults (view after).faults
  line_fault None is e = unmet_rose w (sym is) (answer_same answer e)
  line_fault (Some n) is e = absurd (bad_not_answer n (Err error.ReadFault) e)

  -- and that was its last answer
  pub line_last : (bad : Option ℕ) → bad ≡ (text_reading y).bad → IsReadFault (last_line_of bad answer) → (view after).last ≡ answers.Fault
  line_last None is e =
      let here = not_bad (FailsHere view (text_reading y)) (text_reading y).bad (w.truly.fails (w.last_fault (answer_same answer e))) (sym is) in
      ap (λ (a : I). (view a).last) w.same ∙ here.1
  line_last (Some n) is e = absurd (bad_not_answer n (Err error.ReadFault) e)

  -- where its count of faults rose, that is told
  pub line_risen : (bad : Option ℕ) → bad ≡ (text_reading y).bad → (view input).faults < (view after).faults → TellsFault (last_line_of bad answer)
  line_risen None is rose = inl (ap last_line.Answer (w.risen (omega (arith, rose, ap (λ (a : I). (view a).faults) w.same))))
  line_risen (Some n) is rose = inr (n, refl)

  -- a bad line was met
  pub line_met : (bad : Option ℕ) (n : ℕ) → bad ≡ (text_reading y).bad → IsBadLine n (last_line_of bad answer) → MetBadLine view input after n
  line_met None n is e = absurd (answer_not_bad answer n e)
  line_met (Some m) n is e =
      subst (λ (a : I). MetBadLine view input a n) (sym w.same)
      (met_bad_line view later input (text_reading y) n w.reading (sym is ∙ ap (λ k. Some k) (bad_same m n e)))

module _
    {I : Type 0} {view : I → InputView} {later : I → I → Type 0} {input after : I} {y : HexSource I} {setup : Setup}
    {t : List ℕ} {left readings readings_left : Option (List ℕ)} {answer : Result HowEnded Error} {old new : List EisRequest} {took_old took_new : SinkView}
    (s : Served view later input after y setup t left readings readings_left answer old new took_old took_new) where
  abbrev behind_text : List Piece
  behind_text = pieces_of (y.held ++ s.begins.more)

  pub line_ends : (bad : Option ℕ) → bad ≡ (text_reading y).bad → IsDecidedLine (last_line_of bad answer) → EndsAs (end_of setup t) (last_line_of bad answer)
  line_ends None is d =
      answered (session setup (pieces_of t)).answer (number_from 0 (bad_line_of t)) answer s.says.answers d (λ n bad end. no_bad_line s.went s.begins n end bad)
  line_ends (Some n) is d =
      let fault = met_fault s.went n (sym is) in
      let at_the_end = ended_of_handled setup (pieces_of t) (Some behind_text) readings readings_left old new took_old took_new (none_behind s.went s.begins n (sym is)) (s.says.handled fault) in
      ended_bad (session setup (pieces_of t)).answer (number_from 0 (bad_line_of t)) n at_the_end (number_is s.went s.begins n (sym is))

  pub line_handles : (bad : Option ℕ) → bad ≡ (text_reading y).bad → IsDecidedLine (last_line_of bad answer) → Both setup (session setup (pieces_of t)).handled readings old new took_old took_new
  line_handles None is d = (s.says.gives d, s.says.replied d)
  line_handles (Some n) is d =
      let fault = met_fault s.went n (sym is) in
      all_of_handled setup (pieces_of t) (Some behind_text) readings readings_left old new took_old took_new (none_behind s.went s.begins n (sym is)) (s.says.handled fault)

  pub line_clock : (bad : Option ℕ) → IsAnswered (last_line_of bad answer) → LeftReadings setup (session setup (pieces_of t)).handled readings readings_left
  line_clock None d = s.says.clock d
  line_clock (Some n) d = absurd d

  -- the lines that were taken, and what waits behind them
  took_lines : (Took : Option (List Piece) → Type 0) → Took (Some behind_text) → TookLines t (fetches_since view input after) left Took
  took_lines Took so =
      let lines = gave_lines view later input (text_reading y) s.went.reading in
      let spent : pieces_left y.held left ≡ Some behind_text = ap (pieces_left y.held) s.begins.left_is in
      record {
        pieces = (text_reading y).pieces;
        waiting = y.held;
        gave = subst (λ (a : I). GaveLines (fetches_since view input a) (text_reading y).pieces y.held) (sym s.went.same) lines;
        more = behind_text;
        first = pieces_are s.went s.begins;
        left_is = spent;
        took = subst Took (sym spent) so;
      }

  pub line_cut : (bad : Option ℕ) → IsCutShortLine (last_line_of bad answer) →
      TookLines t (fetches_since view input after) left (λ pieces. CutShort setup (pieces_of t) pieces readings readings_left old new took_old took_new)
  line_cut None d = took_lines (λ pieces. CutShort setup (pieces_of t) pieces readings readings_left old new took_old took_new) (s.says.cut d)
  line_cut (Some n) d = absurd d

  pub line_took : (bad : Option ℕ) → bad ≡ (text_reading y).bad → IsDecidedLine (last_line_of bad answer) →
      TookLines t (fetches_since view input after) left (TookAllAs setup (pieces_of t) (last_line_of bad answer))
  line_took None is d = took_lines (TookAllAs setup (pieces_of t) (last_line.Answer answer)) (s.says.taken d)
  line_took (Some n) is d =
      took_lines (TookAllAs setup (pieces_of t) (last_line.BadLine n))
      (took_to_end setup (pieces_of t) (Some behind_text) readings readings_left old new took_old took_new (none_behind s.went s.begins n (sym is))
      (s.says.handled (met_fault s.went n (sym is))))

  given_of : (text_reading y).bad ≡ None → IsErrOf answer error.ReadFault → HandledGiven setup t left readings readings_left old new took_old took_new
  given_of none e =
      let here = not_bad (FailsHere view (text_reading y)) (text_reading y).bad (s.went.truly.fails (s.went.last_fault e)) none in
      let h = s.says.handled e in
      let whole = pieces_are s.went s.begins in
      let f = first_taken (pieces_of t) (text_reading y).pieces behind_text h.k h.took.within whole (sym (pieces_same behind_text (drop h.k (pieces_of t)) h.took.left_is)) in
      record {
        pieces = (text_reading y).pieces;
        given = lines_given s.went s.begins here.0;
        first = (behind_text, whole);
        goes_on = λ j low high. h.goes_on j low (omega (arith, high, f.number));
        requests = subst (λ (v : List Piece). HandsOut setup (accepted setup (stream v)) readings old new) f.same h.requests;
        replies = subst (λ (v : List Piece). Replied setup (accepted setup (stream v)) took_old took_new) f.same h.replies;
        readings_left = subst (λ (v : List Piece). LeftReadings setup (accepted setup (stream v)) readings readings_left) f.same h.readings_left;
      }

  pub line_given : (bad : Option ℕ) → bad ≡ (text_reading y).bad → IsReadFault (last_line_of bad answer) → HandledGiven setup t left readings readings_left old new took_old took_new
  line_given None is e = given_of (sym is) (answer_same answer e)
  line_given (Some n) is e = absurd (bad_not_answer n (Err error.ReadFault) e)

-- ---- nothing was handled

readings_of : (told : Option (List ℕ)) → (readings : List ℕ) × AreReadings told readings
readings_of None = ([], tt)
readings_of (Some told) = (told, refl)

framed_none : (setup : Setup) (readings : List ℕ) → framed setup readings [] ≡ []
unfolding framed each grouped joined
framed_none setup readings = refl

none_grown : (setup : Setup) (readings : List ℕ) (out : List EisRequest) → out ≡ out ++ map (request_in_code []) (framed setup readings [])
none_grown setup readings out = rw (framed_none setup readings) (sym (append-nil out))

none_more : (text : List ℕ) (held : Piece) → with_more (take 0 text) [] held ≡ held
none_more text held = simp append-nil

none_owed : (setup : Setup) (pieces : List Piece) → 0 < 0 → (done : List Raw) × ([] ≡ done ++ accepted setup (stream (take (0 - 1) pieces)))
none_owed setup pieces lt = absurd (omega arith)

none_replied : (setup : Setup) (pieces : List Piece) (took : SinkView) → 0 < 0 → RepliedAtLeast setup (accepted setup (stream (take (0 - 1) pieces))) took took
none_replied setup pieces took lt = absurd (omega arith)

-- nothing was asked for
pub fetched_none : {I : Type 0} (view : I → InputView) (input : I) → fetches_since view input input ≡ []
fetched_none view input = drop_all (length (view input).fetches) (view input).fetches (omega arith)

none_gave : (fetches : List Fetched) → fetches ≡ [] → GaveLines fetches [] []
none_gave fetches none = record {
  lines = [];
  same = ap given_in none;
  spelled = refl;
  room = omega arith;
  open_yet = λ k lt. absurd (omega (arith, ap length none, lt));
  needed = λ k lt. absurd (omega (arith, ap length none, lt));
}

-- no piece was taken, and no message handled
pub nothing_handled : (setup : Setup) (text : List ℕ) (fetches : List Fetched) (left readings : Option (List ℕ)) (out : List EisRequest) (took : SinkView) → fetches ≡ [] → left ≡ Some text →
    TookLines text fetches left (λ pieces. CutShort setup (pieces_of text) pieces readings readings out out took took)
nothing_handled setup text fetches left readings out took none told =
    let r = readings_of readings in
    record {
      pieces = [];
      waiting = [];
      gave = none_gave fetches none;
      more = pieces_of text;
      first = refl;
      left_is = ap (pieces_left []) told;
      took = record {
        k = 0;
        took = record { within = omega arith; left_is = ap (pieces_left []) told };
        reached = [];
        ahead = ((session setup (pieces_of text)).handled, sym (append-nil (session setup (pieces_of text)).handled));
        owed = none_owed setup (pieces_of text);
        requests = record { readings = r.0; told_so = r.1; grown = none_grown setup r.0 out };
        replies = record {
          told = λ held is. (0, is ∙ ap (λ (x : Piece). Some x) (sym (none_more (reply_bytes setup []) held)));
          puts = no_replies setup [] took.puts;
        };
        readings_left = record { n = 0; least = omega (arith, no_frames setup); most = omega arith; left = λ told is. is };
        replied = none_replied setup (pieces_of text) took;
      };
    }
