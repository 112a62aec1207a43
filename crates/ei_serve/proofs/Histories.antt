-- What a session stands for after one more piece, and what the first pieces leave of the whole.
use Rattle.std.proofs.Common.{◌≡◌, ℕ, ◌+◌, ◌-◌, ◌<◌, ◌≤◌, zero, suc, ◌⊎◌, Bool, true, false, not, cond, ltb, ◌||◌, List, [], ◌∷◌, ◌++◌, length, take, drop}
use Rattle.std.proofs.Common.{refl, sym, ap, subst, ◌∙◌, arith, inl, inr}
use Rattle.std.proofs.lemmas.Bool.{cases_lt, both_ways, or_from, or_left, or_right, not_from_false, le-ltb, lt-ltb}
use Rattle.std.proofs.lemmas.List.{append-nil, length-take, length_push, take_all, take_at, take-take, take-append-le, take-append-drop}
use Rattle.std.proofs.lemmas.List.Sums.{sum_by_push}
use Rattle.std.proofs.lemmas.Grind.{flat_map-append}
use Rattle.ei_spec.specs.Message.{Raw}
use Rattle.ei_spec.specs.Piece.{Piece, stream, handle_count}
use Rattle.ei_spec.specs.Stream.{Stop, Waiting, Ended, HeaderLength, Refusal, Reading, Verdict, read, go_on}
use Rattle.ei_spec.proofs.GoesOn as goes_on
use Rattle.ei_session.specs.Setup.{Setup}
use Rattle.ei_session.specs.Handshake.{connected}
use Rattle.ei_session.specs.Refusals.{Refusal as Cause, judge}
use Rattle.ei_session.specs.Served.{Answer, Disconnect, End, UnexpectedEof, IdsExhausted, PieceLimit, HandleLimit, Refused, Outcome, answer_of}
use Rattle.ei_session.specs.Served.{answer_at, is_waiting}
use Rattle.ei_session.specs.Served.{too_many_handles, at_end, reading_of, read_first, is_over, over_at}
use Rattle.ei_session.specs.Served.{reading_of, accepted, read_first, is_over, over_at, session}
use Rattle.ei_session.proofs.AllParts.{session_over, session_end}
use Rattle.ei_serve.specs.Taking.{with_next}
use Rattle.ei_serve.proofs.Going.{extends}

-- ---- one more piece

stream_append : (a b : List Piece) → stream (a ++ b) ≡ stream a ++ stream b
unfolding stream
stream_append a b = flat_map-append (λ (p : Piece). p.bytes) a b

stream_one : (piece : Piece) → stream (piece ∷ []) ≡ piece.bytes
unfolding stream
stream_one piece = append-nil piece.bytes

pub stream_more : (pieces : List Piece) (piece : Piece) → stream (with_next pieces piece) ≡ stream pieces ++ piece.bytes
stream_more pieces piece = stream_append pieces (piece ∷ []) ∙ ap (λ (x : List ℕ). stream pieces ++ x) (stream_one piece)

pub count_more : (pieces : List Piece) (piece : Piece) → handle_count (with_next pieces piece) ≡ handle_count pieces + length piece.handles
unfolding handle_count
count_more pieces piece = sum_by_push (λ (p : Piece). length p.handles) pieces piece

go_on_waiting : {E : Type 0} (judged : List Raw → Raw → Verdict E) (r : Reading E) (more : List ℕ) → r.stop ≡ Waiting → go_on judged r more ≡ read judged r.past (r.rest ++ more)
unfolding go_on
go_on_waiting judged r more e = rw (e, go_on) refl

-- reading goes on over a cut
reading_cut : (setup : Setup) (bytes more : List ℕ) → reading_of setup (bytes ++ more) ≡ go_on (judge setup) (reading_of setup bytes) more
unfolding reading_of
reading_cut setup bytes more = goes_on.cut (judge setup) [] bytes more

pub reading_more : (setup : Setup) (pieces : List Piece) (piece : Piece) → (reading_of setup (stream pieces)).stop ≡ Waiting → reading_of setup (stream (with_next pieces piece)) ≡ read (judge setup) (accepted setup (stream pieces)) ((reading_of setup (stream pieces)).rest ++ piece.bytes)
reading_more setup pieces piece e = ap (λ (x : List ℕ). reading_of setup x) (stream_more pieces piece) ∙ reading_cut setup (stream pieces) piece.bytes ∙ go_on_waiting (judge setup) (reading_of setup (stream pieces)) piece.bytes e

-- ---- whether it goes on

-- no piece is the last
abbrev pub GoesOn : Setup → List Piece → Type 0
GoesOn setup pieces = (k : ℕ) → 1 ≤ k → k ≤ length pieces → is_over setup pieces k ≡ false

-- what a session is at a piece is told by the pieces up to it
over_same : (setup : Setup) (a b : List Piece) (k : ℕ) → take k a ≡ take k b → is_over setup a k ≡ is_over setup b k
unfolding is_over too_many_handles read_first
over_same setup a b k e = ap (λ (x : List Piece). ltb setup.pieces k || (ltb 4096 (handle_count x) || not (is_waiting (reading_of setup (stream x)).stop))) e

not_over : (setup : Setup) (pieces : List Piece) (k : ℕ) → k ≤ setup.pieces → handle_count (take k pieces) ≤ 4096 → (reading_of setup (stream (take k pieces))).stop ≡ Waiting → is_over setup pieces k ≡ false
unfolding is_over too_many_handles read_first
not_over setup pieces k room few e = or_from _ _ (le-ltb setup.pieces k room) (or_from _ _ (le-ltb 4096 _ few) (ap (λ s. not (is_waiting s)) e))

-- the pieces so far, and all with the next
take_before : (pieces : List Piece) (piece : Piece) (k : ℕ) → k ≤ length pieces → take k (with_next pieces piece) ≡ take k pieces
take_before pieces piece k le = take-append-le k pieces (piece ∷ []) le

take_so_far : (pieces : List Piece) (piece : Piece) → take (length pieces + 1 - 1) (with_next pieces piece) ≡ pieces
take_so_far pieces piece = take_at pieces (piece ∷ []) (length pieces + 1 - 1) (omega arith)

take_with_next : (pieces : List Piece) (piece : Piece) (k : ℕ) → k ≡ length pieces + 1 → take k (with_next pieces piece) ≡ with_next pieces piece
take_with_next pieces piece k e = take_all k (with_next pieces piece) (omega (arith, length_push pieces piece))

before_next : (setup : Setup) (pieces : List Piece) (piece : Piece) → GoesOn setup pieces → (k : ℕ) → 1 ≤ k → k ≤ length pieces → is_over setup (with_next pieces piece) k ≡ false
before_next setup pieces piece on k low high = over_same setup (with_next pieces piece) pieces k (take_before pieces piece k high) ∙ on k low high

pub goes_on_more : (setup : Setup) (pieces : List Piece) (piece : Piece) → GoesOn setup pieces → length pieces < setup.pieces → handle_count (with_next pieces piece) ≤ 4096 → (reading_of setup (stream (with_next pieces piece))).stop ≡ Waiting → GoesOn setup (with_next pieces piece)
goes_on_more setup pieces piece on room few waits k low high =
    elim (cases_lt (length pieces) k) [
      | inl lt ↦
          let n = length_push pieces piece in
          let t = take_with_next pieces piece k (omega (arith, n)) in
          not_over setup (with_next pieces piece) k (omega (arith, n)) (rw t few) (rw t waits)
      | inr ge ↦ before_next setup pieces piece on k low ge
    ]

-- ---- how it ends

pub going : (setup : Setup) (pieces : List Piece) → GoesOn setup pieces → session setup pieces ≡ at_end (accepted setup (stream pieces))
unfolding read_first
going setup pieces on = session_end setup pieces on ∙ ap (λ (x : List Piece). at_end (accepted setup (stream x))) (take_all (length pieces) pieces (omega arith))

-- it is over with the next piece
over_next : (setup : Setup) (pieces : List Piece) (piece : Piece) → GoesOn setup pieces → is_over setup (with_next pieces piece) (length pieces + 1) ≡ true → session setup (with_next pieces piece) ≡ over_at setup (with_next pieces piece) (length pieces + 1)
over_next setup pieces piece on over =
    session_over setup (with_next pieces piece) (length pieces + 1) (omega arith) (omega (arith, length_push pieces piece)) (λ j low lt. before_next setup pieces piece on j low (omega arith)) over

-- why it is over with a piece
over_pieces : (setup : Setup) (pieces : List Piece) (k : ℕ) → setup.pieces < k → is_over setup pieces k ≡ true
unfolding is_over
over_pieces setup pieces k lt = or_left _ _ (lt-ltb setup.pieces k lt)

over_handles : (setup : Setup) (pieces : List Piece) (k : ℕ) → too_many_handles pieces k ≡ true → is_over setup pieces k ≡ true
unfolding is_over
over_handles setup pieces k many = or_right _ _ (or_left _ _ many)

over_stop : (setup : Setup) (pieces : List Piece) (k : ℕ) → is_waiting (read_first setup pieces k).stop ≡ false → is_over setup pieces k ≡ true
unfolding is_over
over_stop setup pieces k e = or_right _ _ (or_right _ _ (not_from_false _ e))

-- the outcome then
at_pieces : (setup : Setup) (pieces : List Piece) (m : ℕ) → setup.pieces < m → over_at setup pieces m ≡ record { handled = (read_first setup pieces (m - 1)).past; answer = PieceLimit }
unfolding over_at
at_pieces setup pieces m lt = rw (lt-ltb setup.pieces m lt, over_at) refl

at_handles : (setup : Setup) (pieces : List Piece) (m : ℕ) → m ≤ setup.pieces → too_many_handles pieces m ≡ true → over_at setup pieces m ≡ record { handled = (read_first setup pieces (m - 1)).past; answer = HandleLimit }
unfolding over_at
at_handles setup pieces m le many = rw (le-ltb setup.pieces m le, many, over_at) refl

at_stop : (setup : Setup) (pieces : List Piece) (m : ℕ) → m ≤ setup.pieces → too_many_handles pieces m ≡ false → over_at setup pieces m ≡ record { handled = (read_first setup pieces m).past; answer = answer_at (read_first setup pieces m) }
unfolding over_at
at_stop setup pieces m le few = rw (le-ltb setup.pieces m le, few, over_at) refl

-- the first pieces, and how many handles come with them
few_with : (pieces : List Piece) (piece : Piece) → handle_count (with_next pieces piece) ≤ 4096 → too_many_handles (with_next pieces piece) (length pieces + 1) ≡ false
unfolding too_many_handles
few_with pieces piece few = rw (take_with_next pieces piece (length pieces + 1) refl) (le-ltb 4096 _ few)

many_with : (pieces : List Piece) (piece : Piece) → 4096 < handle_count (with_next pieces piece) → too_many_handles (with_next pieces piece) (length pieces + 1) ≡ true
unfolding too_many_handles
many_with pieces piece many = rw (take_with_next pieces piece (length pieces + 1) refl) (lt-ltb 4096 _ many)

read_with : (setup : Setup) (pieces : List Piece) (piece : Piece) → read_first setup (with_next pieces piece) (length pieces + 1) ≡ reading_of setup (stream (with_next pieces piece))
unfolding read_first
read_with setup pieces piece = ap (λ (x : List Piece). reading_of setup (stream x)) (take_with_next pieces piece (length pieces + 1) refl)

read_without : (setup : Setup) (pieces : List Piece) (piece : Piece) → read_first setup (with_next pieces piece) (length pieces + 1 - 1) ≡ reading_of setup (stream pieces)
unfolding read_first
read_without setup pieces piece = ap (λ (x : List Piece). reading_of setup (stream x)) (take_so_far pieces piece)

pub stopped : (setup : Setup) (pieces : List Piece) (piece : Piece) → GoesOn setup pieces → length pieces < setup.pieces → handle_count (with_next pieces piece) ≤ 4096 → is_waiting (reading_of setup (stream (with_next pieces piece))).stop ≡ false → session setup (with_next pieces piece) ≡ record { handled = accepted setup (stream (with_next pieces piece)); answer = answer_at (reading_of setup (stream (with_next pieces piece))) }
stopped setup pieces piece on room few stops =
    let r = read_with setup pieces piece in
    over_next setup pieces piece on (over_stop setup (with_next pieces piece) (length pieces + 1) (ap (λ x. is_waiting x.stop) r ∙ stops))
    ∙ at_stop setup (with_next pieces piece) (length pieces + 1) (omega arith) (few_with pieces piece few)
    ∙ rw r refl

pub too_many_pieces : (setup : Setup) (pieces : List Piece) (piece : Piece) → GoesOn setup pieces → setup.pieces ≤ length pieces → session setup (with_next pieces piece) ≡ record { handled = accepted setup (stream pieces); answer = PieceLimit }
too_many_pieces setup pieces piece on full =
    over_next setup pieces piece on (over_pieces setup (with_next pieces piece) (length pieces + 1) (omega arith))
    ∙ at_pieces setup (with_next pieces piece) (length pieces + 1) (omega arith)
    ∙ rw (read_without setup pieces piece) refl

pub too_many_handles_come : (setup : Setup) (pieces : List Piece) (piece : Piece) → GoesOn setup pieces → length pieces < setup.pieces → 4096 < handle_count (with_next pieces piece) → session setup (with_next pieces piece) ≡ record { handled = accepted setup (stream pieces); answer = HandleLimit }
too_many_handles_come setup pieces piece on room many =
    let m = many_with pieces piece many in
    over_next setup pieces piece on (over_handles setup (with_next pieces piece) (length pieces + 1) m)
    ∙ at_handles setup (with_next pieces piece) (length pieces + 1) (omega arith) m
    ∙ rw (read_without setup pieces piece) refl

-- ---- the first pieces of more

-- the answer is that of a piece, and not of the end
abbrev pub IsEarly : Answer → Type 0
IsEarly End = ⊥
IsEarly UnexpectedEof = ⊥
IsEarly answer = Unit {0}

end_is_late : (b : Bool) → IsEarly (cond b End UnexpectedEof) → ⊥
end_is_late true h = h
end_is_late false h = h

-- where the answer is early, the session is over with the last piece
over_by : (setup : Setup) (pieces : List Piece) (piece : Piece) (b : Bool) → GoesOn setup pieces → IsEarly (session setup (with_next pieces piece)).answer → is_over setup (with_next pieces piece) (length pieces + 1) ≡ b → b ≡ true
over_by setup pieces piece true on early e = refl
over_by setup pieces piece false on early e =
    let none : GoesOn setup (with_next pieces piece) = λ k low high. elim (cases_lt (length pieces) k) [
      | inl lt ↦ let same : k ≡ length pieces + 1 = omega (arith, lt, high, length_push pieces piece) in ap (is_over setup (with_next pieces piece)) same ∙ e
      | inr ge ↦ before_next setup pieces piece on k low ge
    ] in
    absurd (end_is_late (connected (accepted setup (stream (with_next pieces piece)))) (subst (λ (o : Outcome). IsEarly o.answer) (going setup (with_next pieces piece) none) early))

pub over_early : (setup : Setup) (pieces : List Piece) (piece : Piece) → GoesOn setup pieces → IsEarly (session setup (with_next pieces piece)).answer → is_over setup (with_next pieces piece) (length pieces + 1) ≡ true
over_early setup pieces piece on early = over_by setup pieces piece (is_over setup (with_next pieces piece) (length pieces + 1)) on early refl

-- the answer is that of a stream which stopped
abbrev pub IsStopped : Answer → Type 0
IsStopped Disconnect = Unit {0}
IsStopped IdsExhausted = Unit {0}
IsStopped (Refused refusal) = Unit {0}
IsStopped answer = ⊥

pub end_is_no_stop : (b : Bool) → IsStopped (cond b End UnexpectedEof) → ⊥
end_is_no_stop true h = h
end_is_no_stop false h = h

pub not_waiting : (stop : Stop Cause) (past : List Raw) (answer : Answer) → answer_of stop past ≡ answer → IsStopped answer → is_waiting stop ≡ false
not_waiting Waiting past answer e s = absurd (end_is_no_stop (connected past) (subst IsStopped (sym e) s))
not_waiting Ended past answer e s = refl
not_waiting (HeaderLength n) past answer e s = refl
not_waiting (Refusal c) past answer e s = refl

-- none of the first n numbers passes
abbrev NonePass : (ℕ → Bool) → ℕ → Type 0
NonePass test n = (j : ℕ) → 1 ≤ j → j ≤ n → test j ≡ false

-- or one of them is the first that does
record First (test : ℕ → Bool) (n : ℕ) : Type 0 where
  at : ℕ
  low : 1 ≤ at
  high : at ≤ n
  before : (j : ℕ) → 1 ≤ j → j < at → test j ≡ false
  passes : test at ≡ true

next_first : (test : ℕ → Bool) (n : ℕ) (b : Bool) → test (suc n) ≡ b → NonePass test n → NonePass test (suc n) ⊎ First test (suc n)
next_first test n true e none = inr (record { at = suc n; low = omega arith; high = omega arith; before = λ j low lt. none j low (omega arith); passes = e })
next_first test n false e none = inl (λ j low high. elim (cases_lt n j) [
  | inl lt ↦ let same : j ≡ suc n = omega arith in ap test same ∙ e
  | inr le ↦ none j low le
])

first_among : (test : ℕ → Bool) (n : ℕ) → NonePass test n ⊎ First test n
first_among test zero = inl (λ j low high. absurd (omega arith))
first_among test (suc n) = elim (first_among test n) [
  | inl none ↦ next_first test n (test (suc n)) refl none
  | inr f ↦ inr (record { at = f.at; low = f.low; high = omega (arith, f.high); before = f.before; passes = f.passes })
]

-- of the first k pieces, the first m
take_of_front : (pieces : List Piece) (m k : ℕ) → m ≤ k → take m (take k pieces) ≡ take m pieces
take_of_front pieces m k le = take-take m k pieces le

pub front_same : (setup : Setup) (pieces : List Piece) (k m : ℕ) → m ≤ k → is_over setup (take k pieces) m ≡ is_over setup pieces m
front_same setup pieces k m le = over_same setup (take k pieces) pieces m (take_of_front pieces m k le)

-- the outcome at a piece is told by the pieces up to it
over_at_same : (setup : Setup) (a b : List Piece) (m : ℕ) → take m a ≡ take m b → take (m - 1) a ≡ take (m - 1) b → over_at setup a m ≡ over_at setup b m
unfolding over_at too_many_handles read_first
over_at_same setup a b m e f =
    ap (λ (x : List Piece). cond (ltb setup.pieces m) (record { handled = (reading_of setup (stream (take (m - 1) a))).past; answer = PieceLimit })
    (cond (ltb 4096 (handle_count x)) (record { handled = (reading_of setup (stream (take (m - 1) a))).past; answer = HandleLimit })
    (record { handled = (reading_of setup (stream x)).past; answer = answer_at (reading_of setup (stream x)) }))) e
    ∙ ap (λ (x : List Piece). cond (ltb setup.pieces m) (record { handled = (reading_of setup (stream x)).past; answer = PieceLimit })
    (cond (ltb 4096 (handle_count (take m b))) (record { handled = (reading_of setup (stream x)).past; answer = HandleLimit })
    (record { handled = (reading_of setup (stream (take m b))).past; answer = answer_at (reading_of setup (stream (take m b))) }))) f

front_over : (setup : Setup) (pieces : List Piece) (k : ℕ) → First (is_over setup (take k pieces)) (length (take k pieces)) → session setup pieces ≡ session setup (take k pieces)
front_over setup pieces k f =
    let m = f.at in
    let low = f.low in
    let high = f.high in
    let n = length-take k pieces in
    let le : m ≤ k = omega arith in
    session_over setup pieces m low (omega arith) (λ j a b. sym (front_same setup pieces k j (omega arith)) ∙ f.before j a b) (sym (front_same setup pieces k m le) ∙ f.passes)
    ∙ over_at_same setup pieces (take k pieces) m (sym (take_of_front pieces m k le)) (sym (take_of_front pieces (m - 1) k (omega arith)))
    ∙ sym (session_over setup (take k pieces) m low high f.before f.passes)

pub session_front : (setup : Setup) (pieces : List Piece) (k : ℕ) → IsEarly (session setup (take k pieces)).answer → session setup pieces ≡ session setup (take k pieces)
session_front setup pieces k early =
    elim (first_among (is_over setup (take k pieces)) (length (take k pieces))) [
      | inl none ↦ absurd (end_is_late _ (subst (λ (o : Outcome). IsEarly o.answer) (session_end setup (take k pieces) none) early))
      | inr f ↦ front_over setup pieces k f
    ]

-- ---- the messages of the first pieces

-- those of more bytes are more behind those before
stopped_past : (setup : Setup) (r : Reading Cause) (more : List ℕ) (stop : Stop Cause) → r.stop ≡ stop → (newer : List Raw) × ((go_on (judge setup) r more).past ≡ newer ++ r.past)
unfolding go_on
stopped_past setup r more Waiting e = let x = extends (judge setup) r.past (r.rest ++ more) in (x.0, rw (e, go_on) x.1)
stopped_past setup r more Ended e = ([], rw (e, go_on) refl)
stopped_past setup r more (HeaderLength n) e = ([], rw (e, go_on) refl)
stopped_past setup r more (Refusal c) e = ([], rw (e, go_on) refl)

accepted_more : (setup : Setup) (bytes more : List ℕ) → (newer : List Raw) × (accepted setup (bytes ++ more) ≡ newer ++ accepted setup bytes)
accepted_more setup bytes more =
    let r = reading_of setup bytes in
    let x = stopped_past setup r more r.stop refl in
    (x.0, ap (λ (t : Reading Cause). t.past) (reading_cut setup bytes more) ∙ x.1)

stream_front : (pieces : List Piece) (j k : ℕ) → j ≤ k → stream (take k pieces) ≡ stream (take j pieces) ++ stream (drop j (take k pieces))
stream_front pieces j k le =
    ap stream (sym (take-append-drop j (take k pieces)) ∙ ap (λ (x : List Piece). x ++ drop j (take k pieces)) (take_of_front pieces j k le))
    ∙ stream_append (take j pieces) (drop j (take k pieces))

pub accepted_front : (setup : Setup) (pieces : List Piece) (j k : ℕ) → j ≤ k → (more : List Raw) × (accepted setup (stream (take k pieces)) ≡ more ++ accepted setup (stream (take j pieces)))
accepted_front setup pieces j k le =
    let x = accepted_more setup (stream (take j pieces)) (stream (drop j (take k pieces))) in
    (x.0, ap (λ (t : List ℕ). accepted setup t) (stream_front pieces j k le) ∙ x.1)

-- what a session handles begins with the messages of the first k pieces
abbrev BeginsWith : Setup → Outcome → List Piece → ℕ → Type 0
BeginsWith setup o pieces k = (more : List Raw) × (o.handled ≡ more ++ accepted setup (stream (take k pieces)))

over_cases : (setup : Setup) (pieces : List Piece) (m k : ℕ) (full many : Bool) → k ≤ m - 1 → ltb setup.pieces m ≡ full → too_many_handles pieces m ≡ many → BeginsWith setup (over_at setup pieces m) pieces k
unfolding over_at read_first
over_cases setup pieces m k true many le e f = let x = accepted_front setup pieces k (m - 1) le in (x.0, rw (e, over_at) x.1)
over_cases setup pieces m k false true le e f = let x = accepted_front setup pieces k (m - 1) le in (x.0, rw (e, f, over_at) x.1)
over_cases setup pieces m k false false le e f = let x = accepted_front setup pieces k m (omega arith) in (x.0, rw (e, f, over_at) x.1)

over_after : (setup : Setup) (pieces : List Piece) (m k : ℕ) → k ≤ m - 1 → BeginsWith setup (over_at setup pieces m) pieces k
over_after setup pieces m k le = over_cases setup pieces m k (ltb setup.pieces m) (too_many_handles pieces m) le refl refl

-- it ends with that piece, and takes it
over_here : (setup : Setup) (pieces : List Piece) (m k : ℕ) → m ≡ k → m ≤ setup.pieces → too_many_handles pieces m ≡ false → BeginsWith setup (over_at setup pieces m) pieces k
unfolding read_first
over_here setup pieces m k same room few = ([], ap (λ (o : Outcome). o.handled) (at_stop setup pieces m room few) ∙ ap (λ (n : ℕ). accepted setup (stream (take n pieces))) same)

end_after : (setup : Setup) (pieces : List Piece) (k : ℕ) → k ≤ length pieces → NonePass (is_over setup pieces) (length pieces) → BeginsWith setup (session setup pieces) pieces k
unfolding read_first
end_after setup pieces k le none =
    let x = accepted_front setup pieces k (length pieces) le in
    (x.0, ap (λ (o : Outcome). o.handled) (session_end setup pieces none) ∙ x.1)

-- what the session handles, from what it handles where it is over with a piece
handled_from : (setup : Setup) (pieces : List Piece) (k : ℕ) → k ≤ length pieces → ((m : ℕ) → is_over setup pieces m ≡ true → 1 ≤ m → BeginsWith setup (over_at setup pieces m) pieces k) → BeginsWith setup (session setup pieces) pieces k
handled_from setup pieces k le over =
    elim (first_among (is_over setup pieces) (length pieces)) [
      | inl none ↦ end_after setup pieces k le none
      | inr f ↦
          let x = over f.at f.passes f.low in
          (x.0, ap (λ (o : Outcome). o.handled) (session_over setup pieces f.at f.low f.high f.before f.passes) ∙ x.1)
    ]

-- it is over with no piece up to the kth
later : (setup : Setup) (pieces : List Piece) (k m : ℕ) → k ≤ length pieces → GoesOn setup (take k pieces) → is_over setup pieces m ≡ true → 1 ≤ m → k < m
later setup pieces k m le on over low =
    elim (cases_lt k m) [
      | inl lt ↦ lt
      | inr ge ↦
          let n = length-take k pieces in
          let none : is_over setup pieces m ≡ false = sym (front_same setup pieces k m ge) ∙ on m low (omega arith) in
          absurd (both_ways _ none over)
    ]

pub handled_front : (setup : Setup) (pieces : List Piece) (k : ℕ) → k ≤ length pieces → GoesOn setup (take k pieces) → (more : List Raw) × ((session setup pieces).handled ≡ more ++ accepted setup (stream (take k pieces)))
handled_front setup pieces k le on =
    handled_from setup pieces k le (λ m over low. let lt = later setup pieces k m le on over low in over_after setup pieces m k (omega arith))

few_at : (pieces : List Piece) (m k : ℕ) → m ≡ k → handle_count (take k pieces) ≤ 4096 → too_many_handles pieces m ≡ false
unfolding too_many_handles
few_at pieces m k same few = le-ltb 4096 _ (rw same few)

pub handled_next : (setup : Setup) (pieces : List Piece) (k : ℕ) → k < length pieces → GoesOn setup (take k pieces) → k < setup.pieces → handle_count (take (k + 1) pieces) ≤ 4096 → (more : List Raw) × ((session setup pieces).handled ≡ more ++ accepted setup (stream (take (k + 1) pieces)))
handled_next setup pieces k lt on room few =
    handled_from setup pieces (k + 1) (omega arith) (λ m over low.
    let after = later setup pieces k m (omega arith) on over low in
    elim (cases_lt (k + 1) m) [
      | inl more ↦ over_after setup pieces m (k + 1) (omega arith)
      | inr le ↦ let same : m ≡ k + 1 = omega arith in over_here setup pieces m (k + 1) same (omega arith) (few_at pieces m (k + 1) same few)
    ])
