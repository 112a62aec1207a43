-- A session over a source that tells nothing is one over a source that told its pieces: those that it gave first, and any behind them.
use Rattle.std.proofs.Common.{◌≡◌, ℕ, ◌≤◌, inl, inr, List, [], ◌∷◌, ◌++◌, length, drop, Option, Some, None, Result, Ok, Err, refl, ap, sym, subst, ◌∙◌}
use Rattle.std.proofs.Common.{append_assoc, arith}
use Rattle.std.proofs.lemmas.List.{append-nil, length-append, take-append-drop}
use Rattle.std.proofs.Math.Seq.{take-append_seam, drop-append_seam}
use Rattle.std.specs.Prelude.{slice_get}
use Rattle.ei_spec.specs.Piece.{Piece}
use Rattle.ei_backend.specs.Outside.{SourceView}
use Rattle.ei_backend.specs.Incoming.{IsFirst, Hands, HasNone, Keeps}
use Rattle.ei_session.specs.Setup.{Setup}
use Rattle.ei_session.specs.Refusals.{Refusal as Cause}
use Rattle.ei_session.specs.Served.{Answer, Disconnect, End, UnexpectedEof, IdsExhausted, PieceLimit, HandleLimit, Refused}
use Rattle.ei_types.specs.declared.error.Error.{Error}
use Rattle.ei_types.specs.declared.error.Error.TheVariants as error
use Rattle.ei_serve.specs.declared.session.Ended.{Ended as HowEnded}
use Rattle.ei_serve.specs.declared.session.Ended.TheVariants as ended
use Rattle.ei_serve.specs.declared.session.Turn.{Turn}
use Rattle.ei_serve.specs.declared.session.Turn.TheVariants as turn
use Rattle.ei_serve.specs.declared.state.SessionState.{SessionState}
use Rattle.ei_serve.specs.Around.{Around}
use Rattle.ei_serve.specs.Refusing.{refusal_of}
use Rattle.ei_serve.specs.Turning.{Closes, ClosesRefused, Finds, GoesOn, Stays, BreaksOff, BreaksOffFull, Turns, IsAtEnd}
use Rattle.ei_serve.specs.Serving.{IsSourceEnd}
use Rattle.ei_backend.specs.Pieces.{AreTold, BeginAsGiven, ArePieces, GavePieces}
use Rattle.ei_serve.specs.Whole.{Serves}
use Rattle.ei_serve.proofs.Going.{goes_beside, breaks_beside}
use Rattle.ei_serve.proofs.Running.{Running, Took}
use Rattle.ei_serve.proofs.Serves as serves

-- ---- what was given

pub same_behind : {A : Type 0} (front a b : List A) → front ++ a ≡ front ++ b → a ≡ b
same_behind {A = A} front a b e = sym (drop-append_seam front a) ∙ ap (λ (l : List A). drop (length front) l) e ∙ drop-append_seam front b

-- these pieces were given
abbrev Gave : SourceView → SourceView → List Piece → Type 0
Gave before after came = after.given ≡ before.given ++ came

-- a source that says the same, but told these pieces
abbrev told_as : Option (List Piece) → SourceView → SourceView
told_as left v = record v { left = left }

module _ (before after : SourceView) (came more : List Piece) (gave : Gave before after came) where
  abbrev before_as : SourceView
  before_as = told_as (Some (came ++ more)) before

  abbrev after_as : SourceView
  after_as = told_as (Some more) after

  hands_so : (piece : Piece) → Hands before piece after → Hands before_as piece after_as
  hands_so piece h =
      let same : came ≡ piece ∷ [] = same_behind before.given came (piece ∷ []) (sym gave ∙ h.given) in
      record {
        told = λ pieces is.
            let e : came ++ more ≡ pieces = cc in
            subst (λ (l : List Piece). IsFirst l (Some more) piece) (ap (λ (l : List Piece). l ++ more) (sym same) ∙ e) (record { first = refl; left_is = refl });
        given = h.given;
        asked = h.asked;
        last = h.last;
      }

  none_came : after.given ≡ before.given → came ++ more ≡ more
  none_came same = ap (λ (l : List Piece). l ++ more) (same_behind before.given came [] (sym gave ∙ same ∙ sym (append-nil before.given)))

  none_so : more ≡ [] → HasNone before after → HasNone before_as after_as
  none_so no_more h = record {
    told = λ pieces is.
        let e : came ++ more ≡ pieces = cc in
        (sym e ∙ none_came h.given ∙ no_more, ap (λ (l : List Piece). Some l) no_more);
    given = h.given;
    asked = h.asked;
    last = h.last;
  }

  keeps_so : Keeps before after → Keeps before_as after_as
  keeps_so h = record {
    told = λ pieces is.
        let e : came ++ more ≡ pieces = cc in
        ap (λ (l : List Piece). Some l) (sym (none_came h.given) ∙ e);
    given = h.given;
    asked = h.asked;
  }

-- ---- a turn

-- what stands around, but with a source that told these pieces
abbrev telling : Option (List Piece) → Around → Around
telling left a = record a { source = told_as left a.source }

-- the pieces that a turn was given: one or none
pub front_is : (told : List Piece) (piece : Piece) → slice_get told 0 ≡ Some piece → told ≡ piece ∷ drop 1 told
front_is [] piece e = absurd cc
front_is (p ∷ told) piece e = let same : p ≡ piece = cc in ap (λ (q : Piece). q ∷ told) same

gave_one : (before after : SourceView) (piece : Piece) → Hands before piece after → GavePieces before after
gave_one before after piece h = record {
  came = piece ∷ [];
  gave = h.given;
  told = λ told is. let f = h.told told is in (drop 1 told, f.left_is, front_is told piece f.first);
  asked = omega (arith, h.asked.once);
}

gave_none : (before after : SourceView) → HasNone before after → GavePieces before after
gave_none before after h = record {
  came = [];
  gave = h.given ∙ sym (append-nil before.given);
  told = λ told is. let n = h.told told is in ([], n.1, n.0);
  asked = omega (arith, h.asked.once);
}

gave_nothing : (before after : SourceView) → Keeps before after → GavePieces before after
gave_nothing before after h = record {
  came = [];
  gave = h.given ∙ sym (append-nil before.given);
  told = λ told is. (told, h.told told is, refl);
  asked = omega (arith, h.asked);
}

refused_gave : (setup : Setup) (pieces : List Piece) (times : List ℕ) (refusal : Option Cause) (y z : Around) → ClosesRefused setup pieces times refusal y z → GavePieces y.source z.source
refused_gave setup pieces times None y z h = absurd h
refused_gave setup pieces times (Some r) y z h = gave_one y.source z.source h.piece h.hands

pub turn_gave : (setup : Setup) (pieces : List Piece) (times : List ℕ) (r : Result Turn Error) (t : SessionState) (y z : Around) → Turns setup pieces times r t y z → GavePieces y.source z.source
turn_gave setup pieces times (Ok turn.GoOn) t y z h = gave_one y.source z.source h.piece h.hands
turn_gave setup pieces times (Ok turn.Disconnect) t y z h = gave_one y.source z.source h.piece h.hands
turn_gave setup pieces times (Ok turn.End) t y z h = gave_none y.source z.source h.none
turn_gave setup pieces times (Err error.UnexpectedEof) t y z h = gave_none y.source z.source h.none
turn_gave setup pieces times (Err error.PieceLimit) t y z h = gave_one y.source z.source h.piece h.hands
turn_gave setup pieces times (Err error.HandleLimit) t y z h = gave_one y.source z.source h.piece h.hands
turn_gave setup pieces times (Err error.IdsExhausted) t y z h = gave_one y.source z.source h.piece h.hands
turn_gave setup pieces times (Err error.ReadFault) t y z h = gave_nothing y.source z.source h.keeps
turn_gave setup pieces times (Err error.WriteFault) t y z h = gave_one y.source z.source h.piece h.hands
turn_gave setup pieces times (Err error.NoMemory) t y z (inl h) = gave_nothing y.source z.source h.keeps
turn_gave setup pieces times (Err error.NoMemory) t y z (inr h) = gave_one y.source z.source h.breaks.piece h.breaks.hands
turn_gave setup pieces times (Err e) t y z h = refused_gave setup pieces times (refusal_of e) y z h

-- and all the turns before it
pub all_gave : (setup : Setup) (n : ℕ) (s t : SessionState) (r : Result Turn Error) (x y z : Around) (run : Running setup n s x y) → Turns setup run.pieces run.times r t y z → GavePieces x.source z.source
all_gave setup n s t r x y z run turns =
    let last = turn_gave setup run.pieces run.times r t y z turns in
    record {
      came = run.pieces ++ last.came;
      gave = last.gave ∙ ap (λ (l : List Piece). l ++ last.came) run.given ∙ append_assoc x.source.given run.pieces last.came;
      told = λ told is.
          let took = run.took told is in
          let rest = last.told (drop n told) took.left_is in
          (rest.0, rest.1, sym (take-append-drop n told) ∙ ap (λ (l : List Piece). l ++ drop n told) took.are ∙ ap (λ (l : List Piece). run.pieces ++ l) rest.2 ∙ sym (append_assoc run.pieces last.came rest.0));
      asked = omega (arith, run.asked, run.count, last.asked, length-append run.pieces last.came);
    }

module _ (setup : Setup) (pieces : List Piece) (times : List ℕ) (t : SessionState) (y z : Around) (came more : List Piece) (gave : Gave y.source z.source came) where
  abbrev start : Around
  start = telling (Some (came ++ more)) y

  abbrev finish : Around
  finish = telling (Some more) z

  closes_so : (answer : Answer) → Closes setup pieces times answer y z → Closes setup pieces times answer start finish
  closes_so answer h = record {
    piece = h.piece;
    used = h.used;
    hands = hands_so y.source z.source came more gave h.piece h.hands;
    answer_is = h.answer_is;
    goes = goes_beside setup _ _ times h.used y z _ _ h.goes;
  }

  refused_so : (refusal : Option Cause) → ClosesRefused setup pieces times refusal y z → ClosesRefused setup pieces times refusal start finish
  refused_so None h = absurd h
  refused_so (Some r) h = closes_so (Refused r) h

  finds_so : (answer : Answer) → more ≡ [] → Finds setup pieces times answer y z → Finds setup pieces times answer start finish
  finds_so answer no_more h = record {
    none = none_so y.source z.source came more gave no_more h.none;
    answer_is = h.answer_is;
    goes = goes_beside setup _ _ times [] y z _ _ h.goes;
  }

  goes_on_so : GoesOn setup pieces times t y z → GoesOn setup pieces times t start finish
  goes_on_so h = record {
    piece = h.piece;
    used = h.used;
    hands = hands_so y.source z.source came more gave h.piece h.hands;
    stands = h.stands;
    goes = goes_beside setup _ _ times h.used y z _ _ h.goes;
  }

  stays_so : Stays y z → Stays start finish
  stays_so h = record { keeps = keeps_so y.source z.source came more gave h.keeps; out = h.out; sink = h.sink; readings = h.readings }

  breaks_so : BreaksOff setup pieces times y z → BreaksOff setup pieces times start finish
  breaks_so h = record {
    piece = h.piece;
    hands = hands_so y.source z.source came more gave h.piece h.hands;
    room = h.room;
    few = h.few;
    goes = breaks_beside setup _ _ times y z _ _ h.goes;
  }

  full_so : BreaksOffFull setup pieces times y z → BreaksOffFull setup pieces times start finish
  unfolding breaks_so breaks_beside
  full_so h = record { breaks = breaks_so h.breaks; wanted = h.wanted }

  turns_so : (r : Result Turn Error) → (IsAtEnd r → more ≡ []) → Turns setup pieces times r t y z → Turns setup pieces times r t start finish
  turns_so (Ok turn.GoOn) at h = goes_on_so h
  turns_so (Ok turn.Disconnect) at h = closes_so Disconnect h
  turns_so (Ok turn.End) at h = finds_so End (at tt) h
  turns_so (Err error.UnexpectedEof) at h = finds_so UnexpectedEof (at tt) h
  turns_so (Err error.PieceLimit) at h = closes_so PieceLimit h
  turns_so (Err error.HandleLimit) at h = closes_so HandleLimit h
  turns_so (Err error.IdsExhausted) at h = closes_so IdsExhausted h
  turns_so (Err error.ReadFault) at h = stays_so h
  turns_so (Err error.WriteFault) at h = breaks_so h
  turns_so (Err error.NoMemory) at (inl h) = inl (stays_so h)
  turns_so (Err error.NoMemory) at (inr h) = inr (full_so h)
  turns_so (Err e) at h = refused_so (refusal_of e) h

-- ---- the turns before, and one more

pub took_so : (n : ℕ) (pieces more : List Piece) → length pieces ≡ n → Took (pieces ++ more) (Some more) n pieces
took_so n pieces more count = rw (← count) (record {
  within = omega (arith, length-append pieces more);
  left_is = ap (λ (l : List Piece). Some l) (sym (drop-append_seam pieces more));
  are = take-append_seam pieces more;
})

-- a session's turns, and one more, over a source that told these pieces
record Told (setup : Setup) (n : ℕ) (s t : SessionState) (r : Result Turn Error) (x y z : Around) (told : List Piece) (left : Option (List Piece)) : Type 0 where
  mid : Option (List Piece)
  run : Running setup n s (telling (Some told) x) (telling mid y)
  turns : Turns setup run.pieces run.times r t (telling mid y) (telling left z)

module _ (setup : Setup) (n : ℕ) (s t : SessionState) (r : Result Turn Error) (x y z : Around) (run : Running setup n s x y) (turns : Turns setup run.pieces run.times r t y z) where
  running_as : (told : List Piece) (mid : Option (List Piece)) → Took told mid n run.pieces → Running setup n s (telling (Some told) x) (telling mid y)
  running_as told mid took = record {
    pieces = run.pieces;
    times = run.times;
    count = run.count;
    stands = run.stands;
    took = λ pieces is.
        let e : told ≡ pieces = cc in
        subst (λ (l : List Piece). Took l mid n run.pieces) e took;
    given = run.given;
    asked = run.asked;
    gives = run.gives;
    replied = run.replied;
    drawn = run.drawn;
    leaves = run.leaves;
    frames = run.frames;
  }

  as_told : (told : List Piece) (left : Option (List Piece)) → AreTold x.source z.source told left → Told setup n s t r x y z told left
  unfolding running_as
  as_told told left h = record {
    mid = y.source.left;
    run = running_as told y.source.left (run.took told h.told_is);
    turns = subst (λ (l : Option (List Piece)). Turns setup run.pieces run.times r t y (telling l z)) (sym h.left_is) turns;
  }

  as_given : (ended : Type 0) (told : List Piece) (left : Option (List Piece)) → (IsAtEnd r → ended) → BeginAsGiven x.source z.source ended told left → Told setup n s t r x y z told left
  unfolding running_as
  as_given ended told left at h =
      let last = turn_gave setup run.pieces run.times r t y z turns in
      let came : h.came ≡ run.pieces ++ last.came = same_behind x.source.given h.came (run.pieces ++ last.came)
      (sym h.gave ∙ last.gave ∙ ap (λ (l : List Piece). l ++ last.came) run.given ∙ append_assoc x.source.given run.pieces last.came) in
      let all : run.pieces ++ (last.came ++ h.more) ≡ told = sym (append_assoc run.pieces last.came h.more) ∙ ap (λ (l : List Piece). l ++ h.more) (sym came) ∙ sym h.told_is in
      record {
        mid = Some (last.came ++ h.more);
        run = running_as told (Some (last.came ++ h.more)) (subst (λ (l : List Piece). Took l (Some (last.came ++ h.more)) n run.pieces) all (took_so n run.pieces (last.came ++ h.more) run.count));
        turns = subst (λ (l : Option (List Piece)). Turns setup run.pieces run.times r t (telling (Some (last.came ++ h.more)) y) (telling l z)) (sym h.left_is)
            (turns_so setup run.pieces run.times t y z last.came h.more last.gave r (λ e. h.ends (at e)) turns);
      }

  told_so : (ended : Type 0) (told : List Piece) (left : Option (List Piece)) → (IsAtEnd r → ended) → ArePieces x.source z.source ended told left → Told setup n s t r x y z told left
  told_so ended told left at (inl h) = as_told told left h
  told_so ended told left at (inr h) = as_given ended told left at h

-- ---- a whole session

-- what is said of it says nothing of the source but what is left
beside : (setup : Setup) (told : List Piece) (left a b : Option (List Piece)) (r : Result HowEnded Error) (x z : Around) → Serves setup told left r (telling a x) (telling b z) → Serves setup told left r x z
beside setup told left a b r x z h = record {
  answer = h.answer;
  requests = h.requests;
  replies = h.replies;
  readings = h.readings;
  valid = h.valid;
  taken = h.taken;
  pieces = h.pieces;
  handled = h.handled;
  cut_short = h.cut_short;
  full = h.full;
}

end_by : (e : Error) → IsAtEnd (Err e) → IsSourceEnd (Err e)
end_by error.UnexpectedEof h = tt
end_by e h = absurd h

module _ (setup : Setup) (n : ℕ) (s : SessionState) (x y z : Around) (run : Running setup n s x y) (few : n ≤ setup.pieces) (told : List Piece) (left : Option (List Piece)) where
  pub disconnects : (t : SessionState) → ArePieces x.source z.source (IsSourceEnd (Ok ended.Disconnect)) told left → Turns setup run.pieces run.times (Ok turn.Disconnect) t y z → Serves setup told left (Ok ended.Disconnect) x z
  disconnects t are turns =
      let v = told_so setup n s t (Ok turn.Disconnect) x y z run turns (IsSourceEnd (Ok ended.Disconnect)) told left (λ e. absurd e) are in
      beside setup told left _ _ (Ok ended.Disconnect) x z (serves.disconnects setup n s (telling (Some told) x) (telling v.mid y) (telling left z) v.run few told refl v.turns)

  pub ends : (t : SessionState) → ArePieces x.source z.source (IsSourceEnd (Ok ended.End)) told left → Turns setup run.pieces run.times (Ok turn.End) t y z → Serves setup told left (Ok ended.End) x z
  ends t are turns =
      let v = told_so setup n s t (Ok turn.End) x y z run turns (IsSourceEnd (Ok ended.End)) told left (λ e. tt) are in
      beside setup told left _ _ (Ok ended.End) x z (serves.ends setup n s (telling (Some told) x) (telling v.mid y) (telling left z) v.run few told refl v.turns)

  fails : (t : SessionState) (e : Error) → ArePieces x.source z.source (IsSourceEnd (Err e)) told left → Turns setup run.pieces run.times (Err e) t y z → Serves setup told left (Err e) x z
  fails t e are turns =
      let v = told_so setup n s t (Err e) x y z run turns (IsSourceEnd (Err e)) told left (end_by e) are in
      beside setup told left _ _ (Err e) x z (serves.failed setup n s (telling (Some told) x) (telling v.mid y) (telling left z) v.run few told refl t e (Err e) refl v.turns)

  pub failed : (t : SessionState) (e : Error) (r : Result HowEnded Error) → r ≡ Err e → ArePieces x.source z.source (IsSourceEnd r) told left → Turns setup run.pieces run.times (Err e) t y z → Serves setup told left r x z
  failed t e r same are turns =
      subst (λ (q : Result HowEnded Error). Serves setup told left q x z) (sym same)
      (fails t e (subst (λ (q : Result HowEnded Error). ArePieces x.source z.source (IsSourceEnd q) told left) same are) turns)

-- a source that wasn't asked: all of its pieces are left
pub unasked : (v : SourceView) (ended : Type 0) (told : List Piece) (left : Option (List Piece)) → ArePieces v v ended told left → left ≡ Some told
unasked v ended told left (inl h) = h.left_is ∙ h.told_is
unasked v ended told left (inr h) =
    let none : h.came ≡ [] = same_behind v.given h.came [] (sym h.gave ∙ sym (append-nil v.given)) in
    h.left_is ∙ ap (λ (l : List Piece). Some l) (sym (h.told_is ∙ ap (λ (l : List Piece). l ++ h.more) none))

pub nothing_given : (v : SourceView) → GavePieces v v
nothing_given v = record { came = []; gave = sym (append-nil v.given); told = λ told is. (told, is, refl); asked = omega arith }
