-- A piece has few messages, and so it makes few frames.
use Rattle.std.proofs.Common.{◌≡◌, ℕ, zero, suc, ◌+◌, ◌<◌, ◌≤◌, Bool, true, false, inl, inr, Option, Some, None, List, [], ◌∷◌, ◌++◌, length, refl}
use Rattle.std.proofs.Common.{ap, sym, ◌∙◌, append_assoc, arith}
use Rattle.std.proofs.lemmas.Bool.{cases_lt}
use Rattle.std.proofs.lemmas.List.{length-append}
use Rattle.ei_spec.specs.Message.{Raw, Front, Short, Unlawful, Whole, front}
use Rattle.ei_spec.specs.Piece.{Piece, stream, handle_count}
use Rattle.ei_spec.specs.Stream.{Verdict, Accepted, Final, Refused, Stop, Waiting, Ended, HeaderLength, Refusal, Reading, read_within, read}
use Rattle.ei_spec.specs.History.{each, total}
use Rattle.ei_spec.specs.Groups.{Item, Input, Frame, Other, Free, Slot, group, makes_frame, frames_made}
use Rattle.ei_session.specs.Setup.{Setup}
use Rattle.ei_session.specs.Refusals.{Refusal as Cause, judge}
use Rattle.ei_session.specs.Requests.{slot}
use Rattle.ei_session.specs.Served.{Outcome, session, reading_of, accepted, is_waiting}
use Rattle.ei_serve.specs.Taking.{with_next}
use Rattle.ei_serve.proofs.FewUnread.{unread_few}
use Rattle.ei_serve.proofs.Histories.{GoesOn as GoingOn, going, goes_on_more, stopped, too_many_pieces, too_many_handles_come, reading_more}

-- ---- messages

module _ {E : Type 0} (judged : List Raw → Raw → Verdict E) where
  -- the messages read are so few more
  record FewMore (n : ℕ) (past reached : List Raw) : Type 0 where
    more : List Raw
    is : reached ≡ more ++ past
    few : length more ≤ n

  abbrev Few : ℕ → Type 0
  Few k = (past : List Raw) (bytes : List ℕ) → FewMore k past (read_within judged k past bytes).past

  none_more : (k : ℕ) (past reached : List Raw) → reached ≡ past → FewMore k past reached
  none_more k past reached e = record { more = []; is = e; few = omega arith }

  few_judged : (k : ℕ) → Few k → (past : List Raw) (bytes : List ℕ) (m : Raw) (rest : List ℕ) (v : Verdict E) → front bytes ≡ Whole m rest → judged past m ≡ v → FewMore (suc k) past (read_within judged (suc k) past bytes).past
  unfolding read_within
  few_judged k h past bytes m rest Accepted e j =
      let g = h (m ∷ past) rest in
      record { more = g.more ++ (m ∷ []); is = rw (e, j, read_within) (g.is ∙ sym (append_assoc g.more (m ∷ []) past)); few = omega (arith, g.few, length-append g.more (m ∷ [])) }
  few_judged k h past bytes m rest Final e j = record { more = m ∷ []; is = rw (e, j, read_within) refl; few = omega arith }
  few_judged k h past bytes m rest (Refused r) e j = none_more (suc k) past _ (rw (e, j, read_within) refl)

  few_front : (k : ℕ) → Few k → (past : List Raw) (bytes : List ℕ) (f : Front) → front bytes ≡ f → FewMore (suc k) past (read_within judged (suc k) past bytes).past
  unfolding read_within
  few_front k h past bytes Short e = none_more (suc k) past _ (rw (e, read_within) refl)
  few_front k h past bytes (Unlawful n) e = none_more (suc k) past _ (rw (e, read_within) refl)
  few_front k h past bytes (Whole m rest) e = few_judged k h past bytes m rest (judged past m) e refl

  few_within : (k : ℕ) → Few k
  unfolding read_within
  few_within zero past bytes = none_more zero past _ refl
  few_within (suc k) past bytes = few_front k (few_within k) past bytes (front bytes) refl

  few_read : (past : List Raw) (bytes : List ℕ) → FewMore (suc (length bytes)) past (read judged past bytes).past
  unfolding read
  few_read past bytes = few_within (suc (length bytes)) past bytes

-- a session handles few messages of one more piece
pub record FewHandled (before reached : List Raw) : Type 0 where
  pub more : List Raw
  pub is : reached ≡ more ++ before
  pub few : length more ≤ 1114112

none_handled : (before reached : List Raw) → reached ≡ before → FewHandled before reached
none_handled before reached e = record { more = []; is = e; few = omega arith }

read_few : (setup : Setup) (pieces : List Piece) (piece : Piece) → (reading_of setup (stream pieces)).stop ≡ Waiting → length piece.bytes ≤ 65536 → FewHandled (accepted setup (stream pieces)) (accepted setup (stream (with_next pieces piece)))
read_few setup pieces piece waits short =
    let f = few_read (judge setup) (accepted setup (stream pieces)) ((reading_of setup (stream pieces)).rest ++ piece.bytes) in
    record {
      more = f.more;
      is = ap (λ (r : Reading Cause). r.past) (reading_more setup pieces piece waits) ∙ f.is;
      few = omega (arith, f.few, short, unread_few setup (stream pieces) waits, length-append (reading_of setup (stream pieces)).rest piece.bytes);
    }

waiting_so : (stop : Stop Cause) → is_waiting stop ≡ true → stop ≡ Waiting
waiting_so Waiting e = refl
waiting_so Ended e = absurd cc
waiting_so (HeaderLength n) e = absurd cc
waiting_so (Refusal c) e = absurd cc

-- a session that takes one more piece handles the messages of all
pub over_or_on : (setup : Setup) (pieces : List Piece) (piece : Piece) (b : Bool) → GoingOn setup pieces → length pieces < setup.pieces → handle_count (with_next pieces piece) ≤ 4096 →
    is_waiting (reading_of setup (stream (with_next pieces piece))).stop ≡ b → (session setup (with_next pieces piece)).handled ≡ accepted setup (stream (with_next pieces piece))
over_or_on setup pieces piece true on room few w = ap (λ (o : Outcome). o.handled) (going setup (with_next pieces piece) (goes_on_more setup pieces piece on room few (waiting_so _ w)))
over_or_on setup pieces piece false on room few w = ap (λ (o : Outcome). o.handled) (stopped setup pieces piece on room few w)

handled_so : (setup : Setup) (pieces : List Piece) (piece : Piece) → (session setup (with_next pieces piece)).handled ≡ accepted setup (stream (with_next pieces piece)) →
    FewHandled (accepted setup (stream pieces)) (accepted setup (stream (with_next pieces piece))) → FewHandled (accepted setup (stream pieces)) (session setup (with_next pieces piece)).handled
handled_so setup pieces piece e f = record { more = f.more; is = e ∙ f.is; few = f.few }

pub handled_few : (setup : Setup) (pieces : List Piece) (piece : Piece) → GoingOn setup pieces → (reading_of setup (stream pieces)).stop ≡ Waiting → length piece.bytes ≤ 65536 →
    FewHandled (accepted setup (stream pieces)) (session setup (with_next pieces piece)).handled
handled_few setup pieces piece on waits short = elim (cases_lt (length pieces) setup.pieces) [
  | inl room ↦ elim (cases_lt 4096 (handle_count (with_next pieces piece))) [
    | inl many ↦ none_handled _ _ (ap (λ (o : Outcome). o.handled) (too_many_handles_come setup pieces piece on room many))
    | inr few ↦ handled_so setup pieces piece (over_or_on setup pieces piece (is_waiting (reading_of setup (stream (with_next pieces piece))).stop) on room few refl) (read_few setup pieces piece waits short)
  ]
  | inr full ↦ none_handled _ _ (ap (λ (o : Outcome). o.handled) (too_many_pieces setup pieces piece on full))
]

-- ---- frames

one_of : {X : Type 0} (xs : List X) → elim xs [ [] ↦ 0 | _ ∷ _ ↦ 1 ] ≤ 1
one_of [] = omega arith
one_of (x ∷ xs) = omega arith

module _ {X Y : Type 0} where
  frame_at : (before : List (Slot X Y)) (item : Option (Item X Y)) (serial : ℕ) → makes_frame before (record { item = item; serial = serial }) ≤ 1
  unfolding makes_frame
  frame_at before None serial = omega arith
  frame_at before (Some (Input d x)) serial = omega arith
  frame_at before (Some (Frame d s t)) serial = omega arith
  frame_at before (Some (Other d y)) serial = one_of (group d before)
  frame_at before (Some (Free y)) serial = omega arith

  one_frame : (before : List (Slot X Y)) (s : Slot X Y) → frames_made (s ∷ before) ≡ frames_made before + makes_frame before s
  unfolding frames_made total
  one_frame before s = refl

-- more messages make as many frames or more, and at most one each
pub record FewFrames (setup : Setup) (before reached : List Raw) (n : ℕ) : Type 0 where
  pub low : frames_made (each (slot setup) before) ≤ frames_made (each (slot setup) reached)
  pub high : frames_made (each (slot setup) reached) ≤ frames_made (each (slot setup) before) + n

pub few_frames : (setup : Setup) (more before : List Raw) → FewFrames setup before (more ++ before) (length more)
unfolding each
few_frames setup [] before = record { low = omega arith; high = omega arith }
few_frames setup (m ∷ more) before =
    let h = few_frames setup more before in
    let past = more ++ before in
    let one = one_frame (each (slot setup) past) (slot setup past m) in
    let most = frame_at (each (slot setup) past) (slot setup past m).item (slot setup past m).serial in
    record { low = omega (arith, h.low, one); high = omega (arith, h.high, one, most) }
