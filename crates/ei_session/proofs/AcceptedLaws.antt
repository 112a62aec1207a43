-- What the accepted messages of a stream are like, and what is unread behind them.
use Rattle.std.proofs.Common.{◌≡◌, ℕ, ◌<◌, Bool, true, false, ◌||◌, ltb, List, [], ◌∷◌, length, Option, Some, None, refl, ◌∙◌, arith, inl, inr}
use Rattle.std.proofs.lemmas.Bool.{ltb-true, ltb-false}
use Rattle.ei_spec.specs.Message.{Raw, IsBytes, Short, size_at, front_of, front}
use Rattle.ei_spec.specs.Stream.{Accepted, Final, Stop, Waiting, Ended, HeaderLength, Refusal as RefusedStop, AreOpen, StopsSo}
use Rattle.ei_spec.proofs.OneReading.{is_reading}
use Rattle.ei_session.specs.Setup.{Setup}
use Rattle.ei_session.specs.Devices.{exhausts}
use Rattle.ei_session.specs.Refusals.{Refusal, refusal, is_disconnect, verdict, judge}
use Rattle.ei_session.specs.Served.{AreUnrefused, reading_of, accepted}
use Rattle.ei_spec.specs.History.{occurs}
use Rattle.ei_spec.proofs.HistoryLaws.{occurs_or}
use Rattle.ei_session.proofs.Choices.{chosen, or_none}

-- ---- accepted messages aren't refused

not_refused : (o : Option Refusal) (b : Bool) → verdict o b ≡ Accepted → o ≡ None
not_refused None b e = refl
not_refused (Some x) b e = absurd cc

not_refused_last : (o : Option Refusal) (b : Bool) → verdict o b ≡ Final → o ≡ None
not_refused_last None b e = refl
not_refused_last (Some x) b e = absurd cc

pub accepted_so : (setup : Setup) (before : List Raw) (m : Raw) → judge setup before m ≡ Accepted → refusal setup before m ≡ None
unfolding judge
accepted_so setup before m e = not_refused (refusal setup before m) (is_disconnect before m || exhausts before m) e

pub ended_so : (setup : Setup) (before : List Raw) (m : Raw) → judge setup before m ≡ Final → refusal setup before m ≡ None
unfolding judge
ended_so setup before m e = not_refused_last (refusal setup before m) (is_disconnect before m || exhausts before m) e

pub open_unrefused : (setup : Setup) (past : List Raw) → AreOpen (judge setup) past → AreUnrefused setup past
unfolding AreOpen AreUnrefused
open_unrefused setup [] h = tt
open_unrefused setup (m ∷ before) h = (accepted_so setup before m h.1, open_unrefused setup before h.2)

stops_unrefused : (setup : Setup) (s : Stop Refusal) (past : List Raw) (rest : List ℕ) → StopsSo (judge setup) s past rest → AreUnrefused setup past
unfolding StopsSo AreUnrefused
stops_unrefused setup Waiting past rest h = open_unrefused setup past h.0
stops_unrefused setup Ended [] rest h = absurd h
stops_unrefused setup Ended (m ∷ before) rest h = (ended_so setup before m h.1, open_unrefused setup before h.2)
stops_unrefused setup (HeaderLength n) past rest h = open_unrefused setup past h.0
stops_unrefused setup (RefusedStop e) past rest h = open_unrefused setup past h.0

pub accepted_unrefused : (setup : Setup) (bytes : List ℕ) → IsBytes bytes → AreUnrefused setup (accepted setup bytes)
unfolding reading_of
accepted_unrefused setup bytes h = let r = is_reading (judge setup) bytes h in stops_unrefused setup _ _ _ r.stops

-- ---- what is unread

short_of : (n : ℕ) (bytes : List ℕ) → front_of n bytes ≡ Short → length bytes < 1048576
short_of n bytes e =
    elim (chosen (ltb n 16) _ _ _ e) [
      | inl a ↦ absurd cc
      | inr b ↦ elim (chosen (ltb 1048576 n) _ _ _ b.1) [
        | inl a ↦ absurd cc
        | inr c ↦ elim (chosen (ltb (length bytes) n) _ _ _ c.1) [
          | inl d ↦ omega (arith, ltb-true (length bytes) n d.0, ltb-false 1048576 n c.0)
          | inr d ↦ absurd cc
        ]
      ]
    ]

pub front_short : (bytes : List ℕ) → front bytes ≡ Short → length bytes < 1048576
unfolding front
front_short bytes e =
    elim (chosen (ltb (length bytes) 16) _ _ _ e) [
      | inl a ↦ omega (arith, ltb-true (length bytes) 16 a.0)
      | inr b ↦ short_of (size_at bytes) bytes b.1
    ]

waits_short : (setup : Setup) (s : Stop Refusal) (past : List Raw) (rest : List ℕ) → s ≡ Waiting → StopsSo (judge setup) s past rest → front rest ≡ Short
unfolding StopsSo
waits_short setup Waiting past rest e h = h.1
waits_short setup Ended past rest e h = absurd cc
waits_short setup (HeaderLength n) past rest e h = absurd cc
waits_short setup (RefusedStop x) past rest e h = absurd cc

pub unread_short : (setup : Setup) (bytes : List ℕ) → IsBytes bytes → (reading_of setup bytes).stop ≡ Waiting → length (reading_of setup bytes).rest < 1048576
unfolding reading_of
unread_short setup bytes h e = let r = is_reading (judge setup) bytes h in front_short _ (waits_short setup _ _ _ e r.stops)

-- ---- accepted messages exhaust no ids, but the last may

lasting : (o : Option Refusal) (b : Bool) → verdict o b ≡ Accepted → b ≡ false
lasting None true e = absurd cc
lasting None false e = refl
lasting (Some x) b e = absurd cc

pub no_exhausting : (setup : Setup) (before : List Raw) (m : Raw) → judge setup before m ≡ Accepted → exhausts before m ≡ false
unfolding judge
no_exhausting setup before m e = (or_none (is_disconnect before m) (exhausts before m) (lasting (refusal setup before m) (is_disconnect before m || exhausts before m) e)).1

pub open_lasts : (setup : Setup) (past : List Raw) → AreOpen (judge setup) past → occurs exhausts past ≡ false
unfolding AreOpen occurs
open_lasts setup [] h = refl
open_lasts setup (m ∷ before) h = occurs_or exhausts before m ∙ rw (no_exhausting setup before m h.1) (open_lasts setup before h.2)
