-- What becomes of a message after the finish, by what it asks.
use Rattle.std.proofs.Common.{◌≡◌, ◌≢◌, ℕ, Bool, true, false, ◌||◌, eqb, List, Option, Some, None, refl, sym, ap, ◌∙◌, arith}
use Rattle.std.proofs.lemmas.Bool.Decides.{nat_tests}
use Rattle.ei_spec.specs.declared.interface.KnownInterface.{KnownInterface}
use Rattle.ei_spec.specs.declared.interface.KnownInterface.TheVariants as known
use Rattle.ei_spec.specs.Value.{Value}
use Rattle.ei_spec.specs.Message.{Raw}
use Rattle.ei_spec.specs.Stream.{Accepted}
use Rattle.ei_session.specs.Setup.{Setup, connection_id}
use Rattle.ei_session.specs.Handshake.{connected}
use Rattle.ei_session.specs.Meaning.{Meaning, Asks, Disconnect, meaning}
use Rattle.ei_session.specs.Devices.{not_empty, made, next_id, is_past, exhausts}
use Rattle.ei_session.specs.Objects.{Entry, object}
use Rattle.ei_session.specs.Refusals.{verdict, is_disconnect, judge}
use Rattle.ei_session.specs.ByMeaning.{mask_in, disconnects, refusal_for}
use Rattle.ei_session.proofs.Choices.{none_some, and_false}
use Rattle.ei_session.proofs.ReadsMean.{means_row}
use Rattle.ei_session.proofs.AskedMeans.{disconnect_asked}
use Rattle.ei_session.proofs.FirstObjects.{the_connection, object_connection}
use Rattle.ei_session.proofs.ObjectShape.{unknown_makes_nothing}
use Rattle.ei_session.proofs.RefusalLaws.{refused_never}
use Rattle.ei_session.proofs.RefusedMeans.{refusal_asked}
use Rattle.ei_session.proofs.AnsweredMeans.{is_connection, connection_is, connection_at, not_the_connection, made_asked}

-- ---- the end of the connection

elsewhere : (past : List Raw) (m : Raw) → m.id ≢ connection_id → is_disconnect past m ≡ false
unfolding is_disconnect
elsewhere past m far = let other : eqb m.id connection_id ≡ false = grind (arith, nat_tests, far) in rw other (and_false (connected past))

no_disconnect_row : (k : KnownInterface) (n : ℕ) (values : List Value) (x : Meaning) → Asks k n values x → is_connection k ≡ false → disconnects (Some x) ≡ false
no_disconnect_row k n values w Disconnect h = absurd cc
no_disconnect_row k n values w x h = refl

no_disconnect : (k : KnownInterface) (m : Raw) (o : Option Meaning) → is_connection k ≡ false → meaning k m ≡ o → disconnects o ≡ false
no_disconnect k m None s h = refl
no_disconnect k m (Some x) s h = let w = means_row k m x h in no_disconnect_row k m.opcode w.0 x w.1.1 s

at_connection : (past : List Raw) (m : Raw) → connected past ≡ true → m.id ≡ connection_id → is_disconnect past m ≡ disconnects (meaning known.Connection m)
unfolding is_disconnect
at_connection past m on at = let here : eqb m.id connection_id ≡ true = grind (arith, nat_tests, at) in rw (on, here) (disconnect_asked m)

disconnect_by : (past : List Raw) (m : Raw) (e : Entry) (b : Bool) → connected past ≡ true → object past m.id ≡ Some e → is_connection e.interface ≡ b → is_disconnect past m ≡ disconnects (meaning e.interface m)
disconnect_by past m e true on k s =
    let i = connection_is e.interface s in
    at_connection past m on (connection_at past m e k i) ∙ ap (λ (x : KnownInterface). disconnects (meaning x m)) (sym i)
disconnect_by past m e false on k s = elsewhere past m (not_the_connection past m e on k s) ∙ sym (no_disconnect e.interface m (meaning e.interface m) s refl)

pub ends_asked : (past : List Raw) (m : Raw) (e : Entry) → connected past ≡ true → object past m.id ≡ Some e → is_disconnect past m ≡ disconnects (meaning e.interface m)
ends_asked past m e on k = disconnect_by past m e (is_connection e.interface) on k refl

-- ---- the end of the ids

pub exhausts_asked : (past : List Raw) (m : Raw) (e : Entry) → connected past ≡ true → object past m.id ≡ Some e → exhausts past m ≡ is_past (next_id past) (not_empty (mask_in (meaning e.interface m)))
unfolding exhausts
exhausts_asked past m e on k = ap (is_past (next_id past)) (made_asked past m e on k)

-- ---- the verdict

pub judge_asked : (setup : Setup) (past : List Raw) (m : Raw) (e : Entry) (x : Meaning) → connected past ≡ true → object past m.id ≡ Some e → meaning e.interface m ≡ Some x →
    judge setup past m ≡ verdict (refusal_for setup past e x) (disconnects (Some x) || exhausts past m)
unfolding judge
judge_asked setup past m e x on k h = rw (judge, refusal_asked setup past m e x k h, ends_asked past m e on k, h) refl

no_ids_end : (past : List Raw) (m : Raw) → made past m ≡ None → exhausts past m ≡ false
unfolding exhausts
no_ids_end past m n = ap (is_past (next_id past)) n

-- what isn't there takes any message
pub judge_unknown : (setup : Setup) (past : List Raw) (m : Raw) → connected past ≡ true → object past m.id ≡ None → judge setup past m ≡ Accepted
unfolding judge
judge_unknown setup past m on k =
    let far : m.id ≢ connection_id = λ at. none_some the_connection (sym k ∙ ap (object past) at ∙ object_connection past ∙ rw on refl) in
    rw (judge, refused_never setup past m on k, elsewhere past m far, no_ids_end past m (unknown_makes_nothing past m k)) refl
