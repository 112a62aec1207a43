-- Where the ids run out with a device, nothing is answered, and the stream ends.
use Rattle.std.proofs.Common.{◌≡◌, ℕ, true, eqb, List, [], Some, None, refl, arith}
use Rattle.std.proofs.lemmas.Bool.{eqb-true}
use Rattle.ei_spec.specs.Message.{Raw}
use Rattle.ei_spec.specs.Stream.{Final}
use Rattle.ei_session.specs.Setup.{Setup, seat_id}
use Rattle.ei_session.specs.Devices.{seat_is_open, made, exhausts}
use Rattle.ei_session.specs.Refusals.{refusal, is_disconnect, judge}
use Rattle.ei_session.specs.Events.{reply}
use Rattle.ei_session.proofs.Choices.{and_right, or_true}
use Rattle.ei_session.proofs.ObjectLaws.{made_is, not_finish}

pub exhausting_reply : (setup : Setup) (past : List Raw) (m : Raw) (mask : ℕ) → made past m ≡ Some mask → exhausts past m ≡ true → reply setup past m ≡ []
unfolding reply
exhausting_reply setup past m mask h e =
    let at : m.id ≡ seat_id = eqb-true m.id seat_id (and_right (seat_is_open past) (eqb m.id seat_id) (made_is past m mask h).0) in
    let f = not_finish past m (omega (arith, at)) in
    rw (f, reply, h, e) refl

pub exhausting_last : (setup : Setup) (past : List Raw) (m : Raw) → refusal setup past m ≡ None → exhausts past m ≡ true → judge setup past m ≡ Final
unfolding judge
exhausting_last setup past m r e = rw (r, e, or_true (is_disconnect past m)) refl
