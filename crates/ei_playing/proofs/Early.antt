-- What the handshake of a player comes to.
use Rattle.std.proofs.Common.{◌≡◌, ℕ, ◌+◌, Bool, true, false, List, ◌∷◌, [], Some, None, refl, sym, ap, ◌∙◌, arith}
use Rattle.std.specs.Prelude.{◌&&◌}
use Rattle.std.proofs.Common.{leb, ltb, length, eqb, cond, ◌<◌, ◌≤◌}
use Rattle.std.proofs.lemmas.Bool.{leb-true, ltb-true}
use Rattle.ei_spec.specs.declared.interface.KnownInterface.TheVariants as known
use Rattle.ei_spec.specs.Message.{Raw, IsLawful, all_bytes}
use Rattle.ei_spec.specs.History.{joined, each}
use Rattle.ei_spec.specs.Stream.{AreOpen, stream_of}
use Rattle.ei_spec.specs.Groups.{group}
use Rattle.ei_greeting.specs.Shaking.{greeting}
use Rattle.ei_session.proofs.AllOpen.{all_open}
use Rattle.ei_session.specs.Setup.{Setup, connection_id, seat_id}
use Rattle.ei_session.specs.Handshake.{connected, is_the_finish, version}
use Rattle.ei_session.specs.Devices.{next_id}
use Rattle.ei_session.specs.Objects.{handed_over, object}
use Rattle.ei_session.specs.Touches.{is_down, puts}
use Rattle.ei_session.specs.Refusals.{judge}
use Rattle.ei_session.specs.Requests.{slot, framed}
use Rattle.ei_session.proofs.Choices.{and_left, and_right}
use Rattle.ei_session.proofs.FirstObjects.{the_connection, object_handed}
use Rattle.ei_playing.specs.Playing.{player, shaken}

pub shaken_on : connected shaken ≡ true
unfolding all_open shaken greeting
shaken_on = refl

pub shaken_next : next_id shaken ≡ seat_id + 1
unfolding all_open shaken greeting
shaken_next = refl

pub shaken_seat : object shaken seat_id ≡ Some (record { interface = known.Seat; version = 2; device = None })
unfolding all_open shaken greeting
shaken_seat = refl

pub shaken_version : version shaken known.Touchscreen ≡ 2
unfolding all_open shaken greeting
shaken_version = refl

pub shaken_down : (d t : ℕ) → is_down shaken d t ≡ false
unfolding all_open shaken greeting
shaken_down d t = refl

pub shaken_puts : (d : ℕ) → joined (puts d) shaken ≡ []
unfolding all_open shaken greeting
shaken_puts d = refl

pub shaken_group : (setup : Setup) (d : ℕ) → group d (each (slot setup) shaken) ≡ []
unfolding all_open shaken greeting
shaken_group setup d = refl

pub shaken_framed : (setup : Setup) (readings : List ℕ) → framed setup readings shaken ≡ []
unfolding all_open shaken greeting
shaken_framed setup readings = refl

-- a short message of the handshake
abbrev is_short : Raw → Bool
is_short m = leb m.id 0 && (leb m.opcode 4 && leb (length m.body) 100)

short : (m : Raw) → is_short m ≡ true → IsLawful m
short m h =
    let rest = and_right (leb m.id 0) (leb m.opcode 4 && leb (length m.body) 100) h in
    let id = leb-true m.id 0 (and_left (leb m.id 0) (leb m.opcode 4 && leb (length m.body) 100) h) in
    let opcode = leb-true m.opcode 4 (and_left (leb m.opcode 4) (leb (length m.body) 100) rest) in
    let body = leb-true (length m.body) 100 (and_right (leb m.opcode 4) (leb (length m.body) 100) rest) in
    record { id = omega (arith, id); opcode = omega (arith, opcode); size = omega (arith, body) }

pub shaken_open : (setup : Setup) → AreOpen (judge setup) shaken
unfolding all_open shaken greeting AreOpen
shaken_open setup = (short _ refl, refl, (short _ refl, refl, (short _ refl, refl, (short _ refl, refl, (short _ refl, refl, (short _ refl, refl, (short _ refl, refl, (short _ refl, refl, (short _ refl, refl, (short _ refl, refl, (short _ refl, refl, (short _ refl, refl, (short _ refl, refl, (short _ refl, refl, (short _ refl, refl, (short _ refl, refl, (short _ refl, refl, tt)))))))))))))))))

-- ---- its bytes

pub shaken_bytes : all_bytes (greeting player 0) ≡ stream_of shaken
unfolding all_open shaken greeting stream_of
shaken_bytes = refl

pub shaken_some : 0 < length (stream_of shaken)
unfolding all_open shaken greeting stream_of
shaken_some = ltb-true 0 (length (stream_of shaken)) refl

pub shaken_few : length (stream_of shaken) ≤ 65536
unfolding all_open shaken greeting stream_of
shaken_few = leb-true (length (stream_of shaken)) 65536 refl

-- ---- the objects that it leaves

handed : (m : Raw) (before : List Raw) → shaken ≡ m ∷ before → is_the_finish before m ≡ true → version before known.Seat ≡ 2 → (id : ℕ) →
    object shaken id ≡ cond (eqb id connection_id) (Some the_connection) (cond (eqb id seat_id) (Some (record { interface = known.Seat; version = 2; device = None })) None)
unfolding handed_over
handed m before e f v id = ap (λ (l : List Raw). object l id) e ∙ object_handed before m id f ∙ rw v refl

pub shaken_objects : (id : ℕ) → object shaken id ≡ cond (eqb id connection_id) (Some the_connection) (cond (eqb id seat_id) (Some (record { interface = known.Seat; version = 2; device = None })) None)
unfolding all_open shaken greeting
shaken_objects id = handed _ _ refl refl refl id
