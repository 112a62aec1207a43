-- What answers a message of each kind.
use Rattle.std.proofs.Common.{◌≡◌, ◌≢◌, ℕ, true, false, eqb, List, [], ◌∷◌, ◌++◌, Option, Some, None, refl, sym, ap, ◌∙◌, arith}
use Rattle.std.specs.Prelude.{codes}
use Rattle.std.proofs.lemmas.Bool.{eqb-true}
use Rattle.std.proofs.lemmas.Bool.Decides.{nat_tests}
use Rattle.ei_spec.specs.declared.interface.KnownInterface.{KnownInterface}
use Rattle.ei_spec.specs.declared.interface.KnownInterface.TheVariants as known
use Rattle.ei_spec.specs.Value.{Word, Long}
use Rattle.ei_spec.specs.Message.{Raw}
use Rattle.ei_session.specs.Setup.{Setup, connection_id, seat_id}
use Rattle.ei_session.specs.Arguments.{event}
use Rattle.ei_session.specs.Asked.{asked, asks}
use Rattle.ei_session.specs.Handshake.{connected, is_the_finish, version}
use Rattle.ei_session.specs.Replies.{finish_events}
use Rattle.ei_session.specs.Devices.{seat_is_open, made, interfaces_of, next_id, exhausts}
use Rattle.ei_session.specs.Objects.{Entry, is_release, object, gone}
use Rattle.ei_session.specs.Serial.{serial}
use Rattle.ei_session.specs.Refusals.{synced}
use Rattle.ei_session.specs.Events.{invalid_object_event, callback_event, device_events, destroyed_event, destroyed_events, callback_events, reply}
use Rattle.ei_session.proofs.Choices.{and_right, and_false}
use Rattle.ei_session.proofs.ObjectLaws.{not_finish, makes_nothing, made_is}
use Rattle.ei_session.proofs.ObjectShape.{unknown_makes_nothing, release_makes_nothing}
use Rattle.ei_session.proofs.FirstObjects.{object_connection, connection_unreleased, the_connection}
use Rattle.ei_session.proofs.SerialLaws.{gone_plain}

pub reply_finish : (setup : Setup) (before : List Raw) (m : Raw) → is_the_finish before m ≡ true → reply setup before m ≡ finish_events setup before
unfolding reply
reply_finish setup before m f = rw (f, reply) refl

pub reply_unknown : (setup : Setup) (before : List Raw) (m : Raw) → connected before ≡ true → is_the_finish before m ≡ false → object before m.id ≡ None → reply setup before m ≡ invalid_object_event (serial setup before) m.id ∷ []
unfolding reply
reply_unknown setup before m on f n = rw (f, reply, unknown_makes_nothing before m n, n, on) refl

pub reply_made : (setup : Setup) (before : List Raw) (m : Raw) (mask : ℕ) → made before m ≡ Some mask → exhausts before m ≡ false → reply setup before m ≡ device_events (version before) (next_id before) (interfaces_of mask) (serial setup (m ∷ before))
unfolding reply
reply_made setup before m mask h e =
    let at : m.id ≡ seat_id = eqb-true m.id seat_id (and_right (seat_is_open before) (eqb m.id seat_id) (made_is before m mask h).0) in
    let f = not_finish before m (omega (arith, at)) in
    rw (f, reply, h, e) refl

pub reply_known : (setup : Setup) (before : List Raw) (m : Raw) (e : Entry) → is_the_finish before m ≡ false → made before m ≡ None → object before m.id ≡ Some e → reply setup before m ≡ callback_events (synced before m) ++ destroyed_events (serial setup before) (gone before m)
unfolding reply
reply_known setup before m e f n k = rw (f, reply, n, k) refl

pub not_synced : (before : List Raw) (m : Raw) → m.id ≢ connection_id → synced before m ≡ None
unfolding synced
not_synced before m far =
    let other : eqb m.id connection_id ≡ false = grind (arith, nat_tests, far) in
    rw (other, and_false (connected before)) refl

-- a release is answered by an event for each id that goes
pub reply_release : (setup : Setup) (before : List Raw) (m : Raw) (e : Entry) → object before m.id ≡ Some e → connection_id ≢ m.id → is_the_finish before m ≡ false → asks e.interface (codes "release") m ≡ true → reply setup before m ≡ destroyed_events (serial setup before) (gone before m)
reply_release setup before m e k far f r =
    reply_known setup before m e f (release_makes_nothing before m e.interface r) k ∙ ap (λ (x : Option ℕ). callback_events x ++ destroyed_events (serial setup before) (gone before m)) (not_synced before m (λ q. far (sym q)))

-- a message that makes nothing, releases nothing and is no sync isn't answered
pub reply_quiet : (setup : Setup) (before : List Raw) (m : Raw) (e : Entry) → is_the_finish before m ≡ false → made before m ≡ None → object before m.id ≡ Some e → is_release (Some e) m ≡ false → synced before m ≡ None → reply setup before m ≡ []
reply_quiet setup before m e f n k r s =
    reply_known setup before m e f n k ∙ rw (s, gone_plain before m e k r) refl

synced_is : (before : List Raw) (m : Raw) (callback v : ℕ) → connected before ≡ true → m.id ≡ connection_id → asked known.Connection (codes "sync") m ≡ Some (Long callback ∷ Word v ∷ []) → synced before m ≡ Some callback
unfolding synced
synced_is before m callback v on at h =
    let here : eqb m.id connection_id ≡ true = grind (arith, nat_tests, at) in
    rw (on, here, h, synced) refl

-- a sync is answered by its callback
pub reply_sync : (setup : Setup) (before : List Raw) (m : Raw) (callback v : ℕ) → connected before ≡ true → m.id ≡ connection_id → asked known.Connection (codes "sync") m ≡ Some (Long callback ∷ Word v ∷ []) → reply setup before m ≡ callback_event callback ∷ []
unfolding is_release
reply_sync setup before m callback v on at h =
    let k : object before m.id ≡ Some the_connection = ap (object before) at ∙ object_connection before ∙ rw on refl in
    let f = not_finish before m (omega (arith, at)) in
    let n = makes_nothing before m (λ q. omega (arith, at, q)) in
    reply_known setup before m the_connection f n k ∙ rw (synced_is before m callback v on at h, gone_plain before m the_connection k (connection_unreleased known.Connection m refl)) refl

-- the event by which an object goes is that of its own interface
pub same_destroyed : (interface : KnownInterface) (m : Raw) (id serial : ℕ) → asks interface (codes "release") m ≡ true → destroyed_event id serial ≡ event interface (codes "destroyed") id (Word serial ∷ [])
unfolding asks asked
same_destroyed known.Handshake m id serial h = absurd cc
same_destroyed known.Connection m id serial h = absurd cc
same_destroyed known.Callback m id serial h = absurd cc
same_destroyed known.Pingpong m id serial h = absurd cc
same_destroyed k m id serial h = refl
