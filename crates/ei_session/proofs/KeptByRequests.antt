-- What requests after the finish keep as it was.
use Rattle.std.proofs.Common.{◌≡◌, ℕ, ◌+◌, ◌%◌, ◌^◌, ◌<◌, Bool, true, false, cond, not, eqb, List, [], ◌∷◌, Option, Some, None, refl, sym, ap, ◌∙◌, arith}
use Rattle.std.specs.Prelude.{is_some, codes}
use Rattle.std.proofs.lemmas.Bool.Decides.{nat_tests}
use Rattle.ei_spec.specs.declared.interface.KnownInterface.{KnownInterface}
use Rattle.ei_spec.specs.declared.interface.KnownInterface.TheVariants as known
use Rattle.ei_spec.specs.Message.{Raw}
use Rattle.ei_spec.specs.History.{total, occurs}
use Rattle.ei_session.specs.Setup.{Setup, seat_id}
use Rattle.ei_session.specs.Asked.{asks}
use Rattle.ei_session.specs.Handshake.{connected}
use Rattle.ei_session.specs.Devices.{releases_seat, seat_is_open, made, ids_given, next_id}
use Rattle.ei_session.specs.Objects.{Entry, is_release, is_device, object, interfaces_left, gone}
use Rattle.ei_session.specs.Serial.{steps, serial}
use Rattle.ei_session.specs.Events.{destroyed_event, destroyed_events, reply}
use Rattle.ei_session.specs.Kept.{KeepsVersions, Plainly}
use Rattle.ei_session.proofs.Choices.{none_some, some_is, and_left}
use Rattle.ei_session.proofs.ObjectLaws.{object_is_introduced, device_above, above_makes_nothing, object_keeps, made_is}
use Rattle.ei_session.proofs.ObjectShape.{seat_was, same_connected, next_id_more, object_seat, object_seat_release, object_unknown, release_makes_nothing}
use Rattle.ei_session.proofs.ObjectShape.{unknown_makes_nothing}
use Rattle.ei_session.proofs.FirstObjects.{object_first}
use Rattle.ei_session.proofs.GoneLaws.{no_finish_again, some_entry}
use Rattle.ei_session.proofs.DeviceRange.{lies, interfaces_kept, left_same, left_plain}
use Rattle.ei_session.proofs.SerialLaws.{serial_more, gone_plain, gone_unknown, gone_one, steps_quiet, steps_one, settled_fixed, version_fixed}
use Rattle.ei_session.proofs.ReplyLaws.{reply_release}

-- ---- serials and ids

pub no_step : (setup : Setup) (past : List Raw) (m : Raw) → steps past m ≡ 0 → serial setup (m ∷ past) ≡ serial setup past
unfolding serial total
no_step setup past m e = let none : total steps past + steps past m ≡ total steps past = omega arith in ap (λ (n : ℕ). (setup.serial + n) % 2 ^ 32) none

pub no_ids : (past : List Raw) (m : Raw) → made past m ≡ None → ids_given past m ≡ 0
unfolding ids_given
no_ids past m e = rw e refl

pub same_next_id : (past : List Raw) (m : Raw) → made past m ≡ None → next_id (m ∷ past) ≡ next_id past
same_next_id past m n = let none = no_ids past m n in next_id_more past m ∙ omega (arith, none)

pub fixed_versions : (past : List Raw) (m : Raw) → connected past ≡ true → KeepsVersions past m
fixed_versions past m on = record { same_settled = λ i. settled_fixed past m i on; same_version = λ i. version_fixed past m i on }

-- ---- the finish comes once, and before all devices

pub stays_connected : (past : List Raw) (m : Raw) → connected past ≡ true → connected (m ∷ past) ≡ true
stays_connected past m on = same_connected past m (no_finish_again past m on) ∙ on

pub made_connected : (past : List Raw) (m : Raw) (mask : ℕ) → made past m ≡ Some mask → connected past ≡ true
unfolding seat_is_open
made_connected past m mask h =
    let open_is = and_left (seat_is_open past) (eqb m.id seat_id) (made_is past m mask h).0 in
    and_left (connected past) (not (occurs releases_seat past)) open_is

-- ---- requests that give nothing and take nothing away

quietly : (setup : Setup) (past : List Raw) (m : Raw) → connected past ≡ true → made past m ≡ None → gone past m ≡ [] → ((id : ℕ) → object (m ∷ past) id ≡ object past id) → Plainly setup past m
quietly setup past m on n g same = record {
  keeps = record {
    same_objects = same;
    same_left = λ d. left_plain past m d n same;
    same_serial = no_step setup past m (steps_quiet past m n g);
    same_next = same_next_id past m n;
    same_connected = same_connected past m (no_finish_again past m on);
  };
  versions = fixed_versions past m on;
  on = on;
}

-- to what is there: no release, and nothing that makes a device
pub plainly_known : (setup : Setup) (past : List Raw) (m : Raw) (e : Entry) → connected past ≡ true → object past m.id ≡ Some e → made past m ≡ None → asks e.interface (codes "release") m ≡ false → Plainly setup past m
unfolding is_release
plainly_known setup past m e on k n r =
    let quiet : is_release (Some e) m ≡ false = r in
    quietly setup past m on n (gone_plain past m e k quiet) (λ id.
    object_keeps past m id (no_finish_again past m on) n (ap (λ (x : Option Entry). is_release x m) (object_is_introduced past m.id e k) ∙ quiet))

-- to what isn't there
pub plainly_unknown : (setup : Setup) (past : List Raw) (m : Raw) → connected past ≡ true → object past m.id ≡ None → Plainly setup past m
plainly_unknown setup past m on k = quietly setup past m on (unknown_makes_nothing past m k) (gone_unknown past m k) (λ id. object_unknown past m id (no_finish_again past m on) k)

-- where there is a device, the finish came
pub device_connected : (past : List Raw) (id : ℕ) (e : Entry) (d : ℕ) → object past id ≡ Some e → e.device ≡ Some d → connected past ≡ true
device_connected past id e d k p = by (connected past) refl
  where
    bare : (b : Bool) → cond b (Some (record { interface = known.Handshake; version = 1; device = None })) None ≡ Some e → None ≡ Some d
    bare true h = ap (λ (x : Entry). x.device) (let same : record { interface = known.Handshake; version = 1; device = None } ≡ e = cc in same) ∙ p
    bare false h = absurd (none_some e h)

    by : (b : Bool) → connected past ≡ b → connected past ≡ true
    by true on = on
    by false off = absurd (none_some d (bare (eqb id 0) (sym (object_first past id off) ∙ k)))

-- to a device or to an interface of one: no release
pub plainly_device : (setup : Setup) (past : List Raw) (m : Raw) (e : Entry) (d : ℕ) → object past m.id ≡ Some e → e.device ≡ Some d → asks e.interface (codes "release") m ≡ false → Plainly setup past m
plainly_device setup past m e d k p r =
    plainly_known setup past m e (device_connected past m.id e d k p) k (above_makes_nothing past m (device_above past m.id e d (object_is_introduced past m.id e k) p)) r

-- ---- the seat's release

module _ (past : List Raw) (m : Raw) (on : connected past ≡ true) (at : m.id ≡ seat_id) (r : asks known.Seat (codes "release") m ≡ true) where
  makes_none : made past m ≡ None
  makes_none = release_makes_nothing past m known.Seat r

  high_same : (id : ℕ) → seat_id < id → object (m ∷ past) id ≡ object past id
  high_same id lt = let other : eqb m.id id ≡ false = grind (arith, nat_tests, at) in object_seat_release past m id on at r ∙ rw other refl

  pub seat_left : (d : ℕ) → interfaces_left (m ∷ past) d ≡ interfaces_left past d
  seat_left d = left_same past m d (interfaces_kept past m d makes_none) (λ id low high. let l = lies past d (omega (arith, low, high)) in high_same id (omega (arith, l.low, low)))

  gone_seat : object (m ∷ past) seat_id ≡ None
  gone_seat = let here : eqb m.id seat_id ≡ true = grind (arith, nat_tests, at) in object_seat_release past m seat_id on at r ∙ rw here refl

  pub seat_shut : seat_is_open (m ∷ past) ≡ false
  seat_shut = sym (object_seat (m ∷ past)) ∙ ap is_some gone_seat

-- the seat's object, where it is open
record SeatThere (past : List Raw) (m : Raw) : Type 0 where
  entry : Entry
  is : object past m.id ≡ Some entry
  kind : entry.interface ≡ known.Seat
  on : connected past ≡ true

seat_there : (past : List Raw) (m : Raw) → seat_is_open past ≡ true → m.id ≡ seat_id → SeatThere past m
unfolding seat_is_open
seat_there past m o at =
    let on : connected past ≡ true = and_left (connected past) (not (occurs releases_seat past)) o in
    let was = seat_was past on in
    let some : is_some (object past seat_id) ≡ true = object_seat past ∙ o in
    let e = some_entry (object past seat_id) some in
    let same : e.0 ≡ was.entry = some_is e.0 was.entry (sym (object_is_introduced past seat_id e.0 e.1) ∙ was.is) in
    record { entry = e.0; is = ap (object past) at ∙ e.1; kind = ap (λ (x : Entry). x.interface) same ∙ was.kind; on = on }

module _ (setup : Setup) (past : List Raw) (m : Raw) (o : seat_is_open past ≡ true) (at : m.id ≡ seat_id) (r : asks known.Seat (codes "release") m ≡ true) where
  there : SeatThere past m
  there = seat_there past m o at

  asks_it : asks there.entry.interface (codes "release") m ≡ true
  asks_it = ap (λ (x : KnownInterface). asks x (codes "release") m) there.kind ∙ r

  is_it : is_release (Some there.entry) m ≡ true
  unfolding is_release
  is_it = asks_it

  pub seat_serial : serial setup (m ∷ past) ≡ (serial setup past + 1) % 2 ^ 32
  seat_serial = serial_more setup past m ∙ ap (λ (n : ℕ). (serial setup past + n) % 2 ^ 32) (steps_one past m there.entry there.is (ap is_device there.kind) is_it)

  pub seat_reply : reply setup past m ≡ destroyed_event seat_id (serial setup (m ∷ past)) ∷ []
  seat_reply =
      reply_release setup past m there.entry there.is (λ same. omega (arith, at, same)) (no_finish_again past m there.on) asks_it
      ∙ ap (destroyed_events (serial setup past)) (gone_one past m there.entry there.is (ap is_device there.kind) is_it ∙ ap (λ (x : ℕ). x ∷ []) at)
      ∙ ap (λ (s : ℕ). destroyed_event seat_id s ∷ []) (sym seat_serial)
