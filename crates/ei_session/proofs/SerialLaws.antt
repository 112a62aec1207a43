-- The serial, the versions and the touches after one more message.
use Rattle.std.proofs.Common.{◌≡◌, ℕ, ◌+◌, ◌%◌, ◌^◌, Bool, true, false, List, [], ◌∷◌, ◌++◌, length, Option, Some, None, refl, arith}
use Rattle.std.specs.Prelude.{unwrap_or}
use Rattle.std.proofs.lemmas.List.{length-append}
use Rattle.ei_spec.specs.declared.interface.KnownInterface.{KnownInterface}
use Rattle.ei_spec.specs.declared.interface.KnownInterface.TheVariants as known
use Rattle.ei_spec.specs.Interface.{name_of}
use Rattle.ei_spec.specs.Message.{Raw}
use Rattle.ei_spec.specs.History.{total}
use Rattle.ei_spec.proofs.HistoryLaws.{said_now, said_before}
use Rattle.ei_session.specs.Setup.{Setup}
use Rattle.ei_session.specs.Handshake.{connected, announces, settled, version}
use Rattle.ei_session.specs.Devices.{made, exhausts}
use Rattle.ei_session.specs.Objects.{Entry, is_release, is_device, object, interfaces_left, going, gone}
use Rattle.ei_session.specs.Serial.{steps, serial}
use Rattle.ei_session.specs.Touches.{touches, is_down}
use Rattle.ei_session.proofs.Opcodes.{mask_no_release}
use Rattle.ei_session.proofs.ObjectLaws.{made_is}
use Rattle.ei_session.proofs.ObjectShape.{release_makes_nothing}

-- ---- serial

pub serial_more : (setup : Setup) (before : List Raw) (m : Raw) → serial setup (m ∷ before) ≡ (serial setup before + steps before m) % 2 ^ 32
unfolding serial total
serial_more setup before m = omega arith

-- ---- what goes

pub gone_unknown : (before : List Raw) (m : Raw) → object before m.id ≡ None → gone before m ≡ []
unfolding gone
gone_unknown before m n = rw (n, gone) refl

pub gone_plain : (before : List Raw) (m : Raw) (e : Entry) → object before m.id ≡ Some e → is_release (Some e) m ≡ false → gone before m ≡ []
unfolding gone
gone_plain before m e k r = rw (k, gone, r) refl

going_one : (before : List Raw) (id : ℕ) (k : KnownInterface) → is_device k ≡ false → going before id k ≡ id ∷ []
going_one before id known.Device e = absurd cc
going_one before id k e = refl

pub gone_one : (before : List Raw) (m : Raw) (e : Entry) → object before m.id ≡ Some e → is_device e.interface ≡ false → is_release (Some e) m ≡ true → gone before m ≡ m.id ∷ []
unfolding gone
gone_one before m e k d r = rw (k, gone, r) (going_one before m.id e.interface d)

pub gone_device : (before : List Raw) (m : Raw) (e : Entry) → object before m.id ≡ Some e → e.interface ≡ known.Device → is_release (Some e) m ≡ true → gone before m ≡ interfaces_left before m.id ++ (m.id ∷ [])
unfolding gone
gone_device before m e k d r = rw (k, gone, r, d) refl

gone_made_at : (before : List Raw) (m : Raw) (mask : ℕ) (o : Option Entry) → made before m ≡ Some mask → object before m.id ≡ o → gone before m ≡ []
unfolding is_release
gone_made_at before m mask None h k = gone_unknown before m k
gone_made_at before m mask (Some e) h k = gone_plain before m e k (mask_no_release m mask e.interface (made_is before m mask h).1)

-- a message that makes a device takes nothing away
pub gone_made : (before : List Raw) (m : Raw) (mask : ℕ) → made before m ≡ Some mask → gone before m ≡ []
gone_made before m mask h = gone_made_at before m mask (object before m.id) h refl

-- ---- how many serials a message uses

pub steps_quiet : (before : List Raw) (m : Raw) → made before m ≡ None → gone before m ≡ [] → steps before m ≡ 0
unfolding steps
steps_quiet before m n g = rw (n, g, steps) refl

pub steps_made : (before : List Raw) (m : Raw) (mask : ℕ) → made before m ≡ Some mask → exhausts before m ≡ false → steps before m ≡ 1
unfolding steps
steps_made before m mask h e = rw (h, e, gone_made before m mask h, steps) refl

pub steps_exhausting : (before : List Raw) (m : Raw) (mask : ℕ) → made before m ≡ Some mask → exhausts before m ≡ true → steps before m ≡ 0
unfolding steps
steps_exhausting before m mask h e = rw (h, e, gone_made before m mask h, steps) refl

pub steps_one : (before : List Raw) (m : Raw) (e : Entry) → object before m.id ≡ Some e → is_device e.interface ≡ false → is_release (Some e) m ≡ true → steps before m ≡ 1
unfolding steps is_release
steps_one before m e k d r = rw (release_makes_nothing before m e.interface r, gone_one before m e k d r, steps) refl

pub steps_device : (before : List Raw) (m : Raw) (e : Entry) → object before m.id ≡ Some e → e.interface ≡ known.Device → is_release (Some e) m ≡ true → steps before m ≡ 1 + length (interfaces_left before m.id)
unfolding steps is_release
steps_device before m e k d r =
    rw (release_makes_nothing before m e.interface r, gone_device before m e k d r, steps) (let l = length-append (interfaces_left before m.id) (m.id ∷ []) in omega (arith, l))

-- ---- versions are settled by the finish

announces_none : (name : List ℕ) (before : List Raw) (m : Raw) → connected before ≡ true → announces name before m ≡ None
unfolding announces
announces_none name before m on = rw (on, announces) refl

pub settled_fixed : (before : List Raw) (m : Raw) (interface : KnownInterface) → connected before ≡ true → settled (m ∷ before) interface ≡ settled before interface
unfolding settled
settled_fixed before m interface on = rw (said_before (announces (name_of interface)) before m (announces_none (name_of interface) before m on), settled) refl

pub version_fixed : (before : List Raw) (m : Raw) (interface : KnownInterface) → connected before ≡ true → version (m ∷ before) interface ≡ version before interface
unfolding version
version_fixed before m interface on = rw (settled_fixed before m interface on, version) refl

-- ---- touches

down_at : (before : List Raw) (m : Raw) (device touch : ℕ) (says : Option Bool) → touches device touch before m ≡ says → is_down (m ∷ before) device touch ≡ unwrap_or says (is_down before device touch)
unfolding is_down
down_at before m device touch (Some now) e = rw (said_now (touches device touch) before m now e, is_down) refl
down_at before m device touch None e = rw (said_before (touches device touch) before m e, is_down) refl

pub down_more : (before : List Raw) (m : Raw) (device touch : ℕ) → is_down (m ∷ before) device touch ≡ unwrap_or (touches device touch before m) (is_down before device touch)
down_more before m device touch = down_at before m device touch (touches device touch before m) refl
