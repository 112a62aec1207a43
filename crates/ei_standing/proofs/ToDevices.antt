-- What a request to a device, or to an interface of one, is by what it asks; and its device, where it is held.
use Rattle.std.proofs.Common.{◌≡◌, ℕ, true, false, List, Option, Some, None, refl, ap, ◌∙◌}
use Rattle.std.specs.Prelude.{find, codes}
use Rattle.ei_spec.specs.declared.interface.KnownInterface.TheVariants as known
use Rattle.ei_spec.specs.Message.{Raw}
use Rattle.ei_session.specs.Setup.{Setup}
use Rattle.ei_session.specs.Asked.{asks}
use Rattle.ei_session.specs.Handshake.{connected}
use Rattle.ei_session.specs.Meaning.{Meaning, meaning}
use Rattle.ei_session.specs.ByMeaning.{of_interface, releases, input_in, item_for}
use Rattle.ei_session.specs.AnsweredByMeaning.{reply_for}
use Rattle.ei_session.specs.Objects.{Entry, object, was_device, is_device as is_of_device, is_release}
use Rattle.ei_session.specs.Touches.{of_device, input}
use Rattle.ei_session.specs.Requests.{item}
use Rattle.ei_session.specs.Events.{reply}
use Rattle.ei_session.proofs.Choices.{not_both}
use Rattle.ei_session.proofs.ObjectShape as shape
use Rattle.ei_session.proofs.GoneLaws.{object_device}
use Rattle.ei_session.proofs.Placed.{object_owned}
use Rattle.ei_session.proofs.AskedMeans.{release_asked}
use Rattle.ei_session.proofs.AskedByMeaning.{its_interface, its_kind}
use Rattle.ei_session.proofs.ItemMeans.{item_asked, input_by}
use Rattle.ei_session.proofs.AnsweredMeans.{reply_asked}
use Rattle.ei_request.specs.Keys.{DeviceKey}
use Rattle.ei_request.specs.Held.{DeviceView, is_device}
use Rattle.ei_standing.specs.Standing.{IsDevice, IsHeldAt, AreDevices}

-- ---- by what it asks

module _ (setup : Setup) (past : List Raw) (m : Raw) (e : Entry) (x : Meaning) (k : object past m.id ≡ Some e) (w : meaning e.interface m ≡ Some x) where
  pub releases_so : asks e.interface (codes "release") m ≡ releases (Some x)
  releases_so = release_asked e.interface m ∙ ap releases w

  pub item_so : (d : ℕ) → e.device ≡ Some d → item past m ≡ item_for past m.id (Some d) (Some x)
  item_so d p = item_asked past m e k ∙ ap (item_for past m.id e.device) w ∙ ap (λ (o : Option ℕ). item_for past m.id o (Some x)) p

  pub input_so : (d : ℕ) → e.device ≡ Some d → input past m ≡ of_device (Some d) (input_in (Some x))
  input_so d p = input_by past m e k ∙ ap (λ (o : Option Meaning). of_device e.device (input_in o)) w ∙ ap (λ (o : Option ℕ). of_device o (input_in (Some x))) p

  pub reply_so : connected past ≡ true → reply setup past m ≡ reply_for setup past m (Some x)
  reply_so on = reply_asked setup past m e on k ∙ ap (reply_for setup past m) w

  -- a request that only devices have
  pub to_device : of_interface x ≡ Some known.Device → e.interface ≡ known.Device
  to_device o = its_interface e.interface m x known.Device w o

  pub device_itself : of_interface x ≡ Some known.Device → e.device ≡ Some m.id
  device_itself o = object_device past m.id e k (to_device o)

  -- a request that interfaces of devices have
  pub to_interface : of_interface x ≡ None → is_of_device e.interface ≡ false
  to_interface o = (its_kind e.interface m x w o).0

  pub device_of_it : of_interface x ≡ None → (d : ℕ) × (e.device ≡ Some d)
  device_of_it o = object_owned past m.id e k (its_kind e.interface m x w o).1

pub release_is : (m : Raw) (e : Entry) → asks e.interface (codes "release") m ≡ true → is_release (Some e) m ≡ true
unfolding is_release
release_is m e r = r

-- ---- its device

-- the device is held
pub record There (setup : Setup) (past : List Raw) (d : ℕ) (o : Option DeviceView) : Type 0 where
  pub device : DeviceView
  pub found : o ≡ Some device
  pub is : IsDevice setup past d device
  pub id : device.device.proxy.id ≡ d

there_at : (setup : Setup) (past : List Raw) (d : ℕ) (o : Option DeviceView) → IsHeldAt setup past d o → was_device (object past d) ≡ true → There setup past d o
there_at setup past d None h w = absurd (not_both (was_device (object past d)) w h)
there_at setup past d (Some v) h w = record { device = v; found = refl; is = h; id = ap (λ (x : DeviceKey). x.proxy.id) h.device }

device_there : (o : Option Entry) (d : ℕ) → shape.IsDevice o d → was_device o ≡ true
unfolding was_device
device_there o d h = rw (h.is, was_device, h.kind) refl

pub held_there : (setup : Setup) (past : List Raw) (ds : List DeviceView) (id d : ℕ) (e : Entry) → AreDevices setup past ds → object past id ≡ Some e → e.device ≡ Some d → There setup past d (find (is_device d) ds)
held_there setup past ds id d e h k p = there_at setup past d (find (is_device d) ds) (h.each_one d) (device_there (object past d) d (shape.object_owner past id e d k p))
