-- A device that is announced and described as a whole.
use Rattle.std.proofs.Common.{◌≡◌, ℕ, ◌+◌, true, List, [], ◌∷◌, ◌++◌, Option, Some, None, refl, sym, ap, subst, ◌∙◌}
use Rattle.std.specs.Prelude.{IsSome}
use Rattle.std.specs.Option.{option_map}
use Rattle.ei_spec.specs.declared.interface.KnownInterface.{KnownInterface}
use Rattle.ei_spec.specs.declared.interface.KnownInterface.TheVariants as known
use Rattle.ei_spec.specs.Interface.{ObjectView}
use Rattle.ei_types.specs.declared.capability.DeviceCapabilities.{DeviceCapabilities}
use Rattle.ei_types.specs.declared.enums.DeviceType.{DeviceType}
use Rattle.ei_backend.specs.Backend.{BackendView}
use Rattle.ei_backend.specs.Endpoint.{Endpoint, endpoint_of}
use Rattle.ei_handshake.specs.Versions.{VersionMap}
use Rattle.ei_request.specs.Connection.{ConnectionView, version_in}
use Rattle.ei_request.specs.Keys.{DeviceKey}
use Rattle.ei_request.specs.Held.{SeatView, DeviceView}
use Rattle.ei_request.specs.Sending.{next_object}
use Rattle.ei_request.specs.Making.{granted, granted_by, has_keyboard, announces_all, objects_of, object_of, begins_device, ends_device, new_device}
use Rattle.ei_request.specs.Making.{makes_device, AddsDevice}
use Rattle.ei_request.specs.declared.making.DeviceSetup.{DeviceSetup}
use Rattle.ei_request.proofs.MadeInTurn.{same_objects}

-- what the seat gives, where it is held
pub granted_is : (o : Option SeatView) (given wanted : DeviceCapabilities) → option_map (λ s. s.capabilities) o ≡ Some given → granted_by o wanted ≡ granted given wanted
granted_is None given wanted e = absurd cc
granted_is (Some s) given wanted e = let same : s.capabilities ≡ given = cc in ap (λ (x : DeviceCapabilities). granted x wanted) same

-- a device that gets a keyboard has its object
at_head : (e : Endpoint) (v : KnownInterface → ℕ) (i : KnownInterface) (is : List KnownInterface) →
    (has_keyboard is ≡ true → IsSome (object_of known.Keyboard (objects_of (record e { next_own = e.next_own + 1 }) v is))) → has_keyboard (i ∷ is) ≡ true → IsSome (object_of known.Keyboard (objects_of e v (i ∷ is)))
at_head e v known.Keyboard is rest h = refl
at_head e v i is rest h = rest h

keyboard_found : (e : Endpoint) (v : KnownInterface → ℕ) (is : List KnownInterface) → has_keyboard is ≡ true → IsSome (object_of known.Keyboard (objects_of e v is))
keyboard_found e v [] h = absurd cc
keyboard_found e v (i ∷ is) h = at_head e v i is (keyboard_found (record e { next_own = e.next_own + 1 }) v is) h

pub keyboard_among : (e : Endpoint) (v : KnownInterface → ℕ) (is : List KnownInterface) (objects : List ObjectView) → objects ≡ objects_of e v is → has_keyboard is ≡ true → IsSome (object_of known.Keyboard objects)
keyboard_among e v is objects same h = subst (λ (os : List ObjectView). IsSome (object_of known.Keyboard os)) (sym same) (keyboard_found e v is h)

-- the objects of its interfaces
pub objects_behind : (e e1 : Endpoint) (versions : VersionMap) (version seat : ℕ) (name : Option (List ℕ)) (kind : DeviceType) (is : List KnownInterface) → e1 ≡ begins_device e seat version name kind →
    objects_of e1 (version_in versions) is ≡ objects_of (record e { next_own = e.next_own + 1 }) (version_in versions) is
objects_behind e e1 versions version seat name kind is p =
    ap (λ (x : Endpoint). objects_of x (version_in versions) is) p
    ∙ same_objects (begins_device e seat version name kind) (record e { next_own = e.next_own + 1 }) (version_in versions) is refl refl

-- begun, with its interfaces, and described
pub made_whole : (e e1 e2 : Endpoint) (versions : VersionMap) (version : ℕ) (seat proxy : ObjectView) (name : Option (List ℕ)) (kind : DeviceType) (items : List DeviceSetup) (is : List KnownInterface) (objects : List ObjectView) →
    version ≡ version_in versions known.Device → proxy ≡ next_object e known.Device version → e1 ≡ begins_device e seat.id version name kind → objects ≡ objects_of e1 (version_in versions) is →
    e2 ≡ ends_device (announces_all e1 (version_in versions) proxy.id is) proxy.id (object_of known.Keyboard objects) items →
    e2 ≡ makes_device e versions seat.id name kind items (new_device e versions seat name is) is
made_whole e e1 e2 versions version seat proxy name kind items is objects v p q r s =
    let id : proxy.id ≡ e.next_own = ap (λ (o : ObjectView). o.id) p in
    let begun : e1 ≡ begins_device e seat.id (version_in versions known.Device) name kind = q ∙ ap (λ (n : ℕ). begins_device e seat.id n name kind) v in
    s ∙ ap (λ (n : ℕ). ends_device (announces_all e1 (version_in versions) n is) n (object_of known.Keyboard objects) items) id
    ∙ ap (λ (os : List ObjectView). ends_device (announces_all e1 (version_in versions) e.next_own is) e.next_own (object_of known.Keyboard os) items) (r ∙ objects_behind e e1 versions version seat.id name kind is q)
    ∙ ap (λ (x : Endpoint). ends_device (announces_all x (version_in versions) e.next_own is) e.next_own (object_of known.Keyboard (objects_of (record e { next_own = e.next_own + 1 }) (version_in versions) is)) items) begun

-- what is held then
pub adds_device : (old at : ConnectionView) (ctx start : BackendView) (seat : ObjectView) (name : Option (List ℕ)) (kind : DeviceType) (is : List KnownInterface) (items : List DeviceSetup) (devices : List DeviceView) (d : DeviceView) → at ≡ old →
    endpoint_of start ≡ endpoint_of at.ctx → endpoint_of ctx ≡ makes_device (endpoint_of start) at.negotiated seat.id name kind items (new_device (endpoint_of start) at.negotiated seat name is) is →
    devices ≡ at.devices ++ d ∷ [] → d ≡ new_device (endpoint_of start) at.negotiated seat name is → AddsDevice old seat name kind is items (record at { ctx = ctx; devices = devices })
adds_device old at ctx start seat name kind is items devices d view same told held made = subst (λ (c : ConnectionView). AddsDevice c seat name kind is items (record at { ctx = ctx; devices = devices })) view (record {
  endpoint = told ∙ ap (λ (e : Endpoint). makes_device e at.negotiated seat.id name kind items (new_device e at.negotiated seat name is) is) same;
  rest = ap (λ (ds : List DeviceView). record at { ctx = ctx; devices = ds }) (held ∙ ap (λ (x : DeviceView). at.devices ++ x ∷ []) (made ∙ ap (λ (e : Endpoint). new_device e at.negotiated seat name is) same));
})

-- the view of the new device
pub device_is : (e e1 : Endpoint) (versions : VersionMap) (version : ℕ) (seat proxy : ObjectView) (name : Option (List ℕ)) (kind : DeviceType) (is : List KnownInterface) (objects : List ObjectView) →
    version ≡ version_in versions known.Device → proxy ≡ next_object e known.Device version → e1 ≡ begins_device e seat.id version name kind → objects ≡ objects_of e1 (version_in versions) is →
    record { device = record { seat = seat; proxy = proxy }; name = name; interfaces = objects; waiting = []; touches = [] } ≡ new_device e versions seat name is
device_is e e1 versions version seat proxy name kind is objects v p q r =
    let made : proxy ≡ next_object e known.Device (version_in versions known.Device) = p ∙ ap (next_object e known.Device) v in
    let behind : objects ≡ objects_of (record e { next_own = e.next_own + 1 }) (version_in versions) is = r ∙ objects_behind e e1 versions version seat.id name kind is q in
    rw (made, behind) refl

pub same_held : (d k : DeviceKey) (n m : Option (List ℕ)) (objects : List ObjectView) → d ≡ k → n ≡ m →
    ◌≡◌ {A = DeviceView} (record { device = d; name = n; interfaces = objects; waiting = []; touches = [] }) (record { device = k; name = m; interfaces = objects; waiting = []; touches = [] })
same_held d k n m objects p q = rw (p, q) refl
