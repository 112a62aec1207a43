-- The room that a device takes in the table.
use Rattle.std.proofs.Common.{◌≡◌, ◌≤◌, ◌+◌, ℕ, suc, List, [], ◌∷◌, map, length, Option, Some, None, refl, sym, ap, ◌∙◌, arith}
use Rattle.std.specs.Prelude.{◌&&◌, if◌then◌else◌}
use Rattle.std.specs.List.{filter_map, cons_option}
use Rattle.std.proofs.lemmas.List.{length-map}
use Rattle.ei_spec.specs.Interface.{ObjectView}
use Rattle.ei_spec.specs.declared.interface.KnownInterface.{KnownInterface}
use Rattle.ei_spec.specs.declared.limits.TheConstants.{CAPABILITIES}
use Rattle.ei_types.specs.declared.capability.DeviceCapabilities.{DeviceCapabilities}
use Rattle.ei_types.specs.Capability.{capabilities, has_bit, bits_of}
use Rattle.ei_backend.specs.Endpoint.{Endpoint}
use Rattle.ei_request.specs.Held.{DeviceView}
use Rattle.ei_request.specs.Making.{granted, objects_of}
use Rattle.ei_request.specs.DeviceTable.{TableView, HasRoom, own_ids}

one_more : {Y : Type 0} (o : Option Y) (ys : List Y) (n : ℕ) → length ys ≤ n → length (cons_option o ys) ≤ n + 1
one_more None ys n le = omega (arith, le)
one_more (Some y) ys n le = omega (arith, le)

fewer : {X Y : Type 0} (f : X → Option Y) (xs : List X) → length (filter_map f xs) ≤ length xs
fewer f [] = omega arith
fewer f (x ∷ xs) = let le = one_more (f x) (filter_map f xs) (length xs) (fewer f xs) in omega (arith, le)

granted_few : (given wanted : DeviceCapabilities) → length (granted given wanted) ≤ CAPABILITIES
granted_few given wanted =
    let one : ℕ × KnownInterface → Option KnownInterface = λ c. if has_bit (bits_of given) c.0 && has_bit (bits_of wanted) c.0 then Some c.1 else None in
    let all : length capabilities ≡ CAPABILITIES = refl in
    let le : length (granted given wanted) ≤ length capabilities = fewer one capabilities in
    omega (arith, le, all)

objects_length : (e : Endpoint) (v : KnownInterface → ℕ) (is : List KnownInterface) → length (objects_of e v is) ≡ length is
objects_length e v [] = refl
objects_length e v (i ∷ is) = ap suc (objects_length (record e { next_own = e.next_own + 1 }) v is)

-- there is room for a device with the interfaces that it was granted
pub has_room : (t : TableView) (d : DeviceView) (given wanted : DeviceCapabilities) (e : Endpoint) (v : KnownInterface → ℕ) → HasRoom (CAPABILITIES + 1) t → d.interfaces ≡ objects_of e v (granted given wanted) → HasRoom (length (own_ids d)) t
has_room t d given wanted e v h is =
    let few = granted_few given wanted in
    let n : length d.interfaces ≡ length (granted given wanted) = ap length is ∙ objects_length e v (granted given wanted) in
    let m : length (map (λ o. o.id) d.interfaces) ≡ length d.interfaces = length-map d.interfaces (λ o. o.id) in
    record { place = h.place; places = (let le = h.places in omega (arith, few, n, m, le)); number = h.number }
