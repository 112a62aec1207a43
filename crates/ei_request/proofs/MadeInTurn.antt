-- Interfaces that are announced one after another.
use Rattle.std.proofs.Common.{◌≡◌, ℕ, ◌+◌, ◌<◌, ◌≤◌, Bool, true, false, List, [], ◌∷◌, ◌++◌, length, take, drop, get_or, Some, None, refl, sym, ap}
use Rattle.std.proofs.Common.{◌∙◌, append_assoc, arith}
use Rattle.std.specs.Prelude.{if◌then◌else◌, ◌&&◌, map}
use Rattle.std.specs.List.{flat_map, filter_map, cons_option}
use Rattle.std.proofs.lemmas.List.{take_more, take_all, take-append-drop, append-nil, length-append}
use Rattle.std.proofs.lemmas.Grind.{flat_map-append}
use Rattle.ei_spec.specs.declared.interface.KnownInterface.{KnownInterface}
use Rattle.ei_spec.specs.Interface.{ObjectView}
use Rattle.ei_types.specs.declared.capability.DeviceCapability.{DeviceCapability}
use Rattle.ei_types.specs.declared.capability.DeviceCapabilities.{DeviceCapabilities}
use Rattle.ei_types.specs.Capability.{capability_list, bit_of, interface_of, bits_of, has_bit}
use Rattle.ei_backend.specs.Endpoint.{Endpoint}
use Rattle.ei_session.specs.Events.{interface_event}
use Rattle.ei_request.specs.Sending.{announces, next_object}
use Rattle.ei_request.specs.Making.{announces_all, objects_of, granted, chosen}

pub announces_append : (e : Endpoint) (versions : KnownInterface → ℕ) (d : ℕ) (xs ys : List KnownInterface) → announces_all e versions d (xs ++ ys) ≡ announces_all (announces_all e versions d xs) versions d ys
announces_append e versions d [] ys = refl
announces_append e versions d (i ∷ xs) ys = announces_append (announces e (interface_event d e.next_own i (versions i)) i (versions i)) versions d xs ys

-- the next own id behind interfaces, and the end
pub own_after : (e : Endpoint) (versions : KnownInterface → ℕ) (d : ℕ) (is : List KnownInterface) → (announces_all e versions d is).next_own ≡ e.next_own + length is
own_after e versions d [] = omega arith
own_after e versions d (i ∷ is) = own_after (announces e (interface_event d e.next_own i (versions i)) i (versions i)) versions d is ∙ omega arith

pub client_after : (e : Endpoint) (versions : KnownInterface → ℕ) (d : ℕ) (is : List KnownInterface) → (announces_all e versions d is).client ≡ e.client
client_after e versions d [] = refl
client_after e versions d (i ∷ is) = client_after (announces e (interface_event d e.next_own i (versions i)) i (versions i)) versions d is

-- objects say the id and the end alone
pub same_objects : (e f : Endpoint) (versions : KnownInterface → ℕ) (is : List KnownInterface) → e.next_own ≡ f.next_own → e.client ≡ f.client → objects_of e versions is ≡ objects_of f versions is
same_objects e f versions [] p q = refl
same_objects e f versions (i ∷ is) p q =
    let first : next_object e i (versions i) ≡ next_object f i (versions i) = rw (p, q) refl in
    ap (λ (o : ObjectView). o ∷ objects_of (record e { next_own = e.next_own + 1 }) versions is) first
    ∙ ap (λ (os : List ObjectView). next_object f i (versions i) ∷ os) (same_objects (record e { next_own = e.next_own + 1 }) (record f { next_own = f.next_own + 1 }) versions is (ap (λ (n : ℕ). n + 1) p) q)

pub objects_append : (e : Endpoint) (versions : KnownInterface → ℕ) (d : ℕ) (xs ys : List KnownInterface) → objects_of e versions (xs ++ ys) ≡ objects_of e versions xs ++ objects_of (announces_all e versions d xs) versions ys
objects_append e versions d [] ys = refl
objects_append e versions d (i ∷ xs) ys =
    let next : Endpoint = announces e (interface_event d e.next_own i (versions i)) i (versions i) in
    ap (λ (os : List ObjectView). next_object e i (versions i) ∷ os)
    (same_objects (record e { next_own = e.next_own + 1 }) next versions (xs ++ ys) refl refl
    ∙ objects_append next versions d xs ys
    ∙ ap (λ (os : List ObjectView). os ++ objects_of (announces_all next versions d xs) versions ys) (sym (same_objects (record e { next_own = e.next_own + 1 }) next versions xs refl refl)))

-- the interfaces of the first capabilities
abbrev pub so_far : DeviceCapabilities → DeviceCapabilities → List DeviceCapability → List KnownInterface
so_far given wanted ones = flat_map (chosen given wanted) ones

pub so_far_more : (given wanted : DeviceCapabilities) (ones : List DeviceCapability) (i : ℕ) (d : DeviceCapability) → i < length ones →
    so_far given wanted (take (i + 1) ones) ≡ so_far given wanted (take i ones) ++ chosen given wanted (get_or ones i d)
so_far_more given wanted ones i d lt =
    ap (so_far given wanted) (take_more ones i d lt) ∙ flat_map-append (chosen given wanted) (take i ones) (get_or ones i d ∷ [])
    ∙ ap (λ (x : List KnownInterface). so_far given wanted (take i ones) ++ x) (append-nil (chosen given wanted (get_or ones i d)))

one_chosen : (b : Bool) (x : KnownInterface) (xs ys : List KnownInterface) → xs ≡ ys → (if b then x ∷ [] else []) ++ xs ≡ cons_option (if b then Some x else None) ys
one_chosen true x xs ys e = ap (λ (zs : List KnownInterface). x ∷ zs) e
one_chosen false x xs ys e = e

-- of any capabilities, by their bits and their interfaces
chosen_among : (given wanted : DeviceCapabilities) (ones : List DeviceCapability) →
    so_far given wanted ones ≡ filter_map (λ (c : ℕ × KnownInterface). if has_bit (bits_of given) c.0 && has_bit (bits_of wanted) c.0 then Some c.1 else None) (map (λ one. (bit_of one, interface_of one)) ones)
chosen_among given wanted [] = refl
chosen_among given wanted (one ∷ ones) = one_chosen (has_bit (bits_of given) (bit_of one) && has_bit (bits_of wanted) (bit_of one)) (interface_of one) _ _ (chosen_among given wanted ones)

all_chosen : (given wanted : DeviceCapabilities) → so_far given wanted capability_list ≡ granted given wanted
all_chosen given wanted = chosen_among given wanted capability_list

pub so_far_all : (given wanted : DeviceCapabilities) (n : ℕ) → length capability_list ≤ n → so_far given wanted (take n capability_list) ≡ granted given wanted
so_far_all given wanted n le = ap (so_far given wanted) (take_all n capability_list le) ∙ all_chosen given wanted

-- the first of them are no more than all
pub so_far_few : (given wanted : DeviceCapabilities) (i : ℕ) → length (so_far given wanted (take i capability_list)) ≤ length (granted given wanted)
so_far_few given wanted i =
    let whole : so_far given wanted capability_list ≡ so_far given wanted (take i capability_list) ++ so_far given wanted (drop i capability_list) =
    ap (so_far given wanted) (sym (take-append-drop i capability_list)) ∙ flat_map-append (chosen given wanted) (take i capability_list) (drop i capability_list) in
    let lengths = ap (λ (l : List KnownInterface). length l) (sym (all_chosen given wanted) ∙ whole) in
    omega (arith, lengths, length-append (so_far given wanted (take i capability_list)) (so_far given wanted (drop i capability_list)))

-- one capability more
pub made_more : (e e1 e2 : Endpoint) (v : KnownInterface → ℕ) (d : ℕ) (given wanted : DeviceCapabilities) (i : ℕ) (one : DeviceCapability) → i < length capability_list →
    e1 ≡ announces_all e v d (so_far given wanted (take i capability_list)) → e2 ≡ announces_all e1 v d (chosen given wanted (get_or capability_list i one)) →
    e2 ≡ announces_all e v d (so_far given wanted (take (i + 1) capability_list))
made_more e e1 e2 v d given wanted i one lt p q =
    q ∙ ap (λ (x : Endpoint). announces_all x v d (chosen given wanted (get_or capability_list i one))) p
    ∙ sym (announces_append e v d (so_far given wanted (take i capability_list)) (chosen given wanted (get_or capability_list i one)))
    ∙ ap (announces_all e v d) (sym (so_far_more given wanted capability_list i one lt))

pub listed_more : (e e1 : Endpoint) (v : KnownInterface → ℕ) (d : ℕ) (given wanted : DeviceCapabilities) (i : ℕ) (one : DeviceCapability) (os os1 os2 : List ObjectView) → i < length capability_list →
    e1 ≡ announces_all e v d (so_far given wanted (take i capability_list)) → os1 ≡ os ++ objects_of e v (so_far given wanted (take i capability_list)) →
    os2 ≡ os1 ++ objects_of e1 v (chosen given wanted (get_or capability_list i one)) → os2 ≡ os ++ objects_of e v (so_far given wanted (take (i + 1) capability_list))
listed_more e e1 v d given wanted i one os os1 os2 lt p q r =
    let xs : List KnownInterface = so_far given wanted (take i capability_list) in
    let ys : List KnownInterface = chosen given wanted (get_or capability_list i one) in
    r ∙ ap (λ (x : List ObjectView). x ++ objects_of e1 v ys) q ∙ ap (λ (x : Endpoint). (os ++ objects_of e v xs) ++ objects_of x v ys) p
    ∙ append_assoc os (objects_of e v xs) (objects_of (announces_all e v d xs) v ys)
    ∙ ap (λ (x : List ObjectView). os ++ x) (sym (objects_append e v d xs ys) ∙ ap (objects_of e v) (sym (so_far_more given wanted capability_list i one lt)))

-- one capability more
pub so_far_length : (given wanted : DeviceCapabilities) (i : ℕ) (one : DeviceCapability) → i < length capability_list →
    length (so_far given wanted (take (i + 1) capability_list)) ≡ length (so_far given wanted (take i capability_list)) + length (chosen given wanted (get_or capability_list i one))
so_far_length given wanted i one lt =
    let more = ap (λ (l : List KnownInterface). length l) (so_far_more given wanted capability_list i one lt) in
    omega (arith, more, length-append (so_far given wanted (take i capability_list)) (chosen given wanted (get_or capability_list i one)))

-- and it is no more than all
pub few_left : (given wanted : DeviceCapabilities) (i : ℕ) (one : DeviceCapability) → i < length capability_list →
    length (so_far given wanted (take i capability_list)) + length (chosen given wanted (get_or capability_list i one)) ≤ length (granted given wanted)
few_left given wanted i one lt = omega (arith, so_far_length given wanted i one lt, so_far_few given wanted (i + 1))
