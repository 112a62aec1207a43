-- The capabilities of a seat, offered one after another.
use Rattle.std.proofs.Common.{◌≡◌, ℕ, ◌+◌, ◌<◌, ◌≤◌, Bool, true, false, cond, ◌&&◌, List, [], ◌∷◌, ◌++◌, length, take, get_or, Option, Some, None, refl}
use Rattle.std.proofs.Common.{ap, ◌∙◌}
use Rattle.std.specs.List.{filter_map}
use Rattle.std.proofs.lemmas.List.{take_more, take_all}
use Rattle.std.proofs.lemmas.List.Elements.{filter_map-append}
use Rattle.ei_spec.specs.declared.interface.KnownInterface.{KnownInterface}
use Rattle.ei_spec.specs.Message.{Raw}
use Rattle.ei_types.specs.declared.capability.DeviceCapability.{DeviceCapability}
use Rattle.ei_types.specs.Capability.{capability_list, bit_of, interface_of, has_bit}
use Rattle.ei_session.specs.Replies.{capability_event, capability_events}
use Rattle.ei_request.specs.Making.{capability_if}

-- the bit and the interface of a capability
abbrev pub pair_of : DeviceCapability → ℕ × KnownInterface
pair_of one = (bit_of one, interface_of one)

abbrev pub offer_of : ℕ → ℕ → (KnownInterface → Bool) → DeviceCapability → Option Raw
offer_of seat mask settled one = cond (has_bit mask (bit_of one) && settled (interface_of one)) (Some (capability_event seat (pair_of one))) None

-- the events of these capabilities
abbrev pub offers : ℕ → ℕ → (KnownInterface → Bool) → List DeviceCapability → List Raw
offers seat mask settled all = filter_map (offer_of seat mask settled) all

one_offer : (seat mask : ℕ) (settled : KnownInterface → Bool) (one : DeviceCapability) (b : Bool) → has_bit mask (bit_of one) && settled (interface_of one) ≡ b →
    offers seat mask settled (one ∷ []) ≡ capability_if seat mask settled (pair_of one)
one_offer seat mask settled one true e = rw e refl
one_offer seat mask settled one false e = rw e refl

-- the events of one capability more
pub offers_more : (seat mask : ℕ) (settled : KnownInterface → Bool) (all : List DeviceCapability) (i : ℕ) (d : DeviceCapability) → i < length all →
    offers seat mask settled (take (i + 1) all) ≡ offers seat mask settled (take i all) ++ capability_if seat mask settled (pair_of (get_or all i d))
offers_more seat mask settled all i d lt =
    ap (offers seat mask settled) (take_more all i d lt)
    ∙ filter_map-append (offer_of seat mask settled) (take i all) (get_or all i d ∷ [])
    ∙ ap (λ (x : List Raw). offers seat mask settled (take i all) ++ x) (one_offer seat mask settled (get_or all i d) _ refl)

-- the events of all of them
pub offers_all : (seat mask : ℕ) (settled : KnownInterface → Bool) → offers seat mask settled capability_list ≡ capability_events seat mask settled
unfolding capability_events
offers_all seat mask settled = refl

-- and of a list that has all of them
pub offers_whole : (seat mask : ℕ) (settled : KnownInterface → Bool) (n : ℕ) → length capability_list ≤ n → offers seat mask settled (take n capability_list) ≡ capability_events seat mask settled
offers_whole seat mask settled n le = ap (offers seat mask settled) (take_all n capability_list le) ∙ offers_all seat mask settled
