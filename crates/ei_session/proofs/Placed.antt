-- Which interfaces are at which ids, and which are of a device.
use Rattle.std.proofs.Common.{◌≡◌, ℕ, zero, suc, ◌-◌, Bool, true, false, cond, not, eqb, ltb, List, [], ◌∷◌, Option, Some, None, refl, sym, ap, ◌∙◌, inl, inr}
use Rattle.std.specs.Prelude.{is_some, slice_get}
use Rattle.std.specs.List.{filter_map, list_any}
use Rattle.std.proofs.lemmas.Bool.{eqb-true}
use Rattle.ei_spec.specs.declared.interface.KnownInterface.{KnownInterface}
use Rattle.ei_spec.specs.declared.interface.KnownInterface.TheVariants as known
use Rattle.ei_spec.specs.Message.{Raw}
use Rattle.ei_spec.specs.History.{last_said}
use Rattle.ei_types.specs.Capability.{capabilities, has_bit}
use Rattle.ei_session.specs.Setup.{connection_id, seat_id}
use Rattle.ei_session.specs.Handshake.{is_the_finish}
use Rattle.ei_session.specs.Devices.{made, interfaces_of, next_id}
use Rattle.ei_session.specs.Objects.{Entry, interface_entry, new_device, given, handed_over, introduces, introduced, object}
use Rattle.ei_session.specs.Kept.{is_bare, home}
use Rattle.ei_session.proofs.Choices.{chosen, some_is, none_some, or_none, not_both}
use Rattle.ei_session.proofs.ObjectLaws.{object_is_introduced, introduced_now, introduced_before}

-- ---- the interfaces of a mask are of devices

masked : (test : KnownInterface → Bool) (mask : ℕ) (cs : List (ℕ × KnownInterface)) → list_any (λ c. test c.1) cs ≡ false → list_any test (filter_map (λ c. cond (has_bit mask c.0) (Some c.1) None) cs) ≡ false
masked test mask [] h = refl
masked test mask (c ∷ cs) h = by (has_bit mask c.0) refl (or_none (test c.1) (list_any (λ c. test c.1) cs) h) (masked test mask cs)
  where
    by : (b : Bool) → has_bit mask c.0 ≡ b → (test c.1 ≡ false) × (list_any (λ c. test c.1) cs ≡ false) → (list_any (λ c. test c.1) cs ≡ false → list_any test (filter_map (λ c. cond (has_bit mask c.0) (Some c.1) None) cs) ≡ false) → list_any test (filter_map (λ c. cond (has_bit mask c.0) (Some c.1) None) (c ∷ cs)) ≡ false
    by true e t next = rw (e, t.0) (next t.1)
    by false e t next = rw e (next t.1)

mask_owned : (mask : ℕ) → list_any is_bare (interfaces_of mask) ≡ false
unfolding interfaces_of
mask_owned mask = masked is_bare mask capabilities refl

place_none : (test : KnownInterface → Bool) (is : List KnownInterface) (k : ℕ) (i : KnownInterface) → list_any test is ≡ false → slice_get is k ≡ Some i → test i ≡ false
place_none test [] k i h q = absurd cc
place_none test (x ∷ xs) zero i h q = ap test (sym (some_is x i q)) ∙ (or_none (test x) (list_any test xs) h).0
place_none test (x ∷ xs) (suc k) i h q = place_none test xs k i (or_none (test x) (list_any test xs) h).1 q

-- ---- each entry

-- an interface that is no device's is at its one id, and is of no device; another is of a device
pub record IsPlaced (id : ℕ) (e : Entry) : Type 0 where
  pub at_home : is_bare e.interface ≡ true → home e.interface ≡ Some id
  pub owned : is_some e.device ≡ not (is_bare e.interface)

same_placed : (id : ℕ) (x e : Entry) → IsPlaced id x → Some x ≡ Some e → IsPlaced id e
same_placed id x e h q = let same : x ≡ e = some_is x e q in record { at_home = λ b. ap (λ (y : Entry). home y.interface) (sym same) ∙ h.at_home (ap (λ (y : Entry). is_bare y.interface) same ∙ b); owned = ap (λ (y : Entry). is_some y.device) (sym same) ∙ h.owned ∙ ap (λ (y : Entry). not (is_bare y.interface)) same }

owned_one : (id : ℕ) (i : KnownInterface) (v d : ℕ) → is_bare i ≡ false → IsPlaced id (record { interface = i; version = v; device = Some d })
owned_one id i v d h = record { at_home = λ b. absurd (not_both (is_bare i) b h); owned = rw h refl }

new_placed : (before : List Raw) (device : ℕ) (is : List KnownInterface) (id : ℕ) (e : Entry) → list_any is_bare is ≡ false → new_device before device is id ≡ Some e → IsPlaced id e
unfolding new_device
new_placed before device is id e h q =
    elim (chosen (eqb id device) _ _ _ q) [
      | inl a ↦ same_placed id _ e (owned_one id known.Device _ device refl) a.1
      | inr b ↦ elim (chosen (ltb device id) _ _ _ b.1) [
        | inl c ↦ of_entry (slice_get is (id - device - 1)) refl c.1
        | inr x ↦ absurd (none_some e x.1)
      ]
    ]
  where
    of_entry : (o : Option KnownInterface) → slice_get is (id - device - 1) ≡ o → interface_entry before device o ≡ Some e → IsPlaced id e
    of_entry None g p = absurd (none_some e p)
    of_entry (Some i) g p = same_placed id _ e (owned_one id i _ device (place_none is_bare is (id - device - 1) i h g)) p

given_placed : (before : List Raw) (mask : Option ℕ) (id : ℕ) (e : Entry) → given before mask id ≡ Some e → IsPlaced id e
given_placed before None id e h = absurd (none_some e h)
given_placed before (Some mask) id e h = new_placed before (next_id before) (interfaces_of mask) id e (mask_owned mask) h

handed_placed : (before : List Raw) (id : ℕ) (e : Entry) → handed_over before id ≡ Some e → IsPlaced id e
unfolding handed_over
handed_placed before id e h =
    elim (chosen (eqb id connection_id) _ _ _ h) [
      | inl x ↦ same_placed id _ e (record { at_home = λ b. ap (λ (n : ℕ). Some n) (sym (eqb-true id connection_id x.0)); owned = refl }) x.1
      | inr y ↦ elim (chosen (eqb id seat_id) _ _ _ y.1) [
        | inl x ↦ same_placed id _ e (record { at_home = λ b. ap (λ (n : ℕ). Some n) (sym (eqb-true id seat_id x.0)); owned = refl }) x.1
        | inr z ↦ absurd (none_some e z.1)
      ]
    ]

introduces_placed : (before : List Raw) (m : Raw) (id : ℕ) (e : Entry) → introduces before m id ≡ Some e → IsPlaced id e
unfolding introduces
introduces_placed before m id e h =
    elim (chosen (is_the_finish before m) _ _ _ h) [
      | inl a ↦ handed_placed before id e a.1
      | inr b ↦ given_placed before (made before m) id e b.1
    ]

placed_at : (before : List Raw) (m : Raw) (id : ℕ) (e : Entry) (i : Option Entry) → (introduced before id ≡ Some e → IsPlaced id e) → introduces before m id ≡ i → introduced (m ∷ before) id ≡ Some e → IsPlaced id e
placed_at before m id e (Some x) next q h = introduces_placed before m id e (q ∙ sym (introduced_now before m id x q) ∙ h)
placed_at before m id e None next q h = next (sym (introduced_before before m id q) ∙ h)

introduced_placed : (before : List Raw) (id : ℕ) (e : Entry) → introduced before id ≡ Some e → IsPlaced id e
unfolding introduced last_said
introduced_placed [] id e h =
    elim (chosen (eqb id 0) _ _ _ h) [
      | inl x ↦ same_placed id _ e (record { at_home = λ b. ap (λ (n : ℕ). Some n) (sym (eqb-true id 0 x.0)); owned = refl }) x.1
      | inr y ↦ absurd (none_some e y.1)
    ]
introduced_placed (m ∷ before) id e h = placed_at before m id e (introduces before m id) (λ q. introduced_placed before id e q) refl h

pub object_placed : (before : List Raw) (id : ℕ) (e : Entry) → object before id ≡ Some e → IsPlaced id e
object_placed before id e k = introduced_placed before id e (object_is_introduced before id e k)

some_device : (o : Option ℕ) → is_some o ≡ true → (d : ℕ) × (o ≡ Some d)
some_device None h = absurd cc
some_device (Some d) h = (d, refl)

-- what is no handshake, connection or seat is of a device
pub object_owned : (before : List Raw) (id : ℕ) (e : Entry) → object before id ≡ Some e → is_bare e.interface ≡ false → (d : ℕ) × (e.device ≡ Some d)
object_owned before id e k b = some_device e.device ((object_placed before id e k).owned ∙ ap not b)
