-- What has a device: the device was made, and its mask has the capability of the interface.
use Rattle.std.proofs.Common.{◌≡◌, ℕ, ◌-◌, Bool, true, false, cond, not, eqb, List, [], ◌∷◌, Option, Some, None, refl, ap, sym, ◌∙◌, inl, inr, ltb}
use Rattle.std.specs.Prelude.{slice_get}
use Rattle.std.specs.List.{filter_map, list_any}
use Rattle.ei_spec.specs.declared.interface.KnownInterface.{KnownInterface}
use Rattle.ei_spec.specs.declared.interface.KnownInterface.TheVariants as known
use Rattle.ei_spec.specs.Message.{Raw}
use Rattle.ei_spec.specs.History.{last_said}
use Rattle.ei_types.specs.Capability.{bit_of, has_bit, capabilities, capability_of}
use Rattle.ei_types.specs.declared.capability.DeviceCapability.{DeviceCapability}
use Rattle.ei_session.specs.Devices.{interfaces_of, made, next_id}
use Rattle.ei_session.specs.Objects.{Entry, interface_entry, given, new_device, introduces, at_first, introduced, object}
use Rattle.ei_session.proofs.Choices.{chosen, none_some, some_is}
use Rattle.ei_session.proofs.MaskLaws.{place_none}
use Rattle.ei_session.proofs.ObjectLaws.{object_is_introduced, introduced_now, introduced_before, by_making}
use Rattle.ei_record.proofs.MaskOf.{mask_made_of, mask_new, mask_stays}

-- whether a mask has the capability that the interface is of, if it is of one
abbrev has : ℕ → Option DeviceCapability → Bool
has mask None = true
has mask (Some c) = has_bit mask (bit_of c)

abbrev pub serves : ℕ → KnownInterface → Bool
serves mask interface = has mask (capability_of interface)

-- the device was made with a mask that serves the interface
pub record Owned (past : List Raw) (d : ℕ) (interface : KnownInterface) : Type 0 where
  pub mask : ℕ
  pub made_so : mask_made_of past d ≡ Some mask
  pub has_it : serves mask interface ≡ true

-- ---- each interface of a mask is served

abbrev AreServed : ℕ → List (ℕ × KnownInterface) → Type 0
AreServed mask [] = Unit {0}
AreServed mask (c ∷ cs) = (serves mask c.1 ≡ has_bit mask c.0) × AreServed mask cs

all_served : (mask : ℕ) (cs : List (ℕ × KnownInterface)) → AreServed mask cs → list_any (λ i. not (serves mask i)) (filter_map (λ c. cond (has_bit mask c.0) (Some c.1) None) cs) ≡ false
all_served mask [] h = refl
all_served mask (c ∷ cs) h = by (has_bit mask c.0) refl (all_served mask cs h.1)
  where
    by : (b : Bool) → has_bit mask c.0 ≡ b → list_any (λ i. not (serves mask i)) (filter_map (λ c. cond (has_bit mask c.0) (Some c.1) None) cs) ≡ false →
        list_any (λ i. not (serves mask i)) (filter_map (λ c. cond (has_bit mask c.0) (Some c.1) None) (c ∷ cs)) ≡ false
    by true e next = rw e (let s : serves mask c.1 ≡ true = h.0 ∙ e in rw s next)
    by false e next = rw e next

each_served : (mask : ℕ) → AreServed mask capabilities
each_served mask = (refl, (refl, (refl, (refl, (refl, (refl, (refl, (refl, tt))))))))

turned : (b : Bool) → not b ≡ false → b ≡ true
turned true h = refl
turned false h = absurd cc

served : (mask n : ℕ) (i : KnownInterface) → slice_get (interfaces_of mask) n ≡ Some i → serves mask i ≡ true
unfolding interfaces_of
served mask n i h = turned (serves mask i) (place_none (λ i. not (serves mask i)) (interfaces_of mask) n i (all_served mask capabilities (each_served mask)) h)

-- ---- as it came

entry_case : (past : List Raw) (m : Raw) (mask n : ℕ) (e : Entry) (d : ℕ) (o : Option KnownInterface) → made past m ≡ Some mask → slice_get (interfaces_of mask) n ≡ o → e.device ≡ Some d →
    interface_entry past (next_id past) o ≡ Some e → Owned (m ∷ past) d e.interface
entry_case past m mask n e d None made p q h = absurd (none_some e h)
entry_case past m mask n e d (Some i) made p q h =
    let same = some_is _ e h in
    let kind : i ≡ e.interface = ap (λ (x : Entry). x.interface) same in
    let own : next_id past ≡ d = some_is _ d (ap (λ (x : Entry). x.device) same ∙ q) in
    record {
      mask = mask;
      made_so = ap (mask_made_of (m ∷ past)) (sym own) ∙ mask_new past m mask made;
      has_it = ap (serves mask) (sym kind) ∙ served mask n i p;
    }

device_case : (past : List Raw) (m : Raw) (mask id : ℕ) (e : Entry) (d : ℕ) → made past m ≡ Some mask → e.device ≡ Some d → new_device past (next_id past) (interfaces_of mask) id ≡ Some e → Owned (m ∷ past) d e.interface
unfolding new_device
device_case past m mask id e d made q h =
    elim (chosen (eqb id (next_id past)) _ _ _ h) [
      | inl a ↦
          let same = some_is _ e a.1 in
          let kind : known.Device ≡ e.interface = ap (λ (x : Entry). x.interface) same in
          let own : next_id past ≡ d = some_is _ d (ap (λ (x : Entry). x.device) same ∙ q) in
          record {
            mask = mask;
            made_so = ap (mask_made_of (m ∷ past)) (sym own) ∙ mask_new past m mask made;
            has_it = ap (serves mask) (sym kind);
          }
      | inr b ↦ elim (chosen (ltb (next_id past) id) _ _ _ b.1) [
        | inl c ↦ entry_case past m mask (id - next_id past - 1) e d (slice_get (interfaces_of mask) (id - next_id past - 1)) made refl q c.1
        | inr x ↦ absurd (none_some e x.1)
      ]
    ]

made_case : (past : List Raw) (m : Raw) (id : ℕ) (e : Entry) (d : ℕ) (o : Option ℕ) → made past m ≡ o → e.device ≡ Some d → given past o id ≡ Some e → Owned (m ∷ past) d e.interface
made_case past m id e d None made q h = absurd (none_some e h)
made_case past m id e d (Some mask) made q h = device_case past m mask id e d made q h

stays : (past : List Raw) (m : Raw) (d : ℕ) (i : KnownInterface) → Owned past d i → Owned (m ∷ past) d i
stays past m d i o = record { mask = o.mask; made_so = mask_stays past m d o.mask o.made_so; has_it = o.has_it }

first_bare : (id : ℕ) (e : Entry) (d : ℕ) → at_first id ≡ Some e → e.device ≡ Some d → ⊥
first_bare id e d h q =
    elim (chosen (eqb id 0) _ _ _ h) [
      | inl a ↦ none_some d (ap (λ (x : Entry). x.device) (some_is _ e a.1) ∙ q)
      | inr b ↦ none_some e b.1
    ]

nothing_yet : (id : ℕ) → introduced [] id ≡ at_first id
unfolding introduced last_said
nothing_yet id = refl

was_owned : (past : List Raw) (id : ℕ) (e : Entry) (d : ℕ) → introduced past id ≡ Some e → e.device ≡ Some d → Owned past d e.interface
was_owned [] id e d h q = absurd (first_bare id e d (sym (nothing_yet id) ∙ h) q)
was_owned (m ∷ past) id e d h q = by (introduces past m id) refl (λ g. was_owned past id e d g q)
  where
    by : (o : Option Entry) → introduces past m id ≡ o → (introduced past id ≡ Some e → Owned past d e.interface) → Owned (m ∷ past) d e.interface
    by None n ih = stays past m d e.interface (ih (sym (introduced_before past m id n) ∙ h))
    by (Some x) n ih =
        let same : x ≡ e = some_is x e (sym (introduced_now past m id x n) ∙ h) in
        let now : introduces past m id ≡ Some e = n ∙ ap (λ (y : Entry). Some y) same in
        made_case past m id e d (made past m) refl q (by_making past m id e d now q).1

-- what is there with a device: the device was made, with the capability
pub owned : (past : List Raw) (id : ℕ) (e : Entry) (d : ℕ) → object past id ≡ Some e → e.device ≡ Some d → Owned past d e.interface
owned past id e d h q = was_owned past id e d (object_is_introduced past id e h) q
