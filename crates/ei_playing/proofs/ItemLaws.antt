-- What one more item changes, by the definitions.
use Rattle.std.proofs.Common.{◌≡◌, ℕ, ◌+◌, ◌*◌, ◌≤◌, ◌⊎◌, Bool, true, false, not, eqb, List, [], ◌∷◌, length, Option, Some, None, refl, sym, ap, ◌∙◌, arith, inl, inr}
use Rattle.std.specs.Prelude.{is_some}
use Rattle.std.proofs.lemmas.Bool.{eqb-true}
use Rattle.ei_spec.specs.History.{occurs, total}
use Rattle.ei_spec.proofs.HistoryLaws.{said_now, said_before, occurs_none, total_more}
use Rattle.ei_session.specs.Setup.{seat_id}
use Rattle.ei_session.specs.Devices.{not_empty, ids_of}
use Rattle.ei_session.specs.Requests.{Request}
use Rattle.ei_session.proofs.Choices.{and_left, and_right}
use Rattle.ei_session.proofs.ReplyBytes.{few_interfaces}
use Rattle.ei_record.specs.Replayable.{mask_of, takes_ids, next_device, if_it, gives_mask, mask_before, closes_device, is_there}

-- a device of the mask was made, and no item closed it
pub record There (before : List Request) (d mask : ℕ) : Type 0 where
  pub made : mask_before before d ≡ Some mask
  pub open_yet : occurs (closes_device d) before ≡ false

not_false : (b : Bool) → not b ≡ true → b ≡ false
not_false true e = absurd cc
not_false false e = refl

-- so it is where it is there
pub record IsThere (before : List Request) (d : ℕ) : Type 0 where
  pub mask : ℕ
  pub there : There before d mask

pub is_there_so : (before : List Request) (d : ℕ) → is_there before d ≡ true → IsThere before d
unfolding is_there
is_there_so before d h = by (mask_before before d) refl (and_left _ _ h)
  where
    left : occurs (closes_device d) before ≡ false
    left = not_false _ (and_right (is_some (mask_before before d)) (not (occurs (closes_device d) before)) h)

    by : (o : Option ℕ) → mask_before before d ≡ o → is_some (mask_before before d) ≡ true → IsThere before d
    by None e s = let q : false ≡ true = sym (ap is_some e) ∙ s in absurd cc
    by (Some mask) e s = record { mask = mask; there = record { made = e; open_yet = left } }

module _ (before : List Request) (item : Request) where
  -- ---- ids

  pub next_more : next_device (item ∷ before) ≡ next_device before + ids_of (not_empty (mask_of item))
  unfolding next_device takes_ids
  next_more = let one = total_more takes_ids before item in omega (arith, one)

  -- ---- masks

  mask_same : not_empty (mask_of item) ≡ None → (d : ℕ) → mask_before (item ∷ before) d ≡ mask_before before d
  unfolding mask_before gives_mask
  mask_same h d = said_before (gives_mask d) before item (ap (if_it d (next_device before)) h)

  mask_other : (mask d : ℕ) → not_empty (mask_of item) ≡ Some mask → eqb (next_device before) d ≡ false → mask_before (item ∷ before) d ≡ mask_before before d
  unfolding mask_before gives_mask
  mask_other mask d h far = said_before (gives_mask d) before item (ap (if_it d (next_device before)) h ∙ rw far refl)

  mask_new : (mask d : ℕ) → not_empty (mask_of item) ≡ Some mask → eqb (next_device before) d ≡ true → mask_before (item ∷ before) d ≡ Some mask
  unfolding mask_before gives_mask
  mask_new mask d h here = said_now (gives_mask d) before item mask (ap (if_it d (next_device before)) h ∙ rw here refl)

  -- ---- which devices are there

  -- the device is the one that the item makes
  pub record IsNew (d mask : ℕ) : Type 0 where
    pub is : next_device before ≡ d
    pub mask_is : not_empty (mask_of item) ≡ Some mask

  -- or it was there, and the item doesn't close it
  pub record Stays (d mask : ℕ) : Type 0 where
    pub there : There before d mask
    pub kept : closes_device d before item ≡ false

  pub there_back : (d mask : ℕ) → There (item ∷ before) d mask → IsNew d mask ⊎ Stays d mask
  there_back d mask t = by (not_empty (mask_of item)) refl
    where
      open_is : (closes_device d before item ≡ false) × (occurs (closes_device d) before ≡ false)
      open_is = occurs_none (closes_device d) before item t.open_yet

      stays : mask_before (item ∷ before) d ≡ mask_before before d → IsNew d mask ⊎ Stays d mask
      stays same = inr (record { there = record { made = sym same ∙ t.made; open_yet = open_is.1 }; kept = open_is.0 })

      at : (m : ℕ) (b : Bool) → not_empty (mask_of item) ≡ Some m → eqb (next_device before) d ≡ b → IsNew d mask ⊎ Stays d mask
      at m true e f =
          let same : Some m ≡ Some mask = sym (mask_new m d e f) ∙ t.made in
          inl (record { is = eqb-true (next_device before) d f; mask_is = e ∙ same })
      at m false e f = stays (mask_other m d e f)

      by : (o : Option ℕ) → not_empty (mask_of item) ≡ o → IsNew d mask ⊎ Stays d mask
      by None e = stays (mask_same e d)
      by (Some m) e = at m (eqb (next_device before) d) e refl

-- ---- how far ids go

ids_few : (o : Option ℕ) → ids_of o ≤ 9
ids_few None = omega arith
ids_few (Some mask) = let few = few_interfaces mask in omega (arith, few)

pub ids_low : (before : List Request) → next_device before ≤ seat_id + 1 + 9 * length before
unfolding next_device total
ids_low [] = omega arith
ids_low (item ∷ before) =
    let rest = ids_low before in
    let more = next_more before item in
    let few = ids_few (not_empty (mask_of item)) in
    omega (arith, rest, more, few)
