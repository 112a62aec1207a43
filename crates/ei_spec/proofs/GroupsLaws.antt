-- One more slot.
use Rattle.std.proofs.Common.{◌≡◌, ℕ, ◌+◌, ◌≤◌, get_or, length, arith, Bool, true, false, cond, eqb, List, [], ◌∷◌, ◌++◌, Option, Some, None, refl, ap, ◌∙◌}
use Rattle.std.specs.List.{filter_map}
use Rattle.std.proofs.lemmas.List.{reverse-append, get_or_append_left}
use Rattle.ei_spec.specs.History.{total, joined, since}
use Rattle.ei_spec.specs.Groups.{Item, Input, Frame, Other, Free, Given, Slot, closes, input_of, group, makes_frame, frames_made, gives, grouped, with_frame}
use Rattle.ei_spec.specs.Groups.{Plain}
use Rattle.ei_spec.proofs.HistoryLaws.{joined_prefix}

-- what waits on the device after one more slot
abbrev pub waits : {X Y : Type 0} → ℕ → List X → Option (Item X Y) → List X
waits device waiting None = waiting
waits device waiting (Some (Input d x)) = cond (eqb d device) (waiting ++ (x ∷ [])) waiting
waits device waiting (Some (Frame d s t)) = cond (eqb d device) [] waiting
waits device waiting (Some (Other d y)) = cond (eqb d device) [] waiting
waits device waiting (Some (Free y)) = waiting

-- 1 where a frame is made
abbrev pub made_by : {X Y : Type 0} → (ℕ → List X) → Option (Item X Y) → ℕ
made_by waiting None = 0
made_by waiting (Some (Other d y)) = elim (waiting d) [ [] ↦ 0 | _ ∷ _ ↦ 1 ]
made_by waiting (Some _) = 0

module _ {X Y : Type 0} where
  input_case : (device : ℕ) (before : List (Slot X Y)) (s : Slot X Y) (x : X) (b : Bool) → closes device s ≡ false → input_of device s ≡ cond b (Some x) None → group device (s ∷ before) ≡ cond b (group device before ++ (x ∷ [])) (group device before)
  unfolding group since
  input_case device before s x true c i = rw (c, since, i) (reverse-append (x ∷ []) (filter_map (input_of device) (since (closes device) before)))
  input_case device before s x false c i = rw (c, since, i) refl

  keep_case : (device : ℕ) (before : List (Slot X Y)) (s : Slot X Y) → closes device s ≡ false → input_of device s ≡ None → group device (s ∷ before) ≡ group device before
  unfolding group since
  keep_case device before s c i = rw (c, since, i) refl

  close_case : (device : ℕ) (before : List (Slot X Y)) (s : Slot X Y) (b : Bool) → closes device s ≡ b → input_of device s ≡ None → group device (s ∷ before) ≡ cond b [] (group device before)
  unfolding group since
  close_case device before s true c i = rw (c, since) refl
  close_case device before s false c i = rw (c, since, i) refl

  abbrev slot_of : Option (Item X Y) → ℕ → Slot X Y
  slot_of item serial = record { item = item; serial = serial }

  group_at : (device : ℕ) (before : List (Slot X Y)) (item : Option (Item X Y)) (serial : ℕ) → group device (slot_of item serial ∷ before) ≡ waits device (group device before) item
  unfolding closes input_of
  group_at device before None serial = keep_case device before (slot_of None serial) refl refl
  group_at device before (Some (Input d x)) serial = input_case device before (slot_of (Some (Input d x)) serial) x (eqb d device) refl refl
  group_at device before (Some (Frame d s t)) serial = close_case device before (slot_of (Some (Frame d s t)) serial) (eqb d device) refl refl
  group_at device before (Some (Other d y)) serial = close_case device before (slot_of (Some (Other d y)) serial) (eqb d device) refl refl
  group_at device before (Some (Free y)) serial = keep_case device before (slot_of (Some (Free y)) serial) refl refl

  pub group_more : (device : ℕ) (before : List (Slot X Y)) (slot : Slot X Y) → group device (slot ∷ before) ≡ waits device (group device before) slot.item
  group_more device before slot = group_at device before slot.item slot.serial

  -- by the item of the slot
  pub group_by : (device : ℕ) (before : List (Slot X Y)) (slot : Slot X Y) (item : Option (Item X Y)) → slot.item ≡ item → group device (slot ∷ before) ≡ waits device (group device before) item
  group_by device before slot item e = group_more device before slot ∙ ap (waits device (group device before)) e

  pub grouped_more : (readings : List ℕ) (before : List (Slot X Y)) (slot : Slot X Y) → grouped readings (slot ∷ before) ≡ grouped readings before ++ gives readings before slot
  unfolding grouped joined
  grouped_more readings before slot = refl

  pub grouped_prefix : (readings : List ℕ) (more before : List (Slot X Y)) → (rest : List (Given ℕ X Y)) × (grouped readings (more ++ before) ≡ grouped readings before ++ rest)
  unfolding grouped
  grouped_prefix readings more before = joined_prefix (gives readings) more before

  made_at : (before : List (Slot X Y)) (item : Option (Item X Y)) (serial : ℕ) → makes_frame before (slot_of item serial) ≡ made_by (λ d. group d before) item
  unfolding makes_frame
  made_at before None serial = refl
  made_at before (Some (Input d x)) serial = refl
  made_at before (Some (Frame d s t)) serial = refl
  made_at before (Some (Other d y)) serial = refl
  made_at before (Some (Free y)) serial = refl

  -- ---- later readings change nothing

  other_readings : (readings later : List ℕ) (w : List X) (d serial n : ℕ) (y : Y) → n + (elim w [ [] ↦ 0 | _ ∷ _ ↦ 1 ]) ≤ length readings → with_frame w d serial (get_or (readings ++ later) n 0) ++ (Plain y ∷ []) ≡ with_frame w d serial (get_or readings n 0) ++ (Plain y ∷ [])
  unfolding with_frame
  other_readings readings later [] d serial n y le = refl
  other_readings readings later (x ∷ xs) d serial n y le =
      ap (λ (t : ℕ). with_frame (x ∷ xs) d serial t ++ (Plain y ∷ [])) (get_or_append_left readings later 0 n (omega arith))

  gives_at : (readings later : List ℕ) (before : List (Slot X Y)) (item : Option (Item X Y)) (serial : ℕ) → frames_made before + made_by (λ d. group d before) item ≤ length readings → gives (readings ++ later) before (slot_of item serial) ≡ gives readings before (slot_of item serial)
  unfolding gives
  gives_at readings later before None serial le = refl
  gives_at readings later before (Some (Input d x)) serial le = refl
  gives_at readings later before (Some (Frame d s t)) serial le = refl
  gives_at readings later before (Some (Other d y)) serial le = other_readings readings later (group d before) d serial (frames_made before) y le
  gives_at readings later before (Some (Free y)) serial le = refl

  pub frames_made_more : (before : List (Slot X Y)) (slot : Slot X Y) → frames_made (slot ∷ before) ≡ frames_made before + made_by (λ d. group d before) slot.item
  unfolding frames_made total
  frames_made_more before slot = ap (λ (n : ℕ). total makes_frame before + n) (made_at before slot.item slot.serial)

  -- what a slot gives doesn't hang on readings past the frames that are made up to it
  pub gives_later : (readings later : List ℕ) (before : List (Slot X Y)) (slot : Slot X Y) → frames_made (slot ∷ before) ≤ length readings → gives (readings ++ later) before slot ≡ gives readings before slot
  gives_later readings later before slot le =
      let one = frames_made_more before slot in
      gives_at readings later before slot.item slot.serial (omega (arith, one))

  pub grouped_readings : (readings later : List ℕ) (slots : List (Slot X Y)) → frames_made slots ≤ length readings → grouped (readings ++ later) slots ≡ grouped readings slots
  unfolding grouped joined
  grouped_readings readings later [] le = refl
  grouped_readings readings later (s ∷ before) le =
      let one = frames_made_more before s in
      let now = gives_at readings later before s.item s.serial (omega (arith, one)) in
      let earlier = grouped_readings readings later before (omega (arith, one)) in
      ap (λ (x : List (Given ℕ X Y)). x ++ gives (readings ++ later) before s) earlier ∙ ap (λ (x : List (Given ℕ X Y)). grouped readings before ++ x) now
