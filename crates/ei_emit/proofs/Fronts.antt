-- What the client is told of some steps is a front of what it is told of more.
use Rattle.std.proofs.Common.{◌≡◌, ℕ, List, [], ◌∷◌, ◌++◌, map, refl, sym, ap, ◌∙◌, append_assoc}
use Rattle.std.specs.Prelude.{reverse}
use Rattle.std.proofs.lemmas.List.{map-append}
use Rattle.ei_spec.specs.Groups.{Given, Plain as Told, seen, Slot, grouped}
use Rattle.ei_spec.proofs.GroupsLaws.{grouped_prefix}
use Rattle.ei_input.specs.declared.input_event.InputEvent.{InputEvent}
use Rattle.ei_session.specs.Setup.{seat_id}
use Rattle.ei_reported.specs.Reported.{Report, Plain, SeatAdded}
use Rattle.ei_emitting.specs.Emitted.{Step, device_by, slots_at, slots, emitted}

slots_prefix : (start : ℕ) (more before : List Step) → (new : List (Slot InputEvent Plain)) × (slots start (more ++ before) ≡ new ++ slots start before)
unfolding slots
slots_prefix start [] before = ([], refl)
slots_prefix start (s ∷ more) before =
    let r = slots_prefix start more before in (
      reverse (slots_at start (more ++ before) s) ++ r.0,
      ap (λ (l : List (Slot InputEvent Plain)). reverse (slots_at start (more ++ before) s) ++ l) r.1 ∙ sym (append_assoc (reverse (slots_at start (more ++ before) s)) r.0 (slots start before)),
    )

pub emitted_prefix : (start : ℕ) (readings : List ℕ) (more before : List Step) → (rest : List Report) × (emitted start readings (more ++ before) ≡ emitted start readings before ++ rest)
unfolding emitted
emitted_prefix start readings more before =
    let s = slots_prefix start more before in
    let g = grouped_prefix readings s.0 (slots start before) in (
      map (seen device_by) g.0,
      ap (λ (l : List (Slot InputEvent Plain)). let r : List Report = Told (SeatAdded seat_id) ∷ map (seen device_by) (grouped readings l) in r) s.1
          ∙ ap (λ (l : List (Given ℕ InputEvent Plain)). let r : List Report = Told (SeatAdded seat_id) ∷ map (seen device_by) l in r) g.1
          ∙ ap (λ (l : List Report). let r : List Report = Told (SeatAdded seat_id) ∷ l in r) (map-append (seen device_by) (grouped readings (slots start before)) g.0),
    )
