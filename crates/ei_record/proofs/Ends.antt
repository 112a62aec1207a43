-- Nothing that was given disconnects, where no message did.
use Rattle.std.proofs.Common.{◌≡◌, ℕ, Bool, true, false, List, [], ◌∷◌, ◌++◌, Option, Some, None, refl, ◌∙◌}
use Rattle.std.specs.Prelude.{◌||◌, slice_index}
use Rattle.ei_spec.specs.History.{occurs}
use Rattle.ei_spec.specs.Groups.{Framed, Plain as Given, Slot, Input as Waiting, Frame, Other, Free, group, gives, with_frame, timed, frames_made}
use Rattle.ei_input.specs.declared.input_event.InputEvent.{InputEvent}
use Rattle.ei_session.specs.Requests.{Request, Plain, Asking}
use Rattle.ei_record.specs.Replayable.{disconnects}
use Rattle.ei_record.proofs.Lists.{onto}

-- whether one of these disconnects
abbrev pub some_end : List Request → Bool
some_end [] = false
some_end (x ∷ xs) = disconnects x || some_end xs

abbrev pub over : List Request → Bool
over before = occurs (λ b x. disconnects x) before

over_by : (b : Bool) (before : List Request) (x : Request) → disconnects x ≡ b → over (x ∷ before) ≡ b || over before
unfolding occurs
over_by true before x e = rw (e, occurs) refl
over_by false before x e = rw (e, occurs) refl

false_or : (a b : Bool) → a || b ≡ false → (a ≡ false) × (b ≡ false)
false_or true b h = absurd cc
false_or false b h = (refl, h)

-- none of them does
pub over_onto : (xs before : List Request) → some_end xs ≡ false → over before ≡ false → over (onto xs before) ≡ false
over_onto [] before e o = o
over_onto (x ∷ xs) before e o =
    let h = false_or (disconnects x) (some_end xs) e in
    over_onto xs (x ∷ before) h.1 (over_by false before x h.0 ∙ o)

end_append : (xs ys : List Request) → some_end xs ≡ false → some_end ys ≡ false → some_end (xs ++ ys) ≡ false
end_append [] ys e f = f
end_append (x ∷ xs) ys e f = let h = false_or (disconnects x) (some_end xs) e in rw h.0 (end_append xs ys h.1 f)

timed_end : (d t : ℕ) (xs : List InputEvent) → some_end (timed d t xs) ≡ false
unfolding timed
timed_end d t [] = refl
timed_end d t (x ∷ xs) = timed_end d t xs

framed_end : (xs : List InputEvent) (d s t : ℕ) → some_end (with_frame xs d s t) ≡ false
unfolding with_frame
framed_end [] d s t = refl
framed_end (x ∷ xs) d s t = end_append (timed d t (x ∷ xs)) (Framed d s t ∷ []) (timed_end d t (x ∷ xs)) refl

or_none : (b : Bool) → b ≡ false → b || false ≡ false
or_none true h = absurd cc
or_none false h = refl

-- what a slot gives, where its item is no disconnect
pub gives_end : (readings : List ℕ) (slots : List (Slot InputEvent Plain)) (serial : ℕ) (i : Option Asking) → ((d : ℕ) (y : Plain) → i ≡ Some (Other d y) → disconnects (Given y) ≡ false) → ((y : Plain) → i ≡ Some (Free y) → disconnects (Given y) ≡ false) →
    some_end (gives readings slots (record { item = i; serial = serial })) ≡ false
unfolding gives
gives_end readings slots serial None quiet free = refl
gives_end readings slots serial (Some (Waiting d x)) quiet free = refl
gives_end readings slots serial (Some (Frame d s t)) quiet free = framed_end (group d slots) d s t
gives_end readings slots serial (Some (Other d y)) quiet free =
    end_append (with_frame (group d slots) d serial (slice_index readings (frames_made slots))) (Given y ∷ []) (framed_end (group d slots) d serial (slice_index readings (frames_made slots))) (or_none (disconnects (Given y)) (quiet d y refl))
gives_end readings slots serial (Some (Free y)) quiet free = or_none (disconnects (Given y)) (free y refl)
