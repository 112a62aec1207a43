-- Room for own objects lasts until so many are made.
use Rattle.std.proofs.Common.{◌≡◌, ℕ, zero, suc, refl, ◌+◌, ◌<◌, ◌≤◌, Bool, true, false, List, [], ◌∷◌, Ok, Err, arith, if◌then◌else◌}
use Rattle.std.specs.Prelude.{min, nat_lt, nat_le, ◌||◌}
use Rattle.ei_spec.specs.Reading.{InvalidId}
use Rattle.ei_spec.specs.Interface.{Interface, ObjectView}
use Rattle.ei_backend.specs.Table.{TableView, HasIdRoom, peer_end, own_end, with_own, without}
use Rattle.ei_backend.specs.Growth.{Step, Makes, Hears, Removes, made_by, table_after, after_step, grown}

-- so many more own objects are made without want of memory, as far as there are ids
abbrev pub HasIdRoomFor : ℕ → TableView → Type 0
HasIdRoomFor n t = min (t.next_own + n) (own_end t) ≤ t.room

after_made : (t : TableView) (interface : Interface) (version n : ℕ) (left : Bool) → left ≡ nat_lt t.next_own (own_end t) → HasIdRoomFor (n + 1) t →
    HasIdRoomFor n (if left then with_own t interface version else t)
after_made t interface version n true is room = omega (arith, room)
after_made t interface version n false is room = omega (arith, room)

-- what the peer announces takes none of the room, accepted or not
after_heard : (t : TableView) (o : ObjectView) (u : TableView) (id n : ℕ) (refused : Bool) → u.next_own ≡ t.next_own → u.client ≡ t.client → u.room ≡ t.room → HasIdRoomFor n t →
    HasIdRoomFor n (table_after t (if refused then Err (InvalidId id) else Ok (o, u)))
after_heard t o u id n true own client room has = has
after_heard t o u id n false own client room has = rw (own, client, room) has

pub lasts : (steps : List Step) (t : TableView) (n : ℕ) → made_by steps < n → HasIdRoomFor n t → HasIdRoom (grown t steps)
lasts [] t n more room = λ left. omega (arith, more, room, left)
lasts (Makes interface version ∷ steps) t zero more room = absurd (omega (arith, more))
lasts (Makes interface version ∷ steps) t (suc n) more room =
    lasts steps (after_step t (Makes interface version)) n (omega (arith, more)) (after_made t interface version n (nat_lt t.next_own (own_end t)) refl (omega (arith, room)))
lasts (Hears id interface version ∷ steps) t n more room =
    lasts steps (after_step t (Hears id interface version)) n more (after_heard t _ _ id n (nat_lt id t.next_peer || nat_le (peer_end t) id) refl refl refl room)
lasts (Removes id ∷ steps) t n more room = lasts steps (without t id) n more room
