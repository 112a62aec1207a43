-- What an end took that missed nothing is what the other sent; and one that destroyed nothing misses nothing.
use Rattle.std.proofs.Common.{◌≡◌, ℕ, zero, suc, ◌-◌, Bool, true, false, ◌||◌, ◌&&◌, List, [], ◌∷◌, length, drop, refl, sym, ap, ◌∙◌, arith}
use Rattle.std.proofs.lemmas.List.{length-drop}
use Rattle.ei_spec.specs.Piece.{Piece}
use Rattle.ei_backend.specs.Backend.{BackendView, FrontAnswer, Waits, Gone, next}
use Rattle.ei_ends.specs.Sent.{other, Sent, Got, Took, Missed, row_of, new_of, destroys}
use Rattle.ei_ends.specs.Announced.{is_named, destroyed}
use Rattle.ei_ends.specs.Agree.{oldest, Agree, afters, lost, dropped, KeepsHandles, AllEqual}
use Rattle.ei_ends.specs.Way.{onto, End}
use Rattle.ei_ends.specs.Joined.{Joined}
use Rattle.ei_ends.proofs.JoinedSteps.{agrees, equal, reads_gone}
use Rattle.ei_ends.proofs.NothingLeft.{pair_first}
use Rattle.ei_ends.proofs.ReadingAll.{waits_for_more}
use Rattle.ei_told.specs.Told.{messages, NoneMissed}
use Rattle.ei_greeting.specs.Shaking.{Greeter}
use Rattle.ei_shaking.specs.Messages.{greeting, asked_by}
use Rattle.ei_shaking.specs.Both.{Hears}
use Rattle.ei_promises.proofs.Lists.{not_both}

-- ---- what was taken

keeps : (b : List Sent) (d : List Got) → NoneMissed d → KeepsHandles b d
unfolding KeepsHandles
keeps [] [] n = tt
keeps [] (g ∷ d) n = tt
keeps (m ∷ b) [] n = tt
keeps (m ∷ b) (Took r after ∷ d) n = keeps b d n
keeps (m ∷ b) (Missed id after ∷ d) n = absurd n

same_all : (b : List Sent) (d : List Got) → length b ≡ length d → NoneMissed d → AllEqual b d → messages d ≡ b
unfolding AllEqual
same_all [] [] l n e = refl
same_all [] (g ∷ d) l n e = absurd (omega (arith, l))
same_all (m ∷ b) [] l n e = absurd (omega (arith, l))
same_all (m ∷ b) (Took r after ∷ d) l n e = ap (λ (x : Sent). x ∷ messages d) e.0 ∙ ap (λ (xs : List Sent). m ∷ xs) (same_all b d (omega (arith, l)) n e.1)
same_all (m ∷ b) (Missed id after ∷ d) l n e = absurd n

pub taken_are : (events : Bool) (x y : End) (to_y to_x : Piece) → Joined events x y to_y to_x → NoneMissed y.taken → messages y.taken ≡ oldest (length y.taken) x.sent
taken_are events x y to_y to_x j n =
    let b : List Sent = oldest (length y.taken) x.sent in
    let few = (agrees events x y to_y to_x j).0 in
    let count = length-drop (length x.sent - length y.taken) x.sent in
    same_all b y.taken (omega (arith, few, count)) n (equal events x y to_y to_x [] b [] y.taken j refl refl refl (keeps b y.taken n))

pub taken_count : (gots : List Got) → NoneMissed gots → length (messages gots) ≡ length gots
taken_count [] n = refl
taken_count (Took r after ∷ gots) n = ap suc (taken_count gots n)
taken_count (Missed id after ∷ gots) n = absurd n

pub hears : (events : Bool) (x y : End) (to_y to_x : Piece) → Joined events x y to_y to_x → NoneMissed y.taken → Hears (messages y.taken) x.sent
hears events x y to_y to_x j n = taken_are events x y to_y to_x j n ∙ ap (λ (k : ℕ). oldest k x.sent) (sym (taken_count y.taken n))

-- an end that took all that was sent reads nothing
pub nothing_read : (events : Bool) (x y : End) (to_y to_x : Piece) (a : FrontAnswer) (b : BackendView) → Joined events x y to_y to_x → length y.taken ≡ length x.sent → next events y.backend ≡ (a, b) → a ≡ Waits
nothing_read events x y to_y to_x a b j all e = sym (pair_first Waits a y.backend b (sym (waits_for_more events x y to_y to_x j all) ∙ e))

-- ---- where nothing is destroyed

abbrev pub AllStay : Bool → List Sent → Type 0
AllStay events [] = Unit {0}
AllStay events (m ∷ ms) = (destroys events m ≡ false) × AllStay events ms

stay_drop : (events : Bool) (n : ℕ) (own : List Sent) → AllStay events own → AllStay events (drop n own)
stay_drop events zero own h = h
stay_drop events (suc n) [] h = tt
stay_drop events (suc n) (m ∷ own) h = stay_drop events n own h.1

none_destroyed : (events : Bool) (own : List Sent) (id : ℕ) → AllStay events own → destroyed events own id ≡ false
unfolding destroyed
none_destroyed events [] id h = refl
none_destroyed events (m ∷ own) id h = rw h.0 (none_destroyed events own id h.1)

none_lost : (events : Bool) (own past : List Sent) (before : List ℕ) (id : ℕ) → AllStay (other events) own → lost events own past before id ≡ false
unfolding lost
none_lost events own [] before id h = refl
none_lost events own (m ∷ past) [] id h = refl
none_lost events own (m ∷ past) (after ∷ before) id h =
    rw (none_destroyed (other events) (oldest after own) m.target (stay_drop (other events) (length own - after) own h), none_lost events own past before m.target h, none_lost events own past before id h) (neither (is_named id (new_of events m)))
  where
    neither : (b : Bool) → ((b && false) || false) ≡ false
    neither true = refl
    neither false = refl

none_dropped : (events : Bool) (own past : List Sent) (before : List ℕ) (after target : ℕ) → AllStay (other events) own → dropped events own past before after target ≡ false
none_dropped events own past before after target h =
    rw (none_destroyed (other events) (oldest after own) target (stay_drop (other events) (length own - after) own h), none_lost events own past before target h) refl

pub never_missed : (events : Bool) (x y : End) (to_y to_x : Piece) (id : ℕ) (b : BackendView) → Joined events x y to_y to_x → AllStay (other events) y.sent → next events y.backend ≡ (Gone id, b) → ⊥
unfolding Agree
never_missed events x y to_y to_x id b j stay e =
    by (oldest (suc (length y.taken)) x.sent) (agrees events x (record { backend = b; sent = y.sent; taken = Missed id (length y.sent) ∷ y.taken }) to_y to_x (reads_gone events x y to_y to_x id b j e)).1
  where
    by : (l : List Sent) → Agree events y.sent l (Missed id (length y.sent) ∷ y.taken) → ⊥
    by [] a = a
    by (m ∷ past) a = not_both (dropped events y.sent past (afters y.taken) (length y.sent) m.target) a.0.1 (none_dropped events y.sent past (afters y.taken) (length y.sent) m.target stay)

-- ---- the messages of the handshakes

pub greeting_stays : AllStay true (greeting ∷ [])
unfolding row_of
greeting_stays = (refl, tt)

pub asked_stay : (g : Greeter) → AllStay false (onto (asked_by g) [])
unfolding row_of asked_by
asked_stay g = (refl, (refl, (refl, (refl, (refl, (refl, (refl, (refl, (refl, (refl, (refl, (refl, (refl, (refl, (refl, (refl, (refl, tt)))))))))))))))))
