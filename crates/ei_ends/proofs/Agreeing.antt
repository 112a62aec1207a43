-- What was taken still agrees, and what is known at one end is known at the other.
use Rattle.std.proofs.Common.{◌≡◌, ℕ, suc, ◌≤◌, Bool, true, false, ◌||◌, ◌&&◌, inl, inr, List, [], ◌∷◌, length, drop, Some, None, refl, ap, ◌∙◌, arith, subst}
use Rattle.std.proofs.Common.{sym}
use Rattle.std.specs.Prelude.{◌-◌}
use Rattle.ei_ends.specs.Sent.{other, Sent, Got, Took, Missed, New, new_of}
use Rattle.ei_ends.specs.Announced.{announced, destroyed, first, known_by, is_named}
use Rattle.ei_ends.specs.Agree.{oldest, IsTaken, Agree, lost, afters, dropped, after_of, AreTimes}
use Rattle.ei_ends.specs.Way.{gone, onto}
use Rattle.ei_ends.proofs.Known.{or_else_some, or_else_first, announced_onto, Apart, apart}

-- ---- the first so many that were sent

pub oldest_all : (own : List Sent) → oldest (length own) own ≡ own
oldest_all own = let none : length own - length own ≡ 0 = omega arith in ap (λ n. drop n own) none

pub oldest_more : (m : Sent) (own : List Sent) (n : ℕ) → n ≤ length own → oldest n (m ∷ own) ≡ oldest n own
oldest_more m own n le = let one : length (m ∷ own) - n ≡ suc (length own - n) = omega arith in ap (λ k. drop k (m ∷ own)) one

-- ---- what is dropped

and_true : (b : Bool) → (b && true) ≡ b
and_true true = refl
and_true false = refl

and_false : (b : Bool) → (b && false) ≡ false
and_false true = refl
and_false false = refl

-- what was dropped stays so, when the reader sends one more
lost_more : (events : Bool) (r : Sent) (own past : List Sent) (gots : List Got) (id : ℕ) → Agree events own past gots → lost events (r ∷ own) past (afters gots) id ≡ lost events own past (afters gots) id
unfolding Agree lost
lost_more events r own [] [] id h = refl
lost_more events r own [] (g ∷ gots) id h = absurd h
lost_more events r own (m ∷ past) [] id h = absurd h
lost_more events r own (m ∷ past) (Took x after ∷ gots) id h =
    rw (oldest_more r own after h.0.0, lost_more events r own past gots m.target h.1, lost_more events r own past gots id h.1) refl
lost_more events r own (m ∷ past) (Missed x after ∷ gots) id h =
    rw (oldest_more r own after h.0.0, lost_more events r own past gots m.target h.1, lost_more events r own past gots id h.1) refl

-- the messages that were dropped are those that were taken as such
pub lost_gone : (events : Bool) (own past : List Sent) (gots : List Got) (id : ℕ) → Agree events own past gots → lost events own past (afters gots) id ≡ gone events past gots id
unfolding Agree lost gone
lost_gone events own [] [] id h = refl
lost_gone events own [] (g ∷ gots) id h = absurd h
lost_gone events own (m ∷ past) [] id h = absurd h
lost_gone events own (m ∷ past) (Took x after ∷ gots) id h =
    rw (h.0.1, and_false (is_named id (new_of events m))) (lost_gone events own past gots id h.1)
lost_gone events own (m ∷ past) (Missed x after ∷ gots) id h =
    rw (h.0.1, and_true (is_named id (new_of events m))) (ap (λ b. is_named id (new_of events m) || b) (lost_gone events own past gots id h.1))

-- what is dropped of all that the reader has sent
pub dropped_now : (events : Bool) (own past : List Sent) (gots : List Got) (target : ℕ) → Agree events own past gots → dropped events own past (afters gots) (length own) target ≡ (destroyed (other events) own target || gone events past gots target)
dropped_now events own past gots target h = rw (oldest_all own, lost_gone events own past gots target h) refl

-- ---- what was taken

dropped_more : (events : Bool) (r : Sent) (own past : List Sent) (gots : List Got) (after target : ℕ) → after ≤ length own → Agree events own past gots → dropped events (r ∷ own) past (afters gots) after target ≡ dropped events own past (afters gots) after target
dropped_more events r own past gots after target le h = rw (oldest_more r own after le, lost_more events r own past gots target h) refl

is_taken_more : (events : Bool) (r : Sent) (own past : List Sent) (gots : List Got) (m : Sent) (g : Got) → Agree events own past gots → IsTaken events own past gots m g → IsTaken events (r ∷ own) past gots m g
is_taken_more events r own past gots m (Took got after) a h = (omega (arith, h.0), dropped_more events r own past gots after m.target h.0 a ∙ h.1, h.2)
is_taken_more events r own past gots m (Missed id after) a h = (omega (arith, h.0), dropped_more events r own past gots after m.target h.0 a ∙ h.1, h.2)

-- what was taken agrees after the reader sent one more
pub agree_more : (events : Bool) (r : Sent) (own past : List Sent) (gots : List Got) → Agree events own past gots → Agree events (r ∷ own) past gots
unfolding Agree
agree_more events r own [] [] h = tt
agree_more events r own [] (g ∷ gots) h = absurd h
agree_more events r own (m ∷ past) [] h = absurd h
agree_more events r own (m ∷ past) (g ∷ gots) h = (is_taken_more events r own past gots m g h.1 h.0, agree_more events r own past gots h.1)

pub agree_next : (events : Bool) (own past : List Sent) (gots : List Got) (m : Sent) (g : Got) → IsTaken events own past gots m g → Agree events own past gots → Agree events own (m ∷ past) (g ∷ gots)
unfolding Agree
agree_next events own past gots m g one h = (one, h)

pub agree_length : (events : Bool) (own past : List Sent) (gots : List Got) → Agree events own past gots → length gots ≡ length past
unfolding Agree
agree_length events own [] [] h = refl
agree_length events own [] (g ∷ gots) h = absurd h
agree_length events own (m ∷ past) [] h = absurd h
agree_length events own (m ∷ past) (g ∷ gots) h = omega (arith, agree_length events own past gots h.1)

-- ---- when it was taken

pub times_more : (now : ℕ) (gots : List Got) → AreTimes now gots → AreTimes (suc now) gots
unfolding AreTimes
times_more now [] h = tt
times_more now (g ∷ gots) h = (omega (arith, h.0), h.1)

pub times_next : (now : ℕ) (g : Got) (gots : List Got) → after_of g ≡ now → AreTimes now gots → AreTimes now (g ∷ gots)
unfolding AreTimes
times_next now g gots e h = (omega (arith, e), subst (λ n. AreTimes n gots) (sym e) h)

-- ---- the target of the next message

pub twice : (b : Bool) → other (other b) ≡ b
twice true = refl
twice false = refl

-- an object that the sender knows is one that the reader knew
pub known_across : (events : Bool) (past own_past own_flight own : List Sent) (id : ℕ) (n : New) → Apart events past own → own ≡ onto own_flight own_past → known_by events past own_past id ≡ Some n → known_by (other events) own past id ≡ Some n
known_across events past own_past own_flight own id n h is e = elim (or_else_some (first id) _ n e) [
  | inl p ↦ or_else_first _ _ n p
  | inr p ↦ elim (or_else_some (announced events past id) _ n p.1) [
    | inl q ↦
        let none : announced (other events) own id ≡ None = apart events past own id n h q in
        let back : announced (other (other events)) past id ≡ Some n = ap (λ b. announced b past id) (twice events) ∙ q in
        rw (p.0, none) back
    | inr q ↦
        let there : announced (other events) own id ≡ Some n = ap (λ o. announced (other events) o id) is ∙ announced_onto (other events) own_flight own_past id n q.1 in
        rw (p.0, there) refl
  ]
]
