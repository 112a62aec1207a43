-- A side that destroyed nothing, and took as many messages as the other sent, took just these, and missed none.
use Rattle.std.proofs.Common.{◌≡◌, ℕ, zero, suc, ◌-◌, Bool, true, false, ◌||◌, ◌&&◌, List, [], ◌∷◌, length, drop, refl, ap, subst, ◌∙◌, arith}
use Rattle.ei_ends.specs.Sent.{Sent, Got, Took, Missed, new_of}
use Rattle.ei_ends.specs.Announced.{is_named, destroyed}
use Rattle.ei_ends.specs.Agree.{oldest, Agree, afters, lost, dropped, KeepsHandles, AllEqual}
use Rattle.ei_told.specs.Told.{messages, NoneMissed}
use Rattle.ei_linked.specs.declared.side.Side.TheVariants as side
use Rattle.ei_linked.specs.TwoEnds.{WorldView, IsPrefix, Agrees, HasTakenAll, end_of}
use Rattle.ei_promises.proofs.Lists.{not_both}
use Rattle.ei_emit.specs.Stands.{NoneDestroys}

-- ---- nothing was destroyed

front_of : (n : ℕ) (own : List Sent) → NoneDestroys own → NoneDestroys (drop n own)
front_of zero own h = h
front_of (suc n) [] h = tt
front_of (suc n) (m ∷ own) h = front_of n own h.1

none_destroyed : (own : List Sent) (id : ℕ) → NoneDestroys own → destroyed false own id ≡ false
unfolding destroyed
none_destroyed [] id h = refl
none_destroyed (m ∷ own) id h = rw h.0 (none_destroyed own id h.1)

none_lost : (own past : List Sent) (before : List ℕ) (id : ℕ) → NoneDestroys own → lost true own past before id ≡ false
unfolding lost
none_lost own [] before id h = refl
none_lost own (m ∷ past) [] id h = refl
none_lost own (m ∷ past) (after ∷ before) id h =
    rw (none_destroyed (oldest after own) m.target (front_of (length own - after) own h), none_lost own past before m.target h, none_lost own past before id h) (neither (is_named id (new_of true m)))
  where
    neither : (b : Bool) → ((b && false) || false) ≡ false
    neither true = refl
    neither false = refl

none_dropped : (own past : List Sent) (before : List ℕ) (after target : ℕ) → NoneDestroys own → dropped true own past before after target ≡ false
none_dropped own past before after target h =
    rw (none_destroyed (oldest after own) target (front_of (length own - after) own h), none_lost own past before target h) refl

-- ---- so nothing was missed

missed_none : (own theirs : List Sent) (taken : List Got) → NoneDestroys own → Agree true own theirs taken → NoneMissed taken
unfolding Agree
missed_none own [] [] h a = tt
missed_none own [] (g ∷ taken) h a = absurd a
missed_none own (m ∷ theirs) [] h a = absurd a
missed_none own (m ∷ theirs) (Took r after ∷ taken) h a = missed_none own theirs taken h a.1
missed_none own (m ∷ theirs) (Missed id after ∷ taken) h a =
    absurd (not_both (dropped true own theirs (afters taken) after m.target) a.0.1 (none_dropped own theirs (afters taken) after m.target h))

keeps : (theirs : List Sent) (taken : List Got) → NoneMissed taken → KeepsHandles theirs taken
unfolding KeepsHandles
keeps [] [] n = tt
keeps [] (g ∷ taken) n = tt
keeps (m ∷ theirs) [] n = tt
keeps (m ∷ theirs) (Took r after ∷ taken) n = keeps theirs taken n
keeps (m ∷ theirs) (Missed id after ∷ taken) n = absurd n

same_all : (theirs : List Sent) (taken : List Got) → length taken ≡ length theirs → NoneMissed taken → AllEqual theirs taken → messages taken ≡ theirs
unfolding AllEqual
same_all [] [] l n e = refl
same_all [] (g ∷ taken) l n e = absurd (omega (arith, l))
same_all (m ∷ theirs) [] l n e = absurd (omega (arith, l))
same_all (m ∷ theirs) (Took r after ∷ taken) l n e =
    ap (λ (x : Sent). x ∷ messages taken) e.0 ∙ ap (λ (xs : List Sent). m ∷ xs) (same_all theirs taken (omega (arith, l)) n e.1)
same_all (m ∷ theirs) (Missed id after ∷ taken) l n e = absurd n

pub whole_of : (theirs : List Sent) (n : ℕ) → n ≡ length theirs → oldest n theirs ≡ theirs
whole_of theirs n e = ap (λ (k : ℕ). drop k theirs) (let none : length theirs - n ≡ 0 = omega (arith, e) in none)

module _ (own theirs : List Sent) (taken : List Got) (p : IsPrefix true own theirs taken) (stay : NoneDestroys own) (all : length taken ≡ length theirs) where
  none_missed : NoneMissed taken
  none_missed = missed_none own theirs taken stay (subst (λ (l : List Sent). Agree true own l taken) (whole_of theirs (length taken) all) p.agrees)

  same : messages taken ≡ theirs
  same = same_all theirs taken all none_missed (p.equal [] theirs [] taken (whole_of theirs (length taken) all) refl refl (keeps theirs taken none_missed))

-- the client of a pair
pub client_missed_none : (w : WorldView) → Agrees side.Client w → NoneDestroys (end_of side.Client w).sent → HasTakenAll side.Client w → NoneMissed (end_of side.Client w).taken
client_missed_none w a stay all = none_missed (end_of side.Client w).sent (end_of side.Server w).sent (end_of side.Client w).taken a stay all

pub client_took_all : (w : WorldView) → Agrees side.Client w → NoneDestroys (end_of side.Client w).sent → HasTakenAll side.Client w → messages (end_of side.Client w).taken ≡ (end_of side.Server w).sent
client_took_all w a stay all = same (end_of side.Client w).sent (end_of side.Server w).sent (end_of side.Client w).taken a stay all
