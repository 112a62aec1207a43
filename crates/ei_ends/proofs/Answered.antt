-- Who is answered on an object has been heard up to the message that announced it.
use Rattle.std.proofs.Common.{◌≡◌, ℕ, ◌<◌, ◌≤◌, Bool, true, false, inl, inr, List, [], ◌∷◌, ◌++◌, length, Option, Some, None, refl, sym, ap, subst, ◌∙◌}
use Rattle.std.proofs.Common.{append_assoc, length-append, arith}
use Rattle.std.proofs.lemmas.Bool.{cases_lt, eq-eqb}
use Rattle.ei_spec.specs.Piece.{Piece}
use Rattle.ei_ends.specs.Sent.{other, Sent, Got, Took, New, new_of, IsAlike}
use Rattle.ei_ends.specs.Announced.{or_else, announced, known_by, first, next_own}
use Rattle.ei_ends.specs.Agree.{Agree}
use Rattle.ei_ends.specs.Way.{onto, MaySend, AllSent, End, Cut, Tied}
use Rattle.ei_ends.proofs.Splits.{split_long}
use Rattle.ei_ends.proofs.Keeping.{ranges}
use Rattle.ei_ends.proofs.Known.{Rising, not_yet, or_else_some, Apart, apart, in_range, rising_onto, next_more, next_low, announced_more, next_counts, not_zero}
use Rattle.ei_ends.proofs.Agreeing.{agree_length}

-- a message that was taken was sent
record WasSent (past : List Sent) (r : Sent) : Type 0 where
  later : List Sent
  message : Sent
  before : List Sent
  is : past ≡ later ++ (message ∷ before)
  alike : IsAlike message r

was_sent : (events : Bool) (own past : List Sent) (p q : List Got) (r : Sent) (after : ℕ) → Agree events own past (p ++ (Took r after ∷ q)) → WasSent past r
unfolding Agree
was_sent events own [] [] q r after h = absurd h
was_sent events own [] (g ∷ p) q r after h = absurd h
was_sent events own (m ∷ past) [] q r after h = record { later = []; message = m; before = past; is = refl; alike = h.0.2 }
was_sent events own (m ∷ past) (g ∷ p) q r after h =
    let w = was_sent events own past p q r after h.1 in
    record { later = m ∷ w.later; message = w.message; before = w.before; is = ap (λ l. m ∷ l) w.is; alike = w.alike }

may_at : (events : Bool) (later : List Sent) (m : Sent) (before theirs : List Sent) → AllSent events (later ++ (m ∷ before)) theirs → MaySend events before theirs m
unfolding AllSent
may_at events [] m before theirs h = h.0
may_at events (x ∷ later) m before theirs h = may_at events later m before theirs h.1

-- what is on its way lies before what was taken
onto_is : (ms past : List Sent) → (front : List Sent) × (onto ms past ≡ front ++ past)
onto_is [] past = ([], refl)
onto_is (m ∷ ms) past =
    let r = onto_is ms (m ∷ past) in
    (r.0 ++ (m ∷ []), r.1 ∙ sym (append_assoc r.0 (m ∷ []) past))

next_front : (events : Bool) (front past : List Sent) → next_own events past ≤ next_own events (front ++ past)
next_front events [] past = omega arith
next_front events (m ∷ front) past = omega (arith, next_front events front past, next_more events m (front ++ past))

announced_at : (events : Bool) (later : List Sent) (id : ℕ) (n : New) (past : List Sent) → announced events past id ≡ Some n → announced events (later ++ past) id ≡ Some n
announced_at events [] id n past e = e
announced_at events (m ∷ later) id n past e = announced_more events m (later ++ past) id n (announced_at events later id n past e)

longer : (events : Bool) (front past a b : List Sent) (m : Sent) → front ++ past ≡ a ++ (m ∷ b) → next_own events b < next_own events past → length b < length past
longer events front past a b m e lt = elim (cases_lt (length b) (length past)) [
  | inl short ↦ short
  | inr le ↦
      let same : front ++ past ≡ (a ++ (m ∷ [])) ++ b = e ∙ sym (append_assoc a (m ∷ []) b) in
      let s = split_long front past (a ++ (m ∷ [])) b same (omega (arith, ap length same, length-append front past, length-append (a ++ (m ∷ [])) b, le)) in
      absurd (omega (arith, lt, next_front events s.0 past, ap (next_own events) s.2))
]

known_theirs : (events : Bool) (own theirs : List Sent) (id : ℕ) (n : New) → known_by events own theirs id ≡ Some n → first id ≡ None → announced events own id ≡ None → announced (other events) theirs id ≡ Some n
known_theirs events own theirs id n e zero none = elim (or_else_some (first id) (or_else (announced events own id) (announced (other events) theirs id)) n e) [
  | inl p ↦ let both : Some n ≡ None = sym p ∙ zero in cc
  | inr p ↦ elim (or_else_some (announced events own id) (announced (other events) theirs id) n p.1) [
    | inl q ↦ let both : Some n ≡ None = sym q ∙ none in cc
    | inr q ↦ q.1
  ]
]

none_else : (o : Option New) → ((n : New) → o ≡ Some n → ⊥) → o ≡ None
none_else None f = refl
none_else (Some n) f = absurd (f n refl)

rising_at : (events : Bool) (front past : List Sent) → Rising events (front ++ past) → Rising events past
rising_at events [] past h = h
rising_at events (m ∷ front) past h = rising_at events front past h.1

announced_here : (events : Bool) (m : Sent) (b : List Sent) (id : ℕ) (n : New) → announced events b id ≡ None → new_of events m ≡ Some n → id ≡ n.id → announced events (m ∷ b) id ≡ Some n
unfolding announced
announced_here events m b id n none new same = rw (none, new, eq-eqb id n.id same) refl

-- the object that one end announced isn't announced by the other
not_mine : (events : Bool) (sent own later : List Sent) (x : Sent) (before a : List Sent) (m : Sent) (b : List Sent) (n : New) (id : ℕ) → Apart events sent own → sent ≡ later ++ (x ∷ before) → own ≡ a ++ (m ∷ b) → id ≡ n.id → new_of (other events) m ≡ Some n → n.id ≡ next_own (other events) b → (k : New) → announced events before id ≡ Some k → ⊥
not_mine events sent own later x before a m b n id range sent_is own_is same new next k e =
    let there : announced events sent id ≡ Some k = ap (λ l. announced events l id) sent_is ∙ announced_at events later id k (x ∷ before) (announced_more events x before id k e) in
    let none : announced (other events) own id ≡ None = apart events sent own id k range there in
    let rises = rising_at (other events) a (m ∷ b) (subst (λ l. Rising (other events) l) own_is range.own_rises) in
    let fresh : announced (other events) b id ≡ None = not_yet (other events) b id rises.1 (omega (arith, same, next)) in
    let here : announced (other events) (m ∷ b) id ≡ Some n = announced_here (other events) m b id n fresh new same in
    let mine : announced (other events) own id ≡ Some n = ap (λ l. announced (other events) l id) own_is ∙ announced_at (other events) a id n (m ∷ b) here in
    let both : Some n ≡ None = sym mine ∙ none in cc

start_low : (events : Bool) (sent : List Sent) → 1 ≤ next_own events sent
start_low true sent = omega (arith, next_low true sent)
start_low false sent = omega (arith, next_low false sent)

-- what the second end announced at a place it was answered on: the first has taken that message, and all before it
pub answered : (events : Bool) (x y : End) (to_y to_x : Piece) (cx cy : Cut) (a b : List Sent) (m : Sent) (n : New) (p q : List Got) (r : Sent) (after : ℕ) → Tied events x y to_y to_x cx cy →
    y.sent ≡ a ++ (m ∷ b) → new_of (other events) m ≡ Some n → y.taken ≡ p ++ (Took r after ∷ q) → r.target ≡ n.id → length b < length x.taken
answered events x y to_y to_x cx cy a b m n p q r after h is new took target =
    let w = was_sent events y.sent cx.past p q r after (subst (λ l. Agree events y.sent cx.past l) took h.there.agree) in
    let f = onto_is cx.flight cx.past in
    let sent : x.sent ≡ (f.0 ++ w.later) ++ (w.message ∷ w.before) = h.there.sent_is ∙ f.1 ∙ ap (λ l. f.0 ++ l) w.is ∙ sym (append_assoc f.0 w.later (w.message ∷ w.before)) in
    let may = may_at events (f.0 ++ w.later) w.message w.before cy.past (subst (λ l. AllSent events l cy.past) sent h.says) in
    let mine = may_at (other events) a m b cx.past (subst (λ l. AllSent (other events) l cx.past) is h.answers) in
    let next = next_counts (next_own (other events) b) (new_of (other events) m) n mine.fresh new in
    let id : w.message.target ≡ next_own (other events) b = sym w.alike.target ∙ target ∙ next.0 in
    let range = ranges events x y to_y to_x cx cy h in
    let zero : first w.message.target ≡ None = not_zero w.message.target (omega (arith, id, start_low (other events) b)) in
    let none : announced events w.before w.message.target ≡ None = none_else _ (λ k e. not_mine events x.sent y.sent (f.0 ++ w.later) w.message w.before a m b n w.message.target range sent is (sym (w.alike.target) ∙ target) new next.0 k e) in
    let theirs = known_theirs events w.before cy.past w.message.target _ may.knows zero none in
    let back = onto_is cy.flight cy.past in
    let own_rises = rising_onto (other events) cy.flight cy.past (subst (λ l. Rising (other events) l) h.back.sent_is range.own_rises) in
    let at = in_range (other events) cy.past w.message.target _ own_rises theirs in
    let long = longer (other events) back.0 cy.past a b m (sym back.1 ∙ sym h.back.sent_is ∙ is) (omega (arith, at.high, id)) in
    omega (arith, long, agree_length (other events) x.sent cy.past x.taken h.back.agree)
