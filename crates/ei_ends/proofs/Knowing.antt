-- What an end made or read, by its own lists, is known.
use Rattle.std.proofs.Common.{◌≡◌, ℕ, suc, ◌+◌, Bool, inl, inr, List, [], ◌∷◌, length, drop, Some, None, refl, sym, ap, subst, ◌∙◌, arith}
use Rattle.std.specs.Prelude.{◌-◌}
use Rattle.std.proofs.lemmas.List.{drop-drop}
use Rattle.ei_spec.specs.Rows.{Row}
use Rattle.ei_spec.specs.Piece.{Piece}
use Rattle.ei_ends.specs.Sent.{other, Sent, Got, Took, Missed, New, new_in, new_of, row_of, IsCall, IsAlike}
use Rattle.ei_ends.specs.Announced.{if_named, known_by, announced, next_own, first}
use Rattle.ei_ends.specs.Agree.{oldest, Agree}
use Rattle.ei_ends.specs.Way.{onto, AllSent, End, Cut, Tied}
use Rattle.ei_ends.specs.Joined.{heard, acquainted}
use Rattle.ei_ends.proofs.Known.{or_else_some, or_else_first, if_named_some, rising, not_yet, next_counts, all_sent_onto}
use Rattle.ei_ends.proofs.Reading.{new_alike}

same_new : (events : Bool) (m r : Sent) (row : Row) → IsCall events m row → IsAlike m r → new_of events r ≡ new_of events m
unfolding row_of
same_new events m r row call a =
    let row_is : row_of events r ≡ Some row = rw (a.opcode, a.interface) call.row in
    ap (λ o. new_in o r.values) row_is ∙ new_alike events m row r.values call a.values

heard_announced : (events : Bool) (own past theirs : List Sent) (gots : List Got) (id : ℕ) (n : New) → AllSent events past theirs → Agree events own past gots → heard events gots id ≡ Some n → announced events past id ≡ Some n
unfolding heard announced Agree AllSent
heard_announced events own [] theirs [] id n all h e = absurd cc
heard_announced events own [] theirs (g ∷ gots) id n all h e = absurd h
heard_announced events own (m ∷ past) theirs [] id n all h e = absurd h
heard_announced events own (m ∷ past) theirs (Missed x after ∷ gots) id n all h e = or_else_first _ _ n (heard_announced events own past theirs gots id n all.1 h.1 e)
heard_announced events own (m ∷ past) theirs (Took r after ∷ gots) id n all h e = elim (or_else_some (heard events gots id) (if_named id (new_of events r)) n e) [
  | inl p ↦ or_else_first _ _ n (heard_announced events own past theirs gots id n all.1 h.1 p)
  | inr p ↦
      let same = same_new events m r all.0.row all.0.call h.0.2 in
      let named : if_named id (new_of events m) ≡ Some n = ap (if_named id) (sym same) ∙ p.1 in
      let is = if_named_some id (new_of events m) n named in
      let next = next_counts (next_own events past) (new_of events m) n all.0.fresh is.0 in
      let none : announced events past id ≡ None = not_yet events past id (rising events past theirs all.1) (omega (arith, next.0, is.1)) in
      rw none named
]

-- an end knows the objects that it made and read
pub knows : (events : Bool) (x y : End) (to_y to_x : Piece) (cx cy : Cut) (id : ℕ) (n : New) → Tied events x y to_y to_x cx cy → acquainted events x.sent x.taken id ≡ Some n → known_by events x.sent cy.past id ≡ Some n
knows events x y to_y to_x cx cy id n h e = elim (or_else_some (first id) _ n e) [
  | inl p ↦ or_else_first _ _ n p
  | inr p ↦ elim (or_else_some (announced events x.sent id) _ n p.1) [
    | inl q ↦ rw (p.0, q) refl
    | inr q ↦
        let sent = all_sent_onto (other events) cy.flight cy.past cx.past (subst (λ l. AllSent (other events) l cx.past) h.back.sent_is h.answers) in
        rw (p.0, q.0) (heard_announced (other events) x.sent cy.past cx.past x.taken id n sent h.back.agree q.1)
  ]
]

-- what was taken is the oldest of what was sent
pub onto_length : (ms past : List Sent) → length (onto ms past) ≡ length ms + length past
onto_length [] past = omega arith
onto_length (m ∷ ms) past = omega (arith, onto_length ms (m ∷ past))

drop_one : (n : ℕ) (l : List Sent) (m : Sent) (past : List Sent) → drop n l ≡ m ∷ past → drop (suc n) l ≡ past
drop_one n l m past e = sym (drop-drop 1 n l ∙ ap (λ k. drop k l) (let one : n + 1 ≡ suc n = omega arith in one)) ∙ ap (λ x. drop 1 x) e

drop_onto : (ms past : List Sent) → drop (length ms) (onto ms past) ≡ past
drop_onto [] past = refl
drop_onto (m ∷ ms) past = drop_one (length ms) (onto ms (m ∷ past)) m past (drop_onto ms (m ∷ past))

pub oldest_onto : (ms past : List Sent) → oldest (length past) (onto ms past) ≡ past
oldest_onto ms past = let n : length (onto ms past) - length past ≡ length ms = omega (arith, onto_length ms past) in ap (λ k. drop k (onto ms past)) n ∙ drop_onto ms past
