-- An object that is at both ends is the same at both, but for the side.
use Rattle.std.proofs.Common.{◌≡◌, ℕ, Bool, true, false, cond, inl, inr, List, Option, Some, None, refl, sym, ap, ◌∙◌}
use Rattle.ei_spec.specs.Piece.{Piece}
use Rattle.ei_spec.specs.Interface.{ObjectView}
use Rattle.ei_backend.specs.Table.{found}
use Rattle.ei_ends.specs.Sent.{other, Sent, New}
use Rattle.ei_ends.specs.Announced.{or_else, known_by, announced, first}
use Rattle.ei_ends.specs.Way.{onto, End, seen_by}
use Rattle.ei_ends.specs.Joined.{Joined, IsSame}
use Rattle.ei_ends.proofs.Keeping.{ranges}
use Rattle.ei_ends.proofs.Known.{or_else_some, or_else_first, announced_onto, Apart, apart}
use Rattle.ei_ends.proofs.Agreeing.{twice}

same_new : (a b : New) → Some a ≡ Some b → a ≡ b
same_new a b e = cc

-- what one end knows is what the other knows, where both know it
one_known : (events : Bool) (sent own past own_past flight own_flight : List Sent) (id : ℕ) (n k : New) → Apart events sent own → sent ≡ onto flight past → own ≡ onto own_flight own_past →
    known_by events sent own_past id ≡ Some n → known_by (other events) own past id ≡ Some k → n ≡ k
one_known events sent own past own_past flight own_flight id n k range is own_is e f = elim (or_else_some (first id) (or_else (announced events sent id) (announced (other events) own_past id)) n e) [
  | inl p ↦ same_new n k (sym (or_else_first (first id) (or_else (announced (other events) own id) (announced (other (other events)) past id)) n p) ∙ f)
  | inr p ↦ elim (or_else_some (announced events sent id) (announced (other events) own_past id) n p.1) [
    | inl q ↦
        let none : announced (other events) own id ≡ None = apart events sent own id n range q in
        let here : announced (other (other events)) past id ≡ Some k = rw (p.0, none) at f in
        let there : announced events past id ≡ Some k = ap (λ b. announced b past id) (sym (twice events)) ∙ here in
        same_new n k (sym q ∙ ap (λ l. announced events l id) is ∙ announced_onto events flight past id k there)
    | inr q ↦
        let there : announced (other events) own id ≡ Some n = ap (λ l. announced (other events) l id) own_is ∙ announced_onto (other events) own_flight own_past id n q.1 in
        same_new n k (sym (rw (p.0, there) refl) ∙ f)
  ]
]

alive_known : (b client : Bool) (k : Option New) (o : ObjectView) → cond b None (seen_by client k) ≡ Some o → (n : New) × (k ≡ Some n) × (o ≡ record { id = n.id; interface = n.interface; version = n.version; client_side = client })
alive_known true client k o e = absurd cc
alive_known false client None o e = absurd cc
alive_known false client (Some n) o e = (n, refl, cc)

pub same_object : (events : Bool) (x y : End) (to_y to_x : Piece) (id : ℕ) (o p : ObjectView) → Joined events x y to_y to_x → found x.backend.table id ≡ Some o → found y.backend.table id ≡ Some p → IsSame o p
same_object events x y to_y to_x id o p j e f =
    let h = j.tied in
    let mine = alive_known _ (other events) (known_by (other (other events)) x.sent j.back.past id) o (sym (h.back.objects.objects id) ∙ e) in
    let theirs = alive_known _ events (known_by (other events) y.sent j.there.past id) p (sym (h.there.objects.objects id) ∙ f) in
    let here : known_by events x.sent j.back.past id ≡ Some mine.0 = ap (λ b. known_by b x.sent j.back.past id) (sym (twice events)) ∙ mine.1 in
    let one = one_known events x.sent y.sent j.there.past j.back.past j.there.flight j.back.flight id mine.0 theirs.0 (ranges events x y to_y to_x j.there j.back h) h.there.sent_is h.back.sent_is here theirs.1 in
    rw (mine.2, theirs.2, one) (record { id = refl; interface = refl; version = refl })
