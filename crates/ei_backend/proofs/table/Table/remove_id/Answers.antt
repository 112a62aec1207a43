use Rattle.std.proofs.Common.{ap, sym, ◌∙◌}
use Rattle.ei_backend.specs.Table.{TableView, is_own}
use Rattle.ei_backend.proofs.Kept.{own_less, peer_less}
use Rattle.ei_backend.proofs.table.Table.remove_id.Goals as goal

pub returns-then-is_own : goal.returns-then-is_own
returns-then-is_own c =
    let mine = ap (λ (t : TableView). is_own t.client c.args.id) c.self.view_is ∙ sym c.is_own.ensures ∙ c.if-is_own.true in
    rw (← c.self.view_is) (own_less _ _ _ _ _ _ _ c.self.invariant _ c.args.id _ mine c.take_out.ensures.others c.take_out.ensures.room).1

pub returns-else-is_own : goal.returns-else-is_own
returns-else-is_own c =
    let other = ap (λ (t : TableView). is_own t.client c.args.id) c.self.view_is ∙ sym c.is_own.ensures ∙ c.if-is_own.false in
    rw (← c.self.view_is) (peer_less _ _ _ _ _ _ _ c.self.invariant _ c.args.id other c.take_out-else-is_own.ensures.others).1

pub invariant_of-self : goal.invariant_of-self
invariant_of-self c =
    let mine = ap (λ (t : TableView). is_own t.client c.args.id) c.self.view_is ∙ sym c.is_own.ensures ∙ c.if-is_own.true in
    (own_less _ _ _ _ _ _ _ c.self.invariant _ c.args.id _ mine c.take_out.ensures.others c.take_out.ensures.room).0

pub invariant_of-self-else-is_own : goal.invariant_of-self-else-is_own
invariant_of-self-else-is_own c =
    let other = ap (λ (t : TableView). is_own t.client c.args.id) c.self.view_is ∙ sym c.is_own.ensures ∙ c.if-is_own.false in
    (peer_less _ _ _ _ _ _ _ c.self.invariant _ c.args.id other c.take_out-else-is_own.ensures.others).0
