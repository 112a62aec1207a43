use Rattle.std.proofs.Common.{ap, sym, ◌∙◌}
use Rattle.ei_backend.specs.Table.{TableView, is_own}
use Rattle.ei_backend.proofs.FirstObject.{first_found}
use Rattle.ei_backend.proofs.Objects.{keyed_is}
use Rattle.ei_backend.proofs.OwnAndPeer.{found_own, found_peer}
use Rattle.ei_backend.proofs.table.Table.search.Goals as goal

pub returns-then-is_own-clause-object : goal.returns-then-is_own-clause-object
returns-then-is_own-clause-object c =
    let h = c.self.invariant in
    let mine = ap (λ (t : TableView). is_own t.client c.args.id) c.self.view_is ∙ sym c.is_own.ensures ∙ c.if-is_own.true in
    rw (← c.self.view_is) (c.get.ensures ∙ keyed_is _ c.args.id h.own_ids ∙ found_own _ _ _ _ h.stands c.args.id mine)

pub returns-then-is_own-clause-first : goal.returns-then-is_own-clause-first
returns-then-is_own-clause-first c =
    let h = c.self.invariant in
    let mine = ap (λ (t : TableView). is_own t.client c.args.id) c.self.view_is ∙ sym c.is_own.ensures ∙ c.if-is_own.true in
    let is = c.get.ensures ∙ keyed_is _ c.args.id h.own_ids ∙ found_own _ _ _ _ h.stands c.args.id mine in
    rw (← c.self.view_is) (first_found _ c.args.id c.get.result h.stands.first is)

pub returns-else-is_own-clause-object : goal.returns-else-is_own-clause-object
returns-else-is_own-clause-object c =
    let h = c.self.invariant in
    let other = ap (λ (t : TableView). is_own t.client c.args.id) c.self.view_is ∙ sym c.is_own.ensures ∙ c.if-is_own.false in
    rw (← c.self.view_is) (c.get-else-is_own.ensures ∙ keyed_is _ c.args.id h.peer_ids ∙ found_peer _ _ _ _ h.stands c.args.id other)

pub returns-else-is_own-clause-first : goal.returns-else-is_own-clause-first
returns-else-is_own-clause-first c =
    let h = c.self.invariant in
    let other = ap (λ (t : TableView). is_own t.client c.args.id) c.self.view_is ∙ sym c.is_own.ensures ∙ c.if-is_own.false in
    let is = c.get-else-is_own.ensures ∙ keyed_is _ c.args.id h.peer_ids ∙ found_peer _ _ _ _ h.stands c.args.id other in
    rw (← c.self.view_is) (first_found _ c.args.id c.get-else-is_own.result h.stands.first is)
