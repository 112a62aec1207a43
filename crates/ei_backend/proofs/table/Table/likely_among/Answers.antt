use Rattle.ei_backend.proofs.Objects.{if_keyed}
use Rattle.ei_backend.proofs.OwnAndPeer.{if_own, if_peer, if_first}
use Rattle.ei_backend.proofs.table.Table.likely_among.Goals as goal

pub returns-then-own-clause-object : goal.returns-then-own-clause-object
returns-then-own-clause-object c =
    let h = c.self.invariant in
    rw (← c.self.view_is) (if_own _ _ _ _ h.stands c.args.id c.likely.result (if_keyed _ c.args.id c.likely.result h.own_ids c.likely.ensures))

pub returns-then-own-clause-first : goal.returns-then-own-clause-first
returns-then-own-clause-first c =
    let h = c.self.invariant in
    rw (← c.self.view_is) (if_first _ _ _ _ h.stands c.args.id c.likely.result (if_own _ _ _ _ h.stands c.args.id c.likely.result (if_keyed _ c.args.id c.likely.result h.own_ids c.likely.ensures)))

pub returns-else-own-clause-object : goal.returns-else-own-clause-object
returns-else-own-clause-object c =
    let h = c.self.invariant in
    rw (← c.self.view_is) (if_peer _ _ _ _ h.stands c.args.id c.likely-else-own.result (if_keyed _ c.args.id c.likely-else-own.result h.peer_ids c.likely-else-own.ensures))

pub returns-else-own-clause-first : goal.returns-else-own-clause-first
returns-else-own-clause-first c =
    let h = c.self.invariant in
    rw (← c.self.view_is) (if_first _ _ _ _ h.stands c.args.id c.likely-else-own.result (if_peer _ _ _ _ h.stands c.args.id c.likely-else-own.result (if_keyed _ c.args.id c.likely-else-own.result h.peer_ids c.likely-else-own.ensures)))
