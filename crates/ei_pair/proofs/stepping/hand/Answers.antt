-- What the server's end put is stored, or for want of memory it isn't.
use Rattle.std.proofs.Common.{refl, sym, ◌∙◌}
use Rattle.ei_linked.specs.Ends.{EndsView}
use Rattle.ei_pair.specs.declared.server_end.ServerEnd.{ServerEnd}
use Rattle.ei_pair.proofs.Handed.{at_ok, at_err, hands_stored, hands_lost}
use Rattle.ei_pair.proofs.stepping.hand.Goals as goal

pub returns-then-is_err-clause-hands : goal.returns-then-is_err-clause-hands
returns-then-is_err-clause-hands g c =
    let v : EndsView ServerEnd = record { client = c.ends.inside.client; server = c.ends.inside.server; to_client = c.ends.inside.to_client; to_server = c.ends.inside.to_server; spent = c.ends.inside.spent } in
    let e : EndsView ServerEnd = record { client = c.ends-2.inside.client; server = c.ends-2.inside.server; to_client = c.ends-2.inside.to_client; to_server = c.ends-2.inside.to_server; spent = c.ends-2.inside.spent } in
    hands_lost v c.args.ends.now c.ends.view_is c.args.tells.now c.obey_at-obeyed.new.tells c.args.request _ _ c.obey_at-obeyed.result c.obey_at-obeyed.new.server
    c.obey_at-obeyed.ensures.obeys c.obey_at-obeyed.ensures.rest e (c.ends-2.view_is ∙ at_err c.store_server.result _ (sym c.is_err.ensures.value ∙ c.if-is_err.true) c.store_server.ensures.err)
    c.untake.new.self c.untake.ensures

pub returns-clause-hands : goal.returns-clause-hands
returns-clause-hands g c =
    let v : EndsView ServerEnd = record { client = c.ends.inside.client; server = c.ends.inside.server; to_client = c.ends.inside.to_client; to_server = c.ends.inside.to_server; spent = c.ends.inside.spent } in
    hands_stored v c.args.ends.now c.ends.view_is c.args.tells.now c.obey_at-obeyed.new.tells c.args.request _ _ c.obey_at-obeyed.result c.obey_at-obeyed.new.server
    c.obey_at-obeyed.ensures.obeys c.obey_at-obeyed.ensures.rest c.unsent-before.result c.unsent-before.ensures c.store_server.new.ends
    (λ ms w. at_ok c.store_server.result _ (sym c.is_err.ensures.value ∙ c.if-is_err.false) (c.store_server.ensures.stores ms w))

pub obey_at-obeyed-requires : goal.obey_at-obeyed-requires
obey_at-obeyed-requires g c = record { serial = c.requires.serial }

pub returns-then-is_err-clause-clock : goal.returns-then-is_err-clause-clock
returns-then-is_err-clause-clock g c = c.obey_at-obeyed.ensures.clock

pub same-ends : goal.same-ends
same-ends g c = refl

pub returns-clause-clock : goal.returns-clause-clock
returns-clause-clock g c = c.obey_at-obeyed.ensures.clock
