use Rattle.std.proofs.Common.{true, List, length, ap, sym, ◌∙◌}
use Rattle.ei_linked.specs.declared.written.Unsent.{Unsent}
use Rattle.ei_linked.specs.declared.record.Record.{Record}
use Rattle.ei_linked.specs.Held.{stored_by}
use Rattle.ei_linked.specs.Ends.{EndsView}
use Rattle.ei_pair.proofs.Written.{none_stored}
use Rattle.ei_pair.proofs.storing.store_server.Goals as goal

pub returns-then-unsent-before-clause-stores : goal.returns-then-unsent-before-clause-stores
returns-then-unsent-before-clause-stores g c = λ ms w.
    let same = ap (λ (e : EndsView g.row.S.Denot). length (stored_by g.S.HasBackend.seen e.server).backend.unsent) (sym c.ends.view_is) ∙ ap (λ (u : Unsent). u.bytes) (sym c.unsent.ensures) ∙ c.if-unsent-before.true in
    ap (λ (l : List Record). let e : EndsView g.row.S.Denot = record c.args.ends.now { server = record c.args.ends.now.server { sent = l } } in e)
    (none_stored true c.args.before ms (stored_by g.S.HasBackend.seen c.args.ends.now.server) c.args.ends.now.server.sent w same)
