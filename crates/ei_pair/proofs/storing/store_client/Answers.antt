use Rattle.std.proofs.Common.{false, List, length, ap, sym, ◌∙◌}
use Rattle.ei_linked.specs.declared.written.Unsent.{Unsent}
use Rattle.ei_linked.specs.declared.record.Record.{Record}
use Rattle.ei_linked.specs.Held.{stored_by}
use Rattle.ei_linked.specs.Ends.{EndsView}
use Rattle.ei_pair.proofs.Written.{none_stored}
use Rattle.ei_pair.proofs.storing.store_client.Goals as goal

pub returns-then-unsent-before-clause-stores : goal.returns-then-unsent-before-clause-stores
returns-then-unsent-before-clause-stores g c = λ ms w.
    let same = ap (λ (e : EndsView g.row.S.Denot). length e.client.context.unsent) (sym c.ends.view_is) ∙ ap (λ (u : Unsent). u.bytes) (sym c.unsent.ensures) ∙ c.if-unsent-before.true in
    ap (λ (l : List Record). let e : EndsView g.row.S.Denot = record c.args.ends.now { client = record c.args.ends.now.client { sent = l } } in e)
    (none_stored false c.args.before ms (stored_by (λ b. b) c.args.ends.now.client) c.args.ends.now.client.sent w same)
