use Rattle.std.proofs.Common.{sym, ap, ◌∙◌}
use Rattle.ei_pair.specs.Parts.{PartsView, pair_in}
use Rattle.ei_pair.proofs.Meeting.{steady_then, steady_else, steady_unserved}
use Rattle.ei_pair.proofs.parts.Parts.is_steady.Goals as goal

pub returns-then-self : goal.returns-then-self
returns-then-self g c = steady_then c.args.self.now.steady c.args.call.now (pair_in c.args.self.now).server c.in-Some.conn.now c.is_steady.result (ap (λ (p : PartsView g.row.H.Denot). p.steady) (sym c.self.view_is) ∙ c.if-self.true) c.in-Some.ensures c.is_steady.ensures

pub returns-else-self : goal.returns-else-self
returns-else-self g c = c.if-self.false ∙ steady_else c.args.self.now.steady c.args.call.now (pair_in c.args.self.now).server c.in-Some.conn.now (ap (λ (p : PartsView g.row.H.Denot). p.steady) (sym c.self.view_is) ∙ c.if-self.false) c.in-Some.ensures

pub returns-in-None : goal.returns-in-None
returns-in-None g c = ap (λ (p : PartsView g.row.H.Denot). p.steady) c.self.view_is ∙ steady_unserved c.args.self.now.steady c.args.call.now (pair_in c.args.self.now).server c.in-None.ensures
