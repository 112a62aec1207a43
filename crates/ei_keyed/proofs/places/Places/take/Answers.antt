use Rattle.std.proofs.Common.{sym, ◌∙◌}
use Rattle.ei_keyed.proofs.Live.{unfound, without_none}
use Rattle.ei_keyed.proofs.places.Places.take.Goals as goal

pub returns-in_err-at-clause-value : goal.returns-in_err-at-clause-value
returns-in_err-at-clause-value g c = c.from_residual.ensures ∙ rw (← c.self.view_is) (sym (unfound c.args.key c.self.inside.all.items (sym (rw c.deref.ensures.value at c.find.ensures) ∙ c.in_err-at.was)))

pub returns-in_err-at-clause-items : goal.returns-in_err-at-clause-items
returns-in_err-at-clause-items g c = rw (← c.self.view_is) (sym (without_none c.args.key _ (unfound c.args.key c.self.inside.all.items (sym (rw c.deref.ensures.value at c.find.ensures) ∙ c.in_err-at.was))))
