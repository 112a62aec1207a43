use Rattle.std.proofs.Common.{ap, ◌∙◌}
use Rattle.std.specs.FinSet.{insert, remove}
use Rattle.reis_strict.proofs.Sets.{inserted, removed}
use Rattle.reis_strict.proofs.codes.Codes.turn.Goals as goal

pub returns-in_ok-insert-clause-ok : goal.returns-in_ok-insert-clause-ok
returns-in_ok-insert-clause-ok c =
    rw c.if-down.true (inserted c.self.inside.codes.keys c.insert.new.self.keys c.args.code c.in_ok-insert.ensures.updates.0 ∙ ap (λ (s : _). insert s c.args.code) c.self.view_is)

pub returns-else-down-clause-ok : goal.returns-else-down-clause-ok
returns-else-down-clause-ok c =
    rw c.if-down.false (removed c.self.inside.codes.keys c.remove.new.self.keys c.args.code c.remove.ensures.updates.0 ∙ ap (λ (s : _). remove s c.args.code) c.self.view_is)
