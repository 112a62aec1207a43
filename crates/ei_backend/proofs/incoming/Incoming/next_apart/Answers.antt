use Rattle.std.proofs.Common.{◌∙◌}
use Rattle.ei_backend.proofs.Behind.{taken_next}
use Rattle.ei_backend.proofs.incoming.Incoming.next_apart.Goals as goal

pub returns : goal.returns
returns g c =
    rw (c.drop_front.ensures, c.drop_handles.ensures)
    (taken_next g.T.MessageEnum.target g.T.MessageEnum.code g.T.MessageEnum.values g.T.MessageEnum.announced g.T.MessageEnum.events c.args.self.now _ c.args.table.now c.step-answer.new.table c.step-answer.new.step c.step-answer.result (c.self.view_is ∙ c.step-answer.ensures.kept) c.step-answer.ensures.within c.step-answer.ensures.steps)
