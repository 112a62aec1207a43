use Rattle.reis_c.proofs.Working.{sends}
use Rattle.reis_c.proofs.held.Held.sent.Goals as goal

pub returns : goal.returns
returns c =
    sends c.args.self.now.server c.sent.new.self c.args.self.now.last c.args.bytes c.args.handles c.sent.result c.answer_number.result c.answer_number.ensures
    c.sent.ensures.answer c.sent.ensures.kept c.sent.ensures.dropped c.sent.ensures.serves
