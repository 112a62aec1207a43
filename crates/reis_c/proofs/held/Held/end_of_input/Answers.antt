use Rattle.reis_c.proofs.Working.{takes_end}
use Rattle.reis_c.proofs.held.Held.end_of_input.Goals as goal

pub returns : goal.returns
returns c =
    takes_end c.args.self.now.server c.end_of_input.new.self c.args.self.now.last c.end_of_input.result c.answer_number.result c.answer_number.ensures
    c.end_of_input.ensures.answer c.end_of_input.ensures.kept c.end_of_input.ensures.serves c.end_of_input.ensures.ends
