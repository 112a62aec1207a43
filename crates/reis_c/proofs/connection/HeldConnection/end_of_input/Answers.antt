use Rattle.reis_c.proofs.Obliging.{no_more}
use Rattle.reis_c.proofs.connection.HeldConnection.end_of_input.Goals as goal

pub returns : goal.returns
returns c =
    no_more c.args.self.now.connection c.end_of_input.new.self c.args.self.now.handed c.args.self.now.policy c.end_of_input.result c.outcome_number.result c.outcome_number.ensures
    c.end_of_input.ensures.answer c.end_of_input.ensures.kept c.end_of_input.ensures.ends
