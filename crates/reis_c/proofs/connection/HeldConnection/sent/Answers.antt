use Rattle.reis_c.proofs.Obliging.{sent_bytes}
use Rattle.reis_c.proofs.connection.HeldConnection.sent.Goals as goal

pub returns : goal.returns
returns c =
    sent_bytes c.args.bytes c.args.self.now.connection c.sent.new.self c.args.self.now.handed c.args.self.now.policy c.sent.result c.outcome_number.result c.outcome_number.ensures
    c.sent.ensures.answer c.sent.ensures.kept c.sent.ensures.dropped
