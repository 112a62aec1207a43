use Rattle.reis_eis.proofs.Noting.{unnoted}
use Rattle.reis_eis.proofs.keyed.KeyedConverter.note.Goals as goal

pub returns-then-is_err-clause-obeys : goal.returns-then-is_err-clause-obeys
returns-then-is_err-clause-obeys c = unnoted c.args.self.now c.args.request c.args.notice c.requires.tells
