use Rattle.std.proofs.Common.{refl, arith}
use Rattle.std.proofs.lemmas.Grind.{common_steps}
use Rattle.reis_c.proofs.Obliging.{fed}
use Rattle.reis_c.proofs.Working.{lent_front}
use Rattle.reis_c.proofs.connection.HeldConnection.feed.Goals as goal

pub returns : goal.returns
returns c =
    fed c.args.self.now.connection c.feed.new.self c.args.self.now.handed c.args.self.now.policy c.args.bytes.now c.args.handles.now _ c.args.time
    (lent_front c.args.handles.now _ c.copy_handles-count.new.room _ c.copy_handles-count.result refl c.copy_handles-count.ensures.count
    c.copy_handles-count.ensures.copied (grind (arith, common_steps)))
    c.feed.result c.outcome_number.result c.outcome_number.ensures c.feed.ensures.answer c.feed.ensures.kept c.feed.ensures.feeds
