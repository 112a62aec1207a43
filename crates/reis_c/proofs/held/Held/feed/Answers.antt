use Rattle.std.proofs.Common.{refl, arith}
use Rattle.std.proofs.lemmas.Grind.{common_steps}
use Rattle.reis_c.proofs.Working.{feeds, lent_front}
use Rattle.reis_c.proofs.held.Held.feed.Goals as goal

pub returns : goal.returns
returns c =
    feeds c.args.self.now.server c.feed.new.self c.args.self.now.last c.args.bytes.now c.args.handles.now _ c.args.time
    (lent_front c.args.handles.now _ c.copy_handles-count.new.room _ c.copy_handles-count.result refl c.copy_handles-count.ensures.count
    c.copy_handles-count.ensures.copied (grind (arith, common_steps)))
    c.feed.result c.answer_number.result c.answer_number.ensures c.feed.ensures.answer c.feed.ensures.kept c.feed.ensures.serves c.feed.ensures.no_end
