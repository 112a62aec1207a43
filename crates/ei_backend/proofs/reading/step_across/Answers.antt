use Rattle.ei_backend.proofs.Behind.{stands_copied}
use Rattle.ei_backend.proofs.reading.step_across.Goals as goal

pub returns-else-is_across-clause-steps : goal.returns-else-is_across-clause-steps
returns-else-is_across-clause-steps g c =
    c.step_apart-else-is_across.ensures.steps c.args.bytes.now.items
    (stands_copied c.gather-count.result c.gather-count.new.scratch c.args.bytes.now.items c.front_of-front.result c.len.result c.is_across.result
    c.gather-count.ensures.copied c.front_of-front.ensures.value c.front_of-front.ensures.lawful c.len.ensures.len c.is_across.ensures c.if-is_across.false)
