use Rattle.ei_backend.proofs.Behind.{stands_first}
use Rattle.ei_backend.proofs.front.front_in_place.Goals as goal

pub returns-else-is_across-clause-value : goal.returns-else-is_across-clause-value
returns-else-is_across-clause-value c =
    stands_first c.as_slices.result.0.now c.as_slices.result.1.now c.args.bytes.now.items c.front_of-front.result c.len.result c.is_across.result
    c.as_slices.ensures c.front_of-front.ensures.value c.front_of-front.ensures.lawful c.len.ensures.len c.is_across.ensures c.if-is_across.false
