use Rattle.std.proofs.Common.{◌≤◌, length, sym, ◌∙◌}
use Rattle.ei_values.proofs.OneByOne.{no_id}
use Rattle.ei_values.proofs.announced.new_id.Goals as goal

pub returns-in_default : goal.returns-in_default
returns-in_default c =
    let past : length c.args.values.now ≤ c.loop-place.place = c.in_default.ensures.lookup.3 in
    sym (c.loop-place.invariant ∙ no_id c.args.kinds.now c.args.values.now c.loop-place.place past)
