use Rattle.std.proofs.Common.{sym}
use Rattle.ei_event.proofs.Likeliness.{heard_likely}
use Rattle.ei_event.proofs.kept.Kept.hear_likely.Goals as goal

pub returns : goal.returns
returns c = rw (← c.self.view_is) (heard_likely _ c.args.id c.in-Some.device c.args.input c.in-Some-added_mut.device.now c.hear_within.new.self c.hear_within.result
    c.in-Some.ensures (sym c.in-Some-added_mut.ensures.value) c.hear_within.ensures.ok c.hear_within.ensures.not)
