-- The device was taken out and removed, or it isn't held.
use Rattle.std.proofs.Common.{sym, ◌∙◌}
use Rattle.ei_emit.proofs.Removing.{bad_removal, removed}
use Rattle.ei_emit.proofs.performing.remove.Goals as goal

pub returns-in_default : goal.returns-in_default
returns-in_default g c = λ seat s stood. bad_removal s c.args.pair.now seat c.args.devices.now.added.items stood c.args.number cc

pub returns : goal.returns
returns g c = λ seat s stood.
    removed s c.args.pair.now seat c.args.devices.now.added.items stood c.args.number c.in-Some.device c.tell.new.pair c.in_ok-tell.field-0 c.take.new.self.added.items
    (sym c.take.ensures.taken ∙ c.in-Some.is) c.take.ensures.left c.keep.ensures
    c.in_ok-tell.ensures
