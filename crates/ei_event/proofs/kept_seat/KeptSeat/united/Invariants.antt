use Rattle.std.proofs.Common.{◌≡◌, drop}
use Rattle.ei_event.specs.Items.{united, mask_for}
use Rattle.ei_event.proofs.kept_seat.KeptSeat.united.Given as goal

-- the masks so far with those of what is left are those of all
abbrev pub invariant-loop-capability : goal.invariant-loop-capability
invariant-loop-capability l =
    united (mask_for l.capabilities l.self.masks) l.mask (drop l.capability-index l.among) ≡ united (mask_for l.capabilities l.self.masks) 0 l.among
