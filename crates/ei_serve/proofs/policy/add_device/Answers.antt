use Rattle.std.proofs.Common.{◌≡◌, true, sym, subst}
use Rattle.ei_request.specs.Keys.{DeviceKey}
use Rattle.ei_request.specs.Connection.{holds_device}
use Rattle.ei_standing.proofs.BoundDevices.{added_held}
use Rattle.ei_serve.proofs.Following.{adds_resumed}
use Rattle.ei_serve.proofs.policy.add_device.Goals as goal

pub resumed-requires : goal.resumed-requires
resumed-requires c = record {
  held = subst (λ (d : DeviceKey). holds_device c.add_device.new.conn d ≡ true) (sym c.in_ok-device.ensures.device) (added_held _ _ _ _ _ _ _ c.in_ok-device.ensures.ok);
}

pub returns-clause-ok : goal.returns-clause-ok
returns-clause-ok c = adds_resumed c.resumed.result _ _ _ _ _ _ (rw (← c.has_seat.ensures) c.if-not-has_seat.false) c.in_ok-device.ensures.ok c.in_ok-device.ensures.device c.resumed.ensures.sends.ok
