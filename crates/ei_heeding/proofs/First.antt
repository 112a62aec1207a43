-- What a new converter keeps, as the definitions see it.
use Rattle.std.proofs.Common.{◌≡◌, [], sym, subst, Option}
use Rattle.std.specs.Prelude.{IfSome}
use Rattle.std.specs.Option.{option_map}
use Rattle.std.specs.Ordering.{nat_cmp}
use Rattle.std.specs.FinMap.{get-empty}
use Rattle.ei_following.specs.Core.{new_core}
use Rattle.ei_event.specs.Connection.{ConnectionView}
use Rattle.ei_event.specs.Kept.{DeviceView, new_kept}
use Rattle.ei_event.specs.Core.{seat_core, device_core, offer_of, core_of}
use Rattle.ei_heeding.specs.Placed.{IsPlaced}

pub new_is : (c : ConnectionView) → core_of (new_kept c) ≡ new_core c.serial
new_is c = λ i. record {
  seats = λ q. option_map seat_core (get-empty nat_cmp q i);
  devices = λ q. option_map device_core (get-empty nat_cmp q i);
  interfaces = λ q. option_map offer_of (get-empty nat_cmp q i);
  serial = c.serial;
  queue = [];
}

pub new_placed : (c : ConnectionView) → IsPlaced (new_kept c)
new_placed c = λ q. subst (λ (o : Option DeviceView). IfSome o (λ d. d.device.proxy.id ≡ q)) (sym (get-empty nat_cmp q)) tt
