-- Opens the definitions, to compute with them.
use Rattle.ei_spec.specs.History.{last_said, lasts, occurs, total, joined, each, since}
use Rattle.ei_spec.specs.Interface.{known_of}
use Rattle.ei_spec.specs.Groups.{closes, input_of, group, timed, makes_frame, frames_made, with_frame, gives, grouped}
use Rattle.ei_reported.specs.Said.{said}
use Rattle.ei_reported.specs.Standing.{seat_pending, adds_seat, seat_added, announces, device_comes, seat_of, device_pending, device_typed}
use Rattle.ei_reported.specs.Standing.{completes, device_added, offers, takes, is_held, interface, holder, is_in_setup}
use Rattle.ei_reported.specs.Reported.{item, serial, slot, tells, reported}

unfoldable pub all_open : Unit {0}
unfolding known_of last_said occurs total joined each since closes input_of group timed makes_frame frames_made with_frame gives grouped said lasts seat_pending adds_seat seat_added announces device_comes seat_of device_pending device_typed completes device_added offers takes is_held interface holder is_in_setup item serial slot tells reported
all_open = tt
