-- A seat that is held and gives a keyboard gives it to the device.
use Rattle.std.proofs.Common.{sym}
use Rattle.std.specs.Prelude.{find}
use Rattle.ei_request.specs.Held.{is_seat}
use Rattle.test_pair.proofs.Granted.{keyboard_by}
use Rattle.test_pair.proofs.may.may_describe.Goals as goal

pub returns-else-is_empty-clause-keyboard : goal.returns-else-is_empty-clause-keyboard
returns-else-is_empty-clause-keyboard c = λ t. λ n.
    keyboard_by (find (is_seat c.args.seat.now.id) c.args.conn.now.seats) c.in-Some.given c.args.wanted (sym c.in-Some.ensures) (c.gives_keyboard.ensures t)
