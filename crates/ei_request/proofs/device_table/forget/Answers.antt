use Rattle.std.proofs.Common.{sym}
use Rattle.ei_request.proofs.device_table.forget.Goals as goal

pub returns-in-Some : goal.returns-in-Some
returns-in-Some c = λ e. (c.in-Some.device.now, sym c.in-Some.ensures, c.forget_ids.ensures e)
