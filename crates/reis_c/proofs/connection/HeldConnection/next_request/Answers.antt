use Rattle.std.proofs.Common.{sym, ◌∙◌}
use Rattle.reis_c.proofs.Handing.{handed_connected, handed_by}
use Rattle.reis_c.proofs.connection.HeldConnection.next_request.Goals as goal

pub returns-then-is_untold-clause-hands : goal.returns-then-is_untold-clause-hands
returns-then-is_untold-clause-hands c =
    rw c.forget.ensures (handed_connected c.args.self.now.connection c.args.self.now.handed c.args.request.now c.args.self.now.policy
    c.of_connected.result (sym c.is_untold.ensures ∙ c.if-is_untold.true) c.of_connected.ensures)

pub returns-clause-hands : goal.returns-clause-hands
returns-clause-hands c =
    handed_by c.args.self.now.connection c.args.self.now.handed c.args.request.now c.args.self.now.policy c.next_by_policy.result
    c.next_by_policy.new.request c.next_by_policy.new.self (sym c.is_untold.ensures ∙ c.if-is_untold.false) c.next_by_policy.ensures.hands
