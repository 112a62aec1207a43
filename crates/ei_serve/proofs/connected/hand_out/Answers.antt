use Rattle.std.proofs.Common.{◌<◌, length, sym, ap, ◌∙◌, arith}
use Rattle.ei_serve.specs.Policy.{policy_behind}
use Rattle.ei_serve.proofs.Following.{behind_others}
use Rattle.ei_serve.proofs.connected.hand_out.Goals as goal

pub returns-clause-nothing : goal.returns-clause-nothing
returns-clause-nothing c =
    let some : 0 < length c.args.converter.now.queue = omega (arith, c.queued_len.ensures, c.if-queued_len-eq0.false) in
    λ e. sym (ap policy_behind (c.deref.ensures.value ∙ c.in_ok-drain_into.ensures.out) ∙ behind_others c.args.out.now.items c.args.converter.now.queue some) ∙ c.may_follow_any.ensures e

pub returns-clause-last : goal.returns-clause-last
returns-clause-last c =
    let some : 0 < length c.args.converter.now.queue = omega (arith, c.queued_len.ensures, c.if-queued_len-eq0.false) in
    λ e. ap policy_behind c.in_ok-drain_into.ensures.out ∙ behind_others c.args.out.now.items c.args.converter.now.queue some
