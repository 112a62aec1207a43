use Rattle.std.proofs.Common.{sym, ap, ◌∙◌}
use Rattle.std.specs.Option.{option_copied}
use Rattle.ei_serve.proofs.Following.{behind_place, none_behind}
use Rattle.ei_serve.proofs.policy.may_follow_any.Goals as goal

pub returns-in-Some : goal.returns-in-Some
returns-in-Some c = λ e. sym (behind_place c.args.requests.now c.in-Some.last.now (sym c.last.ensures.value ∙ ap option_copied c.in-Some.is)) ∙ c.may_follow.ensures e

pub returns-in-None : goal.returns-in-None
returns-in-None c = λ e. sym (none_behind c.args.requests.now (sym c.last.ensures.value ∙ ap option_copied c.in-None.is))
