use Rattle.std.proofs.Common.{◌++◌, subst, sym}
use Rattle.std.specs.Option.{option_to_list}
use Rattle.reis_server.specs.View.{ServerView}
use Rattle.reis_server.specs.Serving.{IsServing}
use Rattle.reis_server.proofs.Handing.{next_is, next_taken}
use Rattle.reis_server.proofs.server.Server.next_request.Goals as goal

pub invariant_of-self : goal.invariant_of-self
invariant_of-self c =
    let h = c.self.invariant in
    record {
      setup = h.setup;
      fed = h.fed;
      sent = h.sent;
      given = h.given ++ option_to_list c.take_first.result;
      serving = next_taken h.setup h.fed h.sent h.given _ c.take_first.result _ (next_is _ _ _ c.take_first.ensures.first c.take_first.ensures.rest) h.serving;
    }

pub returns-clause-next : goal.returns-clause-next
returns-clause-next c = rw (← c.self.view_is) (next_is _ _ _ c.take_first.ensures.first c.take_first.ensures.rest)

pub returns-clause-serves : goal.returns-clause-serves
returns-clause-serves c = λ setup fed sent given h.
    next_taken setup fed sent given _ c.take_first.result _ (next_is _ _ _ c.take_first.ensures.first c.take_first.ensures.rest)
    (subst (λ (v : ServerView). IsServing setup fed sent given v) (sym c.self.view_is) h)
