-- A step of a side: as the parts make it.
use Rattle.std.proofs.Common.{◌≡◌, false, sym, ap, subst, ◌∙◌}
use Rattle.ei_promises.specs.Pair.{PairView}
use Rattle.ei_linked.specs.declared.side.Side.{Side}
use Rattle.ei_linked.specs.declared.side.Side.TheVariants as of_side
use Rattle.ei_promises.specs.Stepping.{StepsServer, StepsClient}
use Rattle.ei_promises.specs.Promises.{ShakesFreely, RefusesNone, TakesAll}
use Rattle.ei_pair.specs.Parts.{pair_in}
use Rattle.ei_pair.specs.Spent.{SpendsAtStep}
use Rattle.ei_pair.proofs.MovedOn.{not_server, not_client}
use Rattle.ei_pair.specs.Done.{HasFirstIds}
use Rattle.ei_pair.proofs.Consistent.{server_tells, server_begins, client_tells}
use Rattle.ei_pair.proofs.pair.Pair.step.Goals as goal

pub step_client-requires : goal.step_client-requires
step_client-requires g c = record { sound = c.self.invariant.sound; whole = ap (λ (p : PairView g.row.H.Denot). p.ends.spent) c.self.view_is ∙ c.requires.whole }

pub invariant_of-self : goal.invariant_of-self
invariant_of-self g c = record { sound = c.step_client.ensures.sound; tells = client_tells c.self.inside.parts c.self.invariant (ap (λ (p : PairView g.row.H.Denot). p.ends.spent) c.self.view_is ∙ c.requires.whole) (pair_in c.step_client.new.self) (g.C.Clock.view c.args.clock.now).left (g.C.Clock.view c.step_client.new.clock).left c.step_client.result g.H.Call.may_answer c.by_lists.ensures.client c.step_client.ensures.steps }

pub returns-in-Client-clause-server : goal.returns-in-Client-clause-server
returns-in-Client-clause-server g c = λ side. absurd (not_server c.args.side c.in-Client.is side)

pub returns-in-Client-clause-client : goal.returns-in-Client-clause-client
returns-in-Client-clause-client g c = λ side.
    subst (λ (p : PairView g.row.H.Denot). c.step_client.new.self.ends.spent ≡ false → StepsClient g.H.Call.may_answer p (g.C.Clock.view c.args.clock.now).left (g.C.Clock.view c.step_client.new.clock).left c.step_client.result (pair_in c.step_client.new.self)) c.self.view_is c.step_client.ensures.steps

pub returns-in-Client-clause-spent : goal.returns-in-Client-clause-spent
returns-in-Client-clause-spent g c = λ spent. (
  c.step_client.ensures.memory spent,
  subst (λ (s : Side). SpendsAtStep s c.args.self.now (pair_in c.step_client.new.self)) (sym c.in-Client.is) (subst (λ (p : PairView g.row.H.Denot). SpendsAtStep of_side.Client p (pair_in c.step_client.new.self)) c.self.view_is (c.step_client.ensures.spent spent)),
)

pub returns-in-Client-clause-freely : goal.returns-in-Client-clause-freely
returns-in-Client-clause-freely g c = subst (λ (s : Side). ShakesFreely s c.args.self.now c.step_client.result) (sym c.in-Client.is) (subst (λ (p : PairView g.row.H.Denot). ShakesFreely of_side.Client p c.step_client.result) c.self.view_is c.step_client.ensures.freely)

pub returns-in-Client-clause-refuses_none : goal.returns-in-Client-clause-refuses_none
returns-in-Client-clause-refuses_none g c = λ side. subst (λ (p : PairView g.row.H.Denot). RefusesNone p c.step_client.result) c.self.view_is c.step_client.ensures.refuses_none

pub returns-in-Client-clause-all : goal.returns-in-Client-clause-all
returns-in-Client-clause-all g c = subst (λ (s : Side). TakesAll s c.args.self.now c.step_client.result) (sym c.in-Client.is) (subst (λ (p : PairView g.row.H.Denot). TakesAll of_side.Client p c.step_client.result) c.self.view_is c.step_client.ensures.all)

pub step_server-requires : goal.step_server-requires
step_server-requires g c = record { sound = c.self.invariant.sound; whole = ap (λ (p : PairView g.row.H.Denot). p.ends.spent) c.self.view_is ∙ c.requires.whole }

pub invariant_of-self-in-Server : goal.invariant_of-self-in-Server
invariant_of-self-in-Server g c = record { sound = c.step_server.ensures.sound; tells = server_tells c.self.inside.parts c.self.invariant (ap (λ (p : PairView g.row.H.Denot). p.ends.spent) c.self.view_is ∙ c.requires.whole) (pair_in c.step_server.new.self) (g.C.Clock.view c.args.clock.now).left (g.C.Clock.view c.step_server.new.clock).left c.step_server.result c.by_lists.ensures.server c.step_server.ensures.steps }

pub returns-in-Server-clause-server : goal.returns-in-Server-clause-server
returns-in-Server-clause-server g c = λ side.
    subst (λ (p : PairView g.row.H.Denot). c.step_server.new.self.ends.spent ≡ false → StepsServer p (g.C.Clock.view c.args.clock.now).left (g.C.Clock.view c.step_server.new.clock).left c.step_server.result (pair_in c.step_server.new.self)) c.self.view_is c.step_server.ensures.steps

pub returns-in-Server-clause-client : goal.returns-in-Server-clause-client
returns-in-Server-clause-client g c = λ side. absurd (not_client c.args.side c.in-Server.is side)

pub returns-in-Server-clause-spent : goal.returns-in-Server-clause-spent
returns-in-Server-clause-spent g c = λ spent. (
  c.step_server.ensures.memory spent,
  subst (λ (s : Side). SpendsAtStep s c.args.self.now (pair_in c.step_server.new.self)) (sym c.in-Server.is) (subst (λ (p : PairView g.row.H.Denot). SpendsAtStep of_side.Server p (pair_in c.step_server.new.self)) c.self.view_is (c.step_server.ensures.spent spent)),
)

pub returns-in-Server-clause-freely : goal.returns-in-Server-clause-freely
returns-in-Server-clause-freely g c = subst (λ (s : Side). ShakesFreely s c.args.self.now c.step_server.result) (sym c.in-Server.is) (subst (λ (p : PairView g.row.H.Denot). ShakesFreely of_side.Server p c.step_server.result) c.self.view_is c.step_server.ensures.freely)

pub returns-in-Server-clause-refuses_none : goal.returns-in-Server-clause-refuses_none
returns-in-Server-clause-refuses_none g c = λ side. absurd (not_client c.args.side c.in-Server.is side)

pub returns-in-Server-clause-all : goal.returns-in-Server-clause-all
returns-in-Server-clause-all g c = subst (λ (s : Side). TakesAll s c.args.self.now c.step_server.result) (sym c.in-Server.is) (subst (λ (p : PairView g.row.H.Denot). TakesAll of_side.Server p c.step_server.result) c.self.view_is c.step_server.ensures.all)

pub returns-in-Client-clause-begins : goal.returns-in-Client-clause-begins
returns-in-Client-clause-begins g c = λ side. absurd (not_server c.args.side c.in-Client.is side)

pub returns-in-Server-clause-begins : goal.returns-in-Server-clause-begins
returns-in-Server-clause-begins g c = λ side.
    subst (λ (p : PairView g.row.H.Denot). c.step_server.new.self.ends.spent ≡ false → HasFirstIds p (pair_in c.step_server.new.self)) c.self.view_is
    (server_begins c.self.inside.parts c.self.invariant (ap (λ (p : PairView g.row.H.Denot). p.ends.spent) c.self.view_is ∙ c.requires.whole) (pair_in c.step_server.new.self) (g.C.Clock.view c.args.clock.now).left (g.C.Clock.view c.step_server.new.clock).left c.step_server.result c.by_lists.ensures.server c.step_server.ensures.steps)
