-- A call of the client, once its handshake is done: as the parts make it.
use Rattle.std.proofs.Common.{◌≡◌, false, sym, ap, subst, ◌∙◌}
use Rattle.ei_promises.specs.Pair.{PairView}
use Rattle.ei_promises.specs.Pair.{client_done}
use Rattle.ei_pair.specs.Parts.{pair_in}
use Rattle.ei_pair.specs.Spent.{SpendsAtCall}
use Rattle.ei_pair.specs.Asked.{MeetsClient, AsksAt, RefusesSync}
use Rattle.ei_pair.proofs.pair.Pair.client_do.Goals as goal

pub client_do-requires : goal.client_do-requires
client_do-requires g c = record {
  sound = c.self.invariant.sound;
  whole = ap (λ (p : PairView g.row.H.Denot). p.ends.spent) c.self.view_is ∙ c.requires.whole;
  done = ap (λ (p : PairView g.row.H.Denot). client_done p.client) c.self.view_is ∙ c.requires.done;
  may = subst (λ (p : PairView g.row.H.Denot). MeetsClient c.args.call p.ends) (sym c.self.view_is) c.requires.may;
}

pub invariant_of-self : goal.invariant_of-self
invariant_of-self g c = record { sound = c.client_do.ensures.sound; tells = λ now. c.calls_by_lists.ensures.asks (pair_in c.self.inside.parts) (pair_in c.client_do.new.self) c.args.call c.client_do.result (c.client_do.ensures.does now) (c.self.invariant.tells (ap (λ (p : PairView g.row.H.Denot). p.ends.spent) c.self.view_is ∙ c.requires.whole)) }

pub returns-clause-does : goal.returns-clause-does
returns-clause-does g c = subst (λ (p : PairView g.row.H.Denot). c.client_do.new.self.ends.spent ≡ false → AsksAt p.client c.args.call p c.client_do.result (pair_in c.client_do.new.self)) c.self.view_is c.client_do.ensures.does

pub returns-clause-refuses : goal.returns-clause-refuses
returns-clause-refuses g c = subst (λ (p : PairView g.row.H.Denot). RefusesSync c.args.call c.client_do.result p.ends.client.backend.table) c.self.view_is c.client_do.ensures.refuses

pub returns-clause-memory : goal.returns-clause-memory
returns-clause-memory g c = c.client_do.ensures.memory

pub returns-clause-spent : goal.returns-clause-spent
returns-clause-spent g c = λ spent. subst (λ (p : PairView g.row.H.Denot). SpendsAtCall p (pair_in c.client_do.new.self)) c.self.view_is (c.client_do.ensures.spent spent)
