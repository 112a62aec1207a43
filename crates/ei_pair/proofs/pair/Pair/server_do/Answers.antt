-- A call of the server, once its handshake is done: as the parts make it.
use Rattle.std.proofs.Common.{◌≡◌, false, sym, ap, subst, ◌∙◌}
use Rattle.std.specs.Prelude.{OnOk}
use Rattle.ei_promises.specs.Pair.{PairView}
use Rattle.ei_wire.specs.declared.error.SendError.TheVariants as send_error
use Rattle.ei_promises.specs.Calling.{DoesAt}
use Rattle.ei_pair.specs.Parts.{pair_in}
use Rattle.ei_pair.specs.Spent.{SpendsAtCall}
use Rattle.ei_pair.specs.Calls.{MeetsAt, SendsAt, ComesExactly, LacksIdsAt, IsLongAt}
use Rattle.ei_pair.proofs.Meeting.{meets_at}
use Rattle.ei_pair.proofs.pair.Pair.server_do.Goals as goal

pub server_do-requires : goal.server_do-requires
server_do-requires g c = record {
  sound = c.self.invariant.sound;
  whole = ap (λ (p : PairView g.row.H.Denot). p.ends.spent) c.self.view_is ∙ c.requires.whole;
  may = subst (λ (p : PairView g.row.H.Denot). MeetsAt c.args.call p.ends p.server) (sym c.self.view_is) (meets_at c.args.call c.args.self.now.ends c.args.self.now.server c.requires.done c.requires.may);
}

pub invariant_of-self : goal.invariant_of-self
invariant_of-self g c = record { sound = c.server_do.ensures.sound; tells = λ now. c.calls_by_lists.ensures.does (pair_in c.self.inside.parts) (pair_in c.server_do.new.self) c.args.call c.server_do.result (c.server_do.ensures.does now) (c.self.invariant.tells (ap (λ (p : PairView g.row.H.Denot). p.ends.spent) c.self.view_is ∙ c.requires.whole)) }

pub returns-clause-does : goal.returns-clause-does
returns-clause-does g c = subst (λ (p : PairView g.row.H.Denot). c.server_do.new.self.ends.spent ≡ false → DoesAt p.server c.args.call p c.server_do.result (pair_in c.server_do.new.self)) c.self.view_is c.server_do.ensures.does

pub returns-clause-sends : goal.returns-clause-sends
returns-clause-sends g c = subst (λ (p : PairView g.row.H.Denot). OnOk c.server_do.result (SendsAt p.server c.args.call p (pair_in c.server_do.new.self))) c.self.view_is c.server_do.ensures.sends

pub returns-clause-exhausted : goal.returns-clause-exhausted
returns-clause-exhausted g c = subst (λ (p : PairView g.row.H.Denot). ComesExactly c.args.call c.server_do.result send_error.IdsExhausted (LacksIdsAt p.server c.args.call)) c.self.view_is c.server_do.ensures.exhausted

pub returns-clause-long : goal.returns-clause-long
returns-clause-long g c = subst (λ (p : PairView g.row.H.Denot). ComesExactly c.args.call c.server_do.result send_error.MessageTooLong (IsLongAt p.server c.args.call)) c.self.view_is c.server_do.ensures.long

pub returns-clause-memory : goal.returns-clause-memory
returns-clause-memory g c = c.server_do.ensures.memory

pub returns-clause-spent : goal.returns-clause-spent
returns-clause-spent g c = λ spent. subst (λ (p : PairView g.row.H.Denot). SpendsAtCall p (pair_in c.server_do.new.self)) c.self.view_is (c.server_do.ensures.spent spent)
