use Rattle.std.proofs.Common.{Some, Ok, Err, sym, subst}
use Rattle.ei_pair.specs.declared.client_call.ClientCall.{ClientCall}
use Rattle.ei_pair.specs.Parts.{pair_in}
use Rattle.ei_pair.specs.Asked.{MeetsClient, AsksCall}
use Rattle.ei_pair.proofs.Asking.{asks}
use Rattle.ei_pair.proofs.Syncing.{sync_asks, sync_not}
use Rattle.ei_pair.proofs.parts.Parts.client_do.Goals as goal

pub ask-requires-clause-may : goal.ask-requires-clause-may
ask-requires-clause-may g c = subst (λ (k : ClientCall g.row.H.Denot). MeetsClient k (pair_in c.args.self.now).ends) c.in-Call.is c.requires.may

pub returns-in-Call : goal.returns-in-Call
returns-in-Call g c = subst (λ (k : ClientCall g.row.H.Denot). AsksCall k c.args.self.now c.ask.result c.ask.new.self) (sym c.in-Call.is) (asks c.args.self.now c.ask.new.self c.in-Call.target c.in-Call.opcode c.in-Call.values c.ask.result c.requires.done c.ask.ensures)

pub returns-in-Ok : goal.returns-in-Ok
returns-in-Ok g c = subst (λ (k : ClientCall g.row.H.Denot). AsksCall k c.args.self.now (Ok (Some c.in-Ok.object)) c.sync_with.new.self) (sym c.in-SyncWith.is) (sync_asks c.args.self.now c.sync_with.new.self c.in-SyncWith.handler c.in-Ok.object c.in-Ok.ensures)

pub returns-in-Err : goal.returns-in-Err
returns-in-Err g c = subst (λ (k : ClientCall g.row.H.Denot). AsksCall k c.args.self.now (Err c.in-Err.error) c.sync_with.new.self) (sym c.in-SyncWith.is) (sync_not c.args.self.now c.sync_with.new.self c.in-SyncWith.handler c.in-Err.error c.in-Err.ensures)
