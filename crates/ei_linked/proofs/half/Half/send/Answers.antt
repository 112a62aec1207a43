use Rattle.ei_linked.specs.Held.{stored_by}
use Rattle.ei_linked.specs.Stored.{having_sent}
use Rattle.ei_linked.proofs.Holding.{stored_is, keeps_with, keeps_same}
use Rattle.ei_linked.proofs.Sending.{plain, plain_ok, plain_err, announced, new_ok, new_err}
use Rattle.std.proofs.Common.{ap}
use Rattle.ei_linked.proofs.half.Half.send.Goals as goal

pub returns-in-Ok-clause-sends : goal.returns-in-Ok-clause-sends
returns-in-Ok-clause-sends g c =
    let seen = g.C.HasBackend.seen in
    let old = stored_by seen c.args.self.now in
    let new = stored_by seen c.call.new.self in
    let is = stored_is seen g.C.HasBackend.with_backend g.met.C.HasBackend.seen_with c.args.self.now c.call.new.self (having_sent c.args.events c.args.message old) c.in-Ok.ensures.ok in
    plain_ok c.args.events c.args.message old new (plain c.args.events c.args.message c.announces.result c.in-None.is c.announces.ensures) c.in-Ok.ensures.short is

pub returns-in-Ok-clause-keeps : goal.returns-in-Ok-clause-keeps
returns-in-Ok-clause-keeps g c =
    let seen = g.C.HasBackend.seen in
    keeps_with seen g.C.HasBackend.with_backend g.met.C.HasBackend.seen_with c.args.self.now c.call.new.self (having_sent c.args.events c.args.message (stored_by seen c.args.self.now)) c.in-Ok.ensures.ok

pub returns-in-Err-clause-sends : goal.returns-in-Err-clause-sends
returns-in-Err-clause-sends g c =
    let seen = g.C.HasBackend.seen in
    plain_err c.args.events c.args.message (stored_by seen c.args.self.now) (stored_by seen c.call.new.self) c.call.result c.in-Err.error c.in-Err.is (plain c.args.events c.args.message c.announces.result c.in-None.is c.announces.ensures)
    c.call.ensures.long c.call.ensures.not_exhausted (ap (stored_by seen) c.in-Err.ensures.err)

pub returns-in-Err-clause-keeps : goal.returns-in-Err-clause-keeps
returns-in-Err-clause-keeps g c = keeps_same g.C.HasBackend.seen g.C.HasBackend.with_backend g.met.C.HasBackend.with_seen c.args.self.now c.call.new.self c.in-Err.ensures.err

pub returns-in-Ok-call_new-clause-sends : goal.returns-in-Ok-call_new-clause-sends
returns-in-Ok-call_new-clause-sends g c =
    let seen = g.C.HasBackend.seen in
    let x = stored_by seen c.args.self.now in
    let new = announced c.args.events c.args.message x.backend.table.next_own c.announces.result c.in-Some.object c.in-Some-interface.interface c.in-Some.is c.announces.ensures c.requires.next c.in-Some-interface.is in
    let e = c.in-Ok-call_new.ensures in
    let is = stored_is seen g.C.HasBackend.with_backend g.met.C.HasBackend.seen_with c.args.self.now c.call_new.new.self (having_sent c.args.events c.args.message x) e.ok.0 in
    new_ok c.args.events c.args.message x (stored_by seen c.call_new.new.self) c.in-Some-interface.interface c.in-Some.object.version c.in-Ok-call_new.object new e.left e.short is e.ok.1

pub returns-in-Ok-call_new-clause-keeps : goal.returns-in-Ok-call_new-clause-keeps
returns-in-Ok-call_new-clause-keeps g c =
    let seen = g.C.HasBackend.seen in
    keeps_with seen g.C.HasBackend.with_backend g.met.C.HasBackend.seen_with c.args.self.now c.call_new.new.self (having_sent c.args.events c.args.message (stored_by seen c.args.self.now)) c.in-Ok-call_new.ensures.ok.0

pub returns-in-Err-call_new-clause-sends : goal.returns-in-Err-call_new-clause-sends
returns-in-Err-call_new-clause-sends g c =
    let seen = g.C.HasBackend.seen in
    let x = stored_by seen c.args.self.now in
    let new = announced c.args.events c.args.message x.backend.table.next_own c.announces.result c.in-Some.object c.in-Some-interface.interface c.in-Some.is c.announces.ensures c.requires.next c.in-Some-interface.is in
    new_err c.args.events c.args.message x (stored_by seen c.call_new.new.self) c.in-Some-interface.interface c.in-Some.object.version c.call_new.result c.in-Err-call_new.error c.in-Err-call_new.is new
    c.call_new.ensures.long c.call_new.ensures.exhausted (ap (stored_by seen) c.in-Err-call_new.ensures.err)

pub returns-in-Err-call_new-clause-keeps : goal.returns-in-Err-call_new-clause-keeps
returns-in-Err-call_new-clause-keeps g c = keeps_same g.C.HasBackend.seen g.C.HasBackend.with_backend g.met.C.HasBackend.with_seen c.args.self.now c.call_new.new.self c.in-Err-call_new.ensures.err
