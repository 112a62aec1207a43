use Rattle.std.proofs.Common.{Option, Some, None, subst}
use Rattle.ei_ends.specs.Announced.{if_named}
use Rattle.ei_ends.specs.Sent.{new_of}
use Rattle.ei_linked.specs.declared.record.Record.{Record}
use Rattle.ei_linked.specs.declared.record.Announced.{Announced}
use Rattle.ei_linked.specs.Stored.{sent_view}
use Rattle.ei_linked.specs.Asked.{AreNew}
use Rattle.ei_linked.proofs.Meeting.{none_sent, sent_none, sent_some}
use Rattle.ei_linked.proofs.met.find_sent.Goals as goal

pub loop-message-init : goal.loop-message-init
loop-message-init c = none_sent c.args.events c.args.id

pub returns-in-Some : goal.returns-in-Some
returns-in-Some c =
    let m : Record = c.message-item.result in
    let found : AreNew (Some c.in-Some.object) (if_named c.args.id (new_of c.args.events (sent_view m))) =
    subst (λ (r : Option Announced). AreNew r (if_named c.args.id (new_of c.args.events (sent_view m)))) c.in-Some.is c.object_in.ensures in
    sent_some c.args.events c.args.sent.now c.loop-message.message-index m c.args.id c.in-Some.object c.loop-message-test.true c.loop-message.invariant
    (subst (λ (r : Record). AreNew (Some c.in-Some.object) (if_named c.args.id (new_of c.args.events (sent_view r)))) c.message-item.is found)

pub loop-message-preserved : goal.loop-message-preserved
loop-message-preserved c =
    let m : Record = c.message-item.result in
    let none : AreNew None (if_named c.args.id (new_of c.args.events (sent_view m))) =
    subst (λ (r : Option Announced). AreNew r (if_named c.args.id (new_of c.args.events (sent_view m)))) c.in_default.is c.object_in.ensures in
    sent_none c.args.events c.args.sent.now c.loop-message.message-index m c.args.id c.loop-message-test.true c.loop-message.invariant
    (subst (λ (r : Record). AreNew None (if_named c.args.id (new_of c.args.events (sent_view r)))) c.message-item.is none)
