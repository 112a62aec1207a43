use Rattle.std.proofs.Common.{Option, Some, None, subst, sym, ◌∙◌}
use Rattle.ei_ends.specs.Announced.{if_named}
use Rattle.ei_ends.specs.Sent.{new_of}
use Rattle.ei_linked.specs.declared.record.Got.{Got}
use Rattle.ei_linked.specs.declared.record.Announced.{Announced}
use Rattle.ei_linked.specs.Stored.{sent_view}
use Rattle.ei_linked.specs.Asked.{AreNew}
use Rattle.ei_linked.proofs.Meeting.{none_taken, new_in_got, taken_none, taken_some}
use Rattle.ei_linked.proofs.met.find_taken.Goals.{in-Message+in_default-object_in, in_default}
use Rattle.ei_linked.proofs.met.find_taken.Goals as goal

pub loop-got-init : goal.loop-got-init
loop-got-init c = none_taken c.args.events c.args.id

pub returns-in-Some : goal.returns-in-Some
returns-in-Some c =
    let found : AreNew (Some c.in-Some.object) (if_named c.args.id (new_of c.args.events (sent_view c.in-Message.message))) =
    subst (λ (r : Option Announced). AreNew r (if_named c.args.id (new_of c.args.events (sent_view c.in-Message.message)))) c.in-Some.is c.object_in.ensures in
    taken_some c.args.events c.args.taken.now c.loop-got.got-index c.got-item.result c.args.id c.in-Some.object c.loop-got-test.true c.loop-got.invariant
    (subst (λ (g : Got). AreNew (Some c.in-Some.object) (new_in_got c.args.events c.args.id g)) (sym c.in-Message.is ∙ c.got-item.is) found)

pub loop-got-preserved : goal.loop-got-preserved
loop-got-preserved c =
    let g : Got = c.got-item.result in
    let none : AreNew None (new_in_got c.args.events c.args.id g) = elim c.match-got.branch [
      | in-Message+in_default-object_in w ↦
          subst (λ (x : Got). AreNew None (new_in_got c.args.events c.args.id x)) (sym w.in-Message.is)
          (subst (λ (r : Option Announced). AreNew r (if_named c.args.id (new_of c.args.events (sent_view w.in-Message.message)))) w.in_default-object_in.is w.object_in.ensures)
      | in_default w ↦
          subst (λ (x : Got). AreNew None (new_in_got c.args.events c.args.id x)) (sym w.in_default.is) tt
    ] in
    taken_none c.args.events c.args.taken.now c.loop-got.got-index g c.args.id c.loop-got-test.true c.loop-got.invariant
    (subst (λ (x : Got). AreNew None (new_in_got c.args.events c.args.id x)) c.got-item.is none)
