use Rattle.std.proofs.Common.{◌≡◌, ◌+◌, length, sym, ap, subst, ◌∙◌, arith}
use Rattle.ei_backend.specs.Backend.{BackendView, with_unsent}
use Rattle.ei_backend.specs.Outgoing.{nothing}
use Rattle.ei_playing.specs.Playing.{call_to}
use Rattle.ei_player.specs.Objects.{MayHear}
use Rattle.ei_replay.specs.Asked.{asked_of}
use Rattle.ei_replay.specs.Sending.{after_call, target_at, HasIdsBehind, AnnouncesMade}
use Rattle.ei_replay.specs.Steps.{step_of}
use Rattle.ei_replay.specs.declared.step.Step.{Step}
use Rattle.ei_replay.proofs.Announced.{hears}
use Rattle.ei_replay.proofs.Delivering.{ok_then}
use Rattle.ei_replay.proofs.OneMore.{sends_so, some_sent, few_sent, goes_on, untold, fails, fails_behind, plays_all}
use Rattle.ei_replay.proofs.Target.{ids_behind, target_so, at_target}
use Rattle.ei_replay.proofs.player.Player.play.Goals as goal

pub target-target-requires : goal.target-target-requires
target-target-requires c =
    let r = c.requires.can in
    subst (λ (s : Step). HasIdsBehind s) (sym c.step_of-step.ensures.value) (ids_behind r.setup r.before (asked_of c.args.item.now) r.next c.args.self.now r.comes)

pub send-requires : goal.send-requires
send-requires c =
    let r = c.requires.can in
    at_target r.setup r.before (asked_of c.args.item.now) r.next c.args.self.now r.comes c.target-target.result
    (c.target-target.ensures ∙ ap (λ (s : Step). target_at c.args.self.now.played s) c.step_of-step.ensures.value)

pub deliver-requires : goal.deliver-requires
deliver-requires c =
    let r = c.requires.can in
    let item = asked_of c.args.item.now in
    let is = c.target-target.ensures ∙ ap (λ (s : Step). target_at c.args.self.now.played s) c.step_of-step.ensures.value ∙ target_so r.setup r.before item r.next c.args.self.now r.comes in
    let sent = ok_then (c.send.new.client ≡ after_call (call_to c.target-target.result item) c.args.self.now.client) c.send.result (sym c.is_err.ensures.value ∙ c.if-is_err.false) c.send.ensures in
    let long = ap (λ (b : BackendView). length b.unsent) sent in
    let some = some_sent r.setup r.before item r.next c.args.self.now r.comes c.target-target.result is in
    let few = few_sent r.setup r.before item r.next c.args.self.now r.comes c.target-target.result is in
    record {
      going = goes_on r.setup r.before item r.next c.args.self.now r.comes;
      some = omega (arith, long, some);
      few = omega (arith, long, few);
    }

pub announce-requires : goal.announce-requires
announce-requires c = λ id e.
    let r = c.requires.can in
    let item = asked_of c.args.item.now in
    let sent = ok_then (c.send.new.client ≡ after_call (call_to c.target-target.result item) c.args.self.now.client) c.send.result (sym c.is_err.ensures.value ∙ c.if-is_err.false) c.send.ensures in
    subst (λ (b : BackendView). MayHear id (id + 8) b) (sym (c.in_ok-deliver.ensures.flushed ∙ ap (λ (b : BackendView). with_unsent nothing b) sent))
    (hears r.setup r.before item r.next c.args.self.now r.comes id e c.target-target.result)

pub returns-then-is_err : goal.returns-then-is_err
returns-then-is_err c = λ setup before next x. untold setup before (asked_of c.args.item.now) next c.args.self.now x c.args.stream.now.items c.args.out.now.items

pub returns-in_err-deliver : goal.returns-in_err-deliver
returns-in_err-deliver c = λ setup before next x.
    let item = asked_of c.args.item.now in
    let is = c.target-target.ensures ∙ ap (λ (s : Step). target_at c.args.self.now.played s) c.step_of-step.ensures.value ∙ target_so setup before item next c.args.self.now x in
    let sent = ok_then (c.send.new.client ≡ after_call (call_to c.target-target.result item) c.args.self.now.client) c.send.result (sym c.is_err.ensures.value ∙ c.if-is_err.false) c.send.ensures in
    let same = ap (λ (b : BackendView). b.unsent) sent ∙ sends_so setup before item next c.args.self.now x c.target-target.result is in
    fails setup before item next c.args.self.now x c.in_err-deliver.field-0.0 c.from_residual.result (record c.args.self.now { client = c.deliver.new.client; session = c.deliver.new.session }) c.send.new.client.unsent c.deliver.new.session c.args.stream.now.items c.deliver.new.stream.items c.args.out.now.items c.deliver.new.out.items
    c.from_residual.ensures.1 same
    (c.in_err-deliver.ensures.delivers setup x.so_far.served.pieces x.so_far.served.times x.so_far.served.stands)

pub returns-in_err-announce : goal.returns-in_err-announce
returns-in_err-announce c = λ setup before next x.
    let item = asked_of c.args.item.now in
    let is = c.target-target.ensures ∙ ap (λ (s : Step). target_at c.args.self.now.played s) c.step_of-step.ensures.value ∙ target_so setup before item next c.args.self.now x in
    let sent = ok_then (c.send.new.client ≡ after_call (call_to c.target-target.result item) c.args.self.now.client) c.send.result (sym c.is_err.ensures.value ∙ c.if-is_err.false) c.send.ensures in
    let same = ap (λ (b : BackendView). b.unsent) sent ∙ sends_so setup before item next c.args.self.now x c.target-target.result is in
    fails_behind setup before item next c.args.self.now x c.from_residual-in_err-announce.result (record c.args.self.now { client = c.announce.new.client; session = c.deliver.new.session }) c.send.new.client.unsent c.deliver.new.session c.args.stream.now.items c.deliver.new.stream.items c.args.out.now.items c.deliver.new.out.items
    c.from_residual-in_err-announce.ensures.1 same
    (c.in_ok-deliver.ensures.delivers setup x.so_far.served.pieces x.so_far.served.times x.so_far.served.stands)

pub returns-in_err-take : goal.returns-in_err-take
returns-in_err-take c = λ setup before next x.
    let item = asked_of c.args.item.now in
    let is = c.target-target.ensures ∙ ap (λ (s : Step). target_at c.args.self.now.played s) c.step_of-step.ensures.value ∙ target_so setup before item next c.args.self.now x in
    let sent = ok_then (c.send.new.client ≡ after_call (call_to c.target-target.result item) c.args.self.now.client) c.send.result (sym c.is_err.ensures.value ∙ c.if-is_err.false) c.send.ensures in
    let same = ap (λ (b : BackendView). b.unsent) sent ∙ sends_so setup before item next c.args.self.now x c.target-target.result is in
    fails_behind setup before item next c.args.self.now x c.from_residual-in_err-take.result (record c.args.self.now { client = c.announce.new.client; session = c.deliver.new.session; played = c.take.new.self }) c.send.new.client.unsent c.deliver.new.session c.args.stream.now.items c.deliver.new.stream.items c.args.out.now.items c.deliver.new.out.items
    c.from_residual-in_err-take.ensures.1 same
    (c.in_ok-deliver.ensures.delivers setup x.so_far.served.pieces x.so_far.served.times x.so_far.served.stands)

pub returns : goal.returns
returns c = λ setup before next x.
    let item = asked_of c.args.item.now in
    let is = c.target-target.ensures ∙ ap (λ (s : Step). target_at c.args.self.now.played s) c.step_of-step.ensures.value ∙ target_so setup before item next c.args.self.now x in
    let sent = ok_then (c.send.new.client ≡ after_call (call_to c.target-target.result item) c.args.self.now.client) c.send.result (sym c.is_err.ensures.value ∙ c.if-is_err.false) c.send.ensures in
    let same = ap (λ (b : BackendView). b.unsent) sent ∙ sends_so setup before item next c.args.self.now x c.target-target.result is in
    let flushed = c.in_ok-deliver.ensures.flushed ∙ ap (λ (b : BackendView). with_unsent nothing b) sent in
    plays_all setup before item next c.args.self.now x c.target-target.result (record c.args.self.now { client = c.announce.new.client; session = c.deliver.new.session; played = c.take.new.self }) c.send.new.client.unsent c.args.stream.now.items c.deliver.new.stream.items c.args.out.now.items c.deliver.new.out.items same
    (c.in_ok-deliver.ensures.delivers setup x.so_far.served.pieces x.so_far.served.times x.so_far.served.stands)
    (subst (λ (b : BackendView). AnnouncesMade c.args.self.now.played.next (step_of item) b c.announce.new.client) flushed (rw (← c.step_of-step.ensures.value) c.in_ok-announce.ensures))
    (rw (← c.step_of-step.ensures.value) c.in_ok-take.ensures)
