-- Bytes came, or a message was taken, or neither was there.
use Rattle.std.proofs.Common.{true, false, rules}
use Rattle.ei_emit.proofs.Going.{WasStepped, came, stepped, took_all, ok_is, whole_mid}
use Rattle.ei_emit.proofs.carrying.go_on.Goals as goal

pub returns-then-came-gt0 : goal.returns-then-came-gt0
returns-then-came-gt0 g c =
    let h = came c.args.to c.args.pair.now c.deliver.new.self c.in-Ok.came (g.C.Clock.view c.args.clock.now).left c.in-Ok.ensures.delivers c.deliver.ensures.kept c.requires.whole c.requires.unsent c.agree.ensures.kept c.if-came-gt0.true in
    record {
      goes = h.goes;
      whole = h.goes.whole;
      unsent = h.unsent;
      less = λ is. h.less (ok_is true true is);
      all = search rules;
      clock = record { later_clock = g.met.C.Clock.later_refl c.args.clock.now };
    }

pub step-requires : goal.step-requires
step-requires g c = record { whole = whole_mid c.args.to c.args.pair.now c.deliver.new.self c.in-Ok.came (g.C.Clock.view c.args.clock.now).left c.in-Ok.ensures.delivers c.deliver.ensures.kept c.requires.whole c.requires.unsent }

pub returns : goal.returns
returns g c =
    let told = (g.C.Clock.view c.args.clock.now).left in
    let now = (g.C.Clock.view c.step.new.clock).left in
    let was : WasStepped _ c.args.to c.deliver.new.self c.step.new.self told now c.in-Ok-step.took = record {
      server = c.in-Ok-step.ensures.server;
      client = c.in-Ok-step.ensures.client;
      spent = c.in-Ok-step.ensures.spent;
      all = c.in-Ok-step.ensures.all;
      begins = c.in-Ok-step.ensures.begins;
      agrees = c.agree-2.ensures.agrees;
      kept = c.agree-2.ensures.kept;
    } in
    let h = stepped c.args.to c.args.pair.now c.deliver.new.self c.in-Ok.came told c.in-Ok.ensures.delivers c.deliver.ensures.kept c.requires.whole c.requires.unsent c.agree.ensures.kept c.step.new.self now _ c.if-came-gt0.false c.in-Ok-step.took was in
    record {
      goes = h.goes;
      whole = h.goes.whole;
      unsent = h.unsent;
      less = λ is. h.less (ok_is c.in-Ok-step.took true is);
      all = λ is. took_all c.args.to c.args.pair.now c.deliver.new.self c.in-Ok.came told c.in-Ok.ensures.delivers c.deliver.ensures.kept c.requires.whole c.requires.unsent c.agree.ensures.kept c.step.new.self now _ c.if-came-gt0.false c.in-Ok-step.took (ok_is c.in-Ok-step.took false is) was;
      clock = c.in-Ok-step.ensures.clock;
    }
