use Rattle.std.proofs.Common.{length, Err, refl, sym, ap}
use Rattle.ei_serve.specs.declared.phase.Phase.TheVariants.{Over}
use Rattle.ei_serve.specs.declared.policy.Policy.TheVariants.{Nothing}
use Rattle.ei_serve.proofs.ConversingTakes.{refuses, unqueued, unflushed, answers_on, none_lacks}
use Rattle.ei_serve.proofs.connected.take_request.Goals as goal

pub returns-in-Err-clause-takes : goal.returns-in-Err-clause-takes
returns-in-Err-clause-takes g c = λ setup past times rest handles a.
    refuses setup past times rest handles c.args.request c.args.converter.now a c.handle_request.new.self c.in-Err.error c.refuse.new.why Over _ _ _ _ (Err c.refuse.new.why) refl c.refuse.ensures c.in-Err.ensures.handles

pub returns-in-Err-hand_out-clause-takes : goal.returns-in-Err-hand_out-clause-takes
returns-in-Err-hand_out-clause-takes g c = λ setup past times rest handles a.
    unqueued setup past times rest handles c.args.request c.args.converter.now a c.handle_request.new.self _ _ c.in_default.ensures.handles Over c.refuse_memory.new.why _ _ _ (Err c.refuse_memory.new.why) refl c.refuse_memory.ensures c.in-Err-hand_out.ensures.kept

pub returns-then-may_follow-clause-takes : goal.returns-then-may_follow-clause-takes
returns-then-may_follow-clause-takes g c = λ setup past times rest handles a.
    c.follow.ensures.follows setup past times rest handles c.args.out.now.items _ _ (ap length c.as_slice-handed.ensures.value) (record {
      request = c.args.request;
      old = c.args.converter.now;
      taken = c.handle_request.new.self;
      asked = a;
      takes = c.in_default.ensures.handles;
      grown = c.in-Ok.ensures.hands_out;
      last = c.in-Ok.ensures.last c.if-may_follow.true;
      emptied = c.in-Ok.ensures.queue;
    })

pub returns-in-Err-flush-clause-takes : goal.returns-in-Err-flush-clause-takes
returns-in-Err-flush-clause-takes g c = λ setup past times rest handles a.
    unflushed setup past times rest handles c.args.request c.args.converter.now a c.handle_request.new.self _ _ c.in_default.ensures.handles _ _ c.in-Ok.ensures.hands_out Nothing (sym (c.in-Ok.ensures.nothing c.if-may_follow.false)) _ c.in-Ok.ensures.queue _ c.handle_mut-handle.ensures.value
    (none_lacks c.args.converter.now.handle) _ refl refl c.in-Err-flush.error c.refuse_flush.new.why Over _ _ _ (Err c.refuse_flush.new.why) refl c.refuse_flush.ensures c.in-Err-flush.ensures.flushes.lent.want c.in-Err-flush.ensures.flushes.went

pub returns-clause-takes : goal.returns-clause-takes
returns-clause-takes g c = λ setup past times rest handles a.
    answers_on setup past times rest handles c.args.request c.args.converter.now a c.handle_request.new.self _ _ c.in_default.ensures.handles _ _ c.in-Ok.ensures.hands_out Nothing (sym (c.in-Ok.ensures.nothing c.if-may_follow.false)) _ c.in-Ok.ensures.queue _ c.handle_mut-handle.ensures.value
    (none_lacks c.args.converter.now.handle) _ refl refl c.flush.new.self c.in_default-flush.ensures.flushes.stops c.in_default-flush.ensures.kept _ _ c.in_default-flush.ensures.flushes.went c.in_default-flush.ensures.flushes.lent.lent.write_wants _ refl _ refl (λ e. absurd cc)
