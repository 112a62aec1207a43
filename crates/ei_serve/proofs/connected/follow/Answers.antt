use Rattle.std.proofs.Common.{Err, refl, ap, ◌∙◌}
use Rattle.ei_serve.specs.declared.phase.Phase.TheVariants.{Over}
use Rattle.ei_serve.specs.Policy.{policy_behind}
use Rattle.ei_serve.proofs.ConversingTakes.{unfollowed, unflushed, answers_end, answers_on}
use Rattle.ei_serve.proofs.connected.follow.Goals as goal
use Rattle.ei_serve.proofs.connected.follow.Goals.{in-End, in_default-policy}

pub returns-in-Err-clause-follows : goal.returns-in-Err-clause-follows
returns-in-Err-clause-follows g c = λ setup past times rest handles before read read_now count h.
    unfollowed setup past times rest handles h.request h.old h.asked h.taken _ _ h.takes _ _ h.grown _ (c.policy_behind-policy.ensures ∙ ap policy_behind c.deref.ensures.value ∙ h.last) _ h.emptied _ c.handle_mut-handle.ensures.value
    c.args.handed count c.take_back.new.out.items c.in-Err.error c.refuse_send.new.why Over _ (Err c.refuse_send.new.why) c.take_back.ensures refl c.refuse_send.ensures c.in-Err.ensures.exhausted c.in-Err.ensures.short

pub returns-in-Err-flush-clause-follows : goal.returns-in-Err-flush-clause-follows
returns-in-Err-flush-clause-follows g c = λ setup past times rest handles before read read_now count h.
    unflushed setup past times rest handles h.request h.old h.asked h.taken _ _ h.takes _ _ h.grown _ (c.policy_behind-policy.ensures ∙ ap policy_behind c.deref.ensures.value ∙ h.last) _ h.emptied _ c.handle_mut-handle.ensures.value
    c.in_default.ensures.exhausted _ c.in_default.ensures.ok c.in_default.ensures.ring c.in-Err-flush.error c.refuse_flush.new.why Over _ _ _ (Err c.refuse_flush.new.why) refl c.refuse_flush.ensures c.in-Err-flush.ensures.flushes.lent.want c.in-Err-flush.ensures.flushes.went

pub returns-clause-follows : goal.returns-clause-follows
returns-clause-follows g c = λ setup past times rest handles before read read_now count h. elim c.match-policy.branch [
  | in-End w ↦ answers_end setup past times rest handles h.request h.old h.asked h.taken _ _ h.takes _ _ h.grown _ (c.policy_behind-policy.ensures ∙ ap policy_behind c.deref.ensures.value ∙ h.last) _ h.emptied _ c.handle_mut-handle.ensures.value
      c.in_default.ensures.exhausted _ c.in_default.ensures.ok c.in_default.ensures.ring c.flush.new.self c.in_default-flush.ensures.flushes.stops c.in_default-flush.ensures.kept _ _ c.in_default-flush.ensures.flushes.went c.in_default-flush.ensures.flushes.lent.lent.write_wants _ _ w.step-is w.in-End.is
  | in_default-policy w ↦ answers_on setup past times rest handles h.request h.old h.asked h.taken _ _ h.takes _ _ h.grown _ (c.policy_behind-policy.ensures ∙ ap policy_behind c.deref.ensures.value ∙ h.last) _ h.emptied _ c.handle_mut-handle.ensures.value
      c.in_default.ensures.exhausted _ c.in_default.ensures.ok c.in_default.ensures.ring c.flush.new.self c.in_default-flush.ensures.flushes.stops c.in_default-flush.ensures.kept _ _ c.in_default-flush.ensures.flushes.went c.in_default-flush.ensures.flushes.lent.lent.write_wants _ refl _ w.step-is w.in_default-policy.not-End
]
