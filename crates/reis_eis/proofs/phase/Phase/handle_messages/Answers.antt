use Rattle.std.proofs.Common.{List, [], ◌∷◌, ◌++◌, ap, subst, ◌∙◌}
use Rattle.reis_eis.specs.declared.notice.Notice.{Notice}
use Rattle.reis_eis.specs.declared.step.Step.{Step}
use Rattle.reis_eis.specs.declared.step.Step.TheVariants as step
use Rattle.reis_eis.specs.Handling.{Steps}
use Rattle.reis_eis.proofs.Feeding.{one_more}
use Rattle.reis_eis.proofs.phase.Phase.handle_messages.Goals as goal

pub messages-preserved-in-Handled : goal.messages-preserved-in-Handled
messages-preserved-in-Handled c = record {
  handled = one_more c.args.time c.args.self.now c.args.notices.now.items c.messages.self c.step.new.self c.messages.notices.items c.step.new.notices.items step.Handled c.messages.invariant.handled
      (subst (λ (s : Step). Steps c.args.time c.messages.self s c.step.new.self) c.in-Handled.is c.step.ensures.steps) c.step.ensures.waiting;
  whole = λ w. c.step.ensures.whole (c.messages.invariant.whole w);
}

pub messages-preserved : goal.messages-preserved
messages-preserved c = record {
  handled = one_more c.args.time c.args.self.now c.args.notices.now.items c.messages.self c.step.new.self c.messages.notices.items c.push_reserved.new.self.items (step.Noted c.in-Noted.notice) c.messages.invariant.handled
      (subst (λ (s : Step). Steps c.args.time c.messages.self s c.step.new.self) c.in-Noted.is c.step.ensures.steps)
      (c.push_reserved.ensures.items ∙ ap (λ (ns : List Notice). ns ++ c.in-Noted.notice ∷ []) c.step.ensures.waiting);
  whole = λ w. c.step.ensures.whole (c.messages.invariant.whole w);
}
