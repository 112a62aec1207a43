use Rattle.std.proofs.Common.{◌≡◌, ap, subst, sym, ◌∙◌, get_or, take, List}
use Rattle.ei_world.specs.declared.run.Step.{Step}
use Rattle.ei_linked.specs.TwoEnds.{WorldView}
use Rattle.ei_world.specs.Steps.{Accepts, after_step, after_steps}
use Rattle.ei_world.proofs.Running.{accepted_more, after_more, stays_whole}
use Rattle.ei_world.proofs.world.World.run.Goals as goal

pub loop-place-preserved : goal.loop-place-preserved
loop-place-preserved c =
    let steps : List Step = c.args.steps.now in
    let s : Step = c.index-steps-place.result in
    let before = c.loop-place.invariant in
    let did = c.in_ok-step.ensures in
    let here : s ≡ get_or steps c.loop-place.place s = c.index-steps-place.is in
    let accepted : Accepts (get_or steps c.loop-place.place s) (after_steps (take c.loop-place.place steps) c.args.self.now) =
    subst (λ (w : WorldView). Accepts (get_or steps c.loop-place.place s) w) before.1 (subst (λ (x : Step). Accepts x c.loop-place.self) here did.0) in (
      accepted_more steps c.loop-place.place s c.args.self.now c.loop-place-test.true before.0 accepted,
      did.1
          ∙ ap (λ (x : Step). after_step x c.loop-place.self) here
          ∙ ap (λ (w : WorldView). after_step (get_or steps c.loop-place.place s) w) before.1
          ∙ sym (after_more steps c.loop-place.place s c.args.self.now c.loop-place-test.true),
      ap (λ (w : WorldView). w.spent) did.1 ∙ stays_whole s c.loop-place.self ∙ before.2,
    )
