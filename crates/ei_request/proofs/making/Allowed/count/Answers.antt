use Rattle.std.proofs.Common.{◌≡◌, ◌+◌, List, ◌++◌, length, take, get_or, ap, ◌∙◌, arith}
use Rattle.std.proofs.lemmas.List.{length-append}
use Rattle.ei_spec.specs.declared.interface.KnownInterface.{KnownInterface}
use Rattle.ei_types.specs.declared.capability.DeviceCapability.TheVariants.{Pointer}
use Rattle.ei_types.specs.Capability.{capability_list}
use Rattle.ei_request.specs.Making.{chosen}
use Rattle.ei_request.proofs.MadeInTurn.{so_far, so_far_more, so_far_all}
use Rattle.ei_request.proofs.making.Allowed.count.Goals as goal

pub loop-one-preserved : goal.loop-one-preserved
loop-one-preserved c =
    let given = c.args.self.given in
    let wanted = c.args.self.wanted in
    let i = c.loop-one.one-index in
    let more : length (so_far given wanted (take (i + 1) capability_list)) ≡ length (so_far given wanted (take i capability_list) ++ chosen given wanted (get_or capability_list i Pointer)) =
    ap (λ (l : List KnownInterface). length l) (so_far_more given wanted capability_list i Pointer c.loop-one-test.true) in
    record {
      counted = omega (arith, more, length-append (so_far given wanted (take i capability_list)) (chosen given wanted (get_or capability_list i Pointer)), c.count_of-count.ensures.value, c.loop-one.invariant.counted);
      few = omega (arith, c.count_of-count.ensures.few, c.loop-one.invariant.few);
    }

pub returns-clause-value : goal.returns-clause-value
returns-clause-value c = c.loop-one.invariant.counted ∙ ap (λ (l : List KnownInterface). length l) (so_far_all c.args.self.given c.args.self.wanted c.loop-one.one-index c.loop-one-test.false)
