use Rattle.std.proofs.Common.{ℕ, List, [], ap}
use Rattle.ei_backend.specs.declared.outside.LastAnswer.TheVariants as answers
use Rattle.reis_demo.specs.Script.{StreamView}
use Rattle.reis_demo.proofs.Saying.{fresh_said}
use Rattle.reis_demo.proofs.generated.Generated.new.Goals as goal

pub returns : goal.returns
returns c =
    let fresh : List ℕ → StreamView = λ left. record { left = left; given = []; last = answers.Nothing } in
    rw c.new-2.ensures (ap fresh (fresh_said c.new.result c.in_ok-opening.field-0.items c.args.groups c.args.start c.in_ok-opening.ensures.bytes c.new.ensures.messages))
