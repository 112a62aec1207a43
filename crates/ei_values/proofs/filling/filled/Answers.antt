use Rattle.std.proofs.Common.{◌≡◌, ◌++◌, List, get_or, ap, subst, ◌∙◌}
use Rattle.ei_values.specs.declared.value.Value.{Value}
use Rattle.ei_values.specs.Stored.{fills, IsLawful}
use Rattle.ei_values.proofs.OneByOne.{ok_of, filled_more, lawful_more, lawful_all}
use Rattle.ei_values.proofs.filling.filled.Goals as goal

pub loop-value-preserved : goal.loop-value-preserved
loop-value-preserved c =
    let xs : List Value = c.args.values.now in
    let i = c.loop-value.value-index in
    let v : Value = c.value-item.result in
    let at : v ≡ get_or xs i v = c.value-item.is in
    let more : c.push_filled.new.out ≡ c.loop-value.out ++ fills c.args.next v =
    ok_of c.push_filled.result c.in_ok-push_filled.field-0 _ c.in_ok-push_filled.was c.push_filled.ensures.filled in
    let law : IsLawful v = ok_of c.push_filled.result c.in_ok-push_filled.field-0 _ c.in_ok-push_filled.was c.push_filled.ensures.lawful in
    record {
      filled = filled_more c.args.next xs i v c.loop-value.out c.push_filled.new.out c.loop-value-test.true c.loop-value.invariant.filled
          (more ∙ ap (λ (x : Value). c.loop-value.out ++ fills c.args.next x) at);
      lawful = lawful_more xs i v c.loop-value-test.true c.loop-value.invariant.lawful (subst IsLawful at law);
    }

pub returns-clause-lawful : goal.returns-clause-lawful
returns-clause-lawful c = lawful_all c.args.values.now c.loop-value.value-index c.loop-value-test.false c.loop-value.invariant.lawful
