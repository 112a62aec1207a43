use Rattle.std.proofs.Common.{◌≡◌, true, false, sym, ◌∙◌, refl}
use Rattle.std.proofs.lemmas.Fn.{says_at}
use Rattle.ei_by_id.proofs.Maps.{first_passes, first_fails}
use Rattle.ei_by_id.proofs.first.Goals as goal

pub returns-then-test : goal.returns-then-test
returns-then-test g c = λ test decides.
    let passes = sym (decides c.in-Some.value.now true (says_at g.F.Fn c.if-test.ensures refl)) in
    sym (first_passes test (c.in-Some.field-0-0, c.in-Some.value.now) c.next.new.self c.loop-value.rest c.in-Some.ensures.steps passes) ∙ c.loop-value.invariant test decides

pub loop-value-preserved : goal.loop-value-preserved
loop-value-preserved g c = λ test decides.
    let fails = sym (decides c.in-Some.value.now false (says_at g.F.Fn c.if-test.ensures refl)) in
    sym (first_fails test (c.in-Some.field-0-0, c.in-Some.value.now) c.next.new.self c.loop-value.rest c.in-Some.ensures.steps fails) ∙ c.loop-value.invariant test decides
