use Rattle.std.proofs.Common.{sym, arith}
use Rattle.std.proofs.lemmas.Bool.Decides.{nat_tests}
use Rattle.ei_keyed.proofs.Rising.{rises_push, below_all}
use Rattle.ei_keyed.proofs.finding.rises_with.Goals as goal

pub returns-then-rising : goal.returns-then-rising
returns-then-rising g c = λ value below.
    let h = c.requires c.if-rising.true in
    rises_push c.args.places.now 0 c.args.key value h (omega arith) (below_all c.args.places.now c.args.key c.in-Some.last.now h (sym c.in-Some.ensures.value) (grind (arith, nat_tests)))
