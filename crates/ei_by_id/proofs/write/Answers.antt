use Rattle.std.proofs.Common.{sym, ap, ◌∙◌}
use Rattle.ei_keyed.specs.MapOf.{map_of}
use Rattle.ei_by_id.proofs.Maps.{written, differ_written, pushed, differ_pushed}
use Rattle.ei_by_id.proofs.write.Goals as goal

pub returns-in-Some-clause-map : goal.returns-in-Some-clause-map
returns-in-Some-clause-map g c = written c.args.values.now.items c.args.key c.in-Some.held.now c.args.value (sym c.in-Some.ensures.value)

pub returns-in-Some-clause-differ : goal.returns-in-Some-clause-differ
returns-in-Some-clause-differ g c = differ_written c.args.values.now.items c.args.key c.args.value

pub returns-in-None-clause-map : goal.returns-in-None-clause-map
returns-in-None-clause-map g c = ap map_of c.push_reserved.ensures.items ∙ pushed c.args.values.now.items c.args.key c.args.value (sym c.in-None.ensures.value)

pub returns-in-None-clause-differ : goal.returns-in-None-clause-differ
returns-in-None-clause-differ g c = λ d. rw c.push_reserved.ensures.items (differ_pushed c.args.values.now.items c.args.key c.args.value d (sym c.in-None.ensures.value))
