-- What the server wrote is stored at once.
use Rattle.std.proofs.Common.{true, sym, subst}
use Rattle.ei_linked.specs.declared.written.Unsent.{Unsent}
use Rattle.ei_linked.specs.Held.{stored_by}
use Rattle.ei_linked.specs.Written.{AreWritten}
use Rattle.ei_pair.specs.ServerEnd.{endpoint_in}
use Rattle.ei_pair.proofs.parts.joined.Goals as goal

pub returns-in-Ok : goal.returns-in-Ok
returns-in-Ok c = record {
  fresh = c.new-ends.result;
  is_fresh = c.new-ends.ensures;
  stores = λ ms w. c.in-Ok.ensures.stores ms (subst (λ (at : Unsent). AreWritten true at ms (stored_by endpoint_in c.new-ends.result.server)) (sym c.nothing_unsent.ensures) w);
}
