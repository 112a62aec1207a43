use Rattle.std.proofs.Common.{◌≡◌, List, Ok, map, drop}
use Rattle.ei_spec.specs.Value.{Value}
use Rattle.ei_spec.specs.Reading.{Unread, all_at}
use Rattle.ei_rows.specs.Parts.{kind_view}
use Rattle.ei_values.specs.Stored.{all_stored}
use Rattle.ei_linked.proofs.Reading.{Left}
use Rattle.ei_linked.proofs.written.values_of.Given as goal

abbrev pub invariant-loop-place : goal.invariant-loop-place
invariant-loop-place l = (vs : List Value) (left : Unread) → all_at (map kind_view l.fn.kinds) l.fn.stream ≡ Ok (vs, left) → Left (drop l._place l.fn.kinds) (all_stored (map kind_view l.fn.kinds) vs) l.values left l.stream
