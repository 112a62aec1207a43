use Rattle.std.proofs.Common.{◌≡◌, ◌≤◌, take}
use Rattle.std.specs.Prelude.{count_by}
use Rattle.reis_demo.specs.Summary.{is_input_request}
use Rattle.reis_demo.proofs.lines.count_inputs.Given as goal

abbrev pub invariant-loop-request : goal.invariant-loop-request
invariant-loop-request l = record {
  count : l.count ≡ count_by is_input_request (take l.request-index l.requests);
  few : l.count ≤ l.request-index;
}
