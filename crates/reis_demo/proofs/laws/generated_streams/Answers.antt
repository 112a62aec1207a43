use Rattle.std.proofs.Common.{◌≡◌, ℕ, List, length, ap, arith, lit<}
use Rattle.ei_spec.specs.Piece.{stream}
use Rattle.reis_demo.specs.Generated.{generated, generated_bytes, demo_setup}
use Rattle.reis_demo.specs.Summary.{demo_session}
use Rattle.reis_demo.proofs.CutLaws.{joined_again}
use Rattle.reis_demo.proofs.StreamLength.{stream_short}
use Rattle.reis_demo.proofs.Disconnecting.{ends_by_disconnect}
use Rattle.reis_demo.proofs.Counting.{same_number}
use Rattle.reis_demo.proofs.FewRequests.{few_requests}
use Rattle.reis_demo.proofs.laws.generated_streams.Goals as goal

pub returns : goal.returns
returns c = record {
  joined = λ groups start. joined_again 4096 (generated_bytes groups start) (lit< tt);
  length = λ groups start.
      let same : length (stream (generated groups start)) ≡ length (generated_bytes groups start) = ap (λ (x : List ℕ). length x) (joined_again 4096 (generated_bytes groups start) (lit< tt)) in
      let short = stream_short groups start in
      omega (arith, same, short);
  disconnects = ends_by_disconnect;
  requests = few_requests;
  any_readings = λ groups start readings. same_number demo_setup readings (demo_session groups start).handled;
}
