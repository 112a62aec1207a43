use Rattle.std.proofs.Common.{[]}
use Rattle.ei_spec.proofs.GoesOn as goes_on
use Rattle.ei_spec.proofs.OneReading.{is_reading, only_reading, longest}
use Rattle.ei_session.specs.Refusals.{judge}
use Rattle.ei_session.specs.Served.{reading_of}
use Rattle.ei_session.proofs.all_requests.all_streams.Goals as goal

pub returns : goal.returns
unfolding reading_of
returns c = record {
  is = λ setup. is_reading (judge setup);
  only = λ setup. only_reading (judge setup);
  longest = λ setup. longest (judge setup);
  goes_on = λ setup. goes_on.cut (judge setup) [];
}
