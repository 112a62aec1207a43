use Rattle.ei_session.proofs.AllParts.{framed_prefix, replies_prefix}
use Rattle.ei_session.proofs.all_requests.all_prefixes.Goals as goal

pub returns : goal.returns
returns c = record { framed = framed_prefix; replies = replies_prefix }
