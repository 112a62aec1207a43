use Rattle.ei_shaking.proofs.BothEnds.{server_refuses_none, client_refuses_none, finishes, hands_over, same_versions}
use Rattle.ei_shaking.proofs.laws.both_ends.Goals as goal

pub returns : goal.returns
returns c = record { server = server_refuses_none; client = client_refuses_none; finished = finishes; handed = hands_over; versions = same_versions }
