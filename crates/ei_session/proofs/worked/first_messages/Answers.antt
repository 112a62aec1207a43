use Rattle.std.proofs.Common.{refl}
use Rattle.ei_session.proofs.AllOpen.{all_open}
use Rattle.ei_session.proofs.worked.first_messages.Goals as goal

pub returns : goal.returns
unfolding all_open
returns c = record { short = refl; long = refl; left_over = refl; variant = refl; opcode = refl; null = refl; named = refl; utf8 = refl; ends = refl; twice = refl; missing = refl; stranger = refl }
