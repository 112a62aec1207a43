use Rattle.ei_backend.proofs.InWords.{both_put}
use Rattle.ei_backend.proofs.words.put_long.Goals as goal

pub returns-clause-bytes : goal.returns-clause-bytes
returns-clause-bytes c = both_put _ _ _ _ c.args.long c.put_word-2.ensures.bytes c.in_ok-count.ensures.bytes
