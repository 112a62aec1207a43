use Rattle.std.proofs.Common.{◌∙◌, ap, List, ℕ, take, drop}
use Rattle.ei_wire.proofs.HeaderLaws.{bytes_again}
use Rattle.ei_wire.proofs.header.Header.parse.Goals as goal

pub returns-clause-back : goal.returns-clause-back
returns-clause-back c =
    bytes_again c.args.bytes _
    (c.long_at.ensures.back ∙ c.split_at.ensures.front)
    (c.word_at.ensures.back ∙ c.split_at-2.ensures.front ∙ ap (λ (x : List ℕ). take 4 x) c.split_at.ensures.back)
    (c.word_at-2.ensures.back ∙ c.split_at-2.ensures.back ∙ ap (λ (x : List ℕ). drop 4 x) c.split_at.ensures.back)
