use Rattle.std.proofs.Common.{◌∙◌, ap, refl}
use Rattle.std.specs.Prelude.{nat_le}
use Rattle.reis_lines.proofs.AskingLaws.{asks_none, asks_as, none_at_end, few_at_end}
use Rattle.reis_lines.proofs.hex_source.HexSource.find_line.Goals as goal
use Rattle.reis_lines.proofs.hex_source.HexSource.find_line.Goals.{then-is_none, else-is_none}

pub returns-then-self-clause-fetched : goal.returns-then-self-clause-fetched
returns-then-self-clause-fetched g c = asks_none g.I.Input.view _ _ _ _ _ _ c.if-self.true refl c.newline.ensures.same

pub returns-in_err-found-clause-fetched : goal.returns-in_err-found-clause-fetched
returns-in_err-found-clause-fetched g c = asks_as g.I.Input.view _ _ _ _ _ _ _ c.if-self.false (λ e. absurd cc) c.in_err-found.ensures.fetched

pub returns-clause-fetched : goal.returns-clause-fetched
returns-clause-fetched g c =
    asks_as g.I.Input.view _ _ _ _ _ _ _ c.if-self.false
    (λ e. elim c.if-is_none.branch [
      | then-is_none w ↦ w.self-is ∙ ap (λ n. nat_le n 131072) w.len.ensures ∙ few_at_end c.in_ok-found.found _ e
      | else-is_none w ↦ absurd (none_at_end c.in_ok-found.found _ _ c.is_none.ensures w.if-is_none.false e)
    ])
    c.in_ok-found.ensures.fetched
