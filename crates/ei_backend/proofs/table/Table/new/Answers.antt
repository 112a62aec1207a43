use Rattle.std.proofs.Common.{ℕ, ◌≡◌, ◌++◌, ◌∷◌, [], List, ap, ◌∙◌}
use Rattle.ei_spec.specs.Interface.{ObjectView}
use Rattle.ei_backend.proofs.Kept.{client_kept, server_kept}
use Rattle.ei_backend.proofs.table.Table.new.Goals as goal
use Rattle.ei_backend.proofs.table.Table.new.Goals.{then-client, else-client}

pub invariant_of-result : goal.invariant_of-result
invariant_of-result c =
    let low : c.push.new.self.items ≡ (0, c.known.result) ∷ [] = c.in_ok-push.ensures.ok ∙ ap (λ (l : List (ℕ × ObjectView)). l ++ (0, c.known.result) ∷ []) c.new-low.ensures in
    elim c.if-client.branch [
      | then-client w ↦ rw w.own-is (client_kept _ _ c.args.client c.args.next_own _ c.known.result c.known.ensures c.requires.from c.requires.to w.if-client.true low c.new-high.ensures)
      | else-client w ↦ rw w.own-is (server_kept _ _ c.args.client c.args.next_own _ c.known.result c.known.ensures c.requires.from c.requires.to w.if-client.false c.new-high.ensures low)
    ]
