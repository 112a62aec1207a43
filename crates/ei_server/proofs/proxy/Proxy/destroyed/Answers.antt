use Rattle.std.proofs.Common.{◌≡◌, ℕ, [], ◌∷◌, Option, Some, true, codes, sym, subst, rules}
use Rattle.ei_spec.specs.Rows.{Row, row_named}
use Rattle.ei_spec.specs.Table.{table, destroyed}
use Rattle.ei_server.specs.Words.{Word, Sends}
use Rattle.ei_server.proofs.proxy.Proxy.destroyed.Goals as goal

pub returns : goal.returns
returns g c =
    let row : row_named (codes "destroyed") (table true g.K.Kind.KNOWN) ≡ Some (0, destroyed) = search rules in
    record {
      sends = subst (λ (r : Option (ℕ × Row)). Sends {A = Unit {0}} r c.args.self.now (Word c.args.serial ∷ []) c.args.ctx.now c.destroyed_by_id.new.ctx c.destroyed_by_id.result)
          (sym row) (c.destroyed_by_id.ensures.sends c.args.self.now cc);
    }
