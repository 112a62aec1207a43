use Rattle.std.proofs.Common.{ℕ, List, sym, ap, ◌∙◌}
use Rattle.std.specs.FinMap as finite
use Rattle.ei_spec.proofs.NameLaws.{called}
use Rattle.ei_handshake.proofs.versions.Versions.insert_name.Goals as goal

pub returns-in-Some-clause-ok : goal.returns-in-Some-clause-ok
returns-in-Some-clause-ok c =
    c.insert.ensures ∙ ap (λ (n : List ℕ). finite.insert c.args.self.now n c.args.version) (sym (called c.args.name.now c.in-Some.interface (sym c.interface.ensures ∙ c.in-Some.is)))
