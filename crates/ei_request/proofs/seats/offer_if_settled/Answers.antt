use Rattle.std.proofs.Common.{◌≡◌, ℕ, Option, true, sym, ap, ◌∙◌}
use Rattle.std.specs.Prelude.{is_some}
use Rattle.ei_spec.specs.declared.interface.KnownInterface.{KnownInterface}
use Rattle.ei_types.specs.Capability.{interface_of}
use Rattle.ei_request.specs.Connection.{is_settled}
use Rattle.ei_request.proofs.seats.offer_if_settled.Goals as goal

pub returns-then-is_some-clause-sends : goal.returns-then-is_some-clause-sends
returns-then-is_some-clause-sends c =
    let settled : is_settled c.args.versions.now (interface_of c.args.one) ≡ true =
    ap (λ (k : KnownInterface). is_settled c.args.versions.now k) (sym c.interface.ensures.value) ∙ ap (λ (o : Option ℕ). is_some o) (sym c.version.ensures) ∙ sym c.if-is_some.ensures
    in rw (← c.if-has.ensures, settled) c.offer_one.ensures.sends
