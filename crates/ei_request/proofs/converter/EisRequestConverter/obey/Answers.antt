use Rattle.std.specs.Prelude.{find}
use Rattle.ei_request.specs.Held.{has_interface}
use Rattle.ei_request.specs.Refusing.{asked_refusal}
use Rattle.ei_request.proofs.converter.EisRequestConverter.obey.Goals as goal

pub returns-in-Err-clause-why : goal.returns-in-Err-clause-why
returns-in-Err-clause-why c =
    let reason = asked_refusal c.args.version c.args.asked (find (has_interface c.args.id) c.self.inside.handle.devices) in
    rw (← c.self.view_is) (c.error.ensures reason c.in-Err.ensures.why)
