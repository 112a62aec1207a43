use Rattle.std.proofs.Common.{List, ◌++◌, arith, ap, ◌∙◌}
use Rattle.ei_spec.specs.Interface.{ObjectView}
use Rattle.ei_backend.specs.Endpoint.{endpoint_of}
use Rattle.ei_request.specs.Connection.{version_in}
use Rattle.ei_request.specs.Costs.{interfaces_cost}
use Rattle.ei_request.specs.Making.{granted_to, objects_of}
use Rattle.ei_request.proofs.AddedDevice.{keyboard_among}
use Rattle.ei_request.proofs.Spending.{fits_within, fits_after, spends_both}
use Rattle.ei_request.proofs.making.describe.Goals as goal

pub interfaces-requires-clause-fits : goal.interfaces-requires-clause-fits
interfaces-requires-clause-fits c = fits_within _ (interfaces_cost (granted_to c.args.allowed)) _ c.requires.fits (omega arith) (omega arith) (omega arith)

pub end-requires-clause-keyboard : goal.end-requires-clause-keyboard
end-requires-clause-keyboard c = λ needs.
    let e = endpoint_of c.args.ctx.now in
    let v = version_in c.args.versions.now in
    let is = granted_to c.args.allowed in
    keyboard_among e v is c.deref.result.now (c.deref.ensures.value ∙ c.interfaces.ensures.objects ∙ ap (λ (os : List ObjectView). os ++ objects_of e v is) c.requires.none) (c.requires.keyboard needs)

pub end-requires-clause-fits : goal.end-requires-clause-fits
end-requires-clause-fits c = fits_after _ (interfaces_cost (granted_to c.args.allowed)) _ _ _ c.requires.fits c.interfaces.ensures.spends (omega arith) (omega arith) (omega arith)

pub returns-clause-spends : goal.returns-clause-spends
returns-clause-spends c = spends_both _ _ _ _ _ _ c.interfaces.ensures.spends c.end.ensures.spends (omega arith) (omega arith) (omega arith)
