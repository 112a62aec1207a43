use Rattle.std.proofs.Common.{◌≡◌, sym, ap, ◌∙◌, Some}
use Rattle.ei_keyed.specs.Keyed.{keyed}
use Rattle.ei_request.specs.DeviceTable.{fits, sought_id, ids_of}
use Rattle.ei_request.proofs.DeviceIds.{known_first, sought_has}
use Rattle.ei_request.proofs.device_table.likely_number.Goals as goal

pub returns-then-likely_fits : goal.returns-then-likely_fits
returns-then-likely_fits c =
    let s = c.args.sought in
    let known = c.requires.known c.if-not-exact.false in
    let some : keyed (sought_id s) (ids_of c.args.held.now.items) ≡ Some c.in_ok-number.field-0.now =
    ap (keyed (sought_id s)) (sym known) ∙ ap (λ k. keyed k c.args.ids.now.items) (sym c.id.ensures) ∙ c.in_ok-number.ensures in
    known_first (fits s) (sought_id s) c.in_ok-number.field-0.now c.args.held.now.items 0 c.requires.numbers.0 c.requires.numbers.1 (sought_has s) some (c.likely_fits.ensures c.if-likely_fits.true)
