use Rattle.std.proofs.Common.{◌≡◌, sym, ap, ◌∙◌, Some, None}
use Rattle.std.specs.Option.{option_copied}
use Rattle.ei_keyed.specs.Keyed.{keyed}
use Rattle.ei_request.specs.DeviceTable.{fits, sought_id, ids_of}
use Rattle.ei_request.proofs.DeviceIds.{unknown, known_first, sought_has}
use Rattle.ei_request.proofs.device_table.number_of.Goals as goal

pub returns-in_err-number : goal.returns-in_err-number
returns-in_err-number c =
    let s = c.args.sought in
    let known = c.requires.known c.if-not-exact.false in
    let none : keyed (sought_id s) (ids_of c.args.held.now.items) ≡ None =
    ap (keyed (sought_id s)) (sym known) ∙ ap (λ k. keyed k c.args.ids.now.items) (sym c.id.ensures) ∙ sym c.get.ensures ∙ ap option_copied c.in_err-number.was in
    c.from_residual.ensures ∙ sym (unknown (fits s) (sought_id s) c.args.held.now.items (sought_has s) none)

pub returns-then-fits_at : goal.returns-then-fits_at
returns-then-fits_at c =
    let s = c.args.sought in
    let known = c.requires.known c.if-not-exact.false in
    let some : keyed (sought_id s) (ids_of c.args.held.now.items) ≡ Some c.in_ok-number.field-0.now =
    ap (keyed (sought_id s)) (sym known) ∙ ap (λ k. keyed k c.args.ids.now.items) (sym c.id.ensures) ∙ sym c.get.ensures ∙ ap option_copied c.in_ok-number.was in
    sym (known_first (fits s) (sought_id s) c.in_ok-number.field-0.now c.args.held.now.items 0 c.requires.numbers.0 c.requires.numbers.1 (sought_has s) some (sym c.fits_at.ensures ∙ c.if-fits_at.true))
