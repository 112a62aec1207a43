use Rattle.std.proofs.Common.{refl, sym, ap, ◌∙◌}
use Rattle.std.specs.Option.{ghost_name_of}
use Rattle.ei_request.specs.DeviceTable.{fits}
use Rattle.ei_request.proofs.NumberedDevices.{first_found, none_found, written_first}
use Rattle.ei_request.proofs.SameRead.{same_read}
use Rattle.ei_request.proofs.device_table.sought_mut.Goals as goal

pub returns-in-Some : goal.returns-in-Some
returns-in-Some c =
    let hs = c.args.held.now.items in
    let test = fits c.args.sought in
    let is = c.in-Some.ensures in
    let up = c.requires.numbers.1 in (
      same_read (ghost_name_of c.get_mut.result) _ _ _ (λ w i. record { items = written_first test hs 0 c.requires.numbers.0 c.in-Some.number w up is i; room = c.args.held.now.room }),
      record { writes_back = tt; value = c.get_mut.ensures.value ∙ first_found test hs 0 c.requires.numbers.0 c.in-Some.number up is },
    )

pub returns-in-Some-number_of : goal.returns-in-Some-number_of
returns-in-Some-number_of c =
    let hs = c.args.held.now.items in
    let test = fits c.args.sought in
    let is = sym c.number_of.ensures ∙ c.in-Some-number_of.is in
    let up = c.requires.numbers.1 in (
      same_read (ghost_name_of c.get_mut-in-Some-number_of.result) _ _ _ (λ w i. record { items = written_first test hs 0 c.requires.numbers.0 c.in-Some-number_of.number w up is i; room = c.args.held.now.room }),
      record { writes_back = tt; value = c.get_mut-in-Some-number_of.ensures.value ∙ first_found test hs 0 c.requires.numbers.0 c.in-Some-number_of.number up is },
    )

pub returns-in-None : goal.returns-in-None
returns-in-None c = (refl, record { writes_back = tt; value = sym (none_found (fits c.args.sought) c.args.held.now.items (sym c.number_of.ensures ∙ c.in-None.is)) })
