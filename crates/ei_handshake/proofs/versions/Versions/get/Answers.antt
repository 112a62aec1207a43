use Rattle.std.proofs.Common.{◌∙◌, sym}
use Rattle.ei_spec.proofs.NameLaws.{called}
use Rattle.ei_handshake.proofs.OtherNames.{get_among, get_other}
use Rattle.ei_handshake.proofs.versions.Versions.get.Goals as goal

pub returns-in-Some : goal.returns-in-Some
returns-in-Some c =
    let is = called c.args.name.now c.in-Some.interface (sym c.from_name.ensures ∙ c.in-Some.is) in
    rw (← c.self.view_is, is, c.place.ensures.value) (sym (get_among c.self.inside.others.entries c.self.inside.versions c.in-Some.interface (c.self.invariant.unknown c.in-Some.interface)))

pub returns-in-None : goal.returns-in-None
returns-in-None c =
    rw (← c.self.view_is)
    (c.copied.ensures ∙ c.get.ensures.value ∙ sym (get_other c.self.inside.others.entries c.self.inside.versions c.args.name.now (sym c.from_name.ensures ∙ c.in-None.is)))
