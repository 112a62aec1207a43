use Rattle.std.proofs.Common.{arith, ap, ◌∙◌}
use Rattle.ei_spec.specs.Interface.{name_of}
use Rattle.ei_handshake.specs.Versions.{by_name, with_names}
use Rattle.ei_handshake.proofs.GivenVersion.{given_one}
use Rattle.ei_handshake.proofs.OtherNames.{put_among}
use Rattle.ei_handshake.proofs.versions.Versions.insert.Goals as goal

pub returns : goal.returns
returns c =
    let v = c.self.inside in
    rw (← c.self.view_is, c.place.ensures.value)
    (ap (with_names v.others.entries) (given_one v.versions c.args.interface c.args.version (omega (arith, c.self.invariant.places, c.place.ensures.value, c.place.ensures.within)))
    ∙ put_among v.others.entries (by_name v.versions) (name_of c.args.interface) c.args.version (c.self.invariant.unknown c.args.interface))
