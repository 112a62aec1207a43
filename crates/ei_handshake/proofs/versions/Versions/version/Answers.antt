use Rattle.std.proofs.Common.{sym}
use Rattle.ei_handshake.proofs.OtherNames.{get_among}
use Rattle.ei_handshake.proofs.versions.Versions.version.Goals as goal

pub returns : goal.returns
returns c = rw (← c.self.view_is, c.place.ensures.value) (sym (get_among c.self.inside.others.entries c.self.inside.versions c.args.interface (c.self.invariant.unknown c.args.interface)))
