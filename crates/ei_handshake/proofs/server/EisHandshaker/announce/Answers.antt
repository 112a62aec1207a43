use Rattle.std.proofs.Common.{sym, ◌∙◌, refl}
use Rattle.ei_handshake.proofs.Keeping.{kept_known}
use Rattle.ei_handshake.proofs.server.EisHandshaker.announce.Goals as goal

pub returns : goal.returns
returns c =
    let kept =
    kept_known c.self.inside.versions c.args.name.now c.args.version c.in-Some.interface c.in-Some-server_version.own (sym c.interface.ensures ∙ c.in-Some.is)
    (sym c.server_version.ensures ∙ c.in-Some-server_version.is) in
    rw (← c.self.view_is, c.insert.ensures, c.min.ensures, kept) refl
