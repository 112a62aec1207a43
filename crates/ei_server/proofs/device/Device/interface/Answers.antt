use Rattle.std.proofs.Common.{◌≡◌, ap, ◌∙◌}
use Rattle.ei_spec.specs.Interface.{Interface, ObjectView, name_of, named}
use Rattle.ei_spec.specs.declared.interface.KnownInterface.{KnownInterface}
use Rattle.ei_server.proofs.NamedKnown.{named_known}
use Rattle.ei_server.proofs.device.Device.interface.Goals as goal

pub new_unchecked-requires : goal.new_unchecked-requires
new_unchecked-requires g c =
    ap (λ (o : ObjectView). o.interface) c.in_ok-object.ensures.sends.object
    ∙ ap (λ (k : KnownInterface). named (name_of k)) c.KNOWN.ensures ∙ named_known g.T.Described.KNOWN
