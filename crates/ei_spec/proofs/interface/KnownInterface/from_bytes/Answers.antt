use Rattle.std.proofs.Common.{ap, ◌∙◌}
use Rattle.std.specs.List.{find}
use Rattle.ei_spec.specs.Interface.{is_called}
use Rattle.ei_spec.proofs.NamesByLength.{known_among}
use Rattle.ei_spec.proofs.interface.KnownInterface.from_bytes.Goals as goal

pub returns : goal.returns
returns c =
    c.copied.ensures ∙ c.first_named.ensures ∙ ap (find (is_called c.args.name.now)) c.of_length.ensures ∙ known_among c.args.name.now
