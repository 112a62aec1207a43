use Rattle.std.proofs.Common.{refl}
use Rattle.ei_spec.proofs.NameLaws.{known_again, called, name_text, name_short, version_small}
use Rattle.ei_spec.proofs.PlaceLaws.{stands_at}
use Rattle.ei_spec.proofs.laws.all_interfaces.Goals as goal

pub returns : goal.returns
returns c = record { settled = refl; all = refl; names = known_again; named = called; texts = name_text; short = name_short; places = stands_at; versions = version_small }
