-- Worked lines of a trace.
use Rattle.std.proofs.Common.{◌≡◌, [], ◌∷◌, ◌++◌, refl}
use Rattle.std.specs.Prelude.{codes}
use Rattle.std.specs.Fmt.{digits}
use Rattle.ei_spec.specs.declared.interface.KnownInterface.TheVariants as known
use Rattle.ei_spec.specs.Interface.{Known, known_of}
use Rattle.ei_spec.specs.Value.{Word, Long}
use Rattle.reis_trace.specs.Traced.{event_line}

pub first_line : event_line (Known known.Handshake) 0 0 (Word 1 ∷ []) ≡ codes " -> ei_handshake@0.handshake_version(1)" ++ 10 ∷ []
unfolding known_of digits
first_line = refl

pub connection_line : event_line (Known known.Handshake) 0 2 (Word 5 ∷ Long 0xff00000000000000 ∷ Word 1 ∷ []) ≡ codes " -> ei_handshake@0.connection(5, id ff00000000000000)" ++ 10 ∷ []
unfolding known_of digits
connection_line = refl
