use Rattle.std.proofs.Common.{◌≤◌, sym, subst, []}
use Rattle.std.specs.Prelude.{IfOk}
use Rattle.ei_session.specs.Setup.{Setup}
use Rattle.ei_types.specs.Capability.{all_bits}
use Rattle.ei_serve.specs.Standing.{Stands}
use Rattle.ei_serve.proofs.session.Session.start_unlimited.Goals as goal

pub start_on-requires : goal.start_on-requires
start_on-requires g c = record { lawful = subst (λ (s : Setup). s.capabilities ≤ all_bits) (sym c.unlimited.ensures) c.requires.lawful }

pub returns-clause-stands : goal.returns-clause-stands
returns-clause-stands g c = subst (λ (s : Setup). IfOk c.start_on.result (λ session. Stands s [] [] session)) c.unlimited.ensures c.start_on.ensures.stands
