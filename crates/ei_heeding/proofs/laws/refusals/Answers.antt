use Rattle.ei_event.specs.Typed.{said_of}
use Rattle.ei_event.specs.Core.{core_of}
use Rattle.ei_heeding.proofs.laws.refusals.Goals as goal

pub returns : goal.returns
returns c = record { same = λ start before readings k e h. c.refusals.ensures.same start before readings (core_of k) (said_of e) h.follows }
