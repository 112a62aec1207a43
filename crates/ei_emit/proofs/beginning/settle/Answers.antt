-- The handshakes of a new pair are done, so its server may add the seat.
use Rattle.std.proofs.Common.{ℕ, List, [], Option, ap, subst}
use Rattle.std.proofs.lemmas.Result.{IfOk-weaker}
use Rattle.ei_promises.specs.Pair.{server_done}
use Rattle.ei_emit.specs.Stands.{Begins, emitter}
use Rattle.ei_emit.proofs.beginning.settle.Goals as goal

pub shake-requires : goal.shake-requires
shake-requires g c = record { whole = c.requires.1.new.whole }

pub bring_seat-requires : goal.bring_seat-requires
bring_seat-requires g c =
    let s = (c.in_ok-shake.ensures.shakes c.requires.0 c.requires.1).0 in
    record { whole = s.whole; done = ap server_done s.serves }

pub returns-clause-begins : goal.returns-clause-begins
returns-clause-begins g c = IfOk-weaker c.bring_seat.result _ _ (λ seat begins start new.
    let s = c.in_ok-shake.ensures.shakes start new in
    subst (λ (t : Option (List ℕ)). Begins start t (g.C.Clock.view c.bring_seat.new.clock).left (emitter c.bring_seat.new.pair seat [])) s.1 (begins start new.small s.0)) c.bring_seat.ensures.begins
