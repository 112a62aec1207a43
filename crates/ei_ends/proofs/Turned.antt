-- Two ends, seen from the other one.
use Rattle.std.proofs.Common.{Bool, true, false}
use Rattle.ei_spec.specs.Piece.{Piece}
use Rattle.ei_ends.specs.Sent.{other}
use Rattle.ei_ends.specs.Way.{End, Cut, Tied}

pub swap : (events : Bool) (x y : End) (to_y to_x : Piece) (cx cy : Cut) → Tied events x y to_y to_x cx cy → Tied (other events) y x to_x to_y cy cx
swap true x y to_y to_x cx cy h = record { there = h.back; back = h.there; says = h.answers; answers = h.says }
swap false x y to_y to_x cx cy h = record { there = h.back; back = h.there; says = h.answers; answers = h.says }
