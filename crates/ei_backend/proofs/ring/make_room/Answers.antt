use Rattle.std.proofs.Common.{◌≡◌, arith}
use Rattle.ei_backend.specs.Ring.{grown}
use Rattle.ei_backend.proofs.RingLaws.{grown_room, grown_stays}
use Rattle.ei_backend.proofs.ring.make_room.Goals as goal

pub resize-requires : goal.resize-requires
resize-requires c = omega (arith, grown_room c.len.result c.capacity.result, c.in-Some.ensures, c.len.ensures.len)

pub returns-in_default-clause-room : goal.returns-in_default-clause-room
returns-in_default-clause-room c = λ room.
    let same : grown c.len.result c.capacity.result ≡ c.capacity.result = grown_stays _ _ (omega (arith, room, c.len.ensures.len, c.capacity.ensures.capacity)) in
    absurd (omega (arith, same, c.in_default.ensures, c.capacity.auto))

pub returns-in_err-resize-clause-room : goal.returns-in_err-resize-clause-room
returns-in_err-resize-clause-room c = λ room.
    let same : grown c.len.result c.capacity.result ≡ c.capacity.result = grown_stays _ _ (omega (arith, room, c.len.ensures.len, c.capacity.ensures.capacity)) in
    absurd (omega (arith, same, c.in-Some.ensures, c.if-capacity.true, c.capacity.ensures.capacity, c.capacity-2.ensures.capacity))
