use Rattle.std.proofs.Common.{map, arith}
use Rattle.ei_replay.specs.Asked.{asked_of}
use Rattle.ei_replay.proofs.Borne.{borne_none, borne_more, borne_all}
use Rattle.ei_replay.proofs.Checking.{seen_at, all_seen}
use Rattle.ei_replay.proofs.bearing.read_all.Goals as goal

pub loop-at-init : goal.loop-at-init
loop-at-init c = borne_none (map asked_of c.args.items.now)

pub loop-at-preserved : goal.loop-at-preserved
loop-at-preserved c =
    let items = c.args.items.now in
    borne_more (map asked_of items) c.loop-at.at (asked_of c.index-items-at.result)
    (seen_at asked_of items c.loop-at.at c.index-items-at.result c.loop-at-test.true c.index-items-at.is) c.read.ensures c.loop-at.invariant

pub returns : goal.returns
returns c =
    let items = c.args.items.now in
    borne_all (map asked_of items) c.loop-at.at (let past = c.loop-at-test.false in omega (arith, all_seen asked_of items, past)) c.loop-at.invariant
