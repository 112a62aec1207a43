use Rattle.std.proofs.Common.{◌≡◌, ◌+◌, ◌≤◌, [], length, map, drop, Some, ◌∙◌, arith}
use Rattle.std.specs.Prelude.{slice_get}
use Rattle.ei_replay.specs.Asked.{asked_of}
use Rattle.ei_replay.specs.Sending.{of_most_pieces}
use Rattle.ei_replay.proofs.Checking.{seen_at, all_seen}
use Rattle.ei_replay.proofs.SoFar.{same_first, played_first, comes, played_next, breaks_next, breaks_first, all_played_back}
use Rattle.ei_replay.proofs.record_replay.play_all.Goals as goal

pub open-requires : goal.open-requires
open-requires c =
    let x = c.requires.can in
    record { can = record { setup = of_most_pieces x.setup; begun = x.ready.begun } }

pub returns-in_err-open : goal.returns-in_err-open
returns-in_err-open c = λ setup x.
    breaks_first setup (map asked_of c.args.items.now) x.right x.borne x.few c.in_err-open.field-0.0 c.from_residual.result c.open.new.self
    c.args.stream.now.items c.open.new.stream.items c.args.out.now.items c.open.new.out.items c.from_residual.ensures.1 (c.in_err-open.ensures (of_most_pieces setup) x.begun)

pub loop-at-init : goal.loop-at-init
loop-at-init c = λ setup x.
    let items = map asked_of c.args.items.now in
    played_first (of_most_pieces setup) items c.open.new.self c.args.stream.now.items c.open.new.stream.items c.args.out.now.items c.open.new.out.items (same_first setup [] items ∙ x.right) (c.in_ok-open.ensures (of_most_pieces setup) x.begun)

pub play-requires : goal.play-requires
play-requires c =
    let items = map asked_of c.args.items.now in
    let item = asked_of c.index-items-at.result in
    let here : slice_get items c.loop-at.at ≡ Some item = seen_at asked_of c.args.items.now c.loop-at.at c.index-items-at.result c.loop-at-test.true c.index-items-at.is in
    let x = c.requires.can in
    let t = c.loop-at.invariant x.setup x.ready in
    record {
      can = record {
        setup = of_most_pieces x.setup;
        before = t.before;
        next = slice_get (drop (c.loop-at.at + 1) items) 0;
        comes = comes x.setup items x.ready.right x.ready.borne x.ready.few c.loop-at.at c.loop-at.player c.args.stream.now.items c.loop-at.stream.items c.args.out.now.items c.loop-at.out.items t item here;
      };
    }

pub returns-in_err-play : goal.returns-in_err-play
returns-in_err-play c = λ setup x.
    let items = map asked_of c.args.items.now in
    let item = asked_of c.index-items-at.result in
    let here : slice_get items c.loop-at.at ≡ Some item = seen_at asked_of c.args.items.now c.loop-at.at c.index-items-at.result c.loop-at-test.true c.index-items-at.is in
    let t = c.loop-at.invariant setup x in
    let next = comes setup items x.right x.borne x.few c.loop-at.at c.loop-at.player c.args.stream.now.items c.loop-at.stream.items c.args.out.now.items c.loop-at.out.items t item here in
    breaks_next setup items x.right x.borne x.few c.loop-at.at c.loop-at.player c.args.stream.now.items c.loop-at.stream.items c.args.out.now.items c.loop-at.out.items t item here
    c.in_err-play.field-0.0 c.from_residual-in_err-play.result c.play.new.self c.play.new.stream.items c.play.new.out.items c.from_residual-in_err-play.ensures.1
    (c.in_err-play.ensures (of_most_pieces setup) t.before (slice_get (drop (c.loop-at.at + 1) items) 0) next)

pub loop-at-preserved : goal.loop-at-preserved
loop-at-preserved c = λ setup x.
    let items = map asked_of c.args.items.now in
    let item = asked_of c.index-items-at.result in
    let here : slice_get items c.loop-at.at ≡ Some item = seen_at asked_of c.args.items.now c.loop-at.at c.index-items-at.result c.loop-at-test.true c.index-items-at.is in
    let t = c.loop-at.invariant setup x in
    let next = comes setup items x.right x.borne x.few c.loop-at.at c.loop-at.player c.args.stream.now.items c.loop-at.stream.items c.args.out.now.items c.loop-at.out.items t item here in
    played_next setup items x.right x.borne x.few c.loop-at.at c.loop-at.player c.args.stream.now.items c.loop-at.stream.items c.args.out.now.items c.loop-at.out.items t item here
    c.play.new.self c.play.new.stream.items c.play.new.out.items
    (c.in_ok-play.ensures (of_most_pieces setup) t.before (slice_get (drop (c.loop-at.at + 1) items) 0) next)

pub returns : goal.returns
returns c = λ setup x.
    let items = map asked_of c.args.items.now in
    let past : length items ≤ c.loop-at.at = (let over = c.loop-at-test.false in omega (arith, all_seen asked_of c.args.items.now, over)) in (
      x.right,
      all_played_back setup items c.loop-at.at c.loop-at.player c.args.stream.now.items c.loop-at.stream.items c.args.out.now.items c.loop-at.out.items x.right x.borne x.few past (c.loop-at.invariant setup x),
    )
