use Rattle.std.proofs.Common.{◌≤◌, length, map, arith}
use Rattle.ei_serve.specs.Standing.{setup_of}
use Rattle.ei_replay.specs.Asked.{asked_of}
use Rattle.ei_replay.proofs.Checking.{all_seen}
use Rattle.ei_replay.proofs.SoFar.{refused, not_begun}
use Rattle.ei_replay.proofs.record_replay.replay.Goals as goal

pub returns-in_err-check : goal.returns-in_err-check
returns-in_err-check c = record {
  replays = refused (setup_of c.args.setup.now) (map asked_of c.args.items.now) c.in_err-check.field-0.0 c.from_residual.result c.args.stream.now.items c.args.out.now.items c.from_residual.ensures.1 c.in_err-check.ensures;
}

pub returns-in_err-player : goal.returns-in_err-player
returns-in_err-player c = record {
  replays = not_begun (setup_of c.args.setup.now) (map asked_of c.args.items.now) c.from_residual-in_err-player.result c.args.stream.now.items c.args.out.now.items c.from_residual-in_err-player.ensures.1;
}

pub play_all-played-requires : goal.play_all-played-requires
play_all-played-requires c =
    let items = map asked_of c.args.items.now in
    let short : length items ≤ 4294967000 = omega (arith, all_seen asked_of c.args.items.now, c.requires.few) in
    record {
      can = record {
        setup = setup_of c.args.setup.now;
        ready = record { right = c.in_ok-check.ensures; borne = c.read_all.ensures; few = short; begun = c.in_ok-player.ensures };
      };
    }

pub returns : goal.returns
returns c =
    let items = map asked_of c.args.items.now in
    let short : length items ≤ 4294967000 = omega (arith, all_seen asked_of c.args.items.now, c.requires.few) in
    record {
      replays = c.play_all-played.ensures (setup_of c.args.setup.now) (record { right = c.in_ok-check.ensures; borne = c.read_all.ensures; few = short; begun = c.in_ok-player.ensures });
    }
