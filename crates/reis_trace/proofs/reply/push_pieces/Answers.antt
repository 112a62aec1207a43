use Rattle.std.proofs.Common.{subst, sym, ◌∙◌}
use Rattle.reis_trace.specs.SoFar.{IsTraced}
use Rattle.reis_trace.proofs.Tracing.{fresh_follows, end_followed, still_none, piece_last, piece_follows, parts_of}
use Rattle.reis_trace.proofs.reply.push_pieces.Goals as goal

pub loop-rest-init : goal.loop-rest-init
loop-rest-init c = fresh_follows c.args.reply.now c.args.lines.now.items c.args.client.now c.requires.none c.requires.fresh

pub read_piece-requires-clause-open : goal.read_piece-requires-clause-open
read_piece-requires-clause-open c = c.loop-rest.invariant.open_still

pub read_piece-requires-clause-no_handles : goal.read_piece-requires-clause-no_handles
read_piece-requires-clause-no_handles c = c.loop-rest.invariant.no_handles

pub push_whole-requires : goal.push_whole-requires
push_whole-requires c =
    let piece = c.split_at.result.0.now in
    let behind = c.split_at.result.1.now in
    still_none c.args.reply.now c.loop-rest.lines.items c.loop-rest.rest.now piece behind c.loop-rest.client c.read_piece.new.client c.loop-rest.invariant
    (parts_of c.min.result c.loop-rest.rest.now piece behind c.split_at.ensures.front c.split_at.ensures.back) c.in_ok-read_piece.ensures

pub returns-then-not-branch : goal.returns-then-not-branch
returns-then-not-branch c =
    let piece = c.split_at.result.0.now in
    let behind = c.split_at.result.1.now in
    piece_last c.args.reply.now c.loop-rest.lines.items c.loop-rest.rest.now piece behind c.loop-rest.client c.read_piece.new.client c.loop-rest.invariant
    (parts_of c.min.result c.loop-rest.rest.now piece behind c.split_at.ensures.front c.split_at.ensures.back) c.in_ok-read_piece.ensures
    c.push_whole.new.lines.items
    (subst (λ b. IsTraced b c.read_piece.new.client c.push_whole.new.client c.loop-rest.lines.items c.push_whole.new.lines.items) c.if-not-branch.true c.in_ok-push_whole.ensures)

pub loop-rest-preserved : goal.loop-rest-preserved
loop-rest-preserved c =
    let piece = c.split_at.result.0.now in
    let behind = c.split_at.result.1.now in
    piece_follows c.args.reply.now c.loop-rest.lines.items c.loop-rest.rest.now piece behind c.loop-rest.client c.read_piece.new.client c.loop-rest.invariant
    (parts_of c.min.result c.loop-rest.rest.now piece behind c.split_at.ensures.front c.split_at.ensures.back) c.in_ok-read_piece.ensures
    c.push_whole.new.lines.items c.push_whole.new.client
    (subst (λ b. IsTraced b c.read_piece.new.client c.push_whole.new.client c.loop-rest.lines.items c.push_whole.new.lines.items) c.if-not-branch.false c.in_ok-push_whole.ensures)

pub returns : goal.returns
returns c = end_followed c.args.reply.now c.loop-rest.lines.items c.loop-rest.rest.now c.loop-rest.client c.loop-rest.invariant (sym c.is_empty.ensures ∙ c.loop-rest-test.false)
