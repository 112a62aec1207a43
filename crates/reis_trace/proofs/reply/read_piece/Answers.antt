use Rattle.reis_trace.proofs.OnePieces.{came, no_end}
use Rattle.reis_trace.proofs.reply.read_piece.Goals as goal

pub unreachable-requires : goal.unreachable-requires
unreachable-requires c =
    let e = c.in-Err-UnexpectedEof in
    no_end c.new-source.result.bytes.now _ _ _ _ _ (rw c.new-source.ensures c.requires.some) (rw e.field-0-is at (e.ensures.reads.reads c.requires.open))

pub returns-in-Ok : goal.returns-in-Ok
returns-in-Ok c = rw (← c.new-source.ensures) (came c.new-source.result.bytes.now _ _ _ _ _ _ (rw c.new-source.ensures c.requires.some) (c.in-Ok.ensures.reads.reads c.requires.open))
