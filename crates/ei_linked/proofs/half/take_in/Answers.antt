use Rattle.std.proofs.Common.{ap, arith, Some}
use Rattle.ei_spec.specs.Piece.{Piece}
use Rattle.ei_backend.specs.Outside.{SourceView}
use Rattle.ei_linked.specs.Delivered.{PortionView, seen_portion}
use Rattle.ei_linked.proofs.Pieces.{read_piece}
use Rattle.ei_linked.proofs.half.take_in.Goals as goal

pub returns : goal.returns
returns c =
    let p : Piece = record { bytes = c.args.bytes.now; handles = c.args.handles.now } in
    let before : SourceView = seen_portion c.new-portion.result in
    let after : SourceView = seen_portion c.read.new.source in
    record {
      takes_in = read_piece p c.read.result before after c.args.backend.now c.read.new.self
          (ap (λ (s : PortionView). Some s.left) c.new-portion.ensures) (c.read.ensures.reads.reads c.requires.opened)
          (λ e. let rose = c.read.ensures.reads.lent.read_fault e in omega (arith, rose));
    }
