use Rattle.ei_backend.specs.Table.{found}
use Rattle.ei_backend.proofs.Beside.{lawful_beside}
use Rattle.ei_backend.proofs.reading.read_lawful.Goals as goal

pub returns-clause-read : goal.returns-clause-read
returns-clause-read g c =
    let e = g.T.MessageEnum in
    lawful_beside e.target e.code e.values c.parse_lawful.result e.events c.in_ok-target.target.now c.args.id c.args.opcode c.args.body.now c.new-stream.result c.parse_lawful.new.bytes c.args.table.now
    (found c.args.table.now c.args.id) c.new-stream.ensures c.in_ok-target.ensures.object c.parse_lawful.ensures.read c.parse_lawful.ensures.target
