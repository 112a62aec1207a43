use Rattle.std.proofs.Common.{◌≡◌, Ok, length, ap, sym, subst, ◌∙◌, arith}
use Rattle.ei_spec.specs.Reading.{Unread}
use Rattle.ei_backend.specs.Message.{Parsed, message_read}
use Rattle.ei_backend.proofs.BodyIs.{says}
use Rattle.ei_backend.proofs.Shorter.{shorter_ok}
use Rattle.ei_backend.proofs.reading.read_body.Goals as goal

pub left_over-requires-clause-rest : goal.left_over-requires-clause-rest
left_over-requires-clause-rest g c =
    let shorter = shorter_ok g.T.MessageEnum.events c.args.target.interface c.args.opcode c.new-stream.result c.args.table.now _ c.in-Ok.ensures.read in
    let whole = ap (λ (s : Unread). length s.bytes) c.new-stream.ensures in
    omega (arith, shorter, whole, c.rest-rest.ensures)

pub returns-else-rest-ne0-clause-ok : goal.returns-else-rest-ne0-clause-ok
returns-else-rest-ne0-clause-ok g c = λ rest b.
    let p : Parsed = record { values = g.T.MessageEnum.values c.in-Ok.message; table = c.parse-parsed.new.table; unread = c.parse-parsed.new.bytes } in
    let read = subst (λ (s : Unread). message_read g.T.MessageEnum.events c.args.target.interface c.args.opcode s c.args.table.now ≡ Ok p) c.new-stream.ensures c.in-Ok.ensures.read in
    rw (c.in-Ok.ensures.target.0, c.in-Ok.ensures.target.1, c.handles_taken.ensures)
    (says g.T.MessageEnum.events c.args.target c.args.opcode c.args.body.now c.args.handles.now c.args.table.now p.table p.values p.unread rest b read (sym c.rest-rest.ensures ∙ c.if-rest-ne0.false))
