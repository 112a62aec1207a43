use Rattle.std.proofs.Common.{◌≡◌, ◌≤◌, length, ap, refl, arith}
use Rattle.reis_eis.specs.declared.phase.Phase.{Phase}
use Rattle.reis_eis.specs.Words.{unsent_in}
use Rattle.reis_eis.specs.View.{EisView}
use Rattle.reis_eis.proofs.Flushing.{flushed_in}
use Rattle.reis_eis.proofs.connection.Connection.sent.Goals as goal

pub returns-clause-dropped : goal.returns-clause-dropped
returns-clause-dropped c =
    let e : EisView = record { phase = c.self.inside.phase; ending = c.self.inside.ending; notices = c.self.inside.notices.items } in
    let here : c.self.inside.phase ≡ c.args.self.now.phase = ap (λ (v : EisView). v.phase) c.self.view_is in
    let waits : length c.unsent.result.now ≡ length (unsent_in c.self.inside.phase).bytes = cc (c.unsent.ensures, here) in
    let fits : c.args.bytes ≤ length (unsent_in c.self.inside.phase).bytes = omega (arith, waits, c.if-bytes-unsent.false) in
    let left = flushed_in _ _ c.of-sink.result c.flush.new.sink c.args.bytes c.of-sink.result.left c.of-sink.result.faults c.of-sink.result.taken.piece c.flush.new.sink.left c.flush.new.sink.faults c.flush.new.sink.taken.piece
    c.of-sink.ensures.left c.of-sink.ensures.faults c.of-sink.ensures.taken refl refl (λ l. l) c.self.inside.phase c.flush.new.self c.flush.result c.self.invariant fits c.flush.ensures.flushes in
    rw (← c.self.view_is) (ap (λ (p : Phase). record e { phase = p }) left)
