use Rattle.std.proofs.Common.{reverse, sym, ap, subst}
use Rattle.ei_linked.specs.Held.{stored_by}
use Rattle.ei_backend.specs.Backend.{BackendView, Answers, next}
use Rattle.ei_linked.specs.Stored.{StoredEnd}
use Rattle.ei_linked.specs.TwoEnds.{ReadsRows}
use Rattle.ei_linked.proofs.Kept.{request_row}
use Rattle.ei_linked.proofs.half.Half.read.Goals as goal

pub record_of-requires : goal.record_of-requires
record_of-requires g c =
    let y : StoredEnd = record { backend = (g.C.HasBackend.seen c.self.inside.context); sent = reverse c.self.inside.sent.items; taken = reverse c.self.inside.taken.items } in
    request_row g.T.MessageEnum.target g.T.MessageEnum.code g.T.MessageEnum.values c.args.events g.T.MessageEnum.events c.in-Ok.answer y c.pending.new.self c.in-Some.pending c.in-Request.message
    c.in-Some.is c.in-Request.is c.requires.events
    (subst (λ (b : BackendView). Answers g.T.MessageEnum.target g.T.MessageEnum.code g.T.MessageEnum.values c.in-Ok.answer c.pending.new.self (next g.T.MessageEnum.events b)) c.backend_mut.ensures.value c.in-Ok.ensures.ok)
    (subst (λ (x : StoredEnd). ReadsRows c.args.events x) (sym (ap (stored_by g.C.HasBackend.seen) c.self.view_is)) c.requires.rows)
