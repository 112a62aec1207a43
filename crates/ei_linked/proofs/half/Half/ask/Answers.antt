use Rattle.std.proofs.Common.{◌≡◌, ℕ, ◌<◌, ◌^◌, ap, sym, subst, ◌∙◌}
use Rattle.ei_backend.specs.Backend.{BackendView}
use Rattle.ei_ends.specs.Sent.{new_of}
use Rattle.ei_linked.specs.declared.record.Record.{Record}
use Rattle.ei_linked.specs.Held.{stored_by}
use Rattle.ei_linked.specs.Stored.{sent_view}
use Rattle.ei_linked.specs.Asked.{asked, IsNext}
use Rattle.ei_linked.proofs.Sending.{asked_next, asked_sendable, same_sends, on_ok}
use Rattle.ei_linked.proofs.half.Half.ask.Goals as goal

pub send-requires : goal.send-requires
send-requires g c =
    let own : ℕ = (g.C.HasBackend.seen c.args.self.now.context).table.next_own in
    let e : c.next_id-next.result ≡ own = c.next_id-next.ensures ∙ ap (λ (b : BackendView). b.table.next_own) c.backend.ensures ∙ ap (λ x. (g.C.HasBackend.seen x.context).table.next_own) c.self.view_is in
    let wanted : ℕ → Record = λ i. asked i c.args.target.id c.args.target.interface c.args.target.version c.args.opcode c.args.values.now in
    let same : c.in_ok-message.message ≡ wanted own = c.in_ok-message.ensures.asked ∙ ap wanted e in
    let lt : own < 2 ^ 64 = subst (λ (i : ℕ). i < 2 ^ 64) e c.in_ok-message.ensures.fits.0 in
    record {
      next = subst (λ (r : Record). IsNext own (new_of c.args.events (sent_view r))) (sym same)
          (asked_next c.args.events own c.args.target.id c.args.target.interface c.args.target.version c.args.opcode c.args.values.now lt c.in_ok-message.ensures.lawful c.requires.row);
    }

pub returns-clause-sends : goal.returns-clause-sends
returns-clause-sends g c =
    let own : ℕ = (g.C.HasBackend.seen c.args.self.now.context).table.next_own in
    let e : c.next_id-next.result ≡ own = c.next_id-next.ensures ∙ ap (λ (b : BackendView). b.table.next_own) c.backend.ensures ∙ ap (λ x. (g.C.HasBackend.seen x.context).table.next_own) c.self.view_is in
    let wanted : ℕ → Record = λ i. asked i c.args.target.id c.args.target.interface c.args.target.version c.args.opcode c.args.values.now in
    same_sends c.args.events c.in_ok-message.message (wanted own) c.send.result (stored_by g.C.HasBackend.seen c.args.self.now) (stored_by g.C.HasBackend.seen c.send.new.self) (c.in_ok-message.ensures.asked ∙ ap wanted e) c.send.ensures.sends

pub returns-clause-sendable : goal.returns-clause-sendable
returns-clause-sendable g c =
    let own : ℕ = (g.C.HasBackend.seen c.args.self.now.context).table.next_own in
    let e : c.next_id-next.result ≡ own = c.next_id-next.ensures ∙ ap (λ (b : BackendView). b.table.next_own) c.backend.ensures ∙ ap (λ x. (g.C.HasBackend.seen x.context).table.next_own) c.self.view_is in
    let fits = c.in_ok-message.ensures.fits in
    let lt : own < 2 ^ 64 = subst (λ (i : ℕ). i < 2 ^ 64) e fits.0 in
    on_ok c.send.result _
    (asked_sendable c.args.events own c.args.target.id c.args.target.interface c.args.target.version c.args.opcode c.args.values.now lt fits.1 fits.2 c.in_ok-message.ensures.lawful c.requires.row)
