use Rattle.std.proofs.Common.{◌≡◌, Err, ap, ◌∙◌, length, arith}
use Rattle.std.proofs.lemmas.Result.{err_from_is_err_and}
use Rattle.ei_backend.specs.Backend.{BackendView}
use Rattle.ei_linked.specs.declared.written.StoreError.{StoreError}
use Rattle.ei_linked.proofs.Storing.{all_stored_at, one_stops, goes_on, more_twice}
use Rattle.ei_linked.proofs.half.Half.store_all.Goals as goal

pub returns-then-at-end-clause-stores : goal.returns-then-at-end-clause-stores
returns-then-at-end-clause-stores g c = λ ms w.
    let is : c.unsent_len-end.result ≡ length (g.C.HasBackend.seen c.args.self.now.context).unsent = c.unsent_len-end.ensures ∙ ap (λ (b : BackendView). length b.unsent) (c.backend.ensures ∙ ap (λ h. g.C.HasBackend.seen h.context) c.self.view_is) in
    let p = c.loop-message.invariant in
    all_stored_at g.C.HasBackend.seen c.args.events c.args.before c.loop-message.at c.loop-message._message c.unsent_len-end.result ms c.args.self.now c.loop-message.self (p.goes ms w) p.more is c.if-at-end.true

pub returns-in_err-at-clause-stores : goal.returns-in_err-at-clause-stores
returns-in_err-at-clause-stores g c = λ ms w.
    let is : c.unsent_len-end.result ≡ length (g.C.HasBackend.seen c.args.self.now.context).unsent = c.unsent_len-end.ensures ∙ ap (λ (b : BackendView). length b.unsent) (c.backend.ensures ∙ ap (λ h. g.C.HasBackend.seen h.context) c.self.view_is) in
    let p = c.loop-message.invariant in
    let q = err_from_is_err_and c.from_residual.result c.from_residual.ensures.1 in
    one_stops g.C.HasBackend.seen c.args.events c.args.before c.loop-message.at c.loop-message._message c.unsent_len-end.result ms c.args.self.now c.loop-message.self c.store_next.new.self c.from_residual.result c.store_next.result c.in_err-at.field-0.0 (p.goes ms w) p.more is c.if-at-end.false
    c.store_next.ensures.stores (q.1 ∙ ap (λ (e : StoreError). Err e) q.2) c.in_err-at.was

pub returns-in_err-at-clause-more : goal.returns-in_err-at-clause-more
returns-in_err-at-clause-more g c = more_twice c.args.self.now c.loop-message.self c.store_next.new.self c.loop-message.invariant.more c.store_next.ensures.more

pub loop-message-preserved : goal.loop-message-preserved
loop-message-preserved g c =
    let is : c.unsent_len-end.result ≡ length (g.C.HasBackend.seen c.args.self.now.context).unsent = c.unsent_len-end.ensures ∙ ap (λ (b : BackendView). length b.unsent) (c.backend.ensures ∙ ap (λ h. g.C.HasBackend.seen h.context) c.self.view_is) in
    let p = c.loop-message.invariant in
    record {
      goes = λ ms w. goes_on g.C.HasBackend.seen c.args.events c.args.before c.loop-message.at c.in_ok-at.at c.loop-message._message c.unsent_len-end.result ms c.args.self.now c.loop-message.self c.store_next.new.self (p.goes ms w) p.more is c.if-at-end.false c.in_ok-at.ensures.stores;
      more = more_twice c.args.self.now c.loop-message.self c.store_next.new.self p.more c.store_next.ensures.more;
    }

pub returns-clause-stores : goal.returns-clause-stores
returns-clause-stores g c = λ ms w.
    let is : c.unsent_len-end.result ≡ length (g.C.HasBackend.seen c.args.self.now.context).unsent = c.unsent_len-end.ensures ∙ ap (λ (b : BackendView). length b.unsent) (c.backend.ensures ∙ ap (λ h. g.C.HasBackend.seen h.context) c.self.view_is) in
    let p = c.loop-message.invariant in
    let going = p.goes ms w in
    all_stored_at g.C.HasBackend.seen c.args.events c.args.before c.loop-message.at c.loop-message._message c.unsent_len-end.result ms c.args.self.now c.loop-message.self going p.more is (omega (arith, going.far, c.loop-message-test.false))
