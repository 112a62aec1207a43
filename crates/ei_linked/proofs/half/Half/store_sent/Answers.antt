use Rattle.std.proofs.Common.{◌≡◌, ap, sym, subst, ◌∙◌}
use Rattle.std.specs.Prelude.{reverse, OnErr}
use Rattle.ei_linked.specs.Held.{Held}
use Rattle.ei_linked.proofs.Storing.{cut_is}
use Rattle.ei_linked.proofs.half.Half.store_sent.Goals as goal

pub returns-then-is_err-clause-err : goal.returns-then-is_err-clause-err
returns-then-is_err-clause-err g c =
    let cut = cut_is c.store_all-stored.result c.args.self.now c.store_all-stored.new.self c.self.inside.sent.items c.self-2.inside.sent.items c.truncate.new.self.items c.len-count.result
    (ap (λ (h : Held g.row.C.Denot). h.sent) c.self.view_is) (ap (λ (h : Held g.row.C.Denot). h.sent) c.self-2.view_is) (c.len-count.ensures ∙ c.self.inside.sent.ok.0) c.store_all-stored.ensures.more c.truncate.ensures.items in
    subst (λ (h : Held g.row.C.Denot). OnErr c.store_all-stored.result (◌≡◌ {A = Held g.row.C.Denot} (record { context = h.context; sent = reverse c.truncate.new.self.items; taken = h.taken }) c.args.self.now)) (sym c.self-2.view_is) cut
