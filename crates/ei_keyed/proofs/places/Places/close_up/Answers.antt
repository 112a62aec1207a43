use Rattle.std.proofs.Common.{rules, ◌∙◌, ap}
use Rattle.std.proofs.lemmas.Fn.{filter_same}
use Rattle.std.specs.Prelude.{is_some}
use Rattle.ei_keyed.specs.Places.{live}
use Rattle.ei_keyed.proofs.Live.{closed_up}
use Rattle.ei_keyed.proofs.Kept.{kept_closed}
use Rattle.ei_keyed.proofs.places.Places.close_up.Goals as goal

pub invariant_of-self : goal.invariant_of-self
invariant_of-self g c =
    let e = filter_same _ (λ (x : _). is_some x.1) _ (λ x b f' k. search rules) _ _ c.retain.ensures.filtered in
    rw e (kept_closed c.self.inside.all.items c.self.inside.count c.self.inside.rising c.self.invariant)

pub returns-then-self-len-clause-items : goal.returns-then-self-len-clause-items
returns-then-self-len-clause-items g c =
    let e = filter_same _ (λ (x : _). is_some x.1) _ (λ x b f' k. search rules) _ _ c.retain.ensures.filtered in
    rw (← c.self.view_is) (ap live e ∙ closed_up c.self.inside.all.items)
