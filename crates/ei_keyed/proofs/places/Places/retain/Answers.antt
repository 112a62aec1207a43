use Rattle.std.proofs.Common.{◌≡◌, true, ap, ◌∙◌, rules}
use Rattle.std.proofs.lemmas.Fn.{filter_same, All-from_retain}
use Rattle.std.specs.Prelude.{is_some}
use Rattle.ei_keyed.specs.Places.{live}
use Rattle.ei_keyed.proofs.Live.{filtered, keeps}
use Rattle.ei_keyed.proofs.Kept.{kept_chosen, valued_true, decided}
use Rattle.ei_keyed.proofs.places.Places.retain.Goals as goal

pub invariant_of-self : goal.invariant_of-self
invariant_of-self g c =
    let h = c.retain.ensures.filtered in
    let all = All-from_retain _ (λ (x : _). is_some x.1 ≡ true) _ (λ x b f' k. search (rules, valued_true)) _ _ h in
    kept_chosen c.self.inside.all.items c.self.inside.count c.self.inside.rising h.0 c.retain.new.self.items c.len-self-inside.result c.self.invariant h.4 (c.len-self-inside.ensures ∙ c.retain.new.self.ok.0) all

pub returns-clause-items : goal.returns-clause-items
returns-clause-items g c = λ kept decides.
    let e = filter_same _ (λ (x : _). keeps kept x.1) _ (λ x b f' k. search (rules, decided)) _ _ c.retain.ensures.filtered in
    rw (← c.self.view_is) (ap live e ∙ filtered kept c.self.inside.all.items)
