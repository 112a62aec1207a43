use Rattle.std.proofs.Common.{rules}
use Rattle.std.proofs.lemmas.List.Sorted.{answers_always}
use Rattle.ei_keyed.proofs.Rising.{searched}
use Rattle.ei_keyed.proofs.finding.place_of.Goals as goal

pub returns : goal.returns
returns g c =
    let facts = c.binary_search_by_key.ensures in
    let by_key = facts.position (λ place. place.0) (answers_always _ _ _ (λ f a r g called. search rules)) in
    rw c.ok.ensures.value (searched c.args.places.now c.args.key c.binary_search_by_key.result c.requires facts.bound by_key)
