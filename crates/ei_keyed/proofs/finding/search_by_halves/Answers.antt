use Rattle.std.proofs.Common.{sym, ap, ◌∙◌}
use Rattle.std.specs.Prelude.{is_some}
use Rattle.ei_keyed.proofs.Rising.{at_place_of, no_value}
use Rattle.ei_keyed.proofs.finding.search_by_halves.Goals as goal

pub returns-then-is_some : goal.returns-then-is_some
returns-then-is_some g c = sym (at_place_of c.args.places.now c.args.key c.in_ok-at.at c.index-places-at.result c.requires c.in_ok-at.ensures.found c.index-places-at.is (ap (λ (z : _). is_some z.1) c.index-places-at.is ∙ sym c.is_some.ensures ∙ c.if-is_some.true))

pub returns-else-is_some : goal.returns-else-is_some
returns-else-is_some g c = sym (no_value c.args.places.now c.args.key c.in_ok-at.at c.index-places-at.result c.requires c.in_ok-at.ensures.found c.index-places-at.is (ap (λ (z : _). is_some z.1) c.index-places-at.is ∙ sym c.is_some.ensures ∙ c.if-is_some.false))
