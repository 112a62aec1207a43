use Rattle.std.proofs.Common.{sym, ◌∙◌}
use Rattle.ei_keyed.proofs.Rising.{at_place_of, same_key}
use Rattle.ei_keyed.proofs.finding.place_if.Goals as goal

pub returns-then-is_some : goal.returns-then-is_some
returns-then-is_some g c =
    record {
      place = at_place_of c.args.places.now c.args.key c.args.at c.index-places-at.result c.requires.rises
          (record { within = c.requires.within; has = λ d. same_key c.args.places.now c.args.key c.args.at c.index-places-at.result d c.requires.within c.index-places-at.is c.if-key-place.true })
          c.index-places-at.is (sym c.is_some.ensures ∙ c.if-is_some.true);
    }
