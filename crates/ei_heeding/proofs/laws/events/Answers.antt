use Rattle.std.proofs.Common.{[], ◌∷◌, ◌++◌, sym, ap, ◌∙◌, subst}
use Rattle.ei_following.specs.Core.{Core, closed_group, used_by}
use Rattle.ei_following.specs.Following.{Follows}
use Rattle.ei_event.specs.Typed.{said_of}
use Rattle.ei_event.specs.Core.{core_of}
use Rattle.ei_heeding.proofs.Events.{after_is, placed_after}
use Rattle.ei_heeding.proofs.First.{new_is, new_placed}
use Rattle.ei_heeding.proofs.laws.events.Goals as goal

pub returns : goal.returns
returns c = record {
  first = λ k. record { follows = subst (Follows k.serial [] []) (sym (new_is k)) (c.events.ensures.first k.serial); placed = new_placed k };
  took = λ start before readings k e time h u.
      let took = c.events.ensures.took start before readings (core_of k) (said_of e) time h.follows u in
      let is = after_is k e time h.placed in
      record {
        heeds = record {
          follows = subst (Follows start (said_of e ∷ before) (readings ++ used_by (closed_group (core_of k) (said_of e)) time)) (sym is) took.follows;
          placed = placed_after k e time h.placed;
        };
        queue = λ later. ap (λ (x : Core). x.queue) is ∙ took.queue later;
      };
}
