use Rattle.std.proofs.Common.{◌≡◌, ◌+◌, ◌∙◌, ℕ, [], length, refl, ap, rules, arith}
use Rattle.std.proofs.lemmas.List.{length-append}
use Rattle.ei_serve.specs.Standing.{setup_of}
use Rattle.ei_serve.proofs.Lent.{sink_unfailed}
use Rattle.ei_hub.proofs.Limits.{is_within}
use Rattle.ei_hub.proofs.Places.{pushed_at, pushed_others, starts_alone, within_pushed}
use Rattle.ei_hub.proofs.hub.Hub.join.Goals as goal

pub returns-in-Ok-clause-alone : goal.returns-in-Ok-clause-alone
returns-in-Ok-clause-alone g c = λ d at.
    let n : c.len-number.result ≡ length c.args.self.now.clients.items = search rules in
    let same = pushed_at _ _ _ _ d _ c.push_reserved.ensures.items c.reserve.ensures.items n at in
    rw (← same) (starts_alone (setup_of c.args.self.now.setup) _ _ refl c.in-Ok.ensures.stands refl c.new.ensures.items c.in-Ok.ensures.greeted)

pub returns-in-Ok-clause-came : goal.returns-in-Ok-clause-came
returns-in-Ok-clause-came g c = λ d at.
    let n : c.len-number.result ≡ length c.args.self.now.clients.items = search rules in
    let same = pushed_at _ _ _ _ d _ c.push_reserved.ensures.items c.reserve.ensures.items n at in
    rw (← same) (refl, sink_unfailed _ _ c.in-Ok.ensures.sink)

pub invariant_of-self-in-Ok-clause-within : goal.invariant_of-self-in-Ok-clause-within
invariant_of-self-in-Ok-clause-within g c =
    within_pushed c.args.self.now.setup.pieces _ _ c.args.self.now.clients.items _ c.push_reserved.ensures.items c.reserve.ensures.items c.args.self.now.within
    (λ none. is_within c.args.self.now.setup.pieces (setup_of c.args.self.now.setup) [] [] _ refl c.in-Ok.ensures.stands)

pub returns-in-Ok-clause-one_more : goal.returns-in-Ok-clause-one_more
returns-in-Ok-clause-one_more g c =
    let n : c.len-number.result ≡ length c.args.self.now.clients.items = search rules in
    record {
      number = n;
      room = omega (arith, n, c.if-number-ge-MOST_CLIENTS.false);
      count = ap length c.push_reserved.ensures.items ∙ length-append _ _ ∙ ap (λ (k : ℕ). k + 1) (ap length c.reserve.ensures.items);
      others = pushed_others _ _ c.args.self.now.clients.items _ c.push_reserved.ensures.items c.reserve.ensures.items;
    }
