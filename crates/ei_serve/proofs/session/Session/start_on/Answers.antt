use Rattle.std.proofs.Common.{[], refl, inr}
use Rattle.ei_serve.specs.Standing.{terms_of}
use Rattle.ei_serve.proofs.BetweenTurns.{holds_little, not_over}
use Rattle.ei_serve.proofs.Running.{stands_for_none}
use Rattle.ei_serve.proofs.session.Session.start_on.Goals as goal

pub invariant_of-result : goal.invariant_of-result
invariant_of-result g c = inr (record { setup = terms_of c.args.terms; pieces = []; times = []; stands = stands_for_none (terms_of c.args.terms) _ refl (c.in_ok-phase.ensures.stands (terms_of c.args.terms) c.requires.lawful refl) refl })

pub returns-clause-stands : goal.returns-clause-stands
returns-clause-stands g c = stands_for_none (terms_of c.args.terms) _ refl (c.in_ok-phase.ensures.stands (terms_of c.args.terms) c.requires.lawful refl) refl

pub returns-clause-going : goal.returns-clause-going
returns-clause-going g c = not_over (terms_of c.args.terms) [] [] _ (stands_for_none (terms_of c.args.terms) _ refl (c.in_ok-phase.ensures.stands (terms_of c.args.terms) c.requires.lawful refl) refl)

pub returns-clause-little : goal.returns-clause-little
returns-clause-little g c = holds_little _ (inr (record { setup = terms_of c.args.terms; pieces = []; times = []; stands = stands_for_none (terms_of c.args.terms) _ refl (c.in_ok-phase.ensures.stands (terms_of c.args.terms) c.requires.lawful refl) refl }))
