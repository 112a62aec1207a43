use Rattle.std.proofs.Common.{sym, ◌∙◌}
use Rattle.ei_event.specs.Typed.{said_of}
use Rattle.ei_iterator.proofs.Hearing.{first_account, turns_account, gives_one, refuses_one}
use Rattle.ei_iterator.proofs.laws.accounts.Goals as goal

pub returns : goal.returns
returns g c = record {
  first = λ k. first_account k (c.events.ensures.first k);
  turns = λ start before readings given s turns a differ. turns_account c.events.ensures.took start before readings given s turns a differ;
  gives = λ start events readings given s left event a first. gives_one start events readings given s left event a first;
  refuses = λ start before readings given s left why a f differ. refuses_one c.events.ensures.took
      (λ from past read k e reason h is. c.frames_after.ensures.nothing from past (said_of e) (c.refused_events.ensures.item past (said_of e) reason (sym (c.refusals.ensures.same from past read k e h) ∙ is)))
      start before readings given s left why a f differ;
}
