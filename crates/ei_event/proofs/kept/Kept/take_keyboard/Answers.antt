use Rattle.std.proofs.Common.{refl}
use Rattle.ei_event.proofs.kept.Kept.take_keyboard.Goals as goal

pub returns-in-Modifiers-clause-does : goal.returns-in-Modifiers-clause-does
returns-in-Modifiers-clause-does g c = rw c.in-Modifiers.is (c.modifiers.ensures.does _ _ _ _ refl)
