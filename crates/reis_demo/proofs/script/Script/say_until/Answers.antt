use Rattle.std.proofs.Common.{inr}
use Rattle.reis_demo.proofs.Saying.{all_said}
use Rattle.reis_demo.proofs.script.Script.say_until.Goals as goal

pub returns-else-not-self-clause-full : goal.returns-else-not-self-clause-full
returns-else-not-self-clause-full c = inr (all_said c.loop-self.self c.if-not-self.false)
