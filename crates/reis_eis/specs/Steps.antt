-- What becomes of a message, by names that other crates can use: the types are this crate's own.
use Rattle.ei_handshake.specs.declared.server.EisHandshakeResp.{EisHandshakeResp}
use Rattle.reis_eis.specs.declared.ending.Ending.{Ending}
use Rattle.reis_eis.specs.declared.notice.Notice.{Notice}
use Rattle.reis_eis.specs.declared.shaking.Shaken.{Shaken}
use Rattle.reis_eis.specs.declared.shaking.Shaken.TheVariants as shaken
use Rattle.reis_eis.specs.declared.step.Step.{Step}
use Rattle.reis_eis.specs.declared.step.Step.TheVariants as step

-- a message that waits, that was handled, without or with a notice, or that ended the connection
abbrev pub AnyStep : Type 0
AnyStep = Step

pattern abbrev pub Waiting : Step
Waiting = step.Waiting

pattern abbrev pub Handled : Step
Handled = step.Handled

pattern abbrev pub Noted : Notice → Step
Noted told = step.Noted told

pattern abbrev pub Ended : Ending → Step
Ended how = step.Ended how

-- what a handshake came to: it goes on, or it is done
abbrev pub AnyShaken : Type 0
AnyShaken = Shaken

pattern abbrev pub Still : Step → Shaken
Still s = shaken.Still s

pattern abbrev pub Done : EisHandshakeResp → Shaken
Done resp = shaken.Done resp
