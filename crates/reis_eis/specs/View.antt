-- What a connection shows.
use Rattle.std.specs.Prelude.{List, Option, refl}
use Rattle.std.specs.Coded.{Coded, code_by, coded×, coded_list, coded_option}
use Rattle.reis_eis.specs.declared.phase.Phase.{Phase}
use Rattle.reis_eis.specs.contracts.phase.Phase as phases
use Rattle.reis_eis.specs.declared.ending.Ending.{Ending}
use Rattle.reis_eis.specs.contracts.ending.Ending as endings
use Rattle.reis_eis.specs.declared.notice.Notice.{Notice}
use Rattle.reis_eis.specs.contracts.notice.Notice as notices

-- The phase, which has the endpoint, and behind the handshake the seats, the devices and the requests that wait; how the connection ended,
-- where it did; and the notices that wait.
pub record EisView : Type 0 where
  pub phase : Phase
  pub ending : Option Ending
  pub notices : List Notice

abbrev pub eis_code : Coded EisView
eis_code = code_by (Phase × (Option Ending × List Notice))
    (coded× phases.the_row.coded (coded× (coded_option endings.the_row.coded) (coded_list notices.the_row.coded)))
    (λ e. (e.phase, (e.ending, e.notices))) (λ p. record { phase = p.0; ending = p.1.0; notices = p.1.1 }) (λ _. refl)
