-- What a `Strict` shows.
use Rattle.std.specs.Prelude.{Option, refl}
use Rattle.std.specs.Coded.{Coded, code_by, coded×, coded_option}
use Rattle.ei_request.specs.declared.event.EisRequest.{EisRequest}
use Rattle.ei_request.specs.contracts.event.EisRequest as request
use Rattle.reis_strict.specs.Devices.{Devices, devices_code}

-- what is kept of the devices, and the request that is held back, where one is
pub record StrictView : Type 0 where
  pub devices : Devices
  pub held : Option EisRequest

abbrev pub strict_code : Coded StrictView
strict_code = code_by (Devices × Option EisRequest) (coded× devices_code (coded_option request.the_row.coded))
    (λ s. (s.devices, s.held)) (λ p. record {
      devices = p.0;
      held = p.1;
    }) (λ _. refl)

-- the same with these devices
abbrev pub with_devices : StrictView → Devices → StrictView
with_devices s devices = record s { devices = devices }
