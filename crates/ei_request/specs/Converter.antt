-- The server's converter.
use Rattle.std.specs.Prelude.{List, refl}
use Rattle.std.specs.Coded.{Coded, code_by, coded×, coded_list}
use Rattle.ei_request.specs.Connection.{ConnectionView, connection_code}
use Rattle.ei_request.specs.declared.event.EisRequest.{EisRequest}
use Rattle.ei_request.specs.contracts.event.EisRequest as event

-- the connection, and the requests that wait to be handed out
pub record ConverterView : Type 0 where
  pub handle : ConnectionView
  pub queue : List EisRequest

abbrev pub converter_code : Coded ConverterView
converter_code = code_by (ConnectionView × List EisRequest) (coded× connection_code (coded_list event.the_row.coded)) (λ c. (c.handle, c.queue)) (λ
    p. record { handle = p.0; queue = p.1 }) (λ _. refl)
