-- An iterator of a client's events, by what a caller sees of it.
use Rattle.std.specs.Prelude.{ℕ, List, Option, refl}
use Rattle.std.specs.Coded.{Coded, code_by, coded×, coded_ℕ}
use Rattle.ei_backend.specs.Backend.{BackendView}
use Rattle.ei_backend.specs.Codes.{backend_code}
use Rattle.ei_backend.specs.Outside.{SinkView}
use Rattle.ei_event.specs.Connection.{ConnectionView}
use Rattle.ei_event.specs.Converter.{ConverterView, converter_code, new_converter}
use Rattle.ei_iterator.specs.Around.{Around, around}

-- the endpoint, the converter of its events, and how many pieces one call may take
pub record IteratorView (H : Type 0) : Type 0 where
  pub context : BackendView
  pub converter : ConverterView H
  pub pieces : ℕ

abbrev pub iterator_code : {H : Type 0} → Coded H → Coded (IteratorView H)
iterator_code {H} code = code_by (BackendView × (ConverterView H × ℕ)) (coded× backend_code (coded× (converter_code code) coded_ℕ))
    (λ i. (i.context, (i.converter, i.pieces))) (λ p. record { context = p.0; converter = p.1.0; pieces = p.1.1 }) (λ _. refl)

-- right after the handshake
abbrev pub new_iterator : {H : Type 0} → BackendView → ConnectionView → ℕ → IteratorView H
new_iterator context connection pieces = record { context = context; converter = new_converter connection; pieces = pieces }

-- an iterator with what is lent to it
abbrev pub lent : {H : Type 0} → IteratorView H → SinkView → Option (List ℕ) → Around H
lent i sink readings = around i.context i.converter sink readings
