-- What two ends with handshakers and converters are made of, and the pair that it is.
use Rattle.std.specs.Prelude.{◌≡◌, ◌⊎◌, ℕ, Bool, List, Option, Some, None, refl}
use Rattle.std.proofs.Common.{inl, inr}
use Rattle.std.specs.Coded.{Coded, code_by, coded×, coded⊎, coded_ℕ, coded_bool, coded_list, coded_option}
use Rattle.ei_spec.specs.Piece.{Piece}
use Rattle.ei_backend.specs.Backend.{BackendView}
use Rattle.ei_backend.specs.Codes.{backend_code, piece_code}
use Rattle.ei_linked.specs.contracts.record.Record as record_type
use Rattle.ei_linked.specs.declared.record.Record.{Record}
use Rattle.ei_linked.specs.contracts.record.Got as got_type
use Rattle.ei_linked.specs.declared.record.Got.{Got as StoredGot}
use Rattle.ei_linked.specs.Stored.{StoredEnd}
use Rattle.ei_linked.specs.Ends.{EndsView, ends_code, world_in}
use Rattle.ei_linked.specs.TwoEnds.{WorldView}
use Rattle.ei_handshake.specs.Client.{ClientView, client_code}
use Rattle.ei_handshake.specs.Handshaker.{HandshakerView, handshaker_code}
use Rattle.ei_event.specs.Converter.{ConverterView as ClientConverter, converter_code as client_converter_code}
use Rattle.ei_request.specs.Converter.{ConverterView as ServerConverter, converter_code as server_converter_code}
use Rattle.ei_promises.specs.Pair.{ClientStage, Asks, Follows, ServerStage, Shakes, Serves, PairView}
use Rattle.ei_pair.specs.contracts.server_end.ServerEnd as server_end_type
use Rattle.ei_pair.specs.declared.server_end.ServerEnd.{ServerEnd}
use Rattle.ei_pair.specs.declared.server_end.ServerEnd.TheVariants as end
use Rattle.ei_pair.specs.ServerEnd.{endpoint_in}

-- both ends, both handshakers and the client's converter, the serial that the connection will bear, whether the server was steady,
-- and whether a step of the client or of the server wanted memory
pub record PartsView (H : Type 0) : Type 0 where
  pub ends : EndsView ServerEnd
  pub asks : ClientView
  pub tells : HandshakerView
  pub converter : Option (ClientConverter H)
  pub serial : ℕ
  pub steady : Bool
  pub client_wanted : Bool
  pub server_wanted : Bool

abbrev pub parts_code : {H : Type 0} → Coded H → Coded (PartsView H)
parts_code {H} code = code_by (EndsView ServerEnd × (ClientView × (HandshakerView × (Option (ClientConverter H) × (ℕ × (Bool × (Bool × Bool)))))))
    (coded× (ends_code server_end_type.the_row.coded) (coded× client_code (coded× handshaker_code (coded× (coded_option (client_converter_code code)) (coded× coded_ℕ (coded× coded_bool (coded× coded_bool coded_bool)))))))
    (λ p. (p.ends, (p.asks, (p.tells, (p.converter, (p.serial, (p.steady, (p.client_wanted, p.server_wanted))))))))
    (λ q. record { ends = q.0; asks = q.1.0; tells = q.1.1.0; converter = q.1.1.1.0; serial = q.1.1.1.1.0; steady = q.1.1.1.1.1.0; client_wanted = q.1.1.1.1.1.1.0; server_wanted = q.1.1.1.1.1.1.1 })
    (λ _. refl)

-- ---- the pair

-- a client shakes hands until it has a converter
abbrev pub client_in : {H : Type 0} → ClientView → Option (ClientConverter H) → ClientStage H
client_in h None = Asks h
client_in h (Some c) = Follows c

-- and so does a server
abbrev pub server_in : HandshakerView → ServerEnd → ServerStage
server_in h (end.Shaking b) = Shakes h
server_in h (end.Talking c) = Serves c

-- what contracts see of these parts
abbrev pub pair_in : {H : Type 0} → PartsView H → PairView H
pair_in p = record {
  ends = world_in endpoint_in p.ends;
  client = client_in p.asks p.converter;
  server = server_in p.tells p.ends.server.context;
  steady = p.steady;
  client_wanted = p.client_wanted;
  server_wanted = p.server_wanted;
}

-- ---- its code

abbrev pub stored_code : Coded StoredEnd
stored_code = code_by (BackendView × (List Record × List StoredGot))
    (coded× backend_code (coded× (coded_list record_type.the_row.coded) (coded_list got_type.the_row.coded)))
    (λ x. (x.backend, (x.sent, x.taken))) (λ p. record { backend = p.0; sent = p.1.0; taken = p.1.1 }) (λ _. refl)

abbrev pub world_code : Coded WorldView
world_code = code_by (StoredEnd × (StoredEnd × (Piece × (Piece × Bool))))
    (coded× stored_code (coded× stored_code (coded× piece_code (coded× piece_code coded_bool))))
    (λ w. (w.client, (w.server, (w.to_client, (w.to_server, w.spent)))))
    (λ p. record { client = p.0; server = p.1.0; to_client = p.1.1.0; to_server = p.1.1.1.0; spent = p.1.1.1.1 })
    (λ _. refl)

abbrev client_split : {H : Type 0} → ClientStage H → ClientView ⊎ ClientConverter H
client_split (Asks h) = inl h
client_split (Follows c) = inr c

abbrev client_join : {H : Type 0} → ClientView ⊎ ClientConverter H → ClientStage H
client_join (inl h) = Asks h
client_join (inr c) = Follows c

pub client_back : {H : Type 0} (s : ClientStage H) → client_join (client_split s) ≡ s
client_back (Asks h) = refl
client_back (Follows c) = refl

abbrev pub client_stage_code : {H : Type 0} → Coded H → Coded (ClientStage H)
client_stage_code {H} code = code_by (ClientView ⊎ ClientConverter H) (coded⊎ client_code (client_converter_code code)) client_split client_join client_back

abbrev server_split : ServerStage → HandshakerView ⊎ ServerConverter
server_split (Shakes h) = inl h
server_split (Serves c) = inr c

abbrev server_join : HandshakerView ⊎ ServerConverter → ServerStage
server_join (inl h) = Shakes h
server_join (inr c) = Serves c

pub server_back : (s : ServerStage) → server_join (server_split s) ≡ s
server_back (Shakes h) = refl
server_back (Serves c) = refl

abbrev pub server_stage_code : Coded ServerStage
server_stage_code = code_by (HandshakerView ⊎ ServerConverter) (coded⊎ handshaker_code server_converter_code) server_split server_join server_back

abbrev pub pair_code : {H : Type 0} → Coded H → Coded (PairView H)
pair_code {H} code = code_by (WorldView × (ClientStage H × (ServerStage × (Bool × (Bool × Bool)))))
    (coded× world_code (coded× (client_stage_code code) (coded× server_stage_code (coded× coded_bool (coded× coded_bool coded_bool)))))
    (λ p. (p.ends, (p.client, (p.server, (p.steady, (p.client_wanted, p.server_wanted))))))
    (λ q. record { ends = q.0; client = q.1.0; server = q.1.1.0; steady = q.1.1.1.0; client_wanted = q.1.1.1.1.0; server_wanted = q.1.1.1.1.1 })
    (λ _. refl)
