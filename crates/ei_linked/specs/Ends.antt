-- Two ends over links, of which the server's endpoint stands in what holds it.
use Rattle.std.specs.Prelude.{◌≡◌, Bool, false, [], refl}
use Rattle.std.specs.Coded.{Coded, code_by, coded×, coded_bool}
use Rattle.ei_spec.specs.Piece.{Piece}
use Rattle.ei_backend.specs.Backend.{BackendView}
use Rattle.ei_backend.specs.Codes.{backend_code, piece_code}
use Rattle.ei_ends.specs.Steps.{no_piece}
use Rattle.ei_linked.specs.Held.{Held, held_code, stored_by}
use Rattle.ei_linked.specs.TwoEnds.{WorldView}

-- both ends, what lies between them on the way to each, and whether what the last call did isn't stored whole
pub record EndsView (S : Type 0) : Type 0 where
  pub client : Held BackendView
  pub server : Held S
  pub to_client : Piece
  pub to_server : Piece
  pub spent : Bool

abbrev pub ends_code : {S : Type 0} → Coded S → Coded (EndsView S)
ends_code {S} code = code_by (Held BackendView × (Held S × (Piece × (Piece × Bool))))
    (coded× (held_code backend_code) (coded× (held_code code) (coded× piece_code (coded× piece_code coded_bool))))
    (λ e. (e.client, (e.server, (e.to_client, (e.to_server, e.spent)))))
    (λ p. record { client = p.0; server = p.1.0; to_client = p.1.1.0; to_server = p.1.1.1.0; spent = p.1.1.1.1 })
    (λ _. refl)

-- the two ends, by their endpoints alone
abbrev pub world_in : {S : Type 0} → (S → BackendView) → EndsView S → WorldView
world_in seen e = record {
  client = stored_by (λ b. b) e.client;
  server = stored_by seen e.server;
  to_client = e.to_client;
  to_server = e.to_server;
  spent = e.spent;
}

-- two new ends of these
abbrev pub IsNewEnds : {S : Type 0} → BackendView → S → EndsView S → Type 0
IsNewEnds client server e = e ≡ record {
  client = record { context = client; sent = []; taken = [] };
  server = record { context = server; sent = []; taken = [] };
  to_client = no_piece;
  to_server = no_piece;
  spent = false;
}
