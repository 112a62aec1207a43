-- The connection of a client.
use Rattle.std.specs.Prelude.{ℕ, refl}
use Rattle.std.specs.Coded.{Coded, code_by, coded×, coded_ℕ}
use Rattle.ei_spec.specs.Interface.{ObjectView}
use Rattle.ei_backend.specs.Codes.{object_code}
use Rattle.ei_handshake.specs.Versions.{VersionMap, version_code}
use Rattle.ei_handshake.specs.declared.client.HandshakeResp.{HandshakeResp}

-- the connection's object, the last serial, and the versions that the server told
pub record ConnectionView : Type 0 where
  pub proxy : ObjectView
  pub serial : ℕ
  pub negotiated : VersionMap

abbrev pub connection_code : Coded ConnectionView
connection_code = code_by (ObjectView × (ℕ × VersionMap)) (coded× object_code (coded× coded_ℕ version_code))
    (λ c. (c.proxy, (c.serial, c.negotiated))) (λ p. record { proxy = p.0; serial = p.1.0; negotiated = p.1.1 }) (λ _. refl)

-- the connection right after a handshake that answered this
abbrev pub connected : HandshakeResp → ConnectionView
connected resp = record { proxy = resp.connection; serial = resp.serial; negotiated = resp.negotiated_interfaces }
