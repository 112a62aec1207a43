-- What the laws of two ends that shake hands say, as the proofs here take it.
use Rattle.std.proofs.Common.{◌≡◌, ℕ, ◌<◌, ◌≤◌, ◌^◌, true, false, List, [], ◌∷◌, ◌++◌, length, None}
use Rattle.std.specs.Prelude.{is_some}
use Rattle.std.specs.Str.{is_utf8}
use Rattle.ei_spec.specs.Message.{all_bytes}
use Rattle.ei_spec.specs.NameMap.{NameMap}
use Rattle.ei_backend.specs.Table.{first_server_id}
use Rattle.ei_ends.specs.Sent.{Sent, Got}
use Rattle.ei_ends.specs.Way.{End, onto}
use Rattle.ei_ends.specs.Steps.{after_calls}
use Rattle.ei_ends.specs.Joined.{AreListedCalls}
use Rattle.ei_greeting.specs.Shaking.{Greeter}
use Rattle.ei_greeting.specs.Shaking as greeter
use Rattle.ei_shaking.specs.Messages.{greeting, settled_by, asked_by}
use Rattle.ei_shaking.specs.Sending.{AreVersions}
use Rattle.ei_shaking.specs.Heard.{shake, versions_told, refused, event_shake, is_finish, is_connection, collected}
use Rattle.ei_shaking.specs.Both.{up_to, is_handed, is_finished, client_answer, server_answer, Side, Hears, AreShaking}

pub record ShakingLaws : Type 0 where
  pub begins : (g : Greeter) (serial : ℕ) → AreShaking g serial (record { sent = greeting ∷ []; taken = [] }) (record { sent = []; taken = [] })
  pub server_takes : (g : Greeter) (serial : ℕ) (server client : Side) → AreShaking g serial server client → (m : Sent) → Hears (m ∷ server.taken) client.sent → is_finished server.taken ≡ false →
      AreShaking g serial (record { sent = onto (server_answer serial server.taken m) server.sent; taken = m ∷ server.taken }) client
  pub client_takes : (g : Greeter) (serial : ℕ) (server client : Side) → AreShaking g serial server client → (m : Sent) → Hears (m ∷ client.taken) server.sent → is_handed client.taken ≡ false →
      AreShaking g serial server (record { sent = onto (client_answer g (event_shake m)) client.sent; taken = m ∷ client.taken })
  pub server_later : (g : Greeter) (serial : ℕ) (server client : Side) → AreShaking g serial server client → (sent taken : List Sent) → is_finished server.taken ≡ true → Hears (taken ++ server.taken) client.sent →
      AreShaking g serial (record { sent = sent ++ server.sent; taken = taken ++ server.taken }) client
  pub server_refuses : (g : Greeter) (serial : ℕ) (server client : Side) → AreShaking g serial server client → (m : Sent) → Hears (m ∷ server.taken) client.sent → is_finished server.taken ≡ false → refused server.taken (shake m) ≡ None
  pub client_refuses : (g : Greeter) (serial : ℕ) (server client : Side) → AreShaking g serial server client → (m : Sent) → Hears (m ∷ client.taken) server.sent → is_handed client.taken ≡ false → is_some (event_shake m) ≡ true
  pub handed : (g : Greeter) (serial : ℕ) (server client : Side) → AreShaking g serial server client → length server.taken ≡ length client.sent → length client.taken ≡ length server.sent → is_handed client.taken ≡ true
  pub versions : (g : Greeter) (serial : ℕ) (server client : Side) → AreShaking g serial server client → is_handed client.taken ≡ true → collected (up_to is_connection client.taken) ≡ versions_told (up_to is_finish server.taken)
  pub client_sends : (g : Greeter) (x : End) → (after_calls false (asked_by g) x).backend ≡ record x.backend { unsent = x.backend.unsent ++ all_bytes (greeter.greeting g 0) }
  pub client_may : (g : Greeter) (taken : List Got) → is_utf8 g.name ≡ true → length g.name ≤ 1048555 → AreListedCalls false (asked_by g) [] taken
  pub short : (g : Greeter) → length g.name ≤ 1048555 → greeter.is_long g 0 ≡ false
  pub may_settle : (versions : NameMap) (serial : ℕ) (taken : List Got) → serial < 2 ^ 32 → AreVersions versions → AreListedCalls true (settled_by versions serial first_server_id) (greeting ∷ []) taken
  pub small : (past : List Sent) → AreVersions (versions_told past)
