-- Two ends that shake hands, by what each of them sent and took: the newest first.
use Rattle.std.specs.Prelude.{◌≡◌, ℕ, Bool, false, List, [], ◌∷◌, ◌++◌, length, Option, Some, None, if◌then◌else◌}
use Rattle.std.specs.List.{list_any}
use Rattle.std.specs.FinMap as finite
use Rattle.ei_spec.specs.History.{occurs}
use Rattle.ei_spec.specs.Interface.{is_called, the_settled}
use Rattle.ei_spec.specs.NameMap.{NameMap}
use Rattle.ei_backend.specs.Table.{first_server_id}
use Rattle.ei_ends.specs.Sent.{Sent}
use Rattle.ei_ends.specs.Agree.{oldest}
use Rattle.ei_ends.specs.Way.{onto}
use Rattle.ei_greeting.specs.Shaking.{Greeter, Begins}
use Rattle.ei_greeting.specs.Shaking.{Shake as Event}
use Rattle.ei_shaking.specs.Messages.{greeting, settled_by, asked_by}
use Rattle.ei_shaking.specs.Heard.{versions_told, is_finish, event_shake, is_connection}

-- ---- where a handshake ends

-- whether one of these passes
abbrev pub has : (Sent → Bool) → List Sent → Bool
has test past = occurs (λ before m. test m) past

-- these up to the first that passes, or all of them
unfoldable pub up_to : (Sent → Bool) → List Sent → List Sent
up_to test [] = []
up_to test (m ∷ past) = if has test past then up_to test past else m ∷ past

-- the client was told that of the server's connection, and the server that the client is done
abbrev pub is_handed : List Sent → Bool
is_handed past = has is_connection past

abbrev pub is_finished : List Sent → Bool
is_finished past = has is_finish past

-- ---- what an end says in its handshake, by what it took

-- a client answers a server that begins
abbrev pub client_answer : Greeter → Option Event → List Sent
client_answer g (Some Begins) = asked_by g
client_answer g said = []

unfoldable pub client_said : Greeter → List Sent → List Sent
client_said g [] = []
client_said g (m ∷ past) = onto (client_answer g (event_shake m)) (client_said g past)

-- a server begins, and answers a client that is done
abbrev pub server_answer : ℕ → List Sent → Sent → List Sent
server_answer serial past m = if is_finish m then settled_by (versions_told past) serial first_server_id else []

unfoldable pub server_said : ℕ → List Sent → List Sent
server_said serial [] = greeting ∷ []
server_said serial (m ∷ past) = onto (server_answer serial past m) (server_said serial past)

-- ---- both

-- what an end sent and what it took
pub record Side : Type 0 where
  pub sent : List Sent
  pub taken : List Sent

-- an end sent what it says in its handshake, and nothing behind it before it is done
pub record HasSaid (said : List Sent) (done : Bool) (sent : List Sent) : Type 0 where
  pub more : List Sent
  pub is : sent ≡ more ++ said
  pub none : done ≡ false → more ≡ []

-- an end took the oldest of what the other sent
abbrev pub Hears : List Sent → List Sent → Type 0
Hears taken sent = taken ≡ oldest (length taken) sent

-- Two ends that shake hands, however far each of them is. The server's connection will bear the serial.
pub record AreShaking (g : Greeter) (serial : ℕ) (server client : Side) : Type 0 where
  pub server_says : HasSaid (server_said serial (up_to is_finish server.taken)) (is_finished server.taken) server.sent
  pub client_says : HasSaid (client_said g (up_to is_connection client.taken)) (is_handed client.taken) client.sent
  pub server_hears : Hears server.taken client.sent
  pub client_hears : Hears client.taken server.sent

-- versions of no names but those of the interfaces that a handshake settles
abbrev pub OnlySettled : NameMap → Type 0
OnlySettled versions = (name : List ℕ) → list_any (is_called name) the_settled ≡ false → finite.get versions name ≡ None
