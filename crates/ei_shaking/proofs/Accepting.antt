-- What a client sends in its handshake is accepted, one message after another, and what a server sends says something of the handshake.
use Rattle.std.proofs.Common.{◌≡◌, ℕ, Bool, true, false, cond, List, [], ◌∷◌, ◌++◌, Option, Some, None, refl, ap, ◌∙◌}
use Rattle.std.specs.Prelude.{is_some}
use Rattle.std.specs.List.{filter_map}
use Rattle.std.specs.FinMap as finite
use Rattle.ei_spec.specs.declared.interface.KnownInterface.{KnownInterface}
use Rattle.ei_spec.specs.History.{occurs}
use Rattle.ei_spec.specs.Interface.{name_of, the_settled}
use Rattle.ei_spec.specs.NameMap.{NameMap}
use Rattle.ei_backend.specs.Table.{first_server_id}
use Rattle.ei_ends.specs.Sent.{Sent}
use Rattle.ei_ends.specs.Way.{onto}
use Rattle.ei_greeting.specs.Shaking.{Greeter, Begins, Tells, Connects}
use Rattle.ei_greeting.specs.Shaking.{Shake as Event}
use Rattle.ei_shaking.specs.Messages.{greeting, version_event, version_if, version_events, connection_event, settled_by, asked_by}
use Rattle.ei_shaking.specs.Heard.{shake, versions_told, refused, AllAccepted, event_shake, is_finish, is_connection}
use Rattle.ei_shaking.specs.Both.{has, client_answer, client_said, server_said}
use Rattle.ei_shaking.proofs.AllOpen.{all_open}
use Rattle.ei_shaking.proofs.Ontos.{onto_both}
use Rattle.ei_shaking.proofs.UpTo.{has_more, none_passes}

-- ---- a client's messages

pub all_asked : (g : Greeter) → AllAccepted [] (asked_by g)
unfolding all_open
all_asked g = (refl, (refl, (refl, (refl, (refl, (refl, (refl, (refl, (refl, (refl, (refl, (refl, (refl, (refl, (refl, (refl, (refl, tt)))))))))))))))))

pub accepted_at : (first rest past : List Sent) (m : Sent) → AllAccepted past (first ++ (m ∷ rest)) → refused (onto first past) (shake m) ≡ None
accepted_at [] rest past m h = h.0
accepted_at (n ∷ first) rest past m h = accepted_at first rest (n ∷ past) m h.1

-- the last of them is the finish
pub asked_finishes : (g : Greeter) → has is_finish (onto (asked_by g) []) ≡ true
unfolding all_open
asked_finishes g = refl

-- ---- a server's events

-- an event of the handshake that begins none
abbrev goes_on : Option Event → Bool
goes_on None = false
goes_on (Some Begins) = false
goes_on (Some (Tells name version)) = true
goes_on (Some (Connects serial id version)) = true

abbrev pub AllGoOn : List Sent → Type 0
AllGoOn [] = Unit {0}
AllGoOn (m ∷ ms) = (goes_on (event_shake m) ≡ true) × AllGoOn ms

version_goes_on : (i : KnownInterface) (v : ℕ) → goes_on (event_shake (version_event i v)) ≡ true
unfolding all_open
version_goes_on i v = refl

versions_go_on : (versions : NameMap) (is : List KnownInterface) (more : List Sent) → AllGoOn more → AllGoOn (filter_map (version_if versions) is ++ more)
versions_go_on versions [] more h = h
versions_go_on versions (i ∷ is) more h = by (finite.get versions (name_of i)) refl (versions_go_on versions is more h)
  where
    by : (o : Option ℕ) → finite.get versions (name_of i) ≡ o → AllGoOn (filter_map (version_if versions) is ++ more) → AllGoOn (filter_map (version_if versions) (i ∷ is) ++ more)
    by None e next = rw e next
    by (Some v) e next = rw e (version_goes_on i v, next)

pub settled_go_on : (versions : NameMap) (serial id : ℕ) → AllGoOn (settled_by versions serial id)
unfolding all_open
settled_go_on versions serial id = versions_go_on versions the_settled (connection_event serial id ∷ []) (refl, tt)

pub first_go_on : (first rest : List Sent) → AllGoOn (first ++ rest) → AllGoOn first
first_go_on [] rest h = tt
first_go_on (m ∷ first) rest h = (h.0, first_go_on first rest h.1)

no_answer : (g : Greeter) (s : Option Event) → goes_on s ≡ true → client_answer g s ≡ []
no_answer g None h = absurd cc
no_answer g (Some Begins) h = absurd cc
no_answer g (Some (Tells name version)) h = refl
no_answer g (Some (Connects serial id version)) h = refl

-- a client answers none of them
pub said_same : (g : Greeter) (ms past : List Sent) → AllGoOn ms → client_said g (onto ms past) ≡ client_said g past
unfolding client_said
said_same g [] past h = refl
said_same g (m ∷ ms) past h = said_same g ms (m ∷ past) h.1 ∙ ap (λ (l : List Sent). onto l (client_said g past)) (no_answer g (event_shake m) h.0)

-- and answers the first event of a server
pub said_first : (g : Greeter) → client_said g (greeting ∷ []) ≡ onto (asked_by g) []
unfolding client_said event_shake
said_first g = refl

-- ---- each of them says something of the handshake

abbrev pub AllSay : List Sent → Type 0
AllSay [] = Unit {0}
AllSay (m ∷ ms) = (is_some (event_shake m) ≡ true) × AllSay ms

it_says : (s : Option Event) → goes_on s ≡ true → is_some s ≡ true
it_says None h = absurd cc
it_says (Some e) h = refl

pub onto_say : (ms past : List Sent) → AllGoOn ms → AllSay past → AllSay (onto ms past)
onto_say [] past h s = s
onto_say (m ∷ ms) past h s = onto_say ms (m ∷ past) h.1 (it_says (event_shake m) h.0, s)

pub first_says : AllSay (greeting ∷ [])
unfolding all_open
first_says = (refl, tt)

pub says_at : (x : List Sent) (m : Sent) (past : List Sent) → AllSay (x ++ (m ∷ past)) → is_some (event_shake m) ≡ true
says_at [] m past h = h.0
says_at (n ∷ x) m past h = says_at x m past h.1

-- ---- the connection is the last

pub is_the_last : (serial id : ℕ) → is_connection (connection_event serial id) ≡ true
unfolding all_open
is_the_last serial id = refl

version_is_none : (i : KnownInterface) (v : ℕ) → is_connection (version_event i v) ≡ false
unfolding all_open
version_is_none i v = refl

none_more : (m : Sent) (past : List Sent) → is_connection m ≡ false → has is_connection past ≡ false → has is_connection (m ∷ past) ≡ false
none_more m past e n = has_more is_connection m past ∙ rw e n

none_handed : (versions : NameMap) (is : List KnownInterface) (past : List Sent) → has is_connection past ≡ false → has is_connection (onto (filter_map (version_if versions) is) past) ≡ false
none_handed versions [] past h = h
none_handed versions (i ∷ is) past h = by (λ p n. none_handed versions is p n) (finite.get versions (name_of i)) refl
  where
    by : ((p : List Sent) → has is_connection p ≡ false → has is_connection (onto (filter_map (version_if versions) is) p) ≡ false) → (o : Option ℕ) → finite.get versions (name_of i) ≡ o →
        has is_connection (onto (filter_map (version_if versions) (i ∷ is)) past) ≡ false
    by next None e = rw e (next past h)
    by next (Some v) e = rw e (next (version_event i v ∷ past) (none_more (version_event i v) past (version_is_none i v) h))

pub begun_alone : has is_connection (greeting ∷ []) ≡ false
unfolding occurs event_shake
begun_alone = refl

pub versions_alone : (versions : NameMap) → has is_connection (onto (version_events versions) (greeting ∷ [])) ≡ false
unfolding version_events
versions_alone versions = none_handed versions the_settled (greeting ∷ []) begun_alone

pub ends_with_it : (versions : NameMap) (serial id : ℕ) → onto (settled_by versions serial id) (greeting ∷ []) ≡ connection_event serial id ∷ onto (version_events versions) (greeting ∷ [])
ends_with_it versions serial id = onto_both (version_events versions) (connection_event serial id ∷ []) (greeting ∷ [])

-- ---- what a server has said

pub server_quiet : (serial : ℕ) (past : List Sent) → has is_finish past ≡ false → server_said serial past ≡ greeting ∷ []
unfolding server_said
server_quiet serial [] h = refl
server_quiet serial (m ∷ past) h =
    let n = none_passes is_finish m past h in
    ap (λ (b : Bool). onto (cond b (settled_by (versions_told past) serial first_server_id) []) (server_said serial past)) n.0 ∙ server_quiet serial past n.1
