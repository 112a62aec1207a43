-- What two ends that shake hands sent and took, message by message.
use Rattle.std.proofs.Common.{◌≡◌, ℕ, Bool, true, false, cond, ◌⊎◌, inl, inr, List, [], ◌∷◌, ◌++◌, length, map, Option, Some, None, refl, sym, ap, subst, ◌∙◌, length-append, arith}
use Rattle.std.specs.Prelude.{is_some}
use Rattle.std.specs.List.{filter_map}
use Rattle.std.specs.FinMap as finite
use Rattle.ei_spec.specs.declared.interface.KnownInterface.{KnownInterface}
use Rattle.ei_spec.specs.declared.interface.KnownInterface.TheVariants as known
use Rattle.ei_spec.specs.History.{occurs}
use Rattle.ei_spec.specs.Interface.{the_settled, name_of, known_of}
use Rattle.ei_spec.proofs.NameLaws.{known_again}
use Rattle.ei_spec.specs.NameMap.{NameMap}
use Rattle.ei_backend.specs.Table.{first_server_id}
use Rattle.ei_ends.specs.Sent.{Sent, row_of, new_of}
use Rattle.ei_told.specs.Told.{hands_over as gives_connection}
use Rattle.ei_ends.specs.Way.{onto}
use Rattle.ei_greeting.specs.Shaking.{Greeter, Begins, Tells, Connects}
use Rattle.ei_greeting.specs.Shaking.{Shake as Event}
use Rattle.ei_shaking.specs.Messages.{greeting, version_event, version_if, version_events, connection_event, settled_by, version_request, told_by, finish, asked_by}
use Rattle.ei_shaking.specs.Heard.{shake, versions_told, event_shake, is_finish, is_connection}
use Rattle.ei_shaking.specs.Both.{up_to, is_handed, is_finished, client_answer, client_said, server_answer, server_said, Side, Hears, AreShaking}
use Rattle.ei_promises.proofs.Lists.{not_both, onto_both, behind, has_more, none_has, has_behind, none_passes, none_behind, up_to_none, first_is, whole_end}

-- ---- what a client is told

-- an event of the handshake that begins none
abbrev pub goes_on : Option Event → Bool
goes_on None = false
goes_on (Some Begins) = false
goes_on (Some (Tells name version)) = true
goes_on (Some (Connects serial id version)) = true

-- an event tells of an interface of the protocol, if it tells of any
abbrev pub is_known : Option Event → Bool
is_known (Some (Tells name version)) = is_some (known_of name)
is_known s = true

-- a message that announces nothing and hands nothing over
abbrev pub IsQuiet : Sent → Type 0
IsQuiet m = (new_of true m ≡ None) × (gives_connection m ≡ false)

-- a message to the handshake's object that goes on; only the one that hands the connection over announces anything
abbrev pub GoesOn : Sent → Type 0
GoesOn m = (goes_on (event_shake m) ≡ true) × (m.target ≡ 0) × (m.interface ≡ known.Handshake) × (is_known (event_shake m) ≡ true) × (is_connection m ≡ false → IsQuiet m)

abbrev pub AllGoOn : List Sent → Type 0
AllGoOn [] = Unit {0}
AllGoOn (m ∷ ms) = GoesOn m × AllGoOn ms

-- the next message to a client that was told these: the first begins
abbrev pub IsNext : Sent → List Sent → Type 0
IsNext m [] = m ≡ greeting
IsNext m (p ∷ past) = GoesOn m

-- so is each, until the connection was handed over
abbrev pub TellsOn : List Sent → Type 0
TellsOn [] = Unit {0}
TellsOn (m ∷ past) = (is_handed past ≡ false → IsNext m past) × TellsOn past

tells_end : (x past : List Sent) → TellsOn (x ++ past) → TellsOn past
tells_end [] past h = h
tells_end (m ∷ x) past h = tells_end x past h.1

tells_front : (x past : List Sent) → is_handed past ≡ true → TellsOn past → TellsOn (x ++ past)
tells_front [] past t h = h
tells_front (m ∷ x) past t h = (λ n. absurd (not_both (is_handed (x ++ past)) (has_behind is_connection x past t) n), tells_front x past t h)

tells_onto : (ms : List Sent) (p : Sent) (past : List Sent) → AllGoOn ms → TellsOn (p ∷ past) → TellsOn (onto ms (p ∷ past))
tells_onto [] p past all h = h
tells_onto (m ∷ ms) p past all h = tells_onto ms m (p ∷ past) all.1 ((λ n. all.0), h)

version_goes_on : (i : KnownInterface) (v : ℕ) → GoesOn (version_event i v)
unfolding event_shake row_of
version_goes_on i v = (refl, refl, refl, ap is_some (known_again i), λ n. (refl, refl))

connection_goes_on : (serial id : ℕ) → GoesOn (connection_event serial id)
unfolding event_shake
connection_goes_on serial id = (refl, refl, refl, refl, λ n. absurd (not_both (is_connection (connection_event serial id)) refl n))

versions_go_on : (versions : NameMap) (is : List KnownInterface) (more : List Sent) → AllGoOn more → AllGoOn (filter_map (version_if versions) is ++ more)
versions_go_on versions [] more h = h
versions_go_on versions (i ∷ is) more h = by (finite.get versions (name_of i)) refl (versions_go_on versions is more h)
  where
    by : (o : Option ℕ) → finite.get versions (name_of i) ≡ o → AllGoOn (filter_map (version_if versions) is ++ more) → AllGoOn (filter_map (version_if versions) (i ∷ is) ++ more)
    by None e next = rw e next
    by (Some v) e next = rw e (version_goes_on i v, next)

settled_go_on : (versions : NameMap) (serial id : ℕ) → AllGoOn (settled_by versions serial id)
unfolding version_events
settled_go_on versions serial id = versions_go_on versions the_settled (connection_event serial id ∷ []) (connection_goes_on serial id, tt)

-- the connection is handed over by the last
pub settled_last : (versions : NameMap) (serial id : ℕ) (past : List Sent) → onto (settled_by versions serial id) past ≡ connection_event serial id ∷ onto (version_events versions) past
settled_last versions serial id past = onto_both (version_events versions) (connection_event serial id ∷ []) past

hands_over : (serial id : ℕ) → is_connection (connection_event serial id) ≡ true
unfolding event_shake
hands_over serial id = refl

settled_hands : (versions : NameMap) (serial id : ℕ) (past : List Sent) → is_handed (onto (settled_by versions serial id) past) ≡ true
settled_hands versions serial id past =
    ap is_handed (settled_last versions serial id past) ∙ has_more is_connection (connection_event serial id) (onto (version_events versions) past)
    ∙ ap (λ (b : Bool). cond b true (is_handed (onto (version_events versions) past))) (hands_over serial id)

-- ---- what a server said

server_more : (serial : ℕ) (m : Sent) (past : List Sent) → server_said serial (m ∷ past) ≡ onto (server_answer serial past m) (server_said serial past)
unfolding server_said
server_more serial m past = refl

server_first : (serial : ℕ) → server_said serial [] ≡ greeting ∷ []
unfolding server_said
server_first serial = refl

pub no_finish : (serial : ℕ) (past : List Sent) (m : Sent) → is_finish m ≡ false → server_answer serial past m ≡ []
no_finish serial past m e = rw e refl

pub finish_answer : (serial : ℕ) (past : List Sent) (m : Sent) → is_finish m ≡ true → server_answer serial past m ≡ settled_by (versions_told past) serial first_server_id
finish_answer serial past m e = rw e refl

-- it has begun, and no more before a finish
server_begun : (serial : ℕ) (past : List Sent) → is_finished past ≡ false → server_said serial past ≡ greeting ∷ []
server_begun serial [] h = server_first serial
server_begun serial (m ∷ past) h = by (is_finish m) refl (sym (has_more is_finish m past) ∙ h) (server_begun serial past)
  where
    by : (b : Bool) → is_finish m ≡ b → cond b true (is_finished past) ≡ false → (is_finished past ≡ false → server_said serial past ≡ greeting ∷ []) → server_said serial (m ∷ past) ≡ greeting ∷ []
    by true f n next = absurd cc
    by false f n next = server_more serial m past ∙ ap (λ (l : List Sent). onto l (server_said serial past)) (no_finish serial past m f) ∙ next n

first_unhanded : is_handed (greeting ∷ []) ≡ false
unfolding event_shake occurs
first_unhanded = refl

first_tells : TellsOn (greeting ∷ [])
first_tells = ((λ n. refl), tt)

module _ (g : Greeter) (serial : ℕ) (server client : Side) (s : AreShaking g serial server client) where
  -- ---- the server

  pub server_began : is_finished server.taken ≡ false → server.sent ≡ greeting ∷ []
  server_began n =
      s.server_says.is ∙ ap (λ (l : List Sent). l ++ server_said serial (up_to is_finish server.taken)) (s.server_says.none n)
      ∙ ap (server_said serial) (up_to_none is_finish server.taken n) ∙ server_begun serial server.taken n

  pub server_settled : (f : is_finished server.taken ≡ true) → server.sent ≡ s.server_says.more ++ onto (settled_by (versions_told (first_is is_finish server.taken f).before) serial first_server_id) (greeting ∷ [])
  server_settled f =
      let r = first_is is_finish server.taken f in
      s.server_says.is ∙ ap (λ (l : List Sent). s.server_says.more ++ l)
      (ap (server_said serial) r.is ∙ server_more serial r.message r.before ∙ ap (λ (l : List Sent). onto l (server_said serial r.before)) (finish_answer serial r.before r.message r.passes)
      ∙ ap (onto (settled_by (versions_told r.before) serial first_server_id)) (server_begun serial r.before r.none))

  server_tells : TellsOn server.sent
  server_tells = by (is_finished server.taken) refl
    where
      by : (b : Bool) → is_finished server.taken ≡ b → TellsOn server.sent
      by true f =
          let V : NameMap = versions_told (first_is is_finish server.taken f).before in
          subst TellsOn (sym (server_settled f))
          (tells_front s.server_says.more (onto (settled_by V serial first_server_id) (greeting ∷ [])) (settled_hands V serial first_server_id (greeting ∷ []))
          (tells_onto (settled_by V serial first_server_id) greeting [] (settled_go_on V serial first_server_id) first_tells))
      by false f = subst TellsOn (sym (server_began f)) first_tells

  -- the next message that the client takes
  pub client_next : (m : Sent) → Hears (m ∷ client.taken) server.sent → is_handed client.taken ≡ false → IsNext m client.taken
  client_next m h n = let b = behind (m ∷ client.taken) server.sent h in (tells_end b.0 (m ∷ client.taken) (subst TellsOn (sym b.1) server_tells)).0 n

  client_tells : TellsOn client.taken
  client_tells = let b = behind client.taken server.sent s.client_hears in tells_end b.0 client.taken (subst TellsOn (sym b.1) server_tells)

-- ---- what a client said

client_more : (g : Greeter) (m : Sent) (past : List Sent) → client_said g (m ∷ past) ≡ onto (client_answer g (event_shake m)) (client_said g past)
unfolding client_said
client_more g m past = refl

client_first : (g : Greeter) → client_said g [] ≡ []
unfolding client_said
client_first g = refl

pub no_answer : (g : Greeter) (s : Option Event) → goes_on s ≡ true → client_answer g s ≡ []
no_answer g None h = absurd cc
no_answer g (Some Begins) h = absurd cc
no_answer g (Some (Tells name version)) h = refl
no_answer g (Some (Connects serial id version)) h = refl

pub first_answer : (g : Greeter) → client_answer g (event_shake greeting) ≡ asked_by g
unfolding event_shake
first_answer g = refl

said_some : (g : Greeter) (m : Sent) (past : List Sent) → TellsOn (m ∷ past) → is_handed (m ∷ past) ≡ false → client_said g (m ∷ past) ≡ onto (asked_by g) []
said_some g m [] h n =
    client_more g m [] ∙ ap (onto (client_answer g (event_shake m))) (client_first g)
    ∙ ap (λ (x : Sent). onto (client_answer g (event_shake x)) []) (h.0 (none_has is_connection)) ∙ ap (λ (l : List Sent). onto l []) (first_answer g)
said_some g m (p ∷ past) h n =
    let before : is_handed (p ∷ past) ≡ false = none_behind is_connection (m ∷ []) (p ∷ past) n in
    client_more g m (p ∷ past) ∙ ap (λ (l : List Sent). onto l (client_said g (p ∷ past))) (no_answer g (event_shake m) (h.0 before).0) ∙ said_some g p past h.1 before

-- ---- the requests of a client

-- a message to the handshake's object
abbrev pub IsToHandshake : Sent → Type 0
IsToHandshake m = (m.target ≡ 0) × (m.interface ≡ known.Handshake)

abbrev pub AllToHandshake : List Sent → Type 0
AllToHandshake [] = Unit {0}
AllToHandshake (m ∷ ms) = IsToHandshake m × AllToHandshake ms

to_end : (x past : List Sent) → AllToHandshake (x ++ past) → AllToHandshake past
to_end [] past h = h
to_end (m ∷ x) past h = to_end x past h.1

-- those before the finish, the newest first
unfoldable asked_before : Greeter → List Sent
asked_before g = onto (told_by g ++ map version_request the_settled) []

finish_last : (g : Greeter) → onto (asked_by g) [] ≡ finish ∷ asked_before g
unfolding asked_by asked_before
finish_last g = refl

none_finishes : (g : Greeter) → is_finished (asked_before g) ≡ false
unfolding asked_before occurs shake
none_finishes g = refl

all_to_handshake : (g : Greeter) → AllToHandshake (onto (asked_by g) [])
unfolding asked_by
all_to_handshake g = ((refl, refl), ((refl, refl), ((refl, refl), ((refl, refl), ((refl, refl), ((refl, refl), ((refl, refl), ((refl, refl), ((refl, refl), ((refl, refl), ((refl, refl), ((refl, refl), ((refl, refl), ((refl, refl), ((refl, refl), ((refl, refl), ((refl, refl), tt)))))))))))))))))

module _ (g : Greeter) (serial : ℕ) (server client : Side) (s : AreShaking g serial server client) (off : is_handed client.taken ≡ false) where
  client_sent : client.sent ≡ client_said g client.taken
  client_sent = s.client_says.is ∙ ap (λ (l : List Sent). l ++ client_said g (up_to is_connection client.taken)) (s.client_says.none off) ∙ ap (client_said g) (up_to_none is_connection client.taken off)

  -- a client that was told nothing sent nothing
  pub nothing_sent : client.taken ≡ [] → client.sent ≡ []
  nothing_sent e = client_sent ∙ ap (client_said g) e ∙ client_first g

  -- and else all that it tells
  pub all_sent : (m : Sent) (past : List Sent) → client.taken ≡ m ∷ past → client.sent ≡ onto (asked_by g) []
  all_sent m past e = client_sent ∙ ap (client_said g) e ∙ said_some g m past (subst TellsOn e (client_tells g serial server client s)) (sym (ap is_handed e) ∙ off)

  pub sent_either : (client.sent ≡ []) ⊎ (client.sent ≡ onto (asked_by g) [])
  sent_either = by client.taken refl
    where
      by : (l : List Sent) → client.taken ≡ l → (client.sent ≡ []) ⊎ (client.sent ≡ onto (asked_by g) [])
      by [] e = inl (nothing_sent e)
      by (m ∷ past) e = inr (all_sent m past e)

  -- what the server took, or takes next, is of what the client tells
  of_asked : (m : Sent) (past : List Sent) → Hears (m ∷ past) client.sent → client.sent ≡ onto (asked_by g) []
  of_asked m past h = by sent_either
    where
      by : (client.sent ≡ []) ⊎ (client.sent ≡ onto (asked_by g) []) → client.sent ≡ onto (asked_by g) []
      by (inl e) = let b = behind (m ∷ past) client.sent h in absurd (let l = ap length (b.1 ∙ e) in omega (arith, l, length-append b.0 (m ∷ past)))
      by (inr e) = e

  pub server_next : (m : Sent) → Hears (m ∷ server.taken) client.sent → IsToHandshake m
  server_next m h =
      let b = behind (m ∷ server.taken) client.sent h in
      (to_end b.0 (m ∷ server.taken) (subst AllToHandshake (sym (b.1 ∙ of_asked m server.taken h)) (all_to_handshake g))).0

  -- where the finish is among them, they are all
  pub finished_all : (m : Sent) (past : List Sent) → Hears (m ∷ past) client.sent → is_finished (m ∷ past) ≡ true → length (m ∷ past) ≡ length client.sent
  finished_all m past h f =
      let b = behind (m ∷ past) client.sent h in
      let is = of_asked m past h ∙ finish_last g in
      sym (ap length (is ∙ whole_end is_finish finish (asked_before g) b.0 (m ∷ past) (sym is ∙ sym b.1) (none_finishes g) f))

  -- so a server that is done took all that a client sent which isn't
  pub done_all : is_finished server.taken ≡ true → length server.taken ≡ length client.sent
  done_all f = by server.taken refl s.server_hears f
    where
      by : (l : List Sent) → server.taken ≡ l → Hears l client.sent → is_finished l ≡ true → length l ≡ length client.sent
      by [] e h t = absurd (not_both (is_finished []) t (none_has is_finish))
      by (m ∷ past) e h t = finished_all m past h t

-- ---- what was told before the connection is handed over

greeting_quiet : IsQuiet greeting
unfolding row_of
greeting_quiet = (refl, refl)

-- each announces nothing and hands nothing over
abbrev pub AllQuiet : List Sent → Type 0
AllQuiet [] = Unit {0}
AllQuiet (m ∷ past) = IsQuiet m × AllQuiet past

told_quiet : (past : List Sent) → TellsOn past → is_handed past ≡ false → AllQuiet past
told_quiet [] h n = tt
told_quiet (m ∷ []) h n = (subst IsQuiet (sym (h.0 (none_has is_connection))) greeting_quiet, tt)
told_quiet (m ∷ (p ∷ past)) h n =
    let parts = none_passes is_connection m (p ∷ past) n in
    ((h.0 parts.1).4 parts.0, told_quiet (p ∷ past) h.1 parts.1)

pub client_quiet : (g : Greeter) (serial : ℕ) (server client : Side) → AreShaking g serial server client → is_handed client.taken ≡ false → AllQuiet client.taken
client_quiet g serial server client s n = told_quiet client.taken (client_tells g serial server client s) n

-- the client of a server that isn't done isn't either
pub unhanded : (g : Greeter) (serial : ℕ) (server client : Side) → AreShaking g serial server client → is_finished server.taken ≡ false → is_handed client.taken ≡ false
unhanded g serial server client s n =
    let b = behind client.taken server.sent s.client_hears in
    none_behind is_connection b.0 client.taken (ap is_handed (b.1 ∙ server_began g serial server client s n) ∙ first_unhanded)

-- a server that isn't done waits for a client that told all, which waits for it
pub told_all : (g : Greeter) (serial : ℕ) (server client : Side) → AreShaking g serial server client → is_finished server.taken ≡ false → (m : Sent) → Hears (m ∷ server.taken) client.sent → length client.taken ≡ length server.sent
told_all g serial server client s n m h = by client.taken refl (behind client.taken server.sent s.client_hears)
  where
    off : is_handed client.taken ≡ false
    off = unhanded g serial server client s n

    by : (l : List Sent) → client.taken ≡ l → (newer : List Sent) × (newer ++ client.taken ≡ server.sent) → length client.taken ≡ length server.sent
    by [] e b =
        let none = nothing_sent g serial server client s off e in
        let c = behind (m ∷ server.taken) client.sent h in
        absurd (let l = ap length (c.1 ∙ none) in omega (arith, l, length-append c.0 (m ∷ server.taken)))
    by (p ∷ past) e b =
        let long = ap length (b.1 ∙ server_began g serial server client s n) in
        let count = ap length e in
        let whole = ap length b.1 in
        omega (arith, long, count, whole, length-append b.0 client.taken)
