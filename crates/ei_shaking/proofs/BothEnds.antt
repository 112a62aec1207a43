-- Two ends that shake hands: neither refuses what the other sends, they complete, and both have the same versions.
use Rattle.std.proofs.Common.{◌≡◌, ℕ, ◌≤◌, Bool, true, false, cond, ◌⊎◌, inl, inr, List, [], ◌∷◌, ◌++◌, length, None, refl, sym, ap, subst, ◌∙◌, length-append, arith}
use Rattle.std.specs.Prelude.{is_some}
use Rattle.ei_spec.specs.History.{occurs}
use Rattle.ei_spec.specs.NameMap.{NameMap}
use Rattle.ei_backend.specs.Table.{first_server_id}
use Rattle.ei_ends.specs.Sent.{Sent}
use Rattle.ei_ends.specs.Way.{onto}
use Rattle.ei_greeting.specs.Shaking.{Greeter}
use Rattle.ei_shaking.specs.Messages.{greeting, version_events, connection_event, settled_by, asked_by}
use Rattle.ei_shaking.specs.Heard.{shake, versions_told, refused, AllAccepted, event_shake, is_finish, is_connection, collected}
use Rattle.ei_shaking.specs.Both.{has, up_to, is_handed, is_finished, client_said, server_said, Side, Hears, AreShaking}
use Rattle.ei_shaking.proofs.Ontos.{onto_some, tail_of, same_end, behind, begun, comes_at}
use Rattle.ei_shaking.proofs.UpTo.{not_both, has_more, has_behind, up_to_more, up_to_none, first_of, within}
use Rattle.ei_shaking.proofs.Collecting.{collected_all, told_only, finish_adds_none}
use Rattle.ei_shaking.proofs.Accepting.{all_asked, accepted_at, asked_finishes, AllGoOn, settled_go_on, first_go_on, said_same, said_first, AllSay, onto_say, first_says, says_at, is_the_last, begun_alone, versions_alone, ends_with_it, server_quiet}

-- ---- what a server has said

-- what it says behind its first event, by what it took
record ServerSays (serial : ℕ) (taken : List Sent) : Type 0 where
  events : List Sent
  said : server_said serial (up_to is_finish taken) ≡ onto events (greeting ∷ [])
  go_on : AllGoOn events
  handed : is_finished taken ≡ true → is_handed (onto events (greeting ∷ [])) ≡ true
  none : is_finished taken ≡ false → events ≡ []
  settles : is_finished taken ≡ true → events ≡ settled_by (versions_told (up_to is_finish taken)) serial first_server_id

settled_handed : (versions : NameMap) (serial id : ℕ) → is_handed (onto (settled_by versions serial id) (greeting ∷ [])) ≡ true
settled_handed versions serial id =
    let rest : List Sent = onto (version_events versions) (greeting ∷ []) in
    ap is_handed (ends_with_it versions serial id) ∙ has_more is_connection (connection_event serial id) rest ∙ ap (λ (b : Bool). cond b true (has is_connection rest)) (is_the_last serial id)

server_answers : (serial : ℕ) (past : List Sent) (m : Sent) → is_finish m ≡ true → server_said serial (m ∷ past) ≡ onto (settled_by (versions_told past) serial first_server_id) (server_said serial past)
unfolding server_said
server_answers serial past m h = ap (λ (b : Bool). onto (cond b (settled_by (versions_told past) serial first_server_id) []) (server_said serial past)) h

server_says : (serial : ℕ) (taken : List Sent) → ServerSays serial taken
server_says serial taken = by (is_finished taken) refl
  where
    by : (b : Bool) → is_finished taken ≡ b → ServerSays serial taken
    by false e = record {
      events = [];
      said = ap (server_said serial) (up_to_none is_finish taken e) ∙ server_quiet serial taken e;
      go_on = tt;
      handed = λ t. absurd (not_both (is_finished taken) t e);
      none = λ f. refl;
      settles = λ t. absurd (not_both (is_finished taken) t e);
    }
    by true e =
        let r = first_of is_finish taken e in
        let told = finish_adds_none r.1 r.0 r.2.passes in
        let same : versions_told r.1 ≡ versions_told (up_to is_finish taken) = sym told ∙ ap versions_told (sym r.2.is) in
        record {
          events = settled_by (versions_told r.1) serial first_server_id;
          said = ap (server_said serial) r.2.is ∙ server_answers serial r.1 r.0 r.2.passes ∙ ap (onto (settled_by (versions_told r.1) serial first_server_id)) (server_quiet serial r.1 r.2.none);
          go_on = settled_go_on (versions_told r.1) serial first_server_id;
          handed = λ t. settled_handed (versions_told r.1) serial first_server_id;
          none = λ f. absurd (not_both (is_finished taken) e f);
          settles = λ t. ap (λ (v : NameMap). settled_by v serial first_server_id) same;
        }

-- ---- what a client has said

empty_has_none : is_handed [] ≡ false
unfolding occurs
empty_has_none = refl

empty_said : (g : Greeter) → client_said g [] ≡ []
unfolding client_said
empty_said g = refl

onto_long : (ms past : List Sent) → length past ≤ length (onto ms past)
onto_long ms past = let r = onto_some ms past in let l = ap length r.1 in omega (arith, l, length-append r.0 past)

-- all was taken
all_of : (taken sent : List Sent) → Hears taken sent → length taken ≡ length sent → taken ≡ sent
all_of taken sent h l = let b = behind taken sent h in same_end b.0 taken [] sent b.1 l

module _ (g : Greeter) (serial : ℕ) (server client : Side) (s : AreShaking g serial server client) where
  abbrev says : ServerSays serial server.taken
  says = server_says serial server.taken

  abbrev said : List Sent
  said = onto says.events (greeting ∷ [])

  server_sent : server.sent ≡ s.server_says.more ++ said
  server_sent = s.server_says.is ∙ ap (λ (l : List Sent). s.server_says.more ++ l) says.said

  -- the server handed the connection over, or says nothing behind this
  handed_or : (is_handed said ≡ true) ⊎ (s.server_says.more ≡ [])
  handed_or = by (is_finished server.taken) refl
    where
      by : (b : Bool) → is_finished server.taken ≡ b → (is_handed said ≡ true) ⊎ (s.server_says.more ≡ [])
      by true e = inl (says.handed e)
      by false e = inr (s.server_says.none e)

  -- of that the client took an end, up to its connection
  client_took : (taken : List Sent) → Hears taken server.sent → (x : List Sent) × (said ≡ x ++ up_to is_connection taken)
  client_took taken h = let b = behind taken server.sent h in within is_connection taken server.sent s.server_says.more said b.0 b.1 server_sent handed_or

  its_answer : (taken x : List Sent) → said ≡ x ++ taken → (taken ≡ []) ⊎ (client_said g taken ≡ onto (asked_by g) [])
  its_answer [] x e = inl refl
  its_answer (m ∷ past) x e =
      let r = begun says.events (greeting ∷ []) x (m ∷ past) e (omega arith) in
      let quiet : AllGoOn r.first = first_go_on r.first r.rest (subst AllGoOn r.split says.go_on) in
      inr (ap (client_said g) r.is ∙ said_same g r.first (greeting ∷ []) quiet ∙ said_first g)

  client_has : (up_to is_connection client.taken ≡ []) ⊎ (client_said g (up_to is_connection client.taken) ≡ onto (asked_by g) [])
  client_has = let t = client_took client.taken s.client_hears in its_answer (up_to is_connection client.taken) t.0 t.1

  none_taken : up_to is_connection client.taken ≡ [] → client.taken ≡ []
  none_taken e = by (is_handed client.taken) refl
    where
      by : (b : Bool) → is_handed client.taken ≡ b → client.taken ≡ []
      by false n = sym (up_to_none is_connection client.taken n) ∙ e
      by true n = let r = first_of is_connection client.taken n in let l = ap length (sym r.2.is ∙ e) in absurd (omega (arith, l))

  -- a client that was told nothing sent nothing
  nothing_sent : up_to is_connection client.taken ≡ [] → client.sent ≡ []
  nothing_sent e =
      let quiet : is_handed client.taken ≡ false = ap is_handed (none_taken e) ∙ none_handed in
      s.client_says.is ∙ ap (λ (l : List Sent). l ++ client_said g (up_to is_connection client.taken)) (s.client_says.none quiet) ∙ ap (client_said g) e ∙ none_said
    where
      none_handed : is_handed [] ≡ false
      none_handed = empty_has_none

      none_said : client_said g [] ≡ []
      none_said = empty_said g

  client_sent : client_said g (up_to is_connection client.taken) ≡ onto (asked_by g) [] → client.sent ≡ s.client_says.more ++ onto (asked_by g) []
  client_sent e = s.client_says.is ∙ ap (λ (l : List Sent). s.client_says.more ++ l) e

  -- ---- none is refused

  pub client_refuses_none : (m : Sent) → Hears (m ∷ client.taken) server.sent → is_handed client.taken ≡ false → is_some (event_shake m) ≡ true
  client_refuses_none m h n =
      let t = client_took (m ∷ client.taken) h in
      let open_still : up_to is_connection (m ∷ client.taken) ≡ m ∷ client.taken = up_to_more is_connection m client.taken ∙ ap (λ (b : Bool). cond b (up_to is_connection client.taken) (m ∷ client.taken)) n in
      let all : AllSay said = onto_say says.events (greeting ∷ []) says.go_on first_says in
      says_at t.0 m client.taken (subst AllSay (t.1 ∙ ap (λ (l : List Sent). t.0 ++ l) open_still) all)

  pub server_refuses_none : (m : Sent) → Hears (m ∷ server.taken) client.sent → is_finished server.taken ≡ false → refused server.taken (shake m) ≡ None
  server_refuses_none m h n = by client_has
    where
      by : (up_to is_connection client.taken ≡ []) ⊎ (client_said g (up_to is_connection client.taken) ≡ onto (asked_by g) []) → refused server.taken (shake m) ≡ None
      by (inl e) = let b = behind (m ∷ server.taken) client.sent h in let l = ap length (b.1 ∙ nothing_sent e) in absurd (omega (arith, l, length-append b.0 (m ∷ server.taken)))
      by (inr e) =
          let b = behind (m ∷ server.taken) client.sent h in
          let t = within is_finish (m ∷ server.taken) client.sent s.client_says.more (onto (asked_by g) []) b.0 b.1 (client_sent e) (inl (asked_finishes g)) in
          let open_still : up_to is_finish (m ∷ server.taken) ≡ m ∷ server.taken = up_to_more is_finish m server.taken ∙ ap (λ (c : Bool). cond c (up_to is_finish server.taken) (m ∷ server.taken)) n in
          let at = comes_at (asked_by g) [] t.0 m server.taken (t.1 ∙ ap (λ (l : List Sent). t.0 ++ l) open_still) (omega arith) in
          ap (λ (l : List Sent). refused l (shake m)) at.is ∙ accepted_at at.first at.rest [] m (subst (AllAccepted []) at.split (all_asked g))

  -- ---- they complete

  pub finishes : length server.taken ≡ length client.sent → length client.taken ≡ length server.sent → is_finished server.taken ≡ true
  finishes a b = by (is_finished server.taken) refl
    where
      all_server : server.taken ≡ client.sent
      all_server = all_of server.taken client.sent s.server_hears a

      all_client : client.taken ≡ server.sent
      all_client = all_of client.taken server.sent s.client_hears b

      it : (up_to is_connection client.taken ≡ []) ⊎ (client_said g (up_to is_connection client.taken) ≡ onto (asked_by g) []) → is_finished server.taken ≡ true
      it (inl e) =
          let l = ap length (sym (none_taken e) ∙ all_client ∙ server_sent) in
          absurd (omega (arith, l, length-append s.server_says.more said, said_some))
        where
          said_some : 1 ≤ length said
          said_some = onto_long says.events (greeting ∷ [])
      it (inr e) = ap is_finished (all_server ∙ client_sent e) ∙ has_behind is_finish s.client_says.more (onto (asked_by g) []) (asked_finishes g)

      by : (c : Bool) → is_finished server.taken ≡ c → is_finished server.taken ≡ true
      by c e = it client_has

  pub hands_over : length server.taken ≡ length client.sent → length client.taken ≡ length server.sent → is_handed client.taken ≡ true
  hands_over a b =
      let all : client.taken ≡ server.sent = all_of client.taken server.sent s.client_hears b in
      ap is_handed (all ∙ server_sent) ∙ has_behind is_connection s.server_says.more said (says.handed (finishes a b))

  -- ---- both have the same versions

  pub same_versions : is_handed client.taken ≡ true → collected (up_to is_connection client.taken) ≡ versions_told (up_to is_finish server.taken)
  same_versions h =
      let r = first_of is_connection client.taken h in
      let t = client_took client.taken s.client_hears in
      let V : NameMap = versions_told (up_to is_finish server.taken) in
      let there : is_handed (up_to is_connection client.taken) ≡ true = ap is_handed r.2.is ∙ has_more is_connection r.0 r.1 ∙ ap (λ (b : Bool). cond b true (has is_connection r.1)) r.2.passes in
      let done : is_finished server.taken ≡ true = finished there t.1 in
      let ends : said ≡ onto (settled_by V serial first_server_id) (greeting ∷ []) = ap (λ (l : List Sent). onto l (greeting ∷ [])) (says.settles done) in
      ap collected (whole_end V t.0 (up_to is_connection client.taken) there (sym ends ∙ t.1)) ∙ collected_all V serial first_server_id (told_only (up_to is_finish server.taken))
    where
      finished : is_handed (up_to is_connection client.taken) ≡ true → said ≡ (client_took client.taken s.client_hears).0 ++ up_to is_connection client.taken → is_finished server.taken ≡ true
      finished there e = by (is_finished server.taken) refl
        where
          by : (c : Bool) → is_finished server.taken ≡ c → is_finished server.taken ≡ true
          by true f = f
          by false f = absurd (not_both (is_handed said) (ap is_handed e ∙ has_behind is_connection (client_took client.taken s.client_hears).0 (up_to is_connection client.taken) there) (ap (λ (l : List Sent). is_handed (onto l (greeting ∷ []))) (says.none f) ∙ begun_alone))

      whole_end : (V : NameMap) (x taken : List Sent) → is_handed taken ≡ true → onto (settled_by V serial first_server_id) (greeting ∷ []) ≡ x ++ taken → taken ≡ onto (settled_by V serial first_server_id) (greeting ∷ [])
      whole_end V [] taken there e = sym e
      whole_end V (y ∷ x) taken there e =
          let behind_it : onto (version_events V) (greeting ∷ []) ≡ x ++ taken = ap tail_of (sym (ends_with_it V serial first_server_id) ∙ e) in
          absurd (not_both (is_handed (x ++ taken)) (has_behind is_connection x taken there) (ap is_handed (sym behind_it) ∙ versions_alone V))
