-- What a server said behind its handshake comes to its client.
use Rattle.std.proofs.Common.{◌≡◌, ℕ, suc, true, List, [], ◌∷◌, ◌++◌, map, length, Option, Some, refl, sym, ap, subst, ◌∙◌, arith}
use Rattle.std.proofs.lemmas.List.{length-append, append_cancel_right}
use Rattle.ei_backend.specs.Backend.{BackendView}
use Rattle.ei_backend.specs.Table.{TableView, found}
use Rattle.ei_ends.specs.Sent.{Sent, Got, Took, Missed, IsAlike}
use Rattle.ei_ends.specs.Agree.{Agree}
use Rattle.ei_reported.specs.Said.{Said, said}
use Rattle.ei_reported.specs.Changes.{NewIdsDiffer}
use Rattle.ei_told.specs.Told.{event_of, all_said, after_connection, messages, NoneMissed}
use Rattle.ei_linked.specs.declared.side.Side.TheVariants as side
use Rattle.ei_linked.specs.declared.record.Record.{Record}
use Rattle.ei_linked.specs.Stored.{sent_view}
use Rattle.ei_linked.specs.TwoEnds.{end_of}
use Rattle.ei_request.specs.Connection.{ConnectionView}
use Rattle.ei_promises.specs.Pair.{PairView}
use Rattle.ei_emitting.specs.Emitted.{Step}
use Rattle.ei_emitting.specs.Emits.{Emits, is_ping, NonePings}
use Rattle.ei_emit.specs.Carried.{moment, IsCarried}
use Rattle.ei_emit.specs.Heard.{Gave, Accounts, AccountsOn, Hears}
use Rattle.ei_emit.specs.Stands.{Script, NoneDestroys, Served, Followed, Stands}
use Rattle.ei_emit.proofs.Hearing.{HearingLaws, goes_by}
use Rattle.ei_emit.proofs.Rests.{Rests, rests_by, serving_on}
use Rattle.ei_emit.proofs.AllTaken.{whole_of, client_missed_none, client_took_all}

-- what the laws of a history say where nothing is sent
abbrev pub RestsSaid : Type 0
RestsSaid = (start : ℕ) (before : List Step) (c left : ConnectionView) (said : List Sent) → Emits start before c said → left ≡ record c { ctx = left.ctx } →
    left.ctx.table.next_own ≡ c.ctx.table.next_own → ((id : ℕ) → found left.ctx.table id ≡ found c.ctx.table id) → Emits start before left said

-- ---- a message is a ping where it was taken as one

alike_ping : (m r : Sent) → IsAlike m r → is_ping r ≡ is_ping m
alike_ping m r a = rw (a.interface, a.opcode) refl

none_pings : (own theirs more : List Sent) (gots taken : List Got) → Agree true own (more ++ theirs) (gots ++ taken) → length gots ≡ length more → NonePings more → NonePings (messages gots)
unfolding Agree
none_pings own theirs [] [] taken a l n = tt
none_pings own theirs [] (g ∷ gots) taken a l n = absurd (omega (arith, l))
none_pings own theirs (m ∷ more) [] taken a l n = absurd (omega (arith, l))
none_pings own theirs (m ∷ more) (Took r after ∷ gots) taken a l n = (alike_ping m r a.0.2 ∙ n.0, none_pings own theirs more gots taken a.1 (omega (arith, l)) n.1)
none_pings own theirs (m ∷ more) (Missed id after ∷ gots) taken a l n = none_pings own theirs more gots taken a.1 (omega (arith, l)) n.1

front_none : (more behind : List Sent) → NonePings (more ++ behind) → NonePings more
front_none [] behind n = tt
front_none (m ∷ more) behind n = (n.0, front_none more behind n.1)

-- ---- lists

messages_append : (gots taken : List Got) → messages (gots ++ taken) ≡ messages gots ++ messages taken
messages_append [] taken = refl
messages_append (Took r after ∷ gots) taken = ap (λ (l : List Sent). r ∷ l) (messages_append gots taken)
messages_append (Missed id after ∷ gots) taken = messages_append gots taken

said_append : (more behind : List Sent) → all_said (more ++ behind) ≡ all_said more ++ all_said behind
said_append [] behind = refl
said_append (m ∷ more) behind = ap (λ (l : List Said). said (event_of m) ∷ l) (said_append more behind)

count_messages : (taken : List Got) → NoneMissed taken → length (messages taken) ≡ length taken
count_messages [] n = refl
count_messages (Took r after ∷ taken) n = ap suc (count_messages taken n)
count_messages (Missed id after ∷ taken) n = absurd n

-- ---- what comes

-- the script over these steps, with more readings
abbrev pub over : Script → List Step → List ℕ → Script
over s before used = record { start = s.start; before = before; readings = s.readings ++ used; given = s.given }

-- the pair stands with what came
pub record Came {H : Type 0} (s : Script) (before : List Step) (told now : Option (List ℕ)) (p : PairView H) : Type 0 where
  pub used : List ℕ
  pub gave : Gave used told now
  pub stands : Stands (over s before used) p

-- The server sent more behind what the client had taken, by which these steps were carried out.
module _ (laws : HearingLaws) (rests : RestsSaid) {H : Type 0} (s : Script) (before : List Step) (said more sent : List Sent) (old new : PairView H) (told now : Option (List ℕ))
    (served : Served s.start before (more ++ said) old)
    (sends : (end_of side.Server old.ends).sent ≡ more ++ sent) (followed : Followed s said old) (taken : messages (end_of side.Client old.ends).taken ≡ sent)
    (c : IsCarried side.Client (moment old told) (moment new now)) where
  h : Hears followed.client (moment old told) (moment new now)
  h = goes_by laws followed.client (moment old told) followed.follows c.between (moment new now) c.goes

  r : Rests served.server old new
  r = rests_by served.server (moment old told) served.serves served.endpoint c.between (moment new now) c.goes

  sent_is : (end_of side.Server new.ends).sent ≡ more ++ sent
  sent_is = ap (λ (l : List Record). map sent_view l) r.sent ∙ sends

  many : length h.gots ≡ length more
  many =
      let all = c.all in
      let took = ap length h.taken in
      let count = ap length sent_is in
      let old_count = count_messages (end_of side.Client old.ends).taken followed.none_missed in
      let same = ap length taken in
      omega (arith, all, took, count, old_count, same, length-append h.gots (end_of side.Client old.ends).taken, length-append more sent)

  agree : Agree true (end_of side.Client new.ends).sent (more ++ sent) (h.gots ++ (end_of side.Client old.ends).taken)
  agree =
      subst (λ (l : List Got). Agree true (end_of side.Client new.ends).sent (more ++ sent) l) h.taken
      (subst (λ (l : List Sent). Agree true (end_of side.Client new.ends).sent l (end_of side.Client new.ends).taken)
      (whole_of (end_of side.Server new.ends).sent (length (end_of side.Client new.ends).taken) c.all ∙ sent_is) c.agrees.agrees)

  quiet : (end_of side.Client new.ends).sent ≡ (end_of side.Client old.ends).sent
  quiet = h.silent (none_pings (end_of side.Client new.ends).sent sent more h.gots (end_of side.Client old.ends).taken agree many (front_none more said served.emits.silent))

  stay : NoneDestroys (end_of side.Client new.ends).sent
  stay = subst NoneDestroys (sym quiet) followed.stay

  all_taken : messages (end_of side.Client new.ends).taken ≡ (end_of side.Server new.ends).sent
  all_taken = client_took_all new.ends c.agrees stay c.all

  same_more : messages h.gots ≡ more
  same_more = append_cancel_right (messages h.gots) more sent
      (ap (λ (l : List Sent). messages h.gots ++ l) (sym taken) ∙ sym (messages_append h.gots (end_of side.Client old.ends).taken) ∙ ap messages (sym h.taken) ∙ all_taken ∙ sent_is)

  on : AccountsOn s.start (all_said (messages h.gots) ++ all_said said) s.readings s.given told now h.left.kept
  on = h.hears s.start (all_said said) s.readings s.given followed.accounts
      (subst NewIdsDiffer (said_append more said ∙ ap (λ (l : List Sent). all_said l ++ all_said said) (sym same_more)) served.emits.fresh.differ)

  said_is : all_said (messages h.gots) ++ all_said said ≡ all_said (more ++ said)
  said_is = ap (λ (l : List Sent). all_said l ++ all_said said) same_more ∙ sym (said_append more said)

  behind : after_connection (end_of side.Server new.ends).sent ≡ Some (more ++ said)
  behind = ap (λ (l : List Record). after_connection (map sent_view l)) r.sent ∙ served.behind

  table : new.ends.server.backend.table ≡ served.server.handle.ctx.table
  table = r.table ∙ ap (λ (b : BackendView). b.table) (sym served.endpoint)

  served_on : Served s.start before (more ++ said) new
  served_on = record {
    whole = c.whole;
    steady = r.steady ∙ served.steady;
    wanted = r.server_wanted ∙ served.wanted;
    server = serving_on new.ends.server.backend served.server;
    serves = r.server;
    endpoint = refl;
    behind = behind;
    emits = rests s.start before served.server.handle (serving_on new.ends.server.backend served.server).handle (more ++ said) served.emits refl
        (ap (λ (t : TableView). t.next_own) table) (λ id. ap (λ (t : TableView). found t id) table);
  }

  followed_on : Followed (over s before on.used) (more ++ said) new
  followed_on = record {
    wanted = r.client_wanted ∙ followed.wanted;
    client = h.left;
    follows = h.follows;
    behind = ap after_connection all_taken ∙ behind;
    none_missed = client_missed_none new.ends c.agrees stay c.all;
    stay = stay;
    accounts = subst (λ (l : List Said). Accounts s.start l (s.readings ++ on.used) s.given h.left.kept) said_is on.accounts;
  }

  pub comes : Came s before told now new
  comes = record {
    used = on.used;
    gave = on.gave;
    stands = record { said = more ++ said; served = served_on; followed = followed_on; all = all_taken };
  }
