-- Both handshakes of a new pair are done once what each end sent was carried to the other.
use Rattle.std.proofs.Common.{◌≡◌, ℕ, ◌≤◌, ◌⊎◌, Bool, true, false, inl, inr, List, [], ◌∷◌, map, length, Option, Some, refl, sym, ap, subst, ◌∙◌, arith}
use Rattle.ei_spec.specs.History.{joined}
use Rattle.ei_types.specs.declared.enums.ContextType.TheVariants.{Receiver}
use Rattle.ei_ends.specs.Sent.{Sent}
use Rattle.ei_ends.specs.Way.{onto}
use Rattle.ei_told.specs.Told.{after_connection, messages}
use Rattle.ei_greeting.specs.Shaking.{Greeter}
use Rattle.ei_shaking.specs.Messages.{asked_by}
use Rattle.ei_linked.specs.declared.side.Side.{Side}
use Rattle.ei_linked.specs.declared.side.Side.TheVariants as side
use Rattle.ei_linked.specs.declared.record.Record.{Record}
use Rattle.ei_linked.specs.declared.record.Got.{Got as StoredGot}
use Rattle.ei_linked.specs.Stored.{StoredEnd, end_in, sent_view, got_view}
use Rattle.ei_linked.specs.TwoEnds.{WorldView, other_side, end_of, HasTakenAll}
use Rattle.ei_handshake.specs.Client.{greeter}
use Rattle.ei_handshake.specs.Handshaker.{untold}
use Rattle.ei_handshake.specs.declared.client.HandshakeResp.{HandshakeResp}
use Rattle.ei_event.specs.Connection.{connected}
use Rattle.ei_event.specs.Kept.{new_kept}
use Rattle.ei_event.specs.Converter.{ConverterView as ClientConverter}
use Rattle.ei_request.specs.Converter.{ConverterView as ServerConverter}
use Rattle.ei_heeding.specs.Heeding.{Heeds}
use Rattle.ei_promises.specs.Pair.{ClientStage, Asks, Follows, ServerStage, Shakes, Serves, PairView, IsNew, HasEndpoint, client_done}
use Rattle.ei_promises.specs.Promises.{NameFits}
use Rattle.ei_promises.specs.Keeping.{SameLists, lists_at, AreGreeting}
use Rattle.ei_promises.proofs.Given.{ShakingLaws}
use Rattle.ei_promises.proofs.Takes.{taken_count, AllStay, asked_stay}
use Rattle.ei_promises.proofs.Settling.{nothing_behind}
use Rattle.ei_promises.proofs.ServerShakes.{pair}
use Rattle.ei_promises.proofs.ClientAsks.{FirstHeeds}
use Rattle.ei_promises.proofs.Resting.{completes}
use Rattle.ei_pair.specs.Stepped.{IsKept}
use Rattle.ei_pair.specs.Done.{HasFirstIds}
use Rattle.ei_emit.specs.Carried.{Moment, moment, AnyAnswer, Takes, GoesOn, GoesBy, IsCarried}
use Rattle.ei_emit.specs.Heard.{Accounts}
use Rattle.ei_emit.specs.Stands.{NoneDestroys}
use Rattle.ei_emit.specs.Shaken.{IsShaken, ShakesHands}
use Rattle.ei_emit.proofs.Took.{server_took, client_took}
use Rattle.ei_emit.proofs.AllTaken.{client_missed_none, client_took_all}
use Rattle.ei_emit.proofs.Shaking.{HasSettled, HasFollowed, Stand, InHandshakes, moved_on, greeter_is, answering, told_all}
use Rattle.ei_emit.proofs.ShakingServer.{server_on}
use Rattle.ei_emit.proofs.ShakingClient.{client_on}

-- ---- the other side, while one takes

-- it sent and took nothing
record Stays (s : Side) (old new : WorldView) : Type 0 where
  sent : (end_of s new).sent ≡ (end_of s old).sent
  taken : (end_of s new).taken ≡ (end_of s old).taken

stays_moved : (s : Side) (w v : WorldView) → SameLists w v → Stays s w v
stays_moved side.Client w v m = record { sent = ap (λ (l : List Record). map sent_view l) m.client_sent; taken = ap (λ (l : List StoredGot). map got_view l) m.client_taken }
stays_moved side.Server w v m = record { sent = ap (λ (l : List Record). map sent_view l) m.server_sent; taken = ap (λ (l : List StoredGot). map got_view l) m.server_taken }

stays_both : (s : Side) (a b c : WorldView) → Stays s a b → Stays s b c → Stays s a c
stays_both s a b c p q = record { sent = q.sent ∙ p.sent; taken = q.taken ∙ p.taken }

stays_taking : {H : Type 0} (to : Side) (old new : Moment H) → Takes to old new → Stays (other_side to) old.pair.ends new.pair.ends
stays_taking side.Client old new t = let o = client_took AnyAnswer old.pair new.pair old.told new.told t in record { sent = ap (λ (x : StoredEnd). (end_in x).sent) o.other; taken = ap (λ (x : StoredEnd). (end_in x).taken) o.other }
stays_taking side.Server old new t = let o = server_took old.pair new.pair old.told new.told t in record { sent = ap (λ (x : StoredEnd). (end_in x).sent) o.other; taken = ap (λ (x : StoredEnd). (end_in x).taken) o.other }

stays_one : {H : Type 0} (to : Side) (old new : Moment H) → GoesOn to old new → Stays (other_side to) old.pair.ends new.pair.ends
stays_one {H} to old new g = by g.takes
  where
    moved : Stays (other_side to) old.pair.ends g.moved.ends
    moved = stays_moved (other_side to) old.pair.ends g.moved.ends g.moves.same

    by : Takes to (moment g.moved old.told) new ⊎ (new ≡ moment g.moved old.told) → Stays (other_side to) old.pair.ends new.pair.ends
    by (inl t) = stays_both (other_side to) old.pair.ends g.moved.ends new.pair.ends moved (stays_taking to (moment g.moved old.told) new t)
    by (inr e) = subst (λ (m : Moment H). Stays (other_side to) old.pair.ends m.pair.ends) (sym e) moved

stays_by : {H : Type 0} (to : Side) (between : List (Moment H)) (first last : Moment H) → GoesBy to between first last → Stays (other_side to) first.pair.ends last.pair.ends
stays_by {H} to [] first last g = subst (λ (m : Moment H). Stays (other_side to) first.pair.ends m.pair.ends) (sym g) (record { sent = refl; taken = refl })
stays_by to (m ∷ earlier) first last g = stays_both (other_side to) first.pair.ends m.pair.ends last.pair.ends (stays_by to earlier first m g.1) (stays_one to m last g.0)

-- ---- the messages of a client

none_destroys : (ms : List Sent) → AllStay false ms → NoneDestroys ms
none_destroys [] h = tt
none_destroys (m ∷ ms) h = (h.0, none_destroys ms h.1)

-- ---- rounds

module _ (laws : ShakingLaws) (first_heeds : FirstHeeds) {H : Type 0} (g : Greeter) (fits : length g.name ≤ 1048555) (start : ℕ) where
  takes_on : (to : Side) (old new : Moment H) → old.pair.ends.spent ≡ false → IsKept old.pair → IsKept new.pair → HasFirstIds old.pair new.pair → Takes to old new →
      InHandshakes g start old.pair → InHandshakes g start new.pair × (new.told ≡ old.told)
  takes_on side.Client old new whole kept then first t i = client_on laws first_heeds {H = H} g fits start old.pair whole kept i old.told new.told new.pair t
  takes_on side.Server old new whole kept then first t i = server_on laws {H = H} g fits start old.pair whole kept i old.told new.told new.pair t then.pair first

  goes_one : (to : Side) (old new : Moment H) → GoesOn to old new → InHandshakes g start old.pair → InHandshakes g start new.pair × (new.told ≡ old.told)
  goes_one to old new go i = by go.takes
    where
      moved : InHandshakes g start go.moved
      moved = moved_on g start old.pair go.moved go.moves i

      by : Takes to (moment go.moved old.told) new ⊎ (new ≡ moment go.moved old.told) → InHandshakes g start new.pair × (new.told ≡ old.told)
      by (inl t) = takes_on to (moment go.moved old.told) new go.whole_between go.between go.kept go.begins t moved
      by (inr e) = subst (λ (m : Moment H). InHandshakes g start m.pair × (m.told ≡ old.told)) (sym e) (moved, refl)

  goes_by : (to : Side) (between : List (Moment H)) (first last : Moment H) → GoesBy to between first last → InHandshakes g start first.pair → InHandshakes g start last.pair × (last.told ≡ first.told)
  goes_by to [] first last go i = subst (λ (m : Moment H). InHandshakes g start m.pair × (m.told ≡ first.told)) (sym go) (i, refl)
  goes_by to (m ∷ earlier) first last go i =
      let r = goes_by to earlier first m go.1 i in
      let s = goes_one to m last go.0 r.0 in
      (s.0, s.1 ∙ r.1)

  -- ---- what a client told that took something

  told_by : (w : WorldView) (k : ClientStage H) (t : ServerStage) (steady cw sw : Bool) → AreGreeting k (pair w k t steady cw sw) →
      InHandshakes g start (pair w k t steady cw sw) → 1 ≤ length (end_of side.Client w).taken → (end_of side.Client w).sent ≡ onto (asked_by g) []
  told_by w (Asks k) t steady cw sw greeting i some =
      let is = greeter_is H g start w k t i.stand in
      let a = answering {H = H} g w k t steady cw sw fits is i.wanted.0 i.wanted.1 greeting in
      let count = taken_count (end_of side.Client w).taken a.client_misses in
      told_all k.greeter a.serial (lists_at side.Server w) (lists_at side.Client w) a.shaking a.unhanded (omega (arith, count, some))
      ∙ ap (λ (q : Greeter). onto (asked_by q) []) is
  told_by w (Follows f) (Serves c) steady cw sw greeting i some = i.stand.0.sent
  told_by w (Follows f) (Shakes h) steady cw sw greeting i some = absurd i.stand

  name_fits : (w : WorldView) (k : ClientStage H) (t : ServerStage) → Stand g start w k t → NameFits k
  name_fits w (Asks k) t i = subst (λ (q : Greeter). length q.name ≤ 1048555) (sym (greeter_is H g start w k t i)) fits
  name_fits w (Follows f) t i = tt

-- ---- where both are done

-- a new converter's account of nothing
first_account : (first_heeds : FirstHeeds) (start : ℕ) (resp : HandshakeResp) → resp.serial ≡ start → Accounts start [] [] [] (new_kept (connected resp))
unfolding joined
first_account first_heeds start resp is = record {
  heeds = subst (λ (n : ℕ). Heeds n [] [] (new_kept (connected resp))) is (first_heeds (connected resp));
  told = λ later. refl;
}

module _ (laws : ShakingLaws) (first_heeds : FirstHeeds) {H : Type 0} (g : Greeter) (start : ℕ) (p : PairView H) (told : Option (List ℕ)) (first : Moment H)
    (c : IsCarried side.Client first (moment p told)) (i : InHandshakes g start p) where
  module _ (f : ClientConverter H) (d : ServerConverter) (follows : p.client ≡ Follows f) (serves : p.server ≡ Serves d) (has : HasFollowed g start f p.ends)
      (settled : HasSettled start d p.ends) where
    stay : NoneDestroys (end_of side.Client p.ends).sent
    stay = subst NoneDestroys (sym has.sent) (none_destroys (onto (asked_by g) []) (asked_stay g))

    all_taken : messages (end_of side.Client p.ends).taken ≡ (end_of side.Server p.ends).sent
    all_taken = client_took_all p.ends c.agrees stay c.all

    behind : after_connection (end_of side.Server p.ends).sent ≡ Some []
    behind = ap after_connection settled.sent ∙ nothing_behind settled.versions start settled.id

    shaken_so : IsShaken start p
    shaken_so = record {
      whole = c.whole;
      steady = i.steady;
      wanted = i.wanted.1;
      server = d;
      serves = serves;
      endpoint = subst (λ (s : ServerStage). HasEndpoint s p.ends.server.backend) serves i.endpoint;
      fresh = settled.fresh;
      serial = settled.serial;
      next = settled.next;
      behind = behind;
      followed = record {
        wanted = i.wanted.0;
        client = f;
        follows = follows;
        behind = ap after_connection all_taken ∙ behind;
        none_missed = client_missed_none p.ends c.agrees stay c.all;
        stay = stay;
        accounts = subst (λ (h : ClientConverter H). Accounts start [] [] [] h.kept) (sym has.is) (first_account first_heeds start has.resp has.serial);
      };
      all = all_taken;
    }

  by_stage : (k : ClientStage H) (t : ServerStage) → p.client ≡ k → p.server ≡ t → client_done k ≡ true → Stand g start p.ends k t → IsShaken start p
  by_stage (Asks k) t a b done s = absurd (let both : false ≡ true = done in cc)
  by_stage (Follows f) (Serves d) a b done s = shaken_so f d a b s.0 s.1
  by_stage (Follows f) (Shakes h) a b done s = absurd s

  done_so : client_done p.client ≡ true → IsShaken start p
  done_so done = by_stage p.client p.server refl refl done i.stand

-- ---- from a new pair on

module _ (laws : ShakingLaws) (first_heeds : FirstHeeds) {H : Type 0} (name : List ℕ) (start : ℕ) (fits : length name ≤ 1048555) (at greeted asked handed : Moment H)
    (new : IsNew name Receiver start at.pair)
    (one : IsCarried side.Client at greeted) (two : IsCarried side.Server greeted asked) (three : IsCarried side.Client asked handed) where
  abbrev g : Greeter
  g = greeter name Receiver

  at_first : InHandshakes g start at.pair
  at_first = record {
    steady = new.steady;
    wanted = (new.client_wanted, new.server_wanted);
    endpoint = subst (λ (s : ServerStage). HasEndpoint s at.pair.ends.server.backend) (sym new.server) tt;
    stand = subst (λ (s : ServerStage). Stand g start at.pair.ends at.pair.client s) (sym new.server)
        (subst (λ (k : ClientStage H). Stand g start at.pair.ends k (Shakes (untold start))) (sym new.client) (refl, refl));
  }

  greeted_so : InHandshakes g start greeted.pair × (greeted.told ≡ at.told)
  greeted_so = goes_by laws first_heeds {H = H} g fits start side.Client one.between at greeted one.goes at_first

  asked_so : InHandshakes g start asked.pair × (asked.told ≡ greeted.told)
  asked_so = goes_by laws first_heeds {H = H} g fits start side.Server two.between greeted asked two.goes greeted_so.0

  handed_so : InHandshakes g start handed.pair × (handed.told ≡ asked.told)
  handed_so = goes_by laws first_heeds {H = H} g fits start side.Client three.between asked handed three.goes asked_so.0

  server_first : Stays side.Server at.pair.ends greeted.pair.ends
  server_first = stays_by side.Client one.between at greeted one.goes

  client_later : Stays side.Client greeted.pair.ends asked.pair.ends
  client_later = stays_by side.Server two.between greeted asked two.goes

  server_last : Stays side.Server asked.pair.ends handed.pair.ends
  server_last = stays_by side.Client three.between asked handed three.goes

  told_at : (p : PairView H) → p.ends.spent ≡ false → IsKept p → InHandshakes g start p → 1 ≤ length (end_of side.Client p.ends).taken → (end_of side.Client p.ends).sent ≡ onto (asked_by g) []
  told_at p whole kept i some = told_by laws first_heeds {H = H} g fits start p.ends p.client p.server p.steady p.client_wanted p.server_wanted (kept.keeps.greeting whole) i some

  -- the client took what the server began with
  one_taken : length (end_of side.Client greeted.pair.ends).taken ≡ 1
  one_taken = one.all ∙ ap length server_first.sent ∙ ap (λ (x : StoredEnd). length (end_in x).sent) new.server_end

  -- so it took something later
  some_taken : 1 ≤ length (end_of side.Client handed.pair.ends).taken
  some_taken =
      let few = two.kept.pair.world.client_agrees.few in
      let same = ap length client_later.taken in
      let sent = ap length server_last.sent in
      let all = three.all in
      let count = one_taken in
      omega (arith, few, same, sent, all, count)

  -- and the server all that the client told
  server_all : HasTakenAll side.Server handed.pair.ends
  server_all =
      ap length server_last.taken ∙ two.all ∙ ap length client_later.sent
      ∙ ap length (told_at greeted.pair one.whole one.kept greeted_so.0 (let count = one_taken in omega (arith, count)))
      ∙ ap length (sym (told_at handed.pair three.whole three.kept handed_so.0 some_taken))

  both_done : client_done handed.pair.client ≡ true
  both_done = (completes laws handed.pair three.kept.keeps (name_fits laws first_heeds {H = H} g fits start handed.pair.ends handed.pair.client handed.pair.server handed_so.0.stand) three.whole handed_so.0.wanted three.all server_all).0

  shaken : IsShaken start handed.pair × (handed.told ≡ at.told)
  shaken = (done_so laws first_heeds g start handed.pair handed.told asked three handed_so.0 both_done, handed_so.1 ∙ asked_so.1 ∙ greeted_so.1)

pub shakes_hands : (laws : ShakingLaws) (first_heeds : FirstHeeds) {H : Type 0} (at greeted asked handed : Moment H) → IsCarried side.Client at greeted →
    IsCarried side.Server greeted asked → IsCarried side.Client asked handed → ShakesHands at handed
shakes_hands laws first_heeds at greeted asked handed one two three = λ start r. shaken laws first_heeds r.name start r.fits at greeted asked handed r.new one two three
