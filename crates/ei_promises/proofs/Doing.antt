-- What a pair keeps where its server or its client was asked to do something.
use Rattle.std.proofs.Common.{◌≡◌, ℕ, zero, suc, ◌<◌, ◌≤◌, ◌⊎◌, Bool, true, false, cond, eqb, ◌&&◌, inl, inr, List, [], ◌∷◌, Option, Some, refl, sym, ap, subst, ◌∙◌, arith, lit≤, ◌^◌}
use Rattle.std.specs.Prelude.{is_some, nat_eq, codes}
use Rattle.std.specs.List.{Contains, list_any}
use Rattle.std.specs.Ordering.{nat_cmp}
use Rattle.std.specs.Cmp.{nat_cmp_total, unsigned_tied}
use Rattle.std.specs.FinMap as finite
use Rattle.std.proofs.lemmas.Bool.{eqb-true, ne_eqb}
use Rattle.ei_spec.specs.declared.interface.KnownInterface.TheVariants as known
use Rattle.ei_spec.specs.Interface.{Known, ObjectView}
use Rattle.ei_spec.specs.Piece.{Piece}
use Rattle.ei_spec.specs.Rows.{Fixed, announcing}
use Rattle.ei_spec.specs.Value.{New, U32}
use Rattle.ei_ends.specs.Steps.{called}
use Rattle.ei_ends.proofs.Keeping.{ranges}
use Rattle.ei_backend.specs.Table.{own_limit}
use Rattle.ei_promises.proofs.Taking.{heard_announced, near}
use Rattle.ei_ends.specs.Sent.{Sent, Got, new_of, row_of, IsCall, New as Announced}
use Rattle.ei_ends.specs.Announced.{next_own, counts}
use Rattle.ei_ends.specs.Way.{onto, End, AllSent, HasNextId}
use Rattle.ei_ends.specs.Joined.{Joined, heard, AreListedCalls, acquainted}
use Rattle.ei_ends.proofs.JoinedSteps.{turned, next_id_is}
use Rattle.ei_ends.proofs.Known.{next_more, all_sent_onto, in_range, not_zero, apart}
use Rattle.ei_told.specs.Told.{messages}
use Rattle.ei_shaking.specs.Sending.{AreVersions}
use Rattle.ei_shaking.specs.Both.{AreShaking}
use Rattle.ei_linked.specs.declared.record.Record.{Record}
use Rattle.ei_linked.specs.declared.side.Side.TheVariants as side
use Rattle.ei_linked.specs.Stored.{end_in, sent_view, having_sent}
use Rattle.ei_linked.specs.Written.{record_as}
use Rattle.ei_linked.proofs.Kept as kept
use Rattle.ei_handler.specs.declared.receipt.Receipt.{Receipt}
use Rattle.ei_linked.specs.TwoEnds.{WorldView, end_of, with_end, asked_of}
use Rattle.ei_event.specs.Kept.{KeptView}
use Rattle.ei_event.specs.Converter.{ConverterView as ClientConverter}
use Rattle.ei_request.specs.Connection.{ConnectionView}
use Rattle.ei_request.specs.Converter.{ConverterView as ServerConverter}
use Rattle.ei_acts.specs.Sendable.{IsEndOf}
use Rattle.ei_acts.specs.Acting as act
use Rattle.ei_acts.specs.Acting.{Act, Makes, IsSteady}
use Rattle.ei_acts.specs.Allowed.{MayDo}
use Rattle.ei_acts.specs.Serving.{Serves as IsServer}
use Rattle.ei_acts.proofs.Joining.{act_may}
use Rattle.ei_acts.proofs.Inputting.{input_by_test}
use Rattle.ei_promises.specs.declared.calls.ServerCall.{ServerCall}
use Rattle.ei_promises.specs.declared.calls.ServerCall.TheVariants as call
use Rattle.ei_promises.specs.Pair.{ClientStage, Asks, Follows, ServerStage, Shakes, Serves, PairView, IsPair}
use Rattle.ei_promises.specs.Calling.{act_of, server_called, messages_of, is_steady_call, sync_of, server_done_so, client_sent_so, SyncsWith}
use Rattle.ei_promises.specs.Keeping.{lists_at, AreAnswering, AreStuck, called_ids, KeepsHandlers, Listens, Keeps, HasSentAll, FollowsOn, IsFollowing}
use Rattle.ei_promises.proofs.Given.{ShakingLaws}
use Rattle.ei_promises.proofs.Lists.{onto_some}
use Rattle.ei_promises.proofs.ServerShakes.{pair}
use Rattle.ei_promises.proofs.ServerKeeps.{pair_joined, asking_keeps, following_keeps, handled_settled}
use Rattle.ei_promises.proofs.Called.{server_stays, sent_by_call}

-- ---- a call of a client that follows the server

next_grows : (m : Sent) (sent : List Sent) → next_own false sent ≤ next_own false (m ∷ sent)
next_grows m sent = let more = next_more false m sent in omega (arith, more)

-- it sent one message more, and its converter has the same
module _ {H : Type 0} (w : WorldView) (f : ClientConverter H) (c : ServerConverter) (steady cw sw : Bool) (whole : w.spent ≡ false) (ok : IsPair {H = H} (pair w (Follows f) (Serves c) steady cw sw)) (keeps : Keeps {H = H} (pair w (Follows f) (Serves c) steady cw sw)) (m : Record) where
  abbrev called_then : WorldView
  called_then = with_end side.Client (having_sent false m w.client) w

  own_grows : (f_then : ClientConverter H) → IsPair {H = H} (pair called_then (Follows f_then) (Serves c) steady cw sw) → w.client.backend.table.next_own ≤ called_then.client.backend.table.next_own
  own_grows f_then ok_then =
      let before = next_id_is false (end_in w.client) (end_in w.server) w.to_server w.to_client (turned true (end_in w.server) (end_in w.client) w.to_client w.to_server (pair_joined (pair w (Follows f) (Serves c) steady cw sw) ok whole)) in
      let after = next_id_is false (end_in called_then.client) (end_in w.server) w.to_server w.to_client (turned true (end_in w.server) (end_in called_then.client) w.to_client w.to_server (pair_joined (pair called_then (Follows f_then) (Serves c) steady cw sw) ok_then whole)) in
      let grows = next_grows (sent_view m) (end_in w.client).sent in
      omega (arith, before, after, grows)

  called_keeps : (f_then : ClientConverter H) → f_then.kept ≡ f.kept → KeepsHandlers called_then.client.backend.table.next_own (end_in w.client).taken f_then → IsPair {H = H} (pair called_then (Follows f_then) (Serves c) steady cw sw) →
      Keeps {H = H} (pair called_then (Follows f_then) (Serves c) steady cw sw)
  called_keeps f_then same handlers ok_then =
      let g = keeps.following whole in
      following_keeps called_then f_then c steady cw sw ok_then whole (ap (λ (k : KeptView). k.negotiated) same ∙ keeps.same) (keeps.serving whole).0 (keeps.serving whole).1 (record {
        connection = subst (λ (o : ObjectView). heard true (end_in w.client).taken o.id ≡ Some (record { id = o.id; interface = Known known.Connection; version = o.version })) (sym (ap (λ (k : KeptView). k.proxy) same)) g.connection;
        listens = λ want none. subst (Listens (messages (end_in w.client).taken)) (sym same) (g.listens want none);
        handlers = handlers;
      })

  handlers_stay : (own : ℕ) → w.client.backend.table.next_own ≤ own → KeepsHandlers own (end_in w.client).taken f
  handlers_stay own le = let h = (keeps.following whole).handlers in record {
    ended = λ r s. let e = h.ended r s in let lt = e.1 in (e.0, omega (arith, le, lt));
    waits = λ id s. let v = h.waits id s in let lt = v.0 in (omega (arith, le, lt), v.1);
    once = h.once;
  }

  pub client_called : IsPair {H = H} (pair called_then (Follows f) (Serves c) steady cw sw) → Keeps {H = H} (pair called_then (Follows f) (Serves c) steady cw sw)
  client_called ok_then = called_keeps f refl (handlers_stay called_then.client.backend.table.next_own (own_grows f ok_then)) ok_then

-- ---- a call of a server

-- a steady call is a steady act
steady_act : (s : ServerCall) (w : WorldView) (c : ConnectionView) → MayDo (act_of s w) (end_of side.Server w) c → is_steady_call s c ≡ true → IsSteady (act_of s w) c
steady_act (call.AddDevice seat name kind capabilities setup) w c may t = t
steady_act (call.Input target opcode values) w c may t = input_by_test c (sent_view (asked_of side.Server w target opcode values.now)) t
steady_act (call.AddSeat name capabilities) w c may t = tt
steady_act (call.RemoveSeat seat) w c may t = tt
steady_act (call.RemoveDevice device) w c may t = tt
steady_act (call.Resumed device) w c may t = tt
steady_act (call.Paused device) w c may t = tt
steady_act (call.StartEmulating device sequence) w c may t = tt
steady_act (call.StopEmulating device) w c may t = tt
steady_act (call.Frame device time) w c may t = tt
steady_act (call.Disconnected reason explanation) w c may t = tt

-- what was settled stays
makes_settled : (a : Act) (x : End) (old new : ConnectionView) → MayDo a x old → Makes a old new → new.negotiated ≡ old.negotiated
makes_settled act.Rests x old new may m = absurd may
makes_settled (act.Resumes key device) x old new may m = ap (λ (c : ConnectionView). c.negotiated) m.1
makes_settled (act.Pauses key device) x old new may m = ap (λ (c : ConnectionView). c.negotiated) m.1
makes_settled (act.StartsEmulating key device sequence) x old new may m = ap (λ (c : ConnectionView). c.negotiated) m.1
makes_settled (act.StopsEmulating key device) x old new may m = ap (λ (c : ConnectionView). c.negotiated) m.1
makes_settled (act.EndsFrame key device time) x old new may m = ap (λ (c : ConnectionView). c.negotiated) m.1
makes_settled (act.SendsInput message) x old new may m = ap (λ (c : ConnectionView). c.negotiated) m
makes_settled (act.TellsMissing id) x old new may m = ap (λ (c : ConnectionView). c.negotiated) m
makes_settled (act.Answers id meaning time) x old new may m = ap (λ (c : ConnectionView). c.negotiated) m.1.1 ∙ handled_settled (record { handle = old; queue = m.1.0 }) id meaning time
makes_settled (act.AddsSeat name given) x old new may m = ap (λ (c : ConnectionView). c.negotiated) m.rest
makes_settled (act.AddsDevice key seat name kind wanted items) x old new may m = ap (λ (c : ConnectionView). c.negotiated) m.1.rest
makes_settled (act.RemovesDevice key) x old new may m = ap (λ (c : ConnectionView). c.negotiated) m.rest
makes_settled (act.RemovesSeat id) x old new may m = ap (λ (c : ConnectionView). c.negotiated) m.rest
makes_settled (act.Disconnects reason text) x old new may m = ap (λ (c : ConnectionView). c.negotiated) m.rest

both_true : (a b : Bool) → (a && b) ≡ true → (a ≡ true) × (b ≡ true)
both_true true true e = (refl, refl)
both_true true false e = absurd cc
both_true false b e = absurd cc

module _ (laws : ShakingLaws) {H : Type 0} (w : WorldView) (k : ClientStage H) (c : ServerConverter) (steady cw sw : Bool) (whole : w.spent ≡ false) (ok : IsPair (pair w k (Serves c) steady cw sw)) (keeps : Keeps (pair w k (Serves c) steady cw sw)) (s : ServerCall) (left : ConnectionView)
    (may : MayDo (act_of s w) (end_of side.Server w) c.handle) (makes : Makes (act_of s w) c.handle left) where
  abbrev done_steady : Bool
  done_steady = steady && is_steady_call s c.handle

  abbrev done_world : WorldView
  done_world = server_called s w c.handle left

  stays : Joined true (end_of side.Server done_world) (end_of side.Client w) w.to_client w.to_server × IsServer (end_of side.Server done_world) left done_steady
  stays =
      server_stays s w c.handle left steady done_steady (pair_joined (pair w k (Serves c) steady cw sw) ok whole) (keeps.serving whole).0 may makes
      (λ t. let p = both_true steady (is_steady_call s c.handle) t in (p.0, steady_act s w c.handle may p.1))

  settled : left.negotiated ≡ c.handle.negotiated
  settled = makes_settled (act_of s w) (end_of side.Server w) c.handle left may makes

  small : AreVersions left.negotiated
  small = subst AreVersions (sym settled) (keeps.serving whole).1

  listed : AreListedCalls true (messages_of s w c.handle) (end_of side.Server w).sent (end_of side.Server w).taken
  listed =
      let end : IsEndOf (end_of side.Server w) c.handle = record { client = end_of side.Client w; to_client = w.to_client; to_server = w.to_server; joined = pair_joined (pair w k (Serves c) steady cw sw) ok whole; backend = (keeps.serving whole).0.backend } in
      act_may (act_of s w) (end_of side.Server w) c.handle left end (keeps.serving whole).0.holds may makes

  sent_then : (end_of side.Server done_world).sent ≡ onto (messages_of s w c.handle) (end_of side.Server w).sent
  sent_then = sent_by_call s w c.handle listed

pub server_does : (laws : ShakingLaws) {H : Type 0} (w : WorldView) (k : ClientStage H) (c : ServerConverter) (steady cw sw : Bool) → w.spent ≡ false → IsPair (pair w k (Serves c) steady cw sw) → Keeps (pair w k (Serves c) steady cw sw) → (s : ServerCall) (left : ConnectionView) →
    MayDo (act_of s w) (end_of side.Server w) c.handle → Makes (act_of s w) c.handle left → IsPair (pair (server_called s w c.handle left) k (Serves (record c { handle = left })) (steady && is_steady_call s c.handle) cw sw) →
    Keeps (pair (server_called s w c.handle left) k (Serves (record c { handle = left })) (steady && is_steady_call s c.handle) cw sw)
server_does laws {H} w (Follows f) c steady cw sw whole ok keeps s left may makes ok_then =
    following_keeps (server_called s w c.handle left) f (record c { handle = left }) (steady && is_steady_call s c.handle) cw sw ok_then whole
    (keeps.same ∙ sym (settled laws w (Follows f) c steady cw sw whole ok keeps s left may makes)) (stays laws w (Follows f) c steady cw sw whole ok keeps s left may makes).1
    (small laws w (Follows f) c steady cw sw whole ok keeps s left may makes) (keeps.following whole)
server_does laws {H} w (Asks k) c steady cw sw whole ok keeps s left may makes ok_then =
    asking_keeps (server_called s w c.handle left) k (Serves (record c { handle = left })) (steady && is_steady_call s c.handle) cw sw (λ _. ((keeps.greeting whole).0, by (keeps.greeting whole).1))
    (λ _. ((stays laws {H = H} w (Asks k) c steady cw sw whole ok keeps s left may makes).1, small laws {H = H} w (Asks k) c steady cw sw whole ok keeps s left may makes))
  where
    later : AreAnswering {H = H} k (pair w (Asks k) (Serves c) steady cw sw) → (serial : ℕ) → AreShaking k.greeter serial (lists_at side.Server w) (lists_at side.Client w) → AreShaking k.greeter serial (lists_at side.Server (server_called s w c.handle left)) (lists_at side.Client w)
    later a serial t =
        let r = onto_some (messages_of s w c.handle) (end_of side.Server w).sent in
        let sent = sent_then laws {H = H} w (Asks k) c steady cw sw whole ok keeps s left may makes ∙ r.1 in
        subst (λ (l : List Sent). AreShaking k.greeter serial (record { sent = l; taken = messages (end_of side.Server w).taken }) (lists_at side.Client w)) (sym sent)
        (laws.server_later k.greeter serial (lists_at side.Server w) (lists_at side.Client w) t r.0 [] a.server.0 t.server_hears)

    by : AreAnswering {H = H} k (pair w (Asks k) (Serves c) steady cw sw) ⊎ AreStuck {H = H} (pair w (Asks k) (Serves c) steady cw sw) →
        AreAnswering {H = H} k (pair (server_called s w c.handle left) (Asks k) (Serves (record c { handle = left })) (steady && is_steady_call s c.handle) cw sw)
        ⊎ AreStuck {H = H} (pair (server_called s w c.handle left) (Asks k) (Serves (record c { handle = left })) (steady && is_steady_call s c.handle) cw sw)
    by (inl a) = inl (record {
      serial = a.serial;
      small = a.small;
      shaking = later a a.serial a.shaking;
      server_misses = a.server_misses;
      client_misses = a.client_misses;
      server = (a.server.0, settled laws {H = H} w (Asks k) c steady cw sw whole ok keeps s left may makes ∙ a.server.1);
      versions = a.versions;
      unhanded = a.unhanded;
    })
    by (inr a) = absurd (let d : true ≡ false = a.shakes in cc)

-- ---- a sync with a handler

got_with : {H : Type 0} (m : finite.FinMap nat_cmp H) (k q : ℕ) (h : H) → finite.get (finite.insert m k h) q ≡ cond (eqb q k) (Some h) (finite.get m q)
got_with {H} m k q h = finite.get-insert nat_cmp_total m k h q ∙ ap (λ (b : Bool). cond b (Some h) (finite.get m q)) (unsigned_tied q k)

-- of an id that was not given yet no handler was called
not_called : {H : Type 0} (own own_then : ℕ) (taken : List Got) (f : ClientConverter H) (h : H) → own < own_then → KeepsHandlers own taken f → KeepsHandlers own_then taken (record f { waiting = finite.insert f.waiting own h })
not_called {H} own own_then taken f h lt k = record {
  ended = λ r s. let e = k.ended r s in let below = e.1 in (e.0, omega (arith, lt, below));
  waits = λ id s. by id (eqb id own) refl (sym (ap is_some (got_with f.waiting own id h)) ∙ s);
  once = k.once;
}
  where
    none_in : (id : ℕ) → id ≡ own → (receipts : List Receipt) → ((r : Receipt) → Contains receipts r → r.callback < own) → list_any (nat_eq id) (called_ids receipts) ≡ false
    none_in id e [] below = refl
    none_in id e (r ∷ rs) below =
        let here = below r (zero, omega arith, refl) in
        rw (ne_eqb id r.callback (λ same. omega (arith, here, same, e)), none_in id e rs (λ q c. below q (suc c.0, (let up = c.1 in omega (arith, up)), c.2))) refl

    by : (id : ℕ) (b : Bool) → eqb id own ≡ b → is_some (cond b (Some h) (finite.get f.waiting id)) ≡ true → (id < own_then) × (list_any (nat_eq id) (called_ids f.receipts) ≡ false)
    by id true e s = let is = eqb-true id own e in (omega (arith, lt, is), none_in id is f.receipts (λ r c. (k.ended r c).1))
    by id false e s = let v = k.waits id s in let below = v.0 in (omega (arith, lt, below), v.1)

module _ {H : Type 0} (w : WorldView) (f : ClientConverter H) (c : ServerConverter) (steady cw sw : Bool) (whole : w.spent ≡ false) (ok : IsPair {H = H} (pair w (Follows f) (Serves c) steady cw sw)) (keeps : Keeps {H = H} (pair w (Follows f) (Serves c) steady cw sw)) (h : H) where
  abbrev own_id : ℕ
  own_id = w.client.backend.table.next_own

  abbrev sync : Sent
  sync = sync_of own_id f.kept.proxy

  abbrev with_handler : ClientConverter H
  with_handler = record f { waiting = finite.insert f.waiting own_id h }

  pub sync_keeps : IsPair {H = H} (pair (with_end side.Client (having_sent false (record_as false sync) w.client) w) (Follows with_handler) (Serves c) steady cw sw) →
      Keeps {H = H} (pair (with_end side.Client (having_sent false (record_as false sync) w.client) w) (Follows with_handler) (Serves c) steady cw sw)
  unfolding row_of
  sync_keeps ok_then =
      called_keeps w f c steady cw sw whole ok keeps (record_as false sync) with_handler refl
      (not_called own_id (called_then w f c steady cw sw whole ok keeps (record_as false sync)).client.backend.table.next_own (end_in w.client).taken f h own_more (keeps.following whole).handlers) ok_then
    where
      own_more : own_id < (called_then w f c steady cw sw whole ok keeps (record_as false sync)).client.backend.table.next_own
      own_more =
          let before = next_id_is false (end_in w.client) (end_in w.server) w.to_server w.to_client (kept.ahead w whole ok.world) in
          let after = next_id_is false (end_in (having_sent false (record_as false sync) w.client)) (end_in w.server) w.to_server w.to_client (kept.ahead (with_end side.Client (having_sent false (record_as false sync) w.client) w) whole ok_then.world) in
          let more = next_more false (sent_view (record_as false sync)) (end_in w.client).sent in
          let one : counts (new_of false (sent_view (record_as false sync))) ≡ 1 = refl in
          omega (arith, before, after, more, one)

-- ---- by where the ends stand

pub server_keeps_on : (laws : ShakingLaws) {H : Type 0} (p : PairView H) (c : ServerConverter) (s : ServerCall) (left : ConnectionView) → p.ends.spent ≡ false → IsPair p → Keeps p → p.server ≡ Serves c → MayDo (act_of s p.ends) (end_of side.Server p.ends) c.handle → Makes (act_of s p.ends) c.handle left →
    IsPair (server_done_so s c left p) → Keeps (server_done_so s c left p)
server_keeps_on laws {H} p c s left whole ok keeps is may makes ok_then =
    server_does laws p.ends p.client c p.steady p.client_wanted p.server_wanted whole (subst (λ (t : ServerStage). IsPair (pair p.ends p.client t p.steady p.client_wanted p.server_wanted)) is ok)
    (subst (λ (t : ServerStage). Keeps (pair p.ends p.client t p.steady p.client_wanted p.server_wanted)) is keeps) s left may makes ok_then

-- a client that follows has a server that serves
following_pair : {H : Type 0} (P : PairView H → PairView H → Type 0) (w w_then : WorldView) (f f_then : ClientConverter H) (t : ServerStage) (steady cw sw : Bool) → w.spent ≡ false → Keeps (pair w (Follows f) t steady cw sw) →
    ((c : ServerConverter) → P (pair w (Follows f) (Serves c) steady cw sw) (pair w_then (Follows f_then) (Serves c) steady cw sw)) → P (pair w (Follows f) t steady cw sw) (pair w_then (Follows f_then) t steady cw sw)
following_pair P w w_then f f_then (Shakes h) steady cw sw whole keeps each = absurd (let d : false ≡ true = keeps.greeting whole in cc)
following_pair P w w_then f f_then (Serves c) steady cw sw whole keeps each = each c

pub client_keeps_on : {H : Type 0} (p : PairView H) (f : ClientConverter H) (m : Record) → p.ends.spent ≡ false → IsPair p → Keeps p → p.client ≡ Follows f → IsPair (client_sent_so m p) → Keeps (client_sent_so m p)
client_keeps_on {H} p f m whole ok keeps is ok_then =
    subst (λ (k : ClientStage H). Keeps (pair (with_end side.Client (having_sent false m p.ends.client) p.ends) k p.server p.steady p.client_wanted p.server_wanted)) (sym is)
    (following_pair (λ a b. IsPair a → Keeps a → IsPair b → Keeps b) p.ends (with_end side.Client (having_sent false m p.ends.client) p.ends) f f p.server p.steady p.client_wanted p.server_wanted whole there
    (λ c o g t. client_called p.ends f c p.steady p.client_wanted p.server_wanted whole o g m t)
    (subst (λ (k : ClientStage H). IsPair (pair p.ends k p.server p.steady p.client_wanted p.server_wanted)) is ok) there
    (subst (λ (k : ClientStage H). IsPair (pair (with_end side.Client (having_sent false m p.ends.client) p.ends) k p.server p.steady p.client_wanted p.server_wanted)) is ok_then))
  where
    there : Keeps (pair p.ends (Follows f) p.server p.steady p.client_wanted p.server_wanted)
    there = subst (λ (k : ClientStage H). Keeps (pair p.ends k p.server p.steady p.client_wanted p.server_wanted)) is keeps

pub syncs_keep : {H : Type 0} (p new : PairView H) (f : ClientConverter H) (handler : H) (answer : Option ObjectView) → p.ends.spent ≡ false → IsPair p → Keeps p → p.client ≡ Follows f → SyncsWith handler f p answer new → IsPair new → Keeps new
syncs_keep {H} p new f handler answer whole ok keeps is s ok_then =
    subst Keeps (sym s.leaves)
    (following_pair (λ a b. IsPair a → Keeps a → IsPair b → Keeps b) p.ends (with_end side.Client (having_sent false (record_as false (sync_of p.ends.client.backend.table.next_own f.kept.proxy)) p.ends.client) p.ends) f
    (record f { waiting = finite.insert f.waiting p.ends.client.backend.table.next_own handler }) p.server p.steady p.client_wanted p.server_wanted whole there
    (λ c o g t. sync_keeps p.ends f c p.steady p.client_wanted p.server_wanted whole o g handler t)
    (subst (λ (k : ClientStage H). IsPair (pair p.ends k p.server p.steady p.client_wanted p.server_wanted)) is ok) there (subst IsPair s.leaves ok_then))
  where
    there : Keeps (pair p.ends (Follows f) p.server p.steady p.client_wanted p.server_wanted)
    there = subst (λ (k : ClientStage H). Keeps (pair p.ends k p.server p.steady p.client_wanted p.server_wanted)) is keeps

-- ---- a sync may be sent

sync_row : (id : ℕ) (connection : ObjectView) → row_of false (sync_of id connection) ≡ Some (announcing (codes "sync") (New ∷ U32 ∷ []) (Fixed known.Callback))
unfolding row_of
sync_row id connection = refl

sync_new : (id : ℕ) (connection : ObjectView) → new_of false (sync_of id connection) ≡ Some (record { id = id; interface = Known known.Callback; version = 1 })
unfolding row_of
sync_new id connection = refl

sync_call : (id : ℕ) (connection : ObjectView) → id < 2 ^ 64 → connection.id < 2 ^ 64 → IsCall false (sync_of id connection) (announcing (codes "sync") (New ∷ U32 ∷ []) (Fixed known.Callback))
sync_call id connection lt target = record { row = sync_row id connection; kinds = (lt, (omega arith, tt)); target = target; opcode = omega arith; short = lit≤ tt }

-- what was heard of the server is known
heard_known : (x y : End) (to_client to_server : Piece) (id : ℕ) (n : Announced) → Joined true x y to_client to_server → heard true y.taken id ≡ Some n → (acquainted false y.sent y.taken id ≡ Some n) × (id < 2 ^ 64)
heard_known x y to_client to_server id n j h =
    let all = all_sent_onto true j.there.flight j.there.past j.back.past (subst (λ (l : List Sent). AllSent true l j.back.past) j.tied.there.sent_is j.tied.says) in
    let there = heard_announced true y.sent j.there.past j.back.past y.taken id n all j.tied.there.agree h in
    let apart_now = near true x.sent j.there.past j.there.flight y.sent (ranges true x y to_client to_server j.there j.back j.tied) j.tied.there.sent_is in
    let range = in_range true j.there.past id n apart_now.sent_rises there in
    let low = range.low in
    let high = range.high in
    let ends = apart_now.sent_ends in
    (rw (not_zero id (omega (arith, low)), apart true j.there.past y.sent id n apart_now there) h, omega (arith, high, ends))

pub sync_sent : {H : Type 0} (p : PairView H) (f : ClientConverter H) → p.ends.spent ≡ false → IsPair p → Keeps p → p.client ≡ Follows f → p.ends.client.backend.table.next_own < own_limit true →
    HasSentAll false (sync_of p.ends.client.backend.table.next_own f.kept.proxy ∷ []) (end_of side.Client p.ends) (called false (sync_of p.ends.client.backend.table.next_own f.kept.proxy) p.ends.client.backend)
sync_sent {H} p f whole ok keeps is left =
    let id : ℕ = p.ends.client.backend.table.next_own in
    let m : Sent = sync_of id f.kept.proxy in
    let j = pair_joined p ok whole in
    let g : IsFollowing f (end_of side.Client p.ends) p.client_wanted = subst (λ (k : ClientStage H). FollowsOn k p) is (keeps.following whole) in
    let k = heard_known (end_of side.Server p.ends) (end_of side.Client p.ends) p.ends.to_client p.ends.to_server f.kept.proxy.id _ j g.connection in
    let next : id ≡ next_own false (end_of side.Client p.ends).sent = next_id_is false (end_of side.Client p.ends) (end_of side.Server p.ends) p.ends.to_server p.ends.to_client (kept.ahead p.ends whole ok.world) in
    let more = next_more false m (end_of side.Client p.ends).sent in
    let one = ap counts (sync_new id f.kept.proxy) in
    record {
      endpoint = refl;
      listed = (
        announcing (codes "sync") (New ∷ U32 ∷ []) (Fixed known.Callback),
        record { call = sync_call id f.kept.proxy (omega (arith, left)) k.1; target = k.0; next = subst (HasNextId (next_own false (end_of side.Client p.ends).sent)) (sym (sync_new id f.kept.proxy)) next; left = omega (arith, left, next, more, one) },
        tt,
      );
    }
