-- What a message comes to that a side of a pair was asked for, by its row.
use Rattle.std.proofs.Common.{◌≡◌, ℕ, true, false, ◌&&◌, List, Option, Result, Ok, Err, refl, sym, ap, subst, ◌∙◌}
use Rattle.std.specs.Borrow.{Bor}
use Rattle.ei_spec.specs.Interface.{ObjectView}
use Rattle.ei_wire.specs.declared.error.SendError.{SendError}
use Rattle.ei_wire.specs.declared.error.SendError.TheVariants as send_error
use Rattle.ei_values.specs.declared.value.Value.{Value}
use Rattle.ei_linked.specs.declared.record.Record.{Record}
use Rattle.ei_linked.specs.declared.side.Side.TheVariants as side
use Rattle.ei_linked.specs.Stored.{sent_view}
use Rattle.ei_linked.specs.Held.{Keeps as KeepsHeld}
use Rattle.ei_linked.specs.Ends.{EndsView, world_in}
use Rattle.ei_linked.specs.TwoEnds.{WorldView, IsWorld, end_of, MayCall, Calls, CallsTo, called_world, asked_of}
use Rattle.ei_linked.proofs.Kept.{back}
use Rattle.ei_request.specs.Connection.{ConnectionView}
use Rattle.ei_request.specs.Converter.{ConverterView as ServerConverter}
use Rattle.ei_handshake.specs.Handshaker.{HandshakerView}
use Rattle.ei_event.specs.Converter.{ConverterView as ClientConverter}
use Rattle.ei_acts.specs.Input.{having_sent as sent_on}
use Rattle.ei_acts.specs.Allowed.{MayDo}
use Rattle.ei_acts.proofs.Parts.{not_both}
use Rattle.ei_promises.specs.declared.calls.ServerCall.{ServerCall}
use Rattle.ei_promises.specs.declared.calls.ServerCall.TheVariants as call
use Rattle.ei_promises.specs.declared.calls.Made.TheVariants as made
use Rattle.ei_promises.specs.Pair.{ClientStage, Asks, Follows, PairView, IsPair, with_ends, on_endpoint, client_done}
use Rattle.ei_promises.specs.Keeping.{Keeps}
use Rattle.ei_promises.specs.Calling.{act_of, is_steady_call, server_done_so, client_sent_so}
use Rattle.ei_pair.specs.declared.server_end.ServerEnd.{ServerEnd}
use Rattle.ei_pair.specs.declared.server_end.ServerEnd.TheVariants as end
use Rattle.ei_pair.specs.ServerEnd.{endpoint_in, with_endpoint_in}
use Rattle.ei_pair.specs.Parts.{PartsView, pair_in, server_in}
use Rattle.ei_pair.specs.Stepped.{IsKept, IsSound}
use Rattle.ei_pair.specs.Calls.{MeetsAt, ComesExactly, LacksIdsAt, IsLongAt, steady_after, ServesCall, CallsClient}
use Rattle.ei_pair.specs.Asked.{AsksAt, AsksCall}
use Rattle.ei_pair.specs.declared.client_call.ClientCall.TheVariants as asked
use Rattle.ei_pair.proofs.Moved.{has_endpoint, moved_to, same_ends}
use Rattle.ei_pair.proofs.Naming.{input_may}
use Rattle.ei_pair.proofs.Called.{DoingServer, on_end, at_end}

-- ---- a client

abbrev pub DoingClient : Type 0 → Type 0
DoingClient H = (p : PairView H) (f : ClientConverter H) (m : Record) → p.ends.spent ≡ false → IsPair p → Keeps p → p.client ≡ Follows f → IsPair (client_sent_so m p) → Keeps (client_sent_so m p)

-- a call spends nothing
spends_none : (m : Record) (result : Result (Option ObjectView) SendError) (w v : WorldView) → Calls side.Client m result w v → v.spent ≡ w.spent
spends_none m (Ok o) w v h = ap (λ (x : WorldView). x.spent) h.2
spends_none m (Err send_error.IdsExhausted) w v h = ap (λ (x : WorldView). x.spent) h.1
spends_none m (Err send_error.MessageTooLong) w v h = ap (λ (x : WorldView). x.spent) h.2
spends_none m (Err send_error.NoMemory) w v h = ap (λ (x : WorldView). x.spent) h

same_server : (h : HandshakerView) (s : ServerEnd) → on_endpoint (endpoint_in s) (server_in h s) ≡ server_in h s
same_server h (end.Shaking b) = refl
same_server h (end.Talking c) = refl

module _ {H : Type 0} (law : DoingClient H) (p : PartsView H) (sound : IsSound p) (whole : p.ends.spent ≡ false) where
  -- nothing has changed
  unasked : (v : WorldView) → v ≡ (pair_in p).ends → IsKept (with_ends v (pair_in p))
  unasked v e = subst IsKept (sym (ap (λ (x : WorldView). with_ends x (pair_in p)) e ∙ same_ends p)) sound.kept

  asked_then : (m : Record) → with_ends (called_world side.Client m (pair_in p).ends) (pair_in p) ≡ client_sent_so m (pair_in p)
  asked_then m = ap (λ s. let q : PairView H = record (client_sent_so m (pair_in p)) { server = s } in q) (same_server p.tells p.ends.server.context)

  follows : (k : ClientStage H) → client_done k ≡ true → (f : ClientConverter H) × (k ≡ Follows f)
  follows (Asks h) e = absurd cc
  follows (Follows f) e = (f, refl)

  asked_kept : (m : Record) (result : Result (Option ObjectView) SendError) (v : WorldView) → client_done (pair_in p).client ≡ true → Calls side.Client m result (pair_in p).ends v → IsPair (with_ends v (pair_in p)) → IsKept (with_ends v (pair_in p))
  asked_kept m (Ok o) v done h pair =
      let f = follows (pair_in p).client done in
      let then : with_ends v (pair_in p) ≡ client_sent_so m (pair_in p) = ap (λ (x : WorldView). with_ends x (pair_in p)) h.2 ∙ asked_then m in
      let pair_then : IsPair (client_sent_so m (pair_in p)) = subst IsPair then pair in
      subst IsKept (sym then) (record { pair = pair_then; keeps = law (pair_in p) f.0 m whole sound.kept.pair sound.kept.keeps f.1 pair_then })
  asked_kept m (Err send_error.IdsExhausted) v done h pair = unasked v h.1
  asked_kept m (Err send_error.MessageTooLong) v done h pair = unasked v h.2
  asked_kept m (Err send_error.NoMemory) v done h pair = unasked v h

  pub asked_for : (q : PartsView H) (e : EndsView ServerEnd) (target : ObjectView) (opcode : ℕ) (values : List Value) (result : Result (Option ObjectView) SendError) → client_done (pair_in p).client ≡ true →
      Calls side.Client (asked_of side.Client (pair_in p).ends target opcode values) result (world_in endpoint_in p.ends) (world_in endpoint_in e) → KeepsHeld endpoint_in with_endpoint_in p.ends.server e.server → IsWorld (world_in endpoint_in e) → q ≡ record p { ends = e } →
      CallsClient target opcode values p result q
  asked_for q e target opcode values result done calls keeps world is =
      let m : Record = asked_of side.Client (pair_in p).ends target opcode values in
      let then : PartsView H = record p { ends = e } in
      let moves : pair_in then ≡ with_ends (world_in endpoint_in e) (pair_in p) = moved_to p e (world_in endpoint_in e) keeps refl in
      let pair : IsPair (pair_in then) = record { world = world; endpoint = has_endpoint p.tells e.server.context } in
      subst (CallsClient target opcode values p result) (sym is) (record {
        does = calls;
        kept = moves;
        whole = spends_none m result (pair_in p).ends (world_in endpoint_in e) calls ∙ whole;
        sound = record { kept = subst IsKept (sym moves) (asked_kept m result (world_in endpoint_in e) done calls (subst IsPair moves pair)); serial = sound.serial };
      })

-- ---- a server, whose end talks

module _ {H : Type 0} (p : PartsView H) (c : ServerConverter) (target : ObjectView) (opcode : ℕ) (values : Bor (List Value)) (sound : IsSound (on_end (end.Talking c) p)) (whole : p.ends.spent ≡ false)
    (e : EndsView ServerEnd) (keeps : KeepsHeld endpoint_in with_endpoint_in (on_end (end.Talking c) p).ends.server e.server) (world : IsWorld (world_in endpoint_in e)) where
  abbrev s : ServerCall
  s = call.Input target opcode values

  abbrev old : PartsView H
  old = on_end (end.Talking c) p

  abbrev w : WorldView
  w = (pair_in old).ends

  abbrev m : Record
  m = asked_of side.Server w target opcode values.now

  abbrev left : ConnectionView
  left = sent_on c.handle (sent_view m)

  abbrev then : PartsView H
  then = record old { ends = e }

  abbrev done : PairView H
  done = server_done_so s c left (pair_in old)

  input_ok : DoingServer H → MayCall side.Server w target opcode values.now → (o : Option ObjectView) → Calls side.Server m (Ok o) w (world_in endpoint_in e) → ServesCall s old (Ok made.Nothing) (record then { steady = p.steady && is_steady_call s c.handle })
  input_ok law meets o h =
      let is : world_in endpoint_in e ≡ called_world side.Server m w = h.2 in
      let still : e.spent ≡ false = ap (λ (x : WorldView). x.spent) is ∙ whole in
      let moves : pair_in then ≡ with_ends (called_world side.Server m w) (pair_in old) = moved_to old e (called_world side.Server m w) keeps is in
      let same : pair_in (record then { steady = p.steady && is_steady_call s c.handle }) ≡ done = ap (λ (q : PairView H). let r : PairView H = record q { steady = p.steady && is_steady_call s c.handle } in r) moves in
      let world_then : IsWorld (called_world side.Server m w) = subst IsWorld is world in
      let may : MayDo (act_of s w) (end_of side.Server w) c.handle = input_may w m (back w whole sound.kept.pair.world) meets.may.met (back (called_world side.Server m w) whole world_then) in
      let pair : IsPair done = record { world = world_then; endpoint = refl } in
      record {
        does = λ _. record { left = left; makes = refl; answer_is = refl; leaves = same };
        sends = ap (λ (q : PairView H). (end_of side.Server q.ends).sent) same;
        memory = λ t. absurd (not_both e.spent t still);
        spent = λ t. absurd (not_both e.spent t still);
        exhausted = ((λ x. absurd cc), (λ lacks. lacks h.0));
        long = ((λ x. absurd cc), (λ l. h.1 l.1));
        sound = record { kept = subst IsKept (sym same) (record { pair = pair; keeps = law (pair_in old) c s left whole sound.kept.pair sound.kept.keeps refl may refl pair }); serial = sound.serial };
      }

  unchanged_by : (f : SendError) → world_in endpoint_in e ≡ w → ComesExactly s (Err f) send_error.IdsExhausted (LacksIdsAt (pair_in old).server s) → ComesExactly s (Err f) send_error.MessageTooLong (IsLongAt (pair_in old).server s) → ServesCall s old (Err f) then
  unchanged_by f is ids long =
      let still : e.spent ≡ false = ap (λ (x : WorldView). x.spent) is ∙ whole in
      let moves : pair_in then ≡ with_ends w (pair_in old) = moved_to old e w keeps is in
      record {
        does = λ _. record { ctx = w.server.backend; endpoint = refl; leaves = moves };
        sends = tt;
        memory = λ t. absurd (not_both e.spent t still);
        spent = λ t. absurd (not_both e.spent t still);
        exhausted = ids;
        long = long;
        sound = record { kept = subst IsKept (sym (moves ∙ same_ends old)) sound.kept; serial = sound.serial };
      }

  input_err : (f : SendError) → Calls side.Server m (Err f) w (world_in endpoint_in e) → ServesCall s old (Err f) then
  input_err send_error.IdsExhausted h = unchanged_by send_error.IdsExhausted h.1 ((λ x. h.0), tt) ((λ x. absurd cc), tt)
  input_err send_error.MessageTooLong h = unchanged_by send_error.MessageTooLong h.2 ((λ x. absurd cc), tt) ((λ x. (h.0, h.1)), tt)
  input_err send_error.NoMemory h = unchanged_by send_error.NoMemory h ((λ x. absurd cc), tt) ((λ x. absurd cc), tt)

-- ---- wherever it is

talks : (h : HandshakerView) (x : ServerEnd) (s : ServerCall) (w : WorldView) → MeetsAt s w (server_in h x) → (c : ServerConverter) × (x ≡ end.Talking c)
talks h (end.Shaking b) s w meets = absurd meets
talks h (end.Talking c) s w meets = (c, refl)

module _ {H : Type 0} (target : ObjectView) (opcode : ℕ) (values : Bor (List Value)) (e : EndsView ServerEnd) where
  -- what is known of the ends once a server was asked for the message
  pub record Sent (p : PartsView H) (result : Result (Option ObjectView) SendError) (q : PartsView H) : Type 0 where
    pub sound : IsSound p
    pub whole : p.ends.spent ≡ false
    pub meets : MeetsAt (call.Input target opcode values) (pair_in p).ends (pair_in p).server
    pub calls : Calls side.Server (asked_of side.Server (pair_in p).ends target opcode values.now) result (world_in endpoint_in p.ends) (world_in endpoint_in e)
    pub keeps : KeepsHeld endpoint_in with_endpoint_in p.ends.server e.server
    pub world : IsWorld (world_in endpoint_in e)
    pub is : q ≡ record p { ends = e }

  pub sent_ok : DoingServer H → (p q : PartsView H) (o : Option ObjectView) → Sent p (Ok o) q →
      ServesCall (call.Input target opcode values) p (Ok made.Nothing) (record q { steady = steady_after p.steady (call.Input target opcode values) (pair_in p).server })
  sent_ok law p q o g =
      let t = talks p.tells p.ends.server.context (call.Input target opcode values) (pair_in p).ends g.meets in
      let at : p ≡ on_end (end.Talking t.0) p = at_end p (end.Talking t.0) t.1 in
      let F : PartsView H → Type 0 = λ r. Sent r (Ok o) q → ServesCall (call.Input target opcode values) r (Ok made.Nothing) (record q { steady = steady_after r.steady (call.Input target opcode values) (pair_in r).server }) in
      subst F (sym at) (λ k. subst (λ (r : PartsView H). ServesCall (call.Input target opcode values) (on_end (end.Talking t.0) p) (Ok made.Nothing) (record r { steady = p.steady && is_steady_call (call.Input target opcode values) t.0.handle })) (sym k.is)
      (input_ok p t.0 target opcode values k.sound k.whole e k.keeps k.world law k.meets o k.calls)) g

  pub sent_err : (p q : PartsView H) (f : SendError) → Sent p (Err f) q → ServesCall (call.Input target opcode values) p (Err f) q
  sent_err p q f g =
      let t = talks p.tells p.ends.server.context (call.Input target opcode values) (pair_in p).ends g.meets in
      let at : p ≡ on_end (end.Talking t.0) p = at_end p (end.Talking t.0) t.1 in
      let F : PartsView H → Type 0 = λ r. Sent r (Err f) q → ServesCall (call.Input target opcode values) r (Err f) q in
      subst F (sym at) (λ k. subst (λ (r : PartsView H). ServesCall (call.Input target opcode values) (on_end (end.Talking t.0) p) (Err f) r) (sym k.is)
      (input_err p t.0 target opcode values k.sound k.whole e k.keeps k.world f k.calls)) g

-- ---- as a call of the client

asks_at : {H : Type 0} (k : ClientStage H) (target : ObjectView) (opcode : ℕ) (values : Bor (List Value)) (old : PairView H) (result : Result (Option ObjectView) SendError) (new : PairView H) → client_done k ≡ true →
    CallsTo side.Client target opcode values.now result old.ends new.ends → new ≡ with_ends new.ends old → AsksAt k (asked.Call target opcode values) old result new
asks_at (Asks h) target opcode values old result new done calls kept = absurd cc
asks_at (Follows f) target opcode values old result new done calls kept = (calls, kept)

pub asks : {H : Type 0} (p q : PartsView H) (target : ObjectView) (opcode : ℕ) (values : Bor (List Value)) (result : Result (Option ObjectView) SendError) → client_done (pair_in p).client ≡ true → CallsClient target opcode values.now p result q →
    AsksCall (asked.Call target opcode values) p result q
asks p q target opcode values result done h = record {
  does = λ _. asks_at (pair_in p).client target opcode values (pair_in p) result (pair_in q) done h.does h.kept;
  refuses = tt;
  memory = λ t. absurd (not_both q.ends.spent t h.whole);
  spent = λ t. absurd (not_both q.ends.spent t h.whole);
  sound = h.sound;
}
