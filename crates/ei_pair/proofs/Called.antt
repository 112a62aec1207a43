-- What a call of a pair's server comes to, where its connection made it, refused it, or what it sends isn't stored.
use Rattle.std.proofs.Common.{◌≡◌, ◌<◌, ◌^◌, Bool, true, false, ◌&&◌, List, Some, Result, Ok, Err, refl, sym, ap, subst, ◌∙◌}
use Rattle.std.specs.Prelude.{IsErrOf, ◌↔◌}
use Rattle.ei_wire.specs.declared.error.SendError.{SendError}
use Rattle.ei_wire.specs.declared.error.SendError.TheVariants as send_error
use Rattle.ei_ends.specs.Sent.{Sent}
use Rattle.ei_linked.specs.declared.record.Record.{Record}
use Rattle.ei_linked.specs.declared.side.Side.TheVariants as side
use Rattle.ei_linked.specs.Stored.{with_endpoint}
use Rattle.ei_linked.specs.TwoEnds.{WorldView, IsWorld, end_of}
use Rattle.ei_linked.specs.declared.written.Unsent.{Unsent}
use Rattle.ei_linked.specs.Held.{stored_by}
use Rattle.ei_linked.specs.Ends.{EndsView}
use Rattle.ei_linked.specs.Written.{AreWritten, unsent_in, stored_onto}
use Rattle.ei_linked.proofs.Kept.{back, spent_kept}
use Rattle.ei_request.specs.Connection.{ConnectionView, Unchanged}
use Rattle.ei_request.specs.Converter.{ConverterView as ServerConverter}
use Rattle.ei_shaking.specs.Sending.{AreVersions}
use Rattle.ei_acts.specs.Acting.{Makes}
use Rattle.ei_acts.specs.Allowed.{MayDo}
use Rattle.ei_acts.specs.Serving.{Serves as IsServer}
use Rattle.ei_acts.proofs.Parts.{not_both}
use Rattle.ei_promises.specs.declared.calls.ServerCall.{ServerCall}
use Rattle.ei_promises.specs.declared.calls.ServerCall.TheVariants as call
use Rattle.ei_promises.specs.declared.calls.Made.{Made}
use Rattle.ei_promises.specs.Pair.{ClientStage, Asks, Follows, Serves, PairView, IsPair, maps_of}
use Rattle.ei_promises.specs.Stepping.{IsSpent}
use Rattle.ei_promises.specs.Keeping.{Keeps}
use Rattle.ei_promises.specs.Calling.{act_of, made_by, is_steady_call, messages_of, server_done_so}
use Rattle.ei_promises.proofs.Storing.{stored_behind}
use Rattle.ei_pair.specs.declared.server_end.ServerEnd.{ServerEnd}
use Rattle.ei_pair.specs.declared.server_end.ServerEnd.TheVariants as end
use Rattle.ei_pair.specs.ServerEnd.{endpoint_in}
use Rattle.ei_pair.specs.Parts.{PartsView, pair_in, server_in}
use Rattle.ei_pair.specs.Stepped.{IsKept, IsSound, server_stored}
use Rattle.ei_pair.specs.Spent.{SpendsAtCall}
use Rattle.ei_pair.specs.Calls.{MayMake, MayMakeAt, Leaves, IsFitting, LacksIdsFor, IsLongFor, ComesExactly, MakesAt, RefusesAt, LacksIdsAtEnd, IsLongAtEnd, ends_on, steady_after, ServesCall}
use Rattle.ei_pair.proofs.Naming.{may_do, makes}
use Rattle.ei_pair.proofs.Spent.{both_want, both_closed}
use Rattle.ei_pair.proofs.Making.{call_written, call_closed, called_world, stored_is, leaves_settled}
use Rattle.ei_pair.proofs.Refusing.{refused_world, refused_keeps}

-- the law of a call of a server, and that of a spent pair
abbrev pub DoingServer : Type 0 → Type 0
DoingServer H = (p : PairView H) (c : ServerConverter) (s : ServerCall) (left : ConnectionView) → p.ends.spent ≡ false → IsPair p → Keeps p → p.server ≡ Serves c →
    MayDo (act_of s p.ends) (end_of side.Server p.ends) c.handle → Makes (act_of s p.ends) c.handle left → IsPair (server_done_so s c left p) → Keeps (server_done_so s c left p)

abbrev pub SpentKeeps : Type 0 → Type 0
SpentKeeps H = (old new : PairView H) → Keeps old → IsSpent old new → Keeps new

-- ---- its answer

-- an answer that is no such refusal
comes_ok : (s : ServerCall) (made : Made) (e : SendError) (P : Type 0) → (P → ⊥) → ComesExactly s (Ok made) e P
comes_ok (call.Input target opcode values) made e P never = ((λ is. absurd cc), never)
comes_ok s made e P never = ((λ is. absurd cc), (λ p. absurd (never p)))

comes_other : (s : ServerCall) (f e : SendError) (P : Type 0) → (f ≡ e → ⊥) → (P → ⊥) → ComesExactly s (Err f) e P
comes_other (call.Input target opcode values) f e P apart never = ((λ is. absurd (apart cc)), tt)
comes_other s f e P apart never = ((λ is. absurd (apart cc)), (λ p. absurd (never p)))

-- ---- with an end that talks

-- the parts, of which the server's end is this
abbrev pub on_end : {H : Type 0} → ServerEnd → PartsView H → PartsView H
on_end x p = record p { ends = record p.ends { server = record p.ends.server { context = x } } }

-- and of which the ends are spent
abbrev pub spent_on : {H : Type 0} → ServerEnd → PartsView H → PartsView H
spent_on x p = record p { ends = record p.ends { server = record p.ends.server { context = x }; spent = true } }

abbrev pub with_left : ServerConverter → ConnectionView → ServerEnd
with_left c left = end.Talking (record c { handle = left })

module _ {H : Type 0} (p : PartsView H) (s : ServerCall) (c : ServerConverter) (left : ConnectionView) (sound : IsSound (on_end (end.Talking c) p)) (whole : p.ends.spent ≡ false) where
  abbrev old : PartsView H
  old = on_end (end.Talking c) p

  abbrev w : WorldView
  w = (pair_in old).ends

  serving : IsServer (end_of side.Server w) c.handle p.steady × AreVersions c.handle.negotiated
  serving = sound.kept.keeps.serving whole

  -- ---- it was refused

  pub refused : (e : SendError) → Unchanged c.handle left → ComesExactly s (Err e) send_error.IdsExhausted (LacksIdsFor s c.handle) → ComesExactly s (Err e) send_error.MessageTooLong (IsLongFor s c.handle) →
      ServesCall s old (Err e) (on_end (with_left c left) p)
  refused e u ids long =
      let world = refused_world w c.handle left whole sound.kept.pair.world refl u in
      let pair : IsPair (pair_in (on_end (with_left c left) p)) = record { world = world; endpoint = refl } in
      record {
        does = λ _. record {
          ctx = left.ctx;
          endpoint = u.endpoint;
          leaves = ap (λ (d : ConnectionView). let q : PairView H = record (pair_in (on_end (with_left c left) p)) { server = Serves (record c { handle = d }) } in q) u.rest;
        };
        sends = tt;
        memory = λ t. absurd (not_both p.ends.spent t whole);
        spent = λ t. absurd (not_both p.ends.spent t whole);
        exhausted = ids;
        long = long;
        sound = record {
          kept = record { pair = pair; keeps = refused_keeps w (pair_in old).client c p.steady p.client_wanted p.server_wanted left u whole sound.kept.keeps pair };
          serial = sound.serial;
        };
      }

  -- ---- it was made

  module _ (fit : IsFitting s) (meets : MayMake s c.handle) (l : Leaves s c.handle left) (ids : LacksIdsFor s c.handle → ⊥) (short : IsLongFor s c.handle → ⊥) (serial : c.handle.last_serial < 2 ^ 32) where
    may : MayDo (act_of s w) (end_of side.Server w) c.handle
    may = may_do s w c.handle p.steady (back w whole sound.kept.pair.world) serving.0 serving.1 serial fit meets ids short

    made_so : Makes (act_of s w) c.handle left
    made_so = makes s w c.handle left serving.0.holds meets l

    -- what it sends can be read back
    pub written_so : AreWritten true (unsent_in w.server.backend) (messages_of s w c.handle) (with_endpoint left.ctx w.server)
    written_so = call_written s w c.handle left p.steady (back w whole sound.kept.pair.world) serving.0 may made_so meets

    -- and is stored
    abbrev then : PartsView H
    then = record (server_stored (with_left c left) (messages_of s w c.handle) p.tells old) { steady = p.steady && is_steady_call s c.handle }

    abbrev done : PairView H
    done = server_done_so s c left (pair_in old)

    same : pair_in then ≡ done
    same = ap (λ (r : List Record). let q : PairView H = record done { ends = record done.ends { server = record done.ends.server { sent = r } } } in q) (sym (stored_is s w c.handle meets))

    pub called_ok : DoingServer H → (made : Made) → made ≡ made_by s c.handle → ServesCall s old (Ok made) then
    called_ok doing made is =
        let pair : IsPair done = record { world = called_world s w c.handle left p.steady (back w whole sound.kept.pair.world) serving.0 may made_so; endpoint = refl } in
        let keeps : Keeps done = doing (pair_in old) c s left whole sound.kept.pair sound.kept.keeps refl may made_so pair in
        record {
          does = λ _. record { left = left; makes = made_so; answer_is = is; leaves = same };
          sends = stored_behind true (messages_of s w c.handle) w.server.sent (end_of side.Server w).sent (end_of side.Server w).taken refl written_so.calls;
          memory = λ t. absurd (not_both p.ends.spent t whole);
          spent = λ t. absurd (not_both p.ends.spent t whole);
          exhausted = comes_ok s made send_error.IdsExhausted (LacksIdsFor s c.handle) ids;
          long = comes_ok s made send_error.MessageTooLong (IsLongFor s c.handle) short;
          sound = record { kept = subst IsKept (sym same) (record { pair = pair; keeps = keeps }); serial = sound.serial };
        }

    -- or there is no memory to store it
    pub called_spent : SpentKeeps H → ServesCall s old (Err send_error.NoMemory) (spent_on (with_left c left) p)
    called_spent law =
        let new : PartsView H = spent_on (with_left c left) p in
        let spent : IsSpent (pair_in old) (pair_in new) = record {
          spent = refl;
          client_sent = refl;
          client_taken = refl;
          server_sent = refl;
          server_taken = refl;
          maps = maps_stay (pair_in old).client;
          receipts = refl;
        } in
        let spends : SpendsAtCall (pair_in old) (pair_in new) = record {
          lists = spent;
          wants = both_want (pair_in old) (pair_in new) refl refl;
          steady = refl;
          closed = both_closed (pair_in old) (pair_in new) (λ was. was) (call_closed s w c.handle left p.steady (back w whole sound.kept.pair.world) serving.0 may made_so meets);
        } in
        let world : IsWorld (pair_in new).ends = spent_kept w w.client (with_endpoint left.ctx w.server) w.to_client w.to_server refl refl refl refl sound.kept.pair.world in
        record {
          does = λ f. absurd cc;
          sends = tt;
          memory = λ _. refl;
          spent = λ _. spends;
          exhausted = comes_other s send_error.NoMemory send_error.IdsExhausted (LacksIdsFor s c.handle) (λ e. cc) ids;
          long = comes_other s send_error.NoMemory send_error.MessageTooLong (IsLongFor s c.handle) (λ e. cc) short;
          sound = record { kept = record { pair = record { world = world; endpoint = refl }; keeps = law (pair_in old) (pair_in new) sound.kept.keeps spent }; serial = sound.serial };
        }
      where
        maps_stay : (k : ClientStage H) → maps_of k (Serves (record c { handle = left })) ≡ maps_of k (Serves c)
        maps_stay (Asks k) = refl
        maps_stay (Follows f) = ap (λ n. Some (f.kept.negotiated, n)) (leaves_settled s c.handle left meets l)

-- ---- where the end is told by an equation

pub at_end : {H : Type 0} (p : PartsView H) (x : ServerEnd) → p.ends.server.context ≡ x → p ≡ on_end x p
at_end {H} p x e = ap (λ (y : ServerEnd). on_end y p) e

-- a call that is no input comes to an answer exactly where its connection does
comes_by : (s : ServerCall) (r : Result Made SendError) (e : SendError) (P : Type 0) (c : ConnectionView) → MayMake s c → (IsErrOf r e ↔ P) → ComesExactly s r e P
comes_by (call.Input target opcode values) r e P c meets h = absurd meets
comes_by s r e P c meets h = h

module _ {H : Type 0} (p : PartsView H) (s : ServerCall) (sound : IsSound p) (whole : p.ends.spent ≡ false) (meets : MayMakeAt s p.ends.server.context) where
  pub told_err : (q : PartsView H) (x : ServerEnd) (e : SendError) → RefusesAt p.ends.server.context x → (IsErrOf {T = Made} (Err e) send_error.IdsExhausted ↔ LacksIdsAtEnd s p.ends.server.context) →
      (IsErrOf {T = Made} (Err e) send_error.MessageTooLong ↔ IsLongAtEnd s p.ends.server.context) → q ≡ on_end x p → ServesCall s p (Err e) q
  told_err q x e r ids long is =
      let c : ServerConverter = r.converter in
      let at : p ≡ on_end (end.Talking c) p = at_end p (end.Talking c) r.was in
      let to : q ≡ on_end (with_left c r.left) p = is ∙ ap (λ (y : ServerEnd). on_end y p) r.is in
      let met : MayMake s c.handle = subst (MayMakeAt s) r.was meets in
      subst (λ (t : PartsView H). ServesCall s t (Err e) q) (sym at)
      (subst (λ (t : PartsView H). ServesCall s (on_end (end.Talking c) p) (Err e) t) (sym to)
      (refused p s c r.left (subst IsSound at sound) whole e r.unchanged
      (comes_by s (Err e) send_error.IdsExhausted (LacksIdsFor s c.handle) c.handle met (subst (λ (y : ServerEnd). IsErrOf {T = Made} (Err e) send_error.IdsExhausted ↔ LacksIdsAtEnd s y) r.was ids))
      (comes_by s (Err e) send_error.MessageTooLong (IsLongFor s c.handle) c.handle met (subst (λ (y : ServerEnd). IsErrOf {T = Made} (Err e) send_error.MessageTooLong ↔ IsLongAtEnd s y) r.was long))))

  module _ (fit : IsFitting s) (x : ServerEnd) (made : Made) (m : MakesAt s p.ends.server.context made x) where
    pub told_spent : SpentKeeps H → (q : PartsView H) → q ≡ record p { ends = record (ends_on x p.ends) { spent = true } } → ServesCall s p (Err send_error.NoMemory) q
    told_spent law q is =
        let c : ServerConverter = m.converter in
        let at : p ≡ on_end (end.Talking c) p = at_end p (end.Talking c) m.was in
        let to : q ≡ spent_on (with_left c m.left) p = is ∙ ap (λ (y : ServerEnd). spent_on y p) m.is in
        subst (λ (t : PartsView H). ServesCall s t (Err send_error.NoMemory) q) (sym at)
        (subst (λ (t : PartsView H). ServesCall s (on_end (end.Talking c) p) (Err send_error.NoMemory) t) (sym to)
        (called_spent p s c m.left (subst IsSound at sound) whole fit (subst (MayMakeAt s) m.was meets) m.leaves m.ids m.short m.serial law))

    pub told_ok : DoingServer H → (q : PartsView H) (ends : EndsView ServerEnd) →
        ((ms : List Sent) → AreWritten true (unsent_in (endpoint_in p.ends.server.context)) ms (stored_by endpoint_in (ends_on x p.ends).server) →
        ends ≡ record (ends_on x p.ends) { server = record (ends_on x p.ends).server { sent = stored_onto true ms p.ends.server.sent } }) →
        q ≡ record p { ends = ends } → ServesCall s p (Ok made) (record q { steady = steady_after p.steady s (pair_in p).server })
    told_ok law q ends stores is =
        let c : ServerConverter = m.converter in
        let at : p ≡ on_end (end.Talking c) p = at_end p (end.Talking c) m.was in
        let met : MayMake s c.handle = subst (MayMakeAt s) m.was meets in
        let sound_then : IsSound (on_end (end.Talking c) p) = subst IsSound at sound in
        let ms : List Sent = messages_of s (pair_in (on_end (end.Talking c) p)).ends c.handle in
        let written : AreWritten true (unsent_in c.handle.ctx) ms (stored_by endpoint_in (ends_on (with_left c m.left) p.ends).server) =
        written_so p s c m.left sound_then whole fit met m.leaves m.ids m.short m.serial in
        let there : AreWritten true (unsent_in (endpoint_in p.ends.server.context)) ms (stored_by endpoint_in (ends_on x p.ends).server) =
        subst (λ (y : ServerEnd). AreWritten true (unsent_in (endpoint_in y)) ms (stored_by endpoint_in (ends_on x p.ends).server)) (sym m.was)
        (subst (λ (y : ServerEnd). AreWritten true (unsent_in c.handle.ctx) ms (stored_by endpoint_in (ends_on y p.ends).server)) (sym m.is) written) in
        let stored : ServerEnd → EndsView ServerEnd = λ y. record (ends_on y p.ends) { server = record (ends_on y p.ends).server { sent = stored_onto true ms p.ends.server.sent } } in
        let to : q ≡ record p { ends = stored (with_left c m.left) } = is ∙ ap (λ (e : EndsView ServerEnd). let r : PartsView H = record p { ends = e } in r) (stores ms there ∙ ap stored m.is) in
        let steady : steady_after p.steady s (pair_in p).server ≡ (p.steady && is_steady_call s c.handle) = ap (λ (y : ServerEnd). steady_after p.steady s (server_in p.tells y)) m.was in
        let new : record q { steady = steady_after p.steady s (pair_in p).server } ≡ record (server_stored (with_left c m.left) ms p.tells (on_end (end.Talking c) p)) { steady = p.steady && is_steady_call s c.handle } =
        ap (λ (r : PartsView H). let t : PartsView H = record r { steady = steady_after p.steady s (pair_in p).server } in t) to
        ∙ ap (λ (b : Bool). let t : PartsView H = record (server_stored (with_left c m.left) ms p.tells (on_end (end.Talking c) p)) { steady = b } in t) steady in
        subst (λ (t : PartsView H). ServesCall s t (Ok made) (record q { steady = steady_after p.steady s (pair_in p).server })) (sym at)
        (subst (λ (t : PartsView H). ServesCall s (on_end (end.Talking c) p) (Ok made) t) (sym new)
        (called_ok p s c m.left sound_then whole fit met m.leaves m.ids m.short m.serial law made m.made_is))

    -- the same, by what the ends were where its connection had made it
    pub told_stored : DoingServer H → (q : PartsView H) (e ends : EndsView ServerEnd) (before : Unsent) → e ≡ ends_on x p.ends → before ≡ unsent_in (endpoint_in p.ends.server.context) →
        ((ms : List Sent) → AreWritten true before ms (stored_by endpoint_in e.server) → ends ≡ record e { server = record e.server { sent = stored_onto true ms e.server.sent } }) →
        q ≡ record p { ends = ends } → ServesCall s p (Ok made) (record q { steady = steady_after p.steady s (pair_in p).server })
    told_stored law q e ends before kept at stores is = told_ok law q ends (λ ms w. stores ms (there ms w) ∙ ap (λ (y : EndsView ServerEnd). let z : EndsView ServerEnd = record y { server = record y.server { sent = stored_onto true ms y.server.sent } } in z) kept) is
      where
        there : (ms : List Sent) → AreWritten true (unsent_in (endpoint_in p.ends.server.context)) ms (stored_by endpoint_in (ends_on x p.ends).server) → AreWritten true before ms (stored_by endpoint_in e.server)
        there ms w = subst (λ (u : Unsent). AreWritten true u ms (stored_by endpoint_in e.server)) (sym at)
            (subst (λ (y : EndsView ServerEnd). AreWritten true (unsent_in (endpoint_in p.ends.server.context)) ms (stored_by endpoint_in y.server)) (sym kept) w)

    pub told_unstored : SpentKeeps H → (q : PartsView H) (e ends : EndsView ServerEnd) → e ≡ ends_on x p.ends → ends ≡ record e { spent = true } → q ≡ record p { ends = ends } → ServesCall s p (Err send_error.NoMemory) q
    told_unstored law q e ends kept spent is =
        told_spent law q (is ∙ ap (λ (y : EndsView ServerEnd). let r : PartsView H = record p { ends = y } in r) (spent ∙ ap (λ (y : EndsView ServerEnd). let z : EndsView ServerEnd = record y { spent = true } in z) kept))
