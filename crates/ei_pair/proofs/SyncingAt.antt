-- A client's sync with a handler at each of its exits, of parts that are known by their fields.
use Rattle.std.proofs.Common.{◌≡◌, ℕ, ◌≤◌, Bool, true, false, List, [], ◌∷◌, Option, Some, None, Result, Ok, Err, sym, ap, subst, ◌∙◌}
use Rattle.std.specs.Prelude.{codes, OnOk, OnErr}
use Rattle.std.specs.Result.{is_err}
use Rattle.ei_spec.specs.declared.interface.KnownInterface.TheVariants as known
use Rattle.ei_spec.specs.Interface.{Known, ObjectView}
use Rattle.ei_spec.specs.Value.{Long, Word}
use Rattle.ei_wire.specs.declared.error.SendError.{SendError}
use Rattle.ei_wire.specs.declared.error.SendError.TheVariants as send_error
use Rattle.ei_backend.specs.Backend.{BackendView}
use Rattle.ei_backend.specs.Table.{TableView, own, own_end}
use Rattle.ei_backend.specs.Sends.{SendsNew}
use Rattle.ei_client.specs.Connection.{request}
use Rattle.ei_ends.specs.Sent.{Sent}
use Rattle.ei_ends.specs.Steps.{called}
use Rattle.ei_linked.specs.declared.written.Unsent.{Unsent}
use Rattle.ei_linked.specs.Held.{stored_by}
use Rattle.ei_linked.specs.Ends.{EndsView}
use Rattle.ei_linked.specs.Written.{AreWritten, unsent_in, stored_onto, record_as}
use Rattle.ei_linked.proofs.Kept.{ahead}
use Rattle.ei_event.specs.Converter.{ConverterView as ClientConverter}
use Rattle.ei_promises.specs.Pair.{client_done}
use Rattle.ei_promises.specs.Calling.{sync_of, callback_of}
use Rattle.ei_pair.specs.declared.server_end.ServerEnd.{ServerEnd}
use Rattle.ei_pair.specs.Parts.{PartsView, pair_in}
use Rattle.ei_pair.specs.Stepped.{IsSound}
use Rattle.ei_pair.specs.Calls.{SyncsCall}
use Rattle.ei_pair.proofs.Syncing.{MaySync, SyncKeeps, SpentKeeps, sync_sends, on_client, spent_client, waiting_with, following, sync_refused, sync_spent, sync_written, sync_ok}

-- what storing is said to do with messages that are read back
abbrev pub StoresSync : Unsent → EndsView ServerEnd → EndsView ServerEnd → Type 0
StoresSync before e ends = (ms : List Sent) → AreWritten false before ms (stored_by (λ b. b) e.client) → ends ≡ record e { client = record e.client { sent = stored_onto false ms e.client.sent } }

-- the parts of a client whose handshake is done have a converter
pub has_converter : {H : Type 0} (v p : PartsView H) → v ≡ p → client_done (pair_in p).client ≡ true → v.converter ≡ None → ⊥
has_converter {H} v p is done none =
    let there : client_done (pair_in v).client ≡ true = ap (λ (x : PartsView H). client_done (pair_in x).client) is ∙ done in
    let not_there : client_done (pair_in v).client ≡ false = ap (λ (o : Option (ClientConverter H)). let x : PartsView H = record v { converter = o } in client_done (pair_in x).client) none in
    absurd (both (client_done (pair_in v).client) there not_there)
  where
    both : (b : Bool) → b ≡ true → b ≡ false → ⊥
    both b t f = absurd cc

module _ {H : Type 0} (v p : PartsView H) (is : v ≡ p) (f : ClientConverter H) (handler : H) (there : v.converter ≡ Some f) (sound : IsSound p) (whole : p.ends.spent ≡ false) (ctx : BackendView) where
  -- what the client's endpoint did
  abbrev SyncSent : Result ObjectView SendError → Type 0
  SyncSent r = SendsNew {A = ObjectView} (λ o. o) (request (codes "sync")) f.kept.proxy (Long v.ends.client.context.table.next_own ∷ Word 1 ∷ []) v.ends.client.context ctx r

  -- the ends then
  abbrev sent_ends : EndsView ServerEnd
  sent_ends = record v.ends { client = record v.ends.client { context = ctx } }

  was : following f v ≡ p
  was = sym (ap (λ (o : Option (ClientConverter H)). let q : PartsView H = record v { converter = o } in q) there) ∙ is

  sound_there : IsSound (following f v)
  sound_there = subst IsSound (sym was) sound

  whole_there : v.ends.spent ≡ false
  whole_there = ap (λ (x : PartsView H). x.ends.spent) is ∙ whole

  ids_left : (o : ObjectView) → SyncSent (Ok o) → own_end v.ends.client.context.table ≤ v.ends.client.context.table.next_own → ⊥
  ids_left o s le = let never = s.exhausted.1 le in absurd cc

  sent_is : (o : ObjectView) → SyncSent (Ok o) → ctx ≡ called false (sync_of v.ends.client.context.table.next_own f.kept.proxy) v.ends.client.context
  sent_is o s = s.ok ∙ sync_sends v.ends.client.context.table.next_own f.kept.proxy v.ends.client.context

  -- what was sent to the client's own object
  object_is : (o : ObjectView) → SyncSent (Ok o) → o ≡ callback_of v.ends.client.context.table.next_own
  object_is o s =
      let table : TableView = v.ends.client.context.table in
      let made : o ≡ own table (Known known.Callback) 1 = s.object in
      let client : table.client ≡ true = (ahead (pair_in (following f v)).ends whole_there sound_there.kept.pair.world).tied.back.objects.client_is in
      made ∙ ap (λ (b : Bool). let x : ObjectView = record { id = table.next_own; interface = Known known.Callback; version = 1; client_side = b } in x) client

  as_err : SendError → Result ObjectView SendError
  as_err e = Err e

  -- no message was sent
  pub sync_refused_at : (e : SendError) (ends : EndsView ServerEnd) (o : Option (ClientConverter H)) → SyncSent (Err e) → ends ≡ sent_ends → o ≡ Some f → SyncsCall handler p (Err e) (record v { ends = ends; converter = o })
  sync_refused_at e ends o s left kept =
      let to : record v { ends = ends; converter = o } ≡ following f v =
      ap (λ (y : EndsView ServerEnd). let q : PartsView H = record v { ends = y; converter = o } in q) left
      ∙ ap (λ (b : BackendView). let q : PartsView H = record v { ends = record v.ends { client = record v.ends.client { context = b } }; converter = o } in q) s.err
      ∙ ap (λ (x : Option (ClientConverter H)). let q : PartsView H = record v { converter = x } in q) kept in
      subst (λ (x : PartsView H). SyncsCall handler x (Err e) (record v { ends = ends; converter = o })) was
      (subst (λ (x : PartsView H). SyncsCall handler (following f v) (Err e) x) (sym to)
      (sync_refused v f handler sound_there whole_there e
      (λ x. s.not_long (ap (λ (d : SendError). let r : Result ObjectView SendError = Err d in r) x))
      (λ x. s.exhausted.0 (ap (λ (d : SendError). let r : Result ObjectView SendError = Err d in r) x))
      (λ le. let x = s.exhausted.1 le in cc)))

  -- it was sent, and there was no memory for the handler, or none to store the message
  pub sync_spent_at : SpentKeeps H → (c : ObjectView) (e ends : EndsView ServerEnd) (o : Option (ClientConverter H)) (g : ClientConverter H) → SyncSent (Ok c) → e ≡ sent_ends → ends ≡ record e { spent = true } → o ≡ Some g → g.kept ≡ f.kept → g.receipts ≡ f.receipts →
      SyncsCall handler p (Err send_error.NoMemory) (record v { ends = ends; converter = o })
  sync_spent_at law c e ends o g s sent spent kept same receipts =
      let left : ends ≡ record sent_ends { spent = true } = spent ∙ ap (λ (y : EndsView ServerEnd). let z : EndsView ServerEnd = record y { spent = true } in z) sent in
      let b : BackendView = called false (sync_of v.ends.client.context.table.next_own f.kept.proxy) v.ends.client.context in
      let to : record v { ends = ends; converter = o } ≡ spent_client b (Some g) v =
      ap (λ (y : EndsView ServerEnd). let q : PartsView H = record v { ends = y; converter = o } in q) left
      ∙ ap (λ (x : BackendView). spent_client x o v) (sent_is c s)
      ∙ ap (λ (x : Option (ClientConverter H)). spent_client b x v) kept in
      subst (λ (x : PartsView H). SyncsCall handler x (Err send_error.NoMemory) (record v { ends = ends; converter = o })) was
      (subst (λ (x : PartsView H). SyncsCall handler (following f v) (Err send_error.NoMemory) x) (sym to)
      (sync_spent v f handler sound_there whole_there law (ids_left c s) g same receipts))

  -- it was sent and stored
  pub sync_stored_at : MaySync H → SyncKeeps H → (c : ObjectView) (e ends : EndsView ServerEnd) (o : Option (ClientConverter H)) (before : Unsent) → SyncSent (Ok c) → e ≡ sent_ends → before ≡ unsent_in v.ends.client.context → StoresSync before e ends →
      o ≡ Some (waiting_with c.id handler f) → (object : ObjectView) → object ≡ c → SyncsCall handler p (Ok object) (record v { ends = ends; converter = o })
  sync_stored_at may law c e ends o before s sent at stored kept object same =
      let stores : StoresSync before sent_ends ends = subst (λ (y : EndsView ServerEnd). StoresSync before y ends) sent stored in
      let id : ℕ = v.ends.client.context.table.next_own in
      let m : Sent = sync_of id f.kept.proxy in
      let b : BackendView = called false m v.ends.client.context in
      let ids : own_end v.ends.client.context.table ≤ id → ⊥ = ids_left c s in
      let written : AreWritten false (unsent_in v.ends.client.context) (m ∷ []) (record { backend = b; sent = v.ends.client.sent; taken = v.ends.client.taken }) = sync_written v f handler sound_there whole_there may ids in
      let written_here : AreWritten false before (m ∷ []) (stored_by (λ x. x) sent_ends.client) =
      subst (λ (u : Unsent). AreWritten false u (m ∷ []) (stored_by (λ x. x) sent_ends.client)) (sym at)
      (subst (λ (x : BackendView). AreWritten false (unsent_in v.ends.client.context) (m ∷ []) (record { backend = x; sent = v.ends.client.sent; taken = v.ends.client.taken })) (sym (sent_is c s)) written) in
      let waits : waiting_with c.id handler f ≡ waiting_with id handler f = ap (λ (x : ObjectView). waiting_with x.id handler f) (object_is c s) in
      let to : record v { ends = ends; converter = o } ≡ on_client b (record_as false m ∷ v.ends.client.sent) (Some (waiting_with id handler f)) v =
      ap (λ (y : EndsView ServerEnd). let q : PartsView H = record v { ends = y; converter = o } in q) (stores (m ∷ []) written_here)
      ∙ ap (λ (x : BackendView). on_client x (record_as false m ∷ v.ends.client.sent) o v) (sent_is c s)
      ∙ ap (λ (x : Option (ClientConverter H)). on_client b (record_as false m ∷ v.ends.client.sent) x v) kept
      ∙ ap (λ (g : ClientConverter H). on_client b (record_as false m ∷ v.ends.client.sent) (Some g) v) waits in
      subst (λ (x : PartsView H). SyncsCall handler x (Ok object) (record v { ends = ends; converter = o })) was
      (subst (λ (x : PartsView H). SyncsCall handler (following f v) (Ok object) x) (sym to)
      (sync_ok v f handler sound_there whole_there may ids law object (same ∙ object_is c s)))

-- ---- where memory was wanted

pub kept_where_err : {A E : Type 0} (P : Type 0) (r : Result A E) → true ≡ is_err r → OnErr r P → P
kept_where_err P (Ok a) e h = absurd cc
kept_where_err P (Err x) e h = h

pub done_where_ok : {A E : Type 0} (P : Type 0) (r : Result A E) → false ≡ is_err r → OnOk r P → P
done_where_ok P (Ok a) e h = h
done_where_ok P (Err x) e h = absurd cc

-- ---- the answer of an exit

pub exit_as : {H : Type 0} (handler : H) (p q : PartsView H) (r : Result ObjectView SendError) (d e : SendError) → r ≡ Err d → d ≡ e → SyncsCall handler p (Err e) q → SyncsCall handler p r q
exit_as handler p q r d e is same s =
    let to : r ≡ Err e = is ∙ ap (λ (x : SendError). let y : Result ObjectView SendError = Err x in y) same in
    subst (λ (x : Result ObjectView SendError). SyncsCall handler p x q) (sym to) s
