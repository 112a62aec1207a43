-- What a client's sync with a handler comes to, where it was sent, and where what it sent isn't stored.
use Rattle.std.proofs.Common.{◌≡◌, ℕ, ◌<◌, ◌≤◌, Bool, true, false, List, [], ◌∷◌, Option, Some, Result, Ok, Err, refl, sym, ap, subst, arith}
use Rattle.std.specs.Prelude.{codes}
use Rattle.std.specs.FinMap as finite
use Rattle.ei_spec.specs.declared.interface.KnownInterface.TheVariants as known
use Rattle.ei_spec.specs.Interface.{ObjectView}
use Rattle.ei_spec.specs.Rows.{Fixed, announcing}
use Rattle.ei_spec.specs.Value.{New, U32, Long, Word}
use Rattle.ei_wire.specs.declared.error.SendError.{SendError}
use Rattle.ei_wire.specs.declared.error.SendError.TheVariants as send_error
use Rattle.ei_backend.specs.Backend.{BackendView, after_row}
use Rattle.ei_backend.specs.Table.{TableView, own_end, own_limit}
use Rattle.ei_client.specs.Connection.{request}
use Rattle.ei_ends.specs.Sent.{Sent, row_of}
use Rattle.ei_ends.specs.Steps.{called}
use Rattle.ei_ends.proofs.JoinedSteps.{row_called}
use Rattle.ei_linked.specs.declared.record.Record.{Record}
use Rattle.ei_linked.specs.declared.side.Side.TheVariants as side
use Rattle.ei_linked.specs.Stored.{with_endpoint, sent_view}
use Rattle.ei_linked.specs.TwoEnds.{WorldView, IsWorld, end_of}
use Rattle.ei_linked.specs.Written.{AreWritten, unsent_in, record_as}
use Rattle.ei_linked.proofs.Kept.{ahead, spent_kept}
use Rattle.ei_event.specs.Converter.{ConverterView as ClientConverter}
use Rattle.ei_acts.proofs.Parts.{not_both}
use Rattle.ei_promises.specs.Pair.{ClientStage, Asks, Follows, ServerStage, Shakes, Serves, PairView, IsPair, maps_of}
use Rattle.ei_promises.specs.Stepping.{IsSpent}
use Rattle.ei_promises.specs.Keeping.{HasSentAll, Keeps}
use Rattle.ei_promises.specs.Calling.{sync_of, callback_of, SyncsWith}
use Rattle.ei_promises.proofs.Storing.{stored_as_sent}
use Rattle.ei_pair.specs.Parts.{PartsView, pair_in}
use Rattle.ei_pair.specs.Stepped.{IsSound}
use Rattle.ei_pair.specs.Spent.{SpendsAtCall}
use Rattle.ei_pair.specs.Calls.{Syncs, SyncsCall}
use Rattle.ei_pair.specs.Asked.{AsksAt, AsksCall}
use Rattle.ei_pair.specs.declared.client_call.ClientCall.TheVariants as asked
use Rattle.ei_pair.proofs.Written.{written, client_world}
use Rattle.ei_pair.proofs.Moved.{has_endpoint}
use Rattle.ei_pair.proofs.Spent.{both_want, both_closed}

-- ---- the laws

abbrev pub MaySync : Type 0 → Type 0
MaySync H = (p : PairView H) (f : ClientConverter H) → p.ends.spent ≡ false → IsPair p → Keeps p → p.client ≡ Follows f → p.ends.client.backend.table.next_own < own_limit true →
    HasSentAll false (sync_of p.ends.client.backend.table.next_own f.kept.proxy ∷ []) (end_of side.Client p.ends) (called false (sync_of p.ends.client.backend.table.next_own f.kept.proxy) p.ends.client.backend)

abbrev pub SyncKeeps : Type 0 → Type 0
SyncKeeps H = (p new : PairView H) (f : ClientConverter H) (handler : H) (answer : Option ObjectView) → p.ends.spent ≡ false → IsPair p → Keeps p → p.client ≡ Follows f → SyncsWith handler f p answer new → IsPair new → Keeps new

abbrev pub SpentKeeps : Type 0 → Type 0
SpentKeeps H = (old new : PairView H) → Keeps old → IsSpent old new → Keeps new

-- ---- what is sent

-- a sync, as it is called
pub sync_sends : (id : ℕ) (connection : ObjectView) (b : BackendView) → after_row (request (codes "sync")) connection (Long id ∷ Word 1 ∷ []) b ≡ called false (sync_of id connection) b
unfolding row_of
sync_sends id connection b = row_called false (sync_of id connection) (announcing (codes "sync") (New ∷ U32 ∷ []) (Fixed known.Callback)) connection b refl refl

-- the own ids of a client end where those of any client do
pub client_limit : (w : WorldView) → w.spent ≡ false → IsWorld w → (own_end w.client.backend.table ≤ w.client.backend.table.next_own → ⊥) → w.client.backend.table.next_own < own_limit true
client_limit w whole kept ids =
    let table : TableView = w.client.backend.table in
    let client : table.client ≡ true = (ahead w whole kept).tied.back.objects.client_is in
    let left : table.next_own < own_end table = omega (arith, ids) in
    subst (λ (b : Bool). table.next_own < own_limit b) client left

-- ---- the parts then

-- the parts, of which the client's endpoint is this, what it sent that, and its converter this
abbrev pub on_client : {H : Type 0} → BackendView → List Record → Option (ClientConverter H) → PartsView H → PartsView H
on_client b sent f p = record p { ends = record p.ends { client = record { context = b; sent = sent; taken = p.ends.client.taken } }; converter = f }

-- and of which the ends are spent
abbrev pub spent_client : {H : Type 0} → BackendView → Option (ClientConverter H) → PartsView H → PartsView H
spent_client b f p = record p { ends = record p.ends { client = record { context = b; sent = p.ends.client.sent; taken = p.ends.client.taken }; spent = true }; converter = f }

-- the converter with the handler
abbrev pub waiting_with : {H : Type 0} → ℕ → H → ClientConverter H → ClientConverter H
waiting_with id handler f = record f { waiting = finite.insert f.waiting id handler }

-- the parts, of which the converter is this
abbrev pub following : {H : Type 0} → ClientConverter H → PartsView H → PartsView H
following f p = record p { converter = Some f }

module _ {H : Type 0} (p : PartsView H) (f : ClientConverter H) (handler : H) (sound : IsSound (following f p)) (whole : p.ends.spent ≡ false) where
  abbrev old : PartsView H
  old = following f p

  abbrev w : WorldView
  w = (pair_in old).ends

  abbrev id : ℕ
  id = w.client.backend.table.next_own

  abbrev m : Sent
  m = sync_of id f.kept.proxy

  abbrev b : BackendView
  b = called false m w.client.backend

  -- ---- it was refused

  pub sync_refused : (e : SendError) → (e ≡ send_error.MessageTooLong → ⊥) → (e ≡ send_error.IdsExhausted → own_end w.client.backend.table ≤ id) → (own_end w.client.backend.table ≤ id → e ≡ send_error.IdsExhausted) → SyncsCall handler old (Err e) old
  sync_refused e short gone none = record {
    does = λ _. refl;
    memory = λ t. absurd (not_both p.ends.spent t whole);
    spent = λ t. absurd (not_both p.ends.spent t whole);
    exhausted = ((λ is. gone cc), (λ le. ap (λ (x : SendError). let r : Result ObjectView SendError = Err x in r) (none le)));
    short = λ is. short cc;
    sound = sound;
  }

  -- ---- what was sent isn't stored

  spent_so : (g : ClientConverter H) → g.kept ≡ f.kept → g.receipts ≡ f.receipts → SpendsAtCall (pair_in old) (pair_in (spent_client b (Some g) p))
  spent_so g kept receipts = record {
    lists = record {
      spent = refl;
      client_sent = refl;
      client_taken = refl;
      server_sent = refl;
      server_taken = refl;
      maps = maps_stay (pair_in old).server;
      receipts = receipts;
    };
    wants = both_want (pair_in old) (pair_in (spent_client b (Some g) p)) refl refl;
    steady = refl;
    closed = both_closed (pair_in old) (pair_in (spent_client b (Some g) p)) (λ was. was) (λ was. was);
  }
    where
      maps_stay : (t : ServerStage) → maps_of (Follows g) t ≡ maps_of (Follows f) t
      maps_stay (Shakes h) = refl
      maps_stay (Serves c) = ap (λ k. Some (k.negotiated, c.handle.negotiated)) kept

  pub sync_spent : SpentKeeps H → (own_end w.client.backend.table ≤ id → ⊥) → (g : ClientConverter H) → g.kept ≡ f.kept → g.receipts ≡ f.receipts → SyncsCall handler old (Err send_error.NoMemory) (spent_client b (Some g) p)
  sync_spent law ids g kept receipts =
      let new : PartsView H = spent_client b (Some g) p in
      let spends : SpendsAtCall (pair_in old) (pair_in new) = spent_so g kept receipts in
      let world : IsWorld (pair_in new).ends = spent_kept w (with_endpoint b w.client) w.server w.to_client w.to_server refl refl refl refl sound.kept.pair.world in
      record {
        does = λ t. absurd cc;
        memory = λ _. refl;
        spent = λ _. spends;
        exhausted = ((λ is. absurd cc), (λ le. absurd (ids le)));
        short = λ is. absurd cc;
        sound = record {
          kept = record { pair = record { world = world; endpoint = has_endpoint p.tells p.ends.server.context }; keeps = law (pair_in old) (pair_in new) sound.kept.keeps spends.lists };
          serial = sound.serial;
        };
      }

  -- ---- it was sent

  module _ (may : MaySync H) (ids : own_end w.client.backend.table ≤ id → ⊥) where
    sent_so : HasSentAll false (m ∷ []) (end_of side.Client w) b
    sent_so = may (pair_in old) f whole sound.kept.pair sound.kept.keeps refl (client_limit w whole sound.kept.pair.world ids)

    -- what it sends can be read back
    pub sync_written : AreWritten false (unsent_in w.client.backend) (m ∷ []) (with_endpoint b w.client)
    sync_written = written false (m ∷ []) w.client b sent_so

    abbrev then : PartsView H
    then = on_client b (record_as false m ∷ w.client.sent) (Some (waiting_with id handler f)) p

    same : b ≡ called false (sent_view (record_as false m)) w.client.backend
    same =
        let l = sent_so.listed in
        ap (λ (s : Sent). called false s w.client.backend) (sym (stored_as_sent false m l.0 l.1.call.row l.1.call.kinds))

    syncs : SyncsWith handler f (pair_in old) (Some (callback_of id)) (pair_in then)
    syncs = record {
      answer_is = refl;
      leaves = ap (λ (x : BackendView). let q : PairView H = record (pair_in then) { ends = record (pair_in then).ends { client = with_endpoint x (pair_in then).ends.client } } in q) same;
    }

    pub sync_ok : SyncKeeps H → (o : ObjectView) → o ≡ callback_of id → SyncsCall handler old (Ok o) then
    sync_ok law o is =
        let world : IsWorld (pair_in then).ends = client_world (m ∷ []) w b whole sound.kept.pair.world sent_so in
        let pair : IsPair (pair_in then) = record { world = world; endpoint = has_endpoint p.tells p.ends.server.context } in
        record {
          does = λ _. record { answer_is = ap (λ (x : ObjectView). let a : Option ObjectView = Some x in a) is; leaves = syncs.leaves };
          memory = λ t. absurd (not_both p.ends.spent t whole);
          spent = λ t. absurd (not_both p.ends.spent t whole);
          exhausted = ((λ e. absurd cc), (λ le. absurd (ids le)));
          short = λ e. absurd cc;
          sound = record { kept = record { pair = pair; keeps = law (pair_in old) (pair_in then) f handler (Some (callback_of id)) whole sound.kept.pair sound.kept.keeps refl syncs pair }; serial = sound.serial };
        }

-- ---- as a call of the client

sync_at : {H : Type 0} (k : ClientStage H) (handler : H) (before : PairView H) (o : ObjectView) (new : PairView H) → Syncs handler k before (Ok o) new → AsksAt k (asked.SyncWith handler) before (Ok (Some o)) new
sync_at (Asks h) handler before o new s = absurd s
sync_at (Follows f) handler before o new s = s

not_at : {H : Type 0} (k : ClientStage H) (handler : H) (before : PairView H) (e : SendError) (new : PairView H) → Syncs handler k before (Err e) new → AsksAt k (asked.SyncWith handler) before (Err e) new
not_at (Asks h) handler before e new s = absurd s
not_at (Follows f) handler before e new s = s

pub sync_asks : {H : Type 0} (p q : PartsView H) (handler : H) (o : ObjectView) → SyncsCall handler p (Ok o) q → AsksCall (asked.SyncWith handler) p (Ok (Some o)) q
sync_asks p q handler o s = record {
  does = λ t. sync_at (pair_in p).client handler (pair_in p) o (pair_in q) (s.does t);
  refuses = (((λ e. absurd cc), (λ le. let never = s.exhausted.1 le in absurd cc)), (λ e. absurd cc));
  memory = λ t. let never = s.memory t in absurd cc;
  spent = s.spent;
  sound = s.sound;
}

pub sync_not : {H : Type 0} (p q : PartsView H) (handler : H) (e : SendError) → SyncsCall handler p (Err e) q → AsksCall (asked.SyncWith handler) p (Err e) q
sync_not p q handler e s = record {
  does = λ t. not_at (pair_in p).client handler (pair_in p) e (pair_in q) (s.does t);
  refuses = (((λ i. s.exhausted.0 cc), (λ le. let is = s.exhausted.1 le in cc)), (λ i. s.short cc));
  memory = λ t. let is = s.memory t in cc;
  spent = s.spent;
  sound = s.sound;
}
