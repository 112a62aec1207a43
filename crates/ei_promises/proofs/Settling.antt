-- What a server sends at the end of its handshake, message by message.
use Rattle.std.specs.Prelude.{◌==◌}
use Rattle.std.proofs.lemmas.Bool.{eq-eqb}
use Rattle.std.proofs.Common.{◌≡◌, ℕ, Bool, true, false, List, [], ◌∷◌, ◌++◌, map, Option, Some, None, refl, sym, ap, subst, ◌∙◌, append-nil}
use Rattle.std.specs.Option.{option_map}
use Rattle.std.specs.List.{filter_map}
use Rattle.std.specs.FinMap as finite
use Rattle.ei_spec.specs.declared.interface.KnownInterface.{KnownInterface}
use Rattle.ei_spec.specs.declared.interface.KnownInterface.TheVariants as known
use Rattle.ei_spec.specs.Interface.{Known, name_of, the_settled}
use Rattle.ei_spec.specs.Message.{Raw, all_bytes, bytes_of}
use Rattle.ei_spec.specs.NameMap.{NameMap}
use Rattle.ei_session.specs.Replies.{settled_events}
use Rattle.ei_session.specs.Replies as replies
use Rattle.ei_backend.specs.Table.{with_own, without}
use Rattle.ei_backend.specs.Backend.{BackendView}
use Rattle.ei_ends.specs.Sent.{Sent, row_of, new_of, destroys, bytes_in, handles_in, raw_of}
use Rattle.ei_ends.specs.Announced.{announced}
use Rattle.ei_ends.specs.Way.{onto, End}
use Rattle.ei_ends.specs.Steps.{after_calls, called, table_after, table_with}
use Rattle.ei_ends.specs.Joined.{ArePlain}
use Rattle.ei_ends.proofs.JoinedSteps.{plain_all}
use Rattle.ei_told.specs.Told.{hands_over, behind_it, after_connection}
use Rattle.ei_shaking.specs.Messages.{greeting, version_event, version_if, version_events, connection_event, settled_by}
use Rattle.ei_acts.specs.Acting.{AllShake}
use Rattle.ei_promises.proofs.Greetings.{settled_last}

-- ---- each announces and destroys nothing, and hands nothing over, but the last

-- a message of the handshake that does nothing but tell
abbrev pub IsTelling : Sent → Type 0
IsTelling m = (new_of true m ≡ None) × (destroys true m ≡ false) × (handles_in m ≡ []) × (hands_over m ≡ false) × (m.interface ≡ known.Handshake)

abbrev pub AllTell : List Sent → Type 0
AllTell [] = Unit {0}
AllTell (m ∷ ms) = IsTelling m × AllTell ms

greeting_tells : IsTelling greeting
unfolding row_of
greeting_tells = (refl, refl, refl, refl, refl)

version_tells : (i : KnownInterface) (v : ℕ) → IsTelling (version_event i v)
unfolding row_of
version_tells i v = (refl, refl, refl, refl, refl)

versions_tell : (versions : NameMap) (is : List KnownInterface) → AllTell (filter_map (version_if versions) is)
versions_tell versions [] = tt
versions_tell versions (i ∷ is) = by (finite.get versions (name_of i)) refl (versions_tell versions is)
  where
    by : (o : Option ℕ) → finite.get versions (name_of i) ≡ o → AllTell (filter_map (version_if versions) is) → AllTell (filter_map (version_if versions) (i ∷ is))
    by None e next = rw e next
    by (Some v) e next = rw e (version_tells i v, next)

all_tell : (versions : NameMap) → AllTell (version_events versions)
unfolding version_events
all_tell versions = versions_tell versions the_settled

tell_onto : (ms past : List Sent) → AllTell ms → AllTell past → AllTell (onto ms past)
tell_onto [] past a h = h
tell_onto (m ∷ ms) past a h = tell_onto ms (m ∷ past) a.1 (a.0, h)

-- those before the connection's
pub before_last : (versions : NameMap) → AllTell (onto (version_events versions) (greeting ∷ []))
before_last versions = tell_onto (version_events versions) (greeting ∷ []) (all_tell versions) (greeting_tells, tt)

-- ---- the connection is handed over by the last

none_behind : (l : List Sent) → AllTell l → after_connection l ≡ None
unfolding after_connection
none_behind [] h = refl
none_behind (m ∷ l) h = ap (behind_it m) (none_behind l h.1) ∙ rw h.0.3 refl

behind_last : (serial id : ℕ) (l : List Sent) → AllTell l → after_connection (connection_event serial id ∷ l) ≡ Some []
unfolding after_connection
behind_last serial id l h = ap (behind_it (connection_event serial id)) (none_behind l h)

pub nothing_behind : (versions : NameMap) (serial id : ℕ) → after_connection (onto (settled_by versions serial id) (greeting ∷ [])) ≡ Some []
nothing_behind versions serial id =
    ap after_connection (settled_last versions serial id (greeting ∷ [])) ∙ behind_last serial id (onto (version_events versions) (greeting ∷ [])) (before_last versions)

none_announced : (l : List Sent) (id : ℕ) → AllTell l → announced true l id ≡ None
unfolding announced
none_announced [] id h = refl
none_announced (m ∷ l) id h = rw (none_announced l id h.1, h.0.0) refl

announced_last : (serial id : ℕ) (l : List Sent) → AllTell l → announced true (connection_event serial id ∷ l) id ≡ Some (record { id = id; interface = Known known.Connection; version = 1 })
unfolding announced row_of
announced_last serial id l h = rw (none_announced l id h, same id) refl
  where
    same : (n : ℕ) → (n == n) ≡ true
    same n = eq-eqb n n refl

pub connection_announced : (versions : NameMap) (serial id : ℕ) → announced true (onto (settled_by versions serial id) (greeting ∷ [])) id ≡ Some (record { id = id; interface = Known known.Connection; version = 1 })
connection_announced versions serial id =
    ap (λ (l : List Sent). announced true l id) (settled_last versions serial id (greeting ∷ [])) ∙ announced_last serial id (onto (version_events versions) (greeting ∷ [])) (before_last versions)

-- ---- what they leave

pub calls_both : (events : Bool) (a b : List Sent) (x : End) → after_calls events (a ++ b) x ≡ after_calls events b (after_calls events a x)
calls_both events [] b x = refl
calls_both events (m ∷ a) b x = calls_both events a b (record { backend = _; sent = _; taken = _ })

plain : (l : List Sent) → AllTell l → ArePlain true l
plain [] h = tt
plain (m ∷ l) h = (h.0.0, h.0.1, h.0.2, plain l h.1)

-- the bytes of the versions wait behind what waited
pub versions_sent : (versions : NameMap) (x : End) → (after_calls true (version_events versions) x).backend ≡ record x.backend { unsent = x.backend.unsent ++ all_bytes (map raw_of (version_events versions)) }
versions_sent versions x = plain_all true (version_events versions) x (plain (version_events versions) (all_tell versions))

version_raws : (versions : NameMap) (is : List KnownInterface) → map raw_of (filter_map (version_if versions) is) ≡ filter_map (λ (i : KnownInterface). option_map (replies.settled_event 0 i) (finite.get versions (name_of i))) is
version_raws versions [] = refl
version_raws versions (i ∷ is) = by (finite.get versions (name_of i)) refl (version_raws versions is)
  where
    by : (o : Option ℕ) → finite.get versions (name_of i) ≡ o → map raw_of (filter_map (version_if versions) is) ≡ filter_map (λ (k : KnownInterface). option_map (replies.settled_event 0 k) (finite.get versions (name_of k))) is →
        map raw_of (filter_map (version_if versions) (i ∷ is)) ≡ filter_map (λ (k : KnownInterface). option_map (replies.settled_event 0 k) (finite.get versions (name_of k))) (i ∷ is)
    by None e next = rw e next
    by (Some v) e next = rw e (ap (λ (l : List Raw). raw_of (version_event i v) ∷ l) next)

raws_are : (versions : NameMap) → map raw_of (version_events versions) ≡ settled_events 0 (λ i. finite.get versions (name_of i))
unfolding version_events settled_events
raws_are versions = version_raws versions the_settled

-- the endpoint with the versions behind what waits
abbrev with_versions : NameMap → BackendView → BackendView
with_versions versions b = record b { unsent = b.unsent ++ all_bytes (settled_events 0 (λ i. finite.get versions (name_of i))) }

-- and with the connection handed over behind them
abbrev pub with_connection : NameMap → ℕ → BackendView → BackendView
with_connection versions serial b = record b {
  table = without (with_own b.table (Known known.Connection) 1) 0;
  unsent = (with_versions versions b).unsent ++ all_bytes (replies.connection_event 0 serial b.table.next_own ∷ []);
}

last_leaves : (versions : NameMap) (serial : ℕ) (b : BackendView) → called true (connection_event serial b.table.next_own) (with_versions versions b) ≡ with_connection versions serial b
unfolding row_of table_after table_with bytes_in
last_leaves versions serial b = rw (append-nil b.unsent_handles, append-nil (bytes_of (replies.connection_event 0 serial b.table.next_own))) refl

pub settled_leaves : (versions : NameMap) (serial : ℕ) (x : End) → (after_calls true (settled_by versions serial x.backend.table.next_own) x).backend ≡ with_connection versions serial x.backend
settled_leaves versions serial x =
    ap (λ (e : End). e.backend) (calls_both true (version_events versions) (connection_event serial x.backend.table.next_own ∷ []) x)
    ∙ ap (called true (connection_event serial x.backend.table.next_own))
    (versions_sent versions x ∙ ap (λ (l : List Raw). let b : BackendView = record x.backend { unsent = x.backend.unsent ++ all_bytes l } in b) (raws_are versions))
    ∙ last_leaves versions serial x.backend

-- all are to the handshake's object
shake_onto : (ms past : List Sent) → AllTell ms → AllShake past → AllShake (onto ms past)
shake_onto [] past a h = h
shake_onto (m ∷ ms) past a h = shake_onto ms (m ∷ past) a.1 (a.0.4, h)

pub settled_shake : (versions : NameMap) (serial id : ℕ) → AllShake (onto (settled_by versions serial id) (greeting ∷ []))
settled_shake versions serial id =
    subst AllShake (sym (settled_last versions serial id (greeting ∷ []))) (refl, shake_onto (version_events versions) (greeting ∷ []) (all_tell versions) (refl, tt))
