-- The room that the events of a finish take, and what is sent within it.
use Rattle.std.proofs.Common.{◌≡◌, ◌<◌, ◌≤◌, ℕ, ◌+◌, true, [], ◌∷◌, Option, Some, None, Result, Ok, Err, refl, sym, ap, ◌∙◌, subst, arith, inl, inr}
use Rattle.std.specs.Prelude.{codes, leb, IsOk, IfErr, IsErrOf}
use Rattle.std.proofs.lemmas.Bool.{cases_lt, leb-true}
use Rattle.std.proofs.lemmas.List.{length-append}
use Rattle.ei_spec.specs.declared.interface.KnownInterface.{KnownInterface}
use Rattle.ei_spec.specs.declared.interface.KnownInterface.TheVariants as known
use Rattle.ei_spec.specs.declared.limits.TheConstants.{MOST_MESSAGE_BYTES}
use Rattle.ei_spec.specs.Interface.{Known, ObjectView, name_of}
use Rattle.ei_spec.specs.Piece.{Piece}
use Rattle.ei_spec.specs.Value.{Word, Long, Letters}
use Rattle.ei_spec.specs.Message.{Raw, message, size, bytes_of, all_bytes}
use Rattle.ei_spec.proofs.EachInterface.{of_each}
use Rattle.ei_wire.specs.declared.error.SendError.{SendError}
use Rattle.ei_wire.specs.declared.error.SendError.TheVariants as send_error
use Rattle.ei_types.specs.Errors.{error_of_send}
use Rattle.ei_types.specs.declared.error.Error.{Error}
use Rattle.ei_types.specs.declared.error.Error.TheVariants as error
use Rattle.ei_backend.specs.Table.{own, own_end, with_own, without}
use Rattle.ei_backend.specs.Outgoing.{Room, HasSpare}
use Rattle.ei_backend.specs.Backend.{BackendView, unsent_of, with_room, after_row}
use Rattle.ei_backend.specs.Endpoint.{endpoint_of}
use Rattle.ei_backend.specs.Sends.{SendsText, SendsNew}
use Rattle.ei_backend.proofs.GoingOut.{message_length}
use Rattle.ei_server.specs.Handshake.{event}
use Rattle.ei_session.specs.Replies.{settled_event}
use Rattle.ei_handshake.specs.declared.sizes.TheConstants.{MOST_VERSION_BYTES}
use Rattle.ei_handshake.specs.declared.server.TheConstants.{CONNECTION_BYTES, MOST_SETTLED_BYTES, MOST_FINISH_BYTES}
use Rattle.ei_handshake.specs.Versions.{VersionMap}
use Rattle.ei_handshake.specs.Handshaker.{HandshakerView, RefusesFinish, event_if, has_required, kept_events, sends, hands_over}
use Rattle.ei_handshake.specs.declared.server.EisHandshakeResp.{EisHandshakeResp}
use Rattle.ei_handshake.proofs.Sending.{sent_one}

-- ---- room

pub less_spare : (a b : ℕ) (waiting : Piece) (room : Room) → HasSpare a 0 waiting room → b ≤ a → HasSpare b 0 waiting room
less_spare a b waiting room h le = record { spare_bytes = omega (arith, h.spare_bytes); spare_handles = h.spare_handles }

-- a version's event is short
few_bytes : (i : KnownInterface) (id v : ℕ) → size (message id 1 (Letters (name_of i) ∷ Word v ∷ [])) ≤ MOST_VERSION_BYTES
few_bytes i id v = leb-true _ MOST_VERSION_BYTES (of_each (λ (k : KnownInterface). leb (size (message id 1 (Letters (name_of k) ∷ Word v ∷ []))) MOST_VERSION_BYTES) refl i)

spent_one : (b : BackendView) (m : Raw) (n : ℕ) → size m ≤ MOST_VERSION_BYTES → HasSpare (n + MOST_VERSION_BYTES) 0 (unsent_of b) b.room → HasSpare n 0 (unsent_of (sends b (m ∷ []))) b.room
spent_one b m n few h = record {
  spare_bytes = omega (arith, h.spare_bytes, length-append b.unsent (all_bytes (m ∷ [])), length-append (bytes_of m) [], message_length m, few);
  spare_handles = h.spare_handles;
}

spent_none : (b : BackendView) (n : ℕ) → HasSpare (n + MOST_VERSION_BYTES) 0 (unsent_of b) b.room → HasSpare n 0 (unsent_of (sends b [])) b.room
spent_none b n h = record { spare_bytes = omega (arith, h.spare_bytes, length-append b.unsent []); spare_handles = h.spare_handles }

spent_event : (b : BackendView) (handshake : ℕ) (i : KnownInterface) (o : Option ℕ) (n : ℕ) → HasSpare (n + MOST_VERSION_BYTES) 0 (unsent_of b) b.room →
    HasSpare n 0 (unsent_of (sends b (event_if handshake i o))) b.room
spent_event b handshake i None n h = spent_none b n h
spent_event b handshake i (Some v) n h = spent_one b (settled_event handshake i v) n (few_bytes i handshake v) h

-- an event, or none, leaves the room but for the most bytes of one
pub spent : (b new : BackendView) (handshake : ℕ) (i : KnownInterface) (o : Option ℕ) (n : ℕ) → new ≡ sends b (event_if handshake i o) →
    HasSpare (n + MOST_VERSION_BYTES) 0 (unsent_of b) b.room → HasSpare n 0 (unsent_of new) new.room
spent b new handshake i o n is h = subst (λ (x : BackendView). HasSpare n 0 (unsent_of x) x.room) (sym is) (spent_event b handshake i o n h)

-- ---- what is sent within it

-- what is refused for none of the reasons is sent
is_sent : {A : Type 0} (r : Result A SendError) → (IsErrOf r send_error.NoMemory → ⊥) → (IsErrOf r send_error.MessageTooLong → ⊥) → (IsErrOf r send_error.IdsExhausted → ⊥) → IsOk r
is_sent (Ok x) memory long ids = refl
is_sent (Err send_error.NoMemory) memory long ids = absurd (memory refl)
is_sent (Err send_error.MessageTooLong) memory long ids = absurd (long refl)
is_sent (Err send_error.IdsExhausted) memory long ids = absurd (ids refl)

fits : (b : BackendView) (m : Raw) → size m ≤ MOST_VERSION_BYTES → HasSpare MOST_VERSION_BYTES 0 (unsent_of b) b.room → HasSpare (size m) 0 (unsent_of b) b.room
fits b m few h = less_spare MOST_VERSION_BYTES (size m) (unsent_of b) b.room h few

-- the event of a version is sent
pub event_is_sent : (i : KnownInterface) (target : ObjectView) (v : ℕ) (b new : BackendView) (r : Result (Unit {0}) SendError) →
    SendsText (event (codes "interface_version")) target (Letters (name_of i) ∷ Word v ∷ []) b new r → HasSpare MOST_VERSION_BYTES 0 (unsent_of b) b.room → IsOk r
event_is_sent i target v b new r s h =
    let few = few_bytes i target.id v in
    is_sent r (s.room (fits b (message target.id 1 (Letters (name_of i) ∷ Word v ∷ [])) few h))
    (λ e. let too : MOST_MESSAGE_BYTES < size (message target.id 1 (Letters (name_of i) ∷ Word v ∷ [])) = s.long.0 e in absurd (omega (arith, too, few)))
    s.not_exhausted

-- ---- the connection

-- the event of the connection
abbrev Connects : ObjectView → ℕ → BackendView → BackendView → Result ObjectView SendError → Type 0
Connects target serial b new r = SendsNew (λ p. p) (event (codes "connection")) target (Word serial ∷ Long b.table.next_own ∷ Word 1 ∷ []) b new r

-- within the room it is refused only where no own id is left
pub only_ids : (e : SendError) (target : ObjectView) (serial : ℕ) (b new : BackendView) (r : Result ObjectView SendError) → r ≡ Err e → Connects target serial b new r →
    HasSpare CONNECTION_BYTES 0 (unsent_of b) b.room → (b.table.next_own < own_end b.table → b.table.next_own < b.table.room) → (e ≡ send_error.IdsExhausted) × (own_end b.table ≤ b.table.next_own)
only_ids send_error.IdsExhausted target serial b new r is s h ids = (refl, s.exhausted.0 is)
only_ids send_error.MessageTooLong target serial b new r is s h ids = absurd (s.not_long is)
only_ids send_error.NoMemory target serial b new r is s h ids =
    elim (cases_lt b.table.next_own (own_end b.table)) [
      | inl lt ↦ absurd (s.room h (ids lt) is)
      | inr le ↦ (let e : r ≡ Err send_error.IdsExhausted = s.exhausted.1 le in absurd cc)
    ]

-- and where it is sent, one is left
pub has_id : (target : ObjectView) (serial : ℕ) (b new : BackendView) (r : Result ObjectView SendError) (p : ObjectView) → r ≡ Ok p → Connects target serial b new r → b.table.next_own < own_end b.table
has_id target serial b new r p is s =
    elim (cases_lt b.table.next_own (own_end b.table)) [
      | inl lt ↦ lt
      | inr le ↦ (let e : r ≡ Err send_error.IdsExhausted = s.exhausted.1 le in absurd cc)
    ]

handed_over : (b : BackendView) (target : ObjectView) (serial : ℕ) →
    after_row (event (codes "connection")) target (Word serial ∷ Long b.table.next_own ∷ Word 1 ∷ []) b ≡ hands_over b target.id serial
handed_over b target serial =
    ap (λ (x : BackendView). record x { table = without (with_own b.table (Known known.Connection) 1) target.id })
    (sent_one b target.id 2 (Word serial ∷ Long b.table.next_own ∷ Word 1 ∷ []) refl)

-- ---- a finish

roomy_at : (b : BackendView) → HasSpare MOST_FINISH_BYTES 0 (unsent_of (with_room MOST_FINISH_BYTES 0 1 b)) (with_room MOST_FINISH_BYTES 0 1 b).room
roomy_at b = record { spare_bytes = omega arith; spare_handles = omega arith }

-- room was made for it
pub has_room : (b roomy : BackendView) → roomy ≡ with_room MOST_FINISH_BYTES 0 1 b → HasSpare MOST_FINISH_BYTES 0 (unsent_of roomy) roomy.room
has_room b roomy made = subst (λ (x : BackendView). HasSpare MOST_FINISH_BYTES 0 (unsent_of x) x.room) (sym made) (roomy_at b)

-- and the events of the versions were sent within it
module _ (b roomy sent : BackendView) (handshake : ObjectView) (versions : VersionMap) (made : roomy ≡ with_room MOST_FINISH_BYTES 0 1 b) (told : sent ≡ sends roomy (kept_events handshake.id versions)) where
  sent_is : sent ≡ sends (with_room MOST_FINISH_BYTES 0 1 b) (kept_events handshake.id versions)
  sent_is = told ∙ ap (λ (x : BackendView). sends x (kept_events handshake.id versions)) made

  place_at : (with_room MOST_FINISH_BYTES 0 1 b).table.next_own < own_end (with_room MOST_FINISH_BYTES 0 1 b).table → (with_room MOST_FINISH_BYTES 0 1 b).table.next_own < (with_room MOST_FINISH_BYTES 0 1 b).table.room
  place_at lt = omega (arith, lt)

  has_place : sent.table.next_own < own_end sent.table → sent.table.next_own < sent.table.room
  has_place = subst (λ (x : BackendView). x.table.next_own < own_end x.table → x.table.next_own < x.table.room) (sym sent_is) place_at

  no_id : own_end sent.table ≤ sent.table.next_own → own_end b.table ≤ b.table.next_own
  no_id = subst (λ (x : BackendView). own_end x.table ≤ x.table.next_own → own_end b.table ≤ b.table.next_own) (sym sent_is) (λ h. h)

  pub one_id : sent.table.next_own < own_end sent.table → b.table.next_own < own_end b.table
  one_id = subst (λ (x : BackendView). x.table.next_own < own_end x.table → b.table.next_own < own_end b.table) (sym sent_is) (λ h. h)

  pub leaves : endpoint_of sent ≡ endpoint_of (sends b (kept_events handshake.id versions))
  leaves = ap endpoint_of sent_is

  pub same_ring : sent.capacity ≡ b.capacity
  same_ring = ap (λ (x : BackendView). x.capacity) sent_is

  -- the connection isn't sent where no own id is left, and only there
  pub refused : (e : SendError) (serial : ℕ) (new : BackendView) (r : Result ObjectView SendError) → r ≡ Err e → Connects handshake serial sent new r →
      ((n : ℕ) → HasSpare (n + MOST_SETTLED_BYTES) 0 (unsent_of roomy) roomy.room → HasSpare n 0 (unsent_of sent) sent.room) → (e ≡ send_error.IdsExhausted) × (own_end b.table ≤ b.table.next_own)
  refused e serial new r is s spare =
      let only = only_ids e handshake serial sent new r is s (spare CONNECTION_BYTES (has_room b roomy made)) has_place in
      (only.0, no_id only.1)

  -- so is the finish
  pub refuses : (h new : HandshakerView) (at : BackendView) (e : SendError) (serial : ℕ) (r : Result ObjectView SendError) (x : Error) (result : Result EisHandshakeResp Error) →
      h.versions ≡ versions → has_required h.versions ≡ true → new ≡ h → at ≡ sent → r ≡ Err e → Connects handshake serial sent at r →
      ((n : ℕ) → HasSpare (n + MOST_SETTLED_BYTES) 0 (unsent_of roomy) roomy.room → HasSpare n 0 (unsent_of sent) sent.room) → result ≡ Err x → x ≡ error_of_send e →
      IfErr result (λ y. RefusesFinish y handshake.id h b new at)
  refuses h new at e serial r x result v complete same kept is s spare result_is x_is =
      let only = refused e serial at r is s spare in
      let error_is : x ≡ error.IdsExhausted = x_is ∙ ap error_of_send only.0 in
      let events : endpoint_of at ≡ endpoint_of (sends b (kept_events handshake.id h.versions)) =
      ap endpoint_of kept ∙ leaves ∙ ap (λ (w : VersionMap). endpoint_of (sends b (kept_events handshake.id w))) (sym v) in
      rw (result_is, error_is) (complete, only.1, record { handshaker = same; endpoint = events })

  -- and is sent where one is
  pub hands : (serial : ℕ) (new : BackendView) → new ≡ after_row (event (codes "connection")) handshake (Word serial ∷ Long sent.table.next_own ∷ Word 1 ∷ []) sent →
      endpoint_of new ≡ endpoint_of (hands_over (sends b (kept_events handshake.id versions)) handshake.id serial)
  hands serial new is = ap endpoint_of (is ∙ handed_over sent handshake serial ∙ ap (λ (x : BackendView). hands_over x handshake.id serial) sent_is)

  pub hands_ring : (serial : ℕ) (new : BackendView) → new ≡ after_row (event (codes "connection")) handshake (Word serial ∷ Long sent.table.next_own ∷ Word 1 ∷ []) sent → new.capacity ≡ b.capacity
  hands_ring serial new is = ap (λ (x : BackendView). x.capacity) (is ∙ handed_over sent handshake serial ∙ ap (λ (x : BackendView). hands_over x handshake.id serial) sent_is)

  pub new_object : (p : ObjectView) → p ≡ own sent.table (Known known.Connection) 1 → p ≡ own b.table (Known known.Connection) 1
  new_object p is = is ∙ ap (λ (x : BackendView). own x.table (Known known.Connection) 1) sent_is
