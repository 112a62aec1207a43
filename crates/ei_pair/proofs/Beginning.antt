-- A new pair: its server has begun.
use Rattle.std.proofs.Common.{◌≡◌, ℕ, true, false, List, [], ◌∷◌, Option, Some, None, refl, sym, ap, subst, ◌∙◌}
use Rattle.std.specs.Prelude.{is_some}
use Rattle.std.specs.Option.{ForSome}
use Rattle.std.specs.FinMap as finite
use Rattle.ei_backend.proofs.Objects.{get_with}
use Rattle.ei_spec.specs.Interface.{ObjectView}
use Rattle.ei_backend.specs.Backend.{BackendView, new_backend}
use Rattle.ei_backend.specs.Endpoint.{endpoint_of}
use Rattle.ei_backend.specs.Table.{new_table, first_object, found, first_server_id}
use Rattle.ei_session.specs.Replies.{greeting_to}
use Rattle.ei_ends.specs.Sent.{Sent, row_of}
use Rattle.ei_ends.specs.Joined.{AreListedCalls, ArePlain}
use Rattle.ei_ends.proofs.JoinedSteps.{plain_all}
use Rattle.ei_linked.specs.Stored.{end_in}
use Rattle.ei_linked.specs.Stored.{StoredEnd}
use Rattle.ei_linked.specs.declared.written.Unsent.{Unsent}
use Rattle.ei_linked.specs.Held.{stored_by}
use Rattle.ei_linked.specs.Written.{AreWritten, stored_onto}
use Rattle.ei_linked.specs.Ends.{EndsView, world_in, IsNewEnds}
use Rattle.ei_linked.specs.TwoEnds.{IsWorld, new_stored, new_world}
use Rattle.ei_linked.proofs.Kept.{new_kept}
use Rattle.ei_ends.specs.Steps.{no_piece}
use Rattle.ei_types.specs.declared.enums.ContextType.{ContextType}
use Rattle.ei_handshake.specs.Client.{ClientView, greeter, unshaken}
use Rattle.ei_handshake.specs.Handshaker.{HandshakerView, untold, sends}
use Rattle.ei_promises.specs.Pair.{PairView, ClientStage, Asks, Shakes, IsNew}
use Rattle.ei_pair.specs.declared.server_end.ServerEnd.{ServerEnd}
use Rattle.ei_pair.specs.declared.server_end.ServerEnd.TheVariants as end
use Rattle.ei_pair.specs.ServerEnd.{endpoint_in}
use Rattle.ei_pair.specs.Parts.{PartsView, pair_in}
use Rattle.ei_pair.proofs.Written.{written, server_world}
use Rattle.ei_shaking.specs.Messages.{greeting}
use Rattle.ei_promises.specs.Keeping.{HasSentAll}

greeting_plain : ArePlain true (greeting ∷ [])
unfolding row_of
greeting_plain = (refl, refl, refl, tt)

-- what the server sends first
pub greets : (b : BackendView) → b ≡ sends (new_stored false).backend (greeting_to 0 ∷ []) → AreListedCalls true (greeting ∷ []) [] [] → HasSentAll true (greeting ∷ []) (end_in (new_stored false)) b
greets b is listed = record {
  endpoint = ap endpoint_of (is ∙ sym (plain_all true (greeting ∷ []) (end_in (new_stored false)) greeting_plain));
  listed = listed;
}

-- object 0 is that of the handshake
found_zero : found (new_table false first_server_id) 0 ≡ Some (first_object false)
found_zero = get_with finite.empty 0 0 (first_object false)

pub has_zero : (b : BackendView) → b ≡ new_backend (new_table false first_server_id) → is_some (found b.table 0) ≡ true
has_zero b is = ap (λ (x : BackendView). is_some (found x.table 0)) is ∙ ap (λ (o : Option ObjectView). is_some o) found_zero

pub greets_zero : (b : BackendView) → ForSome (found (new_table false first_server_id) 0) (λ handshake. b ≡ sends (new_backend (new_table false first_server_id)) (greeting_to handshake.id ∷ [])) → b ≡ sends (new_stored false).backend (greeting_to 0 ∷ [])
greets_zero b h =
    let known : ForSome (Some (first_object false)) (λ handshake. b ≡ sends (new_backend (new_table false first_server_id)) (greeting_to handshake.id ∷ [])) =
    subst (λ (o : Option ObjectView). ForSome o (λ handshake. b ≡ sends (new_backend (new_table false first_server_id)) (greeting_to handshake.id ∷ []))) found_zero h in
    known (first_object false) refl

-- ---- the pair

abbrev pub begun : BackendView → ServerEnd → EndsView ServerEnd
begun client s = record {
  client = record { context = client; sent = []; taken = [] };
  server = record { context = s; sent = stored_onto true (greeting ∷ []) []; taken = [] };
  to_client = no_piece;
  to_server = no_piece;
  spent = false;
}

abbrev pub first_parts : {H : Type 0} → EndsView ServerEnd → ClientView → HandshakerView → ℕ → PartsView H
first_parts e asks tells serial = record { ends = e; asks = asks; tells = tells; converter = None; serial = serial; steady = true; client_wanted = false; server_wanted = false }

-- what it sent first is read back
pub begin_written : (at : Unsent) (b : BackendView) → at ≡ record { bytes = 0; handles = 0 } → HasSentAll true (greeting ∷ []) (end_in (new_stored false)) b → AreWritten true at (greeting ∷ []) (stored_by endpoint_in (record { context = end.Shaking b; sent = []; taken = [] }))
begin_written at b is h = subst (λ (u : Unsent). AreWritten true u (greeting ∷ []) (stored_by endpoint_in (record { context = end.Shaking b; sent = []; taken = [] }))) (sym is) (written true (greeting ∷ []) (new_stored false) b h)

pub is_new : {H : Type 0} (name : List ℕ) (kind : ContextType) (serial : ℕ) (client b : BackendView) (e : EndsView ServerEnd) (asks : ClientView) (tells : HandshakerView) → asks ≡ unshaken (greeter name kind) → tells ≡ untold serial → client ≡ (new_stored true).backend →
    HasSentAll true (greeting ∷ []) (end_in (new_stored false)) b → e ≡ begun client (end.Shaking b) → IsNew {H = H} name kind serial (pair_in (first_parts e asks tells serial))
is_new {H} name kind serial client b e asks tells a t c h is =
    let p : PairView H = pair_in (first_parts (begun client (end.Shaking b)) asks tells serial) in
    let new : IsNew {H = H} name kind serial p = record {
      client = ap (λ (x : ClientView). let s : ClientStage H = Asks x in s) a;
      server = ap Shakes t;
      client_end = ap (λ (x : BackendView). let y : StoredEnd = record { backend = x; sent = []; taken = [] } in y) c;
      server_end = refl;
      server_endpoint = h.endpoint;
      to_client = refl;
      to_server = refl;
      whole = refl;
      steady = refl;
      client_wanted = refl;
      server_wanted = refl;
    } in
    subst (λ (x : EndsView ServerEnd). IsNew {H = H} name kind serial (pair_in (first_parts x asks tells serial))) (sym is) new

pub begins_world : (client b : BackendView) (e : EndsView ServerEnd) → client ≡ (new_stored true).backend → HasSentAll true (greeting ∷ []) (end_in (new_stored false)) b → e ≡ begun client (end.Shaking b) → IsWorld (world_in endpoint_in e)
begins_world client b e c h is =
    let first : IsWorld new_world = new_kept (new_stored true) (new_stored false) no_piece no_piece refl refl refl refl in
    let then : IsWorld (world_in endpoint_in (begun (new_stored true).backend (end.Shaking b))) = server_world (greeting ∷ []) new_world b refl first h in
    subst (λ (x : EndsView ServerEnd). IsWorld (world_in endpoint_in x)) (sym is) (subst (λ (x : BackendView). IsWorld (world_in endpoint_in (begun x (end.Shaking b)))) (sym c) then)

-- what is stored of new ends is what it sent first
pub begun_is : (a : EndsView ServerEnd) (client b : BackendView) → IsNewEnds client (end.Shaking b) a → (at : Unsent) → at ≡ record { bytes = 0; handles = 0 } → HasSentAll true (greeting ∷ []) (end_in (new_stored false)) b → (new : EndsView ServerEnd) →
    ((ms : List Sent) → AreWritten true at ms (stored_by endpoint_in a.server) → new ≡ record a { server = record a.server { sent = stored_onto true ms a.server.sent } }) → new ≡ begun client (end.Shaking b)
begun_is a client b is at at_is h new stores =
    stores (greeting ∷ []) (subst (λ (x : EndsView ServerEnd). AreWritten true at (greeting ∷ []) (stored_by endpoint_in x.server)) (sym is) (begin_written at b at_is h))
    ∙ ap (λ (x : EndsView ServerEnd). let y : EndsView ServerEnd = record x { server = record x.server { sent = stored_onto true (greeting ∷ []) x.server.sent } } in y) is
