-- A server that serves reads: what it holds stays, and what a request names is there.
use Rattle.std.proofs.Common.{◌≡◌, ℕ, ◌<◌, ◌^◌, Bool, true, false, cond, ◌||◌, List, ◌∷◌, length, Option, Some, None, refl, sym, ap, ◌∙◌, arith}
use Rattle.ei_spec.specs.declared.interface.KnownInterface.{KnownInterface}
use Rattle.ei_spec.specs.declared.interface.KnownInterface.TheVariants as known
use Rattle.ei_spec.specs.Interface.{Interface, Known, Other, ObjectView}
use Rattle.ei_spec.specs.Message.{Front, Short, Unlawful, Whole, front}
use Rattle.ei_spec.specs.Reading.{Fault}
use Rattle.ei_spec.specs.Piece.{Piece}
use Rattle.ei_spec.specs.Value.{Value}
use Rattle.std.specs.Prelude.{Result, Ok, Err}
use Rattle.ei_session.specs.Inputs.{is_of_device}
use Rattle.ei_input.specs.declared.input_event.InputEvent.{InputEvent}
use Rattle.ei_backend.specs.Backend.{BackendView, Waits, Gone, next, of_front, of_target, said_of, body_read}
use Rattle.ei_backend.specs.Table.{TableView, found}
use Rattle.ei_ends.specs.Sent.{Sent, Got, Took, New, new_of, row_of}
use Rattle.ei_ends.specs.Announced.{or_else, first, announced, known_by, destroyed, next_own}
use Rattle.ei_ends.specs.Way.{gone, seen_by, alive, End}
use Rattle.ei_ends.specs.Joined.{Joined, acquainted}
use Rattle.ei_ends.proofs.Known.{or_else_first, known_more}
use Rattle.ei_ends.proofs.JoinedSteps.{turned, next_id_is}
use Rattle.ei_ends.proofs.NothingLeft.{pair_first, pair_second}
use Rattle.ei_server.specs.declared.request.Request.{Request}
use Rattle.ei_server.specs.declared.request.Request.TheVariants as request
use Rattle.ei_server.specs.declared.connection.Request.TheVariants as connection
use Rattle.ei_server.specs.declared.pingpong.Request.TheVariants as pingpong
use Rattle.ei_server.specs.declared.seat.Request.TheVariants as seat
use Rattle.ei_server.specs.declared.device.Request.TheVariants as device
use Rattle.ei_server.specs.Request.{target_of}
use Rattle.ei_request.specs.Connection.{ConnectionView}
use Rattle.ei_request.specs.Typed.{meaning_of, interface_asked, interface_meaning, input_asked}
use Rattle.ei_acts.specs.Holding.{is_a_seat, is_seat_interface, IsTargetOf}
use Rattle.ei_acts.specs.There.{IsThere}
use Rattle.ei_acts.specs.Sendable.{IsEndOf}
use Rattle.ei_acts.specs.Acting.{IsQuiet}
use Rattle.ei_acts.specs.Allowed.{MayAnswer}
use Rattle.ei_acts.proofs.AnnouncedThere.{table_announces}
use Rattle.ei_promises.proofs.Requests.{message_of}
use Rattle.ei_promises.proofs.Taking.{TookOne, before_is, new_is_next, new_acquainted, target_there, new_there}

-- ---- where the table is the same

pub same_quiet : (old : ConnectionView) (b : BackendView) → b.table ≡ old.ctx.table → IsQuiet old (record old { ctx = b })
same_quiet old b e = record {
  next = let n = ap (λ (t : TableView). t.next_own) e in omega (arith, n);
  stays = λ id k d i. ap (λ (t : TableView). found t id) e;
  no_seat = λ id h. ap (λ (t : TableView). is_a_seat (found t id)) (sym e) ∙ h;
  seats = refl;
  devices = refl;
  proxy = refl;
}

-- an id of no object leaves the table
gone_front : (events : Bool) (b after : BackendView) (id : ℕ) (f : Front) → of_front events b f ≡ (Gone id, after) → after.table ≡ b.table
gone_front events b after id Short e = let g = pair_first Waits (Gone id) b after e in cc
gone_front events b after id (Unlawful n) e = let g = pair_first _ (Gone id) b after e in cc
gone_front events b after id (Whole m rest) e = by (found b.table m.id) e
  where
    said : (o : ObjectView) (r : Result (List Value) Fault) → said_of o m.opcode r ≡ Gone id → ⊥
    said o (Ok values) g = cc
    said o (Err f) g = cc

    by : (o : Option ObjectView) → of_target events b o m rest ≡ (Gone id, after) → after.table ≡ b.table
    by None g = ap (λ (c : BackendView). c.table) (sym (pair_second (Gone m.id) (Gone id) (record b { unread = rest }) after g))
    by (Some o) g = absurd (said o (body_read events o m.opcode m.body b.handles b.table).said (pair_first _ (Gone id) _ after g))

pub gone_table : (events : Bool) (b after : BackendView) (id : ℕ) → next events b ≡ (Gone id, after) → after.table ≡ b.table
gone_table events b after id e = gone_front events b after id (front b.unread) e

-- ---- where a request was read

none_alive : (b : Bool) (o : ObjectView) → cond b None None ≡ Some o → ⊥
none_alive true o e = cc
none_alive false o e = cc

dead : (o : Option New) (p : ObjectView) → cond true None (seen_by false o) ≡ Some p → ⊥
dead o p e = cc

module _ (x0 x y : End) (to_client to_server : Piece) (r : Sent) (j0 : Joined false y x0 to_server to_client) (j : Joined false y x to_server to_client) (n : ℕ) (t : TookOne false y x r n x0.taken) (same : x.sent ≡ x0.sent) (old : ConnectionView)
    (has : x0.backend ≡ old.ctx) where
  abbrev flag : ℕ → Bool
  flag id = destroyed true x.sent id || gone false t.past x0.taken id

  found_before : (id : ℕ) → found old.ctx.table id ≡ cond (flag id) None (seen_by false (known_by true x.sent t.past id))
  found_before id =
      ap (λ (b : BackendView). found b.table id) (sym has) ∙ j0.tied.there.objects.objects id ∙ ap (λ (l : List Sent). alive false x0.sent l x0.taken id) (before_is false y x x0 to_server to_client r n t j0)
      ∙ ap (λ (l : List Sent). alive false l t.past x0.taken id) (sym same)

  found_after : (id : ℕ) → found x.backend.table id ≡ cond (flag id) None (seen_by false (known_by true x.sent (t.message ∷ t.past) id))
  unfolding gone
  found_after id = t.objects id

  -- what was known is as it was
  known_stays : (id : ℕ) (k : New) → known_by true x.sent t.past id ≡ Some k → found x.backend.table id ≡ found old.ctx.table id
  known_stays id k e =
      found_after id ∙ ap (λ (o : Option New). cond (flag id) None (seen_by false o)) (known_more true x.sent t.message t.past id k e ∙ sym e) ∙ sym (found_before id)

  there_stays : (id : ℕ) (o : ObjectView) → found old.ctx.table id ≡ Some o → found x.backend.table id ≡ found old.ctx.table id
  there_stays id o e = by (flag id) (known_by true x.sent t.past id) refl (sym (found_before id) ∙ e)
    where
      by : (b : Bool) (k : Option New) → known_by true x.sent t.past id ≡ k → cond b None (seen_by false k) ≡ Some o → found x.backend.table id ≡ found old.ctx.table id
      by b None q f = absurd (none_alive b o f)
      by true (Some k) q f = known_stays id k q
      by false (Some k) q f = known_stays id k q

  end : IsEndOf x (record old { ctx = x.backend })
  end = record { client = y; to_client = to_client; to_server = to_server; joined = turned false y x to_server to_client j; backend = refl }

  seat_known : (id version : ℕ) → announced true x.sent id ≡ Some (record { id = id; interface = Known known.Seat; version = version }) → found x.backend.table id ≡ found old.ctx.table id
  seat_known id version e = by (first id) refl
    where
      by : (o : Option New) → first id ≡ o → found x.backend.table id ≡ found old.ctx.table id
      by None q = known_stays id (record { id = id; interface = Known known.Seat; version = version }) (rw (q, e) refl)
      by (Some k) q = known_stays id k (or_else_first (first id) (or_else (announced true x.sent id) (announced false t.past id)) k q)

  no_seat_more : (id : ℕ) (o : Option ObjectView) → found x.backend.table id ≡ o → is_a_seat o ≡ true → is_a_seat (found old.ctx.table id) ≡ true
  no_seat_more id None e h = absurd cc
  no_seat_more id (Some o) e h = by o.interface refl h
    where
      by : (i : Interface) → o.interface ≡ i → is_seat_interface i ≡ true → is_a_seat (found old.ctx.table id) ≡ true
      by (Known known.Seat) f g =
          let a = table_announces x (record old { ctx = x.backend }) end o known.Seat f (λ q. absurd cc) (λ q. absurd cc) id e in
          ap is_a_seat (sym (seat_known id o.version a) ∙ e) ∙ ap is_seat_interface f
      by (Known k) f g = absurd cc
      by (Other name) f g = absurd cc

  pub read_quiet : IsQuiet old (record old { ctx = x.backend })
  read_quiet = record {
    next =
        let before = next_id_is true x0 y to_client to_server (turned false y x0 to_server to_client j0) in
        let after = next_id_is true x y to_client to_server (turned false y x to_server to_client j) in
        let sent = ap (next_own true) same in
        let own = ap (λ (b : BackendView). b.table.next_own) has in
        omega (arith, before, after, sent, own);
    stays = λ id k d i. there_stays id i.object i.there;
    no_seat = λ id h. no_seat_more id (found x.backend.table id) refl h;
    seats = refl;
    devices = refl;
    proxy = refl;
  }

-- ---- what a request names

module _ (x0 x y : End) (to_client to_server : Piece) (r : Request) (n : ℕ) (j0 : Joined false y x0 to_server to_client) (t : TookOne false y x (message_of r) n x0.taken) (now : n ≡ length x.sent) (same : x.sent ≡ x0.sent) (took : x.taken ≡ Took (message_of r) n ∷ x0.taken) where
  target : found x.backend.table (target_of r).id ≡ Some (record { id = (target_of r).id; interface = Known (interface_asked r); version = (target_of r).version; client_side = false })
  target = target_there false y x (message_of r) n x0.taken t now

  target_as : (k : KnownInterface) → interface_asked r ≡ k → IsThere x.backend.table (target_of r).id k
  target_as k e = record { object = record { id = (target_of r).id; interface = Known (interface_asked r); version = (target_of r).version; client_side = false }; there = target; is = ap Known e }

  of_interface : (o : Option InputEvent) → is_of_device (interface_asked r) ≡ true → IsTargetOf (interface_meaning o) x.backend.table (target_of r).id
  of_interface None d = record { interface = interface_asked r; of_device = d; there = target_as (interface_asked r) refl }
  of_interface (Some i) d = tt

  module _ (k : New) (e : new_of false (message_of r) ≡ Some k) where
    announced_there : found x.backend.table k.id ≡ seen_by false (Some k)
    announced_there = new_there false y x x0 to_server to_client (message_of r) n t j0 same k e

    knows_it : acquainted true x.sent x.taken k.id ≡ Some k
    knows_it = ap (λ (l : List Got). acquainted true x.sent l k.id) took ∙ new_acquainted false y x (message_of r) n x0.taken t k e

    small_id : k.id < 2 ^ 64
    small_id = let lt = (new_is_next false y x (message_of r) n x0.taken t k e).1 in omega (arith, lt)

-- the callback that a sync announces
callback_new : (proxy callback : ObjectView) → new_of false (message_of (request.Connection proxy (connection.Sync callback))) ≡ Some (record { id = callback.id; interface = Known known.Callback; version = callback.version })
unfolding row_of
callback_new proxy callback = refl

module _ (x0 x y : End) (to_client to_server : Piece) (n : ℕ) (j0 : Joined false y x0 to_server to_client) (now : n ≡ length x.sent) (same : x.sent ≡ x0.sent) where
  pub is_target : (r : Request) → TookOne false y x (message_of r) n x0.taken → x.taken ≡ Took (message_of r) n ∷ x0.taken → IsTargetOf (meaning_of r) x.backend.table (target_of r).id
  is_target (request.Handshake proxy m) t took = tt
  is_target (request.Connection proxy (connection.Sync callback)) t took =
      record { object = _; there = announced_there x0 x y to_client to_server (request.Connection proxy (connection.Sync callback)) n j0 t now same took _ (callback_new proxy callback); is = refl }
  is_target (request.Connection proxy connection.Disconnect) t took = tt
  is_target (request.Pingpong proxy (pingpong.Done number)) t took = tt
  is_target (request.Seat proxy seat.Release) t took = target_as x0 x y to_client to_server (request.Seat proxy seat.Release) n j0 t now same took known.Seat refl
  is_target (request.Seat proxy (seat.Bind mask)) t took = tt
  is_target (request.Seat proxy (seat.RequestDevice mask)) t took = tt
  is_target (request.Device proxy device.Release) t took = tt
  is_target (request.Device proxy (device.StartEmulating serial sequence)) t took = tt
  is_target (request.Device proxy (device.StopEmulating serial)) t took = tt
  is_target (request.Device proxy (device.Frame serial time)) t took = tt
  is_target (request.Device proxy device.Ready) t took = tt
  is_target (request.Pointer proxy m) t took = of_interface x0 x y to_client to_server (request.Pointer proxy m) n j0 t now same took (input_asked (request.Pointer proxy m)) refl
  is_target (request.PointerAbsolute proxy m) t took = of_interface x0 x y to_client to_server (request.PointerAbsolute proxy m) n j0 t now same took (input_asked (request.PointerAbsolute proxy m)) refl
  is_target (request.Scroll proxy m) t took = of_interface x0 x y to_client to_server (request.Scroll proxy m) n j0 t now same took (input_asked (request.Scroll proxy m)) refl
  is_target (request.Button proxy m) t took = of_interface x0 x y to_client to_server (request.Button proxy m) n j0 t now same took (input_asked (request.Button proxy m)) refl
  is_target (request.Keyboard proxy m) t took = of_interface x0 x y to_client to_server (request.Keyboard proxy m) n j0 t now same took (input_asked (request.Keyboard proxy m)) refl
  is_target (request.Touchscreen proxy m) t took = of_interface x0 x y to_client to_server (request.Touchscreen proxy m) n j0 t now same took (input_asked (request.Touchscreen proxy m)) refl
  is_target (request.Text proxy m) t took = of_interface x0 x y to_client to_server (request.Text proxy m) n j0 t now same took (input_asked (request.Text proxy m)) refl
  is_target (request.Gesture proxy m) t took = of_interface x0 x y to_client to_server (request.Gesture proxy m) n j0 t now same took (input_asked (request.Gesture proxy m)) refl

  of_input : (o : Option InputEvent) (e : End) → MayAnswer (interface_meaning o) e
  of_input None e = tt
  of_input (Some i) e = tt

  pub may_answer : (r : Request) → TookOne false y x (message_of r) n x0.taken → x.taken ≡ Took (message_of r) n ∷ x0.taken → MayAnswer (meaning_of r) x
  may_answer (request.Handshake proxy m) t took = tt
  may_answer (request.Connection proxy (connection.Sync callback)) t took = (
    small_id x0 x y to_client to_server (request.Connection proxy (connection.Sync callback)) n j0 t now same took _ (callback_new proxy callback),
    knows_it x0 x y to_client to_server (request.Connection proxy (connection.Sync callback)) n j0 t now same took _ (callback_new proxy callback),
  )
  may_answer (request.Connection proxy connection.Disconnect) t took = tt
  may_answer (request.Pingpong proxy (pingpong.Done number)) t took = tt
  may_answer (request.Seat proxy seat.Release) t took = tt
  may_answer (request.Seat proxy (seat.Bind mask)) t took = tt
  may_answer (request.Seat proxy (seat.RequestDevice mask)) t took = tt
  may_answer (request.Device proxy device.Release) t took = tt
  may_answer (request.Device proxy (device.StartEmulating serial sequence)) t took = tt
  may_answer (request.Device proxy (device.StopEmulating serial)) t took = tt
  may_answer (request.Device proxy (device.Frame serial time)) t took = tt
  may_answer (request.Device proxy device.Ready) t took = tt
  may_answer (request.Pointer proxy m) t took = of_input (input_asked (request.Pointer proxy m)) x
  may_answer (request.PointerAbsolute proxy m) t took = of_input (input_asked (request.PointerAbsolute proxy m)) x
  may_answer (request.Scroll proxy m) t took = of_input (input_asked (request.Scroll proxy m)) x
  may_answer (request.Button proxy m) t took = of_input (input_asked (request.Button proxy m)) x
  may_answer (request.Keyboard proxy m) t took = of_input (input_asked (request.Keyboard proxy m)) x
  may_answer (request.Touchscreen proxy m) t took = of_input (input_asked (request.Touchscreen proxy m)) x
  may_answer (request.Text proxy m) t took = of_input (input_asked (request.Text proxy m)) x
  may_answer (request.Gesture proxy m) t took = of_input (input_asked (request.Gesture proxy m)) x
