-- One more sync: its callback is accepted, called, and gone.
use Rattle.std.proofs.Common.{◌≡◌, ◌≢◌, ℕ, ◌+◌, ◌<◌, ◌≤◌, Bool, true, false, cond, eqb, List, [], ◌∷◌, ◌++◌, Option, Some, None, refl, sym, ap, ◌∙◌, arith}
use Rattle.std.specs.Option.{option_map}
use Rattle.std.proofs.lemmas.Bool.{eqb-true}
use Rattle.std.proofs.lemmas.Bool.Decides.{nat_tests}
use Rattle.ei_spec.specs.declared.interface.KnownInterface.{KnownInterface}
use Rattle.ei_spec.specs.declared.interface.KnownInterface.TheVariants as known
use Rattle.ei_spec.specs.Interface.{ObjectView}
use Rattle.ei_spec.specs.Message.{Raw, bytes_of, all_bytes}
use Rattle.ei_backend.specs.Table.{TableView, Announced, found, peer_end}
use Rattle.ei_backend.proofs.FoundAfter.{found_without}
use Rattle.ei_backend.proofs.GivenOnce.{Accepted, accepted_is, peer_others}
use Rattle.ei_session.specs.Setup.{Setup, connection_id, seat_id}
use Rattle.ei_session.specs.Meaning.{Meaning, meaning, Syncs}
use Rattle.ei_session.specs.Devices.{made}
use Rattle.ei_session.specs.Objects.{Entry, object}
use Rattle.ei_session.specs.Touches.{input}
use Rattle.ei_session.specs.Refusals.{synced}
use Rattle.ei_session.specs.Requests.{item}
use Rattle.ei_session.specs.Events.{callback_event, reply}
use Rattle.ei_session.specs.ByMeaning.{mask_in, callback_in}
use Rattle.ei_session.specs.NextIds.{next_peer}
use Rattle.ei_session.specs.Devices.{not_empty}
use Rattle.ei_session.specs.Kept.{Plainly, is_bare, home}
use Rattle.ei_session.proofs.Choices.{none_some, some_is}
use Rattle.ei_session.proofs.AnsweredMeans.{made_asked, synced_asked, reply_asked}
use Rattle.ei_session.proofs.GoneLaws.{no_finish_again}
use Rattle.ei_session.proofs.ItemMeans.{input_by, bare, item_asked}
use Rattle.ei_session.proofs.NextLaws.{own_other, peer_sync}
use Rattle.ei_session.proofs.ObjectLaws.{object_is_introduced, device_above}
use Rattle.ei_session.proofs.Placed.{object_placed, object_owned}
use Rattle.ei_session.proofs.SettledMapLaws.{connected_map}
use Rattle.ei_session.proofs.WaitingLaws.{touch_none}
use Rattle.ei_request.specs.Held.{SeatView}
use Rattle.ei_request.specs.Handling.{handled}
use Rattle.ei_request.specs.Converter.{ConverterView}
use Rattle.ei_standing.specs.Standing.{object_of, with_table, IsHeld, TookOne}
use Rattle.ei_standing.proofs.ConnectionMessages.{plain_request}
use Rattle.ei_standing.proofs.HeldPlainly.{devices_same, same_seat}
use Rattle.ei_standing.proofs.NamedBefore.{named_after}
use Rattle.ei_standing.proofs.TookQuietly.{free_group, free_queue, same_readings, no_more}

-- ---- between object 0 and the connection there is nothing

not_home : (k : KnownInterface) (id : ℕ) → 0 < id → id < connection_id → home k ≡ Some id → ⊥
not_home known.Handshake id low high h = omega (arith, some_is 0 id h)
not_home known.Connection id low high h = omega (arith, some_is connection_id id h)
not_home known.Seat id low high h = omega (arith, some_is seat_id id h)
not_home k id low high h = none_some id h

module _ (past : List Raw) (id : ℕ) (low : 0 < id) (high : id < connection_id) where
  nothing_bare : (e : Entry) (b : Bool) → object past id ≡ Some e → is_bare e.interface ≡ b → ⊥
  nothing_bare e true k b = not_home e.interface id low high ((object_placed past id e k).at_home b)
  nothing_bare e false k b = let d = object_owned past id e k b in omega (arith, device_above past id e d.0 (object_is_introduced past id e k) d.1)

  nothing_at : (o : Option Entry) → object past id ≡ o → o ≡ None
  nothing_at None k = refl
  nothing_at (Some e) k = absurd (nothing_bare e (is_bare e.interface) k refl)

  pub nothing_between : object past id ≡ None
  nothing_between = nothing_at (object past id) refl

-- ---- the sync

positive : (past : List Raw) → 0 < next_peer past
unfolding next_peer
positive past = omega arith

module _ (setup : Setup) (past : List Raw) (m : Raw) (readings : List ℕ) (c : ConverterView) (e : Entry) (o : ObjectView) (v time : ℕ) (table : TableView)
    (h : IsHeld setup past readings c) (k : object past m.id ≡ Some e) (a : meaning e.interface m ≡ Some (Syncs o.id v)) (n : Announced (Some o) c.handle.ctx.table table) where
  took : Accepted c.handle.ctx.table table o.id o.version o.interface o
  took = accepted_is c.handle.ctx.table table o.id o.version o.interface o n

  plain : Plainly setup past m
  plain = plain_request setup past m readings c e h k (Syncs o.id v) a refl refl

  makes_none : made past m ≡ None
  makes_none = made_asked past m e h.connected k ∙ ap (λ (x : Option Meaning). not_empty (mask_in x)) a

  calls : synced past m ≡ Some o.id
  calls = synced_asked past m e h.connected k ∙ ap callback_in a

  item_is : item past m ≡ None
  item_is = item_asked past m e k ∙ rw a refl

  no_input : input past m ≡ None
  no_input = input_by past m e k ∙ rw a (bare e.device)

  below : next_peer past ≤ o.id
  below = omega (arith, h.peer, took.low)

  server_end : peer_end c.handle.ctx.table ≡ connection_id
  server_end = ap (λ (b : Bool). cond b 18446744073709551615 connection_id) h.server

  above : o.id < connection_id
  above = omega (arith, took.high, server_end)

  callback_none : object (m ∷ past) o.id ≡ None
  callback_none = nothing_between (m ∷ past) o.id (omega (arith, below, positive past)) above

  found_by : (id : ℕ) (b : Bool) → eqb id o.id ≡ b → cond b None (found table id) ≡ option_map (object_of id) (object (m ∷ past) id)
  found_by id true t = ap (option_map (object_of id)) (sym (ap (object (m ∷ past)) (eqb-true id o.id t) ∙ callback_none))
  found_by id false t =
      let other : id ≢ o.id = λ same. grind (arith, nat_tests, same) in
      peer_others c.handle.ctx.table table o.id o.version id o.interface o n other ∙ h.objects id ∙ ap (option_map (object_of id)) (sym (plain.keeps.same_objects id))

  more_peer : o.id + 1 ≡ next_peer (m ∷ past)
  more_peer = let s = peer_sync past m o.id calls in let le = below in omega (arith, s, le)

  answered : reply setup past m ≡ callback_event o.id ∷ []
  answered = reply_asked setup past m e h.connected k ∙ rw a refl

  pub after_sync : TookOne setup past m readings [] (with_table c table) (handled (with_table c table) m.id (Syncs o.id v) time)
  after_sync = record {
    held = record {
      lawful = h.lawful;
      connected = plain.keeps.same_connected ∙ plain.on;
      server = ap (λ (t : TableView). t.client) took.table ∙ h.server;
      opened = h.opened;
      no_handles = h.no_handles;
      objects = λ id. found_without table o.id id ∙ found_by id (eqb id o.id) refl;
      own = ap (λ (t : TableView). t.next_own) took.table ∙ h.own ∙ sym (own_other past m (no_finish_again past m h.connected) makes_none);
      peer = ap (λ (t : TableView). t.next_peer) took.table ∙ more_peer;
      proxy = h.proxy;
      name = h.name ∙ sym (named_after past m h.connected);
      versions = h.versions ∙ sym (connected_map past m h.connected);
      serial = h.serial ∙ sym plain.keeps.same_serial;
      seats = h.seats ∙ ap (λ (s : SeatView). s ∷ []) (sym (same_seat setup past m plain));
      devices = devices_same setup past m plain (free_group setup past m None item_is) (λ id touch. touch_none past m no_input id touch) c.handle.devices h.devices;
      going_on = h.going_on;
      frames = same_readings setup past m readings None item_is h.frames;
    };
    queue = λ later. free_queue setup past m ((readings ++ []) ++ later) c.queue c.queue None item_is (no_more c.queue);
    unsent = ap (λ (x : List ℕ). c.handle.ctx.unsent ++ x) (no_more (bytes_of (callback_event o.id))) ∙ ap (λ (x : List Raw). c.handle.ctx.unsent ++ all_bytes x) (sym answered);
    unread = refl;
    handles = refl;
  }
