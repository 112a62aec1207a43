-- One more message to what isn't there, to the connection, or to a ping.
use Rattle.std.proofs.Common.{◌≡◌, ℕ, false, List, [], ◌∷◌, ◌++◌, Option, Some, None, refl, sym, ap, ◌∙◌}
use Rattle.ei_spec.specs.declared.interface.KnownInterface.{KnownInterface}
use Rattle.ei_spec.specs.declared.interface.KnownInterface.TheVariants as known
use Rattle.ei_spec.specs.Interface.{ObjectView}
use Rattle.ei_spec.specs.Message.{Raw, bytes_of, all_bytes}
use Rattle.ei_session.specs.Setup.{Setup}
use Rattle.ei_session.specs.Meaning.{Meaning, meaning, Disconnects, Pongs}
use Rattle.ei_session.specs.Devices.{not_empty}
use Rattle.ei_session.specs.Objects.{Entry, object}
use Rattle.ei_session.specs.Touches.{of_device, input_of, input}
use Rattle.ei_session.specs.Refusals.{synced}
use Rattle.ei_session.specs.Requests.{Disconnect}
use Rattle.ei_session.specs.Events.{invalid_object_event, reply}
use Rattle.ei_session.specs.ByMeaning.{releases, mask_in, callback_in}
use Rattle.ei_session.specs.Kept.{Plainly, is_bare, home}
use Rattle.ei_session.proofs.Choices.{none_some}
use Rattle.ei_session.proofs.AnsweredMeans.{made_asked, synced_asked, reply_asked}
use Rattle.ei_session.proofs.AskedByMeaning.{its_interface}
use Rattle.ei_session.proofs.AskedMeans.{release_asked}
use Rattle.ei_session.proofs.FirstObjects.{the_connection, object_connection}
use Rattle.ei_session.proofs.GoneLaws.{no_finish_again}
use Rattle.ei_session.proofs.ItemLaws.{item_unknown}
use Rattle.ei_session.proofs.ItemMeans.{input_by, bare, item_asked}
use Rattle.ei_session.proofs.KeptByRequests.{plainly_known, plainly_unknown}
use Rattle.ei_session.proofs.Placed.{object_placed}
use Rattle.ei_session.proofs.ReplyLaws.{not_synced, reply_unknown}
use Rattle.ei_request.specs.Sending.{no_object_event}
use Rattle.ei_request.specs.Handling.{handled}
use Rattle.ei_request.specs.Converter.{ConverterView}
use Rattle.ei_standing.specs.Standing.{IsHeld, TookOne, tells_no_object}
use Rattle.ei_standing.proofs.HeldPlainly.{keeps_itself}
use Rattle.ei_standing.proofs.TookQuietly.{took_quietly, no_more}

-- ---- what isn't there

no_input : (past : List Raw) (m : Raw) → object past m.id ≡ None → input past m ≡ None
unfolding input
no_input past m k = ap (input_of m) k

module _ (setup : Setup) (past : List Raw) (m : Raw) (readings : List ℕ) (c : ConverterView) (h : IsHeld setup past readings c) (k : object past m.id ≡ None) where
  not_synced_there : synced past m ≡ None
  not_synced_there = not_synced past m (λ at. none_some the_connection (sym k ∙ ap (object past) at ∙ object_connection past ∙ rw h.connected refl))

  told : no_object_event c.handle.proxy.id c.handle.last_serial m.id ∷ [] ≡ reply setup past m
  told =
      ap (λ (o : ObjectView). no_object_event o.id c.handle.last_serial m.id ∷ []) h.proxy
      ∙ ap (λ (n : ℕ). invalid_object_event n m.id ∷ []) h.serial
      ∙ sym (reply_unknown setup past m h.connected (no_finish_again past m h.connected) k)

  pub after_unknown : TookOne setup past m readings [] c (record c { handle = tells_no_object c.handle m.id })
  after_unknown =
      took_quietly setup past m readings c (record c { handle = tells_no_object c.handle m.id }) None (reply setup past m) (plainly_unknown setup past m h.connected k) h (item_unknown past m k) (no_input past m k) not_synced_there refl (record {
        keeps = record {
          table = refl;
          closed = refl;
          unsent_handles = refl;
          proxy = refl;
          name = refl;
          negotiated = refl;
          last_serial = refl;
          seats = refl;
          disconnected = refl;
        };
        devices = refl;
        queue = no_more c.queue;
        unsent = ap (λ (x : List ℕ). c.handle.ctx.unsent ++ x) (no_more (bytes_of (no_object_event c.handle.proxy.id c.handle.last_serial m.id))) ∙ ap (λ (x : List Raw). c.handle.ctx.unsent ++ all_bytes x) told;
        unread = refl;
        handles = refl;
      })

-- ---- requests to what is there, and is no device

module _ (setup : Setup) (past : List Raw) (m : Raw) (readings : List ℕ) (c : ConverterView) (e : Entry) (h : IsHeld setup past readings c) (k : object past m.id ≡ Some e) where
  -- a request that makes no device and releases nothing
  pub plain_request : (x : Meaning) → meaning e.interface m ≡ Some x → not_empty (mask_in (Some x)) ≡ None → releases (Some x) ≡ false → Plainly setup past m
  plain_request x a makes goes = plainly_known setup past m e h.connected k (made_asked past m e h.connected k ∙ ap (λ (o : Option Meaning). not_empty (mask_in o)) a ∙ makes) (release_asked e.interface m ∙ ap releases a ∙ goes)

  pub after_disconnect : (time : ℕ) → meaning e.interface m ≡ Some Disconnects → TookOne setup past m readings [] c (handled c m.id Disconnects time)
  after_disconnect time a =
      took_quietly setup past m readings c (handled c m.id Disconnects time) (Some Disconnect) [] (plain_request Disconnects a refl refl) h (item_asked past m e k ∙ rw a refl) (input_by past m e k ∙ rw a (bare e.device))
      (synced_asked past m e h.connected k ∙ ap callback_in a) (reply_asked setup past m e h.connected k ∙ rw a refl) (record {
        keeps = keeps_itself c.handle c.handle.devices;
        devices = refl;
        queue = refl;
        unsent = no_more c.handle.ctx.unsent;
        unread = refl;
        handles = refl;
      })

  -- a server has no ping, so none is answered
  pub after_pong : (number time : ℕ) → meaning e.interface m ≡ Some (Pongs number) → TookOne setup past m readings [] c (handled c m.id (Pongs number) time)
  after_pong number time a =
      let i : e.interface ≡ known.Pingpong = its_interface e.interface m (Pongs number) known.Pingpong a refl in
      absurd (none_some m.id (sym (ap home i) ∙ (object_placed past m.id e k).at_home (ap is_bare i)))
