-- A message that changes no object, and gives nothing or one request that is no input.
use Rattle.std.proofs.Common.{◌≡◌, ℕ, List, [], ◌∷◌, ◌++◌, length, Option, Some, None, sym, ap, ◌∙◌, subst}
use Rattle.std.specs.Prelude.{map}
use Rattle.std.proofs.lemmas.List.{append-nil}
use Rattle.ei_spec.specs.Message.{Raw, all_bytes}
use Rattle.ei_spec.specs.History.{each}
use Rattle.ei_spec.specs.Groups.{Free, group, frames_made, gives}
use Rattle.ei_session.specs.Setup.{Setup}
use Rattle.ei_session.specs.Touches.{input}
use Rattle.ei_session.specs.Refusals.{synced}
use Rattle.ei_session.specs.Requests.{Asking, Plain, item, slot}
use Rattle.ei_session.specs.Events.{reply}
use Rattle.ei_session.specs.Kept.{Plainly}
use Rattle.ei_session.proofs.GivenByItem.{frames_free, frames_none, gives_free, gives_none}
use Rattle.ei_session.proofs.WaitingLaws.{group_by, touch_none}
use Rattle.ei_request.specs.declared.event.EisRequest.{EisRequest}
use Rattle.ei_request.specs.Converter.{ConverterView}
use Rattle.ei_standing.specs.Standing.{plain_in_code, request_in_code, AreDevices, IsHeld, TookOne}
use Rattle.ei_standing.proofs.HeldPlainly.{KeepsHandle, devices_same, held_plainly}
use Rattle.ei_standing.proofs.NamedBefore.{named_after}

-- the item of such a message, and what is handed out
abbrev pub free_item : Option Plain → Option Asking
free_item None = None
free_item (Some y) = Some (Free y)

abbrev pub handed_out : List Raw → Option Plain → List EisRequest
handed_out past None = []
handed_out past (Some y) = plain_in_code past y ∷ []

pub no_more : {X : Type 0} (xs : List X) → xs ≡ xs ++ []
no_more xs = sym (append-nil xs)

module _ (setup : Setup) (past : List Raw) (m : Raw) where
  pub free_group : (y : Option Plain) → item past m ≡ free_item y → (id : ℕ) → group id (each (slot setup) (m ∷ past)) ≡ group id (each (slot setup) past)
  free_group None i id = group_by setup past m id None i
  free_group (Some y) i id = group_by setup past m id (Some (Free y)) i

  free_frames : (y : Option Plain) → item past m ≡ free_item y → frames_made (each (slot setup) (m ∷ past)) ≡ frames_made (each (slot setup) past)
  free_frames None i = frames_none setup past m i
  free_frames (Some y) i = frames_free setup past m y i

  -- the readings are as many as before
  pub same_readings : (readings : List ℕ) (y : Option Plain) → item past m ≡ free_item y → length readings ≡ frames_made (each (slot setup) past) → length (readings ++ []) ≡ frames_made (each (slot setup) (m ∷ past))
  same_readings readings y i h = ap length (append-nil readings) ∙ h ∙ sym (free_frames y i)

  pub free_given : (readings : List ℕ) (y : Option Plain) → item past m ≡ free_item y → map (request_in_code past) (gives readings (each (slot setup) past) (slot setup past m)) ≡ handed_out past y
  free_given readings None i = ap (map (request_in_code past)) (gives_none setup readings past m i)
  free_given readings (Some y) i = ap (map (request_in_code past)) (gives_free setup readings past m y i)

  pub free_queue : (readings : List ℕ) (old new : List EisRequest) (y : Option Plain) → item past m ≡ free_item y → new ≡ old ++ handed_out past y →
      new ≡ old ++ map (request_in_code past) (gives readings (each (slot setup) past) (slot setup past m))
  free_queue readings old new y i q = q ∙ ap (λ (x : List EisRequest). old ++ x) (sym (free_given readings y i))

-- what a converter does on such a message: this is queued, and these messages are sent
pub record Does (past : List Raw) (y : Option Plain) (events : List Raw) (c new : ConverterView) : Type 0 where
  pub keeps : KeepsHandle c.handle new.handle
  pub devices : new.handle.devices ≡ c.handle.devices
  pub queue : new.queue ≡ c.queue ++ handed_out past y
  pub unsent : new.handle.ctx.unsent ≡ c.handle.ctx.unsent ++ all_bytes events
  pub unread : new.handle.ctx.unread ≡ c.handle.ctx.unread
  pub handles : new.handle.ctx.handles ≡ c.handle.ctx.handles

pub took_quietly : (setup : Setup) (past : List Raw) (m : Raw) (readings : List ℕ) (c new : ConverterView) (y : Option Plain) (events : List Raw) →
    Plainly setup past m → IsHeld setup past readings c → item past m ≡ free_item y → input past m ≡ None → synced past m ≡ None → reply setup past m ≡ events → Does past y events c new →
    TookOne setup past m readings [] c new
took_quietly setup past m readings c new y events plain h i no_input quiet r d =
    let devices : AreDevices setup (m ∷ past) new.handle.devices =
    subst (AreDevices setup (m ∷ past)) (sym d.devices) (devices_same setup past m plain (free_group setup past m y i) (λ id touch. touch_none past m no_input id touch) c.handle.devices h.devices) in
    record {
      held = held_plainly setup past m readings (readings ++ []) c new plain h d.keeps quiet (named_after past m plain.on) devices (same_readings setup past m readings y i h.frames);
      queue = λ later. free_queue setup past m ((readings ++ []) ++ later) c.queue new.queue y i d.queue;
      unsent = d.unsent ∙ ap (λ (x : List Raw). c.handle.ctx.unsent ++ all_bytes x) (sym r);
      unread = d.unread;
      handles = d.handles;
    }
