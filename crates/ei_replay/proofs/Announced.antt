-- What a client may be told of, and what it has once the device that an item makes was announced.
use Rattle.std.proofs.Common.{◌≡◌, ℕ, ◌+◌, ◌<◌, ◌^◌, Bool, true, false, cond, eqb, List, ◌∷◌, Option, Some, None, refl, sym, ap, subst, ◌∙◌, arith}
use Rattle.std.specs.Prelude.{◌&&◌, not}
use Rattle.std.proofs.lemmas.Bool.{lt-ltb}
use Rattle.ei_spec.specs.Groups.{Timed, Framed, Plain as Given}
use Rattle.ei_backend.specs.Backend.{BackendView, with_unsent}
use Rattle.ei_backend.specs.Outgoing.{nothing}
use Rattle.ei_session.specs.Setup.{Setup, seat_id}
use Rattle.ei_session.specs.Devices.{interfaces_of, not_empty, made}
use Rattle.ei_session.specs.Requests.{Request, Bind, RequestDevice, Ready, DeviceClosed, DeviceStartEmulating, DeviceStopEmulating, Disconnect}
use Rattle.ei_session.proofs.Choices.{some_is}
use Rattle.ei_record.specs.Replayable.{mask_of, next_device, is_within}
use Rattle.ei_playing.specs.Playing.{call_to, played, messages}
use Rattle.ei_playing.proofs.ItemLaws.{ids_low}
use Rattle.ei_playing.proofs.Keeping.{made_so}
use Rattle.ei_playing.proofs.Wants.{IsRight, Meets, right_so, meets, seat_stands}
use Rattle.ei_player.specs.Objects.{MayHear, Announces, Knows}
use Rattle.ei_player.proofs.Knowing.{knows_same, knows_more}
use Rattle.ei_replay.specs.declared.player.Player.{Player}
use Rattle.ei_replay.specs.Steps.{step_of}
use Rattle.ei_replay.specs.Sending.{after_call, AnnouncesAt, AnnouncesMade}
use Rattle.ei_replay.specs.Player.{ComesNext}
use Rattle.ei_replay.proofs.Sent.{end_so}

module _ (setup : Setup) (before : List Request) (item : Request) (next : Option Request) (p : Player) (c : ComesNext setup before item next p) where
  ids_left : next_device before < 18446744073709551000
  ids_left =
      let bound = ids_low before in
      let few = c.few in
      omega (arith, bound, few)

  -- the id of the next device is the one that the session gives next
  pub next_so : p.played.next ≡ Some (next_device before)
  next_so =
      let low = ids_left in
      let below : next_device before < 2 ^ 64 = omega (arith, low) in
      c.so_far.sums.next ∙ rw (lt-ltb (next_device before) (2 ^ 64) below) refl

  pub hears : (id : ℕ) → p.played.next ≡ Some id → (at : ℕ) → MayHear id (id + 8) (with_unsent nothing (after_call (call_to at item) p.client))
  hears id e at =
      let same : next_device before ≡ id = some_is (next_device before) id (sym next_so ∙ e) in
      let s = end_so (messages before) p.client c.so_far.knows at item in
      let k = c.so_far.knows.next in
      let f = c.waits.follows.next in
      let low = ids_left in
      let peer = s.next in
      record { client = s.client ∙ c.so_far.knows.client; next = omega (arith, same, k, f, peer); last = omega (arith, same, low) }

  r : IsRight setup before item next
  r = right_so setup before item next c.right

  w : Meets before item (messages before)
  w = meets setup before (messages before) item next c.waits.follows r c.borne

  made_by : made (messages before) (played before item) ≡ not_empty (mask_of item)
  made_by = made_so setup before item next (messages before) c.waits.follows r w

  nothing_made : (b new : BackendView) → Knows (messages before) b → not_empty (mask_of item) ≡ None → new ≡ b → Knows (played before item ∷ messages before) new
  nothing_made b new k none same =
      subst (Knows (played before item ∷ messages before)) (sym same)
      (knows_same (messages before) (played before item) c.waits.follows.on b k (made_by ∙ none))

  one_made : (b new : BackendView) → Knows (messages before) b → (mask : ℕ) → not_empty (mask_of item) ≡ Some mask → Announces (next_device before) (interfaces_of mask) b new → Knows (played before item ∷ messages before) new
  one_made b new k mask is a =
      knows_more (messages before) (played before item) c.waits.follows.on b new k mask (made_by ∙ is)
      (subst (λ (n : ℕ). Announces n (interfaces_of mask) b new) (sym c.waits.follows.next) a)

  -- where it asks for a device of this mask
  asked_made : (b new : BackendView) → Knows (messages before) b → (mask : ℕ) → mask_of item ≡ Some mask → AnnouncesAt (cond (eqb mask 0) None p.played.next) mask b new → Knows (played before item ∷ messages before) new
  asked_made b new k mask is a = by (eqb mask 0) refl a
    where
      by : (e : Bool) → eqb mask 0 ≡ e → AnnouncesAt (cond e None p.played.next) mask b new → Knows (played before item ∷ messages before) new
      by true e h = nothing_made b new k (ap not_empty is ∙ rw e refl) h
      by false e h = one_made b new k mask (ap not_empty is ∙ rw e refl) (subst (λ (o : Option ℕ). AnnouncesAt o mask b new) next_so h)

seat_asked : (setup : Setup) (seat mask : ℕ) → not (eqb seat seat_id && is_within mask setup.capabilities) ≡ false → cond (eqb seat seat_id) (Some mask) None ≡ Some mask
seat_asked setup seat mask h =
    let s : seat ≡ seat_id = (seat_stands setup seat mask h).is in
    rw s refl

pub knows_then : (setup : Setup) (before : List Request) (item : Request) (next : Option Request) (p : Player) → ComesNext setup before item next p → (b new : BackendView) → Knows (messages before) b →
    AnnouncesMade p.played.next (step_of item) b new → Knows (played before item ∷ messages before) new
knows_then setup before (Timed d x t) next p c b new k a = nothing_made setup before (Timed d x t) next p c b new k refl a
knows_then setup before (Framed d s t) next p c b new k a = nothing_made setup before (Framed d s t) next p c b new k refl a
knows_then setup before (Given (Bind seat mask)) next p c b new k a =
    asked_made setup before (Given (Bind seat mask)) next p c b new k mask (seat_asked setup seat mask (r setup before (Given (Bind seat mask)) next p c).asks) a
knows_then setup before (Given (RequestDevice seat mask)) next p c b new k a =
    asked_made setup before (Given (RequestDevice seat mask)) next p c b new k mask (seat_asked setup seat mask (r setup before (Given (RequestDevice seat mask)) next p c).asks) a
knows_then setup before (Given (Ready d)) next p c b new k a = nothing_made setup before (Given (Ready d)) next p c b new k refl a
knows_then setup before (Given (DeviceClosed d)) next p c b new k a = nothing_made setup before (Given (DeviceClosed d)) next p c b new k refl a
knows_then setup before (Given (DeviceStartEmulating d serial sequence)) next p c b new k a = nothing_made setup before (Given (DeviceStartEmulating d serial sequence)) next p c b new k refl a
knows_then setup before (Given (DeviceStopEmulating d serial)) next p c b new k a = nothing_made setup before (Given (DeviceStopEmulating d serial)) next p c b new k refl a
knows_then setup before (Given Disconnect) next p c b new k a = nothing_made setup before (Given Disconnect) next p c b new k refl a
