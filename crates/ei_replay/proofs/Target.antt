-- Where an item that can come next is sent.
use Rattle.std.proofs.Common.{◌≡◌, ℕ, ◌<◌, Bool, true, false, not, List, Option, Some, None, refl, sym, ap, subst, ◌∙◌, arith}
use Rattle.std.specs.Prelude.{unwrap_or}
use Rattle.ei_keyed.specs.Keyed.{keyed}
use Rattle.ei_spec.specs.Groups.{Timed, Framed, Plain as Given}
use Rattle.ei_spec.specs.History.{occurs}
use Rattle.ei_backend.specs.Table.{found}
use Rattle.ei_session.specs.Setup.{Setup}
use Rattle.ei_session.specs.Requests.{Request, Bind, RequestDevice, Ready, DeviceClosed, DeviceStartEmulating, DeviceStopEmulating, Disconnect}
use Rattle.ei_record.specs.Replayable.{capability_for, closes_device}
use Rattle.ei_playing.specs.Playing.{interface_id, made_mask, target_id, call_to, call_of, messages}
use Rattle.ei_playing.proofs.ItemLaws.{There, is_there_so, ids_low}
use Rattle.ei_playing.proofs.Wants.{IsRight, right_so, target, target_of, same_interface}
use Rattle.ei_player.specs.Objects.{IsAt, IsOf}
use Rattle.ei_replay.specs.declared.player.Player.{Player}
use Rattle.ei_replay.specs.Made.{MadeView}
use Rattle.ei_replay.specs.Played.{if_open, open_device, IsMade}
use Rattle.ei_replay.specs.Steps.{step_of}
use Rattle.ei_replay.specs.Sending.{mask_in, target_at, HasIdsBehind}
use Rattle.ei_replay.specs.Player.{ComesNext}
use Rattle.ei_replay.proofs.Goes.{mask_below}

not_no : (b : Bool) → not b ≡ false → b ≡ true
not_no true e = refl
not_no false e = absurd cc

-- a call goes to the object that it was made for
pub id_is : (id : ℕ) (item : Request) → (call_to id item).id ≡ id
id_is id (Timed d x t) = refl
id_is id (Framed d s t) = refl
id_is id (Given (Bind seat mask)) = refl
id_is id (Given (RequestDevice seat mask)) = refl
id_is id (Given (Ready d)) = refl
id_is id (Given (DeviceClosed d)) = refl
id_is id (Given (DeviceStartEmulating d serial sequence)) = refl
id_is id (Given (DeviceStopEmulating d serial)) = refl
id_is id (Given Disconnect) = refl

-- the mask of a device that is there
mask_so : (before : List Request) (d mask : ℕ) (o : Option MadeView) → IsMade before d (Some mask) o → occurs (closes_device d) before ≡ false → mask_in (if_open o) ≡ mask
mask_so before d mask None m e = absurd m
mask_so before d mask (Some x) m e = let c : x.closed ≡ false = m.1 ∙ e in rw c (m.0)

module _ (setup : Setup) (before : List Request) (item : Request) (next : Option Request) (p : Player) (c : ComesNext setup before item next p) where
  right : IsRight setup before item next
  right = right_so setup before item next c.right

  -- the ids of devices leave many behind them
  device_low : (d : ℕ) (mask : ℕ) → There before d mask → d < 18446744073709551607
  device_low d mask t =
      let below = mask_below before d mask t.made in
      let bound = ids_low before in
      let few = c.few in
      omega (arith, below, bound, few)

  masks : (d mask : ℕ) → There before d mask → mask_in (open_device p.played d) ≡ made_mask before d
  masks d mask t =
      let low = device_low d mask t in
      let made = subst (λ (o : Option ℕ). IsMade before d o (keyed d p.played.devices.items)) t.made (c.so_far.sums.devices d (omega (arith, low))) in
      mask_so before d mask (keyed d p.played.devices.items) made t.open_yet
      ∙ sym (ap (λ (o : Option ℕ). unwrap_or o 0) t.made)

-- by the item
target_by : (setup : Setup) (before : List Request) (item : Request) (next : Option Request) (p : Player) → ComesNext setup before item next p → target_at p.played (step_of item) ≡ target_id before item
target_by setup before (Timed d x t) next p c =
    let r = right setup before (Timed d x t) next p c in
    let there = is_there_so before d (not_no _ r.names) in
    ap (λ (mask : ℕ). interface_id d mask (capability_for x)) (masks setup before (Timed d x t) next p c d there.mask there.there)
target_by setup before (Framed d s t) next p c = refl
target_by setup before (Given (Bind seat mask)) next p c = refl
target_by setup before (Given (RequestDevice seat mask)) next p c = refl
target_by setup before (Given (Ready d)) next p c = refl
target_by setup before (Given (DeviceClosed d)) next p c = refl
target_by setup before (Given (DeviceStartEmulating d serial sequence)) next p c = refl
target_by setup before (Given (DeviceStopEmulating d serial)) next p c = refl
target_by setup before (Given Disconnect) next p c = refl

ids_by : (setup : Setup) (before : List Request) (item : Request) (next : Option Request) (p : Player) → ComesNext setup before item next p → HasIdsBehind (step_of item)
ids_by setup before (Timed d x t) next p c =
    let r = right setup before (Timed d x t) next p c in
    let there = is_there_so before d (not_no _ r.names) in
    device_low setup before (Timed d x t) next p c d there.mask there.there
ids_by setup before (Framed d s t) next p c = tt
ids_by setup before (Given (Bind seat mask)) next p c = tt
ids_by setup before (Given (RequestDevice seat mask)) next p c = tt
ids_by setup before (Given (Ready d)) next p c = tt
ids_by setup before (Given (DeviceClosed d)) next p c = tt
ids_by setup before (Given (DeviceStartEmulating d serial sequence)) next p c = tt
ids_by setup before (Given (DeviceStopEmulating d serial)) next p c = tt
ids_by setup before (Given Disconnect) next p c = tt

module _ (setup : Setup) (before : List Request) (item : Request) (next : Option Request) (p : Player) (c : ComesNext setup before item next p) where
  pub ids_behind : HasIdsBehind (step_of item)
  ids_behind = ids_by setup before item next p c

  pub target_so : target_at p.played (step_of item) ≡ target_id before item
  target_so = target_by setup before item next p c

  -- the client has the object that it is sent to
  pub has_target : IsAt (call_of before item).interface (call_of before item).id (found p.client.table (call_of before item).id)
  has_target =
      let r = right_so setup before item next c.right in
      let there = target setup before (messages before) c.waits.follows item next r in
      c.so_far.knows.objects (call_of before item).id (call_of before item).interface
      (subst (IsOf (call_of before item).interface) {x = Some (target_of item)} (sym there) (sym (same_interface before item)))

  -- at the id that the code looks up
  pub at_target : (id : ℕ) → id ≡ target_at p.played (step_of item) → IsAt (call_to id item).interface id (found p.client.table id)
  at_target id e =
      subst (λ (n : ℕ). IsAt (call_to n item).interface n (found p.client.table n)) (sym (e ∙ target_so))
      (subst (λ (n : ℕ). IsAt (call_to (target_id before item) item).interface n (found p.client.table n)) (id_is (target_id before item) item) has_target)
