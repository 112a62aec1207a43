-- A record that is played so far, and with one more item.
use Rattle.std.proofs.Common.{◌≡◌, ℕ, ◌+◌, ◌≤◌, ◌<◌, ◌^◌, Bool, true, false, not, List, [], ◌∷◌, length, Option, Some, None, refl, sym, ap, subst, ◌∙◌, arith}
use Rattle.std.specs.Prelude.{◌||◌}
use Rattle.std.proofs.lemmas.List.{append-nil}
use Rattle.ei_spec.specs.Message.{Raw, IsLawful, Short, front}
use Rattle.ei_spec.specs.History.{each, last_said, joined, total}
use Rattle.ei_spec.specs.Groups.{Timed, Framed, Plain as Given, timed}
use Rattle.ei_spec.specs.Stream.{Waiting, Ended, reading, stream_of, AreOpen, StopsSo, IsReading}
use Rattle.ei_spec.proofs.OneReading.{only_reading}
use Rattle.ei_session.specs.Setup.{Setup, seat_id}
use Rattle.ei_session.specs.Refusals.{verdict, judge}
use Rattle.ei_session.specs.Requests.{Request, Plain, Bind, RequestDevice, Ready, DeviceClosed, DeviceStartEmulating, DeviceStopEmulating, Disconnect, framed}
use Rattle.ei_session.specs.Served.{reading_of}
use Rattle.ei_session.specs.ByMeaning.{disconnects as means_end}
use Rattle.ei_session.proofs.NextLaws.{own_below, own_connected}
use Rattle.ei_record.specs.Replayable.{disconnects, mask_before, next_device, touch_is_down, puts_touch, is_wrong}
use Rattle.ei_playing.specs.Playing.{IsBorne, played, shaken, messages}
use Rattle.ei_playing.proofs.Asking.{asked_by}
use Rattle.ei_playing.proofs.Sizes.{played_lawful}
use Rattle.ei_playing.proofs.Early.{shaken_on, shaken_next, shaken_seat, shaken_down, shaken_puts, shaken_group, shaken_framed, shaken_open}
use Rattle.ei_playing.proofs.ItemLaws.{There, ids_low}
use Rattle.ei_playing.proofs.Wants.{Follows, IsRight, right_so, right_short, input_stands, target_of, Meets, meets}
use Rattle.ei_playing.proofs.Keeping.{asking_of, item_so, judged, follows_on}
use Rattle.ei_playing.proofs.Groups.{Waits, AsksPlain, input_waits, frame_waits, plain_waits}

-- the items so far, none of which ended the connection, were played, with this item behind them
pub record Played (setup : Setup) (before : List Request) (next : Option Request) : Type 0 where
  pub follows : Follows before (messages before)
  pub accepts : AreOpen (judge setup) (messages before)
  pub waits : Waits setup before (messages before) next

-- ---- none yet

messages_none : messages [] ≡ shaken
unfolding messages each
messages_none = refl

no_mask : (d : ℕ) → mask_before [] d ≡ None
unfolding mask_before last_said
no_mask d = refl

no_device : (d mask : ℕ) → There [] d mask → ⊥
no_device d mask t = let q : None ≡ Some mask = sym (no_mask d) ∙ t.made in absurd cc

no_touch : (d t : ℕ) → touch_is_down [] d t ≡ false
unfolding touch_is_down last_said
no_touch d t = refl

none_put : (d : ℕ) → joined (puts_touch d) [] ≡ []
unfolding joined
none_put d = refl

first_device : next_device [] ≡ seat_id + 1
unfolding next_device total
first_device = refl

follows_none : Follows [] shaken
follows_none = record {
  on = shaken_on;
  versions = λ k. refl;
  next = shaken_next ∙ sym first_device;
  seat = shaken_seat;
  devices = λ d mask t. absurd (no_device d mask t);
  interfaces = λ d mask k i t at. absurd (no_device d mask t);
  down = λ d t. shaken_down d t ∙ sym (no_touch d t);
  put = λ d. shaken_puts d ∙ sym (none_put d);
}

waits_none : (setup : Setup) (next : Option Request) → Waits setup [] shaken next
unfolding timed
waits_none setup next = record {
  device = 0;
  time = 0;
  inputs = [];
  group_is = shaken_group setup 0;
  others = λ d h. shaken_group setup d;
  given = λ readings. append-nil (framed setup readings shaken) ∙ shaken_framed setup readings;
  newest = λ d h. absurd cc;
  fits = λ some. absurd (some refl);
}

pub played_none : (setup : Setup) (next : Option Request) → Played setup [] next
played_none setup next = record {
  follows = subst (Follows []) (sym messages_none) follows_none;
  accepts = subst (AreOpen (judge setup)) (sym messages_none) (shaken_open setup);
  waits = subst (λ (l : List Raw). Waits setup [] l next) (sym messages_none) (waits_none setup next);
}

-- ---- one more

pub messages_more : (before : List Request) (i : Request) → messages (i ∷ before) ≡ played before i ∷ messages before
unfolding messages each
messages_more before i = refl

not_no : (b : Bool) → not b ≡ false → b ≡ true
not_no true e = refl
not_no false e = absurd cc

plain_asks : (y : Plain) → AsksPlain (asking_of (Given y)) y
plain_asks (Bind seat mask) = refl
plain_asks (RequestDevice seat mask) = refl
plain_asks (Ready d) = refl
plain_asks (DeviceClosed d) = refl
plain_asks (DeviceStartEmulating d serial sequence) = refl
plain_asks (DeviceStopEmulating d serial) = refl
plain_asks Disconnect = refl

waits_on : (setup : Setup) (before : List Request) (i : Request) (next : Option Request) (past : List Raw) → Follows before past → IsRight setup before i next → Meets before i past → Waits setup before past (Some i) → Waits setup (i ∷ before) (played before i ∷ past) next
waits_on setup before (Timed d x t) next past f r w waits = input_waits setup before past (played before (Timed d x t)) d t x next waits (item_so setup before (Timed d x t) next past f r w) (input_stands before d x t next r.stands).goes
waits_on setup before (Framed d s t) next past f r w waits = frame_waits setup before past (played before (Framed d s t)) d s t next waits (item_so setup before (Framed d s t) next past f r w) (not_no _ r.stands)
waits_on setup before (Given y) next past f r w waits = plain_waits setup before past (played before (Given y)) (asking_of (Given y)) y next waits (item_so setup before (Given y) next past f r w) (plain_asks y)

-- only a disconnect ends the connection
ends_so : (i : Request) (b : Bool) → disconnects i ≡ b → means_end (Some (asked_by i)) ≡ b
ends_so (Timed d x t) b e = e
ends_so (Framed d s t) b e = e
ends_so (Given (Bind seat mask)) b e = e
ends_so (Given (RequestDevice seat mask)) b e = e
ends_so (Given (Ready d)) b e = e
ends_so (Given (DeviceClosed d)) b e = e
ends_so (Given (DeviceStartEmulating d serial sequence)) b e = e
ends_so (Given (DeviceStopEmulating d serial)) b e = e
ends_so (Given Disconnect) b e = e

module _ (setup : Setup) (before : List Request) (i : Request) (next : Option Request) (p : Played setup before (Some i)) (right : is_wrong setup before i next ≡ false) (borne : IsBorne i) (few : length before ≤ 4294967000) where
  r : IsRight setup before i next
  r = right_so setup before i next right

  w : Meets before i (messages before)
  w = meets setup before (messages before) i next p.follows r borne

  id_low : (played before i).id < 2 ^ 64
  id_low =
      let below = own_below (messages before) (played before i).id (target_of i) w.there in
      let own = own_connected (messages before) p.follows.on in
      let same = p.follows.next in
      let bound = ids_low before in
      omega (arith, below, own, same, bound, few)

  pub lawful : IsLawful (played before i)
  lawful = played_lawful before i (right_short setup before i next r) id_low

  pub waits_then : Waits setup (i ∷ before) (messages (i ∷ before)) next
  waits_then = subst (λ (l : List Raw). Waits setup (i ∷ before) l next) (sym (messages_more before i)) (waits_on setup before i next (messages before) p.follows r w p.waits)

  verdict_is : (b : Bool) → disconnects i ≡ b → judge setup (messages before) (played before i) ≡ verdict None (b || false)
  verdict_is b e = judged setup before i next (messages before) p.follows r w few ∙ ap (λ (x : Bool). verdict None (x || false)) (ends_so i b e)

  pub played_more : disconnects i ≡ false → Played setup (i ∷ before) next
  unfolding AreOpen
  played_more e = record {
    follows = subst (Follows (i ∷ before)) (sym (messages_more before i)) (follows_on setup before i next (messages before) p.follows r w);
    accepts = subst (AreOpen (judge setup)) (sym (messages_more before i)) (lawful, verdict_is false e, p.accepts);
    waits = waits_then;
  }

  -- the last item ends the connection
  pub ends_reading : disconnects i ≡ true → IsReading (judge setup) (stream_of (messages (i ∷ before))) (reading (messages (i ∷ before)) [] Ended)
  unfolding StopsSo
  ends_reading e = record {
    bytes = sym (append-nil (stream_of (messages (i ∷ before))));
    stops = subst (λ (l : List Raw). StopsSo (judge setup) Ended l []) (sym (messages_more before i)) (lawful, verdict_is true e, p.accepts);
  }

-- ---- what is read

no_front : front [] ≡ Short
unfolding front
no_front = refl

pub reads_so : (setup : Setup) (before : List Request) (next : Option Request) → Played setup before next → reading_of setup (stream_of (messages before)) ≡ reading (messages before) [] Waiting
unfolding reading_of StopsSo
reads_so setup before next p = only_reading (judge setup) (stream_of (messages before)) (reading (messages before) [] Waiting) (record {
  bytes = sym (append-nil (stream_of (messages before)));
  stops = (p.accepts, no_front);
})

pub ends_so_read : (setup : Setup) (before : List Request) → IsReading (judge setup) (stream_of (messages before)) (reading (messages before) [] Ended) → reading_of setup (stream_of (messages before)) ≡ reading (messages before) [] Ended
unfolding reading_of
ends_so_read setup before h = only_reading (judge setup) (stream_of (messages before)) (reading (messages before) [] Ended) h
