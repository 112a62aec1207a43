-- What is left to be carried to a side, where bytes go or come.
use Rattle.std.proofs.Common.{◌≡◌, ℕ, ◌-◌, ◌<◌, ◌≤◌, false, List, [], ◌∷◌, length, Ok, refl, ap, ◌∙◌, arith}
use Rattle.std.proofs.lemmas.List.{length-drop}
use Rattle.ei_spec.specs.Piece.{Piece}
use Rattle.ei_linked.specs.declared.side.Side.{Side}
use Rattle.ei_linked.specs.declared.side.Side.TheVariants as side
use Rattle.ei_linked.specs.Stored.{StoredEnd}
use Rattle.ei_linked.specs.Delivered.{delivered_end, rest_of}
use Rattle.ei_linked.specs.TwoEnds.{WorldView, other_side, end_of, stored_of, waiting_for, flushed_world, delivered_world, DeliversAt, AllDeliveredAt}
use Rattle.ei_promises.specs.Keeping.{SameLists}
use Rattle.ei_promises.proofs.Resting.{deliver_same}
use Rattle.ei_emit.specs.Carried.{NoneUnsent, left_for}

-- ---- bytes that come

rest_length : (n : ℕ) (bytes : List ℕ) (link : Piece) → link.bytes ≡ bytes → length (rest_of n bytes link).bytes ≡ length bytes - n
rest_length n [] link e = let l = ap length e in omega (arith, l)
rest_length n (b ∷ bytes) link e = length-drop n link.bytes ∙ ap (λ (l : List ℕ). length l - n) e

still_open : (n : ℕ) (bytes : List ℕ) (link : Piece) (x : StoredEnd) → (delivered_end n bytes link x).backend.closed ≡ x.backend.closed
still_open n [] link x = refl
still_open n (b ∷ bytes) link x = refl

none_left : (bytes : List ℕ) → length bytes ≡ 0 → bytes ≡ []
none_left [] e = refl
none_left (b ∷ bytes) e = absurd (omega (arith, e))

-- what waits for the side once so many bytes were delivered
waits_less : (s : Side) (n : ℕ) (w : WorldView) → length (waiting_for s (delivered_world s n w)).bytes ≡ length (waiting_for s w).bytes - n
waits_less side.Client n w = rest_length n w.to_client.bytes w.to_client refl
waits_less side.Server n w = rest_length n w.to_server.bytes w.to_server refl

opened : (s : Side) (n : ℕ) (w : WorldView) → (stored_of s (delivered_world s n w)).backend.closed ≡ (stored_of s w).backend.closed
opened side.Client n w = still_open n w.to_client.bytes w.to_client w.client
opened side.Server n w = still_open n w.to_server.bytes w.to_server w.server

across : (s : Side) (n : ℕ) (w : WorldView) → stored_of (other_side s) (delivered_world s n w) ≡ stored_of (other_side s) w
across side.Client n w = refl
across side.Server n w = refl

still_whole : (s : Side) (n : ℕ) (w : WorldView) → (delivered_world s n w).spent ≡ w.spent
still_whole side.Client n w = refl
still_whole side.Server n w = refl

-- how many messages a side hasn't taken rests on the lists alone
untaken : (s : Side) (w v : WorldView) → SameLists w v → length (end_of (other_side s) v).sent - length (end_of s v).taken ≡ length (end_of (other_side s) w).sent - length (end_of s w).taken
untaken side.Client w v h = rw (h.server_sent, h.client_taken) refl
untaken side.Server w v h = rw (h.client_sent, h.server_taken) refl

module _ (s : Side) (k : ℕ) (w v : WorldView) (d : DeliversAt s 1536 (Ok k) w v) where
  -- some came
  pub came_less : (0 < k) → left_for s v < left_for s w
  came_less some =
      let waits = ap (λ (x : WorldView). length (waiting_for s x).bytes) d.3 ∙ waits_less s 1536 w in
      let same = untaken s w v (deliver_same s 1536 (Ok k) w v d) in
      let count = d.1 in
      omega (arith, some, waits, same, count)

  -- however many came
  pub came_le : left_for s v ≤ left_for s w
  came_le =
      let waits = ap (λ (x : WorldView). length (waiting_for s x).bytes) d.3 ∙ waits_less s 1536 w in
      let same = untaken s w v (deliver_same s 1536 (Ok k) w v d) in
      omega (arith, waits, same)

  pub none_unsent : NoneUnsent (other_side s) w → NoneUnsent (other_side s) v
  none_unsent none = ap (λ (x : WorldView). (stored_of (other_side s) x).backend.unsent) d.3 ∙ ap (λ (x : StoredEnd). x.backend.unsent) (across s 1536 w) ∙ none

  pub whole_then : w.spent ≡ false → v.spent ≡ false
  whole_then whole = ap (λ (x : WorldView). x.spent) d.3 ∙ still_whole s 1536 w ∙ whole

  -- none came, so that nothing is on its way
  pub all_there : k ≡ 0 → NoneUnsent (other_side s) w → AllDeliveredAt s v
  all_there none unsent =
      let count = d.1 in
      let waits = ap (λ (x : WorldView). length (waiting_for s x).bytes) d.3 ∙ waits_less s 1536 w in
      record {
        opened = ap (λ (x : WorldView). (stored_of s x).backend.closed) d.3 ∙ opened s 1536 w ∙ d.0;
        none = none_left (waiting_for s v).bytes (omega (arith, none, count, waits));
        unsent = none_unsent unsent;
      }

-- ---- bytes that go

pub flushed_none : (s : Side) (w : WorldView) → NoneUnsent (other_side s) (flushed_world (other_side s) w)
flushed_none side.Client w = refl
flushed_none side.Server w = refl

pub flushed_whole : (s : Side) (w : WorldView) → (flushed_world (other_side s) w).spent ≡ w.spent
flushed_whole side.Client w = refl
flushed_whole side.Server w = refl
