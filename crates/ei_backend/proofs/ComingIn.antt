-- A piece that comes.
use Rattle.std.proofs.Common.{◌≡◌, ◌<◌, ◌≤◌, ℕ, zero, suc, ◌+◌, ◌-◌, List, [], ◌∷◌, ◌++◌, take, drop, length, Some, Ok, refl, ap, sym, ◌∙◌, arith}
use Rattle.std.specs.Prelude.{min}
use Rattle.std.proofs.lemmas.List.{length-take-le}
use Rattle.std.proofs.Math.Seq.{take-length}
use Rattle.circular_buffer.specs.Buffer.{Buffer, buffer}
use Rattle.ei_spec.specs.declared.handle.Handle.{Handle}
use Rattle.ei_spec.specs.Piece.{Piece}
use Rattle.ei_backend.specs.declared.outside.Taken.{Taken}
use Rattle.ei_backend.specs.Outside.{SourceView, IsPieceSize, IsTake, answer_at, piece_of, given_with}
use Rattle.ei_backend.specs.declared.outside.LastAnswer.TheVariants as answers
use Rattle.ei_backend.specs.Ring.{grown}
use Rattle.ei_backend.proofs.RingLaws.{grown_room}
use Rattle.ei_backend.specs.Incoming.{Hands, HasNone, Fits, Overflows, IncomingView}

-- ---- what the source says

given_some : (given : List Piece) (n : ℕ) (piece : Piece) → 0 < n → given_with given n piece ≡ given ++ piece ∷ []
given_some given zero piece some = absurd (omega (arith, some))
given_some given (suc n) piece some = refl

given_none : (given : List Piece) (n : ℕ) (piece : Piece) → n ≡ 0 → given_with given n piece ≡ given
given_none given zero piece none = refl
given_none given (suc n) piece none = absurd cc

answer_some : (n : ℕ) → 0 < n → answer_at n ≡ answers.Piece
answer_some zero some = absurd (omega (arith, some))
answer_some (suc n) some = refl

-- a call that handed out a piece of so many bytes
module _ (before after : SourceView) (taken : Taken) (bytes : List ℕ) (handles : List Handle) (takes : IsTake before after (Ok taken) bytes handles) where
  pub hands : 0 < taken.bytes → Hands before (piece_of taken bytes handles) after
  hands some = record {
    told = λ pieces is. let h = takes.pieces pieces is in record { first = h.piece some; left_is = h.left };
    asked = takes.asked;
    last = takes.last ∙ answer_some taken.bytes some;
    given = takes.given ∙ given_some before.given taken.bytes (piece_of taken bytes handles) some;
  }

  pub has_none : taken.bytes ≡ 0 → HasNone before after
  has_none none = record {
    told = λ pieces is. let h = takes.pieces pieces is in let e = h.ends none in (e, h.left ∙ ap (λ (p : List Piece). Some (drop 1 p)) e);
    asked = takes.asked;
    last = takes.last ∙ ap answer_at none;
    given = takes.given ∙ given_none before.given taken.bytes (piece_of taken bytes handles) none;
  }

-- ---- what comes in

pub fits : (unread : List Handle) (taken : Taken) (bytes : List ℕ) (handles : List Handle) → IsPieceSize taken → 0 < taken.bytes →
    taken.bytes ≤ length bytes → taken.handles ≤ length handles → length unread + taken.handles ≤ 4096 → Fits taken.bytes unread (piece_of taken bytes handles)
fits unread taken bytes handles size some le le_handles limit =
    let count : length (take taken.handles handles) ≡ taken.handles = length-take-le taken.handles handles le_handles in
    record {
      bytes = sym (length-take-le taken.bytes bytes le);
      some = some;
      most = size.bytes;
      most_handles = omega (arith, count, size.handles);
      limit = omega (arith, count);
    }

pub overflows : (unread : List Handle) (taken : Taken) (bytes : List ℕ) (handles : List Handle) → IsPieceSize taken → 0 < taken.bytes →
    taken.bytes ≤ length bytes → taken.handles ≤ length handles → 4096 < length unread + taken.handles → Overflows unread (piece_of taken bytes handles)
overflows unread taken bytes handles size some le le_handles limit =
    let count : length (take taken.handles handles) ≡ taken.handles = length-take-le taken.handles handles le_handles in
    let whole : length (take taken.bytes bytes) ≡ taken.bytes = length-take-le taken.bytes bytes le in
    record {
      some = omega (arith, whole);
      most = omega (arith, whole, size.bytes);
      most_handles = omega (arith, count, size.handles);
      limit = omega (arith, count);
    }

pub same_unread : (a b : List ℕ) (h k : List Handle) (m n : ℕ) → a ≡ b → h ≡ k → m ≡ n → ◌≡◌ {A = IncomingView} (record { bytes = a; handles = h; capacity = m }) (record { bytes = b; handles = k; capacity = n })
same_unread a b h k m n e f s = rw (e, f, s) refl

-- all of a slice is put behind what a ring holds, where there is room
pub filled : {X : Type 0} (old new : Buffer X) (xs : List X) (n : ℕ) → n ≡ min (length xs) (old.capacity - length old.items) → new ≡ buffer (old.items ++ take n xs) old.capacity →
    length old.items + length xs ≤ old.capacity → new ≡ buffer (old.items ++ xs) old.capacity
filled old new xs n count is le =
    let whole : n ≡ length xs = omega (arith, count) in
    is ∙ ap (λ k. buffer (old.items ++ take k xs) old.capacity) whole ∙ ap (λ ys. buffer (old.items ++ ys) old.capacity) (take-length xs)

-- a piece is put behind what is unread, once the ring has room
pub came : (bytes : List ℕ) (capacity : ℕ) (ring new : Buffer ℕ) (xs : List ℕ) (n : ℕ) → ring ≡ buffer bytes (grown (length bytes) capacity) → n ≡ min (length xs) (ring.capacity - length ring.items) →
    new ≡ buffer (ring.items ++ take n xs) ring.capacity → length xs ≤ 65536 → new ≡ buffer (bytes ++ xs) (grown (length bytes) capacity)
came bytes capacity ring new xs n roomy count is few =
    let items : ring.items ≡ bytes = ap (λ (b : Buffer ℕ). b.items) roomy in
    let holds : ring.capacity ≡ grown (length bytes) capacity = ap (λ (b : Buffer ℕ). b.capacity) roomy in
    let room : length bytes + 65536 ≤ ring.capacity = omega (arith, grown_room (length bytes) capacity, holds) in
    filled ring new xs n count is (omega (arith, ap (λ (l : List ℕ). length l) items)) ∙ ap (λ (b : Buffer ℕ). buffer (b.items ++ xs) b.capacity) roomy
