-- What a read of one piece did, and what a delivery did.
use Rattle.std.proofs.Common.{◌≡◌, ℕ, ◌+◌, ◌<◌, ◌≤◌, true, false, inl, inr, List, [], ◌∷◌, length, take, drop, Some, Result, Ok, Err, refl, sym, ap, subst, ◌∙◌, arith}
use Rattle.std.specs.Prelude.{IsErrOf, min}
use Rattle.std.proofs.lemmas.Option.{same_Some}
use Rattle.std.proofs.lemmas.Bool.{cases_lt}
use Rattle.std.proofs.lemmas.List.{take_all, drop_all, length-take}
use Rattle.ei_spec.specs.Piece.{Piece}
use Rattle.ei_wire.specs.declared.error.ReadError.{ReadError}
use Rattle.ei_wire.specs.declared.error.ReadError.TheVariants as read_error
use Rattle.ei_backend.specs.Backend.{BackendView, ReadsOn, with_piece, with_ring, closed_of}
use Rattle.ei_backend.specs.Outside.{SourceView}
use Rattle.ei_spec.specs.declared.limits.TheConstants.{MOST_UNREAD_HANDLES}
use Rattle.ei_linked.specs.Stored.{StoredEnd, with_endpoint}
use Rattle.ei_spec.specs.declared.handle.Handle.{Handle}
use Rattle.ei_ends.specs.Steps.{handed, left_over}
use Rattle.ei_linked.specs.Delivered.{TakesIn, Delivers, moves, delivered_end, rest_of, OverflowsAt}

pub read_piece : (p : Piece) (result : Result ℕ ReadError) (before after : SourceView) (old new : BackendView) → before.left ≡ Some (p ∷ []) → ReadsOn before after result old new → (IsErrOf result read_error.ReadFault → ⊥) → TakesIn p result old new
read_piece p (Ok n) before after old new told h never =
    let same : p ≡ h.0 = same_Some p h.0 (h.1.told (p ∷ []) told).first in
    let few : length old.handles + length h.0.handles ≤ MOST_UNREAD_HANDLES = h.2.limit in (
      h.2.bytes ∙ ap (λ (q : Piece). length q.bytes) (sym same),
      subst (λ (q : Piece). length old.handles + length q.handles ≤ MOST_UNREAD_HANDLES) (sym same) few,
      h.3 ∙ ap (λ (q : Piece). with_piece q old) (sym same),
    )
read_piece p (Err read_error.HandleLimit) before after old new told h never =
    let same : p ≡ h.0 = same_Some p h.0 (h.1.told (p ∷ []) told).first in
    let many : MOST_UNREAD_HANDLES < length old.handles + length h.0.handles = h.2.limit in
    (subst (λ (q : Piece). MOST_UNREAD_HANDLES < length old.handles + length q.handles) (sym same) many, h.3)
read_piece p (Err read_error.UnexpectedEof) before after old new told h never = let none = (h.0.told (p ∷ []) told).0 in absurd cc
read_piece p (Err read_error.ReadFault) before after old new told h never = absurd (never refl)
read_piece p (Err read_error.NoMemory) before after old new told h never = h.1

min_is : {A : Type 0} (xs : List A) (c n : ℕ) → c ≡ min (length xs) n → take c xs ≡ take n xs
min_is xs c n e = elim (cases_lt (length xs) n) [
  | inl lt ↦ take_all c xs (omega (arith, e, lt)) ∙ sym (take_all n xs (omega (arith, lt)))
  | inr le ↦ let same : c ≡ n = omega (arith, e, le) in ap (λ (i : ℕ). take i xs) same
]

min_left : {A : Type 0} (xs : List A) (c n : ℕ) → c ≡ min (length xs) n → drop c xs ≡ drop n xs
min_left xs c n e = elim (cases_lt (length xs) n) [
  | inl lt ↦ drop_all c xs (omega (arith, e, lt)) ∙ sym (drop_all n xs (omega (arith, lt)))
  | inr le ↦ let same : c ≡ n = omega (arith, e, le) in ap (λ (i : ℕ). drop i xs) same
]

piece : List ℕ → List Handle → Piece
piece bytes handles = record { bytes = bytes; handles = handles }

pieces : (a b : List ℕ) (h g : List Handle) → a ≡ b → h ≡ g → piece a h ≡ piece b g
pieces a b h g e f = ap (λ (x : List ℕ). piece x h) e ∙ ap (λ (x : List Handle). piece b x) f

with_end : (x : StoredEnd) (b c : BackendView) → b ≡ c → with_endpoint b x ≡ with_endpoint c x
with_end x b c e = ap (λ (y : BackendView). with_endpoint y x) e

-- what was delivered, where anything waits
some_end : (bytes : List ℕ) (n : ℕ) (x y : StoredEnd) (link : Piece) → (length bytes ≡ 0 → ⊥) → y ≡ with_endpoint (with_piece (handed n link) x.backend) x → y ≡ delivered_end n bytes link x
some_end [] n x y link any e = absurd (any refl)
some_end (b ∷ bytes) n x y link any e = e

some_rest : (bytes : List ℕ) (n : ℕ) (link left : Piece) → (length bytes ≡ 0 → ⊥) → left ≡ left_over n link → left ≡ rest_of n bytes link
some_rest [] n link left any e = absurd (any refl)
some_rest (b ∷ bytes) n link left any e = e

overflows : (bytes : List ℕ) (n : ℕ) (link : Piece) (b : BackendView) → (length bytes ≡ 0 → ⊥) → MOST_UNREAD_HANDLES < length b.handles + length (handed n link).handles → OverflowsAt n bytes link b
overflows [] n link b any h = absurd (any refl)
overflows (x ∷ bytes) n link b any h = h

fits : (bytes : List ℕ) (n : ℕ) (link : Piece) (b : BackendView) → length b.handles + length (handed n link).handles ≤ MOST_UNREAD_HANDLES → OverflowsAt n bytes link b → ⊥
fits [] n link b few h = h
fits (x ∷ bytes) n link b few h = omega (arith, few, h)

pub delivered_by : (result : Result ℕ ReadError) (x : StoredEnd) (b : BackendView) (link left : Piece) (count k n : ℕ) → count ≡ min (length link.bytes) n → k ≡ min (length link.handles) 64 → (length link.bytes ≡ 0 → ⊥) → x.backend.closed ≡ false →
    TakesIn (record { bytes = take count link.bytes; handles = take k link.handles }) result x.backend b →
    (moves result ≡ true → left ≡ record { bytes = drop count link.bytes; handles = drop k link.handles }) → (moves result ≡ false → left ≡ link) →
    Delivers n result x link (with_endpoint b x) left
unfolding piece
delivered_by (Ok m) x b link left count k n c-is k-is any opened h went stays =
    let same : piece (take count link.bytes) (take k link.handles) ≡ handed n link = pieces (take count link.bytes) (take n link.bytes) (take k link.handles) (take 64 link.handles) (min_is link.bytes count n c-is) (min_is link.handles k 64 k-is) in
    let rest : piece (drop count link.bytes) (drop k link.handles) ≡ left_over n link = pieces (drop count link.bytes) (drop n link.bytes) (drop k link.handles) (drop 64 link.handles) (min_left link.bytes count n c-is) (min_left link.handles k 64 k-is) in
    let size = length-take count link.bytes in
    let m-is = h.0 in
    let few : length x.backend.handles + length (take 64 link.handles) ≤ MOST_UNREAD_HANDLES = subst (λ (l : List Handle). length x.backend.handles + length l ≤ MOST_UNREAD_HANDLES) (min_is link.handles k 64 k-is) h.1 in (
      opened,
      omega (arith, m-is, size, c-is),
      fits link.bytes n link x.backend few,
      some_end link.bytes n x (with_endpoint b x) link any
          (with_end x b (with_piece (piece (take count link.bytes) (take k link.handles)) x.backend) h.2 ∙ ap (λ (q : Piece). with_endpoint (with_piece q x.backend) x) same),
      some_rest link.bytes n link left any (went refl ∙ rest),
    )
delivered_by (Err read_error.HandleLimit) x b link left count k n c-is k-is any opened h went stays =
    let rest : piece (drop count link.bytes) (drop k link.handles) ≡ left_over n link = pieces (drop count link.bytes) (drop n link.bytes) (drop k link.handles) (drop 64 link.handles) (min_left link.bytes count n c-is) (min_left link.handles k 64 k-is) in (
      opened,
      overflows link.bytes n link x.backend any (subst (λ (l : List Handle). MOST_UNREAD_HANDLES < length x.backend.handles + length l) (min_is link.handles k 64 k-is) h.0),
      with_end x b (closed_of (with_ring x.backend)) h.1,
      went refl ∙ rest,
    )
delivered_by (Err read_error.NoMemory) x b link left count k n c-is k-is any opened h went stays = (opened, with_end x b x.backend h, stays refl)
delivered_by (Err read_error.UnexpectedEof) x b link left count k n c-is k-is any opened h went stays = absurd h
delivered_by (Err read_error.ReadFault) x b link left count k n c-is k-is any opened h went stays = absurd h
