-- Bytes and handles that go out, a part after another.
use Rattle.std.proofs.Common.{◌≡◌, ◌<◌, ◌≤◌, ℕ, ◌+◌, zero, suc, List, [], ◌∷◌, ◌++◌, take, drop, length}
use Rattle.std.proofs.Common.{Option, Some, Result, Ok, Err, OnOk, OnErr, refl, ap, sym, ◌∙◌, append_assoc, arith, length-append}
use Rattle.std.proofs.lemmas.List.{append-nil}
use Rattle.std.proofs.lemmas.List.Elements.{All-nil, All-cons, All-append}
use Rattle.std.proofs.Math.Seq.{take-add}
use Rattle.ei_spec.specs.declared.handle.Handle.{Handle}
use Rattle.ei_spec.specs.Piece.{Piece}
use Rattle.ei_spec.specs.Message.{Raw, bytes_of, header, le4, le8, size}
use Rattle.ei_spec.proofs.Numbers.{len4, len8}
use Rattle.ei_wire.specs.declared.error.FlushError.{FlushError}
use Rattle.ei_backend.specs.Outside.{with_more}
use Rattle.ei_backend.specs.Outgoing.{HasBytes, beside, kept_beside, sent_front, unsent_after, IsLeftOf, PutsOf, IsPutOf, StopsAfter, GoesOut}

pub same_piece : (a b : List ℕ) (h k : List Handle) → a ≡ b → h ≡ k → ◌≡◌ {A = Piece} (record { bytes = a; handles = h }) (record { bytes = b; handles = k })
same_piece a b h k e f = rw (e, f) refl

beside_some : (n : ℕ) (hs : List Handle) → 0 < n → beside n hs ≡ hs
beside_some zero hs lt = absurd (omega arith)
beside_some (suc n) hs lt = refl

beside_more : (i n : ℕ) (hs : List Handle) → 0 < n → beside i hs ++ kept_beside i hs ≡ beside (i + n) hs
beside_more zero n hs lt = sym (beside_some (0 + n) hs (omega arith))
beside_more (suc i) n hs lt = append-nil hs ∙ sym (beside_some (suc i + n) hs (omega arith))

-- a sink that has the first i bytes takes n more
pub put_on : (held : Piece) (xs ys : List ℕ) (hs ks : List Handle) (i n : ℕ) → ys ≡ drop i xs → ks ≡ kept_beside i hs → 0 < n →
    with_more (take n ys) ks (with_more (take i xs) (beside i hs) held) ≡ with_more (take (i + n) xs) (beside (i + n) hs) held
put_on held xs ys hs ks i n rest left lt =
    let bytes : (held.bytes ++ take i xs) ++ take n ys ≡ held.bytes ++ take (i + n) xs =
    append_assoc held.bytes (take i xs) (take n ys) ∙ ap (λ (l : List ℕ). held.bytes ++ l) (ap (λ (l : List ℕ). take i xs ++ take n l) rest ∙ sym (take-add i n xs)) in
    let handles : (held.handles ++ beside i hs) ++ ks ≡ held.handles ++ beside (i + n) hs =
    append_assoc held.handles (beside i hs) ks ∙ ap (λ (l : List Handle). held.handles ++ l) (ap (λ (l : List Handle). beside i hs ++ l) left ∙ beside_more i n hs lt) in
    same_piece _ _ _ _ bytes handles

-- no put was made
pub none_put : (waiting : Piece) (puts : Option (List Piece)) → IsPutOf waiting puts puts
none_put waiting told puts is = record { more = []; grown = is ∙ ap (λ (l : List Piece). Some l) (sym (append-nil puts)); each = All-nil (IsLeftOf waiting) }

-- one more put was made, of what was left
pub put_more : (waiting put : Piece) (n : ℕ) (before now after : Option (List Piece)) → n < length waiting.bytes → put ≡ unsent_after n waiting → IsPutOf waiting before now →
    ((puts : List Piece) → now ≡ Some puts → after ≡ Some (puts ++ put ∷ [])) → IsPutOf waiting before after
put_more waiting put n before now after some is were grown puts told =
    let h = were puts told in record {
      more = h.more ++ put ∷ [];
      grown = grown (puts ++ h.more) h.grown ∙ ap (λ (l : List Piece). Some l) (append_assoc puts h.more (put ∷ []));
      each = All-append (IsLeftOf waiting) h.more (put ∷ []) h.each (All-cons (IsLeftOf waiting) put [] (record { n = n; some = some; is = is }) (All-nil (IsLeftOf waiting)));
    }

drop_whole : (l : List ℕ) → drop (length l) l ≡ []
drop_whole [] = refl
drop_whole (x ∷ l) = drop_whole l

kept_whole : (bytes : List ℕ) (handles : List Handle) → HasBytes bytes handles → kept_beside (length bytes) handles ≡ []
kept_whole [] handles has = has refl
kept_whole (b ∷ bytes) handles has = refl

beside_whole : (bytes : List ℕ) (handles : List Handle) → HasBytes bytes handles → beside (length bytes) handles ≡ handles
beside_whole [] handles has = sym (has refl)
beside_whole (b ∷ bytes) handles has = refl

take_whole : (l : List ℕ) → take (length l) l ≡ l
take_whole [] = refl
take_whole (x ∷ l) = ap (λ (t : List ℕ). x ∷ t) (take_whole l)

-- n bytes went out
pub stops_after : (old : Piece) (n : ℕ) (result : Result (Unit {0}) FlushError) (bytes : List ℕ) (handles : List Handle) → HasBytes old.bytes old.handles →
    OnOk result (n ≡ length old.bytes) → OnErr result (n < length old.bytes) → bytes ≡ drop n old.bytes → handles ≡ kept_beside n old.handles →
    StopsAfter old result (record { bytes = bytes; handles = handles })
stops_after old n (Ok u) bytes handles has all lt rest kept =
    same_piece _ _ _ _ (rest ∙ ap (λ (k : ℕ). drop k old.bytes) all ∙ drop_whole old.bytes) (kept ∙ ap (λ (k : ℕ). kept_beside k old.handles) all ∙ kept_whole old.bytes old.handles has)
stops_after old n (Err e) bytes handles has all lt rest kept = (n, lt, same_piece _ _ _ _ rest kept)

-- and a sink took them
pub flushes : (held old : Piece) (n : ℕ) (result : Result (Unit {0}) FlushError) (bytes : List ℕ) (handles : List Handle) (taken : Option Piece) → HasBytes old.bytes old.handles →
    OnOk result (n ≡ length old.bytes) → OnErr result (n < length old.bytes) → bytes ≡ drop n old.bytes → handles ≡ kept_beside n old.handles → taken ≡ Some (sent_front n old held) →
    GoesOut held old result (record { bytes = bytes; handles = handles }) taken
flushes held old n (Ok u) bytes handles taken has all lt rest kept took =
    let front : take n old.bytes ≡ old.bytes = ap (λ (k : ℕ). take k old.bytes) all ∙ take_whole old.bytes in
    let beside_it : beside n old.handles ≡ old.handles = ap (λ (k : ℕ). beside k old.handles) all ∙ beside_whole old.bytes old.handles has in
    took ∙ ap Some (same_piece _ _ _ _ (ap (λ (l : List ℕ). held.bytes ++ l) front) (ap (λ (l : List Handle). held.handles ++ l) beside_it))
flushes held old n (Err e) bytes handles taken has all lt rest kept took = (n, lt, took, same_piece _ _ _ _ rest kept)

-- a header has 16 bytes
pub header_length : (id len opcode : ℕ) → length (header id len opcode) ≡ 16
unfolding header
header_length id len opcode =
    omega (arith, length-append (le8 id) (le4 len ++ le4 opcode), length-append (le4 len) (le4 opcode), len8 id, len4 len, len4 opcode)

-- a message has as many bytes as its header says
pub message_length : (m : Raw) → length (bytes_of m) ≡ size m
unfolding bytes_of
message_length m = omega (arith, length-append (header m.id (size m) m.opcode) m.body, header_length m.id (size m) m.opcode)

pub message_waits : (before now : List ℕ) (m : Raw) (handles : List Handle) → now ≡ before ++ bytes_of m → HasBytes now handles
message_waits before now m handles e = λ none.
    absurd (omega (arith, message_length m, length-append before (bytes_of m), ap (λ (l : List ℕ). length l) e, none))

-- where a message was written behind the bytes, or nothing was
pub message_waits_if : {E : Type 0} (result : Result (Unit {0}) E) (before now : List ℕ) (m : Raw) (held handles : List Handle) →
    OnOk result (now ≡ before ++ bytes_of m) → OnErr result (now ≡ before) → OnErr result (handles ≡ held) → HasBytes before held → HasBytes now handles
message_waits_if (Ok u) before now m held handles e same kept has = message_waits before now m handles e
message_waits_if (Err x) before now m held handles e same kept has = λ none. kept ∙ has (ap (λ (l : List ℕ). length l) (sym same) ∙ none)
