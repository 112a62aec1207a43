-- What is written as the values of a row is read as these values.
use Rattle.std.proofs.Common.{◌≡◌, ℕ, ◌+◌, ◌<◌, ◌≤◌, List, [], ◌∷◌, ◌++◌, length, drop, Some, Ok, refl, sym, ap, ◌∙◌, append_assoc, arith, get_or, add-zero}
use Rattle.std.specs.Prelude.{replicate, slice_get}
use Rattle.std.specs.Int.{w32, to_le_bytes}
use Rattle.std.specs.List.{flat_map}
use Rattle.std.proofs.lemmas.List.{length-append, length-drop, drop-drop, get_or-drop}
use Rattle.std.proofs.lemmas.Option.{slice_get-get_or}
use Rattle.std.proofs.Math.Seq.{drop-append_seam}
use Rattle.ei_spec.specs.declared.handle.Handle.{Handle as Descriptor}
use Rattle.ei_spec.specs.Value.{Kind, Value, Word, Long, Signed, SignedLong, Letters, Null, Fd, written, padding, handles_of, HasSpelling}
use Rattle.ei_spec.specs.Spelling.{IsNext}
use Rattle.ei_spec.specs.Reading.{Unread, read, all_at}
use Rattle.ei_spec.specs.Arguments.{AreOf, before_values, behind_values}
use Rattle.ei_spec.proofs.KindLaws.{written_again}

-- ---- one value

has_spelling : (v : Value) → length (written v) ≤ 1048576 → HasSpelling v
has_spelling (Letters t) le =
    let start : List ℕ = to_le_bytes w32 (length t + 1) in
    let tail : List ℕ = replicate (1 + padding (length t + 1)) 0 in
    omega (arith, le, length-append (start ++ t) tail, length-append start t)
has_spelling (Word n) le = tt
has_spelling (Long n) le = tt
has_spelling (Signed z) le = tt
has_spelling (SignedLong z) le = tt
has_spelling Null le = tt
has_spelling (Fd h) le = tt

within : (n : ℕ) (hs : List Descriptor) (h : Descriptor) (rest : List Descriptor) → drop n hs ≡ h ∷ rest → n < length hs
within n hs h rest e =
    let long : length (drop n hs) ≡ length (h ∷ rest) = ap length e in
    omega (arith, long, length-drop n hs)

is_next : (v : Value) (hs : List Descriptor) (n : ℕ) (rest : List Descriptor) → drop n hs ≡ handles_of v ++ rest → IsNext v hs n
is_next (Fd h) hs n rest e =
    let found : slice_get hs n ≡ Some _ = slice_get-get_or hs n h (within n hs h rest e) in
    found ∙ ap Some (ap (λ i. get_or hs i h) (sym (add-zero n)) ∙ sym (get_or-drop n hs 0 h) ∙ ap (λ xs. get_or xs 0 h) e)
is_next (Letters t) hs n rest e = tt
is_next (Word k) hs n rest e = tt
is_next (Long k) hs n rest e = tt
is_next (Signed z) hs n rest e = tt
is_next (SignedLong z) hs n rest e = tt
is_next Null hs n rest e = tt

-- ---- the values of a row

dropped_more : (hs xs ys : List Descriptor) (n : ℕ) → drop n hs ≡ xs ++ ys → drop (n + length xs) hs ≡ ys
dropped_more hs xs ys n e = sym (drop-drop (length xs) n hs) ∙ ap (λ l. drop (length xs) l) e ∙ drop-append_seam xs ys

pub all_read : (kinds : List Kind) (values : List Value) (hs more : List Descriptor) (n last : ℕ) → AreOf kinds values → length (flat_map written values) ≤ 1048576 → drop n hs ≡ flat_map handles_of values ++ more → last ≡ n + length (flat_map handles_of values) →
    all_at kinds (record { bytes = flat_map written values; handles = hs; taken = n }) ≡ Ok (values, record { bytes = []; handles = hs; taken = last })
all_read [] [] hs more n last are short e ends =
    let same : n ≡ last = omega (arith, ends) in
    rw same refl
all_read [] (v ∷ vs) hs more n last are short e ends = absurd are
all_read (k ∷ ks) [] hs more n last are short e ends = absurd are
all_read (k ∷ ks) (v ∷ vs) hs more n last are short e ends =
    let long = length-append (written v) (flat_map written vs) in
    let after = n + length (handles_of v) in
    let s : Unread = record { bytes = written v ++ flat_map written vs; handles = hs; taken = n } in
    let m : Unread = record { bytes = flat_map written vs; handles = hs; taken = after } in
    let front : drop n hs ≡ handles_of v ++ (flat_map handles_of vs ++ more) = e ∙ append_assoc (handles_of v) (flat_map handles_of vs) more in
    let one : read k s ≡ Ok (v, m) = written_again k v s m are.0 (record { short = has_spelling v (omega (arith, short, long)); parts = refl; next = is_next v hs n _ front; same = refl; taken = refl }) in
    let rest = all_read ks vs hs more after last are.1 (omega (arith, short, long)) (dropped_more hs (handles_of v) _ n front) (omega (arith, ends, length-append (handles_of v) (flat_map handles_of vs))) in
    rw (one, rest) refl

pub values_read : (kinds : List Kind) (values : List Value) (hs more : List Descriptor) (n : ℕ) → AreOf kinds values → length (flat_map written values) ≤ 1048576 → drop n hs ≡ flat_map handles_of values ++ more →
    all_at kinds (before_values hs n values) ≡ Ok (values, behind_values hs n values)
values_read kinds values hs more n are short e = all_read kinds values hs more n (n + length (flat_map handles_of values)) are short e refl
