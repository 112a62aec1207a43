-- What stands for a value is read as that value, whatever follows.
use Rattle.std.proofs.Common.{◌≡◌, ℕ, ◌+◌, ◌-◌, ◌^◌, ◌<◌, ◌≤◌, true, false, ltb, eqb, List, ◌++◌, length, take, drop, Some, None, Result, Ok, refl, ap, ◌∙◌}
use Rattle.std.proofs.Common.{append_assoc, arith}
use Rattle.std.specs.Prelude.{ℤ, pos, negsuc, FitsSigned}
use Rattle.std.specs.Int.{w32, w64, to_le_bytes, cast_signed, cast_unsigned}
use Rattle.std.specs.Str.{is_utf8}
use Rattle.std.proofs.lemmas.Bool.{le-ltb}
use Rattle.std.proofs.lemmas.Bool.Decides.{nat_tests}
use Rattle.std.proofs.lemmas.List.{take_at, drop_at, length-append}
use Rattle.std.proofs.lemmas.Int.{to_z-of_z}
use Rattle.std.proofs.lemmas.Nat.{from_le_bytes-to_le_bytes_4, from_le_bytes-to_le_bytes_8}
use Rattle.ei_spec.specs.Value.{Kind, U32, I32, U64, I64, Float, Text, Nullable, Handle, New, Choice, OpenChoice, Value, Word, Long, Signed, SignedLong}
use Rattle.ei_spec.specs.Value.{Letters, Null, Fd, padding}
use Rattle.ei_spec.specs.Spelling.{Spells, Begins}
use Rattle.ei_spec.specs.Reading.{Fault, ◌>>=◌, Unread, number_at, letters_at, text_at, some_text, or_null, choice_at, of_bytes, read}

-- a number at the front
pub word_again : (n : ℕ) (rest : List ℕ) → n < 2 ^ 32 → number_at w32 (to_le_bytes w32 n ++ rest) ≡ Ok (n, rest)
word_again n rest lt =
    let long : ltb (length (to_le_bytes w32 n ++ rest)) 4 ≡ false = le-ltb _ _ (omega (arith, length-append (to_le_bytes w32 n) rest)) in
    rw (long, from_le_bytes-to_le_bytes_4 n lt) refl

pub long_again : (n : ℕ) (rest : List ℕ) → n < 2 ^ 64 → number_at w64 (to_le_bytes w64 n ++ rest) ≡ Ok (n, rest)
long_again n rest lt =
    let long : ltb (length (to_le_bytes w64 n ++ rest)) 8 ≡ false = le-ltb _ _ (omega (arith, length-append (to_le_bytes w64 n) rest)) in
    rw (long, from_le_bytes-to_le_bytes_8 n lt) refl

-- a text behind its length
pub letters_again : (t tail rest : List ℕ) → is_utf8 t ≡ true → length tail ≡ 1 + padding (length t + 1) → letters_at (length t) ((t ++ tail) ++ rest) ≡ Ok (t, rest)
unfolding letters_at
letters_again t tail rest ok len =
    let whole : ltb (length ((t ++ tail) ++ rest)) (length t) ≡ false = le-ltb _ _ (omega (arith, length-append (t ++ tail) rest, length-append t tail)) in
    let all : ltb (length ((t ++ tail) ++ rest)) (length t + 1 + padding (length t + 1)) ≡ false = le-ltb _ _ (omega (arith, length-append (t ++ tail) rest, length-append t tail, len)) in
    let front : take (length t) ((t ++ tail) ++ rest) ≡ t = rw (append_assoc t tail rest) (take_at t (tail ++ rest) (length t) refl) in
    let back : drop (length t + 1 + padding (length t + 1)) ((t ++ tail) ++ rest) ≡ rest = drop_at (t ++ tail) rest (length t + 1 + padding (length t + 1)) (omega (arith, length-append t tail, len)) in
    rw (whole, front, ok, all, back) refl

pub text_again : (t text rest : List ℕ) → is_utf8 t ≡ true → length t ≤ 4294967294 → Spells (Letters t) text → text_at (text ++ rest) ≡ Ok (Some t, rest)
unfolding text_at
text_again t text rest ok short spelled =
    let n = length t in
    let regrouped : text ++ rest ≡ to_le_bytes w32 (length t + 1) ++ ((t ++ spelled.0) ++ rest) = ap (λ (x : List ℕ). x ++ rest) spelled.2 ∙ append_assoc (to_le_bytes w32 (length t + 1)) (t ++ spelled.0) rest in
    let zero_not : eqb (length t + 1) 0 ≡ false = grind (arith, nat_tests) in
    let one_less : (length t + 1) - 1 ≡ length t = omega arith in
    ap text_at regrouped ∙ rw (word_again (length t + 1) ((t ++ spelled.0) ++ rest) (omega (arith, short)), zero_not, one_less, letters_again t spelled.0 rest ok spelled.1) refl

bits_below : (z : ℤ) → FitsSigned w32 z → cast_unsigned w32 z < 2 ^ 32
bits_below (pos n) f = omega (arith, f)
bits_below (negsuc n) f = omega (arith, f)

long_bits_below : (z : ℤ) → FitsSigned w64 z → cast_unsigned w64 z < 2 ^ 64
long_bits_below (pos n) f = omega (arith, f)
long_bits_below (negsuc n) f = omega (arith, f)

null_again : (rest : List ℕ) → text_at (to_le_bytes w32 0 ++ rest) ≡ Ok (None, rest)
unfolding text_at
null_again rest = rw (word_again 0 rest (omega arith)) refl

unread_is : (a : List ℕ) (s t : Unread) (n : ℕ) → a ≡ t.bytes → t.handles ≡ s.handles → t.taken ≡ n → record { bytes = a; handles = s.handles; taken = n } ≡ t
unread_is a s t n e h k = rw (e, ← h, ← k) refl

-- what is read of the bytes alone
lifted : {A : Type 0} (f : A → Value) (r : Result (A × List ℕ) Fault) (x : A) (s t : Unread) → r ≡ Ok (x, t.bytes) → t.handles ≡ s.handles → t.taken ≡ s.taken + 0 → of_bytes f s r ≡ Ok (f x, t)
lifted f r x s t e h k =
    let same : t.taken ≡ s.taken = omega (arith, k) in
    rw e (ap (λ (u : Unread). Ok (f x, u)) (unread_is t.bytes s t s.taken refl h same))

word_is : (s t : Unread) (n : ℕ) (text : List ℕ) → n < 2 ^ 32 → text ≡ to_le_bytes w32 n → s.bytes ≡ text ++ t.bytes → number_at w32 s.bytes ≡ Ok (n, t.bytes)
word_is s t n text lt spelled parts = ap (number_at w32) (parts ∙ ap (λ (x : List ℕ). x ++ t.bytes) spelled) ∙ word_again n t.bytes lt

long_is : (s t : Unread) (n : ℕ) (text : List ℕ) → n < 2 ^ 64 → text ≡ to_le_bytes w64 n → s.bytes ≡ text ++ t.bytes → number_at w64 s.bytes ≡ Ok (n, t.bytes)
long_is s t n text lt spelled parts = ap (number_at w64) (parts ∙ ap (λ (x : List ℕ). x ++ t.bytes) spelled) ∙ long_again n t.bytes lt

-- What stands for a value of a kind is read as that value.
pub again : (k : Kind) (v : Value) (s t : Unread) → Begins k v s t → read k s ≡ Ok (v, t)
again U32 (Word n) s t b = lifted Word (number_at w32 s.bytes) n s t (word_is s t n b.text b.of b.spelled b.parts) b.same b.taken
again U32 v s t b = absurd b.of
again Float (Word n) s t b = lifted Word (number_at w32 s.bytes) n s t (word_is s t n b.text b.of b.spelled b.parts) b.same b.taken
again Float v s t b = absurd b.of
again U64 (Long n) s t b = lifted Long (number_at w64 s.bytes) n s t (long_is s t n b.text b.of b.spelled b.parts) b.same b.taken
again U64 v s t b = absurd b.of
again New (Long n) s t b = lifted Long (number_at w64 s.bytes) n s t (long_is s t n b.text b.of b.spelled b.parts) b.same b.taken
again New v s t b = absurd b.of
again I32 (Signed z) s t b =
    let lt : cast_unsigned w32 z < 2 ^ 32 = bits_below z b.of in
    lifted (λ n. Signed (cast_signed w32 n)) (number_at w32 s.bytes) (cast_unsigned w32 z) s t (word_is s t (cast_unsigned w32 z) b.text lt b.spelled b.parts) b.same b.taken
    ∙ ap (λ (x : ℤ). Ok (Signed x, t)) (to_z-of_z w32 z b.of)
again I32 v s t b = absurd b.of
again I64 (SignedLong z) s t b =
    let lt : cast_unsigned w64 z < 2 ^ 64 = long_bits_below z b.of in
    lifted (λ n. SignedLong (cast_signed w64 n)) (number_at w64 s.bytes) (cast_unsigned w64 z) s t (long_is s t (cast_unsigned w64 z) b.text lt b.spelled b.parts) b.same b.taken
    ∙ ap (λ (x : ℤ). Ok (SignedLong x, t)) (to_z-of_z w64 z b.of)
again I64 v s t b = absurd b.of
again Text (Letters x) s t b =
    lifted Letters (text_at s.bytes >>= λ t. some_text t.0 t.1) x s t
    (rw (ap text_at b.parts ∙ text_again x b.text t.bytes b.of b.short b.spelled) refl) b.same b.taken
again Text v s t b = absurd b.of
again Nullable (Letters x) s t b =
    lifted or_null (text_at s.bytes) (Some x) s t (ap text_at b.parts ∙ text_again x b.text t.bytes b.of b.short b.spelled) b.same b.taken
again Nullable Null s t b = lifted or_null (text_at s.bytes) None s t (ap text_at (b.parts ∙ ap (λ (x : List ℕ). x ++ t.bytes) b.spelled) ∙ null_again t.bytes) b.same b.taken
again Nullable v s t b = absurd b.of
again Handle (Fd h) s t b =
    let whole : s.bytes ≡ t.bytes = b.parts ∙ ap (λ (x : List ℕ). x ++ t.bytes) b.spelled in
    rw b.next (ap (λ (u : Unread). Ok (Fd h, u)) (unread_is s.bytes s t (s.taken + 1) whole b.same b.taken))
again Handle v s t b = absurd b.of
again (Choice name values) (Word n) s t b =
    lifted Word (choice_at name values s.bytes) n s t (rw (word_is s t n b.text b.of.0 b.spelled b.parts, b.of.1) refl) b.same b.taken
again (Choice name values) v s t b = absurd b.of
again OpenChoice (Word n) s t b = lifted Word (number_at w32 s.bytes) n s t (word_is s t n b.text b.of b.spelled b.parts) b.same b.taken
again OpenChoice v s t b = absurd b.of
