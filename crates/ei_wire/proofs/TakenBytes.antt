-- What is read stands at the front, spelled by exactly the bytes that are taken.
use Rattle.std.proofs.Common.{◌≡◌, ℕ, zero, suc, ◌+◌, ◌-◌, ◌^◌, ◌<◌, ◌≤◌, Bool, true, false, cond, ltb, eqb, List, []}
use Rattle.std.proofs.Common.{◌++◌, length, take, drop, Option, Some, None, Result, Ok, Err, refl, sym, ap, subst, ◌∙◌, append_assoc, arith}
use Rattle.std.specs.Prelude.{nat_eq, slice_get}
use Rattle.std.specs.Int.{w32, w64, from_le_bytes, to_le_bytes, cast_signed}
use Rattle.std.specs.Str.{is_utf8}
use Rattle.std.specs.List.{list_any}
use Rattle.std.proofs.lemmas.Bool.{ltb-false, eqb-true}
use Rattle.std.proofs.lemmas.List.{take-append-drop, length-take, length-drop, drop-drop}
use Rattle.std.proofs.lemmas.Nat.{le_bytes_4, le_bytes_8}
use Rattle.std.proofs.lemmas.Int.{of_z-to_z}
use Rattle.std.proofs.Math.Facts.{sfits_to_z, Fits-of_lt}
use Rattle.ei_spec.proofs.Numbers.{IsBytes-take}
use Rattle.ei_spec.specs.Message.{IsBytes}
use Rattle.ei_spec.specs.declared.handle.Handle.{Handle as Descriptor}
use Rattle.ei_spec.specs.Value.{Kind, U32, I32, U64, I64, Float, Text, Nullable, Handle, New, Choice, OpenChoice, Value, Word, Long, Signed, SignedLong}
use Rattle.ei_spec.specs.Value.{Letters, Fd, padding, IsOf}
use Rattle.ei_spec.specs.Spelling.{Spells, Begins}
use Rattle.ei_spec.specs.Reading.{Fault, EndOfMessage, Utf8, InvalidVariant, ◌>>=◌, Unread, number_at, letters_at}
use Rattle.ei_spec.specs.Reading.{text_at, some_text, or_null, choice_at, of_bytes, of_handle, read}

both : {A B : Type 0} (a c : A) (b d : B) → ◌≡◌ {A = Result (A × B) Fault} (Ok (a, b)) (Ok (c, d)) → (a ≡ c) × (b ≡ d)
both {A} {B} a c b d e =
    let pair : (a, b) ≡ (c, d) = cc in
    (ap (λ (p : A × B). p.0) pair, ap (λ (p : A × B). p.1) pair)

-- ---- a number

tested : {A : Type 0} (b : Bool) (x y : A) → cond {A = Result A Fault} b (Err EndOfMessage) (Ok x) ≡ Ok y → (b ≡ false) × (x ≡ y)
tested true x y e = absurd cc
tested false x y e = (refl, cc)

pub record IsNumber (w : ℕ) (bytes front : List ℕ) (n : ℕ) (rest : List ℕ) : Type 0 where
  pub below : n < 2 ^ w
  pub parts : bytes ≡ front ++ rest

below_4 : (bytes : List ℕ) → IsBytes bytes → from_le_bytes w32 bytes < 2 ^ 32
below_4 bytes h = omega (arith, h 0, h 1, h 2, h 3)

below_8 : (bytes : List ℕ) → IsBytes bytes → from_le_bytes w64 bytes < 2 ^ 64
below_8 bytes h = omega (arith, h 0, h 1, h 2, h 3, h 4, h 5, h 6, h 7)

word_is : (bytes : List ℕ) (n : ℕ) (rest : List ℕ) → IsBytes bytes → number_at w32 bytes ≡ Ok (n, rest) → IsNumber 32 bytes (to_le_bytes w32 n) n rest
word_is bytes n rest h e =
    let c = tested (ltb (length bytes) 4) (from_le_bytes w32 (take 4 bytes), drop 4 bytes) (n, rest) e in
    let number : from_le_bytes w32 (take 4 bytes) ≡ n = ap (λ (x : ℕ × List ℕ). x.0) c.1 in
    let behind : drop 4 bytes ≡ rest = ap (λ (x : ℕ × List ℕ). x.1) c.1 in
    let four : length (take 4 bytes) ≡ 4 = omega (arith, ltb-false _ _ c.0, length-take 4 bytes) in
    let front : to_le_bytes w32 n ≡ take 4 bytes = le_bytes_4 (take 4 bytes) n four (IsBytes-take 4 bytes h) (sym number) in
    record {
      below = subst (λ (x : ℕ). x < 2 ^ 32) number (below_4 (take 4 bytes) (IsBytes-take 4 bytes h));
      parts = sym (take-append-drop 4 bytes) ∙ ap (λ (x : List ℕ). x ++ drop 4 bytes) (sym front) ∙ ap (λ (x : List ℕ). to_le_bytes w32 n ++ x) behind;
    }

long_is : (bytes : List ℕ) (n : ℕ) (rest : List ℕ) → IsBytes bytes → number_at w64 bytes ≡ Ok (n, rest) → IsNumber 64 bytes (to_le_bytes w64 n) n rest
long_is bytes n rest h e =
    let c = tested (ltb (length bytes) 8) (from_le_bytes w64 (take 8 bytes), drop 8 bytes) (n, rest) e in
    let number : from_le_bytes w64 (take 8 bytes) ≡ n = ap (λ (x : ℕ × List ℕ). x.0) c.1 in
    let behind : drop 8 bytes ≡ rest = ap (λ (x : ℕ × List ℕ). x.1) c.1 in
    let eight : length (take 8 bytes) ≡ 8 = omega (arith, ltb-false _ _ c.0, length-take 8 bytes) in
    let front : to_le_bytes w64 n ≡ take 8 bytes = le_bytes_8 (take 8 bytes) n eight (IsBytes-take 8 bytes h) (sym number) in
    record {
      below = subst (λ (x : ℕ). x < 2 ^ 64) number (below_8 (take 8 bytes) (IsBytes-take 8 bytes h));
      parts = sym (take-append-drop 8 bytes) ∙ ap (λ (x : List ℕ). x ++ drop 8 bytes) (sym front) ∙ ap (λ (x : List ℕ). to_le_bytes w64 n ++ x) behind;
    }

-- ---- a text

-- the bytes are a text of n bytes, its closing byte and padding, and the rest
pub record IsLetters (n : ℕ) (bytes t rest : List ℕ) : Type 0 where
  pub long : length t ≡ n
  pub valid : is_utf8 t ≡ true
  pub tail : List ℕ
  pub closed : length tail ≡ 1 + padding (n + 1)
  pub parts : bytes ≡ (t ++ tail) ++ rest

letters_cases : (a b c : Bool) (m : ℕ) (x d t rest : List ℕ) → cond a (Err EndOfMessage) (cond b (Ok x) (Err (Utf8 m)) >>= (λ (y : List ℕ). cond {A = Result (List ℕ × List ℕ) Fault} c (Err EndOfMessage) (Ok (y, d)))) ≡ Ok (t, rest) → (a ≡ false) × (b ≡ true) × (c ≡ false) × (x ≡ t) × (d ≡ rest)
letters_cases true b c m x d t rest e = absurd cc
letters_cases false false c m x d t rest e = absurd cc
letters_cases false true true m x d t rest e = absurd cc
letters_cases false true false m x d t rest e = let b = both x t d rest e in (refl, refl, refl, b.0, b.1)

letters_are : (n : ℕ) (bytes t rest : List ℕ) → letters_at n bytes ≡ Ok (t, rest) → IsLetters n bytes t rest
unfolding letters_at
letters_are n bytes t rest e =
    let p = padding (n + 1) in
    let all = n + 1 + p in
    let c = letters_cases (ltb (length bytes) n) (is_utf8 (take n bytes)) (ltb (length bytes) all) _ (take n bytes) (drop all bytes) t rest e in
    let le : all ≤ length bytes = ltb-false _ _ c.2 in
    let sum : n + (1 + p) ≡ all = omega arith in
    let behind : drop (1 + p) (drop n bytes) ≡ rest = drop-drop (1 + p) n bytes ∙ ap (λ (k : ℕ). drop k bytes) sum ∙ c.4 in
    let tail = take (1 + p) (drop n bytes) in
    let parts : bytes ≡ take n bytes ++ (tail ++ rest) = sym (take-append-drop n bytes) ∙ ap (λ (x : List ℕ). take n bytes ++ x) (sym (take-append-drop (1 + p) (drop n bytes)) ∙ ap (λ (x : List ℕ). tail ++ x) behind) in
    record {
      long = ap length (sym c.3) ∙ omega (arith, le, length-take n bytes);
      valid = ap is_utf8 (sym c.3) ∙ c.1;
      tail = tail;
      closed = omega (arith, le, length-take (1 + p) (drop n bytes), length-drop n bytes);
      parts = parts ∙ ap (λ (x : List ℕ). x ++ (tail ++ rest)) c.3 ∙ sym (append_assoc t tail rest);
    }

-- the bytes are the null, or the spelling of a text, and the rest
abbrev pub IsTextAt : List ℕ → Option (List ℕ) → List ℕ → Type 0
IsTextAt bytes None rest = bytes ≡ to_le_bytes w32 0 ++ rest
IsTextAt bytes (Some t) rest = (is_utf8 t ≡ true) × (length t ≤ 4294967294) × ((text : List ℕ) × ((Spells (Letters t) text) × (bytes ≡ text ++ rest)))

joined : (n t tail rest bytes x : List ℕ) → bytes ≡ n ++ x → x ≡ (t ++ tail) ++ rest → bytes ≡ (n ++ (t ++ tail)) ++ rest
joined n t tail rest bytes x e f = e ∙ ap (λ (y : List ℕ). n ++ y) f ∙ sym (append_assoc n (t ++ tail) rest)

some_of : (l : Result (List ℕ × List ℕ) Fault) (o : Option (List ℕ)) (rest : List ℕ) → (◌>>=◌ {B = Option (List ℕ) × List ℕ} l (λ (t : List ℕ × List ℕ). Ok (Some t.0, t.1))) ≡ Ok (o, rest) → (t : List ℕ) × ((l ≡ Ok (t, rest)) × (Some t ≡ o))
some_of (Err f) o rest e = absurd cc
some_of (Ok x) o rest e =
    let pair : (Some x.0, x.1) ≡ (o, rest) = cc in
    (x.0, (ap (λ (y : List ℕ). Ok (x.0, y)) (ap (λ (p : Option (List ℕ) × List ℕ). p.1) pair), ap (λ (p : Option (List ℕ) × List ℕ). p.0) pair))

above : (n : ℕ) → eqb n 0 ≡ false → 1 ≤ n
above zero e = absurd cc
above (suc n) e = omega arith

text_behind : (bytes : List ℕ) (n : ℕ) (x : List ℕ) (b : Bool) (o : Option (List ℕ)) (rest : List ℕ) → eqb n 0 ≡ b → IsNumber 32 bytes (to_le_bytes w32 n) n x
    → cond {A = Result (Option (List ℕ) × List ℕ) Fault} b (Ok (None, x)) (◌>>=◌ {B = Option (List ℕ) × List ℕ} (letters_at (n - 1) x) (λ (t : List ℕ × List ℕ). Ok (Some t.0, t.1))) ≡ Ok (o, rest) → IsTextAt bytes o rest
text_behind bytes n x true o rest is number e =
    let pair : (None, x) ≡ (o, rest) = cc in
    let none : None ≡ o = ap (λ (p : Option (List ℕ) × List ℕ). p.0) pair in
    let same : x ≡ rest = ap (λ (p : Option (List ℕ) × List ℕ). p.1) pair in
    let zero_is : n ≡ 0 = eqb-true n 0 is in
    subst (λ (y : Option (List ℕ)). IsTextAt bytes y rest) none (number.parts ∙ ap (λ (k : ℕ). to_le_bytes w32 k ++ x) zero_is ∙ ap (λ (y : List ℕ). to_le_bytes w32 0 ++ y) same)
text_behind bytes n x false o rest is number e =
    let found = some_of (letters_at (n - 1) x) o rest e in
    let t = found.0 in
    let l = letters_are (n - 1) x t rest found.1.0 in
    let one : length t + 1 ≡ n = omega (arith, l.long, above n is) in
    let closed : length l.tail ≡ 1 + padding (length t + 1) = l.closed ∙ ap (λ (k : ℕ). 1 + padding (k + 1)) (sym l.long) in
    let front : bytes ≡ to_le_bytes w32 (length t + 1) ++ x = number.parts ∙ ap (λ (k : ℕ). to_le_bytes w32 k ++ x) (sym one) in
    let spelled : IsTextAt bytes (Some t) rest = (l.valid, omega (arith, one, number.below), (to_le_bytes w32 (length t + 1) ++ (t ++ l.tail), ((l.tail, closed, refl), joined (to_le_bytes w32 (length t + 1)) t l.tail rest bytes x front l.parts))) in
    subst (λ (y : Option (List ℕ)). IsTextAt bytes y rest) found.1.1 spelled

text_of : (bytes : List ℕ) (r : Result (ℕ × List ℕ) Fault) (o : Option (List ℕ)) (rest : List ℕ) → IsBytes bytes → number_at w32 bytes ≡ r
    → (r >>= (λ (n : ℕ × List ℕ). cond {A = Result (Option (List ℕ) × List ℕ) Fault} (eqb n.0 0) (Ok (None, n.1)) (◌>>=◌ {B = Option (List ℕ) × List ℕ} (letters_at (n.0 - 1) n.1) (λ (t : List ℕ × List ℕ). Ok (Some t.0, t.1))))) ≡ Ok (o, rest) → IsTextAt bytes o rest
text_of bytes (Err f) o rest h is e = absurd cc
text_of bytes (Ok x) o rest h is e = text_behind bytes x.0 x.1 (eqb x.0 0) o rest refl (word_is bytes x.0 x.1 h is) e

text_is : (bytes : List ℕ) (o : Option (List ℕ)) (rest : List ℕ) → IsBytes bytes → text_at bytes ≡ Ok (o, rest) → IsTextAt bytes o rest
unfolding text_at
text_is bytes o rest h e = text_of bytes (number_at w32 bytes) o rest h refl e

-- ---- a value

pub record IsOfBytes {A : Type 0} (f : A → Value) (s t : Unread) (r : Result (A × List ℕ) Fault) (v : Value) : Type 0 where
  pub x : A
  pub given : r ≡ Ok (x, t.bytes)
  pub value : f x ≡ v
  pub same : t.handles ≡ s.handles
  pub taken : t.taken ≡ s.taken

of : {A : Type 0} (f : A → Value) (s t : Unread) (r : Result (A × List ℕ) Fault) (v : Value) → of_bytes f s r ≡ Ok (v, t) → IsOfBytes f s t r v
of f s t (Err m) v e = absurd cc
of {A} f s t (Ok x) v e =
    let pair : (f x.0, record { bytes = x.1; handles = s.handles; taken = s.taken }) ≡ (v, t) = cc in
    let u : record { bytes = x.1; handles = s.handles; taken = s.taken } ≡ t = ap (λ (p : Value × Unread). p.1) pair in
    record {
      x = x.0;
      given = ap (λ (b : List ℕ). Ok (x.0, b)) (ap (λ (w : Unread). w.bytes) u);
      value = ap (λ (p : Value × Unread). p.0) pair;
      same = sym (ap (λ (w : Unread). w.handles) u);
      taken = sym (ap (λ (w : Unread). w.taken) u);
    }

some_is : (o : Option (List ℕ)) (y x rest : List ℕ) → some_text o y ≡ Ok (x, rest) → (o ≡ Some x) × (y ≡ rest)
some_is None y x rest e = absurd cc
some_is (Some t) y x rest e =
    let b = both t x y rest e in
    (ap (λ (z : List ℕ). Some z) b.0, b.1)

whole_is : (r : Result (Option (List ℕ) × List ℕ) Fault) (x rest : List ℕ) → (r >>= (λ (t : Option (List ℕ) × List ℕ). some_text t.0 t.1)) ≡ Ok (x, rest) → r ≡ Ok (Some x, rest)
whole_is (Err f) x rest e = absurd cc
whole_is (Ok y) x rest e =
    let s = some_is y.0 y.1 x rest e in
    ap (λ (o : Option (List ℕ)). Ok (o, y.1)) s.0 ∙ ap (λ (b : List ℕ). Ok (Some x, b)) s.1

listed_in : (b : Bool) (name values : List ℕ) (m : ℕ × List ℕ) (n : ℕ) (rest : List ℕ) → list_any (nat_eq m.0) values ≡ b → cond {A = Result (ℕ × List ℕ) Fault} b (Ok m) (Err (InvalidVariant name m.0)) ≡ Ok (n, rest) → (m ≡ (n, rest)) × (list_any (nat_eq n) values ≡ true)
listed_in false name values m n rest is e = absurd cc
listed_in true name values m n rest is e =
    let pair : m ≡ (n, rest) = cc in
    (pair, sym (ap (λ (k : ℕ). list_any (nat_eq k) values) (ap (λ (p : ℕ × List ℕ). p.0) pair)) ∙ is)

listed : (r : Result (ℕ × List ℕ) Fault) (name values : List ℕ) (n : ℕ) (rest : List ℕ) → (r >>= (λ (m : ℕ × List ℕ). cond {A = Result (ℕ × List ℕ) Fault} (list_any (nat_eq m.0) values) (Ok m) (Err (InvalidVariant name m.0)))) ≡ Ok (n, rest) → (r ≡ Ok (n, rest)) × (list_any (nat_eq n) values ≡ true)
listed (Err f) name values n rest e = absurd cc
listed (Ok m) name values n rest e =
    let l = listed_in (list_any (nat_eq m.0) values) name values m n rest refl e in
    (ap (λ (x : ℕ × List ℕ). Ok x) l.0, l.1)

text_begins : (k : Kind) (t : List ℕ) (s u : Unread) → (is_utf8 t ≡ true → IsOf k (Letters t)) → IsTextAt s.bytes (Some t) u.bytes → u.handles ≡ s.handles → u.taken ≡ s.taken → Begins k (Letters t) s u
text_begins k t s u of is same taken = record { of = of is.0; short = is.1; text = is.2.0; spelled = is.2.1.0; parts = is.2.1.1; next = tt; same = same; taken = omega (arith, taken) }

nullable_begins : (o : Option (List ℕ)) (s u : Unread) → IsTextAt s.bytes o u.bytes → u.handles ≡ s.handles → u.taken ≡ s.taken → Begins Nullable (or_null o) s u
nullable_begins None s u is same taken = record { of = tt; short = tt; text = to_le_bytes w32 0; spelled = refl; parts = is; next = tt; same = same; taken = omega (arith, taken) }
nullable_begins (Some t) s u is same taken = text_begins Nullable t s u (λ e. e) is same taken

handle_begins : (o : Option Descriptor) (s t : Unread) (v : Value) → slice_get s.handles s.taken ≡ o → of_handle s o ≡ Ok (v, t) → Begins Handle v s t
handle_begins None s t v is e = absurd cc
handle_begins (Some h) s t v is e =
    let pair : (Fd h, record { bytes = s.bytes; handles = s.handles; taken = s.taken + 1 }) ≡ (v, t) = cc in
    let u : record { bytes = s.bytes; handles = s.handles; taken = s.taken + 1 } ≡ t = ap (λ (p : Value × Unread). p.1) pair in
    subst (λ (x : Value). Begins Handle x s t) (ap (λ (p : Value × Unread). p.0) pair) (record {
      of = tt;
      short = tt;
      text = [];
      spelled = refl;
      parts = ap (λ (w : Unread). w.bytes) u;
      next = is;
      same = sym (ap (λ (w : Unread). w.handles) u);
      taken = sym (ap (λ (w : Unread). w.taken) u);
    })

pub begins : (k : Kind) (v : Value) (s t : Unread) → IsBytes s.bytes → read k s ≡ Ok (v, t) → Begins k v s t
begins U32 v s t h e =
    let o = of Word s t (number_at w32 s.bytes) v e in
    let n = word_is s.bytes o.x t.bytes h o.given in
    subst (λ (x : Value). Begins U32 x s t) o.value (record { of = n.below; short = tt; text = to_le_bytes w32 o.x; spelled = refl; parts = n.parts; next = tt; same = o.same; taken = omega (arith, o.taken) })
begins Float v s t h e =
    let o = of Word s t (number_at w32 s.bytes) v e in
    let n = word_is s.bytes o.x t.bytes h o.given in
    subst (λ (x : Value). Begins Float x s t) o.value (record { of = n.below; short = tt; text = to_le_bytes w32 o.x; spelled = refl; parts = n.parts; next = tt; same = o.same; taken = omega (arith, o.taken) })
begins U64 v s t h e =
    let o = of Long s t (number_at w64 s.bytes) v e in
    let n = long_is s.bytes o.x t.bytes h o.given in
    subst (λ (x : Value). Begins U64 x s t) o.value (record { of = n.below; short = tt; text = to_le_bytes w64 o.x; spelled = refl; parts = n.parts; next = tt; same = o.same; taken = omega (arith, o.taken) })
begins New v s t h e =
    let o = of Long s t (number_at w64 s.bytes) v e in
    let n = long_is s.bytes o.x t.bytes h o.given in
    subst (λ (x : Value). Begins New x s t) o.value (record { of = n.below; short = tt; text = to_le_bytes w64 o.x; spelled = refl; parts = n.parts; next = tt; same = o.same; taken = omega (arith, o.taken) })
begins I32 v s t h e =
    let o = of (λ n. Signed (cast_signed w32 n)) s t (number_at w32 s.bytes) v e in
    let n = word_is s.bytes o.x t.bytes h o.given in
    subst (λ (x : Value). Begins I32 x s t) o.value (record { of = sfits_to_z {w = w32} {n = o.x} (Fits-of_lt {w = w32} {n = o.x} n.below); short = tt; text = to_le_bytes w32 o.x; spelled = ap (to_le_bytes w32) (sym (of_z-to_z w32 o.x n.below)); parts = n.parts; next = tt; same = o.same; taken = omega (arith, o.taken) })
begins I64 v s t h e =
    let o = of (λ n. SignedLong (cast_signed w64 n)) s t (number_at w64 s.bytes) v e in
    let n = long_is s.bytes o.x t.bytes h o.given in
    subst (λ (x : Value). Begins I64 x s t) o.value (record { of = sfits_to_z {w = w64} {n = o.x} (Fits-of_lt {w = w64} {n = o.x} n.below); short = tt; text = to_le_bytes w64 o.x; spelled = ap (to_le_bytes w64) (sym (of_z-to_z w64 o.x n.below)); parts = n.parts; next = tt; same = o.same; taken = omega (arith, o.taken) })
begins Text v s t h e =
    let o = of Letters s t (text_at s.bytes >>= (λ (x : Option (List ℕ) × List ℕ). some_text x.0 x.1)) v e in
    let is = text_is s.bytes (Some o.x) t.bytes h (whole_is (text_at s.bytes) o.x t.bytes o.given) in
    subst (λ (x : Value). Begins Text x s t) o.value (text_begins Text o.x s t (λ u. u) is o.same o.taken)
begins Nullable v s t h e =
    let o = of or_null s t (text_at s.bytes) v e in
    subst (λ (x : Value). Begins Nullable x s t) o.value (nullable_begins o.x s t (text_is s.bytes o.x t.bytes h o.given) o.same o.taken)
begins Handle v s t h e = handle_begins (slice_get s.handles s.taken) s t v refl e
begins (Choice name values) v s t h e =
    let o = of Word s t (choice_at name values s.bytes) v e in
    let l = listed (number_at w32 s.bytes) name values o.x t.bytes o.given in
    let n = word_is s.bytes o.x t.bytes h l.0 in
    subst (λ (x : Value). Begins (Choice name values) x s t) o.value (record { of = (n.below, l.1); short = tt; text = to_le_bytes w32 o.x; spelled = refl; parts = n.parts; next = tt; same = o.same; taken = omega (arith, o.taken) })
begins OpenChoice v s t h e =
    let o = of Word s t (number_at w32 s.bytes) v e in
    let n = word_is s.bytes o.x t.bytes h o.given in
    subst (λ (x : Value). Begins OpenChoice x s t) o.value (record { of = n.below; short = tt; text = to_le_bytes w32 o.x; spelled = refl; parts = n.parts; next = tt; same = o.same; taken = omega (arith, o.taken) })
