-- No argument is refused as a header is.
use Rattle.std.proofs.Common.{ℕ, ◌+◌, ◌-◌, Bool, true, false, cond, ltb, eqb, List, [], ◌∷◌, length, take, drop, Option, Some, None, Result, Ok, Err}
use Rattle.std.specs.Prelude.{nat_eq, slice_get, MatchResult}
use Rattle.std.specs.Int.{Width, w32, w64, byte_len, from_le_bytes, cast_signed}
use Rattle.std.specs.List.{list_any}
use Rattle.std.specs.Str.{is_utf8}
use Rattle.std.specs.Str.Lossy.{utf8_valid_len}
use Rattle.ei_spec.specs.declared.handle.Handle.{Handle as Descriptor}
use Rattle.ei_spec.specs.Value.{Kind, U32, I32, U64, I64, Float, Text, Nullable, Handle, New, Choice, OpenChoice, Value, Word, Long, Signed, SignedLong}
use Rattle.ei_spec.specs.Value.{Letters, padding}
use Rattle.ei_spec.specs.Reading.{Fault, EndOfMessage, Utf8, InvalidVariant, HeaderLength, ◌>>=◌, Unread, number_at, letters_at, text_at, some_text, or_null}
use Rattle.ei_spec.specs.Reading.{choice_at, of_bytes, of_handle, read, utf8, ArgumentStop, ◌then◌, stopping, all_at}

-- a fault that isn't the length of a header
abbrev pub IsNoHeader : Fault → Type 0
IsNoHeader (HeaderLength n) = ⊥
IsNoHeader fault = Unit {0}

abbrev pub NoHeader : {A : Type 0} → Result A Fault → Type 0
NoHeader r = MatchResult r (λ _. Unit {0}) IsNoHeader

either : {A : Type 0} (P : A → Type 0) (b : Bool) (x y : A) → P x → P y → P (cond b x y)
either P true x y p q = p
either P false x y p q = q

bound : {A B : Type 0} (r : Result A Fault) (f : A → Result B Fault) → NoHeader r → ((x : A) → NoHeader (f x)) → NoHeader (r >>= f)
bound (Ok x) f h k = k x
bound (Err e) f h k = h

number_no_header : (w : Width) (bytes : List ℕ) → NoHeader (number_at w bytes)
number_no_header w bytes = either (λ r. NoHeader r) (ltb (length bytes) (byte_len w)) (Err EndOfMessage) (Ok (from_le_bytes w (take (byte_len w) bytes), drop (byte_len w) bytes)) tt tt

utf8_no_header : (bytes : List ℕ) → NoHeader (utf8 bytes)
utf8_no_header bytes = either (λ r. NoHeader r) (is_utf8 bytes) (Ok bytes) (Err (Utf8 (utf8_valid_len bytes))) tt tt

letters_no_header : (n : ℕ) (bytes : List ℕ) → NoHeader (letters_at n bytes)
unfolding letters_at
letters_no_header n bytes = either (λ r. NoHeader r) (ltb (length bytes) n) (Err EndOfMessage)
    (utf8 (take n bytes) >>= λ t. cond (ltb (length bytes) (n + 1 + padding (n + 1))) (Err EndOfMessage) (Ok (t, drop (n + 1 + padding (n + 1)) bytes))) tt
    (bound (utf8 (take n bytes)) (λ t. cond (ltb (length bytes) (n + 1 + padding (n + 1))) (Err EndOfMessage) (Ok (t, drop (n + 1 + padding (n + 1)) bytes))) (utf8_no_header (take n bytes))
    (λ t. either (λ r. NoHeader r) (ltb (length bytes) (n + 1 + padding (n + 1))) (Err EndOfMessage) (Ok (t, drop (n + 1 + padding (n + 1)) bytes)) tt tt))

text_no_header : (bytes : List ℕ) → NoHeader (text_at bytes)
unfolding text_at
text_no_header bytes = bound (number_at w32 bytes) (λ n. cond (eqb n.0 0) (Ok (None, n.1)) (letters_at (n.0 - 1) n.1 >>= λ t. Ok (Some t.0, t.1))) (number_no_header w32 bytes)
    (λ n. either (λ r. NoHeader r) (eqb n.0 0) (Ok (None, n.1)) (letters_at (n.0 - 1) n.1 >>= λ t. Ok (Some t.0, t.1)) tt
    (bound (letters_at (n.0 - 1) n.1) (λ t. Ok (Some t.0, t.1)) (letters_no_header (n.0 - 1) n.1) (λ t. tt)))

some_text_no_header : (t : Option (List ℕ)) (rest : List ℕ) → NoHeader (some_text t rest)
some_text_no_header None rest = tt
some_text_no_header (Some t) rest = tt

of_bytes_no_header : {A : Type 0} (f : A → Value) (s : Unread) (r : Result (A × List ℕ) Fault) → NoHeader r → NoHeader (of_bytes f s r)
of_bytes_no_header f s (Ok x) h = tt
of_bytes_no_header f s (Err e) h = h

handle_no_header : (s : Unread) (o : Option Descriptor) → NoHeader (of_handle s o)
handle_no_header s None = tt
handle_no_header s (Some h) = tt

pub read_no_header : (k : Kind) (s : Unread) → NoHeader (read k s)
read_no_header U32 s = of_bytes_no_header Word s (number_at w32 s.bytes) (number_no_header w32 s.bytes)
read_no_header I32 s = of_bytes_no_header (λ n. Signed (cast_signed w32 n)) s (number_at w32 s.bytes) (number_no_header w32 s.bytes)
read_no_header U64 s = of_bytes_no_header Long s (number_at w64 s.bytes) (number_no_header w64 s.bytes)
read_no_header I64 s = of_bytes_no_header (λ n. SignedLong (cast_signed w64 n)) s (number_at w64 s.bytes) (number_no_header w64 s.bytes)
read_no_header New s = of_bytes_no_header Long s (number_at w64 s.bytes) (number_no_header w64 s.bytes)
read_no_header Float s = of_bytes_no_header Word s (number_at w32 s.bytes) (number_no_header w32 s.bytes)
read_no_header Text s = of_bytes_no_header Letters s (text_at s.bytes >>= λ t. some_text t.0 t.1) (bound (text_at s.bytes) (λ t. some_text t.0 t.1) (text_no_header s.bytes) (λ t. some_text_no_header t.0 t.1))
read_no_header Nullable s = of_bytes_no_header or_null s (text_at s.bytes) (text_no_header s.bytes)
read_no_header Handle s = handle_no_header s (slice_get s.handles s.taken)
read_no_header (Choice name values) s = of_bytes_no_header Word s (choice_at name values s.bytes)
    (bound (number_at w32 s.bytes) (λ n. cond (list_any (nat_eq n.0) values) (Ok n) (Err (InvalidVariant name n.0))) (number_no_header w32 s.bytes)
    (λ n. either (λ r. NoHeader r) (list_any (nat_eq n.0) values) (Ok n) (Err (InvalidVariant name n.0)) tt tt))
read_no_header OpenChoice s = of_bytes_no_header Word s (number_at w32 s.bytes) (number_no_header w32 s.bytes)

abbrev pub StopsNoHeader : {A : Type 0} → Result A ArgumentStop → Type 0
StopsNoHeader r = MatchResult r (λ _. Unit {0}) (λ e. IsNoHeader e.0)

stepped : {A B : Type 0} (n : ℕ) (r : Result A Fault) (f : A → Result B ArgumentStop) → NoHeader r → ((x : A) → StopsNoHeader (f x)) → StopsNoHeader (stopping n r then f)
stepped n (Ok x) f h k = k x
stepped n (Err e) f h k = h

consed : (v : Value) (r : Result (List Value × Unread) ArgumentStop) → StopsNoHeader r → StopsNoHeader {A = List Value × Unread} (r then λ xs. Ok (v ∷ xs.0, xs.1))
consed v (Ok x) h = tt
consed v (Err e) h = h

pub all_no_header : (ks : List Kind) (s : Unread) → StopsNoHeader (all_at ks s)
all_no_header [] s = tt
all_no_header (k ∷ ks) s = stepped s.taken (read k s) (λ x. all_at ks x.1 then λ xs. Ok (x.0 ∷ xs.0, xs.1)) (read_no_header k s) (λ x. consed x.0 (all_at ks x.1) (all_no_header ks x.1))
