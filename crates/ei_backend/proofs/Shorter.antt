-- What is left after reading is no longer than what was there.
use Rattle.std.proofs.Common.{◌≡◌, ℕ, ◌+◌, ◌-◌, ◌≤◌, Bool, true, false, cond, ltb, eqb, List, []}
use Rattle.std.proofs.Common.{◌∷◌, length, take, drop, Option, Some, None, Result, Ok, Err, subst, arith, length-drop}
use Rattle.std.specs.Prelude.{nat_eq, slice_get, MatchResult}
use Rattle.std.specs.Int.{Width, w32, w64, byte_len, from_le_bytes, cast_signed}
use Rattle.std.specs.List.{list_any}
use Rattle.ei_spec.specs.declared.handle.Handle.{Handle as Descriptor}
use Rattle.ei_spec.specs.Value.{Kind, U32, I32, U64, I64, Float, Text, Nullable, Handle, New, Choice, OpenChoice, Value, Word, Long, Signed, SignedLong}
use Rattle.ei_spec.specs.Value.{Letters, padding}
use Rattle.ei_spec.specs.Reading.{Fault, ◌>>=◌, Unread, Read, number_at, letters_at, text_at, some_text, or_null, choice_at, of_bytes, of_handle, read, utf8}
use Rattle.ei_spec.specs.Reading.{EndOfMessage, InvalidVariant, ArgumentStop, ◌then◌, stopping, all_at}
use Rattle.ei_spec.specs.Interface.{Interface, Known, Other, short_of}
use Rattle.ei_backend.specs.Table.{TableView}
use Rattle.ei_spec.specs.Rows.{Row, row_at}
use Rattle.ei_spec.specs.Table.{table}
use Rattle.ei_backend.specs.Message.{announce, Parsed, some_row, message_read}

-- of a value and the bytes after it
abbrev Within : {A : Type 0} → ℕ → Result (A × List ℕ) Fault → Type 0
Within n r = MatchResult r (λ x. length x.1 ≤ n) (λ _. Unit {0})

either : {A : Type 0} (P : A → Type 0) (b : Bool) (x y : A) → P x → P y → P (cond b x y)
either P true x y p q = p
either P false x y p q = q

bound : {A B : Type 0} (n : ℕ) (r : Result (A × List ℕ) Fault) (f : A × List ℕ → Result (B × List ℕ) Fault) → Within n r → ((x : A × List ℕ) → length x.1 ≤ n → Within n (f x)) → Within n (r >>= f)
bound n (Ok x) f h k = k x h
bound n (Err e) f h k = tt

number_within : (w : Width) (bytes : List ℕ) → Within (length bytes) (number_at w bytes)
number_within w bytes = either (Within (length bytes)) (ltb (length bytes) (byte_len w)) (Err EndOfMessage) (Ok (from_le_bytes w (take (byte_len w) bytes), drop (byte_len w) bytes)) tt (omega (arith, length-drop (byte_len w) bytes))

letters_tail : (n : ℕ) (bytes : List ℕ) (r : Result (List ℕ) Fault) → Within (length bytes) (r >>= λ t. cond (ltb (length bytes) (n + 1 + padding (n + 1))) (Err EndOfMessage) (Ok (t, drop (n + 1 + padding (n + 1)) bytes)))
letters_tail n bytes (Err e) = tt
letters_tail n bytes (Ok t) = either (Within (length bytes)) (ltb (length bytes) (n + 1 + padding (n + 1))) (Err EndOfMessage) (Ok (t, drop (n + 1 + padding (n + 1)) bytes)) tt (omega (arith, length-drop (n + 1 + padding (n + 1)) bytes))

letters_within : (n : ℕ) (bytes : List ℕ) → Within (length bytes) (letters_at n bytes)
unfolding letters_at
letters_within n bytes = either (Within (length bytes)) (ltb (length bytes) n) (Err EndOfMessage) (utf8 (take n bytes) >>= λ t. cond (ltb (length bytes) (n + 1 + padding (n + 1))) (Err EndOfMessage) (Ok (t, drop (n + 1 + padding (n + 1)) bytes))) tt (letters_tail n bytes (utf8 (take n bytes)))

weaker : {A : Type 0} (m n : ℕ) (r : Result (A × List ℕ) Fault) → m ≤ n → Within m r → Within n r
weaker m n (Ok x) le h = omega arith
weaker m n (Err e) le h = tt

some_within : (n : ℕ) (r : Result (List ℕ × List ℕ) Fault) → Within n r → Within n (r >>= λ t. Ok (Some t.0, t.1))
some_within n (Ok x) h = h
some_within n (Err e) h = tt

text_within : (bytes : List ℕ) → Within (length bytes) (text_at bytes)
unfolding text_at
text_within bytes = bound (length bytes) (number_at w32 bytes) (λ n. cond (eqb n.0 0) (Ok (None, n.1)) (letters_at (n.0 - 1) n.1 >>= λ t. Ok (Some t.0, t.1))) (number_within w32 bytes)
    (λ n le. either (Within (length bytes)) (eqb n.0 0) (Ok (None, n.1)) (letters_at (n.0 - 1) n.1 >>= λ t. Ok (Some t.0, t.1)) le
    (some_within (length bytes) (letters_at (n.0 - 1) n.1) (weaker (length n.1) (length bytes) (letters_at (n.0 - 1) n.1) le (letters_within (n.0 - 1) n.1))))

some_text_within : (n : ℕ) (t : Option (List ℕ)) (rest : List ℕ) → length rest ≤ n → Within n (some_text t rest)
some_text_within n None rest le = tt
some_text_within n (Some t) rest le = le

-- of what a reader leaves
abbrev pub Leaves : ℕ → Read → Type 0
Leaves n r = MatchResult r (λ x. length x.1.bytes ≤ n) (λ _. Unit {0})

of_bytes_leaves : {A : Type 0} (f : A → Value) (s : Unread) (n : ℕ) (r : Result (A × List ℕ) Fault) → Within n r → Leaves n (of_bytes f s r)
of_bytes_leaves f s n (Ok x) h = h
of_bytes_leaves f s n (Err e) h = tt

handle_leaves : (s : Unread) (o : Option Descriptor) → Leaves (length s.bytes) (of_handle s o)
handle_leaves s None = tt
handle_leaves s (Some h) = omega arith

read_leaves : (k : Kind) (s : Unread) → Leaves (length s.bytes) (read k s)
read_leaves U32 s = of_bytes_leaves Word s (length s.bytes) (number_at w32 s.bytes) (number_within w32 s.bytes)
read_leaves I32 s = of_bytes_leaves (λ n. Signed (cast_signed w32 n)) s (length s.bytes) (number_at w32 s.bytes) (number_within w32 s.bytes)
read_leaves U64 s = of_bytes_leaves Long s (length s.bytes) (number_at w64 s.bytes) (number_within w64 s.bytes)
read_leaves I64 s = of_bytes_leaves (λ n. SignedLong (cast_signed w64 n)) s (length s.bytes) (number_at w64 s.bytes) (number_within w64 s.bytes)
read_leaves New s = of_bytes_leaves Long s (length s.bytes) (number_at w64 s.bytes) (number_within w64 s.bytes)
read_leaves Float s = of_bytes_leaves Word s (length s.bytes) (number_at w32 s.bytes) (number_within w32 s.bytes)
read_leaves Text s = of_bytes_leaves Letters s (length s.bytes) (text_at s.bytes >>= λ t. some_text t.0 t.1) (bound (length s.bytes) (text_at s.bytes) (λ t. some_text t.0 t.1) (text_within s.bytes) (λ t le. some_text_within (length s.bytes) t.0 t.1 le))
read_leaves Nullable s = of_bytes_leaves or_null s (length s.bytes) (text_at s.bytes) (text_within s.bytes)
read_leaves Handle s = handle_leaves s (slice_get s.handles s.taken)
read_leaves (Choice name values) s = of_bytes_leaves Word s (length s.bytes) (choice_at name values s.bytes)
    (bound (length s.bytes) (number_at w32 s.bytes) (λ n. cond (list_any (nat_eq n.0) values) (Ok n) (Err (InvalidVariant name n.0))) (number_within w32 s.bytes)
    (λ n le. either (Within (length s.bytes)) (list_any (nat_eq n.0) values) (Ok n) (Err (InvalidVariant name n.0)) le tt))
read_leaves OpenChoice s = of_bytes_leaves Word s (length s.bytes) (number_at w32 s.bytes) (number_within w32 s.bytes)

abbrev AllLeaves : ℕ → Result (List Value × Unread) ArgumentStop → Type 0
AllLeaves n r = MatchResult r (λ x. length x.1.bytes ≤ n) (λ _. Unit {0})

consed : (v : Value) (n : ℕ) (r : Result (List Value × Unread) ArgumentStop) → AllLeaves n r → AllLeaves n (r then λ xs. Ok (v ∷ xs.0, xs.1))
consed v n (Ok x) h = h
consed v n (Err e) h = tt

more : (m n : ℕ) (r : Result (List Value × Unread) ArgumentStop) → m ≤ n → AllLeaves m r → AllLeaves n r
more m n (Ok x) le h = omega arith
more m n (Err e) le h = tt

stepped : (n taken : ℕ) (r : Read) (f : Value × Unread → Result (List Value × Unread) ArgumentStop) → Leaves n r → ((x : Value × Unread) → length x.1.bytes ≤ n → AllLeaves n (f x)) → AllLeaves n (stopping taken r then f)
stepped n taken (Ok x) f h k = k x h
stepped n taken (Err e) f h k = tt

all_leaves : (ks : List Kind) (s : Unread) → AllLeaves (length s.bytes) (all_at ks s)
all_leaves [] s = omega arith
all_leaves (k ∷ ks) s = stepped (length s.bytes) s.taken (read k s) (λ x. all_at ks x.1 then λ xs. Ok (x.0 ∷ xs.0, xs.1)) (read_leaves k s)
    (λ x le. consed x.0 (length s.bytes) (all_at ks x.1) (more (length x.1.bytes) (length s.bytes) (all_at ks x.1) le (all_leaves ks x.1)))

abbrev pub IsShorter : ℕ → Result Parsed ArgumentStop → Type 0
IsShorter n r = MatchResult r (λ x. length x.unread.bytes ≤ n) (λ _. Unit {0})

announced : (n taken : ℕ) (x : List Value × Unread) (r : Result TableView Fault) → length x.1.bytes ≤ n → IsShorter n (stopping taken r then λ u. Ok (record { values = x.0; table = u; unread = x.1 }))
announced n taken x (Ok u) le = le
announced n taken x (Err f) le = tt

row_shorter : (n : ℕ) (r : Row) (t : TableView) (a : Result (List Value × Unread) ArgumentStop) → AllLeaves n a → IsShorter n (a then λ x. stopping x.1.taken (announce r.announces r.kinds x.0 t) then λ u. Ok (record { values = x.0; table = u; unread = x.1 }))
row_shorter n r t (Ok x) h = announced n x.1.taken x (announce r.announces r.kinds x.0 t) h
row_shorter n r t (Err e) h = tt

some_shorter : (o : Option Row) (short : List ℕ) (opcode : ℕ) (s : Unread) (t : TableView) → IsShorter (length s.bytes) (some_row o short opcode s t)
some_shorter None short opcode s t = tt
some_shorter (Some r) short opcode s t = row_shorter (length s.bytes) r t (all_at r.kinds s) (all_leaves r.kinds s)

pub message_shorter : (events : Bool) (i : Interface) (opcode : ℕ) (s : Unread) (t : TableView) → IsShorter (length s.bytes) (message_read events i opcode s t)
message_shorter events (Known k) opcode s t = some_shorter (row_at opcode (table events k)) (short_of k) opcode s t
message_shorter events (Other name) opcode s t = tt

pub shorter_ok : (events : Bool) (i : Interface) (opcode : ℕ) (s : Unread) (t : TableView) (p : Parsed) → message_read events i opcode s t ≡ Ok p → length p.unread.bytes ≤ length s.bytes
shorter_ok events i opcode s t p e = subst (IsShorter (length s.bytes)) e (message_shorter events i opcode s t)
