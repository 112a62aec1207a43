-- Arguments without handles take none, and are read alike whatever handles came.
use Rattle.std.proofs.Common.{◌≡◌, ℕ, List, [], ◌∷◌, Result, Ok, Err, refl, subst, ap, ◌∙◌}
use Rattle.std.specs.Int.{w32, w64, cast_signed}
use Rattle.ei_spec.specs.Value.{Kind, U32, I32, U64, I64, Float, Text, Nullable, Handle, New, Choice, OpenChoice, Value, Word, Long, Signed, SignedLong}
use Rattle.ei_spec.specs.Value.{Letters}
use Rattle.ei_spec.specs.Reading.{Fault, ◌>>=◌, Unread, Read, number_at, text_at, some_text, or_null, choice_at, of_bytes, read, ArgumentStop, ◌then◌}
use Rattle.ei_spec.specs.Reading.{stopping, all_at}
use Rattle.ei_spec.proofs.Handleless.{IsNoHandle, AreNoHandles}

abbrev list_then : Value → Result (List Value × Unread) ArgumentStop → Result (List Value × Unread) ArgumentStop
list_then v r = r then λ xs. Ok (v ∷ xs.0, xs.1)

abbrev pub KeepsTaken : {A : Type 0} → ℕ → Result (A × Unread) ArgumentStop → Type 0
KeepsTaken n (Ok x) = x.1.taken ≡ n
KeepsTaken n (Err e) = Unit {0}

abbrev ReadKeeps : ℕ → Read → Type 0
ReadKeeps n (Ok x) = x.1.taken ≡ n
ReadKeeps n (Err e) = Unit {0}

of_bytes_keeps : {A : Type 0} (f : A → Value) (s : Unread) (r : Result (A × List ℕ) Fault) → ReadKeeps s.taken (of_bytes f s r)
of_bytes_keeps f s (Ok x) = refl
of_bytes_keeps f s (Err e) = tt

read_keeps : (k : Kind) (s : Unread) → IsNoHandle k → ReadKeeps s.taken (read k s)
read_keeps U32 s n = of_bytes_keeps Word s (number_at w32 s.bytes)
read_keeps I32 s n = of_bytes_keeps (λ n. Signed (cast_signed w32 n)) s (number_at w32 s.bytes)
read_keeps U64 s n = of_bytes_keeps Long s (number_at w64 s.bytes)
read_keeps I64 s n = of_bytes_keeps (λ n. SignedLong (cast_signed w64 n)) s (number_at w64 s.bytes)
read_keeps New s n = of_bytes_keeps Long s (number_at w64 s.bytes)
read_keeps Float s n = of_bytes_keeps Word s (number_at w32 s.bytes)
read_keeps Text s n = of_bytes_keeps Letters s (text_at s.bytes >>= λ t. some_text t.0 t.1)
read_keeps Nullable s n = of_bytes_keeps or_null s (text_at s.bytes)
read_keeps Handle s n = absurd n
read_keeps (Choice name values) s n = of_bytes_keeps Word s (choice_at name values s.bytes)
read_keeps OpenChoice s n = of_bytes_keeps Word s (number_at w32 s.bytes)

list_keeps : (n : ℕ) (v : Value) (r : Result (List Value × Unread) ArgumentStop) → KeepsTaken n r → KeepsTaken {A = List Value} n (list_then v r)
list_keeps n v (Ok x) h = h
list_keeps n v (Err e) h = tt

step_keeps : (m n : ℕ) (r : Read) (ks : List Kind) → ReadKeeps n r → ((x : Unread) → x.taken ≡ n → KeepsTaken n (all_at ks x)) → KeepsTaken {A = List Value} n (stopping m r then λ x. list_then x.0 (all_at ks x.1))
step_keeps m n (Ok x) ks e h = list_keeps n x.0 (all_at ks x.1) (h x.1 e)
step_keeps m n (Err f) ks e h = tt

-- no handle is taken
pub all_keeps : (ks : List Kind) (s : Unread) (n : ℕ) → AreNoHandles ks → s.taken ≡ n → KeepsTaken n (all_at ks s)
all_keeps [] s n h e = e
all_keeps (k ∷ ks) s n h e = step_keeps s.taken n (read k s) ks (subst (λ (m : ℕ). ReadKeeps m (read k s)) e (read_keeps k s h.0)) (λ x same. all_keeps ks x n h.1 same)

-- ---- whatever handles came

-- the same value is read, or the same fault
abbrev SameRead : Read → Read → Type 0
SameRead (Ok x) (Ok y) = (x.0 ≡ y.0) × (x.1.bytes ≡ y.1.bytes)
SameRead (Ok x) (Err f) = ⊥
SameRead (Err e) (Ok y) = ⊥
SameRead (Err e) (Err f) = e ≡ f

-- the same arguments are read, or the same fault
abbrev pub SameArgs : Result (List Value × Unread) ArgumentStop → Result (List Value × Unread) ArgumentStop → Type 0
SameArgs (Ok x) (Ok y) = (x.0 ≡ y.0) × (x.1.bytes ≡ y.1.bytes)
SameArgs (Ok x) (Err f) = ⊥
SameArgs (Err e) (Ok y) = ⊥
SameArgs (Err e) (Err f) = e.0 ≡ f.0

of_bytes_same : {A : Type 0} (f : A → Value) (s t : Unread) (r : Result (A × List ℕ) Fault) → SameRead (of_bytes f s r) (of_bytes f t r)
of_bytes_same f s t (Ok x) = (refl, refl)
of_bytes_same f s t (Err e) = refl

bytes_same : {A : Type 0} (f : A → Value) (s t : Unread) (r : List ℕ → Result (A × List ℕ) Fault) → s.bytes ≡ t.bytes → SameRead (of_bytes f s (r s.bytes)) (of_bytes f t (r t.bytes))
bytes_same f s t r e = subst (λ (b : List ℕ). SameRead (of_bytes f s (r s.bytes)) (of_bytes f t (r b))) e (of_bytes_same f s t (r s.bytes))

read_same : (k : Kind) (s t : Unread) → IsNoHandle k → s.bytes ≡ t.bytes → SameRead (read k s) (read k t)
read_same U32 s t n e = bytes_same Word s t (number_at w32) e
read_same I32 s t n e = bytes_same (λ n. Signed (cast_signed w32 n)) s t (number_at w32) e
read_same U64 s t n e = bytes_same Long s t (number_at w64) e
read_same I64 s t n e = bytes_same (λ n. SignedLong (cast_signed w64 n)) s t (number_at w64) e
read_same New s t n e = bytes_same Long s t (number_at w64) e
read_same Float s t n e = bytes_same Word s t (number_at w32) e
read_same Text s t n e = bytes_same Letters s t (λ b. text_at b >>= λ t. some_text t.0 t.1) e
read_same Nullable s t n e = bytes_same or_null s t text_at e
read_same Handle s t n e = absurd n
read_same (Choice name values) s t n e = bytes_same Word s t (choice_at name values) e
read_same OpenChoice s t n e = bytes_same Word s t (number_at w32) e

consed : (v w : Value) (a b : Result (List Value × Unread) ArgumentStop) → v ≡ w → SameArgs a b → SameArgs (list_then v a) (list_then w b)
consed v w (Ok x) (Ok y) e h = (ap (λ (u : Value). u ∷ x.0) e ∙ ap (λ (vs : List Value). w ∷ vs) h.0, h.1)
consed v w (Ok x) (Err f) e h = absurd h
consed v w (Err f) (Ok y) e h = absurd h
consed v w (Err f) (Err g) e h = h

stepped : (m n : ℕ) (r q : Read) (ks : List Kind) → SameRead r q → ((x y : Unread) → x.bytes ≡ y.bytes → SameArgs (all_at ks x) (all_at ks y)) →
    SameArgs (stopping m r then λ x. list_then x.0 (all_at ks x.1)) (stopping n q then λ x. list_then x.0 (all_at ks x.1))
stepped m n (Ok x) (Ok y) ks e h = consed x.0 y.0 (all_at ks x.1) (all_at ks y.1) e.0 (h x.1 y.1 e.1)
stepped m n (Ok x) (Err f) ks e h = absurd e
stepped m n (Err f) (Ok y) ks e h = absurd e
stepped m n (Err f) (Err g) ks e h = e

pub all_same : (ks : List Kind) (s t : Unread) → AreNoHandles ks → s.bytes ≡ t.bytes → SameArgs (all_at ks s) (all_at ks t)
all_same [] s t n e = (refl, e)
all_same (k ∷ ks) s t n e = stepped s.taken t.taken (read k s) (read k t) ks (read_same k s t n.0 e) (λ x y same. all_same ks x y n.1 same)
