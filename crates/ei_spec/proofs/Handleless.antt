-- Arguments without handles are read alike, whatever handles came with them.
use Rattle.std.proofs.Common.{◌≡◌, ℕ, List, [], ◌∷◌, Option, Some, None, Result, Ok, Err, refl, ap, ◌∙◌}
use Rattle.std.specs.Int.{w32, w64, cast_signed}
use Rattle.ei_spec.specs.Value.{Kind, U32, I32, U64, I64, Float, Text, Nullable, Handle, New, Choice, OpenChoice, Value, Word, Long, Signed, SignedLong}
use Rattle.ei_spec.specs.Value.{Letters}
use Rattle.ei_spec.specs.Reading.{Fault, ◌>>=◌, Unread, Read, number_at, text_at, some_text, or_null, choice_at, of_bytes, read, ArgumentStop, ◌then◌}
use Rattle.ei_spec.specs.Reading.{stopping, all_at}

-- the kind is no handle
abbrev pub IsNoHandle : Kind → Type 0
IsNoHandle Handle = ⊥
IsNoHandle kind = Unit {0}

abbrev pub AreNoHandles : List Kind → Type 0
AreNoHandles [] = Unit {0}
AreNoHandles (k ∷ ks) = IsNoHandle k × AreNoHandles ks

-- a value and the bytes behind it
pub record Got (A : Type 0) : Type 0 where
  pub value : A
  pub rest : List ℕ

abbrev got : {A : Type 0} → A → List ℕ → Got A
got value rest = record { value = value; rest = rest }

abbrev one_of : Read → Option (Got Value)
one_of (Ok x) = Some (got x.0 x.1.bytes)
one_of (Err e) = None

-- the values that were read, and the bytes behind them
abbrev pub got_of : Result (List Value × Unread) ArgumentStop → Option (Got (List Value))
got_of (Ok x) = Some (got x.0 x.1.bytes)
got_of (Err e) = None

of_bytes_alike : {A : Type 0} (f : A → Value) (s t : Unread) (r : Result (A × List ℕ) Fault) → one_of (of_bytes f s r) ≡ one_of (of_bytes f t r)
of_bytes_alike f s t (Ok x) = refl
of_bytes_alike f s t (Err e) = refl

bytes_alike : {A : Type 0} (f : A → Value) (s t : Unread) (r : List ℕ → Result (A × List ℕ) Fault) → s.bytes ≡ t.bytes → one_of (of_bytes f s (r s.bytes)) ≡ one_of (of_bytes f t (r t.bytes))
bytes_alike f s t r e = ap (λ (b : List ℕ). one_of (of_bytes f s (r b))) e ∙ of_bytes_alike f s t (r t.bytes)

read_alike : (k : Kind) (s t : Unread) → IsNoHandle k → s.bytes ≡ t.bytes → one_of (read k s) ≡ one_of (read k t)
read_alike U32 s t n e = bytes_alike Word s t (number_at w32) e
read_alike I32 s t n e = bytes_alike (λ n. Signed (cast_signed w32 n)) s t (number_at w32) e
read_alike U64 s t n e = bytes_alike Long s t (number_at w64) e
read_alike I64 s t n e = bytes_alike (λ n. SignedLong (cast_signed w64 n)) s t (number_at w64) e
read_alike New s t n e = bytes_alike Long s t (number_at w64) e
read_alike Float s t n e = bytes_alike Word s t (number_at w32) e
read_alike Text s t n e = bytes_alike Letters s t (λ b. text_at b >>= λ t. some_text t.0 t.1) e
read_alike Nullable s t n e = bytes_alike or_null s t text_at e
read_alike Handle s t n e = absurd n
read_alike (Choice name values) s t n e = bytes_alike Word s t (choice_at name values) e
read_alike OpenChoice s t n e = bytes_alike Word s t (number_at w32) e

abbrev list_then : Value → Result (List Value × Unread) ArgumentStop → Result (List Value × Unread) ArgumentStop
list_then v r = r then λ xs. Ok (v ∷ xs.0, xs.1)

consed : (v : Value) (a b : Result (List Value × Unread) ArgumentStop) → got_of a ≡ got_of b → got_of (list_then v a) ≡ got_of (list_then v b)
consed v (Ok x) (Ok y) e =
    let same : got x.0 x.1.bytes ≡ got y.0 y.1.bytes = cc in
    ap (λ (g : Got (List Value)). Some (got (v ∷ g.value) g.rest)) same
consed v (Ok x) (Err f) e = absurd cc
consed v (Err f) (Ok y) e = absurd cc
consed v (Err f) (Err g) e = refl

stepped : (m n : ℕ) (r q : Read) (ks : List Kind) → one_of r ≡ one_of q → ((x y : Unread) → x.bytes ≡ y.bytes → got_of (all_at ks x) ≡ got_of (all_at ks y)) →
    got_of (stopping m r then λ x. list_then x.0 (all_at ks x.1)) ≡ got_of (stopping n q then λ x. list_then x.0 (all_at ks x.1))
stepped m n (Ok x) (Ok y) ks e h =
    let same : got x.0 x.1.bytes ≡ got y.0 y.1.bytes = cc in
    consed x.0 (all_at ks x.1) (all_at ks y.1) (h x.1 y.1 (ap (λ (g : Got Value). g.rest) same))
    ∙ ap (λ (v : Value). got_of (list_then v (all_at ks y.1))) (ap (λ (g : Got Value). g.value) same)
stepped m n (Ok x) (Err f) ks e h = absurd cc
stepped m n (Err f) (Ok y) ks e h = absurd cc
stepped m n (Err f) (Err g) ks e h = refl

-- the values depend on the bytes alone
pub all_alike : (ks : List Kind) (s t : Unread) → AreNoHandles ks → s.bytes ≡ t.bytes → got_of (all_at ks s) ≡ got_of (all_at ks t)
all_alike [] s t n e = ap (λ (b : List ℕ). Some (got [] b)) e
all_alike (k ∷ ks) s t n e = stepped s.taken t.taken (read k s) (read k t) ks (read_alike k s t n.0 e) (λ x y same. all_alike ks x y n.1 same)
