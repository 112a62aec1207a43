-- An event of the handshake takes no handle, and none before the last changes an object.
use Rattle.std.proofs.Common.{◌≡◌, ℕ, List, [], ◌∷◌, Result, Ok, Err, refl, subst}
use Rattle.std.specs.Int.{w32, w64}
use Rattle.ei_spec.specs.Rows.{Row}
use Rattle.ei_spec.specs.Value.{Kind, U32, New, Text, Value, Word, Long, Letters}
use Rattle.ei_spec.specs.Reading.{Fault, ◌>>=◌, Unread, Read, number_at, text_at, some_text, of_bytes, read, ArgumentStop, ◌then◌, stopping, all_at}
use Rattle.ei_backend.specs.Table.{TableView}
use Rattle.ei_backend.specs.Message.{Parsed, announce, row_read}
use Rattle.ei_backend.specs.Backend.{BodyOutcome, outcome}

-- a kind of the handshake's arguments
abbrev pub IsPlain : Kind → Type 0
IsPlain U32 = Unit {0}
IsPlain New = Unit {0}
IsPlain Text = Unit {0}
IsPlain kind = ⊥

abbrev pub ArePlain : List Kind → Type 0
ArePlain [] = Unit {0}
ArePlain (k ∷ ks) = IsPlain k × ArePlain ks

abbrev Keeps : {A : Type 0} → ℕ → Result (A × Unread) Fault → Type 0
Keeps n (Ok x) = x.1.taken ≡ n
Keeps n (Err e) = Unit {0}

abbrev pub KeepsAll : ℕ → Result (List Value × Unread) ArgumentStop → Type 0
KeepsAll n (Ok x) = x.1.taken ≡ n
KeepsAll n (Err e) = Unit {0}

of_bytes_keeps : {A : Type 0} (f : A → Value) (s : Unread) (r : Result (A × List ℕ) Fault) → Keeps s.taken (of_bytes f s r)
of_bytes_keeps f s (Ok x) = refl
of_bytes_keeps f s (Err e) = tt

read_keeps : (k : Kind) (s : Unread) → IsPlain k → Keeps s.taken (read k s)
read_keeps U32 s p = of_bytes_keeps Word s (number_at w32 s.bytes)
read_keeps New s p = of_bytes_keeps Long s (number_at w64 s.bytes)
read_keeps Text s p = of_bytes_keeps Letters s (text_at s.bytes >>= λ t. some_text t.0 t.1)
read_keeps k s p = absurd p

abbrev list_then : Value → Result (List Value × Unread) ArgumentStop → Result (List Value × Unread) ArgumentStop
list_then v r = r then λ xs. Ok (v ∷ xs.0, xs.1)

list_keeps : (n : ℕ) (v : Value) (r : Result (List Value × Unread) ArgumentStop) → KeepsAll n r → KeepsAll n (list_then v r)
list_keeps n v (Ok x) h = h
list_keeps n v (Err e) h = tt

step_keeps : (m n : ℕ) (r : Read) (ks : List Kind) → Keeps n r → ((x : Unread) → x.taken ≡ n → KeepsAll n (all_at ks x)) → KeepsAll n (stopping m r then λ x. list_then x.0 (all_at ks x.1))
step_keeps m n (Ok x) ks e h = list_keeps n x.0 (all_at ks x.1) (h x.1 e)
step_keeps m n (Err f) ks e h = tt

all_keeps : (ks : List Kind) (s : Unread) (n : ℕ) → ArePlain ks → s.taken ≡ n → KeepsAll n (all_at ks s)
all_keeps [] s n h e = e
all_keeps (k ∷ ks) s n h e = step_keeps s.taken n (read k s) ks (subst (λ (m : ℕ). Keeps m (read k s)) e (read_keeps k s h.0)) (λ x same. all_keeps ks x n h.1 same)

-- what was said takes no handle
abbrev pub TakesNone : BodyOutcome → Result (List Value) Fault → Type 0
TakesNone o (Ok values) = o.taken ≡ 0
TakesNone o (Err fault) = Unit {0}

-- and changes no object
abbrev ChangesNone : TableView → BodyOutcome → Result (List Value) Fault → Type 0
ChangesNone t o (Ok values) = o.table ≡ t
ChangesNone t o (Err fault) = Unit {0}

module _ (len : ℕ) (t : TableView) where
  took : (p : Parsed) → p.unread.taken ≡ 0 → (said : Result (List Value) Fault) → TakesNone (outcome len t (Ok p)) said
  took p e (Ok values) = e
  took p e (Err fault) = tt

  refused : (f : ArgumentStop) (said : Result (List Value) Fault) → (outcome len t (Err f)).said ≡ said → TakesNone (outcome len t (Err f)) said
  refused f (Ok values) e = absurd cc
  refused f (Err fault) e = tt

  -- a row of such kinds
  pub row_takes : (r : Row) (s : Unread) → ArePlain r.kinds → s.taken ≡ 0 → TakesNone (outcome len t (row_read r s t)) (outcome len t (row_read r s t)).said
  row_takes r s plain none = by (all_at r.kinds s) refl (all_keeps r.kinds s 0 plain none)
    where
      announced : (x : List Value × Unread) (u : Result TableView Fault) → announce r.announces r.kinds x.0 t ≡ u → all_at r.kinds s ≡ Ok x → x.1.taken ≡ 0 → TakesNone (outcome len t (row_read r s t)) (outcome len t (row_read r s t)).said
      announced x (Err f) e a h = rw (a, e) (refused (f, x.1.taken) (Err f) refl)
      announced x (Ok u) e a h = rw (a, e) (took (record { values = x.0; table = u; unread = x.1 }) h (outcome len t (Ok (record { values = x.0; table = u; unread = x.1 }))).said)

      by : (a : Result (List Value × Unread) ArgumentStop) → all_at r.kinds s ≡ a → KeepsAll 0 a → TakesNone (outcome len t (row_read r s t)) (outcome len t (row_read r s t)).said
      by (Err f) a h = rw a (refused f (Err f.0) refl)
      by (Ok x) a h = announced x (announce r.announces r.kinds x.0 t) refl a h
