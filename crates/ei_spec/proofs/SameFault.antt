-- The handles that wait make no difference to a refusal, but for a handle that isn't there.
use Rattle.std.proofs.Common.{◌≡◌, ◌⊎◌, inl, inr, ℕ, ◌+◌, List, [], ◌∷◌, Option, Some, None, Result, Ok, Err, refl, ap, sym, ◌∙◌}
use Rattle.std.specs.Prelude.{◌≢◌}
use Rattle.std.specs.Int.{w32, w64, cast_signed}
use Rattle.ei_spec.specs.declared.handle.Handle.{Handle as Descriptor}
use Rattle.ei_spec.specs.Value.{Kind, U32, I32, U64, I64, Float, Text, Nullable, Handle, New, Choice, OpenChoice, Value, Word, Long, Signed, SignedLong}
use Rattle.ei_spec.specs.Value.{Letters}
use Rattle.ei_spec.specs.Reading.{Fault, NoFd, ◌>>=◌, Unread, Read, number_at, text_at, some_text, or_null, choice_at, of_bytes, of_handle, read}
use Rattle.ei_spec.specs.Reading.{ArgumentStop, ◌then◌}
use Rattle.ei_spec.specs.Reading.{stopping, all_at}

-- the same bytes are left, and as many handles are taken; or the same refusal came
abbrev Alike : Read → Read → Type 0
Alike (Ok x) (Ok y) = (x.1.bytes ≡ y.1.bytes) × (x.1.taken ≡ y.1.taken)
Alike (Ok x) (Err f) = f ≡ NoFd
Alike (Err f) (Ok y) = f ≡ NoFd
Alike (Err f) (Err g) = f ≡ g

of_bytes_alike : {A : Type 0} (f : A → Value) (s t : Unread) (r : Result (A × List ℕ) Fault) → s.taken ≡ t.taken → Alike (of_bytes f s r) (of_bytes f t r)
of_bytes_alike f s t (Ok x) e = (refl, e)
of_bytes_alike f s t (Err g) e = refl

bytes_alike : {A : Type 0} (f : A → Value) (s t : Unread) (r : List ℕ → Result (A × List ℕ) Fault) → s.bytes ≡ t.bytes → s.taken ≡ t.taken →
    Alike (of_bytes f s (r s.bytes)) (of_bytes f t (r t.bytes))
bytes_alike f s t r same e = rw same (of_bytes_alike f s t (r t.bytes) e)

handles_alike : (s t : Unread) (o p : Option Descriptor) → s.bytes ≡ t.bytes → s.taken ≡ t.taken → Alike (of_handle s o) (of_handle t p)
handles_alike s t None None same e = refl
handles_alike s t None (Some h) same e = refl
handles_alike s t (Some h) None same e = refl
handles_alike s t (Some h) (Some k) same e = (same, ap (λ (n : ℕ). n + 1) e)

read_alike : (k : Kind) (s t : Unread) → s.bytes ≡ t.bytes → s.taken ≡ t.taken → Alike (read k s) (read k t)
read_alike U32 s t same e = bytes_alike Word s t (number_at w32) same e
read_alike I32 s t same e = bytes_alike (λ n. Signed (cast_signed w32 n)) s t (number_at w32) same e
read_alike U64 s t same e = bytes_alike Long s t (number_at w64) same e
read_alike I64 s t same e = bytes_alike (λ n. SignedLong (cast_signed w64 n)) s t (number_at w64) same e
read_alike New s t same e = bytes_alike Long s t (number_at w64) same e
read_alike Float s t same e = bytes_alike Word s t (number_at w32) same e
read_alike Text s t same e = bytes_alike Letters s t (λ b. text_at b >>= λ t. some_text t.0 t.1) same e
read_alike Nullable s t same e = bytes_alike or_null s t text_at same e
read_alike Handle s t same e = handles_alike s t _ _ same e
read_alike (Choice name values) s t same e = bytes_alike Word s t (choice_at name values) same e
read_alike OpenChoice s t same e = bytes_alike Word s t (number_at w32) same e

-- ---- one argument

fault_again : {A : Type 0} (f : A → Value) (s t : Unread) (r : Result (A × List ℕ) Fault) (g : Fault) → of_bytes f s r ≡ Err g → of_bytes f t r ≡ Err g
fault_again f s t (Ok x) g h = absurd cc
fault_again f s t (Err e) g h = cc

bytes_fault : {A : Type 0} (f : A → Value) (s t : Unread) (r : List ℕ → Result (A × List ℕ) Fault) (g : Fault) → s.bytes ≡ t.bytes → of_bytes f s (r s.bytes) ≡ Err g →
    of_bytes f t (r t.bytes) ≡ Err g
bytes_fault f s t r g same h = fault_again f s t (r t.bytes) g (ap (λ (b : List ℕ). of_bytes f s (r b)) (sym same) ∙ h)

handle_fault : (s : Unread) (o : Option Descriptor) (g : Fault) → of_handle s o ≡ Err g → g ≡ NoFd
handle_fault s None g h = cc
handle_fault s (Some d) g h = absurd cc

pub same_one : (k : Kind) (s t : Unread) (g : Fault) → s.bytes ≡ t.bytes → g ≢ NoFd → read k s ≡ Err g → read k t ≡ Err g
same_one U32 s t g same other h = bytes_fault Word s t (number_at w32) g same h
same_one I32 s t g same other h = bytes_fault (λ n. Signed (cast_signed w32 n)) s t (number_at w32) g same h
same_one U64 s t g same other h = bytes_fault Long s t (number_at w64) g same h
same_one I64 s t g same other h = bytes_fault (λ n. SignedLong (cast_signed w64 n)) s t (number_at w64) g same h
same_one New s t g same other h = bytes_fault Long s t (number_at w64) g same h
same_one Float s t g same other h = bytes_fault Word s t (number_at w32) g same h
same_one Text s t g same other h = bytes_fault Letters s t (λ b. text_at b >>= λ t. some_text t.0 t.1) g same h
same_one Nullable s t g same other h = bytes_fault or_null s t text_at g same h
same_one Handle s t g same other h = absurd (other (handle_fault s _ g h))
same_one (Choice name values) s t g same other h = bytes_fault Word s t (choice_at name values) g same h
same_one OpenChoice s t g same other h = bytes_fault Word s t (number_at w32) g same h

-- ---- arguments, one after another

abbrev list_then : Value → Result (List Value × Unread) ArgumentStop → Result (List Value × Unread) ArgumentStop
list_then v r = r then λ xs. Ok (v ∷ xs.0, xs.1)

-- the same refusal, or a handle that isn't there
abbrev SameOrNoFd : ArgumentStop → Result (List Value × Unread) ArgumentStop → Type 0
SameOrNoFd stop r = (r ≡ Err stop) ⊎ ((taken : ℕ) × (r ≡ Err (NoFd, taken)))

then_stop : (v : Value) (r : Result (List Value × Unread) ArgumentStop) (stop : ArgumentStop) → list_then v r ≡ Err stop → r ≡ Err stop
then_stop v (Ok x) stop h = absurd cc
then_stop v (Err e) stop h = cc

stop_then : (v : Value) (r : Result (List Value × Unread) ArgumentStop) (stop : ArgumentStop) → SameOrNoFd stop r → SameOrNoFd stop (list_then v r)
stop_then v r stop (inl e) = inl (ap (list_then v) e)
stop_then v r stop (inr e) = inr (e.0, ap (list_then v) e.1)

same_fault : (f : Fault) (m : ℕ) (stop : ArgumentStop) → ◌≡◌ {A = Result (List Value × Unread) ArgumentStop} (Err (f, m)) (Err stop) → f ≡ stop.0
same_fault f m stop h = let pair : ◌≡◌ {A = ArgumentStop} (f, m) stop = cc in ap (λ (p : ArgumentStop). p.0) pair

stepped : (m n : ℕ) (r q : Read) (ks : List Kind) (stop : ArgumentStop) → m ≡ n → Alike r q → stop.0 ≢ NoFd →
    ((x y : Unread) → x.bytes ≡ y.bytes → x.taken ≡ y.taken → all_at ks x ≡ Err stop → SameOrNoFd stop (all_at ks y)) →
    (stopping m r then λ x. list_then x.0 (all_at ks x.1)) ≡ Err stop → SameOrNoFd stop (stopping n q then λ x. list_then x.0 (all_at ks x.1))
stepped m n (Ok x) (Ok y) ks stop e alike other behind h =
    stop_then y.0 (all_at ks y.1) stop (behind x.1 y.1 alike.0 alike.1 (then_stop x.0 (all_at ks x.1) stop h))
stepped m n (Ok x) (Err f) ks stop e alike other behind h = inr (n, ap (λ (g : Fault). Err (g, n)) alike)
stepped m n (Err f) (Ok y) ks stop e alike other behind h = absurd (other (sym (same_fault f m stop h) ∙ alike))
stepped m n (Err f) (Err g) ks stop e alike other behind h =
    inl (ap (λ (k : ℕ). Err (g, k)) (sym e) ∙ ap (λ (k : Fault). Err (k, m)) (sym alike) ∙ h)

pub same_all : (ks : List Kind) (s t : Unread) (stop : ArgumentStop) → s.bytes ≡ t.bytes → s.taken ≡ t.taken → stop.0 ≢ NoFd → all_at ks s ≡ Err stop → SameOrNoFd stop (all_at ks t)
same_all [] s t stop same e other h = absurd cc
same_all (k ∷ ks) s t stop same e other h =
    stepped s.taken t.taken (read k s) (read k t) ks stop e (read_alike k s t same e) other (λ x y b n stops. same_all ks x y stop b n other stops) h
