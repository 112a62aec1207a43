-- No handle comes later than its message.
use Rattle.std.proofs.Common.{◌≡◌, ℕ, ◌+◌, ◌*◌, ◌<◌, ◌≤◌, inl, inr, List, [], ◌∷◌, ◌++◌, length, refl, sym, ap, ◌∙◌, length-append, append_assoc, append-nil}
use Rattle.std.proofs.Common.{arith}
use Rattle.std.specs.Prelude.{◌-◌}
use Rattle.std.specs.List.{flat_map}
use Rattle.std.proofs.lemmas.Bool.{le-leb, lt-leb, cases_lt}
use Rattle.ei_spec.specs.Message.{size}
use Rattle.ei_spec.proofs.Cuts.{size_is}
use Rattle.ei_ends.specs.Sent.{Sent, raw_of, bytes_in, handles_in, spelled}
use Rattle.ei_ends.specs.Agree.{handles_sent}
use Rattle.ei_ends.specs.Way.{onto, needed}
use Rattle.ei_spec.specs.Arguments.{HasFewHandles}

-- each has at most one handle, and with one it has at least 24 bytes
abbrev pub AllFew : List Sent → Type 0
AllFew [] = Unit {0}
AllFew (m ∷ ms) = HasFewHandles m.values × AllFew ms

pub needed_fits : (n : ℕ) (m : Sent) (ms : List Sent) → size (raw_of m) ≤ n → needed n (m ∷ ms) ≡ length (handles_in m) + needed (n - size (raw_of m)) ms
unfolding needed
needed_fits n m ms le = rw (le-leb (size (raw_of m)) n le) refl

pub needed_not : (n : ℕ) (m : Sent) (ms : List Sent) → n < size (raw_of m) → needed n (m ∷ ms) ≡ 0
unfolding needed
needed_not n m ms lt = rw (lt-leb (size (raw_of m)) n lt) refl

pub needed_none : (n : ℕ) → needed n [] ≡ 0
unfolding needed
needed_none n = refl

-- from where a message begins
aligned : (n : ℕ) (ms : List Sent) → AllFew ms → 24 * needed n ms ≤ n
aligned n [] h = omega (arith, needed_none n)
aligned n (m ∷ ms) h = elim (cases_lt n (size (raw_of m))) [
  | inl lt ↦ omega (arith, needed_not n m ms lt)
  | inr le ↦ omega (arith, needed_fits n m ms le, h.0.long, aligned (n - size (raw_of m)) ms h.1)
]

-- n bytes more complete at most so many
pub few_more : (a n : ℕ) (ms : List Sent) → AllFew ms → 24 * needed (a + n) ms ≤ 24 * needed a ms + n + 23
few_more a n [] h = omega (arith, needed_none (a + n))
few_more a n (m ∷ ms) h = elim (cases_lt a (size (raw_of m))) [
  | inl lt ↦ elim (cases_lt (a + n) (size (raw_of m))) [
    | inl none ↦ omega (arith, needed_not (a + n) m ms none)
    | inr le ↦ omega (arith, needed_fits (a + n) m ms le, needed_not a m ms lt, h.0.one, aligned (a + n - size (raw_of m)) ms h.1, lt)
  ]
  | inr le ↦
      let same : a + n - size (raw_of m) ≡ (a - size (raw_of m)) + n = omega (arith, le) in
      let there : needed (a + n) (m ∷ ms) ≡ length (handles_in m) + needed ((a - size (raw_of m)) + n) ms = needed_fits (a + n) m ms (omega (arith, le)) ∙ ap (λ k. length (handles_in m) + needed k ms) same in
      omega (arith, there, needed_fits a m ms le, few_more (a - size (raw_of m)) n ms h.1)
]

pub needed_all : (n : ℕ) (ms : List Sent) → needed n ms ≤ length (flat_map handles_in ms)
needed_all n [] = omega (arith, needed_none n)
needed_all n (m ∷ ms) = elim (cases_lt n (size (raw_of m))) [
  | inl lt ↦ omega (arith, needed_not n m ms lt)
  | inr le ↦ omega (arith, needed_fits n m ms le, needed_all (n - size (raw_of m)) ms, length-append (handles_in m) (flat_map handles_in ms))
]

pub bytes_length : (m : Sent) → length (bytes_in m) ≡ size (raw_of m)
unfolding bytes_in
bytes_length m = size_is (raw_of m)

-- one more message isn't whole within the bytes of those before it
pub needed_more : (n : ℕ) (ms : List Sent) (r : Sent) → n ≤ length (spelled ms) → needed n (ms ++ (r ∷ [])) ≡ needed n ms
needed_more n [] r le = needed_not n r [] (omega (arith, le)) ∙ sym (needed_none n)
needed_more n (m ∷ ms) r le = elim (cases_lt n (size (raw_of m))) [
  | inl lt ↦ needed_not n m (ms ++ (r ∷ [])) lt ∙ sym (needed_not n m ms lt)
  | inr fits ↦
      let l = length-append (bytes_in m) (spelled ms) in
      needed_fits n m (ms ++ (r ∷ [])) fits
      ∙ ap (λ k. length (handles_in m) + k) (needed_more (n - size (raw_of m)) ms r (omega (arith, le, l, bytes_length m)))
      ∙ sym (needed_fits n m ms fits)
]

-- ---- all handles

pub handles_onto : (ms past : List Sent) → handles_sent (onto ms past) ≡ handles_sent past ++ flat_map handles_in ms
unfolding handles_sent
handles_onto [] past = simp append-nil
handles_onto (m ∷ ms) past = handles_onto ms (m ∷ past) ∙ append_assoc (handles_sent past) (handles_in m) (flat_map handles_in ms)

pub needed_le : (a b : ℕ) (ms : List Sent) → a ≤ b → needed a ms ≤ needed b ms
needed_le a b [] le = omega (arith, needed_none a)
needed_le a b (m ∷ ms) le = elim (cases_lt a (size (raw_of m))) [
  | inl lt ↦ omega (arith, needed_not a m ms lt)
  | inr fits ↦ omega (arith, needed_fits a m ms fits, needed_fits b m ms (omega (arith, fits, le)), needed_le (a - size (raw_of m)) (b - size (raw_of m)) ms (omega (arith, le)))
]
