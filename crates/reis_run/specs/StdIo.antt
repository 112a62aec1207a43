-- What standard input, standard output and the clock count, and what a writer holds of what standard output took.
use Rattle.std.specs.Prelude.{◌≡◌, ◌⊎◌, ℕ, ◌-◌, ◌/◌, ◌^◌, min, List, [], ◌++◌, Option, Some, None, Result, Ok, Err}
use Rattle.std.proofs.Common.{sym, ap, ◌∙◌, append_assoc}
use Rattle.std.proofs.lemmas.List.{append-nil}
use Rattle.ei_spec.specs.Piece.{Piece}
use Rattle.std.specs.Time.{instant_nanos, FitsClock}
use Rattle.std.specs.declared.time.Instant.{Instant}
use Rattle.ei_backend.specs.Memory.{counted}

-- each error is a fault, and nothing else is
abbrev pub Counts : {T E : Type 0} → Result T E → ℕ → ℕ → Type 0
Counts (Ok x) before now = now ≡ before
Counts (Err e) before now = now ≡ counted before

-- whole microseconds of some nanoseconds, up to the last value
abbrev pub whole_micros : ℕ → ℕ
whole_micros nanos = min (nanos / 1000) (2 ^ 64 - 1)

-- the faults of a clock that was just made: one where it got no start
abbrev pub faults_of_start : Option Instant → ℕ
faults_of_start None = 1
faults_of_start (Some start) = 0

-- there is a start, and these are the whole microseconds from it to an instant within a clock's range
abbrev pub IsSince : Option Instant → ℕ → Type 0
IsSince None micros = ⊥
IsSince (Some start) micros =
    (end : Instant) × FitsClock (instant_nanos end) × (micros ≡ whole_micros (instant_nanos end - instant_nanos start))

-- a time came and no fault is counted, or one is, and the last answer came again
abbrev pub ReadsOrRepeats : Option Instant → ℕ → ℕ → ℕ → ℕ → Type 0
ReadsOrRepeats start before now last answer =
    ((now ≡ before) × IsSince start answer) ⊎ ((now ≡ counted before) × (answer ≡ last))

-- ---- what was written

-- An output took these bytes behind those that it took before, and a writer that told what it held holds them behind that.
pub record Wrote (held_old held_new : Option (List ℕ)) (took_old took_new : Piece) : Type 0 where
  pub bytes : List ℕ
  pub took : took_new.bytes ≡ took_old.bytes ++ bytes
  pub holds : (held : List ℕ) → held_old ≡ Some held → held_new ≡ Some (held ++ bytes)

-- none were
pub wrote_none : (held : Option (List ℕ)) (took : Piece) → Wrote held held took took
wrote_none held took = record {
  bytes = [];
  took = sym (append-nil took.bytes);
  holds = λ h is. is ∙ ap (λ (x : List ℕ). Some x) (sym (append-nil h));
}

-- and then more
pub wrote_on : (a b c : Option (List ℕ)) (p q r : Piece) → Wrote a b p q → Wrote b c q r → Wrote a c p r
wrote_on a b c p q r x y = record {
  bytes = x.bytes ++ y.bytes;
  took = y.took ∙ ap (λ (v : List ℕ). v ++ y.bytes) x.took ∙ append_assoc p.bytes x.bytes y.bytes;
  holds = λ h is. y.holds (h ++ x.bytes) (x.holds h is) ∙ ap (λ (v : List ℕ). Some v) (append_assoc h x.bytes y.bytes);
}
