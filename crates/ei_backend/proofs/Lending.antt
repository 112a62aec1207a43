-- What a call says of an object that it was lent: where it doesn't touch it, in other words, and of two calls in a row.
use Rattle.std.proofs.Common.{◌≤◌, ◌<◌, ◌+◌, ◌-◌, ◌^◌, ℕ, inl, inr, arith}
use Rattle.std.specs.Prelude.{min}
use Rattle.std.proofs.lemmas.Bool.{cases_lt}
use Rattle.std.proofs.Math.Nat.{le_trans, min-le_left, min-le_right, le-min}
use Rattle.ei_backend.specs.Outside.{Rose, SourceView, SinkView}
use Rattle.ei_backend.specs.Lent.{LentSource, LentSink, LentClock}

-- a count that rose since a later value rose since an earlier one
pub rose_since : (a b c : ℕ) → a ≤ b → Rose b c → Rose a c
rose_since a b c h r = le_trans {n = min (a + 1) (2 ^ 64 - 1)} {m = min (b + 1) (2 ^ 64 - 1)} (le-min (le_trans (min-le_left (a + 1) (2 ^ 64 - 1)) (omega (arith, h))) (min-le_right (a + 1) (2 ^ 64 - 1))) r

-- a count that would tell of what is not
not_risen : {a b : ℕ} {P : Type 0} → (a < b → P) → (P → ⊥) → b ≤ a
not_risen {a = a} {b = b} tells none = elim (cases_lt a b) [ inl lt ↦ absurd (none (tells lt)) | inr le ↦ le ]

-- ---- a source

-- one that isn't touched, where the answer is neither its fault nor its end
pub untouched_source : {S : Type 0} {view : S → SourceView} {later : S → S → Type 0} {x : S} → later x x → LentSource view later ⊥ ⊥ x x
untouched_source l = record {
  read_fault = λ f. absurd f;
  read_risen = λ r. absurd (omega (arith, r));
  read_faults = omega arith;
  last_fault = λ f. absurd f;
  last_end = λ e. absurd e;
  later_source = l;
}

-- where another answer tells of the fault as this one, and of the end no more often
pub source_as : {S : Type 0} {view : S → SourceView} {later : S → S → Type 0} {failed ended failed_too ended_too : Type 0} {x y : S} →
    (failed → failed_too) → (failed_too → failed) → (ended_too → ended) →
    LentSource view later failed ended x y → LentSource view later failed_too ended_too x y
source_as to from end h = record {
  read_fault = λ f. h.read_fault (from f);
  read_risen = λ r. to (h.read_risen r);
  read_faults = h.read_faults;
  last_fault = λ f. h.last_fault (from f);
  last_end = λ e. h.last_end (end e);
  later_source = h.later_source;
}

-- two calls in a row, the first of which didn't answer the fault, are one
pub source_twice : {S : Type 0} {view : S → SourceView} {later : S → S → Type 0} {failed_first ended_first failed ended : Type 0} {x y z : S} →
    ((a b c : S) → later a b → later b c → later a c) → (failed_first → ⊥) →
    LentSource view later failed_first ended_first x y → LentSource view later failed ended y z → LentSource view later failed ended x z
source_twice trans none first second = record {
  read_fault = λ f. rose_since _ _ _ first.read_faults (second.read_fault f);
  read_risen = λ r. second.read_risen (omega (arith, r, not_risen first.read_risen none));
  read_faults = omega (arith, first.read_faults, second.read_faults);
  last_fault = second.last_fault;
  last_end = second.last_end;
  later_source = trans _ _ _ first.later_source second.later_source;
}

-- ---- a sink

-- one that isn't touched, where the answer isn't its fault
pub untouched_sink : {K : Type 0} {view : K → SinkView} {later : K → K → Type 0} {x : K} → later x x → LentSink view later ⊥ x x
untouched_sink l = record {
  write_fault = λ f. absurd f;
  write_risen = λ r. absurd (omega (arith, r));
  write_faults = omega arith;
  write_wants = omega arith;
  later_sink = l;
}

-- where another answer tells of the fault as this one
pub sink_as : {K : Type 0} {view : K → SinkView} {later : K → K → Type 0} {failed failed_too : Type 0} {x y : K} →
    (failed → failed_too) → (failed_too → failed) → LentSink view later failed x y → LentSink view later failed_too x y
sink_as to from h = record {
  write_fault = λ f. h.write_fault (from f);
  write_risen = λ r. to (h.write_risen r);
  write_faults = h.write_faults;
  write_wants = h.write_wants;
  later_sink = h.later_sink;
}

-- two calls in a row, the first of which didn't answer the fault, are one
pub sink_twice : {K : Type 0} {view : K → SinkView} {later : K → K → Type 0} {failed_first failed : Type 0} {x y z : K} →
    ((a b c : K) → later a b → later b c → later a c) → (failed_first → ⊥) →
    LentSink view later failed_first x y → LentSink view later failed y z → LentSink view later failed x z
sink_twice trans none first second = record {
  write_fault = λ f. rose_since _ _ _ first.write_faults (second.write_fault f);
  write_risen = λ r. second.write_risen (omega (arith, r, not_risen first.write_risen none));
  write_faults = omega (arith, first.write_faults, second.write_faults);
  write_wants = omega (arith, first.write_wants, second.write_wants);
  later_sink = trans _ _ _ first.later_sink second.later_sink;
}

-- ---- a clock

-- one that isn't touched
pub untouched_clock : {C : Type 0} {later : C → C → Type 0} {x : C} → later x x → LentClock later x x
untouched_clock l = record { later_clock = l }

-- two calls in a row are one
pub clock_twice : {C : Type 0} {later : C → C → Type 0} {x y z : C} → ((a b c : C) → later a b → later b c → later a c) → LentClock later x y → LentClock later y z → LentClock later x z
clock_twice trans first second = record { later_clock = trans _ _ _ first.later_clock second.later_clock }
