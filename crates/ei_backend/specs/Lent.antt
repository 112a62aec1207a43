-- What a call that was lent an object of the outside says of it: when it answers its fault, and that it leaves a later object.
use Rattle.std.specs.Prelude.{◌≡◌, ◌≤◌, ◌<◌, ℕ}
use Rattle.ei_backend.specs.Outside.{Rose, SourceView, SinkView}
use Rattle.ei_backend.specs.declared.outside.LastAnswer.TheVariants as answers

-- A source. A read fault is answered only where its count of faults rose, or stands at its last value, and wherever the count
-- rose; behind it the source's last answer is a fault, and behind its end, where that is answered, the end.
pub record LentSource {S : Type 0} (view : S → SourceView) (later : S → S → Type 0) (failed ended : Type 0) (old new : S) : Type 0 where
  pub read_fault : failed → Rose (view old).faults (view new).faults
  pub read_risen : (view old).faults < (view new).faults → failed
  pub read_faults : (view old).faults ≤ (view new).faults
  pub last_fault : failed → (view new).last ≡ answers.Fault
  pub last_end : ended → (view new).last ≡ answers.End
  pub later_source : later old new

-- A sink. A write fault is answered only where its count of faults rose, or stands at its last value, and wherever the count rose.
-- Neither this count nor that of its wants has fallen.
pub record LentSink {K : Type 0} (view : K → SinkView) (later : K → K → Type 0) (failed : Type 0) (old new : K) : Type 0 where
  pub write_fault : failed → Rose (view old).faults (view new).faults
  pub write_risen : (view old).faults < (view new).faults → failed
  pub write_faults : (view old).faults ≤ (view new).faults
  pub write_wants : (view old).wants ≤ (view new).wants
  pub later_sink : later old new

-- A sink whose wants of memory are told apart from other wants. Want of memory is answered only where its count of wants rose, or
-- stands at its last value, and wherever the count rose.
pub record LentSinkWants {K : Type 0} (view : K → SinkView) (later : K → K → Type 0) (failed wanted : Type 0) (old new : K) : Type 0 where
  pub lent : LentSink view later failed old new
  pub want : wanted → Rose (view old).wants (view new).wants
  pub want_risen : (view old).wants < (view new).wants → wanted

-- A clock.
pub record LentClock {C : Type 0} (later : C → C → Type 0) (old new : C) : Type 0 where
  pub later_clock : later old new
