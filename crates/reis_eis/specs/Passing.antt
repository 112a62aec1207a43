-- What is read into the endpoint of a phase, and flushed out of it.
use Rattle.std.specs.Prelude.{◌≡◌, ℕ, Result, Err, Ok}
use Rattle.ei_wire.specs.declared.error.ReadError.{ReadError}
use Rattle.ei_wire.specs.declared.error.ReadError.TheVariants as read_error
use Rattle.ei_wire.specs.declared.error.FlushError.{FlushError}
use Rattle.ei_backend.specs.Backend.{BackendView, Reads, unsent_of, with_unsent}
use Rattle.ei_backend.specs.Outgoing.{Flushes}
use Rattle.ei_backend.specs.Outside.{SourceView, SinkView}
use Rattle.reis_eis.specs.declared.phase.Phase.{Phase}
use Rattle.reis_eis.specs.declared.phase.Phase.TheVariants as phase
use Rattle.reis_eis.specs.Words.{shaking_with, with_ctx}

-- The endpoint read a piece, and nothing else of the phase changed.
pub record ReadsInto {S : Type 0} (view : S → SourceView) (later : S → S → Type 0) (result : Result ℕ ReadError) (old : BackendView) (with_read : BackendView → Phase)
    (new : Phase) (before after : S) : Type 0 where
  pub read : BackendView
  pub reads : Reads view later result old read before after
  pub is : new ≡ with_read read

abbrev pub ReadsPhase : {S : Type 0} → (S → SourceView) → (S → S → Type 0) → Result ℕ ReadError → Phase → Phase → S → S → Type 0
ReadsPhase view later result (phase.Shaking h) new before after = ReadsInto view later result h.context (λ b. phase.Shaking (shaking_with h b)) new before after
ReadsPhase view later result (phase.Standing c) new before after = ReadsInto view later result c.handle.ctx (λ b. phase.Standing (with_ctx c b)) new before after
ReadsPhase view later result phase.Between new before after = (result ≡ Err read_error.UnexpectedEof) × (new ≡ phase.Between)

-- The endpoint was flushed, and nothing else of the phase changed.
pub record FlushesFrom {K : Type 0} (view : K → SinkView) (later : K → K → Type 0) (result : Result (Unit {0}) FlushError) (old : BackendView)
    (with_left : BackendView → Phase) (new : Phase) (before after : K) : Type 0 where
  pub left : BackendView
  pub flushes : Flushes view later result (unsent_of old) (unsent_of left) before after
  pub is : new ≡ with_left (with_unsent (unsent_of left) old)

abbrev pub FlushesPhase : {K : Type 0} → (K → SinkView) → (K → K → Type 0) → Result (Unit {0}) FlushError → Phase → Phase → K → K → Type 0
FlushesPhase view later result (phase.Shaking h) new before after = FlushesFrom view later result h.context (λ b. phase.Shaking (shaking_with h b)) new before after
FlushesPhase view later result (phase.Standing c) new before after = FlushesFrom view later result c.handle.ctx (λ b. phase.Standing (with_ctx c b)) new before after
FlushesPhase view later result phase.Between new before after = (result ≡ Ok tt) × (new ≡ phase.Between)
