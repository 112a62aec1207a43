-- An endpoint that reads one more piece.
use Rattle.std.proofs.Common.{◌≡◌, ℕ, Bool, true, false, Result, Ok, Err, refl, sym, ◌∙◌}
use Rattle.std.specs.Prelude.{◌↔◌, IsTrue, IsErrOf}
use Rattle.ei_wire.specs.declared.error.ReadError.{ReadError}
use Rattle.ei_wire.specs.declared.error.ReadError.TheVariants.{UnexpectedEof, ReadFault, HandleLimit, NoMemory}
use Rattle.ei_backend.specs.Outside.{SourceView}
use Rattle.ei_backend.specs.Incoming as incoming
use Rattle.ei_backend.specs.Backend.{BackendView, ReadsOn}

-- an endpoint with this unread, and closed or not
abbrev after : BackendView → incoming.IncomingView → Bool → BackendView
after b unread closed = record b { unread = unread.bytes; handles = unread.handles; capacity = unread.capacity; closed = closed }

abbrev unread_of : BackendView → incoming.IncomingView
unread_of b = record { bytes = b.unread; handles = b.handles; capacity = b.capacity }

same_after : (b : BackendView) (unread other : incoming.IncomingView) (closed : Bool) (now : Bool) → unread ≡ other → closed ≡ now → after b unread closed ≡ after b other now
same_after b unread other closed now e f = rw (e, f) refl

stays_open : (closed : Bool) (result : Result ℕ ReadError) → IsTrue closed ↔ IsErrOf result HandleLimit → (result ≡ Err HandleLimit → ⊥) → closed ≡ false
stays_open true result is none = absurd (none (is.0 refl))
stays_open false result is none = refl

closes : (closed : Bool) → IsTrue closed ↔ IsErrOf {T = ℕ} (Err HandleLimit) HandleLimit → closed ≡ true
closes true is = refl
closes false is = is.1 refl

pub reads_on : (before source : SourceView) (result : Result ℕ ReadError) (b : BackendView) (unread : incoming.IncomingView) (closed : Bool) → b.closed ≡ false →
    incoming.ReadsIn before source result (unread_of b) unread → IsTrue closed ↔ IsErrOf result HandleLimit → ReadsOn before source result b (after b unread closed)
reads_on before source (Ok n) b unread closed is_open h is = (h.0, h.1, h.2, same_after b unread _ closed b.closed h.3 (stays_open closed (Ok n) is (λ e. cc) ∙ sym is_open))
reads_on before source (Err HandleLimit) b unread closed is_open h is = (h.0, h.1, h.2, same_after b unread _ closed true h.3 (closes closed is))
reads_on before source (Err UnexpectedEof) b unread closed is_open h is = (h.0, same_after b unread _ closed b.closed h.1 (stays_open closed (Err UnexpectedEof) is (λ e. cc) ∙ sym is_open))
reads_on before source (Err ReadFault) b unread closed is_open h is = (h.0, same_after b unread _ closed b.closed h.1 (stays_open closed (Err ReadFault) is (λ e. cc) ∙ sym is_open))
reads_on before source (Err NoMemory) b unread closed is_open h is = (h.0, same_after b unread _ closed b.closed h.1 (stays_open closed (Err NoMemory) is (λ e. cc) ∙ sym is_open))
