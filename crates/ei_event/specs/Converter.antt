-- The client's converter, by what a caller sees of it.
use Rattle.std.specs.Prelude.{◌≡◌, ℕ, List, [], ◌∷◌, Option, Some, None, Result, Ok, codes, refl}
use Rattle.std.specs.Ordering.{nat_cmp}
use Rattle.std.specs.FinMap as finite
use Rattle.std.specs.Coded.{Coded, code_by, coded×, coded_ℕ, coded_list}
use Rattle.ei_spec.specs.Interface.{ObjectView}
use Rattle.ei_spec.specs.Value.{Long}
use Rattle.ei_types.specs.declared.error.Error.{Error}
use Rattle.ei_backend.specs.Backend.{BackendView, after_row}
use Rattle.ei_client.specs.declared.event.Event.{Event as Typed}
use Rattle.ei_client.specs.declared.event.Event.TheVariants as event
use Rattle.ei_client.specs.declared.connection.Event.TheVariants as connection
use Rattle.ei_client.specs.declared.callback.Event.{Event as Callback}
use Rattle.ei_client.specs.declared.callback.Event.TheVariants as callback
use Rattle.ei_client.specs.Pingpong.{request}
use Rattle.ei_handler.specs.declared.receipt.Receipt.{Receipt}
use Rattle.ei_handler.specs.contracts.receipt.Receipt as receipt
use Rattle.ei_handler.specs.Handlers.{Keeps}
use Rattle.ei_event.specs.Connection.{ConnectionView}
use Rattle.ei_event.specs.declared.event.EiEvent.{EiEvent}
use Rattle.ei_event.specs.Kept.{KeptView, kept_code, new_kept}

-- what it keeps of the connection, the seats and the devices, with what it has queued; the handlers that wait, by the ids of their
-- callbacks; and the receipts in the order of the calls
pub record ConverterView (H : Type 0) : Type 0 where
  pub kept : KeptView
  pub waiting : finite.FinMap nat_cmp H
  pub receipts : List Receipt

abbrev pub converter_code : {H : Type 0} → Coded H → Coded (ConverterView H)
converter_code {H} code = code_by (KeptView × (finite.FinMap nat_cmp H × List Receipt))
    (coded× kept_code (coded× (finite.code coded_ℕ code) (coded_list receipt.the_row.coded)))
    (λ c. (c.kept, (c.waiting, c.receipts))) (λ p. record { kept = p.0; waiting = p.1.0; receipts = p.1.1 }) (λ _. refl)

-- right after the handshake it keeps the connection alone
abbrev pub new_converter : {H : Type 0} → ConnectionView → ConverterView H
new_converter c = record { kept = new_kept c; waiting = finite.empty; receipts = [] }

-- what is queued is this now, and all else as before
abbrev pub with_queue : {H : Type 0} → List EiEvent → ConverterView H → ConverterView H
with_queue queue c = record c { kept = record c.kept { queue = queue } }

-- ---- a ping

-- the ping that an event announces
abbrev pub ping_in : Typed → Option ObjectView
ping_in (event.Connection target (connection.Ping ping)) = Some ping
ping_in e = None

-- it is answered by `done` with 0, and is gone then
abbrev pub answered : Option ObjectView → BackendView → BackendView
answered None ctx = ctx
answered (Some ping) ctx = after_row (request (codes "done")) ping (Long 0 ∷ []) ctx

-- ---- the end of a callback

-- the callback that an event ends, with its value
pub record Ended : Type 0 where
  pub id : ℕ
  pub value : ℕ

abbrev pub value_of : Callback → ℕ
value_of (callback.Done value) = value

abbrev pub callback_in : Typed → Option Ended
callback_in (event.Callback target m) = Some (record { id = target.id; value = value_of m })
callback_in e = None

-- The receipts after a call: one more where a handler waited for the callback that the event ends, whose answer is one that the
-- handler may give; else, and where the call is refused, as before.
abbrev pub Receives : {H : Type 0} → (H → ℕ → ℕ → Type 0) → Option Ended → Result Unit Error → finite.FinMap nat_cmp H → (old new : List Receipt) → Type 0
Receives may (Some c) (Ok x) waiting old new = Keeps may (finite.get waiting c.id) c.id c.value old new
Receives may c result waiting old new = new ≡ old

-- the handlers after a call: without that of the callback that the event ends
abbrev pub without_called : {H : Type 0} → Option Ended → Result Unit Error → finite.FinMap nat_cmp H → finite.FinMap nat_cmp H
without_called (Some c) (Ok x) waiting = finite.remove waiting c.id
without_called c result waiting = waiting
