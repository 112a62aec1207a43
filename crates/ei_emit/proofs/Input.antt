-- What the pair answers to an input.
use Rattle.std.proofs.Common.{◌≡◌, ℕ, Bool, true, false, List, Result, Ok, Err, sym, subst}
use Rattle.std.specs.Prelude.{OnOk, IsErrOf}
use Rattle.ei_spec.specs.Interface.{ObjectView}
use Rattle.ei_wire.specs.declared.error.NoMemory.{NoMemory}
use Rattle.ei_wire.specs.declared.error.SendError.{SendError}
use Rattle.ei_wire.specs.declared.error.SendError.TheVariants as send_error
use Rattle.ei_values.specs.declared.value.Value.{Value as Stored}
use Rattle.ei_linked.specs.declared.side.Side.TheVariants as side
use Rattle.ei_promises.specs.declared.calls.ServerCall.{ServerCall}
use Rattle.ei_promises.specs.declared.calls.ServerCall.TheVariants as call
use Rattle.ei_promises.specs.declared.calls.Made.{Made}
use Rattle.ei_promises.specs.Pair.{PairView, is_done}
use Rattle.ei_promises.specs.Calling.{DoesAt}
use Rattle.ei_pair.specs.Calls.{SendsAt, ComesExactly, IsLongAt}
use Rattle.ei_emit.specs.Performing.{IsInputCall, AnswersInput}
use Rattle.ei_emit.proofs.Calling.{which_serves, has_made}

module _ {H : Type 0} (target : ObjectView) (opcode : ℕ) (values : List Stored) (old new : PairView H) (result : Result Made SendError) where
  abbrev Comes : ServerCall → Type 0
  Comes asked = ComesExactly asked result send_error.MessageTooLong (IsLongAt old.server asked)

  fits : (asked : ServerCall) (answer : Made) → IsInputCall target opcode values asked → result ≡ Ok answer → Comes asked → IsLongAt old.server asked → ⊥
  fits (call.Input object code given) answer i e c = subst (λ (r : Result Made SendError). OnOk r (IsLongAt old.server (call.Input object code given) → ⊥)) e c.1
  fits other answer i e c = absurd i

  long : (asked : ServerCall) → IsInputCall target opcode values asked → result ≡ Err send_error.MessageTooLong → Comes asked → IsLongAt old.server asked
  long (call.Input object code given) i e c = c.0 e
  long other i e c = absurd i

  -- it was sent
  pub was_input : (asked : ServerCall) (answer : Made) → IsInputCall target opcode values asked → result ≡ Ok answer → is_done side.Server old ≡ true →
      (new.ends.spent ≡ false → DoesAt old.server asked old result new) →
      (new.ends.spent ≡ true → IsErrOf result send_error.NoMemory) → OnOk result (SendsAt old.server asked old new) → Comes asked →
      (r : Result Bool NoMemory) → r ≡ Ok true → AnswersInput target opcode values r old new
  was_input asked answer i e done does memory sends comes r is =
      let s = which_serves old.server done in
      subst (λ (x : Result Bool NoMemory). AnswersInput target opcode values x old new) (sym is) (record {
        asked = asked;
        is = i;
        short = fits asked answer i e comes;
        answer = answer;
        made = has_made asked old new answer s.0 s.1 (λ whole. subst (λ (x : Result Made SendError). DoesAt old.server asked old x new) e (does whole))
            (λ spent. subst (λ (x : Result Made SendError). IsErrOf x send_error.NoMemory) e (memory spent)) (subst (λ (x : Result Made SendError). OnOk x (SendsAt old.server asked old new)) e sends);
      })

  -- its message is too long
  pub was_long : (asked : ServerCall) → IsInputCall target opcode values asked → result ≡ Err send_error.MessageTooLong → Comes asked → (r : Result Bool NoMemory) → r ≡ Ok false →
      AnswersInput target opcode values r old new
  was_long asked i e comes r is = subst (λ (x : Result Bool NoMemory). AnswersInput target opcode values x old new) (sym is) (record { asked = asked; is = i; long = long asked i e comes })

  -- or memory was wanted
  pub was_none : (e : NoMemory) (r : Result Bool NoMemory) → r ≡ Err e → AnswersInput target opcode values r old new
  was_none e r is = subst (λ (x : Result Bool NoMemory). AnswersInput target opcode values x old new) (sym is) tt
