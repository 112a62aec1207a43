-- The handlers that wait, and what the end of a callback does to them.
use Rattle.std.specs.Prelude.{◌≡◌, ℕ, List, [], ◌∷◌, ◌++◌, Option, Some, None, refl}
use Rattle.std.specs.Ordering.{nat_cmp}
use Rattle.std.specs.FinMap as finite
use Rattle.std.specs.Coded.{Coded, code_by, coded×, coded_ℕ, coded_list}
use Rattle.ei_handler.specs.declared.receipt.Receipt.{Receipt}
use Rattle.ei_handler.specs.contracts.receipt.Receipt as receipt

-- the handlers that wait, by the ids of their callbacks, and the receipts in the order of the calls
pub record HandlersView (H : Type 0) : Type 0 where
  pub waiting : finite.FinMap nat_cmp H
  pub receipts : List Receipt

abbrev pub handlers_code : {H : Type 0} → Coded H → Coded (HandlersView H)
handlers_code {H} code = code_by (finite.FinMap nat_cmp H × List Receipt) (coded× (finite.code coded_ℕ code) (coded_list receipt.the_row.coded))
    (λ h. (h.waiting, h.receipts)) (λ p. record { waiting = p.0; receipts = p.1 }) (λ _. refl)

-- The receipts after the end of a callback: one more where a handler waited, whose answer is one that the handler may give.
abbrev pub Keeps : {H : Type 0} → (H → ℕ → ℕ → Type 0) → Option H → (callback value : ℕ) → (old new : List Receipt) → Type 0
Keeps may None callback value old new = new ≡ old
Keeps may (Some handler) callback value old new = (answer : ℕ) × may handler value answer
    × (new ≡ old ++ record { callback = callback; value = value; answer = answer } ∷ [])
