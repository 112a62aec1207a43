-- The receipts after the end of a callback.
use Rattle.std.proofs.Common.{◌≡◌, ℕ, List, subst}
use Rattle.std.specs.Ordering.{nat_cmp}
use Rattle.std.specs.FinMap.{FinMap, get}
use Rattle.ei_handler.specs.declared.receipt.Receipt.{Receipt}
use Rattle.ei_handler.specs.Handlers.{Keeps}

-- the same of the same handlers, callback and value, behind the same receipts
pub keeps_same : {H : Type 0} (may : H → ℕ → ℕ → Type 0) (waiting waiting2 : FinMap nat_cmp H) (id id2 value value2 : ℕ) (old old2 new : List Receipt) →
    waiting ≡ waiting2 → id ≡ id2 → value ≡ value2 → old ≡ old2 → Keeps may (get waiting id) id value old new → Keeps may (get waiting2 id2) id2 value2 old2 new
keeps_same may waiting waiting2 id id2 value value2 old old2 new there same worth before keeps =
    subst (λ (rs : List Receipt). Keeps may (get waiting2 id2) id2 value2 rs new) before
    (subst (λ (v : ℕ). Keeps may (get waiting2 id2) id2 v old new) worth
    (subst (λ (k : ℕ). Keeps may (get waiting2 k) k value old new) same
    (subst (λ (w : FinMap nat_cmp _). Keeps may (get w id) id value old new) there keeps)))
