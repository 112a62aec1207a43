-- A map that is written as it was is the same.
use Rattle.std.proofs.Common.{◌≡◌, ℕ, Bool, true, false, cond, eqb, Some, refl, sym, ap, ◌∙◌}
use Rattle.std.specs.Ordering.{nat_cmp}
use Rattle.std.specs.Cmp.{nat_cmp_total, unsigned_tied}
use Rattle.std.specs.FinMap.{FinMap, get, insert, get-insert, same_map, nat_cmp-IsAntisymmetric}
use Rattle.std.proofs.lemmas.Bool.{eqb-true}

-- what a key has after a write
pub get_written : {V : Type 0} (m : FinMap nat_cmp V) (key k : ℕ) (v : V) → get (insert m key v) k ≡ cond (eqb k key) (Some v) (get m k)
get_written m key k v = get-insert nat_cmp_total m key v k ∙ ap (λ (b : Bool). cond b (Some v) (get m k)) (unsigned_tied k key)

pub same : {V : Type 0} (m : FinMap nat_cmp V) (key : ℕ) (v : V) → get m key ≡ Some v → m ≡ insert m key v
same {V} m key v found = same_map nat_cmp_total nat_cmp-IsAntisymmetric m (insert m key v) (λ k. by (eqb k key) k refl ∙ sym (get_written m key k v))
  where
    by : (b : Bool) (k : ℕ) → eqb k key ≡ b → get m k ≡ cond (eqb k key) (Some v) (get m k)
    by true k e = rw e (ap (λ (n : ℕ). get m n) (eqb-true k key e) ∙ found)
    by false k e = rw e refl
