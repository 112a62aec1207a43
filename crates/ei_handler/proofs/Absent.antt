-- What isn't there can't be taken out.
use Rattle.std.proofs.Common.{◌≡◌, ℕ, Bool, true, false, cond, eqb, None, refl, sym, ap, ◌∙◌}
use Rattle.std.specs.Ordering.{nat_cmp}
use Rattle.std.specs.Cmp.{nat_cmp_total, unsigned_tied}
use Rattle.std.specs.FinMap.{FinMap, get, remove, get-remove, same_map, nat_cmp-IsAntisymmetric}
use Rattle.std.proofs.lemmas.Bool.{eqb-true}

-- a map without the key is as before
pub absent : {V : Type 0} (m : FinMap nat_cmp V) (key : ℕ) → get m key ≡ None → m ≡ remove m key
absent {V} m key none = same_map nat_cmp_total nat_cmp-IsAntisymmetric m (remove m key) (λ k.
    by (eqb k key) k refl ∙ sym (get-remove nat_cmp_total m key k ∙ ap (λ (b : Bool). cond b None (get m k)) (unsigned_tied k key)))
  where
    by : (b : Bool) (k : ℕ) → eqb k key ≡ b → get m k ≡ cond (eqb k key) None (get m k)
    by true k e = rw e (ap (λ (n : ℕ). get m n) (eqb-true k key e) ∙ none)
    by false k e = rw e refl
