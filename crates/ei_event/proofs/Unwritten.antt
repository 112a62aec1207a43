-- A value that is put in as it was.
use Rattle.std.proofs.Common.{◌≡◌, ℕ, Bool, true, false, cond, eqb, Some, refl, sym, ap, ◌∙◌}
use Rattle.std.specs.Ordering.{nat_cmp}
use Rattle.std.specs.Cmp.{nat_cmp_total, unsigned_tied}
use Rattle.std.specs.FinMap.{FinMap, get, insert, get-insert, same_map, nat_cmp-IsAntisymmetric}
use Rattle.std.proofs.lemmas.Bool.{eqb-true}

pub unwritten : {V : Type 0} (m : FinMap nat_cmp V) (k : ℕ) (v : V) → get m k ≡ Some v → insert m k v ≡ m
unwritten m k v e = same_map nat_cmp_total nat_cmp-IsAntisymmetric (insert m k v) m (λ q.
    get-insert nat_cmp_total m k v q ∙ ap (λ (b : Bool). cond b (Some v) (get m q)) (unsigned_tied q k) ∙ by q (eqb q k) refl)
  where
    by : (q : ℕ) (b : Bool) → eqb q k ≡ b → cond b (Some v) (get m q) ≡ get m q
    by q true t = sym e ∙ ap (get m) (sym (eqb-true q k t))
    by q false t = refl
