-- A set of codes as the finite set of its keys: what a call did to the keys, it did to the set.
use Rattle.std.proofs.Common.{◌≡◌, ℕ, Bool, true, false, cond, not, ◌||◌, ◌&&◌, List, refl, sym, ap, ◌∙◌, arith}
use Rattle.std.specs.Ordering.{nat_cmp, eq_by_cmp}
use Rattle.std.specs.Cmp.{nat_cmp_total, unsigned_tied}
use Rattle.std.specs.List.{list_any}
use Rattle.std.specs.FinSet.{insert, remove, from_list, contains-from_list, contains-insert, contains-remove, same_set, nat_cmp-IsAntisymmetric}
use Rattle.std.proofs.lemmas.Bool.Decides.{nat_tests}

-- two numbers tie either way
flipped : (k q : ℕ) → eq_by_cmp nat_cmp k q ≡ eq_by_cmp nat_cmp q k
flipped k q = unsigned_tied k q ∙ grind (arith, nat_tests) ∙ sym (unsigned_tied q k)

as_or : (b c : Bool) → cond b true c ≡ (b || c)
as_or true c = refl
as_or false c = refl

as_and : (b c : Bool) → cond b false c ≡ (not b && c)
as_and true c = refl
as_and false c = refl

-- whether a key is among them
abbrev pub among : List ℕ → ℕ → Bool
among keys q = list_any (eq_by_cmp nat_cmp q) keys

module _ (old new : List ℕ) (k : ℕ) where
  pub inserted : ((q : ℕ) → among new q ≡ cond (eq_by_cmp nat_cmp k q) true (among old q)) → from_list {R = nat_cmp} new ≡ insert (from_list old) k
  inserted h = same_set nat_cmp_total nat_cmp-IsAntisymmetric (from_list new) (insert (from_list old) k) (λ q.
      contains-from_list nat_cmp_total new q ∙ h q ∙ ap (λ (b : Bool). cond b true (among old q)) (flipped k q) ∙ as_or (eq_by_cmp nat_cmp q k) (among old q)
      ∙ sym (contains-insert nat_cmp_total (from_list old) k q ∙ ap (λ (b : Bool). eq_by_cmp nat_cmp q k || b) (contains-from_list nat_cmp_total old q)))

  pub removed : ((q : ℕ) → among new q ≡ cond (eq_by_cmp nat_cmp k q) false (among old q)) → from_list {R = nat_cmp} new ≡ remove (from_list old) k
  removed h = same_set nat_cmp_total nat_cmp-IsAntisymmetric (from_list new) (remove (from_list old) k) (λ q.
      contains-from_list nat_cmp_total new q ∙ h q ∙ ap (λ (b : Bool). cond b false (among old q)) (flipped k q) ∙ as_and (eq_by_cmp nat_cmp q k) (among old q)
      ∙ sym (contains-remove nat_cmp_total (from_list old) k q ∙ ap (λ (b : Bool). not (eq_by_cmp nat_cmp q k) && b) (contains-from_list nat_cmp_total old q)))
