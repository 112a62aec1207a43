-- What none of some interfaces is, none of a mask is.
use Rattle.std.proofs.Common.{◌≡◌, ℕ, zero, suc, Bool, true, false, cond, List, [], ◌∷◌, Some, None, refl, sym, ap, ◌∙◌}
use Rattle.std.specs.Prelude.{slice_get}
use Rattle.std.specs.List.{filter_map, list_any}
use Rattle.ei_spec.specs.declared.interface.KnownInterface.{KnownInterface}
use Rattle.ei_types.specs.Capability.{has_bit}
use Rattle.ei_session.proofs.Choices.{some_is, or_none}

pub masked_none : (p : KnownInterface → Bool) (mask : ℕ) (cs : List (ℕ × KnownInterface)) → list_any (λ c. p c.1) cs ≡ false → list_any p (filter_map (λ c. cond (has_bit mask c.0) (Some c.1) None) cs) ≡ false
masked_none p mask [] h = refl
masked_none p mask (c ∷ cs) h = by (has_bit mask c.0) refl (or_none (p c.1) (list_any (λ c. p c.1) cs) h) (masked_none p mask cs)
  where
    by : (b : Bool) → has_bit mask c.0 ≡ b → (p c.1 ≡ false) × (list_any (λ c. p c.1) cs ≡ false) → (list_any (λ c. p c.1) cs ≡ false → list_any p (filter_map (λ c. cond (has_bit mask c.0) (Some c.1) None) cs) ≡ false) → list_any p (filter_map (λ c. cond (has_bit mask c.0) (Some c.1) None) (c ∷ cs)) ≡ false
    by true e t next = rw (e, t.0) (next t.1)
    by false e t next = rw e (next t.1)

-- nor is the one at a place
pub place_none : (p : KnownInterface → Bool) (is : List KnownInterface) (k : ℕ) (i : KnownInterface) → list_any p is ≡ false → slice_get is k ≡ Some i → p i ≡ false
place_none p [] k i h q = absurd cc
place_none p (x ∷ xs) zero i h q = ap p (sym (some_is x i q)) ∙ (or_none (p x) (list_any p xs) h).0
place_none p (x ∷ xs) (suc k) i h q = place_none p xs k i (or_none (p x) (list_any p xs) h).1 q
