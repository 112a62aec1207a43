-- Which ids events bring: they differ, and lie below the next one.
use Rattle.std.proofs.Common.{◌≡◌, ℕ, ◌+◌, ◌<◌, ◌≤◌, Bool, true, false, eqb, ◌||◌, List, [], ◌∷◌, refl, sym, ap, ◌∙◌, arith}
use Rattle.std.proofs.lemmas.Bool.{eqb-true}
use Rattle.ei_spec.specs.History.{occurs}
use Rattle.ei_reported.specs.Said.{Said}
use Rattle.ei_reported.specs.Changes.{brings, brought}
use Rattle.ei_reported.proofs.NeverBrought.{brought_more}
use Rattle.ei_acts.proofs.Parts.{not_both}
use Rattle.ei_emitting.specs.Emits.{AreNew}

pub new_first : (next : ℕ) → AreNew next []
unfolding brought occurs
new_first next = record { differ = tt; below = λ id e. absurd cc }

pub new_later : (next later : ℕ) (before : List Said) → next ≤ later → AreNew next before → AreNew later before
new_later next later before le a = record { differ = a.differ; below = λ id e. let below = a.below id e in omega (arith, le, below) }

-- an event that brings none
pub new_quiet : (next : ℕ) (before : List Said) (m : Said) → ((id : ℕ) → brings id m ≡ false) → AreNew next before → AreNew next (m ∷ before)
new_quiet next before m none a = record {
  differ = (λ id e. absurd (not_both (brings id m) e (none id)), a.differ);
  below = λ id e. a.below id (sym (brought_more before m id ∙ ap (λ (b : Bool). b || brought before id) (none id)) ∙ e);
}

-- an event that brings the next one
pub new_one : (next : ℕ) (before : List Said) (m : Said) → ((id : ℕ) → brings id m ≡ eqb next id) → AreNew next before → AreNew (next + 1) (m ∷ before)
new_one next before m one a = record {
  differ = (λ id e. unbrought id (eqb-true next id (sym (one id) ∙ e)) (brought before id) refl, a.differ);
  below = λ id e. by id (eqb next id) refl (sym (brought_more before m id ∙ ap (λ (b : Bool). b || brought before id) (one id)) ∙ e);
}
  where
    unbrought : (id : ℕ) → next ≡ id → (b : Bool) → brought before id ≡ b → brought before id ≡ false
    unbrought id same true e = let below = a.below id e in absurd (omega (arith, below, same))
    unbrought id same false e = e

    by : (id : ℕ) (b : Bool) → eqb next id ≡ b → (eqb next id || brought before id) ≡ true → id < next + 1
    by id true e f = let same = eqb-true next id e in omega (arith, same)
    by id false e f = let below = a.below id (sym (ap (λ (b : Bool). b || brought before id) e) ∙ f) in omega (arith, below)
