-- A step of the client is over, and it is marked where memory was wanted: what holds of the parts then.
use Rattle.std.proofs.Common.{◌≡◌, ℕ, Bool, true, false, List, Option, Result, sym, ap, subst, ◌∙◌}
use Rattle.std.specs.Prelude.{IsErrOf}
use Rattle.ei_types.specs.declared.error.Error.{Error}
use Rattle.ei_types.specs.declared.error.Error.TheVariants as error
use Rattle.ei_linked.specs.declared.side.Side.TheVariants as side
use Rattle.ei_linked.specs.TwoEnds.{IsWorld}
use Rattle.ei_promises.specs.Pair.{PairView, IsPair}
use Rattle.ei_promises.specs.Stepping.{or_wanted, StepsClient, IsSpent}
use Rattle.ei_promises.specs.Keeping.{Keeps}
use Rattle.ei_promises.specs.Promises.{ShakesFreely, RefusesNone, TakesAll}
use Rattle.ei_pair.specs.Parts.{PartsView, pair_in}
use Rattle.ei_pair.specs.Stepped.{IsSound, client_answered}
use Rattle.ei_pair.specs.Spent.{SpendsAtCall, SpendsAtStep}
use Rattle.ei_pair.proofs.Sound.{by_spent, client_spends, is_pair, is_sound, freely_spent, refuses_spent, takes_spent}

-- what is said of a step of the client
abbrev pub StepsSaid : {H : Type 0} → (H → ℕ → ℕ → Type 0) → Type 0
StepsSaid {H} may = (p new : PairView H) (told now : Option (List ℕ)) (result : Result Bool Error) → p.ends.spent ≡ false → IsPair p → Keeps p → StepsClient may p told now result new →
    (new.ends.spent ≡ false → IsPair new → Keeps new) × ShakesFreely side.Client p result × RefusesNone p result

abbrev pub WaitsSaid : {H : Type 0} → (H → ℕ → ℕ → Type 0) → Type 0
WaitsSaid {H} may = (p new : PairView H) (told now : Option (List ℕ)) (result : Result Bool Error) → p.ends.spent ≡ false → IsPair p → StepsClient may p told now result new → TakesAll side.Client p result

abbrev pub SpentSaid : Type 0 → Type 0
SpentSaid H = (old new : PairView H) → Keeps old → IsSpent old new → Keeps new

module _ {H : Type 0} (may : H → ℕ → ℕ → Type 0) (p q v : PartsView H) (is : v ≡ q) (wanted : Bool) (result : Result Bool Error) (want : wanted ≡ or_wanted v.client_wanted result) (told now : Option (List ℕ)) where
  marked_is : pair_in (record v { client_wanted = wanted }) ≡ client_answered result (pair_in q)
  marked_is = ap (λ (b : Bool). pair_in (record v { client_wanted = b })) want ∙ ap (λ (x : PartsView H). client_answered result (pair_in x)) is

  whole_was : v.ends.spent ≡ false → q.ends.spent ≡ false
  whole_was w = ap (λ (x : PartsView H). x.ends.spent) (sym is) ∙ w

  pub spent_was : v.ends.spent ≡ true → q.ends.spent ≡ true
  spent_was w = ap (λ (x : PartsView H). x.ends.spent) (sym is) ∙ w

  module _ (steps : q.ends.spent ≡ false → StepsClient may (pair_in p) told now result (client_answered result (pair_in q))) where
    pub marked_steps : v.ends.spent ≡ false → StepsClient may (pair_in p) told now result (pair_in (record v { client_wanted = wanted }))
    marked_steps w = subst (λ (n : PairView H). StepsClient may (pair_in p) told now result n) (sym marked_is) (steps (whole_was w))

  module _ (spends : q.ends.spent ≡ true → SpendsAtCall (pair_in p) (pair_in q)) (memory : q.ends.spent ≡ true → IsErrOf result error.NoMemory) where
    pub marked_spent : v.ends.spent ≡ true → SpendsAtStep side.Client (pair_in p) (pair_in (record v { client_wanted = wanted }))
    marked_spent s = subst (λ (n : PairView H). SpendsAtStep side.Client (pair_in p) n) (sym marked_is) (client_spends result (pair_in p) (pair_in q) (memory (spent_was s)) (spends (spent_was s)))

  module _ (said : StepsSaid may) (spent_said : SpentSaid H) (sound : IsSound p) (whole : p.ends.spent ≡ false) (steps : q.ends.spent ≡ false → StepsClient may (pair_in p) told now result (client_answered result (pair_in q)))
      (spends : q.ends.spent ≡ true → SpendsAtCall (pair_in p) (pair_in q)) (memory : q.ends.spent ≡ true → IsErrOf result error.NoMemory) where
    by_law : q.ends.spent ≡ false →
        ((client_answered result (pair_in q)).ends.spent ≡ false → IsPair (client_answered result (pair_in q)) → Keeps (client_answered result (pair_in q))) × ShakesFreely side.Client (pair_in p) result × RefusesNone (pair_in p) result
    by_law w = said (pair_in p) (client_answered result (pair_in q)) told now result whole sound.kept.pair sound.kept.keeps (steps w)

    pub marked_sound : IsWorld (pair_in q).ends → q.serial ≡ q.tells.serial → IsSound (record v { client_wanted = wanted })
    marked_sound world serial =
        let pair : IsPair (pair_in q) = is_pair q world in
        let answered : IsPair (client_answered result (pair_in q)) = record { world = pair.world; endpoint = pair.endpoint } in
        let keeps : Keeps (client_answered result (pair_in q)) = by_spent q.ends.spent (λ w. (by_law w).0 w answered) (λ s. spent_said (pair_in p) (client_answered result (pair_in q)) sound.kept.keeps (client_spends result (pair_in p) (pair_in q) (memory s) (spends s)).lists) in
        is_sound (record v { client_wanted = wanted }) (subst (λ (n : PairView H). IsWorld n.ends) (sym marked_is) world) (subst (λ (n : PairView H). Keeps n) (sym marked_is) keeps)
        (ap (λ (x : PartsView H). x.serial) is ∙ serial ∙ ap (λ (x : PartsView H). x.tells.serial) (sym is))

    pub marked_freely : ShakesFreely side.Client (pair_in p) result
    marked_freely = by_spent q.ends.spent (λ w. (by_law w).1) (λ s. freely_spent side.Client (pair_in p) result (memory s))

    pub marked_refuses : RefusesNone (pair_in p) result
    marked_refuses = by_spent q.ends.spent (λ w. (by_law w).2) (λ s. refuses_spent (pair_in p) result (memory s))

  pub marked_all : WaitsSaid may → IsSound p → p.ends.spent ≡ false → (q.ends.spent ≡ false → StepsClient may (pair_in p) told now result (client_answered result (pair_in q))) → (q.ends.spent ≡ true → IsErrOf result error.NoMemory) → TakesAll side.Client (pair_in p) result
  marked_all said sound whole steps memory = by_spent q.ends.spent (λ w. said (pair_in p) (client_answered result (pair_in q)) told now result whole sound.kept.pair (steps w)) (λ s. takes_spent side.Client (pair_in p) result (memory s))
