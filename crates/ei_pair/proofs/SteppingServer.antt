-- A step of the server, once it is kept whether it wanted memory: all that is said of it.
use Rattle.std.proofs.Common.{◌≡◌, ℕ, Bool, true, false, List, Option, Result, Err, sym, ap, subst}
use Rattle.ei_types.specs.declared.error.Error.{Error}
use Rattle.ei_types.specs.declared.error.Error.TheVariants as error
use Rattle.ei_linked.specs.declared.side.Side.TheVariants as side
use Rattle.ei_promises.specs.Pair.{PairView, IsPair}
use Rattle.ei_promises.specs.Stepping.{or_wanted, StepsServer, IsSpent}
use Rattle.ei_promises.specs.Keeping.{Keeps}
use Rattle.ei_promises.specs.Promises.{ShakesFreely, TakesAll}
use Rattle.ei_pair.specs.Parts.{PartsView, pair_in}
use Rattle.ei_pair.specs.Stepped.{IsSound, server_answered}
use Rattle.ei_pair.specs.Spent.{SpendsAtStep}
use Rattle.ei_pair.specs.Handed.{TakesParts}
use Rattle.ei_pair.proofs.Sound.{by_spent, server_spends, is_pair, is_sound, freely_spent, takes_spent}

-- what the laws say of a step
abbrev pub StepSaid : Type 0 → Type 0
StepSaid H = (p new : PairView H) (before after : Option (List ℕ)) (result : Result Bool Error) → p.ends.spent ≡ false → IsPair p → Keeps p → StepsServer p before after result new →
    (new.ends.spent ≡ false → IsPair new → Keeps new) × ShakesFreely side.Server p result

abbrev pub WaitSaid : Type 0 → Type 0
WaitSaid H = (p new : PairView H) (before after : Option (List ℕ)) (result : Result Bool Error) → p.ends.spent ≡ false → IsPair p → StepsServer p before after result new → TakesAll side.Server p result

abbrev pub SpentSaid : Type 0 → Type 0
SpentSaid H = (old new : PairView H) → Keeps old → IsSpent old new → Keeps new

-- w are the parts behind the step by their fields, and x is what is kept
module _ {H : Type 0} (old w q : PartsView H) (same : w ≡ q) (before after : Option (List ℕ)) (result : Result Bool Error) (takes : TakesParts old before after result q) (x : Bool) (is : x ≡ or_wanted w.server_wanted result) where
  t : TakesParts old before after result w
  t = subst (λ (p : PartsView H). TakesParts old before after result p) (sym same) takes

  abbrev new : PartsView H
  new = record w { server_wanted = x }

  pair_is : server_answered result (pair_in w) ≡ pair_in new
  pair_is = ap (λ (b : Bool). let q : PairView H = record (pair_in w) { server_wanted = b } in q) (sym is)

  pub steps_now : w.ends.spent ≡ false → StepsServer (pair_in old) before after result (pair_in new)
  steps_now off = subst (λ (q : PairView H). StepsServer (pair_in old) before after result q) pair_is (t.steps off)

  pub memory_now : w.ends.spent ≡ true → result ≡ Err error.NoMemory
  memory_now on = t.memory on

  pub spent_now : w.ends.spent ≡ true → SpendsAtStep side.Server (pair_in old) (pair_in new)
  spent_now on = subst (λ (q : PairView H). SpendsAtStep side.Server (pair_in old) q) pair_is (server_spends result (pair_in old) (pair_in w) (t.memory on) (t.spent on))

  module _ (sound : IsSound old) (whole : old.ends.spent ≡ false) where
    pub sound_now : StepSaid H → SpentSaid H → IsSound new
    sound_now steps spends = is_sound new t.world
        (by_spent w.ends.spent
        (λ off. (steps (pair_in old) (pair_in new) before after result whole sound.kept.pair sound.kept.keeps (steps_now off)).0 off (is_pair new t.world))
        (λ on. spends (pair_in old) (pair_in new) sound.kept.keeps (spent_now on).lists))
        t.serial

    pub freely_now : StepSaid H → ShakesFreely side.Server (pair_in old) result
    freely_now steps = by_spent w.ends.spent
        (λ off. (steps (pair_in old) (pair_in new) before after result whole sound.kept.pair sound.kept.keeps (steps_now off)).1)
        (λ on. freely_spent side.Server (pair_in old) result (t.memory on))

    pub all_now : WaitSaid H → TakesAll side.Server (pair_in old) result
    all_now waits = by_spent w.ends.spent
        (λ off. waits (pair_in old) (pair_in new) before after result whole sound.kept.pair (steps_now off))
        (λ on. takes_spent side.Server (pair_in old) result (t.memory on))
