-- Steps in turn.
use Rattle.std.proofs.Common.{◌≡◌, ℕ, ◌+◌, ◌<◌, List, [], ◌∷◌, ◌++◌, take, length, get_or, refl, sym, ap, subst, ◌∙◌}
use Rattle.std.proofs.lemmas.List.{take_more}
use Rattle.ei_world.specs.declared.run.Step.{Step}
use Rattle.ei_world.specs.declared.run.Step.TheVariants as step
use Rattle.ei_linked.specs.declared.side.Side.TheVariants as side
use Rattle.ei_linked.specs.TwoEnds.{WorldView}
use Rattle.ei_world.specs.Steps.{Accepts, AllAccepted, after_step, after_steps}

accepted_behind : (xs : List Step) (s : Step) (w : WorldView) → AllAccepted xs w → Accepts s (after_steps xs w) → AllAccepted (xs ++ (s ∷ [])) w
accepted_behind [] s w all is = (is, tt)
accepted_behind (x ∷ xs) s w all is = (all.0, accepted_behind xs s (after_step x w) all.1 is)

after_behind : (xs : List Step) (s : Step) (w : WorldView) → after_steps (xs ++ (s ∷ [])) w ≡ after_step s (after_steps xs w)
after_behind [] s w = refl
after_behind (x ∷ xs) s w = after_behind xs s (after_step x w)

pub accepted_more : (xs : List Step) (i : ℕ) (d : Step) (w : WorldView) → i < length xs → AllAccepted (take i xs) w → Accepts (get_or xs i d) (after_steps (take i xs) w) → AllAccepted (take (i + 1) xs) w
accepted_more xs i d w lt all is = subst (λ (l : List Step). AllAccepted l w) (sym (take_more xs i d lt)) (accepted_behind (take i xs) (get_or xs i d) w all is)

pub after_more : (xs : List Step) (i : ℕ) (d : Step) (w : WorldView) → i < length xs → after_steps (take (i + 1) xs) w ≡ after_step (get_or xs i d) (after_steps (take i xs) w)
after_more xs i d w lt = ap (λ (l : List Step). after_steps l w) (take_more xs i d lt) ∙ after_behind (take i xs) (get_or xs i d) w

-- a step that is accepted spends nothing
pub stays_whole : (s : Step) (w : WorldView) → (after_step s w).spent ≡ w.spent
stays_whole (step.Call side.Client id opcode values) w = refl
stays_whole (step.Call side.Server id opcode values) w = refl
stays_whole (step.Flush side.Client) w = refl
stays_whole (step.Flush side.Server) w = refl
stays_whole (step.Deliver side.Client n) w = refl
stays_whole (step.Deliver side.Server n) w = refl
stays_whole (step.Read side.Client) w = refl
stays_whole (step.Read side.Server) w = refl
