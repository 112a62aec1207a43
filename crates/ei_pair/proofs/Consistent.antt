-- Behind a call of a pair the lists tell where the handshakes are done, as they did before it.
use Rattle.std.proofs.Common.{◌≡◌, ℕ, Bool, false, List, Option, Result, Ok, Err, sym, ap, subst, ◌∙◌}
use Rattle.std.specs.Prelude.{OnOk, OnErr}
use Rattle.ei_types.specs.declared.error.Error.{Error}
use Rattle.ei_wire.specs.declared.error.ReadError.{ReadError}
use Rattle.ei_linked.specs.declared.side.Side.{Side}
use Rattle.ei_linked.specs.TwoEnds.{WorldView, flushed_world, DeliversAt}
use Rattle.ei_promises.specs.Pair.{PairView, IsPair, with_ends}
use Rattle.ei_promises.specs.Stepping.{StepsServer, StepsClient}
use Rattle.ei_promises.specs.Keeping.{Keeps, SameLists}
use Rattle.ei_pair.specs.Lent.{without_event, without_request}
use Rattle.ei_pair.specs.Parts.{PartsView, pair_in}
use Rattle.ei_pair.specs.Done.{AreDoneByLists, TellsDone, HasFirstIds, IsConsistent}

-- ---- bytes

abbrev pub MovesSaid : Type 0 → Type 0
MovesSaid H = (p : PairView H) (w : WorldView) → SameLists p.ends w → AreDoneByLists p → AreDoneByLists (with_ends w p)

module _ {H : Type 0} (moves : MovesSaid H) (old new : PairView H) (tells : TellsDone old) (whole : old.ends.spent ≡ false) where
  pub flushed : {T E : Type 0} (flushes : (s : Side) (w : WorldView) → SameLists w (flushed_world s w)) (side : Side) (result : Result T E) → OnOk result (new ≡ with_ends (flushed_world side old.ends) old) → OnErr result (new ≡ old) → TellsDone new
  flushed flushes side (Ok t) ok err = λ now. subst (λ (p : PairView H). AreDoneByLists p) (sym ok) (moves old (flushed_world side old.ends) (flushes side old.ends) (tells whole))
  flushed flushes side (Err e) ok err = λ now. subst (λ (p : PairView H). AreDoneByLists p) (sym err) (tells whole)

  pub delivered : (delivers : (s : Side) (n : ℕ) (result : Result ℕ ReadError) (w v : WorldView) → DeliversAt s n result w v → SameLists w v) (side : Side) (n : ℕ) (result : Result ℕ ReadError) → DeliversAt side n result old.ends new.ends → new ≡ with_ends new.ends old → TellsDone new
  delivered delivers side n result d kept = λ now. subst (λ (p : PairView H). AreDoneByLists p) (sym kept) (moves old new.ends (delivers side n result old.ends new.ends d) (tells whole))

-- ---- what is queued

pub event_taken : {H : Type 0} (said : (p : PairView H) → AreDoneByLists p → AreDoneByLists (record p { client = without_event p.client })) (old new : PairView H) → new ≡ record old { client = without_event old.client } → TellsDone old → TellsDone new
event_taken {H} said old new is tells = λ now. subst (λ (p : PairView H). AreDoneByLists p) (sym is) (said old (tells (sym (ap (λ (p : PairView H). p.ends.spent) is) ∙ now)))

pub request_taken : {H : Type 0} (said : (p : PairView H) → AreDoneByLists p → AreDoneByLists (record p { server = without_request p.server })) (old new : PairView H) → new ≡ record old { server = without_request old.server } → TellsDone old → TellsDone new
request_taken {H} said old new is tells = λ now. subst (λ (p : PairView H). AreDoneByLists p) (sym is) (said old (tells (sym (ap (λ (p : PairView H). p.ends.spent) is) ∙ now)))

-- ---- steps

-- what is said of a step of the server, and of the client
abbrev pub ServerSaid : Type 0 → Type 0
ServerSaid H = (p new : PairView H) (before after : Option (List ℕ)) (result : Result Bool Error) → p.ends.spent ≡ false → IsPair p → Keeps p → StepsServer p before after result new → (AreDoneByLists p → AreDoneByLists new) × HasFirstIds p new

abbrev pub ClientSaid : {H : Type 0} → (H → ℕ → ℕ → Type 0) → Type 0
ClientSaid {H} may = (p new : PairView H) (told now : Option (List ℕ)) (result : Result Bool Error) → p.ends.spent ≡ false → IsPair p → Keeps p → StepsClient may p told now result new → AreDoneByLists p → AreDoneByLists new

module _ {H : Type 0} (p : PartsView H) (consistent : IsConsistent p) (whole : p.ends.spent ≡ false) (new : PairView H) (before after : Option (List ℕ)) (result : Result Bool Error) where
  pub server_tells : ServerSaid H → (new.ends.spent ≡ false → StepsServer (pair_in p) before after result new) → TellsDone new
  server_tells said steps = λ now. (said (pair_in p) new before after result whole consistent.sound.kept.pair consistent.sound.kept.keeps (steps now)).0 (consistent.tells whole)

  pub server_begins : ServerSaid H → (new.ends.spent ≡ false → StepsServer (pair_in p) before after result new) → new.ends.spent ≡ false → HasFirstIds (pair_in p) new
  server_begins said steps = λ now. (said (pair_in p) new before after result whole consistent.sound.kept.pair consistent.sound.kept.keeps (steps now)).1

  pub client_tells : (may : H → ℕ → ℕ → Type 0) → ClientSaid may → (new.ends.spent ≡ false → StepsClient may (pair_in p) before after result new) → TellsDone new
  client_tells may said steps = λ now. said (pair_in p) new before after result whole consistent.sound.kept.pair consistent.sound.kept.keeps (steps now) (consistent.tells whole)
