-- What holds of the parts of a pair behind a step.
use Rattle.std.proofs.Common.{◌≡◌, Bool, true, false, Result, Err, refl, ap, ◌∙◌}
use Rattle.std.specs.Prelude.{IsErrOf}
use Rattle.ei_types.specs.declared.error.Error.{Error}
use Rattle.ei_types.specs.declared.error.Error.TheVariants as error
use Rattle.ei_linked.specs.declared.side.Side.{Side}
use Rattle.ei_linked.specs.declared.side.Side.TheVariants as side
use Rattle.ei_linked.specs.TwoEnds.{IsWorld}
use Rattle.ei_promises.specs.Pair.{PairView, IsPair}
use Rattle.ei_promises.specs.Stepping.{or_wanted, IsSpent}
use Rattle.ei_promises.specs.Keeping.{Keeps}
use Rattle.ei_promises.specs.Promises.{ShakesFreely, RefusesNone, TakesAll}
use Rattle.ei_pair.specs.Parts.{PartsView, pair_in}
use Rattle.ei_pair.specs.Stepped.{IsSound, server_answered, client_answered}
use Rattle.ei_pair.specs.Spent.{SpendsAtCall, SpendsAtStep}
use Rattle.ei_pair.proofs.Moved.{has_endpoint}
use Rattle.ei_pair.proofs.Spent.{both_closed}
use Rattle.ei_pair.proofs.Steps.{wanted_none}

pub by_spent : {X : Type 0} (b : Bool) → (b ≡ false → X) → (b ≡ true → X) → X
by_spent false f g = f refl
by_spent true f g = g refl

-- a flag of a side isn't part of the lists
server_lists : {H : Type 0} (result : Result Bool Error) (old p : PairView H) → IsSpent old p → IsSpent old (server_answered result p)
server_lists result old p s = record { spent = s.spent; client_sent = s.client_sent; client_taken = s.client_taken; server_sent = s.server_sent; server_taken = s.server_taken; maps = s.maps; receipts = s.receipts }

client_lists : {H : Type 0} (result : Result Bool Error) (old p : PairView H) → IsSpent old p → IsSpent old (client_answered result p)
client_lists result old p s = record { spent = s.spent; client_sent = s.client_sent; client_taken = s.client_taken; server_sent = s.server_sent; server_taken = s.server_taken; maps = s.maps; receipts = s.receipts }

-- a step that spent the parts wanted memory, and that is kept
pub server_spends : {H : Type 0} (result : Result Bool Error) (old p : PairView H) → IsErrOf result error.NoMemory → SpendsAtCall old p → SpendsAtStep side.Server old (server_answered result p)
server_spends result old p none s =
    let is : result ≡ Err error.NoMemory = none in
    record {
      lists = server_lists result old p s.lists;
      wants = ap (or_wanted p.server_wanted) is ∙ wanted_none p.server_wanted;
      other = s.wants side.Client;
      steady = s.steady;
      closed = both_closed old (server_answered result p) (s.closed side.Client) (s.closed side.Server);
    }

pub client_spends : {H : Type 0} (result : Result Bool Error) (old p : PairView H) → IsErrOf result error.NoMemory → SpendsAtCall old p → SpendsAtStep side.Client old (client_answered result p)
client_spends result old p none s =
    let is : result ≡ Err error.NoMemory = none in
    record {
      lists = client_lists result old p s.lists;
      wants = ap (or_wanted p.client_wanted) is ∙ wanted_none p.client_wanted;
      other = s.wants side.Server;
      steady = s.steady;
      closed = both_closed old (client_answered result p) (s.closed side.Client) (s.closed side.Server);
    }

-- the server's stage has its endpoint by the form of the parts
pub is_pair : {H : Type 0} (p : PartsView H) → IsWorld (pair_in p).ends → IsPair (pair_in p)
is_pair p world = record { world = world; endpoint = has_endpoint p.tells p.ends.server.context }

pub is_sound : {H : Type 0} (p : PartsView H) → IsWorld (pair_in p).ends → Keeps (pair_in p) → p.serial ≡ p.tells.serial → IsSound p
is_sound p world keeps serial = record { kept = record { pair = is_pair p world; keeps = keeps }; serial = serial }

-- where memory is wanted beside, all that may be relied on of a step holds
pub freely_spent : {H : Type 0} (side : Side) (old : PairView H) (result : Result Bool Error) → IsErrOf result error.NoMemory → ShakesFreely side old result
freely_spent side old result none = λ fits wanted undone e is. cc

pub refuses_spent : {H : Type 0} (old : PairView H) (result : Result Bool Error) → IsErrOf result error.NoMemory → RefusesNone old result
refuses_spent old result none = λ steady wanted missed why is. cc

pub takes_spent : {H : Type 0} (side : Side) (old : PairView H) (result : Result Bool Error) → IsErrOf result error.NoMemory → TakesAll side old result
takes_spent side old result none = λ is all. absurd cc
