-- The server's end handled a request, and the parts of a pair did: what it sent is stored, or for want of memory it isn't.
use Rattle.std.specs.Prelude.{◌≡◌, ◌⊎◌, Bool, true, false, List, ◌∷◌, ℕ, Option, Result, Err}
use Rattle.ei_types.specs.declared.error.Error.{Error}
use Rattle.ei_types.specs.declared.error.Error.TheVariants as error
use Rattle.ei_server.specs.declared.request.Request.{Request}
use Rattle.ei_ends.specs.Sent.{Sent}
use Rattle.ei_linked.specs.declared.record.Record.{Record}
use Rattle.ei_linked.specs.declared.record.Got.{Got as StoredGot}
use Rattle.ei_linked.specs.Held.{stored_by}
use Rattle.ei_linked.specs.Written.{AreWritten, unsent_in, stored_onto}
use Rattle.ei_linked.specs.Ends.{EndsView}
use Rattle.ei_linked.specs.TwoEnds.{IsWorld}
use Rattle.ei_handshake.specs.Handshaker.{HandshakerView}
use Rattle.ei_promises.specs.Stepping.{as_step, HandsRequest, StepsServer}
use Rattle.ei_pair.specs.declared.server_end.ServerEnd.{ServerEnd}
use Rattle.ei_pair.specs.ServerEnd.{endpoint_in}
use Rattle.ei_pair.specs.Parts.{PartsView, pair_in}
use Rattle.ei_pair.specs.Stages.{ObeysEnd}
use Rattle.ei_pair.specs.Stepped.{TookRequest, server_answered}
use Rattle.ei_pair.specs.Spent.{SpendsAtCall}

-- ---- both ends

-- both ends, of which the server's is held by this, with these stored as sent and taken, and whether they are spent
abbrev pub with_server : EndsView ServerEnd → ServerEnd → List Record → List StoredGot → Bool → EndsView ServerEnd
with_server e s sent taken spent = record {
  client = e.client;
  server = record { context = s; sent = sent; taken = taken };
  to_client = e.to_client;
  to_server = e.to_server;
  spent = spent;
}

-- what the server put behind what waited is stored, where these are messages that it might send
abbrev pub StoresPut : EndsView ServerEnd → ServerEnd → EndsView ServerEnd → Type 0
StoresPut old s new = (ms : List Sent) →
    AreWritten true (unsent_in (endpoint_in old.server.context)) ms (stored_by endpoint_in (record { context = s; sent = old.server.sent; taken = old.server.taken })) →
    new ≡ with_server old s (stored_onto true ms old.server.sent) old.server.taken old.spent

-- it isn't, nor is what the server took last
abbrev pub LosesPut : EndsView ServerEnd → ServerEnd → EndsView ServerEnd → Type 0
LosesPut old s new = (last : StoredGot) (past : List StoredGot) → old.server.taken ≡ last ∷ past → new ≡ with_server old s old.server.sent past true

-- The server's end answered so, and is held by that: what it put is stored, or memory is wanted and it isn't. `before` and `after` are
-- what the clock tells.
pub record HandsEnds (old : EndsView ServerEnd) (h : HandshakerView) (r : Request) (before after : Option (List ℕ)) (result : Result (Unit {0}) Error)
    (left : HandshakerView) (new : EndsView ServerEnd) : Type 0 where
  pub answer : Result (Unit {0}) Error
  pub holder : ServerEnd
  pub obeys : ObeysEnd old.server.context h r before after answer left holder
  pub stores : ((result ≡ answer) × StoresPut old holder new) ⊎ ((result ≡ Err error.NoMemory) × LosesPut old holder new)

-- ---- the parts of a pair

-- the server, which just took the request, handed it on
pub record HandsParts {H : Type 0} (old : PartsView H) (r : Request) (before after : Option (List ℕ)) (result : Result (Unit {0}) Error) (new : PartsView H) : Type 0 where
  pub hands : new.ends.spent ≡ false → HandsRequest (pair_in old).server r before after (pair_in old) (as_step result) (server_answered (as_step result) (pair_in new))
  pub memory : new.ends.spent ≡ true → result ≡ Err error.NoMemory
  pub spent : (t : TookRequest r (pair_in old)) → new.ends.spent ≡ true → SpendsAtCall t.old (pair_in new)
  pub world : IsWorld (pair_in new).ends
  pub serial : new.serial ≡ new.tells.serial

-- the server took its next message, and handed it on; that it wanted memory isn't kept
pub record TakesParts {H : Type 0} (old : PartsView H) (before after : Option (List ℕ)) (result : Result Bool Error) (new : PartsView H) : Type 0 where
  pub steps : new.ends.spent ≡ false → StepsServer (pair_in old) before after result (server_answered result (pair_in new))
  pub memory : new.ends.spent ≡ true → result ≡ Err error.NoMemory
  pub spent : new.ends.spent ≡ true → SpendsAtCall (pair_in old) (pair_in new)
  pub world : IsWorld (pair_in new).ends
  pub serial : new.serial ≡ new.tells.serial
