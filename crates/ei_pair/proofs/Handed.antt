-- The server's end handled a request: by what storing is said to do, and then by what that comes to in the parts of a pair.
use Rattle.std.proofs.Common.{◌≡◌, ◌⊎◌, ℕ, true, false, List, ◌∷◌, Option, Result, Ok, Err, inl, inr, refl, sym, ap, subst, ◌∙◌}
use Rattle.std.specs.Prelude.{is_err, OnOk, OnErr}
use Rattle.ei_types.specs.declared.error.Error.{Error}
use Rattle.ei_types.specs.declared.error.Error.TheVariants as error
use Rattle.ei_server.specs.declared.request.Request.{Request}
use Rattle.ei_ends.specs.Sent.{Sent}
use Rattle.ei_linked.specs.declared.record.Got.{Got as StoredGot}
use Rattle.ei_linked.specs.declared.written.Unsent.{Unsent}
use Rattle.ei_linked.specs.Held.{Held, stored_by}
use Rattle.ei_linked.specs.Written.{AreWritten, unsent_in, stored_onto}
use Rattle.ei_linked.specs.Ends.{EndsView, world_in}
use Rattle.ei_linked.specs.TwoEnds.{IsWorld}
use Rattle.ei_handshake.specs.Handshaker.{HandshakerView}
use Rattle.ei_promises.specs.Pair.{PairView}
use Rattle.ei_promises.specs.Stepping.{as_step, HandsRequest}
use Rattle.ei_pair.specs.declared.server_end.ServerEnd.{ServerEnd}
use Rattle.ei_pair.specs.ServerEnd.{endpoint_in}
use Rattle.ei_pair.specs.Parts.{PartsView, pair_in}
use Rattle.ei_pair.specs.Stages.{ObeysEnd}
use Rattle.ei_pair.specs.Stepped.{TookRequest, server_answered}
use Rattle.ei_pair.specs.Spent.{SpendsAtCall}
use Rattle.ei_pair.specs.Handed.{StoresPut, LosesPut, HandsEnds, HandsParts}
use Rattle.ei_pair.proofs.Laws.{ServerLaws}
use Rattle.ei_pair.proofs.Handing.{Handed, handed}
use Rattle.ei_pair.proofs.Stored.{request_written, last_request}
use Rattle.ei_pair.proofs.HandingAt.{request_hands, request_keeps, request_spends, request_spent_world}
use Rattle.ei_pair.proofs.Serial.{obeys_same}

-- ---- a result that is tested

pub at_ok : {T E : Type 0} (r : Result T E) (P : Type 0) → is_err r ≡ false → OnOk r P → P
at_ok (Ok t) P e h = h
at_ok (Err why) P e h = absurd cc

pub at_err : {T E : Type 0} (r : Result T E) (P : Type 0) → is_err r ≡ true → OnErr r P → P
at_err (Ok t) P e h = absurd cc
at_err (Err why) P e h = h

-- ---- both ends: v are the old ones by their fields, x is what the server's end became

module _ (v a : EndsView ServerEnd) (is : v ≡ a) (h left : HandshakerView) (r : Request) (before after : Option (List ℕ)) (answer : Result (Unit {0}) Error) (x : Held ServerEnd)
    (obeys : ObeysEnd v.server.context h r before after answer left x.context) (rest : x ≡ record v.server { context = x.context }) where
  -- where it is stored
  put_there : (at : Unsent) → at ≡ unsent_in (endpoint_in v.server.context) → (ms : List Sent) →
      AreWritten true (unsent_in (endpoint_in v.server.context)) ms (stored_by endpoint_in (record v.server { context = x.context })) → AreWritten true at ms (stored_by endpoint_in x)
  put_there at at_is ms w =
      subst (λ (u : Unsent). AreWritten true u ms (stored_by endpoint_in x)) (sym at_is)
      (subst (λ (y : Held ServerEnd). AreWritten true (unsent_in (endpoint_in v.server.context)) ms (stored_by endpoint_in y)) (sym rest) w)

  pub hands_stored : (at : Unsent) → at ≡ unsent_in (endpoint_in v.server.context) → (new : EndsView ServerEnd) →
      ((ms : List Sent) → AreWritten true at ms (stored_by endpoint_in x) → new ≡ record v { server = record x { sent = stored_onto true ms x.sent } }) →
      HandsEnds a h r before after answer left new
  hands_stored at at_is new stores =
      let there : StoresPut v x.context new = λ ms w. stores ms (put_there at at_is ms w)
      ∙ ap (λ (y : Held ServerEnd). let z : EndsView ServerEnd = record v { server = record y { sent = stored_onto true ms y.sent } } in z) rest in
      let all : HandsEnds v h r before after answer left new = record { answer = answer; holder = x.context; obeys = obeys; stores = inl (refl, there) } in
      subst (λ (y : EndsView ServerEnd). HandsEnds y h r before after answer left new) is all

  -- where it isn't
  pub hands_lost : (e : EndsView ServerEnd) → e ≡ record v { server = x; spent = true } → (y : Held ServerEnd) →
      ((last : StoredGot) (past : List StoredGot) → e.server.taken ≡ last ∷ past → y ≡ record e.server { taken = past }) →
      HandsEnds a h r before after (Err error.NoMemory) left (record e { server = y })
  hands_lost e spent y untakes =
      let new : EndsView ServerEnd = record e { server = y } in
      let there : LosesPut v x.context new = λ last past taken.
      let took : e.server.taken ≡ last ∷ past = ap (λ (z : EndsView ServerEnd). z.server.taken) spent ∙ ap (λ (z : Held ServerEnd). z.taken) rest ∙ taken in
      ap (λ (z : Held ServerEnd). let n : EndsView ServerEnd = record e { server = z } in n) (untakes last past took)
      ∙ ap (λ (z : EndsView ServerEnd). let n : EndsView ServerEnd = record z { server = record z.server { taken = past } } in n) spent
      ∙ ap (λ (z : Held ServerEnd). let n : EndsView ServerEnd = record v { server = record z { taken = past }; spent = true } in n) rest in
      let all : HandsEnds v h r before after (Err error.NoMemory) left new = record { answer = answer; holder = x.context; obeys = obeys; stores = inr (refl, there) } in
      subst (λ (z : EndsView ServerEnd). HandsEnds z h r before after (Err error.NoMemory) left new) is all

-- ---- the parts: v are the old ones by their fields

module _ {H : Type 0} (laws : ServerLaws H) (v p : PartsView H) (is : v ≡ p) (r : Request) (before after : Option (List ℕ)) (result : Result (Unit {0}) Error) (left : HandshakerView) (e : EndsView ServerEnd)
    (x : HandsEnds v.ends v.tells r before after result left e) (t : TookRequest r (pair_in p)) where
  abbrev new : PartsView H
  new = record v { ends = e; tells = left }

  took : TookRequest r (pair_in v)
  took = subst (λ (q : PartsView H). TookRequest r (pair_in q)) (sym is) t

  whole : v.ends.spent ≡ false
  whole = ap (λ (q : PairView H). q.ends.spent) took.is ∙ took.whole

  stays_whole : StoresPut v.ends x.holder e → e.spent ≡ false
  stays_whole stores =
      let h : Handed v r before after x.answer left x.holder = handed laws v r before after x.answer left x.holder took x.obeys in
      ap (λ (z : EndsView ServerEnd). z.spent) (stores h.ms (request_written v r before after x.answer left x.holder took h (unsent_in (endpoint_in v.ends.server.context)) refl)) ∙ whole

  gets_spent : LosesPut v.ends x.holder e → e.spent ≡ true
  gets_spent loses = ap (λ (z : EndsView ServerEnd). z.spent) (loses _ _ (last_request v r took))

  hands_so : e.spent ≡ false → ((result ≡ x.answer) × StoresPut v.ends x.holder e) ⊎ ((result ≡ Err error.NoMemory) × LosesPut v.ends x.holder e) →
      HandsRequest (pair_in p).server r before after (pair_in p) (as_step result) (server_answered (as_step result) (pair_in new))
  hands_so off (inl s) =
      subst (λ (a : Result (Unit {0}) Error). HandsRequest (pair_in p).server r before after (pair_in p) (as_step a) (server_answered (as_step a) (pair_in new))) (sym s.0)
      (request_hands laws v p is r before after x.answer left x.holder x.obeys (unsent_in (endpoint_in v.ends.server.context)) refl e s.1 t)
  hands_so off (inr s) = let on : e.spent ≡ true = gets_spent s.1 in absurd cc

  memory_so : e.spent ≡ true → ((result ≡ x.answer) × StoresPut v.ends x.holder e) ⊎ ((result ≡ Err error.NoMemory) × LosesPut v.ends x.holder e) → result ≡ Err error.NoMemory
  memory_so on (inl s) = let off : e.spent ≡ false = stays_whole s.1 in absurd cc
  memory_so on (inr s) = s.0

  world_so : ((result ≡ x.answer) × StoresPut v.ends x.holder e) ⊎ ((result ≡ Err error.NoMemory) × LosesPut v.ends x.holder e) → IsWorld (world_in endpoint_in e)
  world_so (inl s) = request_keeps laws v p is r before after x.answer left x.holder x.obeys (unsent_in (endpoint_in v.ends.server.context)) refl e s.1 t
  world_so (inr s) = request_spent_world laws v p is r before after x.answer left x.holder x.obeys (unsent_in (endpoint_in v.ends.server.context)) refl e s.1 t

  spent_so : (u : TookRequest r (pair_in p)) → e.spent ≡ true → ((result ≡ x.answer) × StoresPut v.ends x.holder e) ⊎ ((result ≡ Err error.NoMemory) × LosesPut v.ends x.holder e) → SpendsAtCall u.old (pair_in new)
  spent_so u on (inl s) = let off : e.spent ≡ false = stays_whole s.1 in absurd cc
  spent_so u on (inr s) = request_spends laws v p is r before after x.answer left x.holder x.obeys (unsent_in (endpoint_in v.ends.server.context)) refl e s.1 u

  pub hands_parts : v.serial ≡ v.tells.serial → HandsParts p r before after result new
  hands_parts serial = record {
    hands = λ off. hands_so off x.stores;
    memory = λ on. memory_so on x.stores;
    spent = λ u on. spent_so u on x.stores;
    world = world_so x.stores;
    serial = serial ∙ sym (obeys_same v.ends.server.context v.tells left r before after x.answer x.holder x.obeys);
  }
