-- The events that wait at a client, taken out one by one.
use Rattle.std.proofs.Common.{◌≡◌, ◌<◌, true, false, List, [], ◌∷◌, ◌++◌, length, Option, Some, None, refl, sym, ap, subst, ◌∙◌, append_assoc, arith}
use Rattle.std.specs.Prelude.{is_some, Result, Ok, Err, IsErr, OnErr}
use Rattle.std.proofs.lemmas.List.{append-nil}
use Rattle.ei_event.specs.declared.event.EiEvent.{EiEvent}
use Rattle.ei_event.specs.Converter.{with_queue}
use Rattle.ei_input.specs.Queue.{first_of, rest_of}
use Rattle.ei_promises.specs.Pair.{ClientStage, Asks, Follows, PairView}
use Rattle.ei_pair.specs.Lent.{first_event, without_event}
use Rattle.ei_emit.specs.Queued.{queue_in, emptied, with_item, GivesFront}

-- the client with these events waiting
abbrev pub queued : {H : Type 0} → List EiEvent → ClientStage H → ClientStage H
queued q (Asks h) = Asks h
queued q (Follows c) = Follows (with_queue q c)

as_it_was : {H : Type 0} (k : ClientStage H) → k ≡ queued (queue_in k) k
as_it_was (Asks h) = refl
as_it_was (Follows c) = refl

front_is : (q : List EiEvent) (event : EiEvent) → Some event ≡ first_of q → q ≡ event ∷ rest_of q
front_is [] event e = absurd cc
front_is (x ∷ q) event e = cc

first_is : {H : Type 0} (k : ClientStage H) (event : EiEvent) → Some event ≡ first_event k → queue_in k ≡ event ∷ queue_in (without_event k)
first_is (Asks h) event e = absurd cc
first_is (Follows c) event e = front_is c.kept.queue event e

none_is : (q : List EiEvent) → None ≡ first_of q → q ≡ []
none_is [] e = refl
none_is (x ∷ q) e = absurd cc

none_waits : {H : Type 0} (k : ClientStage H) → None ≡ first_event k → queue_in k ≡ []
none_waits (Asks h) e = refl
none_waits (Follows c) e = none_is c.kept.queue e

-- one event less
rest_waits : {H : Type 0} (k : ClientStage H) (q : List EiEvent) → without_event (queued q k) ≡ queued (queue_in (without_event (queued q k))) k
rest_waits (Asks h) q = refl
rest_waits (Follows c) q = refl

none_left : {H : Type 0} (k : ClientStage H) (q : List EiEvent) → None ≡ first_event (queued q k) → without_event (queued q k) ≡ emptied k
none_left (Asks h) q e = refl
none_left {H} (Follows c) q e = ap (λ (l : List EiEvent). let s : ClientStage H = Follows (with_queue (rest_of l) c) in s) (none_is q e)

-- ---- those that were given

-- The first of the events that waited at the client were taken out and given, and all else is as it was.
pub record HasGiven {H : Type 0} (first : PairView H) (had : List EiEvent) (p : PairView H) (has : List EiEvent) : Type 0 where
  pub given : List EiEvent
  pub front : queue_in first.client ≡ given ++ queue_in p.client
  pub grew : has ≡ had ++ given
  pub same : p ≡ record first { client = queued (queue_in p.client) first.client }

pub none_given : {H : Type 0} (p : PairView H) (had : List EiEvent) → HasGiven p had p had
none_given {H} p had = record {
  given = [];
  front = refl;
  grew = sym (append-nil had);
  same = ap (λ (k : ClientStage H). let q : PairView H = record p { client = k } in q) (as_it_was p.client);
}

-- where memory ran out
on_err : {T E P : Type 0} (result : Result T E) → IsErr result → P → OnErr result P
on_err (Ok x) is p = absurd cc
on_err (Err e) is p = p

pub front_given : {T E H : Type 0} (first p : PairView H) (had has now : List EiEvent) (result : Result T E) → IsErr result → HasGiven first had p has → now ≡ has → OnErr result (GivesFront (queue_in first.client) had now)
front_given first p had has now result is h e = on_err result is (record { given = h.given; left = queue_in p.client; front = h.front; grew = e ∙ h.grew })

module _ {H : Type 0} (first p new : PairView H) (had has : List EiEvent) (h : HasGiven first had p has) (is : new ≡ record p { client = without_event p.client }) where
  client_is : p.client ≡ queued (queue_in p.client) first.client
  client_is = ap (λ (q : PairView H). q.client) h.same

  left_is : new.client ≡ without_event p.client
  left_is = ap (λ (q : PairView H). q.client) is

  new_is : new ≡ record first { client = without_event p.client }
  new_is = is ∙ ap (λ (q : PairView H). let r : PairView H = record q { client = without_event p.client } in r) h.same

  -- the oldest was given
  one_given : (event : EiEvent) (now : List EiEvent) → Some event ≡ first_event p.client → now ≡ has ++ event ∷ [] → HasGiven first had new now
  one_given event now oldest e = record {
    given = h.given ++ event ∷ [];
    front =
        h.front
        ∙ ap (λ (q : List EiEvent). h.given ++ q) (first_is p.client event oldest ∙ ap (λ (k : ClientStage H). event ∷ queue_in k) (sym left_is))
        ∙ sym (append_assoc h.given (event ∷ []) (queue_in new.client));
    grew = e ∙ ap (λ (l : List EiEvent). l ++ event ∷ []) h.grew ∙ append_assoc had h.given (event ∷ []);
    same =
        new_is
        ∙ ap (λ (k : ClientStage H). let q : PairView H = record first { client = k } in q) (
        subst (λ (k : ClientStage H). without_event k ≡ queued (queue_in (without_event k)) first.client) (sym client_is) (rest_waits first.client (queue_in p.client))
        ∙ ap (λ (k : ClientStage H). queued (queue_in k) first.client) (sym left_is)
        );
  }

  pub more_given : (item : Option EiEvent) (now : List EiEvent) → item ≡ first_event p.client → now ≡ with_item item has → is_some item ≡ true → HasGiven first had new now
  more_given None now oldest e some = absurd cc
  more_given (Some event) now oldest e some = one_given event now oldest e

  pub fewer_wait : (item : Option EiEvent) → item ≡ first_event p.client → is_some item ≡ true → length (queue_in new.client) < length (queue_in p.client)
  fewer_wait None oldest some = absurd cc
  fewer_wait (Some event) oldest some =
      let all = ap (λ (q : List EiEvent). length q) (first_is p.client event oldest) in
      let left = ap (λ (k : ClientStage H). length (queue_in k)) left_is in
      omega (arith, all, left)

  -- none was left
  pub all_given : (item : Option EiEvent) (now : List EiEvent) → item ≡ first_event p.client → now ≡ with_item item has → is_some item ≡ false → now ≡ had ++ queue_in first.client
  all_given (Some event) now oldest e none = absurd cc
  all_given None now oldest e none =
      e ∙ h.grew
      ∙ ap (λ (q : List EiEvent). had ++ q) (sym (h.front ∙ ap (λ (q : List EiEvent). h.given ++ q) (none_waits p.client oldest) ∙ append-nil h.given))

  pub all_out : (item : Option EiEvent) → item ≡ first_event p.client → is_some item ≡ false → new ≡ record first { client = emptied first.client }
  all_out (Some event) oldest none = absurd cc
  all_out None oldest none =
      new_is
      ∙ ap (λ (k : ClientStage H). let q : PairView H = record first { client = k } in q) (
      ap without_event client_is
      ∙ none_left first.client (queue_in p.client) (oldest ∙ ap first_event client_is)
      )
