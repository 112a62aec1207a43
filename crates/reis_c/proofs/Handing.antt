-- What a connection behind the word hands out.
use Rattle.std.proofs.Common.{◌≡◌, ℕ, Bool, true, false, List, [], ◌∷◌, Option, Some, None, Ok, Err, refl, ap, sym, subst, ◌∙◌, inl, inr, arith}
use Rattle.std.specs.Prelude.{not, ◌&&◌, is_some}
use Rattle.ei_wire.specs.declared.error.NoMemory.{NoMemory}
use Rattle.ei_input.specs.Queue.{first_of, rest_of}
use Rattle.ei_request.specs.declared.event.EisRequest.{EisRequest}
use Rattle.reis_eis.specs.declared.phase.Phase.{Phase}
use Rattle.reis_eis.specs.declared.phase.Phase.TheVariants as phase
use Rattle.reis_eis.specs.declared.notice.Notice.{Notice}
use Rattle.reis_eis.specs.View.{EisView}
use Rattle.reis_eis.specs.Words.{handle_in, queue_in, with_queue}
use Rattle.reis_strict.specs.View.{StrictView}
use Rattle.reis_c.specs.declared.flat.ReisRequest.{ReisRequest}
use Rattle.reis_c.specs.declared.connection.Handed.{Handed}
use Rattle.reis_c.specs.declared.connection.HeldConnection.{HeldConnection}
use Rattle.reis_c.specs.Numbers.{OK, NO_MEMORY, NOTHING}
use Rattle.reis_c.specs.Connecting.{HandsNext, HandsFrom, HandsBy, HandsFirst, HandsPassing, HandsNotice, awaiting, noticing, with_last}
use Rattle.reis_c.specs.Flat.{flat, of_connected, of_notice}
use Rattle.reis_c.specs.Policy.{TakesNext}
use Rattle.reis_c.proofs.Obliging.{behind}

-- the phase in which no request waits is as it is without the first
same_queue : (p : Phase) → queue_in p ≡ [] → with_queue p (rest_of (queue_in p)) ≡ p
same_queue (phase.Shaking s) e = refl
same_queue (phase.Standing c) e = ap (λ (q : List EisRequest). phase.Standing (record c { queue = q })) (ap rest_of e ∙ sym e)
same_queue phase.Between e = refl

none_first : (requests : List EisRequest) → None ≡ first_of requests → requests ≡ []
none_first [] e = refl
none_first (r ∷ rest) e = grind (arith, e)

some_first : (r : EisRequest) (requests : List EisRequest) → Some r ≡ first_of requests → requests ≡ r ∷ rest_of requests
some_first r [] e = grind (arith, e)
some_first r (q ∷ rest) e = grind (arith, e)

-- no notice is first, or one is
none_noticed : (notices : List Notice) → None ≡ first_of notices → notices ≡ []
none_noticed [] e = refl
none_noticed (n ∷ rest) e = grind (arith, e)

some_noticed : (n : Notice) (notices : List Notice) → Some n ≡ first_of notices → notices ≡ n ∷ rest_of notices
some_noticed n [] e = grind (arith, e)
some_noticed n (m ∷ rest) e = grind (arith, e)

-- ---- a notice

module _ (old new : EisView) (last : Handed) (p : Option StrictView) (room : ReisRequest) where
  pub noticed_none : None ≡ first_of old.notices → new ≡ noticing old (rest_of old.notices) → HandsNotice old.notices room NOTHING room (behind old last p) (behind new last p)
  noticed_none e is =
      let empty : old.notices ≡ [] = none_noticed old.notices e in
      let same : new ≡ old = is ∙ ap (λ (ns : List Notice). noticing old ns) (ap rest_of empty ∙ sym empty) in
      subst (λ (ns : List Notice). HandsNotice ns room NOTHING room (behind old last p) (behind new last p)) (sym empty) (refl, refl, ap (λ v. behind v last p) same)

  pub noticed_some : (n : Notice) (request : ReisRequest) → request ≡ of_notice n → Some n ≡ first_of old.notices → new ≡ noticing old (rest_of old.notices)
      → HandsNotice old.notices room OK request (behind old last p) (behind new (with_last last None) p)
  noticed_some n request f e is =
      subst (λ (ns : List Notice). HandsNotice ns room OK request (behind old last p) (behind new (with_last last None) p)) (sym (some_noticed n old.notices e))
      (refl, f, ap (λ v. behind v (with_last last None) p) is)

-- ---- a request

abbrev is_untold : EisView → Handed → Bool
is_untold old last = not last.connected && is_some (handle_in old.phase)

module _ (old : EisView) (last : Handed) (room : ReisRequest) where
  from : (b : Bool) (p : Option StrictView) (answer : ℕ) (request : ReisRequest) (held : HeldConnection) → b ≡ false
      → HandsBy p room answer request (behind old last p) held → HandsFrom b room answer request (behind old last p) held
  from b p answer request held e h = rw e h

  pub handed_by : (p : Option StrictView) (answer : ℕ) (request : ReisRequest) (held : HeldConnection) → is_untold old last ≡ false
      → HandsBy p room answer request (behind old last p) held → HandsNext room answer request (behind old last p) held
  handed_by p answer request held told h = from _ p answer request held told h

  pub handed_connected : (p : Option StrictView) (request : ReisRequest) → is_untold old last ≡ true → request ≡ of_connected
      → HandsNext room OK request (behind old last p) (behind old (record { last = None; connected = true }) p)
  handed_connected p request told f = rw told (refl, f, refl)

module _ (old new : EisView) (last : Handed) (room : ReisRequest) where
  abbrev rest : EisView
  rest = awaiting old (rest_of (queue_in old.phase))

  -- without a policy
  plain_none : (answer : ℕ) (request : ReisRequest) (held : HeldConnection) → None ≡ first_of (queue_in old.phase) → new ≡ rest
      → HandsNotice new.notices room answer request (behind new last None) held
      → HandsFirst (queue_in old.phase) room answer request (behind old last None) held
  plain_none answer request held e is h =
      let empty : queue_in old.phase ≡ [] = none_first (queue_in old.phase) e in
      let same : new ≡ old = is ∙ ap (λ (p : Phase). record old { phase = p }) (same_queue old.phase empty) in
      subst (λ (q : List EisRequest). HandsFirst q room answer request (behind old last None) held) (sym empty)
      (subst (λ (v : EisView). HandsNotice v.notices room answer request (behind v last None) held) same h)

  plain_some : (r : EisRequest) (request : ReisRequest) → request ≡ flat r → Some r ≡ first_of (queue_in old.phase) → new ≡ rest
      → HandsFirst (queue_in old.phase) room OK request (behind old last None) (behind new (with_last last (Some r)) None)
  plain_some r request f e is =
      subst (λ (q : List EisRequest). HandsFirst q room OK request (behind old last None) (behind new (with_last last (Some r)) None))
      (sym (some_first r (queue_in old.phase) e)) (refl, f, ap (λ v. behind v (with_last last (Some r)) None) is)

  pub by_none : (p q : Option StrictView) (answer : ℕ) (request : ReisRequest) (held : HeldConnection) → TakesNext p old (Ok None) q new
      → HandsNotice new.notices room answer request (behind new last q) held → HandsBy p room answer request (behind old last p) held
  by_none (Some s) (Some t) answer request held takes h = inl (record {
    sifted = t;
    connection = new;
    sifts = takes.1;
    hands = subst (λ (o : Option EisRequest). HandsPassing o room answer request (behind new last (Some t)) held) takes.0 h;
  })
  by_none (Some s) None answer request held takes h = absurd takes
  by_none None q answer request held takes h = plain_none answer request held takes.1 takes.2
      (subst (λ (o : Option StrictView). HandsNotice new.notices room answer request (behind new last o) held) takes.0 h)

  pub by_some : (p q : Option StrictView) (r : EisRequest) (request : ReisRequest) → request ≡ flat r → TakesNext p old (Ok (Some r)) q new
      → HandsBy p room OK request (behind old last p) (behind new (with_last last (Some r)) q)
  by_some (Some s) (Some t) r request f takes = inl (record {
    sifted = t;
    connection = new;
    sifts = takes.1;
    hands = subst (λ (o : Option EisRequest). HandsPassing o room OK request (behind new last (Some t)) (behind new (with_last last (Some r)) (Some t))) takes.0
        (refl, f, refl);
  })
  by_some (Some s) None r request f takes = absurd takes
  by_some None q r request f takes =
      subst (λ (o : Option StrictView). HandsFirst (queue_in old.phase) room OK request (behind old last None) (behind new (with_last last (Some r)) o)) (sym takes.0)
      (plain_some r request f takes.1 takes.2)

  pub by_want : (p q : Option StrictView) (e : NoMemory) → TakesNext p old (Err e) q new → HandsBy p room NO_MEMORY room (behind old last p) (behind new last q)
  by_want (Some s) (Some t) e holds = inr (record { answers = refl; kept = refl; sifted = t; policy = refl; holds = holds; handed = refl })
  by_want (Some s) None e holds = absurd holds
  by_want None q e holds = absurd holds
