-- What holds of an end right behind a message that it took: the target is there, and so is what the message announced, which it never
-- heard of before.
use Rattle.std.proofs.Common.{◌≡◌, ℕ, ◌<◌, ◌≤◌, Bool, true, false, cond, ◌||◌, inl, inr, List, [], ◌∷◌, length, Option, Some, None, refl, sym, ap, subst, ◌∙◌, arith}
use Rattle.std.proofs.lemmas.Bool.{eq-eqb}
use Rattle.ei_spec.specs.Interface.{Known}
use Rattle.ei_spec.specs.Piece.{Piece}
use Rattle.ei_spec.specs.Rows.{Row}
use Rattle.ei_backend.specs.Table.{found, own_start, own_limit}
use Rattle.ei_ends.specs.Sent.{other, Sent, Got, Took, Missed, New, new_in, new_of, row_of, IsCall, IsAlike}
use Rattle.ei_ends.specs.Announced.{or_else, if_named, announced, destroyed, first, known_by, next_own}
use Rattle.ei_ends.specs.Agree.{oldest, Agree, dropped, afters}
use Rattle.ei_ends.specs.Way.{onto, gone, seen_by, MaySend, AllSent, End, alive}
use Rattle.ei_ends.specs.Joined.{Joined, heard, acquainted}
use Rattle.ei_ends.proofs.Known.{or_else_some, or_else_first, if_named_some, next_counts, Rising, rising, rising_onto, next_more, next_onto, next_low, not_yet, not_zero, Apart, apart, new_unheard}
use Rattle.ei_ends.proofs.Known.{known_more, all_sent_onto, unknown_not_destroyed}
use Rattle.ei_ends.proofs.Objects.{their_known_new, unknown_not_gone}
use Rattle.ei_ends.proofs.Agreeing.{agree_length, twice, known_across, dropped_now}
use Rattle.ei_ends.proofs.Keeping.{ranges}
use Rattle.ei_ends.proofs.Knowing.{oldest_onto}
use Rattle.ei_ends.proofs.JoinedSteps.{past_is}
use Rattle.ei_ends.proofs.Reading.{new_alike}

-- ---- what was heard was announced

same_new : (events : Bool) (m r : Sent) (row : Row) → IsCall events m row → IsAlike m r → new_of events r ≡ new_of events m
unfolding row_of
same_new events m r row call a =
    let row_is : row_of events r ≡ Some row = rw (a.opcode, a.interface) call.row in
    ap (λ o. new_in o r.values) row_is ∙ new_alike events m row r.values call a.values

pub heard_announced : (events : Bool) (own past theirs : List Sent) (gots : List Got) (id : ℕ) (n : New) → AllSent events past theirs → Agree events own past gots → heard events gots id ≡ Some n → announced events past id ≡ Some n
unfolding heard announced Agree AllSent
heard_announced events own [] theirs [] id n all h e = absurd cc
heard_announced events own [] theirs (g ∷ gots) id n all h e = absurd h
heard_announced events own (m ∷ past) theirs [] id n all h e = absurd h
heard_announced events own (m ∷ past) theirs (Missed x after ∷ gots) id n all h e = or_else_first _ _ n (heard_announced events own past theirs gots id n all.1 h.1 e)
heard_announced events own (m ∷ past) theirs (Took r after ∷ gots) id n all h e = elim (or_else_some (heard events gots id) (if_named id (new_of events r)) n e) [
  | inl p ↦ or_else_first _ _ n (heard_announced events own past theirs gots id n all.1 h.1 p)
  | inr p ↦
      let same = same_new events m r all.0.row all.0.call h.0.2 in
      let named : if_named id (new_of events m) ≡ Some n = ap (if_named id) (sym same) ∙ p.1 in
      let is = if_named_some id (new_of events m) n named in
      let next = next_counts (next_own events past) (new_of events m) n all.0.fresh is.0 in
      let none : announced events past id ≡ None = not_yet events past id (rising events past theirs all.1) (omega (arith, next.0, is.1)) in
      rw none named
]

none_else : (o : Option New) → ((n : New) → o ≡ Some n → ⊥) → o ≡ None
none_else None f = refl
none_else (Some n) f = absurd (f n refl)

heard_more : (events : Bool) (r : Sent) (after : ℕ) (gots : List Got) (id : ℕ) → heard events (Took r after ∷ gots) id ≡ or_else (heard events gots id) (if_named id (new_of events r))
unfolding heard
heard_more events r after gots id = refl

-- what was heard stays
pub heard_still : (events : Bool) (r : Sent) (after : ℕ) (gots : List Got) (id : ℕ) (n : New) → heard events gots id ≡ Some n → heard events (Took r after ∷ gots) id ≡ Some n
heard_still events r after gots id n e = heard_more events r after gots id ∙ or_else_first (heard events gots id) (if_named id (new_of events r)) n e

pub heard_missed : (events : Bool) (id after : ℕ) (gots : List Got) (x : ℕ) → heard events (Missed x after ∷ gots) id ≡ heard events gots id
unfolding heard
heard_missed events id after gots x = refl

named_self : (n : New) → if_named n.id (Some n) ≡ Some n
named_self n = ap (λ (b : Bool). cond b (Some n) None) (eq-eqb n.id n.id refl)

-- ---- a message that was just taken

-- the message as it was sent, and those sent before it, which were taken before it
pub record TookOne (events : Bool) (x y : End) (r : Sent) (after : ℕ) (gots : List Got) : Type 0 where
  pub message : Sent
  pub past : List Sent
  pub flight : List Sent
  pub theirs : List Sent
  pub sent_is : x.sent ≡ onto flight (message ∷ past)
  pub may : MaySend events past theirs message
  pub before : AllSent events past theirs
  pub alike : IsAlike message r
  pub agree : Agree events y.sent past gots
  pub undropped : dropped events y.sent past (afters gots) after message.target ≡ false
  pub known : known_by (other events) y.sent past message.target ≡ Some (record { id = message.target; interface = Known message.interface; version = message.version })
  pub ranges : Apart events (message ∷ past) y.sent
  pub objects : (id : ℕ) → found y.backend.table id ≡ alive events y.sent (message ∷ past) (Took r after ∷ gots) id

head_sent : (events : Bool) (m : Sent) (ms past sent theirs : List Sent) → sent ≡ onto ms (m ∷ past) → AllSent events sent theirs → MaySend events past theirs m × AllSent events past theirs
unfolding AllSent
head_sent events m ms past sent theirs is h = all_sent_onto events ms (m ∷ past) theirs (subst (λ l. AllSent events l theirs) is h)

pub near : (events : Bool) (sent past flight own : List Sent) → Apart events sent own → sent ≡ onto flight past → Apart events past own
near events sent past flight own h is = record {
  sent_rises = rising_onto events flight past (subst (λ l. Rising events l) is h.sent_rises);
  own_rises = h.own_rises;
  sent_ends = omega (arith, h.sent_ends, next_onto events flight past, ap (next_own events) is);
  own_ends = h.own_ends;
}

pub took_one : (events : Bool) (x y : End) (to_y to_x : Piece) (r : Sent) (after : ℕ) (gots : List Got) → Joined events x y to_y to_x → y.taken ≡ Took r after ∷ gots → TookOne events x y r after gots
unfolding Agree
took_one events x y to_y to_x r after gots j e =
    by j.there.past refl (subst (Agree events y.sent j.there.past) e j.tied.there.agree)
  where
    by : (past : List Sent) → j.there.past ≡ past → Agree events y.sent past (Took r after ∷ gots) → TookOne events x y r after gots
    by [] p a = absurd a
    by (m ∷ past) p a =
        let sent : x.sent ≡ onto j.there.flight (m ∷ past) = j.tied.there.sent_is ∙ ap (onto j.there.flight) p in
        let head = head_sent events m j.there.flight past x.sent j.back.past sent j.tied.says in
        let apart_now = near events x.sent (m ∷ past) j.there.flight y.sent (ranges events x y to_y to_x j.there j.back j.tied) sent in
        record {
          message = m;
          past = past;
          flight = j.there.flight;
          theirs = j.back.past;
          sent_is = sent;
          may = head.0;
          before = head.1;
          alike = a.0.2;
          agree = a.1;
          undropped = a.0.1;
          known = known_across events past j.back.past j.back.flight y.sent m.target _ (near events (m ∷ past) past (m ∷ []) y.sent apart_now refl) j.tied.back.sent_is head.0.knows;
          ranges = apart_now;
          objects = λ id. j.tied.there.objects.objects id ∙ ap (λ (l : List Sent). alive events y.sent l y.taken id) p ∙ ap (λ (l : List Got). alive events y.sent (m ∷ past) l id) e;
        }

module _ (events : Bool) (x y : End) (r : Sent) (after : ℕ) (gots : List Got) (t : TookOne events x y r after gots) where
  nearer : Apart events t.past y.sent
  nearer = near events (t.message ∷ t.past) t.past (t.message ∷ []) y.sent t.ranges refl

  news : new_of events r ≡ new_of events t.message
  news = same_new events t.message r t.may.row t.may.call t.alike

  pub new_is_next : (k : New) → new_of events r ≡ Some k → (k.id ≡ next_own events t.past) × (k.id < own_limit (other events))
  new_is_next k e =
      let c = next_counts (next_own events t.past) (new_of events t.message) k t.may.fresh (sym news ∙ e) in
      (c.0, omega (arith, c.0, c.1, next_more events t.message t.past, t.ranges.sent_ends))

  not_announced : (k : New) → new_of events r ≡ Some k → announced events t.past k.id ≡ None
  not_announced k e = let n = (new_is_next k e).0 in not_yet events t.past k.id nearer.sent_rises (omega (arith, n))

  announced_now : (k : New) → new_of events r ≡ Some k → announced events (t.message ∷ t.past) k.id ≡ Some k
  unfolding announced
  announced_now k e = rw (not_announced k e, sym news ∙ e) (named_self k)

  -- it never heard of it before
  pub new_heard : (k : New) → new_of events r ≡ Some k → heard events (Took r after ∷ gots) k.id ≡ Some k
  new_heard k e =
      let none : heard events gots k.id ≡ None = none_else (heard events gots k.id) (λ n f. let both : Some n ≡ None = sym (heard_announced events y.sent t.past t.theirs gots k.id n t.before t.agree f) ∙ not_announced k e in cc) in
      heard_more events r after gots k.id ∙ ap (λ (o : Option New). or_else o (if_named k.id (new_of events r))) none ∙ ap (if_named k.id) e ∙ named_self k

  not_own : (k : New) → new_of events r ≡ Some k → announced (other events) y.sent k.id ≡ None
  not_own k e = apart events (t.message ∷ t.past) y.sent k.id k t.ranges (announced_now k e)

  not_first : (k : New) → new_of events r ≡ Some k → first k.id ≡ None
  not_first k e =
      let n = (new_is_next k e).0 in
      not_zero k.id (let low = next_low events t.past in let start = start_low (other events) in omega (arith, n, low, start))
    where
      start_low : (b : Bool) → 1 ≤ own_start b
      start_low true = omega arith
      start_low false = omega arith

  pub new_acquainted : (k : New) → new_of events r ≡ Some k → acquainted (other events) y.sent (Took r after ∷ gots) k.id ≡ Some k
  new_acquainted k e =
      rw (not_first k e, not_own k e) (ap (λ (b : Bool). heard b (Took r after ∷ gots) k.id) (twice events) ∙ new_heard k e)

  -- the target is there
  pub target_there : after ≡ length y.sent → found y.backend.table r.target ≡ Some (record { id = r.target; interface = Known r.interface; version = r.version; client_side = events })
  unfolding gone
  target_there now =
      let id : t.message.target ≡ r.target = sym t.alike.target in
      let there = known_more (other events) y.sent t.message t.past t.message.target _ t.known in
      let stays : (destroyed (other events) y.sent t.message.target || gone events t.past gots t.message.target) ≡ false =
      sym (dropped_now events y.sent t.past gots t.message.target t.agree) ∙ ap (λ (n : ℕ). dropped events y.sent t.past (afters gots) n t.message.target) (sym now) ∙ t.undropped in
      let object : found y.backend.table t.message.target ≡ Some (record { id = t.message.target; interface = Known t.message.interface; version = t.message.version; client_side = events }) =
      t.objects t.message.target ∙ rw (stays, there) refl in
      rw (t.alike.target, t.alike.interface, t.alike.version) object

-- what was taken before the message, as it was sent
pub before_is : (events : Bool) (x y y0 : End) (to_y to_x : Piece) (r : Sent) (after : ℕ) (t : TookOne events x y r after y0.taken) (j : Joined events x y0 to_y to_x) → j.there.past ≡ t.past
before_is events x y y0 to_y to_x r after t j =
    sym (past_is events x y0 to_y to_x j) ∙ ap (λ (n : ℕ). oldest n x.sent) (agree_length events y.sent t.past y0.taken t.agree)
    ∙ ap (oldest (length t.past)) t.sent_is ∙ oldest_onto (t.message ∷ t.flight) t.past

-- and so is what the message announced
pub new_there : (events : Bool) (x y y0 : End) (to_y to_x : Piece) (r : Sent) (after : ℕ) (t : TookOne events x y r after y0.taken) → Joined events x y0 to_y to_x → y.sent ≡ y0.sent → (k : New) → new_of events r ≡ Some k →
    found y.backend.table k.id ≡ seen_by events (Some k)
unfolding gone
new_there events x y y0 to_y to_x r after t j same k e =
    let near_it = nearer events x y r after y0.taken t in
    let n = new_is_next events x y r after y0.taken t k e in
    let unheard : known_by (other events) y.sent t.past k.id ≡ None = ap (known_by (other events) y.sent t.past) n.0 ∙ new_unheard events t.past y.sent near_it (omega (arith, n.0, n.1)) in
    let is : new_of events t.message ≡ Some k = sym (news events x y r after y0.taken t) ∙ e in
    let known : known_by (other events) y.sent (t.message ∷ t.past) k.id ≡ Some k = their_known_new (other events) t.message y.sent t.past k (ap (λ (b : Bool). new_of b t.message) (twice events) ∙ is) unheard in
    let all : AllSent (other events) y.sent t.past = subst (λ (l : List Sent). AllSent (other events) l t.past) (sym same) (subst (AllSent (other events) y0.sent) (before_is events x y y0 to_y to_x r after t j) j.tied.answers) in
    let stays = unknown_not_destroyed (other events) y.sent t.past k.id all unheard in
    let gone_not = unknown_not_gone events y.sent t.past y0.taken k.id (not_announced events x y r after y0.taken t k e) in
    t.objects k.id ∙ rw (stays, gone_not, known) refl
