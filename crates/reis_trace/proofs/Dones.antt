-- The events whose targets no event announced are those of the callbacks.
use Rattle.std.proofs.Common.{◌≡◌, ℕ, ◌<◌, ◌≤◌, Bool, true, false, cond, eqb, List, [], ◌∷◌, ◌++◌, reverse, Option, Some, None, refl, sym, ap, subst}
use Rattle.std.proofs.Common.{◌∙◌, arith, inl, inr, ◌⊎◌}
use Rattle.std.specs.Prelude.{is_none, is_some, unwrap_or}
use Rattle.std.specs.Option.{option_or}
use Rattle.std.proofs.lemmas.Bool.{eqb-true}
use Rattle.std.proofs.lemmas.Bool.Decides.{nat_tests}
use Rattle.std.proofs.lemmas.List.{reverse-reverse}
use Rattle.ei_spec.specs.declared.interface.KnownInterface.{KnownInterface}
use Rattle.ei_spec.specs.declared.interface.KnownInterface.TheVariants as known
use Rattle.ei_spec.specs.Value.{Value}
use Rattle.ei_spec.specs.Rows.{Row, Announces, Nothing, Fixed, Named, new_id}
use Rattle.ei_spec.specs.Message.{Raw}
use Rattle.ei_session.specs.Setup.{Setup, connection_id}
use Rattle.ei_session.specs.Events.{replies}
use Rattle.ei_session.specs.Served.{accepted, AreUnrefused}
use Rattle.ei_session.specs.NextIds.{next_own}
use Rattle.ei_session.specs.Told.{told, told_as, told_by, interface_of, ReadsAs, Calls, HasTarget, IsReply}
use Rattle.ei_session.proofs.Choices.{none_some, not_both}
use Rattle.ei_session.proofs.AcceptedLaws.{accepted_unrefused}
use Rattle.ei_session.proofs.NewCallbacks.{callback_new}
use Rattle.ei_session.proofs.Telling.{told_more, announced_nothing, interface_at, onto, onto_nothing}
use Rattle.ei_session.proofs.TellingAnswers.{reply_told}
use Rattle.reis_trace.specs.Traced.{is_done}
use Rattle.reis_trace.proofs.Climbing.{is_handshake, LiesIn, RisesBy, AllClimb, Climbs, replies_climb}
use Rattle.reis_trace.proofs.ClientTable.{handshake_is, told_first, first_only}
use Rattle.reis_trace.proofs.ReadByClient.{IsReadable, AllReadable, readable, announced_told, unrefused_at}

-- what the events announced has ids of the server, and object 0 alone is a handshake
record Hears (earlier : List Raw) (next : ℕ) : Type 0 where
  pub server : connection_id ≤ next
  pub zero : told earlier 0 ≡ Some known.Handshake
  pub only : (id : ℕ) → told earlier id ≡ Some known.Handshake → id ≡ 0
  pub given : (id : ℕ) (k : KnownInterface) → told earlier id ≡ Some k → (id ≡ 0) ⊎ (connection_id ≤ id)

first_hears : Hears [] connection_id
first_hears = record {
  server = omega arith;
  zero = told_first 0;
  only = λ id h. first_only id (eqb id 0) known.Handshake refl (sym (told_first id) ∙ h);
  given = λ id k h. inl (first_only id (eqb id 0) k refl (sym (told_first id) ∙ h));
}

same_hears : (a b : List Raw) (from to : ℕ) → from ≤ to → ((id : ℕ) → told b id ≡ told a id) → Hears a from → Hears b to
same_hears a b from to le same h = record { server = omega (arith, h.server, le); zero = same 0 ∙ h.zero; only = λ id e. h.only id (sym (same id) ∙ e); given = λ id k e. h.given id k (sym (same id) ∙ e) }

module _ (a b : List Raw) (from to id : ℕ) (i : KnownInterface) (h : Hears a from) (lies : LiesIn from id to) (other : is_handshake i ≡ false) (tells : (j : ℕ) → told b j ≡ option_or (cond (eqb id j) (Some i) None) (told a j)) where
  only_by : (j : ℕ) (here : Bool) → eqb id j ≡ here → option_or (cond here (Some i) None) (told a j) ≡ Some known.Handshake → j ≡ 0
  only_by j true e q = absurd (handshake_is i q other)
  only_by j false e q = h.only j q

  given_by : (j : ℕ) (k : KnownInterface) (here : Bool) → eqb id j ≡ here → option_or (cond here (Some i) None) (told a j) ≡ Some k → (j ≡ 0) ⊎ (connection_id ≤ j)
  given_by j k true e q = inr (omega (arith, h.server, lies.low, eqb-true id j e))
  given_by j k false e q = h.given j k q

  new_hears : Hears b to
  new_hears =
      let far : eqb id 0 ≡ false = grind (arith, nat_tests, lies.low, h.server) in
      record {
        server = omega (arith, h.server, lies.low, lies.high);
        zero = tells 0 ∙ rw far h.zero;
        only = λ j q. only_by j (eqb id j) refl (sym (tells j) ∙ q);
        given = λ j k q. given_by j k (eqb id j) refl (sym (tells j) ∙ q);
      }

handshake_at : (earlier : List Raw) (x : Raw) (from : ℕ) (o : Option KnownInterface) → Hears earlier from → told earlier x.id ≡ o → unwrap_or o known.Callback ≡ known.Handshake → x.id ≡ 0
handshake_at earlier x from None h e q = absurd (not_both (is_handshake known.Callback) (ap is_handshake q) refl)
handshake_at earlier x from (Some k) h e q = h.only x.id (e ∙ ap (λ (i : KnownInterface). Some i) q)

module _ (earlier : List Raw) (x : Raw) (row : Row) (values : List Value) (from to : ℕ) (h : Hears earlier from) (r : ReadsAs (interface_of earlier x) x row values) where
  with_new : (i : KnownInterface) → LiesIn from (new_id row.kinds values) to → is_handshake i ≡ false → ((j : ℕ) → told_by j (Some row) (Some values) ≡ cond (eqb (new_id row.kinds values) j) (Some i) None) → Hears (x ∷ earlier) to
  with_new i lies other tells =
      new_hears earlier (x ∷ earlier) from to (new_id row.kinds values) i h lies other
      (λ j. told_more earlier x (interface_of earlier x) row values j refl r ∙ ap (λ (o : Option KnownInterface). option_or o (told earlier j)) (tells j))

  by_announces : (a : Announces) → row.announces ≡ a → RisesBy a from row.kinds values to → Hears (x ∷ earlier) to
  by_announces Nothing e le =
      same_hears earlier (x ∷ earlier) from to le (λ j. told_more earlier x (interface_of earlier x) row values j refl r ∙ ap (λ (o : Option KnownInterface). option_or o (told earlier j)) (announced_nothing j row values e)) h
  by_announces (Fixed i) e n = with_new i n.0 n.1 (λ j. ap (λ (a : Announces). cond (eqb (new_id row.kinds values) j) (told_as a values) None) e)
  by_announces Named e n =
      with_new n.1.0 n.0 n.1.2 (λ j. ap (λ (a : Announces). cond (eqb (new_id row.kinds values) j) (told_as a values) None) e ∙ ap (λ (o : Option KnownInterface). cond (eqb (new_id row.kinds values) j) o None) n.1.1)

hears_more : (earlier : List Raw) (x : Raw) (from to : ℕ) → Hears earlier from → Climbs from x to → IsReadable earlier x → Hears (x ∷ earlier) to
hears_more earlier x from to h climb r =
    let first : x.id ≡ 0 → interface_of earlier x ≡ known.Handshake = λ z. interface_at earlier x 0 known.Handshake z h.zero in
    let only : interface_of earlier x ≡ known.Handshake → x.id ≡ 0 = λ q. handshake_at earlier x from (told earlier x.id) h refl q in
    by_announces earlier x r.row r.values from to h r.reads r.row.announces refl (climb.rises (interface_of earlier x) r.row r.values first only r.reads)

all_hear : (ys zs earlier : List Raw) (from to : ℕ) → Hears earlier from → AllClimb from (ys ++ zs) to → AllReadable earlier (ys ++ zs) → (next : ℕ) × Hears (onto ys earlier) next
all_hear [] zs earlier from to h climb read = (from, h)
all_hear (y ∷ ys) zs earlier from to h climb read = all_hear ys zs (y ∷ earlier) climb.0 to (hears_more earlier y from climb.0 h climb.1 read.0) climb.2 read.1

none_at : (id next : ℕ) (earlier : List Raw) (o : Option KnownInterface) → Hears earlier next → 0 < id → id < connection_id → told earlier id ≡ o → is_none o ≡ true
none_at id next earlier None h low high e = refl
none_at id next earlier (Some k) h low high e = elim (h.given id k e) [ inl z ↦ absurd (omega (arith, low, z)) | inr s ↦ absurd (omega (arith, high, s)) ]

none_is : (o : Option KnownInterface) → is_none o ≡ true → o ≡ None
none_is None h = refl
none_is (Some k) h = absurd cc

some_not : (o : Option KnownInterface) → is_some o ≡ true → is_none o ≡ true → ⊥
some_not None a b = cc
some_not (Some k) a b = cc

module _ (setup : Setup) (stream : List ℕ) (earlier : List Raw) (event : Raw) (reply : IsReply setup stream earlier event) where
  heard : (next : ℕ) × Hears earlier next
  heard =
      let all = subst (λ (l : List Raw). AllClimb connection_id l (next_own (accepted setup stream))) reply.place (replies_climb setup reply.serial (accepted setup stream)) in
      let read = subst (λ (l : List Raw). AllReadable [] l) reply.place (readable setup stream reply.serial reply.bytes (replies setup (accepted setup stream)) [] refl) in
      let h = all_hear (reverse earlier) (event ∷ reply.later) [] connection_id (next_own (accepted setup stream)) first_hears all read in
      (h.0, subst (λ (l : List Raw). Hears l h.0) (onto_nothing (reverse earlier) ∙ reverse-reverse earlier) h.1)

  pub called_done : Calls setup (accepted setup stream) earlier event → is_done earlier event ≡ true
  called_done c =
      let refused = unrefused_at setup c.more c.sync c.before (subst (AreUnrefused setup) c.place (accepted_unrefused setup stream reply.bytes)) in
      let new = callback_new setup c.before c.sync event.id refused c.callback in
      none_at event.id heard.0 earlier (told earlier event.id) heard.1 new.low new.high refl

  by_target : HasTarget setup (accepted setup stream) earlier event → is_done earlier event ≡ true → Calls setup (accepted setup stream) earlier event
  by_target (inl z) done = absurd (none_some known.Handshake (sym (none_is (told earlier event.id) done) ∙ ap (told earlier) z ∙ heard.1.zero))
  by_target (inr (inl a)) done =
      absurd (some_not (told earlier event.id) (ap (λ (l : List Raw). is_some (told l event.id)) a.place ∙ announced_told a.later a.event a.before event.id a.announced) done)
  by_target (inr (inr c)) done = c

  pub done_called : is_done earlier event ≡ true → Calls setup (accepted setup stream) earlier event
  done_called done = by_target (reply_told setup stream earlier event reply).target done
