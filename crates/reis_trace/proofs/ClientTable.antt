-- A client's table of objects stands for the events that it read.
use Rattle.std.proofs.Common.{◌≡◌, ◌≢◌, ℕ, ◌<◌, ◌≤◌, ◌^◌, Bool, true, false, cond, eqb, List, [], ◌∷◌, Option, Some, None, Ok, refl, sym, ap, ◌∙◌, arith}
use Rattle.std.specs.Option.{option_or}
use Rattle.std.specs.Ordering.{nat_cmp}
use Rattle.std.specs.FinMap.{empty, get-empty}
use Rattle.std.proofs.lemmas.Bool.{eqb-true}
use Rattle.std.proofs.lemmas.Bool.Decides.{nat_tests}
use Rattle.ei_spec.specs.declared.interface.KnownInterface.{KnownInterface}
use Rattle.ei_spec.specs.declared.interface.KnownInterface.TheVariants as known
use Rattle.ei_spec.specs.Interface.{Known, ObjectView, named_as}
use Rattle.ei_spec.specs.Value.{Value}
use Rattle.ei_spec.specs.Rows.{Row, Announces, Nothing, Fixed, Named, new_id, version_of, name_in}
use Rattle.ei_spec.specs.Message.{Raw}
use Rattle.ei_session.specs.Setup.{connection_id}
use Rattle.ei_session.specs.Told.{told, told_as, told_by, interface_of, ReadsAs}
use Rattle.ei_session.proofs.Choices.{some_is, none_some, not_both}
use Rattle.ei_session.proofs.Telling.{told_more, announced_nothing}
use Rattle.ei_backend.specs.Table.{TableView, accept, found, peer_end, new_table, first_object}
use Rattle.ei_backend.specs.Message.{announce, with_new}
use Rattle.ei_backend.proofs.Objects.{get_with}
use Rattle.ei_backend.proofs.GivenOnce.{accepted_is, peer_found, peer_others}
use Rattle.ei_backend.proofs.FoundAfter.{accepts}
use Rattle.reis_trace.proofs.Climbing.{is_handshake, LiesIn, RisesBy, Rises}

-- the object is the one of this id that was announced as this
abbrev pub Matches : ℕ → Option ObjectView → Option KnownInterface → Type 0
Matches id None None = Unit {0}
Matches id (Some o) (Some k) = (o.interface ≡ Known k) × (o.id ≡ id)
Matches id o k = ⊥

-- the table has exactly the objects that the events announced, and object 0; what is announced next has an id from this one on
pub record Stands (t : TableView) (earlier : List Raw) (next : ℕ) : Type 0 where
  pub client : t.client ≡ true
  pub peer : t.next_peer ≤ next
  pub server : connection_id ≤ next
  pub has : (id : ℕ) → Matches id (found t id) (told earlier id)
  pub zero : told earlier 0 ≡ Some known.Handshake
  pub only : (id : ℕ) → told earlier id ≡ Some known.Handshake → id ≡ 0
  pub small : (id : ℕ) (k : KnownInterface) → told earlier id ≡ Some k → id < 2 ^ 64

matches_as : (id : ℕ) (o p : Option ObjectView) (k j : Option KnownInterface) → p ≡ o → j ≡ k → Matches id o k → Matches id p j
matches_as id o p k j a b h = rw (a, b) h

-- ---- a fresh client

found_first : (id : ℕ) → found (new_table true 1) id ≡ cond (eqb id 0) (Some (first_object true)) None
found_first id = get_with empty 0 id (first_object true) ∙ ap (λ (x : Option ObjectView). cond (eqb id 0) (Some (first_object true)) x) (get-empty nat_cmp id)

first_matches : (id : ℕ) (b : Bool) → eqb id 0 ≡ b → Matches id (cond b (Some (first_object true)) None) (cond b (Some known.Handshake) None)
first_matches id true e = (refl, sym (eqb-true id 0 e))
first_matches id false e = tt

pub first_only : (id : ℕ) (b : Bool) (k : KnownInterface) → eqb id 0 ≡ b → cond b (Some known.Handshake) None ≡ Some k → id ≡ 0
first_only id true k e h = eqb-true id 0 e
first_only id false k e h = absurd (none_some k h)

pub told_first : (id : ℕ) → told [] id ≡ cond (eqb id 0) (Some known.Handshake) None
unfolding told
told_first id = refl

pub first_stands : Stands (new_table true 1) [] connection_id
first_stands = record {
  client = refl;
  peer = omega arith;
  server = omega arith;
  has = λ id. matches_as id _ _ _ _ (found_first id) (told_first id) (first_matches id (eqb id 0) refl);
  zero = told_first 0;
  only = λ id h. first_only id (eqb id 0) known.Handshake refl (sym (told_first id) ∙ h);
  small = λ id k h. omega (arith, first_only id (eqb id 0) k refl (sym (told_first id) ∙ h));
}

-- ---- one more event

-- the events tell the same
same_stands : (t : TableView) (a b : List Raw) (from to : ℕ) → ((id : ℕ) → told b id ≡ told a id) → from ≤ to → Stands t a from → Stands t b to
same_stands t a b from to same le s = record {
  client = s.client;
  peer = omega (arith, s.peer, le);
  server = omega (arith, s.server, le);
  has = λ id. matches_as id _ _ _ _ refl (same id) (s.has id);
  zero = same 0 ∙ s.zero;
  only = λ id h. s.only id (sym (same id) ∙ h);
  small = λ id k h. s.small id k (sym (same id) ∙ h);
}

apart : (a b : ℕ) → eqb a b ≡ false → b ≢ a
apart a b e same = not_both (eqb a b) (rw same (grind (arith, nat_tests))) e

pub handshake_is : (i : KnownInterface) → Some i ≡ Some known.Handshake → is_handshake i ≡ false → ⊥
handshake_is i e h = not_both (is_handshake i) (ap is_handshake (some_is i known.Handshake e)) h

-- the events tell of one more object, which the table accepts
module _ (t u : TableView) (a b : List Raw) (from to id version : ℕ) (i : KnownInterface) (o : ObjectView) (s : Stands t a from) (lies : LiesIn from id to) (other : is_handshake i ≡ false)
    (accepted : accept t id (Known i) version ≡ Ok (o, u)) (tells : (j : ℕ) → told b j ≡ option_or (cond (eqb id j) (Some i) None) (told a j)) where
  new_matches : (j : ℕ) (here : Bool) → eqb id j ≡ here → Matches j (found u j) (option_or (cond here (Some i) None) (told a j))
  new_matches j true e =
      let same : id ≡ j = eqb-true id j e in
      let is = (accepted_is t u id version (Known i) o accepted).object in
      let at : found u j ≡ Some o = ap (found u) (sym same) ∙ peer_found t u id version (Known i) o accepted in
      matches_as j (Some o) (found u j) (Some i) (Some i) at refl (ap (λ (x : ObjectView). x.interface) is, ap (λ (x : ObjectView). x.id) is ∙ same)
  new_matches j false e = matches_as j (found t j) (found u j) (told a j) (told a j) (peer_others t u id version j (Known i) o accepted (apart id j e)) refl (s.has j)

  new_only : (j : ℕ) (here : Bool) → eqb id j ≡ here → option_or (cond here (Some i) None) (told a j) ≡ Some known.Handshake → j ≡ 0
  new_only j true e h = absurd (handshake_is i h other)
  new_only j false e h = s.only j h

  new_small : (j : ℕ) (k : KnownInterface) (here : Bool) → eqb id j ≡ here → option_or (cond here (Some i) None) (told a j) ≡ Some k → j < 2 ^ 64
  new_small j k true e h = omega (arith, lies.most, eqb-true id j e)
  new_small j k false e h = s.small j k h

  new_stands : Stands u b to
  new_stands =
      let table = (accepted_is t u id version (Known i) o accepted).table in
      let far : eqb id 0 ≡ false = grind (arith, nat_tests, lies.low, s.server) in
      record {
        client = ap (λ (x : TableView). x.client) table ∙ s.client;
        peer = omega (arith, ap (λ (x : TableView). x.next_peer) table, lies.high);
        server = omega (arith, s.server, lies.low, lies.high);
        has = λ j. matches_as j (found u j) (found u j) _ (told b j) refl (tells j) (new_matches j (eqb id j) refl);
        zero = tells 0 ∙ rw far s.zero;
        only = λ j h. new_only j (eqb id j) refl (sym (tells j) ∙ h);
        small = λ j k h. new_small j k (eqb id j) refl (sym (tells j) ∙ h);
      }

client_end : (t : TableView) → t.client ≡ true → peer_end t ≡ 18446744073709551615
client_end t e = rw e refl

-- what an event announces is accepted, and the table stands for it too
pub record Reads (t : TableView) (earlier : List Raw) (event : Raw) (row : Row) (values : List Value) (to : ℕ) : Type 0 where
  pub after : TableView
  pub accepted : announce row.announces row.kinds values t ≡ Ok after
  pub stands : Stands after (event ∷ earlier) to

module _ (t : TableView) (earlier : List Raw) (event : Raw) (k : KnownInterface) (row : Row) (values : List Value) (from to : ℕ) (at : interface_of earlier event ≡ k) (r : ReadsAs k event row values) (s : Stands t earlier from) where
  one_object : (i : KnownInterface) → LiesIn from (new_id row.kinds values) to → is_handshake i ≡ false → ((j : ℕ) → told_by j (Some row) (Some values) ≡ cond (eqb (new_id row.kinds values) j) (Some i) None) →
      (after : TableView) × (with_new (accept t (new_id row.kinds values) (Known i) (version_of values)) ≡ Ok after) × Stands after (event ∷ earlier) to
  one_object i lies other tells =
      let id = new_id row.kinds values in
      let h = accepts t id (version_of values) (Known i) (omega (arith, s.peer, lies.low)) (omega (arith, lies.most, client_end t s.client)) in (
        h.0,
        ap with_new h.2,
        new_stands t h.0 earlier (event ∷ earlier) from to id (version_of values) i h.1 s lies other h.2
            (λ j. told_more earlier event k row values j at r ∙ ap (λ (x : Option KnownInterface). option_or x (told earlier j)) (tells j)),
      )

  by_announces : (a : Announces) → row.announces ≡ a → RisesBy a from row.kinds values to → (after : TableView) × (announce a row.kinds values t ≡ Ok after) × Stands after (event ∷ earlier) to
  by_announces Nothing e h =
      (t, refl, same_stands t earlier (event ∷ earlier) from to (λ j. told_more earlier event k row values j at r ∙ ap (λ (x : Option KnownInterface). option_or x (told earlier j)) (announced_nothing j row values e)) h s)
  by_announces (Fixed i) e h = one_object i h.0 h.1 (λ j. ap (λ (a : Announces). cond (eqb (new_id row.kinds values) j) (told_as a values) None) e)
  by_announces Named e h =
      let i = h.1.0 in
      let object = one_object i h.0 h.1.2 (λ j. ap (λ (a : Announces). cond (eqb (new_id row.kinds values) j) (told_as a values) None) e ∙ ap (λ (x : Option KnownInterface). cond (eqb (new_id row.kinds values) j) x None) h.1.1) in
      (object.0, ap (λ (x : Option KnownInterface). with_new (accept t (new_id row.kinds values) (named_as (name_in values) x) (version_of values))) h.1.1 ∙ object.1, object.2)

  pub event_stands : Rises from row values to → Reads t earlier event row values to
  event_stands h = let x = by_announces row.announces refl h in record { after = x.0; accepted = x.1; stands = x.2 }
