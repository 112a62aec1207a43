-- The versions that a client collects of what a server sends are the server's.
use Rattle.std.proofs.Common.{◌≡◌, ℕ, min, ◌<◌, ◌^◌, arith, Bool, true, false, cond, ◌||◌, List, [], ◌∷◌, Option, Some, None, refl, sym, ap, ◌∙◌}
use Rattle.std.specs.Option.{option_or, option_map}
use Rattle.std.specs.List.{list_any, filter_map}
use Rattle.std.specs.Ordering.{nat_cmp}
use Rattle.std.specs.Cmp.Lexicographic.{slice_cmp, nat_list_cmp_total}
use Rattle.std.specs.FinMap as finite
use Rattle.std.proofs.lemmas.Bool.{or_parts}
use Rattle.std.proofs.lemmas.Option.{same_Some}
use Rattle.ei_spec.specs.declared.interface.KnownInterface.{KnownInterface}
use Rattle.ei_spec.specs.History.{last_said}
use Rattle.ei_spec.specs.Interface.{server_version, name_of, is_called, the_settled}
use Rattle.ei_spec.specs.NameMap.{NameMap}
use Rattle.ei_spec.proofs.NameMaps.{is_key, same_key, key_is, found_in, get_in, get_settled, get_handshake, get_unknown, only_settled}
use Rattle.ei_spec.proofs.NameLaws.{version_small}
use Rattle.ei_session.specs.Meaning.{Shake, Finishes}
use Rattle.ei_ends.specs.Sent.{Sent}
use Rattle.ei_ends.specs.Way.{onto}
use Rattle.ei_shaking.specs.Messages.{greeting, version_event, version_if, version_events, connection_event, settled_by}
use Rattle.ei_shaking.specs.Heard.{shake, version_in, version_told, settled, versions_told, says_finish, is_finish, event_shake, collected}
use Rattle.ei_shaking.specs.Sending.{AreVersions}
use Rattle.ei_shaking.specs.Both.{OnlySettled}
use Rattle.ei_shaking.proofs.Ontos.{onto_both}

-- ---- what is found after one event, and after several

one_version : (past : List Sent) (i : KnownInterface) (v : ℕ) → collected (version_event i v ∷ past) ≡ finite.insert (collected past) (name_of i) v
unfolding collected event_shake
one_version past i v = refl

-- what was found under a name, and is what the versions have where they have it
abbrev over : Option ℕ → Bool → Option ℕ → Option ℕ
over there b before = cond b (option_or there before) before

over_twice : (there before : Option ℕ) (a b : Bool) → over there b (over there a before) ≡ over there (a || b) before
over_twice (Some v) before true true = refl
over_twice (Some v) before true false = refl
over_twice (Some v) before false b = refl
over_twice None before true true = refl
over_twice None before true false = refl
over_twice None before false b = refl

module _ (versions : NameMap) (q : List ℕ) where
  now_found : (past : List Sent) (i : KnownInterface) → finite.get (collected (onto (filter_map (version_if versions) (i ∷ [])) past)) q ≡ over (finite.get versions q) (is_called q i) (finite.get (collected past) q)
  now_found past i = by (finite.get versions (name_of i)) refl
    where
      at : (b : Bool) (o : Option ℕ) → is_key q (name_of i) ≡ b → finite.get versions (name_of i) ≡ o → (b ≡ true → finite.get versions q ≡ o)
      at b o e g t = ap (finite.get versions) (key_is q (name_of i) (e ∙ t)) ∙ g

      some : (v : ℕ) (b : Bool) → is_key q (name_of i) ≡ b → finite.get versions (name_of i) ≡ Some v → cond b (Some v) (finite.get (collected past) q) ≡ over (finite.get versions q) b (finite.get (collected past) q)
      some v true e g = rw (at true (Some v) e g refl) refl
      some v false e g = refl

      none : (b : Bool) → is_key q (name_of i) ≡ b → finite.get versions (name_of i) ≡ None → finite.get (collected past) q ≡ over (finite.get versions q) b (finite.get (collected past) q)
      none true e g = rw (at true None e g refl) refl
      none false e g = refl

      by : (o : Option ℕ) → finite.get versions (name_of i) ≡ o → finite.get (collected (onto (filter_map (version_if versions) (i ∷ [])) past)) q ≡ over (finite.get versions q) (is_called q i) (finite.get (collected past) q)
      by None g = rw g (none (is_called q i) (same_key q (name_of i)) g)
      by (Some v) g = rw g (ap (λ (m : NameMap). finite.get m q) (one_version past i v) ∙ finite.get-insert nat_list_cmp_total (collected past) (name_of i) v q
          ∙ ap (λ (b : Bool). cond b (Some v) (finite.get (collected past) q)) (same_key q (name_of i)) ∙ some v (is_called q i) (same_key q (name_of i)) g)

  -- what is collected behind an interface's event, where there is one
  first_found : (past : List Sent) (i : KnownInterface) (is : List KnownInterface) → ((more : List Sent) → finite.get (collected (onto (filter_map (version_if versions) is) more)) q ≡ over (finite.get versions q) (list_any (is_called q) is) (finite.get (collected more) q)) →
      (o : Option ℕ) → finite.get versions (name_of i) ≡ o → finite.get (collected (onto (filter_map (version_if versions) (i ∷ is)) past)) q ≡ over (finite.get versions q) (list_any (is_called q) (i ∷ is)) (finite.get (collected past) q)
  first_found past i is next o g = at o g (now_found past i)
    where
      there : Option ℕ
      there = finite.get versions q

      joined : (more : List Sent) → finite.get (collected more) q ≡ over there (is_called q i) (finite.get (collected past) q) → finite.get (collected (onto (filter_map (version_if versions) is) more)) q ≡ over there (is_called q i || list_any (is_called q) is) (finite.get (collected past) q)
      joined more e = next more ∙ ap (over there (list_any (is_called q) is)) e ∙ over_twice there (finite.get (collected past) q) (is_called q i) (list_any (is_called q) is)

      at : (o : Option ℕ) → finite.get versions (name_of i) ≡ o → finite.get (collected (onto (filter_map (version_if versions) (i ∷ [])) past)) q ≡ over there (is_called q i) (finite.get (collected past) q) →
          finite.get (collected (onto (filter_map (version_if versions) (i ∷ is)) past)) q ≡ over there (list_any (is_called q) (i ∷ is)) (finite.get (collected past) q)
      at None g now = let found_now = rw g at now in rw g (joined past found_now)
      at (Some v) g now = let found_now = rw g at now in rw g (joined (version_event i v ∷ past) found_now)

  all_found : (is : List KnownInterface) (past : List Sent) → finite.get (collected (onto (filter_map (version_if versions) is) past)) q ≡ over (finite.get versions q) (list_any (is_called q) is) (finite.get (collected past) q)
  all_found [] past = refl
  all_found (i ∷ is) past = first_found past i is (all_found is) (finite.get versions (name_of i)) refl

-- ---- all of them

or_none : (o : Option ℕ) → option_or o None ≡ o
or_none (Some v) = refl
or_none None = refl

begun_none : (q : List ℕ) → finite.get (collected (greeting ∷ [])) q ≡ None
unfolding collected event_shake
begun_none q = finite.get-empty (slice_cmp nat_cmp) q

last_adds_none : (serial id : ℕ) (past : List Sent) → collected (connection_event serial id ∷ past) ≡ collected past
unfolding collected event_shake
last_adds_none serial id past = refl

events_found : (versions : NameMap) (q : List ℕ) → finite.get (collected (onto (version_events versions) (greeting ∷ []))) q ≡ over (finite.get versions q) (list_any (is_called q) the_settled) (finite.get (collected (greeting ∷ [])) q)
unfolding version_events
events_found versions q = all_found versions q the_settled (greeting ∷ [])

pub collected_all : (versions : NameMap) (serial id : ℕ) → OnlySettled versions → collected (onto (settled_by versions serial id) (greeting ∷ [])) ≡ versions
collected_all versions serial id only = ap collected (onto_both (version_events versions) (connection_event serial id ∷ []) (greeting ∷ [])) ∙ last (onto (version_events versions) (greeting ∷ []))
    ∙ finite.same_map nat_list_cmp_total (finite.slice_cmp-IsAntisymmetric finite.nat_cmp-IsAntisymmetric) (collected (onto (version_events versions) (greeting ∷ []))) versions at
  where
    last : (past : List Sent) → collected (connection_event serial id ∷ past) ≡ collected past
    last = last_adds_none serial id

    by : (q : List ℕ) (b : Bool) → list_any (is_called q) the_settled ≡ b → over (finite.get versions q) b None ≡ finite.get versions q
    by q true e = or_none (finite.get versions q)
    by q false e = sym (only q e)

    at : (q : List ℕ) → finite.get (collected (onto (version_events versions) (greeting ∷ []))) q ≡ finite.get versions q
    at q = events_found versions q ∙ ap (over (finite.get versions q) (list_any (is_called q) the_settled)) (begun_none q) ∙ by q (list_any (is_called q) the_settled) refl

-- ---- what a server was told

none_in : (values : KnownInterface → Option ℕ) (q : List ℕ) (is : List KnownInterface) → list_any (is_called q) is ≡ false → found_in values q is ≡ None
none_in values q [] h = refl
none_in values q (i ∷ is) h =
    let parts = or_parts (is_called q i) (list_any (is_called q) is) h in
    rw (same_key q (name_of i) ∙ parts.0) (none_in values q is parts.1)

pub told_only : (past : List Sent) → OnlySettled (versions_told past)
told_only past q h = get_in (settled past) q the_settled ∙ none_in (settled past) q the_settled h

-- what one message more says, or what was said before
abbrev said_last : Option ℕ → Option ℕ → Option ℕ
said_last o before = elim o [ Some a ↦ Some a | None ↦ before ]

finish_says : (s : Option Shake) (name : List ℕ) (before : Option ℕ) → says_finish s ≡ true → said_last (version_in name s) before ≡ before
finish_says (Some Finishes) name before h = refl
finish_says s name before h = absurd cc

finish_tells : (past : List Sent) (m : Sent) (i : KnownInterface) → is_finish m ≡ true → version_told (m ∷ past) i ≡ version_told past i
unfolding version_told last_said
finish_tells past m i h = finish_says (shake m) (name_of i) (version_told past i) h

pub finish_adds_none : (past : List Sent) (m : Sent) → is_finish m ≡ true → versions_told (m ∷ past) ≡ versions_told past
finish_adds_none past m h = sym (only_settled (settled (m ∷ past)) (versions_told past)
    (λ i far. get_settled (settled past) i far ∙ sym (ap (option_map (min (server_version i))) (finish_tells past m i h)))
    (get_handshake (settled past)) (λ name n. get_unknown (settled past) name the_settled n))

-- ---- the versions are small

small_in : (values : KnownInterface → Option ℕ) → ((i : KnownInterface) (v : ℕ) → values i ≡ Some v → v < 2 ^ 32) → (q : List ℕ) (is : List KnownInterface) (v : ℕ) → found_in values q is ≡ Some v → v < 2 ^ 32
small_in values small q [] v e = absurd cc
small_in values small q (i ∷ is) v e = by (is_key q (name_of i)) (values i) refl (small_in values small q is v) e
  where
    by : (b : Bool) (o : Option ℕ) → values i ≡ o → (found_in values q is ≡ Some v → v < 2 ^ 32) → cond b (option_or o (found_in values q is)) (found_in values q is) ≡ Some v → v < 2 ^ 32
    by true None g next f = next f
    by true (Some w) g next f = small i v (g ∙ f)
    by false o g next f = next f

told_small : (past : List Sent) (i : KnownInterface) (v : ℕ) → settled past i ≡ Some v → v < 2 ^ 32
told_small past i v e = by (version_told past i) e
  where
    by : (o : Option ℕ) → option_map (min (server_version i)) o ≡ Some v → v < 2 ^ 32
    by None f = absurd cc
    by (Some w) f =
        let is : min (server_version i) w ≡ v = same_Some (min (server_version i) w) v f in
        let small = version_small i in
        omega (arith, small, is)

pub told_versions : (past : List Sent) → AreVersions (versions_told past)
told_versions past q v e = small_in (settled past) (told_small past) q the_settled v (sym (get_in (settled past) q the_settled) ∙ e)
