-- The map of the versions that are settled.
use Rattle.std.proofs.Common.{◌≡◌, ◌≢◌, ℕ, min, Bool, true, false, cond, List, [], ◌∷◌, Option, Some, None, refl, sym, ap, ◌∙◌}
use Rattle.std.specs.Ordering.{nat_cmp}
use Rattle.std.specs.Str.{bytes_eq}
use Rattle.std.specs.Cmp.Lexicographic.{slice_cmp, nat_list_cmp_total}
use Rattle.std.specs.FinMap as finite
use Rattle.std.proofs.lemmas.Slice.Eq.{bytes_eq-Decides}
use Rattle.ei_spec.specs.declared.interface.KnownInterface.{KnownInterface}
use Rattle.ei_spec.specs.declared.interface.KnownInterface.TheVariants as known
use Rattle.ei_spec.specs.Interface.{name_of, known_of, server_version, the_settled}
use Rattle.ei_spec.specs.Message.{Raw}
use Rattle.ei_spec.specs.History.{last_said}
use Rattle.ei_session.specs.Handshake.{Announced, announced, connected, version_if, settled}
use Rattle.ei_session.specs.SettledMap.{Versions, settled_map}
use Rattle.ei_session.proofs.Choices.{some_is, none_some, not_both}
use Rattle.ei_session.proofs.OneMore.{version_then, settled_more}
use Rattle.ei_session.proofs.SerialLaws.{settled_fixed}
use Rattle.ei_spec.proofs.NameLaws.{known_again as named}
use Rattle.ei_spec.proofs.NameMaps.{is_key, same_key, key_is, found_in, get_in, get_settled as settled_in, get_handshake as handshake_in, get_unknown as unknown_in, only_settled}

-- ---- what the map has

pub found_settled : (before : List Raw) (q : List ℕ) → finite.get (settled_map before) q ≡ found_in (settled before) q the_settled
unfolding settled_map
found_settled before q = get_in (settled before) q the_settled

pub get_settled : (before : List Raw) (i : KnownInterface) → i ≢ known.Handshake → finite.get (settled_map before) (name_of i) ≡ settled before i
unfolding settled_map
get_settled before i far = settled_in (settled before) i far

pub get_handshake : (before : List Raw) → finite.get (settled_map before) (name_of known.Handshake) ≡ None
unfolding settled_map
get_handshake before = handshake_in (settled before)

pub get_unknown : (before : List Raw) (name : List ℕ) → known_of name ≡ None → finite.get (settled_map before) name ≡ None
unfolding settled_map
get_unknown before name n = unknown_in (settled before) name the_settled n

-- there is one such map
pub only_map : (before : List Raw) (map : Versions) → ((i : KnownInterface) → i ≢ known.Handshake → finite.get map (name_of i) ≡ settled before i) → finite.get map (name_of known.Handshake) ≡ None → ((name : List ℕ) → known_of name ≡ None → finite.get map name ≡ None) → map ≡ settled_map before
unfolding settled_map
only_map before map h z u = only_settled (settled before) map h z u

-- ---- after one more message

first_none : (i : KnownInterface) → settled [] i ≡ None
unfolding settled last_said
first_none i = refl

pub first_map : settled_map [] ≡ finite.empty
first_map = sym (only_map [] finite.empty (λ i far. finite.get-empty (slice_cmp nat_cmp) (name_of i) ∙ sym (first_none i)) (finite.get-empty (slice_cmp nat_cmp) (name_of known.Handshake)) (λ name n. finite.get-empty (slice_cmp nat_cmp) name))

-- where no interface but the handshake's changes, nothing does
same_map_by : (before : List Raw) (m : Raw) → ((i : KnownInterface) → i ≢ known.Handshake → settled (m ∷ before) i ≡ settled before i) → settled_map (m ∷ before) ≡ settled_map before
same_map_by before m h = sym (only_map (m ∷ before) (settled_map before) (λ i far. get_settled before i far ∙ sym (h i far)) (get_handshake before) (get_unknown before))

settled_at : (before : List Raw) (m : Raw) (i : KnownInterface) (b : Bool) → connected before ≡ b → version_if (name_of i) (announced m) ≡ None → settled (m ∷ before) i ≡ settled before i
settled_at before m i true on n = settled_fixed before m i on
settled_at before m i false off n = settled_more before m i off ∙ ap (λ (o : Option ℕ). version_then i o (settled before i)) n

pub other_map : (before : List Raw) (m : Raw) → announced m ≡ None → settled_map (m ∷ before) ≡ settled_map before
other_map before m n = same_map_by before m (λ i far. settled_at before m i (connected before) refl (ap (version_if (name_of i)) n))

pub connected_map : (before : List Raw) (m : Raw) → connected before ≡ true → settled_map (m ∷ before) ≡ settled_map before
connected_map before m on = same_map_by before m (λ i far. settled_fixed before m i on)

-- a name that doesn't stand for the interface announces nothing of it
unnamed : (a : Announced) (i : KnownInterface) → (a.name ≡ name_of i → ⊥) → version_if (name_of i) (Some a) ≡ None
unnamed a i far = by (bytes_eq a.name (name_of i)) refl
  where
    by : (b : Bool) → bytes_eq a.name (name_of i) ≡ b → cond b (Some a.version) None ≡ None
    by true e = absurd (far ((bytes_eq-Decides a.name (name_of i)).0 e))
    by false e = refl

pub unknown_map : (before : List Raw) (m : Raw) (a : Announced) → announced m ≡ Some a → known_of a.name ≡ None → settled_map (m ∷ before) ≡ settled_map before
unknown_map before m a e n =
    same_map_by before m (λ i far. settled_at before m i (connected before) refl (ap (version_if (name_of i)) e ∙ unnamed a i (λ q. none_some i (sym n ∙ ap known_of q ∙ named i))))

pub handshake_map : (before : List Raw) (m : Raw) (a : Announced) → announced m ≡ Some a → known_of a.name ≡ Some known.Handshake → settled_map (m ∷ before) ≡ settled_map before
handshake_map before m a e n =
    same_map_by before m (λ i far. settled_at before m i (connected before) refl (ap (version_if (name_of i)) e ∙ unnamed a i (λ q. far (some_is i known.Handshake (sym (named i) ∙ ap known_of (sym q) ∙ n)))))

-- ---- after an announcement

module _ (before : List Raw) (m : Raw) (a : Announced) (k : KnownInterface) (off : connected before ≡ false) (e : announced m ≡ Some a) (n : known_of a.name ≡ Some k) (far : k ≢ known.Handshake) where
  now_settled : (i : KnownInterface) (b : Bool) → is_key (name_of i) a.name ≡ b → cond b (Some (min (server_version k) a.version)) (settled before i) ≡ settled (m ∷ before) i
  now_settled i true q =
      let same : name_of i ≡ a.name = key_is (name_of i) a.name q in
      let is : k ≡ i = some_is k i (sym n ∙ ap known_of (sym same) ∙ named i) in
      let test : bytes_eq a.name (name_of i) ≡ true = (bytes_eq-Decides a.name (name_of i)).1 (sym same) in
      ap (λ (x : KnownInterface). Some (min (server_version x) a.version)) is ∙ sym (settled_more before m i off ∙ ap (λ (o : Option Announced). version_then i (version_if (name_of i) o) (settled before i)) e ∙ ap (λ (b : Bool). version_then i (cond b (Some a.version) None) (settled before i)) test)
  now_settled i false q =
      let other : version_if (name_of i) (Some a) ≡ None = unnamed a i (λ s. not_both (is_key (name_of i) a.name) (same_key (name_of i) a.name ∙ (bytes_eq-Decides (name_of i) a.name).1 (sym s)) q) in
      sym (settled_at before m i false off (ap (version_if (name_of i)) e ∙ other))

  no_such : (q : List ℕ) → (q ≡ a.name → ⊥) → is_key q a.name ≡ false
  no_such q h = by (is_key q a.name) refl
    where
      by : (b : Bool) → is_key q a.name ≡ b → b ≡ false
      by true s = absurd (h (key_is q a.name s))
      by false s = refl

  got : (q : List ℕ) → finite.get (finite.insert (settled_map before) a.name (min (server_version k) a.version)) q ≡ cond (is_key q a.name) (Some (min (server_version k) a.version)) (finite.get (settled_map before) q)
  got q = finite.get-insert nat_list_cmp_total (settled_map before) a.name (min (server_version k) a.version) q

  pub announced_map : settled_map (m ∷ before) ≡ finite.insert (settled_map before) a.name (min (server_version k) a.version)
  announced_map =
      let none : is_key (name_of known.Handshake) a.name ≡ false = no_such (name_of known.Handshake) (λ s. far (some_is k known.Handshake (sym n ∙ ap known_of (sym s) ∙ named known.Handshake))) in
      sym (only_map (m ∷ before) (finite.insert (settled_map before) a.name (min (server_version k) a.version))
      (λ i other. got (name_of i) ∙ ap (λ (o : Option ℕ). cond (is_key (name_of i) a.name) (Some (min (server_version k) a.version)) o) (get_settled before i other) ∙ now_settled i (is_key (name_of i) a.name) refl)
      (got (name_of known.Handshake) ∙ ap (λ (b : Bool). cond b (Some (min (server_version k) a.version)) (finite.get (settled_map before) (name_of known.Handshake))) none ∙ get_handshake before)
      (λ name u. got name ∙ ap (λ (b : Bool). cond b (Some (min (server_version k) a.version)) (finite.get (settled_map before) name)) (no_such name (λ s. none_some k (sym u ∙ ap known_of s ∙ n))) ∙ get_unknown before name u))
