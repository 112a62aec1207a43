-- The versions of a handshaker are the settled ones of the history.
use Rattle.std.proofs.Common.{◌≡◌, ◌≢◌, ℕ, Bool, true, false, List, [], ◌∷◌, Option, Some, None, refl, sym, ap}
use Rattle.std.specs.Prelude.{is_some}
use Rattle.std.specs.List.{filter_map, list_all}
use Rattle.std.specs.Option.{option_map}
use Rattle.std.proofs.lemmas.Bool.{and_parts}
use Rattle.ei_spec.specs.declared.interface.KnownInterface.{KnownInterface}
use Rattle.ei_spec.specs.declared.interface.KnownInterface.TheVariants as known
use Rattle.ei_spec.specs.Interface.{known_of, the_settled}
use Rattle.ei_spec.specs.Message.{Raw}
use Rattle.ei_session.specs.Handshake.{Announced, all_settled, announced, connected, settled}
use Rattle.ei_session.specs.Replies.{settled_event, settled_events}
use Rattle.ei_session.specs.SettledMap.{settled_map}
use Rattle.ei_session.proofs.SettledMapLaws.{get_settled, announced_map, handshake_map, unknown_map}
use Rattle.ei_handshake.specs.Handshaker.{kept_of, settled_in, settled_version, with_version, has_required, kept_events}

module _ (past : List Raw) (m : Raw) (a : Announced) (off : connected past ≡ false) (e : announced m ≡ Some a) where
  kept_known : (k : KnownInterface) → known_of a.name ≡ Some k → kept_of (settled_map past) a.name a.version (Some k) ≡ settled_map (m ∷ past)
  kept_known known.Handshake n = sym (handshake_map past m a e n)
  kept_known k n = sym (announced_map past m a k off e n (λ q. cc))

  kept_by : (o : Option KnownInterface) → known_of a.name ≡ o → kept_of (settled_map past) a.name a.version o ≡ settled_map (m ∷ past)
  kept_by None n = sym (unknown_map past m a e n)
  kept_by (Some k) n = kept_known k n

  pub announced_kept : with_version (settled_map past) a.name a.version ≡ settled_map (m ∷ past)
  announced_kept = kept_by (known_of a.name) refl

-- a settled version is the one in the map
pub among : (past : List Raw) (i : KnownInterface) → i ≢ known.Handshake → settled_in (settled_map past) i ≡ settled past i
among past i far = get_settled past i far

pub required_kept : (past : List Raw) → has_required (settled_map past) ≡ all_settled past
unfolding all_settled
required_kept past = rw (among past known.Connection (λ q. cc), among past known.Callback (λ q. cc), among past known.Pingpong (λ q. cc)) refl

-- whether a handshake settles an interface
abbrev is_settled : KnownInterface → Bool
is_settled interface = is_some (settled_version interface)

not_handshake : (i : KnownInterface) → is_settled i ≡ true → i ≢ known.Handshake
not_handshake i settled same = let none : is_settled i ≡ false = ap is_settled same in absurd cc

events_at : (handshake : ℕ) (x y : KnownInterface → Option ℕ) (is : List KnownInterface) → list_all is_settled is ≡ true → ((i : KnownInterface) → is_settled i ≡ true → x i ≡ y i) →
    filter_map (λ i. option_map (settled_event handshake i) (x i)) is ≡ filter_map (λ i. option_map (settled_event handshake i) (y i)) is
events_at handshake x y [] all same = refl
events_at handshake x y (i ∷ is) all same =
    let parts = and_parts (is_settled i) (list_all is_settled is) all in
    rw (same i parts.0, events_at handshake x y is parts.1 same) refl

pub events_kept : (past : List Raw) (handshake : ℕ) → kept_events handshake (settled_map past) ≡ settled_events handshake (settled past)
unfolding settled_events
events_kept past handshake = events_at handshake (settled_in (settled_map past)) (settled past) the_settled refl (λ i settled. among past i (not_handshake i settled))
