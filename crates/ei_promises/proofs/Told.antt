-- A server's handshaker that is told one message more.
use Rattle.std.proofs.Common.{◌≡◌, ◌≢◌, ℕ, min, Bool, true, false, cond, List, [], ◌∷◌, Option, Some, None, refl, sym, ap, ◌∙◌}
use Rattle.std.specs.Prelude.{is_some}
use Rattle.std.specs.Option.{option_map}
use Rattle.std.specs.Str.{bytes_eq}
use Rattle.std.specs.Ordering.{nat_cmp}
use Rattle.std.specs.Cmp.Lexicographic.{slice_cmp, nat_list_cmp_total}
use Rattle.std.specs.FinMap as finite
use Rattle.std.proofs.lemmas.Slice.Eq.{bytes_eq-Decides}
use Rattle.std.proofs.lemmas.Option.{same_Some}
use Rattle.ei_spec.specs.declared.interface.KnownInterface.{KnownInterface}
use Rattle.ei_spec.specs.declared.interface.KnownInterface.TheVariants as known
use Rattle.ei_spec.specs.History.{last_said}
use Rattle.ei_spec.specs.Interface.{name_of, known_of, server_version, the_settled}
use Rattle.ei_spec.specs.NameMap.{NameMap}
use Rattle.ei_spec.proofs.NameLaws.{known_again}
use Rattle.ei_spec.proofs.NameMaps.{is_key, same_key, key_is, get_settled, get_handshake, get_unknown, only_settled}
use Rattle.ei_session.specs.Meaning.{Shake, TellsInterface}
use Rattle.ei_ends.specs.Sent.{Sent}
use Rattle.ei_server.specs.declared.handshake.Request.{Request as Asked}
use Rattle.ei_server.specs.declared.handshake.Request.TheVariants as asked
use Rattle.ei_handshake.specs.Handshaker.{HandshakerView, untold, kept_of, with_version, told}
use Rattle.ei_handshake.specs.Handshaker as handshaker
use Rattle.ei_shaking.specs.Heard.{shake, name_in, name_told, context_in, context_told, version_in, version_told, settled, versions_told, says_finish, is_finish, has_required}
use Rattle.ei_shaking.specs.Both.{is_finished}
use Rattle.ei_request.specs.Typed.{shake_of}
use Rattle.ei_promises.specs.Keeping.{WasTold}
use Rattle.ei_promises.proofs.Lists.{not_both, has_more, none_has}

-- what one message more says, or what was said before
abbrev said_last : {A : Type 0} → Option A → Option A → Option A
said_last o before = elim o [ Some a ↦ Some a | None ↦ before ]

version_more : (past : List Sent) (m : Sent) (i : KnownInterface) → version_told (m ∷ past) i ≡ said_last (version_in (name_of i) (shake m)) (version_told past i)
unfolding version_told last_said
version_more past m i = refl

name_more : (past : List Sent) (m : Sent) → name_told (m ∷ past) ≡ said_last (name_in (shake m)) (name_told past)
unfolding name_told last_said
name_more past m = refl

context_more : (past : List Sent) (m : Sent) → context_told (m ∷ past) ≡ said_last (context_in (shake m)) (context_told past)
unfolding context_told last_said
context_more past m = refl

-- ---- versions

-- where no interface but the handshake's changes, nothing does
same_versions : (past : List Sent) (m : Sent) → ((i : KnownInterface) → i ≢ known.Handshake → settled (m ∷ past) i ≡ settled past i) → versions_told (m ∷ past) ≡ versions_told past
same_versions past m h =
    sym (only_settled (settled (m ∷ past)) (versions_told past) (λ i far. get_settled (settled past) i far ∙ sym (h i far)) (get_handshake (settled past)) (λ name n. get_unknown (settled past) name the_settled n))

-- a message that tells of no interface changes no version
pub no_version : (past : List Sent) (m : Sent) → ((name : List ℕ) → version_in name (shake m) ≡ None) → versions_told (m ∷ past) ≡ versions_told past
no_version past m h = same_versions past m (λ i far. ap (option_map (min (server_version i))) (version_more past m i ∙ ap (λ (o : Option ℕ). said_last o (version_told past i)) (h (name_of i))))

none_some : {A : Type 0} (a : A) → None ≡ Some a → ⊥
none_some a e = cc

-- a name that doesn't stand for the interface tells nothing of it
unnamed : (name : List ℕ) (version : ℕ) (i : KnownInterface) → (name ≡ name_of i → ⊥) → version_in (name_of i) (Some (TellsInterface name version)) ≡ None
unnamed name version i far = by (bytes_eq name (name_of i)) refl
  where
    by : (b : Bool) → bytes_eq name (name_of i) ≡ b → cond b (Some version) None ≡ None
    by true e = absurd (far ((bytes_eq-Decides name (name_of i)).0 e))
    by false e = refl

module _ (past : List Sent) (m : Sent) (name : List ℕ) (version : ℕ) (e : shake m ≡ Some (TellsInterface name version)) where
  settled_now : (i : KnownInterface) → settled (m ∷ past) i ≡ option_map (min (server_version i)) (said_last (version_in (name_of i) (Some (TellsInterface name version))) (version_told past i))
  settled_now i = ap (option_map (min (server_version i))) (version_more past m i ∙ ap (λ (s : Option Shake). said_last (version_in (name_of i) s) (version_told past i)) e)

  settled_still : (i : KnownInterface) → (name ≡ name_of i → ⊥) → settled (m ∷ past) i ≡ settled past i
  settled_still i far = settled_now i ∙ ap (λ (o : Option ℕ). option_map (min (server_version i)) (said_last o (version_told past i))) (unnamed name version i far)

  unknown_kept : known_of name ≡ None → versions_told (m ∷ past) ≡ versions_told past
  unknown_kept n = same_versions past m (λ i far. settled_still i (λ q. none_some i (sym n ∙ ap known_of q ∙ known_again i)))

  handshake_kept : known_of name ≡ Some known.Handshake → versions_told (m ∷ past) ≡ versions_told past
  handshake_kept n = same_versions past m (λ i far. settled_still i (λ q. far (same_Some i known.Handshake (sym (known_again i) ∙ ap known_of (sym q) ∙ n))))

  module _ (k : KnownInterface) (n : known_of name ≡ Some k) (far : k ≢ known.Handshake) where
    now : (i : KnownInterface) (b : Bool) → is_key (name_of i) name ≡ b → cond b (Some (min (server_version k) version)) (settled past i) ≡ settled (m ∷ past) i
    now i true q =
        let same : name_of i ≡ name = key_is (name_of i) name q in
        let is : k ≡ i = same_Some k i (sym n ∙ ap known_of (sym same) ∙ known_again i) in
        let test : bytes_eq name (name_of i) ≡ true = (bytes_eq-Decides name (name_of i)).1 (sym same) in
        ap (λ (x : KnownInterface). Some (min (server_version x) version)) is
        ∙ sym (settled_now i ∙ ap (λ (b : Bool). option_map (min (server_version i)) (said_last (cond b (Some version) None) (version_told past i))) test)
    now i false q = sym (settled_still i (λ s. not_both (is_key (name_of i) name) (same_key (name_of i) name ∙ (bytes_eq-Decides (name_of i) name).1 (sym s)) q))

    no_key : (q : List ℕ) → (q ≡ name → ⊥) → is_key q name ≡ false
    no_key q h = by (is_key q name) refl
      where
        by : (b : Bool) → is_key q name ≡ b → b ≡ false
        by true s = absurd (h (key_is q name s))
        by false s = refl

    got : (q : List ℕ) → finite.get (finite.insert (versions_told past) name (min (server_version k) version)) q ≡ cond (is_key q name) (Some (min (server_version k) version)) (finite.get (versions_told past) q)
    got q = finite.get-insert nat_list_cmp_total (versions_told past) name (min (server_version k) version) q

    known_kept : versions_told (m ∷ past) ≡ finite.insert (versions_told past) name (min (server_version k) version)
    known_kept =
        let none : is_key (name_of known.Handshake) name ≡ false = no_key (name_of known.Handshake) (λ s. far (same_Some k known.Handshake (sym n ∙ ap known_of (sym s) ∙ known_again known.Handshake))) in
        sym (only_settled (settled (m ∷ past)) (finite.insert (versions_told past) name (min (server_version k) version))
        (λ i other. got (name_of i) ∙ ap (λ (o : Option ℕ). cond (is_key (name_of i) name) (Some (min (server_version k) version)) o) (get_settled (settled past) i other) ∙ now i (is_key (name_of i) name) refl)
        (got (name_of known.Handshake) ∙ ap (λ (b : Bool). cond b (Some (min (server_version k) version)) (finite.get (versions_told past) (name_of known.Handshake))) none ∙ get_handshake (settled past))
        (λ q u. got q ∙ ap (λ (b : Bool). cond b (Some (min (server_version k) version)) (finite.get (versions_told past) q)) (no_key q (λ s. none_some k (sym u ∙ ap known_of s ∙ n))) ∙ get_unknown (settled past) q the_settled u))

  by_interface : (k : KnownInterface) → known_of name ≡ Some k → kept_of (versions_told past) name version (Some k) ≡ versions_told (m ∷ past)
  by_interface known.Handshake n = sym (handshake_kept n)
  by_interface k n = sym (known_kept k n (λ q. cc))

  by_name : (o : Option KnownInterface) → known_of name ≡ o → kept_of (versions_told past) name version o ≡ versions_told (m ∷ past)
  by_name None n = sym (unknown_kept n)
  by_name (Some k) n = by_interface k n

  pub version_kept : with_version (versions_told past) name version ≡ versions_told (m ∷ past)
  version_kept = by_name (known_of name) refl

-- ---- what is told

finish_is : (past : List Sent) (m : Sent) (s : Shake) → shake m ≡ Some s → is_finished past ≡ false → is_finished (m ∷ past) ≡ says_finish (Some s)
finish_is past m s e n = has_more is_finish m past ∙ ap (λ (o : Option Shake). cond (says_finish o) true (is_finished past)) e ∙ ap (cond (says_finish (Some s)) true) n ∙ by (says_finish (Some s))
  where
    by : (b : Bool) → cond b true false ≡ b
    by true = refl
    by false = refl

none_settled : (i : KnownInterface) → settled [] i ≡ None
unfolding version_told last_said
none_settled i = refl

none_told : finite.empty ≡ versions_told []
none_told = only_settled (settled []) finite.empty (λ i far. finite.get-empty (slice_cmp nat_cmp) (name_of i) ∙ sym (none_settled i)) (finite.get-empty (slice_cmp nat_cmp) (name_of known.Handshake)) (λ name n. finite.get-empty (slice_cmp nat_cmp) name)

pub told_first : (serial : ℕ) → WasTold serial [] (untold serial)
unfolding name_told context_told last_said
told_first serial = record { serial_is = refl; versions = none_told; named = refl; typed = refl; unfinished = none_has is_finish }

module _ (serial : ℕ) (past : List Sent) (m : Sent) (h : HandshakerView) (t : WasTold serial past h) where
  name_still : (a : Asked) → shake m ≡ Some (shake_of a) → name_told (m ∷ past) ≡ said_last (name_in (Some (shake_of a))) (name_told past)
  name_still a e = name_more past m ∙ ap (λ (o : Option Shake). said_last (name_in o) (name_told past)) e

  context_still : (a : Asked) → shake m ≡ Some (shake_of a) → context_told (m ∷ past) ≡ said_last (context_in (Some (shake_of a))) (context_told past)
  context_still a e = context_more past m ∙ ap (λ (o : Option Shake). said_last (context_in o) (context_told past)) e

  named_now : (a : Asked) → shake m ≡ Some (shake_of a) → is_some (told h a).name ≡ is_some (name_told (m ∷ past))
  named_now (asked.HandshakeVersion version) e = t.named ∙ ap is_some (sym (name_still (asked.HandshakeVersion version) e))
  named_now (asked.Name name) e = ap is_some (sym (name_still (asked.Name name) e))
  named_now (asked.ContextType kind) e = t.named ∙ ap is_some (sym (name_still (asked.ContextType kind) e))
  named_now (asked.InterfaceVersion name version) e = t.named ∙ ap is_some (sym (name_still (asked.InterfaceVersion name version) e))
  named_now asked.Finish e = t.named ∙ ap is_some (sym (name_still asked.Finish e))

  typed_now : (a : Asked) → shake m ≡ Some (shake_of a) → is_some (told h a).context_type ≡ is_some (context_told (m ∷ past))
  typed_now (asked.HandshakeVersion version) e = t.typed ∙ ap is_some (sym (context_still (asked.HandshakeVersion version) e))
  typed_now (asked.Name name) e = t.typed ∙ ap is_some (sym (context_still (asked.Name name) e))
  typed_now (asked.ContextType kind) e = ap is_some (sym (context_still (asked.ContextType kind) e))
  typed_now (asked.InterfaceVersion name version) e = t.typed ∙ ap is_some (sym (context_still (asked.InterfaceVersion name version) e))
  typed_now asked.Finish e = t.typed ∙ ap is_some (sym (context_still asked.Finish e))

  version_none : (a : Asked) → shake m ≡ Some (shake_of a) → ((name : List ℕ) → version_in name (Some (shake_of a)) ≡ None) → h.versions ≡ versions_told (m ∷ past)
  version_none a e none = t.versions ∙ sym (no_version past m (λ name. ap (version_in name) e ∙ none name))

  versions_now : (a : Asked) → shake m ≡ Some (shake_of a) → (told h a).versions ≡ versions_told (m ∷ past)
  versions_now (asked.HandshakeVersion version) e = version_none (asked.HandshakeVersion version) e (λ name. refl)
  versions_now (asked.Name name) e = version_none (asked.Name name) e (λ n. refl)
  versions_now (asked.ContextType kind) e = version_none (asked.ContextType kind) e (λ name. refl)
  versions_now (asked.InterfaceVersion name version) e = ap (λ (v : NameMap). with_version v name version) t.versions ∙ version_kept past m name version e
  versions_now asked.Finish e = version_none asked.Finish e (λ name. refl)

  serial_now : (a : Asked) → (told h a).serial ≡ serial
  serial_now (asked.HandshakeVersion version) = t.serial_is
  serial_now (asked.Name name) = t.serial_is
  serial_now (asked.ContextType kind) = t.serial_is
  serial_now (asked.InterfaceVersion name version) = t.serial_is
  serial_now asked.Finish = t.serial_is

  pub told_more : (a : Asked) → shake m ≡ Some (shake_of a) → says_finish (Some (shake_of a)) ≡ false → WasTold serial (m ∷ past) (told h a)
  told_more a e off = record {
    serial_is = serial_now a;
    versions = versions_now a e;
    named = named_now a e;
    typed = typed_now a e;
    unfinished = finish_is past m (shake_of a) e t.unfinished ∙ off;
  }

  -- each interface that is required is settled, where the handshaker has it
  pub required_same : handshaker.has_required h.versions ≡ has_required past
  required_same =
      ap handshaker.has_required t.versions
      ∙ rw (get_settled (settled past) known.Connection (λ q. cc), get_settled (settled past) known.Callback (λ q. cc), get_settled (settled past) known.Pingpong (λ q. cc)) refl
