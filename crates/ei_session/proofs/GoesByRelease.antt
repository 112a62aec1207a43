-- What a release takes away is what it names to go, and nothing else.
use Rattle.std.proofs.Common.{◌≡◌, ℕ, Bool, true, false, cond, ◌&&◌, ◌||◌, eqb, List, [], ◌∷◌, Option, Some, None, refl, sym, ap, ◌∙◌, arith, eq-eqb}
use Rattle.std.specs.Prelude.{nat_eq}
use Rattle.std.specs.List.{list_any}
use Rattle.std.proofs.lemmas.Bool.{eqb-true}
use Rattle.std.proofs.lemmas.Bool.Decides.{nat_tests}
use Rattle.std.proofs.lemmas.List.Folds.{list_any-append}
use Rattle.ei_spec.specs.declared.interface.KnownInterface.{KnownInterface}
use Rattle.ei_spec.specs.declared.interface.KnownInterface.TheVariants as known
use Rattle.ei_spec.specs.Message.{Raw}
use Rattle.ei_session.specs.Handshake.{is_the_finish}
use Rattle.ei_session.specs.Devices.{made}
use Rattle.ei_session.specs.Objects.{Entry, is_release, is_device, is_same, is_of, introduced, removes, object, interfaces_left, gone, given}
use Rattle.ei_session.proofs.Choices.{not_both, or_true}
use Rattle.ei_session.proofs.Opcodes.{release_opcode}
use Rattle.ei_session.proofs.ObjectLaws.{object_at, object_is_introduced, object_keeps, given_by, released, if_removed, without, object_device_release}
use Rattle.ei_session.proofs.ObjectShape.{release_makes_nothing, object_unknown}
use Rattle.ei_session.proofs.GoneLaws.{not_finish_by, object_device, goes}
use Rattle.ei_session.proofs.SerialLaws.{gone_unknown, gone_plain, gone_one, gone_device}
use Rattle.ei_session.proofs.LeftInterfaces.{is_left}

is_same_some : (d : ℕ) (o : Option ℕ) → is_same d o ≡ true → o ≡ Some d
is_same_some d None h = absurd cc
is_same_some d (Some x) h = ap Some (eqb-true x d h)

or_no : (b : Bool) → (b || false) ≡ b
or_no true = refl
or_no false = refl

alone : (b c : Bool) → (true && (b || (false && c))) ≡ b
alone true c = refl
alone false c = refl

swapped : (a b : ℕ) → eqb a b ≡ nat_eq b a
swapped a b = by (nat_eq b a) refl
  where
    by : (x : Bool) → nat_eq b a ≡ x → eqb a b ≡ x
    by true e = grind (arith, nat_tests)
    by false e = grind (arith, nat_tests)

-- ---- a release of what is there

module _ (before : List Raw) (m : Raw) (e : Entry) (k : object before m.id ≡ Some e) (r : is_release (Some e) m ≡ true) where
  kind_of : (i : KnownInterface) → is_device i ≡ true → i ≡ known.Device
  kind_of known.Device t = refl
  kind_of i t = absurd cc

  -- of a device

  after : e.interface ≡ known.Device → (id : ℕ) → object (m ∷ before) id ≡ without m.id (object before id)
  after i id = object_device_release before m e id k (object_device before m.id e k i) (ap is_device i) r

  among : e.interface ≡ known.Device → (id : ℕ) (x : Entry) (b : Bool) → object before id ≡ Some x → x.device ≡ Some m.id → eqb id m.id ≡ b → list_any (nat_eq id) (gone before m) ≡ true
  among i id x true q p t = rw (gone_device before m e k i r, list_any-append (nat_eq id) (interfaces_left before m.id) (m.id ∷ []), t) (or_true (list_any (nat_eq id) (interfaces_left before m.id)))
  among i id x false q p t =
      let left : list_any (nat_eq id) (interfaces_left before m.id) ≡ true = is_left before id m.id x q p (λ same. not_both (eqb id m.id) (eq-eqb id m.id same) t) in
      rw (gone_device before m e k i r, list_any-append (nat_eq id) (interfaces_left before m.id) (m.id ∷ []), left) refl

  of_none : e.interface ≡ known.Device → (id : ℕ) (x : Entry) (b : Bool) → object before id ≡ Some x → list_any (nat_eq id) (gone before m) ≡ false → is_of m.id (Some x) ≡ b → cond b None (Some x) ≡ Some x
  unfolding is_of
  of_none i id x true q h t = absurd (not_both (list_any (nat_eq id) (gone before m)) (among i id x (eqb id m.id) q (is_same_some m.id x.device t) refl) h)
  of_none i id x false q h t = refl

  device_gone_by : e.interface ≡ known.Device → (id : ℕ) (b : Bool) → list_any (nat_eq id) (gone before m) ≡ b → object (m ∷ before) id ≡ cond b None (object before id)
  device_gone_by i id true h = (goes before m id h).none
  device_gone_by i id false h = after i id ∙ stays (object before id) refl
    where
      stays : (o : Option Entry) → object before id ≡ o → without m.id o ≡ o
      stays None q = refl
      stays (Some x) q = of_none i id x (is_of m.id (Some x)) q h refl

  -- of another

  one_removed : is_device e.interface ≡ false → (id : ℕ) → removes before m id ≡ eqb m.id id
  unfolding is_release
  one_removed d id =
      released before m id e (not_finish_by before m (release_opcode e.interface m r)) (object_is_introduced before m.id e k) r ∙ rw d (alone (eqb m.id id) (is_of m.id (introduced before id)))

  one_gone_by : is_device e.interface ≡ false → (id : ℕ) → object (m ∷ before) id ≡ cond (list_any (nat_eq id) (gone before m)) None (object before id)
  unfolding is_release
  one_gone_by d id =
      let f = not_finish_by before m (release_opcode e.interface m r) in
      let nothing = given_by before m id f ∙ ap (λ (x : Option ℕ). given before x id) (release_makes_nothing before m e.interface r) in
      object_at before m id None (eqb m.id id) nothing (one_removed d id) ∙ if_removed (eqb m.id id) (object before id)
      ∙ ap (λ (b : Bool). cond b None (object before id)) (swapped m.id id ∙ sym (or_no (nat_eq id m.id)) ∙ ap (list_any (nat_eq id)) (sym (gone_one before m e k d r)))

  by_kind : (id : ℕ) (b : Bool) → is_device e.interface ≡ b → object (m ∷ before) id ≡ cond (list_any (nat_eq id) (gone before m)) None (object before id)
  by_kind id true d = device_gone_by (kind_of e.interface d) id (list_any (nat_eq id) (gone before m)) refl
  by_kind id false d = one_gone_by d id

  pub release_gone : (id : ℕ) → object (m ∷ before) id ≡ cond (list_any (nat_eq id) (gone before m)) None (object before id)
  release_gone id = by_kind id (is_device e.interface) refl

-- ---- any message that gives nothing

gone_at : (before : List Raw) (m : Raw) (id : ℕ) (e : Entry) (b : Bool) → is_the_finish before m ≡ false → made before m ≡ None → object before m.id ≡ Some e → is_release (Some e) m ≡ b →
    object (m ∷ before) id ≡ cond (list_any (nat_eq id) (gone before m)) None (object before id)
gone_at before m id e true f n k r = release_gone before m e k r id
gone_at before m id e false f n k r =
    object_keeps before m id f n (ap (λ (x : Option Entry). is_release x m) (object_is_introduced before m.id e k) ∙ r)
    ∙ ap (λ (ids : List ℕ). cond (list_any (nat_eq id) ids) None (object before id)) (sym (gone_plain before m e k r))

gone_by : (before : List Raw) (m : Raw) (id : ℕ) (o : Option Entry) → is_the_finish before m ≡ false → made before m ≡ None → object before m.id ≡ o → object (m ∷ before) id ≡ cond (list_any (nat_eq id) (gone before m)) None (object before id)
gone_by before m id None f n k = object_unknown before m id f k ∙ ap (λ (ids : List ℕ). cond (list_any (nat_eq id) ids) None (object before id)) (sym (gone_unknown before m k))
gone_by before m id (Some e) f n k = gone_at before m id e (is_release (Some e) m) f n k refl

-- exactly those go that are named
pub object_gone : (before : List Raw) (m : Raw) (id : ℕ) → is_the_finish before m ≡ false → made before m ≡ None → object (m ∷ before) id ≡ cond (list_any (nat_eq id) (gone before m)) None (object before id)
object_gone before m id f n = gone_by before m id (object before m.id) f n refl
