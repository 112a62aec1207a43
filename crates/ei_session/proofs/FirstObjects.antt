-- The handshake, the connection, and what is there before the finish.
use Rattle.std.proofs.Common.{◌≡◌, ℕ, ◌≤◌, Bool, true, false, cond, ◌&&◌, ◌||◌, eqb, List, [], ◌∷◌, Option, Some, None, refl, sym, ap, ◌∙◌, arith}
use Rattle.std.specs.Prelude.{codes}
use Rattle.std.proofs.lemmas.Bool.{eqb-true}
use Rattle.ei_spec.specs.declared.interface.KnownInterface.{KnownInterface}
use Rattle.ei_spec.specs.declared.interface.KnownInterface.TheVariants as known
use Rattle.ei_spec.specs.Message.{Raw}
use Rattle.ei_spec.specs.History.{last_said, occurs}
use Rattle.ei_session.specs.Setup.{connection_id, seat_id}
use Rattle.ei_session.specs.Asked.{asked, asks}
use Rattle.ei_session.specs.Handshake.{connected, is_the_finish, version}
use Rattle.ei_session.specs.Devices.{seat_is_open, made}
use Rattle.ei_session.specs.Objects.{Entry, given, handed_over, introduces, at_first, introduced, is_release, was_device, is_of, removes, object}
use Rattle.ei_session.proofs.Choices.{and_false, not_both}
use Rattle.ei_session.proofs.ObjectLaws.{object_at, introduced_now, introduced_before, device_above, given_by, object_keeps, object_finish}
use Rattle.ei_session.proofs.ObjectShape.{at_finish, same_connected, now_connected, low_none}

-- ---- the handshake and the connection

of_no_device : (d : ℕ) (e : Entry) → e.device ≡ None → is_of d (Some e) ≡ false
unfolding is_of
of_no_device d e p = rw (p, is_of) refl

-- what has an id up to the seat's is of no device
low_bare : (before : List Raw) (id : ℕ) (k : ℕ) (o : Option Entry) → id ≤ seat_id → introduced before id ≡ o → is_of k (introduced before id) ≡ false
unfolding is_of
low_bare before id k None le e = rw e refl
low_bare before id k (Some x) le e = rw e (by x.device refl)
  where
    by : (d : Option ℕ) → x.device ≡ d → is_of k (Some x) ≡ false
    by None p = of_no_device k x p
    by (Some d) p = let up = device_above before id x d e p in absurd (omega arith)

low_removes : (before : List Raw) (m : Raw) (id : ℕ) → id ≤ seat_id → is_the_finish before m ≡ false → is_release (introduced before id) m ≡ false → removes before m id ≡ false
unfolding removes
low_removes before m id le f r = rw (f, low_bare before id m.id (introduced before id) le refl, removes) (by (eqb m.id id) refl)
  where
    by : (b : Bool) → eqb m.id id ≡ b → (is_release (introduced before m.id) m && (b || (was_device (introduced before m.id) && false))) ≡ false
    by true e = rw (ap (introduced before) (eqb-true m.id id e), r) refl
    by false e = rw (and_false (was_device (introduced before m.id)), and_false (is_release (introduced before m.id) m)) refl

-- the handshake's object
abbrev pub the_handshake : Entry
the_handshake = record { interface = known.Handshake; version = 1; device = None }

-- the connection's object
abbrev pub the_connection : Entry
the_connection = record { interface = known.Connection; version = 1; device = None }

handed_zero : (before : List Raw) (m : Raw) (b : Bool) → is_the_finish before m ≡ b → introduces before m 0 ≡ None
unfolding introduces handed_over
handed_zero before m true f = rw (f, introduces) refl
handed_zero before m false f = low_none before m 0 (omega arith) f

pub handshake_was : (before : List Raw) → introduced before 0 ≡ Some the_handshake
unfolding introduced last_said
handshake_was [] = refl
handshake_was (m ∷ before) = introduced_before before m 0 (handed_zero before m (is_the_finish before m) refl) ∙ handshake_was before

no_release_of : (o : Option Entry) (e : Entry) (m : Raw) → o ≡ Some e → asks e.interface (codes "release") m ≡ false → is_release o m ≡ false
unfolding is_release
no_release_of o e m p r = rw (p, is_release) r

pub never_released : (k : KnownInterface) (m : Raw) → k ≡ known.Handshake → asks k (codes "release") m ≡ false
unfolding asks asked
never_released k m e = rw e refl

pub connection_unreleased : (k : KnownInterface) (m : Raw) → k ≡ known.Connection → asks k (codes "release") m ≡ false
unfolding asks asked
connection_unreleased k m e = rw e refl

handshake_at : (before : List Raw) (m : Raw) (b : Bool) → object before 0 ≡ cond (connected before) None (Some the_handshake) → is_the_finish before m ≡ b → object (m ∷ before) 0 ≡ cond (connected (m ∷ before)) None (Some the_handshake)
handshake_at before m true next f = object_finish before m 0 f ∙ rw (now_connected before m f) refl
handshake_at before m false next f =
    let kept = low_removes before m 0 (omega arith) f (no_release_of (introduced before 0) the_handshake m (handshake_was before) (never_released known.Handshake m refl)) in
    object_at before m 0 None false (low_none before m 0 (omega arith) f) kept ∙ next ∙ rw (same_connected before m f) refl

-- object 0 is there up to the finish
pub object_handshake : (before : List Raw) → object before 0 ≡ cond (connected before) None (Some the_handshake)
unfolding object last_said connected occurs
object_handshake [] = refl
object_handshake (m ∷ before) = handshake_at before m (is_the_finish before m) (object_handshake before) refl

connection_handed : (before : List Raw) (m : Raw) → is_the_finish before m ≡ true → introduces before m connection_id ≡ Some the_connection
unfolding introduces handed_over
connection_handed before m f = rw (f, introduces) refl

connection_was_at : (before : List Raw) (m : Raw) (b : Bool) → introduced before connection_id ≡ cond (connected before) (Some the_connection) None → is_the_finish before m ≡ b → introduced (m ∷ before) connection_id ≡ cond (connected (m ∷ before)) (Some the_connection) None
connection_was_at before m true next f = introduced_now before m connection_id the_connection (connection_handed before m f) ∙ rw (now_connected before m f) refl
connection_was_at before m false next f = introduced_before before m connection_id (low_none before m connection_id (omega arith) f) ∙ next ∙ rw (same_connected before m f) refl

pub connection_was : (before : List Raw) → introduced before connection_id ≡ cond (connected before) (Some the_connection) None
unfolding introduced last_said connected occurs
connection_was [] = refl
connection_was (m ∷ before) = connection_was_at before m (is_the_finish before m) (connection_was before) refl

connection_kept : (before : List Raw) (m : Raw) (b : Bool) → connected before ≡ b → is_release (introduced before connection_id) m ≡ false
unfolding is_release
connection_kept before m true on = no_release_of (introduced before connection_id) the_connection m (connection_was before ∙ rw on refl) (connection_unreleased known.Connection m refl)
connection_kept before m false on = rw (connection_was before, on) refl

connection_at : (before : List Raw) (m : Raw) (b : Bool) → object before connection_id ≡ cond (connected before) (Some the_connection) None → is_the_finish before m ≡ b → object (m ∷ before) connection_id ≡ cond (connected (m ∷ before)) (Some the_connection) None
connection_at before m true next f = object_finish before m connection_id f ∙ rw (now_connected before m f) refl
connection_at before m false next f =
    let kept = low_removes before m connection_id (omega arith) f (connection_kept before m (connected before) refl) in
    object_at before m connection_id None false (low_none before m connection_id (omega arith) f) kept ∙ next ∙ rw (same_connected before m f) refl

-- the connection is there from the finish on
pub object_connection : (before : List Raw) → object before connection_id ≡ cond (connected before) (Some the_connection) None
unfolding object last_said connected occurs
object_connection [] = refl
object_connection (m ∷ before) = connection_at before m (is_the_finish before m) (object_connection before) refl

-- ---- before the finish there is the handshake alone

pub shut_makes_nothing : (before : List Raw) (m : Raw) → connected before ≡ false → made before m ≡ None
unfolding made seat_is_open
shut_makes_nothing before m off = rw (off, made) refl

pub not_the_finish : (before : List Raw) (m : Raw) → connected (m ∷ before) ≡ false → (is_the_finish before m ≡ false) × (connected before ≡ false)
not_the_finish before m off = by (is_the_finish before m) refl
  where
    by : (b : Bool) → is_the_finish before m ≡ b → (is_the_finish before m ≡ false) × (connected before ≡ false)
    by true f = absurd (not_both _ (now_connected before m f) off)
    by false f = (f, sym (same_connected before m f) ∙ off)

pub introduced_first : (before : List Raw) (id : ℕ) → connected before ≡ false → introduced before id ≡ at_first id
unfolding introduced last_said
introduced_first [] id off = refl
introduced_first (m ∷ before) id off =
    let two = not_the_finish before m off in
    introduced_before before m id (given_by before m id two.0 ∙ ap (λ (x : Option ℕ). given before x id) (shut_makes_nothing before m two.1)) ∙ introduced_first before id two.1

first_unreleased : (id : ℕ) (m : Raw) (b : Bool) → eqb id 0 ≡ b → is_release (at_first id) m ≡ false
unfolding is_release asks asked
first_unreleased id m true e = rw e refl
first_unreleased id m false e = rw e refl

pub object_first : (before : List Raw) (id : ℕ) → connected before ≡ false → object before id ≡ at_first id
unfolding object last_said
object_first [] id off = refl
object_first (m ∷ before) id off =
    let two = not_the_finish before m off in
    object_keeps before m id two.0 (shut_makes_nothing before m two.1) (ap (λ (x : Option Entry). is_release x m) (introduced_first before m.id two.1) ∙ first_unreleased m.id m (eqb m.id 0) refl) ∙ object_first before id two.1

-- at the finish the connection and the seat take its place
pub object_handed : (before : List Raw) (m : Raw) (id : ℕ) → is_the_finish before m ≡ true → object (m ∷ before) id ≡ handed_over before id
unfolding handed_over
object_handed before m id f =
    object_finish before m id f ∙ ap (λ (x : Option Entry). cond (eqb id connection_id) (Some (record { interface = known.Connection; version = 1; device = None })) (cond (eqb id seat_id) (Some (record { interface = known.Seat; version = version before known.Seat; device = None })) x)) (by (eqb id 0) refl)
  where
    by : (b : Bool) → eqb id 0 ≡ b → cond (eqb id 0) None (object before id) ≡ None
    by true e = rw e refl
    by false e = rw (e, object_first before id (at_finish before m f).1, e) refl
