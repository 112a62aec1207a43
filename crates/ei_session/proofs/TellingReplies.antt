-- Each event that answers a message goes to what the client is told of.
use Rattle.std.proofs.Common.{◌≡◌, ℕ, ◌<◌, ◌^◌, min, Bool, true, false, cond, ◌&&◌, ◌||◌, eqb, ltb, List, [], ◌∷◌, ◌++◌, Option, Some, None, option_map, refl}
use Rattle.std.proofs.Common.{sym, ap, subst, ◌∙◌, arith, inl, inr, ◌⊎◌}
use Rattle.std.specs.Prelude.{is_some, unwrap_or}
use Rattle.std.specs.Option.{option_or}
use Rattle.std.specs.List.{AllByRecursion, filter_map, list_all}
use Rattle.std.proofs.lemmas.Bool.{eqb-true, ltb-true, and_parts}
use Rattle.std.proofs.lemmas.Bool.Decides.{nat_tests}
use Rattle.ei_spec.specs.declared.interface.KnownInterface.{KnownInterface}
use Rattle.ei_spec.specs.declared.interface.KnownInterface.TheVariants as known
use Rattle.ei_spec.specs.Interface.{server_version, name_of, the_settled}
use Rattle.ei_spec.specs.Message.{Raw}
use Rattle.ei_spec.specs.History.{last_said, occurs}
use Rattle.ei_spec.proofs.HistoryLaws.{occurs_or}
use Rattle.ei_spec.proofs.NameLaws.{version_small as server_small}
use Rattle.ei_types.specs.Capability.{capabilities, has_bit}
use Rattle.ei_session.specs.Setup.{Setup, connection_id, seat_id}
use Rattle.ei_session.specs.Handshake.{is_the_finish, announces, settled, version}
use Rattle.ei_session.specs.Replies.{settled_event, connection_event, seat_event, capability_event, done_event, settled_events, capability_events}
use Rattle.ei_session.specs.Replies.{finish_events}
use Rattle.ei_session.specs.Devices.{made, exhausts}
use Rattle.ei_session.specs.Objects.{Entry, given, handed_over, introduces, introduced, object}
use Rattle.ei_session.specs.Serial.{serial}
use Rattle.ei_session.specs.Refusals.{synced, is_at_most}
use Rattle.ei_session.specs.Told.{told, destroys}
use Rattle.ei_session.proofs.Choices.{not_true, turned, some_is, none_some, and_false}
use Rattle.ei_session.proofs.ObjectLaws.{object_is_introduced, introduced_now, introduced_before, given_by}
use Rattle.ei_session.proofs.GoneLaws.{Dead, dead_more}
use Rattle.ei_session.proofs.EventRows.{reads_settled, connection_row, reads_connection, seat_row, reads_seat, reads_capability, reads_done}
use Rattle.ei_session.proofs.Telling.{started, or_assoc, told_more, gone_more, interface_at, is_told, onto, onto_append, AreTold, both_told, Same, Quiet}
use Rattle.ei_session.proofs.Telling.{AllQuiet, quiet_told}

-- ---- what is told is what was introduced

-- the interface of what an id was given to
abbrev pub kind_of : Option Entry → Option KnownInterface
kind_of o = option_map (λ (e : Entry). e.interface) o

pub kinds_or : (a b : Option Entry) → kind_of (option_or a b) ≡ option_or (kind_of a) (kind_of b)
kinds_or None b = refl
kinds_or (Some e) b = refl

introduced_at : (before : List Raw) (m : Raw) (id : ℕ) (o : Option Entry) → introduces before m id ≡ o → introduced (m ∷ before) id ≡ option_or o (introduced before id)
introduced_at before m id None e = introduced_before before m id e
introduced_at before m id (Some x) e = introduced_now before m id x e

pub introduced_more : (before : List Raw) (m : Raw) (id : ℕ) → introduced (m ∷ before) id ≡ option_or (introduces before m id) (introduced before id)
introduced_more before m id = introduced_at before m id (introduces before m id) refl

-- the id was one, and never is again
pub record Spent (past : List Raw) (id : ℕ) : Type 0 where
  pub dead : Dead past id
  pub was : (is_some (introduced past id) ≡ true) ⊎ (occurs (λ b x. is_at_most id (synced b x)) past ≡ true)

still_some : (a b : Option Entry) → is_some b ≡ true → is_some (option_or a b) ≡ true
still_some None b e = e
still_some (Some x) b e = refl

or_right : (a b : Bool) → b ≡ true → (a || b) ≡ true
or_right true b e = refl
or_right false b e = e

pub spent_more : (before : List Raw) (m : Raw) (id : ℕ) → Spent before id → Spent (m ∷ before) id
spent_more before m id s = record {
  dead = dead_more before m id s.dead;
  was = elim s.was [
    | inl i ↦ inl (ap is_some (introduced_more before m id) ∙ still_some (introduces before m id) (introduced before id) i)
    | inr o ↦ inr (occurs_or (λ b x. is_at_most id (synced b x)) before m ∙ or_right (is_at_most id (synced before m)) _ o)
  ];
}

-- the events tell what was introduced, and what they destroyed is gone for good
pub record Tells (past earlier : List Raw) : Type 0 where
  pub told : (id : ℕ) → told earlier id ≡ kind_of (introduced past id)
  pub gone : (id : ℕ) → occurs (destroys id) earlier ≡ true → Spent past id

pub there_told : (past earlier : List Raw) (id : ℕ) (e : Entry) → Tells past earlier → object past id ≡ Some e → told earlier id ≡ Some e.interface
there_told past earlier id e t k = t.told id ∙ ap kind_of (object_is_introduced past id e k)

pub there_alive : (past earlier : List Raw) (id : ℕ) (e : Entry) → Tells past earlier → object past id ≡ Some e → occurs (destroys id) earlier ≡ false
there_alive past earlier id e t k = not_true _ (λ g. none_some e (sym (t.gone id g).dead.none ∙ k))

-- what a message and the events that answer it come to
pub record Step (setup : Setup) (before : List Raw) (m : Raw) (earlier events : List Raw) : Type 0 where
  pub told : AreTold setup (m ∷ before) earlier events
  pub tells : exhausts before m ≡ false → Tells (m ∷ before) (onto events earlier)

-- events that tell nothing new, at a message that introduces nothing
pub same_tells : (before : List Raw) (m : Raw) (a b : List Raw) → ((id : ℕ) → introduces before m id ≡ None) → Same a b → Tells before a → Tells (m ∷ before) b
same_tells before m a b n s t = record {
  told = λ id. s.told id ∙ t.told id ∙ ap kind_of (sym (introduced_before before m id (n id)));
  gone = λ id g. spent_more before m id (t.gone id (sym (s.gone id) ∙ g));
}

pub no_events : (setup : Setup) (before : List Raw) (m : Raw) (earlier : List Raw) → ((id : ℕ) → introduces before m id ≡ None) → Tells before earlier → Step setup before m earlier []
no_events setup before m earlier n t = record { told = tt; tells = λ x. same_tells before m earlier earlier n (record { told = λ id. refl; gone = λ id. refl }) t }

pub gives_none : (before : List Raw) (m : Raw) → is_the_finish before m ≡ false → made before m ≡ None → (id : ℕ) → introduces before m id ≡ None
gives_none before m f n id = given_by before m id f ∙ ap (λ (x : Option ℕ). given before x id) n

-- ---- versions and serials are of four bytes

settled_small : (before : List Raw) (i : KnownInterface) (v : ℕ) → settled before i ≡ Some v → v < 2 ^ 32
unfolding settled
settled_small before i v e = by (last_said (announces (name_of i)) before) e
  where
    by : (o : Option ℕ) → option_map (min (server_version i)) o ≡ Some v → v < 2 ^ 32
    by None e = absurd (none_some v e)
    by (Some x) e = omega (arith, some_is (min (server_version i) x) v e, server_small i)

pub version_small : (before : List Raw) (i : KnownInterface) → version before i < 2 ^ 32
unfolding version
version_small before i = by (settled before i) refl
  where
    by : (o : Option ℕ) → settled before i ≡ o → unwrap_or o 1 < 2 ^ 32
    by None e = omega arith
    by (Some v) e = settled_small before i v e

pub serial_small : (setup : Setup) (before : List Raw) → serial setup before < 2 ^ 32
unfolding serial
serial_small setup before = omega arith

-- ---- the finish

chosen_quiet : {A : Type 0} (f : A → Option Raw) (k : KnownInterface) (t : ℕ) (P : A → Type 0) → ((a : A) (r : Raw) → P a → f a ≡ Some r → Quiet k t r) → (xs : List A) → AllByRecursion P xs → AllQuiet k t (filter_map f xs)
chosen_quiet f k t P h [] all = tt
chosen_quiet f k t P h (x ∷ xs) all = by (f x) refl (chosen_quiet f k t P h xs all.1)
  where
    by : (o : Option Raw) → f x ≡ o → AllQuiet k t (filter_map f xs) → AllQuiet k t (filter_map f (x ∷ xs))
    by None e next = rw e next
    by (Some r) e next = rw e (h x r all.0 e, next)

settled_quiet : (i : KnownInterface) (o : Option ℕ) (r : Raw) → ((v : ℕ) → o ≡ Some v → v < 2 ^ 32) → option_map (settled_event 0 i) o ≡ Some r → Quiet known.Handshake 0 r
settled_quiet i None r small e = absurd (none_some r e)
settled_quiet i (Some v) r small e = subst (λ x. Quiet known.Handshake 0 x) (some_is (settled_event 0 i v) r e) (record { at = refl; row = _; values = _; reads = reads_settled i v (small v refl); nothing = refl; stays = refl })

no_more : {A : Type 0} (xs : List A) → AllByRecursion (λ x. Unit {0}) xs
no_more [] = tt
no_more (x ∷ xs) = (tt, no_more xs)

all_settled_quiet : (before : List Raw) → AllQuiet known.Handshake 0 (settled_events 0 (settled before))
unfolding settled_events
all_settled_quiet before = chosen_quiet (λ i. option_map (settled_event 0 i) (settled before i)) known.Handshake 0 (λ i. Unit {0}) (λ i r p e. settled_quiet i (settled before i) r (λ v. settled_small before i v) e) the_settled (no_more the_settled)

capability_quiet : (b : Bool) (c : ℕ × KnownInterface) (r : Raw) → c.0 < 2 ^ 64 → cond b (Some (capability_event seat_id c)) None ≡ Some r → Quiet known.Seat seat_id r
capability_quiet true c r lt e = subst (λ x. Quiet known.Seat seat_id x) (some_is (capability_event seat_id c) r e) (record { at = refl; row = _; values = _; reads = reads_capability c lt; nothing = refl; stays = refl })
capability_quiet false c r lt e = absurd (none_some r e)

-- the bits of capabilities are of eight bytes
all_small : (cs : List (ℕ × KnownInterface)) → list_all (λ c. ltb c.0 (2 ^ 64)) cs ≡ true → AllByRecursion (λ c. c.0 < 2 ^ 64) cs
all_small [] h = tt
all_small (c ∷ cs) h = let parts = and_parts (ltb c.0 (2 ^ 64)) (list_all (λ c. ltb c.0 (2 ^ 64)) cs) h in (ltb-true c.0 (2 ^ 64) parts.0, all_small cs parts.1)

all_capabilities_quiet : (mask : ℕ) (is_settled : KnownInterface → Bool) → AllQuiet known.Seat seat_id (capability_events seat_id mask is_settled)
unfolding capability_events
all_capabilities_quiet mask is_settled =
    chosen_quiet (λ c. cond (has_bit mask c.0 && is_settled c.1) (Some (capability_event seat_id c)) None) known.Seat seat_id (λ c. c.0 < 2 ^ 64) (λ c r lt e. capability_quiet (has_bit mask c.0 && is_settled c.1) c r lt e) capabilities
    (all_small capabilities refl)

-- what the finish tells of an id
abbrev pub handed_kind : ℕ → Option KnownInterface
handed_kind id = option_or (cond (eqb seat_id id) (Some known.Seat) None) (cond (eqb connection_id id) (Some known.Connection) None)

handed_bools : (a b : Bool) (before : List Raw) → (a ≡ true → b ≡ false) →
    option_or (cond b (Some known.Seat) None) (cond a (Some known.Connection) None) ≡
    kind_of (cond a (Some (record { interface = known.Connection; version = 1; device = None })) (cond b (Some (record { interface = known.Seat; version = version before known.Seat; device = None })) None))
handed_bools true true before h = let e : true ≡ false = h refl in absurd cc
handed_bools true false before h = refl
handed_bools false true before h = refl
handed_bools false false before h = refl

pub handed_kinds : (before : List Raw) (id : ℕ) → handed_kind id ≡ kind_of (handed_over before id)
unfolding handed_over
handed_kinds before id =
    let far : eqb id connection_id ≡ true → eqb id seat_id ≡ false = λ e. let at = eqb-true id connection_id e in grind (arith, nat_tests, at) in
    ap (λ (b : Bool). option_or (cond b (Some known.Seat) None) (cond (eqb connection_id id) (Some known.Connection) None)) (turned seat_id id)
    ∙ ap (λ (b : Bool). option_or (cond (eqb id seat_id) (Some known.Seat) None) (cond b (Some known.Connection) None)) (turned connection_id id)
    ∙ handed_bools (eqb id connection_id) (eqb id seat_id) before far

-- the events of the finish, and what is told and gone behind them
pub record Finishes (setup : Setup) (past before earlier : List Raw) : Type 0 where
  pub all : AreTold setup past earlier (finish_events setup before)
  pub told : (id : ℕ) → told (onto (finish_events setup before) earlier) id ≡ option_or (handed_kind id) (told earlier id)
  pub gone : (id : ℕ) → occurs (destroys id) (onto (finish_events setup before) earlier) ≡ ((eqb 0 id && true) || occurs (destroys id) earlier)

pub finish_told : (setup : Setup) (past before earlier : List Raw) → setup.serial < 2 ^ 32 → told earlier 0 ≡ Some known.Handshake → ((id : ℕ) → occurs (destroys id) earlier ≡ false) → told earlier connection_id ≡ None → told earlier seat_id ≡ None → Finishes setup past before earlier
unfolding finish_events
finish_told setup past before earlier small h none free_connection free_seat =
    let A = settled_events 0 (settled before) in
    let B = capability_events seat_id setup.capabilities (λ i. is_some (settled before i)) in
    let c = connection_event 0 setup.serial connection_id in
    let v = version before known.Seat in
    let s = seat_event connection_id seat_id v in
    let done = done_event seat_id ∷ [] in
    let a = quiet_told setup past known.Handshake 0 A earlier (all_settled_quiet before) h (none 0) in
    let e1 = onto A earlier in
    let h1 : told e1 0 ≡ Some known.Handshake = a.1.told 0 ∙ h in
    let rc = reads_connection setup.serial small in
    let at1 = interface_at e1 c 0 known.Handshake refl h1 in
    let c_told = is_told setup past e1 c 0 known.Handshake connection_row _ refl h1 (a.1.gone 0 ∙ none 0) (λ id k q. ap (λ (n : ℕ). told e1 n) (sym (started id connection_id (Some known.Connection) k q)) ∙ a.1.told connection_id ∙ free_connection) rc in
    let t2 : (id : ℕ) → told (c ∷ e1) id ≡ option_or (cond (eqb connection_id id) (Some known.Connection) None) (told e1 id) = λ id. told_more e1 c known.Handshake connection_row _ id at1 rc in
    let g2 : (id : ℕ) → occurs (destroys id) (c ∷ e1) ≡ ((eqb 0 id && true) || occurs (destroys id) e1) = λ id. gone_more e1 c known.Handshake connection_row _ id at1 rc in
    let h2 : told (c ∷ e1) connection_id ≡ Some known.Connection = t2 connection_id in
    let rs = reads_seat v (version_small before known.Seat) in
    let at2 = interface_at (c ∷ e1) s connection_id known.Connection refl h2 in
    let s_told = is_told setup past (c ∷ e1) s connection_id known.Connection seat_row _ refl h2 (g2 connection_id ∙ a.1.gone connection_id ∙ none connection_id) (λ id k q. ap (λ (n : ℕ). told (c ∷ e1) n) (sym (started id seat_id (Some known.Seat) k q)) ∙ t2 seat_id ∙ a.1.told seat_id ∙ free_seat) rs in
    let t3 : (id : ℕ) → told (s ∷ (c ∷ e1)) id ≡ option_or (cond (eqb seat_id id) (Some known.Seat) None) (told (c ∷ e1) id) = λ id. told_more (c ∷ e1) s known.Connection seat_row _ id at2 rs in
    let g3 : (id : ℕ) → occurs (destroys id) (s ∷ (c ∷ e1)) ≡ ((eqb connection_id id && false) || occurs (destroys id) (c ∷ e1)) = λ id. gone_more (c ∷ e1) s known.Connection seat_row _ id at2 rs in
    let e3 = s ∷ (c ∷ e1) in
    let h3 : told e3 seat_id ≡ Some known.Seat = t3 seat_id in
    let d3 : occurs (destroys seat_id) e3 ≡ false = g3 seat_id ∙ g2 seat_id ∙ a.1.gone seat_id ∙ none seat_id in
    let b = quiet_told setup past known.Seat seat_id B e3 (all_capabilities_quiet setup.capabilities (λ i. is_some (settled before i))) h3 d3 in
    let e4 = onto B e3 in
    let z = quiet_told setup past known.Seat seat_id done e4 (record { at = refl; row = _; values = _; reads = reads_done; nothing = refl; stays = refl }, tt) (b.1.told seat_id ∙ h3) (b.1.gone seat_id ∙ d3) in
    let place : onto (A ++ (c ∷ (s ∷ (B ++ done)))) earlier ≡ onto done e4 = onto_append A (c ∷ (s ∷ (B ++ done))) earlier ∙ onto_append B done e3 in
    record {
      all = both_told setup past A (c ∷ (s ∷ (B ++ done))) earlier a.0 (c_told, (s_told, both_told setup past B done e3 b.0 z.0));
      told = λ id.
          ap (λ (l : List Raw). told l id) place ∙ z.1.told id ∙ b.1.told id ∙ t3 id
          ∙ ap (λ (o : Option KnownInterface). option_or (cond (eqb seat_id id) (Some known.Seat) None) o) (t2 id ∙ ap (λ (o : Option KnownInterface). option_or (cond (eqb connection_id id) (Some known.Connection) None) o) (a.1.told id))
          ∙ or_assoc (cond (eqb seat_id id) (Some known.Seat) None) (cond (eqb connection_id id) (Some known.Connection) None) (told earlier id);
      gone = λ id.
          ap (λ (l : List Raw). occurs (destroys id) l) place ∙ z.1.gone id ∙ b.1.gone id ∙ g3 id ∙ ap (λ (q : Bool). q || occurs (destroys id) (c ∷ e1)) (and_false (eqb connection_id id)) ∙ g2 id
          ∙ ap (λ (q : Bool). (eqb 0 id && true) || q) (a.1.gone id);
    }
