-- An input of a device: what it says, to what it goes, and that it leaves what holds of the server.
use Rattle.std.proofs.Common.{◌≡◌, ℕ, ◌+◌, Bool, true, false, cond, eqb, ◌&&◌, ◌||◌, List, [], ◌∷◌, ◌++◌, map, Option, Some, None, inl, inr, refl, sym, ap, subst, ◌∙◌, arith}
use Rattle.std.specs.Prelude.{not, find, unwrap_or, slice_get}
use Rattle.std.specs.List.{list_any, filter_map}
use Rattle.std.specs.Option.{option_map}
use Rattle.std.proofs.lemmas.Bool.{and_parts, eqb-true, eq-eqb}
use Rattle.std.proofs.lemmas.Option.{same_Some}
use Rattle.ei_spec.specs.declared.interface.KnownInterface.{KnownInterface}
use Rattle.ei_spec.specs.declared.interface.KnownInterface.TheVariants as known
use Rattle.ei_spec.specs.FromValues.{first, one, two}
use Rattle.ei_spec.specs.Interface.{Known, ObjectView, about, place_of, the_interfaces}
use Rattle.ei_spec.specs.Value.{Value}
use Rattle.ei_types.specs.Capability.{capabilities, has_bit}
use Rattle.ei_input.specs.declared.input_event.InputEvent.{InputEvent}
use Rattle.ei_input.specs.declared.input_event.InputEvent.TheVariants as input_event
use Rattle.ei_input.specs.Inputs.{key_of}
use Rattle.ei_session.specs.Devices.{interfaces_of}
use Rattle.ei_session.specs.Inputs.{is_of_device}
use Rattle.ei_backend.specs.Table.{TableView, found}
use Rattle.ei_reported.specs.Event.{Event}
use Rattle.ei_reported.specs.Said.{Said, Aside, Inputs as Inputting, Goes, said}
use Rattle.ei_request.specs.Held.{DeviceView, is_device, has_interface}
use Rattle.ei_acts.specs.Input.{is_keymap}
use Rattle.ei_acts.specs.There.{IdsDiffer, interface_ids}
use Rattle.ei_acts.proofs.Holds.{all_interfaces, has_by_ids}
use Rattle.ei_acts.proofs.Parts.{not_both, any_in_both, differ_apart, differ_last, or_first, or_last}
use Rattle.ei_emitting.specs.Emitted.{has_by, input_of}
use Rattle.ei_emitting.specs.Emits.{is_connection, AreFrom, AllFound, place_in}

-- ---- what is said

pub no_input : (i : InputEvent) (P : Type 0) → ◌≡◌ {A = Option InputEvent} None (Some i) → P
no_input i P h = absurd cc

abbrev last_of : ℕ → Option InputEvent → Said
last_of t q = unwrap_or (first (None ∷ None ∷ None ∷ option_map (Inputting t) q ∷ [])) Aside

abbrev pub input_event_of : KnownInterface → ℕ → ℕ → List Value → Event
input_event_of k t opcode values = record { target = t; interface = k; opcode = opcode; values = values }

keyboard_key : (t : ℕ) (values : List Value) (i : InputEvent) → input_of known.Keyboard 2 values ≡ Some i → said (input_event_of known.Keyboard t 2 values) ≡ Inputting t i
unfolding said input_of
keyboard_key t values i h = ap (last_of t) h

pub says_input : (k : KnownInterface) (t opcode : ℕ) (values : List Value) (i : InputEvent) → eqb opcode 0 ≡ false → input_of k opcode values ≡ Some i → said (input_event_of k t opcode values) ≡ Inputting t i
unfolding said input_of
says_input known.Handshake t opcode values i e h = no_input i _ h
says_input known.Connection t opcode values i e h = no_input i _ h
says_input known.Callback t opcode values i e h = no_input i _ h
says_input known.Pingpong t opcode values i e h = no_input i _ h
says_input known.Seat t opcode values i e h = no_input i _ h
says_input known.Device t opcode values i e h = no_input i _ h
says_input known.Keyboard t opcode values i e h = by (eqb opcode 2) refl
  where
    key : Bool → Option InputEvent
    key b = two (λ key number. input_event.KeyboardKey key (key_of number)) (cond b (Some values) None)

    by : (b : Bool) → eqb opcode 2 ≡ b → said (input_event_of known.Keyboard t opcode values) ≡ Inputting t i
    by true f =
        let same = eqb-true opcode 2 f in
        let here : input_of known.Keyboard 2 values ≡ Some i = subst (λ (n : ℕ). input_of known.Keyboard n values ≡ Some i) same h in
        subst (λ (n : ℕ). said (input_event_of known.Keyboard t n values) ≡ Inputting t i) (sym same) (keyboard_key t values i here)
    by false f = no_input i _ (sym (ap key f) ∙ h)
says_input k t opcode values i e h =
    ap (λ (b : Bool). unwrap_or (first (one (Goes k t) (cond b (Some values) None) ∷ None ∷ None ∷ option_map (Inputting t) (input_of k opcode values) ∷ [])) Aside) e
    ∙ ap (last_of t) h

-- it is no keymap
pub no_keymap : (k : KnownInterface) (opcode : ℕ) (values : List Value) (i : InputEvent) → input_of k opcode values ≡ Some i → not (is_keymap k opcode) ≡ true
unfolding input_of
no_keymap known.Keyboard opcode values i h = by (eqb opcode 2) refl
  where
    key : Bool → Option InputEvent
    key b = two (λ key number. input_event.KeyboardKey key (key_of number)) (cond b (Some values) None)

    by : (b : Bool) → eqb opcode 2 ≡ b → not (is_keymap known.Keyboard opcode) ≡ true
    by true e = subst (λ (n : ℕ). not (is_keymap known.Keyboard n) ≡ true) (sym (eqb-true opcode 2 e)) refl
    by false e = no_input i _ (sym (ap key e) ∙ h)
no_keymap k opcode values i h = refl

-- ---- which interface a device has

place_back : (k : KnownInterface) → slice_get the_interfaces (place_of k) ≡ Some k
place_back known.Handshake = refl
place_back k = refl

pub same_place : (j k : KnownInterface) → eqb (place_of j) (place_of k) ≡ true → j ≡ k
same_place j k e = same_Some j k (sym (place_back j) ∙ ap (slice_get the_interfaces) (eqb-true (place_of j) (place_of k) e) ∙ place_back k)

abbrev pub is_in : KnownInterface → List KnownInterface → Bool
is_in k ks = list_any (λ (j : KnownInterface). eqb (place_of j) (place_of k)) ks

abbrev is_row : KnownInterface → ℕ → ℕ × KnownInterface → Bool
is_row k bit c = eqb c.0 bit && eqb (place_of c.1) (place_of k)

abbrev pub chosen_of : ℕ → List (ℕ × KnownInterface) → List KnownInterface
chosen_of mask cs = filter_map (λ (c : ℕ × KnownInterface). cond (has_bit mask c.0) (Some c.1) None) cs

chosen_in : (mask bit : ℕ) (k : KnownInterface) (cs : List (ℕ × KnownInterface)) → has_bit mask bit ≡ true → list_any (is_row k bit) cs ≡ true →
    is_in k (chosen_of mask cs) ≡ true
chosen_in mask bit k [] b h = absurd cc
chosen_in mask bit k (c ∷ cs) b h = by (is_row k bit c) (has_bit mask c.0) refl refl h (chosen_in mask bit k cs b)
  where
    by : (p q : Bool) → is_row k bit c ≡ p → has_bit mask c.0 ≡ q → (p || list_any (is_row k bit) cs) ≡ true → (list_any (is_row k bit) cs ≡ true → is_in k (chosen_of mask cs) ≡ true) → is_in k (chosen_of mask (c ∷ cs)) ≡ true
    by true true e f g next = let parts = and_parts (eqb c.0 bit) (eqb (place_of c.1) (place_of k)) e in rw f (or_first (eqb (place_of c.1) (place_of k)) (is_in k (chosen_of mask cs)) parts.1)
    by true false e f g next = let parts = and_parts (eqb c.0 bit) (eqb (place_of c.1) (place_of k)) e in
        absurd (not_both (has_bit mask c.0) (ap (has_bit mask) (eqb-true c.0 bit parts.0) ∙ b) f)
    by false true e f g next = rw f (or_last (eqb (place_of c.1) (place_of k)) (is_in k (chosen_of mask cs)) (next g))
    by false false e f g next = rw f (next g)

pub in_mask : (mask : ℕ) (k : KnownInterface) → has_by mask (about k).bit ≡ true → is_in k (interfaces_of mask) ≡ true
unfolding interfaces_of
in_mask mask known.Handshake h = absurd cc
in_mask mask known.Connection h = absurd cc
in_mask mask known.Callback h = absurd cc
in_mask mask known.Pingpong h = absurd cc
in_mask mask known.Seat h = absurd cc
in_mask mask known.Device h = absurd cc
in_mask mask known.Pointer h = chosen_in mask 1 known.Pointer capabilities h refl
in_mask mask known.PointerAbsolute h = chosen_in mask 2 known.PointerAbsolute capabilities h refl
in_mask mask known.Scroll h = chosen_in mask 16 known.Scroll capabilities h refl
in_mask mask known.Button h = chosen_in mask 32 known.Button capabilities h refl
in_mask mask known.Keyboard h = chosen_in mask 4 known.Keyboard capabilities h refl
in_mask mask known.Touchscreen h = chosen_in mask 8 known.Touchscreen capabilities h refl
in_mask mask known.Text h = chosen_in mask 64 known.Text capabilities h refl
in_mask mask known.Gesture h = chosen_in mask 128 known.Gesture capabilities h refl

pub of_a_device : (mask : ℕ) (k : KnownInterface) → has_by mask (about k).bit ≡ true → is_of_device k ≡ true
of_a_device mask known.Handshake h = absurd cc
of_a_device mask known.Connection h = absurd cc
of_a_device mask known.Callback h = absurd cc
of_a_device mask known.Pingpong h = absurd cc
of_a_device mask known.Seat h = absurd cc
of_a_device mask known.Device h = absurd cc
of_a_device mask k h = refl

pub not_connection : (mask : ℕ) (k : KnownInterface) → has_by mask (about k).bit ≡ true → is_connection k ≡ false
not_connection mask known.Connection h = absurd cc
not_connection mask k h = refl

-- the object of an interface, by the place of that among the interfaces
pub record HasObject (t : TableView) (id : ℕ) (k : KnownInterface) (os : List ObjectView) : Type 0 where
  pub object : ObjectView
  pub its : object.id ≡ id
  pub is : object.interface ≡ Known k
  pub there : found t id ≡ Some object
  pub among : list_any (eqb id) (map (λ (o : ObjectView). o.id) os) ≡ true

pub object_at : (t : TableView) (from : ℕ) (k : KnownInterface) (ks : List KnownInterface) (os : List ObjectView) → AreFrom from ks os → AllFound t os → is_in k ks ≡ true → HasObject t (from + place_in k ks) k os
object_at t from k [] os a f h = absurd cc
object_at t from k (j ∷ ks) [] a f h = absurd a
object_at t from k (j ∷ ks) (o ∷ os) a f h = by (eqb (place_of j) (place_of k)) refl h (object_at t (from + 1) k ks os a.2 f.1)
  where
    by : (b : Bool) → eqb (place_of j) (place_of k) ≡ b → (b || is_in k ks) ≡ true → (is_in k ks ≡ true → HasObject t (from + 1 + place_in k ks) k os) →
        HasObject t (from + cond b 0 (place_in k ks + 1)) k (o ∷ os)
    by true e g next =
        let id_is : o.id ≡ from + 0 = let i = a.0 in omega (arith, i) in
        record {
          object = o;
          its = id_is;
          is = a.1 ∙ ap (λ (i : KnownInterface). Known i) (same_place j k e);
          there = subst (λ (n : ℕ). found t n ≡ Some o) id_is f.0;
          among = or_first (eqb (from + 0) o.id) (list_any (eqb (from + 0)) (map (λ (p : ObjectView). p.id) os)) (eq-eqb (from + 0) o.id (sym id_is));
        }
    by false e g next =
        let n : HasObject t (from + 1 + place_in k ks) k os = next g in
        let same : from + 1 + place_in k ks ≡ from + (place_in k ks + 1) = omega arith in
        subst (λ (i : ℕ). HasObject t i k (o ∷ os)) same (record {
          object = n.object;
          its = n.its;
          is = n.is;
          there = n.there;
          among = or_last (eqb (from + 1 + place_in k ks) o.id) (list_any (eqb (from + 1 + place_in k ks)) (map (λ (p : ObjectView). p.id) os)) n.among;
        })

-- ---- which device has it

among_all : (id i : ℕ) (ds : List DeviceView) (d : DeviceView) → find (is_device id) ds ≡ Some d → list_any (eqb i) (interface_ids d) ≡ true → list_any (eqb i) (all_interfaces ds) ≡ true
among_all id i [] d f h = absurd cc
among_all id i (x ∷ ds) d f h = by (is_device id x) f (among_all id i ds d)
  where
    by : (b : Bool) → cond b (Some x) (find (is_device id) ds) ≡ Some d → (find (is_device id) ds ≡ Some d → list_any (eqb i) (interface_ids d) ≡ true → list_any (eqb i) (all_interfaces ds) ≡ true) →
        list_any (eqb i) (interface_ids x ++ all_interfaces ds) ≡ true
    by true e next = any_in_both i (interface_ids x) (all_interfaces ds) (inl (subst (λ (y : DeviceView). list_any (eqb i) (interface_ids y) ≡ true) (sym (same_Some x d e)) h))
    by false e next = any_in_both i (interface_ids x) (all_interfaces ds) (inr (next e h))

pub owner_is : (id i : ℕ) (ds : List DeviceView) (d : DeviceView) → IdsDiffer (all_interfaces ds) → find (is_device id) ds ≡ Some d → list_any (eqb i) (interface_ids d) ≡ true → find (has_interface i) ds ≡ Some d
owner_is id i [] d differ f h = absurd cc
owner_is id i (x ∷ ds) d differ f h = by (is_device id x) (has_interface i x) refl f (owner_is id i ds d (differ_last (interface_ids x) (all_interfaces ds) differ))
  where
    by : (b p : Bool) → has_interface i x ≡ p → cond b (Some x) (find (is_device id) ds) ≡ Some d →
        (find (is_device id) ds ≡ Some d → list_any (eqb i) (interface_ids d) ≡ true → find (has_interface i) ds ≡ Some d) → find (has_interface i) (x ∷ ds) ≡ Some d
    by true p g e next =
        let same : x ≡ d = same_Some x d e in
        let has : has_interface i x ≡ true = has_by_ids i x.interfaces ∙ subst (λ (y : DeviceView). list_any (eqb i) (interface_ids y) ≡ true) (sym same) h in
        ap (λ (q : Bool). cond q (Some x) (find (has_interface i) ds)) has ∙ ap (λ (y : DeviceView). let o : Option DeviceView = Some y in o) same
    by false true g e next =
        let apart = differ_apart i (interface_ids x) (all_interfaces ds) differ (sym (has_by_ids i x.interfaces) ∙ g) in
        absurd (not_both (list_any (eqb i) (all_interfaces ds)) (among_all id i ds d e h) apart)
    by false false g e next = ap (λ (q : Bool). cond q (Some x) (find (has_interface i) ds)) g ∙ next e h
