-- What an input of a device says, and that a client takes it which stands with the device.
use Rattle.std.proofs.Common.{◌≡◌, ℕ, ◌≤◌, Bool, true, false, cond, eqb, ◌&&◌, List, [], ◌∷◌, Option, Some, None, refl, ap, ◌∙◌, arith, leb}
use Rattle.std.specs.Prelude.{is_some, find, codes, unwrap_or, not}
use Rattle.std.specs.Option.{option_map}
use Rattle.std.specs.List.{list_all}
use Rattle.std.proofs.lemmas.Bool.{and_parts, ne_eqb, eqb-true, leb-true}
use Rattle.ei_spec.specs.declared.interface.KnownInterface.{KnownInterface}
use Rattle.ei_spec.specs.declared.interface.KnownInterface.TheVariants as known
use Rattle.ei_spec.specs.FromValues.{first, one, whatever}
use Rattle.ei_spec.specs.Rows.{Row, Announces, Nothing, Fixed, Named, row_at}
use Rattle.ei_spec.specs.Table.{table}
use Rattle.ei_spec.specs.Value.{Value, Word}
use Rattle.ei_input.specs.declared.input_event.InputEvent.{InputEvent}
use Rattle.ei_input.specs.Inputs.{input_by}
use Rattle.ei_session.specs.Inputs.{is_of_device}
use Rattle.ei_ends.specs.Sent.{Sent, row_of, new_of, new_in, destroys, ends_target}
use Rattle.ei_ends.specs.Steps.{table_after, table_with}
use Rattle.ei_reported.specs.Event.{Event, called}
use Rattle.ei_reported.specs.Said.{Said, Aside, Inputs, Modifies, Maps, Goes, modifiers, said}
use Rattle.ei_steady.specs.Steady.{GoesOn}
use Rattle.ei_steady.proofs.StandsOn as stands_on
use Rattle.ei_told.specs.Told.{event_of}
use Rattle.ei_request.specs.Held.{DeviceView, has_interface}
use Rattle.ei_request.specs.Connection.{ConnectionView}
use Rattle.ei_acts.specs.Holding.{device_id, held_by, StandsWith, KeepsSteady, Sends}
use Rattle.ei_acts.specs.Input.{IsInput, input, having_sent, is_keymap, is_input}
use Rattle.ei_acts.proofs.Effects.{sends_by}
use Rattle.ei_acts.proofs.Holds.{all_same}
use Rattle.ei_acts.proofs.Steadying.{same_table, steadily}

-- ---- what is said

heard_modifiers : (P : Option Said → Type 0) (id : ℕ) → P None → ((serial depressed locked latched layout : ℕ) → P (Some (Modifies id serial depressed locked latched layout))) → (o : Option (List Value)) → P (modifiers id o)
heard_modifiers P id n s (Some (Word a ∷ Word b ∷ Word c ∷ Word d ∷ Word e ∷ [])) = s a b c d e
heard_modifiers P id n s o = n

module _ (P : Said → Type 0) (id : ℕ) (a : P Aside) (i : (input : InputEvent) → P (Inputs id input)) (m : (serial depressed locked latched layout : ℕ) → P (Modifies id serial depressed locked latched layout)) where
  heard : (k : KnownInterface) (x y o : Option (List Value)) (q : Option InputEvent) → x ≡ None → y ≡ None →
      P (unwrap_or (first (one (Goes k id) x ∷ whatever (Maps id) y ∷ modifiers id o ∷ option_map (Inputs id) q ∷ [])) Aside)
  heard k (Some x) y o q e f = absurd cc
  heard k None (Some y) o q e f = absurd cc
  heard k None None o q e f = heard_modifiers (λ s. P (unwrap_or (first (None ∷ None ∷ s ∷ option_map (Inputs id) q ∷ [])) Aside)) id (rest q) m o
    where
      rest : (q : Option InputEvent) → P (unwrap_or (first (None ∷ None ∷ None ∷ option_map (Inputs id) q ∷ [])) Aside)
      rest None = a
      rest (Some x) = i x

  pub says_input : (k : KnownInterface) (opcode : ℕ) (values : List Value) → is_of_device k ≡ true → eqb opcode 0 ≡ false →
      called (record { target = id; interface = k; opcode = opcode; values = values }) (codes "keymap") ≡ None → P (said (record { target = id; interface = k; opcode = opcode; values = values }))
  unfolding said
  says_input known.Handshake opcode values h e f = absurd cc
  says_input known.Connection opcode values h e f = absurd cc
  says_input known.Callback opcode values h e f = absurd cc
  says_input known.Pingpong opcode values h e f = absurd cc
  says_input known.Seat opcode values h e f = absurd cc
  says_input known.Device opcode values h e f = absurd cc
  says_input k opcode values h e f =
      let event : Event = record { target = id; interface = k; opcode = opcode; values = values } in
      heard k (called event (codes "destroyed")) (called event (codes "keymap")) (called event (codes "modifiers")) (input_by k (called event))
      (ap (λ (b : Bool). cond b (Some values) None) e) f

-- ---- it announces and destroys nothing

abbrev plain_by : Announces → Bool → Bool
plain_by Nothing false = true
plain_by what destroys = false

abbrev is_plain : ℕ × Row → Bool
is_plain r = plain_by r.1.announces r.1.destroys

pub record IsPlain (o : Option Row) : Type 0 where
  pub stays : ends_target o ≡ false
  pub none : (values : List Value) → new_in o values ≡ None

plain_row : (r : Row) (what : Announces) (b : Bool) → r.announces ≡ what → r.destroys ≡ b → plain_by what b ≡ true → IsPlain (Some r)
plain_row r Nothing false e f h = record { stays = f; none = λ values. rw e refl }
plain_row r Nothing true e f h = absurd cc
plain_row r (Fixed k) b e f h = absurd cc
plain_row r Named b e f h = absurd cc

either : (b : Bool) (o p : Option Row) → IsPlain o → IsPlain p → IsPlain (cond b o p)
either true o p h k = h
either false o p h k = k

plain_at : (opcode : ℕ) (rows : List (ℕ × Row)) → list_all is_plain rows ≡ true → IsPlain (row_at opcode rows)
plain_at opcode [] h = record { stays = refl; none = λ values. refl }
plain_at opcode (r ∷ rs) h =
    let parts = and_parts (is_plain r) (list_all is_plain rs) h in
    either (eqb opcode r.0) (Some r.1) (row_at opcode rs) (plain_row r.1 r.1.announces r.1.destroys refl refl parts.0) (plain_at opcode rs parts.1)

-- the rows behind the first, whose opcode is 0, are plain
abbrev plain_rest : List (ℕ × Row) → Bool
plain_rest [] = true
plain_rest (r ∷ rs) = eqb r.0 0 && list_all is_plain rs

behind_first : (b : Bool) (o p : Option Row) → b ≡ false → IsPlain p → IsPlain (cond b o p)
behind_first true o p e h = absurd cc
behind_first false o p e h = h

plain_behind : (opcode : ℕ) (rows : List (ℕ × Row)) → eqb opcode 0 ≡ false → plain_rest rows ≡ true → IsPlain (row_at opcode rows)
plain_behind opcode [] e h = record { stays = refl; none = λ values. refl }
plain_behind opcode (r ∷ rs) e h =
    let parts = and_parts (eqb r.0 0) (list_all is_plain rs) h in
    behind_first (eqb opcode r.0) (Some r.1) (row_at opcode rs) (ap (eqb opcode) (eqb-true r.0 0 parts.0) ∙ e) (plain_at opcode rs parts.1)

plain_input : (k : KnownInterface) (v id opcode : ℕ) (values : List Value) → is_of_device k ≡ true → eqb opcode 0 ≡ false → IsPlain (row_of true (record { target = id; interface = k; version = v; opcode = opcode; values = values }))
unfolding row_of
plain_input known.Handshake v id opcode values h e = absurd cc
plain_input known.Connection v id opcode values h e = absurd cc
plain_input known.Callback v id opcode values h e = absurd cc
plain_input known.Pingpong v id opcode values h e = absurd cc
plain_input known.Seat v id opcode values h e = absurd cc
plain_input known.Device v id opcode values h e = absurd cc
plain_input k v id opcode values h e = plain_behind opcode (table true k) e refl

not_first : (opcode : ℕ) → 1 ≤ opcode → eqb opcode 0 ≡ false
not_first opcode le = ne_eqb opcode 0 (λ same. omega (arith, le, same))

pub input_plain : (c : ConnectionView) (m : Sent) → IsInput c m → (new_of true m ≡ None) × (destroys true m ≡ false)
input_plain c m h = let p = plain_input m.interface m.version m.target m.opcode m.values h.of_device (not_first m.opcode h.from_one) in (p.none m.values, p.stays)

-- ---- the call

pub input_sends : (old : ConnectionView) (m : Sent) → Sends (input m) old (having_sent old m)
input_sends old m = sends_by (input m) old (having_sent old m) refl

some_device : (o : Option DeviceView) → is_some o ≡ true → (device : ℕ) × (device_id o ≡ Some device)
some_device None h = absurd cc
some_device (Some d) h = (d.device.proxy.id, refl)

pub input_steady : (old : ConnectionView) (m : Sent) → IsInput old m → KeepsSteady (input m) old (having_sent old m)
unfolding table_after table_with
input_steady old m h before s =
    let plain = input_plain old m h in
    steadily old (having_sent old m) m (said (event_of m)) refl (same_table old (having_sent old m) (rw (plain.0, plain.1) refl) refl (all_same old.devices)) (λ b w. goes_at b w) before s
  where
    goes_at : (b : List Said) → StandsWith b old → GoesOn b (said (event_of m) ∷ []) old.ctx.table.next_own (held_by old)
    goes_at b w =
        let owned = some_device (find (has_interface m.target) old.devices) h.held in
        says_input (λ x. GoesOn b (x ∷ []) old.ctx.table.next_own (held_by old)) m.target
        (stands_on.aside b old.ctx.table.next_own (held_by old) w.stands)
        (λ i. stands_on.input b old.ctx.table.next_own m.target owned.0 (held_by old) i w.stands owned.1)
        (λ serial depressed locked latched layout. stands_on.modifiers b old.ctx.table.next_own m.target owned.0 serial depressed locked latched layout (held_by old) w.stands owned.1)
        m.interface m.opcode m.values h.of_device (not_first m.opcode h.from_one) h.no_keymap

-- ---- the test

not_false : (b : Bool) → not b ≡ true → b ≡ false
not_false true h = absurd cc
not_false false h = refl

no_keymap_by : (k : KnownInterface) (v id opcode : ℕ) (values : List Value) → is_of_device k ≡ true → not (is_keymap k opcode) ≡ true → called (record { target = id; interface = k; opcode = opcode; values = values }) (codes "keymap") ≡ None
no_keymap_by known.Handshake v id opcode values h n = absurd cc
no_keymap_by known.Connection v id opcode values h n = absurd cc
no_keymap_by known.Callback v id opcode values h n = absurd cc
no_keymap_by known.Pingpong v id opcode values h n = absurd cc
no_keymap_by known.Seat v id opcode values h n = absurd cc
no_keymap_by known.Device v id opcode values h n = absurd cc
no_keymap_by known.Keyboard v id opcode values h n = ap (λ (b : Bool). cond b (Some values) None) (not_false (is_keymap known.Keyboard opcode) n)
no_keymap_by k v id opcode values h n = refl

pub input_by_test : (c : ConnectionView) (m : Sent) → is_input c m.target m.interface m.opcode ≡ true → IsInput c m
input_by_test c m h =
    let held = and_parts (is_some (find (has_interface m.target) c.devices)) (is_of_device m.interface && (leb 1 m.opcode && not (is_keymap m.interface m.opcode))) h in
    let of_device = and_parts (is_of_device m.interface) (leb 1 m.opcode && not (is_keymap m.interface m.opcode)) held.1 in
    let from_one = and_parts (leb 1 m.opcode) (not (is_keymap m.interface m.opcode)) of_device.1 in
    record {
      held = held.0;
      of_device = of_device.0;
      from_one = leb-true 1 m.opcode from_one.0;
      no_keymap = no_keymap_by m.interface m.version m.target m.opcode m.values of_device.0 from_one.1;
    }
