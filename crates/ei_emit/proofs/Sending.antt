-- A step that sends an input.
use Rattle.std.proofs.Common.{◌≡◌, ℕ, ◌+◌, ◌<◌, Bool, true, false, cond, eqb, leb, ◌&&◌, ◌||◌, List, [], ◌∷◌, ◌++◌, map, length, Option, Some, None, Result, Ok, Err, refl, sym, ap, subst, ◌∙◌, arith}
use Rattle.std.specs.Prelude.{not, find}
use Rattle.std.specs.List.{flat_map}
use Rattle.std.proofs.lemmas.Bool.{ne_eqb}
use Rattle.std.proofs.lemmas.Bool.Decides.{nat_tests}
use Rattle.std.proofs.lemmas.Option.{same_Some}
use Rattle.ei_spec.specs.declared.interface.KnownInterface.{KnownInterface}
use Rattle.ei_spec.specs.declared.interface.KnownInterface.TheVariants as known
use Rattle.ei_spec.specs.declared.limits.TheConstants.{MOST_MESSAGE_BYTES}
use Rattle.ei_spec.specs.Interface.{Known, ObjectView, about}
use Rattle.ei_spec.specs.Rows.{Row, Announces, Nothing, row_at}
use Rattle.ei_spec.specs.Table.{table}
use Rattle.ei_spec.specs.Value.{Kind, Value, written}
use Rattle.ei_types.specs.Capability.{capability_of}
use Rattle.ei_types.specs.declared.capability.DeviceCapability.{DeviceCapability}
use Rattle.ei_wire.specs.declared.error.NoMemory.{NoMemory}
use Rattle.ei_session.specs.Inputs.{is_of_device}
use Rattle.ei_backend.specs.Backend.{BackendView}
use Rattle.ei_backend.specs.Table.{found}
use Rattle.ei_values.specs.declared.value.Value.{Value as Stored}
use Rattle.ei_values.specs.Stored.{value_view, all_fit, fits_row}
use Rattle.ei_ends.specs.Sent.{Sent, New, new_of, new_in, new_by, row_of}
use Rattle.ei_ends.specs.Announced.{or_else, announced, first_new}
use Rattle.ei_ends.specs.Joined.{heard}
use Rattle.ei_ends.specs.Steps.{HasId}
use Rattle.ei_ends.specs.Way.{End, onto}
use Rattle.ei_linked.specs.declared.record.Record.{Record}
use Rattle.ei_linked.specs.declared.side.Side.TheVariants as side
use Rattle.ei_linked.specs.Stored.{sent_view, as_known}
use Rattle.ei_linked.specs.Asked.{asked, IsOfRow, IsTooLong}
use Rattle.ei_linked.specs.TwoEnds.{end_of, asked_of, met_at, MayCall}
use Rattle.ei_request.specs.Keys.{DeviceKey}
use Rattle.ei_request.specs.Held.{is_of_key}
use Rattle.ei_request.specs.Connection.{ConnectionView}
use Rattle.ei_request.specs.Converter.{ConverterView as ServerConverter}
use Rattle.ei_request.specs.Reading.{interface_in}
use Rattle.ei_acts.specs.Acting as act
use Rattle.ei_acts.specs.Acting.{Act, Makes, sent_by}
use Rattle.ei_acts.specs.Allowed.{announced_by}
use Rattle.ei_acts.specs.Input.{is_input}
use Rattle.ei_acts.proofs.AnnouncedThere.{table_announces}
use Rattle.ei_promises.specs.declared.calls.ServerCall.{ServerCall}
use Rattle.ei_promises.specs.declared.calls.ServerCall.TheVariants as call
use Rattle.ei_promises.specs.declared.calls.Made.{Made}
use Rattle.ei_promises.specs.Pair.{ServerStage, PairView, connection_in}
use Rattle.ei_promises.specs.Calling.{act_of, messages_of, is_steady_call, DoesServer}
use Rattle.ei_pair.specs.Calls.{input_of, IsLongFor, IsLongAt}
use Rattle.ei_pair.specs.Stepped.{IsKept}
use Rattle.ei_emitting.specs.Emitted.{Inputs, added, is_held, is_bad, has_by, row_fits, mask_in}
use Rattle.ei_emitting.specs.Emits.{Emits, IsKeyOf, interface_id, IsInputOf}
use Rattle.ei_emitting.proofs.Conditions as conditions
use Rattle.ei_emitting.proofs.Inputting.{of_a_device}
use Rattle.ei_emitting.proofs.Reading.{read_object, read_nothing}
use Rattle.ei_emitting.proofs.Sending as sending
use Rattle.ei_emit.specs.declared.step.EmitStep.{EmitStep}
use Rattle.ei_emit.specs.declared.step.EmitStep.TheVariants as step
use Rattle.ei_emit.specs.Held.{held_at}
use Rattle.ei_emit.specs.Steps.{fits_at, is_bad_step}
use Rattle.ei_emit.specs.Stands.{Script, Stands, emitter, StandsFor, PerformsOne, Performs}
use Rattle.ei_emit.specs.Performing.{HasMade, IsInputCall, AnswersInput}
use Rattle.ei_emit.specs.Targets.{object_at, object_in, is_keyboard, may_be_input}
use Rattle.ei_emit.proofs.Calling.{onto_front, Speaks, speaks_of, does, spoke, performs_by}
use Rattle.ei_emit.proofs.Fitting.{IsPlain, plain, fits_plain, fills_same, views_fit, is_input as is_event}
use Rattle.ei_emit.proofs.Judging as judging
use Rattle.ei_emit.proofs.Numbered.{still}
use Rattle.ei_emit.proofs.Removing.{its_end}
use Rattle.ei_emit.proofs.Telling.{held_key, not_held}

-- ---- the object

-- an interface that has no capability is no device's
no_bit : (k : KnownInterface) → capability_of k ≡ None → (about k).bit ≡ None
no_bit known.Handshake e = refl
no_bit known.Connection e = refl
no_bit known.Callback e = refl
no_bit known.Pingpong e = refl
no_bit known.Seat e = refl
no_bit known.Device e = refl
no_bit k e = absurd cc

-- how the object of an interface was looked up
pub record IsTarget (k : KnownInterface) (key : DeviceKey) (c : ConnectionView) (o : ObjectView) : Type 0 where
  pub its : interface_in k (find (is_of_key key) c.devices) ≡ Some o

at_object : (k : KnownInterface) (one : Option DeviceCapability) (key : DeviceKey) (c : ConnectionView) (o : ObjectView) → object_at k one key c ≡ Some o → IsTarget k key c o
at_object k None key c o e = absurd cc
at_object k (Some one) key c o e = record { its = e }

in_object : (k : KnownInterface) (h : Option DeviceKey) (m : Option ConnectionView) (o : ObjectView) → object_in k h m ≡ Some o →
    (key : DeviceKey) × (c : ConnectionView) × (h ≡ Some key) × (m ≡ Some c) × IsTarget k key c o
in_object k None m o e = absurd cc
in_object k (Some key) None o e = absurd cc
in_object k (Some key) (Some c) o e = (key, c, refl, refl, at_object k (capability_of k) key c o e)

-- ---- whether a step of an input is bad

behind_bad : (a b : Bool) → b ≡ true → (a || b) ≡ true
behind_bad true b e = refl
behind_bad false b e = e

first_good : (a b : Bool) → a ≡ false → b ≡ false → (a || b) ≡ false
first_good true b e f = absurd cc
first_good false b e f = f

good_parts : (a b : Bool) → (not a || b) ≡ false → (a ≡ true) × (b ≡ false)
good_parts true b e = (refl, e)
good_parts false b e = absurd cc

of_fits_at : (o : Option Row) (values : List Stored) → fits_at o values ≡ true → (r : Row) × (o ≡ Some r) × (fits_row r.announces r.kinds values ≡ true)
of_fits_at None values e = absurd cc
of_fits_at (Some r) values e = (r, refl, e)

module _ {H : Type 0} (s : Script) (p : PairView H) (seat : ObjectView) (devices : List (Option DeviceKey))
    (stood : StandsFor s (emitter p seat devices)) (number : ℕ) (k : KnownInterface) (opcode : ℕ) (values : List Stored) where
  abbrev st : Stands s p
  st = stood.pair

  abbrev server : ServerConverter
  server = st.served.server

  abbrev one : EmitStep
  one = step.Input number k opcode values

  abbrev views : List Value
  views = map value_view values

  bad_if : is_bad s.before (Inputs number k opcode views) ≡ true → is_bad_step s.before one ≡ true
  bad_if e = behind_bad (not (fits_at (row_at opcode (table true k)) values)) (is_bad s.before (Inputs number k opcode views)) e

  -- ---- where it has no object

  bad_at : (o : Option DeviceCapability) (key : DeviceKey) → capability_of k ≡ o → is_held s.before number ≡ true → IsKeyOf s.before number key → object_at k o key server.handle ≡ None →
      is_bad_step s.before one ≡ true
  bad_at None key c held i e = bad_if (judging.lacks s.before number k opcode views (ap (has_by (mask_in (added s.before number))) (no_bit k c)))
  bad_at (Some d) key c held i e = bad_if (judging.lacks s.before number k opcode views (read_nothing s.start s.before server.handle st.said number key k st.served.emits held i e))

  pub bad_target : object_in k (held_at devices number) (connection_in p.server) ≡ None → is_bad_step s.before one ≡ true
  bad_target e = by (held_at devices number) refl (sym (ap (λ (v : ServerStage). object_in k (held_at devices number) (connection_in v)) st.served.serves) ∙ e)
    where
      by : (h : Option DeviceKey) → held_at devices number ≡ h → object_in k h (Some server.handle) ≡ None → is_bad_step s.before one ≡ true
      by None f g = bad_if (judging.unheld s.before number k opcode views (not_held s.before devices number stood.devices f))
      by (Some key) f g = let h = held_key s.before devices number key stood.devices f in bad_at (capability_of k) key refl h.0 h.1 g

  pub bad_event : may_be_input k opcode ≡ false → is_bad_step s.before one ≡ true
  bad_event e = bad_if (judging.no_event s.before number k opcode views e)

  -- ---- where it has one

  module _ (o : ObjectView) (there : object_in k (held_at devices number) (connection_in p.server) ≡ Some o) where
    record HasKey : Type 0 where
      key : DeviceKey
      held : is_held s.before number ≡ true
      is_key : IsKeyOf s.before number key
      its : interface_in k (find (is_of_key key) server.handle.devices) ≡ Some o

    its_key : HasKey
    its_key =
        let t = in_object k (held_at devices number) (connection_in p.server) o there in
        let h = held_key s.before devices number t.0 stood.devices t.2 in
        let same : t.1 ≡ server.handle = same_Some t.1 server.handle (sym t.3 ∙ ap (λ (v : ServerStage). connection_in v) st.served.serves) in
        record { key = t.0; held = h.0; is_key = h.1; its = subst (λ (c : ConnectionView). interface_in k (find (is_of_key t.0) c.devices) ≡ Some o) same t.4.its }

    read : (has_by (mask_in (added s.before number)) (about k).bit ≡ true) × (o.id ≡ interface_id s.before number k) × (o.interface ≡ Known k) × (found server.handle.ctx.table o.id ≡ Some o)
    read = read_object s.start s.before server.handle st.said number its_key.key k o st.served.emits its_key.held its_key.is_key its_key.its

    of_device : is_of_device k ≡ true
    of_device = of_a_device (mask_in (added s.before number)) k read.0

    known_is : as_known o.interface ≡ k
    known_is = ap as_known read.2

    no_zero : eqb o.id 0 ≡ false
    no_zero = let id = read.1 in ne_eqb o.id 0 (λ zero. omega (arith, id, zero))

    no_other : (j : KnownInterface) → is_of_device j ≡ false → k ≡ j → ⊥
    no_other j d e = let both : true ≡ false = sym of_device ∙ ap is_of_device e ∙ d in absurd cc

    -- the server made it
    met : IsKept p → met_at side.Server p.ends o.id ≡ Some (record { id = o.id; interface = Known (as_known o.interface); version = o.version })
    met kept =
        let x : End = end_of side.Server p.ends in
        let told = table_announces x server.handle (its_end s p seat devices stood kept) o k read.2 (no_other known.Handshake refl) (no_other known.Callback refl) o.id read.3 in
        ap (λ (b : Bool). or_else (cond b (Some first_new) None) (or_else (announced true x.sent o.id) (heard false x.taken o.id))) no_zero
        ∙ ap (λ (n : Option New). or_else n (heard false x.taken o.id)) told
        ∙ ap (λ (j : KnownInterface). let n : Option New = Some (record { id = o.id; interface = Known j; version = o.version }) in n) (sym known_is)

    -- so that a good input may be sent
    may_call : IsKept p → is_bad_step s.before one ≡ false → MayCall side.Server p.ends o opcode values
    may_call kept good =
        let parts = good_parts (fits_at (row_at opcode (table true k)) values) (is_bad s.before (Inputs number k opcode views)) good in
        let r = of_fits_at (row_at opcode (table true k)) values parts.0 in
        record {
          known = read.2 ∙ ap (λ (j : KnownInterface). Known j) (sym known_is);
          may = record {
            met = met kept;
            row = subst (λ (j : KnownInterface). IsOfRow true j opcode values) (sym known_is) (record { row = r.0; is_row = r.1; fit = r.2 });
          };
        }

    pub bad_call : IsKept p → (MayCall side.Server p.ends o opcode values → ⊥) → is_bad_step s.before one ≡ true
    bad_call kept refused = by (is_bad_step s.before one) refl
      where
        by : (b : Bool) → is_bad_step s.before one ≡ b → is_bad_step s.before one ≡ true
        by true e = e
        by false e = absurd (refused (may_call kept e))

    -- ---- once it may be

    module _ (event : may_be_input k opcode ≡ true) (may : MayCall side.Server p.ends o opcode values) where
      its_row : IsOfRow true k opcode values
      its_row = subst (λ (j : KnownInterface). IsOfRow true j opcode values) known_is may.may.row

      plainly : IsPlain its_row.row
      plainly = plain k opcode its_row.row of_device its_row.is_row

      fit : all_fit its_row.row.kinds values ≡ true
      fit = sym (fits_plain its_row.row.announces its_row.row.kinds values plainly.announces) ∙ its_row.fit

      -- the message
      abbrev message : Record
      message = asked_of side.Server p.ends o opcode values

      values_are : (sent_view message).values ≡ views
      values_are = ap (λ (vs : List Stored). map value_view vs) (fills_same p.ends.server.backend.table.next_own its_row.row.kinds values plainly.old fit)

      abbrev short : Bool
      short = leb (16 + length (flat_map written views)) MOST_MESSAGE_BYTES

      long_is : IsTooLong message → MOST_MESSAGE_BYTES < 16 + length (flat_map written views)
      long_is l = subst (λ (vs : List Value). MOST_MESSAGE_BYTES < 16 + length (flat_map written vs)) values_are l

      bad_long : IsTooLong message → is_bad_step s.before one ≡ true
      bad_long l = bad_if (judging.too_long s.before number k opcode views (by short refl))
        where
          by : (b : Bool) → short ≡ b → short ≡ false
          by true e = let more = long_is l in absurd (grind (arith, nat_tests))
          by false e = e

      short_is : (IsTooLong message → ⊥) → short ≡ true
      short_is fits = by short refl
        where
          by : (b : Bool) → short ≡ b → short ≡ true
          by true e = e
          by false e = absurd (fits (subst (λ (vs : List Value). MOST_MESSAGE_BYTES < 16 + length (flat_map written vs)) (sym values_are) (grind (arith, nat_tests))))

      not_zero : (a b : Bool) → (not a && b) ≡ true → a ≡ false
      not_zero true b e = absurd cc
      not_zero false b e = refl

      good_input : (IsTooLong message → ⊥) → is_bad s.before (Inputs number k opcode views) ≡ false
      good_input fits = judging.good s.before number k opcode views its_key.held read.0
          (not_zero (eqb opcode 0) (not (is_keyboard k) || eqb opcode 2) event) (is_event k opcode its_row.row values of_device its_row.is_row event fit)
          (ap (λ (r : Option Row). row_fits r views) its_row.is_row ∙ views_fit its_row.row.kinds values fit) (short_is fits)

      good_step : (IsTooLong message → ⊥) → is_bad_step s.before one ≡ false
      good_step fits = first_good (not (fits_at (row_at opcode (table true k)) values)) (is_bad s.before (Inputs number k opcode views))
          (ap not (ap (λ (r : Option Row). fits_at r values) its_row.is_row ∙ its_row.fit)) (good_input fits)

      -- ---- once it was sent

      announces_none : (a : Announces) (kinds : List Kind) (vs : List Value) → a ≡ Nothing → new_by a kinds vs ≡ None
      announces_none a kinds vs e = ap (λ (b : Announces). new_by b kinds vs) e

      none_new : new_of true (sent_view message) ≡ None
      unfolding row_of
      none_new =
          ap (λ (j : KnownInterface). new_in (row_at opcode (table true j)) (sent_view message).values) known_is ∙ ap (λ (r : Option Row). new_in r (sent_view message).values) its_row.is_row
          ∙ announces_none its_row.row.announces its_row.row.kinds (sent_view message).values plainly.announces

      is_steady : (IsTooLong message → ⊥) → is_input server.handle o.id (as_known o.interface) opcode ≡ true
      is_steady fits =
          ap (λ (id : ℕ). is_input server.handle id (as_known o.interface) opcode) read.1 ∙ ap (λ (j : KnownInterface). is_input server.handle (interface_id s.before number k) j opcode) known_is
          ∙ conditions.input s.start s.before server.handle st.said number k opcode views st.served.emits (good_input fits)

      emits : (IsTooLong message → ⊥) → (left : ConnectionView) → Makes (act.SendsInput (sent_view message)) server.handle left →
          Emits s.start (Inputs number k opcode views ∷ s.before) left (onto (sent_by (act.SendsInput (sent_view message)) server.handle) st.said)
      emits fits left made =
          let m : Sent = sent_view message in
          let bad : is_bad s.before (Inputs number k opcode m.values) ≡ false = ap (λ (vs : List Value). is_bad s.before (Inputs number k opcode vs)) values_are ∙ good_input fits in
          let its : IsInputOf s.before number k opcode m = record { target = read.1; its = known_is; code = refl } in
          subst (λ (vs : List Value). Emits s.start (Inputs number k opcode vs ∷ s.before) left (onto (sent_by (act.SendsInput m) server.handle) st.said)) values_are
          (sending.inputs s.start s.before server.handle left st.said number k opcode m st.served.emits bad its made)

      module _ (q : PairView H) (answer : Made) (asked_it : ServerCall) (same_act : act_of asked_it p.ends ≡ act.SendsInput (sent_view message))
          (same_steady : is_steady_call asked_it server.handle ≡ is_input server.handle o.id (as_known o.interface) opcode)
          (fits : IsTooLong message → ⊥) (m : HasMade asked_it p answer q) where
        abbrev speaks : Speaks st.said server p
        speaks = speaks_of s p st

        abbrev d : DoesServer asked_it server p answer q
        d = does p q st.said server speaks asked_it answer m

        behind : onto (sent_by (act.SendsInput (sent_view message)) server.handle) st.said ≡ onto (messages_of asked_it p.ends server.handle) [] ++ st.said
        behind =
            ap (λ (a : Act). onto (announced_by (end_of side.Server p.ends).sent a server.handle) st.said) (sym same_act)
            ∙ onto_front (messages_of asked_it p.ends server.handle) st.said

        was_sent : PerformsOne s one (emitter p seat devices) (emitter q seat devices)
        was_sent = performs_by s one p q seat devices devices stood _ _ (spoke p q st.said server speaks asked_it answer m (same_steady ∙ is_steady fits)) (good_step fits)
            (subst (λ (l : List Sent). Emits s.start (Inputs number k opcode views ∷ s.before) d.left l) behind
            (emits fits d.left (subst (λ (a : Act). Makes a server.handle d.left) same_act d.makes)))
            (still s.before (Inputs number k opcode views) devices refl (good_input fits) stood.devices)

      -- the message, as the call has it
      message_is : (target : ObjectView) (code : ℕ) (given : List Stored) → target ≡ o → code ≡ opcode → given ≡ values → message ≡ input_of target code given server.handle
      message_is target code given t c g =
          ap (λ (n : ℕ). asked n o.id (as_known o.interface) o.version opcode values) next_is
          ∙ ap (λ (x : ObjectView). asked server.handle.ctx.table.next_own x.id (as_known x.interface) x.version opcode values) (sym t)
          ∙ ap (λ (x : ℕ). input_of target x values server.handle) (sym c) ∙ ap (λ (vs : List Stored). input_of target code vs server.handle) (sym g)
        where
          next_is : p.ends.server.backend.table.next_own ≡ server.handle.ctx.table.next_own
          next_is = ap (λ (b : BackendView). b.table.next_own) (sym st.served.endpoint)

      long_of : (asked_it : ServerCall) → IsInputCall o opcode values asked_it → IsLongAt p.server asked_it → IsTooLong message
      long_of (call.Input target code given) i l =
          let long : IsLongFor (call.Input target code given) server.handle = subst (λ (v : ServerStage). IsLongAt v (call.Input target code given)) st.served.serves l in
          subst IsTooLong (sym (message_is target code given.now i.0 i.1 i.2)) long.1
      long_of other i l = absurd i

      not_long : (asked_it : ServerCall) → IsInputCall o opcode values asked_it → (IsLongAt p.server asked_it → ⊥) → IsTooLong message → ⊥
      unfolding HasId
      not_long (call.Input target code given) i fits l = fits (subst (λ (v : ServerStage). IsLongAt v (call.Input target code given)) (sym st.served.serves) long)
        where
          long : IsLongFor (call.Input target code given) server.handle
          long = subst (λ (m : Record). HasId (new_of true (sent_view m)) server.handle.ctx.table × IsTooLong m) (message_is target code given.now i.0 i.1 i.2)
              (subst (λ (n : Option New). HasId n server.handle.ctx.table) (sym none_new) tt, l)
      not_long other i fits l = absurd i

      sent_by_it : (q : PairView H) (answer : Made) (asked_it : ServerCall) → IsInputCall o opcode values asked_it → (IsTooLong message → ⊥) → HasMade asked_it p answer q →
          PerformsOne s one (emitter p seat devices) (emitter q seat devices)
      sent_by_it q answer (call.Input target code given) i fits m = was_sent q answer (call.Input target code given) same steady fits m
        where
          same : act_of (call.Input target code given) p.ends ≡ act.SendsInput (sent_view message)
          same =
              ap (λ (t : ObjectView). act.SendsInput (sent_view (asked_of side.Server p.ends t code given.now))) i.0
              ∙ ap (λ (c : ℕ). act.SendsInput (sent_view (asked_of side.Server p.ends o c given.now))) i.1
              ∙ ap (λ (vs : List Stored). act.SendsInput (sent_view (asked_of side.Server p.ends o opcode vs))) i.2

          steady : is_steady_call (call.Input target code given) server.handle ≡ is_input server.handle o.id (as_known o.interface) opcode
          steady = ap (λ (t : ObjectView). is_input server.handle t.id (as_known t.interface) code) i.0 ∙ ap (λ (c : ℕ). is_input server.handle o.id (as_known o.interface) c) i.1
      sent_by_it q answer other i fits m = absurd i

      pub performed : (q : PairView H) (result : Result Bool NoMemory) → AnswersInput o opcode values result p q → Performs s one result (emitter p seat devices) (emitter q seat devices)
      performed q (Ok true) m = sent_by_it q m.answer m.asked m.is (not_long m.asked m.is m.short) m.made
      performed q (Ok false) m = bad_long (long_of m.asked m.is m.long)
      performed q (Err e) m = tt
