-- Which of the program's calls are refused.
use Rattle.std.proofs.Common.{◌≡◌, ◌≢◌, ◌↔◌, ◌<◌, ◌+◌, ℕ, Bool, true, false, cond, eqb, ltb, List, [], ◌∷◌, ◌++◌, length, Option, Some, None, is_some, refl, sym, ap, subst, ◌∙◌, inl, inr, arith}
use Rattle.std.specs.Prelude.{find, nat_eq, nat_lt, bit_and, if◌then◌else◌}
use Rattle.std.specs.Option.{option_map, option_or}
use Rattle.std.proofs.lemmas.Bool.{ltb-true}
use Rattle.std.proofs.lemmas.Bool.Decides.{nat_tests}
use Rattle.std.proofs.lemmas.Nat.{and_comm}
use Rattle.std.proofs.lemmas.List.Folds.{find-append}
use Rattle.ei_types.specs.declared.error.Error.TheVariants as error
use Rattle.ei_backend.specs.Backend.{with_piece}
use Rattle.ei_spec.specs.declared.handle.Handle.{Handle}
use Rattle.ei_spec.specs.Message.{Raw, Short, Whole, front}
use Rattle.ei_backend.specs.Table.{own_end}
use Rattle.ei_backend.specs.Backend.{BackendView}
use Rattle.ei_backend.specs.Endpoint.{endpoint_of}
use Rattle.ei_types.specs.declared.capability.DeviceCapabilities.{DeviceCapabilities}
use Rattle.ei_types.specs.declared.enums.DeviceType.TheVariants.{Virtual}
use Rattle.ei_session.specs.Setup.{Setup, seat_id}
use Rattle.ei_session.specs.ByMeaning.{callback_in, mask_in}
use Rattle.ei_session.specs.Devices.{exhausts, made, not_empty}
use Rattle.ei_session.specs.Handshake.{connected}
use Rattle.ei_session.specs.Meaning.{Meaning, meaning, Closes, Binds, RequestsDevice}
use Rattle.ei_session.specs.Objects.{Entry, object}
use Rattle.ei_session.proofs.AnsweredMeans.{made_asked}
use Rattle.ei_session.proofs.Choices.{not_both}
use Rattle.ei_session.proofs.KeptByRequests.{made_connected, device_connected}
use Rattle.ei_session.proofs.ObjectShape.{unknown_makes_nothing}
use Rattle.ei_request.specs.Handling.{set_of}
use Rattle.ei_request.specs.Held.{SeatView, DeviceView, is_seat, is_device}
use Rattle.ei_request.specs.Connection.{ConnectionView}
use Rattle.ei_request.specs.Converter.{ConverterView}
use Rattle.ei_request.specs.Making.{new_device, granted_at}
use Rattle.ei_handshake.specs.declared.server.EisHandshakeResp.{EisHandshakeResp}
use Rattle.ei_standing.specs.Standing.{IsHeld, seat_held}
use Rattle.ei_standing.proofs.BoundDevices.{after_exhausted}
use Rattle.ei_standing.proofs.SeatAsked.{AsksDevice, asks_device, within}
use Rattle.ei_standing.proofs.ToDevices.{There, device_itself, held_there}
use Rattle.reis_eis.specs.declared.call_error.CallError.{CallError}
use Rattle.reis_eis.specs.declared.call_error.CallError.TheVariants as call_error
use Rattle.reis_eis.specs.declared.phase.Phase.{Phase}
use Rattle.reis_eis.specs.declared.phase.Phase.TheVariants as phase
use Rattle.reis_eis.specs.declared.shaking.Shaking.{Shaking}
use Rattle.reis_eis.specs.declared.ending.Ending.TheVariants as ending
use Rattle.reis_eis.specs.Handling.{connected_by, Steps, refused as refused_by}
use Rattle.reis_eis.specs.Keys.{names_device}
use Rattle.reis_eis.specs.Steps.{AnyStep as Step}
use Rattle.reis_eis.specs.View.{EisView}
use Rattle.reis_eis.specs.Words.{context_in, with_context, unread_of, shaking_with}
use Rattle.reis_eis.specs.Feeding.{Feeds}
use Rattle.reis_eis.specs.Refusals.{adding_seat, adding_device, describing_at, announcing, on_device, first_reason}
use Rattle.reis_eis.specs.Acting.{AddsDeviceTo, AddsDeviceAs, ActsIn, ActsOn, refusal}
use Rattle.reis_eis.proofs.Firsts.{find_of}
use Rattle.reis_eis.proofs.Handled.{SameHeld, handled_held}
use Rattle.reis_alike.specs.Standing.{IsShaking, StandsFor}
use Rattle.reis_alike.specs.Program.{Came, unread_with, HasOneAtMost}
use Rattle.reis_alike.proofs.Acting.{acts_in}
use Rattle.reis_alike.proofs.Conversing.{Heard}
use Rattle.reis_alike.proofs.Shaking.{Shook, shook, Finished, Done, Waited, Kept, Refused, Full}
use Rattle.reis_alike.proofs.Stepping.{IsStill, still, how_of}
use Rattle.reis_alike.proofs.Feeding.{fed_with, fed_stands, fed_unread, some_context}
use Rattle.reis_alike.proofs.Queueing.{Queued, None-came, Early, Unknown, Some-heard, queued_by, FedOnce, fed_once}

-- ---- what a device of some capabilities is asked by

-- it asks for one, and announces no callback
record AsksOne (x : Meaning) (mask : ℕ) : Type 0 where
  is : mask_in (Some x) ≡ Some mask
  far : mask ≢ 0
  quiet : callback_in (Some x) ≡ None

some_one : (n mask : ℕ) (b : Bool) → eqb n 0 ≡ b → cond b None (Some n) ≡ Some mask → (n ≡ mask) × (n ≢ 0)
some_one n mask true z e = absurd cc
some_one n mask false z e =
    let same : n ≡ mask = cc in
    (same, λ zero. let w : false ≡ true = sym z ∙ ap (λ (k : ℕ). eqb k 0) zero in absurd cc)

asks_one : (x : Meaning) (mask : ℕ) → not_empty (mask_in (Some x)) ≡ Some mask → AsksOne x mask
asks_one (Binds n) mask e =
    let s = some_one n mask (eqb n 0) refl e in
    record { is = ap (λ (k : ℕ). Some k) s.0; far = λ zero. s.1 (s.0 ∙ zero); quiet = refl }
asks_one (RequestsDevice n) mask e =
    let s = some_one n mask (eqb n 0) refl e in
    record { is = ap (λ (k : ℕ). Some k) s.0; far = λ zero. s.1 (s.0 ∙ zero); quiet = refl }
asks_one x mask e = absurd cc

-- ---- whether a device is announced

-- a seat that was given these takes the device, where no handle waits
described : (setup : Setup) (past : List Raw) (mask : ℕ) (seats : List SeatView) (handles : List Handle) → seats ≡ seat_held setup past ∷ [] → handles ≡ [] → bit_and mask setup.capabilities ≡ mask →
    describing_at (find (is_seat seat_id) seats) (set_of mask) [] (length handles) ≡ None
described setup past mask seats handles ss hs inside =
    let same : eqb mask mask ≡ true = grind (arith, nat_tests) in
    rw (ss, hs, and_comm setup.capabilities mask, inside, same) refl

less_so : (n m : ℕ) (b x : Bool) → ltb n m ≡ x → (b ≡ true) ↔ (n < m) → ltb n m ≡ b
less_so n m true x t few = grind (arith, nat_tests, few.0 refl)
less_so n m false true t few = let z : false ≡ true = few.1 (ltb-true n m t) in absurd cc
less_so n m false false t few = t

-- it is, but where too few ids are left
announced : (c : ConnectionView) (n : ℕ) (b : Bool) → (b ≡ true) ↔ (own_end c.ctx.table < c.ctx.table.next_own + (n + 1)) → announcing c None n [] ≡ (if b then Some call_error.IdsExhausted else None)
announced c n b few = let less : nat_lt (own_end c.ctx.table) (c.ctx.table.next_own + (n + 1)) ≡ b = less_so (own_end c.ctx.table) (c.ctx.table.next_own + (n + 1)) b _ refl few in rw less refl

then_announced : (a b : Option CallError) → a ≡ None → first_reason a b ≡ b
then_announced None b e = refl
then_announced (Some x) b e = absurd cc

-- ---- what is held

key_there : (o : Option DeviceView) → is_some (option_map (λ (d : DeviceView). d.device) o) ≡ is_some o
key_there None = refl
key_there (Some d) = refl

still_there : (id : ℕ) (x y : ConnectionView) → SameHeld x y → is_some (find (is_device id) x.devices) ≡ true → is_some (find (is_device id) y.devices) ≡ true
still_there id x y same there =
    sym (key_there (find (is_device id) y.devices))
    ∙ ap is_some (sym (find_of (λ (d : DeviceView). d.device) (names_device id) y.devices) ∙ ap (find (names_device id)) same.devices ∙ find_of (λ (d : DeviceView). d.device) (names_device id) x.devices)
    ∙ key_there (find (is_device id) x.devices)
    ∙ there

-- ---- a piece that came, behind which the connection goes on

some_same : {A : Type 0} (o : Option A) (a b : A) → o ≡ Some a → o ≡ Some b → a ≡ b
some_same o a b x y = let z : Some a ≡ Some b = sym x ∙ y in cc

-- a message of an object that is there was heard, behind the handshake
record HeardNow (setup : Setup) (past : List Raw) (readings : List ℕ) (time : ℕ) (m : Raw) (p : Phase) (s : Step) (q : Phase) : Type 0 where
  old : ConverterView
  new : ConverterView
  now : q ≡ phase.Standing new
  heard : Heard setup past readings time old s new
  same : heard.m ≡ m

module _ (setup : Setup) (past : List Raw) (readings : List ℕ) (c : Came) (old fed : EisView) (stands : StandsFor setup past readings old.phase) (one : HasOneAtMost (unread_with old c)) (feeds : Feeds c.piece c.time old fed) (going : fed.ending ≡ None) where
  abbrev b : BackendView
  b = (some_context setup past readings old.phase stands).0

  context : context_in old.phase ≡ Some b
  context = (some_context setup past readings old.phase stands).1

  abbrev begun : Phase
  begun = fed_with old.phase b c

  once : FedOnce c old.phase b fed
  once = fed_once setup past readings c old stands b context one fed feeds going

  same_unread : unread_of (context_in begun) ≡ unread_with old c
  same_unread = fed_unread setup past readings c old.phase b context stands ∙ ap (λ (o : Option BackendView). unread_of o ++ c.piece.bytes) (sym context)

  queued_now : Queued setup past readings c.time begun once.step.s fed.phase
  queued_now = queued_by setup past readings c.time begun once.step.s fed.phase (fed_stands setup past readings c old.phase b context stands) once.step.steps (sym once.step.how_is ∙ going)

  ends_none : (reason : ConnectionView → Option CallError) (k : ConverterView) → fed.phase ≡ phase.Standing k → refusal reason fed ≡ reason k.handle
  ends_none reason k is = rw (going, is) refl

  -- ---- a request

  module _ (m : Raw) (after : List ℕ) (e : Entry) (f : front (unread_with old c) ≡ Whole m after) (on : connected past ≡ true) (k : object past m.id ≡ Some e) where
    here : front (unread_of (context_in begun)) ≡ Whole m after
    here = ap front same_unread ∙ f

    same_message : (n : Raw) (rest : List ℕ) → front (unread_of (context_in begun)) ≡ Whole n rest → n ≡ m
    same_message n rest g = let z : Whole n rest ≡ Whole m after = sym g ∙ here in cc

    heard_by : Queued setup past readings c.time begun once.step.s fed.phase → HeardNow setup past readings c.time m begun once.step.s fed.phase
    heard_by (None-came short none) = let z : Short ≡ Whole m after = sym short ∙ here in absurd cc
    heard_by (Early off none) = absurd (not_both (connected past) on off)
    heard_by (Unknown n rest g gone none) = let z : None ≡ Some e = sym gone ∙ ap (λ (x : Raw). object past x.id) (same_message n rest g) ∙ k in absurd cc
    heard_by (Some-heard x new p_is q_is h) = record { old = x; new = new; now = q_is; heard = h; same = same_message h.m h.after (ap (λ (p : Phase). front (unread_of (context_in p))) p_is ∙ h.front_is) }

    heard_now : HeardNow setup past readings c.time m begun once.step.s fed.phase
    heard_now = heard_by queued_now

  -- ---- a device that is wanted

  module _ (mask : ℕ) (w : ConverterView) (new : ConverterView) (s : Step) (h : Heard setup past readings c.time w s new) (makes : made past h.m ≡ Some mask) (on : connected past ≡ true) where
    asking : AsksOne h.x mask
    asking = asks_one h.x mask (sym (ap (λ (o : Option Meaning). not_empty (mask_in o)) h.asks) ∙ sym (made_asked past h.m h.e on h.there) ∙ makes)

    held : IsHeld setup past readings h.out
    held = h.held asking.quiet

    asks_it : AsksDevice setup past h.m h.out h.x mask c.time
    asks_it = asks_device setup past h.m readings h.out h.e held h.there h.x mask c.time h.asks asking.is

    same_handle : new.handle ≡ h.out.handle
    same_handle = ap (λ (x : ConverterView). x.handle) h.does ∙ ap (λ (x : ConverterView). x.handle) asks_it.does

    takes_it : describing_at (find (is_seat seat_id) new.handle.seats) (set_of mask) [] (length new.handle.ctx.unsent_handles) ≡ None
    takes_it =
        described setup past mask new.handle.seats new.handle.ctx.unsent_handles (ap (λ (x : ConnectionView). x.seats) same_handle ∙ held.seats) (ap (λ (x : ConnectionView). x.ctx.unsent_handles) same_handle ∙ held.no_handles)
        (within setup past h.m readings h.out h.e held h.there h.x mask h.asks asking.is h.fine)

    runs_out : (exhausts past h.m ≡ true) ↔ (own_end new.handle.ctx.table < new.handle.ctx.table.next_own + (length (granted_at new.handle seat_id (set_of mask)) + 1))
    runs_out =
        subst (λ (x : ConverterView). (exhausts past h.m ≡ true) ↔ (own_end x.handle.ctx.table < x.handle.ctx.table.next_own + (length (granted_at x.handle seat_id (set_of mask)) + 1))) (sym h.does)
        (after_exhausted setup past h.m readings h.out h.e held h.there h.x mask c.time h.asks asking.is asking.far h.fine)

    added : adding_device seat_id None (set_of mask) [] new.handle ≡ (if exhausts past h.m then Some call_error.IdsExhausted else None)
    added = then_announced _ _ takes_it ∙ announced new.handle (length (granted_at new.handle seat_id (set_of mask))) (exhausts past h.m) runs_out

  known_by : (m : Raw) (mask : ℕ) (o : Option Entry) → object past m.id ≡ o → made past m ≡ Some mask → (e : Entry) × (object past m.id ≡ Some e)
  known_by m mask None k makes = let z : None ≡ Some mask = sym (unknown_makes_nothing past m k) ∙ makes in absurd cc
  known_by m mask (Some e) k makes = (e, k)

  pub device : (m : Raw) (after : List ℕ) (mask : ℕ) → front (unread_with old c) ≡ Whole m after → made past m ≡ Some mask → refusal (adding_device seat_id None (set_of mask) []) fed ≡ (if exhausts past m then Some call_error.IdsExhausted else None)
  device m after mask f makes =
      let on : connected past ≡ true = made_connected past m mask makes in
      let known = known_by m mask (object past m.id) refl makes in
      let n = heard_now m after known.0 f on known.1 in
      ends_none (adding_device seat_id None (set_of mask) []) n.new n.now
      ∙ added mask n.old n.new once.step.s n.heard (ap (made past) n.same ∙ makes) on
      ∙ ap (λ (x : Raw). if exhausts past x then Some call_error.IdsExhausted else None) n.same

  -- ---- a device that is closed

  module _ (w : ConverterView) (new : ConverterView) (s : Step) (h : Heard setup past readings c.time w s new) (closes : meaning h.e.interface h.m ≡ Some Closes) where
    asks_closing : h.x ≡ Closes
    asks_closing = some_same (meaning h.e.interface h.m) h.x Closes h.asks closes

    out_held : IsHeld setup past readings h.out
    out_held = h.held (ap (λ (x : Meaning). callback_in (Some x)) asks_closing)

    there : There setup past h.m.id (find (is_device h.m.id) h.out.handle.devices)
    there = held_there setup past h.out.handle.devices h.m.id h.m.id h.e out_held.devices h.there (device_itself setup past h.m h.e Closes h.there closes refl)

    removable : on_device h.m.id new.handle ≡ None
    removable =
        let found : is_some (find (is_device h.m.id) new.handle.devices) ≡ true =
        still_there h.m.id h.out.handle new.handle (subst (λ (x : ConverterView). SameHeld h.out.handle x.handle) (sym h.does) (handled_held h.out h.m.id h.x c.time)) (ap is_some there.found) in
        rw found refl

  pub closed : (m : Raw) (after : List ℕ) (e : Entry) → front (unread_with old c) ≡ Whole m after → object past m.id ≡ Some e → meaning e.interface m ≡ Some Closes → refusal (on_device m.id) fed ≡ None
  closed m after e f k closes =
      let on : connected past ≡ true = device_connected past m.id e m.id k (device_itself setup past m e Closes k closes refl) in
      let n = heard_now m after e f on k in
      let same : n.heard.e ≡ e = some_same (object past m.id) n.heard.e e (ap (λ (x : Raw). object past x.id) (sym n.same) ∙ n.heard.there) k in
      let closes_so : meaning n.heard.e.interface n.heard.m ≡ Some Closes = ap (λ (x : Entry). meaning x.interface n.heard.m) same ∙ ap (meaning e.interface) n.same ∙ closes in
      ends_none (on_device m.id) n.new n.now
      ∙ ap (λ (x : Raw). on_device x.id n.new.handle) (sym n.same)
      ∙ removable n.old n.new once.step.s n.heard closes_so

  -- ---- the seat

  seat_left : (h k : Shaking) (resp : EisHandshakeResp) → Finished setup past h k resp → adding_seat None (connected_by k resp).handle ≡ None
  seat_left h k resp done = rw (done.over.server, done.over.own) refl

  none_full : (s : Step) → how_of s ≡ None → s ≡ refused_by error.NoMemory → ⊥
  none_full s none is = let z : None ≡ Some (ending.Refused error.NoMemory) = sym none ∙ ap how_of is in cc

  shaken_so : (h : Shaking) (s : Step) (q : Phase) (k : ConverterView) → IsShaking setup past h → Steps c.time (phase.Shaking h) s q → how_of s ≡ None → q ≡ phase.Standing k → adding_seat None k.handle ≡ None
  shaken_so h s q k i x none now = by (shook setup past h i s q x)
    where
      waits : IsStill (phase.Shaking h) s q → adding_seat None k.handle ≡ None
      waits (inl w) = let z : phase.Shaking h ≡ phase.Standing k = sym w.1 ∙ now in absurd cc
      waits (inr w) = absurd (none_full s none w)

      by : Shook setup past h s q → adding_seat None k.handle ≡ None
      by (Waited short) = waits (still c.time (phase.Shaking h) s q short x)
      by (Kept g y is to) = let z : phase.Shaking g ≡ phase.Standing k = sym to ∙ now in absurd cc
      by (Done g resp y is to) =
          let z : phase.Standing (connected_by g resp) ≡ phase.Standing k = sym to ∙ now in
          let same : connected_by g resp ≡ k = cc in
          ap (λ (v : ConverterView). adding_seat None v.handle) (sym same) ∙ seat_left h g resp y
      by (Refused e g why some is to) = let z : phase.Shaking g ≡ phase.Standing k = sym to ∙ now in absurd cc
      by (Full is) = absurd (none_full s none is)

  begun_so : (p : Phase) (d : BackendView) (s : Shaking) → p ≡ phase.Shaking s → (h : Shaking) × (with_context p d ≡ phase.Shaking h)
  begun_so (phase.Shaking x) d s is = (shaking_with x d, refl)
  begun_so (phase.Standing x) d s is = absurd cc
  begun_so phase.Between d s is = absurd cc

  pub seat : (s : Shaking) (k : ConverterView) → old.phase ≡ phase.Shaking s → fed.phase ≡ phase.Standing k → refusal (adding_seat None) fed ≡ None
  seat s k before now =
      let h = begun_so old.phase (with_piece c.piece b) s before in
      let i : StandsFor setup past readings (phase.Shaking h.0) = subst (λ (p : Phase). StandsFor setup past readings p) h.1 (fed_stands setup past readings c old.phase b context stands) in
      let x : Steps c.time (phase.Shaking h.0) once.step.s fed.phase = subst (λ (p : Phase). Steps c.time p once.step.s fed.phase) h.1 once.step.steps in
      ends_none (adding_seat None) k now ∙ shaken_so h.0 once.step.s fed.phase k i.1 x (sym once.step.how_is ∙ going) now

-- ---- a device that was added

same_id : (n : ℕ) → nat_eq n n ≡ true
same_id n = grind (arith, nat_tests)

or_some : (o : Option DeviceView) (v : DeviceView) → is_some (option_or o (Some v)) ≡ true
or_some None v = refl
or_some (Some w) v = refl

added_there : (id : ℕ) (old : ConnectionView) (o : Option SeatView) (wanted : DeviceCapabilities) (new : ConnectionView) → id ≡ old.ctx.table.next_own → AddsDeviceTo o None Virtual wanted [] old new → on_device id new ≡ None
added_there id old None wanted new is adds = absurd adds
added_there id old (Some s) wanted new is adds =
    let v : DeviceView = new_device (endpoint_of old.ctx) old.negotiated s.proxy None (granted_at old s.proxy.id wanted) in
    let mine : is_device id v ≡ true = ap (nat_eq old.ctx.table.next_own) is ∙ same_id old.ctx.table.next_own in
    let there : is_some (find (is_device id) new.devices) ≡ true =
    ap (λ (x : ConnectionView). is_some (find (is_device id) x.devices)) adds.rest ∙ ap is_some (find-append (is_device id) old.devices (v ∷ [])) ∙ rw mine (or_some (find (is_device id) old.devices) v) in
    rw there refl

pub resumed : (id seat : ℕ) (wanted : DeviceCapabilities) (old added : EisView) → ActsOn (AddsDeviceAs id seat None Virtual wanted []) old added → refusal (on_device id) added ≡ None
resumed id seat wanted old added a = by old.phase a.acts
  where
    by : (p : Phase) → ActsIn (AddsDeviceAs id seat None Virtual wanted []) p added.phase → refusal (on_device id) added ≡ None
    by (phase.Standing k) x =
        let d = acts_in (AddsDeviceAs id seat None Virtual wanted []) k added.phase x in
        let how : added.ending ≡ None = a.kept ∙ a.going in
        rw (how, d.is) (added_there id k.handle (find (is_seat seat) k.handle.seats) wanted d.now.handle d.acts.done.0 d.acts.done.1)
    by (phase.Shaking h) x = absurd x
    by phase.Between x = absurd x
