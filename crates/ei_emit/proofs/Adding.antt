-- A step that adds a device.
use Rattle.std.proofs.Common.{◌≡◌, ℕ, true, List, [], ◌∷◌, ◌++◌, Option, Some, None, refl, sym, ap, subst, ◌∙◌, append_assoc, arith}
use Rattle.std.specs.Prelude.{length, IsSome, is_some, find}
use Rattle.std.specs.List.{Any}
use Rattle.ei_spec.specs.Interface.{ObjectView}
use Rattle.ei_types.specs.Capability.{bits_of}
use Rattle.ei_types.specs.declared.capability.DeviceCapabilities.{DeviceCapabilities}
use Rattle.ei_types.specs.declared.enums.DeviceType.{DeviceType}
use Rattle.ei_backend.specs.Table.{found}
use Rattle.ei_backend.specs.Endpoint.{endpoint_of}
use Rattle.ei_ends.specs.Sent.{Sent}
use Rattle.ei_ends.specs.Way.{onto}
use Rattle.ei_linked.specs.declared.side.Side.TheVariants as side
use Rattle.ei_linked.specs.TwoEnds.{WorldView, end_of}
use Rattle.ei_request.specs.declared.making.DeviceSetup.{DeviceSetup}
use Rattle.ei_request.specs.Keys.{DeviceKey}
use Rattle.ei_request.specs.Held.{is_seat}
use Rattle.ei_request.specs.Connection.{ConnectionView, holds_device}
use Rattle.ei_request.specs.Converter.{ConverterView as ServerConverter}
use Rattle.ei_request.specs.Making.{new_device, granted_at}
use Rattle.ei_acts.specs.Acting as act
use Rattle.ei_acts.specs.Acting.{Act, Makes, sent_by}
use Rattle.ei_acts.specs.Allowed.{announced_by}
use Rattle.ei_acts.specs.Holding.{is_a_seat}
use Rattle.ei_promises.specs.declared.calls.ServerCall.{ServerCall}
use Rattle.ei_promises.specs.declared.calls.ServerCall.TheVariants as call
use Rattle.ei_promises.specs.declared.calls.Made.{Made}
use Rattle.ei_promises.specs.declared.calls.Made.TheVariants as made
use Rattle.ei_promises.specs.Pair.{PairView}
use Rattle.ei_promises.specs.Calling.{object_at, act_of, text_in, made_by, messages_of, is_steady_call, DoesServer}
use Rattle.ei_emitting.specs.Emitted.{Add, is_bad, next_device}
use Rattle.ei_emitting.specs.Emits.{Emits}
use Rattle.ei_emitting.proofs.Adding.{adds}
use Rattle.ei_emitting.proofs.Conditions as conditions
use Rattle.ei_emit.specs.declared.step.EmitStep.TheVariants as step
use Rattle.ei_emit.specs.Stands.{Script, Stands, AreDevices, emitter, StandsFor, PerformsOne}
use Rattle.ei_emit.specs.Performing.{MayMake, HasMade, HoldsSeat, IsAddition, Adds}
use Rattle.ei_emit.proofs.Calling.{onto_front, Speaks, speaks_of, Spoke, spoke_on, does, spoke, performs_by}
use Rattle.ei_emit.proofs.Numbered.{with_one}

-- ---- the call

-- it may be made: nothing of a description asks for a keyboard
pub may_add : {H : Type 0} (seat : ObjectView) (wanted : DeviceCapabilities) (asked : ServerCall) (p : PairView H) → IsAddition seat wanted asked → HoldsSeat seat p → MayMake asked p
may_add seat wanted (call.AddDevice key name kind capabilities setup) p i h = record {
  whole = h.whole;
  server = h.server;
  serves = h.serves;
  meets = (subst (λ (k : ObjectView). IsSome (find (is_seat k.id) h.server.handle.seats)) (sym i.0) h.held, λ any. absurd (none setup.now i.3 any));
}
  where
    none : {P : DeviceSetup → Type 0} (items : List DeviceSetup) → items ≡ [] → Any P items → ⊥
    none items e any = let l = ap length e in let low = any.2 in omega (arith, l, low)
may_add seat wanted other p i h = absurd i

-- what is told of it, and what it makes: no name, and nothing of a description
pub record AddsOne (seat : ObjectView) (wanted : DeviceCapabilities) (w : WorldView) (c : ConnectionView) (asked : ServerCall) : Type 0 where
  pub object : ObjectView
  pub kind : DeviceType
  pub same : act_of asked w ≡ act.AddsDevice seat object None kind wanted []
  pub told : messages_of asked w c ≡ sent_by (act.AddsDevice seat object None kind wanted []) c
  pub answer : made_by asked c ≡ made.Device (new_device (endpoint_of c.ctx) c.negotiated seat None (granted_at c seat.id wanted)).device
  pub steady : is_steady_call asked c ≡ is_a_seat (found c.ctx.table seat.id)

pub adds_one : (seat : ObjectView) (wanted : DeviceCapabilities) (w : WorldView) (c : ConnectionView) (asked : ServerCall) → IsAddition seat wanted asked → AddsOne seat wanted w c asked
adds_one seat wanted w c (call.AddDevice key name kind capabilities setup) i = record {
  object = object_at w seat.id;
  kind = kind;
  same = same;
  told = ap (λ (a : Act). announced_by (end_of side.Server w).sent a c) same;
  answer = ap (λ (k : ObjectView). made.Device (new_device (endpoint_of c.ctx) c.negotiated k None (granted_at c k.id wanted)).device) i.0;
  steady = ap (λ (k : ObjectView). is_a_seat (found c.ctx.table k.id)) i.0;
}
  where
    same : act_of (call.AddDevice key name kind capabilities setup) w ≡ act.AddsDevice seat (object_at w seat.id) None kind wanted []
    same =
        ap (λ (k : ObjectView). act.AddsDevice k (object_at w k.id) (text_in (call.AddDevice key name kind capabilities setup)) kind capabilities setup.now) i.0
        ∙ ap (λ (t : Option (List ℕ)). act.AddsDevice seat (object_at w seat.id) t kind capabilities setup.now) i.1
        ∙ ap (λ (d : DeviceCapabilities). act.AddsDevice seat (object_at w seat.id) None kind d setup.now) i.2
        ∙ ap (λ (items : List DeviceSetup). act.AddsDevice seat (object_at w seat.id) None kind wanted items) i.3
adds_one seat wanted w c other i = absurd i

same_device : (a b : DeviceKey) → made.Device a ≡ made.Device b → a ≡ b
same_device a b e = cc

-- ---- the step

module _ {H : Type 0} (s : Script) (p q : PairView H) (seat : ObjectView) (devices : List (Option DeviceKey))
    (stood : StandsFor s (emitter p seat devices)) (wanted : DeviceCapabilities) (key : DeviceKey) (added : Adds seat wanted key p q) where
  abbrev st : Stands s p
  st = stood.pair

  abbrev server : ServerConverter
  server = st.served.server

  abbrev a : AddsOne seat wanted p.ends server.handle added.asked
  a = adds_one seat wanted p.ends server.handle added.asked added.is

  abbrev speaks : Speaks st.said server p
  speaks = speaks_of s p st

  abbrev d : DoesServer added.asked server p (made.Device key) q
  d = does p q st.said server speaks added.asked (made.Device key) added.made

  abbrev mid : ServerConverter
  mid = record server { handle = d.left }

  abbrev first : List Sent
  first = onto (messages_of added.asked p.ends server.handle) []

  seat_there : (is_some (find (is_seat seat.id) server.handle.seats) ≡ true) × (is_a_seat (found server.handle.ctx.table seat.id) ≡ true)
  seat_there = conditions.seat s.start s.before server.handle st.said seat.id st.served.emits stood.seat

  abbrev k : Spoke st.said first mid p q
  k = spoke p q st.said server speaks added.asked (made.Device key) added.made (a.steady ∙ seat_there.1)

  makes : Makes (act.AddsDevice seat a.object None a.kind wanted []) server.handle d.left
  makes = subst (λ (x : Act). Makes x server.handle d.left) a.same d.makes

  key_is : key ≡ (new_device (endpoint_of server.handle.ctx) server.handle.negotiated seat None (granted_at server.handle seat.id wanted)).device
  key_is = same_device key _ (d.answer_is ∙ a.answer)

  pub may_resume : MayMake (call.Resumed key) q
  may_resume = record {
    whole = k.speaks.whole;
    server = mid;
    serves = k.speaks.serves;
    meets = subst (λ (x : DeviceKey). holds_device d.left x ≡ true) (sym key_is) (conditions.new server.handle d.left wanted a.kind seat a.object makes);
  }

  module _ (r : PairView H) (answer : Made) (resumed : HasMade (call.Resumed key) q answer r) where
    abbrev e : DoesServer (call.Resumed key) mid q answer r
    e = does q r (first ++ st.said) mid k.speaks (call.Resumed key) answer resumed

    abbrev later : List Sent
    later = messages_of (call.Resumed key) q.ends d.left

    both : Spoke st.said (onto later [] ++ first) (record mid { handle = e.left }) p r
    both = spoke_on st.said first (onto later []) mid (record mid { handle = e.left }) p q r k (spoke q r (first ++ st.said) mid k.speaks (call.Resumed key) answer resumed refl)

    behind : onto later (onto (sent_by (act.AddsDevice seat a.object None a.kind wanted []) server.handle) st.said) ≡ (onto later [] ++ first) ++ st.said
    behind =
        ap (λ (l : List Sent). onto later (onto l st.said)) (sym a.told) ∙ ap (onto later) (onto_front (messages_of added.asked p.ends server.handle) st.said)
        ∙ onto_front later (first ++ st.said) ∙ sym (append_assoc (onto later []) first st.said)

    emits : Emits s.start (Add (bits_of wanted) ∷ s.before) e.left ((onto later [] ++ first) ++ st.said)
    emits = subst (λ (l : List Sent). Emits s.start (Add (bits_of wanted) ∷ s.before) e.left l) behind
        (adds s.start s.before server.handle d.left e.left st.said wanted a.kind seat a.object (object_at q.ends key.proxy.id) key st.served.emits stood.seat makes
        (ap (λ (x : DeviceKey). x.seat.id) key_is ∙ stood.seat) id_is e.makes)
      where
        id_is : key.proxy.id ≡ next_device s.before
        id_is = ap (λ (x : DeviceKey). x.proxy.id) key_is ∙ st.served.emits.next_is

    pub added_it : (left : List (Option DeviceKey)) → left ≡ devices ++ Some key ∷ [] → PerformsOne s (step.Add wanted) (emitter p seat devices) (emitter r seat left)
    unfolding is_bad
    added_it left l = performs_by s (step.Add wanted) p r seat devices left stood _ _ both refl emits
        (subst (AreDevices (Add (bits_of wanted) ∷ s.before)) (sym l) (with_one s.before (bits_of wanted) devices key
        (ap (λ (x : DeviceKey). x.seat.id) key_is ∙ stood.seat) (ap (λ (x : DeviceKey). x.proxy.id) key_is ∙ st.served.emits.next_is) refl stood.devices))

-- the server holds the seat
pub holds_seat : {H : Type 0} (s : Script) (p : PairView H) (seat : ObjectView) (devices : List (Option DeviceKey)) → StandsFor s (emitter p seat devices) → HoldsSeat seat p
holds_seat s p seat devices stood = let v = stood.pair.served in record {
  whole = v.whole;
  server = v.server;
  serves = v.serves;
  held = (conditions.seat s.start s.before v.server.handle stood.pair.said seat.id v.emits stood.seat).0;
}
