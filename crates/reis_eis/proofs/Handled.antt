-- What a request of a client leaves of the connection: the bytes that are unread, and which seats and devices are held.
use Rattle.std.proofs.Common.{suc, arith, ◌≡◌, ℕ, Bool, true, false, cond, List, [], ◌∷◌, ◌++◌, length, map, Option, Some, None, refl, sym, ap, ◌∙◌}
use Rattle.std.specs.Prelude.{nat_lt}
use Rattle.std.proofs.lemmas.Bool.Decides.{nat_tests}
use Rattle.ei_spec.specs.Interface.{ObjectView}
use Rattle.ei_input.specs.declared.input_event.InputEvent.{InputEvent}
use Rattle.ei_input.specs.declared.input_event.InputEvent.TheVariants.{TouchDown, TouchMotion, TouchUp, TouchCancel}
use Rattle.ei_session.specs.Meaning.{Meaning, Shakes, Syncs, Disconnects, Pongs, ReleasesSeat, Binds, RequestsDevice, Closes, Starts, Stops, Frames}
use Rattle.ei_session.specs.Meaning.{Readies, Releases, Inputs}
use Rattle.ei_request.specs.declared.event.EisRequest.{EisRequest}
use Rattle.ei_request.specs.Keys.{DeviceKey}
use Rattle.ei_request.specs.Held.{SeatView, DeviceView, is_seat, is_device, has_interface, has_touch, changed_first, released, emptied, without_interface, takes_input, group_requests}
use Rattle.ei_request.specs.Connection.{ConnectionView}
use Rattle.ei_request.specs.Converter.{ConverterView}
use Rattle.ei_request.specs.Handling.{handled, hears, gives_up, queues_of_seat, hands_out, closes, emptied_at, device_in, closes_group, is_some_waiting, Times, TakesRequest}
use Rattle.ei_request.specs.Handling.{closed_of, ready_of, start_of, stop_of, bind_of, request_device_of}
use Rattle.reis_eis.specs.Keys.{HasKeys}

-- The same bytes are unread, and the same seats and devices held, by their keys.
pub record SameHeld (old new : ConnectionView) : Type 0 where
  pub unread : new.ctx.unread ≡ old.ctx.unread
  pub seats : map (λ s. s.proxy) new.seats ≡ map (λ s. s.proxy) old.seats
  pub devices : map (λ d. d.device) new.devices ≡ map (λ d. d.device) old.devices

pub keys_after : (old new : ConnectionView) (seats : List ObjectView) (devices : List DeviceKey) → SameHeld old new → HasKeys old seats devices → HasKeys new seats devices
keys_after old new seats devices same h = record { seats_are = h.seats_are ∙ sym same.seats; devices_are = h.devices_are ∙ sym same.devices }

-- ---- a change of the first that passes keeps the keys

changed_more : {A B : Type 0} (f : A → B) (change : A → A) (x : A) (xs rest : List A) (b : Bool) → f (change x) ≡ f x → map f rest ≡ map f xs → map f (cond b (change x ∷ xs) (x ∷ rest)) ≡ f x ∷ map f xs
changed_more f change x xs rest true same e = ap (λ k. k ∷ map f xs) same
changed_more f change x xs rest false same e = ap (λ ks. f x ∷ ks) e

pub changed_keys : {A B : Type 0} (f : A → B) (test : A → Bool) (change : A → A) → ((x : A) → f (change x) ≡ f x) → (xs : List A) → map f (changed_first test change xs) ≡ map f xs
changed_keys f test change same [] = refl
changed_keys f test change same (x ∷ xs) = changed_more f change x xs (changed_first test change xs) (test x) (same x) (changed_keys f test change same xs)

input_if : (b : Bool) (d e : DeviceView) → e.device ≡ d.device → (cond b e d).device ≡ d.device
input_if true d e same = same
input_if false d e same = refl

input_key : (i : InputEvent) (d : DeviceView) → (takes_input i d).device ≡ d.device
input_key (TouchDown touch x y) d = refl
input_key (TouchMotion touch x y) d = input_if (has_touch touch d) d _ refl
input_key (TouchUp touch) d = input_if (has_touch touch d) d _ refl
input_key (TouchCancel touch) d = input_if (has_touch touch d) d _ refl
input_key i d = refl

-- ---- the parts of what a request does

same_held : (c : ConnectionView) → SameHeld c c
same_held c = record { unread = refl; seats = refl; devices = refl }

seat_held : (c : ConverterView) (make : ObjectView → EisRequest) (o : Option SeatView) → SameHeld c.handle (queues_of_seat c make o).handle
seat_held c make None = same_held c.handle
seat_held c make (Some s) = same_held c.handle

emptied_held : (c : ConnectionView) (id : ℕ) → SameHeld c (emptied_at c id)
emptied_held c id = record { unread = refl; seats = refl; devices = changed_keys (λ (d : DeviceView). d.device) (is_device id) emptied (λ d. refl) c.devices }

out_held : (c : ConverterView) (id serial time : ℕ) (o : Option DeviceView) → SameHeld c.handle (hands_out c id serial time o).handle
out_held c id serial time None = same_held c.handle
out_held c id serial time (Some d) = emptied_held c.handle id

closes_held : (c : ConverterView) (id time : ℕ) (make : DeviceKey → EisRequest) (o : Option DeviceView) → SameHeld c.handle (closes c id time make o).handle
closes_held c id time make None = same_held c.handle
closes_held c id time make (Some d) = emptied_held c.handle id

gives_held : (c : ConnectionView) (id : ℕ) (o : Option DeviceView) → SameHeld c (gives_up c id o)
gives_held c id None = same_held c
gives_held c id (Some d) = record { unread = refl; seats = refl; devices = changed_keys (λ (d : DeviceView). d.device) (has_interface id) (without_interface id) (λ d. refl) c.devices }

hears_held : (c : ConnectionView) (id : ℕ) (i : InputEvent) → SameHeld c (hears c id i)
hears_held c id i = record { unread = refl; seats = refl; devices = changed_keys (λ (d : DeviceView). d.device) (has_interface id) (takes_input i) (input_key i) c.devices }

-- a request keeps them
pub handled_held : (c : ConverterView) (id : ℕ) (m : Meaning) (time : ℕ) → SameHeld c.handle (handled c id m time).handle
handled_held c id (Shakes shake) time = same_held c.handle
handled_held c id (Syncs callback version) time = record { unread = refl; seats = refl; devices = refl }
handled_held c id Disconnects time = same_held c.handle
handled_held c id (Pongs number) time = same_held c.handle
handled_held c id ReleasesSeat time = record { unread = refl; seats = changed_keys (λ (s : SeatView). s.proxy) (is_seat id) released (λ s. refl) c.handle.seats; devices = refl }
handled_held c id (Binds mask) time = seat_held c (bind_of mask) _
handled_held c id (RequestsDevice mask) time = seat_held c (request_device_of mask) _
handled_held c id Closes time = closes_held c id time closed_of (device_in c id)
handled_held c id (Starts serial sequence) time = closes_held c id time (start_of serial sequence) (device_in c id)
handled_held c id (Stops serial) time = closes_held c id time (stop_of serial) (device_in c id)
handled_held c id (Frames serial sent) time = out_held c id serial sent (device_in c id)
handled_held c id Readies time = closes_held c id time ready_of (device_in c id)
handled_held c id Releases time = gives_held c.handle id _
handled_held c id (Inputs i) time = hears_held c.handle id i

-- ---- the time of a frame

some_wait : (n : ℕ) → nat_lt 0 (suc n) ≡ true
some_wait n = grind (arith, nat_tests)

group_time : (key : DeviceKey) (is : List InputEvent) (serial a b : ℕ) → (nat_lt 0 (length is) ≡ true → a ≡ b) → group_requests key is serial a ≡ group_requests key is serial b
group_time key [] serial a b h = refl
group_time key (i ∷ is) serial a b h = ap (λ (t : ℕ). group_requests key (i ∷ is) serial t) (h (some_wait (length is)))

abbrev closed_with : ConverterView → ℕ → EisRequest → List EisRequest → ConverterView
closed_with c id request g = record c { handle = emptied_at c.handle id; queue = (c.queue ++ g) ++ request ∷ [] }

closes_time : (c : ConverterView) (id : ℕ) (make : DeviceKey → EisRequest) (a b : ℕ) (o : Option DeviceView) → (is_some_waiting o ≡ true → a ≡ b) → closes c id a make o ≡ closes c id b make o
closes_time c id make a b None h = refl
closes_time c id make a b (Some d) h =
    ap (λ (g : List EisRequest). closed_with c id (make d.device) g) (group_time d.device d.waiting c.handle.last_serial a b h)

-- it is that of the clock, where one is made
handled_time : (c : ConverterView) (id : ℕ) (m : Meaning) (a b : ℕ) → (closes_group m ≡ true → is_some_waiting (device_in c id) ≡ true → a ≡ b) → handled c id m a ≡ handled c id m b
handled_time c id Closes a b h = closes_time c id closed_of a b (device_in c id) (h refl)
handled_time c id (Starts serial sequence) a b h = closes_time c id (start_of serial sequence) a b (device_in c id) (h refl)
handled_time c id (Stops serial) a b h = closes_time c id (stop_of serial) a b (device_in c id) (h refl)
handled_time c id Readies a b h = closes_time c id ready_of a b (device_in c id) (h refl)
handled_time c id m a b h = refl

times_now : (closing waiting : Bool) (t now : ℕ) (after : Option (List ℕ)) → Times closing waiting t (Some (now ∷ [])) after → closing ≡ true → waiting ≡ true → t ≡ now
times_now true true t now after h closes waits = (h (now ∷ []) refl).is
times_now false waiting t now after h closes waits = cc
times_now true false t now after h closes waits = cc

pub taken_at : (c : ConverterView) (id version : ℕ) (m : Meaning) (now : ℕ) (after : Option (List ℕ)) (new : ConverterView) → TakesRequest c id version m (Some (now ∷ [])) after new → new ≡ handled c id m now
taken_at c id version m now after new h =
    h.does ∙ handled_time c id m h.time now (λ closes waits. times_now (closes_group m) (is_some_waiting (device_in c id)) h.time now after h.clock closes waits)
