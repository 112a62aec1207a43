-- What a bind, or a request for a device, is handed out as.
use Rattle.std.proofs.Common.{◌≡◌, ◌≢◌, ℕ, Bool, true, false, eqb, List, [], ◌++◌, Option, Some, None, refl, sym, ap, ◌∙◌, subst, arith}
use Rattle.std.specs.Prelude.{find, map, bit_and}
use Rattle.std.proofs.lemmas.Bool.Decides.{nat_tests}
use Rattle.std.proofs.lemmas.Bool.{eqb-true}
use Rattle.ei_spec.specs.declared.interface.KnownInterface.TheVariants as known
use Rattle.ei_spec.specs.Message.{Raw}
use Rattle.ei_spec.specs.History.{each}
use Rattle.ei_spec.specs.Groups.{Free, gives}
use Rattle.ei_types.specs.declared.error.RequestError.TheVariants as request_error
use Rattle.ei_session.specs.Setup.{Setup, seat_id}
use Rattle.ei_session.specs.Meaning.{Meaning, meaning, Binds, RequestsDevice}
use Rattle.ei_session.specs.Devices.{not_empty, made, exhausts}
use Rattle.ei_session.specs.Objects.{Entry, object}
use Rattle.ei_session.specs.Touches.{of_device, input}
use Rattle.ei_session.specs.Refusals.{Request, bad_mask, synced, refusal}
use Rattle.ei_session.specs.Requests.{Plain, Bind, RequestDevice, item, slot}
use Rattle.ei_session.specs.Events.{reply}
use Rattle.ei_session.specs.ByMeaning.{input_in, mask_in, callback_in, releases}
use Rattle.ei_session.specs.AnsweredByMeaning.{device_reply}
use Rattle.ei_session.proofs.Choices.{none_some, some_is}
use Rattle.ei_session.proofs.AnsweredMeans.{made_asked, synced_asked, reply_asked}
use Rattle.ei_session.proofs.AskedByMeaning.{its_interface}
use Rattle.ei_session.proofs.ItemMeans.{input_by, bare, item_asked}
use Rattle.ei_session.proofs.RefusedMeans.{refusal_asked}
use Rattle.ei_session.proofs.RunsOut.{exhausting_reply}
use Rattle.ei_request.specs.Held.{is_seat}
use Rattle.ei_request.specs.Handling.{handled, queues, queues_of_seat, bind_of, request_device_of}
use Rattle.ei_request.specs.Converter.{ConverterView}
use Rattle.ei_standing.specs.Standing.{seat_of, seat_held, plain_in_code, request_in_code, IsHeld, TookOne}
use Rattle.ei_standing.proofs.ConnectionMessages.{plain_request}
use Rattle.ei_standing.proofs.HeldPlainly.{keeps_itself}
use Rattle.ei_standing.proofs.SameRefusals.{seat_there}
use Rattle.ei_standing.proofs.TookQuietly.{free_queue, took_quietly, no_more}

-- the request of the definitions that it is, and what is told of it
pub record AsksDevice (setup : Setup) (past : List Raw) (m : Raw) (c : ConverterView) (x : Meaning) (mask time : ℕ) : Type 0 where
  pub request : Plain
  pub item_is : item past m ≡ Some (Free request)
  pub does : handled c m.id x time ≡ queues c (plain_in_code past request)
  pub bad : refusal setup past m ≡ bad_mask setup.capabilities (Some mask)
  pub answer : reply setup past m ≡ device_reply setup past m (not_empty (Some mask))
  pub on_seat : find (is_seat m.id) c.handle.seats ≡ Some (seat_held setup past)

not_zero : (mask : ℕ) → mask ≢ 0 → not_empty (Some mask) ≡ Some mask
not_zero mask far = let no : eqb mask 0 ≡ false = grind (arith, nat_tests, far) in rw no refl

module _ (setup : Setup) (past : List Raw) (m : Raw) (readings : List ℕ) (c : ConverterView) (e : Entry) (h : IsHeld setup past readings c) (k : object past m.id ≡ Some e) where
  binds_one : (mask time : ℕ) → meaning e.interface m ≡ Some (Binds mask) → AsksDevice setup past m c (Binds mask) mask time
  binds_one mask time a =
      let there = seat_there setup past m readings c e h k (its_interface e.interface m (Binds mask) known.Seat a refl) in
      record {
        request = Bind m.id mask;
        item_is = item_asked past m e k ∙ rw a refl;
        does = ap (queues_of_seat c (bind_of mask)) there;
        bad = refusal_asked setup past m e (Binds mask) k a;
        answer = reply_asked setup past m e h.connected k ∙ rw a refl;
        on_seat = there;
      }

  requests_one : (mask time : ℕ) → meaning e.interface m ≡ Some (RequestsDevice mask) → AsksDevice setup past m c (RequestsDevice mask) mask time
  requests_one mask time a =
      let there = seat_there setup past m readings c e h k (its_interface e.interface m (RequestsDevice mask) known.Seat a refl) in
      record {
        request = RequestDevice m.id mask;
        item_is = item_asked past m e k ∙ rw a refl;
        does = ap (queues_of_seat c (request_device_of mask)) there;
        bad = refusal_asked setup past m e (RequestsDevice mask) k a;
        answer = reply_asked setup past m e h.connected k ∙ rw a refl;
        on_seat = there;
      }

  -- what is queued names the seat
  pub bind_queued : (mask time : ℕ) → meaning e.interface m ≡ Some (Binds mask) → handled c m.id (Binds mask) time ≡ queues c (bind_of mask (seat_of past))
  bind_queued mask time a = ap (queues_of_seat c (bind_of mask)) (seat_there setup past m readings c e h k (its_interface e.interface m (Binds mask) known.Seat a refl))

  pub request_device_queued : (mask time : ℕ) → meaning e.interface m ≡ Some (RequestsDevice mask) → handled c m.id (RequestsDevice mask) time ≡ queues c (request_device_of mask (seat_of past))
  request_device_queued mask time a = ap (queues_of_seat c (request_device_of mask)) (seat_there setup past m readings c e h k (its_interface e.interface m (RequestsDevice mask) known.Seat a refl))

  at_mask : (x : Meaning) (a b time : ℕ) → Some a ≡ Some b → AsksDevice setup past m c x a time → AsksDevice setup past m c x b time
  at_mask x a b time same asked = subst (λ (n : ℕ). AsksDevice setup past m c x n time) (some_is a b same) asked

  pub asks_device : (x : Meaning) (mask time : ℕ) → meaning e.interface m ≡ Some x → mask_in (Some x) ≡ Some mask → AsksDevice setup past m c x mask time
  asks_device (Binds n) mask time a is = at_mask (Binds n) n mask time is (binds_one n time a)
  asks_device (RequestsDevice n) mask time a is = at_mask (RequestsDevice n) n mask time is (requests_one n time a)
  asks_device x mask time a is = absurd (none_some mask is)

  callback_none : (x : Meaning) (mask : ℕ) → mask_in (Some x) ≡ Some mask → callback_in (Some x) ≡ None
  callback_none (Binds n) mask is = refl
  callback_none (RequestsDevice n) mask is = refl
  callback_none x mask is = absurd (none_some mask is)

  released_none : (x : Meaning) (mask : ℕ) → mask_in (Some x) ≡ Some mask → releases (Some x) ≡ false
  released_none (Binds n) mask is = refl
  released_none (RequestsDevice n) mask is = refl
  released_none x mask is = absurd (none_some mask is)

  input_none : (x : Meaning) (mask : ℕ) → mask_in (Some x) ≡ Some mask → input_in (Some x) ≡ None
  input_none (Binds n) mask is = refl
  input_none (RequestsDevice n) mask is = refl
  input_none x mask is = absurd (none_some mask is)

  module _ (x : Meaning) (mask : ℕ) (a : meaning e.interface m ≡ Some x) (is : mask_in (Some x) ≡ Some mask) where
    pub mask_made : made past m ≡ not_empty (Some mask)
    mask_made = made_asked past m e h.connected k ∙ ap (λ (o : Option Meaning). not_empty (mask_in o)) a ∙ ap not_empty is

    pub some_made : mask ≢ 0 → made past m ≡ Some mask
    some_made far = mask_made ∙ not_zero mask far

    -- the seat is held
    pub seat_stays : (time : ℕ) → find (is_seat seat_id) (handled c m.id x time).handle.seats ≡ Some (seat_held setup past)
    seat_stays time = ap (λ (new : ConverterView). find (is_seat seat_id) new.handle.seats) (asks_device x mask time a is).does ∙ ap (find (is_seat seat_id)) h.seats

    -- where the ids run out, the request is queued, and nothing answers it
    pub after_last : (time : ℕ) (later : List ℕ) → mask ≢ 0 → exhausts past m ≡ true →
        ((handled c m.id x time).queue ≡ c.queue ++ map (request_in_code past) (gives (readings ++ later) (each (slot setup) past) (slot setup past m))) × (reply setup past m ≡ [])
    after_last time later far out =
        let asked = asks_device x mask time a is in (
          free_queue setup past m (readings ++ later) c.queue (handled c m.id x time).queue (Some asked.request) asked.item_is (ap (λ (new : ConverterView). new.queue) asked.does),
          exhausting_reply setup past m mask (some_made far) out,
        )

    pub no_callback : synced past m ≡ None
    no_callback = synced_asked past m e h.connected k ∙ ap callback_in a ∙ callback_none x mask is

    pub no_input : input past m ≡ None
    no_input = input_by past m e k ∙ ap (λ (o : Option Meaning). of_device e.device (input_in o)) a
        ∙ ap (of_device e.device) (input_none x mask is) ∙ bare e.device

  -- a mask of no bit makes no device
  pub after_empty : (x : Meaning) (time : ℕ) → meaning e.interface m ≡ Some x → mask_in (Some x) ≡ Some 0 → TookOne setup past m readings [] c (handled c m.id x time)
  after_empty x time a is =
      let asked = asks_device x 0 time a is in
      subst (λ (new : ConverterView). TookOne setup past m readings [] c new) (sym asked.does)
      (took_quietly setup past m readings c (queues c (plain_in_code past asked.request)) (Some asked.request) [] (plain_request setup past m readings c e h k x a (ap not_empty is) (released_none x 0 is)) h asked.item_is
      (no_input x 0 a is) (no_callback x 0 a is) asked.answer (record {
        keeps = keeps_itself c.handle c.handle.devices;
        devices = refl;
        queue = refl;
        unsent = no_more c.handle.ctx.unsent;
        unread = refl;
        handles = refl;
      }))

  -- a mask that isn't refused is within the capabilities
  within_by : (mask given : ℕ) (b : Bool) → eqb (bit_and mask given) mask ≡ b → bad_mask given (Some mask) ≡ None → bit_and mask given ≡ mask
  within_by mask given true t r = eqb-true (bit_and mask given) mask t
  within_by mask given false t r =
      let no : bad_mask given (Some mask) ≡ Some (Request request_error.InvalidCapabilities) = rw t refl in
      absurd (none_some (Request request_error.InvalidCapabilities) (sym r ∙ no))

  pub within : (x : Meaning) (mask : ℕ) → meaning e.interface m ≡ Some x → mask_in (Some x) ≡ Some mask → refusal setup past m ≡ None → bit_and mask setup.capabilities ≡ mask
  within x mask a is r = within_by mask setup.capabilities _ refl (sym (asks_device x mask 0 a is).bad ∙ r)
