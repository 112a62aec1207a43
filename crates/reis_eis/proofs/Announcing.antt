-- Why a call that announces something is refused, and what lets it pass.
use Rattle.std.proofs.Common.{◌≡◌, ℕ, ◌+◌, ◌<◌, ◌≤◌, Bool, true, false, ◌&&◌, ◌||◌, List, [], ◌∷◌, map, length, Option, Some, None, Ok, Err, refl, sym, ap, subst, ◌∙◌, arith}
use Rattle.std.specs.Prelude.{◌↔◌, ◌==◌, bit_and, find, nat_le, nat_lt, not, if◌then◌else◌, IsErrOf}
use Rattle.std.specs.Option.{option_map}
use Rattle.std.specs.List.{list_any, filter_map, Any}
use Rattle.std.proofs.lemmas.Bool.{le-leb, lt-leb, lt-ltb, le-ltb}
use Rattle.std.proofs.lemmas.Bool.Decides.{nat_tests}
use Rattle.std.proofs.lemmas.List.Folds.{list_any-from_Any}
use Rattle.ei_spec.specs.declared.interface.KnownInterface.{KnownInterface}
use Rattle.ei_spec.specs.declared.interface.KnownInterface.TheVariants as known
use Rattle.ei_spec.specs.declared.limits.TheConstants.{MOST_MESSAGE_BYTES, MOST_PIECE_HANDLES}
use Rattle.ei_spec.specs.Interface.{ObjectView}
use Rattle.ei_spec.specs.Message.{size}
use Rattle.ei_types.specs.Capability.{has_bit, bits_of, bit_of, interface_of}
use Rattle.ei_types.specs.declared.capability.DeviceCapabilities.{DeviceCapabilities}
use Rattle.ei_types.specs.declared.capability.DeviceCapability.{DeviceCapability}
use Rattle.ei_types.specs.declared.capability.DeviceCapability.TheVariants.{Pointer, PointerAbsolute, Keyboard, Touch, Scroll, Button, Text, Gesture}
use Rattle.ei_wire.specs.declared.error.SendError.{SendError}
use Rattle.ei_wire.specs.declared.error.SendError.TheVariants as send_error
use Rattle.ei_backend.specs.Table.{own_end}
use Rattle.ei_backend.specs.Endpoint.{endpoint_of}
use Rattle.ei_session.specs.Replies.{name_event}
use Rattle.ei_request.specs.Held.{SeatView, is_seat}
use Rattle.ei_request.specs.Connection.{ConnectionView}
use Rattle.ei_request.specs.Keys.{DeviceKey}
use Rattle.ei_types.specs.declared.enums.DeviceType.{DeviceType}
use Rattle.ei_request.specs.Making.{AddsDevice, new_device, is_long_name, is_long_description, granted, granted_at, is_keyboard, setup_handle, setup_handles, NeedsKeyboard, IsGiven, HasLongName, LacksIds, HasLongText}
use Rattle.ei_request.specs.Sending.{disconnected_event}
use Rattle.ei_request.specs.declared.making.DeviceSetup.{DeviceSetup}
use Rattle.ei_request.specs.declared.making.DeviceSetup.TheVariants as setup
use Rattle.reis_eis.specs.declared.call_error.CallError.{CallError}
use Rattle.reis_eis.specs.declared.call_error.CallError.TheVariants as call_error
use Rattle.reis_eis.specs.Acting.{AddsDeviceTo, AddsDeviceAs}
use Rattle.reis_eis.specs.Refusals.{of_send, Tells, TellsOrWants, adding_seat, announcing, has_keyboard, describing, describing_at, adding_device, first_reason, disconnecting}

-- ---- of two reasons

module _ {E : Type 0} (x y : E) where
  first_of_two : (p q : Bool) → p ≡ true → (if p then Some x else (if q then Some y else None)) ≡ Some x
  first_of_two p q e = rw e refl

  second_of_two : (p q : Bool) → p ≡ false → q ≡ true → (if p then Some x else (if q then Some y else None)) ≡ Some y
  second_of_two p q e f = rw (e, f) refl

  none_of_two : (p q : Bool) → p ≡ false → q ≡ false → (if p then Some x else (if q then Some y else None)) ≡ None
  none_of_two p q e f = rw (e, f) refl

above : (a b : ℕ) → (a ≤ b → ⊥) → b < a
above a b h = grind arith

fits_within : (own next : ℕ) → (own ≤ next → ⊥) → nat_le own next ≡ false
fits_within own next h = grind (arith, nat_tests)

fits_below : (own next : ℕ) → (own < next → ⊥) → nat_lt own next ≡ false
fits_below own next h = grind (arith, nat_tests)

not_both : (a b : ℕ) (q : Bool) → (a < b → q ≡ true → ⊥) → a < b → q ≡ false
not_both a b true h lt = absurd (h lt refl)
not_both a b false h lt = refl

not_both_within : (a b : ℕ) (q : Bool) → (a ≤ b → q ≡ true → ⊥) → a ≤ b → q ≡ false
not_both_within a b true h le = absurd (h le refl)
not_both_within a b false h le = refl

within : (a b : ℕ) → (b < a → ⊥) → a ≤ b
within a b h = grind arith

-- ---- memory ran out where nothing else refuses the call

pub wants_now : (reason : Option CallError) (e : SendError) → e ≡ send_error.NoMemory → reason ≡ None → Tells reason (of_send e)
wants_now reason send_error.NoMemory is none = none
wants_now reason send_error.MessageTooLong is none = cc
wants_now reason send_error.IdsExhausted is none = cc

-- ---- a seat

module _ (c : ConnectionView) (name : Option (List ℕ)) where
  abbrev own : ℕ
  own = own_end c.ctx.table

  abbrev next : ℕ
  next = c.ctx.table.next_own

  abbrev long_name : Bool
  long_name = is_long_name (name_event c.ctx.table.next_own) name

  pub seat_tells : (e : SendError) → (IsErrOf {T = ObjectView} (Err e) send_error.IdsExhausted ↔ (own ≤ next)) → (IsErrOf {T = ObjectView} (Err e) send_error.MessageTooLong ↔ HasLongName c.ctx.table name) →
      TellsOrWants (adding_seat name c) (of_send e)
  seat_tells send_error.IdsExhausted exhausted long = first_of_two call_error.IdsExhausted call_error.MessageTooLong (nat_le own next) long_name (le-leb own next (exhausted.0 refl))
  seat_tells send_error.MessageTooLong exhausted long =
      let h = long.0 refl in second_of_two call_error.IdsExhausted call_error.MessageTooLong (nat_le own next) long_name (lt-leb own next h.0) h.1
  seat_tells send_error.NoMemory exhausted long = tt

  pub seat_passes : (s : ObjectView) → (IsErrOf (Ok s) send_error.IdsExhausted ↔ (own ≤ next)) → (IsErrOf (Ok s) send_error.MessageTooLong ↔ HasLongName c.ctx.table name) → adding_seat name c ≡ None
  seat_passes s exhausted long =
      let left : own ≤ next → ⊥ = λ h. let k = exhausted.1 h in cc in
      none_of_two call_error.IdsExhausted call_error.MessageTooLong (nat_le own next) long_name (fits_within own next left)
      (not_both next own long_name (λ lt is. let k = long.1 (lt, is) in cc) (above own next left))

-- ---- a device

-- some item of what a function picks passes a test
later_item : {A : Type 0} (test : A → Bool) (rest : List A) → list_any test rest ≡ true → (b : Bool) → (b || list_any test rest) ≡ true
later_item test rest h true = refl
later_item test rest h false = h

picked_later : {A B : Type 0} (pick : A → Option B) (test : B → Bool) (x : A) (xs : List A) (o : Option B) → pick x ≡ o → list_any test (filter_map pick xs) ≡ true → list_any test (filter_map pick (x ∷ xs)) ≡ true
picked_later pick test x xs None is h = rw is h
picked_later pick test x xs (Some y) is h = rw is (later_item test (filter_map pick xs) h (test y))

skipped : {A B : Type 0} (pick : A → Option B) (test : B → Bool) (x : A) (xs : List A) → list_any test (filter_map pick xs) ≡ true → list_any test (filter_map pick (x ∷ xs)) ≡ true
skipped pick test x xs h = picked_later pick test x xs (pick x) refl h

picked_here : {A B : Type 0} (pick : A → Option B) (test : B → Bool) (x : A) (xs : List A) (y : B) → pick x ≡ Some y → test y ≡ true → list_any test (filter_map pick (x ∷ xs)) ≡ true
picked_here pick test x xs y is passes = rw (is, passes) refl

-- a device that gets a keyboard has its interface
abbrev entry : DeviceCapability → ℕ × KnownInterface
entry one = (bit_of one, interface_of one)

abbrev entries : List DeviceCapability → List (ℕ × KnownInterface)
entries ones = map (λ one. (bit_of one, interface_of one)) ones

keyboard_granted : (given wanted : DeviceCapabilities) → has_keyboard given wanted ≡ true → list_any is_keyboard (granted given wanted) ≡ true
keyboard_granted given wanted h =
    let pick : ℕ × KnownInterface → Option KnownInterface = λ c. if has_bit (bits_of given) c.0 && has_bit (bits_of wanted) c.0 then Some c.1 else None in
    skipped pick is_keyboard (entry Pointer) (entries (PointerAbsolute ∷ Keyboard ∷ Touch ∷ Scroll ∷ Button ∷ Text ∷ Gesture ∷ []))
    (skipped pick is_keyboard (entry PointerAbsolute) (entries (Keyboard ∷ Touch ∷ Scroll ∷ Button ∷ Text ∷ Gesture ∷ []))
    (picked_here pick is_keyboard (entry Keyboard) (entries (Touch ∷ Scroll ∷ Button ∷ Text ∷ Gesture ∷ [])) known.Keyboard (rw h refl) refl))

-- a keymap has a handle
needs_handle : (x : DeviceSetup) → NeedsKeyboard x → nat_lt 0 (length (setup_handle x)) ≡ true
needs_handle (setup.Keymap k s h) needs = refl
needs_handle (setup.Dimensions w h) needs = absurd needs
needs_handle (setup.RegionMappingId i) needs = absurd needs
needs_handle (setup.Region x y w h s) needs = absurd needs

any_keymap : (items : List DeviceSetup) → Any NeedsKeyboard items → Any (λ x. nat_lt 0 (length (setup_handle x)) ≡ true) items
any_keymap items a = (a.0, a.1, a.2, a.3, needs_handle a.1 a.4)

some_handles : (items : List DeviceSetup) → list_any (λ x. nat_lt 0 (length (setup_handle x))) items ≡ true → nat_lt 0 (length (setup_handles items)) ≡ true
some_handles [] h = h
some_handles (setup.Keymap k s h ∷ items) is = lt-ltb 0 _ (omega arith)
some_handles (setup.Dimensions w h ∷ items) is = some_handles items is
some_handles (setup.RegionMappingId i ∷ items) is = some_handles items is
some_handles (setup.Region x y w h s ∷ items) is = some_handles items is

keymap_there : (items : List DeviceSetup) → Any NeedsKeyboard items → list_any (λ x. nat_lt 0 (length (setup_handle x))) items ≡ true
keymap_there items a = list_any-from_Any (λ x. nat_lt 0 (length (setup_handle x))) items (any_keymap items a)

keymap_counts : (items : List DeviceSetup) → Any NeedsKeyboard items → nat_lt 0 (length (setup_handles items)) ≡ true
keymap_counts items a = some_handles items (keymap_there items a)

-- what may be described so
keyboard_there : (keymaps keyboard : Bool) (e : CallError) (later : Option CallError) → (if keymaps && not keyboard then Some e else later) ≡ None → keymaps ≡ true → keyboard ≡ true
keyboard_there true true e later h is = refl
keyboard_there true false e later h is = cc
keyboard_there false keyboard e later h is = cc

passed : (b : Bool) (e : CallError) (later : Option CallError) → (if b then Some e else later) ≡ None → later ≡ None
passed true e later h = cc
passed false e later h = h

described_keyboard : (given wanted : DeviceCapabilities) (keymaps waiting : ℕ) → describing given wanted keymaps waiting ≡ None → nat_lt 0 keymaps ≡ true → has_keyboard given wanted ≡ true
described_keyboard given wanted keymaps waiting h some =
    keyboard_there (nat_lt 0 keymaps) (has_keyboard given wanted) call_error.NoKeyboard (if nat_lt MOST_PIECE_HANDLES (waiting + keymaps) then Some call_error.TooManyHandles else None)
    (passed (not (bit_and (bits_of given) (bits_of wanted) == bits_of wanted)) call_error.Capabilities _ h) some

keyboard_given_to : (o : Option SeatView) (c : ConnectionView) (id : ℕ) (wanted : DeviceCapabilities) (items : List DeviceSetup) (waiting : ℕ) → find (is_seat id) c.seats ≡ o → describing_at o wanted items waiting ≡ None →
    Any NeedsKeyboard items → IsGiven c id wanted
keyboard_given_to None c id wanted items waiting is described a = cc
keyboard_given_to (Some s) c id wanted items waiting is described a =
    rw is (keyboard_granted s.capabilities wanted (described_keyboard s.capabilities wanted (length (setup_handles items)) waiting described (keymap_counts items a)))

-- the seat of a key that may have it
pub keyboard_given : (c : ConnectionView) (id : ℕ) (wanted : DeviceCapabilities) (items : List DeviceSetup) (waiting : ℕ) → describing_at (find (is_seat id) c.seats) wanted items waiting ≡ None →
    Any NeedsKeyboard items → IsGiven c id wanted
keyboard_given c id wanted items waiting described a = keyboard_given_to (find (is_seat id) c.seats) c id wanted items waiting refl described a

module _ (c : ConnectionView) (seat : ℕ) (name : Option (List ℕ)) (wanted : DeviceCapabilities) (items : List DeviceSetup)
    (described : describing_at (find (is_seat seat) c.seats) wanted items (length c.ctx.unsent_handles) ≡ None) where
  abbrev interfaces : List KnownInterface
  interfaces = granted_at c seat wanted

  abbrev needed : ℕ
  needed = c.ctx.table.next_own + (length (granted_at c seat wanted) + 1)

  abbrev long_text : Bool
  long_text = is_long_description c.ctx.table.next_own name items

  announced : adding_device seat name wanted items c ≡ announcing c name (length interfaces) items
  announced = rw described refl

  pub device_tells : {T : Type 0} (e : SendError) → (IsErrOf {T = T} (Err e) send_error.IdsExhausted ↔ LacksIds c.ctx.table interfaces) →
      (IsErrOf {T = T} (Err e) send_error.MessageTooLong ↔ HasLongText c.ctx.table interfaces name items) → TellsOrWants (adding_device seat name wanted items c) (of_send e)
  device_tells send_error.IdsExhausted exhausted long =
      announced ∙ first_of_two call_error.IdsExhausted call_error.MessageTooLong (nat_lt (own_end c.ctx.table) needed) long_text (lt-ltb (own_end c.ctx.table) needed (exhausted.0 refl))
  device_tells send_error.MessageTooLong exhausted long =
      let h = long.0 refl in
      announced ∙ second_of_two call_error.IdsExhausted call_error.MessageTooLong (nat_lt (own_end c.ctx.table) needed) long_text (le-ltb (own_end c.ctx.table) needed h.0) h.1
  device_tells send_error.NoMemory exhausted long = tt

  pub device_passes : {T : Type 0} (d : T) → (IsErrOf (Ok d) send_error.IdsExhausted ↔ LacksIds c.ctx.table interfaces) →
      (IsErrOf (Ok d) send_error.MessageTooLong ↔ HasLongText c.ctx.table interfaces name items) → adding_device seat name wanted items c ≡ None
  device_passes d exhausted long =
      let left : own_end c.ctx.table < needed → ⊥ = λ h. let k = exhausted.1 h in cc in
      announced ∙ none_of_two call_error.IdsExhausted call_error.MessageTooLong (nat_lt (own_end c.ctx.table) needed) long_text (fits_below (own_end c.ctx.table) needed left)
      (not_both_within needed (own_end c.ctx.table) long_text (λ le is. let k = long.1 (le, is) in cc) (within needed (own_end c.ctx.table) left))

-- ---- the end

module _ (c : ConnectionView) (reason : ℕ) (text : Option (List ℕ)) (untold : c.disconnected ≡ false) where
  abbrev farewell : ℕ
  farewell = size (disconnected_event c.proxy.id 0 reason text)

  too_long : MOST_MESSAGE_BYTES < farewell → disconnecting reason text c ≡ Some call_error.MessageTooLong
  too_long h = second_of_two call_error.Over call_error.MessageTooLong c.disconnected (nat_lt MOST_MESSAGE_BYTES farewell) untold (lt-ltb MOST_MESSAGE_BYTES farewell h)

  short_enough : (MOST_MESSAGE_BYTES < farewell → ⊥) → disconnecting reason text c ≡ None
  short_enough h = none_of_two call_error.Over call_error.MessageTooLong c.disconnected (nat_lt MOST_MESSAGE_BYTES farewell) untold (fits_below MOST_MESSAGE_BYTES farewell h)

  pub farewell_tells : (e : SendError) → (IsErrOf {T = Unit {0}} (Err e) send_error.IdsExhausted → ⊥) → (IsErrOf {T = Unit {0}} (Err e) send_error.MessageTooLong ↔ (MOST_MESSAGE_BYTES < farewell)) →
      Tells (disconnecting reason text c) (of_send e)
  farewell_tells send_error.IdsExhausted none long = absurd (none refl)
  farewell_tells send_error.MessageTooLong none long = too_long (long.0 refl)
  farewell_tells send_error.NoMemory none long = short_enough (λ h. let k = long.1 h in cc)

  pub farewell_passes : (x : Unit {0}) → (IsErrOf (Ok x) send_error.MessageTooLong ↔ (MOST_MESSAGE_BYTES < farewell)) → disconnecting reason text c ≡ None
  farewell_passes x long = short_enough (λ h. let k = long.1 h in cc)

pub already_over : (c : ConnectionView) (reason : ℕ) (text : Option (List ℕ)) → c.disconnected ≡ true → disconnecting reason text c ≡ Some call_error.Over
already_over c reason text told = rw told refl

-- ---- what a device may be

-- the seat is held
pub given_by : (o : Option SeatView) (given wanted : DeviceCapabilities) (items : List DeviceSetup) (waiting : ℕ) → option_map (λ s. s.capabilities) o ≡ Some given →
    describing_at o wanted items waiting ≡ describing given wanted (length (setup_handles items)) waiting
given_by None given wanted items waiting is = cc
given_by (Some s) given wanted items waiting is =
    let same : s.capabilities ≡ given = cc in
    ap (λ (g : DeviceCapabilities). describing g wanted (length (setup_handles items)) waiting) same

pub not_given : (o : Option SeatView) (wanted : DeviceCapabilities) (items : List DeviceSetup) (waiting : ℕ) → option_map (λ s. s.capabilities) o ≡ None → describing_at o wanted items waiting ≡ Some call_error.Gone
not_given None wanted items waiting is = refl
not_given (Some s) wanted items waiting is = cc

module _ (given wanted : DeviceCapabilities) (keymaps waiting : ℕ) where
  abbrev contained : Bool
  contained = bit_and (bits_of given) (bits_of wanted) == bits_of wanted

  abbrev unkeyed : Bool
  unkeyed = nat_lt 0 keymaps && not (has_keyboard given wanted)

  pub beyond : contained ≡ false → describing given wanted keymaps waiting ≡ Some call_error.Capabilities
  beyond e = rw e refl

  pub keyless : contained ≡ true → unkeyed ≡ true → describing given wanted keymaps waiting ≡ Some call_error.NoKeyboard
  keyless e f = rw (e, f) refl

  pub crowded : contained ≡ true → unkeyed ≡ false → nat_lt MOST_PIECE_HANDLES (waiting + keymaps) ≡ true → describing given wanted keymaps waiting ≡ Some call_error.TooManyHandles
  crowded e f g = rw (e, f, g) refl

  pub allowed : contained ≡ true → unkeyed ≡ false → nat_lt MOST_PIECE_HANDLES (waiting + keymaps) ≡ false → describing given wanted keymaps waiting ≡ None
  allowed e f g = rw (e, f, g) refl

-- ---- a device, from what was looked at and what was lent, which are the connection

first_is : (first later : Option CallError) (e : CallError) → first ≡ Some e → first_reason first later ≡ Some e
first_is first later e is = rw is refl

tells_so : (reason : Option CallError) (e : CallError) → reason ≡ Some e → TellsOrWants reason e
tells_so reason call_error.NoMemory is = tt
tells_so reason e is = is

module _ (c : ConnectionView) (id seat : ℕ) (id_is : id ≡ seat) (name : Option (List ℕ)) (wanted : DeviceCapabilities) (items : List DeviceSetup) (seen : ConnectionView) (seen_is : seen ≡ c) where
  abbrev described_in : ConnectionView → Option CallError
  described_in h = describing_at (find (is_seat id) h.seats) wanted items (length h.ctx.unsent_handles)

  pub device_gone : find (is_seat seat) c.seats ≡ None → TellsOrWants (adding_device seat name wanted items c) call_error.Gone
  device_gone none = rw none refl

  pub device_undescribed : (e : CallError) → describing_at (find (is_seat id) seen.seats) wanted items (length seen.ctx.unsent_handles) ≡ Some e → TellsOrWants (adding_device seat name wanted items c) e
  device_undescribed e is =
      subst (λ (n : ℕ). TellsOrWants (adding_device n name wanted items c) e) id_is (tells_so (adding_device id name wanted items c) e
      (first_is (described_in c) _ e (subst (λ (h : ConnectionView). described_in h ≡ Some e) seen_is is)))

  module _ (conn : ConnectionView) (conn_is : conn ≡ c) (described : describing_at (find (is_seat id) seen.seats) wanted items (length seen.ctx.unsent_handles) ≡ None) where
    described_there : described_in conn ≡ None
    described_there = subst (λ (h : ConnectionView). described_in h ≡ None) (seen_is ∙ sym conn_is) described

    pub device_keyboard : Any NeedsKeyboard items → IsGiven conn id wanted
    device_keyboard needs = keyboard_given conn id wanted items (length conn.ctx.unsent_handles) described_there needs

    pub device_refused : {T : Type 0} (e : SendError) → (IsErrOf {T = T} (Err e) send_error.IdsExhausted ↔ LacksIds conn.ctx.table (granted_at conn id wanted)) →
        (IsErrOf {T = T} (Err e) send_error.MessageTooLong ↔ HasLongText conn.ctx.table (granted_at conn id wanted) name items) → TellsOrWants (adding_device seat name wanted items c) (of_send e)
    device_refused e exhausted long =
        subst (λ (n : ℕ). TellsOrWants (adding_device n name wanted items c) (of_send e)) id_is
        (subst (λ (h : ConnectionView). TellsOrWants (adding_device id name wanted items h) (of_send e)) conn_is (device_tells conn id name wanted items described_there e exhausted long))

    pub device_accepted : {T : Type 0} (d : T) → (IsErrOf (Ok d) send_error.IdsExhausted ↔ LacksIds conn.ctx.table (granted_at conn id wanted)) →
        (IsErrOf (Ok d) send_error.MessageTooLong ↔ HasLongText conn.ctx.table (granted_at conn id wanted) name items) → adding_device seat name wanted items c ≡ None
    device_accepted d exhausted long =
        subst (λ (n : ℕ). adding_device n name wanted items c ≡ None) id_is
        (subst (λ (h : ConnectionView). adding_device id name wanted items h ≡ None) conn_is (device_passes conn id name wanted items described_there d exhausted long))

-- the device that was added is one of the seat of that id
pub device_added : (c conn new : ConnectionView) → conn ≡ c → (seat : ℕ) (key : ObjectView) (s : SeatView) → find (is_seat seat) c.seats ≡ Some s → s.proxy ≡ key →
    (name : Option (List ℕ)) (kind : DeviceType) (wanted : DeviceCapabilities) (items : List DeviceSetup) (id : ℕ) (d : DeviceKey) → id ≡ d.proxy.id →
    d ≡ (new_device (endpoint_of conn.ctx) conn.negotiated key name (granted_at conn key.id wanted)).device → AddsDevice conn key name kind (granted_at conn key.id wanted) items new →
    AddsDeviceAs id seat name kind wanted items c new
device_added c conn new conn_is seat key s found is name kind wanted items id d id_is d_is adds =
    let there : AddsDevice c s.proxy name kind (granted_at c s.proxy.id wanted) items new =
    subst (λ (k : ObjectView). AddsDevice c k name kind (granted_at c k.id wanted) items new) (sym is) (subst (λ (h : ConnectionView). AddsDevice h key name kind (granted_at h key.id wanted) items new) conn_is adds) in (
      id_is ∙ ap (λ (k : DeviceKey). k.proxy.id) d_is ∙ ap (λ (h : ConnectionView). h.ctx.table.next_own) conn_is,
      subst (λ (o : Option SeatView). AddsDeviceTo o name kind wanted items c new) (sym found) there,
    )
