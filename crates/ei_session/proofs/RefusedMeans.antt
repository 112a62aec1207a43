-- Why a request is refused, by what it asks.
use Rattle.std.proofs.Common.{◌≡◌, ℕ, ◌+◌, Bool, true, false, cond, not, ◌&&◌, ◌||◌, eqb, List, [], ◌∷◌, length, Option, Some, None, Ok, Err, refl, sym, ap}
use Rattle.std.proofs.Common.{◌∙◌}
use Rattle.std.specs.Prelude.{codes, is_some}
use Rattle.ei_spec.specs.declared.interface.KnownInterface.{KnownInterface}
use Rattle.ei_spec.specs.declared.interface.KnownInterface.TheVariants as known
use Rattle.ei_spec.specs.Value.{Value, Word, Long}
use Rattle.ei_spec.specs.Reading.{Fault, InvalidOpcode, InvalidId, MessageLength, Unread, all_at}
use Rattle.ei_spec.specs.Rows.{Row, row_at}
use Rattle.ei_spec.specs.Table.{table}
use Rattle.ei_spec.specs.Interface.{short_of}
use Rattle.ei_spec.specs.Message.{Raw, size}
use Rattle.ei_session.specs.Setup.{Setup}
use Rattle.ei_session.specs.Arguments.{whole, row_args, request_args, body_of}
use Rattle.ei_session.specs.Asked.{asked, asks, first}
use Rattle.ei_session.specs.Handshake.{all_settled}
use Rattle.ei_input.specs.declared.input_event.InputEvent.TheVariants as input_event
use Rattle.ei_input.specs.declared.input_event.InputEvent.{InputEvent}
use Rattle.ei_session.specs.Inputs.{is_of_device}
use Rattle.ei_session.specs.Meaning.{Meaning, Asks, Greeting, Finish, ContextType, Name, InterfaceVersion, Sync, Disconnect, Pong, SeatRelease, Bind}
use Rattle.ei_session.specs.Meaning.{RequestDevice, DeviceRelease, Start, Stop, Frame, Ready, Release, Input, meaning}
use Rattle.ei_session.specs.Devices.{asked_mask}
use Rattle.ei_session.specs.Objects.{Entry, object}
use Rattle.ei_session.specs.Touches.{of_device, input}
use Rattle.ei_session.specs.Refusals.{Refusal, Parse, Arguments, announced_by, may_give, bad_id, left_over, came, bad_handshake, bad_sync, bad_mask}
use Rattle.ei_session.specs.Refusals.{bad_capabilities, bad_touch, bad_letters, unfit_text, bad_text, refused_by, refused_row, refusal}
use Rattle.ei_session.specs.ByMeaning.{input_in, callback_in, input_refusal, refusal_for}
use Rattle.ei_session.proofs.Choices.{none_some, some_is}
use Rattle.ei_session.proofs.AskedRows.{ReadsAs, reads_as}
use Rattle.ei_session.proofs.RowsMean.{at_row}
use Rattle.ei_session.proofs.ReadsMean.{means_row, means_something}
use Rattle.ei_session.proofs.RefusalLaws.{refused_known}
use Rattle.ei_session.proofs.DeviceInterfaces.{no_input, input_at, input_of_device, announces_nothing}
use Rattle.ei_session.proofs.ItemMeans.{input_by, bare}

-- the tests that are left of a message that reads
abbrev tests_left : Setup → List Raw → Raw → KnownInterface → ℕ → Option ℕ → List (Option Refusal)
tests_left setup before m k version announced =
    bad_id before announced ∷ bad_handshake before m k ∷ bad_sync m k ∷ bad_capabilities setup.capabilities m k ∷ bad_touch before version (input before m) ∷ bad_text m k ∷ []

-- ---- choices

skip_second : (o : Option Refusal) (rest : List (Option Refusal)) → first (o ∷ None ∷ rest) ≡ first (o ∷ rest)
skip_second None rest = refl
skip_second (Some e) rest = refl

only_fourth : (o : Option Refusal) → first (None ∷ None ∷ None ∷ o ∷ None ∷ None ∷ []) ≡ o
only_fourth None = refl
only_fourth (Some e) = refl

only_fifth : (o : Option Refusal) → first (None ∷ None ∷ None ∷ None ∷ o ∷ None ∷ []) ≡ o
only_fifth None = refl
only_fifth (Some e) = refl

only_sixth : (o : Option Refusal) → first (None ∷ None ∷ None ∷ None ∷ None ∷ o ∷ []) ≡ o
only_sixth None = refl
only_sixth (Some e) = refl

unfinished : (b : Bool) (e : Refusal) → first (None ∷ cond (true && not b) (Some e) None ∷ None ∷ None ∷ None ∷ None ∷ []) ≡ cond b None (Some e)
unfinished true e = refl
unfinished false e = refl

twice : (b : Bool) (e : Refusal) → first (None ∷ cond b (Some e) None ∷ None ∷ None ∷ None ∷ None ∷ []) ≡ cond b (Some e) None
twice true e = refl
twice false e = refl

first_twice : (b : Bool) (e : Refusal) → first (None ∷ cond (b || false) (Some e) None ∷ None ∷ None ∷ None ∷ None ∷ []) ≡ cond b (Some e) None
first_twice true e = refl
first_twice false e = refl

synced_so : (a b : Bool) (d e : Refusal) → first (cond a None (Some d) ∷ None ∷ cond b None (Some e) ∷ None ∷ None ∷ None ∷ []) ≡ cond a (cond b None (Some e)) (Some d)
synced_so true true d e = refl
synced_so true false d e = refl
synced_so false b d e = refl

-- an input is refused as a touch, or as a text
fit : (before : List Raw) (version : ℕ) (device : Option ℕ) (i : InputEvent) → first (None ∷ None ∷ None ∷ None ∷ bad_touch before version (of_device device (Some i)) ∷ unfit_text (Some i) ∷ []) ≡ input_refusal before version device i
fit before version None (input_event.TextUtf8 letters) = only_sixth (bad_letters (Some letters))
fit before version (Some d) (input_event.TextUtf8 letters) = only_sixth (bad_letters (Some letters))
fit before version device i = only_fifth (bad_touch before version (of_device device (Some i)))

-- of a request to an interface of a device, no test but these is left
left_of_interface : (setup : Setup) (before : List Raw) (m : Raw) (version : ℕ) (announced : Option ℕ) (k : KnownInterface) → is_of_device k ≡ true →
    tests_left setup before m k version announced ≡ bad_id before announced ∷ None ∷ None ∷ None ∷ bad_touch before version (input before m) ∷ bad_text m k ∷ []
left_of_interface setup before m version announced known.Handshake d = absurd cc
left_of_interface setup before m version announced known.Connection d = absurd cc
left_of_interface setup before m version announced known.Seat d = absurd cc
left_of_interface setup before m version announced k d = refl

-- ---- by rows

refusal_row : (setup : Setup) (before : List Raw) (m : Raw) (version : ℕ) (device : Option ℕ) (announced : Option ℕ) (k : KnownInterface) (n : ℕ) (values : List Value) (x : Meaning) →
    Asks k n values x → m.opcode ≡ n → request_args k m ≡ Some values → announced ≡ callback_in (Some x) → input before m ≡ of_device device (input_in (Some x)) →
    first (tests_left setup before m k version announced) ≡ refusal_for setup before (record { interface = k; version = version; device = device }) x
unfolding asks asked asked_mask row_args
refusal_row setup before m v dv new k n values w (Greeting version) o a p i = rw (p, i ∙ bare dv, o) refl
refusal_row setup before m v dv new k n values w Finish o a p i = rw (p, i ∙ bare dv, o, at_row known.Handshake m 1 _ o a) (unfinished (all_settled before) _)
refusal_row setup before m v dv new k n values w (ContextType context) o a p i = rw (p, i ∙ bare dv, o, at_row known.Handshake m 2 _ o a) (twice (came (codes "context_type") before) _)
refusal_row setup before m v dv new k n values w (Name name) o a p i = rw (p, i ∙ bare dv, o, at_row known.Handshake m 3 _ o a) (first_twice (came (codes "name") before) _)
refusal_row setup before m v dv new k n values w (InterfaceVersion name version) o a p i = rw (p, i ∙ bare dv, o) refl
refusal_row setup before m v dv new k n values w (Sync callback version) o a p i = rw (p, i ∙ bare dv, o, at_row known.Connection m 0 _ o a) (synced_so (may_give before callback) (eqb version 1) _ _)
refusal_row setup before m v dv new k n values w Disconnect o a p i = rw (p, i ∙ bare dv, o) refl
refusal_row setup before m v dv new k n values w (Pong callback_data) o a p i = rw (p, i ∙ bare dv) refl
refusal_row setup before m v dv new k n values w SeatRelease o a p i = rw (p, i ∙ bare dv, o) refl
refusal_row setup before m v dv new k n values w (Bind mask) o a p i = rw (p, i ∙ bare dv, o, at_row known.Seat m 1 _ o a) (only_fourth (bad_mask setup.capabilities (Some mask)))
refusal_row setup before m v dv new k n values w (RequestDevice mask) o a p i = rw (p, i ∙ bare dv, o, at_row known.Seat m 2 _ o a) (only_fourth (bad_mask setup.capabilities (Some mask)))
refusal_row setup before m v dv new k n values w DeviceRelease o a p i = rw (p, i ∙ bare dv) refl
refusal_row setup before m v dv new k n values w (Start last_serial sequence) o a p i = rw (p, i ∙ bare dv) refl
refusal_row setup before m v dv new k n values w (Stop last_serial) o a p i = rw (p, i ∙ bare dv) refl
refusal_row setup before m v dv new k n values w (Frame last_serial time) o a p i = rw (p, i ∙ bare dv) refl
refusal_row setup before m v dv new k n values w Ready o a p i = rw (p, i ∙ bare dv) refl
refusal_row setup before m v dv new k n values w (Release j d) o a p i =
    ap first (left_of_interface setup before m v new j d) ∙ rw (p, i ∙ bare dv, no_input m o j) refl
refusal_row setup before m v dv new k n values w (Input j l vs x h) o a p i =
    ap first (left_of_interface setup before m v new j (input_of_device j l vs x h)) ∙ rw (p, i, input_at j m l vs o a ∙ h) (fit before v dv x)

announced_row : (k : KnownInterface) (n : ℕ) (values : List Value) (x : Meaning) (row : Row) → Asks k n values x → row_at n (table false k) ≡ Some row → announced_by row.announces values row ≡ callback_in (Some x)
announced_row k n values w row (Sync callback version) h = ap (λ (r : Row). announced_by r.announces (Long callback ∷ Word version ∷ []) r) (sym (some_is _ row h))
announced_row k n values w row (Release j d) h = announces_nothing j 0 row [] d h
announced_row k n values w row (Input j l vs x i) h = announces_nothing j l row vs (input_of_device j l vs x i) h
announced_row k n values w row x h = ap (λ (r : Row). announced_by r.announces values r) (sym (some_is _ row h))

-- of a message that reads, the tests of what the state doesn't allow are left
read_tests : (setup : Setup) (before : List Raw) (m : Raw) (e : Entry) (values : List Value) (r : ReadsAs e.interface m values) → object before m.id ≡ Some e →
    refusal setup before m ≡ first (tests_left setup before m e.interface e.version (announced_by r.row.announces values r.row))
read_tests setup before m e values r there = refused_known setup before m e there ∙ rw (r.is_row, r.reads, r.nothing_left) (skip_second (bad_id before (announced_by r.row.announces values r.row)) _)

pub refusal_asked : (setup : Setup) (before : List Raw) (m : Raw) (e : Entry) (x : Meaning) → object before m.id ≡ Some e → meaning e.interface m ≡ Some x → refusal setup before m ≡ refusal_for setup before e x
refusal_asked setup before m e x there h =
    let w = means_row e.interface m x h in
    let r = reads_as e.interface m w.0 w.1.0 in
    let new : Option ℕ = announced_by r.row.announces w.0 r.row in
    read_tests setup before m e w.0 r there
    ∙ refusal_row setup before m e.version e.device new e.interface m.opcode w.0 x w.1.1 refl w.1.0 (announced_row e.interface m.opcode w.0 x r.row w.1.1 r.is_row)
    (input_by before m e there ∙ ap (λ (o : Option Meaning). of_device e.device (input_in o)) h)

-- ---- what doesn't read

-- it is refused for what its bytes are
abbrev pub IsUnread : Option Refusal → Type 0
IsUnread o = (fault : Fault) × (o ≡ Some (Parse fault))

left_unread : (before : List Raw) (m : Raw) (new : Option ℕ) (rest : List (Option Refusal)) (x : List Value × Unread) → eqb (length x.1.bytes) 0 ≡ false → IsUnread (first (bad_id before new ∷ left_over m (Ok x) ∷ rest))
left_unread before m None rest x e = (MessageLength (size m + length x.1.bytes) (size m), rw e refl)
left_unread before m (Some id) rest x e = by (may_give before id) refl
  where
    by : (b : Bool) → may_give before id ≡ b → IsUnread (first (bad_id before (Some id) ∷ left_over m (Ok x) ∷ rest))
    by true t = (MessageLength (size m + length x.1.bytes) (size m), rw (t, e) refl)
    by false t = (InvalidId id, rw t refl)

some_left : (x : List Value × Unread) → whole (Ok x) ≡ None → eqb (length x.1.bytes) 0 ≡ false
unfolding whole
some_left x h = by (eqb (length x.1.bytes) 0) refl
  where
    by : (b : Bool) → eqb (length x.1.bytes) 0 ≡ b → eqb (length x.1.bytes) 0 ≡ false
    by true t = absurd (none_some x.0 (sym h ∙ rw (whole, t) refl))
    by false t = t

unread_args : (setup : Setup) (before : List Raw) (m : Raw) (e : Entry) (row : Row) (r : Arguments) → whole r ≡ None → IsUnread (refused_by setup before m e (Some row) r)
unread_args setup before m e row (Err stop) h = (stop.0, refl)
unread_args setup before m e row (Ok x) h = left_unread before m (announced_by row.announces x.0 row) _ x (some_left x h)

unread_row : (setup : Setup) (before : List Raw) (m : Raw) (e : Entry) (o : Option Row) → row_args o m ≡ None → IsUnread (refused_row setup before m e o)
unfolding row_args
unread_row setup before m e None h = (InvalidOpcode (short_of e.interface) m.opcode, refl)
unread_row setup before m e (Some row) h = unread_args setup before m e row (all_at row.kinds (body_of m)) h

pub unread_refused : (setup : Setup) (before : List Raw) (m : Raw) (e : Entry) → object before m.id ≡ Some e → request_args e.interface m ≡ None → IsUnread (refusal setup before m)
unfolding request_args
unread_refused setup before m e there h =
    let u = unread_row setup before m e (row_at m.opcode (table false e.interface)) h in
    (u.0, refused_known setup before m e there ∙ u.1)

no_args_by : (k : KnownInterface) (m : Raw) (o : Option (List Value)) → request_args k m ≡ o → meaning k m ≡ None → request_args k m ≡ None
no_args_by k m None a h = a
no_args_by k m (Some values) a h =
    let some : is_some (meaning k m) ≡ true = means_something k m ∙ ap is_some a in
    let no : true ≡ false = sym some ∙ ap is_some h in absurd cc

pub nothing_refused : (setup : Setup) (before : List Raw) (m : Raw) (e : Entry) → object before m.id ≡ Some e → meaning e.interface m ≡ None → IsUnread (refusal setup before m)
nothing_refused setup before m e there h = unread_refused setup before m e there (no_args_by e.interface m (request_args e.interface m) refl h)

something_by : (setup : Setup) (before : List Raw) (m : Raw) (e : Entry) (o : Option Meaning) → object before m.id ≡ Some e → refusal setup before m ≡ None → meaning e.interface m ≡ o → (x : Meaning) × (meaning e.interface m ≡ Some x)
something_by setup before m e None there r h = let u = nothing_refused setup before m e there h in absurd (none_some (Parse u.0) (sym r ∙ u.1))
something_by setup before m e (Some x) there r h = (x, h)

-- what isn't refused asks something
pub unrefused_asks : (setup : Setup) (before : List Raw) (m : Raw) (e : Entry) → object before m.id ≡ Some e → refusal setup before m ≡ None → (x : Meaning) × (meaning e.interface m ≡ Some x)
unrefused_asks setup before m e there r = something_by setup before m e (meaning e.interface m) there r refl
