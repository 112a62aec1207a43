-- What answers a request to what is there, by what it asks; and what comes and goes with it.
use Rattle.std.proofs.Common.{◌≡◌, ◌≢◌, ℕ, ◌+◌, Bool, true, false, cond, eqb, List, [], ◌∷◌, length, Option, Some, None, refl, sym, ap, ◌∙◌, arith}
use Rattle.std.specs.Prelude.{is_some}
use Rattle.std.proofs.lemmas.List.{length-append}
use Rattle.std.proofs.lemmas.Bool.Decides.{nat_tests}
use Rattle.ei_spec.specs.declared.interface.KnownInterface.{KnownInterface}
use Rattle.ei_spec.specs.declared.interface.KnownInterface.TheVariants as known
use Rattle.ei_spec.specs.Value.{Value}
use Rattle.ei_spec.specs.Message.{Raw}
use Rattle.ei_session.specs.Setup.{Setup, connection_id, seat_id}
use Rattle.ei_session.specs.Handshake.{connected}
use Rattle.ei_session.specs.Meaning.{Meaning, Syncs, ReleasesSeat, Binds, RequestsDevice, Closes, Releases, Asks, Greeting, Sync, Bind, RequestDevice, Release, meaning}
use Rattle.ei_session.specs.Inputs.{is_of_device}
use Rattle.ei_session.specs.Devices.{seat_is_open, asked_mask, not_empty, made, exhausts}
use Rattle.ei_session.specs.Objects.{Entry, introduced, is_release, object, interfaces_left, going, gone}
use Rattle.ei_session.specs.Serial.{steps_of, steps}
use Rattle.ei_session.specs.Refusals.{synced}
use Rattle.ei_session.specs.Events.{reply_by, reply}
use Rattle.ei_session.specs.ByMeaning.{releases, mask_in, callback_in}
use Rattle.ei_session.specs.Kept.{home}
use Rattle.ei_session.specs.AnsweredByMeaning.{gone_for, steps_for, device_reply, reply_for}
use Rattle.ei_session.proofs.Choices.{some_is, not_both}
use Rattle.ei_session.proofs.ReadsMean.{means_row}
use Rattle.ei_session.proofs.AskedMeans.{release_asked, mask_asked, callback_asked}
use Rattle.ei_session.proofs.ObjectLaws.{object_is_introduced, makes_nothing}
use Rattle.ei_session.proofs.ObjectShape.{object_seat, seat_was}
use Rattle.ei_session.proofs.FirstObjects.{the_connection, object_connection}
use Rattle.ei_session.proofs.GoneLaws.{no_finish_again}
use Rattle.ei_session.proofs.ReplyLaws.{not_synced}
use Rattle.ei_session.proofs.Placed.{object_placed}

-- ---- what goes

going_of_interface : (past : List Raw) (id : ℕ) (k : KnownInterface) → is_of_device k ≡ true → going past id k ≡ id ∷ []
going_of_interface past id known.Device d = absurd cc
going_of_interface past id k d = refl

gone_row : (past : List Raw) (id : ℕ) (k : KnownInterface) (n : ℕ) (values : List Value) (x : Meaning) → Asks k n values x → cond (releases (Some x)) (going past id k) [] ≡ gone_for past id (Some x)
gone_row past id k n values w (Greeting version) = refl
gone_row past id k n values w (Release j d) = going_of_interface past id j d
gone_row past id k n values w x = refl

gone_by : (past : List Raw) (id : ℕ) (k : KnownInterface) (m : Raw) (o : Option Meaning) → meaning k m ≡ o → cond (releases o) (going past id k) [] ≡ gone_for past id o
gone_by past id k m None h = refl
gone_by past id k m (Some x) h = let w = means_row k m x h in gone_row past id k m.opcode w.0 x w.1.1

pub gone_asked : (past : List Raw) (m : Raw) (e : Entry) → object past m.id ≡ Some e → gone past m ≡ gone_for past m.id (meaning e.interface m)
unfolding gone is_release
gone_asked past m e k = rw (k, gone, release_asked e.interface m) (gone_by past m.id e.interface m (meaning e.interface m) refl)

-- ---- which device is made

abbrev is_seat : KnownInterface → Bool
is_seat known.Seat = true
is_seat k = false

seat_is : (k : KnownInterface) → is_seat k ≡ true → k ≡ known.Seat
seat_is known.Seat h = refl
seat_is k h = absurd cc

no_mask_row : (k : KnownInterface) (n : ℕ) (values : List Value) (x : Meaning) → Asks k n values x → is_seat k ≡ false → mask_in (Some x) ≡ None
no_mask_row k n values w (Bind mask) h = absurd cc
no_mask_row k n values w (RequestDevice mask) h = absurd cc
no_mask_row k n values w x h = refl

no_mask : (k : KnownInterface) (m : Raw) (o : Option Meaning) → is_seat k ≡ false → meaning k m ≡ o → mask_in o ≡ None
no_mask k m None s h = refl
no_mask k m (Some x) s h = let w = means_row k m x h in no_mask_row k m.opcode w.0 x w.1.1 s

seat_at : (past : List Raw) (m : Raw) (e : Entry) → object past m.id ≡ Some e → e.interface ≡ known.Seat → m.id ≡ seat_id
seat_at past m e k i =
    let p = object_placed past m.id e k in
    let h : home known.Seat ≡ Some m.id = ap home (sym i) ∙ p.at_home (rw i refl) in sym (some_is seat_id m.id h)

made_open : (past : List Raw) (m : Raw) → seat_is_open past ≡ true → m.id ≡ seat_id → made past m ≡ not_empty (asked_mask m)
unfolding made
made_open past m o at = let here : eqb m.id seat_id ≡ true = grind (arith, nat_tests, at) in rw (o, here, made) refl

made_by_seat : (past : List Raw) (m : Raw) (e : Entry) → object past m.id ≡ Some e → e.interface ≡ known.Seat → made past m ≡ not_empty (mask_in (meaning e.interface m))
made_by_seat past m e k i =
    let at = seat_at past m e k i in
    let o : seat_is_open past ≡ true = sym (object_seat past) ∙ ap (λ (n : ℕ). is_some (object past n)) (sym at) ∙ ap is_some k in
    made_open past m o at ∙ ap not_empty (mask_asked m) ∙ ap (λ (x : KnownInterface). not_empty (mask_in (meaning x m))) (sym i)

not_the_seat : (past : List Raw) (m : Raw) (e : Entry) → connected past ≡ true → object past m.id ≡ Some e → is_seat e.interface ≡ false → m.id ≢ seat_id
not_the_seat past m e on k s at =
    let was = seat_was past on in
    let same : e ≡ was.entry = some_is e was.entry (sym (object_is_introduced past m.id e k) ∙ ap (λ (n : ℕ). introduced past n) at ∙ was.is) in
    let kind : e.interface ≡ known.Seat = ap (λ (x : Entry). x.interface) same ∙ was.kind in
    not_both (is_seat e.interface) (ap is_seat kind) s

made_at : (past : List Raw) (m : Raw) (e : Entry) (b : Bool) → connected past ≡ true → object past m.id ≡ Some e → is_seat e.interface ≡ b → made past m ≡ not_empty (mask_in (meaning e.interface m))
made_at past m e true on k s = made_by_seat past m e k (seat_is e.interface s)
made_at past m e false on k s = makes_nothing past m (not_the_seat past m e on k s) ∙ ap not_empty (sym (no_mask e.interface m (meaning e.interface m) s refl))

pub made_asked : (past : List Raw) (m : Raw) (e : Entry) → connected past ≡ true → object past m.id ≡ Some e → made past m ≡ not_empty (mask_in (meaning e.interface m))
made_asked past m e on k = made_at past m e (is_seat e.interface) on k refl

-- ---- which callback is announced

abbrev pub is_connection : KnownInterface → Bool
is_connection known.Connection = true
is_connection k = false

pub connection_is : (k : KnownInterface) → is_connection k ≡ true → k ≡ known.Connection
connection_is known.Connection h = refl
connection_is k h = absurd cc

no_callback_row : (k : KnownInterface) (n : ℕ) (values : List Value) (x : Meaning) → Asks k n values x → is_connection k ≡ false → callback_in (Some x) ≡ None
no_callback_row k n values w (Sync callback version) h = absurd cc
no_callback_row k n values w x h = refl

no_callback : (k : KnownInterface) (m : Raw) (o : Option Meaning) → is_connection k ≡ false → meaning k m ≡ o → callback_in o ≡ None
no_callback k m None s h = refl
no_callback k m (Some x) s h = let w = means_row k m x h in no_callback_row k m.opcode w.0 x w.1.1 s

pub connection_at : (past : List Raw) (m : Raw) (e : Entry) → object past m.id ≡ Some e → e.interface ≡ known.Connection → m.id ≡ connection_id
connection_at past m e k i =
    let p = object_placed past m.id e k in
    let h : home known.Connection ≡ Some m.id = ap home (sym i) ∙ p.at_home (rw i refl) in sym (some_is connection_id m.id h)

pub not_the_connection : (past : List Raw) (m : Raw) (e : Entry) → connected past ≡ true → object past m.id ≡ Some e → is_connection e.interface ≡ false → m.id ≢ connection_id
not_the_connection past m e on k s at =
    let there : object past m.id ≡ Some the_connection = ap (object past) at ∙ object_connection past ∙ rw on refl in
    let same : e ≡ the_connection = some_is e the_connection (sym k ∙ there) in
    not_both (is_connection e.interface) (ap (λ (x : Entry). is_connection x.interface) same) s

synced_on : (past : List Raw) (m : Raw) → connected past ≡ true → m.id ≡ connection_id → synced past m ≡ callback_in (meaning known.Connection m)
unfolding synced
synced_on past m on at = let here : eqb m.id connection_id ≡ true = grind (arith, nat_tests, at) in rw (on, here, synced) (callback_asked m)

synced_at : (past : List Raw) (m : Raw) (e : Entry) (b : Bool) → connected past ≡ true → object past m.id ≡ Some e → is_connection e.interface ≡ b → synced past m ≡ callback_in (meaning e.interface m)
synced_at past m e true on k s =
    let i = connection_is e.interface s in
    synced_on past m on (connection_at past m e k i) ∙ ap (λ (x : KnownInterface). callback_in (meaning x m)) (sym i)
synced_at past m e false on k s = not_synced past m (not_the_connection past m e on k s) ∙ sym (no_callback e.interface m (meaning e.interface m) s refl)

pub synced_asked : (past : List Raw) (m : Raw) (e : Entry) → connected past ≡ true → object past m.id ≡ Some e → synced past m ≡ callback_in (meaning e.interface m)
synced_asked past m e on k = synced_at past m e (is_connection e.interface) on k refl

-- ---- serials

steps_by : (past : List Raw) (m : Raw) (o : Option Meaning) → steps_of (exhausts past m) (not_empty (mask_in o)) + length (gone_for past m.id o) ≡ steps_for past m o
steps_by past m None = refl
steps_by past m (Some ReleasesSeat) = refl
steps_by past m (Some (Binds mask)) = omega arith
steps_by past m (Some (RequestsDevice mask)) = omega arith
steps_by past m (Some Closes) = let l = length-append (interfaces_left past m.id) (m.id ∷ []) in omega (arith, l)
steps_by past m (Some Releases) = refl
steps_by past m (Some x) = refl

pub steps_asked : (past : List Raw) (m : Raw) (e : Entry) → connected past ≡ true → object past m.id ≡ Some e → steps past m ≡ steps_for past m (meaning e.interface m)
unfolding steps
steps_asked past m e on k = rw (made_asked past m e on k, gone_asked past m e k, steps) (steps_by past m (meaning e.interface m))

-- ---- answers

reply_mask : (setup : Setup) (past : List Raw) (m : Raw) (e : Entry) (mask : ℕ) (b : Bool) → eqb mask 0 ≡ b → synced past m ≡ None → gone past m ≡ [] → reply_by setup past m (cond b None (Some mask)) (Some e) ≡ device_reply setup past m (cond b None (Some mask))
reply_mask setup past m e mask true t s g = rw (s, g) refl
reply_mask setup past m e mask false t s g = refl

reply_as : (setup : Setup) (past : List Raw) (m : Raw) (e : Entry) (o : Option Meaning) → synced past m ≡ callback_in o → gone past m ≡ gone_for past m.id o → reply_by setup past m (not_empty (mask_in o)) (Some e) ≡ reply_for setup past m o
reply_as setup past m e None s g = rw (s, g) refl
reply_as setup past m e (Some (Binds mask)) s g = reply_mask setup past m e mask (eqb mask 0) refl s g
reply_as setup past m e (Some (RequestsDevice mask)) s g = reply_mask setup past m e mask (eqb mask 0) refl s g
reply_as setup past m e (Some (Syncs callback version)) s g = rw (s, g) refl
reply_as setup past m e (Some ReleasesSeat) s g = rw (s, g) refl
reply_as setup past m e (Some Closes) s g = rw (s, g) refl
reply_as setup past m e (Some Releases) s g = rw (s, g) refl
reply_as setup past m e (Some x) s g = rw (s, g) refl

pub reply_asked : (setup : Setup) (past : List Raw) (m : Raw) (e : Entry) → connected past ≡ true → object past m.id ≡ Some e → reply setup past m ≡ reply_for setup past m (meaning e.interface m)
unfolding reply
reply_asked setup past m e on k =
    rw (no_finish_again past m on, reply, k, made_asked past m e on k) (reply_as setup past m e (meaning e.interface m) (synced_asked past m e on k) (gone_asked past m e k))
