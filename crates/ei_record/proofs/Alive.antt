-- A device whose target is there wasn't closed, by what was given.
use Rattle.std.proofs.Common.{◌≡◌, ℕ, Bool, true, false, cond, List, [], ◌∷◌, Option, Some, None, refl, ap, sym, subst, ◌∙◌, arith}
use Rattle.std.proofs.lemmas.Bool.{eqb-true}
use Rattle.ei_spec.specs.declared.interface.KnownInterface.{KnownInterface}
use Rattle.ei_spec.specs.declared.interface.KnownInterface.TheVariants as known
use Rattle.ei_spec.specs.Value.{Value}
use Rattle.ei_spec.specs.Message.{Raw}
use Rattle.ei_spec.specs.History.{each, occurs}
use Rattle.ei_spec.specs.Groups.{Timed, Framed, Plain as Given, Input as Waiting, Frame, Other, Free}
use Rattle.ei_input.specs.declared.input_event.InputEvent.{InputEvent}
use Rattle.ei_session.specs.Setup.{Setup}
use Rattle.ei_session.specs.Meaning.{Meaning, meaning, Asks, DeviceRelease}
use Rattle.ei_session.specs.Meaning.{Shakes, Syncs, Disconnects, Pongs, ReleasesSeat, Binds, RequestsDevice, Closes, Starts, Stops, Frames, Readies, Releases, Inputs}
use Rattle.ei_session.specs.ByMeaning.{item_for, releases}
use Rattle.ei_session.specs.Objects.{Entry, is_release, object}
use Rattle.ei_session.specs.Requests.{Request, Plain, DeviceClosed, Asking, item, is_heard, slot}
use Rattle.ei_session.proofs.Choices.{none_some, some_is}
use Rattle.ei_session.proofs.AskedMeans.{release_asked}
use Rattle.ei_session.proofs.GoneLaws.{Dead, dead_more, gone_self, object_device}
use Rattle.ei_session.proofs.ItemLaws.{item_unknown}
use Rattle.ei_session.proofs.ItemMeans.{item_asked}
use Rattle.ei_session.proofs.KeptByRequests.{device_connected, stays_connected}
use Rattle.ei_session.proofs.ObjectShape.{next_id_more, object_below, object_owner}
use Rattle.ei_session.proofs.ReadsMean.{means_row}
use Rattle.ei_record.specs.Replayable.{closes_device, is_there}
use Rattle.ei_record.proofs.Lists.{onto}
use Rattle.ei_record.proofs.Parts.{back, plains, gives_same, back_none, back_more}
use Rattle.ei_record.proofs.MaskOf.{same_mask}
use Rattle.ei_record.proofs.Owned.{owned}

-- whether some item closed the device
abbrev closed : ℕ → List Request → Bool
closed d before = occurs (closes_device d) before

closed_input : (d : ℕ) (before : List Request) (e : ℕ) (x : InputEvent) (t : ℕ) → closed d (Timed e x t ∷ before) ≡ closed d before
unfolding occurs closes_device
closed_input d before e x t = refl

closed_frame : (d : ℕ) (before : List Request) (e s t : ℕ) → closed d (Framed e s t ∷ before) ≡ closed d before
unfolding occurs closes_device
closed_frame d before e s t = refl

abbrev if_so : Bool → Bool → Bool
if_so b c = elim b [ true ↦ true | false ↦ c ]

closed_plain : (d : ℕ) (y : Plain) (before : List Request) → closed d (Given y ∷ before) ≡ if_so (closes_device d before (Given y)) (closed d before)
unfolding occurs
closed_plain d y before = refl

same_closing : (d : ℕ) (y : Plain) (a b : List Request) → closes_device d a (Given y) ≡ closes_device d b (Given y)
unfolding closes_device
same_closing d (DeviceClosed e) a b = refl
same_closing d y a b = refl

closed_more : (d : ℕ) (y : Plain) (a b : List Request) → closed d a ≡ closed d b → closed d (Given y ∷ a) ≡ closed d (Given y ∷ b)
closed_more d y a b h =
    closed_plain d y a ∙ ap (λ (c : Bool). if_so c (closed d a)) (same_closing d y a b)
    ∙ ap (λ (c : Bool). if_so (closes_device d b (Given y)) c) h ∙ sym (closed_plain d y b)

-- ---- who closes a device, releases it

record ClosedBy (past : List Raw) (m : Raw) (d : ℕ) : Type 0 where
  entry : Entry
  there : object past m.id ≡ Some entry
  own : entry.device ≡ Some d
  closes : meaning entry.interface m ≡ Some Closes

-- an item closes the device
abbrev ClosesIt : ℕ → List Request → Option Asking → Type 0
ClosesIt d before (Some (Other e y)) = closes_device d before (Given y) ≡ true
ClosesIt d before (Some (Free y)) = closes_device d before (Given y) ≡ true
ClosesIt d before i = ⊥

heard_not : (d : ℕ) (before : List Request) (e : ℕ) (x : InputEvent) (b : Bool) → ClosesIt d before (cond b (Some (Waiting e x)) None) → ⊥
heard_not d before e x true h = h
heard_not d before e x false h = h

module _ (past : List Raw) (m : Raw) (d : ℕ) (before : List Request) (e : Entry) (there : object past m.id ≡ Some e) where
  closes_by : (device : Option ℕ) (x : Option Meaning) → e.device ≡ device → meaning e.interface m ≡ x → ClosesIt d before (item_for past m.id device x) → ClosedBy past m d
  unfolding closes_device
  closes_by (Some n) (Some Closes) own means h =
      record { entry = e; there = there; own = own ∙ ap (λ (k : ℕ). Some k) (eqb-true n d h); closes = means }
  closes_by (Some n) (Some (Inputs x)) own means h = absurd (heard_not d before n x (is_heard past n x) h)
  closes_by device None own means h = absurd h
  closes_by device (Some (Binds x)) own means h = absurd cc
  closes_by device (Some (RequestsDevice x)) own means h = absurd cc
  closes_by device (Some Disconnects) own means h = absurd cc
  closes_by (Some n) (Some (Starts x y)) own means h = absurd cc
  closes_by (Some n) (Some (Stops x)) own means h = absurd cc
  closes_by (Some n) (Some Readies) own means h = absurd cc
  closes_by (Some n) (Some (Frames x y)) own means h = absurd h
  closes_by device (Some (Shakes x)) own means h = absurd h
  closes_by device (Some (Syncs x y)) own means h = absurd h
  closes_by device (Some (Pongs x)) own means h = absurd h
  closes_by device (Some ReleasesSeat) own means h = absurd h
  closes_by device (Some Releases) own means h = absurd h
  closes_by None (Some Closes) own means h = absurd h
  closes_by None (Some (Starts x y)) own means h = absurd h
  closes_by None (Some (Stops x)) own means h = absurd h
  closes_by None (Some (Frames x y)) own means h = absurd h
  closes_by None (Some Readies) own means h = absurd h
  closes_by None (Some (Inputs x)) own means h = absurd h

closes_at : (past : List Raw) (m : Raw) (d : ℕ) (before : List Request) (o : Option Entry) → object past m.id ≡ o → ClosesIt d before (item past m) → ClosedBy past m d
closes_at past m d before None gone h = absurd (subst (ClosesIt d before) (item_unknown past m gone) h)
closes_at past m d before (Some e) there h =
    closes_by past m d before e there e.device (meaning e.interface m) refl refl (subst (ClosesIt d before) (item_asked past m e there) h)

closes_row : (k : KnownInterface) (n : ℕ) (values : List Value) (x : Meaning) → Asks k n values x → x ≡ Closes → k ≡ known.Device
closes_row k n values x DeviceRelease e = refl
closes_row k n values x a e = absurd cc

now_dead : (past : List Raw) (m : Raw) (d : ℕ) → ClosedBy past m d → Dead (m ∷ past) d
unfolding is_release
now_dead past m d r =
    let w = means_row r.entry.interface m Closes r.closes in
    let kind = closes_row r.entry.interface m.opcode w.0 Closes w.1.1 refl in
    let self : m.id ≡ d = some_is m.id d (sym (object_device past m.id r.entry r.there kind) ∙ r.own) in
    let goes : is_release (Some r.entry) m ≡ true = release_asked r.entry.interface m ∙ ap releases r.closes in
    let on = device_connected past m.id r.entry d r.there r.own in
    record {
      on = stays_connected past m on;
      none = ap (object (m ∷ past)) (sym self) ∙ gone_self past m r.entry r.there goes;
      low = omega (arith, object_below past m.id r.entry d r.there r.own, next_id_more past m, self);
    }

-- ---- what was closed is gone

by_item : (past : List Raw) (m : Raw) (d : ℕ) (before : List Request) (i : Option Asking) → closed d (onto (plains i) before) ≡ true → (ClosesIt d before i → Dead (m ∷ past) d) → (closed d before ≡ true → Dead (m ∷ past) d) → Dead (m ∷ past) d
by_item past m d before None h new old = old h
by_item past m d before (Some (Waiting e x)) h new old = old h
by_item past m d before (Some (Frame e s t)) h new old = old h
by_item past m d before (Some (Other e y)) h new old = plain_case (closes_device d before (Given y)) refl (sym (closed_plain d y before) ∙ h)
  where
    plain_case : (b : Bool) → closes_device d before (Given y) ≡ b → if_so (closes_device d before (Given y)) (closed d before) ≡ true → Dead (m ∷ past) d
    plain_case true q g = new q
    plain_case false q g = old (sym (rw q refl) ∙ g)
by_item past m d before (Some (Free y)) h new old = plain_case (closes_device d before (Given y)) refl (sym (closed_plain d y before) ∙ h)
  where
    plain_case : (b : Bool) → closes_device d before (Given y) ≡ b → if_so (closes_device d before (Given y)) (closed d before) ≡ true → Dead (m ∷ past) d
    plain_case true q g = new q
    plain_case false q g = old (sym (rw q refl) ∙ g)

none_closed : (d : ℕ) → closed d [] ≡ true → ⊥
unfolding occurs
none_closed d h = absurd cc

closed_dead : (setup : Setup) (readings : List ℕ) (past : List Raw) (d : ℕ) → closed d (back setup readings past) ≡ true → Dead past d
closed_dead setup readings [] d h = absurd (none_closed d (ap (closed d) (sym (back_none setup readings)) ∙ h))
closed_dead setup readings (m ∷ past) d h =
    let before = back setup readings past in
    let whole = gives_same (closed d) (closed_input d) (closed_frame d) (closed_more d) readings (each (slot setup) past) (slot setup past m).serial (item past m) before in
    by_item past m d before (item past m) (sym whole ∙ ap (closed d) (sym (back_more setup readings past m)) ∙ h)
    (λ c. now_dead past m d (closes_at past m d before (object past m.id) refl c))
    (λ c. dead_more past m d (closed_dead setup readings past d c))

-- ---- whom a message reaches is there

false_or : (b : Bool) → (b ≡ true → ⊥) → b ≡ false
false_or true h = absurd (h refl)
false_or false h = refl

not_closed : (setup : Setup) (readings : List ℕ) (past : List Raw) (id : ℕ) (e : Entry) (d : ℕ) → object past id ≡ Some e → e.device ≡ Some d → closed d (back setup readings past) ≡ false
not_closed setup readings past id e d there own =
    let o = object_owner past id e d there own in
    false_or (closed d (back setup readings past)) (λ h. none_some o.entry (sym (closed_dead setup readings past d h).none ∙ o.is))

pub alive : (setup : Setup) (readings : List ℕ) (past : List Raw) (id : ℕ) (e : Entry) (d : ℕ) → object past id ≡ Some e → e.device ≡ Some d → is_there (back setup readings past) d ≡ true
unfolding is_there
alive setup readings past id e d there own =
    let o = owned past id e d there own in
    rw (not_closed setup readings past id e d there own, same_mask setup readings past d, o.made_so) refl
