-- The next device of what was given is the next of the messages.
use Rattle.std.proofs.Common.{◌≡◌, ℕ, ◌+◌, Bool, true, false, cond, eqb, List, [], ◌∷◌, Option, Some, None, refl, ap, sym, subst, ◌∙◌, arith}
use Rattle.std.specs.Prelude.{◌&&◌, is_some}
use Rattle.std.proofs.lemmas.Bool.{eqb-true}
use Rattle.ei_spec.specs.Message.{Raw}
use Rattle.ei_spec.specs.History.{each, total, joined}
use Rattle.ei_spec.specs.Groups.{Input as Waiting, Other, Plain as Given, grouped, gives}
use Rattle.ei_input.specs.declared.input_event.InputEvent.{InputEvent}
use Rattle.ei_session.specs.Setup.{Setup, seat_id}
use Rattle.ei_session.specs.Handshake.{connected}
use Rattle.ei_session.specs.Meaning.{Meaning, meaning, Shakes, Syncs, Disconnects, Pongs, ReleasesSeat, Binds, RequestsDevice, Closes, Starts, Stops, Frames, Readies, Releases, Inputs}
use Rattle.ei_session.specs.ByMeaning.{item_for}
use Rattle.ei_session.specs.Devices.{made, not_empty, ids_of, ids_given, next_id, seat_is_open}
use Rattle.ei_session.specs.Objects.{Entry, object}
use Rattle.ei_session.specs.Requests.{Request, Plain, Asking, DeviceClosed, DeviceStartEmulating, DeviceStopEmulating, Ready, item, is_heard, slot, framed}
use Rattle.ei_session.proofs.AllParts.{framed_more}
use Rattle.ei_session.proofs.BeforeTheFinish.{early_item}
use Rattle.ei_session.proofs.FirstObjects.{shut_makes_nothing}
use Rattle.ei_session.proofs.ItemLaws.{item_unknown}
use Rattle.ei_session.proofs.ItemMeans.{item_asked}
use Rattle.ei_session.proofs.ObjectLaws.{made_is}
use Rattle.ei_session.proofs.ObjectShape.{object_seat}
use Rattle.ei_record.specs.Replayable.{mask_of, takes_ids, next_device}
use Rattle.ei_record.proofs.Lists.{onto, onto_append}
use Rattle.ei_record.proofs.Masks.{item_mask, mask_made}
use Rattle.ei_record.proofs.Ids.{ids_in, total_onto, gives_ids}

-- ---- an item of a device asks for none

abbrev pub Asks : Plain → Type 0
Asks y = mask_of (Given y) ≡ None

heard_quiet : (past : List Raw) (e : ℕ) (x : InputEvent) (b : Bool) (d : ℕ) (y : Plain) → cond b (Some (Waiting e x)) None ≡ Some (Other d y) → Asks y
heard_quiet past e x true d y h = absurd cc
heard_quiet past e x false d y h = absurd cc

other_for : (past : List Raw) (id : ℕ) (device : Option ℕ) (x : Option Meaning) (d : ℕ) (y : Plain) → item_for past id device x ≡ Some (Other d y) → Asks y
other_for past id device None d y h = absurd cc
other_for past id device (Some (Binds mask)) d y h = absurd cc
other_for past id device (Some (RequestsDevice mask)) d y h = absurd cc
other_for past id device (Some (Shakes x)) d y h = absurd cc
other_for past id device (Some (Syncs x z)) d y h = absurd cc
other_for past id device (Some Disconnects) d y h = absurd cc
other_for past id device (Some (Pongs x)) d y h = absurd cc
other_for past id device (Some ReleasesSeat) d y h = absurd cc
other_for past id None (Some Closes) d y h = absurd cc
other_for past id (Some e) (Some Closes) d y h = let same : DeviceClosed e ≡ y = cc in subst Asks same refl
other_for past id None (Some (Starts x z)) d y h = absurd cc
other_for past id (Some e) (Some (Starts x z)) d y h = let same : DeviceStartEmulating e x z ≡ y = cc in subst Asks same refl
other_for past id None (Some (Stops x)) d y h = absurd cc
other_for past id (Some e) (Some (Stops x)) d y h = let same : DeviceStopEmulating e x ≡ y = cc in subst Asks same refl
other_for past id None (Some (Frames x z)) d y h = absurd cc
other_for past id (Some e) (Some (Frames x z)) d y h = absurd cc
other_for past id None (Some Readies) d y h = absurd cc
other_for past id (Some e) (Some Readies) d y h = let same : Ready e ≡ y = cc in subst Asks same refl
other_for past id device (Some Releases) d y h = absurd cc
other_for past id None (Some (Inputs x)) d y h = absurd cc
other_for past id (Some e) (Some (Inputs x)) d y h = heard_quiet past e x (is_heard past e x) d y h

-- ---- by what the message's target is

both : (a b : Bool) → (a && b) ≡ true → (a ≡ true) × (b ≡ true)
both true true h = (refl, refl)
both true false h = absurd cc
both false b h = absurd cc

none_made : (past : List Raw) (m : Raw) (o : Option ℕ) → object past m.id ≡ None → made past m ≡ o → made past m ≡ None
none_made past m None gone e = e
none_made past m (Some mask) gone e =
    let h = both (seat_is_open past) (eqb m.id seat_id) (made_is past m mask e).0 in
    let at : m.id ≡ seat_id = eqb-true m.id seat_id h.1 in
    let off : seat_is_open past ≡ false = sym (object_seat past) ∙ ap (λ (n : ℕ). is_some (object past n)) (sym at) ∙ ap is_some gone in
    let g : true ≡ false = sym h.0 ∙ off in absurd cc

pub record Plainly (past : List Raw) (m : Raw) : Type 0 where
  pub same : not_empty (item_mask (item past m)) ≡ made past m
  pub quiet : (d : ℕ) (y : Plain) → item past m ≡ Some (Other d y) → Asks y

no_item : (past : List Raw) (m : Raw) → item past m ≡ None → made past m ≡ None → Plainly past m
no_item past m e f = record {
  same = ap (λ (i : Option Asking). not_empty (item_mask i)) e ∙ sym f;
  quiet = λ d y h. let g : None ≡ Some (Other d y) = sym e ∙ h in absurd cc;
}

by_object : (past : List Raw) (m : Raw) (o : Option Entry) → connected past ≡ true → object past m.id ≡ o → Plainly past m
by_object past m None on e = no_item past m (item_unknown past m e) (none_made past m (made past m) e refl)
by_object past m (Some x) on e = record {
  same = mask_made past m x on e;
  quiet = λ d y h. other_for past m.id x.device (meaning x.interface m) d y (sym (item_asked past m x e) ∙ h);
}

pub by_connection : (past : List Raw) (m : Raw) (b : Bool) → connected past ≡ b → Plainly past m
by_connection past m true on = by_object past m (object past m.id) on refl
by_connection past m false off = no_item past m (early_item past m off) (shut_makes_nothing past m off)

-- ---- all messages

nothing_framed : (setup : Setup) (readings : List ℕ) → framed setup readings [] ≡ []
unfolding framed each grouped joined
nothing_framed setup readings = refl

none_given : total ids_given [] ≡ total takes_ids []
unfolding total
none_given = refl

one_given : (before : List Raw) (m : Raw) → total ids_given (m ∷ before) ≡ total ids_given before + ids_of (made before m)
unfolding total ids_given
one_given before m = refl

slot_is : (setup : Setup) (before : List Raw) (m : Raw) → slot setup before m ≡ record { item = item before m; serial = (slot setup before m).serial }
unfolding slot
slot_is setup before m = refl

-- the items give as many ids as the messages
pub same_total : (setup : Setup) (readings : List ℕ) (past : List Raw) → total takes_ids (onto (framed setup readings past) []) ≡ total ids_given past
same_total setup readings [] = ap (λ (l : List Request). total takes_ids (onto l [])) (nothing_framed setup readings) ∙ sym none_given
same_total setup readings (m ∷ before) =
    let p = by_connection before m (connected before) refl in
    let more = gives readings (each (slot setup) before) (slot setup before m) in
    let ids : ids_in more ≡ ids_of (made before m) =
    ap (λ s. ids_in (gives readings (each (slot setup) before) s)) (slot_is setup before m)
    ∙ gives_ids readings (each (slot setup) before) (slot setup before m).serial (item before m) p.quiet
    ∙ ap ids_of p.same in
    let whole : onto (framed setup readings (m ∷ before)) [] ≡ onto more (onto (framed setup readings before) []) =
    ap (λ (l : List Request). onto l []) (framed_more setup readings before m) ∙ onto_append (framed setup readings before) more [] in
    omega (arith, ap (total takes_ids) whole, total_onto more (onto (framed setup readings before) []), ids, same_total setup readings before, one_given before m)

pub next_same : (setup : Setup) (readings : List ℕ) (past : List Raw) → next_device (onto (framed setup readings past) []) ≡ next_id past
unfolding next_device next_id
next_same setup readings past = ap (λ (n : ℕ). seat_id + 1 + n) (same_total setup readings past)
