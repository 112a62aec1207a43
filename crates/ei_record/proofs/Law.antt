-- What a server hands out can be played back.
use Rattle.std.proofs.Common.{◌≡◌, ℕ, Bool, true, false, cond, not, eqb, List, [], ◌∷◌, ◌++◌, Option, Some, None, refl, ap, sym, subst, ◌∙◌, arith}
use Rattle.std.specs.Prelude.{◌||◌, reverse, slice_index}
use Rattle.std.proofs.lemmas.List.{append-nil, reverse-append, reverse-reverse}
use Rattle.ei_spec.specs.Message.{Raw, IsBytes}
use Rattle.ei_spec.specs.History.{each, occurs, last_said}
use Rattle.ei_spec.specs.Groups.{Timed, Framed, Plain as Given, Input as Waiting, Frame, Other, Free, group, gives, with_frame, timed, frames_made}
use Rattle.ei_spec.specs.Stream.{Accepted, Stop, Waiting as Waits, Ended, HeaderLength, Refusal as RefusedStop, AreOpen, StopsSo}
use Rattle.ei_input.specs.declared.input_event.InputEvent.{InputEvent}
use Rattle.ei_spec.proofs.OneReading.{is_reading}
use Rattle.ei_session.specs.Setup.{Setup}
use Rattle.ei_session.specs.Handshake.{connected}
use Rattle.ei_session.specs.Meaning.{Meaning, meaning}
use Rattle.ei_session.specs.Meaning.{Shakes, Syncs, Disconnects, Pongs, ReleasesSeat, Binds, RequestsDevice, Closes, Starts, Stops, Frames, Readies, Releases, Inputs}
use Rattle.ei_session.specs.ByMeaning.{item_for, disconnects as means_end}
use Rattle.ei_session.specs.Objects.{Entry, object}
use Rattle.ei_session.specs.Refusals.{Refusal, refusal, judge, verdict, is_disconnect}
use Rattle.ei_session.specs.Requests.{Request, Plain, Asking, item, is_heard, slot, framed}
use Rattle.ei_session.specs.Served.{reading_of, accepted, AreUnrefused}
use Rattle.ei_session.proofs.AcceptedLaws.{accepted_so, ended_so, open_unrefused}
use Rattle.ei_session.proofs.BeforeTheFinish.{early_item}
use Rattle.ei_session.proofs.ItemLaws.{item_unknown}
use Rattle.ei_session.proofs.ItemMeans.{item_asked}
use Rattle.ei_session.proofs.JudgedMeans.{ends_asked}
use Rattle.ei_record.specs.Replayable.{disconnects, device_of, gives_mask, mask_before, closes_device, is_there, names_none, asks_badly, lacks, wrong_from, IsReplayable}
use Rattle.ei_record.proofs.Lists.{onto, ends_plainly, right_append, plainly_append, MayCome, plain_right, InputsCome, IsOpenFor, group_right, mask_input, there_input, over_input}
use Rattle.ei_record.proofs.Projects.{inputs_of, as_input, all_heard}
use Rattle.ei_record.proofs.Touching.{badly_project}
use Rattle.ei_record.proofs.Heard.{heard_back, turned_round}
use Rattle.ei_record.proofs.Ends.{over, gives_end, over_onto}
use Rattle.ei_record.proofs.Parts.{back, at, given_by, framed_one, back_more, back_none, nothing_framed, frame_same}
use Rattle.ei_record.proofs.MaskOf.{mask_made_of, same_mask}
use Rattle.ei_record.proofs.Suits.{AllSuit, all_suit}
use Rattle.ei_record.proofs.Comes.{IsTo, Comes, comes}
use Rattle.ei_record.proofs.Alive.{alive}

-- ---- the inputs of a group can come

-- these inputs, behind those before them
abbrev pushed : List InputEvent → List InputEvent → List InputEvent
pushed [] before = before
pushed (x ∷ xs) before = pushed xs (x ∷ before)

pushed_is : (xs before : List InputEvent) → pushed xs before ≡ reverse xs ++ before
pushed_is [] before = refl
pushed_is (x ∷ xs) before = pushed_is xs (x ∷ before) ∙ sym (ap (λ (l : List InputEvent). l ++ before) (reverse-append (x ∷ []) xs) ∙ append_assoc' (reverse xs) (x ∷ []) before)
  where
    append_assoc' : (a b c : List InputEvent) → (a ++ b) ++ c ≡ a ++ (b ++ c)
    append_assoc' [] b c = refl
    append_assoc' (y ∷ a) b c = ap (λ (l : List InputEvent). y ∷ l) (append_assoc' a b c)

suit_drop : (mask : Option ℕ) (xs before : List InputEvent) → AllSuit mask (pushed xs before) → AllSuit mask before
suit_drop mask [] before h = h
suit_drop mask (x ∷ xs) before h = (suit_drop mask xs (x ∷ before) h).3

mine : (d t : ℕ) (x : InputEvent) (before : List Request) → inputs_of d (Timed d x t ∷ before) ≡ x ∷ inputs_of d before
mine d t x before = let same : eqb d d ≡ true = same_self d in rw same refl
  where
    same_self : (n : ℕ) → eqb n n ≡ true
    same_self n = grind arith

come_by : (mask : Option ℕ) (d t : ℕ) (xs : List InputEvent) (before : List Request) → mask_before before d ≡ mask → AllSuit mask (pushed xs (inputs_of d before)) → InputsCome before d t xs
come_by mask d t [] before e h = tt
come_by mask d t (x ∷ xs) before e h =
    let s = suit_drop mask xs (x ∷ inputs_of d before) h in (
      ap (λ (o : Option ℕ). lacks o x) e ∙ s.0,
      badly_project before d x ∙ s.1,
      s.2,
      come_by mask d t xs (Timed d x t ∷ before) (mask_input before d x t d ∙ e) (subst (λ (l : List InputEvent). AllSuit mask (pushed xs l)) (sym (mine d t x before)) h),
    )

-- what was given, turned round
inputs_onto : (d : ℕ) (xs before : List Request) → inputs_of d (onto xs before) ≡ pushed (inputs_of d xs) (inputs_of d before)
inputs_onto d [] before = refl
inputs_onto d (x ∷ xs) before = inputs_onto d xs (x ∷ before) ∙ one (as_input d x) refl
  where
    one : (o : Option InputEvent) → as_input d x ≡ o → pushed (inputs_of d xs) (inputs_of d (x ∷ before)) ≡ pushed (inputs_of d (x ∷ xs)) (inputs_of d before)
    one None e = rw e refl
    one (Some i) e = rw e refl

all_back : (setup : Setup) (readings : List ℕ) (past : List Raw) (d : ℕ) → pushed (group d (each (slot setup) past)) (inputs_of d (back setup readings past)) ≡ heard_back d past
all_back setup readings past d =
    let xs = inputs_of d (framed setup readings past) in
    let ys = group d (each (slot setup) past) in
    ap (pushed ys) (inputs_onto d (framed setup readings past) [] ∙ pushed_is xs [] ∙ append-nil (reverse xs))
    ∙ pushed_is ys (reverse xs)
    ∙ sym (reverse-append xs ys)
    ∙ ap (λ (l : List InputEvent). reverse l) (all_heard setup readings d past ∙ turned_round d past)
    ∙ reverse-reverse (heard_back d past)

group_comes : (setup : Setup) (readings : List ℕ) (past : List Raw) (d t : ℕ) → AreUnrefused setup past → InputsCome (back setup readings past) d t (group d (each (slot setup) past))
group_comes setup readings past d t u =
    come_by (mask_made_of past d) d t (group d (each (slot setup) past)) (back setup readings past) (same_mask setup readings past d)
    (subst (AllSuit (mask_made_of past d)) (sym (all_back setup readings past d)) (all_suit setup past d u))

-- ---- nothing follows a disconnect

-- no item of the message ends the connection
record NoEnd (i : Option Asking) : Type 0 where
  quiet : (d : ℕ) (y : Plain) → i ≡ Some (Other d y) → disconnects (Given y) ≡ false
  free : (y : Plain) → i ≡ Some (Free y) → disconnects (Given y) ≡ false

abbrev ends_it : Option Asking → Bool
ends_it (Some (Other d y)) = disconnects (Given y)
ends_it (Some (Free y)) = disconnects (Given y)
ends_it i = false

no_end : (i : Option Asking) → ends_it i ≡ false → NoEnd i
no_end i h = record { quiet = λ d y e. ap ends_it (sym e) ∙ h; free = λ y e. ap ends_it (sym e) ∙ h }

heard_on : (past : List Raw) (d : ℕ) (x : InputEvent) (b : Bool) → ends_it (cond b (Some (Waiting d x)) None) ≡ false
heard_on past d x true = refl
heard_on past d x false = refl

ends_for : (past : List Raw) (id : ℕ) (device : Option ℕ) (x : Option Meaning) → means_end x ≡ false → ends_it (item_for past id device x) ≡ false
ends_for past id device (Some Disconnects) h = absurd cc
ends_for past id device None h = refl
ends_for past id device (Some (Binds x)) h = refl
ends_for past id device (Some (RequestsDevice x)) h = refl
ends_for past id device (Some (Shakes x)) h = refl
ends_for past id device (Some (Syncs x y)) h = refl
ends_for past id device (Some (Pongs x)) h = refl
ends_for past id device (Some ReleasesSeat) h = refl
ends_for past id device (Some Releases) h = refl
ends_for past id None (Some Closes) h = refl
ends_for past id (Some d) (Some Closes) h = refl
ends_for past id None (Some (Starts x y)) h = refl
ends_for past id (Some d) (Some (Starts x y)) h = refl
ends_for past id None (Some (Stops x)) h = refl
ends_for past id (Some d) (Some (Stops x)) h = refl
ends_for past id None (Some (Frames x y)) h = refl
ends_for past id (Some d) (Some (Frames x y)) h = refl
ends_for past id None (Some Readies) h = refl
ends_for past id (Some d) (Some Readies) h = refl
ends_for past id None (Some (Inputs x)) h = refl
ends_for past id (Some d) (Some (Inputs x)) h = heard_on past d x (is_heard past d x)

ends_object : (past : List Raw) (m : Raw) (o : Option Entry) → connected past ≡ true → is_disconnect past m ≡ false → object past m.id ≡ o → ends_it (item past m) ≡ false
ends_object past m None on h gone = ap ends_it (item_unknown past m gone)
ends_object past m (Some e) on h there = ap ends_it (item_asked past m e there) ∙ ends_for past m.id e.device (meaning e.interface m) (sym (ends_asked past m e on there) ∙ h)

ends_not : (past : List Raw) (m : Raw) (b : Bool) → connected past ≡ b → is_disconnect past m ≡ false → ends_it (item past m) ≡ false
ends_not past m true on h = ends_object past m (object past m.id) on h refl
ends_not past m false off h = ap ends_it (early_item past m off)

goes_on : (o : Option Refusal) (a b : Bool) → verdict o (a || b) ≡ Accepted → a ≡ false
goes_on (Some e) a b h = absurd cc
goes_on None true b h = absurd cc
goes_on None false b h = refl

open_more : (setup : Setup) (past : List Raw) (m : Raw) → judge setup past m ≡ Accepted → is_disconnect past m ≡ false
unfolding judge
open_more setup past m h = goes_on (refusal setup past m) _ _ h

nothing_over : over [] ≡ false
unfolding occurs
nothing_over = refl

still_open : (setup : Setup) (readings : List ℕ) (past : List Raw) → AreOpen (judge setup) past → over (back setup readings past) ≡ false
unfolding AreOpen
still_open setup readings [] h = ap over (back_none setup readings) ∙ nothing_over
still_open setup readings (m ∷ past) h =
    let n = no_end (item past m) (ends_not past m (connected past) refl (open_more setup past m h.1)) in
    ap over (back_more setup readings past m)
    ∙ over_onto (given_by setup readings past m) (back setup readings past)
    (gives_end readings (each (slot setup) past) (slot setup past m).serial (item past m) n.quiet n.free)
    (still_open setup readings past h.2)

-- ---- one more message

over_input' : (before : List Request) (d : ℕ) (x : InputEvent) (t : ℕ) → over (Timed d x t ∷ before) ≡ over before
over_input' before d x t = over_input before d x t

over_frame : (before : List Request) (d s t : ℕ) → over (Framed d s t ∷ before) ≡ over before
unfolding occurs
over_frame before d s t = refl

there_frame : (before : List Request) (e s t d : ℕ) → is_there (Framed e s t ∷ before) d ≡ is_there before d
unfolding is_there occurs mask_before last_said gives_mask closes_device
there_frame before e s t d = refl

record IsRight (setup : Setup) (before items : List Request) : Type 0 where
  right : wrong_from setup before items ≡ None
  plainly : ends_plainly items ≡ true

frame_plain : (xs : List InputEvent) (d s t : ℕ) → ends_plainly (with_frame xs d s t) ≡ true
unfolding with_frame timed
frame_plain [] d s t = refl
frame_plain (x ∷ []) d s t = refl
frame_plain (x ∷ (y ∷ xs)) d s t = frame_plain (y ∷ xs) d s t

nothing_wrong : (setup : Setup) (before : List Request) → wrong_from setup before [] ≡ None
unfolding wrong_from
nothing_wrong setup before = refl

group_fine : (setup : Setup) (before : List Request) (d s t : ℕ) (xs : List InputEvent) → IsOpenFor before d → InputsCome before d t xs → wrong_from setup before (with_frame xs d s t) ≡ None
unfolding with_frame
group_fine setup before d s t [] o c = nothing_wrong setup before
group_fine setup before d s t (x ∷ xs) o c = group_right setup before d s t x xs o c

module _ (setup : Setup) (readings : List ℕ) (past : List Raw) (m : Raw) (u : AreUnrefused setup past) (still : over (back setup readings past) ≡ false) where
  opens : (d : ℕ) → IsTo past m d → IsOpenFor (back setup readings past) d
  opens d to = record { open_still = still; there = alive setup readings past m.id to.entry d to.there to.own }

  may : (d : ℕ) (y : Plain) (xs : List InputEvent) (s t : ℕ) → IsTo past m d → device_of (Given y) ≡ Some d → asks_badly setup (Given y) ≡ false → MayCome setup (onto (with_frame xs d s t) (back setup readings past)) (Given y)
  may d y xs s t to of asks =
      let before = back setup readings past in
      let o = opens d to in
      record {
        open_still = frame_same over over_input' over_frame xs d s t before ∙ still;
        asks = asks;
        names = ap (names_none (onto (with_frame xs d s t) before)) of
            ∙ ap not (frame_same (λ b. is_there b d) (λ b e x t. there_input b e x t d) (λ b e s t. there_frame b e s t d) xs d s t before ∙ o.there);
      }

  one : (serial : ℕ) (i : Option Asking) → Comes setup past m i → IsRight setup (back setup readings past) (gives readings (each (slot setup) past) (at i serial))
  unfolding gives
  one serial None c = record { right = nothing_wrong setup _; plainly = refl }
  one serial (Some (Waiting d x)) c = record { right = nothing_wrong setup _; plainly = refl }
  one serial (Some (Frame d s t)) c = record {
    right = group_fine setup (back setup readings past) d s t (group d (each (slot setup) past)) (opens d c) (group_comes setup readings past d t u);
    plainly = frame_plain (group d (each (slot setup) past)) d s t;
  }
  one serial (Some (Other d y)) c =
      let before = back setup readings past in
      let xs = group d (each (slot setup) past) in
      let t = slice_index readings (frames_made (each (slot setup) past)) in
      record {
        right = right_append setup before (with_frame xs d serial t) (Given y ∷ []) (group_fine setup before d serial t xs (opens d c.0) (group_comes setup readings past d t u)) (frame_plain xs d serial t)
            (plain_right setup (onto (with_frame xs d serial t) before) y (may d y xs serial t c.0 c.1 c.2));
        plainly = plainly_append (with_frame xs d serial t) (Given y ∷ []) (frame_plain xs d serial t) refl;
      }
  one serial (Some (Free y)) c = record {
    right = plain_right setup (back setup readings past) y (record { open_still = still; asks = c.1; names = ap (names_none (back setup readings past)) c.0 });
    plainly = refl;
  }

  step : refusal setup past m ≡ None → IsRight setup [] (framed setup readings past) → IsRight setup [] (framed setup readings (m ∷ past))
  step r so =
      let g = one (slot setup past m).serial (item past m) (comes setup past m r) in
      let e = framed_one setup readings past m in
      record {
        right = ap (wrong_from setup []) e ∙ right_append setup [] (framed setup readings past) (given_by setup readings past m) so.right so.plainly g.right;
        plainly = ap ends_plainly e ∙ plainly_append (framed setup readings past) (given_by setup readings past m) so.plainly g.plainly;
      }

all_right : (setup : Setup) (readings : List ℕ) (past : List Raw) → AreOpen (judge setup) past → IsRight setup [] (framed setup readings past)
unfolding AreOpen
all_right setup readings [] h = record { right = ap (wrong_from setup []) (nothing_framed setup readings) ∙ nothing_wrong setup []; plainly = ap ends_plainly (nothing_framed setup readings) }
all_right setup readings (m ∷ past) h =
    step setup readings past m (open_unrefused setup past h.2) (still_open setup readings past h.2) (accepted_so setup past m h.1) (all_right setup readings past h.2)

-- ---- a stream, however reading it stopped

stops_right : (setup : Setup) (readings : List ℕ) (stop : Stop Refusal) (past : List Raw) (rest : List ℕ) → StopsSo (judge setup) stop past rest → IsReplayable setup (framed setup readings past)
unfolding StopsSo
stops_right setup readings Waits past rest h = (all_right setup readings past h.0).right
stops_right setup readings Ended [] rest h = absurd h
stops_right setup readings Ended (m ∷ past) rest h =
    (step setup readings past m (open_unrefused setup past h.2) (still_open setup readings past h.2) (ended_so setup past m h.1) (all_right setup readings past h.2)).right
stops_right setup readings (HeaderLength n) past rest h = (all_right setup readings past h.0).right
stops_right setup readings (RefusedStop e) past rest h = (all_right setup readings past h.0).right

pub handed_out : (setup : Setup) (bytes readings : List ℕ) → IsBytes bytes → IsReplayable setup (framed setup readings (accepted setup bytes))
unfolding reading_of
handed_out setup bytes readings h = let r = is_reading (judge setup) bytes h in stops_right setup readings _ _ _ r.stops
