-- The touches that are down rest on the inputs that were heard.
use Rattle.std.proofs.Common.{◌≡◌, ℕ, Bool, true, false, cond, eqb, List, [], ◌∷◌, ◌++◌, Option, Some, None, refl, ap, sym, ◌∙◌}
use Rattle.std.specs.Prelude.{unwrap_or, reverse}
use Rattle.std.proofs.lemmas.Bool.{eqb-true}
use Rattle.std.proofs.lemmas.List.{reverse-append}
use Rattle.ei_spec.specs.Message.{Raw}
use Rattle.ei_spec.specs.History.{last_said}
use Rattle.ei_spec.specs.Groups.{Input as Waiting, Frame, Other, Free}
use Rattle.ei_input.specs.declared.input_event.InputEvent.{InputEvent}
use Rattle.ei_input.specs.declared.input_event.InputEvent.TheVariants as input_event
use Rattle.ei_session.specs.Inputs.{DeviceInput}
use Rattle.ei_session.specs.Meaning.{Meaning, meaning, Shakes, Syncs, Disconnects, Pongs, ReleasesSeat, Binds, RequestsDevice, Closes, Starts, Stops, Frames, Readies, Releases, Inputs}
use Rattle.ei_session.specs.ByMeaning.{item_for, input_in}
use Rattle.ei_session.specs.Objects.{Entry, object}
use Rattle.ei_session.specs.Touches.{input, of_device, said_by, said_of, touches, is_down}
use Rattle.ei_session.specs.Requests.{Asking, item, is_heard}
use Rattle.ei_session.proofs.ItemLaws.{item_unknown, item_input}
use Rattle.ei_session.proofs.ItemMeans.{item_asked, input_by}
use Rattle.ei_record.proofs.Projects.{heard, heard_with}
use Rattle.ei_record.proofs.Touching.{down_in}

-- ---- the newest first

abbrev pub heard_front : ℕ → List InputEvent → Option Asking → List InputEvent
heard_front d hs (Some (Waiting e x)) = cond (eqb e d) (x ∷ hs) hs
heard_front d hs (Some (Frame e s t)) = hs
heard_front d hs (Some (Other e y)) = hs
heard_front d hs (Some (Free y)) = hs
heard_front d hs None = hs

abbrev pub heard_back : ℕ → List Raw → List InputEvent
heard_back d [] = []
heard_back d (m ∷ before) = heard_front d (heard_back d before) (item before m)

turned_case : (b : Bool) (x : InputEvent) (hs : List InputEvent) → cond b (reverse hs ++ (x ∷ [])) (reverse hs) ≡ reverse (cond b (x ∷ hs) hs)
turned_case true x hs = sym (reverse-append (x ∷ []) hs)
turned_case false x hs = refl

turned_by : (d : ℕ) (hs : List InputEvent) (i : Option Asking) → heard_with d (reverse hs) i ≡ reverse (heard_front d hs i)
turned_by d hs (Some (Waiting e x)) = turned_case (eqb e d) x hs
turned_by d hs (Some (Frame e s t)) = refl
turned_by d hs (Some (Other e y)) = refl
turned_by d hs (Some (Free y)) = refl
turned_by d hs None = refl

pub turned_round : (d : ℕ) (past : List Raw) → heard d past ≡ reverse (heard_back d past)
turned_round d [] = refl
turned_round d (m ∷ before) = ap (λ (l : List InputEvent). heard_with d l (item before m)) (turned_round d before) ∙ turned_by d (heard_back d before) (item before m)

-- ---- touches

unwrap : (o p : Option Bool) → unwrap_or (elim o [ Some a ↦ Some a | None ↦ p ]) false ≡ unwrap_or o (unwrap_or p false)
unwrap (Some a) p = refl
unwrap None p = refl

more_down : (x : InputEvent) (hs : List InputEvent) (t : ℕ) → down_in (x ∷ hs) t ≡ unwrap_or (said_by t x) (down_in hs t)
unfolding last_said
more_down x hs t = unwrap (said_by t x) (last_said (λ b y. said_by t y) hs)

next_down : (before : List Raw) (m : Raw) (d t : ℕ) → is_down (m ∷ before) d t ≡ unwrap_or (touches d t before m) (is_down before d t)
unfolding is_down last_said
next_down before m d t = unwrap (touches d t before m) (last_said (touches d t) before)

touches_is : (before : List Raw) (m : Raw) (d t : ℕ) (o : Option DeviceInput) → input before m ≡ o → touches d t before m ≡ said_of d t o
unfolding touches
touches_is before m d t o e = ap (said_of d t) e

-- a touch that isn't heard of ends while it is up
ended_up : (t u : ℕ) (down : ℕ → Bool) (b : Bool) → eqb u t ≡ b → down u ≡ false → unwrap_or (cond b (Some false) None) (down t) ≡ down t
ended_up t u down true q up = sym (ap down (sym (eqb-true u t q)) ∙ up)
ended_up t u down false q up = refl

unheard : (down : ℕ → Bool) (t : ℕ) (before : List Raw) (d : ℕ) (x : InputEvent) → ((u : ℕ) → down u ≡ is_down before d u) → is_heard before d x ≡ false → unwrap_or (said_by t x) (down t) ≡ down t
unheard down t before d (input_event.TouchUp u) same h = ended_up t u down (eqb u t) refl (same u ∙ h)
unheard down t before d (input_event.TouchCancel u) same h = ended_up t u down (eqb u t) refl (same u ∙ h)
unheard down t before d (input_event.TouchMotion u x y) same h = refl
unheard down t before d (input_event.TouchDown u x y) same h = absurd cc
unheard down t before d (input_event.PointerMotion x y) same h = absurd cc
unheard down t before d (input_event.PointerMotionAbsolute x y) same h = absurd cc
unheard down t before d (input_event.Button x y) same h = absurd cc
unheard down t before d (input_event.ScrollDelta x y) same h = absurd cc
unheard down t before d (input_event.ScrollStop x y) same h = absurd cc
unheard down t before d (input_event.ScrollCancel x y) same h = absurd cc
unheard down t before d (input_event.ScrollDiscrete x y) same h = absurd cc
unheard down t before d (input_event.KeyboardKey x y) same h = absurd cc
unheard down t before d (input_event.TextKeysym x y) same h = absurd cc
unheard down t before d (input_event.TextUtf8 x) same h = absurd cc
unheard down t before d (input_event.GestureSwipe x y z) same h = absurd cc
unheard down t before d (input_event.GesturePinch x) same h = absurd cc

module _ (before : List Raw) (d t : ℕ) (hs : List InputEvent) (ih : is_down before d t ≡ down_in hs t) where
  input_case : (i : DeviceInput) (heard q : Bool) → is_heard before i.device i.input ≡ heard → eqb i.device d ≡ q →
      unwrap_or (cond q (said_by t i.input) None) (is_down before d t) ≡ down_in (heard_front d hs (cond heard (Some (Waiting i.device i.input)) None)) t
  input_case i true true h q = ap (λ (b : Bool). unwrap_or (said_by t i.input) b) ih ∙ sym (rw q (more_down i.input hs t))
  input_case i true false h q = ih ∙ sym (rw q refl)
  input_case i false true h q =
      unheard (is_down before d) t before i.device i.input (λ u. ap (λ (n : ℕ). is_down before n u) (sym (eqb-true i.device d q))) h ∙ ih
  input_case i false false h q = ih

-- an item that waits is an input
waits_for : (before : List Raw) (m : Raw) (id : ℕ) (device : Option ℕ) (x : Option Meaning) (hs : List InputEvent) (d : ℕ) → of_device device (input_in x) ≡ None → heard_front d hs (item_for before id device x) ≡ hs
waits_for before m id None (Some (Inputs x)) hs d e = refl
waits_for before m id (Some n) (Some (Inputs x)) hs d e = absurd cc
waits_for before m id device None hs d e = refl
waits_for before m id device (Some (Binds x)) hs d e = refl
waits_for before m id device (Some (RequestsDevice x)) hs d e = refl
waits_for before m id device (Some (Shakes x)) hs d e = refl
waits_for before m id device (Some (Syncs x y)) hs d e = refl
waits_for before m id device (Some Disconnects) hs d e = refl
waits_for before m id device (Some (Pongs x)) hs d e = refl
waits_for before m id device (Some ReleasesSeat) hs d e = refl
waits_for before m id None (Some Closes) hs d e = refl
waits_for before m id (Some n) (Some Closes) hs d e = refl
waits_for before m id None (Some (Starts x y)) hs d e = refl
waits_for before m id (Some n) (Some (Starts x y)) hs d e = refl
waits_for before m id None (Some (Stops x)) hs d e = refl
waits_for before m id (Some n) (Some (Stops x)) hs d e = refl
waits_for before m id None (Some (Frames x y)) hs d e = refl
waits_for before m id (Some n) (Some (Frames x y)) hs d e = refl
waits_for before m id None (Some Readies) hs d e = refl
waits_for before m id (Some n) (Some Readies) hs d e = refl
waits_for before m id device (Some Releases) hs d e = refl

pub no_input_at : (before : List Raw) (m : Raw) (o : Option Entry) (hs : List InputEvent) (d : ℕ) → object before m.id ≡ o → input before m ≡ None → heard_front d hs (item before m) ≡ hs
no_input_at before m None hs d gone none = ap (heard_front d hs) (item_unknown before m gone)
no_input_at before m (Some e) hs d there none =
    ap (heard_front d hs) (item_asked before m e there) ∙ waits_for before m m.id e.device (meaning e.interface m) hs d (sym (input_by before m e there) ∙ none)

by_input : (before : List Raw) (m : Raw) (d t : ℕ) (o : Option DeviceInput) → input before m ≡ o → is_down before d t ≡ down_in (heard_back d before) t → unwrap_or (said_of d t o) (is_down before d t) ≡ down_in (heard_front d (heard_back d before) (item before m)) t
by_input before m d t None e ih = ih ∙ sym (ap (λ (l : List InputEvent). down_in l t) (no_input_at before m (object before m.id) (heard_back d before) d refl e))
by_input before m d t (Some i) e ih =
    input_case before d t (heard_back d before) ih i (is_heard before i.device i.input) (eqb i.device d) refl refl
    ∙ ap (λ (a : Option Asking). down_in (heard_front d (heard_back d before) a) t) (sym (item_input before m i e))

none_down : (d t : ℕ) → is_down [] d t ≡ down_in [] t
unfolding is_down last_said
none_down d t = refl

-- a touch is down exactly where the inputs that were heard put it down
pub heard_down : (d t : ℕ) (past : List Raw) → is_down past d t ≡ down_in (heard_back d past) t
heard_down d t [] = none_down d t
heard_down d t (m ∷ before) =
    next_down before m d t
    ∙ ap (λ (o : Option Bool). unwrap_or o (is_down before d t)) (touches_is before m d t (input before m) refl)
    ∙ by_input before m d t (input before m) refl (heard_down d t before)
