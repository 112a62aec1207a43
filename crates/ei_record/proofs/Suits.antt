-- What was heard of a device can come where it was heard: its mask has the capability, the touch can go down, move or end, and a
-- text is neither empty nor too long.
use Rattle.std.proofs.Common.{◌≡◌, ℕ, Bool, true, false, cond, not, eqb, List, [], ◌∷◌, length, Option, Some, None, refl, ap, sym, subst, ◌∙◌}
use Rattle.std.specs.Prelude.{◌||◌, nat_le}
use Rattle.std.proofs.lemmas.Bool.{eqb-true}
use Rattle.ei_spec.specs.Message.{Raw}
use Rattle.ei_spec.specs.Groups.{Input as Waiting}
use Rattle.ei_input.specs.declared.input_event.InputEvent.{InputEvent}
use Rattle.ei_input.specs.declared.input_event.InputEvent.TheVariants as input_event
use Rattle.ei_session.specs.Setup.{Setup}
use Rattle.ei_session.specs.Inputs.{DeviceInput, input_to}
use Rattle.ei_session.specs.Meaning.{Meaning, meaning, Inputs}
use Rattle.ei_session.specs.ByMeaning.{input_in, input_refusal}
use Rattle.ei_session.specs.Objects.{Entry, object}
use Rattle.ei_session.specs.Touches.{of_device, input_of, input, is_down, touches_down}
use Rattle.ei_session.specs.Refusals.{refusal}
use Rattle.ei_session.specs.Requests.{Asking, is_heard}
use Rattle.ei_session.specs.Served.{AreUnrefused}
use Rattle.ei_session.proofs.Choices.{none_some, some_is}
use Rattle.ei_session.proofs.AskedMeans.{input_asked}
use Rattle.ei_session.proofs.ItemLaws.{item_input}
use Rattle.ei_session.proofs.RefusedMeans.{refusal_asked}
use Rattle.ei_record.specs.Replayable.{lacks, writes_badly}
use Rattle.ei_record.proofs.Touching.{down_in, bad_in}
use Rattle.ei_record.proofs.Heard.{heard_front, heard_back, no_input_at, heard_down}
use Rattle.ei_record.proofs.Puts.{heard_downs}
use Rattle.ei_record.proofs.MaskOf.{mask_made_of, mask_stays}
use Rattle.ei_record.proofs.Owned.{owned}
use Rattle.ei_record.proofs.Capable.{served_input}

-- ---- an input, by its object

-- where an input comes from
record ComesFrom (past : List Raw) (m : Raw) (i : DeviceInput) : Type 0 where
  entry : Entry
  there : object past m.id ≡ Some entry
  own : entry.device ≡ Some i.device
  reads : input_to entry.interface m ≡ Some i.input

split : (device : Option ℕ) (o : Option InputEvent) (i : DeviceInput) → of_device device o ≡ Some i → (device ≡ Some i.device) × (o ≡ Some i.input)
split None o i h = absurd (none_some i h)
split (Some d) None i h = absurd (none_some i h)
split (Some d) (Some x) i h =
    let same = some_is _ i h in
    (ap (λ (j : DeviceInput). Some j.device) same, ap (λ (j : DeviceInput). Some j.input) same)

from_by : (past : List Raw) (m : Raw) (i : DeviceInput) (o : Option Entry) → object past m.id ≡ o → input_of m o ≡ Some i → ComesFrom past m i
from_by past m i None e h = absurd (none_some i h)
from_by past m i (Some x) e h = let s = split x.device (input_to x.interface m) i h in record { entry = x; there = e; own = s.0; reads = s.1 }

comes_from : (past : List Raw) (m : Raw) (i : DeviceInput) → input past m ≡ Some i → ComesFrom past m i
unfolding input
comes_from past m i h = from_by past m i (object past m.id) refl h

means_input : (o : Option Meaning) (x : InputEvent) → input_in o ≡ Some x → o ≡ Some (Inputs x)
means_input None x h = absurd cc
means_input (Some (Inputs y)) x h = ap (λ (z : InputEvent). Some (Inputs z)) (some_is y x h)
means_input (Some y) x h = absurd cc

allowed : (setup : Setup) (past : List Raw) (m : Raw) (i : DeviceInput) (f : ComesFrom past m i) → refusal setup past m ≡ None → input_refusal past f.entry.version (Some i.device) i.input ≡ None
allowed setup past m i f r =
    let says = means_input (meaning f.entry.interface m) i.input (sym (input_asked f.entry.interface m) ∙ f.reads) in
    ap (λ (d : Option ℕ). input_refusal past f.entry.version d i.input) (sym f.own) ∙ sym (refusal_asked setup past m f.entry (Inputs i.input) f.there says) ∙ r

-- ---- what isn't refused is neither badly touched nor badly written

neither : {E : Type 0} (a b : Bool) (x y : E) → cond a (Some x) (cond b (Some y) None) ≡ None → (a ≡ false) × (b ≡ false)
neither true b x y h = absurd cc
neither false true x y h = absurd cc
neither false false x y h = (refl, refl)

not_so : {E : Type 0} (a : Bool) (x : E) → cond a (Some x) None ≡ None → a ≡ false
not_so true x h = absurd cc
not_so false x h = refl

none_or : (a b : Bool) → (a ≡ false) × (b ≡ false) → (a || b) ≡ false
none_or a b h = rw (h.0, h.1) refl

module _ (past : List Raw) (d version : ℕ) where
  heard_so : (t : ℕ) → is_down past d t ≡ true → not (down_in (heard_back d past) t) ≡ false
  heard_so t h = ap not (sym (heard_down d t past) ∙ h)

  touch_so : (x : InputEvent) → input_refusal past version (Some d) x ≡ None → is_heard past d x ≡ true → bad_in (heard_back d past) x ≡ false
  touch_so (input_event.TouchDown t a b) r h =
      let n = neither (nat_le 16 (length (touches_down past d))) (is_down past d t) _ _ r in
      none_or _ _ (ap (λ (l : List ℕ). nat_le 16 (length l)) (sym (heard_downs d past)) ∙ n.0, sym (heard_down d t past) ∙ n.1)
  touch_so (input_event.TouchMotion t a b) r h = heard_so t h
  touch_so (input_event.TouchUp t) r h = heard_so t h
  touch_so (input_event.TouchCancel t) r h = heard_so t h
  touch_so x r h = refl

  text_so : (x : InputEvent) → input_refusal past version (Some d) x ≡ None → writes_badly x ≡ false
  text_so (input_event.TextUtf8 letters) r = not_so _ _ r
  text_so x r = refl

-- ---- all that was heard

-- of some inputs, the newest first: each can come behind those before it
abbrev pub AllSuit : Option ℕ → List InputEvent → Type 0
AllSuit mask [] = Unit {0}
AllSuit mask (x ∷ xs) = (lacks mask x ≡ false) × (bad_in xs x ≡ false) × (writes_badly x ≡ false) × AllSuit mask xs

-- what has its capability has it after one more message
later_one : (past : List Raw) (m : Raw) (d : ℕ) (x : InputEvent) (o : Option ℕ) → mask_made_of past d ≡ o → lacks o x ≡ false → lacks (mask_made_of (m ∷ past) d) x ≡ false
later_one past m d x None e h = absurd cc
later_one past m d x (Some mask) e h = ap (λ (o : Option ℕ). lacks o x) (mask_stays past m d mask e) ∙ h

later : (past : List Raw) (m : Raw) (d : ℕ) (xs : List InputEvent) → AllSuit (mask_made_of past d) xs → AllSuit (mask_made_of (m ∷ past) d) xs
later past m d [] h = tt
later past m d (x ∷ xs) h = (later_one past m d x (mask_made_of past d) refl h.0, h.1, h.2, later past m d xs h.3)

one_more : (setup : Setup) (past : List Raw) (m : Raw) (i : DeviceInput) → refusal setup past m ≡ None → input past m ≡ Some i → is_heard past i.device i.input ≡ true → AllSuit (mask_made_of (m ∷ past) i.device) (heard_back i.device past) →
    AllSuit (mask_made_of (m ∷ past) i.device) (i.input ∷ heard_back i.device past)
one_more setup past m i r e heard rest =
    let f = comes_from past m i e in
    let fine = allowed setup past m i f r in
    let o = owned past m.id f.entry i.device f.there f.own in
    let mask = ap (λ (x : Option ℕ). lacks x i.input) (mask_stays past m i.device o.mask o.made_so) ∙ served_input f.entry.interface m o.mask i.input f.reads o.has_it in
    (mask, touch_so past i.device f.entry.version i.input fine heard, text_so past i.device f.entry.version i.input fine, rest)

case : (setup : Setup) (past : List Raw) (m : Raw) (d : ℕ) (i : DeviceInput) (heard mine : Bool) → refusal setup past m ≡ None → input past m ≡ Some i → is_heard past i.device i.input ≡ heard → eqb i.device d ≡ mine →
    AllSuit (mask_made_of (m ∷ past) d) (heard_back d past) → AllSuit (mask_made_of (m ∷ past) d) (heard_front d (heard_back d past) (cond heard (Some (Waiting i.device i.input)) None))
case setup past m d i false mine r e h q rest = rest
case setup past m d i true false r e h q rest = rw q rest
case setup past m d i true true r e h q rest =
    let same : i.device ≡ d = eqb-true i.device d q in
    let all : AllSuit (mask_made_of (m ∷ past) d) (i.input ∷ heard_back d past) =
    (subst (λ (n : ℕ). AllSuit (mask_made_of (m ∷ past) n) (heard_back n past) → AllSuit (mask_made_of (m ∷ past) n) (i.input ∷ heard_back n past)) same (one_more setup past m i r e h)) rest in
    rw q all

by_input : (setup : Setup) (past : List Raw) (m : Raw) (d : ℕ) (o : Option DeviceInput) → refusal setup past m ≡ None → input past m ≡ o → AllSuit (mask_made_of (m ∷ past) d) (heard_back d past) → AllSuit (mask_made_of (m ∷ past) d) (heard_back d (m ∷ past))
by_input setup past m d None r e rest = subst (AllSuit (mask_made_of (m ∷ past) d)) (sym (no_input_at past m (object past m.id) (heard_back d past) d refl e)) rest
by_input setup past m d (Some i) r e rest =
    subst (λ (a : Option Asking). AllSuit (mask_made_of (m ∷ past) d) (heard_front d (heard_back d past) a)) (sym (item_input past m i e))
    (case setup past m d i (is_heard past i.device i.input) (eqb i.device d) r e refl refl rest)

unrefused : (setup : Setup) (past : List Raw) (m : Raw) → AreUnrefused setup (m ∷ past) → (refusal setup past m ≡ None) × AreUnrefused setup past
unfolding AreUnrefused
unrefused setup past m h = h

-- each input that was heard could come
pub all_suit : (setup : Setup) (past : List Raw) (d : ℕ) → AreUnrefused setup past → AllSuit (mask_made_of past d) (heard_back d past)
all_suit setup [] d h = tt
all_suit setup (m ∷ past) d h =
    let u = unrefused setup past m h in
    by_input setup past m d (input past m) u.0 refl (later past m d (heard_back d past) (all_suit setup past d u.1))
