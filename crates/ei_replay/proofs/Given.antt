-- What a session has handed out so far, as requests of its own and as items.
use Rattle.std.proofs.Common.{◌≡◌, ℕ, false, List, [], ◌∷◌, ◌++◌, map, Option, None, refl, sym, ap, subst, ◌∙◌}
use Rattle.std.specs.Prelude.{slice_get, reverse}
use Rattle.std.proofs.lemmas.List.{append-nil, append_assoc, append_cancel_right, map-append}
use Rattle.ei_spec.specs.declared.interface.KnownInterface.{KnownInterface}
use Rattle.ei_spec.specs.Message.{Raw}
use Rattle.ei_spec.specs.Groups.{timed}
use Rattle.ei_session.specs.Setup.{Setup}
use Rattle.ei_session.specs.Handshake.{version}
use Rattle.ei_session.specs.Requests.{Request, framed}
use Rattle.ei_session.proofs.AllParts.{framed_prefix}
use Rattle.ei_record.specs.Replayable.{asks_badly, wrong_from}
use Rattle.ei_record.proofs.Lists.{was_right}
use Rattle.ei_request.specs.declared.event.EisRequest.{EisRequest}
use Rattle.ei_standing.specs.Standing.{handed_as}
use Rattle.ei_playing.proofs.Groups.{Waits}
use Rattle.ei_replay.specs.Asked.{asked_of}
use Rattle.ei_replay.specs.Player.{Extends}
use Rattle.ei_replay.specs.Replays.{Grew}
use Rattle.ei_replay.proofs.OfServe.{asks_of, same}

-- ---- items that ask the one seat

-- none asks badly
abbrev pub AskWell : Setup → List Request → Type 0
AskWell setup [] = Unit {0}
AskWell setup (item ∷ later) = (asks_badly setup item ≡ false) × AskWell setup later

pub all_ask_well : (setup : Setup) (before items : List Request) → wrong_from setup before items ≡ None → AskWell setup items
all_ask_well setup before [] h = tt
all_ask_well setup before (item ∷ later) h =
    let w = was_right setup before item later h in
    (asks_of setup before item (slice_get later 0) w.0, all_ask_well setup (item ∷ before) later w.1)

ask_well_behind : (setup : Setup) (a b : List Request) → AskWell setup (a ++ b) → AskWell setup b
ask_well_behind setup [] b h = h
ask_well_behind setup (x ∷ a) b h = ask_well_behind setup a b h.1

ask_well_before : (setup : Setup) (a b : List Request) → AskWell setup (a ++ b) → AskWell setup a
ask_well_before setup [] b h = tt
ask_well_before setup (x ∷ a) b h = (h.0, ask_well_before setup a b h.1)

handed_same : (setup : Setup) (versions : KnownInterface → ℕ) (items : List Request) → AskWell setup items → map asked_of (map (handed_as versions) items) ≡ items
handed_same setup versions [] h = refl
handed_same setup versions (item ∷ later) h =
    ap (λ (x : Request). x ∷ map asked_of (map (handed_as versions) later)) (same versions setup item h.0)
    ∙ ap (λ (l : List Request). item ∷ l) (handed_same setup versions later h.1)

-- ---- what was handed out

-- the requests grew by what the messages give, whatever the clock told
pub record GivesSoFar (setup : Setup) (past : List Raw) (out_old out_new : List EisRequest) : Type 0 where
  pub more : List EisRequest
  pub grown : out_new ≡ out_old ++ more
  pub asks : (readings : List ℕ) → map asked_of more ≡ framed setup readings past

-- what the messages give are the first of the items
pub record IsFront (setup : Setup) (items : List Request) (reached : List Raw) (readings : List ℕ) : Type 0 where
  pub left : List Request
  pub items_are : items ≡ framed setup readings reached ++ left

abbrev pub AreFront : Setup → List Request → List Raw → Type 0
AreFront setup items reached = (readings : List ℕ) → IsFront setup items reached readings

-- so it is of the messages before them
pub front_before : (setup : Setup) (items : List Request) (ahead part reached : List Raw) → reached ≡ ahead ++ part → AreFront setup items reached → AreFront setup items part
front_before setup items ahead part reached e f readings =
    let x = f readings in
    let p = framed_prefix setup readings ahead part in
    record {
      left = p.0 ++ x.left;
      items_are =
          x.items_are
          ∙ ap (λ (l : List Raw). framed setup readings l ++ x.left) e
          ∙ ap (λ (l : List Request). l ++ x.left) p.1
          ∙ append_assoc (framed setup readings part) p.0 x.left;
    }

module _ (setup : Setup) (items : List Request) (well : AskWell setup items) (past reached : List Raw) (a b c : List EisRequest) (g : GivesSoFar setup past a b) (e : Extends setup past reached b c) (f : IsFront setup items reached e.readings) where
  same_more : map asked_of (map (handed_as (version reached)) e.more) ≡ e.more
  same_more =
      let are : items ≡ (framed setup e.readings past ++ e.more) ++ f.left = f.items_are ∙ ap (λ (l : List Request). l ++ f.left) e.framed_is in
      handed_same setup (version reached) e.more
      (ask_well_behind setup (framed setup e.readings past) e.more
      (ask_well_before setup (framed setup e.readings past ++ e.more) f.left (subst (AskWell setup) are well)))

  -- the requests grew by this
  all_more : List EisRequest
  all_more = g.more ++ map (handed_as (version reached)) e.more

  asks_more : map asked_of all_more ≡ framed setup e.readings reached
  unfolding all_more
  asks_more =
      map-append asked_of g.more (map (handed_as (version reached)) e.more)
      ∙ ap (λ (l : List Request). l ++ map asked_of (map (handed_as (version reached)) e.more)) (g.asks e.readings)
      ∙ ap (λ (l : List Request). framed setup e.readings past ++ l) same_more
      ∙ sym e.framed_is

  grown_more : c ≡ a ++ all_more
  unfolding all_more
  grown_more =
      e.grown
      ∙ ap (λ (l : List EisRequest). l ++ map (handed_as (version reached)) e.more) g.grown
      ∙ append_assoc a g.more (map (handed_as (version reached)) e.more)

  pub grew : Grew (framed setup e.readings reached) a c
  grew = record { more = all_more; grown = grown_more; asks = asks_more }

  pub gives_more : ((readings : List ℕ) → framed setup e.readings reached ≡ framed setup readings reached) → GivesSoFar setup reached a c
  gives_more any = record { more = all_more; grown = grown_more; asks = λ readings. asks_more ∙ any readings }

-- ---- what the items give, whatever the clock told

module _ (setup : Setup) (before : List Request) (past : List Raw) (next : Option Request) (w : Waits setup before past next) where
  pub any_readings : (a b : List ℕ) → framed setup a past ≡ framed setup b past
  any_readings a b = append_cancel_right (framed setup a past) (framed setup b past) (timed w.device w.time w.inputs) (w.given a ∙ sym (w.given b))

  pub front_of : (items later : List Request) → items ≡ reverse before ++ later → AreFront setup items past
  front_of items later e readings = record {
    left = timed w.device w.time w.inputs ++ later;
    items_are = e ∙ ap (λ (l : List Request). l ++ later) (sym (w.given readings)) ∙ append_assoc (framed setup readings past) (timed w.device w.time w.inputs) later;
  }

-- ---- no messages yet

nil_first : {A : Type 0} (xs ys : List A) → xs ++ ys ≡ [] → xs ≡ []
nil_first [] ys e = refl
nil_first (x ∷ xs) ys e = absurd cc

nil_second : {A : Type 0} (xs ys : List A) → xs ++ ys ≡ [] → ys ≡ []
nil_second [] ys e = e
nil_second (x ∷ xs) ys e = absurd cc

-- messages that are all before some which give nothing give nothing
pub none_before : (setup : Setup) (readings : List ℕ) (ahead part reached : List Raw) → reached ≡ ahead ++ part → framed setup readings reached ≡ [] → framed setup readings part ≡ []
none_before setup readings ahead part reached e none =
    let p = framed_prefix setup readings ahead part in
    nil_first (framed setup readings part) p.0 (sym p.1 ∙ ap (framed setup readings) (sym e) ∙ none)

pub waits_none : (setup : Setup) (past : List Raw) (next : Option Request) → Waits setup [] past next → (readings : List ℕ) → framed setup readings past ≡ []
waits_none setup past next w readings = nil_first (framed setup readings past) (timed w.device w.time w.inputs) (w.given readings)

-- nothing was handed out on the way to them
pub none_given : (setup : Setup) (past reached : List Raw) (a b : List EisRequest) → Extends setup past reached a b → ((readings : List ℕ) → framed setup readings reached ≡ []) → b ≡ a
none_given setup past reached a b e none =
    let no_more : e.more ≡ [] = nil_second (framed setup e.readings past) e.more (sym e.framed_is ∙ none e.readings) in
    e.grown ∙ ap (λ (l : List Request). a ++ map (handed_as (version reached)) l) no_more ∙ append-nil a

pub gives_none : (setup : Setup) (past : List Raw) (a b : List EisRequest) → ((readings : List ℕ) → framed setup readings past ≡ []) → b ≡ a → GivesSoFar setup past a b
gives_none setup past a b none same = record { more = []; grown = same ∙ sym (append-nil a); asks = λ readings. sym (none readings) }
