-- The loop of a record that is played: what the first items came to, and what is left of them where memory runs out.
use Rattle.std.proofs.Common.{◌≡◌, ℕ, suc, ◌+◌, ◌<◌, ◌≤◌, Bool, true, false, cond, List, [], ◌∷◌, ◌++◌, length, drop, Option, Some, None, Result, Ok, Err, refl, sym, ap, subst, ◌∙◌, arith, inl, inr}
use Rattle.std.specs.Prelude.{◌||◌, slice_get, reverse, unwrap_or, IsErrAnd}
use Rattle.std.specs.List.{All}
use Rattle.std.proofs.lemmas.Option.{slice_get_within, unwrap_or-slice_get}
use Rattle.std.proofs.lemmas.List.Elements.{All-get_or}
use Rattle.std.proofs.lemmas.List.{append-nil, append_assoc, reverse-append, reverse-reverse, drop_all, length-drop}
use Rattle.ei_spec.specs.Message.{bytes_of}
use Rattle.ei_spec.specs.Stream.{stream_of}
use Rattle.ei_spec.specs.Groups.{Timed, Framed, Plain as Given}
use Rattle.ei_spec.specs.History.{occurs}
use Rattle.ei_session.specs.Setup.{Setup}
use Rattle.ei_session.specs.Requests.{Request, Bind, RequestDevice, Ready, DeviceClosed, DeviceStartEmulating, DeviceStopEmulating, Disconnect, framed}
use Rattle.ei_record.specs.Replayable.{disconnects, asks_badly, names_none, device_of, stands_badly, is_wrong, wrong_from, IsReplayable}
use Rattle.ei_request.specs.declared.event.EisRequest.{EisRequest}
use Rattle.ei_playing.specs.Playing.{IsBorne, played, messages}
use Rattle.ei_playing.specs.Whole.{Plays, played_bytes}
use Rattle.ei_playing.proofs.Groups.{Waits, all_given}
use Rattle.ei_playing.proofs.Law.{GoesRight, goes_right, none_behind, plays}
use Rattle.ei_playing.proofs.Steps.{Played as IsPlayed, played_none, messages_more, waits_then}
use Rattle.ei_replay.specs.declared.player.Player.{Player}
use Rattle.ei_replay.specs.declared.error.ReplayError.{ReplayError}
use Rattle.ei_replay.specs.declared.error.ReplayError.TheVariants as replay_error
use Rattle.ei_replay.specs.Sending.{of_most_pieces}
use Rattle.ei_replay.specs.Player.{BreaksOff, HasPlayed, ComesNext, HasOpened, Opens, HasPlayedOne, PlaysOne}
use Rattle.ei_replay.specs.Checks.{Checks}
use Rattle.ei_replay.specs.Replays.{Grew, PlayedBack, PlayedInPart, Replays}
use Rattle.ei_replay.proofs.Checking.{dropped}
use Rattle.ei_replay.proofs.Given.{AskWell, all_ask_well, GivesSoFar, AreFront, front_before, grew, gives_more, any_readings, front_of, none_before, waits_none, none_given, gives_none}
use Rattle.ei_replay.proofs.OneMore.{next_bytes, few, more}

module _ {A E : Type 0} where
  -- what holds of an error holds of what is that error
  err_then : (P : Result A E → Type 0) (r : Result A E) (e : E) → IsErrAnd r (λ x. x ≡ e) → P (Err e) → P r
  err_then P (Ok a) e is h = absurd is
  err_then P (Err x) e is h = subst (λ (y : E). P (Err y)) (sym is) h

-- ---- a setup of more pieces asks the same

same_asks : (setup : Setup) (item : Request) → asks_badly (of_most_pieces setup) item ≡ asks_badly setup item
same_asks setup (Timed d x t) = refl
same_asks setup (Framed d s t) = refl
same_asks setup (Given (Bind seat mask)) = refl
same_asks setup (Given (RequestDevice seat mask)) = refl
same_asks setup (Given (Ready d)) = refl
same_asks setup (Given (DeviceClosed d)) = refl
same_asks setup (Given (DeviceStartEmulating d serial sequence)) = refl
same_asks setup (Given (DeviceStopEmulating d serial)) = refl
same_asks setup (Given Disconnect) = refl

same_wrong : (setup : Setup) (before : List Request) (item : Request) (next : Option Request) → is_wrong (of_most_pieces setup) before item next ≡ is_wrong setup before item next
unfolding is_wrong
same_wrong setup before item next = ap (λ (b : Bool). occurs (λ b x. disconnects x) before || (b || (names_none before (device_of item) || stands_badly before item next))) (same_asks setup item)

wrong_by : (setup : Setup) (before : List Request) (item : Request) (later : List Request) (b : Bool) → is_wrong setup before item (slice_get later 0) ≡ b → wrong_from setup before (item ∷ later) ≡ cond b (Some (length before)) (wrong_from setup (item ∷ before) later)
unfolding wrong_from
wrong_by setup before item later b e = rw e refl

pub same_first : (setup : Setup) (before items : List Request) → wrong_from (of_most_pieces setup) before items ≡ wrong_from setup before items
unfolding wrong_from
same_first setup before [] = refl
same_first setup before (item ∷ later) =
    let b : Bool = is_wrong setup before item (slice_get later 0) in
    wrong_by (of_most_pieces setup) before item later b (same_wrong setup before item (slice_get later 0))
    ∙ ap (λ (o : Option ℕ). cond b (Some (length before)) o) (same_first setup (item ∷ before) later)
    ∙ sym (wrong_by setup before item later b refl)

-- ---- bytes

pub front_bytes : (l before : List Request) → (left : List ℕ) × (stream_of (messages (l ++ before)) ≡ stream_of (messages before) ++ left)
unfolding stream_of
front_bytes [] before = ([], sym (append-nil (stream_of (messages before))))
front_bytes (x ∷ l) before =
    let f = front_bytes l before in (
      f.0 ++ bytes_of (played (l ++ before) x),
      ap stream_of (messages_more (l ++ before) x)
          ∙ ap (λ (s : List ℕ). s ++ bytes_of (played (l ++ before) x)) f.1
          ∙ append_assoc (stream_of (messages before)) f.0 (bytes_of (played (l ++ before) x)),
    )

turned_back : (items before later : List Request) → items ≡ reverse before ++ later → reverse items ≡ reverse later ++ before
turned_back items before later e =
    ap reverse e ∙ reverse-append (reverse before) later ∙ ap (λ (l : List Request). reverse later ++ l) (reverse-reverse before)

-- the bytes of the first items are the first of all
pub played_front : (items before later : List Request) → items ≡ reverse before ++ later → (left : List ℕ) × (played_bytes items ≡ stream_of (messages before) ++ left)
unfolding played_bytes
played_front items before later e =
    let f = front_bytes (reverse later) before in
    (f.0, ap (λ (l : List Request). stream_of (messages l)) (turned_back items before later e) ∙ f.1)

-- ---- the first items were played

pub record PlayedTo (setup : Setup) (items : List Request) (at : ℕ) (p : Player) (stream_old stream_now : List ℕ) (out_old out_now : List EisRequest) : Type 0 where
  pub before : List Request
  pub count : length before ≡ at
  pub split : items ≡ reverse before ++ drop at items
  pub right : wrong_from setup before (drop at items) ≡ None
  pub waits : Waits setup before (messages before) (slice_get (drop at items) 0)
  pub told : stream_now ≡ stream_old ++ stream_of (messages before)
  pub out_is : GivesSoFar setup (messages before) out_old out_now
  pub goes_on : at < length items → HasPlayed setup before p × IsPlayed setup before (slice_get (drop at items) 0)

pub played_first : (setup : Setup) (items : List Request) (p : Player) (s1 s2 : List ℕ) (o1 o2 : List EisRequest) → IsReplayable setup items → HasOpened setup p s1 s2 o1 o2 → PlayedTo setup items 0 p s1 s2 o1 o2
played_first setup items p s1 s2 o1 o2 right h =
    let first = played_none setup (slice_get items 0) in
    let none = waits_none setup (messages []) (slice_get items 0) first.waits in
    record {
      before = [];
      count = refl;
      split = refl;
      right = right;
      waits = first.waits;
      told = h.told;
      out_is = gives_none setup (messages []) o1 o2 none (none_given setup [] (messages []) o1 o2 h.extends none);
      goes_on = λ lt. (h.plays, first);
    }

-- all were
pub all_played_back : (setup : Setup) (items : List Request) (at : ℕ) (p : Player) (s1 s2 : List ℕ) (o1 o2 : List EisRequest) →
    IsReplayable setup items → All IsBorne items → length items ≤ 4294967000 → length items ≤ at → PlayedTo (of_most_pieces setup) items at p s1 s2 o1 o2 → PlayedBack setup items s1 s2 o1 o2
unfolding played_bytes
all_played_back setup items at p s1 s2 o1 o2 right borne short past t =
    let none : drop at items ≡ [] = drop_all at items past in
    let split : items ≡ reverse t.before = t.split ∙ ap (λ (l : List Request). reverse t.before ++ l) none ∙ append-nil (reverse t.before) in
    let turned : reverse items ≡ t.before = ap reverse split ∙ reverse-reverse t.before in
    let waits = subst (λ (l : List Request). Waits (of_most_pieces setup) t.before (messages t.before) (slice_get l 0)) none t.waits in
    record {
      bytes = played_bytes items;
      stream_is = t.told ∙ ap (λ (l : List Request). s1 ++ stream_of (messages l)) (sym turned);
      plays = plays setup items right borne short;
      out_is = record {
        more = t.out_is.more;
        grown = t.out_is.grown;
        asks = t.out_is.asks [] ∙ all_given (of_most_pieces setup) t.before (messages t.before) waits [] ∙ sym split;
      };
    }

-- ---- memory ran out

-- with bytes that are the first of all, and requests that are the first of the items
pub in_part : (setup : Setup) (items asked left : List Request) (bytes bytes_left s1 s2 : List ℕ) (o1 o2 : List EisRequest) →
    IsReplayable setup items → All IsBorne items → length items ≤ 4294967000 → played_bytes items ≡ bytes ++ bytes_left → s2 ≡ s1 ++ bytes → items ≡ asked ++ left → Grew asked o1 o2 → PlayedInPart setup items s1 s2 o1 o2
in_part setup items asked left bytes bytes_left s1 s2 o1 o2 right borne short are told split g = record {
  bytes = bytes;
  bytes_left = bytes_left;
  stream_is = told;
  plays = subst (λ (l : List ℕ). Plays setup l items) are (plays setup items right borne short);
  asked = asked;
  items_left = left;
  out_is = g;
  items_are = split;
}

module _ (setup : Setup) (items : List Request) (right : IsReplayable setup items) (borne : All IsBorne items) (short : length items ≤ 4294967000) where
  -- before the handshake was taken
  broken_first : (s1 s2 : List ℕ) (o1 o2 : List EisRequest) → BreaksOff (of_most_pieces setup) [] (messages []) (stream_of (messages [])) s1 s2 o1 o2 → PlayedInPart setup items s1 s2 o1 o2
  broken_first s1 s2 o1 o2 b =
      let most = of_most_pieces setup in
      let first = played_none most (slice_get items 0) in
      let none = waits_none most (messages []) (slice_get items 0) first.waits in
      let x = b.extends in
      let same : o2 ≡ o1 = none_given most [] x.part o1 o2 x.extends (λ readings. none_before most readings x.ahead x.part (messages []) x.reached_is (none readings)) in
      let g : Grew [] o1 o2 = record { more = []; grown = same ∙ sym (append-nil o1); asks = refl } in
      let f = played_front items [] items refl in
      elim b.told [
        | inl e ↦ in_part setup items [] items [] (played_bytes items) s1 s2 o1 o2 right borne short refl (e ∙ sym (append-nil s1)) refl g
        | inr e ↦ in_part setup items [] items (stream_of (messages [])) f.0 s1 s2 o1 o2 right borne short f.1 e refl g
      ]

module _ (setup : Setup) (items : List Request) (right : IsReplayable setup items) (borne : All IsBorne items) (short : length items ≤ 4294967000)
    (at : ℕ) (p : Player) (s1 s2 : List ℕ) (o1 o2 : List EisRequest) (t : PlayedTo (of_most_pieces setup) items at p s1 s2 o1 o2) (item : Request) (here : slice_get items at ≡ Some item) where
  most : Setup
  most = of_most_pieces setup

  next : Option Request
  next = slice_get (drop (at + 1) items) 0

  rest : drop at items ≡ item ∷ drop (at + 1) items
  rest = dropped items at item here

  low : at < length items
  low = slice_get_within items at item here

  goes : GoesRight (of_most_pieces setup) t.before item (drop (at + 1) items)
  goes = goes_right (of_most_pieces setup) t.before item (drop (at + 1) items) (subst (λ (l : List Request). wrong_from (of_most_pieces setup) t.before l ≡ None) rest t.right)

  borne_here : IsBorne item
  borne_here = subst (λ (x : Request). IsBorne x) (sym (unwrap_or-slice_get items at item) ∙ ap (λ (o : Option Request). unwrap_or o item) here) (All-get_or IsBorne items at item low borne)

  -- it comes next
  pub comes : ComesNext (of_most_pieces setup) t.before item (slice_get (drop (at + 1) items) 0) p
  comes =
      let ready = t.goes_on low in
      record {
        so_far = ready.0;
        waits = subst (λ (l : List Request). IsPlayed (of_most_pieces setup) t.before (slice_get l 0)) rest ready.1;
        right = goes.right;
        borne = borne_here;
        few = let n = t.count in let lt = low in omega (arith, n, lt, short);
      }

  split_next : items ≡ reverse (item ∷ t.before) ++ drop (at + 1) items
  split_next =
      t.split
      ∙ ap (λ (l : List Request). reverse t.before ++ l) rest
      ∙ sym (append_assoc (reverse t.before) (item ∷ []) (drop (at + 1) items))
      ∙ ap (λ (l : List Request). l ++ drop (at + 1) items) (sym (reverse-append (item ∷ []) t.before))

  waits_next : Waits (of_most_pieces setup) (item ∷ t.before) (messages (item ∷ t.before)) (slice_get (drop (at + 1) items) 0)
  waits_next = waits_then (of_most_pieces setup) t.before item (slice_get (drop (at + 1) items) 0) comes.waits comes.right borne_here (few (of_most_pieces setup) t.before item (slice_get (drop (at + 1) items) 0) p comes)

  front_next : AreFront (of_most_pieces setup) items (messages (item ∷ t.before))
  front_next = front_of (of_most_pieces setup) (item ∷ t.before) (messages (item ∷ t.before)) (slice_get (drop (at + 1) items) 0) waits_next items (drop (at + 1) items) split_next

  well : AskWell (of_most_pieces setup) items
  well = all_ask_well (of_most_pieces setup) [] items (same_first setup [] items ∙ right)

  told_next : (s3 : List ℕ) → s3 ≡ s2 ++ bytes_of (played t.before item) → s3 ≡ s1 ++ stream_of (messages (item ∷ t.before))
  told_next s3 e =
      e
      ∙ ap (λ (l : List ℕ). l ++ bytes_of (played t.before item)) t.told
      ∙ append_assoc s1 (stream_of (messages t.before)) (bytes_of (played t.before item))
      ∙ ap (λ (l : List ℕ). s1 ++ l) (sym (next_bytes (of_most_pieces setup) t.before item (slice_get (drop (at + 1) items) 0) p comes))

  none_left : disconnects item ≡ true → at + 1 < length items → ⊥
  none_left e lt =
      let none = none_behind (of_most_pieces setup) t.before item (drop (at + 1) items) e goes.rest in
      let long = length-drop (at + 1) items in
      let short_of = ap length none in
      omega (arith, long, short_of, lt)

  on_by : (q : Player) (b : Bool) → disconnects item ≡ b → (disconnects item ≡ false → HasPlayed (of_most_pieces setup) (item ∷ t.before) q) → at + 1 < length items →
      HasPlayed (of_most_pieces setup) (item ∷ t.before) q × IsPlayed (of_most_pieces setup) (item ∷ t.before) (slice_get (drop (at + 1) items) 0)
  on_by q true e h lt = absurd (none_left e lt)
  on_by q false e h lt = (h e, more (of_most_pieces setup) t.before item (slice_get (drop (at + 1) items) 0) p comes e)

  -- and then it was played
  pub played_next : (q : Player) (s3 : List ℕ) (o3 : List EisRequest) → HasPlayedOne (of_most_pieces setup) t.before item q s2 s3 o2 o3 → PlayedTo (of_most_pieces setup) items (at + 1) q s1 s3 o1 o3
  played_next q s3 o3 h = record {
    before = item ∷ t.before;
    count = ap suc t.count ∙ (let one : suc at ≡ at + 1 = omega arith in one);
    split = split_next;
    right = goes.rest;
    waits = waits_next;
    told = told_next s3 h.told;
    out_is = gives_more (of_most_pieces setup) items well (messages t.before) (messages (item ∷ t.before)) o1 o2 o3 t.out_is h.extends (front_next h.extends.readings)
        (λ readings. any_readings (of_most_pieces setup) (item ∷ t.before) (messages (item ∷ t.before)) (slice_get (drop (at + 1) items) 0) waits_next h.extends.readings readings);
    goes_on = λ lt. on_by q (disconnects item) refl h.goes_on lt;
  }

  -- or memory ran out
  broken_next : (s3 : List ℕ) (o3 : List EisRequest) → BreaksOff (of_most_pieces setup) (messages t.before) (messages (item ∷ t.before)) (bytes_of (played t.before item)) s2 s3 o2 o3 → PlayedInPart setup items s1 s3 o1 o3
  broken_next s3 o3 b =
      let x = b.extends in
      let f = front_before (of_most_pieces setup) items x.ahead x.part (messages (item ∷ t.before)) x.reached_is front_next x.extends.readings in
      let g = grew (of_most_pieces setup) items well (messages t.before) x.part o1 o2 o3 t.out_is x.extends f in
      let so_far = played_front items t.before (drop at items) t.split in
      let then_too = played_front items (item ∷ t.before) (drop (at + 1) items) split_next in
      elim b.told [
        | inl e ↦ in_part setup items (framed (of_most_pieces setup) x.extends.readings x.part) f.left (stream_of (messages t.before)) so_far.0 s1 s3 o1 o3 right borne short so_far.1 (e ∙ t.told) f.items_are g
        | inr e ↦ in_part setup items (framed (of_most_pieces setup) x.extends.readings x.part) f.left (stream_of (messages (item ∷ t.before))) then_too.0 s1 s3 o1 o3 right borne short then_too.1 (told_next s3 e) f.items_are g
      ]

  pub breaks_next : (e : ReplayError) (r : Result (Unit {0}) ReplayError) (q : Player) (s3 : List ℕ) (o3 : List EisRequest) → IsErrAnd r (λ x. x ≡ e) →
      PlaysOne (of_most_pieces setup) t.before item (Err e) q s2 s3 o2 o3 → Replays setup items r s1 s3 o1 o3
  breaks_next replay_error.NoMemory r q s3 o3 is b =
      err_then (λ (x : Result (Unit {0}) ReplayError). Replays setup items x s1 s3 o1 o3) r replay_error.NoMemory is (inr (right, broken_next s3 o3 b))
  breaks_next (replay_error.NotReplayable place) r q s3 o3 is b = absurd b

module _ (setup : Setup) (items : List Request) (right : IsReplayable setup items) (borne : All IsBorne items) (short : length items ≤ 4294967000) where
  pub breaks_first : (e : ReplayError) (r : Result (Unit {0}) ReplayError) (q : Player) (s1 s2 : List ℕ) (o1 o2 : List EisRequest) → IsErrAnd r (λ x. x ≡ e) →
      Opens (of_most_pieces setup) (Err e) q s1 s2 o1 o2 → Replays setup items r s1 s2 o1 o2
  breaks_first replay_error.NoMemory r q s1 s2 o1 o2 is b =
      err_then (λ (x : Result (Unit {0}) ReplayError). Replays setup items x s1 s2 o1 o2) r replay_error.NoMemory is (inr (right, broken_first setup items right borne short s1 s2 o1 o2 b))
  breaks_first (replay_error.NotReplayable place) r q s1 s2 o1 o2 is b = absurd b

-- nothing was played
refused_as : (setup : Setup) (items : List Request) (e : ReplayError) (s : List ℕ) (o : List EisRequest) → Checks {T = Unit {0}} setup items (Err e) → Replays setup items (Err e) s s o o
refused_as setup items replay_error.NoMemory s o h = inl (refl, refl)
refused_as setup items (replay_error.NotReplayable place) s o h = (h, refl, refl)

pub refused : (setup : Setup) (items : List Request) (e : ReplayError) (r : Result (Unit {0}) ReplayError) (s : List ℕ) (o : List EisRequest) → IsErrAnd r (λ x. x ≡ e) →
    Checks {T = Unit {0}} setup items (Err e) → Replays setup items r s s o o
refused setup items e r s o is h = err_then (λ (x : Result (Unit {0}) ReplayError). Replays setup items x s s o o) r e is (refused_as setup items e s o h)

-- nor where memory ran out before that
pub not_begun : (setup : Setup) (items : List Request) (r : Result (Unit {0}) ReplayError) (s : List ℕ) (o : List EisRequest) → IsErrAnd r (λ x. x ≡ replay_error.NoMemory) → Replays setup items r s s o o
not_begun setup items r s o is = err_then (λ (x : Result (Unit {0}) ReplayError). Replays setup items x s s o o) r replay_error.NoMemory is (inl (refl, refl))
