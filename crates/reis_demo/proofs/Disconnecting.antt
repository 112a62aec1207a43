-- The session over the generated stream handles all its messages, and ends with its disconnect.
use Rattle.std.proofs.Common.{◌≡◌, ℕ, zero, suc, ◌+◌, ◌^◌, ◌<◌, ◌≤◌, Bool, true, false, not, ltb, List, [], ◌∷◌, ◌++◌, map, length, take, drop}
use Rattle.std.proofs.Common.{Option, Some, None, refl, sym, ap, ◌∙◌, arith}
use Rattle.std.specs.Int.{div_ceil}
use Rattle.std.proofs.lemmas.Bool.{le-ltb}
use Rattle.std.proofs.lemmas.Grind.{flat_map-append, div_ceil_times}
use Rattle.std.proofs.lemmas.List.{take-append-drop, take_all, length-map}
use Rattle.std.proofs.lemmas.List.FromFn.{length-range_with_len}
use Rattle.ei_spec.specs.Message.{Raw, bytes_of, all_bytes}
use Rattle.ei_spec.specs.Piece.{Piece, stream, handle_count}
use Rattle.ei_spec.specs.Stream.{Stop, Waiting, Ended, HeaderLength, Refusal as RefusedStop, Reading, reading, read, go_on}
use Rattle.ei_spec.proofs.Cuts.{front_none}
use Rattle.ei_spec.proofs.FrontLaws.{front_again}
use Rattle.ei_spec.proofs.GoesOn as goes_on
use Rattle.ei_session.specs.Refusals.{Refusal, judge}
use Rattle.ei_session.specs.Served.{Disconnect, reading_of, read_first, ran_out, is_waiting, is_over, over_at, answer_at, least, too_many_handles}
use Rattle.ei_session.specs.Served.{Outcome, session}
use Rattle.reis_demo.specs.Generated.{demo_setup, piece_at, cut, groups_from, opening, disconnect_message, generated_messages, generated_bytes, generated}
use Rattle.reis_demo.proofs.CutLaws.{joined_again}
use Rattle.reis_demo.proofs.Passing.{onto, groups_pass, ready_after, read_over, read_opening, opening_ready, end_lawful, end_judged, end_lasts}
use Rattle.reis_demo.proofs.StreamLength.{stream_short}

-- ---- the reading of the whole stream

-- the messages before the end, the newest first
abbrev pub before_end : ℕ → ℕ → List Raw
before_end groups start = onto (groups_from groups 1 start) (onto opening [])

whole_read : (groups start : ℕ) → 1 + groups ≤ 2 ^ 64 → read (judge demo_setup) [] (generated_bytes groups start) ≡ reading (disconnect_message ∷ before_end groups start) [] Ended
unfolding generated_messages
whole_read groups start small =
    let gs = groups_from groups 1 start in
    let past = onto opening [] in
    let pass = groups_pass groups 1 start past small opening_ready in
    let end = bytes_of disconnect_message ++ [] in
    let split : generated_bytes groups start ≡ all_bytes opening ++ (all_bytes gs ++ end) =
    flat_map-append bytes_of opening (gs ++ (disconnect_message ∷ [])) ∙ ap (λ (x : List ℕ). all_bytes opening ++ x) (flat_map-append bytes_of gs (disconnect_message ∷ [])) in
    ap (read (judge demo_setup) []) split
    ∙ read_opening (all_bytes gs ++ end)
    ∙ read_over gs past end pass
    ∙ goes_on.read_final (judge demo_setup) (onto gs past) end disconnect_message [] (front_again disconnect_message [] end_lawful) (end_judged (onto gs past) (ready_after gs past pass))

ids_last : (groups start : ℕ) → 1 + groups ≤ 2 ^ 64 → ran_out (disconnect_message ∷ before_end groups start) ≡ false
ids_last groups start small = end_lasts _ (ready_after (groups_from groups 1 start) (onto opening []) (groups_pass groups 1 start (onto opening []) small opening_ready))

-- ---- the least number that passes

least_holds : (test : ℕ → Bool) (n k m : ℕ) → least test k n ≡ Some m → (test m ≡ true) × (k ≤ m) × (m < k + n)
unfolding least
least_holds test zero k m h = absurd cc
least_holds test (suc n) k m h = by (test k) refl h (least_holds test n (k + 1) m)
  where
    one : (a b : ℕ) → Some a ≡ Some b → a ≡ b
    one a b e = cc

    by : (b : Bool) → test k ≡ b → least test k (suc n) ≡ Some m → (least test (k + 1) n ≡ Some m → (test m ≡ true) × (k + 1 ≤ m) × (m < k + 1 + n)) → (test m ≡ true) × (k ≤ m) × (m < k + suc n)
    by true e h next =
        let same : k ≡ m = one k m (sym (rw (e, least) refl) ∙ h) in
        (ap test (sym same) ∙ e, omega (arith, same), omega (arith, same))
    by false e h next =
        let l = next (sym (rw (e, least) refl) ∙ h) in
        (l.0, omega (arith, l.1), omega (arith, l.2))

least_fails : (test : ℕ → Bool) (n k : ℕ) → least test k (suc n) ≡ None → test (k + n) ≡ false
unfolding least
least_fails test zero k h = by (test k) refl h
  where
    by : (b : Bool) → test k ≡ b → least test k 1 ≡ None → test (k + 0) ≡ false
    by true e h = let q : Some k ≡ None = sym (rw (e, least) refl) ∙ h in absurd cc
    by false e h = let same : k + 0 ≡ k = omega arith in ap test same ∙ e
least_fails test (suc n) k h = by (test k) refl h (least_fails test n (k + 1))
  where
    by : (b : Bool) → test k ≡ b → least test k (suc (suc n)) ≡ None → (least test (k + 1) (suc n) ≡ None → test (k + 1 + n) ≡ false) → test (k + suc n) ≡ false
    by true e h next = let q : Some k ≡ None = sym (rw (e, least) refl) ∙ h in absurd cc
    by false e h next =
        let same : k + suc n ≡ k + 1 + n = omega arith in
        ap test same ∙ next (sym (rw (e, least) refl) ∙ h)

-- ---- more pieces change neither the messages nor the stop, once reading stopped for good

-- the outcome of a reading
abbrev outcome_of : Reading Refusal → Outcome
outcome_of r = record { handled = r.past; answer = answer_at r }

kept_at : (s : Stop Refusal) (past : List Raw) (rest more : List ℕ) → is_waiting s ≡ false → go_on (judge demo_setup) (reading past rest s) more ≡ reading past (rest ++ more) s
unfolding go_on
kept_at Waiting past rest more w = absurd cc
kept_at Ended past rest more w = refl
kept_at (HeaderLength n) past rest more w = refl
kept_at (RefusedStop e) past rest more w = refl

stays : (bytes more : List ℕ) → is_waiting (reading_of demo_setup bytes).stop ≡ false → outcome_of (reading_of demo_setup (bytes ++ more)) ≡ outcome_of (reading_of demo_setup bytes)
unfolding reading_of
stays bytes more w =
    let r = read (judge demo_setup) [] bytes in
    ap outcome_of (goes_on.cut (judge demo_setup) [] bytes more ∙ kept_at r.stop r.past r.rest more w)

stream_append : (a b : List Piece) → stream (a ++ b) ≡ stream a ++ stream b
unfolding stream
stream_append a b = flat_map-append (λ (p : Piece). p.bytes) a b

-- no piece doesn't end it
nothing_ends : (pieces : List Piece) → is_waiting (reading_of demo_setup (stream (take 0 pieces))).stop ≡ false → ⊥
unfolding reading_of stream
nothing_ends pieces h =
    let waits : is_waiting (read (judge demo_setup) [] []).stop ≡ true = ap (λ (r : Reading Refusal). is_waiting r.stop) (goes_on.read_short (judge demo_setup) [] [] front_none) in
    let q : true ≡ false = sym waits ∙ h in cc

-- ---- pieces without handles, whose reading ends

module _ (pieces : List Piece) (few : length pieces ≤ 4294967295) (none : (k : ℕ) → handle_count (take k pieces) ≡ 0)
    (ends : is_waiting (reading_of demo_setup (stream pieces)).stop ≡ false) where
  few_at : (j : ℕ) → j ≤ length pieces → ltb demo_setup.pieces j ≡ false
  few_at j le = le-ltb demo_setup.pieces j (omega (arith, few))

  handles_at : (j : ℕ) → too_many_handles pieces j ≡ false
  unfolding too_many_handles
  handles_at j = let n = none j in le-ltb 4096 (handle_count (take j pieces)) (omega (arith, n))

  over_by : (j : ℕ) (w : Bool) → j ≤ length pieces → is_waiting (read_first demo_setup pieces j).stop ≡ w → is_over demo_setup pieces j ≡ not w
  unfolding is_over
  over_by j w le e = rw (few_at j le, handles_at j, e) refl

  over_with : (j : ℕ) → j ≤ length pieces → over_at demo_setup pieces j ≡ outcome_of (read_first demo_setup pieces j)
  unfolding over_at
  over_with j le = rw (few_at j le, handles_at j) refl

  same_outcome : (j : ℕ) → is_waiting (read_first demo_setup pieces j).stop ≡ false → outcome_of (read_first demo_setup pieces j) ≡ outcome_of (reading_of demo_setup (stream pieces))
  unfolding read_first
  same_outcome j w =
      let whole : stream (take j pieces) ++ stream (drop j pieces) ≡ stream pieces = sym (stream_append (take j pieces) (drop j pieces)) ∙ ap stream (take-append-drop j pieces) in
      sym (stays (stream (take j pieces)) (stream (drop j pieces)) w) ∙ ap (λ (x : List ℕ). outcome_of (reading_of demo_setup x)) whole

  last_read : is_waiting (read_first demo_setup pieces (length pieces)).stop ≡ false
  unfolding read_first
  last_read = ap (λ (ps : List Piece). is_waiting (reading_of demo_setup (stream ps)).stop) (take_all (length pieces) pieces (omega arith)) ∙ ends

  stops_at : (j : ℕ) (w : Bool) → j ≤ length pieces → is_waiting (read_first demo_setup pieces j).stop ≡ w → is_over demo_setup pieces j ≡ true → w ≡ false
  stops_at j true le e over = absurd (let q : false ≡ true = sym (over_by j true le e) ∙ over in cc)
  stops_at j false le e over = refl

  by_least : (o : Option ℕ) (n : ℕ) → length pieces ≡ suc n → least (is_over demo_setup pieces) 1 (length pieces) ≡ o → session demo_setup pieces ≡ outcome_of (reading_of demo_setup (stream pieces))
  unfolding session
  by_least (Some m) n some e =
      let l = least_holds (is_over demo_setup pieces) (length pieces) 1 m e in
      let within : m ≤ length pieces = omega (arith, l.2) in
      let w = stops_at m (is_waiting (read_first demo_setup pieces m).stop) within refl l.0 in
      let outcome : session demo_setup pieces ≡ over_at demo_setup pieces m = rw (e, session) refl in
      outcome ∙ over_with m within ∙ same_outcome m w
  by_least None n some e =
      let last : is_over demo_setup pieces (1 + n) ≡ false = least_fails (is_over demo_setup pieces) n 1 (ap (least (is_over demo_setup pieces) 1) (sym some) ∙ e) in
      let over : is_over demo_setup pieces (length pieces) ≡ true = over_by (length pieces) false (omega arith) last_read in
      let same : 1 + n ≡ length pieces = omega (arith, some) in
      absurd (let q : true ≡ false = sym over ∙ ap (is_over demo_setup pieces) (sym same) ∙ last in cc)

  by_length : (n : ℕ) → length pieces ≡ n → session demo_setup pieces ≡ outcome_of (reading_of demo_setup (stream pieces))
  by_length zero e =
      let same : take 0 pieces ≡ pieces = take_all 0 pieces (omega (arith, e)) in
      absurd (nothing_ends pieces (ap (λ (ps : List Piece). is_waiting (reading_of demo_setup (stream ps)).stop) same ∙ ends))
  by_length (suc n) e = by_least (least (is_over demo_setup pieces) 1 (length pieces)) n e refl

-- ---- the pieces of the stream

no_handles : (size : ℕ) (bytes : List ℕ) (ks : List ℕ) (k : ℕ) → handle_count (take k (map (piece_at size bytes) ks)) ≡ 0
unfolding handle_count
no_handles size bytes ks zero = refl
no_handles size bytes [] (suc k) = refl
no_handles size bytes (i ∷ is) (suc k) = no_handles size bytes is k

few_pieces : (size : ℕ) (bytes : List ℕ) → length (cut size bytes) ≡ div_ceil (length bytes) size
unfolding cut
few_pieces size bytes = length-map _ (piece_at size bytes) ∙ length-range_with_len 0 (div_ceil (length bytes) size)

cut_handles : (size : ℕ) (bytes : List ℕ) (k : ℕ) → handle_count (take k (cut size bytes)) ≡ 0
unfolding cut
cut_handles size bytes k = no_handles size bytes _ k

-- of any number of groups that fits four bytes, and any first number: all messages are handled
pub all_handled : (groups start : ℕ) → groups < 2 ^ 32 → session demo_setup (generated groups start) ≡ record { handled = disconnect_message ∷ before_end groups start; answer = Disconnect }
unfolding reading_of
all_handled groups start small =
    let bytes = generated_bytes groups start in
    let pieces = cut 4096 bytes in
    let joined : stream pieces ≡ bytes = joined_again 4096 bytes (omega arith) in
    let whole : reading_of demo_setup (stream pieces) ≡ reading (disconnect_message ∷ before_end groups start) [] Ended = ap (read (judge demo_setup) []) joined ∙ whole_read groups start (omega (arith, small)) in
    let short = stream_short groups start in
    let times = div_ceil_times (length bytes) 4096 (omega arith) in
    let count = few_pieces 4096 bytes in
    by_length pieces (omega (arith, short, times.1, count, small)) (cut_handles 4096 bytes) (ap (λ (r : Reading Refusal). is_waiting r.stop) whole) (length pieces) refl
    ∙ ap outcome_of whole
    ∙ rw (ids_last groups start (omega (arith, small))) refl

-- and it ends with the disconnect
pub ends_by_disconnect : (groups start : ℕ) → groups < 2 ^ 32 → (session demo_setup (generated groups start)).answer ≡ Disconnect
ends_by_disconnect groups start small = ap (λ (o : Outcome). o.answer) (all_handled groups start small)
