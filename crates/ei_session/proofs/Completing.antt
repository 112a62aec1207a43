-- Valid pieces within the limits come to a good end.
use Rattle.std.proofs.Common.{◌≡◌, ℕ, zero, suc, ◌+◌, ◌<◌, ◌≤◌, Bool, true, false, not, cond, ltb, List, [], ◌++◌, length, take, drop, Option, Some, None, refl}
use Rattle.std.proofs.Common.{sym, ap, subst, ◌∙◌, arith, inl, inr}
use Rattle.std.specs.Prelude.{unwrap_or}
use Rattle.std.proofs.lemmas.Bool.{le-ltb, cases_lt}
use Rattle.std.proofs.lemmas.List.{take-take, take-append-drop}
use Rattle.std.proofs.lemmas.List.Sums.{sum_by-append}
use Rattle.std.proofs.lemmas.Grind.{flat_map-append}
use Rattle.ei_spec.specs.Message.{Raw, front}
use Rattle.ei_spec.specs.Piece.{Piece, stream, handle_count}
use Rattle.ei_spec.specs.Stream.{Stop, Waiting, Ended, HeaderLength, Refusal as RefusedStop, Reading, reading, read, read_within, go_on}
use Rattle.ei_spec.proofs.GoesOn as goes_on
use Rattle.ei_session.specs.Setup.{Setup}
use Rattle.ei_session.specs.Refusals.{Refusal, judge}
use Rattle.ei_session.specs.Served.{least, too_many_handles}
use Rattle.ei_session.specs.Served.{Disconnect, IdsExhausted, reading_of, read_first, ran_out, is_waiting, is_over, over_at, answer_of, IsGood, Outcome}
use Rattle.ei_session.specs.Served.{session, reading_of, read_first, is_over, over_at}
use Rattle.ei_session.specs.Complete.{is_left, disconnects, needed, AreComplete}
use Rattle.ei_session.proofs.Choices.{not_both}
use Rattle.ei_session.proofs.Least.{least_none, least_some}
use Rattle.ei_session.proofs.AllParts.{session_over, session_end}

-- ---- the least number that passes

pub record IsLeast (test : ℕ → Bool) (k n m : ℕ) : Type 0 where
  pub passes : test m ≡ true
  pub low : k ≤ m
  pub high : m < k + n
  pub first : (j : ℕ) → k ≤ j → j < m → test j ≡ false

least_is : (test : ℕ → Bool) (n k m : ℕ) → least test k n ≡ Some m → IsLeast test k n m
unfolding least
least_is test zero k m h = absurd cc
least_is test (suc n) k m h = by (test k) refl h (least_is test n (k + 1) m)
  where
    one : (a b : ℕ) → Some a ≡ Some b → a ≡ b
    one a b e = cc

    later : IsLeast test (k + 1) n m → test k ≡ false → (j : ℕ) → k ≤ j → j < m → test j ≡ false
    later l f j a b = elim (cases_lt k j) [ inl lt ↦ l.first j (omega (arith, lt)) b | inr ge ↦ let same : j ≡ k = omega (arith, a, ge) in ap test same ∙ f ]

    by : (b : Bool) → test k ≡ b → least test k (suc n) ≡ Some m → (least test (k + 1) n ≡ Some m → IsLeast test (k + 1) n m) → IsLeast test k (suc n) m
    by true e h next =
        let same : k ≡ m = one k m (sym (rw (e, least) refl) ∙ h) in
        record { passes = ap test (sym same) ∙ e; low = omega (arith, same); high = omega (arith, same); first = λ j a b. absurd (omega (arith, a, b, same)) }
    by false e h next =
        let l = next (sym (rw (e, least) refl) ∙ h) in
        record { passes = l.passes; low = omega (arith, l.low); high = omega (arith, l.high); first = later l e }

least_not : (test : ℕ → Bool) (n k : ℕ) → least test k n ≡ None → (j : ℕ) → k ≤ j → j < k + n → test j ≡ false
unfolding least
least_not test zero k h j a b = absurd (omega (arith, a, b))
least_not test (suc n) k h j a b = by (test k) refl h (least_not test n (k + 1))
  where
    by : (c : Bool) → test k ≡ c → least test k (suc n) ≡ None → (least test (k + 1) n ≡ None → (j : ℕ) → k + 1 ≤ j → j < k + 1 + n → test j ≡ false) → test j ≡ false
    by true e h next = let q : Some k ≡ None = sym (rw (e, least) refl) ∙ h in absurd cc
    by false e h next = elim (cases_lt k j) [ inl lt ↦ next (sym (rw (e, least) refl) ∙ h) j (omega (arith, lt)) (omega (arith, b)) | inr ge ↦ let same : j ≡ k = omega (arith, a, ge) in ap test same ∙ e ]

-- ---- more pieces

stream_append : (a b : List Piece) → stream (a ++ b) ≡ stream a ++ stream b
unfolding stream
stream_append a b = flat_map-append (λ (p : Piece). p.bytes) a b

count_append : (a b : List Piece) → handle_count (a ++ b) ≡ handle_count a + handle_count b
unfolding handle_count
count_append a b = sum_by-append (λ (p : Piece). length p.handles) a b

take_more : (pieces : List Piece) (j k : ℕ) → j ≤ k → (more : List Piece) × (take k pieces ≡ take j pieces ++ more)
take_more pieces j k le = (drop j (take k pieces), sym (take-append-drop j (take k pieces)) ∙ ap (λ (x : List Piece). x ++ drop j (take k pieces)) (take-take j k pieces le))

fewer_handles : (pieces : List Piece) (j k : ℕ) → j ≤ k → handle_count (take j pieces) ≤ handle_count (take k pieces)
fewer_handles pieces j k le = let t = take_more pieces j k le in omega (arith, ap handle_count t.1, count_append (take j pieces) t.0)

kept_at : (setup : Setup) (s : Stop Refusal) (past : List Raw) (rest more : List ℕ) → is_waiting s ≡ false → go_on (judge setup) (reading past rest s) more ≡ reading past (rest ++ more) s
unfolding go_on
kept_at setup Waiting past rest more w = absurd cc
kept_at setup Ended past rest more w = refl
kept_at setup (HeaderLength n) past rest more w = refl
kept_at setup (RefusedStop e) past rest more w = refl

-- where reading stopped for good, more pieces change neither the messages nor the stop
pub record Stays (a b : Reading Refusal) : Type 0 where
  pub stop : b.stop ≡ a.stop
  pub past : b.past ≡ a.past

stays_by : (setup : Setup) (bytes more : List ℕ) → is_waiting (reading_of setup bytes).stop ≡ false → Stays (reading_of setup bytes) (reading_of setup (bytes ++ more))
unfolding reading_of
stays_by setup bytes more w =
    let r = read (judge setup) [] bytes in
    let e = goes_on.cut (judge setup) [] bytes more ∙ kept_at setup r.stop r.past r.rest more w in
    record { stop = ap (λ (x : Reading Refusal). x.stop) e; past = ap (λ (x : Reading Refusal). x.past) e }

stays : (setup : Setup) (pieces : List Piece) (j k : ℕ) → j ≤ k → is_waiting (read_first setup pieces j).stop ≡ false → Stays (read_first setup pieces j) (read_first setup pieces k)
unfolding read_first
stays setup pieces j k le w =
    let t = take_more pieces j k le in
    subst (λ (x : List ℕ). Stays (reading_of setup (stream (take j pieces))) (reading_of setup x)) (sym (ap stream t.1 ∙ stream_append (take j pieces) t.0)) (stays_by setup (stream (take j pieces)) (stream t.0) w)

-- ---- whether the session is over

module _ (setup : Setup) (pieces : List Piece) (k : ℕ) (few : k ≤ setup.pieces) (handles : handle_count (take k pieces) ≤ 4096) where
  few_at : (j : ℕ) → j ≤ k → ltb setup.pieces j ≡ false
  few_at j le = le-ltb setup.pieces j (omega (arith, few))

  handles_at : (j : ℕ) → j ≤ k → too_many_handles pieces j ≡ false
  unfolding too_many_handles
  handles_at j le = le-ltb 4096 (handle_count (take j pieces)) (omega (arith, handles, fewer_handles pieces j k le))

  over_by : (j : ℕ) (w : Bool) → j ≤ k → is_waiting (read_first setup pieces j).stop ≡ w → is_over setup pieces j ≡ not w
  unfolding is_over
  over_by j w le e = rw (few_at j le, handles_at j le, e) refl

  answered_at : over_at setup pieces k ≡ record { handled = (read_first setup pieces k).past; answer = answer_of (read_first setup pieces k).stop (read_first setup pieces k).past }
  unfolding over_at
  answered_at = rw (few_at k (omega arith), handles_at k (omega arith)) refl

waits_before : (setup : Setup) (pieces : List Piece) (j k : ℕ) → j ≤ k → disconnects setup pieces j ≡ false → disconnects setup pieces k ≡ true → is_waiting (read_first setup pieces j).stop ≡ true
unfolding disconnects
waits_before setup pieces j k le n y = by (is_waiting (read_first setup pieces j).stop) refl
  where
    by : (b : Bool) → is_waiting (read_first setup pieces j).stop ≡ b → b ≡ true
    by true e = refl
    by false e =
        let s = stays setup pieces j k le e in
        let same : is_left (read_first setup pieces k).stop (read_first setup pieces k).past ≡ is_left (read_first setup pieces j).stop (read_first setup pieces j).past = ap (λ (x : Stop Refusal). is_left x (read_first setup pieces k).past) s.stop ∙ ap (λ (x : List Raw). is_left (read_first setup pieces j).stop x) s.past in
        absurd (not_both _ y (same ∙ n))

left_ended : (s : Stop Refusal) (past : List Raw) → is_left s past ≡ true → is_waiting s ≡ false
left_ended Waiting past h = absurd cc
left_ended Ended past h = refl
left_ended (HeaderLength n) past h = refl
left_ended (RefusedStop e) past h = refl

left_stops : (setup : Setup) (pieces : List Piece) (k : ℕ) → disconnects setup pieces k ≡ true → is_waiting (read_first setup pieces k).stop ≡ false
unfolding disconnects
left_stops setup pieces k h = left_ended (read_first setup pieces k).stop (read_first setup pieces k).past h

-- a stream that ended with no disconnect ran out of ids
ran_bad : (past : List Raw) (b : Bool) → ran_out past ≡ b → not (ran_out past) ≡ false → IsGood (cond (ran_out past) IdsExhausted Disconnect) → ⊥
ran_bad past true e h g = rw e at g
ran_bad past false e h g = not_both true refl (rw e at h)

-- a good end is a disconnect, or all was taken
good_waits : (s : Stop Refusal) (past : List Raw) → IsGood (answer_of s past) → is_left s past ≡ false → s ≡ Waiting
good_waits Waiting past g h = refl
good_waits Ended past g h = absurd (ran_bad past (ran_out past) refl h g)
good_waits (HeaderLength n) past g h = absurd g
good_waits (RefusedStop e) past g h = absurd g

nothing_read : (setup : Setup) (pieces : List Piece) → (read_first setup pieces 0).stop ≡ Waiting
unfolding read_first reading_of read read_within front stream
nothing_read setup pieces = refl

-- the outcome of such pieces
pub record Ends (setup : Setup) (pieces : List Piece) (k : ℕ) : Type 0 where
  pub good : IsGood (session setup pieces).answer
  pub handled : (session setup pieces).handled ≡ (read_first setup pieces k).past

module _ (setup : Setup) (pieces : List Piece) where
  ends_left : (k : ℕ) → IsLeast (disconnects setup pieces) 1 (length pieces) k → k ≤ setup.pieces → handle_count (take k pieces) ≤ 4096 → IsGood (answer_of (read_first setup pieces k).stop (read_first setup pieces k).past) → Ends setup pieces k
  ends_left k l few handles g =
      let goes_on_at : (j : ℕ) → 1 ≤ j → j < k → is_over setup pieces j ≡ false = λ j a b. over_by setup pieces k few handles j true (omega (arith, b)) (waits_before setup pieces j k (omega (arith, b)) (l.first j a b) l.passes) in
      let over = over_by setup pieces k few handles k false (omega arith) (left_stops setup pieces k l.passes) in
      let e = session_over setup pieces k l.low (omega (arith, l.high)) goes_on_at over ∙ answered_at setup pieces k few handles in
      record { good = subst (λ (o : Outcome). IsGood o.answer) (sym e) g; handled = ap (λ (o : Outcome). o.handled) e }

  all_wait : (n : ℕ) → ((j : ℕ) → 1 ≤ j → j < 1 + n → disconnects setup pieces j ≡ false) → IsGood (answer_of (read_first setup pieces n).stop (read_first setup pieces n).past) → (read_first setup pieces n).stop ≡ Waiting
  unfolding disconnects
  all_wait zero none g = nothing_read setup pieces
  all_wait (suc n) none g = good_waits _ _ g (none (suc n) (omega arith) (omega arith))

  earlier_waits : (j n : ℕ) → j ≤ n → (read_first setup pieces n).stop ≡ Waiting → is_waiting (read_first setup pieces j).stop ≡ true
  earlier_waits j n le w = by (is_waiting (read_first setup pieces j).stop) refl
    where
      by : (b : Bool) → is_waiting (read_first setup pieces j).stop ≡ b → b ≡ true
      by true e = refl
      by false e = let s = stays setup pieces j n le e in absurd (not_both true refl (sym (ap is_waiting (sym s.stop ∙ w)) ∙ e))

  ends_all : ((j : ℕ) → 1 ≤ j → j < 1 + length pieces → disconnects setup pieces j ≡ false) → length pieces ≤ setup.pieces → handle_count (take (length pieces) pieces) ≤ 4096 → IsGood (answer_of (read_first setup pieces (length pieces)).stop (read_first setup pieces (length pieces)).past) → Ends setup pieces (length pieces)
  ends_all none few handles g =
      let n = length pieces in
      let waits = all_wait n none g in
      let waits_at : (j : ℕ) → j ≤ n → is_waiting (read_first setup pieces j).stop ≡ true = λ j le. earlier_waits j n le waits in
      let goes_on_at : (j : ℕ) → 1 ≤ j → j ≤ n → is_over setup pieces j ≡ false = λ j a b. over_by setup pieces n few handles j true b (waits_at j b) in
      let e = session_end setup pieces goes_on_at in
      let g2 : IsGood (answer_of Waiting (read_first setup pieces n).past) = subst (λ (s : Stop Refusal). IsGood (answer_of s (read_first setup pieces n).past)) waits g in
      record { good = subst (λ (o : Outcome). IsGood o.answer) (sym e) g2; handled = ap (λ (o : Outcome). o.handled) e }

  good_first : (k : ℕ) → IsGood (answer_of (reading_of setup (stream (take k pieces))).stop (reading_of setup (stream (take k pieces))).past) → IsGood (answer_of (read_first setup pieces k).stop (read_first setup pieces k).past)
  unfolding read_first
  good_first k g = g

  ends_by : (o : Option ℕ) → least (disconnects setup pieces) 1 (length pieces) ≡ o → unwrap_or o (length pieces) ≤ setup.pieces → handle_count (take (unwrap_or o (length pieces)) pieces) ≤ 4096 → IsGood (answer_of (read_first setup pieces (unwrap_or o (length pieces))).stop (read_first setup pieces (unwrap_or o (length pieces))).past) → Ends setup pieces (unwrap_or o (length pieces))
  ends_by (Some k) e few handles g = ends_left k (least_is (disconnects setup pieces) (length pieces) 1 k e) few handles g
  ends_by None e few handles g = ends_all (least_not (disconnects setup pieces) (length pieces) 1 e) few handles g

  pub complete_ends : AreComplete setup pieces → Ends setup pieces (needed setup pieces)
  unfolding needed
  complete_ends c = ends_by (least (disconnects setup pieces) 1 (length pieces)) refl c.few c.handles (good_first (needed setup pieces) c.valid)

  pub needed_some : (k : ℕ) → 1 ≤ k → k ≤ length pieces → ((j : ℕ) → 1 ≤ j → j < k → disconnects setup pieces j ≡ false) → disconnects setup pieces k ≡ true → needed setup pieces ≡ k
  unfolding needed
  needed_some k low high none y = rw (least_some (disconnects setup pieces) 1 (length pieces) k low (omega (arith, high)) none y) refl

  pub needed_all : ((j : ℕ) → 1 ≤ j → j ≤ length pieces → disconnects setup pieces j ≡ false) → needed setup pieces ≡ length pieces
  unfolding needed
  needed_all none = rw (least_none (disconnects setup pieces) 1 (length pieces) (λ j a b. none j a (omega (arith, b)))) refl
