-- What went out behind one message more.
use Rattle.std.proofs.Common.{◌≡◌, ◌<◌, ◌≤◌, ℕ, zero, suc, ◌+◌, List, [], ◌∷◌, ◌++◌, take, drop, length, Option, Some, Ok, Err, refl, ap, sym, subst, ◌∙◌, append_assoc, arith}
use Rattle.std.proofs.lemmas.List.{append-nil, length-append, length-drop, drop-drop, take_all, drop_all}
use Rattle.std.proofs.lemmas.Grind.{flat_map-append}
use Rattle.std.proofs.lemmas.List.Elements.{All-nil, All-append, All-weaker}
use Rattle.std.proofs.Math.Seq.{take-add, take-append_seam, drop-append_seam}
use Rattle.ei_spec.specs.declared.handle.Handle.{Handle}
use Rattle.ei_spec.specs.Message.{Raw, bytes_of, all_bytes}
use Rattle.ei_spec.specs.Piece.{Piece}
use Rattle.ei_wire.specs.declared.error.FlushError.{FlushError}
use Rattle.ei_backend.specs.Table.{found}
use Rattle.ei_backend.specs.Outside.{SinkView, with_more}
use Rattle.ei_backend.specs.Backend.{BackendView, unsent_of}
use Rattle.ei_backend.specs.Outgoing.{HasBytes, IsLeftOf, IsPutOf, Flushes, beside, kept_beside, nothing, sent_front, unsent_after}
use Rattle.ei_greeting.specs.Shaking.{Greeter, answers, answer_to, shake}
use Rattle.ei_blocking.specs.Sending.{to_send, answer_bytes, sent_at, IsLeftOfAnswer, PutsAnswers, SentAll, SentFront, sent_bytes}

-- ---- lists, and what is beside them

piece_is : (a b : List ℕ) (h k : List Handle) → a ≡ b → h ≡ k → ◌≡◌ {A = Piece} (record { bytes = a; handles = h }) (record { bytes = b; handles = k })
piece_is a b h k e f = rw (e, f) refl

none_more : (held : Piece) → held ≡ with_more [] [] held
none_more held = piece_is held.bytes (held.bytes ++ []) held.handles (held.handles ++ []) (sym (append-nil held.bytes)) (sym (append-nil held.handles))

-- some bytes and handles, and then more bytes
more_more : (a b : List ℕ) (h : List Handle) (held : Piece) → with_more b [] (with_more a h held) ≡ with_more (a ++ b) h held
more_more a b h held = piece_is _ _ _ _ (append_assoc held.bytes a b) (append-nil (held.handles ++ h))

take_past : (a b : List ℕ) (n : ℕ) → take (length a + n) (a ++ b) ≡ a ++ take n b
take_past a b n = take-add (length a) n (a ++ b) ∙ (λ i. take-append_seam a b i ++ take n (drop-append_seam a b i))

drop_past : (a b : List ℕ) (n : ℕ) → drop (length a + n) (a ++ b) ≡ drop n b
drop_past a b n = sym (drop-drop n (length a) (a ++ b)) ∙ ap (drop n) (drop-append_seam a b)

no_length : (a : List ℕ) → length a ≡ 0 → a ≡ []
no_length [] e = refl
no_length (x ∷ a) e = absurd (omega (arith, e))

none_beside : (n : ℕ) → beside n [] ≡ []
none_beside zero = refl
none_beside (suc n) = refl

none_kept : (n : ℕ) → kept_beside n [] ≡ []
none_kept zero = refl
none_kept (suc n) = refl

-- all handles go out with all bytes, and some
beside_all : (a : List ℕ) (h : List Handle) (k : ℕ) → HasBytes a h → length a ≡ k → (n : ℕ) → beside (k + n) h ≡ h
beside_all a h k has e n = by (k + n) refl
  where
    by : (s : ℕ) → k + n ≡ s → beside s h ≡ h
    by zero z = sym (has (omega (arith, e, z)))
    by (suc s) z = refl

kept_all : (a : List ℕ) (h : List Handle) (k : ℕ) → HasBytes a h → length a ≡ k → (n : ℕ) → kept_beside (k + n) h ≡ []
kept_all a h k has e n = by (k + n) refl
  where
    by : (s : ℕ) → k + n ≡ s → kept_beside s h ≡ []
    by zero z = has (omega (arith, e, z))
    by (suc s) z = refl

-- what is left says how many bytes went out
same_count : (a : List ℕ) (i j : ℕ) → i < length a → j < length a → drop i a ≡ drop j a → i ≡ j
same_count a i j hi hj e =
    let li : length (drop i a) ≡ length (drop j a) = ap length e in
    omega (arith, hi, hj, li, length-drop i a, length-drop j a)

joined_bytes : (a b : List Raw) → all_bytes (a ++ b) ≡ all_bytes a ++ all_bytes b
joined_bytes a b = flat_map-append bytes_of a b

-- a front of it went out without the last byte: some is left
pub some_left : (n : ℕ) (waiting left : Piece) → n < length waiting.bytes → left ≡ unsent_after n waiting → 0 < length left.bytes
some_left n waiting left less is =
    let same : length left.bytes ≡ length (drop n waiting.bytes) = ap (λ (p : Piece). length p.bytes) is in
    omega (arith, same, less, length-drop n waiting.bytes)

module _ (g : Greeter) (b : BackendView) where
  -- ---- what is to be sent

  -- behind one message more
  to_send_then : (past : List Raw) (m : Raw) → (to_send g b (m ∷ past)).bytes ≡ (to_send g b past).bytes ++ answer_bytes g b m
  unfolding answers
  to_send_then past m = ap (λ (x : List ℕ). b.unsent ++ x) (joined_bytes (answers g (found b.table) b past) (answer_to g (found b.table m.id) (shake (found b.table) b m)))
      ∙ sym (append_assoc b.unsent (all_bytes (answers g (found b.table) b past)) (answer_bytes g b m))

  to_send_first : (m : Raw) → to_send g b (m ∷ []) ≡ sent_at g b [] m
  unfolding answers
  to_send_first m = refl

  to_send_none : to_send g b [] ≡ unsent_of b
  unfolding answers
  to_send_none = piece_is (b.unsent ++ []) b.unsent b.unsent_handles b.unsent_handles (append-nil b.unsent) refl

  -- more messages take no fewer bytes
  bytes_more : (past : List Raw) (m : Raw) → sent_bytes g b past ≤ sent_bytes g b (m ∷ past)
  bytes_more [] m = omega arith
  bytes_more (l ∷ past) m = omega (arith, ap length (to_send_then (l ∷ past) m), length-append (to_send g b (l ∷ past)).bytes (answer_bytes g b m))

  pub bytes_grow : (behind past : List Raw) → sent_bytes g b past ≤ sent_bytes g b (behind ++ past)
  bytes_grow [] past = omega arith
  bytes_grow (m ∷ behind) past = omega (arith, bytes_grow behind past, bytes_more (behind ++ past) m)

  -- ---- each put

  no_puts : (told : Option (List Piece)) → PutsAnswers g b [] told told
  no_puts told puts is = record { more = []; grown = is ∙ ap (λ (l : List Piece). Some l) (sym (append-nil puts)); each = All-nil (IsLeftOfAnswer g b []) }

  puts_then : (past : List Raw) (m : Raw) (x y z : Option (List Piece)) → PutsAnswers g b past x y → IsPutOf (sent_at g b past m) y z → PutsAnswers g b (m ∷ past) x z
  puts_then past m x y z one other puts told = let p = one puts told in let q = other (puts ++ p.more) p.grown in record {
    more = p.more ++ q.more;
    grown = q.grown ∙ ap (λ (l : List Piece). Some l) (append_assoc puts p.more q.more);
    each = All-append (IsLeftOfAnswer g b (m ∷ past)) p.more q.more
        (All-weaker (IsLeftOfAnswer g b past) (IsLeftOfAnswer g b (m ∷ past))
        (λ put h. record { before = h.before; m = h.m; more = m ∷ h.more; is_one = ap (λ (l : List Raw). m ∷ l) h.is_one; left = h.left }) p.more p.each)
        (All-weaker (IsLeftOf (sent_at g b past m)) (IsLeftOfAnswer g b (m ∷ past)) (λ put left. record { before = past; m = m; more = []; is_one = refl; left = left }) q.more q.each);
  }

  pub puts_of : (past : List Raw) (x y : SinkView) (now : BackendView) → SentAll g b past x y now → PutsAnswers g b past x.puts y.puts
  puts_of [] x y now h = subst (λ (s : SinkView). PutsAnswers g b [] x.puts s.puts) (sym h.0) (no_puts x.puts)
  puts_of (m ∷ past) x y now h = h.puts

  -- ---- a front that is all

  pub all_front : (past : List Raw) (x y : SinkView) (now : BackendView) → SentAll g b past x y now → SentFront g b past (sent_bytes g b past) x y now
  all_front [] x y now h = record {
    told = λ held is. ap (λ (s : SinkView). s.taken) h.0 ∙ is ∙ ap (λ (p : Piece). Some p) (none_more held);
    unsent = h.1 ∙ sym to_send_none;
    puts = puts_of [] x y now h;
  }
  all_front (m ∷ past) x y now h =
      let bytes : List ℕ = (to_send g b (m ∷ past)).bytes in
      let shift : length bytes + 0 ≡ length bytes = omega arith in
      record {
        told = λ held is. h.told held is ∙ ap (λ (p : Piece). Some p) (λ i. with_more (sym (take_all (length bytes) bytes (omega arith)) i)
            (sym (subst (λ (k : ℕ). beside k b.unsent_handles ≡ b.unsent_handles) shift (beside_all bytes b.unsent_handles (length bytes) h.bytes refl 0)) i) held);
        unsent = h.unsent ∙ piece_is [] (drop (length bytes) bytes) [] (kept_beside (length bytes) b.unsent_handles) (sym (drop_all (length bytes) bytes (omega arith)))
            (sym (subst (λ (k : ℕ). kept_beside k b.unsent_handles ≡ []) shift (kept_all bytes b.unsent_handles (length bytes) h.bytes refl 0)));
        puts = h.puts;
      }

  -- ---- one message more

  module _ {K : Type 0} {view : K → SinkView} {later : K → K → Type 0} (past : List Raw) (m : Raw) (x : SinkView) (y z : K) (waiting left : Piece) (waits : waiting ≡ sent_at g b past m) where
    -- all of it went out
    pub sent_then : (before now : BackendView) → SentAll g b past x (view y) before → Flushes view later (Ok tt) waiting left y z → unsent_of now ≡ left → SentAll g b (m ∷ past) x (view z) now
    sent_then before now sent h unsent = record {
      told = told_by past waits sent;
      unsent = unsent ∙ h.stops;
      puts = puts_then past m x.puts (view y).puts (view z).puts (puts_of past x (view y) before sent) (subst (λ (p : Piece). IsPutOf p (view y).puts (view z).puts) waits h.went.puts);
      bytes = bytes_by past waits sent;
    }
      where
        told_by : (past : List Raw) → waiting ≡ sent_at g b past m → SentAll g b past x (view y) before → (held : Piece) → x.taken ≡ Some held →
            (view z).taken ≡ Some (with_more (to_send g b (m ∷ past)).bytes b.unsent_handles held)
        told_by [] is sent held told = h.went.took held (ap (λ (s : SinkView). s.taken) sent.0 ∙ told) ∙ ap (λ (p : Piece). Some (with_more p.bytes p.handles held)) (is ∙ sym (to_send_first m))
        told_by (l ∷ past) is sent held told = h.went.took (with_more (to_send g b (l ∷ past)).bytes b.unsent_handles held) (sent.told held told)
            ∙ ap (λ (p : Piece). Some (with_more p.bytes p.handles (with_more (to_send g b (l ∷ past)).bytes b.unsent_handles held))) is
            ∙ ap (λ (p : Piece). Some p) (more_more (to_send g b (l ∷ past)).bytes (answer_bytes g b m) b.unsent_handles held)
            ∙ ap (λ (t : List ℕ). Some (with_more t b.unsent_handles held)) (sym (to_send_then (l ∷ past) m))

        bytes_by : (past : List Raw) → waiting ≡ sent_at g b past m → SentAll g b past x (view y) before → HasBytes (to_send g b (m ∷ past)).bytes b.unsent_handles
        bytes_by [] is sent none =
            let all : waiting ≡ to_send g b (m ∷ []) = is ∙ sym (to_send_first m) in
            let empty : waiting.bytes ≡ [] = no_length waiting.bytes (ap (λ (p : Piece). length p.bytes) all ∙ none) in
            let same : waiting ≡ nothing = sym (h.nothing empty).1 ∙ h.stops in
            ap (λ (p : Piece). p.handles) (sym all ∙ same)
        bytes_by (l ∷ past) is sent none = sent.bytes (omega (arith, none, ap length (to_send_then (l ∷ past) m), length-append (to_send g b (l ∷ past)).bytes (answer_bytes g b m)))

    -- or a front of it did
    pub sent_in_part : (e : FlushError) (before now : BackendView) → SentAll g b past x (view y) before → Flushes view later (Err e) waiting left y z → unsent_of now ≡ left →
        (n : ℕ) × SentFront g b (m ∷ past) (sent_bytes g b past + n) x (view z) now
    sent_in_part e before now sent h unsent = (
      h.stops.0,
      record {
        told = told_by past waits sent;
        unsent = unsent ∙ h.stops.2 ∙ unsent_by past waits sent;
        puts = puts_then past m x.puts (view y).puts (view z).puts (puts_of past x (view y) before sent) (subst (λ (p : Piece). IsPutOf p (view y).puts (view z).puts) waits h.went.puts);
      },
    )
      where
        n : ℕ
        n = h.stops.0

        -- the sink that told has as much as isn't left
        took : (held : Piece) → (view y).taken ≡ Some held → (view z).taken ≡ Some (sent_front n waiting held)
        took held told =
            let w = h.went.took held told in
            let same : w.0 ≡ n = same_count waiting.bytes w.0 n w.1 h.stops.1 (ap (λ (p : Piece). p.bytes) (sym w.3 ∙ h.stops.2)) in
            w.2 ∙ ap (λ (k : ℕ). Some (sent_front k waiting held)) same

        told_by : (past : List Raw) → waiting ≡ sent_at g b past m → SentAll g b past x (view y) before → (held : Piece) → x.taken ≡ Some held →
            (view z).taken ≡ Some (sent_front (sent_bytes g b past + n) (to_send g b (m ∷ past)) held)
        told_by [] is sent held told =
            let shift : n ≡ 0 + n = omega arith in
            took held (ap (λ (s : SinkView). s.taken) sent.0 ∙ told) ∙ (λ i. Some (sent_front (shift i) ((is ∙ sym (to_send_first m)) i) held))
        told_by (l ∷ past) is sent held told =
            let a : List ℕ = (to_send g b (l ∷ past)).bytes in
            let w : List ℕ = answer_bytes g b m in
            took (with_more a b.unsent_handles held) (sent.told held told)
            ∙ ap (λ (p : Piece). Some (sent_front n p (with_more a b.unsent_handles held))) is
            ∙ ap (λ (hs : List Handle). Some (with_more (take n w) hs (with_more a b.unsent_handles held))) (none_beside n)
            ∙ ap (λ (p : Piece). Some p) (more_more a (take n w) b.unsent_handles held)
            ∙ (λ i. Some (with_more ((sym (take_past a w n) ∙ ap (take (length a + n)) (sym (to_send_then (l ∷ past) m))) i)
            (sym (beside_all a b.unsent_handles (length a) sent.bytes refl n) i) held))

        unsent_by : (past : List Raw) → waiting ≡ sent_at g b past m → SentAll g b past x (view y) before → unsent_after n waiting ≡ unsent_after (sent_bytes g b past + n) (to_send g b (m ∷ past))
        unsent_by [] is sent =
            let shift : n ≡ 0 + n = omega arith in
            λ i. unsent_after (shift i) ((is ∙ sym (to_send_first m)) i)
        unsent_by (l ∷ past) is sent =
            let a : List ℕ = (to_send g b (l ∷ past)).bytes in
            let w : List ℕ = answer_bytes g b m in
            ap (unsent_after n) is ∙ piece_is (drop n w) (drop (length a + n) (to_send g b (m ∷ l ∷ past)).bytes) (kept_beside n []) (kept_beside (length a + n) b.unsent_handles)
            (sym (drop_past a w n) ∙ ap (drop (length a + n)) (sym (to_send_then (l ∷ past) m)))
            (none_kept n ∙ sym (kept_all a b.unsent_handles (length a) sent.bytes refl n))
