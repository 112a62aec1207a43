-- What went out behind one flush more.
use Rattle.std.proofs.Common.{◌≡◌, ◌<◌, ◌≤◌, ℕ, zero, suc, ◌+◌, List, [], ◌∷◌, ◌++◌, take, drop, length, Option, Some, Ok, Err, refl, ap, sym, subst, ◌∙◌, append_assoc, arith}
use Rattle.std.proofs.lemmas.List.{append-nil, length-append, length-drop, drop-drop, take_all, drop_all}
use Rattle.std.proofs.lemmas.List.Elements.{All-nil, All-append, All-weaker}
use Rattle.std.proofs.Math.Seq.{take-add, take-append_seam, drop-append_seam}
use Rattle.ei_spec.specs.declared.handle.Handle.{Handle}
use Rattle.ei_spec.specs.Piece.{Piece}
use Rattle.ei_wire.specs.declared.error.FlushError.{FlushError}
use Rattle.ei_backend.specs.Outside.{SinkView, with_more}
use Rattle.ei_backend.specs.Outgoing.{HasBytes, IsLeftOf, IsPutOf, Flushes, beside, kept_beside, nothing, sent_front, unsent_after}
use Rattle.ei_iterator.specs.Sending.{all_of, to_send, sent_at, IsLeftOfOne, Puts, SentAll, SentFront, SentSome, but_newest, sent_bytes}

-- ---- lists, and what is beside them

piece_is : (a b : List ℕ) (h k : List Handle) → a ≡ b → h ≡ k → ◌≡◌ {A = Piece} (record { bytes = a; handles = h }) (record { bytes = b; handles = k })
piece_is a b h k e f = rw (e, f) refl

none_more : (held : Piece) → held ≡ with_more [] [] held
none_more held = piece_is held.bytes (held.bytes ++ []) held.handles (held.handles ++ []) (sym (append-nil held.bytes)) (sym (append-nil held.handles))

-- some bytes and handles, and then more bytes
more_more : (a b : List ℕ) (h : List Handle) (held : Piece) → with_more b [] (with_more a h held) ≡ with_more (a ++ b) h held
more_more a b h held = piece_is _ _ _ _ (append_assoc held.bytes a b) (append-nil (held.handles ++ h))

take_past : (a b : List ℕ) (n : ℕ) → take (length a + n) (a ++ b) ≡ a ++ take n b
take_past a b n = take-add (length a) n (a ++ b) ∙ (λ i. take-append_seam a b i ++ take n (drop-append_seam a b i))

drop_past : (a b : List ℕ) (n : ℕ) → drop (length a + n) (a ++ b) ≡ drop n b
drop_past a b n = sym (drop-drop n (length a) (a ++ b)) ∙ ap (drop n) (drop-append_seam a b)

no_length : (a : List ℕ) → length a ≡ 0 → a ≡ []
no_length [] e = refl
no_length (x ∷ a) e = absurd (omega (arith, e))

none_beside : (n : ℕ) → beside n [] ≡ []
none_beside zero = refl
none_beside (suc n) = refl

none_kept : (n : ℕ) → kept_beside n [] ≡ []
none_kept zero = refl
none_kept (suc n) = refl

-- all handles go out with all bytes, and some
beside_all : (a : List ℕ) (h : List Handle) (k : ℕ) → HasBytes a h → length a ≡ k → (n : ℕ) → beside (k + n) h ≡ h
beside_all a h k has e n = by (k + n) refl
  where
    by : (s : ℕ) → k + n ≡ s → beside s h ≡ h
    by zero z = sym (has (omega (arith, e, z)))
    by (suc s) z = refl

kept_all : (a : List ℕ) (h : List Handle) (k : ℕ) → HasBytes a h → length a ≡ k → (n : ℕ) → kept_beside (k + n) h ≡ []
kept_all a h k has e n = by (k + n) refl
  where
    by : (s : ℕ) → k + n ≡ s → kept_beside s h ≡ []
    by zero z = has (omega (arith, e, z))
    by (suc s) z = refl

-- what is left says how many bytes went out
same_count : (a : List ℕ) (i j : ℕ) → i < length a → j < length a → drop i a ≡ drop j a → i ≡ j
same_count a i j hi hj e =
    let li : length (drop i a) ≡ length (drop j a) = ap length e in
    omega (arith, hi, hj, li, length-drop i a, length-drop j a)

-- a front of it went out without the last byte: some is left
pub some_left : (n : ℕ) (waiting left : Piece) → n < length waiting.bytes → left ≡ unsent_after n waiting → 0 < length left.bytes
some_left n waiting left less is =
    let same : length left.bytes ≡ length (drop n waiting.bytes) = ap (λ (p : Piece). length p.bytes) is in
    omega (arith, same, less, length-drop n waiting.bytes)

module _ (w : Piece) where
  -- ---- what is to be sent

  -- behind one flush more
  to_send_then : (parts : List (List ℕ)) (made : List ℕ) → (to_send w (made ∷ parts)).bytes ≡ (to_send w parts).bytes ++ made
  to_send_then parts made = sym (append_assoc w.bytes (all_of parts) made)

  to_send_none : to_send w [] ≡ w
  to_send_none = piece_is (w.bytes ++ []) w.bytes w.handles w.handles (append-nil w.bytes) refl

  -- more flushes take no fewer bytes
  bytes_more : (parts : List (List ℕ)) (made : List ℕ) → sent_bytes w parts ≤ sent_bytes w (made ∷ parts)
  bytes_more [] made = omega arith
  bytes_more (l ∷ parts) made = omega (arith, ap length (to_send_then (l ∷ parts) made), length-append (to_send w (l ∷ parts)).bytes made)

  bytes_newest : (parts : List (List ℕ)) → sent_bytes w (but_newest parts) ≤ sent_bytes w parts
  bytes_newest [] = omega arith
  bytes_newest (made ∷ parts) = bytes_more parts made

  -- ---- each put

  no_puts : (told : Option (List Piece)) → Puts w [] told told
  no_puts told puts is = record { more = []; grown = is ∙ ap (λ (l : List Piece). Some l) (sym (append-nil puts)); each = All-nil (IsLeftOfOne w []) }

  puts_then : (parts : List (List ℕ)) (made : List ℕ) (x y z : Option (List Piece)) → Puts w parts x y → IsPutOf (sent_at w parts made) y z → Puts w (made ∷ parts) x z
  puts_then parts made x y z one other puts told = let p = one puts told in let q = other (puts ++ p.more) p.grown in record {
    more = p.more ++ q.more;
    grown = q.grown ∙ ap (λ (l : List Piece). Some l) (append_assoc puts p.more q.more);
    each = All-append (IsLeftOfOne w (made ∷ parts)) p.more q.more
        (All-weaker (IsLeftOfOne w parts) (IsLeftOfOne w (made ∷ parts))
        (λ put h. record { before = h.before; made = h.made; more = made ∷ h.more; is_one = ap (λ (l : List (List ℕ)). made ∷ l) h.is_one; left = h.left }) p.more p.each)
        (All-weaker (IsLeftOf (sent_at w parts made)) (IsLeftOfOne w (made ∷ parts)) (λ put left. record { before = parts; made = made; more = []; is_one = refl; left = left }) q.more q.each);
  }

  puts_of : (parts : List (List ℕ)) (x y : SinkView) (now : Piece) → SentAll w parts x y now → Puts w parts x.puts y.puts
  puts_of [] x y now h = subst (λ (s : SinkView). Puts w [] x.puts s.puts) (sym h.0) (no_puts x.puts)
  puts_of (m ∷ parts) x y now h = h.puts

  -- ---- a front that is all

  all_front : (parts : List (List ℕ)) (x y : SinkView) (now : Piece) → SentAll w parts x y now → SentFront w parts (sent_bytes w parts) x y now
  all_front [] x y now h = record {
    told = λ held is. ap (λ (s : SinkView). s.taken) h.0 ∙ is ∙ ap (λ (p : Piece). Some p) (none_more held);
    unsent = h.1 ∙ sym to_send_none;
    puts = puts_of [] x y now h;
  }
  all_front (m ∷ parts) x y now h =
      let bytes : List ℕ = (to_send w (m ∷ parts)).bytes in
      let shift : length bytes + 0 ≡ length bytes = omega arith in
      record {
        told = λ held is. h.told held is ∙ ap (λ (p : Piece). Some p) (λ i. with_more (sym (take_all (length bytes) bytes (omega arith)) i)
            (sym (subst (λ (k : ℕ). beside k w.handles ≡ w.handles) shift (beside_all bytes w.handles (length bytes) h.bytes refl 0)) i) held);
        unsent = h.unsent ∙ piece_is [] (drop (length bytes) bytes) [] (kept_beside (length bytes) w.handles) (sym (drop_all (length bytes) bytes (omega arith)))
            (sym (subst (λ (k : ℕ). kept_beside k w.handles ≡ []) shift (kept_all bytes w.handles (length bytes) h.bytes refl 0)));
        puts = h.puts;
      }

  -- all of it is some of it
  pub all_some : (parts : List (List ℕ)) (x y : SinkView) (now : Piece) → SentAll w parts x y now → SentSome w parts x y now
  all_some parts x y now h = record { n = sent_bytes w parts; front = all_front parts x y now h; least = bytes_newest parts }

  -- ---- one flush more

  module _ {K : Type 0} {view : K → SinkView} {later : K → K → Type 0} (parts : List (List ℕ)) (made : List ℕ) (x : SinkView) (y z : K) (waiting left : Piece) (waits : waiting ≡ sent_at w parts made) where
    -- all of it went out
    pub sent_then : (before : Piece) → SentAll w parts x (view y) before → Flushes view later (Ok tt) waiting left y z → SentAll w (made ∷ parts) x (view z) left
    sent_then before sent h = record {
      told = told_by parts waits sent;
      unsent = h.stops;
      puts = puts_then parts made x.puts (view y).puts (view z).puts (puts_of parts x (view y) before sent) (subst (λ (p : Piece). IsPutOf p (view y).puts (view z).puts) waits h.went.puts);
      bytes = bytes_by parts waits sent;
    }
      where
        told_by : (parts : List (List ℕ)) → waiting ≡ sent_at w parts made → SentAll w parts x (view y) before → (held : Piece) → x.taken ≡ Some held →
            (view z).taken ≡ Some (with_more (to_send w (made ∷ parts)).bytes w.handles held)
        told_by [] is sent held told = h.went.took held (ap (λ (s : SinkView). s.taken) sent.0 ∙ told) ∙ ap (λ (p : Piece). Some (with_more p.bytes p.handles held)) is
        told_by (l ∷ parts) is sent held told = h.went.took (with_more (to_send w (l ∷ parts)).bytes w.handles held) (sent.told held told)
            ∙ ap (λ (p : Piece). Some (with_more p.bytes p.handles (with_more (to_send w (l ∷ parts)).bytes w.handles held))) is
            ∙ ap (λ (p : Piece). Some p) (more_more (to_send w (l ∷ parts)).bytes made w.handles held)
            ∙ ap (λ (t : List ℕ). Some (with_more t w.handles held)) (sym (to_send_then (l ∷ parts) made))

        bytes_by : (parts : List (List ℕ)) → waiting ≡ sent_at w parts made → SentAll w parts x (view y) before → HasBytes (to_send w (made ∷ parts)).bytes w.handles
        bytes_by [] is sent none =
            let empty : waiting.bytes ≡ [] = no_length waiting.bytes (ap (λ (p : Piece). length p.bytes) is ∙ none) in
            let same : waiting ≡ nothing = sym (h.nothing empty).1 ∙ h.stops in
            ap (λ (p : Piece). p.handles) (sym is ∙ same)
        bytes_by (l ∷ parts) is sent none = sent.bytes (omega (arith, none, ap length (to_send_then (l ∷ parts) made), length-append (to_send w (l ∷ parts)).bytes made))

    -- or a front of it did
    pub sent_in_part : (e : FlushError) (before : Piece) → SentAll w parts x (view y) before → Flushes view later (Err e) waiting left y z → SentSome w (made ∷ parts) x (view z) left
    sent_in_part e before sent h = record {
      n = sent_bytes w parts + h.stops.0;
      front = record {
        told = told_by parts waits sent;
        unsent = h.stops.2 ∙ unsent_by parts waits sent;
        puts = puts_then parts made x.puts (view y).puts (view z).puts (puts_of parts x (view y) before sent) (subst (λ (p : Piece). IsPutOf p (view y).puts (view z).puts) waits h.went.puts);
      };
      least = omega arith;
    }
      where
        n : ℕ
        n = h.stops.0

        -- the sink that told has as much as isn't left
        took : (held : Piece) → (view y).taken ≡ Some held → (view z).taken ≡ Some (sent_front n waiting held)
        took held told =
            let t = h.went.took held told in
            let same : t.0 ≡ n = same_count waiting.bytes t.0 n t.1 h.stops.1 (ap (λ (p : Piece). p.bytes) (sym t.3 ∙ h.stops.2)) in
            t.2 ∙ ap (λ (k : ℕ). Some (sent_front k waiting held)) same

        told_by : (parts : List (List ℕ)) → waiting ≡ sent_at w parts made → SentAll w parts x (view y) before → (held : Piece) → x.taken ≡ Some held →
            (view z).taken ≡ Some (sent_front (sent_bytes w parts + n) (to_send w (made ∷ parts)) held)
        told_by [] is sent held told =
            let shift : n ≡ 0 + n = omega arith in
            took held (ap (λ (s : SinkView). s.taken) sent.0 ∙ told) ∙ (λ i. Some (sent_front (shift i) (is i) held))
        told_by (l ∷ parts) is sent held told =
            let a : List ℕ = (to_send w (l ∷ parts)).bytes in
            took (with_more a w.handles held) (sent.told held told)
            ∙ ap (λ (p : Piece). Some (sent_front n p (with_more a w.handles held))) is
            ∙ ap (λ (hs : List Handle). Some (with_more (take n made) hs (with_more a w.handles held))) (none_beside n)
            ∙ ap (λ (p : Piece). Some p) (more_more a (take n made) w.handles held)
            ∙ (λ i. Some (with_more ((sym (take_past a made n) ∙ ap (take (length a + n)) (sym (to_send_then (l ∷ parts) made))) i)
            (sym (beside_all a w.handles (length a) sent.bytes refl n) i) held))

        unsent_by : (parts : List (List ℕ)) → waiting ≡ sent_at w parts made → SentAll w parts x (view y) before → unsent_after n waiting ≡ unsent_after (sent_bytes w parts + n) (to_send w (made ∷ parts))
        unsent_by [] is sent =
            let shift : n ≡ 0 + n = omega arith in
            λ i. unsent_after (shift i) (is i)
        unsent_by (l ∷ parts) is sent =
            let a : List ℕ = (to_send w (l ∷ parts)).bytes in
            ap (unsent_after n) is ∙ piece_is (drop n made) (drop (length a + n) (to_send w (made ∷ l ∷ parts)).bytes) (kept_beside n []) (kept_beside (length a + n) w.handles)
            (sym (drop_past a made n) ∙ ap (drop (length a + n)) (sym (to_send_then (l ∷ parts) made)))
            (none_kept n ∙ sym (kept_all a w.handles (length a) sent.bytes refl n))
