-- The bad line among the bytes that an input gave, whatever it tells of its text.
use Rattle.std.proofs.Common.{◌≡◌, ◌<◌, ◌≤◌, ◌⊎◌, inl, inr, ℕ, zero, suc, ◌+◌, ◌-◌, List, [], ◌∷◌, ◌++◌, length, take, get_or, map, refl, ap, sym, ◌∙◌, subst}
use Rattle.std.proofs.Common.{arith, Some, length-append}
use Rattle.std.proofs.lemmas.List.{append-nil, length-map, length-take-le}
use Rattle.std.proofs.Math.Seq.{get_or-append_seam}
use Rattle.std.specs.Prelude.{◌==◌, Bool, true, false, if◌then◌else◌}
use Rattle.std.specs.Option.{option_map}
use Rattle.ei_spec.specs.Piece.{Piece}
use Rattle.ei_backend.specs.Outside.{is_end}
use Rattle.reis_lines.specs.Input.{Fetched, InputView}
use Rattle.reis_lines.specs.Asking.{given_in, says_end, last_is, fetches_since}
use Rattle.reis_lines.specs.Text.{has_newline, before_newline, onto, split, Spell, bad_line_of, whole_lines}
use Rattle.reis_lines.specs.Given.{given_since, line_at, HasBadLine, MetBadLine}
use Rattle.reis_lines.specs.HexSource.{Reading, fresh, joined_lines, AreLines, KnowsEnd, HoldsBadLine, WantsLine, LaterReading}
use Rattle.reis_lines.specs.Lent.{LentInput}
use Rattle.reis_lines.specs.Taken.{GaveLines}
use Rattle.reis_lines.proofs.TextLaws.{split_all}
use Rattle.reis_lines.proofs.GaveLaws.{since_is, since_gave}
use Rattle.reis_lines.proofs.AskingLaws.{answers_since}
use Rattle.reis_lines.proofs.GivenLaws.{AreEnded, split_lines, whole_of, not_ended}
use Rattle.reis_lines.proofs.ToldLaws.{bad_on, bad_first, newline_at, split_before}

-- lines in front of some bytes have their newlines
ended_before : (ls : List (List ℕ)) (rest : List ℕ) (ended : Bool) → AreLines ls rest ended → 0 < length rest → AreEnded ls
ended_before [] rest ended w some = tt
ended_before (l ∷ ls) rest ended (inl w) some = (w.0, ended_before ls rest ended w.1 some)
ended_before (l ∷ ls) rest ended (inr w) some = absurd (omega (arith, ap length w.3))

some_onto : (a : List ℕ) (ls : List (List ℕ)) → 0 < length (onto a ls)
some_onto a [] = omega arith
some_onto a (l ∷ ls) = omega arith

some_if : (t : Bool) (u v : List (List ℕ)) → 0 < length u → 0 < length v → 0 < length (if t then u else v)
some_if true u v p q = p
some_if false u v p q = q

-- each text has a line
some_line : (t : List ℕ) → 0 < length (split t)
some_line [] = omega arith
some_line (b ∷ bs) = some_if (b == 10) ([] ∷ split bs) (onto (b ∷ []) (split bs)) (omega arith) (some_onto (b ∷ []) (split bs))

-- and one with a newline has two
two_lines : (t : List ℕ) → has_newline t ≡ true → 2 ≤ length (split t)
two_lines t has =
    let r = newline_at t has in
    let lines : split t ≡ before_newline t ∷ split (r.0 ++ []) = ap split (sym (append-nil t)) ∙ split_before t r.0 [] r.1 in
    omega (arith, ap length lines, some_line (r.0 ++ []))

whole_count : (t : List ℕ) → length (whole_lines t) ≡ length (split t) - 1
whole_count t = length-take-le (length (split t) - 1) (split t) (omega arith)

-- the line behind some lines is whole
line_whole : (t : Bool) (ls : List (List ℕ)) (held : List ℕ) (ended : Bool) → has_newline held ≡ t → AreEnded ls →
    (has_newline held ≡ true) ⊎ ((131072 < length held) ⊎ (ended ≡ true)) →
    (length ls + 1 ≤ length (whole_lines (joined_lines ls ++ held))) ⊎ ((131072 < length (line_at (joined_lines ls ++ held) (length ls + 1))) ⊎ (ended ≡ true))
line_whole true ls held ended has newlines whole =
    let all = joined_lines ls ++ held in
    let lines : split all ≡ map before_newline ls ++ split held = split_lines ls held newlines in
    inl (omega (arith, whole_count all, ap length lines, length-append (map before_newline ls) (split held), length-map ls before_newline, two_lines held has))
line_whole false ls held ended has newlines (inl newline) = absurd cc
line_whole false ls held ended has newlines (inr (inl long)) =
    let all = joined_lines ls ++ held in
    let lines : split all ≡ map before_newline ls ++ held ∷ [] = split_lines ls held newlines ∙ ap (λ v. map before_newline ls ++ v) (split_all held has) in
    let place : length ls + 1 - 1 ≡ length (map before_newline ls) = omega (arith, length-map ls before_newline) in
    let line : line_at all (length ls + 1) ≡ held =
    ap (λ k. get_or (split all) k []) place ∙ ap (λ v. get_or v (length (map before_newline ls)) []) lines ∙ get_or-append_seam (map before_newline ls) held [] [] in
    inr (inl (omega (arith, ap length line)))
line_whole false ls held ended has newlines (inr (inr end)) = inr (inr end)

some_held : (held : List ℕ) → 0 < length (before_newline held) → 0 < length held
some_held [] some = some
some_held (b ∷ bs) some = omega arith

-- lines that spell pieces and then a bad line that is held
has_bad_line : (ls : List (List ℕ)) (held : List ℕ) (ps : List Piece) (ended : Bool) (line n : ℕ) → AreLines ls held ended → Spell (map before_newline ls) ps →
    HoldsBadLine held ended line n → HasBadLine (joined_lines ls ++ held) ended (length ls + 1)
has_bad_line ls held ps ended line n w s h = record {
  first =
      bad_on ls held ended ps w s
      ∙ ap (λ v. option_map (λ k. length ls + k) (bad_line_of v)) (sym (append-nil held))
      ∙ ap (option_map (λ k. length ls + k)) (bad_first held [] ended line n h (λ _. refl));
  whole = line_whole (has_newline held) ls held ended refl (ended_before ls held ended w (some_held held h.some)) h.whole;
}

-- ---- with fewer answers

ended_first : (a b : List (List ℕ)) → AreEnded (a ++ b) → AreEnded a
ended_first [] b e = tt
ended_first (l ∷ a) b e = (e.0, ended_first a b e.1)

-- at the end of some lines, or behind it, no line is longer than the last
line_short : (ls : List (List ℕ)) (rest : List ℕ) (i : ℕ) → length ls ≤ i → length (get_or (ls ++ rest ∷ []) i []) ≤ length rest
line_short [] rest zero le = omega arith
line_short [] rest (suc i) le = omega arith
line_short (l ∷ ls) rest zero le = absurd (omega (arith, le))
line_short (l ∷ ls) rest (suc i) le = line_short ls rest i (omega (arith, le))

-- behind the first of some lines, where no line is, the line behind them all isn't whole
not_there : (seen : List ℕ) (ls : List (List ℕ)) (ended : Bool) → AreEnded ls → WantsLine seen ls → ended ≡ false → HasBadLine seen ended (length ls + 1) → ⊥
not_there seen ls ended newlines w open_yet h =
    let went = ended_first w.went w.others (subst AreEnded w.first newlines) in
    let fewer : length w.went ≤ length ls = omega (arith, ap length w.first, length-append w.went w.others) in
    let whole : whole_lines seen ≡ map before_newline w.went = ap whole_lines w.same ∙ whole_of w.went w.rest went w.quiet in
    let lines : split seen ≡ map before_newline w.went ++ w.rest ∷ [] =
    ap split w.same ∙ split_lines w.went w.rest went ∙ ap (λ v. map before_newline w.went ++ v) (split_all w.rest w.quiet) in
    let count : length (map before_newline w.went) ≡ length w.went = length-map w.went before_newline in
    let short : length (line_at seen (length ls + 1)) ≤ length w.rest =
    subst (λ (v : List (List ℕ)). length (get_or v (length ls + 1 - 1) []) ≤ length w.rest) (sym lines)
    (line_short (map before_newline w.went) w.rest (length ls + 1 - 1) (omega (arith, count, fewer))) in
    elim h.whole [
      | inl newline ↦ omega (arith, newline, ap length whole, count, fewer)
      | inr (inl long) ↦ omega (arith, long, short, w.short)
      | inr (inr end) ↦ not_ended ended open_yet end
    ]

-- where the end is known it was answered
has_as_known : (bytes : List ℕ) (ended end : Bool) (place : ℕ) → (ended ≡ true → end ≡ true) → HasBadLine bytes ended place → HasBadLine bytes end place
has_as_known bytes ended end place known h = record {
  first = h.first;
  whole = elim h.whole [ inl newline ↦ inl newline | inr (inl long) ↦ inr (inl long) | inr (inr e) ↦ inr (inr (known e)) ];
}

-- an end that a source came to know was answered
pub known_end : {I : Type 0} (view : I → InputView) (x y : Reading I) → KnowsEnd view x y → x.ended ≡ false → y.ended ≡ true → is_end (view y.input).last ≡ true
known_end view x y (inl same) open_yet e = absurd cc
known_end view x y (inr is) open_yet e = sym is ∙ e

module _ {I : Type 0} (view : I → InputView) (later : I → I → Type 0) where
  -- the bad line that a source over a fresh input met is the first among the bytes given
  pub met_bad_line : (old : I) (y : Reading I) (n : ℕ) → LaterReading view later (fresh old) y → y.bad ≡ Some n → MetBadLine view old y.input n
  met_bad_line old y n r is =
      let l = r.lines in
      let h = r.holds refl n is in
      let since : given_since view old y.input ≡ joined_lines l.lines ++ y.held = since_is view old y.input r.bytes r.gave ∙ l.same in
      record {
        place = length l.lines + 1;
        bad =
            has_as_known (given_since view old y.input) y.ended (is_end (view y.input).last) (length l.lines + 1) (known_end view (fresh old) y r.asked refl)
            (subst (λ (v : List ℕ). HasBadLine v y.ended (length l.lines + 1)) (sym since)
            (has_bad_line l.lines y.held l.pieces y.ended y.line n l.are_lines l.spelled h));
        no_sooner =
            let f = r.fetched in
            let since = answers_since view old y.input f.fetches f.answered in
            let newlines = ended_before l.lines y.held y.ended l.are_lines (some_held y.held h.some) in
            subst (λ (v : List Fetched). (k : ℕ) → k < length v → HasBadLine (given_in (take k v)) (last_is says_end (take k v)) (length l.lines + 1) → ⊥) (sym since)
            (λ k lt. not_there (given_in (take k f.fetches)) l.lines (last_is says_end (take k f.fetches)) newlines (f.needed k lt) (f.open_yet k lt));
        number = omega (arith, h.number, l.grown);
      }

  -- what an input gave are the lines of the pieces that the source gave, and then the bytes that it holds
  pub gave_lines : (old : I) (y : Reading I) → LaterReading view later (fresh old) y → GaveLines (fetches_since view old y.input) y.pieces y.held
  gave_lines old y r =
      let since = answers_since view old y.input r.fetched.fetches r.fetched.answered in
      record {
        lines = r.lines.lines;
        same = ap given_in since ∙ sym r.fetched.given ∙ r.lines.same;
        spelled = subst (λ (v : List Piece). Spell (map before_newline r.lines.lines) v) (sym r.pieces) r.lines.spelled;
        room = r.fits (omega arith);
        open_yet = subst (λ (v : List Fetched). (k : ℕ) → k < length v → last_is says_end (take k v) ≡ false) (sym since) r.fetched.open_yet;
        needed = subst (λ (v : List Fetched). (k : ℕ) → k < length v → WantsLine (given_in (take k v)) r.lines.lines) (sym since) r.fetched.needed;
      }

  -- what a call says of an input that a source read
  pub lent_by : (old : I) (y : Reading I) → LaterReading view later (fresh old) y → LentInput view later old y.input
  lent_by old y r =
      let since = since_is view old y.input r.bytes r.gave in
      record {
        gave = since_gave view old y.input r.bytes r.gave;
        answered = r.fetched.answered ∙ ap (λ v. (view old).fetches ++ v) (sym (answers_since view old y.input r.fetched.fetches r.fetched.answered));
        parts = since ∙ r.fetched.given ∙ ap given_in (sym (answers_since view old y.input r.fetched.fetches r.fetched.answered));
        told = λ t told.
            let m = r.left t told in
            (m.0, r.told t told told ∙ m.1, m.2 ∙ ap (λ v. v ++ m.0) (sym since));
        input_faults = r.count;
        later_input = r.input;
      }
