-- The pieces and the bad line of what an input gave, with whatever may follow it. The input may tell its text or not, and nothing
-- follows where its end is known.
use Rattle.std.proofs.Common.{◌≡◌, inl, inr, ℕ, ◌+◌, ◌-◌, ◌^◌, List, [], ◌∷◌, ◌++◌, length, map, refl, ap, sym, ◌∙◌, append_assoc, arith, Some}
use Rattle.std.specs.Prelude.{min, None, Bool, true, false}
use Rattle.std.specs.Option.{option_map}
use Rattle.ei_backend.specs.Outside.{is_end}
use Rattle.reis_lines.specs.Input.{InputView}
use Rattle.reis_lines.specs.Text.{before_newline, Spell, pieces_of, bad_line_of, number_from, whole_lines}
use Rattle.reis_lines.specs.Given.{given_since}
use Rattle.reis_lines.specs.HexSource.{Reading, joined_lines, HoldsBadLine, LaterReading, IsAtEnd, HoldsEnd, HoldsNoLine}
use Rattle.reis_lines.specs.LaterReadings.{AreLines-more}
use Rattle.reis_lines.proofs.GaveLaws.{since_is, since_gave}
use Rattle.reis_lines.proofs.GivenLaws.{all_ended, whole_of}
use Rattle.reis_lines.proofs.ToldLaws.{pieces_on, bad_on, bad_first, none_first}
use Rattle.reis_lines.proofs.MetLaws.{known_end}

-- ---- what is held, with what may follow

-- no line comes next, whatever follows
at_end : (held more : List ℕ) (ended : Bool) → HoldsEnd held ended → (ended ≡ true → more ≡ []) → IsAtEnd (held ++ more)
at_end held more ended (inl e) none = inl (ap (λ v. v ++ more) e.0 ∙ none e.1)
at_end [] more ended (inr e) none = absurd cc
at_end (b ∷ bs) more ended (inr e) none = inr e

no_piece_at_end : (text : List ℕ) → IsAtEnd text → pieces_of text ≡ []
unfolding pieces_of
no_piece_at_end text (inl e) = ap pieces_of e
no_piece_at_end [] (inr e) = refl
no_piece_at_end (b ∷ bs) (inr e) = let newline : b ≡ 10 = cc in rw newline refl

no_bad_line_at_end : (text : List ℕ) → IsAtEnd text → bad_line_of text ≡ None
unfolding bad_line_of
no_bad_line_at_end text (inl e) = ap bad_line_of e
no_bad_line_at_end [] (inr e) = refl
no_bad_line_at_end (b ∷ bs) (inr e) = let newline : b ≡ 10 = cc in rw newline refl

-- at a true end no piece comes any more
pub spent_at_end : (held more : List ℕ) (ended : Bool) → HoldsEnd held ended → (ended ≡ true → more ≡ []) → pieces_of (held ++ more) ≡ []
spent_at_end held more ended h none = no_piece_at_end (held ++ more) (at_end held more ended h none)

-- nor behind a bad line
pub spent_at_bad_line : (held more : List ℕ) (ended : Bool) (line n : ℕ) → HoldsBadLine held ended line n → (ended ≡ true → more ≡ []) → pieces_of (held ++ more) ≡ []
spent_at_bad_line held more ended line n h none = none_first held more ended line n h none

-- ---- what was given, with what may follow

module _ {I : Type 0} (view : I → InputView) (later : I → I → Type 0) where
  abbrev Later : Reading I → Reading I → Type 0
  Later = LaterReading view later

  -- nothing follows where the end is known, since it was answered
  pub none_if_known : (x y : Reading I) → Later x y → x.ended ≡ false → (more : List ℕ) → (is_end (view y.input).last ≡ true → more ≡ []) → y.ended ≡ true → more ≡ []
  none_if_known x y r open_yet more none e = none (known_end view x y r.asked open_yet e)

  -- an input has given these bytes since
  pub gave_since : (x y : Reading I) → Later x y → (view y.input).given ≡ (view x.input).given ++ given_since view x.input y.input
  gave_since x y r = since_gave view x.input y.input r.bytes r.gave

  -- the bytes given are the lines that went, and the bytes held
  lines_and_held : (x y : Reading I) (r : Later x y) → x.held ≡ [] → (bytes : List ℕ) → (view y.input).given ≡ (view x.input).given ++ bytes →
      bytes ≡ joined_lines r.lines.lines ++ y.held
  lines_and_held x y r nothing bytes gave =
      sym (since_is view x.input y.input bytes gave) ∙ since_is view x.input y.input r.bytes r.gave ∙ ap (λ v. v ++ r.bytes) (sym nothing) ∙ r.lines.same

  lines_and_more : (x y : Reading I) (r : Later x y) → x.held ≡ [] → (bytes more : List ℕ) → (view y.input).given ≡ (view x.input).given ++ bytes →
      bytes ++ more ≡ joined_lines r.lines.lines ++ (y.held ++ more)
  lines_and_more x y r nothing bytes more gave =
      ap (λ v. v ++ more) (lines_and_held x y r nothing bytes gave) ∙ append_assoc (joined_lines r.lines.lines) y.held more

  -- the pieces of what was given are those that the source gave, and then those of what is held
  pub pieces_given : (x y : Reading I) → Later x y → x.held ≡ [] → x.pieces ≡ [] → (bytes more : List ℕ) → (view y.input).given ≡ (view x.input).given ++ bytes →
      (y.ended ≡ true → more ≡ []) → pieces_of (bytes ++ more) ≡ y.pieces ++ pieces_of (y.held ++ more)
  pieces_given x y r nothing no_piece bytes more gave none =
      let l = r.lines in
      ap pieces_of (lines_and_more x y r nothing bytes more gave)
      ∙ pieces_on l.lines (y.held ++ more) y.ended l.pieces (AreLines-more l.lines y.held more y.ended none l.are_lines) l.spelled
      ∙ ap (λ v. v ++ pieces_of (y.held ++ more)) (sym (r.pieces ∙ ap (λ v. v ++ l.pieces) no_piece))

  pub pieces_since : (x y : Reading I) → Later x y → x.held ≡ [] → x.pieces ≡ [] → (more : List ℕ) →
      (y.ended ≡ true → more ≡ []) → pieces_of (given_since view x.input y.input ++ more) ≡ y.pieces ++ pieces_of (y.held ++ more)
  pieces_since x y r nothing no_piece more none = pieces_given x y r nothing no_piece (given_since view x.input y.input) more (gave_since x y r) none

  -- where no whole line is held, the pieces that the source gave are those of the whole lines given
  pub whole_lines_given : (x y : Reading I) → Later x y → x.held ≡ [] → x.pieces ≡ [] → (bytes : List ℕ) → (view y.input).given ≡ (view x.input).given ++ bytes →
      HoldsNoLine y.held y.ended → Spell (whole_lines bytes) y.pieces
  whole_lines_given x y r nothing no_piece bytes gave no_line =
      let l = r.lines in
      let lines : whole_lines bytes ≡ map before_newline l.lines =
      ap whole_lines (lines_and_held x y r nothing bytes gave) ∙ whole_of l.lines y.held (all_ended l.lines y.held y.ended no_line.1 l.are_lines) no_line.0 in
      let pieces : y.pieces ≡ l.pieces = r.pieces ∙ ap (λ v. v ++ l.pieces) no_piece in
      rw (lines, pieces) l.spelled

  -- the first bad line of what was given stands behind the lines that went
  bad_behind : (x y : Reading I) (r : Later x y) → x.held ≡ [] → (bytes more : List ℕ) → (view y.input).given ≡ (view x.input).given ++ bytes → (y.ended ≡ true → more ≡ []) →
      bad_line_of (bytes ++ more) ≡ option_map (λ k. length r.lines.lines + k) (bad_line_of (y.held ++ more))
  bad_behind x y r nothing bytes more gave none =
      let l = r.lines in
      ap bad_line_of (lines_and_more x y r nothing bytes more gave)
      ∙ bad_on l.lines (y.held ++ more) y.ended l.pieces (AreLines-more l.lines y.held more y.ended none l.are_lines) l.spelled

  -- a bad line that is held is the first of what was given, and its number is its place
  pub bad_line_given : (x y : Reading I) → Later x y → x.held ≡ [] → x.line ≡ 0 → (bytes more : List ℕ) → (view y.input).given ≡ (view x.input).given ++ bytes →
      (y.ended ≡ true → more ≡ []) → (n : ℕ) → HoldsBadLine y.held y.ended y.line n →
      (place : ℕ) × (bad_line_of (bytes ++ more) ≡ Some place) × (n ≡ min place (2 ^ 64 - 1))
  bad_line_given x y r nothing first bytes more gave none n h = (
    length r.lines.lines + 1,
    bad_behind x y r nothing bytes more gave none ∙ ap (option_map (λ k. length r.lines.lines + k)) (bad_first y.held more y.ended y.line n h none),
    omega (arith, h.number, r.lines.grown, first),
  )

  pub bad_number_given : (x y : Reading I) → Later x y → x.held ≡ [] → x.line ≡ 0 → (bytes more : List ℕ) → (view y.input).given ≡ (view x.input).given ++ bytes →
      (y.ended ≡ true → more ≡ []) → (n : ℕ) → HoldsBadLine y.held y.ended y.line n → number_from 0 (bad_line_of (bytes ++ more)) ≡ Some n
  bad_number_given x y r nothing first bytes more gave none n h =
      let b = bad_line_given x y r nothing first bytes more gave none n h in
      let number : min (0 + b.0) (2 ^ 64 - 1) ≡ n = omega (arith, b.2) in
      ap (number_from 0) b.1 ∙ ap (λ k. Some k) number

  -- at a true end none was bad
  pub no_bad_line_given : (x y : Reading I) → Later x y → x.held ≡ [] → (bytes more : List ℕ) → (view y.input).given ≡ (view x.input).given ++ bytes →
      (y.ended ≡ true → more ≡ []) → HoldsEnd y.held y.ended → bad_line_of (bytes ++ more) ≡ None
  no_bad_line_given x y r nothing bytes more gave none h =
      bad_behind x y r nothing bytes more gave none
      ∙ ap (option_map (λ k. length r.lines.lines + k)) (no_bad_line_at_end (y.held ++ more) (at_end y.held more y.ended h none))
