-- The pieces of what an input gave of its text.
use Rattle.std.proofs.Common.{◌≡◌, inl, inr, ℕ, ◌-◌, List, [], ◌∷◌, ◌++◌, length, take, map, refl, ap, sym, ◌∙◌, append_assoc, length-append, arith, subst}
use Rattle.std.proofs.lemmas.List.{take_at}
use Rattle.std.specs.Prelude.{Bool, true, false, Option}
use Rattle.reis_lines.specs.Text.{has_newline, before_newline, split, Spell, whole_lines, AreGiven}
use Rattle.reis_lines.specs.HexSource.{joined_lines, AreLines}
use Rattle.reis_lines.proofs.TextLaws.{split_ended, split_all}
use Rattle.reis_lines.proofs.ToldLaws.{LaterText}

-- each line ends with its newline
abbrev pub AreEnded : List (List ℕ) → Type 0
AreEnded [] = Unit {0}
AreEnded (l ∷ ls) = (l ≡ before_newline l ++ 10 ∷ []) × AreEnded ls

-- the lines of a text that begins with these
pub split_lines : (ls : List (List ℕ)) (t : List ℕ) → AreEnded ls → split (joined_lines ls ++ t) ≡ map before_newline ls ++ split t
split_lines [] t e = refl
split_lines (l ∷ ls) t e =
    ap split (append_assoc l (joined_lines ls) t) ∙ split_ended l (joined_lines ls ++ t) e.0 ∙ ap (λ v. before_newline l ∷ v) (split_lines ls t e.1)

pub not_ended : (ended : Bool) → ended ≡ false → ended ≡ true → ⊥
not_ended ended f t = cc

-- lines that were handed out before the input answered its end have their newlines
pub all_ended : (ls : List (List ℕ)) (rest : List ℕ) (ended : Bool) → ended ≡ false → AreLines ls rest ended → AreEnded ls
all_ended [] rest ended open_yet w = tt
all_ended (l ∷ ls) rest ended open_yet (inl w) = (w.0, all_ended ls rest ended open_yet w.1)
all_ended (l ∷ ls) rest ended open_yet (inr w) = absurd (not_ended ended open_yet w.4)

but_last : (a : List (List ℕ)) (b : List ℕ) → take (length (a ++ b ∷ []) - 1) (a ++ b ∷ []) ≡ a
but_last a b = take_at a (b ∷ []) (length (a ++ b ∷ []) - 1) (omega (arith, length-append a (b ∷ [])))

-- the whole lines of a text with a part of a line behind them
pub whole_of : (ls : List (List ℕ)) (part : List ℕ) → AreEnded ls → has_newline part ≡ false → whole_lines (joined_lines ls ++ part) ≡ map before_newline ls
whole_of ls part ended quiet =
    let lines = split_lines ls part ended ∙ ap (λ v. map before_newline ls ++ v) (split_all part quiet) in
    ap (λ v. take (length v - 1) v) lines ∙ but_last (map before_newline ls) part

-- where no whole line is held, and the input hasn't answered its end, the pieces handed out are those of the lines given
pub are_given : (text held : List ℕ) (left : Option (List ℕ)) (line line_new : ℕ) (ended : Bool) (l : LaterText [] text held left line line_new ended) →
    (has_newline held ≡ false) × (ended ≡ false) → AreGiven text left l.pieces
are_given text held left line line_new ended l none = record {
  rest = l.rest;
  left_is = l.left_is;
  given = joined_lines l.lines ++ held;
  text_is = l.same ∙ sym (append_assoc (joined_lines l.lines) held l.rest);
  spelled =
      let newlines = all_ended l.lines (held ++ l.rest) ended none.1 l.are_lines in
      subst (λ (v : List (List ℕ)). Spell v l.pieces) (sym (whole_of l.lines held newlines none.0)) l.spelled;
}
