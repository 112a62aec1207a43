-- What a reading says of a text that its input told.
use Rattle.std.proofs.Common.{◌≡◌, ◌<◌, ◌≤◌, ◌⊎◌, inl, inr, ℕ, ◌+◌, ◌-◌, ◌^◌, suc, List, [], ◌∷◌, ◌++◌, length, map, refl, ap, sym, ◌∙◌, subst}
use Rattle.std.proofs.Common.{arith, Some, append_assoc, length-append}
use Rattle.std.proofs.lemmas.List.{append-nil}
use Rattle.std.specs.Prelude.{min, ◌==◌, Option, None, Bool, true, false}
use Rattle.std.specs.Option.{option_map}
use Rattle.ei_spec.specs.Piece.{Piece}
use Rattle.reis_lines.specs.Input.{InputView}
use Rattle.reis_lines.specs.Text.{has_newline, before_newline, onto, split, line_bytes, piece_of_line, piece_before, Spell, pieces_of_lines, pieces_of}
use Rattle.reis_lines.specs.Text.{bad_line_before, bad_line_of_lines, bad_line_of, number_from}
use Rattle.reis_lines.specs.HexSource.{Reading, unread, left_of, joined_lines, AreLines, HoldsBadLine, LaterReading}
use Rattle.reis_lines.specs.LaterReadings.{AreLines-more}
use Rattle.reis_lines.proofs.TextLaws.{too_long, before_quiet, before_all, split_quiet, split_ended, split_all}
use Rattle.reis_lines.proofs.SourceLaws.{rest_none}

-- ---- lines that spell pieces, in front of a text

abbrev piece_of_bytes : List ℕ → Piece
piece_of_bytes bytes = record { bytes = bytes; handles = [] }

-- a line that spells a piece has its bytes
spelled_bytes : (line : List ℕ) (o : Option (List ℕ)) (p : Piece) → line_bytes line ≡ o → option_map piece_of_bytes o ≡ Some p →
    (bytes : List ℕ) × (line_bytes line ≡ Some bytes) × (piece_of_bytes bytes ≡ p)
spelled_bytes line None p is some = cc
spelled_bytes line (Some bytes) p is some = (bytes, is, cc)

-- the first line spells the first piece
record SpellsFirst (line : List ℕ) (lines : List (List ℕ)) (pieces : List Piece) : Type 0 where
  pub bytes : List ℕ
  pub others : List Piece
  pub spells : line_bytes line ≡ Some bytes
  pub whole : pieces ≡ piece_of_bytes bytes ∷ others
  pub spelled : Spell lines others

spells_first : (line : List ℕ) (lines : List (List ℕ)) (pieces : List Piece) → Spell (line ∷ lines) pieces → SpellsFirst line lines pieces
spells_first line lines [] s = absurd cc
spells_first line lines (p ∷ ps) s =
    let e : piece_of_line line ∷ map piece_of_line lines ≡ Some p ∷ map (λ (x : Piece). Some x) ps = s in
    let head : piece_of_line line ≡ Some p = cc in
    let tail : map piece_of_line lines ≡ map (λ (x : Piece). Some x) ps = cc in
    let b = spelled_bytes line (line_bytes line) p refl head in
    record { bytes = b.0; others = ps; spells = b.1; whole = ap (λ q. q ∷ ps) (sym b.2); spelled = tail }

none_spelled : (pieces : List Piece) → Spell [] pieces → pieces ≡ []
none_spelled [] s = refl
none_spelled (p ∷ ps) s = cc

quiet_line : (l : List ℕ) → l ≡ before_newline l → has_newline l ≡ false
quiet_line l same = ap has_newline same ∙ before_quiet l

-- a last line without a newline
last_line : (l : List ℕ) (ls : List (List ℕ)) (rest : List ℕ) → ls ≡ [] → rest ≡ [] → joined_lines (l ∷ ls) ++ rest ≡ l
last_line l ls rest none end =
    ap (λ v. (l ++ joined_lines v) ++ rest) none ∙ ap (λ v. (l ++ []) ++ v) end ∙ append-nil (l ++ []) ∙ append-nil l

-- the pieces of a text that begins with lines
pub pieces_on : (ls : List (List ℕ)) (rest : List ℕ) (ended : Bool) (ps : List Piece) → AreLines ls rest ended → Spell (map before_newline ls) ps →
    pieces_of (joined_lines ls ++ rest) ≡ ps ++ pieces_of rest
unfolding pieces_of
pieces_on [] rest ended ps w s = ap (λ v. v ++ pieces_of rest) (sym (none_spelled ps s))
pieces_on (l ∷ ls) rest ended ps (inl w) s =
    let f = spells_first (before_newline l) (map before_newline ls) ps s in
    ap pieces_of (append_assoc l (joined_lines ls) rest) ∙ ap pieces_of_lines (split_ended l (joined_lines ls ++ rest) w.0)
    ∙ ap (λ o. piece_before o (pieces_of (joined_lines ls ++ rest))) f.spells
    ∙ ap (λ v. piece_of_bytes f.bytes ∷ v) (pieces_on ls rest ended f.others w.1 f.spelled)
    ∙ ap (λ v. v ++ pieces_of rest) (sym f.whole)
pieces_on (l ∷ ls) rest ended ps (inr w) s =
    let f = spells_first (before_newline l) (map before_newline ls) ps s in
    let none : f.others ≡ [] = none_spelled f.others (subst (λ (v : List (List ℕ)). Spell (map before_newline v) f.others) w.2 f.spelled) in
    ap pieces_of (last_line l ls rest w.2 w.3) ∙ ap pieces_of_lines (split_all l (quiet_line l w.1))
    ∙ ap (λ o. piece_before o []) (ap line_bytes w.1 ∙ f.spells) ∙ sym (f.whole ∙ ap (λ v. piece_of_bytes f.bytes ∷ v) none)
    ∙ sym (append-nil ps) ∙ ap (λ v. ps ++ pieces_of v) (sym w.3)

spelled_before : (l bytes : List ℕ) (others : Option ℕ) → line_bytes l ≡ Some bytes → bad_line_before l others ≡ option_map (λ n. n + 1) others
spelled_before [] bytes others is = cc
spelled_before (b ∷ bs) bytes others is = rw is refl

none_before : (o : Option ℕ) → o ≡ option_map (λ n. 0 + n) o
none_before None = refl
none_before (Some n) = let e : n ≡ 0 + n = omega arith in ap (λ v. Some v) e

one_before : (k : ℕ) (o : Option ℕ) → option_map (λ n. n + 1) (option_map (λ n. k + n) o) ≡ option_map (λ n. suc k + n) o
one_before k None = refl
one_before k (Some n) = let e : k + n + 1 ≡ suc k + n = omega arith in ap (λ v. Some v) e

-- its first bad line
pub bad_on : (ls : List (List ℕ)) (rest : List ℕ) (ended : Bool) (ps : List Piece) → AreLines ls rest ended → Spell (map before_newline ls) ps →
    bad_line_of (joined_lines ls ++ rest) ≡ option_map (λ n. length ls + n) (bad_line_of rest)
unfolding bad_line_of
bad_on [] rest ended ps w s = none_before (bad_line_of rest)
bad_on (l ∷ ls) rest ended ps (inl w) s =
    let f = spells_first (before_newline l) (map before_newline ls) ps s in
    ap bad_line_of (append_assoc l (joined_lines ls) rest) ∙ ap bad_line_of_lines (split_ended l (joined_lines ls ++ rest) w.0)
    ∙ spelled_before (before_newline l) f.bytes (bad_line_of (joined_lines ls ++ rest)) f.spells
    ∙ ap (option_map (λ n. n + 1)) (bad_on ls rest ended f.others w.1 f.spelled) ∙ one_before (length ls) (bad_line_of rest)
bad_on (l ∷ ls) rest ended ps (inr w) s =
    let f = spells_first (before_newline l) (map before_newline ls) ps s in
    ap bad_line_of (last_line l ls rest w.2 w.3) ∙ ap bad_line_of_lines (split_all l (quiet_line l w.1))
    ∙ spelled_before l f.bytes None (ap line_bytes w.1 ∙ f.spells) ∙ ap (λ v. option_map (λ n. length (l ∷ ls) + n) (bad_line_of v)) (sym w.3)

-- ---- a bad line at the front

-- the first line of a text spells nothing, and isn't empty
record BeginsBadly (text : List ℕ) : Type 0 where
  pub line : List ℕ
  pub others : List (List ℕ)
  pub is : split text ≡ line ∷ others
  pub some : 0 < length line
  pub spells : line_bytes line ≡ None

newline_head : (t : Bool) (b : ℕ) (bs : List ℕ) → (b == 10) ≡ t → has_newline (b ∷ bs) ≡ true →
    (has_newline bs ≡ true → (tail : List ℕ) × (bs ≡ before_newline bs ++ 10 ∷ tail)) → (tail : List ℕ) × (b ∷ bs ≡ before_newline (b ∷ bs) ++ 10 ∷ tail)
newline_head true b bs is has behind = let ten : b ≡ 10 = grind arith in (bs, rw is (ap (λ k. k ∷ bs) ten))
newline_head false b bs is has behind = let r = behind (rw is at has) in (r.0, rw is (ap (λ v. b ∷ v) r.1))

-- a newline stands behind the bytes in front of the first
pub newline_at : (l : List ℕ) → has_newline l ≡ true → (tail : List ℕ) × (l ≡ before_newline l ++ 10 ∷ tail)
newline_at [] has = cc
newline_at (b ∷ bs) has = newline_head (b == 10) b bs refl has (newline_at bs)

pub split_before : (l tail rest : List ℕ) → l ≡ before_newline l ++ 10 ∷ tail → split (l ++ rest) ≡ before_newline l ∷ split (tail ++ rest)
split_before l tail rest is =
    ap split (ap (λ v. v ++ rest) is ∙ append_assoc (before_newline l) (10 ∷ tail) rest) ∙ split_quiet (before_newline l) (10 ∷ (tail ++ rest)) (before_quiet l)
    ∙ ap (λ v. v ∷ split (tail ++ rest)) (append-nil (before_newline l))

first_onto : (a : List ℕ) (ls : List (List ℕ)) → (l : List ℕ) × (others : List (List ℕ)) × (onto a ls ≡ l ∷ others) × (length a ≤ length l)
first_onto a [] = (a, [], refl, omega arith)
first_onto a (l ∷ ls) = (a ++ l, ls, refl, omega (arith, length-append a l))

begins_by : (t : Bool) (held rest : List ℕ) → has_newline held ≡ t → 0 < length (before_newline held) → line_bytes (before_newline held) ≡ None →
    (has_newline held ≡ true) ⊎ ((131072 < length held) ⊎ (rest ≡ [])) → BeginsBadly (held ++ rest)
begins_by true held rest has some spells whole =
    let r = newline_at held has in
    record { line = before_newline held; others = split (r.0 ++ rest); is = split_before held r.0 rest r.1; some = some; spells = spells }
begins_by false held rest has some spells (inl newline) = absurd cc
begins_by false held rest has some spells (inr (inl long)) =
    let f = first_onto held (split rest) in
    record { line = f.0; others = f.1; is = split_quiet held rest has ∙ f.2; some = omega (arith, f.3); spells = too_long f.0 (omega (arith, f.3)) }
begins_by false held rest has some spells (inr (inr none)) =
    let all = before_all held has in
    record {
      line = held;
      others = [];
      is = ap (λ v. split (held ++ v)) none ∙ ap split (append-nil held) ∙ split_all held has;
      some = omega (arith, ap length all);
      spells = ap line_bytes (sym all) ∙ spells;
    }

whole_or : (held rest : List ℕ) (ended : Bool) → (has_newline held ≡ true) ⊎ ((131072 < length held) ⊎ (ended ≡ true)) → (ended ≡ true → rest ≡ []) →
    (has_newline held ≡ true) ⊎ ((131072 < length held) ⊎ (rest ≡ []))
whole_or held rest ended (inl newline) none = inl newline
whole_or held rest ended (inr (inl long)) none = inr (inl long)
whole_or held rest ended (inr (inr end)) none = inr (inr (none end))

-- a bad line held, in front of what follows
begins : (held rest : List ℕ) (ended : Bool) (line n : ℕ) → HoldsBadLine held ended line n → (ended ≡ true → rest ≡ []) → BeginsBadly (held ++ rest)
begins held rest ended line n h none = begins_by (has_newline held) held rest refl h.some h.spells (whole_or held rest ended h.whole none)

bad_before : (l : List ℕ) (others : Option ℕ) → line_bytes l ≡ None → 0 < length l → bad_line_before l others ≡ Some 1
bad_before [] others is some = absurd (omega arith)
bad_before (b ∷ bs) others is some = rw is refl

pub bad_first : (held rest : List ℕ) (ended : Bool) (line n : ℕ) → HoldsBadLine held ended line n → (ended ≡ true → rest ≡ []) → bad_line_of (held ++ rest) ≡ Some 1
unfolding bad_line_of
bad_first held rest ended line n h none =
    let f = begins held rest ended line n h none in
    ap bad_line_of_lines f.is ∙ bad_before f.line (bad_line_of_lines f.others) f.spells f.some

pub none_first : (held rest : List ℕ) (ended : Bool) (line n : ℕ) → HoldsBadLine held ended line n → (ended ≡ true → rest ≡ []) → pieces_of (held ++ rest) ≡ []
unfolding pieces_of
none_first held rest ended line n h none =
    let f = begins held rest ended line n h none in
    ap pieces_of_lines f.is ∙ ap (λ o. piece_before o (pieces_of_lines f.others)) f.spells

-- ---- a text that was told

number_lines : (line now count : ℕ) (o : Option ℕ) → min now (2 ^ 64 - 1) ≡ min (line + count) (2 ^ 64 - 1) →
    number_from line (option_map (λ n. count + n) o) ≡ number_from now o
number_lines line now count None is = refl
number_lines line now count (Some n) is =
    let e : min (line + (count + n)) (2 ^ 64 - 1) ≡ min (now + n) (2 ^ 64 - 1) = omega (arith, is) in
    ap (λ k. Some k) e

-- The unread view, the bytes held and then the text left, is these lines, handed out as these pieces, and the text unread now. The
-- first bad line keeps its number.
pub record LaterText (held text held_new : List ℕ) (left : Option (List ℕ)) (line line_new : ℕ) (ended : Bool) : Type 0 where
  pub lines : List (List ℕ)
  pub pieces : List Piece
  pub rest : List ℕ
  pub left_is : left ≡ Some rest
  pub none : ended ≡ true → rest ≡ []
  pub same : held ++ text ≡ joined_lines lines ++ (held_new ++ rest)
  pub are_lines : AreLines lines (held_new ++ rest) ended
  pub spelled : Spell (map before_newline lines) pieces
  pub handed : pieces_of (held ++ text) ≡ pieces ++ pieces_of (held_new ++ rest)
  pub bad : number_from line (bad_line_of (held ++ text)) ≡ number_from line_new (bad_line_of (held_new ++ rest))

module _ {I : Type 0} (view : I → InputView) (later : I → I → Type 0) where
  abbrev Later : Reading I → Reading I → Type 0
  Later = LaterReading view later

  pub later_text : (x y : Reading I) → Later x y → (t : List ℕ) → unread view x ≡ Some t → LaterText x.held t y.held (unread view y) x.line y.line y.ended
  later_text x y r t told =
      let l = r.lines in
      let m = r.left t told in
      let none : y.ended ≡ true → m.0 ≡ [] = rest_none (view y.input).left y.ended m.0 m.1 in
      let lines = AreLines-more l.lines y.held m.0 y.ended none l.are_lines in
      let whole : x.held ++ t ≡ joined_lines l.lines ++ (y.held ++ m.0) =
      ap (λ v. x.held ++ v) m.2 ∙ sym (append_assoc x.held r.bytes m.0) ∙ ap (λ v. v ++ m.0) l.same ∙ append_assoc (joined_lines l.lines) y.held m.0 in
      record {
        lines = l.lines;
        pieces = l.pieces;
        rest = m.0;
        left_is = m.1;
        none = none;
        same = whole;
        are_lines = lines;
        spelled = l.spelled;
        handed = ap pieces_of whole ∙ pieces_on l.lines (y.held ++ m.0) y.ended l.pieces lines l.spelled;
        bad =
            ap (λ v. number_from x.line (bad_line_of v)) whole
            ∙ ap (number_from x.line) (bad_on l.lines (y.held ++ m.0) y.ended l.pieces lines l.spelled)
            ∙ number_lines x.line y.line (length l.lines) (bad_line_of (y.held ++ m.0)) l.grown;
      }

  -- the bad line that was met is the first of the text
  pub number_told : (x y : Reading I) → Later x y → x.bad ≡ None → (n : ℕ) → y.bad ≡ Some n → (t : List ℕ) → unread view x ≡ Some t →
      number_from x.line (bad_line_of (x.held ++ t)) ≡ Some n
  number_told x y r none n is t told =
      let p = later_text x y r t told in
      let h = r.holds none n is in
      p.bad ∙ ap (number_from y.line) (bad_first y.held p.rest y.ended y.line n h p.none) ∙ ap (λ k. Some k) (sym h.number)

  -- and no piece is left from then on
  pub spent_told : (x y : Reading I) → Later x y → x.bad ≡ None → (n : ℕ) → y.bad ≡ Some n → (t : List ℕ) → unread view x ≡ Some t → left_of view y ≡ Some []
  spent_told x y r none n is t told =
      let p = later_text x y r t told in
      ap (option_map (λ v. pieces_of (y.held ++ v))) p.left_is ∙ ap (λ v. Some v) (none_first y.held p.rest y.ended y.line n (r.holds none n is) p.none)
