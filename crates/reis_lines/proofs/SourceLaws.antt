-- What becomes of the unread view where a line is handed out, or is bad, or none comes.
use Rattle.std.proofs.Common.{◌≡◌, ◌<◌, ◌≤◌, ◌⊎◌, inl, inr, ℕ, ◌+◌, ◌-◌, ◌^◌, zero, suc, List, [], ◌∷◌, ◌++◌, length, take, drop}
use Rattle.std.proofs.Common.{arith, Some, refl, ap, sym, ◌∙◌, subst, append_assoc}
use Rattle.std.proofs.lemmas.List.{append-nil, take-append-drop, take_all, drop_all, length-drop}
use Rattle.std.proofs.Math.Seq.{drop-append_seam}
use Rattle.std.specs.Prelude.{min, Option, None, is_some}
use Rattle.std.specs.Prelude.{Bool, true, false, slice_get}
use Rattle.std.specs.Option.{option_map}
use Rattle.ei_spec.specs.declared.handle.Handle.{Handle}
use Rattle.ei_spec.specs.Piece.{Piece}
use Rattle.ei_backend.specs.Outside.{HandsOut}
use Rattle.reis_lines.specs.Input.{InputView}
use Rattle.reis_lines.specs.Text.{has_newline, before_newline, line_bytes, piece_before, pieces_of}
use Rattle.reis_lines.specs.Held.{FindsNewline, Moves, line_len, line_skip}
use Rattle.reis_lines.specs.HexSource.{Reading, unless_ended, AreLines, LaterLines, KnowsEnd, LeftBehind, HoldsBadLine, LaterFetches, LaterReading, HandsLine}
use Rattle.reis_lines.specs.HexSource.{unread, IsAtEnd, HoldsEnd}
use Rattle.reis_lines.specs.declared.held.TheConstants.{ROOM}
use Rattle.reis_lines.proofs.TextLaws.{has_newline-append, pieces_of-first, full_or, too_long, spelled_none, before_all, before_of_quiet, ended_at}

pub some_not_none : (o : Option ℕ) → is_some o ≡ true → o ≡ None → ⊥
some_not_none None e n = cc
some_not_none (Some x) e n = cc

pub none_if_not_some : (o : Option ℕ) → is_some o ≡ false → o ≡ None
none_if_not_some None e = refl
none_if_not_some (Some x) e = cc

pub not_both : (o : Option ℕ) (n : ℕ) → o ≡ None → o ≡ Some n → ⊥
not_both o n none some = cc

-- behind the input's end no text is left
pub rest_none : (told : Option (List ℕ)) (ended : Bool) (rest : List ℕ) → unless_ended ended told ≡ Some rest → ended ≡ true → rest ≡ []
rest_none None true rest is e = cc
rest_none (Some t) true rest is e = cc
rest_none told false rest is e = cc

mapped : (f : List ℕ → List Piece) (o : Option (List ℕ)) (ps : List Piece) → option_map f o ≡ Some ps → (t : List ℕ) × (o ≡ Some t) × (f t ≡ ps)
mapped f None ps e = cc
mapped f (Some t) ps e = (t, refl, cc)

-- the first line of the unread view, as it was found among the bytes held
pub record FindsFirst (held text mid rest : List ℕ) (found : Option ℕ) (ended : Bool) : Type 0 where
  pub same : held ++ text ≡ mid ++ rest
  pub place : FindsNewline found mid
  pub ends : found ≡ None → length mid < 131073 → (rest ≡ []) × (ended ≡ true)

pub first_of : (held text mid : List ℕ) (told : Option (List ℕ)) (found : Option ℕ) (ended : Bool) (m : Moves held text mid (unless_ended ended told)) →
    FindsNewline found mid → (found ≡ None → length mid ≤ 131072 → ended ≡ true) → FindsFirst held text mid m.rest found ended
first_of held text mid told found ended m place ends = record {
  same = m.same;
  place = place;
  ends = λ is less. let e = ends is (omega (arith, less)) in (rest_none told ended m.rest m.left_is e, e);
}

-- the line, as a slice of what is seen of the bytes held
pub line_is : (found : Option ℕ) (seen held : List ℕ) (count : ℕ) → count ≡ line_len found seen → seen ≡ held → take count seen ≡ take (line_len found held) held
line_is found seen held count is same = ap (λ n. take n seen) is ∙ ap (λ t. take (line_len found t) t) same

-- what is held once the line was removed
pub removed_is : (found : Option ℕ) (seen held new : List ℕ) (skip : ℕ) → skip ≡ line_skip found seen → seen ≡ held → new ≡ drop skip held → new ≡ drop (line_skip found held) held
removed_is found seen held new skip is same gone = gone ∙ ap (λ n. drop n held) (is ∙ ap (line_skip found) same)

-- no more is held than before
pub removed_fits : (held new : List ℕ) (most : ℕ) (found : Option ℕ) → new ≡ drop (line_skip found held) held → length held ≤ most → length new ≤ most
removed_fits held new most found gone few = omega (arith, ap length gone, length-drop (line_skip found held) held, few)

-- no byte stands in the line
pub no_line : (found : Option ℕ) (seen held : List ℕ) (count : ℕ) → count ≡ line_len found seen → seen ≡ held → count ≡ 0 → line_len found held ≡ 0
no_line found seen held count is same none = ap (line_len found) (sym same) ∙ sym is ∙ none

first_pieces : (held text mid rest slice : List ℕ) (found : Option ℕ) (ended : Bool) → FindsFirst held text mid rest found ended → slice ≡ take (line_len found mid) mid →
    pieces_of (held ++ text) ≡ piece_before (line_bytes slice) (pieces_of (drop (line_skip found mid) mid ++ rest))
first_pieces held text mid rest slice found ended f is =
    ap pieces_of f.same ∙ pieces_of-first found mid rest f.place (λ a b. (f.ends a b).0)
    ∙ ap (λ t. piece_before (line_bytes t) (pieces_of (drop (line_skip found mid) mid ++ rest))) (sym is)

first_none : (mid bytes : List ℕ) (ended : Bool) → has_newline mid ≡ false → (length mid < 131073 → ended ≡ true) → line_bytes mid ≡ Some bytes → ended ≡ true
first_none mid bytes ended quiet ends spells = elim (full_or (length mid)) [ inl full ↦ absurd (spelled_none mid bytes (too_long mid (omega arith)) spells) | inr less ↦ ends less ]

spelled_some : (mid bytes : List ℕ) → line_bytes mid ≡ Some bytes → 0 < length mid
spelled_some [] bytes spells = cc
spelled_some (b ∷ bs) bytes spells = omega arith

-- the first line as it stands among the bytes held: with its newline, or without, where nothing follows
pub first_line : (found : Option ℕ) (mid bytes : List ℕ) (ended : Bool) → FindsNewline found mid →
    (found ≡ None → length mid ≤ 131072 → ended ≡ true) → line_bytes (take (line_len found mid) mid) ≡ Some bytes →
    AreLines (take (line_skip found mid) mid ∷ []) (drop (line_skip found mid) mid) ended
    × (before_newline (take (line_skip found mid) mid) ≡ take (line_len found mid) mid)
first_line (Some n) mid bytes ended f ends spells =
    let newline = ended_at n mid f.here in
    let same = ap before_newline newline ∙ before_of_quiet (take n mid) [] f.before in
    (inl (newline ∙ ap (λ t. t ++ 10 ∷ []) (sym same), tt), same)
first_line None mid bytes ended f ends spells =
    let all : take (length mid) mid ≡ mid = take_all (length mid) mid (omega arith) in
    let gone : drop (length mid) mid ≡ [] = drop_all (length mid) mid (omega arith) in
    let spells_all : line_bytes mid ≡ Some bytes = ap line_bytes (sym all) ∙ spells in
    let end = first_none mid bytes ended f (λ less. ends refl (omega (arith, less))) spells_all in
    let same = before_all mid f in
    rw (all, gone) (inr (spelled_some mid bytes spells_all, sym same, refl, refl, end), same)

-- a line was handed out
unfoldable pub handed_out : (held given mid slice new bytes : List ℕ) (found : Option ℕ) (ended : Bool) (line now : ℕ) → mid ≡ held ++ given → FindsNewline found mid →
    (found ≡ None → length mid ≤ 131072 → ended ≡ true) → slice ≡ take (line_len found mid) mid → line_bytes slice ≡ Some bytes →
    new ≡ drop (line_skip found mid) mid → now ≡ min (line + 1) (2 ^ 64 - 1) → LaterLines held given new line now ended
handed_out held given mid slice new bytes found ended number now more f ends is spells gone next =
    let skip = line_skip found mid in
    let line = first_line found mid bytes ended f ends (ap line_bytes (sym is) ∙ spells) in
    record {
      lines = take skip mid ∷ [];
      pieces = record { bytes = bytes; handles = [] } ∷ [];
      same =
          sym more ∙ sym (take-append-drop skip mid) ∙ ap (λ t. take skip mid ++ t) (sym gone) ∙ ap (λ t. t ++ new) (sym (append-nil (take skip mid)));
      are_lines = subst (λ (t : List ℕ). AreLines (take skip mid ∷ []) t ended) (sym gone) line.0;
      spelled = ap (λ o. option_map (λ (b : List ℕ). record { bytes = b; handles = [] }) o ∷ []) (ap line_bytes (line.1 ∙ sym is) ∙ spells);
      grown = omega (arith, next);
    }

-- its bytes are the first piece
pub hands_line : (held text mid rest slice new bytes : List ℕ) (left : Option (List ℕ)) (found : Option ℕ) (ended : Bool) (n : ℕ) → FindsFirst held text mid rest found ended →
    slice ≡ take (line_len found mid) mid → line_bytes slice ≡ Some (take n bytes) → new ≡ drop (line_skip found mid) mid → left ≡ Some rest → 0 < n →
    HandsLine held text new left n bytes
hands_line held text mid rest slice new bytes left found ended n f is spells gone left_is some = record {
  rest = rest;
  left_is = left_is;
  ends = λ none. absurd (omega arith);
  piece = λ _. first_pieces held text mid rest slice found ended f is ∙ ap (λ o. piece_before o (pieces_of (drop (line_skip found mid) mid ++ rest))) spells
      ∙ ap (λ t. record { bytes = take n bytes; handles = [] } ∷ pieces_of (t ++ rest)) (sym gone);
}

-- nothing stands before the first newline, or nothing is held
at_end : (found : Option ℕ) (mid rest : List ℕ) → FindsNewline found mid → (found ≡ None → length mid < 131073 → rest ≡ []) → line_len found mid ≡ 0 → IsAtEnd (mid ++ rest)
at_end None [] rest f ends none = inl (ends refl (omega arith))
at_end None (b ∷ bs) rest f ends none = absurd (omega arith)
at_end (Some n) mid rest f ends none =
    let start : mid ≡ 10 ∷ drop 1 mid = subst (λ (k : ℕ). drop k mid ≡ 10 ∷ drop (k + 1) mid) none f.here in
    inr (ap (λ t. slice_get (t ++ rest) 0) start)

-- the same, whatever the input tells
pub holds_end : (found : Option ℕ) (mid : List ℕ) (ended : Bool) → FindsNewline found mid → (found ≡ None → length mid ≤ 131072 → ended ≡ true) →
    line_len found mid ≡ 0 → HoldsEnd mid ended
holds_end None [] ended f ends none = inl (refl, ends refl (omega arith))
holds_end None (b ∷ bs) ended f ends none = absurd (omega arith)
holds_end (Some n) mid ended f ends none =
    let start : mid ≡ 10 ∷ drop 1 mid = subst (λ (k : ℕ). drop k mid ≡ 10 ∷ drop (k + 1) mid) none f.here in
    inr (ap (λ t. slice_get t 0) start)

-- the bytes in front of the first newline are the first line
first_before : (found : Option ℕ) (mid : List ℕ) → FindsNewline found mid → before_newline mid ≡ take (line_len found mid) mid
first_before None mid f = before_all mid f ∙ sym (take_all (length mid) mid (omega arith))
first_before (Some n) mid f =
    ap before_newline (sym (take-append-drop n mid) ∙ ap (λ t. take n mid ++ t) f.here) ∙ before_of_quiet (take n mid) (drop (n + 1) mid) f.before

pub newline_in : (n : ℕ) (mid : List ℕ) → FindsNewline (Some n) mid → has_newline mid ≡ true
newline_in n mid f =
    ap has_newline (sym (take-append-drop n mid) ∙ ap (λ t. take n mid ++ t) f.here) ∙ has_newline-append (take n mid) (10 ∷ drop (n + 1) mid) f.before

all_of_line : (found : Option ℕ) (mid : List ℕ) (ended : Bool) → FindsNewline found mid → (found ≡ None → length mid ≤ 131072 → ended ≡ true) →
    (has_newline mid ≡ true) ⊎ ((131072 < length mid) ⊎ (ended ≡ true))
all_of_line (Some n) mid ended f ends = inl (newline_in n mid f)
all_of_line None mid ended f ends = elim (full_or (length mid)) [ inl full ↦ inr (inl (omega arith)) | inr less ↦ inr (inr (ends refl (omega arith))) ]

-- the first line held is bad
pub holds_bad : (found : Option ℕ) (mid slice : List ℕ) (ended : Bool) (line now n : ℕ) → FindsNewline found mid → (found ≡ None → length mid ≤ 131072 → ended ≡ true) →
    slice ≡ take (line_len found mid) mid → line_bytes slice ≡ None → 0 < length slice → now ≡ min (line + 1) (2 ^ 64 - 1) → Some now ≡ Some n →
    HoldsBadLine mid ended line n
holds_bad found mid slice ended line now n f ends is spells some next was =
    let same : before_newline mid ≡ slice = first_before found mid f ∙ sym is in
    let number : now ≡ n = cc in
    record {
      number = sym number ∙ next;
      some = rw same some;
      spells = ap line_bytes same ∙ spells;
      whole = all_of_line found mid ended f ends;
    }

-- no line comes
pub ends_here : (held text mid rest bytes : List ℕ) (left : Option (List ℕ)) (found : Option ℕ) (ended : Bool) → FindsFirst held text mid rest found ended →
    line_len found mid ≡ 0 → left ≡ Some rest → HandsLine held text mid left 0 bytes
ends_here held text mid rest bytes left found ended f none left_is =
    let P : ℕ → Type 0 = λ n. pieces_of (held ++ text) ≡ piece_before (line_bytes (take n mid)) (pieces_of (drop (line_skip found mid) mid ++ rest)) in
    record {
      rest = rest;
      left_is = left_is;
      ends = λ _. (subst P none (first_pieces held text mid rest (take (line_len found mid) mid) found ended f refl), f.same, at_end found mid rest f.place (λ a b. (f.ends a b).0) none);
      piece = λ some. absurd (omega arith);
    }

pub take_hands : (old new : Option (List ℕ)) (held held_new : List ℕ) (pieces : List Piece) (n : ℕ) (bytes : List ℕ) (handles : List Handle) →
    option_map (λ t. pieces_of (held ++ t)) old ≡ Some pieces → ((t : List ℕ) → old ≡ Some t → HandsLine held t held_new new n bytes) →
    HandsOut pieces (option_map (λ t. pieces_of (held_new ++ t)) new) (record { bytes = n; handles = 0 }) bytes handles
take_hands old new held held_new pieces zero bytes handles told does =
    let h = mapped (λ t. pieces_of (held ++ t)) old pieces told in
    let l = does h.0 h.1 in
    let end = l.ends refl in
    let none : pieces ≡ [] = sym h.2 ∙ end.0 in
    record {
      left = ap (option_map (λ t. pieces_of (held_new ++ t))) l.left_is ∙ ap (λ t. Some t) (ap pieces_of (sym end.1) ∙ end.0 ∙ ap (drop 1) (sym none));
      ends = λ z. none;
      piece = λ some. absurd (omega arith);
    }
take_hands old new held held_new pieces (suc n) bytes handles told does =
    let h = mapped (λ t. pieces_of (held ++ t)) old pieces told in
    let l = does h.0 h.1 in
    let some : 0 < suc n = omega arith in
    let first = sym h.2 ∙ l.piece some in
    record {
      left = ap (option_map (λ t. pieces_of (held_new ++ t))) l.left_is ∙ ap (λ t. Some (drop 1 t)) (sym first);
      ends = λ z. absurd (omega arith);
      piece = λ lt. rw first refl;
    }

pub take_keeps : (old new : Option (List ℕ)) (held held_new : List ℕ) (pieces : List Piece) →
    option_map (λ t. pieces_of (held ++ t)) old ≡ Some pieces → ((t : List ℕ) → old ≡ Some t → Moves held t held_new new) →
    option_map (λ t. pieces_of (held_new ++ t)) new ≡ Some pieces
take_keeps old new held held_new pieces told does =
    let h = mapped (λ t. pieces_of (held ++ t)) old pieces told in
    let m = does h.0 h.1 in
    ap (option_map (λ t. pieces_of (held_new ++ t))) m.left_is ∙ ap (λ t. Some t) (ap pieces_of (sym m.same) ∙ h.2)

-- the same of what the input tells then
pub told_at_end : (left : Option (List ℕ)) (held rest t : List ℕ) → left ≡ Some rest → left ≡ Some t → IsAtEnd (held ++ rest) → IsAtEnd (held ++ t)
told_at_end left held rest t is told end =
    let same : rest ≡ t = cc in
    subst (λ (v : List ℕ). IsAtEnd (held ++ v)) same end

-- the text left behind the bytes that were given
pub left_behind : (old new : Option (List ℕ)) (a b bytes : List ℕ) → b ≡ a ++ bytes → ((t : List ℕ) → old ≡ Some t → Moves a t b new) → LeftBehind old bytes new
left_behind old new a b bytes more moves = λ t is.
    let m = moves t is in
    let whole : a ++ t ≡ a ++ (bytes ++ m.rest) = m.same ∙ ap (λ v. v ++ m.rest) more ∙ append_assoc a bytes m.rest in
    (m.rest, m.left_is, sym (drop-append_seam a t) ∙ ap (drop (length a)) whole ∙ drop-append_seam a (bytes ++ m.rest))

-- what a reading that went on gave, and knows of the end
pub record GoesOn {I : Type 0} (view : I → InputView) (later : I → I → Type 0) (x y : Reading I) : Type 0 where
  pub input : later x.input y.input
  pub count : (view x.input).faults ≤ (view y.input).faults
  pub bytes : List ℕ
  pub gave : (view y.input).given ≡ (view x.input).given ++ bytes
  pub lines : LaterLines x.held bytes y.held x.line y.line y.ended
  pub fetched : LaterFetches (view x.input).fetches (view y.input).fetches x.held bytes lines.lines y.ended
  pub pieces : y.pieces ≡ x.pieces ++ lines.pieces
  pub left : LeftBehind (unread view x) bytes (unread view y)
  pub told : (t : List ℕ) → unread view x ≡ Some t → (view x.input).left ≡ Some t → (view y.input).left ≡ unread view y
  pub asked : KnowsEnd view x y
  pub ended : x.ended ≡ true → (y.input ≡ x.input) × (y.ended ≡ true)
  pub fits : length y.held ≤ ROOM

-- a reading that went on without a bad line
pub unmet_later : {I : Type 0} (view : I → InputView) (later : I → I → Type 0) (x y : Reading I) →
    x.bad ≡ None → y.bad ≡ x.bad → y.bad_faults ≡ x.bad_faults → GoesOn view later x y → LaterReading view later x y
unmet_later view later x y none same same_faults g =
    let unmet : y.bad ≡ None = same ∙ none in
    record {
      input = g.input;
      count = g.count;
      bytes = g.bytes;
      gave = g.gave;
      lines = g.lines;
      fetched = g.fetched;
      pieces = g.pieces;
      left = g.left;
      told = g.told;
      asked = g.asked;
      ended = g.ended;
      kept = λ n is. absurd (not_both x.bad n none is);
      unmet = λ _. (none, sym same_faults);
      met = λ _ n is. absurd (not_both y.bad n unmet is);
      holds = λ _ n is. absurd (not_both y.bad n unmet is);
      bad_count = omega (arith, same_faults);
      fits = λ few. g.fits;
    }
