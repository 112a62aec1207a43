-- Readings of a source go on: in no step, and in two steps as in one. These are proofs; they stand here since the
-- ghost members of `HexSource` name them, and such a member names nothing of its own crate but what stands in `specs`.
use Rattle.std.specs.Prelude.{◌≡◌, ◌<◌, ◌≤◌, ◌⊎◌, ℕ, Bool, true, false, List, [], ◌∷◌, ◌++◌, ◌+◌, ◌-◌, ◌^◌, min, length, map, take, drop, Option, Some, None, refl}
use Rattle.std.proofs.Common.{◌∙◌, sym, ap, append_assoc, arith, length-append, inl, inr, subst}
use Rattle.std.proofs.lemmas.List.{append-nil, take-append-le}
use Rattle.std.proofs.lemmas.List.Concat.{flat_map-append}
use Rattle.std.proofs.Math.Seq.{drop-append_seam, take-append-add}
use Rattle.ei_backend.specs.Outside.{Rose, is_end}
use Rattle.reis_lines.specs.Input.{Fetched, InputView}
use Rattle.reis_lines.specs.Asking.{bytes_in, given_in, says_end, last_is}
use Rattle.ei_spec.specs.Piece.{Piece}
use Rattle.reis_lines.specs.Text.{before_newline, line_bytes, piece_of_line, Spell}
use Rattle.reis_lines.specs.HexSource.{Reading, text_reading, unread, joined_lines, AreLines, LaterLines, HoldsBadLine, Stands, KnowsEnd}
use Rattle.reis_lines.specs.HexSource.{LeftBehind, WantsLine, LaterFetches, LaterReading, LaterSource}
use Rattle.reis_lines.specs.declared.hex_source.HexSource.{HexSource}

joined_lines-append : (a b : List (List ℕ)) → joined_lines (a ++ b) ≡ joined_lines a ++ joined_lines b
joined_lines-append [] b = refl
joined_lines-append (l ∷ a) b = ap (λ t. l ++ t) (joined_lines-append a b) ∙ sym (append_assoc l (joined_lines a) (joined_lines b))

-- no line went
unfoldable pub LaterLines-none : (held given held_new : List ℕ) (line line_new : ℕ) (ended : Bool) → held_new ≡ held ++ given → line_new ≡ line →
    LaterLines held given held_new line line_new ended
LaterLines-none held given held_new line line_new ended is same = record {
  lines = [];
  pieces = [];
  same = sym is;
  are_lines = tt;
  spelled = refl;
  grown = omega (arith, same);
}

pub Stands-refl : {I : Type 0} (x : Reading I) → Stands x x
Stands-refl x = record { input = refl; held = refl; ended = refl; line = refl; bad = refl }

Stands-trans : {I : Type 0} (x y z : Reading I) → Stands x y → Stands y z → Stands x z
Stands-trans x y z a b = record {
  input = b.input ∙ a.input;
  held = b.held ∙ a.held;
  ended = b.ended ∙ a.ended;
  line = b.line ∙ a.line;
  bad = b.bad ∙ a.bad;
}

pub left_all : (told : Option (List ℕ)) → LeftBehind told [] told
left_all told = λ t is. (t, is, refl)

pub none_behind : {A : Type 0} (a b : List A) → a ++ b ≡ [] → b ≡ []
none_behind [] b e = e
none_behind (p ∷ a) b e = cc

-- no line is empty
no_lines : (ls : List (List ℕ)) (rest : List ℕ) (ended : Bool) → AreLines ls rest ended → joined_lines ls ++ rest ≡ [] → ls ≡ []
no_lines [] rest ended w none = refl
no_lines (l ∷ ls) rest ended (inl w) none =
    let joined = length-append (l ++ joined_lines ls) rest in
    absurd (omega (arith, ap length none, joined, length-append l (joined_lines ls), ap length w.0, length-append (before_newline l) (10 ∷ [])))
no_lines (l ∷ ls) rest ended (inr w) none =
    absurd (omega (arith, ap length none, length-append (l ++ joined_lines ls) rest, length-append l (joined_lines ls), w.0))

-- lines in front of lines
AreLines-append : (a b : List (List ℕ)) (rest : List ℕ) (mid ended : Bool) → (mid ≡ true → ended ≡ true) →
    AreLines a (joined_lines b ++ rest) mid → AreLines b rest ended → AreLines (a ++ b) rest ended
AreLines-append [] b rest mid ended on w v = v
AreLines-append (l ∷ a) b rest mid ended on (inl w) v = inl (w.0, AreLines-append a b rest mid ended on w.1 v)
AreLines-append (l ∷ a) b rest mid ended on (inr w) v =
    let none = no_lines b rest ended v w.3 in
    inr (w.0, w.1, ap (λ (t : List (List ℕ)). t ++ b) w.2 ∙ none, none_behind (joined_lines b) rest w.3, on w.4)

-- the same lines in front of more bytes, of which there are none where the input answered its end
pub AreLines-more : (ls : List (List ℕ)) (rest more : List ℕ) (ended : Bool) → (ended ≡ true → more ≡ []) →
    AreLines ls rest ended → AreLines ls (rest ++ more) ended
AreLines-more [] rest more ended none w = w
AreLines-more (l ∷ ls) rest more ended none (inl w) = inl (w.0, AreLines-more ls rest more ended none w.1)
AreLines-more (l ∷ ls) rest more ended none (inr w) = inr (w.0, w.1, w.2, ap (λ (t : List ℕ). t ++ more) w.3 ∙ none w.4, w.4)

map-append : {A B : Type 0} (f : A → B) (a b : List A) → map f (a ++ b) ≡ map f a ++ map f b
map-append f [] b = refl
map-append f (x ∷ a) b = ap (λ t. f x ∷ t) (map-append f a b)

Spell-append : (a b : List (List ℕ)) (p q : List Piece) → Spell (map before_newline a) p → Spell (map before_newline b) q →
    Spell (map before_newline (a ++ b)) (p ++ q)
Spell-append a b p q s t =
    ap (map piece_of_line) (map-append before_newline a b) ∙ map-append piece_of_line (map before_newline a) (map before_newline b)
    ∙ ap (λ v. v ++ map piece_of_line (map before_newline b)) s ∙ ap (λ v. map (λ (x : Piece). Some x) p ++ v) t ∙ sym (map-append (λ (x : Piece). Some x) p q)

unfoldable LaterLines-trans : (a given b more c : List ℕ) (i j k : ℕ) (e f : Bool) → LaterLines a given b i j e → LaterLines b more c j k f →
    (e ≡ true → f ≡ true) → (e ≡ true → more ≡ []) → LaterLines a (given ++ more) c i k f
LaterLines-trans a given b more c i j k e f p q on none = record {
  lines = p.lines ++ q.lines;
  pieces = p.pieces ++ q.pieces;
  same =
      sym (append_assoc a given more) ∙ ap (λ v. v ++ more) p.same ∙ append_assoc (joined_lines p.lines) b more
      ∙ ap (λ v. joined_lines p.lines ++ v) q.same ∙ sym (append_assoc (joined_lines p.lines) (joined_lines q.lines) c)
      ∙ ap (λ v. v ++ c) (sym (joined_lines-append p.lines q.lines));
  are_lines =
      AreLines-append p.lines q.lines c e f on
      (subst (λ (v : List ℕ). AreLines p.lines v e) q.same (AreLines-more p.lines b more e none p.are_lines)) q.are_lines;
  spelled = Spell-append p.lines q.lines p.pieces q.pieces p.spelled q.spelled;
  grown = omega (arith, p.grown, q.grown, length-append p.lines q.lines);
}

-- the same was given: no more came behind it
none_given : {A : Type 0} (a more b : List A) → b ≡ a ++ more → b ≡ a → more ≡ []
none_given a more b gave same =
    sym (drop-append_seam a more) ∙ ap (drop (length a)) (sym gave ∙ same ∙ sym (append-nil a)) ∙ drop-append_seam a []

-- ---- the answers of the input

last_behind : (test : Fetched → Bool) (a : List Fetched) (f : Fetched) (b : List Fetched) → last_is test (a ++ f ∷ b) ≡ last_is test (f ∷ b)
last_behind test [] f b = refl
last_behind test (g ∷ []) f b = refl
last_behind test (g ∷ h ∷ a) f b = last_behind test (h ∷ a) f b

open_of : (t : Bool) → (t ≡ true → ⊥) → t ≡ false
open_of true not = absurd (not refl)
open_of false not = refl

open_behind : (p r : List Fetched) → (last_is says_end p ≡ true → ⊥) → last_is says_end r ≡ false → last_is says_end (p ++ r) ≡ false
open_behind p [] not open_yet = ap (last_is says_end) (append-nil p) ∙ open_of (last_is says_end p) not
open_behind p (f ∷ r) not open_yet = last_behind says_end p f r ∙ open_yet

ends_behind : (p q : List Fetched) (e f : Bool) → (last_is says_end p ≡ true → e ≡ true) → (last_is says_end q ≡ true → f ≡ true) → (e ≡ true → f ≡ true) →
    last_is says_end (p ++ q) ≡ true → f ≡ true
ends_behind p [] e f first second on is = on (first (ap (last_is says_end) (sym (append-nil p)) ∙ is))
ends_behind p (g ∷ q) e f first second on is = second (sym (last_behind says_end p g q) ∙ is)

pub not_behind : {A : Type 0} (q : List A) (k : ℕ) → q ≡ [] → k < length q → ⊥
not_behind q k none lt = omega (arith, ap length none, lt)

less_or : (n k : ℕ) → (n < k) ⊎ (k ≤ n)
less_or n k = grind arith

before_or : (n k : ℕ) → (n < k) ⊎ ((j : ℕ) × (n ≡ k + j))
before_or n k = elim (less_or n k) [ inl less ↦ inl less | inr more ↦ inr (n - k, omega (arith, more)) ]

-- no answer came
unfoldable pub LaterFetches-none : (answers : List Fetched) (held : List ℕ) (lines : List (List ℕ)) (ended : Bool) → LaterFetches answers answers held [] lines ended
LaterFetches-none answers held lines ended = record {
  fetches = [];
  answered = sym (append-nil answers);
  given = refl;
  open_yet = λ n lt. absurd (not_behind {A = Fetched} [] n refl lt);
  needed = λ n lt. absurd (not_behind {A = Fetched} [] n refl lt);
  ends = λ e. cc;
}

-- and then more
wants_before : (seen : List ℕ) (l m : List (List ℕ)) → WantsLine seen l → WantsLine seen (l ++ m)
wants_before seen l m w = record {
  went = w.went;
  others = w.others ++ m;
  first = ap (λ v. v ++ m) w.first ∙ append_assoc w.went w.others m;
  rest = w.rest;
  same = w.same;
  quiet = w.quiet;
  short = w.short;
}

wants_behind : (a b : List ℕ) (l m : List (List ℕ)) (p r : List Fetched) → a ++ given_in p ≡ joined_lines l ++ b → WantsLine (b ++ given_in r) m →
    WantsLine (a ++ given_in (p ++ r)) (l ++ m)
wants_behind a b l m p r same w = record {
  went = l ++ w.went;
  others = w.others;
  first = ap (λ v. l ++ v) w.first ∙ sym (append_assoc l w.went w.others);
  rest = w.rest;
  same =
      ap (λ v. a ++ v) (flat_map-append bytes_in p r) ∙ sym (append_assoc a (given_in p) (given_in r)) ∙ ap (λ v. v ++ given_in r) same
      ∙ append_assoc (joined_lines l) b (given_in r) ∙ ap (λ v. joined_lines l ++ v) w.same
      ∙ sym (append_assoc (joined_lines l) (joined_lines w.went) w.rest) ∙ ap (λ v. v ++ w.rest) (sym (joined_lines-append l w.went));
  quiet = w.quiet;
  short = w.short;
}

-- The answers before a place among those of two readings: some of the first's, or all of these and some of the second's.
data Before (p q : List Fetched) (n : ℕ) : Type 0 where
  Within : n < length p → take n (p ++ q) ≡ take n p → Before p q n
  Behind : (k : ℕ) → k < length q → take n (p ++ q) ≡ p ++ take k q → Before p q n

before : (p q : List Fetched) (n : ℕ) → n < length (p ++ q) → Before p q n
before p q n lt = elim (before_or n (length p)) [
  | inl less ↦ Within less (take-append-le n p q (omega (arith, less)))
  | inr behind ↦
      Behind behind.0 (omega (arith, lt, behind.1, length-append p q)) (ap (λ (k : ℕ). take k (p ++ q)) behind.1 ∙ take-append-add p q behind.0)
]

unfoldable LaterFetches-trans : (old mid new : List Fetched) (a bytes b more : List ℕ) (l m : List (List ℕ)) (e f : Bool) →
    LaterFetches old mid a bytes l e → LaterFetches mid new b more m f → a ++ bytes ≡ joined_lines l ++ b → (e ≡ true → f ≡ true) → (e ≡ true → new ≡ mid) →
    LaterFetches old new a (bytes ++ more) (l ++ m) f
LaterFetches-trans old mid new a bytes b more l m e f p q same on still =
    let none : e ≡ true → q.fetches ≡ [] = λ end. none_given mid q.fetches new q.answered (still end) in
    let not_ended : (k : ℕ) → k < length q.fetches → last_is says_end p.fetches ≡ true → ⊥ = λ k lt is. not_behind q.fetches k (none (p.ends is)) lt in
    let seen : a ++ given_in p.fetches ≡ joined_lines l ++ b = ap (λ v. a ++ v) (sym p.given) ∙ same in
    record {
      fetches = p.fetches ++ q.fetches;
      answered = q.answered ∙ ap (λ v. v ++ q.fetches) p.answered ∙ append_assoc old p.fetches q.fetches;
      given = ap (λ v. v ++ more) p.given ∙ ap (λ v. given_in p.fetches ++ v) q.given ∙ sym (flat_map-append bytes_in p.fetches q.fetches);
      open_yet = λ n lt. elim (before p.fetches q.fetches n lt) [
        | Within less is ↦ ap (last_is says_end) is ∙ p.open_yet n less
        | Behind k less is ↦ ap (last_is says_end) is ∙ open_behind p.fetches (take k q.fetches) (not_ended k less) (q.open_yet k less)
      ];
      needed = λ n lt. elim (before p.fetches q.fetches n lt) [
        | Within less is ↦ subst (λ (v : List Fetched). WantsLine (a ++ given_in v) (l ++ m)) (sym is) (wants_before (a ++ given_in (take n p.fetches)) l m (p.needed n less))
        | Behind k less is ↦ subst (λ (v : List Fetched). WantsLine (a ++ given_in v) (l ++ m)) (sym is) (wants_behind a b l m p.fetches (take k q.fetches) seen (q.needed k less))
      ];
      ends = ends_behind p.fetches q.fetches e f p.ends q.ends on;
    }

left_on : (x y z : Option (List ℕ)) (a b : List ℕ) → LeftBehind x a y → LeftBehind y b z → LeftBehind x (a ++ b) z
left_on x y z a b p q = λ t is.
    let m = p t is in
    let n = q m.0 m.1 in
    (n.0, n.1, m.2 ∙ ap (λ v. a ++ v) n.2 ∙ sym (append_assoc a b n.0))

knows_on : {I : Type 0} (view : I → InputView) (x y z : Reading I) → KnowsEnd view x y → KnowsEnd view y z → KnowsEnd view x z
knows_on view x y z a (inr is) = inr is
knows_on view x y z (inl p) (inl q) = inl (q.0 ∙ p.0, q.1 ∙ p.1)
knows_on view x y z (inr is) (inl q) = inr (q.1 ∙ is ∙ ap (λ i. is_end (view i).last) (sym q.0))

some_or_none : (o : Option ℕ) → (o ≡ None) ⊎ ((n : ℕ) × (o ≡ Some n))
some_or_none None = inl refl
some_or_none (Some n) = inr (n, refl)

-- the same bad line, where nothing was read behind it
holds_still : {I : Type 0} (y z : Reading I) (m n : ℕ) → Stands y z → m ≡ n → HoldsBadLine y.held y.ended y.line m → HoldsBadLine z.held z.ended z.line n
holds_still y z m n s same h = record {
  number = sym same ∙ h.number ∙ ap (λ (k : ℕ). min (k + 1) (2 ^ 64 - 1)) (sym s.line);
  some = rw s.held h.some;
  spells = ap (λ (v : List ℕ). line_bytes (before_newline v)) s.held ∙ h.spells;
  whole = rw (s.held, s.ended) h.whole;
}

number_same : (o : Option ℕ) (m n : ℕ) → o ≡ Some m → o ≡ Some n → m ≡ n
number_same o m n a b = cc

module _ {I : Type 0} (view : I → InputView) (later : I → I → Type 0) where
  abbrev Later : Reading I → Reading I → Type 0
  Later = LaterReading view later

  LaterReading-refl : ((x : I) → later x x) → (x : Reading I) → x.bad ≡ x.bad → Later x x
  unfolding LaterLines-none LaterFetches-none
  LaterReading-refl r x same = record {
    input = r x.input;
    count = omega arith;
    bytes = [];
    gave = sym (append-nil (view x.input).given);
    lines = LaterLines-none x.held [] x.held x.line x.line x.ended (sym (append-nil x.held)) refl;
    fetched = LaterFetches-none (view x.input).fetches x.held [] x.ended;
    pieces = sym (append-nil x.pieces);
    left = left_all (unread view x);
    told = λ t left is. is ∙ sym left;
    asked = inl (refl, refl);
    ended = λ is. (refl, is);
    kept = λ n is. Stands-refl x;
    unmet = λ none. (none, refl);
    met = λ none n is. cc;
    holds = λ none n is. cc;
    bad_count = omega arith;
    fits = λ few. few;
  }

  pub LaterSource-refl : ((x : I) → later x x) → (x : HexSource I) → LaterSource view later x x
  LaterSource-refl r x = record {
    same_reference = refl;
    reading = LaterReading-refl r (text_reading x) refl;
    truly = λ true. true;
    ends = λ t told true. true;
  }

  met_on : (x y z : Reading I) → Later x y → Later y z →
      x.bad ≡ None → (n : ℕ) → z.bad ≡ Some n → Rose x.bad_faults z.bad_faults
  met_on x y z a b none n is =
      elim (some_or_none y.bad) [
        | inl unmet ↦ omega (arith, (a.unmet unmet).1, b.met unmet n is)
        | inr met ↦ omega (arith, a.met none met.0 met.1, b.bad_count)
      ]

  holds_on : (x y z : Reading I) →
      Later x y → Later y z → x.bad ≡ None → (n : ℕ) → z.bad ≡ Some n → HoldsBadLine z.held z.ended z.line n
  holds_on x y z a b none n is =
      elim (some_or_none y.bad) [
        | inl unmet ↦ b.holds unmet n is
        | inr met ↦
            let s = b.kept met.0 met.1 in
            holds_still y z met.0 n s (number_same z.bad met.0 n (s.bad ∙ met.1) is) (a.holds none met.0 met.1)
      ]

  LaterReading-trans : ((x y z : I) → later x y → later y z → later x z) →
      (x y z : Reading I) → Later x y → Later y z → Later x z
  unfolding LaterLines-trans LaterFetches-trans
  LaterReading-trans r x y z a b = record {
    input = r x.input y.input z.input a.input b.input;
    count = omega (arith, a.count, b.count);
    bytes = a.bytes ++ b.bytes;
    gave = b.gave ∙ ap (λ v. v ++ b.bytes) a.gave ∙ append_assoc (view x.input).given a.bytes b.bytes;
    lines = LaterLines-trans x.held a.bytes y.held b.bytes z.held x.line y.line z.line y.ended z.ended a.lines b.lines (λ is. (b.ended is).1)
        (λ is. none_given (view y.input).given b.bytes (view z.input).given b.gave (ap (λ i. (view i).given) (b.ended is).0));
    fetched = LaterFetches-trans (view x.input).fetches (view y.input).fetches (view z.input).fetches x.held a.bytes y.held b.bytes a.lines.lines b.lines.lines y.ended z.ended
        a.fetched b.fetched a.lines.same (λ is. (b.ended is).1) (λ is. ap (λ i. (view i).fetches) (b.ended is).0);
    pieces = b.pieces ∙ ap (λ v. v ++ b.lines.pieces) a.pieces ∙ append_assoc x.pieces a.lines.pieces b.lines.pieces;
    left = left_on (unread view x) (unread view y) (unread view z) a.bytes b.bytes a.left b.left;
    told = λ t left is. let p = a.left t left in b.told p.0 p.1 (a.told t left is ∙ p.1);
    asked = knows_on view x y z a.asked b.asked;
    ended = λ is. let p = a.ended is in let q = b.ended p.1 in (q.0 ∙ p.0, q.1);
    kept = λ n is. let s = a.kept n is in Stands-trans x y z s (b.kept n (s.bad ∙ is));
    unmet = λ none. let k = b.unmet none in let h = a.unmet k.0 in (h.0, h.1 ∙ k.1);
    met = met_on x y z a b;
    holds = holds_on x y z a b;
    bad_count = omega (arith, a.bad_count, b.bad_count);
    fits = λ few. b.fits (a.fits few);
  }

  pub LaterSource-trans : ((x y z : I) → later x y → later y z → later x z) →
      (x y z : HexSource I) → LaterSource view later x y → LaterSource view later y z → LaterSource view later x z
  LaterSource-trans r x y z a b = record {
    same_reference = a.same_reference ∙ b.same_reference;
    reading = LaterReading-trans r (text_reading x) (text_reading y) (text_reading z) a.reading b.reading;
    truly = λ true. b.truly (a.truly true);
    ends = λ t told true. let p = a.reading.left t told in b.ends p.0 p.1 (a.ends t told true);
  }
