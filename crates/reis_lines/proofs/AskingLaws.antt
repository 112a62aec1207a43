-- Answers that an input gave, each in need.
use Rattle.std.proofs.Common.{◌≡◌, ◌<◌, ◌≤◌, ◌⊎◌, inl, inr, ℕ, ◌+◌, List, [], ◌∷◌, ◌++◌, length, take, drop, refl, ap, sym, ◌∙◌, append_assoc, subst}
use Rattle.std.proofs.Common.{arith, length-append}
use Rattle.std.proofs.lemmas.List.{append-nil, take-append-le}
use Rattle.std.proofs.Math.Seq.{take-append_seam, drop-append_seam}
use Rattle.std.proofs.lemmas.List.Concat.{flat_map-append}
use Rattle.std.specs.Prelude.{Bool, true, false, nat_le, Ok, Err, Option, Some, None, is_some, not, IsSome}
use Rattle.ei_backend.specs.declared.outside.Fault.{Fault}
use Rattle.reis_lines.specs.Asking.{bytes_in, given_in, says_end, has_no_byte, last_is, fetches_since, AskedUntil, HoldsLine, HasLine, AskedBehind}
use Rattle.reis_lines.specs.Given.{came_to_end}
use Rattle.reis_lines.specs.Held.{AnswersBehind, FindsNewline}
use Rattle.reis_lines.specs.HexSource.{Reading, EndsOrHasLine, AsksNoMore, LaterFetches}
use Rattle.reis_lines.specs.Input.{Fetched, InputView}
use Rattle.reis_lines.specs.Text.{has_newline}
use Rattle.reis_lines.proofs.SourceLaws.{newline_in}

-- ---- one answer more

pub given_more : (fs : List Fetched) (f : Fetched) → given_in (fs ++ f ∷ []) ≡ given_in fs ++ bytes_in f
given_more fs f = flat_map-append bytes_in fs (f ∷ []) ∙ ap (λ v. given_in fs ++ v) (append-nil (bytes_in f))

pub last_more : (test : Fetched → Bool) (fs : List Fetched) (f : Fetched) → last_is test (fs ++ f ∷ []) ≡ test f
last_more test [] f = refl
last_more test (g ∷ []) f = refl
last_more test (g ∷ h ∷ fs) f = last_more test (h ∷ fs) f

empty_at_end : (f : Fetched) → says_end f ≡ true → has_no_byte f ≡ true
empty_at_end (Ok []) e = refl
empty_at_end (Ok (b ∷ bs)) e = cc
empty_at_end (Err x) e = cc

last_empty : (fs : List Fetched) → last_is says_end fs ≡ true → last_is has_no_byte fs ≡ true
last_empty [] e = cc
last_empty (f ∷ []) e = empty_at_end f e
last_empty (f ∷ g ∷ fs) e = last_empty (g ∷ fs) e

not_both : (b : Bool) → b ≡ true → b ≡ false → ⊥
not_both b t f = cc

no_line : (b : List ℕ) → has_newline b ≡ false → length b < 131073 → HoldsLine b → ⊥
no_line b quiet few (inl newline) = not_both (has_newline b) newline quiet
no_line b quiet few (inr long) = omega (arith, few, long)

-- ---- the answers that a search for a line has had yet: each was needed, and has a byte

pub record AskedYet {I : Type 0} (view : I → InputView) (old new : I) (held_old held_new : List ℕ) : Type 0 where
  pub fetches : List Fetched
  pub answered : (view new).fetches ≡ (view old).fetches ++ fetches
  pub held : held_new ≡ held_old ++ given_in fetches
  pub needed : (n : ℕ) → n < length fetches → HasLine held_old (take n fetches) → ⊥
  pub some : last_is has_no_byte fetches ≡ false

none_before : (held : List ℕ) (n : ℕ) → n < 0 → HasLine held (take n []) → ⊥
none_before held n lt h = omega (arith, lt)

-- none yet
pub asked_first : {I : Type 0} (view : I → InputView) (old new : I) (a b : List ℕ) → new ≡ old → b ≡ a → AskedYet view old new a b
asked_first view old new a b same held = record {
  fetches = [];
  answered = ap (λ x. (view x).fetches) same ∙ sym (append-nil (view old).fetches);
  held = held ∙ sym (append-nil a);
  needed = none_before a;
  some = refl;
}

-- with the answers yet no line is there
needs_more : {I : Type 0} (view : I → InputView) (old mid : I) (a b b' : List ℕ) (y : AskedYet view old mid a b) → b' ≡ b → has_newline b' ≡ false → length b' < 131073 →
    HasLine a y.fetches → ⊥
needs_more view old mid a b b' y is quiet few (inl line) = no_line b' quiet few (subst HoldsLine (sym (is ∙ y.held)) line)
needs_more view old mid a b b' y is quiet few (inr empty) = not_both (last_is has_no_byte y.fetches) empty y.some

at_seam : (n k : ℕ) → n < k + 1 → (n < k) ⊎ (n ≡ k)
at_seam n k lt = grind arith

-- each of one answer more was needed
needed_more : (Enough : List Fetched → Type 0) (fs : List Fetched) (f : Fetched) → ((n : ℕ) → n < length fs → Enough (take n fs) → ⊥) → (Enough fs → ⊥) →
    (n : ℕ) → n < length (fs ++ f ∷ []) → Enough (take n (fs ++ f ∷ [])) → ⊥
needed_more Enough fs f before now n lt =
    elim (at_seam n (length fs) (omega (arith, lt, length-append fs (f ∷ [])))) [
      | inl less ↦ λ e. before n less (subst Enough (take-append-le n fs (f ∷ []) (omega (arith, less))) e)
      | inr same ↦ λ e. now (subst Enough (ap (λ k. take k (fs ++ f ∷ [])) same ∙ take-append_seam fs (f ∷ [])) e)
    ]

answered_more : (old mid new fs : List Fetched) (f : Fetched) → mid ≡ old ++ fs → new ≡ mid ++ f ∷ [] → new ≡ old ++ (fs ++ f ∷ [])
answered_more old mid new fs f was is = is ∙ ap (λ v. v ++ f ∷ []) was ∙ append_assoc old fs (f ∷ [])

held_more : (a b b' c bytes : List ℕ) (fs : List Fetched) → b ≡ a ++ given_in fs → b' ≡ b → c ≡ b' ++ bytes → c ≡ a ++ given_in (fs ++ Ok bytes ∷ [])
held_more a b b' c bytes fs was is more =
    more ∙ ap (λ v. v ++ bytes) (is ∙ was) ∙ append_assoc a (given_in fs) bytes ∙ ap (λ v. a ++ v) (sym (given_more fs (Ok bytes)))

some_bytes : (bytes : List ℕ) (n : ℕ) → length bytes ≡ n → (n ≡ 0 → ⊥) → has_no_byte (Ok bytes) ≡ false
some_bytes [] n size some = absurd (some (sym size))
some_bytes (b ∷ bs) n size some = refl

no_bytes : (bytes : List ℕ) (n : ℕ) → length bytes ≡ n → n ≡ 0 → has_no_byte (Ok bytes) ≡ true
no_bytes [] n size none = refl
no_bytes (b ∷ bs) n size none = absurd (omega (arith, size, none))

-- some bytes came
pub asked_on : {I : Type 0} (view : I → InputView) (old mid new : I) (a b b' c : List ℕ) (n : ℕ) → AskedYet view old mid a b → b' ≡ b →
    has_newline b' ≡ false → length b' < 131073 → AnswersBehind (view mid).fetches (view new).fetches b' c n → (n ≡ 0 → ⊥) → AskedYet view old new a c
asked_on view old mid new a b b' c n y is quiet few g some = record {
  fetches = y.fetches ++ Ok g.bytes ∷ [];
  answered = answered_more (view old).fetches (view mid).fetches (view new).fetches y.fetches (Ok g.bytes) y.answered g.answered;
  held = held_more a b b' c g.bytes y.fetches y.held is g.held;
  needed = needed_more (HasLine a) y.fetches (Ok g.bytes) y.needed (needs_more view old mid a b b' y is quiet few);
  some = last_more has_no_byte y.fetches (Ok g.bytes) ∙ some_bytes g.bytes n g.size some;
}

pub finds_line : (found : Option ℕ) (b b' : List ℕ) → FindsNewline found b → b' ≡ b → (is_some found ≡ true) ⊎ (131073 ≤ length b') → HoldsLine b'
finds_line (Some n) b b' f is stop = inl (ap has_newline is ∙ newline_in n b f)
finds_line None b b' f is (inl some) = absurd cc
finds_line None b b' f is (inr long) = inr (omega (arith, long))

pub few_known : (n k : ℕ) → n ≡ k + 0 → k < 131073 → nat_le n 131072 ≡ true
few_known n k is few = grind (arith, is, few)

-- a line is there
pub asked_line : {I : Type 0} (view : I → InputView) (old new : I) (a b b' : List ℕ) (ended : Bool) → AskedYet view old new a b → b' ≡ b → HoldsLine b' →
    AskedBehind (HasLine a) view old new a b' ended
asked_line view old new a b b' ended y is line = record {
  asked = record {
    fetches = y.fetches;
    answered = y.answered;
    just = record { enough = inl (subst HoldsLine (is ∙ y.held) line); needed = y.needed };
  };
  held = is ∙ y.held;
  ends = λ e. absurd (not_both (last_is has_no_byte y.fetches) (last_empty y.fetches e) y.some);
}

-- the input is at its end
pub asked_ended : {I : Type 0} (view : I → InputView) (old mid new : I) (a b b' c : List ℕ) (n : ℕ) (ended : Bool) → AskedYet view old mid a b → b' ≡ b →
    has_newline b' ≡ false → length b' < 131073 → AnswersBehind (view mid).fetches (view new).fetches b' c n → n ≡ 0 → ended ≡ true →
    AskedBehind (HasLine a) view old new a c ended
asked_ended view old mid new a b b' c n ended y is quiet few g none known = record {
  asked = record {
    fetches = y.fetches ++ Ok g.bytes ∷ [];
    answered = answered_more (view old).fetches (view mid).fetches (view new).fetches y.fetches (Ok g.bytes) y.answered g.answered;
    just = record {
      enough = inr (last_more has_no_byte y.fetches (Ok g.bytes) ∙ no_bytes g.bytes n g.size none);
      needed = needed_more (HasLine a) y.fetches (Ok g.bytes) y.needed (needs_more view old mid a b b' y is quiet few);
    };
  };
  held = held_more a b b' c g.bytes y.fetches y.held is g.held;
  ends = λ e. known;
}

-- the input failed
pub asked_failed : {I : Type 0} (view : I → InputView) (old mid new : I) (a b b' c : List ℕ) (x : Fault) (ended : Bool) → AskedYet view old mid a b → b' ≡ b →
    has_newline b' ≡ false → length b' < 131073 → (view new).fetches ≡ (view mid).fetches ++ Err x ∷ [] → c ≡ b' → AskedBehind (HasLine a) view old new a c ended
asked_failed view old mid new a b b' c x ended y is quiet few answered same = record {
  asked = record {
    fetches = y.fetches ++ Err x ∷ [];
    answered = answered_more (view old).fetches (view mid).fetches (view new).fetches y.fetches (Err x) y.answered answered;
    just = record {
      enough = inr (last_more has_no_byte y.fetches (Err x));
      needed = needed_more (HasLine a) y.fetches (Err x) y.needed (needs_more view old mid a b b' y is quiet few);
    };
  };
  held = same ∙ is ∙ y.held ∙ ap (λ v. a ++ v) (sym (given_more y.fetches (Err x) ∙ append-nil (given_in y.fetches)));
  ends = λ e. absurd (not_both (last_is says_end (y.fetches ++ Err x ∷ [])) e (last_more says_end y.fetches (Err x)));
}

-- ---- a source that searches for a line

-- behind the input's end nothing is asked
pub asks_none : {I : Type 0} (view : I → InputView) (old new : I) (a b : List ℕ) (ended now : Bool) → ended ≡ true → new ≡ old → b ≡ a →
    AskedBehind (EndsOrHasLine ended a) view old new a b now
asks_none view old new a b ended now end same held = record {
  asked = record {
    fetches = [];
    answered = ap (λ x. (view x).fetches) same ∙ sym (append-nil (view old).fetches);
    just = record { enough = inl end; needed = λ n lt e. omega (arith, lt) };
  };
  held = held ∙ sym (append-nil a);
  ends = λ e. absurd (cc);
}

-- a search that came to the end found none, and a line may have all that is held
pub none_at_end : (found : Option ℕ) (count : ℕ) (none : Bool) → is_some found ≡ not none → none ≡ false → came_to_end (Ok found) count ≡ true → ⊥
none_at_end None count none is open_yet e = absurd (not_both (not none) (ap not open_yet) (sym is))
none_at_end (Some n) count none is open_yet e = absurd (not_both false e refl)

pub few_at_end : (found : Option ℕ) (count : ℕ) → came_to_end (Ok found) count ≡ true → nat_le count 131072 ≡ true
few_at_end None count e = e
few_at_end (Some n) count e = cc

open_or_line : (ended : Bool) (held : List ℕ) (fs : List Fetched) → ended ≡ false → EndsOrHasLine ended held fs → HasLine held fs
open_or_line ended held fs open_yet (inl end) = absurd (not_both ended end open_yet)
open_or_line ended held fs open_yet (inr line) = line

-- before that it is asked as the search asks
pub asks_as : {I : Type 0} (view : I → InputView) (old new : I) (a b : List ℕ) (ended came now : Bool) → ended ≡ false → (came ≡ true → now ≡ true) →
    AskedBehind (HasLine a) view old new a b came → AskedBehind (EndsOrHasLine ended a) view old new a b now
asks_as view old new a b ended came now open_yet known s = record {
  asked = record {
    fetches = s.asked.fetches;
    answered = s.asked.answered;
    just = record { enough = inr s.asked.just.enough; needed = λ n lt e. s.asked.just.needed n lt (open_or_line ended a (take n s.asked.fetches) open_yet e) };
  };
  held = s.held;
  ends = λ e. known (s.ends e);
}

-- ---- a take

no_bad : (bad : Option ℕ) → bad ≡ None → IsSome bad → ⊥
no_bad bad none some = cc

good_or : {I : Type 0} (r : Reading I) (fs : List Fetched) → r.bad ≡ None → AsksNoMore r fs → EndsOrHasLine r.ended r.held fs
good_or r fs none (inl bad) = absurd (no_bad r.bad none bad)
good_or r fs none (inr e) = e

-- where no bad line was met the input is asked as the search asks
pub takes_as : {I : Type 0} (view : I → InputView) (x : Reading I) (new : I) (b : List ℕ) (now : Bool) → x.bad ≡ None →
    AskedBehind (EndsOrHasLine x.ended x.held) view x.input new x.held b now → AskedUntil (AsksNoMore x) view x.input new
takes_as view x new b now none s = record {
  fetches = s.asked.fetches;
  answered = s.asked.answered;
  just = record { enough = inr s.asked.just.enough; needed = λ n lt e. s.asked.just.needed n lt (good_or x (take n s.asked.fetches) none e) };
}

pub bad_met : (bad : Option ℕ) → is_some bad ≡ true → IsSome bad
bad_met None e = cc
bad_met (Some n) e = refl

-- behind one it isn't asked
pub takes_none : {I : Type 0} (view : I → InputView) (x : Reading I) → IsSome x.bad → AskedUntil (AsksNoMore x) view x.input x.input
takes_none view x bad = record {
  fetches = [];
  answered = sym (append-nil (view x.input).fetches);
  just = record { enough = inl bad; needed = λ n lt e. omega (arith, lt) };
}

-- ---- how a reading goes on

same_behind : (a b c d : List ℕ) → d ≡ a ++ b → d ≡ a ++ c → b ≡ c
same_behind a b c d p q = sym (drop-append_seam a b) ∙ ap (drop (length a)) (sym p ∙ q) ∙ drop-append_seam a c

quiet_of : (t : Bool) → (t ≡ true → ⊥) → t ≡ false
quiet_of true not = absurd (not refl)
quiet_of false not = refl

few_or : (n : ℕ) → (n ≤ 131072) ⊎ (131072 < n)
few_or n = grind arith

few_of : (n : ℕ) → (131072 < n → ⊥) → n ≤ 131072
few_of n not = elim (few_or n) [ inl few ↦ few | inr long ↦ absurd (not long) ]

open_of : (t : Bool) (fs : List Fetched) → last_is says_end fs ≡ t → (last_is has_no_byte fs ≡ true → ⊥) → last_is says_end fs ≡ false
open_of true fs is not = absurd (not (last_empty fs is))
open_of false fs is not = is

-- a search gave these bytes in answers of which each was needed
pub later_fetches : {I : Type 0} (view : I → InputView) (old new : I) (a b bytes : List ℕ) (ended now : Bool) (lines : List (List ℕ)) → b ≡ a ++ bytes →
    AskedBehind (EndsOrHasLine ended a) view old new a b now → LaterFetches (view old).fetches (view new).fetches a bytes lines now
later_fetches view old new a b bytes ended now lines more s =
    let fs = s.asked.fetches in
    record {
      fetches = fs;
      answered = s.asked.answered;
      given = same_behind a bytes (given_in fs) b more s.held;
      open_yet = λ n lt. open_of (last_is says_end (take n fs)) (take n fs) refl (λ e. s.asked.just.needed n lt (inr (inr e)));
      needed = λ n lt. record {
        went = [];
        others = lines;
        first = refl;
        rest = a ++ given_in (take n fs);
        same = refl;
        quiet = quiet_of (has_newline (a ++ given_in (take n fs))) (λ e. s.asked.just.needed n lt (inr (inl (inl e))));
        short = few_of (length (a ++ given_in (take n fs))) (λ e. s.asked.just.needed n lt (inr (inl (inr e))));
      };
      ends = s.ends;
    }

-- the answers since are those behind the ones before
pub answers_since : {I : Type 0} (view : I → InputView) (old new : I) (fs : List Fetched) → (view new).fetches ≡ (view old).fetches ++ fs → fetches_since view old new ≡ fs
answers_since view old new fs answered = ap (drop (length (view old).fetches)) answered ∙ drop-append_seam (view old).fetches fs
