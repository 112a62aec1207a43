-- Readings that a clock gives to several clients.
use Rattle.std.proofs.Common.{◌≡◌, ℕ, ◌+◌, zero, suc, List, [], ◌∷◌, ◌++◌, length, drop, Option, Some, refl, ap, sym, subst, ◌∙◌, arith}
use Rattle.std.proofs.lemmas.List.{append-nil, drop-drop}
use Rattle.ei_serve.specs.Around.{first_readings, AreDrawn, LeavesReadings}
use Rattle.ei_hub.specs.Clocks.{AreTaken, GaveReadings, IsAmong, Nothing, Skips, Takes, AreSomeGiven}

-- ---- readings of one's own: a clock that told these alone

first_own : (own more : List ℕ) → first_readings (length own) (own ++ more) ≡ own
first_own [] more = refl
first_own (t ∷ own) more = ap (λ (l : List ℕ). t ∷ l) (first_own own more)

drop_own : (own more : List ℕ) → drop (length own) (own ++ more) ≡ more
drop_own [] more = refl
drop_own (t ∷ own) more = drop_own own more

pub draws_own : (own more : List ℕ) → AreDrawn own (Some (own ++ more))
draws_own own more told is =
    let same : own ++ more ≡ told = cc in
    sym (first_own own more) ∙ ap (first_readings (length own)) same

pub leaves_own : (own more : List ℕ) → LeavesReadings own (Some (own ++ more)) (Some more)
leaves_own own more told is =
    let same : own ++ more ≡ told = cc in
    ap (λ (l : List ℕ). Some l) (sym (drop_own own more) ∙ ap (drop (length own)) same)

pub draws_all : (own : List ℕ) → AreDrawn own (Some own)
draws_all own = subst (λ (l : List ℕ). AreDrawn own (Some l)) (append-nil own) (draws_own own [])

pub leaves_all : (own : List ℕ) → LeavesReadings own (Some own) (Some [])
leaves_all own = subst (λ (l : List ℕ). LeavesReadings own (Some l) (Some [])) (append-nil own) (leaves_own own [])

-- ---- some among others

pub among_none : (all : List ℕ) → IsAmong [] all
among_none [] = Nothing
among_none (t ∷ all) = Skips t (among_none all)

pub among_all : (all : List ℕ) → IsAmong all all
among_all [] = Nothing
among_all (t ∷ all) = Takes t (among_all all)

among_then : (a x b y : List ℕ) → IsAmong a x → IsAmong b y → IsAmong (a ++ b) (x ++ y)
among_then _ _ b y Nothing h = h
among_then a _ b y (Skips t {all = x} g) h = Skips t (among_then a x b y g h)
among_then _ _ b y (Takes t {some = a} {all = x} g) h = Takes t (among_then a x b y g h)

drop_nothing : (n : ℕ) → drop {A = ℕ} n [] ≡ []
drop_nothing zero = refl
drop_nothing (suc n) = refl

-- the first readings and those behind them
first_then : (n m : ℕ) (told : List ℕ) → first_readings (n + m) told ≡ first_readings n told ++ first_readings m (drop n told)
first_then zero m told = let none : zero + m ≡ m = omega arith in ap (λ (k : ℕ). first_readings k told) none
first_then (suc n) m [] =
    let more : suc n + m ≡ suc (n + m) = omega arith in
    ap (λ (k : ℕ). first_readings k []) more ∙ ap (λ (l : List ℕ). 0 ∷ l) (first_then n m [] ∙ ap (λ (l : List ℕ). first_readings n [] ++ first_readings m l) (drop_nothing n))
first_then (suc n) m (t ∷ told) =
    let more : suc n + m ≡ suc (n + m) = omega arith in
    ap (λ (k : ℕ). first_readings k (t ∷ told)) more ∙ ap (λ (l : List ℕ). t ∷ l) (first_then n m told)

-- ---- what a clock gave

-- a turn's readings, where the clock told them
pub taken_given : (before after : Option (List ℕ)) (used : List ℕ) → AreTaken before after used → AreSomeGiven before after used
taken_given before after used h told is =
    (length used, h.1 told is, subst (λ (l : List ℕ). IsAmong used l) (h.0 told is) (among_all used))

pub taken_gave : (before after : Option (List ℕ)) (used : List ℕ) → LeavesReadings used before after → GaveReadings before after
taken_gave before after used h told is = (length used, h told is)

-- none were used
pub none_given : (before after : Option (List ℕ)) → GaveReadings before after → AreSomeGiven before after []
none_given before after h told is = let g = h told is in (g.0, g.1, among_none (first_readings g.0 told))

-- nothing was given
pub gave_nothing : (before : Option (List ℕ)) → GaveReadings before before
gave_nothing before told is = (0, is)

-- twice
pub gave_then : (before mid after : Option (List ℕ)) → GaveReadings before mid → GaveReadings mid after → GaveReadings before after
gave_then before mid after g h told is =
    let a = g told is in
    let b = h (drop a.0 told) a.1 in
    (a.0 + b.0, b.1 ∙ ap (λ (l : List ℕ). Some l) (drop-drop b.0 a.0 told))

pub given_then : (before mid after : Option (List ℕ)) (used more : List ℕ) → AreSomeGiven before mid used → AreSomeGiven mid after more → AreSomeGiven before after (used ++ more)
given_then before mid after used more g h told is =
    let a = g told is in
    let b = h (drop a.0 told) a.1 in (
      a.0 + b.0,
      b.1 ∙ ap (λ (l : List ℕ). Some l) (drop-drop b.0 a.0 told),
      subst (λ (l : List ℕ). IsAmong (used ++ more) l) (sym (first_then a.0 b.0 told)) (among_then used (first_readings a.0 told) more (first_readings b.0 (drop a.0 told)) a.2 b.2),
    )

-- the clock gave more behind them
pub given_later : (before mid after : Option (List ℕ)) → GaveReadings mid after → (used : List ℕ) → AreSomeGiven before mid used → AreSomeGiven before after used
given_later before mid after gave used g =
    subst (λ (u : List ℕ). AreSomeGiven before after u) (append-nil used) (given_then before mid after used [] g (none_given mid after gave))
