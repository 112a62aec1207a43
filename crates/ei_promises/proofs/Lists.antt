-- Lists of messages that were sent one after another, and ends of them.
use Rattle.std.proofs.Common.{◌≡◌, ℕ, ◌-◌, Bool, true, false, cond, List, [], ◌∷◌, ◌++◌, length, take, refl, sym, ap, ◌∙◌, append_assoc}
use Rattle.std.proofs.lemmas.List.{take-append-drop}
use Rattle.ei_spec.specs.History.{occurs}
use Rattle.ei_ends.specs.Sent.{Sent}
use Rattle.ei_ends.specs.Way.{onto}
use Rattle.ei_shaking.specs.Both.{has, up_to, Hears}

pub not_both : (b : Bool) → b ≡ true → b ≡ false → ⊥
not_both b t f = let both : true ≡ false = sym t ∙ f in absurd cc

pub onto_both : (a b past : List Sent) → onto (a ++ b) past ≡ onto b (onto a past)
onto_both [] b past = refl
onto_both (m ∷ a) b past = onto_both a b (m ∷ past)

pub onto_some : (ms past : List Sent) → (y : List Sent) × (onto ms past ≡ y ++ past)
onto_some [] past = ([], refl)
onto_some (m ∷ ms) past = let r = onto_some ms (m ∷ past) in (r.0 ++ (m ∷ []), r.1 ∙ sym (append_assoc r.0 (m ∷ []) past))

-- what was taken lies behind what wasn't yet
pub behind : (taken sent : List Sent) → Hears taken sent → (newer : List Sent) × (newer ++ taken ≡ sent)
behind taken sent h =
    let n : ℕ = length sent - length taken in
    (take n sent, ap (λ (l : List Sent). take n sent ++ l) h ∙ take-append-drop n sent)

-- ---- where a message passes

module _ (test : Sent → Bool) where
  pub has_more : (m : Sent) (past : List Sent) → has test (m ∷ past) ≡ cond (test m) true (has test past)
  unfolding occurs
  has_more m past = by (test m) refl
    where
      by : (b : Bool) → test m ≡ b → has test (m ∷ past) ≡ cond b true (has test past)
      by true e = rw e refl
      by false e = rw e refl

  pub none_has : has test [] ≡ false
  unfolding occurs
  none_has = refl

  pub none_passes : (m : Sent) (past : List Sent) → has test (m ∷ past) ≡ false → (test m ≡ false) × (has test past ≡ false)
  none_passes m past h = by (test m) refl (sym (has_more m past) ∙ h)
    where
      by : (b : Bool) → test m ≡ b → cond b true (has test past) ≡ false → (test m ≡ false) × (has test past ≡ false)
      by true e n = absurd cc
      by false e n = (e, n)

  pub has_behind : (x past : List Sent) → has test past ≡ true → has test (x ++ past) ≡ true
  has_behind [] past h = h
  has_behind (m ∷ x) past h = has_more m (x ++ past) ∙ ap (cond (test m) true) (has_behind x past h) ∙ by (test m)
    where
      by : (b : Bool) → cond b true true ≡ true
      by true = refl
      by false = refl

  pub none_behind : (x past : List Sent) → has test (x ++ past) ≡ false → has test past ≡ false
  none_behind x past h = by (has test past) refl
    where
      by : (b : Bool) → has test past ≡ b → has test past ≡ false
      by true e = absurd (not_both (has test (x ++ past)) (has_behind x past e) h)
      by false e = e

  pub up_to_more : (m : Sent) (past : List Sent) → up_to test (m ∷ past) ≡ cond (has test past) (up_to test past) (m ∷ past)
  unfolding up_to
  up_to_more m past = refl

  pub up_to_none : (past : List Sent) → has test past ≡ false → up_to test past ≡ past
  unfolding up_to
  up_to_none [] h = refl
  up_to_none (m ∷ past) h = ap (λ (b : Bool). cond b (up_to test past) (m ∷ past)) (none_passes m past h).1

  -- where none passed before it, it is the whole
  pub up_to_first : (m : Sent) (past : List Sent) → has test past ≡ false → up_to test (m ∷ past) ≡ m ∷ past
  up_to_first m past n = up_to_more m past ∙ ap (λ (b : Bool). cond b (up_to test past) (m ∷ past)) n

  -- the first that passes, and those before it
  pub record FirstIs (past : List Sent) : Type 0 where
    pub message : Sent
    pub before : List Sent
    pub is : up_to test past ≡ message ∷ before
    pub passes : test message ≡ true
    pub none : has test before ≡ false

  pub first_is : (past : List Sent) → has test past ≡ true → FirstIs past
  first_is [] h = absurd (not_both (has test []) h none_has)
  first_is (m ∷ past) h = by (λ t. first_is past t) (has test past) refl
    where
      by : (has test past ≡ true → FirstIs past) → (b : Bool) → has test past ≡ b → FirstIs (m ∷ past)
      by next true e =
          let r = next e in
          record { message = r.message; before = r.before; is = up_to_more m past ∙ ap (λ (b : Bool). cond b (up_to test past) (m ∷ past)) e ∙ r.is; passes = r.passes; none = r.none }
      by next false e = record { message = m; before = past; is = up_to_first m past e; passes = at (test m) refl (sym (has_more m past) ∙ h); none = e }
        where
          at : (b : Bool) → test m ≡ b → cond b true (has test past) ≡ true → test m ≡ true
          at true q p = q
          at false q p = absurd (not_both (has test past) p e)

  -- an end in which one passes, where none does but the newest of all, is all
  pub whole_end : (m : Sent) (past x taken : List Sent) → m ∷ past ≡ x ++ taken → has test past ≡ false → has test taken ≡ true → m ∷ past ≡ taken
  whole_end m past [] taken e none there = e
  whole_end m past (y ∷ x) taken e none there =
      let rest : past ≡ x ++ taken = ap tail_of e in
      absurd (not_both (has test past) (ap (has test) rest ∙ has_behind x taken there) none)
    where
      tail_of : List Sent → List Sent
      tail_of [] = []
      tail_of (n ∷ ms) = ms
