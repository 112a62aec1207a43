-- Messages up to the first that passes a test.
use Rattle.std.proofs.Common.{◌≡◌, Bool, true, false, cond, ◌⊎◌, inl, inr, List, [], ◌∷◌, ◌++◌, refl, sym, ap, subst, ◌∙◌, append_assoc}
use Rattle.ei_spec.specs.History.{occurs}
use Rattle.ei_ends.specs.Sent.{Sent}
use Rattle.ei_shaking.specs.Both.{has, up_to}
use Rattle.ei_shaking.proofs.Ontos.{suffixes}

pub not_both : (b : Bool) → b ≡ true → b ≡ false → ⊥
not_both b t f = let both : true ≡ false = sym t ∙ f in absurd cc

module _ (test : Sent → Bool) where
  pub has_more : (m : Sent) (past : List Sent) → has test (m ∷ past) ≡ cond (test m) true (has test past)
  unfolding occurs
  has_more m past = by (test m) refl
    where
      by : (b : Bool) → test m ≡ b → has test (m ∷ past) ≡ cond b true (has test past)
      by true e = rw e refl
      by false e = rw e refl

  pub up_to_more : (m : Sent) (past : List Sent) → up_to test (m ∷ past) ≡ cond (has test past) (up_to test past) (m ∷ past)
  unfolding up_to
  up_to_more m past = refl

  -- none passes of more, and none of fewer
  pub none_passes : (m : Sent) (past : List Sent) → has test (m ∷ past) ≡ false → (test m ≡ false) × (has test past ≡ false)
  none_passes m past h = by (test m) refl (sym (has_more m past) ∙ h)
    where
      by : (b : Bool) → test m ≡ b → cond b true (has test past) ≡ false → (test m ≡ false) × (has test past ≡ false)
      by true e n = absurd cc
      by false e n = (e, n)

  pub has_behind : (x past : List Sent) → has test past ≡ true → has test (x ++ past) ≡ true
  has_behind [] past h = h
  has_behind (m ∷ x) past h = has_more m (x ++ past) ∙ ap (cond (test m) true) (has_behind x past h) ∙ by (test m)
    where
      by : (b : Bool) → cond b true true ≡ true
      by true = refl
      by false = refl

  pub up_to_none : (past : List Sent) → has test past ≡ false → up_to test past ≡ past
  unfolding up_to
  up_to_none [] h = refl
  up_to_none (m ∷ past) h = ap (λ (b : Bool). cond b (up_to test past) (m ∷ past)) (none_passes m past h).1

  -- the first that passes, and those before it
  pub record IsFirst (m : Sent) (before past : List Sent) : Type 0 where
    pub is : up_to test past ≡ m ∷ before
    pub passes : test m ≡ true
    pub none : has test before ≡ false

  pub first_of : (past : List Sent) → has test past ≡ true → (m : Sent) × (before : List Sent) × IsFirst m before past
  unfolding occurs
  first_of [] h = absurd cc
  first_of (m ∷ past) h = by (λ t. first_of past t) (has test past) refl
    where
      by : (has test past ≡ true → (n : Sent) × (before : List Sent) × IsFirst n before past) → (b : Bool) → has test past ≡ b → (n : Sent) × (before : List Sent) × IsFirst n before (m ∷ past)
      by next true e = let r = next e in (r.0, r.1, record { is = up_to_more m past ∙ ap (λ (b : Bool). cond b (up_to test past) (m ∷ past)) e ∙ r.2.is; passes = r.2.passes; none = r.2.none })
      by next false e = (m, past, record { is = up_to_more m past ∙ ap (λ (b : Bool). cond b (up_to test past) (m ∷ past)) e; passes = at (test m) refl (sym (has_more m past) ∙ h); none = e })
        where
          at : (b : Bool) → test m ≡ b → cond b true (has test past) ≡ true → test m ≡ true
          at true q p = q
          at false q p = absurd (not_both (has test past) p e)

  -- it is an end of them
  pub up_to_end : (past : List Sent) → (y : List Sent) × (past ≡ y ++ up_to test past)
  unfolding up_to
  up_to_end [] = ([], refl)
  up_to_end (m ∷ past) = by (up_to_end past) (has test past) refl
    where
      by : (y : List Sent) × (past ≡ y ++ up_to test past) → (b : Bool) → has test past ≡ b → (y : List Sent) × (m ∷ past ≡ y ++ up_to test (m ∷ past))
      by next true e = (m ∷ next.0, ap (λ (l : List Sent). m ∷ l) next.1 ∙ ap (λ (b : Bool). m ∷ (next.0 ++ cond b (up_to test past) (m ∷ past))) (sym e))
      by next false e = ([], ap (λ (b : Bool). cond b (up_to test past) (m ∷ past)) (sym e))

  -- before its last none passes
  abbrev pub IsOpen : List Sent → Type 0
  IsOpen [] = Unit {0}
  IsOpen (m ∷ past) = has test past ≡ false

  pub up_to_open : (past : List Sent) → IsOpen (up_to test past)
  unfolding up_to
  up_to_open [] = tt
  up_to_open (m ∷ past) = by (up_to_open past) (has test past) refl
    where
      by : IsOpen (up_to test past) → (b : Bool) → has test past ≡ b → IsOpen (cond b (up_to test past) (m ∷ past))
      by next true e = next
      by next false e = e

  open_end : (x said t : List Sent) → IsOpen t → has test said ≡ true → t ≡ x ++ said → said ≡ t
  open_end [] said t o h e = sym e
  open_end (y ∷ x) said t o h e =
      let there : IsOpen (y ∷ (x ++ said)) = subst IsOpen e o in
      absurd (not_both (has test (x ++ said)) (has_behind x said h) there)

  -- what was taken up to the first that passes is an end of what was said, where that has one or nothing comes behind it
  pub within : (t sent more said newer : List Sent) → newer ++ t ≡ sent → sent ≡ more ++ said → (has test said ≡ true) ⊎ (more ≡ []) → (x : List Sent) × (said ≡ x ++ up_to test t)
  within t sent more said newer h s (inr none) =
      let y = up_to_end t in
      (newer ++ y.0, sym (ap (λ (l : List Sent). l ++ said) none) ∙ sym s ∙ sym h ∙ ap (λ (l : List Sent). newer ++ l) y.1 ∙ sym (append_assoc newer y.0 (up_to test t)))
  within t sent more said newer h s (inl there) =
      let y = up_to_end t in
      let both : (newer ++ y.0) ++ up_to test t ≡ more ++ said = append_assoc newer y.0 (up_to test t) ∙ ap (λ (l : List Sent). newer ++ l) (sym y.1) ∙ h ∙ s in
      elim (suffixes (newer ++ y.0) (up_to test t) more said both) [
        | inl r ↦ ([], open_end r.0 said (up_to test t) (up_to_open t) there r.1)
        | inr r ↦ r
      ]

  -- what comes behind it changes nothing
  pub up_to_behind : (more past : List Sent) → has test past ≡ true → up_to test (more ++ past) ≡ up_to test past
  up_to_behind [] past h = refl
  up_to_behind (m ∷ more) past h = up_to_more m (more ++ past) ∙ ap (λ (b : Bool). cond b (up_to test (more ++ past)) (m ∷ (more ++ past))) (has_behind more past h) ∙ up_to_behind more past h
