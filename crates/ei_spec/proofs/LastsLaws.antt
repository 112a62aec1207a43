-- What lasts, told by the position that started it.
use Rattle.std.proofs.Common.{◌≡◌, Bool, true, false, ◌&&◌, ◌||◌, List, [], ◌∷◌, ◌++◌, refl, sym, ap, ◌∙◌}
use Rattle.ei_spec.specs.History.{lasts, HasLasted}
use Rattle.ei_spec.proofs.HistoryLaws.{lasts_at}

module _ {M : Type 0} (starts ends : List M → M → Bool) where
  no_split : (newer : List M) (m : M) (older : List M) → ◌≡◌ {A = List M} [] (newer ++ (m ∷ older)) → ⊥
  no_split [] m older e = absurd cc
  no_split (x ∷ newer) m older e = absurd cc

  starts_now : (before : List M) (m : M) → starts before m ≡ true → HasLasted starts ends (m ∷ before)
  starts_now before m h = record {
    later = [];
    first = m;
    earlier = before;
    splits = refl;
    starts_it = h;
    none_ends = λ newer x older e. absurd (no_split newer x older e);
  }

  still_none : (before : List M) (m : M) (l : HasLasted starts ends before) → ends before m ≡ false → (newer : List M) (x : M) (older : List M) → (m ∷ l.later) ≡ newer ++ (x ∷ older) → ends (older ++ (l.first ∷ l.earlier)) x ≡ false
  still_none before m l h [] x older e =
      let here : m ≡ x = cc in
      let rest : l.later ≡ older = cc in
      sym (ap (λ (y : M). ends (older ++ (l.first ∷ l.earlier)) y) here)
      ∙ sym (ap (λ (y : List M). ends (y ++ (l.first ∷ l.earlier)) m) rest)
      ∙ sym (ap (λ (y : List M). ends y m) l.splits) ∙ h
  still_none before m l h (n ∷ newer) x older e =
      let rest : l.later ≡ newer ++ (x ∷ older) = cc in
      l.none_ends newer x older rest

  lasts_on : (before : List M) (m : M) → HasLasted starts ends before → ends before m ≡ false → HasLasted starts ends (m ∷ before)
  lasts_on before m l h = record {
    later = m ∷ l.later;
    first = l.first;
    earlier = l.earlier;
    splits = ap (λ (y : List M). m ∷ y) l.splits;
    starts_it = l.starts_it;
    none_ends = still_none before m l h;
  }

  pub found : (before : List M) → lasts starts ends before ≡ true → HasLasted starts ends before
  unfolding lasts
  found [] h = absurd cc
  found (m ∷ before) h = by (found before) (starts before m) (ends before m) refl refl
    where
      by : (lasts starts ends before ≡ true → HasLasted starts ends before) → (s e : Bool) → starts before m ≡ s → ends before m ≡ e → HasLasted starts ends (m ∷ before)
      by next true e p q = starts_now before m p
      by next false false p q = lasts_on before m (next (sym (lasts_at starts ends before m false false p q) ∙ h)) q
      by next false true p q = let no : false ≡ true = sym (lasts_at starts ends before m false true p q) ∙ h in absurd cc

  either_way : (s l : Bool) → l ≡ true → (s || (true && l)) ≡ true
  either_way true l h = refl
  either_way false l h = h

  shown_from : (later : List M) (first : M) (earlier : List M) → starts earlier first ≡ true →
      ((newer : List M) (m : M) (older : List M) → later ≡ newer ++ (m ∷ older) → ends (older ++ (first ∷ earlier)) m ≡ false) → lasts starts ends (later ++ (first ∷ earlier)) ≡ true
  shown_from [] first earlier s none = lasts_at starts ends earlier first true (ends earlier first) s refl
  shown_from (m ∷ later) first earlier s none =
      lasts_at starts ends (later ++ (first ∷ earlier)) m (starts (later ++ (first ∷ earlier)) m) false refl (none [] m later refl)
      ∙ either_way (starts (later ++ (first ∷ earlier)) m) (lasts starts ends (later ++ (first ∷ earlier)))
      (shown_from later first earlier s (λ newer x older e. none (m ∷ newer) x older (ap (λ (y : List M). m ∷ y) e)))

  pub shown : (before : List M) → HasLasted starts ends before → lasts starts ends before ≡ true
  shown before l = ap (lasts starts ends) l.splits ∙ shown_from l.later l.first l.earlier l.starts_it l.none_ends
