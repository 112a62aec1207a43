-- Messages that are sent one after another, and what was taken of them.
use Rattle.std.proofs.Common.{◌≡◌, ℕ, ◌-◌, ◌<◌, ◌≤◌, ◌⊎◌, inl, inr, List, [], ◌∷◌, ◌++◌, length, take, refl, sym, ap, ◌∙◌, append_assoc, length-append, arith}
use Rattle.std.proofs.lemmas.List.{take-append-drop}
use Rattle.std.proofs.lemmas.Bool.{cases_lt}
use Rattle.ei_ends.specs.Sent.{Sent}
use Rattle.ei_ends.specs.Way.{onto}
use Rattle.ei_shaking.specs.Both.{Hears}

-- ---- one list behind another

pub onto_both : (a b past : List Sent) → onto (a ++ b) past ≡ onto b (onto a past)
onto_both [] b past = refl
onto_both (m ∷ a) b past = onto_both a b (m ∷ past)

pub onto_some : (ms past : List Sent) → (y : List Sent) × (onto ms past ≡ y ++ past)
onto_some [] past = ([], refl)
onto_some (m ∷ ms) past = let r = onto_some ms (m ∷ past) in (r.0 ++ (m ∷ []), r.1 ∙ sym (append_assoc r.0 (m ∷ []) past))

-- ---- ends of lists

abbrev pub tail_of : List Sent → List Sent
tail_of [] = []
tail_of (m ∷ ms) = ms

abbrev head_of : Sent → List Sent → Sent
head_of other [] = other
head_of other (m ∷ ms) = m

-- of two ends of a list one is an end of the other
pub suffixes : (a t b s : List Sent) → a ++ t ≡ b ++ s → ((x : List Sent) × (t ≡ x ++ s)) ⊎ ((x : List Sent) × (s ≡ x ++ t))
suffixes [] t b s e = inl (b, e)
suffixes (x ∷ a) t [] s e = inr (x ∷ a, sym e)
suffixes (x ∷ a) t (y ∷ b) s e = suffixes a t b s (ap tail_of e)

longer : (x t : List Sent) → length t ≡ length (x ++ t) → x ≡ []
longer [] t e = refl
longer (y ∷ x) t e = absurd (omega (arith, e, length-append x t))

-- two ends of the same length are the same
pub same_end : (a t b s : List Sent) → a ++ t ≡ b ++ s → length t ≡ length s → t ≡ s
same_end a t b s e same = elim (suffixes a t b s e) [
  | inl h ↦ h.1 ∙ ap (λ (x : List Sent). x ++ s) (longer h.0 s (sym same ∙ ap length h.1))
  | inr h ↦ sym (h.1 ∙ ap (λ (x : List Sent). x ++ t) (longer h.0 t (same ∙ ap length h.1)))
]

-- what was taken lies behind what wasn't yet
pub behind : (taken sent : List Sent) → Hears taken sent → (newer : List Sent) × (newer ++ taken ≡ sent)
behind taken sent h =
    let n : ℕ = length sent - length taken in
    (take n sent, ap (λ (l : List Sent). take n sent ++ l) h ∙ take-append-drop n sent)

-- ---- an end of what was sent in turn

pub record IsBegun (ms past t : List Sent) : Type 0 where
  pub first : List Sent
  pub rest : List Sent
  pub split : ms ≡ first ++ rest
  pub is : t ≡ onto first past

pub begun : (ms past x t : List Sent) → onto ms past ≡ x ++ t → length past ≤ length t → IsBegun ms past t
begun [] past x t e le =
    let l = ap length e in
    record { first = []; rest = []; split = refl; is = same_end x t [] past (sym e) (omega (arith, l, le, length-append x t)) }
begun (m ∷ ms) past x t e le = by (λ more. begun ms (m ∷ past) x t e more) (cases_lt (length past) (length t))
  where
    by : (length (m ∷ past) ≤ length t → IsBegun ms (m ∷ past) t) → (length past < length t) ⊎ (length t ≤ length past) → IsBegun (m ∷ ms) past t
    by next (inl more) = let r = next (omega (arith, more)) in record { first = m ∷ r.first; rest = r.rest; split = ap (λ (l : List Sent). m ∷ l) r.split; is = r.is }
    by next (inr few) =
        let y = onto_some (m ∷ ms) past in
        record { first = []; rest = m ∷ ms; split = refl; is = same_end x t y.0 past (sym e ∙ y.1) (omega (arith, few, le)) }

-- a message among them, and those before it
pub record ComesAt (ms past : List Sent) (m : Sent) (t : List Sent) : Type 0 where
  pub first : List Sent
  pub rest : List Sent
  pub split : ms ≡ first ++ (m ∷ rest)
  pub is : t ≡ onto first past

pub comes_at : (ms past x : List Sent) (m : Sent) (t : List Sent) → onto ms past ≡ x ++ (m ∷ t) → length past ≤ length t → ComesAt ms past m t
comes_at ms past x m t e le =
    let r = begun ms past (x ++ (m ∷ [])) t (e ∙ sym (append_assoc x (m ∷ []) t)) le in
    let there : onto r.rest t ≡ x ++ (m ∷ t) = ap (onto r.rest) r.is ∙ sym (onto_both r.first r.rest past) ∙ ap (λ (l : List Sent). onto l past) (sym r.split) ∙ e in
    by r.first r.rest r.split r.is there
  where
    by : (first rest : List Sent) → ms ≡ first ++ rest → t ≡ onto first past → onto rest t ≡ x ++ (m ∷ t) → ComesAt ms past m t
    by first [] split is there = let l = ap length there in absurd (omega (arith, l, length-append x (m ∷ t)))
    by first (y ∷ rest) split is there =
        let z = onto_some rest (y ∷ t) in
        let same : (y ∷ t) ≡ (m ∷ t) = same_end z.0 (y ∷ t) x (m ∷ t) (sym z.1 ∙ there) refl in
        record { first = first; rest = rest; split = split ∙ ap (λ (n : Sent). first ++ (n ∷ rest)) (ap (head_of m) same); is = is }
