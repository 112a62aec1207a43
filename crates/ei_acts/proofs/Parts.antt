-- Ids of which none is there twice, and parts of them.
use Rattle.std.proofs.Common.{◌≡◌, ℕ, Bool, true, false, cond, eqb, ◌||◌, ◌⊎◌, inl, inr, List, [], ◌∷◌, ◌++◌, map, refl, sym, ap, subst, ◌∙◌}
use Rattle.std.specs.List.{list_any}
use Rattle.std.proofs.lemmas.Bool.{or_parts, eqb-true, eq-eqb}
use Rattle.ei_request.specs.Held.{without_first}
use Rattle.ei_acts.specs.There.{IdsDiffer}

pub not_both : (b : Bool) → b ≡ true → b ≡ false → ⊥
not_both b t f = let both : true ≡ false = sym t ∙ f in absurd cc

pub eqb_turned : (a b : ℕ) → eqb a b ≡ eqb b a
eqb_turned a b = by (eqb a b) (eqb b a) refl refl
  where
    by : (c d : Bool) → eqb a b ≡ c → eqb b a ≡ d → c ≡ d
    by true true e f = refl
    by false false e f = refl
    by true false e f = absurd (not_both (eqb b a) (eq-eqb b a (sym (eqb-true a b e))) f)
    by false true e f = absurd (not_both (eqb a b) (eq-eqb a b (sym (eqb-true b a f))) e)

-- the ids of some, in their order
abbrev pub IsPart : List ℕ → List ℕ → Type 0
IsPart xs [] = xs ≡ []
IsPart xs (y ∷ ys) = IsPart xs ys ⊎ ((zs : List ℕ) × (xs ≡ y ∷ zs) × IsPart zs ys)

pub part_same : (xs : List ℕ) → IsPart xs xs
part_same [] = refl
part_same (x ∷ xs) = inr (xs, refl, part_same xs)

pub part_none : (ys : List ℕ) → IsPart [] ys
part_none [] = refl
part_none (y ∷ ys) = inl (part_none ys)

pub part_both : (a b c d : List ℕ) → IsPart a b → IsPart c d → IsPart (a ++ c) (b ++ d)
part_both a [] c d p q = subst (λ (l : List ℕ). IsPart (l ++ c) d) (sym p) q
part_both a (y ∷ b) c d (inl p) q = inl (part_both a b c d p q)
part_both a (y ∷ b) c d (inr p) q = inr (p.0 ++ c, ap (λ (l : List ℕ). l ++ c) p.1, part_both p.0 b c d p.2 q)

pub part_any : (n : ℕ) (xs ys : List ℕ) → IsPart xs ys → list_any (eqb n) ys ≡ false → list_any (eqb n) xs ≡ false
part_any n xs [] p h = ap (list_any (eqb n)) p
part_any n xs (y ∷ ys) (inl p) h = part_any n xs ys p (or_parts (eqb n y) (list_any (eqb n) ys) h).1
part_any n xs (y ∷ ys) (inr p) h =
    let parts = or_parts (eqb n y) (list_any (eqb n) ys) h in
    ap (list_any (eqb n)) p.1 ∙ rw parts.0 (part_any n p.0 ys p.2 parts.1)

pub part_differ : (xs ys : List ℕ) → IsPart xs ys → IdsDiffer ys → IdsDiffer xs
part_differ xs [] p d = subst IdsDiffer (sym p) tt
part_differ xs (y ∷ ys) (inl p) d = part_differ xs ys p d.1
part_differ xs (y ∷ ys) (inr p) d = subst IdsDiffer (sym p.1) (part_any y p.0 ys p.2 d.0, part_differ p.0 ys p.2 d.1)

pub part_without : {X : Type 0} (test : X → Bool) (key : X → ℕ) (xs : List X) → IsPart (map key (without_first test xs)) (map key xs)
part_without test key [] = refl
part_without test key (x ∷ xs) = by (test x) (part_without test key xs)
  where
    by : (b : Bool) → IsPart (map key (without_first test xs)) (map key xs) → IsPart (map key (cond b xs (x ∷ without_first test xs))) (key x ∷ map key xs)
    by true next = inl (part_same (map key xs))
    by false next = inr (map key (without_first test xs), refl, next)

-- ---- what differs

pub differ_last : (a b : List ℕ) → IdsDiffer (a ++ b) → IdsDiffer b
differ_last [] b d = d
differ_last (x ∷ a) b d = differ_last a b d.1

pub none_last : (n : ℕ) (a b : List ℕ) → list_any (eqb n) (a ++ b) ≡ false → list_any (eqb n) b ≡ false
none_last n [] b h = h
none_last n (x ∷ a) b h = none_last n a b (or_parts (eqb n x) (list_any (eqb n) (a ++ b)) h).1

pub none_first : (n : ℕ) (a b : List ℕ) → list_any (eqb n) (a ++ b) ≡ false → list_any (eqb n) a ≡ false
none_first n [] b h = refl
none_first n (x ∷ a) b h = let parts = or_parts (eqb n x) (list_any (eqb n) (a ++ b)) h in rw parts.0 (none_first n a b parts.1)

pub differ_first : (a b : List ℕ) → IdsDiffer (a ++ b) → IdsDiffer a
differ_first [] b d = tt
differ_first (x ∷ a) b d = (none_first x a b d.0, differ_first a b d.1)

pub differ_apart : (n : ℕ) (a b : List ℕ) → IdsDiffer (a ++ b) → list_any (eqb n) a ≡ true → list_any (eqb n) b ≡ false
differ_apart n [] b d h = absurd cc
differ_apart n (x ∷ a) b d h = by (eqb n x) refl h (λ e. differ_apart n a b d.1 e)
  where
    by : (c : Bool) → eqb n x ≡ c → (c || list_any (eqb n) a) ≡ true → (list_any (eqb n) a ≡ true → list_any (eqb n) b ≡ false) → list_any (eqb n) b ≡ false
    by true e f next = subst (λ (k : ℕ). list_any (eqb k) b ≡ false) (sym (eqb-true n x e)) (none_last x a b d.0)
    by false e f next = next f

-- ---- one of either

pub or_last : (a b : Bool) → b ≡ true → (a || b) ≡ true
or_last true b h = refl
or_last false b h = h

pub or_first : (a b : Bool) → a ≡ true → (a || b) ≡ true
or_first a b h = ap (λ (c : Bool). c || b) h

pub any_in_both : (n : ℕ) (a b : List ℕ) → (list_any (eqb n) a ≡ true) ⊎ (list_any (eqb n) b ≡ true) → list_any (eqb n) (a ++ b) ≡ true
any_in_both n [] b (inl h) = absurd cc
any_in_both n [] b (inr h) = h
any_in_both n (x ∷ a) b (inl h) = by (eqb n x) h (λ g. any_in_both n a b (inl g))
  where
    by : (c : Bool) → (c || list_any (eqb n) a) ≡ true → (list_any (eqb n) a ≡ true → list_any (eqb n) (a ++ b) ≡ true) → (c || list_any (eqb n) (a ++ b)) ≡ true
    by true g next = refl
    by false g next = next g
any_in_both n (x ∷ a) b (inr h) = or_last (eqb n x) (list_any (eqb n) (a ++ b)) (any_in_both n a b (inr h))

-- none of these is among them where one of those is
pub apart_from : (n : ℕ) (a b : List ℕ) → IdsDiffer (a ++ b) → list_any (eqb n) b ≡ true → list_any (eqb n) a ≡ false
apart_from n a b d h = by (list_any (eqb n) a) refl
  where
    by : (c : Bool) → list_any (eqb n) a ≡ c → c ≡ false
    by true e = absurd (not_both (list_any (eqb n) b) h (differ_apart n a b d e))
    by false e = refl

pub none_in_both : (n : ℕ) (a b : List ℕ) → list_any (eqb n) a ≡ false → list_any (eqb n) b ≡ false → list_any (eqb n) (a ++ b) ≡ false
none_in_both n [] b f g = g
none_in_both n (x ∷ a) b f g = let parts = or_parts (eqb n x) (list_any (eqb n) a) f in rw parts.0 (none_in_both n a b parts.1 g)

pub differ_both : (xs ys : List ℕ) → IdsDiffer xs → IdsDiffer ys → ((n : ℕ) → list_any (eqb n) xs ≡ true → list_any (eqb n) ys ≡ false) → IdsDiffer (xs ++ ys)
differ_both [] ys d e apart = e
differ_both (x ∷ xs) ys d e apart = (
  none_in_both x xs ys d.0 (apart x (first_is x (list_any (eqb x) xs))),
  differ_both xs ys d.1 e (λ n h. apart n (later (eqb n x) (list_any (eqb n) xs) h)),
)
  where
    first_is : (n : ℕ) (b : Bool) → (eqb n n || b) ≡ true
    first_is n b = ap (λ (c : Bool). c || b) (eq-eqb n n refl)

    later : (a b : Bool) → b ≡ true → (a || b) ≡ true
    later true b h = refl
    later false b h = h

pub different : (n id : ℕ) (ids : List ℕ) → list_any (eqb n) ids ≡ true → list_any (eqb id) ids ≡ false → eqb n id ≡ false
different n id ids h none = by (eqb n id) refl
  where
    by : (b : Bool) → eqb n id ≡ b → b ≡ false
    by true e = absurd (not_both (list_any (eqb n) ids) h (subst (λ (k : ℕ). list_any (eqb k) ids ≡ false) (sym (eqb-true n id e)) none))
    by false e = refl
