-- Entries as a finite map: what a call did to the entries it did to the map, and no key stands twice.
use Rattle.std.proofs.Common.{◌≡◌, ℕ, Bool, true, false, cond, eqb, List, [], ◌∷◌, ◌++◌, Option, Some, None, refl, sym, ap, ◌∙◌, arith}
use Rattle.std.specs.Ordering.{nat_cmp}
use Rattle.std.specs.Cmp.{nat_cmp_total, unsigned_tied}
use Rattle.std.specs.FinMap.{get, insert, remove, get-empty, get-insert, get-remove, get-retain_keys, same_map, nat_cmp-IsAntisymmetric}
use Rattle.std.specs.List.{filter}
use Rattle.std.proofs.lemmas.Bool.{eqb-true}
use Rattle.std.proofs.lemmas.Bool.Decides.{nat_tests}
use Rattle.ei_keyed.specs.Keyed.{keyed, with_value, without_key}
use Rattle.ei_keyed.specs.MapOf.{map_of}
use Rattle.ei_by_id.specs.ById.{passes, kept, Finds}
use Rattle.ei_by_id.specs.Entries.{KeysDiffer, first_value}

same_key : (k : ℕ) → eqb k k ≡ true
same_key k = grind (arith, nat_tests)

turned : (a b : ℕ) → eqb a b ≡ eqb b a
turned a b = grind (arith, nat_tests)

module _ {V : Type 0} where
  pub got : (xs : List (ℕ × V)) (k : ℕ) → get (map_of xs) k ≡ keyed k xs
  got [] k = get-empty nat_cmp k
  got (x ∷ xs) k = get-insert nat_cmp_total (map_of xs) x.0 x.1 k ∙ ap (λ (b : Bool). cond b (Some x.1) (get (map_of xs) k)) (unsigned_tied k x.0) ∙ ap (cond (eqb k x.0) (Some x.1)) (got xs k)

  put_in : (xs ys : List (ℕ × V)) (key : ℕ) (v : V) → ((k : ℕ) → keyed k ys ≡ cond (eqb k key) (Some v) (keyed k xs)) → map_of ys ≡ insert (map_of xs) key v
  put_in xs ys key v h = same_map nat_cmp_total nat_cmp-IsAntisymmetric (map_of ys) (insert (map_of xs) key v) (λ k.
      got ys k ∙ h k ∙ sym (get-insert nat_cmp_total (map_of xs) key v k ∙ ap (λ (b : Bool). cond b (Some v) (get (map_of xs) k)) (unsigned_tied k key) ∙ ap (cond (eqb k key) (Some v)) (got xs k)))

  -- ---- a value that is put behind

  push_at : (xs : List (ℕ × V)) (key k : ℕ) (v : V) → keyed key xs ≡ None → keyed k (xs ++ (key, v) ∷ []) ≡ cond (eqb k key) (Some v) (keyed k xs)
  push_at [] key k v none = refl
  push_at (x ∷ xs) key k v none = by (eqb key x.0) (eqb k x.0) (eqb k key) refl refl refl none (push_at xs key k v)
    where
      by : (a b c : Bool) → eqb key x.0 ≡ a → eqb k x.0 ≡ b → eqb k key ≡ c → cond a (Some x.1) (keyed key xs) ≡ None →
          (keyed key xs ≡ None → keyed k (xs ++ (key, v) ∷ []) ≡ cond (eqb k key) (Some v) (keyed k xs)) →
          cond b (Some x.1) (keyed k (xs ++ (key, v) ∷ [])) ≡ cond c (Some v) (cond b (Some x.1) (keyed k xs))
      by true b c d e f none rest = absurd cc
      by false true true d e f none rest = absurd (let p : k ≡ x.0 = eqb-true k x.0 e in let q : k ≡ key = eqb-true k key f in grind (arith, nat_tests))
      by false true false d e f none rest = refl
      by false false c d e f none rest = rest none ∙ ap (λ (b : Bool). cond b (Some v) (keyed k xs)) f

  pub pushed : (xs : List (ℕ × V)) (key : ℕ) (v : V) → keyed key xs ≡ None → map_of (xs ++ (key, v) ∷ []) ≡ insert (map_of xs) key v
  pushed xs key v none = put_in xs (xs ++ (key, v) ∷ []) key v (λ k. push_at xs key k v none)

  pub differ_pushed : (xs : List (ℕ × V)) (key : ℕ) (v : V) → KeysDiffer xs → keyed key xs ≡ None → KeysDiffer (xs ++ (key, v) ∷ [])
  differ_pushed [] key v d none = (refl, tt)
  differ_pushed (x ∷ xs) key v d none = by (eqb key x.0) (eqb x.0 key) refl refl none (differ_pushed xs key v d.1)
    where
      by : (a b : Bool) → eqb key x.0 ≡ a → eqb x.0 key ≡ b → cond a (Some x.1) (keyed key xs) ≡ None → (keyed key xs ≡ None → KeysDiffer (xs ++ (key, v) ∷ [])) →
          KeysDiffer (x ∷ xs ++ (key, v) ∷ [])
      by true b e f none rest = absurd cc
      by false true e f none rest = absurd (let t = turned key x.0 in cc)
      by false false e f none rest = (push_at xs key x.0 v none ∙ ap (λ (c : Bool). cond c (Some v) (keyed x.0 xs)) f ∙ d.0, rest none)

  -- ---- a value that is written

  write_at : (xs : List (ℕ × V)) (key k : ℕ) (old v : V) → keyed key xs ≡ Some old → keyed k (with_value key xs v) ≡ cond (eqb k key) (Some v) (keyed k xs)
  write_at [] key k old v found = absurd cc
  write_at (x ∷ xs) key k old v found = by (eqb key x.0) (eqb k x.0) (eqb k key) refl refl refl found (write_at xs key k old v)
    where
      by : (a b c : Bool) → eqb key x.0 ≡ a → eqb k x.0 ≡ b → eqb k key ≡ c → cond a (Some x.1) (keyed key xs) ≡ Some old →
          (keyed key xs ≡ Some old → keyed k (with_value key xs v) ≡ cond (eqb k key) (Some v) (keyed k xs)) →
          keyed k (cond a ((key, v) ∷ xs) (x ∷ with_value key xs v)) ≡ cond c (Some v) (cond b (Some x.1) (keyed k xs))
      by true true c d e f found rest = (let p : key ≡ x.0 = eqb-true key x.0 d in let q : k ≡ x.0 = eqb-true k x.0 e in let same : c ≡ true = sym f ∙ (rw (p, q) (same_key x.0)) in rw (f, same) refl)
      by true false c d e f found rest = (let p : key ≡ x.0 = eqb-true key x.0 d in let other : c ≡ false = sym f ∙ rw p e in rw (f, other) refl)
      by false true true d e f found rest = absurd (let p : k ≡ x.0 = eqb-true k x.0 e in let q : k ≡ key = eqb-true k key f in grind (arith, nat_tests))
      by false true false d e f found rest = rw e refl
      by false false c d e f found rest = rw e (rest found ∙ ap (λ (b : Bool). cond b (Some v) (keyed k xs)) f)

  pub written : (xs : List (ℕ × V)) (key : ℕ) (old v : V) → keyed key xs ≡ Some old → map_of (with_value key xs v) ≡ insert (map_of xs) key v
  written xs key old v found = put_in xs (with_value key xs v) key v (λ k. write_at xs key k old v found)

  absent_written : (xs : List (ℕ × V)) (key k : ℕ) (v : V) → keyed k xs ≡ None → keyed k (with_value key xs v) ≡ None
  absent_written [] key k v none = refl
  absent_written (x ∷ xs) key k v none = by (eqb key x.0) (eqb k x.0) refl refl none (absent_written xs key k v)
    where
      by : (a b : Bool) → eqb key x.0 ≡ a → eqb k x.0 ≡ b → cond b (Some x.1) (keyed k xs) ≡ None → (keyed k xs ≡ None → keyed k (with_value key xs v) ≡ None) →
          keyed k (cond a ((key, v) ∷ xs) (x ∷ with_value key xs v)) ≡ None
      by a true d e none rest = absurd cc
      by true false d e none rest = (let p : key ≡ x.0 = eqb-true key x.0 d in rw (p, e) none)
      by false false d e none rest = rw e (rest none)

  pub differ_written : (xs : List (ℕ × V)) (key : ℕ) (v : V) → KeysDiffer xs → KeysDiffer (with_value key xs v)
  differ_written [] key v d = tt
  differ_written (x ∷ xs) key v d = by (eqb key x.0) refl (differ_written xs key v d.1)
    where
      by : (a : Bool) → eqb key x.0 ≡ a → KeysDiffer (with_value key xs v) → KeysDiffer (cond a ((key, v) ∷ xs) (x ∷ with_value key xs v))
      by true e rest = (let p : key ≡ x.0 = eqb-true key x.0 e in (ap (λ (k : ℕ). keyed k xs) p ∙ d.0, d.1))
      by false e rest = (absent_written xs key x.0 v d.0, rest)

  -- ---- a value that is taken out

  take_at : (xs : List (ℕ × V)) (key k : ℕ) → KeysDiffer xs → keyed k (without_key key xs) ≡ cond (eqb k key) None (keyed k xs)
  take_at [] key k d = by (eqb k key)
    where
      by : (b : Bool) → ◌≡◌ {A = Option V} None (cond b None None)
      by true = refl
      by false = refl
  take_at (x ∷ xs) key k d = by (eqb key x.0) (eqb k x.0) (eqb k key) refl refl refl (take_at xs key k d.1)
    where
      by : (a b c : Bool) → eqb key x.0 ≡ a → eqb k x.0 ≡ b → eqb k key ≡ c → keyed k (without_key key xs) ≡ cond (eqb k key) None (keyed k xs) →
          keyed k (cond a xs (x ∷ without_key key xs)) ≡ cond c None (cond b (Some x.1) (keyed k xs))
      by true true true e f g rest = ap (λ (q : ℕ). keyed q xs) (eqb-true k x.0 f) ∙ d.0
      by true true false e f g rest = absurd (let p : key ≡ x.0 = eqb-true key x.0 e in let q : k ≡ x.0 = eqb-true k x.0 f in grind (arith, nat_tests))
      by true false true e f g rest = absurd (let p : key ≡ x.0 = eqb-true key x.0 e in let q : k ≡ key = eqb-true k key g in grind (arith, nat_tests))
      by true false false e f g rest = refl
      by false true true e f g rest = absurd (let p : k ≡ x.0 = eqb-true k x.0 f in let q : k ≡ key = eqb-true k key g in grind (arith, nat_tests))
      by false true false e f g rest = rw f refl
      by false false c e f g rest = rw f (rest ∙ ap (λ (b : Bool). cond b None (keyed k xs)) g)

  pub taken : (xs : List (ℕ × V)) (key : ℕ) → KeysDiffer xs → map_of (without_key key xs) ≡ remove (map_of xs) key
  taken xs key d = same_map nat_cmp_total nat_cmp-IsAntisymmetric (map_of (without_key key xs)) (remove (map_of xs) key) (λ k.
      got (without_key key xs) k ∙ take_at xs key k d ∙ sym (get-remove nat_cmp_total (map_of xs) key k ∙ ap (λ (b : Bool). cond b None (get (map_of xs) k)) (unsigned_tied k key) ∙ ap (cond (eqb k key) None) (got xs k)))

  absent_taken : (xs : List (ℕ × V)) (key k : ℕ) → keyed k xs ≡ None → keyed k (without_key key xs) ≡ None
  absent_taken [] key k none = refl
  absent_taken (x ∷ xs) key k none = by (eqb key x.0) (eqb k x.0) refl none (absent_taken xs key k)
    where
      by : (a b : Bool) → eqb k x.0 ≡ b → cond b (Some x.1) (keyed k xs) ≡ None → (keyed k xs ≡ None → keyed k (without_key key xs) ≡ None) →
          keyed k (cond a xs (x ∷ without_key key xs)) ≡ None
      by a true e none rest = absurd cc
      by true false e none rest = none
      by false false e none rest = rw e (rest none)

  pub differ_taken : (xs : List (ℕ × V)) (key : ℕ) → KeysDiffer xs → KeysDiffer (without_key key xs)
  differ_taken [] key d = tt
  differ_taken (x ∷ xs) key d = by (eqb key x.0) (differ_taken xs key d.1)
    where
      by : (a : Bool) → KeysDiffer (without_key key xs) → KeysDiffer (cond a xs (x ∷ without_key key xs))
      by true rest = d.1
      by false rest = (absent_taken xs key x.0 d.0, rest)

  -- ---- those that are kept

  absent_kept : (test : V → Bool) (xs : List (ℕ × V)) (k : ℕ) → keyed k xs ≡ None → keyed k (filter (λ x. test x.1) xs) ≡ None
  absent_kept test [] k none = refl
  absent_kept test (x ∷ xs) k none = by (test x.1) (eqb k x.0) refl none (absent_kept test xs k)
    where
      by : (a b : Bool) → eqb k x.0 ≡ b → cond b (Some x.1) (keyed k xs) ≡ None → (keyed k xs ≡ None → keyed k (filter (λ x. test x.1) xs) ≡ None) →
          keyed k (cond a (x ∷ filter (λ x. test x.1) xs) (filter (λ x. test x.1) xs)) ≡ None
      by a true e none rest = absurd cc
      by true false e none rest = rw e (rest none)
      by false false e none rest = rest none

  pub differ_kept : (test : V → Bool) (xs : List (ℕ × V)) → KeysDiffer xs → KeysDiffer (filter (λ x. test x.1) xs)
  differ_kept test [] d = tt
  differ_kept test (x ∷ xs) d = by (test x.1) (differ_kept test xs d.1)
    where
      by : (a : Bool) → KeysDiffer (filter (λ x. test x.1) xs) → KeysDiffer (cond a (x ∷ filter (λ x. test x.1) xs) (filter (λ x. test x.1) xs))
      by true rest = (absent_kept test xs x.0 d.0, rest)
      by false rest = rest

  keep_at : (test : V → Bool) (xs : List (ℕ × V)) (k : ℕ) → KeysDiffer xs → keyed k (filter (λ x. test x.1) xs) ≡ cond (passes test (keyed k xs)) (keyed k xs) None
  keep_at test [] k d = refl
  keep_at test (x ∷ xs) k d = by (test x.1) (eqb k x.0) refl refl (keep_at test xs k d.1)
    where
      by : (a b : Bool) → test x.1 ≡ a → eqb k x.0 ≡ b → keyed k (filter (λ x. test x.1) xs) ≡ cond (passes test (keyed k xs)) (keyed k xs) None →
          keyed k (cond a (x ∷ filter (λ x. test x.1) xs) (filter (λ x. test x.1) xs)) ≡ cond (passes test (cond b (Some x.1) (keyed k xs))) (cond b (Some x.1) (keyed k xs)) None
      by true true t e rest = rw (e, t) refl
      by true false t e rest = rw e rest
      by false true t e rest = rw t (absent_kept test xs k (ap (λ (q : ℕ). keyed q xs) (eqb-true k x.0 e) ∙ d.0))
      by false false t e rest = rest

  pub filtered : (test : V → Bool) (xs : List (ℕ × V)) → KeysDiffer xs → map_of (filter (λ x. test x.1) xs) ≡ kept test (map_of xs)
  filtered test xs d = same_map nat_cmp_total nat_cmp-IsAntisymmetric (map_of (filter (λ x. test x.1) xs)) (kept test (map_of xs)) (λ k.
      got (filter (λ x. test x.1) xs) k ∙ keep_at test xs k d ∙ ap (λ (o : Option V). cond (passes test o) o None) (sym (got xs k))
      ∙ sym (get-retain_keys (map_of xs) (λ id. passes test (get (map_of xs) id)) k (λ x t. ap (λ (q : ℕ). passes test (get (map_of xs) q)) (sym (nat_cmp-IsAntisymmetric k x t)))))

  -- ---- the first that passes a test

  pub first_passes : (test : V → Bool) (x : ℕ × V) (xs all : List (ℕ × V)) → all ≡ x ∷ xs → test x.1 ≡ true → first_value test all ≡ Some x.1
  first_passes test x xs all is t = ap (first_value test) is ∙ ap (λ (b : Bool). cond b (Some x.1) (first_value test xs)) t

  pub first_fails : (test : V → Bool) (x : ℕ × V) (xs all : List (ℕ × V)) → all ≡ x ∷ xs → test x.1 ≡ false → first_value test all ≡ first_value test xs
  first_fails test x xs all is t = ap (first_value test) is ∙ ap (λ (b : Bool). cond b (Some x.1) (first_value test xs)) t

  -- it stands under its key
  pub first_found : (test : V → Bool) (xs : List (ℕ × V)) (v : V) → KeysDiffer xs → first_value test xs ≡ Some v → (k : ℕ) × (keyed k xs ≡ Some v) × (test v ≡ true)
  first_found test [] v d e = absurd cc
  first_found test (x ∷ xs) v d e = by (test x.1) refl e (first_found test xs v d.1)
    where
      onto : (k : ℕ) × (keyed k xs ≡ Some v) × (test v ≡ true) → (k : ℕ) × (keyed k (x ∷ xs) ≡ Some v) × (test v ≡ true)
      onto p = (p.0, at (eqb p.0 x.0) refl, p.2)
        where
          at : (b : Bool) → eqb p.0 x.0 ≡ b → cond b (Some x.1) (keyed p.0 xs) ≡ Some v
          at true f = absurd (let q = ap (λ (k : ℕ). keyed k xs) (eqb-true p.0 x.0 f) in let none = d.0 in let some = p.1 in cc)
          at false f = p.1

      by : (b : Bool) → test x.1 ≡ b → cond b (Some x.1) (first_value test xs) ≡ Some v → (first_value test xs ≡ Some v → (k : ℕ) × (keyed k xs ≡ Some v) × (test v ≡ true)) →
          (k : ℕ) × (keyed k (x ∷ xs) ≡ Some v) × (test v ≡ true)
      by true t f rest = (let same : x.1 ≡ v = cc in (x.0, rw (same_key x.0, same) refl, rw (← same) t))
      by false t f rest = onto (rest f)

  -- none passes it
  pub none_found : (test : V → Bool) (xs : List (ℕ × V)) → first_value test xs ≡ None → (k : ℕ) → passes test (keyed k xs) ≡ false
  none_found test [] e k = refl
  none_found test (x ∷ xs) e k = by (test x.1) (eqb k x.0) refl e (λ f. none_found test xs f k)
    where
      by : (b c : Bool) → test x.1 ≡ b → cond b (Some x.1) (first_value test xs) ≡ None → (first_value test xs ≡ None → passes test (keyed k xs) ≡ false) → passes test (cond c (Some x.1) (keyed k xs)) ≡ false
      by true c t f rest = absurd cc
      by false true t f rest = t
      by false false t f rest = rest f

  pub finds : (test : V → Bool) (xs : List (ℕ × V)) → KeysDiffer xs → Finds test (map_of xs) (first_value test xs)
  finds test xs d = by (first_value test xs) refl
    where
      by : (o : Option V) → first_value test xs ≡ o → Finds test (map_of xs) o
      by None e = λ k. ap (passes test) (got xs k) ∙ none_found test xs e k
      by (Some v) e = (let p = first_found test xs v d e in (p.0, got xs p.0 ∙ p.1, p.2))
