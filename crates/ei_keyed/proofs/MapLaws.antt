-- Values by keys, as a finite map.
use Rattle.std.proofs.Common.{◌≡◌, ◌≤◌, ◌<◌, ◌+◌, ℕ, Bool, true, false, cond, eqb, List, [], ◌∷◌, ◌++◌, Option, Some, None, refl, sym, ap, ◌∙◌, arith}
use Rattle.std.specs.Ordering.{nat_cmp}
use Rattle.std.specs.Cmp.{nat_cmp_total, unsigned_tied}
use Rattle.std.specs.FinMap.{get, insert, remove, get-empty, get-insert, get-remove, same_map, nat_cmp-IsAntisymmetric}
use Rattle.std.proofs.lemmas.Bool.{eqb-true}
use Rattle.std.proofs.lemmas.Bool.Decides.{nat_tests}
use Rattle.ei_keyed.specs.Keyed.{keyed, without_key, RiseWithin}
use Rattle.ei_keyed.specs.MapOf.{map_of}

module _ {V : Type 0} where
  pub got : (xs : List (ℕ × V)) (k : ℕ) → get (map_of xs) k ≡ keyed k xs
  got [] k = get-empty nat_cmp k
  got (x ∷ xs) k = get-insert nat_cmp_total (map_of xs) x.0 x.1 k ∙ ap (λ (b : Bool). cond b (Some x.1) (get (map_of xs) k)) (unsigned_tied k x.0) ∙ ap (cond (eqb k x.0) (Some x.1)) (got xs k)

  put_in : (xs ys : List (ℕ × V)) (key : ℕ) (v : V) → ((k : ℕ) → keyed k ys ≡ cond (eqb k key) (Some v) (keyed k xs)) → map_of ys ≡ insert (map_of xs) key v
  put_in xs ys key v h = same_map nat_cmp_total nat_cmp-IsAntisymmetric (map_of ys) (insert (map_of xs) key v) (λ k.
      got ys k ∙ h k ∙ sym (get-insert nat_cmp_total (map_of xs) key v k ∙ ap (λ (b : Bool). cond b (Some v) (get (map_of xs) k)) (unsigned_tied k key) ∙ ap (cond (eqb k key) (Some v)) (got xs k)))

  taken_out : (xs ys : List (ℕ × V)) (key : ℕ) → ((k : ℕ) → keyed k ys ≡ cond (eqb k key) None (keyed k xs)) → map_of ys ≡ remove (map_of xs) key
  taken_out xs ys key h = same_map nat_cmp_total nat_cmp-IsAntisymmetric (map_of ys) (remove (map_of xs) key) (λ k.
      got ys k ∙ h k ∙ sym (get-remove nat_cmp_total (map_of xs) key k ∙ ap (λ (b : Bool). cond b None (get (map_of xs) k)) (unsigned_tied k key) ∙ ap (cond (eqb k key) None) (got xs k)))

  -- ---- keys that rise

  le_end : (xs : List (ℕ × V)) (from end : ℕ) → RiseWithin from end xs → from ≤ end
  le_end [] from end h = h
  le_end (x ∷ xs) from end h = let le = le_end xs (x.0 + 1) end h.1 in omega (arith, le, h.0)

  lower : (xs : List (ℕ × V)) (from low end : ℕ) → low ≤ from → RiseWithin from end xs → RiseWithin low end xs
  lower [] from low end le h = omega (arith, le, h)
  lower (x ∷ xs) from low end le h = (omega (arith, le, h.0), h.1)

  below : (xs : List (ℕ × V)) (from end k : ℕ) → RiseWithin from end xs → k < from → keyed k xs ≡ None
  below [] from end k h lt = refl
  below (x ∷ xs) from end k h lt =
      let rest = below xs (x.0 + 1) end k h.1 (omega (arith, lt, h.0)) in
      let differs : eqb k x.0 ≡ false = (let le = h.0 in grind (arith, nat_tests)) in
      rw differs rest

  pushed : (xs : List (ℕ × V)) (from key k : ℕ) (v : V) → RiseWithin from key xs → keyed k (xs ++ (key, v) ∷ []) ≡ cond (eqb k key) (Some v) (keyed k xs)
  pushed [] from key k v h = refl
  pushed (x ∷ xs) from key k v h =
      let le = le_end xs (x.0 + 1) key h.1 in
      by (eqb k x.0) (eqb k key) refl refl le (pushed xs (x.0 + 1) key k v h.1)
    where
      by : (a b : Bool) → eqb k x.0 ≡ a → eqb k key ≡ b → x.0 + 1 ≤ key → keyed k (xs ++ (key, v) ∷ []) ≡ cond (eqb k key) (Some v) (keyed k xs) →
          cond a (Some x.1) (keyed k (xs ++ (key, v) ∷ [])) ≡ cond b (Some v) (cond a (Some x.1) (keyed k xs))
      by true true e f le rest = absurd (let p : k ≡ x.0 = eqb-true k x.0 e in let q : k ≡ key = eqb-true k key f in omega (arith, p, q, le))
      by true false e f le rest = refl
      by false true e f le rest = rest ∙ ap (λ (b : Bool). cond b (Some v) (keyed k xs)) f
      by false false e f le rest = rest ∙ ap (λ (b : Bool). cond b (Some v) (keyed k xs)) f

  taken : (xs : List (ℕ × V)) (from end key k : ℕ) → RiseWithin from end xs → keyed k (without_key key xs) ≡ cond (eqb k key) None (keyed k xs)
  taken [] from end key k h = by (eqb k key)
    where
      by : (b : Bool) → ◌≡◌ {A = Option V} None (cond b None None)
      by true = refl
      by false = refl
  taken (x ∷ xs) from end key k h =
      by (eqb key x.0) (eqb k key) (eqb k x.0) refl refl refl (below xs (x.0 + 1) end x.0 h.1 (omega arith)) (taken xs (x.0 + 1) end key k h.1)
    where
      by : (a b d : Bool) → eqb key x.0 ≡ a → eqb k key ≡ b → eqb k x.0 ≡ d → keyed x.0 xs ≡ None → keyed k (without_key key xs) ≡ cond (eqb k key) None (keyed k xs) →
          keyed k (cond a xs (x ∷ without_key key xs)) ≡ cond b None (cond d (Some x.1) (keyed k xs))
      by true true d e f g gone rest = ap (λ (n : ℕ). keyed n xs) (eqb-true k key f ∙ eqb-true key x.0 e) ∙ gone
      by true false true e f g gone rest = absurd (let p : key ≡ x.0 = eqb-true key x.0 e in let q : k ≡ x.0 = eqb-true k x.0 g in let r : eqb k key ≡ true = grind (arith, nat_tests) in (let no : ◌≡◌ {A = Bool} true false = sym r ∙ f in absurd cc))
      by true false false e f g gone rest = refl
      by false true true e f g gone rest = absurd (let p : k ≡ key = eqb-true k key f in let q : k ≡ x.0 = eqb-true k x.0 g in let r : eqb key x.0 ≡ true = grind (arith, nat_tests) in (let no : ◌≡◌ {A = Bool} true false = sym r ∙ e in absurd cc))
      by false true false e f g gone rest = rw g (rest ∙ ap (λ (b : Bool). cond b None (keyed k xs)) f)
      by false false true e f g gone rest = rw g refl
      by false false false e f g gone rest = rw g (rest ∙ ap (λ (b : Bool). cond b None (keyed k xs)) f)

  pub put : (xs : List (ℕ × V)) (from key : ℕ) (v : V) → RiseWithin from key xs → map_of (xs ++ (key, v) ∷ []) ≡ insert (map_of xs) key v
  put xs from key v h = put_in xs (xs ++ (key, v) ∷ []) key v (λ k. pushed xs from key k v h)

  pub took : (xs : List (ℕ × V)) (from end key : ℕ) → RiseWithin from end xs → map_of (without_key key xs) ≡ remove (map_of xs) key
  took xs from end key h = taken_out xs (without_key key xs) key (λ k. taken xs from end key k h)

  pub rises_put : (xs : List (ℕ × V)) (from key : ℕ) (v : V) → RiseWithin from key xs → RiseWithin from (key + 1) (xs ++ (key, v) ∷ [])
  rises_put [] from key v h = (h, omega arith)
  rises_put (x ∷ xs) from key v h = (h.0, rises_put xs (x.0 + 1) key v h.1)

  pub rises_taken : (xs : List (ℕ × V)) (from end key : ℕ) → RiseWithin from end xs → RiseWithin from end (without_key key xs)
  rises_taken [] from end key h = h
  rises_taken (x ∷ xs) from end key h = by (eqb key x.0) (rises_taken xs (x.0 + 1) end key h.1)
    where
      by : (b : Bool) → RiseWithin (x.0 + 1) end (without_key key xs) → RiseWithin from end (cond b xs (x ∷ without_key key xs))
      by true rest = lower xs (x.0 + 1) from end (let le = h.0 in omega (arith, le)) h.1
      by false rest = (h.0, rest)
