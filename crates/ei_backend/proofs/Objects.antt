-- Objects by rising ids, and the finite map that they are seen as.
use Rattle.std.proofs.Common.{◌≡◌, ◌≤◌, ◌<◌, ◌+◌, ◌^◌, eqb, arith, ℕ, Bool, true, false, Bor}
use Rattle.std.proofs.Common.{cond, List, [], ◌∷◌, ◌++◌, Option, Some, None, refl, sym, ap, ◌∙◌}
use Rattle.std.specs.Prelude.{IfSome}
use Rattle.std.specs.Ordering.{nat_cmp}
use Rattle.std.specs.Cmp.{nat_cmp_total, unsigned_tied}
use Rattle.std.specs.FinMap.{FinMap, get, insert, remove, get-empty, get-insert, get-remove, same_map, nat_cmp-IsAntisymmetric}
use Rattle.std.proofs.lemmas.Bool.Decides.{nat_tests}
use Rattle.ei_spec.specs.Interface.{ObjectView}
use Rattle.ei_keyed.specs.Keyed.{keyed, without_key}
use Rattle.ei_backend.specs.Table.{RiseWithin, Rise, by_id, objects_in, AreIds}

-- the object of an id
abbrev pub at : ℕ → List ObjectView → Option ObjectView
at q [] = None
at q (o ∷ os) = cond (eqb q o.id) (Some o) (at q os)

pub get_at : (os : List ObjectView) (q : ℕ) → get (by_id os) q ≡ at q os
get_at [] q = get-empty nat_cmp q
get_at (o ∷ os) q = get-insert nat_cmp_total (by_id os) o.id o q ∙ ap (λ b. cond b (Some o) (get (by_id os) q)) (unsigned_tied q o.id) ∙ ap (cond (eqb q o.id) (Some o)) (get_at os q)

-- ---- where the ids of a vector lie

pub range_le : (os : List ObjectView) (from end : ℕ) → RiseWithin from end os → from ≤ end
range_le [] from end h = h
range_le (o ∷ os) from end h = omega (arith, h.0, range_le os (o.id + 1) end h.1)

pub widened : (os : List ObjectView) (from end low high : ℕ) → RiseWithin from end os → low ≤ from → end ≤ high → RiseWithin low high os
widened [] from end low high h l e = omega (arith, h)
widened (o ∷ os) from end low high h l e = (omega (arith, h.0), widened os (o.id + 1) end (o.id + 1) high h.1 (omega arith) e)

pub below_range : (os : List ObjectView) (from end q : ℕ) → RiseWithin from end os → q < from → at q os ≡ None
below_range [] from end q h lt = refl
below_range (o ∷ os) from end q h lt = grind (arith, nat_tests, h.0, below_range os (o.id + 1) end q h.1 (omega (arith, h.0)))

pub above_range : (os : List ObjectView) (from end q : ℕ) → RiseWithin from end os → end ≤ q → at q os ≡ None
above_range [] from end q h le = refl
above_range (o ∷ os) from end q h le = grind (arith, nat_tests, range_le os (o.id + 1) end h.1, above_range os (o.id + 1) end q h.1 le)

-- maps that find alike are one
pub same_objects : (m n : FinMap nat_cmp ObjectView) → ((q : ℕ) → get m q ≡ get n q) → m ≡ n
same_objects m n h = same_map nat_cmp_total nat_cmp-IsAntisymmetric m n h

pub get_without : (m : FinMap nat_cmp ObjectView) (k q : ℕ) → get (remove m k) q ≡ cond (eqb q k) None (get m q)
get_without m k q = get-remove nat_cmp_total m k q ∙ ap (λ b. cond b None (get m q)) (unsigned_tied q k)

pub get_with : (m : FinMap nat_cmp ObjectView) (k q : ℕ) (o : ObjectView) → get (insert m k o) q ≡ cond (eqb q k) (Some o) (get m q)
get_with m k q o = get-insert nat_cmp_total m k o q ∙ ap (λ b. cond b (Some o) (get m q)) (unsigned_tied q k)

-- ---- objects by keys that are their ids

pub keyed_at : (xs : List (ℕ × ObjectView)) (q : ℕ) → AreIds xs → keyed q xs ≡ at q (objects_in xs)
keyed_at [] q ids = refl
keyed_at (x ∷ xs) q ids = rw (ids.0, keyed_at xs q ids.1) refl

pub keyed_is : (xs : List (ℕ × ObjectView)) (q : ℕ) → AreIds xs → keyed q xs ≡ get (by_id (objects_in xs)) q
keyed_is xs q ids = keyed_at xs q ids ∙ sym (get_at (objects_in xs) q)

-- one more goes behind them
pub more_objects : (xs : List (ℕ × ObjectView)) (id : ℕ) (o : ObjectView) → objects_in (xs ++ (id, o) ∷ []) ≡ objects_in xs ++ o ∷ []
more_objects [] id o = refl
more_objects (x ∷ xs) id o = ap (λ (os : List ObjectView). x.1 ∷ os) (more_objects xs id o)

pub more_ids : (xs : List (ℕ × ObjectView)) (id : ℕ) (o : ObjectView) → AreIds xs → id ≡ o.id → AreIds (xs ++ (id, o) ∷ [])
more_ids [] id o ids is = (is, tt)
more_ids (x ∷ xs) id o ids is = (ids.0, more_ids xs id o ids.1 is)

-- one goes
pub ids_left : (xs : List (ℕ × ObjectView)) (k : ℕ) → AreIds xs → AreIds (without_key k xs)
ids_left [] k ids = tt
ids_left (x ∷ xs) k ids = elim (eqb k x.0) as (λ b. AreIds (cond b xs (x ∷ without_key k xs))) [ true ↦ ids.1 | false ↦ (ids.0, ids_left xs k ids.1) ]

pub rises_left : (xs : List (ℕ × ObjectView)) (k from end : ℕ) → RiseWithin from end (objects_in xs) → RiseWithin from end (objects_in (without_key k xs))
rises_left [] k from end h = h
rises_left (x ∷ xs) k from end h = elim (eqb k x.0) as (λ b. RiseWithin from end (objects_in (cond b xs (x ∷ without_key k xs)))) [
  | true ↦ widened (objects_in xs) (x.1.id + 1) end from end h.1 (omega (arith, h.0)) (omega arith)
  | false ↦ (h.0, rises_left xs k (x.1.id + 1) end h.1)
]

left_by : (x : ℕ × ObjectView) (xs : List (ℕ × ObjectView)) (k q end : ℕ) → x.0 ≡ x.1.id → RiseWithin (x.1.id + 1) end (objects_in xs) →
    at q (objects_in (without_key k xs)) ≡ cond (eqb q k) None (at q (objects_in xs)) → (b : Bool) → eqb k x.0 ≡ b →
    at q (objects_in (cond b xs (x ∷ without_key k xs))) ≡ cond (eqb q k) None (at q (x.1 ∷ objects_in xs))
left_by x xs k q end id h rest true e = grind (arith, nat_tests, e, id, below_range (objects_in xs) (x.1.id + 1) end q h)
left_by x xs k q end id h rest false e = grind (arith, nat_tests, e, id, rest)

at_left : (xs : List (ℕ × ObjectView)) (k q from end : ℕ) → AreIds xs → RiseWithin from end (objects_in xs) → at q (objects_in (without_key k xs)) ≡ cond (eqb q k) None (at q (objects_in xs))
at_left [] k q from end ids h = elim (eqb q k) as (λ b. at q [] ≡ cond b None (at q [])) [ true ↦ refl | false ↦ refl ]
at_left (x ∷ xs) k q from end ids h = left_by x xs k q end ids.0 h.1 (at_left xs k q (x.1.id + 1) end ids.1 h.1) (eqb k x.0) refl

pub objects_left : (xs : List (ℕ × ObjectView)) (k : ℕ) → AreIds xs → Rise (objects_in xs) → by_id (objects_in (without_key k xs)) ≡ remove (by_id (objects_in xs)) k
objects_left xs k ids ordered = same_objects _ _ (λ q.
    get_at (objects_in (without_key k xs)) q ∙ at_left xs k q 0 (2 ^ 64) ids ordered ∙ ap (cond (eqb q k) None) (sym (get_at (objects_in xs) q)) ∙ sym (get_without (by_id (objects_in xs)) k q))

-- the same of a look-up that may find nothing
pub if_keyed : (xs : List (ℕ × ObjectView)) (q : ℕ) (r : Option (Bor ObjectView)) → AreIds xs → IfSome r (λ o. keyed q xs ≡ Some o.now) → IfSome r (λ o. Some o.now ≡ get (by_id (objects_in xs)) q)
if_keyed xs q None ids is = tt
if_keyed xs q (Some o) ids is = sym is ∙ keyed_is xs q ids
