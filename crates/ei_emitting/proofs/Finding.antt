-- Devices that are found in lists, and where the ids of their interfaces lie.
use Rattle.std.proofs.Common.{◌≡◌, ℕ, ◌+◌, ◌<◌, ◌≤◌, Bool, true, false, cond, eqb, ◌&&◌, ◌||◌, List, [], ◌∷◌, ◌++◌, map, length, Option, Some, None, refl, sym, ap, subst, ◌∙◌, arith}
use Rattle.std.specs.Prelude.{is_some, find}
use Rattle.std.specs.List.{list_any}
use Rattle.std.proofs.lemmas.Bool.{eqb-true, eq-eqb}
use Rattle.std.proofs.lemmas.Option.{same_Some}
use Rattle.ei_spec.specs.declared.interface.KnownInterface.{KnownInterface}
use Rattle.ei_spec.specs.Interface.{ObjectView}
use Rattle.ei_backend.specs.Table.{TableView}
use Rattle.ei_request.specs.Keys.{DeviceKey}
use Rattle.ei_request.specs.Held.{DeviceView, is_device, is_of_key, without_first}
use Rattle.ei_acts.specs.There.{IsInTable, AllInTable}
use Rattle.ei_acts.proofs.Parts.{not_both}
use Rattle.ei_emitting.specs.Emits.{AreFrom}

-- ---- found

-- the device that was found has the id
pub found_id : (id : ℕ) (ds : List DeviceView) (d : DeviceView) → find (is_device id) ds ≡ Some d → d.device.proxy.id ≡ id
found_id id [] d h = absurd cc
found_id id (y ∷ ds) d h = by (is_device id y) refl h (found_id id ds d)
  where
    by : (b : Bool) → is_device id y ≡ b → cond b (Some y) (find (is_device id) ds) ≡ Some d → (find (is_device id) ds ≡ Some d → d.device.proxy.id ≡ id) → d.device.proxy.id ≡ id
    by true e g next = subst (λ (v : DeviceView). v.device.proxy.id ≡ id) (same_Some y d g) (eqb-true y.device.proxy.id id e)
    by false e g next = next g

both_true : (a b : Bool) → a ≡ true → b ≡ true → (a && b) ≡ true
both_true true true e f = refl
both_true true false e f = absurd cc
both_true false b e f = absurd cc

last_false : (a b : Bool) → b ≡ false → (a && b) ≡ false
last_false true b e = e
last_false false b e = refl

pub of_key : (key : DeviceKey) (d : DeviceView) → d.device.seat.id ≡ key.seat.id → d.device.proxy.id ≡ key.proxy.id → is_of_key key d ≡ true
of_key key d e f = both_true (eqb d.device.seat.id key.seat.id) (eqb d.device.proxy.id key.proxy.id) (eq-eqb d.device.seat.id key.seat.id e) (eq-eqb d.device.proxy.id key.proxy.id f)

pub not_of_key : (key : DeviceKey) (d : DeviceView) → eqb d.device.proxy.id key.proxy.id ≡ false → is_of_key key d ≡ false
not_of_key key d e = last_false (eqb d.device.seat.id key.seat.id) (eqb d.device.proxy.id key.proxy.id) e

-- the first of an id is the first of a key with that id
pub key_found : (key : DeviceKey) (ds : List DeviceView) (d : DeviceView) → d.device.seat.id ≡ key.seat.id → find (is_device key.proxy.id) ds ≡ Some d → find (is_of_key key) ds ≡ Some d
key_found key [] d s h = absurd cc
key_found key (y ∷ ds) d s h = by (is_device key.proxy.id y) refl h (key_found key ds d s)
  where
    by : (b : Bool) → is_device key.proxy.id y ≡ b → cond b (Some y) (find (is_device key.proxy.id) ds) ≡ Some d → (find (is_device key.proxy.id) ds ≡ Some d → find (is_of_key key) ds ≡ Some d) →
        cond (is_of_key key y) (Some y) (find (is_of_key key) ds) ≡ Some d
    by true e g next =
        let same : y ≡ d = same_Some y d g in
        let its : is_of_key key y ≡ true = of_key key y (ap (λ (v : DeviceView). v.device.seat.id) same ∙ s) (eqb-true y.device.proxy.id key.proxy.id e) in
        ap (λ (b : Bool). cond b (Some y) (find (is_of_key key) ds)) its ∙ g
    by false e g next = ap (λ (b : Bool). cond b (Some y) (find (is_of_key key) ds)) (not_of_key key y e) ∙ next g

-- another stays found where the first of a key goes
pub find_without : (test : DeviceView → Bool) (id : ℕ) (ds : List DeviceView) (d : DeviceView) → find (is_device id) ds ≡ Some d → test d ≡ false → find (is_device id) (without_first test ds) ≡ Some d
find_without test id [] d h n = absurd cc
find_without test id (y ∷ ds) d h n = by (test y) (is_device id y) refl refl h (λ g. find_without test id ds d g n)
  where
    by : (b p : Bool) → test y ≡ b → is_device id y ≡ p → cond p (Some y) (find (is_device id) ds) ≡ Some d → (find (is_device id) ds ≡ Some d → find (is_device id) (without_first test ds) ≡ Some d) →
        find (is_device id) (cond b ds (y ∷ without_first test ds)) ≡ Some d
    by true true e f g next = absurd (not_both (test d) (ap test (sym (same_Some y d g)) ∙ e) n)
    by true false e f g next = g
    by false true e f g next = ap (λ (q : Bool). cond q (Some y) (find (is_device id) (without_first test ds))) f ∙ g
    by false false e f g next = ap (λ (q : Bool). cond q (Some y) (find (is_device id) (without_first test ds))) f ∙ next g

-- ---- one more behind

pub find_first : (test : DeviceView → Bool) (ds : List DeviceView) (x d : DeviceView) → find test ds ≡ Some d → find test (ds ++ (x ∷ [])) ≡ Some d
find_first test [] x d h = absurd cc
find_first test (y ∷ ds) x d h = by (test y) h (find_first test ds x d)
  where
    by : (b : Bool) → cond b (Some y) (find test ds) ≡ Some d → (find test ds ≡ Some d → find test (ds ++ (x ∷ [])) ≡ Some d) → cond b (Some y) (find test (ds ++ (x ∷ []))) ≡ Some d
    by true g next = g
    by false g next = next g

pub find_last : (test : DeviceView → Bool) (ds : List DeviceView) (x : DeviceView) → find test ds ≡ None → test x ≡ true → find test (ds ++ (x ∷ [])) ≡ Some x
find_last test [] x h e = ap (λ (b : Bool). let o : Option DeviceView = cond b (Some x) None in o) e
find_last test (y ∷ ds) x h e = by (test y) h (λ g. find_last test ds x g e)
  where
    by : (b : Bool) → cond b (Some y) (find test ds) ≡ None → (find test ds ≡ None → find test (ds ++ (x ∷ [])) ≡ Some x) → cond b (Some y) (find test (ds ++ (x ∷ []))) ≡ Some x
    by true g next = absurd cc
    by false g next = next g

pub some_last : (test : DeviceView → Bool) (ds : List DeviceView) (x : DeviceView) → test x ≡ true → is_some (find test (ds ++ (x ∷ []))) ≡ true
some_last test [] x e = ap (λ (b : Bool). let o : Option DeviceView = cond b (Some x) None in is_some o) e
some_last test (y ∷ ds) x e = by (test y) (some_last test ds x e)
  where
    by : (b : Bool) → is_some (find test (ds ++ (x ∷ []))) ≡ true → is_some (cond b (Some y) (find test (ds ++ (x ∷ [])))) ≡ true
    by true next = refl
    by false next = next

-- ---- in the table

pub in_table : (t : TableView) (id : ℕ) (ds : List DeviceView) (d : DeviceView) → AllInTable t ds → find (is_device id) ds ≡ Some d → IsInTable t d
in_table t id [] d a h = absurd cc
in_table t id (y ∷ ds) d a h = by (is_device id y) h (in_table t id ds d a.1)
  where
    by : (b : Bool) → cond b (Some y) (find (is_device id) ds) ≡ Some d → (find (is_device id) ds ≡ Some d → IsInTable t d) → IsInTable t d
    by true g next = subst (IsInTable t) (same_Some y d g) a.0
    by false g next = next g

-- ---- where ids lie

abbrev pub ids_in : List ObjectView → List ℕ
ids_in os = map (λ (o : ObjectView). o.id) os

pub from_length : (from : ℕ) (ks : List KnownInterface) (os : List ObjectView) → AreFrom from ks os → length os ≡ length ks
from_length from [] [] a = refl
from_length from [] (o ∷ os) a = absurd a
from_length from (k ∷ ks) [] a = absurd a
from_length from (k ∷ ks) (o ∷ os) a = let next = from_length (from + 1) ks os a.2 in omega (arith, next)

pub in_range : (from n : ℕ) (ks : List KnownInterface) (os : List ObjectView) → AreFrom from ks os → list_any (eqb n) (ids_in os) ≡ true → (from ≤ n) × (n < from + length ks)
in_range from n [] [] a h = absurd cc
in_range from n [] (o ∷ os) a h = absurd a
in_range from n (k ∷ ks) [] a h = absurd a
in_range from n (k ∷ ks) (o ∷ os) a h = by (eqb n o.id) refl h (in_range (from + 1) n ks os a.2)
  where
    by : (b : Bool) → eqb n o.id ≡ b → (b || list_any (eqb n) (ids_in os)) ≡ true → (list_any (eqb n) (ids_in os) ≡ true → (from + 1 ≤ n) × (n < from + 1 + length ks)) → (from ≤ n) × (n < from + length (k ∷ ks))
    by true e g next = let same = eqb-true n o.id e in let i = a.0 in (omega (arith, same, i), omega (arith, same, i))
    by false e g next = let r = next g in let l = r.0 in let u = r.1 in (omega (arith, l), omega (arith, u))

pub out_of_range : (from n : ℕ) (ks : List KnownInterface) (os : List ObjectView) → AreFrom from ks os → ((from ≤ n) × (n < from + length ks) → ⊥) → list_any (eqb n) (ids_in os) ≡ false
out_of_range from n ks os a out = by (list_any (eqb n) (ids_in os)) refl
  where
    by : (b : Bool) → list_any (eqb n) (ids_in os) ≡ b → list_any (eqb n) (ids_in os) ≡ false
    by true e = absurd (out (in_range from n ks os a e))
    by false e = e
