-- Which number an id has: what the table of the ids tells of the devices, and what keeps it so.
use Rattle.std.proofs.Common.{◌≡◌, ◌≢◌, ◌≤◌, ◌<◌, ◌+◌, ℕ, Bool, true, false, cond, eqb, ◌||◌, ◌&&◌, List, [], ◌∷◌, ◌++◌, map, length, take, get_or, Option, Some, None, refl, sym, ap, ◌∙◌, arith, append_assoc}
use Rattle.std.proofs.lemmas.List.{append-nil, take_more, map-append}
use Rattle.std.proofs.lemmas.List.Elements.{filter-append}
use Rattle.std.specs.Prelude.{find, not, nat_eq}
use Rattle.std.specs.List.{filter, list_any}
use Rattle.std.proofs.lemmas.Bool.{eqb-true}
use Rattle.std.proofs.lemmas.Bool.Decides.{nat_tests}
use Rattle.ei_spec.specs.Interface.{ObjectView}
use Rattle.ei_keyed.specs.Keyed.{keyed, with_value, without_key, RiseWithin}
use Rattle.ei_request.specs.Held.{DeviceView, is_device, is_of_key, is_of_seat, has_interface, changed_first, without_first, without_interface}
use Rattle.ei_request.specs.Keys.{DeviceKey}
use Rattle.ei_request.specs.declared.device_table.Sought.{Sought}
use Rattle.ei_request.specs.DeviceTable.{fits, sought_id, values, number_of, with_first, fits_in, own_ids, numbered, ids_of, Forgets, stays}
use Rattle.ei_request.specs.declared.device_table.Sought.TheVariants.{Device, Key, Interface}
use Rattle.ei_request.proofs.NumberedDevices.{keyed_above}

-- ---- one device's ids in front of others

-- among these
abbrev has : ℕ → List ℕ → Bool
has q ids = list_any (eqb q) ids

in_block : (q n : ℕ) (ids : List ℕ) (rest : List (ℕ × ℕ)) → has q ids ≡ true → keyed q (numbered n ids ++ rest) ≡ Some n
in_block q n [] rest e = absurd cc
in_block q n (i ∷ ids) rest e = by (eqb q i) e (in_block q n ids rest)
  where
    by : (b : Bool) → (b || has q ids) ≡ true → (has q ids ≡ true → keyed q (numbered n ids ++ rest) ≡ Some n) → cond b (Some n) (keyed q (numbered n ids ++ rest)) ≡ Some n
    by true e next = refl
    by false e next = next e

past_block : (q n : ℕ) (ids : List ℕ) (rest : List (ℕ × ℕ)) → has q ids ≡ false → keyed q (numbered n ids ++ rest) ≡ keyed q rest
past_block q n [] rest e = refl
past_block q n (i ∷ ids) rest e = by (eqb q i) e (past_block q n ids rest)
  where
    by : (b : Bool) → (b || has q ids) ≡ false → (has q ids ≡ false → keyed q (numbered n ids ++ rest) ≡ keyed q rest) → cond b (Some n) (keyed q (numbered n ids ++ rest)) ≡ keyed q rest
    by true e next = absurd cc
    by false e next = next e

from_block : (q n : ℕ) (ids : List ℕ) (rest : List (ℕ × ℕ)) → has q ids ≡ true → without_key q (numbered n ids ++ rest) ≡ numbered n (without_first (eqb q) ids) ++ rest
from_block q n [] rest e = absurd cc
from_block q n (i ∷ ids) rest e = by (eqb q i) e (from_block q n ids rest)
  where
    by : (b : Bool) → (b || has q ids) ≡ true → (has q ids ≡ true → without_key q (numbered n ids ++ rest) ≡ numbered n (without_first (eqb q) ids) ++ rest) →
        cond b (numbered n ids ++ rest) ((i, n) ∷ without_key q (numbered n ids ++ rest)) ≡ numbered n (cond b ids (i ∷ without_first (eqb q) ids)) ++ rest
    by true e next = refl
    by false e next = ap (λ ys. (i, n) ∷ ys) (next e)

behind_block : (q n : ℕ) (ids : List ℕ) (rest : List (ℕ × ℕ)) → has q ids ≡ false → without_key q (numbered n ids ++ rest) ≡ numbered n ids ++ without_key q rest
behind_block q n [] rest e = refl
behind_block q n (i ∷ ids) rest e = by (eqb q i) e (behind_block q n ids rest)
  where
    by : (b : Bool) → (b || has q ids) ≡ false → (has q ids ≡ false → without_key q (numbered n ids ++ rest) ≡ numbered n ids ++ without_key q rest) →
        cond b (numbered n ids ++ rest) ((i, n) ∷ without_key q (numbered n ids ++ rest)) ≡ (i, n) ∷ (numbered n ids ++ without_key q rest)
    by true e next = absurd cc
    by false e next = ap (λ ys. (i, n) ∷ ys) (next e)

-- ---- what a look-up tells

-- where the id isn't there, no device passes
pub unknown : (test : DeviceView → Bool) (q : ℕ) (hs : List (ℕ × DeviceView)) → ((d : DeviceView) → test d ≡ true → has q (own_ids d) ≡ true) → keyed q (ids_of hs) ≡ None → number_of test hs ≡ None
unknown test q [] has e = refl
unknown test q (x ∷ hs) hasid e = by (test x.1) refl (has q (own_ids x.1)) refl (unknown test q hs hasid)
  where
    by : (b : Bool) → test x.1 ≡ b → (a : Bool) → has q (own_ids x.1) ≡ a → (keyed q (ids_of hs) ≡ None → number_of test hs ≡ None) → cond b (Some x.0) (number_of test hs) ≡ None
    by b t true a rest = absurd (let p = sym e ∙ in_block q x.0 (own_ids x.1) (ids_of hs) a in cc)
    by true t false a rest = absurd (let p = sym a ∙ hasid x.1 t in cc)
    by false t false a rest = rest (sym (past_block q x.0 (own_ids x.1) (ids_of hs) a) ∙ e)

number_in : (q n : ℕ) (hs : List (ℕ × DeviceView)) (from end : ℕ) → RiseWithin from end hs → keyed q (ids_of hs) ≡ Some n → from ≤ n
number_in q n [] from end h e = absurd cc
number_in q n (x ∷ hs) from end h e = by (has q (own_ids x.1)) refl (number_in q n hs (x.0 + 1) end h.1)
  where
    by : (a : Bool) → has q (own_ids x.1) ≡ a → (keyed q (ids_of hs) ≡ Some n → x.0 + 1 ≤ n) → from ≤ n
    by true a rest = (let p : ◌≡◌ {A = Option ℕ} (Some x.0) (Some n) = sym (in_block q x.0 (own_ids x.1) (ids_of hs) a) ∙ e in let r : x.0 ≡ n = cc in let le = h.0 in omega (arith, r, le))
    by false a rest = (let le = rest (sym (past_block q x.0 (own_ids x.1) (ids_of hs) a) ∙ e) in let low = h.0 in omega (arith, le, low))

differ : (n k : ℕ) → k + 1 ≤ n → eqb n k ≡ false
differ n k le = grind (arith, nat_tests)

same : (n : ℕ) → eqb n n ≡ true
same n = grind (arith, nat_tests)

-- where the device with the number passes, it is the first
pub known_first : (test : DeviceView → Bool) (q n : ℕ) (hs : List (ℕ × DeviceView)) (from end : ℕ) → RiseWithin from end hs → ((d : DeviceView) → test d ≡ true → has q (own_ids d) ≡ true) → keyed q (ids_of hs) ≡ Some n →
    fits_in test (keyed n hs) ≡ true → number_of test hs ≡ Some n
known_first test q n [] from end h hasid e f = absurd cc
known_first test q n (x ∷ hs) from end h hasid e f = by (test x.1) refl (has q (own_ids x.1)) refl (known_first test q n hs (x.0 + 1) end h.1 hasid) (number_in q n hs (x.0 + 1) end h.1)
  where
    by : (b : Bool) → test x.1 ≡ b → (a : Bool) → has q (own_ids x.1) ≡ a → (keyed q (ids_of hs) ≡ Some n → fits_in test (keyed n hs) ≡ true → number_of test hs ≡ Some n) → (keyed q (ids_of hs) ≡ Some n → x.0 + 1 ≤ n) →
        cond b (Some x.0) (number_of test hs) ≡ Some n
    by true t true a rest up = sym (in_block q x.0 (own_ids x.1) (ids_of hs) a) ∙ e
    by true t false a rest up = absurd (let p = sym a ∙ hasid x.1 t in cc)
    by false t true a rest up = absurd (
        let p : ◌≡◌ {A = Option ℕ} (Some x.0) (Some n) = sym (in_block q x.0 (own_ids x.1) (ids_of hs) a) ∙ e in
        let r : x.0 ≡ n = cc in
        let s : eqb n x.0 ≡ true = ap (eqb n) r ∙ same n in
        let u : test x.1 ≡ true = sym (ap (λ (b : Bool). fits_in test (cond b (Some x.1) (keyed n hs))) s) ∙ f in
        let v = sym t ∙ u in cc)
    by false t false a rest up =
        let e' : keyed q (ids_of hs) ≡ Some n = sym (past_block q x.0 (own_ids x.1) (ids_of hs) a) ∙ e in
        rest e' (sym (ap (λ (b : Bool). fits_in test (cond b (Some x.1) (keyed n hs))) (differ n x.0 (up e'))) ∙ f)

-- what is sought has the id by which it is looked up
any_id : (q : ℕ) (os : List ObjectView) → list_any (λ o. nat_eq o.id q) os ≡ true → has q (map (λ o. o.id) os) ≡ true
any_id q [] e = absurd cc
any_id q (o ∷ os) e = by (eqb o.id q) refl e (any_id q os)
  where
    by : (b : Bool) → eqb o.id q ≡ b → (b || list_any (λ o. nat_eq o.id q) os) ≡ true → (list_any (λ o. nat_eq o.id q) os ≡ true → has q (map (λ o. o.id) os) ≡ true) → (eqb q o.id || has q (map (λ o. o.id) os)) ≡ true
    by true is e rest = (let p : eqb q o.id ≡ true = ap (eqb q) (eqb-true o.id q is) ∙ same q in rw p refl)
    by false is e rest = or_true (eqb q o.id) (rest e)
      where
        or_true : (b : Bool) {c : Bool} → c ≡ true → (b || c) ≡ true
        or_true true e = refl
        or_true false e = e

own_id : (q : ℕ) (d : DeviceView) → eqb d.device.proxy.id q ≡ true → has q (own_ids d) ≡ true
own_id q d is = (let p : eqb q d.device.proxy.id ≡ true = ap (eqb q) (eqb-true d.device.proxy.id q is) ∙ same q in rw p refl)

pub sought_has : (s : Sought) (d : DeviceView) → fits s d ≡ true → has (sought_id s) (own_ids d) ≡ true
sought_has (Device id) d e = own_id id d e
sought_has (Key key) d e = own_id key.now.proxy.id d (right _ _ e)
  where
    right : (a b : Bool) → (a && b) ≡ true → b ≡ true
    right true b e = e
    right false b e = absurd cc
sought_has (Interface id) d e = or_more (eqb id d.device.proxy.id) (any_id id d.interfaces e)
  where
    or_more : (b : Bool) {c : Bool} → c ≡ true → (b || c) ≡ true
    or_more true e = refl
    or_more false e = e

-- ---- what keeps the ids those of the devices

pub ids_push : (hs : List (ℕ × DeviceView)) (n : ℕ) (d : DeviceView) → ids_of hs ++ numbered n (own_ids d) ≡ ids_of (hs ++ (n, d) ∷ [])
ids_push [] n d = sym (append-nil (numbered n (own_ids d)))
ids_push (x ∷ hs) n d = append_assoc (numbered x.0 (own_ids x.1)) (ids_of hs) (numbered n (own_ids d)) ∙ ap (λ ys. numbered x.0 (own_ids x.1) ++ ys) (ids_push hs n d)

-- a change that keeps the ids of the device
pub ids_written : (test : DeviceView → Bool) (hs : List (ℕ × DeviceView)) (d w : DeviceView) → find test (values hs) ≡ Some d → own_ids w ≡ own_ids d → ids_of (with_first test hs w) ≡ ids_of hs
ids_written test [] d w f e = refl
ids_written test (x ∷ hs) d w f e = by (test x.1) f (ids_written test hs d w)
  where
    by : (b : Bool) → cond b (Some x.1) (find test (values hs)) ≡ Some d → (find test (values hs) ≡ Some d → own_ids w ≡ own_ids d → ids_of (with_first test hs w) ≡ ids_of hs) →
        ids_of (cond b ((x.0, w) ∷ hs) (x ∷ with_first test hs w)) ≡ numbered x.0 (own_ids x.1) ++ ids_of hs
    by true f rest = (let p : x.1 ≡ d = cc in ap (λ is. numbered x.0 is ++ ids_of hs) (e ∙ ap own_ids (sym p)))
    by false f rest = ap (λ ys. numbered x.0 (own_ids x.1) ++ ys) (rest f e)

-- the ids, where the device of the number has these
abbrev pub ids_with : ℕ → List ℕ → List (ℕ × DeviceView) → List (ℕ × ℕ)
ids_with n ids [] = []
ids_with n ids (x ∷ hs) = cond (eqb n x.0) (numbered n ids ++ ids_of hs) (numbered x.0 (own_ids x.1) ++ ids_with n ids hs)

-- the device has those ids
pub ids_before : (n : ℕ) (hs : List (ℕ × DeviceView)) (d : DeviceView) → keyed n hs ≡ Some d → ids_of hs ≡ ids_with n (own_ids d) hs
ids_before n [] d e = absurd cc
ids_before n (x ∷ hs) d e = by (eqb n x.0) refl e (ids_before n hs d)
  where
    by : (b : Bool) → eqb n x.0 ≡ b → cond b (Some x.1) (keyed n hs) ≡ Some d → (keyed n hs ≡ Some d → ids_of hs ≡ ids_with n (own_ids d) hs) →
        numbered x.0 (own_ids x.1) ++ ids_of hs ≡ cond b (numbered n (own_ids d) ++ ids_of hs) (numbered x.0 (own_ids x.1) ++ ids_with n (own_ids d) hs)
    by true is e rest = (let p : x.1 ≡ d = cc in ap (λ (y : DeviceView). numbered x.0 (own_ids y) ++ ids_of hs) p ∙ ap (λ (k : ℕ). numbered k (own_ids d) ++ ids_of hs) (sym (eqb-true n x.0 is)))
    by false is e rest = ap (λ ys. numbered x.0 (own_ids x.1) ++ ys) (rest e)

-- or gets others
pub ids_after : (n : ℕ) (hs : List (ℕ × DeviceView)) (w : DeviceView) → ids_with n (own_ids w) hs ≡ ids_of (with_value n hs w)
ids_after n [] w = refl
ids_after n (x ∷ hs) w = by (eqb n x.0) (ids_after n hs w)
  where
    by : (b : Bool) → ids_with n (own_ids w) hs ≡ ids_of (with_value n hs w) →
        cond b (numbered n (own_ids w) ++ ids_of hs) (numbered x.0 (own_ids x.1) ++ ids_with n (own_ids w) hs) ≡ ids_of (cond b ((n, w) ∷ hs) (x ∷ with_value n hs w))
    by true rest = refl
    by false rest = ap (λ ys. numbered x.0 (own_ids x.1) ++ ys) rest

-- or goes
pub ids_gone : (n : ℕ) (hs : List (ℕ × DeviceView)) → ids_with n [] hs ≡ ids_of (without_key n hs)
ids_gone n [] = refl
ids_gone n (x ∷ hs) = by (eqb n x.0) (ids_gone n hs)
  where
    by : (b : Bool) → ids_with n [] hs ≡ ids_of (without_key n hs) → cond b (ids_of hs) (numbered x.0 (own_ids x.1) ++ ids_with n [] hs) ≡ ids_of (cond b hs (x ∷ without_key n hs))
    by true rest = refl
    by false rest = ap (λ ys. numbered x.0 (own_ids x.1) ++ ys) rest

-- one of them is taken out
pub id_taken : (i n : ℕ) (ids : List ℕ) (hs : List (ℕ × DeviceView)) (from end : ℕ) → RiseWithin from end hs → keyed i (ids_with n ids hs) ≡ Some n → without_key i (ids_with n ids hs) ≡ ids_with n (without_first (eqb i) ids) hs
id_taken i n ids [] from end h e = absurd cc
id_taken i n ids (x ∷ hs) from end h e = by (eqb n x.0) refl e (id_taken i n ids hs (x.0 + 1) end h.1)
  where
    here : (a : Bool) → has i ids ≡ a → keyed i (numbered n ids ++ ids_of hs) ≡ Some n → n ≡ x.0 → without_key i (numbered n ids ++ ids_of hs) ≡ numbered n (without_first (eqb i) ids) ++ ids_of hs
    here true a e is = from_block i n ids (ids_of hs) a
    here false a e is = absurd (let le = number_in i n hs (x.0 + 1) end h.1 (sym (past_block i n ids (ids_of hs) a) ∙ e) in omega (arith, le, is))

    there : (a : Bool) → has i (own_ids x.1) ≡ a → eqb n x.0 ≡ false → keyed i (numbered x.0 (own_ids x.1) ++ ids_with n ids hs) ≡ Some n →
        (keyed i (ids_with n ids hs) ≡ Some n → without_key i (ids_with n ids hs) ≡ ids_with n (without_first (eqb i) ids) hs) →
        without_key i (numbered x.0 (own_ids x.1) ++ ids_with n ids hs) ≡ numbered x.0 (own_ids x.1) ++ ids_with n (without_first (eqb i) ids) hs
    there true a is e rest = absurd (
        let p : ◌≡◌ {A = Option ℕ} (Some x.0) (Some n) = sym (in_block i x.0 (own_ids x.1) (ids_with n ids hs) a) ∙ e in
        let r : x.0 ≡ n = cc in
        let s : eqb n x.0 ≡ true = ap (eqb n) r ∙ same n in
        let v = sym is ∙ s in cc)
    there false a is e rest = behind_block i x.0 (own_ids x.1) (ids_with n ids hs) a ∙ ap (λ ys. numbered x.0 (own_ids x.1) ++ ys) (rest (sym (past_block i x.0 (own_ids x.1) (ids_with n ids hs) a) ∙ e))

    by : (b : Bool) → eqb n x.0 ≡ b → keyed i (cond b (numbered n ids ++ ids_of hs) (numbered x.0 (own_ids x.1) ++ ids_with n ids hs)) ≡ Some n →
        (keyed i (ids_with n ids hs) ≡ Some n → without_key i (ids_with n ids hs) ≡ ids_with n (without_first (eqb i) ids) hs) →
        without_key i (cond b (numbered n ids ++ ids_of hs) (numbered x.0 (own_ids x.1) ++ ids_with n ids hs)) ≡
        cond b (numbered n (without_first (eqb i) ids) ++ ids_of hs) (numbered x.0 (own_ids x.1) ++ ids_with n (without_first (eqb i) ids) hs)
    by true is e rest = here (has i ids) refl e (eqb-true n x.0 is)
    by false is e rest = there (has i (own_ids x.1)) refl is e rest

-- all of them are
pub all_taken : (n : ℕ) (ids : List ℕ) (hs : List (ℕ × DeviceView)) (end : ℕ) (old new : List (ℕ × ℕ)) → RiseWithin 0 end hs → old ≡ ids_with n ids hs → Forgets n ids old new → new ≡ ids_with n [] hs
all_taken n [] hs end old new h is f = f ∙ is
all_taken n (i ∷ ids) hs end old new h is f =
    let first : without_first (eqb i) (i ∷ ids) ≡ ids = rw (same i) refl in
    let one : without_key i old ≡ ids_with n ids hs = ap (without_key i) is ∙ id_taken i n (i ∷ ids) hs 0 end h (ap (keyed i) (sym is) ∙ f.0) ∙ ap (λ (js : List ℕ). ids_with n js hs) first in
    all_taken n ids hs end (without_key i old) new h one f.1

-- the ids of a device without an interface
interfaces_without : (i : ℕ) (os : List ObjectView) → without_first (eqb i) (map (λ o. o.id) os) ≡ map (λ o. o.id) (without_first (λ o. nat_eq o.id i) os)
interfaces_without i [] = refl
interfaces_without i (o ∷ os) = by (eqb i o.id) refl (interfaces_without i os)
  where
    turned : (b : Bool) → eqb i o.id ≡ b → eqb o.id i ≡ b
    turned true e = ap (eqb o.id) (eqb-true i o.id e) ∙ same o.id
    turned false e = grind (arith, nat_tests)

    by : (b : Bool) → eqb i o.id ≡ b → without_first (eqb i) (map (λ o. o.id) os) ≡ map (λ o. o.id) (without_first (λ o. nat_eq o.id i) os) →
        cond b (map (λ o. o.id) os) (o.id ∷ without_first (eqb i) (map (λ o. o.id) os)) ≡ map (λ o. o.id) (cond (eqb o.id i) os (o ∷ without_first (λ o. nat_eq o.id i) os))
    by true e rest = rw (turned true e) refl
    by false e rest = rw (turned false e) (ap (λ ys. o.id ∷ ys) rest)

pub own_without : (i : ℕ) (d : DeviceView) → eqb i d.device.proxy.id ≡ false → without_first (eqb i) (own_ids d) ≡ own_ids (without_interface i d)
own_without i d e = rw e (ap (λ ys. d.device.proxy.id ∷ ys) (interfaces_without i d.interfaces))

-- one more is forgotten
pub forgets_more : (n : ℕ) (ids : List ℕ) (i : ℕ) (a b c : List (ℕ × ℕ)) → Forgets n ids a b → keyed i b ≡ Some n → c ≡ without_key i b → Forgets n (ids ++ i ∷ []) a c
forgets_more n [] i a b c f k e = (ap (keyed i) (sym f) ∙ k, e ∙ ap (without_key i) f)
forgets_more n (j ∷ ids) i a b c f k e = (f.0, forgets_more n ids i (without_key j a) b c f.1 k e)

-- the ids of one interface more
pub ids_more : (os : List ObjectView) (k : ℕ) (o : ObjectView) → k < length os → o ≡ get_or os k o → map (λ o. o.id) (take (k + 1) os) ≡ map (λ o. o.id) (take k os) ++ o.id ∷ []
ids_more os k o lt is = ap (map (λ o. o.id)) (take_more os k o lt) ∙ map-append (λ o. o.id) (take k os) (get_or os k o ∷ []) ∙ ap (λ (x : ObjectView). map (λ o. o.id) (take k os) ++ x.id ∷ []) (sym is)

-- ---- the devices that stay when a seat goes

ids_append : (xs ys : List (ℕ × ℕ)) (kept : ℕ → Bool) → filter (λ e. kept e.1) (xs ++ ys) ≡ filter (λ e. kept e.1) xs ++ filter (λ e. kept e.1) ys
ids_append xs ys kept = filter-append (λ e. kept e.1) xs ys

block_kept : (kept : ℕ → Bool) (n : ℕ) (ids : List ℕ) → kept n ≡ true → filter (λ e. kept e.1) (numbered n ids) ≡ numbered n ids
block_kept kept n [] e = refl
block_kept kept n (i ∷ ids) e = rw e (ap (λ ys. (i, n) ∷ ys) (block_kept kept n ids e))

block_gone : (kept : ℕ → Bool) (n : ℕ) (ids : List ℕ) → kept n ≡ false → filter (λ e. kept e.1) (numbered n ids) ≡ []
block_gone kept n [] e = refl
block_gone kept n (i ∷ ids) e = rw e (block_gone kept n ids e)

-- each number is kept as its device is
abbrev Agree : (ℕ → Bool) → (DeviceView → Bool) → List (ℕ × DeviceView) → Type 0
Agree kept p [] = Unit {0}
Agree kept p (x ∷ hs) = (kept x.0 ≡ p x.1) × Agree kept p hs

ids_kept_by : (kept : ℕ → Bool) (p : DeviceView → Bool) (hs : List (ℕ × DeviceView)) → Agree kept p hs → filter (λ e. kept e.1) (ids_of hs) ≡ ids_of (filter (λ x. p x.1) hs)
ids_kept_by kept p [] h = refl
ids_kept_by kept p (x ∷ hs) h = ids_append (numbered x.0 (own_ids x.1)) (ids_of hs) kept ∙ by (p x.1) refl (ids_kept_by kept p hs h.1)
  where
    by : (b : Bool) → p x.1 ≡ b → filter (λ e. kept e.1) (ids_of hs) ≡ ids_of (filter (λ x. p x.1) hs) →
        filter (λ e. kept e.1) (numbered x.0 (own_ids x.1)) ++ filter (λ e. kept e.1) (ids_of hs) ≡ ids_of (cond b (x ∷ filter (λ x. p x.1) hs) (filter (λ x. p x.1) hs))
    by true e rest = rw (block_kept kept x.0 (own_ids x.1) (h.0 ∙ e)) (ap (λ ys. numbered x.0 (own_ids x.1) ++ ys) rest)
    by false e rest = rw (block_gone kept x.0 (own_ids x.1) (h.0 ∙ e)) rest

agree_past : (seat k : ℕ) (d : DeviceView) (hs gs : List (ℕ × DeviceView)) (from end : ℕ) → RiseWithin from end gs → k + 1 ≤ from → Agree (λ n. stays seat (keyed n hs)) (λ d. not (is_of_seat seat d)) gs → Agree (λ n. stays seat (keyed n ((k, d) ∷ hs))) (λ d. not (is_of_seat seat d)) gs
agree_past seat k d hs [] from end h le a = tt
agree_past seat k d hs (x ∷ gs) from end h le a = (
  ap (λ (b : Bool). stays seat (cond b (Some d) (keyed x.0 hs))) (differ x.0 k (omega (arith, le, h.0))) ∙ a.0,
  agree_past seat k d hs gs (x.0 + 1) end h.1 (omega (arith, le, h.0)) a.1,
)

agrees : (seat : ℕ) (hs : List (ℕ × DeviceView)) (from end : ℕ) → RiseWithin from end hs → Agree (λ n. stays seat (keyed n hs)) (λ d. not (is_of_seat seat d)) hs
agrees seat [] from end h = tt
agrees seat (x ∷ hs) from end h = (
  ap (λ (b : Bool). stays seat (cond b (Some x.1) (keyed x.0 hs))) (same x.0),
  agree_past seat x.0 x.1 hs hs (x.0 + 1) end h.1 (omega arith) (agrees seat hs (x.0 + 1) end h.1),
)

pub ids_stay : (seat : ℕ) (hs : List (ℕ × DeviceView)) (from end : ℕ) → RiseWithin from end hs → filter (λ e. stays seat (keyed e.1 hs)) (ids_of hs) ≡ ids_of (filter (λ x. not (is_of_seat seat x.1)) hs)
ids_stay seat hs from end h = ids_kept_by (λ n. stays seat (keyed n hs)) (λ d. not (is_of_seat seat d)) hs (agrees seat hs from end h)
