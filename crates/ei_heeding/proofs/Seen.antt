-- What is kept by ids, as look-ups: how a change of the map is seen.
use Rattle.std.proofs.Common.{◌≡◌, ℕ, Bool, true, false, cond, not, ◌&&◌, eqb, List, [], ◌∷◌, ◌++◌, Option, Some, None, refl, sym, ap, ◌∙◌, arith}
use Rattle.std.specs.Prelude.{map}
use Rattle.std.specs.Option.{option_map}
use Rattle.std.specs.Str.{bytes_eq}
use Rattle.std.specs.Ordering.{nat_cmp}
use Rattle.std.specs.Cmp.{nat_cmp_total, unsigned_tied}
use Rattle.std.specs.FinMap.{FinMap, get, insert, remove, get-insert, get-remove, get-retain_keys, nat_cmp-IsAntisymmetric}
use Rattle.std.proofs.lemmas.Bool.{eqb-true}
use Rattle.std.proofs.lemmas.Bool.Decides.{nat_tests}
use Rattle.ei_spec.specs.Interface.{bytes_of}
use Rattle.ei_by_id.specs.ById.{passes, kept}
use Rattle.ei_reported.specs.Changes.{unless_of, unless_named}
use Rattle.ei_following.specs.Core.{put, take_out, without_of, without_named}
use Rattle.ei_event.specs.Kept.{InterfaceView, is_other, is_of_other}
use Rattle.ei_event.specs.Core.{offer_of}

turned : (a b : ℕ) → eqb a b ≡ eqb b a
turned a b = grind (arith, nat_tests)

-- look-ups that answer alike are one
pub alike : {A : Type 0} (f g : ℕ → A) → ((q : ℕ) → f q ≡ g q) → f ≡ g
alike f g h = λ i q. h q i

module _ {X Y : Type 0} (see : X → Y) (m : FinMap nat_cmp X) where
  put_at : (k q : ℕ) (v : X) (b : Bool) → option_map see (cond b (Some v) (get m q)) ≡ cond b (Some (see v)) (option_map see (get m q))
  put_at k q v true = refl
  put_at k q v false = refl

  -- one that is put in
  pub seen_put : (k : ℕ) (v : X) → (λ q. option_map see (get (insert m k v) q)) ≡ put (λ q. option_map see (get m q)) k (see v)
  seen_put k v = alike _ _ (λ q. ap (option_map see) (get-insert nat_cmp_total m k v q ∙ ap (λ (b : Bool). cond b (Some v) (get m q)) (unsigned_tied q k ∙ turned q k)) ∙ put_at k q v (eqb k q))

  out_at : (q : ℕ) (b : Bool) → option_map see (cond b None (get m q)) ≡ cond b None (option_map see (get m q))
  out_at q true = refl
  out_at q false = refl

  -- one that is taken out
  pub seen_out : (k : ℕ) → (λ q. option_map see (get (remove m k) q)) ≡ take_out (λ q. option_map see (get m q)) k
  seen_out k = alike _ _ (λ q. ap (option_map see) (get-remove nat_cmp_total m k q ∙ ap (λ (b : Bool). cond b None (get m q)) (unsigned_tied q k ∙ turned q k)) ∙ out_at q (eqb k q))

-- one that is put in as it was
pub again : {Y : Type 0} (at : ℕ → Option Y) (k : ℕ) (y : Y) → at k ≡ Some y → put at k y ≡ at
again at k y e = alike _ _ (λ q. by q (eqb k q) refl)
  where
    by : (q : ℕ) (b : Bool) → eqb k q ≡ b → cond b (Some y) (at q) ≡ at q
    by q true t = sym e ∙ ap at (eqb-true k q t)
    by q false t = refl

-- one that is put in and taken out
pub in_and_out : {Y : Type 0} (at : ℕ → Option Y) (k : ℕ) (y : Y) → take_out (put at k y) k ≡ take_out at k
in_and_out at k y = alike _ _ (λ q. by q (eqb k q))
  where
    by : (q : ℕ) (b : Bool) → cond b None (cond b (Some y) (at q)) ≡ cond b None (at q)
    by q true = refl
    by q false = refl

-- ---- those that are kept

pub get_kept : {V : Type 0} (test : V → Bool) (m : FinMap nat_cmp V) (q : ℕ) → get (kept test m) q ≡ cond (passes test (get m q)) (get m q) None
get_kept test m q = get-retain_keys m (λ id. passes test (get m id)) q (λ x t. ap (λ (k : ℕ). passes test (get m k)) (sym (nat_cmp-IsAntisymmetric q x t)))

of_other_at : (device : ℕ) (o : Option InterfaceView) → option_map offer_of (cond (passes (is_of_other device) o) o None) ≡ unless_of device (option_map offer_of o)
of_other_at device None = refl
of_other_at device (Some i) = by (eqb device i.device)
  where
    by : (b : Bool) → option_map offer_of (cond (not b) (Some i) None) ≡ cond b None (Some (offer_of i))
    by true = refl
    by false = refl

-- without those of a device
pub seen_without_of : (m : FinMap nat_cmp InterfaceView) (device : ℕ) → (λ q. option_map offer_of (get (kept (is_of_other device) m) q)) ≡ without_of device (λ q. option_map offer_of (get m q))
seen_without_of m device = alike _ _ (λ q. ap (option_map offer_of) (get_kept (is_of_other device) m q) ∙ of_other_at device (get m q))

other_at : (device : ℕ) (name : List ℕ) (o : Option InterfaceView) → option_map offer_of (cond (passes (is_other device name) o) o None) ≡ unless_named device name (option_map offer_of o)
other_at device name None = refl
other_at device name (Some i) = by (eqb device i.device && bytes_eq name (bytes_of i.object.interface))
  where
    by : (b : Bool) → option_map offer_of (cond (not b) (Some i) None) ≡ cond b None (Some (offer_of i))
    by true = refl
    by false = refl

-- without that of a device by a name
pub seen_without_named : (m : FinMap nat_cmp InterfaceView) (device : ℕ) (name : List ℕ) → (λ q. option_map offer_of (get (kept (is_other device name) m) q)) ≡ without_named device name (λ q. option_map offer_of (get m q))
seen_without_named m device name = alike _ _ (λ q. ap (option_map offer_of) (get_kept (is_other device name) m q) ∙ other_at device name (get m q))

-- ---- lists

pub map_joined : {X Y : Type 0} (f : X → Y) (xs ys : List X) → map f (xs ++ ys) ≡ map f xs ++ map f ys
map_joined f [] ys = refl
map_joined f (x ∷ xs) ys = ap (λ (zs : _). f x ∷ zs) (map_joined f xs ys)
