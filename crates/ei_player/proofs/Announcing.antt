-- The interfaces of a device, announced one after another.
use Rattle.std.proofs.Common.{◌≡◌, ℕ, zero, suc, ◌+◌, ◌≤◌, ◌<◌, Bool, true, false, cond, eqb, List, [], ◌∷◌, ◌++◌, length, map, take, Option, Some, None, refl, sym, ap, subst, ◌∙◌, arith}
use Rattle.std.specs.Prelude.{slice_get, get_or}
use Rattle.std.specs.List.{filter_map}
use Rattle.std.proofs.lemmas.Bool.{eqb-true}
use Rattle.std.proofs.lemmas.Bool.Decides.{nat_tests}
use Rattle.std.proofs.lemmas.List.{append-nil, length-append}
use Rattle.ei_spec.specs.declared.interface.KnownInterface.{KnownInterface}
use Rattle.ei_spec.specs.declared.interface.KnownInterface.TheVariants as known
use Rattle.ei_spec.specs.Interface.{ObjectView, Known}
use Rattle.ei_types.specs.Capability.{capability_list, bit_of, interface_of, has_bit}
use Rattle.ei_types.specs.declared.capability.DeviceCapability.{DeviceCapability}
use Rattle.ei_backend.specs.Table.{found}
use Rattle.ei_backend.specs.Backend.{BackendView}
use Rattle.ei_backend.proofs.Objects.{get_with}
use Rattle.ei_session.specs.Devices.{interfaces_of}
use Rattle.ei_session.proofs.Choices.{not_both}
use Rattle.ei_player.specs.Objects.{IsAt, MayHear, Announces, with_peer}

-- the interface of a capability, where the mask has it
abbrev pub one_of : ℕ → DeviceCapability → Option KnownInterface
one_of mask one = cond (has_bit mask (bit_of one)) (Some (interface_of one)) None

-- the interfaces of the first capabilities
abbrev pub first_of : ℕ → ℕ → List KnownInterface
first_of mask at = filter_map (one_of mask) (take at capability_list)

pub all_of : (mask : ℕ) → first_of mask 8 ≡ interfaces_of mask
unfolding interfaces_of
all_of mask = refl

-- ---- one more object

pub at_new : (b : BackendView) (id : ℕ) (k : KnownInterface) (v : ℕ) → IsAt k id (found (with_peer b id k v).table id)
at_new b id k v =
    let same : eqb id id ≡ true = grind arith in
    let o : ObjectView = record { id = id; interface = Known k; version = v; client_side = b.table.client } in
    let there : found (with_peer b id k v).table id ≡ Some o = get_with b.table.objects id id o ∙ rw same refl in
    subst (IsAt k id) {x = Some o} (sym there) (refl, refl)

pub kept : (b : BackendView) (id other : ℕ) (k : KnownInterface) (v : ℕ) → eqb other id ≡ false → found (with_peer b id k v).table other ≡ found b.table other
kept b id other k v far = get_with b.table.objects id other _ ∙ rw far refl

far_below : (a b : ℕ) → a < b → eqb a b ≡ false
far_below a b lt = grind (arith, nat_tests, lt)

pub device_told : (b : BackendView) (device v : ℕ) → Announces device [] b (with_peer b device known.Device v)
device_told b device v = record {
  device_is = at_new b device known.Device v;
  interfaces_are = λ k i h. absurd cc;
  below = λ id lt. kept b device id known.Device v (far_below id device lt);
  next = omega arith;
  client = refl;
  same = refl;
}

-- what is at a place of a longer list
snoc_get : (is : List KnownInterface) (i : KnownInterface) (k : ℕ) (x : KnownInterface) → slice_get (is ++ (i ∷ [])) k ≡ Some x → (k ≡ length is → ⊥) → slice_get is k ≡ Some x
snoc_get [] i zero x h far = absurd (far refl)
snoc_get [] i (suc k) x h far = absurd cc
snoc_get (y ∷ is) i zero x h far = h
snoc_get (y ∷ is) i (suc k) x h far = snoc_get is i k x h (λ e. far (ap suc e))

snoc_last : (is : List KnownInterface) (i : KnownInterface) (k : ℕ) (x : KnownInterface) → slice_get (is ++ (i ∷ [])) k ≡ Some x → k ≡ length is → i ≡ x
snoc_last [] i zero x h e = cc
snoc_last [] i (suc k) x h e = absurd cc
snoc_last (y ∷ is) i zero x h e = absurd (omega (arith, e))
snoc_last (y ∷ is) i (suc k) x h e = snoc_last is i k x h (omega (arith, e))

module _ (device : ℕ) (is : List KnownInterface) (i : KnownInterface) (v : ℕ) (old now : BackendView) (a : Announces device is old now) where
  told_at : (k : ℕ) (x : KnownInterface) (b : Bool) → eqb k (length is) ≡ b → slice_get (is ++ (i ∷ [])) k ≡ Some x → IsAt x (device + 1 + k) (found (with_peer now (device + 1 + length is) i v).table (device + 1 + k))
  told_at k x true e h =
      let place : k ≡ length is = eqb-true k (length is) e in
      let one = snoc_last is i k x h place in
      rw (place, ← one) (at_new now (device + 1 + length is) i v)
  told_at k x false e h =
      let far : eqb (device + 1 + k) (device + 1 + length is) ≡ false = grind (arith, nat_tests, e) in
      subst (IsAt x (device + 1 + k)) (sym (kept now (device + 1 + length is) (device + 1 + k) i v far)) (a.interfaces_are k x (snoc_get is i k x h (λ same. let q : eqb k (length is) ≡ true = grind (arith, nat_tests, same) in not_both (eqb k (length is)) q e)))

  pub interface_told : Announces device (is ++ (i ∷ [])) old (with_peer now (device + 1 + length is) i v)
  interface_told = record {
    device_is = subst (IsAt known.Device device) (sym (kept now (device + 1 + length is) device i v (far_below device (device + 1 + length is) (omega arith)))) a.device_is;
    interfaces_are = λ k x h. told_at k x (eqb k (length is)) refl h;
    below = λ id lt. kept now (device + 1 + length is) id i v (far_below id (device + 1 + length is) (omega (arith, lt))) ∙ a.below id lt;
    next = let long = length-append is (i ∷ []) in omega (arith, long);
    client = a.client;
    same = a.same;
  }

-- ---- the loop

take_more : (xs : List DeviceCapability) (at : ℕ) (x : DeviceCapability) → slice_get xs at ≡ Some x → take (at + 1) xs ≡ take at xs ++ (x ∷ [])
take_more [] at x h = absurd cc
take_more (y ∷ ys) zero x h = let same : y ≡ x = cc in ap (λ z. z ∷ []) same
take_more (y ∷ ys) (suc at) x h = let e : suc at + 1 ≡ suc (at + 1) = omega arith in rw e (ap (λ (l : List DeviceCapability). y ∷ l) (take_more ys at x h))

filter_more : (mask : ℕ) (xs : List DeviceCapability) (x : DeviceCapability) (b : Bool) → has_bit mask (bit_of x) ≡ b → filter_map (one_of mask) (xs ++ (x ∷ [])) ≡ filter_map (one_of mask) xs ++ cond b (interface_of x ∷ []) []
filter_more mask [] x true e = rw e refl
filter_more mask [] x false e = rw e refl
filter_more mask (y ∷ ys) x b e = by (has_bit mask (bit_of y)) refl (filter_more mask ys x b e)
  where
    by : (c : Bool) → has_bit mask (bit_of y) ≡ c → filter_map (one_of mask) (ys ++ (x ∷ [])) ≡ filter_map (one_of mask) ys ++ cond b (interface_of x ∷ []) [] →
        filter_map (one_of mask) ((y ∷ ys) ++ (x ∷ [])) ≡ filter_map (one_of mask) (y ∷ ys) ++ cond b (interface_of x ∷ []) []
    by true f next = rw f (ap (λ (l : List KnownInterface). interface_of y ∷ l) next)
    by false f next = rw f next

first_more : (mask at : ℕ) (x : DeviceCapability) (b : Bool) → slice_get capability_list at ≡ Some x → has_bit mask (bit_of x) ≡ b → first_of mask (at + 1) ≡ first_of mask at ++ cond b (interface_of x ∷ []) []
first_more mask at x b h e = ap (filter_map (one_of mask)) (take_more capability_list at x h) ∙ filter_more mask (take at capability_list) x b e

filter_few : (mask : ℕ) (xs : List DeviceCapability) → length (filter_map (one_of mask) xs) ≤ length xs
filter_few mask [] = omega arith
filter_few mask (x ∷ xs) = by (has_bit mask (bit_of x)) refl (filter_few mask xs)
  where
    by : (c : Bool) → has_bit mask (bit_of x) ≡ c → length (filter_map (one_of mask) xs) ≤ length xs → length (filter_map (one_of mask) (x ∷ xs)) ≤ suc (length xs)
    by true f le = rw f (omega (arith, le))
    by false f le = rw f (omega (arith, le))

take_few : (xs : List DeviceCapability) (at : ℕ) → length (take at xs) ≤ at
take_few [] zero = omega arith
take_few [] (suc at) = omega arith
take_few (x ∷ xs) zero = omega arith
take_few (x ∷ xs) (suc at) = let le = take_few xs at in omega (arith, le)

got : (xs : List DeviceCapability) (at : ℕ) (d : DeviceCapability) → at < length xs → slice_get xs at ≡ Some (get_or xs at d)
got [] at d lt = absurd (omega (arith, lt))
got (x ∷ xs) zero d lt = refl
got (x ∷ xs) (suc at) d lt = got xs at d (omega (arith, lt))

-- the device and its interfaces of the first capabilities were announced
pub record ToldSoFar (device mask at next : ℕ) (old now : BackendView) : Type 0 where
  pub announces : Announces device (first_of mask at) old now
  pub next_is : next ≡ device + 1 + length (first_of mask at)

pub told_none : (device mask v : ℕ) (b : BackendView) → ToldSoFar device mask 0 (device + 1) b (with_peer b device known.Device v)
told_none device mask v b = record { announces = device_told b device v; next_is = omega arith }

module _ (device mask at next : ℕ) (old now : BackendView) (t : ToldSoFar device mask at next old now) where
  pub hears : MayHear device (device + 8) old → at < 8 → MayHear next next now
  hears h lt =
      let few = filter_few mask (take at capability_list) in
      let some = take_few capability_list at in
      let is = t.next_is in
      let peer = t.announces.next in
      let last = h.last in
      record { client = t.announces.client ∙ h.client; next = omega (arith, is, peer); last = omega (arith, is, few, some, lt, last) }

  pub told_one : (x : DeviceCapability) (v : ℕ) → slice_get capability_list at ≡ Some x → has_bit mask (bit_of x) ≡ true → ToldSoFar device mask (at + 1) (next + 1) old (with_peer now next (interface_of x) v)
  told_one x v h e =
      let more = first_more mask at x true h e in
      let long = length-append (first_of mask at) (interface_of x ∷ []) in
      let is = t.next_is in
      record {
        announces = subst (λ (n : ℕ). Announces device (first_of mask (at + 1)) old (with_peer now n (interface_of x) v)) (sym is) (subst (λ (l : List KnownInterface). Announces device l old (with_peer now (device + 1 + length (first_of mask at)) (interface_of x) v)) (sym more) (interface_told device (first_of mask at) (interface_of x) v old now t.announces));
        next_is = rw more (omega (arith, is, long));
      }

  pub told_same : (x : DeviceCapability) → slice_get capability_list at ≡ Some x → has_bit mask (bit_of x) ≡ false → ToldSoFar device mask (at + 1) next old now
  told_same x h e =
      let more = first_more mask at x false h e ∙ append-nil (first_of mask at) in
      record { announces = subst (λ (l : List KnownInterface). Announces device l old now) (sym more) t.announces; next_is = rw more t.next_is }

  -- by the place of the capability in the list
  pub told_placed : (d : DeviceCapability) (v : ℕ) → at < 8 → has_bit mask (bit_of (get_or capability_list at d)) ≡ true → ToldSoFar device mask (at + 1) (next + 1) old (with_peer now next (interface_of (get_or capability_list at d)) v)
  told_placed d v lt e = told_one (get_or capability_list at d) v (got capability_list at d lt) e

  pub kept_placed : (d : DeviceCapability) → at < 8 → has_bit mask (bit_of (get_or capability_list at d)) ≡ false → ToldSoFar device mask (at + 1) next old now
  kept_placed d lt e = told_same (get_or capability_list at d) (got capability_list at d lt) e

  pub told_all : at ≡ 8 → Announces device (interfaces_of mask) old now
  told_all e = subst (λ (l : List KnownInterface). Announces device l old now) (ap (first_of mask) e ∙ all_of mask) t.announces
