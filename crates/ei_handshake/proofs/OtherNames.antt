-- The versions of names that no interface has, behind those of interfaces.
use Rattle.std.proofs.Common.{◌≡◌, ℕ, ◌+◌, Bool, true, false, cond, List, [], ◌∷◌, length, Option, Some, None, refl, sym, ap, ◌∙◌, arith}
use Rattle.std.specs.Prelude.{String, is_some}
use Rattle.std.specs.Option.{option_or}
use Rattle.std.specs.String.{string_bytes, string_cmp, string_cmp_total}
use Rattle.std.specs.Cmp.{eq_by_cmp_equiv}
use Rattle.std.specs.Cmp.Lexicographic.{nat_list_cmp_total, nat_list_eq_equiv}
use Rattle.std.specs.BTreeMap.{BTreeMap, is_at, get_by_text, Updates, IsOrdered}
use Rattle.std.specs.Map.{lookup, keys_of}
use Rattle.std.specs.List.Sorted.{IsStrictlySortedBy}
use Rattle.std.specs.FinMap as finite
use Rattle.std.proofs.lemmas.Map.{lookup-none}
use Rattle.std.proofs.lemmas.Map.Text.{text_cmp, btree_map_updates_text}
use Rattle.std.proofs.lemmas.Map.Keys.{IsDistinct-from_sorted}
use Rattle.std.proofs.lemmas.Map.Entries.{none_past_head}
use Rattle.ei_spec.specs.declared.interface.KnownInterface.{KnownInterface}
use Rattle.ei_spec.specs.Interface.{name_of, known_of, the_interfaces}
use Rattle.ei_spec.proofs.NameLaws.{called}
use Rattle.ei_spec.proofs.NameMaps.{is_key, same_key, key_is, no_key, get_known, get_unknown}
use Rattle.ei_handshake.specs.Versions.{VersionMap, version_at, by_name, with_names}

or_none : (o : Option ℕ) → option_or o None ≡ o
or_none None = refl
or_none (Some v) = refl

same : (m n : VersionMap) → ((q : List ℕ) → finite.get m q ≡ finite.get n q) → m ≡ n
same m n h = finite.same_map nat_list_cmp_total (finite.slice_cmp-IsAntisymmetric finite.nat_cmp-IsAntisymmetric) m n h

self_key : (q : List ℕ) → is_key q q ≡ true
self_key q = same_key q q ∙ nat_list_eq_equiv.refl q

module _ {Y : Type 0} where
  -- what these names have at one
  abbrev pub at : List ℕ → List (String Y × ℕ) → Option ℕ
  at q xs = lookup (is_at (text_cmp q)) xs

  pub get_with : (xs : List (String Y × ℕ)) (m : VersionMap) (q : List ℕ) → finite.get (with_names xs m) q ≡ option_or (at q xs) (finite.get m q)
  get_with [] m q = refl
  get_with (x ∷ xs) m q = finite.get-insert nat_list_cmp_total (with_names xs m) (string_bytes x.0) x.1 q ∙ by (is_key q (string_bytes x.0)) (get_with xs m q)
    where
      by : (b : Bool) → finite.get (with_names xs m) q ≡ option_or (at q xs) (finite.get m q) → cond b (Some x.1) (finite.get (with_names xs m) q) ≡ option_or (cond b (Some x.1) (at q xs)) (finite.get m q)
      by true e = refl
      by false e = e

  -- under the name of an interface there is what the interfaces have, and under another what the other names have
  pub get_among : (xs : List (String Y × ℕ)) (versions : List (Option ℕ)) (i : KnownInterface) → at (name_of i) xs ≡ None → finite.get (with_names xs (by_name versions)) (name_of i) ≡ version_at versions i
  get_among xs versions i n = get_with xs (by_name versions) (name_of i) ∙ ap (λ (o : Option ℕ). option_or o (finite.get (by_name versions) (name_of i))) n ∙ get_known (version_at versions) i

  pub get_other : (xs : List (String Y × ℕ)) (versions : List (Option ℕ)) (q : List ℕ) → known_of q ≡ None → finite.get (with_names xs (by_name versions)) q ≡ at q xs
  get_other xs versions q n = get_with xs (by_name versions) q ∙ ap (λ (o : Option ℕ). option_or (at q xs) o) (get_unknown (version_at versions) q the_interfaces n) ∙ or_none (at q xs)

  -- what an interface is given stands behind the other names
  pub put_among : (xs : List (String Y × ℕ)) (m : VersionMap) (n : List ℕ) (v : ℕ) → at n xs ≡ None → with_names xs (finite.insert m n v) ≡ finite.insert (with_names xs m) n v
  put_among xs m n v none = same _ _ (λ q. get_with xs (finite.insert m n v) q ∙ ap (λ (o : Option ℕ). option_or (at q xs) o) (finite.get-insert nat_list_cmp_total m n v q)
      ∙ by q (is_key q n) refl ∙ sym (finite.get-insert nat_list_cmp_total (with_names xs m) n v q))
    where
      by : (q : List ℕ) (b : Bool) → is_key q n ≡ b → option_or (at q xs) (cond b (Some v) (finite.get m q)) ≡ cond b (Some v) (finite.get (with_names xs m) q)
      by q true e = ap (λ (o : Option ℕ). option_or o (Some v)) (ap (λ (x : List ℕ). at x xs) (key_is q n e) ∙ none)
      by q false e = sym (get_with xs m q)

  pub found_after : (old new : BTreeMap (String Y) ℕ) (k : String Y) (v : ℕ) → Updates string_cmp old new k (Some v) → (q : List ℕ) → get_by_text new q ≡ cond (is_key q (string_bytes k)) (Some v) (get_by_text old q)
  found_after old new k v h q =
      btree_map_updates_text (string_bytes k) old new (Some v) h q
      ∙ ap (λ (b : Bool). cond b (Some v) (get_by_text old q)) (nat_list_eq_equiv.symm (string_bytes k) q ∙ sym (same_key q (string_bytes k)))

  -- what another name is given
  pub put_other : (old new : BTreeMap (String Y) ℕ) (k : String Y) (v : ℕ) (m : VersionMap) → Updates string_cmp old new k (Some v) → with_names new.entries m ≡ finite.insert (with_names old.entries m) (string_bytes k) v
  put_other old new k v m h = same _ _ (λ q. get_with new.entries m q ∙ ap (λ (o : Option ℕ). option_or o (finite.get m q)) (found_after old new k v h q)
      ∙ by q (is_key q (string_bytes k)) ∙ sym (finite.get-insert nat_list_cmp_total (with_names old.entries m) (string_bytes k) v q))
    where
      by : (q : List ℕ) (b : Bool) → option_or (cond b (Some v) (get_by_text old q)) (finite.get m q) ≡ cond b (Some v) (finite.get (with_names old.entries m) q)
      by q true = refl
      by q false = sym (get_with old.entries m q)

  -- and no interface has it
  pub still_none : (old new : BTreeMap (String Y) ℕ) (k : String Y) (v : ℕ) → Updates string_cmp old new k (Some v) → known_of (string_bytes k) ≡ None
      → ((i : KnownInterface) → get_by_text old (name_of i) ≡ None) → (i : KnownInterface) → get_by_text new (name_of i) ≡ None
  still_none old new k v h unknown none i =
      found_after old new k v h (name_of i)
      ∙ ap (λ (b : Bool). cond b (Some v) (get_by_text old (name_of i))) (same_key (name_of i) (string_bytes k) ∙ nat_list_eq_equiv.symm (name_of i) (string_bytes k) ∙ sym (same_key (string_bytes k) (name_of i)) ∙ no_key (string_bytes k) i unknown)
      ∙ none i

  -- ---- how many there are

  abbrev NoneIn : List (String Y × ℕ) → VersionMap → Type 0
  NoneIn xs m = (q : List ℕ) → is_some (at q xs) ≡ true → finite.get m q ≡ None

  tail_none : (x : String Y × ℕ) (xs : List (String Y × ℕ)) (m : VersionMap) → NoneIn (x ∷ xs) m → NoneIn xs m
  tail_none x xs m h q e = by (is_key q (string_bytes x.0)) refl
    where
      by : (b : Bool) → is_key q (string_bytes x.0) ≡ b → finite.get m q ≡ None
      by true k = h q (ap (λ (b : Bool). is_some (cond b (Some x.1) (at q xs))) k)
      by false k = h q (ap (λ (b : Bool). is_some (cond b (Some x.1) (at q xs))) k ∙ e)

  pub len_with : (xs : List (String Y × ℕ)) (m : VersionMap) → IsStrictlySortedBy string_cmp (keys_of xs) → NoneIn xs m → finite.len (with_names xs m) ≡ length xs + finite.len m
  unfolding IsStrictlySortedBy
  len_with [] m s h = omega arith
  len_with (x ∷ xs) m s h =
      let k = string_bytes x.0 in
      let gone : at k xs ≡ None = lookup-none (is_at (text_cmp k)) xs (none_past_head (eq_by_cmp_equiv string_cmp_total) x.0 x xs (IsDistinct-from_sorted string_cmp _ s) (self_key k)) in
      let absent : finite.get m k ≡ None = h k (ap (λ (b : Bool). is_some (cond b (Some x.1) (at k xs))) (self_key k)) in
      let new : finite.contains_key (with_names xs m) k ≡ false = ap is_some (get_with xs m k ∙ ap (λ (o : Option ℕ). option_or o (finite.get m k)) gone ∙ absent) in
      let next : finite.len (with_names xs m) ≡ length xs + finite.len m = len_with xs m s.1 (tail_none x xs m h) in
      finite.len-insert nat_list_cmp_total (with_names xs m) k x.1 ∙ ap (λ (b : Bool). cond b (finite.len (with_names xs m)) (finite.len (with_names xs m) + 1)) new ∙ omega (arith, next)

  none_in : (xs : List (String Y × ℕ)) (versions : List (Option ℕ)) → ((i : KnownInterface) → at (name_of i) xs ≡ None) → NoneIn xs (by_name versions)
  none_in xs versions none q e = by (known_of q) refl
    where
      by : (o : Option KnownInterface) → known_of q ≡ o → finite.get (by_name versions) q ≡ None
      by None n = get_unknown (version_at versions) q the_interfaces n
      by (Some i) n = absurd (let clash : false ≡ true = sym (ap is_some (ap (λ (x : List ℕ). at x xs) (called q i n) ∙ none i)) ∙ e in cc)

  pub len_both : (others : BTreeMap (String Y) ℕ) (versions : List (Option ℕ)) → IsOrdered string_cmp others → ((i : KnownInterface) → get_by_text others (name_of i) ≡ None)
      → finite.len (with_names others.entries (by_name versions)) ≡ length others.entries + finite.len (by_name versions)
  len_both others versions s none = len_with others.entries (by_name versions) s (none_in others.entries versions none)

  pub same_none : (old new : BTreeMap (String Y) ℕ) → new.entries ≡ old.entries → ((i : KnownInterface) → get_by_text old (name_of i) ≡ None) → (i : KnownInterface) → get_by_text new (name_of i) ≡ None
  same_none old new e none i = ap (at (name_of i)) e ∙ none i
