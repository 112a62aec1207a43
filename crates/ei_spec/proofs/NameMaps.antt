-- What is found under a name in a map of interfaces, and that there is one such map.
use Rattle.std.proofs.Common.{◌≡◌, ◌≢◌, ℕ, ◌+◌, Bool, true, false, cond, ◌||◌, ◌⊎◌, inl, inr, List, [], ◌∷◌, length, filter, Option, Some, None, refl, sym, ap, ◌∙◌}
use Rattle.std.proofs.Common.{arith}
use Rattle.std.specs.Prelude.{is_some}
use Rattle.std.specs.Option.{option_or}
use Rattle.std.specs.List.{list_any}
use Rattle.std.specs.Ordering.{nat_cmp, eq_by_cmp}
use Rattle.std.specs.Str.{bytes_eq}
use Rattle.std.specs.Cmp.Lexicographic.{slice_cmp, nat_list_cmp_total}
use Rattle.std.specs.FinMap as finite
use Rattle.std.proofs.lemmas.Bool.{or_parts}
use Rattle.std.proofs.lemmas.Slice.Eq.{bytes_eq-Decides}
use Rattle.std.proofs.lemmas.Map.Text.{is_eq-slice_cmp}
use Rattle.ei_spec.specs.declared.interface.KnownInterface.{KnownInterface}
use Rattle.ei_spec.specs.declared.interface.KnownInterface.TheVariants as known
use Rattle.ei_spec.specs.Interface.{name_of, known_of, is_called, the_settled, the_interfaces}
use Rattle.ei_spec.specs.NameMap.{NameMap, map_of}
use Rattle.ei_spec.proofs.EachInterface.{of_each}
use Rattle.ei_spec.proofs.NameLaws.{apart, parts_of, called, known_again, same_interface}

-- ---- keys

-- whether a key is a name
abbrev pub is_key : List ℕ → List ℕ → Bool
is_key q name = eq_by_cmp (slice_cmp nat_cmp) q name

pub same_key : (q name : List ℕ) → is_key q name ≡ bytes_eq q name
same_key q name = is_eq-slice_cmp q name

pub key_is : (q name : List ℕ) → is_key q name ≡ true → q ≡ name
key_is q name e = (bytes_eq-Decides q name).0 (sym (same_key q name) ∙ e)

pub no_key : (q : List ℕ) (i : KnownInterface) → known_of q ≡ None → is_key q (name_of i) ≡ false
no_key q i n = by (is_key q (name_of i)) refl
  where
    by : (b : Bool) → is_key q (name_of i) ≡ b → b ≡ false
    by true e = absurd (let some : None ≡ Some i = sym n ∙ ap known_of (key_is q (name_of i) e) ∙ known_again i in cc)
    by false e = refl

-- ---- what is found under a name

-- what is found under a name among these interfaces
abbrev pub found_in : (KnownInterface → Option ℕ) → List ℕ → List KnownInterface → Option ℕ
found_in values q [] = None
found_in values q (i ∷ is) = cond (is_key q (name_of i)) (option_or (values i) (found_in values q is)) (found_in values q is)

one_choice : (b : Bool) (o : Option ℕ) → o ≡ cond b o o
one_choice true o = refl
one_choice false o = refl

pub get_in : (values : KnownInterface → Option ℕ) (q : List ℕ) (is : List KnownInterface) → finite.get (map_of values is) q ≡ found_in values q is
unfolding map_of
get_in values q [] = finite.get-empty (slice_cmp nat_cmp) q
get_in values q (i ∷ is) = by (values i) refl (get_in values q is)
  where
    by : (o : Option ℕ) → values i ≡ o → finite.get (map_of values is) q ≡ found_in values q is → finite.get (map_of values (i ∷ is)) q ≡ found_in values q (i ∷ is)
    by None e next = rw e (next ∙ one_choice (is_key q (name_of i)) (found_in values q is))
    by (Some v) e next = rw e (finite.get-insert nat_list_cmp_total (map_of values is) (name_of i) v q ∙ ap (λ (o : Option ℕ). cond (is_key q (name_of i)) (Some v) o) next)

or_same : (o p : Option ℕ) → (p ≡ o) ⊎ (p ≡ None) → option_or o p ≡ o
or_same (Some v) p h = refl
or_same None p (inl e) = e
or_same None p (inr e) = e

-- under an interface's name either what it has is found or nothing
its_own : (values : KnownInterface → Option ℕ) (i : KnownInterface) (is : List KnownInterface) → (found_in values (name_of i) is ≡ values i) ⊎ (found_in values (name_of i) is ≡ None)
its_own values i [] = inr refl
its_own values i (k ∷ ks) = by (is_key (name_of i) (name_of k)) refl (its_own values i ks)
  where
    by : (b : Bool) → is_key (name_of i) (name_of k) ≡ b → (found_in values (name_of i) ks ≡ values i) ⊎ (found_in values (name_of i) ks ≡ None) →
        (cond b (option_or (values k) (found_in values (name_of i) ks)) (found_in values (name_of i) ks) ≡ values i)
        ⊎ (cond b (option_or (values k) (found_in values (name_of i) ks)) (found_in values (name_of i) ks) ≡ None)
    by true e rest =
        let same : i ≡ k = same_interface i k (key_is (name_of i) (name_of k) e) in
        inl (ap (λ (x : KnownInterface). option_or (values x) (found_in values (name_of i) ks)) (sym same) ∙ or_same (values i) _ rest)
    by false e rest = rest

-- and what it has, where it is one of them
found_own : (values : KnownInterface → Option ℕ) (i : KnownInterface) (is : List KnownInterface) → list_any (is_called (name_of i)) is ≡ true → found_in values (name_of i) is ≡ values i
found_own values i [] h = absurd cc
found_own values i (k ∷ ks) h = by (is_key (name_of i) (name_of k)) (bytes_eq (name_of i) (name_of k)) refl (same_key (name_of i) (name_of k)) refl (λ rest. found_own values i ks rest)
  where
    by : (b c : Bool) → is_key (name_of i) (name_of k) ≡ b → is_key (name_of i) (name_of k) ≡ c → bytes_eq (name_of i) (name_of k) ≡ c → (list_any (is_called (name_of i)) ks ≡ true → found_in values (name_of i) ks ≡ values i) →
        cond b (option_or (values k) (found_in values (name_of i) ks)) (found_in values (name_of i) ks) ≡ values i
    by true c e f g next =
        let same : i ≡ k = same_interface i k (key_is (name_of i) (name_of k) e) in
        ap (λ (x : KnownInterface). option_or (values x) (found_in values (name_of i) ks)) (sym same) ∙ or_same (values i) _ (its_own values i ks)
    by false true e f g next = absurd (let both : false ≡ true = sym e ∙ f in cc)
    by false false e f g next =
        let rest : list_any (is_called (name_of i)) ks ≡ true = sym (ap (λ (b : Bool). b || list_any (is_called (name_of i)) ks) g) ∙ h in
        next rest

known_found : (values : KnownInterface → Option ℕ) (i : KnownInterface) → found_in values (name_of i) the_interfaces ≡ values i
known_found values i = found_own values i the_interfaces (of_each (λ (k : KnownInterface). list_any (is_called (name_of k)) the_interfaces) refl i)

unknown_found : (values : KnownInterface → Option ℕ) (q : List ℕ) (is : List KnownInterface) → known_of q ≡ None → found_in values q is ≡ None
unknown_found values q [] n = refl
unknown_found values q (i ∷ is) n = rw (no_key q i n) (unknown_found values q is n)

-- every interface but the handshake's is settled
is_settled : (i : KnownInterface) → i ≢ known.Handshake → list_any (is_called (name_of i)) the_settled ≡ true
is_settled i far = by (bytes_eq (name_of i) (name_of known.Handshake)) refl (of_each (λ (k : KnownInterface). list_any (is_called (name_of k)) the_interfaces) refl i)
  where
    by : (b : Bool) → bytes_eq (name_of i) (name_of known.Handshake) ≡ b → (b || list_any (is_called (name_of i)) the_settled) ≡ true → list_any (is_called (name_of i)) the_settled ≡ true
    by true e h = absurd (far (same_interface i known.Handshake ((bytes_eq-Decides (name_of i) (name_of known.Handshake)).0 e)))
    by false e h = h

-- ---- what the map has

pub get_known : (values : KnownInterface → Option ℕ) (i : KnownInterface) → finite.get (map_of values the_interfaces) (name_of i) ≡ values i
get_known values i = get_in values (name_of i) the_interfaces ∙ known_found values i

pub get_settled : (values : KnownInterface → Option ℕ) (i : KnownInterface) → i ≢ known.Handshake → finite.get (map_of values the_settled) (name_of i) ≡ values i
get_settled values i far = get_in values (name_of i) the_settled ∙ found_own values i the_settled (is_settled i far)

pub get_handshake : (values : KnownInterface → Option ℕ) → finite.get (map_of values the_settled) (name_of known.Handshake) ≡ None
get_handshake values = get_in values (name_of known.Handshake) the_settled

pub get_unknown : (values : KnownInterface → Option ℕ) (q : List ℕ) (is : List KnownInterface) → known_of q ≡ None → finite.get (map_of values is) q ≡ None
get_unknown values q is n = get_in values q is ∙ unknown_found values q is n

-- ---- there is one such map

-- maps that have the same under each interface's name, and nothing under others, are one
pub one_map : (m n : NameMap) → ((i : KnownInterface) → finite.get m (name_of i) ≡ finite.get n (name_of i)) → ((q : List ℕ) → known_of q ≡ None → finite.get m q ≡ None) → ((q : List ℕ) → known_of q ≡ None → finite.get n q ≡ None) → m ≡ n
one_map m n same u v = finite.same_map nat_list_cmp_total (finite.slice_cmp-IsAntisymmetric finite.nat_cmp-IsAntisymmetric) m n (λ q. at_name q (known_of q) refl)
  where
    at_name : (q : List ℕ) (o : Option KnownInterface) → known_of q ≡ o → finite.get m q ≡ finite.get n q
    at_name q None e = u q e ∙ sym (v q e)
    at_name q (Some i) e = let is = called q i e in ap (λ (x : List ℕ). finite.get m x) is ∙ same i ∙ ap (λ (x : List ℕ). finite.get n x) (sym is)

pub only_known : (values : KnownInterface → Option ℕ) (m : NameMap) → ((i : KnownInterface) → finite.get m (name_of i) ≡ values i) → ((q : List ℕ) → known_of q ≡ None → finite.get m q ≡ None) → m ≡ map_of values the_interfaces
only_known values m h u = one_map m (map_of values the_interfaces) (λ i. h i ∙ sym (get_known values i)) u (λ q n. get_unknown values q the_interfaces n)

pub only_settled : (values : KnownInterface → Option ℕ) (m : NameMap) → ((i : KnownInterface) → i ≢ known.Handshake → finite.get m (name_of i) ≡ values i) → finite.get m (name_of known.Handshake) ≡ None → ((q : List ℕ) → known_of q ≡ None → finite.get m q ≡ None) → m ≡ map_of values the_settled
only_settled values m h z u = one_map m (map_of values the_settled) (λ i. by i (bytes_eq (name_of i) (name_of known.Handshake)) refl) u (λ q n. get_unknown values q the_settled n)
  where
    by : (i : KnownInterface) (b : Bool) → bytes_eq (name_of i) (name_of known.Handshake) ≡ b → finite.get m (name_of i) ≡ finite.get (map_of values the_settled) (name_of i)
    by i true e =
        let same : name_of i ≡ name_of known.Handshake = (bytes_eq-Decides (name_of i) (name_of known.Handshake)).0 e in
        ap (λ (x : List ℕ). finite.get m x) same ∙ z ∙ sym (get_handshake values) ∙ ap (λ (x : List ℕ). finite.get (map_of values the_settled) x) (sym same)
    by i false e =
        let far : i ≢ known.Handshake = λ s. absurd (let both : true ≡ false = sym ((bytes_eq-Decides (name_of i) (name_of known.Handshake)).1 (ap name_of s)) ∙ e in cc) in
        h i far ∙ sym (get_settled values i far)

-- ---- how many there are

-- nothing is found under a name that none of these has
none_found : (values : KnownInterface → Option ℕ) (q : List ℕ) (is : List KnownInterface) → list_any (is_called q) is ≡ false → found_in values q is ≡ None
none_found values q [] h = refl
none_found values q (i ∷ is) h =
    let parts = or_parts (is_called q i) (list_any (is_called q) is) h in
    rw (same_key q (name_of i) ∙ parts.0) (none_found values q is parts.1)

len_in : (values : KnownInterface → Option ℕ) (is : List KnownInterface) → apart is ≡ true → finite.len (map_of values is) ≡ length (filter (λ i. is_some (values i)) is)
unfolding map_of
len_in values [] h = finite.len-empty (slice_cmp nat_cmp) ℕ
len_in values (i ∷ is) h = let parts = parts_of (list_any (is_called (name_of i)) is) (apart is) h in by (values i) refl parts.0 (len_in values is parts.1)
  where
    by : (o : Option ℕ) → values i ≡ o → list_any (is_called (name_of i)) is ≡ false → finite.len (map_of values is) ≡ length (filter (λ k. is_some (values k)) is) →
        finite.len (map_of values (i ∷ is)) ≡ length (filter (λ k. is_some (values k)) (i ∷ is))
    by None e far next = rw e next
    by (Some v) e far next =
        let new : finite.contains_key (map_of values is) (name_of i) ≡ false = ap is_some (get_in values (name_of i) is ∙ none_found values (name_of i) is far) in
        rw e (finite.len-insert nat_list_cmp_total (map_of values is) (name_of i) v ∙ ap (λ (b : Bool). cond b (finite.len (map_of values is)) (finite.len (map_of values is) + 1)) new ∙ omega (arith, next))

-- as many as interfaces that have something
pub len_known : (values : KnownInterface → Option ℕ) → finite.len (map_of values the_interfaces) ≡ length (filter (λ i. is_some (values i)) the_interfaces)
len_known values = len_in values the_interfaces refl
