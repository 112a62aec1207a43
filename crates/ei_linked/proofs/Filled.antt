-- Values that fit a row are of its kinds as they go out, with the next own id where a new one stands.
use Rattle.std.proofs.Common.{◌≡◌, ℕ, ◌<◌, ◌^◌, Bool, true, false, ◌||◌, List, [], ◌∷◌, ◌++◌, map, refl, sym, ap, subst, ◌∙◌}
use Rattle.std.specs.List.{list_any, flat_map}
use Rattle.std.proofs.lemmas.Bool.{and_parts}
use Rattle.std.proofs.lemmas.List.{map-append}
use Rattle.ei_spec.specs.Interface.{named_as, name_of}
use Rattle.ei_spec.specs.Value.{Kind, U32, I32, U64, I64, Float, Text, Nullable, Handle, New, Choice, OpenChoice}
use Rattle.ei_spec.specs.Value.{Value, Word, Long, Signed, Letters, Null, Fd, IsOf}
use Rattle.ei_spec.specs.Arguments.{AreOf}
use Rattle.ei_spec.specs.Rows.{Announces, Nothing, Fixed, Named, new_id}
use Rattle.ei_spec.proofs.NameLaws.{name_text}
use Rattle.ei_wire.proofs.InterfaceNames as names
use Rattle.ei_ends.specs.Sent.{new_by}
use Rattle.ei_values.specs.declared.value.Value.{Value as Stored}
use Rattle.ei_values.specs.declared.value.Value.TheVariants as stored
use Rattle.ei_values.specs.Stored.{value_view, fits_kind, all_fit, fits_row, fills, IsLawful, AreLawful}
use Rattle.ei_linked.specs.Asked.{IsNext}
use Rattle.ei_linked.proofs.TableNews.{is_new, has_new}

-- a value that fits a kind goes out as one value, which is of that kind
record IsFilled (kind : Kind) (next : ℕ) (v : Stored) : Type 0 where
  pub value : Value
  pub is : map value_view (fills next v) ≡ value ∷ []
  pub kind_is : IsOf kind value
  pub new : is_new kind ≡ true → value ≡ Long next

one : (kind : Kind) (v : Stored) (next : ℕ) → next < 2 ^ 64 → IsLawful v → fits_kind kind v ≡ true → IsFilled kind next v
one U32 (stored.Uint32 n) next lt law e = record { value = Word n; is = refl; kind_is = law; new = λ f. absurd cc }
one I32 (stored.Int32 z) next lt law e = record { value = Signed z; is = refl; kind_is = law; new = λ f. absurd cc }
one U64 (stored.Uint64 n) next lt law e = record { value = Long n; is = refl; kind_is = law; new = λ f. absurd cc }
one Float (stored.Float n) next lt law e = record { value = Word n; is = refl; kind_is = law; new = λ f. absurd cc }
one Text (stored.Text t) next lt law e = record { value = Letters t; is = refl; kind_is = law; new = λ f. absurd cc }
one Nullable (stored.Text t) next lt law e = record { value = Letters t; is = refl; kind_is = law; new = λ f. absurd cc }
one Nullable stored.NullText next lt law e = record { value = Null; is = refl; kind_is = tt; new = λ f. absurd cc }
one Handle (stored.Handle h) next lt law e = record { value = Fd h; is = refl; kind_is = tt; new = λ f. absurd cc }
one New stored.New next lt law e = record { value = Long next; is = refl; kind_is = lt; new = λ _. refl }
one (Choice name values) (stored.Uint32 n) next lt law e = record { value = Word n; is = refl; kind_is = (law, e); new = λ f. absurd cc }
one OpenChoice (stored.Uint32 n) next lt law e = record { value = Word n; is = refl; kind_is = law; new = λ f. absurd cc }
one kind v next lt law e = absurd cc

-- the values as they go out
abbrev out : ℕ → List Stored → List Value
out next values = map value_view (flat_map (fills next) values)

out_more : (next : ℕ) (v : Stored) (vs : List Stored) (value : Value) → map value_view (fills next v) ≡ value ∷ [] → out next (v ∷ vs) ≡ value ∷ out next vs
out_more next v vs value e = map-append value_view (fills next v) (flat_map (fills next) vs) ∙ ap (λ (l : List Value). l ++ out next vs) e

behind_other : (k : Kind) (v : Value) (ks : List Kind) (vs : List Value) → is_new k ≡ false → new_id (k ∷ ks) (v ∷ vs) ≡ new_id ks vs
behind_other U32 v ks vs e = refl
behind_other I32 v ks vs e = refl
behind_other U64 v ks vs e = refl
behind_other I64 v ks vs e = refl
behind_other Float v ks vs e = refl
behind_other Text v ks vs e = refl
behind_other Nullable v ks vs e = refl
behind_other Handle v ks vs e = refl
behind_other New v ks vs e = absurd cc
behind_other (Choice n l) v ks vs e = refl
behind_other OpenChoice v ks vs e = refl

only_new : (k : Kind) → is_new k ≡ true → k ≡ New
only_new New e = refl
only_new k e = absurd cc

pub all_of : (kinds : List Kind) (values : List Stored) (next : ℕ) → next < 2 ^ 64 → AreLawful values → all_fit kinds values ≡ true → AreOf kinds (out next values)
all_of [] [] next lt law e = tt
all_of [] (v ∷ vs) next lt law e = absurd cc
all_of (k ∷ ks) [] next lt law e = absurd cc
all_of (k ∷ ks) (v ∷ vs) next lt law e =
    let parts = and_parts (fits_kind k v) (all_fit ks vs) e in
    let f = one k v next lt law.0 parts.0 in
    subst (λ (l : List Value). AreOf (k ∷ ks) l) (sym (out_more next v vs f.value f.is)) (f.kind_is, all_of ks vs next lt law.1 parts.1)

pub id_is : (kinds : List Kind) (values : List Stored) (next : ℕ) → next < 2 ^ 64 → AreLawful values → all_fit kinds values ≡ true → list_any is_new kinds ≡ true → new_id kinds (out next values) ≡ next
id_is [] values next lt law e any = absurd cc
id_is (k ∷ ks) [] next lt law e any = absurd cc
id_is (k ∷ ks) (v ∷ vs) next lt law e any =
    let parts = and_parts (fits_kind k v) (all_fit ks vs) e in
    let f = one k v next lt law.0 parts.0 in
    ap (new_id (k ∷ ks)) (out_more next v vs f.value f.is) ∙ at (is_new k) refl f.value f.new parts.1 any (λ fit more. id_is ks vs next lt law.1 fit more)
  where
    at : (b : Bool) → is_new k ≡ b → (value : Value) → (is_new k ≡ true → value ≡ Long next) → all_fit ks vs ≡ true → (is_new k || list_any is_new ks) ≡ true → (all_fit ks vs ≡ true → list_any is_new ks ≡ true → new_id ks (out next vs) ≡ next) → new_id (k ∷ ks) (value ∷ out next vs) ≡ next
    at true is value new fit any rest =
        ap (λ (x : Value). new_id (k ∷ ks) (x ∷ out next vs)) (new is) ∙ ap (λ (j : Kind). new_id (j ∷ ks) (Long next ∷ out next vs)) (only_new k is)
    at false is value new fit any rest =
        behind_other k value ks (out next vs) is ∙ rest fit (ap (λ (b : Bool). b || list_any is_new ks) (sym is) ∙ any)

-- the same for a row
pub row_of_kinds : (a : Announces) (kinds : List Kind) (values : List Stored) (next : ℕ) → next < 2 ^ 64 → AreLawful values → has_new a kinds ≡ true → fits_row a kinds values ≡ true → AreOf kinds (out next values)
row_of_kinds Nothing kinds values next lt law has e = all_of kinds values next lt law e
row_of_kinds (Fixed k) kinds values next lt law has e = all_of kinds values next lt law e
row_of_kinds Named (New ∷ Text ∷ kinds) (stored.NewInterface k ∷ values) next lt law has e = (lt, (name_text k, all_of kinds values next lt law.1 e))
row_of_kinds Named kinds values next lt law has e = absurd cc

pub next_new : (a : Announces) (kinds : List Kind) (values : List Stored) (next : ℕ) → next < 2 ^ 64 → AreLawful values → has_new a kinds ≡ true → fits_row a kinds values ≡ true → IsNext next (new_by a kinds (out next values))
next_new Nothing kinds values next lt law has e = tt
next_new (Fixed k) kinds values next lt law has e = (id_is kinds values next lt law e has, (k, refl))
next_new Named (New ∷ Text ∷ kinds) (stored.NewInterface k ∷ values) next lt law has e = (refl, (k, ap (named_as (name_of k)) (names.named k)))
next_new Named kinds values next lt law has e = absurd cc
