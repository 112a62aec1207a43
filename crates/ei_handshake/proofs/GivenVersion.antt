-- One version given to versions that stand in a row.
use Rattle.std.proofs.Common.{◌≡◌, ◌<◌, ℕ, Bool, true, false, cond, List, length, Option, Some, None, refl, sym, ap, ◌∙◌}
use Rattle.std.specs.Prelude.{slice_set}
use Rattle.std.specs.Cmp.Lexicographic.{nat_list_cmp_total}
use Rattle.std.specs.FinMap as finite
use Rattle.std.proofs.lemmas.List.{get_or-set_same, get_or-set_other}
use Rattle.std.proofs.lemmas.Slice.Eq.{bytes_eq-Decides}
use Rattle.std.proofs.lemmas.Map.Text.{is_eq-slice_cmp}
use Rattle.ei_spec.specs.declared.interface.KnownInterface.{KnownInterface}
use Rattle.ei_spec.specs.Interface.{name_of, place_of, the_interfaces}
use Rattle.ei_spec.proofs.NameLaws.{same_interface}
use Rattle.ei_spec.proofs.NameMaps.{is_key, key_is, no_key, get_known, get_unknown, only_known}
use Rattle.ei_spec.proofs.PlaceLaws.{one_place}
use Rattle.ei_session.proofs.Choices.{not_both}
use Rattle.ei_handshake.specs.Versions.{version_at, by_name}

module _ (xs : List (Option ℕ)) (k : KnownInterface) (v : ℕ) (fits : place_of k < length xs) where
  given : List (Option ℕ)
  given = slice_set xs (place_of k) (Some v)

  at_place : (i : KnownInterface) (b : Bool) → is_key (name_of i) (name_of k) ≡ b → version_at given i ≡ cond b (Some v) (version_at xs i)
  unfolding given
  at_place i true e =
      let same : i ≡ k = same_interface i k (key_is (name_of i) (name_of k) e) in
      ap (λ (x : KnownInterface). version_at (slice_set xs (place_of k) (Some v)) x) same ∙ get_or-set_same xs (place_of k) (Some v) None fits
  at_place i false e =
      get_or-set_other xs (place_of k) (place_of i) (Some v) None
      (λ p. not_both (is_key (name_of i) (name_of k)) (is_eq-slice_cmp (name_of i) (name_of k) ∙ (bytes_eq-Decides (name_of i) (name_of k)).1 (ap name_of (one_place i k p))) e)

  got : (q : List ℕ) → finite.get (finite.insert (by_name xs) (name_of k) v) q ≡ cond (is_key q (name_of k)) (Some v) (finite.get (by_name xs) q)
  got q = finite.get-insert nat_list_cmp_total (by_name xs) (name_of k) v q

  pub given_one : by_name (slice_set xs (place_of k) (Some v)) ≡ finite.insert (by_name xs) (name_of k) v
  unfolding given
  given_one =
      sym (only_known (version_at given) (finite.insert (by_name xs) (name_of k) v)
      (λ i. got (name_of i) ∙ ap (λ (o : Option ℕ). cond (is_key (name_of i) (name_of k)) (Some v) o) (get_known (version_at xs) i) ∙ sym (at_place i (is_key (name_of i) (name_of k)) refl))
      (λ q n. got q ∙ ap (λ (b : Bool). cond b (Some v) (finite.get (by_name xs) q)) (no_key q k n) ∙ get_unknown (version_at xs) q the_interfaces n))
