-- Each interface has a place of its own in the list of all.
use Rattle.std.proofs.Common.{◌≡◌, ℕ, ◌+◌, ◌<◌, ◌≤◌, leb, Some, refl, sym, ap, ◌∙◌, arith}
use Rattle.std.specs.Prelude.{slice_index_or, slice_get}
use Rattle.std.specs.Str.{bytes_eq}
use Rattle.std.proofs.lemmas.Bool.{leb-true}
use Rattle.std.proofs.lemmas.Option.{slice_get-get_or}
use Rattle.std.proofs.lemmas.Slice.Eq.{bytes_eq-Decides}
use Rattle.ei_spec.specs.declared.interface.KnownInterface.{KnownInterface}
use Rattle.ei_spec.specs.declared.interface.KnownInterface.TheVariants as known
use Rattle.ei_spec.specs.declared.limits.TheConstants.{INTERFACES}
use Rattle.ei_spec.specs.Interface.{name_of, place_of, the_interfaces}
use Rattle.ei_spec.proofs.EachInterface.{of_each}
use Rattle.ei_spec.proofs.NameLaws.{same_interface}

-- what stands at this place
abbrev at : ℕ → KnownInterface
at n = slice_index_or the_interfaces n known.Handshake

pub of_place : (i : KnownInterface) → slice_index_or the_interfaces (place_of i) known.Handshake ≡ i
of_place i = same_interface (at (place_of i)) i ((bytes_eq-Decides _ _).0 (of_each (λ (k : KnownInterface). bytes_eq (name_of (at (place_of k))) (name_of k)) refl i))

pub one_place : (i k : KnownInterface) → place_of i ≡ place_of k → i ≡ k
one_place i k e = sym (of_place i) ∙ ap at e ∙ of_place k

pub within : (i : KnownInterface) → place_of i < INTERFACES
within i =
    let low : 1 + place_of i ≤ INTERFACES = leb-true (1 + place_of i) INTERFACES (of_each (λ (k : KnownInterface). leb (1 + place_of k) INTERFACES) refl i) in
    omega (arith, low)

pub stands_at : (i : KnownInterface) → slice_get the_interfaces (place_of i) ≡ Some i
stands_at i = slice_get-get_or the_interfaces (place_of i) known.Handshake (within i) ∙ ap Some (of_place i)
