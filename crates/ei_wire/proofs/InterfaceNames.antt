-- The names of the interfaces, both ways.
use Rattle.std.proofs.Common.{◌≡◌, ℕ, List, Some, Ok, refl}
use Rattle.ei_spec.specs.declared.interface.KnownInterface.{KnownInterface}
use Rattle.ei_spec.specs.Reading.{utf8}
use Rattle.ei_spec.specs.Interface.{name_of, known_of}
use Rattle.ei_spec.proofs.NameLaws.{known_again, called, name_text}

pub named : (k : KnownInterface) → known_of (name_of k) ≡ Some k
named = known_again

pub found : (n : List ℕ) (k : KnownInterface) → known_of n ≡ Some k → n ≡ name_of k
found = called

-- the name of an interface is a text
pub text_name : (k : KnownInterface) → utf8 (name_of k) ≡ Ok (name_of k)
text_name k = rw (name_text k) refl

-- letters that name an interface are that name, and a text
pub name_at_front : (n : List ℕ) (k : KnownInterface) → known_of n ≡ Some k → (n ≡ name_of k) × (utf8 n ≡ Ok (name_of k))
name_at_front n k is = let same = found n k is in (same, rw (same) (text_name k))
