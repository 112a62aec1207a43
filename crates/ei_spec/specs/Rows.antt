-- What a row of the table of messages says, and what is looked up in its rows. The table itself is in `Table`.
use Rattle.std.specs.Prelude.{ℕ, Bool, true, false, List, [], ◌∷◌, Option, Some, None, ◌==◌, if◌then◌else◌}
use Rattle.std.specs.Str.{bytes_eq}
use Rattle.ei_spec.specs.Value.{Kind, New, Value, Word, Long, Letters}
use Rattle.ei_spec.specs.declared.interface.KnownInterface.{KnownInterface}

-- what a message announces
pub data Announces : Type 0 where
  Nothing : Announces
  Fixed : KnownInterface → Announces
  -- an object of the interface that the text names
  Named : Announces

pub record Row : Type 0 where
  pub name : List ℕ
  pub kinds : List Kind
  pub announces : Announces
  pub destroys : Bool

abbrev pub row : List ℕ → List Kind → Row
row name kinds = record { name = name; kinds = kinds; announces = Nothing; destroys = false }

abbrev pub destructor : List ℕ → List Kind → Row
destructor name kinds = record { name = name; kinds = kinds; announces = Nothing; destroys = true }

abbrev pub announcing : List ℕ → List Kind → Announces → Row
announcing name kinds what = record { name = name; kinds = kinds; announces = what; destroys = false }

-- a destructor that announces too
abbrev pub handing_over : List ℕ → List Kind → Announces → Row
handing_over name kinds what = record { name = name; kinds = kinds; announces = what; destroys = true }

-- the row of an opcode
abbrev pub row_at : ℕ → List (ℕ × Row) → Option Row
row_at opcode [] = None
row_at opcode (r ∷ rs) = if opcode == r.0 then Some r.1 else row_at opcode rs

-- the row of a name, with its opcode
abbrev pub row_named : List ℕ → List (ℕ × Row) → Option (ℕ × Row)
row_named name [] = None
row_named name (r ∷ rs) = if bytes_eq name r.1.name then Some r else row_named name rs

-- the new id among the arguments of these kinds
abbrev pub new_id : List Kind → List Value → ℕ
new_id (New ∷ kinds) (Long n ∷ values) = n
new_id (kind ∷ kinds) (value ∷ values) = new_id kinds values
new_id kinds values = 0

-- the version of what is announced: the last argument
abbrev pub version_of : List Value → ℕ
version_of (Word n ∷ []) = n
version_of (value ∷ values) = version_of values
version_of [] = 0

-- the name among the arguments
abbrev pub name_in : List Value → List ℕ
name_in (Letters t ∷ values) = t
name_in (value ∷ values) = name_in values
name_in [] = []
