-- The bytes that stand for a value.
use Rattle.std.specs.Prelude.{◌≡◌, ℕ, ◌+◌, List, [], ◌∷◌, ◌++◌, length, Some, slice_get}
use Rattle.std.specs.Int.{w32, to_le_bytes}
use Rattle.ei_spec.specs.declared.handle.Handle.{Handle as Descriptor}
use Rattle.ei_spec.specs.Value.{Kind, Value, Letters, Fd, written, padding, IsOf, HasSpelling, handles_of}
use Rattle.ei_spec.specs.Reading.{Unread}

-- The bytes stand for the value. Behind a text come any closing byte and any padding.
abbrev pub Spells : Value → List ℕ → Type 0
Spells (Letters t) bytes = (tail : List ℕ) × (length tail ≡ 1 + padding (length t + 1)) × (bytes ≡ to_le_bytes w32 (length t + 1) ++ (t ++ tail))
Spells v bytes = bytes ≡ written v

-- a handle is the next of the queue
abbrev pub IsNext : Value → List Descriptor → ℕ → Type 0
IsNext (Fd h) handles taken = slice_get handles taken ≡ Some h
IsNext v handles taken = Unit {0}

-- what is left begins with a value of the kind, and goes on with the rest
pub record Begins (k : Kind) (v : Value) (s t : Unread) : Type 0 where
  pub of : IsOf k v
  pub short : HasSpelling v
  pub text : List ℕ
  pub spelled : Spells v text
  pub parts : s.bytes ≡ text ++ t.bytes
  pub next : IsNext v s.handles s.taken
  pub same : t.handles ≡ s.handles
  pub taken : t.taken ≡ s.taken + length (handles_of v)

-- what is left begins with the value as it is written, and goes on with the rest
pub record Follows (v : Value) (s t : Unread) : Type 0 where
  pub short : HasSpelling v
  pub parts : s.bytes ≡ written v ++ t.bytes
  pub next : IsNext v s.handles s.taken
  pub same : t.handles ≡ s.handles
  pub taken : t.taken ≡ s.taken + length (handles_of v)

-- what is left begins with a value of each kind, one after another
abbrev pub AllBegin : List Kind → List Value → Unread → Unread → Type 0
AllBegin [] [] s t = s ≡ t
AllBegin (k ∷ ks) (v ∷ vs) s t = (m : Unread) × Begins k v s m × AllBegin ks vs m t
AllBegin ks vs s t = ⊥
