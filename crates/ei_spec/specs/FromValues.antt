-- What is made of the arguments of a message, where they are of these kinds.
use Rattle.std.specs.Prelude.{ℕ, List, [], ◌∷◌, Option, Some, None}
use Rattle.ei_spec.specs.Value.{Value, Word, Long, Letters}

-- the first that is there
abbrev pub first : {A : Type 0} → List (Option A) → Option A
first [] = None
first (Some a ∷ rest) = Some a
first (None ∷ rest) = first rest

-- no argument
abbrev pub none : {A : Type 0} → A → Option (List Value) → Option A
none made (Some []) = Some made
none made values = None

-- any arguments
abbrev pub whatever : {A : Type 0} → A → Option (List Value) → Option A
whatever made (Some values) = Some made
whatever made None = None

-- a number of four bytes
abbrev pub one : {A : Type 0} → (ℕ → A) → Option (List Value) → Option A
one make (Some (Word a ∷ [])) = Some (make a)
one make values = None

-- two of them
abbrev pub two : {A : Type 0} → (ℕ → ℕ → A) → Option (List Value) → Option A
two make (Some (Word a ∷ Word b ∷ [])) = Some (make a b)
two make values = None

-- three of them
abbrev pub three : {A : Type 0} → (ℕ → ℕ → ℕ → A) → Option (List Value) → Option A
three make (Some (Word a ∷ Word b ∷ Word c ∷ [])) = Some (make a b c)
three make values = None

-- a number of eight bytes
abbrev pub long : {A : Type 0} → (ℕ → A) → Option (List Value) → Option A
long make (Some (Long a ∷ [])) = Some (make a)
long make values = None

-- a text
abbrev pub text : {A : Type 0} → (List ℕ → A) → Option (List Value) → Option A
text make (Some (Letters t ∷ [])) = Some (make t)
text make values = None

-- a new id, and its version
abbrev pub new : {A : Type 0} → (ℕ → A) → Option (List Value) → Option A
new make (Some (Long id ∷ Word version ∷ [])) = Some (make id)
new make values = None
