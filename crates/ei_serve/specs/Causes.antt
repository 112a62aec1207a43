-- What the answers of a session say of the outside.
use Rattle.std.specs.Prelude.{◌≡◌, ℕ, ◌≤◌, [], length, take, Some, Result, Ok, Err}
use Rattle.ei_spec.specs.Piece.{Piece}
use Rattle.ei_spec.specs.Message.{bytes_of}
use Rattle.ei_backend.specs.Outside.{SinkView, with_more}
use Rattle.ei_backend.specs.Outgoing.{IsPutOf}
use Rattle.ei_serve.specs.Steps.{bytes_only}
use Rattle.ei_session.specs.Replies.{greeting}
use Rattle.ei_types.specs.declared.error.Error.{Error}
use Rattle.ei_types.specs.declared.error.Error.TheVariants as error

-- A sink that told what it held has the greeting behind that. At each call it was put what was left of the greeting.
pub record Greeted (old new : SinkView) : Type 0 where
  pub told : (held : Piece) → old.taken ≡ Some held → new.taken ≡ Some (with_more (bytes_of greeting) [] held)
  pub puts : IsPutOf (bytes_only (bytes_of greeting)) old.puts new.puts
  pub wants : old.wants ≤ new.wants

-- or only the front of the greeting
pub record GreetedInPart (old new : SinkView) : Type 0 where
  pub told : (held : Piece) → old.taken ≡ Some held → (n : ℕ) × (n ≤ length (bytes_of greeting)) × (new.taken ≡ Some (with_more (take n (bytes_of greeting)) [] held))
  pub puts : IsPutOf (bytes_only (bytes_of greeting)) old.puts new.puts

-- an error that says nothing of the outside
abbrev pub IsInner : Error → Type 0
IsInner error.ReadFault = ⊥
IsInner error.WriteFault = ⊥
IsInner e = Unit {0}

abbrev pub NoFault : {T : Type 0} → Result T Error → Type 0
NoFault (Ok x) = Unit {0}
NoFault (Err e) = IsInner e

-- how a start may be refused
abbrev pub RefusesToStart : Error → Type 0
RefusesToStart error.WriteFault = Unit {0}
RefusesToStart error.NoMemory = Unit {0}
RefusesToStart e = ⊥
