-- What a function that reads the arguments of a row says of what reading gives.
use Rattle.std.specs.Prelude.{◌≡◌, ℕ, List, [], Result, Ok, Err, IfSome}
use Rattle.ei_spec.specs.Value.{Kind, Value}
use Rattle.ei_spec.specs.Reading.{ArgumentStop, Unread, all_at}
use Rattle.ei_wire.specs.declared.error.ParseError.{ParseError}
use Rattle.ei_wire.specs.Gives.{fault_of}

-- what a function returned, seen by view, with so many handles taken, is what reading gives, unless memory ran out
abbrev pub ReadsArguments : {X Y : Type 0} → (X → Y) → ℕ → Result X ParseError → Result Y ArgumentStop → Type 0
ReadsArguments view taken (Ok x) want = want ≡ Ok (view x)
ReadsArguments view taken (Err e) want = IfSome (fault_of e) (λ f. want ≡ Err (f, taken))

-- reading the arguments of these kinds gives these values, and no byte is left
pub record IsWhole (kinds : List Kind) (values : List Value) (old new : Unread) : Type 0 where
  pub read : all_at kinds old ≡ Ok (values, new)
  pub whole : new.bytes ≡ []
