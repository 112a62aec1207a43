-- What a call answers to C.
use Rattle.std.specs.Prelude.{◌≡◌, ◌≢◌, ℕ, nat_lt, List, ◌++◌, length, drop, Option, Some, None, IsSome, Result, Ok, Err, if◌then◌else◌}
use Rattle.reis_server.specs.declared.server.CallError.{CallError}
use Rattle.reis_server.specs.declared.server.CallError.TheVariants as call_error
use Rattle.reis_eis.specs.declared.call_error.CallError.{CallError as Refusal}
use Rattle.reis_eis.specs.declared.call_error.CallError.TheVariants as refusal
use Rattle.reis_c.specs.Numbers.{OK, NO_MEMORY, OVER, EMPTY, TOO_LONG, TOO_MANY_HANDLES, NOTHING, NO_ROOM, NOT_UNSENT}
use Rattle.reis_c.specs.Numbers.{CAPABILITIES, NOT_CONNECTED, GONE, WRONG_ROLE, NO_KEYBOARD, MESSAGE_TOO_LONG, IDS_EXHAUSTED}

-- the number of what a call of the server answers
abbrev pub answer_number : Result Unit CallError → ℕ
answer_number (Ok u) = OK
answer_number (Err call_error.Over) = OVER
answer_number (Err call_error.Empty) = EMPTY
answer_number (Err call_error.TooLong) = TOO_LONG
answer_number (Err call_error.TooManyHandles) = TOO_MANY_HANDLES
answer_number (Err call_error.NotUnsent) = NOT_UNSENT

-- the number of why a call of a connection is refused
abbrev pub refusal_number : Refusal → ℕ
refusal_number refusal.Over = OVER
refusal_number refusal.NotConnected = NOT_CONNECTED
refusal_number refusal.Empty = EMPTY
refusal_number refusal.TooLong = TOO_LONG
refusal_number refusal.TooManyHandles = TOO_MANY_HANDLES
refusal_number refusal.NotUnsent = NOT_UNSENT
refusal_number refusal.Gone = GONE
refusal_number refusal.WrongRole = WRONG_ROLE
refusal_number refusal.Capabilities = CAPABILITIES
refusal_number refusal.NoKeyboard = NO_KEYBOARD
refusal_number refusal.MessageTooLong = MESSAGE_TOO_LONG
refusal_number refusal.IdsExhausted = IDS_EXHAUSTED
refusal_number refusal.NoMemory = NO_MEMORY

-- the number of what a call of a connection answers
abbrev pub outcome_number : Result Unit Refusal → ℕ
outcome_number (Ok u) = OK
outcome_number (Err e) = refusal_number e

-- the number of a reason to refuse a call, or of none
abbrev pub reason_number : Option Refusal → ℕ
reason_number None = OK
reason_number (Some e) = refusal_number e

-- a text is written whole, with its length, or not at all
pub record WritesText (text old : List ℕ) (answer size : ℕ) (new : List ℕ) : Type 0 where
  pub sized : size ≡ length text
  pub answers : answer ≡ (if nat_lt (length old) (length text) then NO_ROOM else OK)
  pub written : new ≡ (if nat_lt (length old) (length text) then old else text ++ drop (length text) old)

-- there is none to write
pub record WritesNone (old : List ℕ) (answer size : ℕ) (new : List ℕ) : Type 0 where
  pub sized : size ≡ 0
  pub answers : answer ≡ NOTHING
  pub kept : new ≡ old

-- the text is written, where there is one
abbrev pub Writes : Option (List ℕ) → List ℕ → ℕ → ℕ → List ℕ → Type 0
Writes None old answer size new = WritesNone old answer size new
Writes (Some text) old answer size new = WritesText text old answer size new

-- The same of a text that memory is wanted for: where that ran out there is a text, and it isn't written.
abbrev pub WritesMade : Option (List ℕ) → List ℕ → ℕ → ℕ → List ℕ → Type 0
WritesMade text old answer size new = (answer ≡ NO_MEMORY → IsSome text) × (answer ≢ NO_MEMORY → Writes text old answer size new)
