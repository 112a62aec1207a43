-- The bytes of arguments, one after another.
use Rattle.std.proofs.Common.{ℕ, zero, suc, ◌+◌, ◌≤◌, ◌<◌, get_or, List, [], ◌∷◌, ◌++◌, length, take, arith, length-append}
use Rattle.std.specs.Prelude.{replicate}
use Rattle.std.specs.Int.{w32, to_le_bytes}
use Rattle.ei_wire.specs.declared.arg.Arg.{Arg}
use Rattle.ei_spec.specs.Value.{Value, Word, Long, Signed, SignedLong, Letters, Null, Fd, written, HasSpelling, padding, text_bytes, handles_of}
use Rattle.ei_wire.specs.Gives.{value_of_arg}
use Rattle.ei_backend.specs.Outgoing.{args_body, args_handles}

-- a text is shorter than its bytes
short_text : (t : List ℕ) → length t ≤ length (text_bytes t)
short_text t = omega (arith, length-append (to_le_bytes w32 (length t + 1)) (t ++ replicate (1 + padding (length t + 1)) 0), length-append (to_le_bytes w32 (length t + 1) ++ t) (replicate (1 + padding (length t + 1)) 0), length-append (to_le_bytes w32 (length t + 1)) t)

-- a value whose bytes fit a message has a spelling
pub spelled_if : (v : Value) → length (written v) ≤ 1048560 → HasSpelling v
spelled_if (Letters t) h = omega (arith, h, short_text t)
spelled_if (Word n) h = tt
spelled_if (Long n) h = tt
spelled_if (Signed n) h = tt
spelled_if (SignedLong n) h = tt
spelled_if Null h = tt
spelled_if (Fd n) h = tt

-- the arguments before one, and that one, have no more bytes than all
pub next_le : (args : List Arg) (i : ℕ) (d : Arg) → i < length args → length (args_body (take i args)) + length (written (value_of_arg (get_or args i d))) ≤ length (args_body args)
next_le [] i d lt = absurd (omega (arith, lt))
next_le (a ∷ rest) zero d lt = omega (arith, length-append (written (value_of_arg a)) (args_body rest))
next_le (a ∷ rest) (suc i) d lt =
    let below : i < length rest = omega (arith, lt) in
    omega (arith, length-append (written (value_of_arg a)) (args_body (take i rest)), length-append (written (value_of_arg a)) (args_body rest), next_le rest i d below)

pub spelled_at : (args : List Arg) (i : ℕ) (d : Arg) → i < length args → length (args_body args) ≤ 1048560 → HasSpelling (value_of_arg (get_or args i d))
spelled_at args i d lt le = let h = next_le args i d lt in spelled_if (value_of_arg (get_or args i d)) (omega (arith, h))

-- the same of handles
pub next_handles_le : (args : List Arg) (i : ℕ) (d : Arg) → i < length args → length (args_handles (take i args)) + length (handles_of (value_of_arg (get_or args i d))) ≤ length (args_handles args)
next_handles_le [] i d lt = absurd (omega (arith, lt))
next_handles_le (a ∷ rest) zero d lt = omega (arith, length-append (handles_of (value_of_arg a)) (args_handles rest))
next_handles_le (a ∷ rest) (suc i) d lt =
    let below : i < length rest = omega (arith, lt) in
    omega (arith, length-append (handles_of (value_of_arg a)) (args_handles (take i rest)), length-append (handles_of (value_of_arg a)) (args_handles rest), next_handles_le rest i d below)
