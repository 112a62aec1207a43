-- The two laws of each kind.
use Rattle.std.proofs.Common.{◌≡◌, ◌+◌, length, Ok, Err, refl, append_assoc}
use Rattle.std.specs.Prelude.{replicate}
use Rattle.std.proofs.lemmas.List.{length-replicate}
use Rattle.std.specs.Int.{w32, to_le_bytes}
use Rattle.ei_spec.specs.Value.{Kind, Value, Word, Long, Signed, SignedLong, Letters, Null, Fd, written, padding, IsOf}
use Rattle.ei_spec.specs.Spelling.{Spells, Begins, Follows}
use Rattle.ei_spec.specs.Reading.{Unread, Fault, read}
use Rattle.ei_spec.proofs.Again.{again}

-- what is written is a spelling
pub Spells-written : (v : Value) → Spells v (written v)
Spells-written (Letters t) = (replicate (1 + padding (length t + 1)) 0, length-replicate (1 + padding (length t + 1)) 0, append_assoc (to_le_bytes w32 (length t + 1)) t (replicate (1 + padding (length t + 1)) 0))
Spells-written (Word n) = refl
Spells-written (Long n) = refl
Spells-written (Signed z) = refl
Spells-written (SignedLong z) = refl
Spells-written Null = refl
Spells-written (Fd h) = refl

pub written_again : (k : Kind) (v : Value) (s t : Unread) → IsOf k v → Follows v s t → read k s ≡ Ok (v, t)
written_again k v s t of f = again k v s t (record { of = of; short = f.short; text = written v; spelled = Spells-written v; parts = f.parts; next = f.next; same = f.same; taken = f.taken })

pub refused : (k : Kind) (v : Value) (s t : Unread) (f : Fault) → read k s ≡ Err f → Begins k v s t → ⊥
refused k v s t f e b = let h = again k v s t b in cc
