-- A value of an enum is a number among its values.
use Rattle.std.proofs.Common.{◌≡◌, ℕ, true, false, eqb, if◌then◌else◌, List, Result, Ok, Err, refl, ap}
use Rattle.std.specs.List.{list_any}
use Rattle.std.specs.Int.{w32}
use Rattle.ei_spec.specs.Value.{U32, Choice, Value, Word}
use Rattle.ei_spec.specs.Reading.{Unread, Fault, InvalidVariant, Read, number_at, of_bytes, ◌>>=◌, read}

-- one of the values, where the number is read so
abbrev chosen : List ℕ → List ℕ → Result (ℕ × List ℕ) Fault → Result (ℕ × List ℕ) Fault
chosen name values r = r >>= λ n. if list_any (eqb n.0) values then Ok n else Err (InvalidVariant name n.0)

-- two reads of numbers that are equal are of one number
same_word : (x n : ℕ) (s t : Unread) → ◌≡◌ {A = Read} (Ok (Word x, s)) (Ok (Word n, t)) → x ≡ n
same_word x n s t e =
    let pair : ◌≡◌ {A = Value × Unread} (Word x, s) (Word n, t) = cc in
    let word : Word x ≡ Word n = ap (λ (p : Value × Unread). p.0) pair in
    cc

value_of : (name values : List ℕ) (number : ℕ) (s t : Unread) (r : Result (ℕ × List ℕ) Fault) → list_any (eqb number) values ≡ true → of_bytes Word s r ≡ Ok (Word number, t) → of_bytes Word s (chosen name values r) ≡ Ok (Word number, t)
value_of name values number s t (Err e) l h = absurd cc
value_of name values number s t (Ok x) l h =
    let same : x.0 ≡ number = same_word x.0 number _ t h in
    let listed : list_any (eqb x.0) values ≡ true = rw same l in
    rw listed h

unknown_of : (name values : List ℕ) (number : ℕ) (s t : Unread) (r : Result (ℕ × List ℕ) Fault) → list_any (eqb number) values ≡ false → of_bytes Word s r ≡ Ok (Word number, t) → of_bytes Word s (chosen name values r) ≡ Err (InvalidVariant name number)
unknown_of name values number s t (Err e) l h = absurd cc
unknown_of name values number s t (Ok x) l h =
    let same : x.0 ≡ number = same_word x.0 number _ t h in
    let unlisted : list_any (eqb x.0) values ≡ false = rw same l in
    rw (unlisted, same) refl

refused_of : (name values : List ℕ) (s : Unread) (f : Fault) (r : Result (ℕ × List ℕ) Fault) → of_bytes Word s r ≡ Err f → of_bytes Word s (chosen name values r) ≡ Err f
refused_of name values s f (Err e) h = h
refused_of name values s f (Ok x) h = absurd cc

pub value_read : (name values : List ℕ) (number : ℕ) (s t : Unread) → list_any (eqb number) values ≡ true → read U32 s ≡ Ok (Word number, t) → read (Choice name values) s ≡ Ok (Word number, t)
value_read name values number s t = value_of name values number s t (number_at w32 s.bytes)

pub unknown_refused : (name values : List ℕ) (number : ℕ) (s t : Unread) → list_any (eqb number) values ≡ false → read U32 s ≡ Ok (Word number, t) → read (Choice name values) s ≡ Err (InvalidVariant name number)
unknown_refused name values number s t = unknown_of name values number s t (number_at w32 s.bytes)

pub no_number : (name values : List ℕ) (s : Unread) (f : Fault) → read U32 s ≡ Err f → read (Choice name values) s ≡ Err f
no_number name values s f = refused_of name values s f (number_at w32 s.bytes)
