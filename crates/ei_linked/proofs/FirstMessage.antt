-- The message at the front of some bytes, by its header.
use Rattle.std.proofs.Common.{◌≡◌, ℕ, ◌-◌, List, ◌++◌, length, take, drop, sym, ap, ◌∙◌, arith}
use Rattle.std.proofs.lemmas.List.{take-take, drop-take, length-take-le, length-drop}
use Rattle.ei_spec.specs.Message.{Raw, IsLawful, bytes_of, size, front, size_at, of_le4, of_le8}
use Rattle.ei_spec.proofs.FrontLaws.{IsWhole, whole_is, front_again}
use Rattle.ei_wire.specs.declared.header.Header.{Header}
use Rattle.ei_wire.specs.Header.{header_of}
use Rattle.ei_linked.specs.Written.{IsFirst}

pub whole : (m : Raw) (rest bytes : List ℕ) → IsLawful m → bytes ≡ bytes_of m ++ rest → IsWhole (size_at bytes) bytes m rest
whole m rest bytes law e = whole_is bytes m rest (ap front e ∙ front_again m rest law)

-- the size that the header says is that of the message
pub size_is : (m : Raw) (rest bytes : List ℕ) → IsWhole (size_at bytes) bytes m rest → size_at bytes ≡ size m
size_is m rest bytes w =
    let n = size_at bytes in
    let body : take (n - 16) (drop 16 bytes) ≡ m.body = ap (λ (r : Raw). r.body) w.message in
    let long = length-drop 16 bytes in
    let cut : length (take (n - 16) (drop 16 bytes)) ≡ n - 16 = length-take-le (n - 16) (drop 16 bytes) (omega (arith, long, w.long, w.low)) in
    omega (arith, ap length body, cut, w.low)

-- the header of the first sixteen bytes
first_eight : (bytes : List ℕ) → take 8 (take 16 bytes) ≡ take 8 bytes
first_eight bytes = take-take 8 16 bytes (omega arith)

next_four : (bytes : List ℕ) → take 4 (drop 8 (take 16 bytes)) ≡ take 4 (drop 8 bytes)
next_four bytes = ap (take 4) (drop-take 8 8 bytes) ∙ take-take 4 8 (drop 8 bytes) (omega arith)

last_four : (bytes : List ℕ) → take 4 (drop 12 (take 16 bytes)) ≡ take 4 (drop 12 bytes)
last_four bytes = ap (take 4) (drop-take 12 4 bytes) ∙ take-take 4 4 (drop 12 bytes) (omega arith)

-- the header says the size
pub length_is : (m : Raw) (rest bytes chunk : List ℕ) (h : Header) → chunk ≡ take 16 bytes → h ≡ header_of chunk → IsLawful m → bytes ≡ bytes_of m ++ rest → h.length ≡ size m
length_is m rest bytes chunk h c e law is =
    ap (λ (x : Header). x.length) e ∙ ap (λ (l : List ℕ). of_le4 (take 4 (drop 8 l))) c ∙ ap of_le4 (next_four bytes) ∙ size_is m rest bytes (whole m rest bytes law is)

pub is_first : (m : Raw) (rest bytes chunk : List ℕ) (h : Header) → chunk ≡ take 16 bytes → h ≡ header_of chunk → IsLawful m → bytes ≡ bytes_of m ++ rest → IsFirst m h (take (h.length - 16) (drop 16 bytes))
is_first m rest bytes chunk h c e law is =
    let w = whole m rest bytes law is in
    let n = length_is m rest bytes chunk h c e law is in
    let s = size_is m rest bytes w in
    record {
      id = ap (λ (x : Header). x.object_id) e ∙ ap (λ (l : List ℕ). of_le8 (take 8 l)) c ∙ ap of_le8 (first_eight bytes) ∙ ap (λ (r : Raw). r.id) w.message;
      length = n;
      opcode = ap (λ (x : Header). x.opcode) e ∙ ap (λ (l : List ℕ). of_le4 (take 4 (drop 12 l))) c ∙ ap of_le4 (last_four bytes) ∙ ap (λ (r : Raw). r.opcode) w.message;
      body = ap (λ (k : ℕ). take (k - 16) (drop 16 bytes)) (n ∙ sym s) ∙ ap (λ (r : Raw). r.body) w.message;
    }
