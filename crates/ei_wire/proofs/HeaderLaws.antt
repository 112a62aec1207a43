-- A header and its sixteen bytes are one.
use Rattle.std.proofs.Common.{◌≡◌, ℕ, zero, suc, ◌^◌, ◌<◌, List, ◌++◌, length, take, drop, refl, sym, ap, ◌∙◌, arith}
use Rattle.std.specs.Prelude.{slice_index}
use Rattle.std.proofs.lemmas.List.{take_at, drop_at, take_all, take-append-drop, length-drop, drop-drop, get_or_past}
use Rattle.ei_spec.specs.Message.{header, le4, le8, of_le4, of_le8, IsBytes}
use Rattle.ei_spec.proofs.Numbers.{len4, len8, back4, back8, to4, to8}
use Rattle.ei_wire.specs.declared.header.Header.{Header}
use Rattle.ei_wire.specs.Header.{header_of, header_bytes}

pub header_again : (h : Header) → h.object_id < 2 ^ 64 → h.length < 2 ^ 32 → h.opcode < 2 ^ 32 → header_of (header_bytes h) ≡ h
unfolding header
header_again h id length opcode =
    let a = le8 h.object_id in
    let b = le4 h.length in
    let c = le4 h.opcode in
    let d8 : drop 8 (a ++ (b ++ c)) ≡ b ++ c = drop_at a (b ++ c) 8 (len8 h.object_id) in
    let d12 : drop 12 (a ++ (b ++ c)) ≡ c = sym (drop-drop 4 8 (a ++ (b ++ c))) ∙ ap (drop 4) d8 ∙ drop_at b c 4 (len4 h.length) in
    let id-is : of_le8 (take 8 (a ++ (b ++ c))) ≡ h.object_id = ap of_le8 (take_at a (b ++ c) 8 (len8 h.object_id)) ∙ back8 h.object_id id in
    let len-is : of_le4 (take 4 (drop 8 (a ++ (b ++ c)))) ≡ h.length = ap (λ (x : List ℕ). of_le4 (take 4 x)) d8 ∙ ap of_le4 (take_at b c 4 (len4 h.length)) ∙ back4 h.length length in
    let op-is : of_le4 (take 4 (drop 12 (a ++ (b ++ c)))) ≡ h.opcode = ap (λ (x : List ℕ). of_le4 (take 4 x)) d12 ∙ ap of_le4 (take_all 4 c (omega (arith, len4 h.opcode))) ∙ back4 h.opcode opcode in
    rw (id-is, len-is, op-is) refl

pub last_part : (bytes : List ℕ) → length bytes ≡ 16 → drop 4 (drop 8 bytes) ≡ take 4 (drop 12 bytes)
last_part bytes len = drop-drop 4 8 bytes ∙ sym (take_all 4 (drop 12 bytes) (omega (arith, len, length-drop 12 bytes)))

pub bytes_again : (bytes : List ℕ) (h : Header) → le8 h.object_id ≡ take 8 bytes → le4 h.length ≡ take 4 (drop 8 bytes) → le4 h.opcode ≡ drop 4 (drop 8 bytes) → header_bytes h ≡ bytes
unfolding header
bytes_again bytes h id length opcode =
    let back : take 4 (drop 8 bytes) ++ drop 4 (drop 8 bytes) ≡ drop 8 bytes = take-append-drop 4 (drop 8 bytes) in
    rw (id, length, opcode, back) (take-append-drop 8 bytes)

-- ---- a number from its bytes

each_of_4 : (bytes : List ℕ) → length bytes ≡ 4 → slice_index bytes 0 < 256 → slice_index bytes 1 < 256 → slice_index bytes 2 < 256 → slice_index bytes 3 < 256 → IsBytes bytes
each_of_4 bytes len p q r s zero = p
each_of_4 bytes len p q r s (suc zero) = q
each_of_4 bytes len p q r s (suc (suc zero)) = r
each_of_4 bytes len p q r s (suc (suc (suc zero))) = s
each_of_4 bytes len p q r s (suc (suc (suc (suc i)))) = rw (get_or_past bytes (suc (suc (suc (suc i)))) 0 (omega (arith, len))) (omega arith)

pub word_back : (bytes : List ℕ) (n : ℕ) → length bytes ≡ 4 → n ≡ of_le4 bytes → slice_index bytes 0 < 256 → slice_index bytes 1 < 256 → slice_index bytes 2 < 256 → slice_index bytes 3 < 256 → le4 n ≡ bytes
word_back bytes n len e p q r s = ap le4 e ∙ to4 bytes len (each_of_4 bytes len p q r s)

each_of_8 : (bytes : List ℕ) → length bytes ≡ 8 → slice_index bytes 0 < 256 → slice_index bytes 1 < 256 → slice_index bytes 2 < 256 → slice_index bytes 3 < 256 → slice_index bytes 4 < 256 → slice_index bytes 5 < 256 → slice_index bytes 6 < 256 → slice_index bytes 7 < 256 → IsBytes bytes
each_of_8 bytes len p q r s t u v w zero = p
each_of_8 bytes len p q r s t u v w (suc zero) = q
each_of_8 bytes len p q r s t u v w (suc (suc zero)) = r
each_of_8 bytes len p q r s t u v w (suc (suc (suc zero))) = s
each_of_8 bytes len p q r s t u v w (suc (suc (suc (suc zero)))) = t
each_of_8 bytes len p q r s t u v w (suc (suc (suc (suc (suc zero))))) = u
each_of_8 bytes len p q r s t u v w (suc (suc (suc (suc (suc (suc zero)))))) = v
each_of_8 bytes len p q r s t u v w (suc (suc (suc (suc (suc (suc (suc zero))))))) = w
each_of_8 bytes len p q r s t u v w (suc (suc (suc (suc (suc (suc (suc (suc i)))))))) = rw (get_or_past bytes (suc (suc (suc (suc (suc (suc (suc (suc i)))))))) 0 (omega (arith, len))) (omega arith)

pub long_back : (bytes : List ℕ) (n : ℕ) → length bytes ≡ 8 → n ≡ of_le8 bytes → slice_index bytes 0 < 256 → slice_index bytes 1 < 256 → slice_index bytes 2 < 256 → slice_index bytes 3 < 256 → slice_index bytes 4 < 256 → slice_index bytes 5 < 256 → slice_index bytes 6 < 256 → slice_index bytes 7 < 256 → le8 n ≡ bytes
long_back bytes n len e p q r s t u v w = ap le8 e ∙ to8 bytes len (each_of_8 bytes len p q r s t u v w)
