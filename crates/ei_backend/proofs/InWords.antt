-- Numbers as words of 32 bits, and messages of words.
use Rattle.std.proofs.Common.{◌≡◌, ◌<◌, ◌≤◌, ℕ, zero, suc, ◌+◌, ◌*◌, ◌/◌, ◌%◌, List, [], ◌∷◌, ◌++◌, take, drop, length, get_or}
use Rattle.std.proofs.Common.{refl, ap, sym, ◌∙◌, append_assoc, length-append, add-one, arith, Option, Some, None, IfSome}
use Rattle.std.proofs.lemmas.List.{append-nil, take_at, length-take-le}
use Rattle.ei_spec.proofs.Numbers.{len4}
use Rattle.ei_spec.specs.Message.{header, bytes_of, le4, le8}
use Rattle.ei_wire.specs.declared.arg.Arg.{Arg}
use Rattle.ei_backend.specs.Outgoing.{args_body}
use Rattle.ei_backend.specs.Words.{word_bytes, of_words}

low_0 : (n : ℕ) → n % 4294967296 % 256 ≡ n % 256
low_0 n = omega arith

low_1 : (n : ℕ) → n % 4294967296 / 256 % 256 ≡ n / 256 % 256
low_1 n = omega arith

low_2 : (n : ℕ) → n % 4294967296 / 65536 % 256 ≡ n / 65536 % 256
low_2 n = omega arith

low_3 : (n : ℕ) → n % 4294967296 / 16777216 % 256 ≡ n / 16777216 % 256
low_3 n = omega arith

high_1 : (n : ℕ) → n / 4294967296 / 256 % 256 ≡ n / 1099511627776 % 256
high_1 n = omega arith

high_2 : (n : ℕ) → n / 4294967296 / 65536 % 256 ≡ n / 281474976710656 % 256
high_2 n = omega arith

high_3 : (n : ℕ) → n / 4294967296 / 16777216 % 256 ≡ n / 72057594037927936 % 256
high_3 n = omega arith

-- a number of 64 bits is two words, the lower first
pub two_words : (n : ℕ) → le4 (n % 4294967296) ++ le4 (n / 4294967296) ≡ le8 n
unfolding le4 le8
two_words n = rw (low_0 n, low_1 n, low_2 n, low_3 n, high_1 n, high_2 n, high_3 n) refl

-- and so two words more are its bytes more
pub both_put : (more : Option ℕ) (words before one : List ℕ) (n : ℕ) → IfSome more (λ k. word_bytes (take k words) ≡ one ++ le4 (n / 4294967296)) →
    one ≡ before ++ le4 (n % 4294967296) → IfSome more (λ k. word_bytes (take k words) ≡ before ++ le8 n)
both_put None words before one n h e = tt
both_put (Some k) words before one n h e =
    h ∙ ap (λ (l : List ℕ). l ++ le4 (n / 4294967296)) e ∙ append_assoc before (le4 (n % 4294967296)) (le4 (n / 4294967296))
    ∙ ap (λ (l : List ℕ). before ++ l) (two_words n)

-- four bytes put behind the first ones
pub put_behind : (bytes four : List ℕ) (at : ℕ) → at + 4 ≤ length bytes → length four ≡ 4 →
    take (at + 4) (take at bytes ++ (four ++ drop (at + 4) bytes)) ≡ take at bytes ++ four
put_behind bytes four at room len =
    let size : length (take at bytes ++ four) ≡ at + 4 = omega (arith, length-append (take at bytes) four, length-take-le at bytes (omega (arith, room))) in
    ap (take (at + 4)) (sym (append_assoc (take at bytes) four (drop (at + 4) bytes))) ∙ take_at (take at bytes ++ four) (drop (at + 4) bytes) (at + 4) size

-- a word more
next_word : (words : List ℕ) (i : ℕ) → i < length words → word_bytes (take (suc i) words) ≡ word_bytes (take i words) ++ le4 (get_or words i 0)
next_word [] i lt = absurd (omega (arith, lt))
next_word (w ∷ words) zero lt = append-nil (le4 w)
next_word (w ∷ words) (suc i) lt =
    ap (λ (l : List ℕ). le4 w ++ l) (next_word words i (omega (arith, lt))) ∙ sym (append_assoc (le4 w) (word_bytes (take i words)) (le4 (get_or words i 0)))

-- the next word put behind the others
pub word_put : (head words before now : List ℕ) (i : ℕ) → i < length words → take (16 + 4 * i + 4) now ≡ take (16 + 4 * i) before ++ le4 (get_or words i 0) →
    take (16 + 4 * i) before ≡ head ++ word_bytes (take i words) → take (16 + 4 * (i + 1)) now ≡ head ++ word_bytes (take (i + 1) words)
word_put head words before now i lt put held =
    let at : 16 + 4 * (i + 1) ≡ 16 + 4 * i + 4 = omega arith in
    ap (λ (n : ℕ). take n now) at ∙ put ∙ ap (λ (l : List ℕ). l ++ le4 (get_or words i 0)) held
    ∙ append_assoc head (word_bytes (take i words)) (le4 (get_or words i 0))
    ∙ ap (λ (l : List ℕ). head ++ l) (sym (next_word words i lt) ∙ ap (λ (n : ℕ). word_bytes (take n words)) (sym (add-one i)))

-- so many words have four times as many bytes
pub words_length : (words : List ℕ) → length (word_bytes words) ≡ 4 * length words
words_length [] = refl
words_length (w ∷ words) = omega (arith, length-append (le4 w) (word_bytes words), len4 w, words_length words)

-- behind the header all the words make the message
pub message_put : (id opcode n i : ℕ) (words bytes : List ℕ) → n ≤ i → i ≤ n → n ≤ length words →
    take (16 + 4 * i) bytes ≡ header id (16 + 4 * n) opcode ++ word_bytes (take i words) →
    take (16 + 4 * n) bytes ≡ bytes_of (of_words id opcode (take n words))
unfolding bytes_of
message_put id opcode n i words bytes le ge room put =
    let all : i ≡ n = omega (arith, le, ge) in
    let size : length (word_bytes (take n words)) ≡ 4 * n = words_length (take n words) ∙ ap (λ (k : ℕ). 4 * k) (length-take-le n words room) in
    ap (λ (k : ℕ). take (16 + 4 * k) bytes) (sym all) ∙ put ∙ ap (λ (k : ℕ). header id (16 + 4 * n) opcode ++ word_bytes (take k words)) all
    ∙ ap (λ (k : ℕ). header id (16 + k) opcode ++ word_bytes (take n words)) (sym size)

-- arguments that are so many words have four times as many bytes
pub body_length : (args : List Arg) (words : List ℕ) (count : ℕ) → length words ≡ 6 → count ≤ 6 →
    word_bytes (take count words) ≡ args_body args → length (args_body args) ≡ 4 * count
body_length args words count len le is =
    ap (λ (l : List ℕ). length l) (sym is) ∙ words_length (take count words) ∙ ap (λ (k : ℕ). 4 * k) (length-take-le count words (omega (arith, len, le)))
