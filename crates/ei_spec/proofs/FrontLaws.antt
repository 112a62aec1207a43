-- The message at the front of some bytes.
use Rattle.std.proofs.Common.{◌≡◌, ℕ, ◌+◌, ◌-◌, ◌<◌, ◌≤◌, Bool, true, false, cond, ltb, List, [], ◌++◌, length, take, drop, refl, sym, ap, subst, ◌∙◌}
use Rattle.std.proofs.Common.{append_assoc, arith}
use Rattle.std.proofs.lemmas.Bool.{ltb-false, le-ltb}
use Rattle.std.proofs.lemmas.List.{take_at, drop_at, take-append-drop, take-append-le, drop-append-le, length-append, length-take, length-drop, drop-drop}
use Rattle.ei_spec.specs.Message.{Raw, IsLawful, size, bytes_of, header, le4, le8, of_le4, of_le8, IsBytes, Front, Short, Unlawful, Whole, size_at, message_at}
use Rattle.ei_spec.specs.Message.{front_of, front}
use Rattle.ei_spec.proofs.Numbers.{IsBytes-take, IsBytes-drop, len4, len8, back4, back8, to4, to8, below4, below8}

message_of : Front → Raw
message_of Short = record { id = 0; opcode = 0; body = [] }
message_of (Unlawful n) = record { id = 0; opcode = 0; body = [] }
message_of (Whole m rest) = m

whole_same : (m k : Raw) (x y : List ℕ) → Whole m x ≡ Whole k y → (m ≡ k) × (x ≡ y)
whole_same m k x y e = (cc, cc)

pub record IsWhole (n : ℕ) (bytes : List ℕ) (m : Raw) (rest : List ℕ) : Type 0 where
  pub header : 16 ≤ length bytes
  pub low : 16 ≤ n
  pub high : n ≤ 1048576
  pub long : n ≤ length bytes
  pub message : message_at n bytes ≡ m
  pub after : drop n bytes ≡ rest

whole_cases : (a b c d : Bool) (n : ℕ) (m k : Raw) (x y : List ℕ) → cond a Short (cond b (Unlawful n) (cond c (Unlawful n) (cond d Short (Whole m x)))) ≡ Whole k y → (a ≡ false) × (b ≡ false) × (c ≡ false) × (d ≡ false) × (m ≡ k) × (x ≡ y)
whole_cases true b c d n m k x y e = absurd cc
whole_cases false true c d n m k x y e = absurd cc
whole_cases false false true d n m k x y e = absurd cc
whole_cases false false false true n m k x y e = absurd cc
whole_cases false false false false n m k x y e = let s = whole_same m k x y e in (refl, refl, refl, refl, s.0, s.1)

pub whole_is : (bytes : List ℕ) (m : Raw) (rest : List ℕ) → front bytes ≡ Whole m rest → IsWhole (size_at bytes) bytes m rest
unfolding front
whole_is bytes m rest e =
    let n = size_at bytes in
    let c = whole_cases (ltb (length bytes) 16) (ltb n 16) (ltb 1048576 n) (ltb (length bytes) n) n (message_at n bytes) m (drop n bytes) rest e in
    record { header = ltb-false _ _ c.0; low = ltb-false _ _ c.1; high = ltb-false _ _ c.2; long = ltb-false _ _ c.3; message = c.4; after = c.5 }

pub is_whole : (bytes : List ℕ) (m : Raw) (rest : List ℕ) → IsWhole (size_at bytes) bytes m rest → front bytes ≡ Whole m rest
unfolding front
is_whole bytes m rest w =
    rw (le-ltb (length bytes) 16 w.header, le-ltb _ 16 w.low, le-ltb 1048576 _ w.high, le-ltb (length bytes) _ w.long, w.message, w.after) refl

pub shorter : (bytes : List ℕ) (m : Raw) (rest : List ℕ) → front bytes ≡ Whole m rest → length rest < length bytes
shorter bytes m rest e =
    let w = whole_is bytes m rest e in
    omega (arith, w.low, w.long, length-drop (size_at bytes) bytes, ap length w.after)

size_more : (bytes more : List ℕ) → 16 ≤ length bytes → size_at (bytes ++ more) ≡ size_at bytes
size_more bytes more le =
    let a : drop 8 (bytes ++ more) ≡ drop 8 bytes ++ more = drop-append-le 8 bytes more (omega arith) in
    let b : take 4 (drop 8 bytes ++ more) ≡ take 4 (drop 8 bytes) = take-append-le 4 (drop 8 bytes) more (omega (arith, length-drop 8 bytes)) in
    ap (λ (x : List ℕ). of_le4 (take 4 x)) a ∙ ap of_le4 b

message_more : (n : ℕ) (bytes more : List ℕ) → 16 ≤ length bytes → n ≤ length bytes → message_at n (bytes ++ more) ≡ message_at n bytes
message_more n bytes more le long =
    let a : take 8 (bytes ++ more) ≡ take 8 bytes = take-append-le 8 bytes more (omega arith) in
    let b : take 4 (drop 12 (bytes ++ more)) ≡ take 4 (drop 12 bytes) = ap (take 4) (drop-append-le 12 bytes more (omega arith)) ∙ take-append-le 4 (drop 12 bytes) more (omega (arith, length-drop 12 bytes)) in
    let c : take (n - 16) (drop 16 (bytes ++ more)) ≡ take (n - 16) (drop 16 bytes) = ap (take (n - 16)) (drop-append-le 16 bytes more (omega arith)) ∙ take-append-le (n - 16) (drop 16 bytes) more (omega (arith, length-drop 16 bytes)) in
    rw (a, b, c) refl

pub whole_more : (bytes more : List ℕ) (m : Raw) (rest : List ℕ) → front bytes ≡ Whole m rest → front (bytes ++ more) ≡ Whole m (rest ++ more)
whole_more bytes more m rest e =
    let w = whole_is bytes m rest e in
    let s = size_more bytes more w.header in
    let l = length-append bytes more in
    let made : IsWhole (size_at bytes) (bytes ++ more) m (rest ++ more) = record { header = omega (arith, w.header, l); low = w.low; high = w.high; long = omega (arith, w.long, l); message = message_more (size_at bytes) bytes more w.header w.long ∙ w.message; after = drop-append-le (size_at bytes) bytes more w.long ∙ ap (λ (x : List ℕ). x ++ more) w.after } in
    is_whole (bytes ++ more) m (rest ++ more) (rw s made)

unlawful_cases : (a b c d : Bool) (n k : ℕ) (m : Raw) (x : List ℕ) → cond a Short (cond b (Unlawful n) (cond c (Unlawful n) (cond d Short (Whole m x)))) ≡ Unlawful k → (a ≡ false) × (n ≡ k) × (cond b (Unlawful n) (cond c (Unlawful n) Short) ≡ Unlawful n)
unlawful_cases true b c d n k m x e = absurd cc
unlawful_cases false true c d n k m x e = (refl, cc, refl)
unlawful_cases false false true d n k m x e = (refl, cc, refl)
unlawful_cases false false false true n k m x e = absurd cc
unlawful_cases false false false false n k m x e = absurd cc

unlawful_again : (b c : Bool) (n : ℕ) (f : Front) → cond b (Unlawful n) (cond c (Unlawful n) Short) ≡ Unlawful n → cond b (Unlawful n) (cond c (Unlawful n) f) ≡ Unlawful n
unlawful_again true c n f e = refl
unlawful_again false true n f e = refl
unlawful_again false false n f e = absurd cc

pub unlawful_more : (bytes more : List ℕ) (n : ℕ) → front bytes ≡ Unlawful n → front (bytes ++ more) ≡ Unlawful n
unfolding front
unlawful_more bytes more k e =
    let n = size_at bytes in
    let c = unlawful_cases (ltb (length bytes) 16) (ltb n 16) (ltb 1048576 n) (ltb (length bytes) n) n k (message_at n bytes) (drop n bytes) e in
    let header : 16 ≤ length bytes = ltb-false _ _ c.0 in
    let s = size_more bytes more header in
    let long : ltb (length (bytes ++ more)) 16 ≡ false = le-ltb _ _ (omega (arith, header, length-append bytes more)) in
    ap (λ (b : Bool). cond b Short (front_of (size_at (bytes ++ more)) (bytes ++ more))) long ∙ ap (λ (z : ℕ). front_of z (bytes ++ more)) s ∙ unlawful_again (ltb n 16) (ltb 1048576 n) n _ c.2 ∙ ap Unlawful c.1

-- ---- the bytes of a message, and the message at the front of bytes, are one

back_to_back : (a b c d rest : List ℕ) → ((a ++ (b ++ c)) ++ d) ++ rest ≡ a ++ (b ++ (c ++ (d ++ rest)))
back_to_back a b c d rest = simp append_assoc

pub front_again : (m : Raw) (rest : List ℕ) → IsLawful m → front (bytes_of m ++ rest) ≡ Whole m rest
unfolding bytes_of header
front_again m rest l =
    let a = le8 m.id in
    let b = le4 (size m) in
    let c = le4 m.opcode in
    let all = a ++ (b ++ (c ++ (m.body ++ rest))) in
    let is : bytes_of m ++ rest ≡ all = back_to_back a b c m.body rest in
    let d8 : drop 8 all ≡ b ++ (c ++ (m.body ++ rest)) = drop_at a (b ++ (c ++ (m.body ++ rest))) 8 (len8 m.id) in
    let d12 : drop 12 all ≡ c ++ (m.body ++ rest) = sym (drop-drop 4 8 all) ∙ ap (drop 4) d8 ∙ drop_at b (c ++ (m.body ++ rest)) 4 (len4 (size m)) in
    let d16 : drop 16 all ≡ m.body ++ rest = sym (drop-drop 4 12 all) ∙ ap (drop 4) d12 ∙ drop_at c (m.body ++ rest) 4 (len4 m.opcode) in
    let n-is : size_at all ≡ size m = ap (λ (x : List ℕ). of_le4 (take 4 x)) d8 ∙ ap of_le4 (take_at b (c ++ (m.body ++ rest)) 4 (len4 (size m))) ∙ back4 (size m) (omega (arith, l.size)) in
    let id-is : of_le8 (take 8 all) ≡ m.id = ap of_le8 (take_at a (b ++ (c ++ (m.body ++ rest))) 8 (len8 m.id)) ∙ back8 m.id l.id in
    let op-is : of_le4 (take 4 (drop 12 all)) ≡ m.opcode = ap (λ (x : List ℕ). of_le4 (take 4 x)) d12 ∙ ap of_le4 (take_at c (m.body ++ rest) 4 (len4 m.opcode)) ∙ back4 m.opcode l.opcode in
    let less : size m - 16 ≡ length m.body = omega arith in
    let body-is : take (size m - 16) (drop 16 all) ≡ m.body = ap (take (size m - 16)) d16 ∙ take_at m.body rest (size m - 16) (sym less) in
    let len : length all ≡ size m + length rest = omega (arith, length-append a (b ++ (c ++ (m.body ++ rest))), length-append b (c ++ (m.body ++ rest)), length-append c (m.body ++ rest), length-append m.body rest, len8 m.id, len4 (size m), len4 m.opcode) in
    let after-is : drop (size m) all ≡ rest = sym (drop-drop (length m.body) 16 all) ∙ ap (drop (length m.body)) d16 ∙ drop_at m.body rest (length m.body) refl in
    let w : IsWhole (size m) all m rest = record { header = omega (arith, len); low = omega arith; high = omega (arith, l.size); long = omega (arith, len); message = rw (id-is, op-is, body-is) refl; after = after-is } in
    ap front is ∙ is_whole all m rest (rw n-is w)

parts : (n : ℕ) (bytes : List ℕ) → 16 ≤ n → bytes ≡ take 8 bytes ++ (take 4 (drop 8 bytes) ++ (take 4 (drop 12 bytes) ++ (take (n - 16) (drop 16 bytes) ++ drop n bytes)))
parts n bytes low =
    let a : bytes ≡ take 8 bytes ++ drop 8 bytes = sym (take-append-drop 8 bytes) in
    let b : drop 8 bytes ≡ take 4 (drop 8 bytes) ++ drop 12 bytes = sym (take-append-drop 4 (drop 8 bytes)) ∙ ap (λ (x : List ℕ). take 4 (drop 8 bytes) ++ x) (drop-drop 4 8 bytes) in
    let c : drop 12 bytes ≡ take 4 (drop 12 bytes) ++ drop 16 bytes = sym (take-append-drop 4 (drop 12 bytes)) ∙ ap (λ (x : List ℕ). take 4 (drop 12 bytes) ++ x) (drop-drop 4 12 bytes) in
    let sum : 16 + (n - 16) ≡ n = omega arith in
    let d : drop 16 bytes ≡ take (n - 16) (drop 16 bytes) ++ drop n bytes = sym (take-append-drop (n - 16) (drop 16 bytes)) ∙ ap (λ (x : List ℕ). take (n - 16) (drop 16 bytes) ++ x) (drop-drop (n - 16) 16 bytes ∙ ap (λ (k : ℕ). drop k bytes) sum) in
    a ∙ ap (λ (x : List ℕ). take 8 bytes ++ x) (b ∙ ap (λ (x : List ℕ). take 4 (drop 8 bytes) ++ x) (c ∙ ap (λ (x : List ℕ). take 4 (drop 12 bytes) ++ x) d))

size_message : (n : ℕ) (bytes : List ℕ) → 16 ≤ n → n ≤ length bytes → size (message_at n bytes) ≡ n
size_message n bytes low long = omega (arith, length-take (n - 16) (drop 16 bytes), length-drop 16 bytes)

spelled_at : (bytes : List ℕ) → IsBytes bytes → 16 ≤ size_at bytes → size_at bytes ≤ length bytes → bytes_of (message_at (size_at bytes) bytes) ++ drop (size_at bytes) bytes ≡ bytes
unfolding bytes_of header
spelled_at bytes h low long =
    let n = size_at bytes in
    let a : le8 (of_le8 (take 8 bytes)) ≡ take 8 bytes = to8 (take 8 bytes) (omega (arith, length-take 8 bytes)) (IsBytes-take 8 bytes h) in
    let b : le4 (size (message_at n bytes)) ≡ take 4 (drop 8 bytes) = ap le4 (size_message n bytes low long) ∙ to4 (take 4 (drop 8 bytes)) (omega (arith, length-take 4 (drop 8 bytes), length-drop 8 bytes)) (IsBytes-take 4 (drop 8 bytes) (IsBytes-drop 8 bytes h)) in
    let c : le4 (of_le4 (take 4 (drop 12 bytes))) ≡ take 4 (drop 12 bytes) = to4 (take 4 (drop 12 bytes)) (omega (arith, length-take 4 (drop 12 bytes), length-drop 12 bytes)) (IsBytes-take 4 (drop 12 bytes) (IsBytes-drop 12 bytes h)) in
    back_to_back (le8 (of_le8 (take 8 bytes))) (le4 (size (message_at n bytes))) (le4 (of_le4 (take 4 (drop 12 bytes)))) (take (n - 16) (drop 16 bytes)) (drop n bytes)
    ∙ ap (λ (x : List ℕ). x ++ (le4 (size (message_at n bytes)) ++ (le4 (of_le4 (take 4 (drop 12 bytes))) ++ (take (n - 16) (drop 16 bytes) ++ drop n bytes)))) a
    ∙ ap (λ (x : List ℕ). take 8 bytes ++ (x ++ (le4 (of_le4 (take 4 (drop 12 bytes))) ++ (take (n - 16) (drop 16 bytes) ++ drop n bytes)))) b
    ∙ ap (λ (x : List ℕ). take 8 bytes ++ (take 4 (drop 8 bytes) ++ (x ++ (take (n - 16) (drop 16 bytes) ++ drop n bytes)))) c
    ∙ sym (parts n bytes low)

lawful_at : (bytes : List ℕ) → IsBytes bytes → 16 ≤ size_at bytes → size_at bytes ≤ 1048576 → size_at bytes ≤ length bytes → IsLawful (message_at (size_at bytes) bytes)
lawful_at bytes h low high long = record {
  id = below8 (take 8 bytes) (IsBytes-take 8 bytes h);
  opcode = below4 (take 4 (drop 12 bytes)) (IsBytes-take 4 (drop 12 bytes) (IsBytes-drop 12 bytes h));
  size = omega (arith, size_message (size_at bytes) bytes low long, high);
}

pub front_bytes : (bytes : List ℕ) (m : Raw) (rest : List ℕ) → IsBytes bytes → front bytes ≡ Whole m rest → (bytes ≡ bytes_of m ++ rest) × IsLawful m × IsBytes rest
front_bytes bytes m rest h e =
    let w = whole_is bytes m rest e in (
      sym (spelled_at bytes h w.low w.long) ∙ ap (λ (x : Raw). bytes_of x ++ drop (size_at bytes) bytes) w.message ∙ ap (λ (x : List ℕ). bytes_of m ++ x) w.after,
      subst (λ (x : Raw). IsLawful x) w.message (lawful_at bytes h w.low w.high w.long),
      subst (λ (x : List ℕ). IsBytes x) w.after (IsBytes-drop (size_at bytes) bytes h),
    )
