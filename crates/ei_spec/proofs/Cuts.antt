-- A lawful message that is cut short: it is no whole message, and its length isn't unlawful.
use Rattle.std.proofs.Common.{◌≡◌, ℕ, ◌<◌, Bool, true, false, cond, ltb, List, [], ◌++◌, length, refl, sym, ap, ◌∙◌, append-nil, length-append, arith, inl, inr}
use Rattle.std.proofs.Common.{◌⊎◌}
use Rattle.std.proofs.lemmas.Bool.{ltb-true, ltb-false}
use Rattle.ei_spec.specs.Message.{Raw, IsLawful, size, bytes_of, header, le4, le8, size_at, message_at, Front, Short, Unlawful, Whole, front}
use Rattle.ei_spec.proofs.Numbers.{len4, len8}
use Rattle.ei_spec.proofs.FrontLaws.{front_again, whole_more, unlawful_more}

-- the bytes of a message are as many as its header says
pub size_is : (m : Raw) → length (bytes_of m) ≡ size m
unfolding bytes_of header
size_is m = omega (arith, length-append (le8 m.id ++ (le4 (size m) ++ le4 m.opcode)) m.body, length-append (le8 m.id) (le4 (size m) ++ le4 m.opcode), length-append (le4 (size m)) (le4 m.opcode), len8 m.id, len4 (size m), len4 m.opcode)

nothing_left : (a b : List ℕ) → a ++ b ≡ [] → length b ≡ 0
nothing_left a b e = omega (arith, length-append a b, ap length e)

same_whole : (m k : Raw) (x y : List ℕ) → Whole m x ≡ Whole k y → x ≡ y
same_whole m k x y e = cc

short_at : (m : Raw) (part more : List ℕ) (f : Front) → IsLawful m → bytes_of m ≡ part ++ more → length part < size m → front part ≡ f → f ≡ Short
short_at m part more Short l e lt is = refl
short_at m part more (Unlawful n) l e lt is =
    let there : front (bytes_of m) ≡ Whole m [] = ap front (sym (append-nil (bytes_of m))) ∙ front_again m [] l in
    let cut : front (bytes_of m) ≡ Unlawful n = ap front e ∙ unlawful_more part more n is in
    cc
short_at m part more (Whole k rest) l e lt is =
    let there : front (bytes_of m) ≡ Whole m [] = ap front (sym (append-nil (bytes_of m))) ∙ front_again m [] l in
    let cut : front (bytes_of m) ≡ Whole k (rest ++ more) = ap front e ∙ whole_more part more k rest is in
    let none = nothing_left rest more (same_whole k m (rest ++ more) [] (sym cut ∙ there)) in
    absurd (omega (arith, none, size_is m, ap length e, length-append part more, lt))

-- fewer bytes than the message has
pub cut_short : (m : Raw) (part more : List ℕ) → IsLawful m → bytes_of m ≡ part ++ more → length part < size m → front part ≡ Short
cut_short m part more l e lt = short_at m part more (front part) l e lt refl

pub front_none : front [] ≡ Short
unfolding front
front_none = refl

-- ---- no whole message

short_cases : (a b c d : Bool) (n : ℕ) (m : Raw) (x : List ℕ) → cond a Short (cond b (Unlawful n) (cond c (Unlawful n) (cond d Short (Whole m x)))) ≡ Short → (a ≡ true) ⊎ ((c ≡ false) × (d ≡ true))
short_cases true b c d n m x e = inl refl
short_cases false true c d n m x e = absurd cc
short_cases false false true d n m x e = absurd cc
short_cases false false false true n m x e = inr (refl, refl)
short_cases false false false false n m x e = absurd cc

-- they are fewer bytes than the longest message has
pub short_below : (bytes : List ℕ) → front bytes ≡ Short → length bytes < 1048576
unfolding front
short_below bytes e =
    let n = size_at bytes in
    elim (short_cases (ltb (length bytes) 16) (ltb n 16) (ltb 1048576 n) (ltb (length bytes) n) n (message_at n bytes) _ e) [
      | inl p ↦ let lt = ltb-true (length bytes) 16 p in omega (arith, lt)
      | inr p ↦ let le = ltb-false 1048576 n p.0 in let lt = ltb-true (length bytes) n p.1 in omega (arith, le, lt)
    ]
