-- One pair of digits more.
use Rattle.std.proofs.Common.{◌≡◌, ◌<◌, ◌≤◌, ◌⊎◌, inl, inr, ℕ, ◌+◌, ◌*◌, max, List, length, take, drop, slice_index, slice_set, Option, Some, None}
use Rattle.std.proofs.Common.{unwrap_or, Result, Ok, Err, refl, ap, sym, ◌∙◌, subst, ◌%◌, arith}
use Rattle.std.specs.Prelude.{IsErr, nat_lt, true, false}
use Rattle.std.specs.Bool.{MatchBool}
use Rattle.std.proofs.lemmas.Bool.{cases_lt}
use Rattle.hex.specs.Hex.{decode_pairs, hex_digit_value, pair_value, value_at}
use Rattle.hex.specs.declared.error.FromHexError.{FromHexError}
use Rattle.hex.specs.declared.error.FromHexError.TheVariants.{InvalidHexCharacter}
use Rattle.hex.proofs.Pairs.{prepend, decode_step, decode_err, decode_done, decode_start}

-- a digit's value, or 255
abbrev pub value : ℕ → ℕ
value c = unwrap_or (hex_digit_value c) 255

small : (c v : ℕ) → hex_digit_value c ≡ Some v → v < 16
small c v e = grind arith

-- what a byte is worth
data Worth (c i : ℕ) : Type 0 where
  digit : value c < 16 → value_at c i ≡ Ok (value c) → Worth c i
  other : (e : FromHexError) → value c ≡ 255 → value_at c i ≡ Err e → Worth c i

worth : (c i : ℕ) → Worth c i
worth c i = by (hex_digit_value c) refl
  where
    by : (o : Option ℕ) → hex_digit_value c ≡ o → Worth c i
    by None e = other (InvalidHexCharacter c i) (rw e refl) (rw e refl)
    by (Some v) e = digit (rw e (small c v e)) (rw e refl)

-- what two bytes are worth
data Pair (a b i : ℕ) : Type 0 where
  digits : value a < 16 → value b < 16 → pair_value a b i ≡ Ok (value a * 16 + value b) → Pair a b i
  not : (e : FromHexError) → 255 ≤ max (value a) (value b) → pair_value a b i ≡ Err e → Pair a b i

pair_of : (a b i : ℕ) → Worth a i → Worth b (i + 1) → Pair a b i
pair_of a b i (digit x p) (digit y q) = digits x y (rw (p, q) refl)
pair_of a b i (digit x p) (other e y q) = not e (omega (arith, y)) (rw (p, q) refl)
pair_of a b i (other e x p) w = not e (omega (arith, x)) (rw p refl)

-- so many pairs are decoded, where all were digits: the greatest value is 255 where one wasn't
pub record Decoded (s out : List ℕ) (i greatest : ℕ) : Type 0 where
  pub good : greatest < 255 → decode_pairs 0 s ≡ prepend (take i out) (decode_pairs (2 * i) (drop (2 * i) s))
  pub bad : 255 ≤ greatest → IsErr (decode_pairs 0 s)

pub none_yet : (s out : List ℕ) → Decoded s out 0 0
none_yet s out = record { good = λ lt. decode_start s out; bad = λ le. absurd (omega (arith, le)) }

failed : (r : Result (List ℕ) FromHexError) (e : FromHexError) → r ≡ Err e → IsErr r
failed r e is = rw is refl

module _ (s out : List ℕ) (i g v : ℕ) (fits : 2 * i + 1 < length s) (room : i < length out) (d : Decoded s out i g) where
  abbrev pub high : ℕ
  high = value (slice_index s (2 * i))

  abbrev pub low : ℕ
  low = value (slice_index s (2 * i + 1))

  by_pair : Pair (slice_index s (2 * i)) (slice_index s (2 * i + 1)) (2 * i) → (high < 16 → low < 16 → v ≡ high * 16 + low) → Decoded s (slice_set out i v) (i + 1) (max (max g high) low)
  by_pair (digits x y p) is = record {
    good = λ lt. decode_step s out i v fits room (p ∙ ap Ok (sym (is x y))) (d.good (omega (arith, lt)));
    bad = λ le. d.bad (omega (arith, le, x, y));
  }
  by_pair (not e far p) is = record {
    good = λ lt. absurd (omega (arith, lt, far));
    bad = λ le. by (cases_lt g 255);
  }
    where
      by : (g < 255) ⊎ (255 ≤ g) → IsErr (decode_pairs 0 s)
      by (inl lt) = failed _ e (decode_err s out i e fits p (d.good lt))
      by (inr le) = d.bad le

  pub one_more : (h l most top : ℕ) → h ≡ high → l ≡ low → most ≡ max g h → top ≡ max most l → v ≡ (h * 16 % 256 + l) % 256 → Decoded s (slice_set out i v) (i + 1) top
  one_more h l most top p q m t e =
      let greatest : max (max g high) low ≡ top = omega (arith, p, q, m, t) in
      subst (λ (x : ℕ). Decoded s (slice_set out i v) (i + 1) x) greatest (by_pair (pair_of _ _ _ (worth _ _) (worth _ _)) (λ x y. omega (arith, p, q, e, x, y)))

-- all of them are decoded, or one was no digit
pub decoded_all : (s out : List ℕ) (i g : ℕ) → length out ≤ i → length s ≤ 2 * i → Decoded s out i g → MatchBool (nat_lt g 255) (decode_pairs 0 s ≡ Ok out) (IsErr (decode_pairs 0 s))
decoded_all s out i g all both d = by (cases_lt g 255)
  where
    by : (g < 255) ⊎ (255 ≤ g) → MatchBool (nat_lt g 255) (decode_pairs 0 s ≡ Ok out) (IsErr (decode_pairs 0 s))
    by (inl lt) = let t : nat_lt g 255 ≡ true = grind arith in rw t (decode_done s out i all both (d.good lt))
    by (inr le) = let t : nat_lt g 255 ≡ false = grind arith in rw t (d.bad le)
