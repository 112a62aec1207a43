-- Values with other handles in the places of their handles.
use Rattle.std.proofs.Common.{◌≡◌, ◌≤◌, List, [], ◌∷◌, ◌++◌, length, map, Some, None, refl, ap, arith}
use Rattle.std.specs.List.{flat_map}
use Rattle.std.proofs.lemmas.List.{length-append}
use Rattle.ei_spec.specs.declared.handle.Handle.{Handle as Descriptor}
use Rattle.ei_spec.specs.Value.{Kind, U32, I32, U64, I64, Float, Text, Nullable, Handle, New, Choice, OpenChoice, Value, Word, Long, Signed, SignedLong}
use Rattle.ei_spec.specs.Value.{Letters, Null, Fd, IsOf, written, handles_of}
use Rattle.ei_spec.specs.Arguments.{AreOf}
use Rattle.ei_ends.specs.Sent.{bare}

-- the values with the handles that stand first in the queue, and what is behind these
pub record Refilled (kinds : List Kind) (values : List Value) (hs : List Descriptor) : Type 0 where
  pub read : List Value
  pub more : List Descriptor
  pub alike : map bare read ≡ map bare values
  pub are : AreOf kinds read
  pub bytes : flat_map written read ≡ flat_map written values
  pub count : length (flat_map handles_of read) ≡ length (flat_map handles_of values)
  pub handles : hs ≡ flat_map handles_of read ++ more

any_handle : (k : Kind) (g h : Descriptor) → IsOf k (Fd h) → IsOf k (Fd g)
any_handle U32 g h x = x
any_handle I32 g h x = x
any_handle U64 g h x = x
any_handle I64 g h x = x
any_handle Float g h x = x
any_handle Text g h x = x
any_handle Nullable g h x = x
any_handle Handle g h x = x
any_handle New g h x = x
any_handle (Choice n vs) g h x = x
any_handle OpenChoice g h x = x

-- a value that isn't a handle stays
kept : (k : Kind) (ks : List Kind) (v : Value) (vs : List Value) (hs : List Descriptor) → handles_of v ≡ [] → IsOf k v → Refilled ks vs hs → Refilled (k ∷ ks) (v ∷ vs) hs
kept k ks v vs hs none is r = record {
  read = v ∷ r.read;
  more = r.more;
  alike = ap (λ l. bare v ∷ l) r.alike;
  are = (is, r.are);
  bytes = ap (λ l. written v ++ l) r.bytes;
  count = rw none r.count;
  handles = rw none r.handles;
}

pub refilled : (kinds : List Kind) (values : List Value) (hs : List Descriptor) → AreOf kinds values → length (flat_map handles_of values) ≤ length hs → Refilled kinds values hs
refilled [] [] hs are le = record { read = []; more = hs; alike = refl; are = tt; bytes = refl; count = refl; handles = refl }
refilled [] (v ∷ vs) hs are le = absurd are
refilled (k ∷ ks) [] hs are le = absurd are
refilled (k ∷ ks) (Fd h ∷ vs) [] are le = absurd (omega (arith, le))
refilled (k ∷ ks) (Fd h ∷ vs) (g ∷ hs) are le =
    let r = refilled ks vs hs are.1 (omega (arith, le)) in
    record {
      read = Fd g ∷ r.read;
      more = r.more;
      alike = ap (λ l. None ∷ l) r.alike;
      are = (any_handle k g h are.0, r.are);
      bytes = r.bytes;
      count = omega (arith, r.count);
      handles = ap (λ l. g ∷ l) r.handles;
    }
refilled (k ∷ ks) (Word n ∷ vs) hs are le = kept k ks (Word n) vs hs refl are.0 (refilled ks vs hs are.1 le)
refilled (k ∷ ks) (Long n ∷ vs) hs are le = kept k ks (Long n) vs hs refl are.0 (refilled ks vs hs are.1 le)
refilled (k ∷ ks) (Signed z ∷ vs) hs are le = kept k ks (Signed z) vs hs refl are.0 (refilled ks vs hs are.1 le)
refilled (k ∷ ks) (SignedLong z ∷ vs) hs are le = kept k ks (SignedLong z) vs hs refl are.0 (refilled ks vs hs are.1 le)
refilled (k ∷ ks) (Letters t ∷ vs) hs are le = kept k ks (Letters t) vs hs refl are.0 (refilled ks vs hs are.1 le)
refilled (k ∷ ks) (Null ∷ vs) hs are le = kept k ks Null vs hs refl are.0 (refilled ks vs hs are.1 le)

bare_is : (v w : Value) → bare v ≡ Some w → v ≡ w
bare_is (Word n) w e = cc
bare_is (Long n) w e = cc
bare_is (Signed z) w e = cc
bare_is (SignedLong z) w e = cc
bare_is (Letters t) w e = cc
bare_is Null w e = cc
bare_is (Fd h) w e = absurd cc

bare_one : (v w : Value) → bare v ≡ bare w → length (handles_of w) ≡ 0 → v ≡ w
bare_one v (Word n) e none = bare_is v (Word n) e
bare_one v (Long n) e none = bare_is v (Long n) e
bare_one v (Signed z) e none = bare_is v (Signed z) e
bare_one v (SignedLong z) e none = bare_is v (SignedLong z) e
bare_one v (Letters t) e none = bare_is v (Letters t) e
bare_one v Null e none = bare_is v Null e
bare_one v (Fd h) e none = absurd (omega (arith, none))

-- values without handles are read as they are
pub bare_same : (vs ws : List Value) → map bare vs ≡ map bare ws → length (flat_map handles_of ws) ≡ 0 → vs ≡ ws
bare_same [] [] e none = refl
bare_same [] (w ∷ ws) e none = absurd cc
bare_same (v ∷ vs) [] e none = absurd cc
bare_same (v ∷ vs) (w ∷ ws) e none =
    let l = length-append (handles_of w) (flat_map handles_of ws) in
    let head : bare v ≡ bare w = cc in
    let tail : map bare vs ≡ map bare ws = cc in
    let rest = bare_same vs ws tail (omega (arith, none, l)) in
    let same : v ≡ w = bare_one v w head (omega (arith, none, l)) in
    rw (same, rest) refl
