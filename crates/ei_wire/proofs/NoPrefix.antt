-- No spelling of a value of a kind is a proper beginning of another of that kind.
use Rattle.std.proofs.Common.{◌≡◌, ℕ, List, [], ◌∷◌, ◌++◌, length, Result, Ok, ◌⊎◌, inl, inr, refl, sym, ap, subst, ◌∙◌, append-nil, arith}
use Rattle.ei_spec.proofs.Again.{again}
use Rattle.ei_spec.specs.Value.{Kind, U32, I32, U64, I64, Float, Text, Nullable, Handle, New, Choice, OpenChoice, Value, Word, Long, Signed, SignedLong}
use Rattle.ei_spec.specs.Value.{Letters, Null, Fd, IsOf, handles_of}
use Rattle.ei_spec.specs.Spelling.{Spells, IsNext}
use Rattle.ei_spec.specs.Reading.{Fault, Unread, read}
use Rattle.ei_wire.specs.Spellings.{IsSpelling}

-- only a handle takes a handle
free : (k : Kind) (v : Value) → IsOf k v → (handles_of v ≡ []) ⊎ (k ≡ Handle)
free k (Word n) i = inl refl
free k (Long n) i = inl refl
free k (Signed z) i = inl refl
free k (SignedLong z) i = inl refl
free k (Letters t) i = inl refl
free k Null i = inl refl
free Handle (Fd h) i = inr refl
free U32 (Fd h) i = absurd i
free I32 (Fd h) i = absurd i
free U64 (Fd h) i = absurd i
free I64 (Fd h) i = absurd i
free Float (Fd h) i = absurd i
free Text (Fd h) i = absurd i
free Nullable (Fd h) i = absurd i
free New (Fd h) i = absurd i
free (Choice name values) (Fd h) i = absurd i
free OpenChoice (Fd h) i = absurd i

next_free : (v : Value) → handles_of v ≡ [] → IsNext v [] 0
next_free (Word n) e = tt
next_free (Long n) e = tt
next_free (Signed z) e = tt
next_free (SignedLong z) e = tt
next_free (Letters t) e = tt
next_free Null e = tt
next_free (Fd h) e = absurd cc

-- a handle has no bytes
no_bytes : (w : Value) (b : List ℕ) → IsOf Handle w → Spells w b → b ≡ []
no_bytes (Fd h) b i s = s
no_bytes (Word n) b i s = absurd i
no_bytes (Long n) b i s = absurd i
no_bytes (Signed z) b i s = absurd i
no_bytes (SignedLong z) b i s = absurd i
no_bytes (Letters t) b i s = absurd i
no_bytes Null b i s = absurd i

nothing : (a more : List ℕ) → a ++ more ≡ [] → more ≡ []
nothing [] more e = e
nothing (x ∷ a) more e = absurd cc

of_handle : (k : Kind) (w : Value) (a b more : List ℕ) → k ≡ Handle → IsSpelling k w b → b ≡ a ++ more → more ≡ []
of_handle k w a b more h q e = nothing a more (sym e ∙ no_bytes w b (subst (λ (x : Kind). IsOf x w) h q.of) q.spelled)

unread : List ℕ → Unread
unread b = record { bytes = b; handles = []; taken = 0 }

front : (k : Kind) (v : Value) (a more : List ℕ) → IsSpelling k v a → handles_of v ≡ [] → read k (unread (a ++ more)) ≡ Ok (v, unread more)
unfolding unread
front k v a more p f = again k v (unread (a ++ more)) (unread more) (record { of = p.of; short = p.short; text = a; spelled = p.spelled; parts = refl; next = next_free v f; same = refl; taken = omega (arith, ap length f) })

rest_of : (v w : Value) (x y : List ℕ) → ◌≡◌ {A = Result (Value × Unread) Fault} (Ok (v, unread x)) (Ok (w, unread y)) → x ≡ y
unfolding unread
rest_of v w x y e =
    let pair : (v, unread x) ≡ (w, unread y) = cc in
    ap (λ (p : Value × Unread). p.1.bytes) pair

pub no_prefix : (k : Kind) (v w : Value) (a b more : List ℕ) → IsSpelling k v a → IsSpelling k w b → b ≡ a ++ more → more ≡ []
no_prefix k v w a b more p q e =
    elim (free k v p.of) [
      | inr h ↦ of_handle k w a b more h q e
      | inl f ↦
          elim (free k w q.of) [
            | inr h ↦ of_handle k w a b more h q e
            | inl g ↦ rest_of v w more [] (sym (front k v a more p f) ∙ ap (λ (x : List ℕ). read k (unread x)) (sym e ∙ sym (append-nil b)) ∙ front k w b [] q g)
          ]
    ]
