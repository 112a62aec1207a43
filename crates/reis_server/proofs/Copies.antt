-- The readings of a clock that stands still.
use Rattle.std.proofs.Common.{◌≡◌, ℕ, zero, suc, ◌+◌, ◌≤◌, List, ◌∷◌, ◌++◌, length, refl, ap, sym, ◌∙◌, append_assoc, arith}
use Rattle.std.specs.Prelude.{replicate}
use Rattle.std.proofs.lemmas.List.{length-append, length-replicate}
use Rattle.ei_spec.specs.Message.{Raw}
use Rattle.ei_spec.specs.History.{each}
use Rattle.ei_spec.specs.Groups.{frames_made}
use Rattle.ei_session.specs.Setup.{Setup}
use Rattle.ei_session.specs.Requests.{slot, framed}
use Rattle.ei_session.proofs.AllParts.{framed_readings}
use Rattle.ei_serve.specs.Around.{first_readings}

-- the first readings are copies
pub first_copies : (n k t : ℕ) → n ≤ k → first_readings n (replicate k t) ≡ replicate n t
first_copies zero k t le = refl
first_copies (suc n) zero t le = absurd (omega (arith, le))
first_copies (suc n) (suc k) t le = ap (λ (l : List ℕ). t ∷ l) (first_copies n k t (omega (arith, le)))

-- and so are they with copies behind them
front_copies : (n l k m t : ℕ) → n ≤ k → n ≤ l + m → (rest : List ℕ) × (first_readings l (replicate k t) ++ replicate m t ≡ replicate n t ++ rest)
front_copies zero l k m t a b = (first_readings l (replicate k t) ++ replicate m t, refl)
front_copies (suc n) l zero m t a b = absurd (omega (arith, a))
front_copies (suc n) zero (suc k) zero t a b = absurd (omega (arith, b))
front_copies (suc n) zero (suc k) (suc m) t a b =
    let h = front_copies n zero k m t (omega (arith, a)) (omega (arith, b)) in
    (h.0, ap (λ (l : List ℕ). t ∷ l) h.1)
front_copies (suc n) (suc l) (suc k) m t a b =
    let h = front_copies n l k m t (omega (arith, a)) (omega (arith, b)) in
    (h.0, ap (λ (r : List ℕ). t ∷ r) h.1)

-- what is given hangs on no reading beyond the frames that are made
framed_front : (setup : Setup) (times : List ℕ) (n t : ℕ) (rest : List ℕ) (messages : List Raw) → frames_made (each (slot setup) messages) ≤ length times + n →
    framed setup (times ++ (replicate n t ++ rest)) messages ≡ framed setup (times ++ replicate n t) messages
framed_front setup times n t rest messages le =
    let long : frames_made (each (slot setup) messages) ≤ length (times ++ replicate n t) = omega (arith, le, length-append times (replicate n t), length-replicate {A = ℕ} n t) in
    ap (λ (r : List ℕ). framed setup r messages) (sym (append_assoc times (replicate n t) rest)) ∙ framed_readings setup (times ++ replicate n t) rest messages long

-- so the readings used may be replaced by copies
pub framed_copies : (setup : Setup) (times : List ℕ) (l k m t : ℕ) (messages : List Raw) → frames_made (each (slot setup) messages) ≤ length times + m → m ≤ k →
    framed setup ((times ++ first_readings l (replicate k t)) ++ replicate m t) messages ≡ framed setup (times ++ replicate m t) messages
framed_copies setup times l k m t messages le few =
    let h = front_copies m l k m t few (omega arith) in
    ap (λ (r : List ℕ). framed setup r messages) (append_assoc times (first_readings l (replicate k t)) (replicate m t) ∙ ap (λ (x : List ℕ). times ++ x) h.1)
    ∙ framed_front setup times m t h.0 messages le
