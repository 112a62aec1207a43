-- The bytes that an input gave, behind those held.
use Rattle.std.proofs.Common.{◌≡◌, ◌≤◌, ◌⊎◌, inl, inr, ℕ, ◌+◌, zero, suc, List, [], ◌∷◌, ◌++◌, length, take, drop, refl, ap, sym, ◌∙◌, append_assoc, arith}
use Rattle.std.proofs.lemmas.List.{append-nil, take-append-le, length-take-le, drop-append-le}
use Rattle.std.proofs.Math.Seq.{take-append-add, drop-append_seam}
use Rattle.std.specs.Prelude.{Option, Some, None, is_some, true, false, Result, Ok, Err, IfOk, OnErr}
use Rattle.ei_backend.specs.Outside.{answer_at, is_end}
use Rattle.reis_lines.specs.Input.{Fetched, InputView, Gives, answer_with}
use Rattle.reis_lines.specs.Held.{AnswersBehind}
use Rattle.ei_backend.specs.declared.outside.Fault.{Fault}
use Rattle.ei_backend.specs.declared.outside.LastAnswer.{LastAnswer}
use Rattle.reis_lines.specs.Given.{GaveBehind, came_to_end, given_since}

-- what an input gave, written behind the first e bytes of a room
pub fetched_gave : (r : Result ℕ Fault) (room bytes post old new : List ℕ) (e : ℕ) → e ≤ length room → IfOk r (λ n. n ≤ length bytes) → Gives old new r bytes →
    IfOk r (λ n. GaveBehind old new (take e room) (take (e + n) (take e room ++ (bytes ++ post))))
fetched_gave (Err x) room bytes post old new e le lt g = tt
fetched_gave (Ok n) room bytes post old new e le lt g =
    let len : length (take e room) ≡ e = length-take-le e room le in
    record {
      bytes = take n bytes;
      gave = g;
      held =
          ap (λ k. take (k + n) (take e room ++ (bytes ++ post))) (sym len) ∙ take-append-add (take e room) (bytes ++ post) n
          ∙ ap (λ t. take e room ++ t) (take-append-le n bytes post lt);
    }

pub fetched_none : (r : Result ℕ Fault) (bytes old new : List ℕ) → Gives old new r bytes → OnErr r (new ≡ old)
fetched_none (Err x) bytes old new g = g
fetched_none (Ok n) bytes old new g = tt

-- and what it answered
pub fetched_answer : (r : Result ℕ Fault) (room bytes post : List ℕ) (old new : List Fetched) (e : ℕ) → e ≤ length room → IfOk r (λ n. n ≤ length bytes) →
    new ≡ old ++ answer_with r bytes ∷ [] → IfOk r (λ n. AnswersBehind old new (take e room) (take (e + n) (take e room ++ (bytes ++ post))) n)
fetched_answer (Err x) room bytes post old new e le lt is = tt
fetched_answer (Ok n) room bytes post old new e le lt is =
    let len : length (take e room) ≡ e = length-take-le e room le in
    record {
      bytes = take n bytes;
      answered = is;
      size = length-take-le n bytes lt;
      held =
          ap (λ k. take (k + n) (take e room ++ (bytes ++ post))) (sym len) ∙ take-append-add (take e room) (bytes ++ post) n
          ∙ ap (λ t. take e room ++ t) (take-append-le n bytes post lt);
    }

pub fetched_fault : (r : Result ℕ Fault) (bytes : List ℕ) (old new : List Fetched) → new ≡ old ++ answer_with r bytes ∷ [] → OnErr r (new ≡ old ++ Err (record {}) ∷ [])
fetched_fault (Err x) bytes old new is = is
fetched_fault (Ok n) bytes old new is = tt

-- nothing was given
pub gave_none : (old new a b : List ℕ) → new ≡ old → b ≡ a → GaveBehind old new a b
gave_none old new a b same held = record { bytes = []; gave = same ∙ sym (append-nil old); held = held ∙ sym (append-nil a) }

-- what was given behind the bytes of a room is behind those held
pub read_gave : (moved b held old new : List ℕ) (s e n : ℕ) → drop s (take e moved) ≡ held → s ≤ e → e ≤ length moved →
    GaveBehind old new (take e moved) (take (e + n) b) → GaveBehind old new held (drop s (take (e + n) b))
read_gave moved b held old new s e n is order within g = record {
  bytes = g.bytes;
  gave = g.gave;
  held =
      let len : length (take e moved) ≡ e = length-take-le e moved within in
      ap (drop s) g.held ∙ drop-append-le s (take e moved) g.bytes (omega (arith, len)) ∙ ap (λ t. t ++ g.bytes) is;
}

pub read_answer : (moved b held : List ℕ) (old new : List Fetched) (s e n : ℕ) → drop s (take e moved) ≡ held → s ≤ e → e ≤ length moved →
    AnswersBehind old new (take e moved) (take (e + n) b) n → AnswersBehind old new held (drop s (take (e + n) b)) n
read_answer moved b held old new s e n is order within g = record {
  bytes = g.bytes;
  answered = g.answered;
  size = g.size;
  held =
      let len : length (take e moved) ≡ e = length-take-le e moved within in
      ap (drop s) g.held ∙ drop-append-le s (take e moved) g.bytes (omega (arith, len)) ∙ ap (λ t. t ++ g.bytes) is;
}

-- more was given
pub gave_on : (x y z a b b' c : List ℕ) → GaveBehind x y a b → b' ≡ b → GaveBehind y z b' c → GaveBehind x z a c
gave_on x y z a b b' c p is q = record {
  bytes = p.bytes ++ q.bytes;
  gave = q.gave ∙ ap (λ t. t ++ q.bytes) p.gave ∙ append_assoc x p.bytes q.bytes;
  held = q.held ∙ ap (λ t. t ++ q.bytes) (is ∙ p.held) ∙ append_assoc a p.bytes q.bytes;
}

-- what was given behind some bytes is what was given since
pub since_is : {I : Type 0} (view : I → InputView) (old new : I) (bytes : List ℕ) → (view new).given ≡ (view old).given ++ bytes → given_since view old new ≡ bytes
since_is view old new bytes gave = ap (drop (length (view old).given)) gave ∙ drop-append_seam (view old).given bytes

pub since_gave : {I : Type 0} (view : I → InputView) (old new : I) (bytes : List ℕ) → (view new).given ≡ (view old).given ++ bytes → (view new).given ≡ (view old).given ++ given_since view old new
since_gave view old new bytes gave = gave ∙ ap (λ v. (view old).given ++ v) (sym (since_is view old new bytes gave))

-- ---- whether the input answered its end

-- some bytes were read
pub some_read : (n : ℕ) (last : LastAnswer) → last ≡ answer_at n → (n ≡ 0 → ⊥) → is_end last ≡ false
some_read zero last is some = absurd (some refl)
some_read (suc n) last is some = ap is_end is

not_come : (found : Option ℕ) (count : ℕ) → (is_some found ≡ true) ⊎ (131073 ≤ count) → came_to_end (Ok found) count ≡ false
not_come (Some n) count stop = refl
not_come None count (inl some) = absurd cc
not_come None count (inr full) = grind arith

-- a line was found, or too many bytes are held: the input's last answer is no end, or it wasn't asked
pub asked_found : {I : Type 0} (view : I → InputView) (old new : I) (found : Option ℕ) (count : ℕ) → (is_some found ≡ true) ⊎ (131073 ≤ count) →
    (new ≡ old) ⊎ (is_end (view new).last ≡ false) →
    ((new ≡ old) × (came_to_end (Ok found) count ≡ false)) ⊎ (is_end (view new).last ≡ came_to_end (Ok found) count)
asked_found view old new found count stop (inl same) = inl (same, not_come found count stop)
asked_found view old new found count stop (inr open_yet) = inr (open_yet ∙ sym (not_come found count stop))
