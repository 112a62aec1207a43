-- Where no whole message is left, few bytes are unread.
use Rattle.std.proofs.Common.{◌≡◌, ◌<◌, ℕ, zero, suc, List, [], ◌∷◌, length, refl, sym, ap, ◌∙◌, arith}
use Rattle.ei_spec.specs.Message.{Raw, Front, Short, Unlawful, Whole, front}
use Rattle.ei_spec.specs.Stream.{Verdict, Accepted, Final, Refused, Waiting, Reading, read}
use Rattle.ei_spec.proofs.FrontLaws.{shorter}
use Rattle.ei_spec.proofs.GoesOn.{read_short, read_unlawful, read_accepted, read_final, read_refused}
use Rattle.ei_session.specs.Setup.{Setup}
use Rattle.ei_session.specs.Refusals.{judge}
use Rattle.ei_session.specs.Served.{reading_of}
use Rattle.ei_session.proofs.AcceptedLaws.{front_short}

module _ {E : Type 0} (judged : List Raw → Raw → Verdict E) where
  abbrev IsLeftShort : Reading E → Type 0
  IsLeftShort r = r.stop ≡ Waiting → front r.rest ≡ Short

  left_so : (r s : Reading E) → r ≡ s → IsLeftShort s → IsLeftShort r
  left_so r s e h w = ap (λ (x : Reading E). front x.rest) e ∙ h (sym (ap (λ (x : Reading E). x.stop) e) ∙ w)

  abbrev Leaves : ℕ → Type 0
  Leaves k = (past : List Raw) (bytes : List ℕ) → length bytes < k → IsLeftShort (read judged past bytes)

  left_judged : (k : ℕ) → Leaves k → (past : List Raw) (bytes : List ℕ) (m : Raw) (rest : List ℕ) (v : Verdict E) → front bytes ≡ Whole m rest → judged past m ≡ v → length bytes < suc k → IsLeftShort (read judged past bytes)
  left_judged k leaves past bytes m rest Accepted e v lt =
      let less = shorter bytes m rest e in
      left_so _ _ (read_accepted judged past bytes m rest e v) (leaves (m ∷ past) rest (omega arith))
  left_judged k leaves past bytes m rest Final e v lt = left_so _ _ (read_final judged past bytes m rest e v) (λ w. absurd cc)
  left_judged k leaves past bytes m rest (Refused r) e v lt = left_so _ _ (read_refused judged past bytes m rest r e v) (λ w. absurd cc)

  left_front : (k : ℕ) → Leaves k → (past : List Raw) (bytes : List ℕ) (f : Front) → front bytes ≡ f → length bytes < suc k → IsLeftShort (read judged past bytes)
  left_front k leaves past bytes Short e lt = left_so _ _ (read_short judged past bytes e) (λ w. e)
  left_front k leaves past bytes (Unlawful n) e lt = left_so _ _ (read_unlawful judged past bytes n e) (λ w. absurd cc)
  left_front k leaves past bytes (Whole m rest) e lt = left_judged k leaves past bytes m rest (judged past m) e refl lt

  left_within : (k : ℕ) → Leaves k
  left_within zero past bytes lt = absurd (omega arith)
  left_within (suc k) past bytes lt = left_front k (left_within k) past bytes (front bytes) refl lt

  left_short : (past : List Raw) (bytes : List ℕ) → IsLeftShort (read judged past bytes)
  left_short past bytes = left_within (suc (length bytes)) past bytes (omega arith)

-- what follows the messages of a stream that may go on
pub unread_few : (setup : Setup) (bytes : List ℕ) → (reading_of setup bytes).stop ≡ Waiting → length (reading_of setup bytes).rest < 1048576
unfolding reading_of
unread_few setup bytes w = front_short _ (left_short (judge setup) [] bytes w)
