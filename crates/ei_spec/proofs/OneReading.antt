-- What reading gives is the one reading that the stream has.
use Rattle.std.proofs.Common.{◌≡◌, ℕ, zero, suc, ◌<◌, List, [], ◌∷◌, ◌++◌, length, refl, sym, ap, ◌∙◌, append_assoc, arith}
use Rattle.ei_spec.specs.Message.{Raw, bytes_of, IsBytes, Front, Short, Unlawful, Whole, front}
use Rattle.ei_spec.specs.Stream.{Verdict, Accepted, Final, Refused, Stop, Waiting, Ended, HeaderLength, Refusal, Reading, reading, read, stream_of, AreOpen}
use Rattle.ei_spec.specs.Stream.{StopsSo, IsReading}
use Rattle.ei_spec.proofs.FrontLaws.{shorter, front_again, front_bytes}
use Rattle.ei_spec.proofs.GoesOn.{read_short, read_unlawful, read_accepted, read_final, read_refused}

module _ {E : Type 0} (judge : List Raw → Raw → Verdict E) where
  -- ---- the reading of a stream is what read gives

  pub read_open : (past : List Raw) (rest : List ℕ) → AreOpen judge past → read judge [] (stream_of past ++ rest) ≡ read judge past rest
  unfolding AreOpen stream_of
  read_open [] rest h = refl
  read_open (m ∷ past) rest h =
      ap (read judge []) (append_assoc (stream_of past) (bytes_of m) rest) ∙ read_open past (bytes_of m ++ rest) h.2 ∙ read_accepted judge past (bytes_of m ++ rest) m rest (front_again m rest h.0) h.1

  only_stop : (stop : Stop E) (past : List Raw) (rest : List ℕ) → StopsSo judge stop past rest → read judge [] (stream_of past ++ rest) ≡ reading past rest stop
  unfolding StopsSo stream_of
  only_stop Waiting past rest h = read_open past rest h.0 ∙ read_short judge past rest h.1
  only_stop Ended [] rest h = absurd h
  only_stop Ended (m ∷ past) rest h =
      ap (read judge []) (append_assoc (stream_of past) (bytes_of m) rest) ∙ read_open past (bytes_of m ++ rest) h.2 ∙ read_final judge past (bytes_of m ++ rest) m rest (front_again m rest h.0) h.1
  only_stop (HeaderLength n) past rest h = read_open past rest h.0 ∙ read_unlawful judge past rest n h.1
  only_stop (Refusal r) past rest h = read_open past rest h.0 ∙ read_refused judge past rest h.1.0 h.1.1 r h.1.2 h.1.3

  pub only_reading : (stream : List ℕ) (r : Reading E) → IsReading judge stream r → read judge [] stream ≡ r
  only_reading stream r h = ap (read judge []) h.bytes ∙ only_stop r.stop r.past r.rest h.stops

  -- ---- and read gives one

  Reads : List Raw → List ℕ → Type 0
  Reads past bytes = IsReading judge (stream_of past ++ bytes) (read judge past bytes)

  more : ℕ → Type 0
  more k = (past : List Raw) (bytes : List ℕ) → AreOpen judge past → IsBytes bytes → length bytes < k → Reads past bytes

  reads_judged : (k : ℕ) → more k → (past : List Raw) (bytes : List ℕ) (m : Raw) (rest : List ℕ) (v : Verdict E) → front bytes ≡ Whole m rest → judge past m ≡ v → AreOpen judge past → IsBytes bytes → length bytes < suc k → Reads past bytes
  unfolding more Reads AreOpen StopsSo stream_of
  reads_judged k next past bytes m rest Accepted e v all_open h lt =
      let f = front_bytes bytes m rest h e in
      let less = shorter bytes m rest e in
      let are : stream_of past ++ bytes ≡ stream_of (m ∷ past) ++ rest = ap (λ (b : List ℕ). stream_of past ++ b) f.0 ∙ sym (append_assoc (stream_of past) (bytes_of m) rest) in
      rw (are, read_accepted judge past bytes m rest e v) (next (m ∷ past) rest (f.1, v, all_open) f.2 (omega arith))
  reads_judged k next past bytes m rest Final e v all_open h lt =
      let f = front_bytes bytes m rest h e in
      let are : stream_of past ++ bytes ≡ stream_of (m ∷ past) ++ rest = ap (λ (b : List ℕ). stream_of past ++ b) f.0 ∙ sym (append_assoc (stream_of past) (bytes_of m) rest) in
      rw (read_final judge past bytes m rest e v) (record { bytes = are; stops = (f.1, v, all_open) })
  reads_judged k next past bytes m rest (Refused r) e v all_open h lt =
      rw (read_refused judge past bytes m rest r e v) (record { bytes = refl; stops = (all_open, (m, rest, e, v)) })

  reads_front : (k : ℕ) → more k → (past : List Raw) (bytes : List ℕ) (f : Front) → front bytes ≡ f → AreOpen judge past → IsBytes bytes → length bytes < suc k → Reads past bytes
  unfolding more Reads StopsSo
  reads_front k next past bytes Short e all_open h lt = rw (read_short judge past bytes e) (record { bytes = refl; stops = (all_open, e) })
  reads_front k next past bytes (Unlawful n) e all_open h lt = rw (read_unlawful judge past bytes n e) (record { bytes = refl; stops = (all_open, e) })
  reads_front k next past bytes (Whole m rest) e all_open h lt = reads_judged k next past bytes m rest (judge past m) e refl all_open h lt

  reads_within : (k : ℕ) → more k
  unfolding more
  reads_within zero past bytes all_open h lt = absurd (omega arith)
  reads_within (suc k) past bytes all_open h lt = reads_front k (reads_within k) past bytes (front bytes) refl all_open h lt

  pub is_reading : (stream : List ℕ) → IsBytes stream → IsReading judge stream (read judge [] stream)
  unfolding more Reads AreOpen stream_of
  is_reading stream h = reads_within (suc (length stream)) [] stream tt h (omega arith)

  -- ---- and it is the longest

  Grows : ℕ → Type 0
  Grows k = (past : List Raw) (bytes : List ℕ) → length bytes < k → (more : List Raw) × ((read judge past bytes).past ≡ more ++ past)

  grows_judged : (k : ℕ) → Grows k → (past : List Raw) (bytes : List ℕ) (m : Raw) (rest : List ℕ) (v : Verdict E) → front bytes ≡ Whole m rest → judge past m ≡ v → length bytes < suc k → (more : List Raw) × ((read judge past bytes).past ≡ more ++ past)
  unfolding Grows
  grows_judged k next past bytes m rest Accepted e v lt =
      let less = shorter bytes m rest e in
      let h = next (m ∷ past) rest (omega arith) in
      (h.0 ++ (m ∷ []), ap (λ (r : Reading E). r.past) (read_accepted judge past bytes m rest e v) ∙ h.1 ∙ sym (append_assoc h.0 (m ∷ []) past))
  grows_judged k next past bytes m rest Final e v lt = (m ∷ [], ap (λ (r : Reading E). r.past) (read_final judge past bytes m rest e v))
  grows_judged k next past bytes m rest (Refused r) e v lt = ([], ap (λ (r : Reading E). r.past) (read_refused judge past bytes m rest r e v))

  grows_front : (k : ℕ) → Grows k → (past : List Raw) (bytes : List ℕ) (f : Front) → front bytes ≡ f → length bytes < suc k → (more : List Raw) × ((read judge past bytes).past ≡ more ++ past)
  grows_front k next past bytes Short e lt = ([], ap (λ (r : Reading E). r.past) (read_short judge past bytes e))
  grows_front k next past bytes (Unlawful n) e lt = ([], ap (λ (r : Reading E). r.past) (read_unlawful judge past bytes n e))
  grows_front k next past bytes (Whole m rest) e lt = grows_judged k next past bytes m rest (judge past m) e refl lt

  grows : (k : ℕ) → Grows k
  unfolding Grows
  grows zero past bytes lt = absurd (omega arith)
  grows (suc k) past bytes lt = grows_front k (grows k) past bytes (front bytes) refl lt

  pub longest : (stream : List ℕ) (past : List Raw) (rest : List ℕ) → stream ≡ stream_of past ++ rest → AreOpen judge past → (more : List Raw) × ((read judge [] stream).past ≡ more ++ past)
  unfolding Grows
  longest stream past rest e all_open =
      let h = grows (suc (length rest)) past rest (omega arith) in
      (h.0, ap (λ (b : List ℕ). (read judge [] b).past) e ∙ ap (λ (r : Reading E). r.past) (read_open past rest all_open) ∙ h.1)
