-- Reading a stream, step by step, and that it does not matter how the stream was cut.
use Rattle.std.proofs.Common.{◌≡◌, ℕ, zero, suc, ◌<◌, List, ◌∷◌, ◌++◌, length, refl, sym, ap, ◌∙◌, arith}
use Rattle.ei_spec.specs.Message.{Raw, Front, Short, Unlawful, Whole, front}
use Rattle.ei_spec.specs.Stream.{Verdict, Accepted, Final, Refused, Waiting, Ended, HeaderLength, Refusal, reading, read_within, read, go_on}
use Rattle.ei_spec.proofs.FrontLaws.{shorter, whole_more, unlawful_more}

module _ {E : Type 0} (judge : List Raw → Raw → Verdict E) where
  -- ---- one step, by what stands at the front

  within_short : (k : ℕ) (past : List Raw) (bytes : List ℕ) → front bytes ≡ Short → read_within judge (suc k) past bytes ≡ reading past bytes Waiting
  unfolding read_within
  within_short k past bytes e = rw (e, read_within) refl

  within_unlawful : (k : ℕ) (past : List Raw) (bytes : List ℕ) (n : ℕ) → front bytes ≡ Unlawful n → read_within judge (suc k) past bytes ≡ reading past bytes (HeaderLength n)
  unfolding read_within
  within_unlawful k past bytes n e = rw (e, read_within) refl

  within_accepted : (k : ℕ) (past : List Raw) (bytes : List ℕ) (m : Raw) (rest : List ℕ) → front bytes ≡ Whole m rest → judge past m ≡ Accepted → read_within judge (suc k) past bytes ≡ read_within judge k (m ∷ past) rest
  unfolding read_within
  within_accepted k past bytes m rest e j = rw (e, j, read_within) refl

  within_final : (k : ℕ) (past : List Raw) (bytes : List ℕ) (m : Raw) (rest : List ℕ) → front bytes ≡ Whole m rest → judge past m ≡ Final → read_within judge (suc k) past bytes ≡ reading (m ∷ past) rest Ended
  unfolding read_within
  within_final k past bytes m rest e j = rw (e, j, read_within) refl

  within_refused : (k : ℕ) (past : List Raw) (bytes : List ℕ) (m : Raw) (rest : List ℕ) (r : E) → front bytes ≡ Whole m rest → judge past m ≡ Refused r → read_within judge (suc k) past bytes ≡ reading past bytes (Refusal r)
  unfolding read_within
  within_refused k past bytes m rest r e j = rw (e, j, read_within) refl

  -- ---- more fuel than bytes changes nothing

  abbrev Same : ℕ → ℕ → Type 0
  Same j k = (past : List Raw) (bytes : List ℕ) → length bytes < j → length bytes < k → read_within judge j past bytes ≡ read_within judge k past bytes

  same_judged : (j k : ℕ) → Same j k → (past : List Raw) (bytes : List ℕ) (m : Raw) (rest : List ℕ) (v : Verdict E) → front bytes ≡ Whole m rest → judge past m ≡ v → length bytes < suc j → length bytes < suc k → read_within judge (suc j) past bytes ≡ read_within judge (suc k) past bytes
  same_judged j k same past bytes m rest Accepted e v lj lk =
      let less = shorter bytes m rest e in
      within_accepted j past bytes m rest e v ∙ same (m ∷ past) rest (omega arith) (omega arith) ∙ sym (within_accepted k past bytes m rest e v)
  same_judged j k same past bytes m rest Final e v lj lk = within_final j past bytes m rest e v ∙ sym (within_final k past bytes m rest e v)
  same_judged j k same past bytes m rest (Refused r) e v lj lk = within_refused j past bytes m rest r e v ∙ sym (within_refused k past bytes m rest r e v)

  same_front : (j k : ℕ) → Same j k → (past : List Raw) (bytes : List ℕ) (f : Front) → front bytes ≡ f → length bytes < suc j → length bytes < suc k → read_within judge (suc j) past bytes ≡ read_within judge (suc k) past bytes
  same_front j k same past bytes Short e lj lk = within_short j past bytes e ∙ sym (within_short k past bytes e)
  same_front j k same past bytes (Unlawful n) e lj lk = within_unlawful j past bytes n e ∙ sym (within_unlawful k past bytes n e)
  same_front j k same past bytes (Whole m rest) e lj lk = same_judged j k same past bytes m rest (judge past m) e refl lj lk

  enough : (j k : ℕ) → Same j k
  enough zero k past bytes lj lk = absurd (omega arith)
  enough (suc j) zero past bytes lj lk = absurd (omega arith)
  enough (suc j) (suc k) past bytes lj lk = same_front j k (enough j k) past bytes (front bytes) refl lj lk

  -- ---- the five steps

  pub read_short : (past : List Raw) (bytes : List ℕ) → front bytes ≡ Short → read judge past bytes ≡ reading past bytes Waiting
  unfolding read
  read_short past bytes e = within_short (length bytes) past bytes e

  pub read_unlawful : (past : List Raw) (bytes : List ℕ) (n : ℕ) → front bytes ≡ Unlawful n → read judge past bytes ≡ reading past bytes (HeaderLength n)
  unfolding read
  read_unlawful past bytes n e = within_unlawful (length bytes) past bytes n e

  pub read_accepted : (past : List Raw) (bytes : List ℕ) (m : Raw) (rest : List ℕ) → front bytes ≡ Whole m rest → judge past m ≡ Accepted → read judge past bytes ≡ read judge (m ∷ past) rest
  unfolding read
  read_accepted past bytes m rest e j =
      let less = shorter bytes m rest e in
      within_accepted (length bytes) past bytes m rest e j ∙ enough (length bytes) (suc (length rest)) (m ∷ past) rest less (omega arith)

  pub read_final : (past : List Raw) (bytes : List ℕ) (m : Raw) (rest : List ℕ) → front bytes ≡ Whole m rest → judge past m ≡ Final → read judge past bytes ≡ reading (m ∷ past) rest Ended
  unfolding read
  read_final past bytes m rest e j = within_final (length bytes) past bytes m rest e j

  pub read_refused : (past : List Raw) (bytes : List ℕ) (m : Raw) (rest : List ℕ) (r : E) → front bytes ≡ Whole m rest → judge past m ≡ Refused r → read judge past bytes ≡ reading past bytes (Refusal r)
  unfolding read
  read_refused past bytes m rest r e j = within_refused (length bytes) past bytes m rest r e j

  -- ---- the cut

  abbrev Cuts : ℕ → Type 0
  Cuts k = (past : List Raw) (bytes more : List ℕ) → length bytes < k → read judge past (bytes ++ more) ≡ go_on judge (read judge past bytes) more

  cut_judged : (k : ℕ) → Cuts k → (past : List Raw) (bytes more : List ℕ) (m : Raw) (rest : List ℕ) (v : Verdict E) → front bytes ≡ Whole m rest → judge past m ≡ v → length bytes < suc k → read judge past (bytes ++ more) ≡ go_on judge (read judge past bytes) more
  unfolding go_on
  cut_judged k cuts past bytes more m rest Accepted e v lt =
      let less = shorter bytes m rest e in
      read_accepted past (bytes ++ more) m (rest ++ more) (whole_more bytes more m rest e) v ∙ cuts (m ∷ past) rest more (omega arith) ∙ ap (λ r. go_on judge r more) (sym (read_accepted past bytes m rest e v))
  cut_judged k cuts past bytes more m rest Final e v lt =
      read_final past (bytes ++ more) m (rest ++ more) (whole_more bytes more m rest e) v ∙ ap (λ r. go_on judge r more) (sym (read_final past bytes m rest e v))
  cut_judged k cuts past bytes more m rest (Refused r) e v lt =
      read_refused past (bytes ++ more) m (rest ++ more) r (whole_more bytes more m rest e) v ∙ ap (λ r. go_on judge r more) (sym (read_refused past bytes m rest r e v))

  cut_front : (k : ℕ) → Cuts k → (past : List Raw) (bytes more : List ℕ) (f : Front) → front bytes ≡ f → length bytes < suc k → read judge past (bytes ++ more) ≡ go_on judge (read judge past bytes) more
  unfolding go_on
  cut_front k cuts past bytes more Short e lt = ap (λ r. go_on judge r more) (sym (read_short past bytes e))
  cut_front k cuts past bytes more (Unlawful n) e lt = read_unlawful past (bytes ++ more) n (unlawful_more bytes more n e) ∙ ap (λ r. go_on judge r more) (sym (read_unlawful past bytes n e))
  cut_front k cuts past bytes more (Whole m rest) e lt = cut_judged k cuts past bytes more m rest (judge past m) e refl lt

  cut_within : (k : ℕ) → Cuts k
  cut_within zero past bytes more lt = absurd (omega arith)
  cut_within (suc k) past bytes more lt = cut_front k (cut_within k) past bytes more (front bytes) refl lt

  pub cut : (past : List Raw) (bytes more : List ℕ) → read judge past (bytes ++ more) ≡ go_on judge (read judge past bytes) more
  cut past bytes more = cut_within (suc (length bytes)) past bytes more (omega arith)
