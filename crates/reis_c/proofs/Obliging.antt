-- What a connection's calls make of a connection behind the word.
use Rattle.std.proofs.Common.{◌≡◌, ◌≢◌, ℕ, ◌==◌, ◌≤◌, Bool, true, false, List, length, take, map, min, Option, None}
use Rattle.std.proofs.Common.{Result, Ok, Err, if◌then◌else◌, refl, ap, sym, subst, ◌∙◌, arith}
use Rattle.std.specs.Prelude.{nat_lt, is_some, OnOk, OnErr, IfErr}
use Rattle.std.proofs.lemmas.Bool.{ltb-false}
use Rattle.std.proofs.lemmas.Grind.{common_steps}
use Rattle.ei_spec.specs.declared.handle.Handle.{Handle}
use Rattle.ei_backend.specs.Outgoing.{unsent_after}
use Rattle.ei_request.specs.Connection.{ConnectionView}
use Rattle.reis_eis.specs.declared.call_error.CallError.{CallError}
use Rattle.reis_eis.specs.declared.call_error.CallError.TheVariants as call_error
use Rattle.reis_eis.specs.View.{EisView}
use Rattle.reis_eis.specs.Words.{unsent_in}
use Rattle.reis_eis.specs.Starting.{with_unsent_in}
use Rattle.reis_eis.specs.Feeding.{Feeds}
use Rattle.reis_eis.specs.Refusals.{Tells, TellsOrWants, feed_answer, end_answer, sent_answer}
use Rattle.reis_eis.specs.Acting.{ActsOn, IsKept, refusal}
use Rattle.reis_strict.specs.View.{StrictView}
use Rattle.reis_c.specs.declared.connection.Handed.{Handed}
use Rattle.reis_c.specs.declared.connection.HeldConnection.{HeldConnection}
use Rattle.reis_c.specs.Numbers.{OK, NO_MEMORY}
use Rattle.reis_c.specs.Answers.{refusal_number, outcome_number, reason_number}
use Rattle.reis_c.specs.Connecting.{FeedsConnection, EndsConnection, SendsBytes, Tries, Does, without_input}
use Rattle.reis_c.specs.Handles.{handle_of}
use Rattle.reis_c.proofs.Working.{lent_length, lent_whole}

abbrev pub behind : EisView → Handed → Option StrictView → HeldConnection
behind c last policy = record { connection = c; handed = last; policy = policy }

-- no refusal is told as done
pub refused : (e : CallError) → refusal_number e ≢ OK
refused call_error.Over h = absurd (omega (arith, h))
refused call_error.NotConnected h = absurd (omega (arith, h))
refused call_error.Empty h = absurd (omega (arith, h))
refused call_error.TooLong h = absurd (omega (arith, h))
refused call_error.TooManyHandles h = absurd (omega (arith, h))
refused call_error.NotUnsent h = absurd (omega (arith, h))
refused call_error.Gone h = absurd (omega (arith, h))
refused call_error.WrongRole h = absurd (omega (arith, h))
refused call_error.Capabilities h = absurd (omega (arith, h))
refused call_error.NoKeyboard h = absurd (omega (arith, h))
refused call_error.MessageTooLong h = absurd (omega (arith, h))
refused call_error.IdsExhausted h = absurd (omega (arith, h))
refused call_error.NoMemory h = absurd (omega (arith, h))

-- the number of an error that tells a reason is that of the reason
told : (why : Option CallError) (e : CallError) → TellsOrWants why e → refusal_number e ≢ NO_MEMORY → refusal_number e ≡ reason_number why
told why call_error.Over t h = ap reason_number (sym t)
told why call_error.NotConnected t h = ap reason_number (sym t)
told why call_error.Empty t h = ap reason_number (sym t)
told why call_error.TooLong t h = ap reason_number (sym t)
told why call_error.TooManyHandles t h = ap reason_number (sym t)
told why call_error.NotUnsent t h = ap reason_number (sym t)
told why call_error.Gone t h = ap reason_number (sym t)
told why call_error.WrongRole t h = ap reason_number (sym t)
told why call_error.Capabilities t h = ap reason_number (sym t)
told why call_error.NoKeyboard t h = ap reason_number (sym t)
told why call_error.MessageTooLong t h = ap reason_number (sym t)
told why call_error.IdsExhausted t h = ap reason_number (sym t)
told why call_error.NoMemory t h = absurd (h refl)

-- an error that tells a reason tells it or wants memory
wants : (why : Option CallError) (e : CallError) → Tells why e → TellsOrWants why e
wants why call_error.Over t = t
wants why call_error.NotConnected t = t
wants why call_error.Empty t = t
wants why call_error.TooLong t = t
wants why call_error.TooManyHandles t = t
wants why call_error.NotUnsent t = t
wants why call_error.Gone t = t
wants why call_error.WrongRole t = t
wants why call_error.Capabilities t = t
wants why call_error.NoKeyboard t = t
wants why call_error.MessageTooLong t = t
wants why call_error.IdsExhausted t = t
wants why call_error.NoMemory t = tt

-- and where its number is that of memory, there is none
memory_only : (why : Option CallError) (e : CallError) → Tells why e → refusal_number e ≡ NO_MEMORY → why ≡ None
memory_only why call_error.Over t h = absurd (omega (arith, h))
memory_only why call_error.NotConnected t h = absurd (omega (arith, h))
memory_only why call_error.Empty t h = absurd (omega (arith, h))
memory_only why call_error.TooLong t h = absurd (omega (arith, h))
memory_only why call_error.TooManyHandles t h = absurd (omega (arith, h))
memory_only why call_error.NotUnsent t h = absurd (omega (arith, h))
memory_only why call_error.Gone t h = absurd (omega (arith, h))
memory_only why call_error.WrongRole t h = absurd (omega (arith, h))
memory_only why call_error.Capabilities t h = absurd (omega (arith, h))
memory_only why call_error.NoKeyboard t h = absurd (omega (arith, h))
memory_only why call_error.MessageTooLong t h = absurd (omega (arith, h))
memory_only why call_error.IdsExhausted t h = absurd (omega (arith, h))
memory_only why call_error.NoMemory t h = t

-- what is done is numbered as done
accepted_is : (why : Option CallError) → why ≡ None → OK ≡ reason_number why
accepted_is why e = ap reason_number (sym e)

-- ---- calls that are refused for a reason, or do something

module _ (reason : ConnectionView → Option CallError) (does : ConnectionView → ConnectionView → Type 0) (old new : EisView) (last : Handed) (p : Option StrictView) where
  pub tried_ok : ActsOn does old new → refusal reason old ≡ None → Tries reason does OK (behind old last p) (behind new last p)
  tried_ok done accepted = record {
    answers = λ _. accepted_is (refusal reason old) accepted;
    done = λ _. done;
    kept = λ h. absurd (h refl);
    handed = refl;
    policy = refl;
  }

  pub tried_err : (e : CallError) → TellsOrWants (refusal reason old) e → IsKept old new → Tries reason does (refusal_number e) (behind old last p) (behind new last p)
  tried_err e why kept = record {
    answers = λ h. told (refusal reason old) e why h;
    done = λ h. absurd (refused e h);
    kept = λ _. kept;
    handed = refl;
    policy = refl;
  }

  pub did_ok : ActsOn does old new → refusal reason old ≡ None → Does reason does OK (behind old last p) (behind new last p)
  did_ok done accepted = record { tries = tried_ok done accepted; memory = λ h. absurd (omega (arith, h)) }

  pub did_err : (e : CallError) → Tells (refusal reason old) e → IsKept old new → Does reason does (refusal_number e) (behind old last p) (behind new last p)
  did_err e why kept = record {
    tries = tried_err e (wants (refusal reason old) e why) kept;
    memory = λ h. memory_only (refusal reason old) e why h;
  }

  did_so : (r : Result Unit CallError) → OnOk r (ActsOn does old new) → OnOk r (refusal reason old ≡ None) → IfErr r (Tells (refusal reason old))
      → OnErr r (IsKept old new) → Does reason does (outcome_number r) (behind old last p) (behind new last p)
  did_so (Ok u) done accepted why kept = did_ok done accepted
  did_so (Err e) done accepted why kept = did_err e why kept

  pub did : (r : Result Unit CallError) (answer : ℕ) → answer ≡ outcome_number r → OnOk r (ActsOn does old new) → OnOk r (refusal reason old ≡ None)
      → IfErr r (Tells (refusal reason old)) → OnErr r (IsKept old new) → Does reason does answer (behind old last p) (behind new last p)
  did r answer a done accepted why kept =
      subst (λ (n : ℕ). Does reason does n (behind old last p) (behind new last p)) (sym a) (did_so r done accepted why kept)

-- ---- what comes and goes

module _ (old new : EisView) (last : Handed) (p : Option StrictView) where
  no_more_so : (r : Result Unit CallError) → r ≡ end_answer (is_some old.ending) → OnErr r (new ≡ old) → OnOk r (new ≡ without_input old)
      → EndsConnection (outcome_number r) (behind old last p) (behind new last p)
  no_more_so (Ok u) e kept ends = record { answers = ap outcome_number e; kept = λ h. absurd (h refl); ends = λ _. ap (λ v. behind v last p) ends }
  no_more_so (Err e₁) e kept ends = record {
    answers = ap outcome_number e;
    kept = λ _. ap (λ v. behind v last p) kept;
    ends = λ h. absurd (refused e₁ h);
  }

  pub no_more : (r : Result Unit CallError) (answer : ℕ) → answer ≡ outcome_number r → r ≡ end_answer (is_some old.ending) → OnErr r (new ≡ old)
      → OnOk r (new ≡ without_input old) → EndsConnection answer (behind old last p) (behind new last p)
  no_more r answer a e kept ends =
      subst (λ (n : ℕ). EndsConnection n (behind old last p) (behind new last p)) (sym a) (no_more_so r e kept ends)

module _ (bytes : ℕ) (old new : EisView) (last : Handed) (p : Option StrictView) where
  abbrev left : EisView
  left = with_unsent_in old (unsent_after bytes (unsent_in old.phase))

  sent_so : (r : Result Unit CallError) → r ≡ sent_answer bytes (length (unsent_in old.phase).bytes) → OnErr r (new ≡ old) → OnOk r (new ≡ left)
      → SendsBytes bytes (outcome_number r) (behind old last p) (behind new last p)
  sent_so (Ok u) e kept dropped = record { answers = ap outcome_number e; kept = λ h. absurd (h refl); dropped = λ _. ap (λ v. behind v last p) dropped }
  sent_so (Err e₁) e kept dropped = record {
    answers = ap outcome_number e;
    kept = λ _. ap (λ v. behind v last p) kept;
    dropped = λ h. absurd (refused e₁ h);
  }

  pub sent_bytes : (r : Result Unit CallError) (answer : ℕ) → answer ≡ outcome_number r → r ≡ sent_answer bytes (length (unsent_in old.phase).bytes)
      → OnErr r (new ≡ old) → OnOk r (new ≡ left) → SendsBytes bytes answer (behind old last p) (behind new last p)
  sent_bytes r answer a e kept dropped =
      subst (λ (n : ℕ). SendsBytes bytes n (behind old last p) (behind new last p)) (sym a) (sent_so r e kept dropped)

-- ---- a piece

-- so many more than are taken tell as well that they are too many
many_told : (n : ℕ) → nat_lt 64 (min n 65) ≡ nat_lt 64 n
many_told n = grind (arith, common_steps)

same_answer : (over : Bool) (bytes n : ℕ) → feed_answer over bytes (min n 65) ≡ feed_answer over bytes n
same_answer over bytes n = rw (many_told n) refl

abbrev tests : Bool → Bool → Bool → Bool → Result Unit CallError
tests over empty long many = if over then Err call_error.Over
    else (if empty then Err call_error.Empty
    else (if long then Err call_error.TooLong
    else (if many then Err call_error.TooManyHandles
    else Ok tt)))

last_test : (over empty long many : Bool) → Ok tt ≡ tests over empty long many → many ≡ false
last_test over empty long false e = refl
last_test true empty long true e = grind (arith, e)
last_test false true long true e = grind (arith, e)
last_test false false true true e = grind (arith, e)
last_test false false false true e = grind (arith, e)

few : (over : Bool) (bytes n : ℕ) → Ok tt ≡ feed_answer over bytes n → n ≤ 64
few over bytes n e = ltb-false 64 n (last_test over (bytes == 0) (nat_lt 65536 bytes) (nat_lt 64 n) e)

module _ (old new : EisView) (last : Handed) (p : Option StrictView) (bytes numbers : List ℕ) (lent : List Handle) (time : ℕ)
    (lent_is : lent ≡ map handle_of (take (min (length numbers) 65) numbers)) where
  abbrev Took : List Handle → Type 0
  Took handles = Feeds (record { bytes = bytes; handles = handles }) time old new

  fed_so : (r : Result Unit CallError) → r ≡ feed_answer (is_some old.ending) (length bytes) (length numbers) → OnErr r (new ≡ old) → OnOk r (Took lent)
      → FeedsConnection bytes numbers time (outcome_number r) (behind old last p) (behind new last p)
  fed_so (Ok u) e kept feeds = record {
    answers = ap outcome_number e;
    kept = λ h. absurd (h refl);
    feeds = λ _. subst Took (lent_whole numbers lent lent_is (few (is_some old.ending) (length bytes) (length numbers) e)) feeds;
    handed = refl;
    policy = refl;
  }
  fed_so (Err e₁) e kept feeds = record {
    answers = ap outcome_number e;
    kept = λ _. ap (λ v. behind v last p) kept;
    feeds = λ h. absurd (refused e₁ h);
    handed = refl;
    policy = refl;
  }

  pub fed : (r : Result Unit CallError) (answer : ℕ) → answer ≡ outcome_number r
      → r ≡ feed_answer (is_some old.ending) (length bytes) (length lent) → OnErr r (new ≡ old) → OnOk r (Took lent)
      → FeedsConnection bytes numbers time answer (behind old last p) (behind new last p)
  fed r answer a e kept feeds =
      let e₁ : r ≡ feed_answer (is_some old.ending) (length bytes) (length numbers) =
      e ∙ ap (feed_answer (is_some old.ending) (length bytes)) (lent_length numbers lent lent_is) ∙ same_answer (is_some old.ending) (length bytes)
      (length numbers) in
      subst (λ (n : ℕ). FeedsConnection bytes numbers time n (behind old last p) (behind new last p)) (sym a) (fed_so r e₁ kept feeds)
