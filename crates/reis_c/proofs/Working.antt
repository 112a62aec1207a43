-- What the server's calls make of a session behind the word.
use Rattle.std.proofs.Common.{◌≡◌, ◌≢◌, ℕ, ◌==◌, ◌≤◌, Bool, true, false, List, [], ◌∷◌, ◌++◌, length, take, drop, map, min, Option, Some, None}
use Rattle.std.proofs.Common.{Result, Ok, Err, if◌then◌else◌, refl, ap, sym, subst, ◌∙◌, arith}
use Rattle.std.specs.Prelude.{nat_lt, is_some, OnOk, OnErr}
use Rattle.std.specs.Option.{option_to_list}
use Rattle.std.proofs.Math.Seq.{take-append_seam}
use Rattle.std.proofs.lemmas.Bool.{ltb-false}
use Rattle.std.proofs.lemmas.Grind.{common_steps}
use Rattle.ei_spec.specs.declared.handle.Handle.{Handle}
use Rattle.ei_spec.specs.Piece.{Piece}
use Rattle.ei_session.specs.Setup.{Setup}
use Rattle.ei_backend.specs.Outside.{with_more}
use Rattle.ei_request.specs.declared.event.EisRequest.{EisRequest}
use Rattle.reis_server.specs.declared.server.CallError.{CallError}
use Rattle.reis_server.specs.declared.server.CallError.TheVariants as call_error
use Rattle.reis_server.specs.Fed.{Fed, fed_of}
use Rattle.reis_server.specs.Queue.{IsNext}
use Rattle.reis_server.specs.Serving.{IsServing, IsInputEnd, IsNoInputEnd, feed_answer, end_answer, sent_answer, unsent_after}
use Rattle.reis_server.specs.View.{ServerView}
use Rattle.reis_c.specs.declared.flat.ReisRequest.{ReisRequest}
use Rattle.reis_c.specs.declared.held.Held.{Held}
use Rattle.reis_c.specs.Numbers.{OK, NOTHING}
use Rattle.reis_c.specs.Answers.{answer_number}
use Rattle.reis_c.specs.Calls.{Feeds, TakesEnd, Sends, HandsRequest, WritesFirst}
use Rattle.reis_c.specs.Flat.{flat}
use Rattle.reis_c.specs.Handles.{handle_of}

abbrev behind : ServerView → Option EisRequest → Held
behind s last = record { server = s; last = last }

-- no refusal is told as done
refused : (e : CallError) → answer_number (Err e) ≢ OK
refused call_error.Over h = absurd (omega (arith, h))
refused call_error.Empty h = absurd (omega (arith, h))
refused call_error.TooLong h = absurd (omega (arith, h))
refused call_error.TooManyHandles h = absurd (omega (arith, h))
refused call_error.NotUnsent h = absurd (omega (arith, h))

-- ---- a piece

-- so many more than are taken tell as well that they are too many
many_told : (n : ℕ) → nat_lt 64 (min n 65) ≡ nat_lt 64 n
many_told n = grind (arith, common_steps)

told : (over : Bool) (bytes n : ℕ) → feed_answer over bytes (min n 65) ≡ feed_answer over bytes n
told over bytes n = rw (many_told n) refl

abbrev tests : Bool → Bool → Bool → Bool → Result Unit CallError
tests over empty long many = if over then Err call_error.Over
    else (if empty then Err call_error.Empty
    else (if long then Err call_error.TooLong
    else (if many then Err call_error.TooManyHandles
    else Ok tt)))

last_test : (over empty long many : Bool) → Ok tt ≡ tests over empty long many → many ≡ false
last_test over empty long false e = refl
last_test true empty long true e = grind (arith, e)
last_test false true long true e = grind (arith, e)
last_test false false true true e = grind (arith, e)
last_test false false false true e = grind (arith, e)

few : (over : Bool) (bytes n : ℕ) → Ok tt ≡ feed_answer over bytes n → n ≤ 64
few over bytes n e = ltb-false 64 n (last_test over (bytes == 0) (nat_lt 65536 bytes) (nat_lt 64 n) e)

-- the handles that are lent are those of the numbers, but for so many that they are too many
pub lent_length : (numbers : List ℕ) (lent : List Handle) → lent ≡ map handle_of (take (min (length numbers) 65) numbers) → length lent ≡ min (length numbers) 65
lent_length numbers lent e = grind (arith, common_steps, e)

pub lent_whole : (numbers : List ℕ) (lent : List Handle) → lent ≡ map handle_of (take (min (length numbers) 65) numbers) → length numbers ≤ 64
    → lent ≡ map handle_of numbers
lent_whole numbers lent e short = grind (arith, common_steps, e)

pub lent_front : (numbers : List ℕ) (start room lent : List Handle) (count : ℕ) → length start ≡ 65 → count ≡ min (length numbers) (length start)
    → room ≡ map handle_of (take count numbers) ++ drop count start → lent ≡ take count room → lent ≡ map handle_of (take (min (length numbers) 65) numbers)
lent_front numbers start room lent count long n e f =
    let count_is : count ≡ min (length numbers) 65 = n ∙ ap (λ k. min (length numbers) k) long in
    let xs : List Handle = map handle_of (take count numbers) in
    let size : length xs ≡ count = grind (arith, common_steps, count_is) in
    f ∙ ap (λ (l : List Handle). take count l) e ∙ subst (λ (k : ℕ). take k (xs ++ drop count start) ≡ xs) size (take-append_seam xs (drop count start))
    ∙ ap (λ k. map handle_of (take k numbers)) count_is

module _ (s t : ServerView) (last : Option EisRequest) (bytes numbers : List ℕ) (lent : List Handle) (time : ℕ)
    (lent_is : lent ≡ map handle_of (take (min (length numbers) 65) numbers)) where
  abbrev Serves : Result Unit CallError → List Handle → Type 0
  Serves r handles = (setup : Setup) (fed : List Fed) (sent : Piece) (given : List EisRequest) → IsServing setup fed sent given s →
      OnOk r (IsServing setup (fed_of bytes handles time ∷ fed) sent given t)

  over : Bool
  over = is_some s.answer

  fed_so : (r : Result Unit CallError) → r ≡ feed_answer (is_some s.answer) (length bytes) (length numbers) → OnErr r (t ≡ s)
      → Serves r lent → OnOk r (IsNoInputEnd t.answer) → Feeds bytes numbers time (answer_number r) (behind s last) (behind t last)
  fed_so (Ok u) e kept serves no_end = record {
    answers = ap answer_number e;
    kept = λ h. absurd (h refl);
    serves = λ _ setup fed sent given h. subst (λ (handles : List Handle). IsServing setup (fed_of bytes handles time ∷ fed) sent given t)
        (lent_whole numbers lent lent_is (few (is_some s.answer) (length bytes) (length numbers) e)) (serves setup fed sent given h);
    no_end = λ _. no_end;
    last = refl;
  }
  fed_so (Err e₁) e kept serves no_end = record {
    answers = ap answer_number e;
    kept = λ _. ap (λ v. behind v last) kept;
    serves = λ h. absurd (refused e₁ h);
    no_end = λ h. absurd (refused e₁ h);
    last = refl;
  }

  pub feeds : (r : Result Unit CallError) (answer : ℕ) → answer ≡ answer_number r → r ≡ feed_answer (is_some s.answer) (length bytes) (length lent)
      → OnErr r (t ≡ s)
      → Serves r lent → OnOk r (IsNoInputEnd t.answer) → Feeds bytes numbers time answer (behind s last) (behind t last)
  feeds r answer a e kept serves no_end =
      let e₁ : r ≡ feed_answer (is_some s.answer) (length bytes) (length numbers) =
      e ∙ ap (feed_answer (is_some s.answer) (length bytes)) (lent_length numbers lent lent_is) ∙ told (is_some s.answer) (length bytes) (length numbers) in
      subst (λ (n : ℕ). Feeds bytes numbers time n (behind s last) (behind t last)) (sym a) (fed_so r e₁ kept serves no_end)

-- ---- the end of the input

module _ (s t : ServerView) (last : Option EisRequest) where
  abbrev Ends : Result Unit CallError → Type 0
  Ends r = (setup : Setup) (fed : List Fed) (sent : Piece) (given : List EisRequest) → IsServing setup fed sent given s
      → OnOk r (IsServing setup fed sent given t)

  ends_so : (r : Result Unit CallError) → r ≡ end_answer (is_some s.answer) → OnErr r (t ≡ s) → Ends r → OnOk r (IsInputEnd t.answer)
      → TakesEnd (answer_number r) (behind s last) (behind t last)
  ends_so (Ok u) e kept serves ends = record { answers = ap answer_number e; kept = λ h. absurd (h refl); serves = λ _. serves; ends = λ _. ends; last = refl }
  ends_so (Err e₁) e kept serves ends = record {
    answers = ap answer_number e;
    kept = λ _. ap (λ v. behind v last) kept;
    serves = λ h. absurd (refused e₁ h);
    ends = λ h. absurd (refused e₁ h);
    last = refl;
  }

  pub takes_end : (r : Result Unit CallError) (answer : ℕ) → answer ≡ answer_number r → r ≡ end_answer (is_some s.answer) → OnErr r (t ≡ s) → Ends r
      → OnOk r (IsInputEnd t.answer)
      → TakesEnd answer (behind s last) (behind t last)
  takes_end r answer a e kept serves ends = subst (λ (n : ℕ). TakesEnd n (behind s last) (behind t last)) (sym a) (ends_so r e kept serves ends)

-- ---- replies

module _ (s t : ServerView) (last : Option EisRequest) (count handle_count : ℕ) where
  abbrev Dropped : Result Unit CallError → Type 0
  Dropped r = OnOk r (t ≡ record s { unsent = unsent_after count handle_count s.unsent })

  abbrev Took : Result Unit CallError → Type 0
  Took r = (setup : Setup) (fed : List Fed) (sent : Piece) (given : List EisRequest) → IsServing setup fed sent given s →
      OnOk r (IsServing setup fed (with_more (take count s.unsent.bytes) (take handle_count s.unsent.handles) sent) given t)

  sends_so : (r : Result Unit CallError) → r ≡ sent_answer count handle_count s.unsent → OnErr r (t ≡ s) → Dropped r → Took r
      → Sends count handle_count (answer_number r) (behind s last) (behind t last)
  sends_so (Ok u) e kept dropped serves = record {
    answers = ap answer_number e;
    kept = λ h. absurd (h refl);
    dropped = λ _. ap (λ v. behind v last) dropped;
    serves = λ _. serves;
  }
  sends_so (Err e₁) e kept dropped serves = record {
    answers = ap answer_number e;
    kept = λ _. ap (λ v. behind v last) kept;
    dropped = λ h. absurd (refused e₁ h);
    serves = λ h. absurd (refused e₁ h);
  }

  pub sends : (r : Result Unit CallError) (answer : ℕ) → answer ≡ answer_number r → r ≡ sent_answer count handle_count s.unsent → OnErr r (t ≡ s)
      → Dropped r → Took r → Sends count handle_count answer (behind s last) (behind t last)
  sends r answer a e kept dropped serves =
      subst (λ (n : ℕ). Sends count handle_count n (behind s last) (behind t last)) (sym a) (sends_so r e kept dropped serves)

-- ---- requests

module _ (s : ServerView) (rest : List EisRequest) (last : Option EisRequest) (room : ReisRequest) where
  abbrev after : ServerView
  after = record s { requests = rest }

  abbrev Given : Option EisRequest → Type 0
  Given next = (setup : Setup) (fed : List Fed) (sent : Piece) (given : List EisRequest) → IsServing setup fed sent given s →
      IsServing setup fed sent (given ++ option_to_list next) after

  first_of_some : (r : EisRequest) (requests : List EisRequest) → requests ≡ r ∷ rest → s.requests ≡ requests →
      WritesFirst s.requests room OK (flat r) (behind s last) (behind after (Some r)) × (option_to_list (Some r) ≡ take 1 s.requests)
  first_of_some r requests e f =
      let g : r ∷ rest ≡ s.requests = sym (f ∙ e) in
      subst (λ (l : List EisRequest). WritesFirst l room OK (flat r) (behind s last) (behind after (Some r)) × (option_to_list (Some r) ≡ take 1 l)) g
      ((refl, refl, refl), refl)

  pub hands_some : (r : EisRequest) → s.requests ≡ r ∷ rest → Given (Some r) → HandsRequest room OK (flat r) (behind s last) (behind after (Some r))
  hands_some r e serves =
      let p = first_of_some r (r ∷ rest) refl e in record {
        next = p.0;
        serves = λ setup fed sent given h. subst (λ (l : List EisRequest). IsServing setup fed sent (given ++ l) after) p.1 (serves setup fed sent given h);
      }

  pub hands_none : s.requests ≡ [] → rest ≡ [] → Given None → HandsRequest room NOTHING room (behind s last) (behind after last)
  hands_none e f serves =
      let none : take 1 s.requests ≡ [] = ap (take 1) e in
      let same : after ≡ s = ap (λ (l : List EisRequest). record s { requests = l }) (f ∙ sym e) in record {
        next = subst (λ (l : List EisRequest). WritesFirst l room NOTHING room (behind s last) (behind after last)) (sym e)
            (refl, refl, ap (λ v. behind v last) same);
        serves = λ setup fed sent given h. subst (λ (l : List EisRequest). IsServing setup fed sent (given ++ l) after) (sym none)
            (serves setup fed sent given h);
      }

module _ (s t : ServerView) (last : Option EisRequest) (room : ReisRequest) where
  abbrev GivesOn : Option EisRequest → ServerView → Type 0
  GivesOn next v = (setup : Setup) (fed : List Fed) (sent : Piece) (given : List EisRequest) → IsServing setup fed sent given s →
      IsServing setup fed sent (given ++ option_to_list next) v

  pub next_some : (r : EisRequest) (request : ReisRequest) → request ≡ flat r → IsNext (Some r) s.requests t.requests → t ≡ record s { requests = t.requests }
      → GivesOn (Some r) t → HandsRequest room OK request (behind s last) (behind t (Some r))
  next_some r request f e kept serves =
      subst (λ (v : ServerView). HandsRequest room OK request (behind s last) (behind v (Some r))) (sym kept)
      (subst (λ (q : ReisRequest). HandsRequest room OK q (behind s last) (behind (record s { requests = t.requests }) (Some r))) (sym f)
      (hands_some s t.requests last room r e (subst (GivesOn (Some r)) kept serves)))

  pub next_none : IsNext None s.requests t.requests → t ≡ record s { requests = t.requests } → GivesOn None t
      → HandsRequest room NOTHING room (behind s last) (behind t last)
  next_none e kept serves =
      subst (λ (v : ServerView). HandsRequest room NOTHING room (behind s last) (behind v last)) (sym kept)
      (hands_none s t.requests last room e.0 e.1 (subst (GivesOn None) kept serves))
