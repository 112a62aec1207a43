-- All messages that are whole, one after another.
use Rattle.std.proofs.Common.{◌≡◌, ℕ, true, List, [], ◌∷◌, ◌++◌, Option, Some, None, length, Result, Ok, Err, refl, sym, ap, subst, ◌∙◌, append_assoc}
use Rattle.ei_types.specs.declared.error.Error.{Error}
use Rattle.ei_types.specs.declared.error.Error.TheVariants as error
use Rattle.ei_types.specs.Errors.{error_of_parse}
use Rattle.ei_wire.specs.declared.error.ParseError.{ParseError}
use Rattle.ei_backend.specs.declared.message.PendingRequestResult.{PendingRequestResult}
use Rattle.ei_backend.specs.declared.message.PendingRequestResult.TheVariants as pending
use Rattle.ei_backend.specs.Backend.{BackendView, Waits, Answers, next}
use Rattle.ei_client.specs.declared.event.Event.{Event}
use Rattle.ei_client.specs.Event.{target_of, opcode_of, values_of}
use Rattle.ei_blocking.proofs.AnyMemory.{next_same}
use Rattle.ei_iterator.specs.Turns.{Turn, Skips, pieces_of, standing_at}
use Rattle.ei_iterator.specs.Around.{Around, around, standing_of}
use Rattle.ei_iterator.specs.declared.messages.Read.{Read}
use Rattle.ei_iterator.specs.declared.messages.Read.TheVariants as read
use Rattle.ei_iterator.specs.Steps.{Ran, RanOut, ByOne, ByAll, Behind}
use Rattle.ei_iterator.proofs.Fronts.{waits_empty}
use Rattle.ei_iterator.proofs.Stepping.{cut_here, waits_so, unread_so, skips}

-- what was answered of the message at the front
pub answer_is : (o : Option (PendingRequestResult Event)) (p : PendingRequestResult Event) (before mid : BackendView) → o ≡ Some p → Answers target_of opcode_of values_of o mid (next true before) → Answers target_of opcode_of values_of (Some p) mid (next true before)
answer_is o p before mid is h = subst (λ (a : Option (PendingRequestResult Event)). Answers target_of opcode_of values_of a mid (next true before)) is h

pub answer_none : (o : Option (PendingRequestResult Event)) (before mid : BackendView) → o ≡ None → Answers target_of opcode_of values_of o mid (next true before) → next true before ≡ (Waits, mid)
answer_none o before mid is h = subst (λ (a : Option (PendingRequestResult Event)). Answers target_of opcode_of values_of a mid (next true before)) is h

-- turns behind others are turns behind the first
pub behind_twice : (P : List Turn → Type 0) (turns more : List Turn) → pieces_of (more ++ turns) ≡ pieces_of turns → Behind (more ++ turns) P → Behind turns P
behind_twice P turns more same h = (h.0 ++ more, ap pieces_of (append_assoc h.0 more turns) ∙ h.1 ∙ same, subst P (sym (append_assoc h.0 more turns)) h.2)

module _ {H : Type 0} (may : H → ℕ → ℕ → Type 0) (most : ℕ) (old : Around H) where
  -- where nothing is unread no message is whole
  pub none_left : (turns : List Turn) (now : Around H) → Ran may most old turns now → length now.endpoint.unread ≡ 0 → RanOut may most old turns now
  none_left turns now r none = record {
    ran = r;
    waits = sym (next_same (standing_at (standing_of old) turns).endpoint now.endpoint r.stands.endpoint).answer ∙ waits_empty now.endpoint none;
  }

  -- one message was refused, or cut short
  fails_all : (e : Error) (turns : List Turn) (now : Around H) → ByOne may most old (Err e) now turns → ByAll may most old (Err e) now turns
  fails_all error.WriteFault turns now h = h
  fails_all error.NoMemory turns now h = h
  fails_all e turns now h = h

  pub one_fails : (turns more : List Turn) → pieces_of (more ++ turns) ≡ pieces_of turns → (now : Around H) (e : Error) (r : Result Read Error) (result : Result (Unit {0}) Error) → r ≡ Err e → result ≡ Err e →
      Behind (more ++ turns) (ByOne may most old r now) → Behind turns (ByAll may most old result now)
  one_fails turns more same now e r result is is' h =
      let one : ByOne may most old (Err e) now (h.0 ++ (more ++ turns)) = subst (λ (q : Result Read Error). ByOne may most old q now (h.0 ++ (more ++ turns))) is h.2 in
      behind_twice (ByAll may most old result now) turns more same
      (h.0, h.1, subst (λ (q : Result (Unit {0}) Error). ByAll may most old q now (h.0 ++ (more ++ turns))) (sym is') (fails_all e (h.0 ++ (more ++ turns)) now one))

  -- or there was none
  pub one_waits : (turns more : List Turn) → pieces_of (more ++ turns) ≡ pieces_of turns → (now : Around H) (r : Result Read Error) → r ≡ Ok read.Waiting → Behind (more ++ turns) (ByOne may most old r now) → Behind turns (ByAll may most old (Ok tt) now)
  one_waits turns more same now r is h =
      behind_twice (ByAll may most old (Ok tt) now) turns more same (h.0, h.1, subst (λ (q : Result Read Error). ByOne may most old q now (h.0 ++ (more ++ turns))) is h.2)

  -- or it was taken
  pub one_taken : (turns more : List Turn) → pieces_of (more ++ turns) ≡ pieces_of turns → (now : Around H) (r : Result Read Error) → r ≡ Ok read.Taken → Behind (more ++ turns) (ByOne may most old r now) → Behind turns (λ all. Ran may most old all now)
  one_taken turns more same now r is h =
      behind_twice (λ all. Ran may most old all now) turns more same (h.0, h.1, subst (λ (q : Result Read Error). ByOne may most old q now (h.0 ++ (more ++ turns))) is h.2)

  -- ---- the message at the front

  module _ (turns : List Turn) (now : Around H) (ran : Ran may most old turns now) where
    -- memory ran out before it was looked at
    pub front_wanted : (new : BackendView) (result : Result Read Error) → new ≡ now.endpoint → result ≡ Err error.NoMemory → Behind turns (ByOne may most old result (around new now.converter now.sink now.readings))
    front_wanted new result same is =
        subst (λ (r : Result Read Error). Behind turns (ByOne may most old r (around new now.converter now.sink now.readings))) (sym is)
        (subst (λ (b : BackendView). Behind turns (ByOne may most old (Err error.NoMemory) (around b now.converter now.sink now.readings))) (sym same) ([], refl, cut_here may most old turns now ran))

    -- there is none
    pub front_waits : (o : Option (PendingRequestResult Event)) (mid : BackendView) → o ≡ None → Answers target_of opcode_of values_of o mid (next true now.endpoint) → Behind turns (λ all. RanOut may most old all (around mid now.converter now.sink now.readings))
    front_waits o mid is h = ([], refl, waits_so may most old turns now ran mid (answer_none o now.endpoint mid is h))

    -- it is to no object
    pub front_skipped : (o : Option (PendingRequestResult Event)) (p : PendingRequestResult Event) (id : ℕ) (mid : BackendView) → o ≡ Some p → p ≡ pending.InvalidObject id → Answers target_of opcode_of values_of o mid (next true now.endpoint) →
        Behind turns (λ all. Ran may most old all (around mid now.converter now.sink now.readings))
    front_skipped o p id mid some is h =
        (Skips ∷ [], refl, skips may most old turns now ran id mid (answer_is o (pending.InvalidObject id) now.endpoint mid (some ∙ ap (λ (q : PendingRequestResult Event). Some q) is) h))

    -- it can't be read
    pub front_unread : (o : Option (PendingRequestResult Event)) (p : PendingRequestResult Event) (pe : ParseError) (mid : BackendView) (result : Result Read Error) → o ≡ Some p → p ≡ pending.ParseError pe → result ≡ Err (error_of_parse pe) → Answers target_of opcode_of values_of o mid (next true now.endpoint) →
        Behind turns (ByOne may most old result (around mid now.converter now.sink now.readings))
    front_unread o p pe mid result some is is' h =
        subst (λ (r : Result Read Error). Behind turns (ByOne may most old r (around mid now.converter now.sink now.readings))) (sym is')
        (unread_so may most old turns now ran pe mid (answer_is o (pending.ParseError pe) now.endpoint mid (some ∙ ap (λ (q : PendingRequestResult Event). Some q) is) h))
