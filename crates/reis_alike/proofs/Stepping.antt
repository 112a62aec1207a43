-- Where no message is whole there is no step, and a piece that makes at most one message whole is one step.
use Rattle.std.proofs.Common.{◌≡◌, ◌⊎◌, ℕ, zero, suc, false, true, List, Option, Some, None, refl, sym, ap, subst, ◌∙◌, inl, inr}
use Rattle.std.specs.Prelude.{IfSome, IsSome}
use Rattle.ei_spec.specs.Reading.{Fault}
use Rattle.ei_spec.specs.Message.{Short, front}
use Rattle.ei_types.specs.declared.error.Error.TheVariants as error
use Rattle.ei_wire.specs.Gives.{fault_of}
use Rattle.ei_backend.specs.Backend.{BackendView, FrontAnswer, Waits, Refused, Gone, Message, of_front, next, Answers}
use Rattle.ei_backend.specs.declared.message.PendingRequestResult.{PendingRequestResult}
use Rattle.ei_backend.specs.declared.message.PendingRequestResult.TheVariants as pending
use Rattle.ei_server.specs.declared.request.Request.{Request}
use Rattle.ei_server.specs.Request.{target_of, opcode_of, values_of}
use Rattle.ei_request.specs.Converter.{ConverterView}
use Rattle.reis_eis.specs.declared.ending.Ending.{Ending}
use Rattle.reis_eis.specs.declared.ending.Ending.TheVariants as ending
use Rattle.reis_eis.specs.declared.notice.Notice.{Notice}
use Rattle.reis_eis.specs.declared.shaking.Shaking.{Shaking}
use Rattle.reis_eis.specs.Steps.{AnyShaken as Shaken}
use Rattle.reis_eis.specs.Steps.{AnyStep as Step}
use Rattle.reis_eis.specs.Steps as step
use Rattle.reis_eis.specs.declared.phase.Phase.{Phase}
use Rattle.reis_eis.specs.declared.phase.Phase.TheVariants as phase
use Rattle.reis_eis.specs.Words.{context_in, unread_of, with_ctx, shaking_with}
use Rattle.reis_eis.specs.Handling.{refused, failed, IsHandled, DoesRead, Converses, ConversesOn, ShakesRead, Shakes, GoesOver, ShakesOn, Steps}
use Rattle.reis_eis.specs.Feeding.{TellsBy, HandlesSome, EndsBy, HandlesAll}

abbrev pair : FrontAnswer → BackendView → FrontAnswer × BackendView
pair a b = (a, b)

abbrev answer_of : FrontAnswer × BackendView → FrontAnswer
answer_of p = p.0

abbrev backend_of : FrontAnswer × BackendView → BackendView
backend_of p = p.1

-- nothing was done, or memory ran out
abbrev pub IsStill : Phase → Step → Phase → Type 0
IsStill p s q = ((s ≡ step.Waiting) × (q ≡ p)) ⊎ (s ≡ refused error.NoMemory)

module _ (b : BackendView) (short : front b.unread ≡ Short) where
  waits : next false b ≡ pair Waits b
  waits = ap (of_front false b) short

  no_fault : (o : Option Fault) (ctx : BackendView) → IfSome o (λ f. next false b ≡ (Refused f, ctx)) × IsSome o → ⊥
  no_fault None ctx h = let z : false ≡ true = h.1 in absurd cc
  no_fault (Some f) ctx h = let z : Waits ≡ Refused f = sym (ap answer_of waits) ∙ ap answer_of h.0 in absurd cc

  -- nothing is read
  pub nothing_read : (said : Option (PendingRequestResult Request)) (ctx : BackendView) → Answers target_of opcode_of values_of said ctx (next false b) → (said ≡ None) × (ctx ≡ b)
  nothing_read None ctx h = (refl, sym (ap backend_of h) ∙ ap backend_of waits)
  nothing_read (Some (pending.Request r)) ctx h = let z : Waits ≡ Message (target_of r) (opcode_of r) (values_of r) = sym (ap answer_of waits) ∙ ap answer_of h in absurd cc
  nothing_read (Some (pending.ParseError e)) ctx h = absurd (no_fault (fault_of e) ctx h)
  nothing_read (Some (pending.InvalidObject id)) ctx h = let z : Waits ≡ Gone id = sym (ap answer_of waits) ∙ ap answer_of h in absurd cc

still_standing : (time : ℕ) (c : ConverterView) (s : Step) (q : Phase) → front c.handle.ctx.unread ≡ Short → ConversesOn time c s q → IsStill (phase.Standing c) s q
still_standing time c s q short x = by x.converses
  where
    by : Converses time c s x.after → IsStill (phase.Standing c) s q
    by (inl r) =
        let n = nothing_read c.handle.ctx short r.said r.ctx r.reads in
        let d : DoesRead time (with_ctx c r.ctx) None s x.after = subst (λ (o : Option (PendingRequestResult Request)). DoesRead time (with_ctx c r.ctx) o s x.after) n.0 r.does in
        inl (d.0, x.is ∙ ap (λ (y : ConverterView). phase.Standing y) (d.1 ∙ ap (with_ctx c) n.1))
    by (inr full) = inr full.0

still_shaking : (h : Shaking) (s : Step) (q : Phase) → front h.context.unread ≡ Short → ShakesOn h s q → IsStill (phase.Shaking h) s q
still_shaking h s q short x = by x.shakes
  where
    over : (k : Shaken) → x.came ≡ k → GoesOver k x.after s q
    over k e = subst (λ (y : Shaken). GoesOver y x.after s q) e x.goes

    by : Shakes h x.came x.after → IsStill (phase.Shaking h) s q
    by (inl r) =
        let n = nothing_read h.context short r.said r.ctx r.reads in
        let d : ShakesRead (shaking_with h r.ctx) None x.came x.after = subst (λ (o : Option (PendingRequestResult Request)). ShakesRead (shaking_with h r.ctx) o x.came x.after) n.0 r.does in
        let g = over _ d.0 in
        inl (g.0, g.1 ∙ ap (λ (y : Shaking). phase.Shaking y) (d.1 ∙ ap (shaking_with h) n.1))
    by (inr full) = let g = over (failed error.NoMemory) full.0 in inr g.0

pub still : (time : ℕ) (p : Phase) (s : Step) (q : Phase) → front (unread_of (context_in p)) ≡ Short → Steps time p s q → IsStill p s q
still time (phase.Shaking h) s q short x = still_shaking h s q short x
still time (phase.Standing c) s q short x = still_standing time c s q short x
still time phase.Between s q short x = inl x

-- ---- every whole message

-- no message is handled where none is whole
pub none_handled : (time : ℕ) (p : Phase) (s : Step) (q : Phase) → front (unread_of (context_in p)) ≡ Short → IsHandled s → Steps time p s q → ⊥
none_handled time p s q short h x = by (still time p s q short x)
  where
    by : IsStill p s q → ⊥
    by (inl w) = subst IsHandled w.0 h
    by (inr w) = subst IsHandled w h

-- how a step ends the connection
abbrev pub how_of : Step → Option Ending
how_of (step.Ended e) = Some e
how_of s = None

-- it was one step
pub record IsOneStep (time : ℕ) (old new : Phase) (how : Option Ending) : Type 0 where
  pub s : Step
  pub steps : Steps time old s new
  pub how_is : how ≡ how_of s

ended_so : (s : Step) (how : Option Ending) → EndsBy s how → how ≡ how_of s
ended_so step.Waiting how e = e
ended_so step.Handled how e = absurd e
ended_so (step.Noted told) how e = absurd e
ended_so (step.Ended x) how e = e

handled_by : (s : Step) (old new : List Notice) → TellsBy s old new → IsHandled s
handled_by step.Handled old new t = tt
handled_by (step.Noted told) old new t = tt
handled_by step.Waiting old new t = absurd t
handled_by (step.Ended e) old new t = absurd t

pub goes_on : (s : Step) → IsHandled s → how_of s ≡ None
goes_on step.Handled h = refl
goes_on (step.Noted told) h = refl
goes_on step.Waiting h = absurd h
goes_on (step.Ended e) h = absurd h

-- one message was handled, and behind it no other is whole
record IsOneHandled (time : ℕ) (old new : Phase) : Type 0 where
  pub by : Step
  pub handled : IsHandled by
  pub steps : Steps time old by new
  pub short : front (unread_of (context_in new)) ≡ Short

module _ (time : ℕ) (old : Phase) (waiting : List Notice) where
  none_of : (n : ℕ) (q : Phase) (told : List Notice) → ((s : Step) (x : Phase) → IsHandled s → Steps time old s x → ⊥) → HandlesSome n time old waiting q told → q ≡ old
  none_of zero q told never h = h.0
  none_of (suc n) q told never h =
      absurd (never h.by q (handled_by h.by h.waiting told h.tells) (subst (λ (x : Phase). Steps time x h.by q) (none_of n h.reached h.waiting never h.handled) h.steps))

  -- behind one message no other is whole
  module _ (behind : (s : Step) (x : Phase) → IsHandled s → Steps time old s x → front (unread_of (context_in x)) ≡ Short) where
    one_of : (n : ℕ) (q : Phase) (told : List Notice) → HandlesSome (suc n) time old waiting q told → IsOneHandled time old q
    one_of zero q told h =
        let it = handled_by h.by h.waiting told h.tells in
        let x : Steps time old h.by q = subst (λ (x : Phase). Steps time x h.by q) h.handled.0 h.steps in
        record { by = h.by; handled = it; steps = x; short = behind h.by q it x }
    one_of (suc n) q told h = absurd (none_handled time h.reached h.by q (one_of n h.reached h.waiting h.handled).short (handled_by h.by h.waiting told h.tells) h.steps)

    by_last : (s : Step) (q new : Phase) (how : Option Ending) → IsOneHandled time old q → (how ≡ Some (ending.Refused error.NoMemory) → ⊥) → Steps time q s new → EndsBy s how → IsOneStep time old new how
    by_last s q new how one some x e = by (still time q s new one.short x)
      where
        by : IsStill q s new → IsOneStep time old new how
        by (inl w) = record {
          s = one.by;
          steps = subst (λ (y : Phase). Steps time old one.by y) (sym w.1) one.steps;
          how_is = ended_so s how e ∙ ap how_of w.0 ∙ sym (goes_on one.by one.handled);
        }
        by (inr w) = absurd (some (ended_so s how e ∙ ap how_of w))

    one_by : (n : ℕ) (reached new : Phase) (told : List Notice) (last : Step) (how : Option Ending) → (how ≡ Some (ending.Refused error.NoMemory) → ⊥) → HandlesSome n time old waiting reached told → Steps time reached last new → EndsBy last how →
        IsOneStep time old new how
    one_by zero reached new told last how some h x e = record { s = last; steps = subst (λ (y : Phase). Steps time y last new) h.0 x; how_is = ended_so last how e }
    one_by (suc n) reached new told last how some h x e = by_last last reached new how (one_of n reached told h) some x e

    pub one_step : (new : Phase) (told : List Notice) (how : Option Ending) → (how ≡ Some (ending.Refused error.NoMemory) → ⊥) → HandlesAll time old waiting new told how → IsOneStep time old new how
    one_step new told how some h = one_by h.count h.reached new told h.last how some h.handled h.steps h.ends
