-- A piece that came, behind which the connection goes on.
use Rattle.std.proofs.Common.{◌≡◌, ◌⊎◌, ℕ, false, List, [], ◌++◌, Option, Some, None, refl, sym, ap, subst, ◌∙◌, inl, inr}
use Rattle.ei_spec.specs.Message.{Raw, Short, Whole, front}
use Rattle.ei_types.specs.declared.error.Error.TheVariants as error
use Rattle.ei_backend.specs.Backend.{BackendView}
use Rattle.ei_session.specs.Setup.{Setup}
use Rattle.ei_request.specs.Converter.{ConverterView}
use Rattle.reis_eis.specs.declared.ending.Ending.{Ending}
use Rattle.reis_eis.specs.declared.ending.Ending.TheVariants as ending
use Rattle.reis_eis.specs.declared.phase.Phase.{Phase}
use Rattle.reis_eis.specs.declared.phase.Phase.TheVariants as phase
use Rattle.reis_eis.specs.Steps.{AnyStep as Step}
use Rattle.reis_eis.specs.View.{EisView}
use Rattle.reis_eis.specs.Words.{context_in, unread_of, queue_in}
use Rattle.reis_eis.specs.Handling.{Steps}
use Rattle.reis_eis.specs.Feeding.{TakesPiece, RefusesPiece, FeedsTo}
use Rattle.reis_alike.specs.Standing.{StandsFor}
use Rattle.reis_alike.specs.Program.{Came, unread_with, HasOneAtMost}
use Rattle.reis_alike.proofs.Conversing.{Heard, Conversed, Waited, Took, Told, Refused, Full, conversed}
use Rattle.reis_alike.proofs.Shaking.{Shook, shook}
use Rattle.reis_alike.proofs.Shaking.{Waited as NothingCame, Kept, Done, Refused as Failed, Full as NoMemory}
use Rattle.reis_alike.proofs.Stepping.{IsStill, still, how_of, IsOneStep}
use Rattle.reis_alike.proofs.Feeding.{HasRoom, bytes_with, fed_with, one_piece}
use Rattle.reis_eis.specs.Feeding.{Feeds}
use Rattle.ei_session.specs.Handshake.{connected}
use Rattle.ei_session.specs.Objects.{object}

-- ---- a step behind which the connection goes on

-- there was no message, it came during the handshake, or no object has its id, so that no request waits; or it was a request behind the handshake
pub data Queued (setup : Setup) (past : List Raw) (times : List ℕ) (time : ℕ) (p : Phase) (s : Step) (q : Phase) : Type 0 where
  None-came : front (unread_of (context_in p)) ≡ Short → queue_in q ≡ [] → Queued setup past times time p s q
  Early : connected past ≡ false → queue_in q ≡ [] → Queued setup past times time p s q
  Unknown : (m : Raw) → (after : List ℕ) → front (unread_of (context_in p)) ≡ Whole m after → object past m.id ≡ None → queue_in q ≡ [] → Queued setup past times time p s q
  Some-heard : (c new : ConverterView) → p ≡ phase.Standing c → q ≡ phase.Standing new → Heard setup past times time c s new → Queued setup past times time p s q

none_ends : (s : Step) (how : Ending) → how_of s ≡ None → how_of s ≡ Some how → ⊥
none_ends s how none is = let z : None ≡ Some how = sym none ∙ is in cc

still_none : (setup : Setup) (past : List Raw) (times : List ℕ) (time : ℕ) (p : Phase) (s : Step) (q : Phase) → front (unread_of (context_in p)) ≡ Short → queue_in p ≡ [] → how_of s ≡ None → IsStill p s q → Queued setup past times time p s q
still_none setup past times time p s q short empty none (inl w) = None-came short (ap queue_in w.1 ∙ empty)
still_none setup past times time p s q short empty none (inr w) = absurd (none_ends s (ending.Refused error.NoMemory) none (ap how_of w))

pub queued_by : (setup : Setup) (past : List Raw) (times : List ℕ) (time : ℕ) (p : Phase) (s : Step) (q : Phase) → StandsFor setup past times p → Steps time p s q → how_of s ≡ None → Queued setup past times time p s q
queued_by setup past times time (phase.Shaking h) s q i x none = by (shook setup past h i.1 s q x)
  where
    by : Shook setup past h s q → Queued setup past times time (phase.Shaking h) s q
    by (NothingCame short) = still_none setup past times time (phase.Shaking h) s q short refl none (still time (phase.Shaking h) s q short x)
    by (Kept k y is now) = Early i.1.unfinished (ap queue_in now)
    by (Done k resp y is now) = Early i.1.unfinished (ap queue_in now)
    by (Failed e k why some is now) = absurd (none_ends s (ending.Refused e) none (ap how_of is))
    by (NoMemory is) = absurd (none_ends s (ending.Refused error.NoMemory) none (ap how_of is))
queued_by setup past times time (phase.Standing c) s q i x none = by (conversed setup past times time c i.held i.queue s x.after x.converses)
  where
    by : Conversed setup past times time c s x.after → Queued setup past times time (phase.Standing c) s q
    by (Waited short) = still_none setup past times time (phase.Standing c) s q short i.queue none (still time (phase.Standing c) s q short x)
    by (Took h) = Some-heard c x.after refl x.is h
    by (Told m after f gone is now) = Unknown m after f gone (ap queue_in x.is ∙ ap (λ (y : ConverterView). y.queue) now ∙ i.queue)
    by (Refused e why some is empty) = absurd (none_ends s (ending.Refused e) none (ap how_of is))
    by (Full is) = absurd (none_ends s (ending.Refused error.NoMemory) none (ap how_of is))
queued_by setup past times time phase.Between s q i x none = absurd i

-- ---- the piece

-- it came, as one step
pub record FedOnce (c : Came) (p : Phase) (b : BackendView) (fed : EisView) : Type 0 where
  pub room : HasRoom b c
  pub step : IsOneStep c.time (fed_with p b c) fed.phase fed.ending

module _ (setup : Setup) (past : List Raw) (readings : List ℕ) (c : Came) (old : EisView) (stands : StandsFor setup past readings old.phase) (b : BackendView) (context : context_in old.phase ≡ Some b) (one : HasOneAtMost (unread_with old c))
    (fed : EisView) (feeds : Feeds c.piece c.time old fed) (going : fed.ending ≡ None) where
  one_here : HasOneAtMost (bytes_with b c)
  one_here = subst (λ (o : Option BackendView). HasOneAtMost (unread_of o ++ c.piece.bytes)) context one

  fed_by : TakesPiece c.piece c.time b old fed ⊎ RefusesPiece c.piece b old fed → FedOnce c old.phase b fed
  fed_by (inl x) = record {
    room = x.fits.limit;
    step = one_piece setup past readings c old.phase b context stands one_here old.notices fed.phase fed.notices fed.ending (λ z. let y : None ≡ Some (ending.Refused error.NoMemory) = sym going ∙ z in cc) x.handles;
  }
  fed_by (inr x) = let z = sym going ∙ ap (λ (v : EisView). v.ending) x.is in absurd cc

  pub fed_once : FedOnce c old.phase b fed
  fed_once = fed_by (subst (λ (o : Option BackendView). FeedsTo c.piece c.time o old fed) context feeds)
