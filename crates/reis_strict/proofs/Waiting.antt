-- Which requests wait, and how that changes.
use Rattle.std.proofs.Common.{◌≡◌, List, [], ◌∷◌, Option, Some, None, refl, sym, ap, ◌∙◌}
use Rattle.ei_input.specs.Queue.{first_of, rest_of}
use Rattle.ei_request.specs.Connection.{ConnectionView}
use Rattle.ei_request.specs.declared.event.EisRequest.{EisRequest}
use Rattle.reis_eis.specs.declared.call_error.CallError.{CallError}
use Rattle.reis_eis.specs.declared.phase.Phase.{Phase}
use Rattle.reis_eis.specs.declared.phase.Phase.TheVariants as phase
use Rattle.reis_eis.specs.Words.{queue_in, with_queue}
use Rattle.reis_eis.specs.Acting.{ActsIn, IsLeftIn}
use Rattle.reis_eis.specs.View.{EisView}
use Rattle.reis_strict.specs.declared.fault.Fault.{Fault}
use Rattle.reis_strict.specs.Sifting.{Sifted, NonePasses, Passes, EndsBy, with_requests, ChangesRequests, told_before, EndsUnless, EndsClient, WantsMemory}

-- the first of some, before the others
pub front : (xs : List EisRequest) (request : EisRequest) → first_of xs ≡ Some request → xs ≡ request ∷ rest_of xs
front [] request e = absurd cc
front (x ∷ xs) request e = let h : x ≡ request = cc in ap (λ (r : EisRequest). r ∷ xs) h

-- what waits in a phase counts as it was said last
twice_in : (p : Phase) (q r : List EisRequest) → with_queue (with_queue p q) r ≡ with_queue p r
twice_in (phase.Shaking s) q r = refl
twice_in (phase.Standing c) q r = refl
twice_in phase.Between q r = refl

pub twice : (c : EisView) (q r : List EisRequest) → with_requests (with_requests c q) r ≡ with_requests c r
twice c q r = ap (λ (p : Phase). record c { phase = p }) (twice_in c.phase q r)

-- of what changed no more than which requests wait, it is the same to say which do
pub as_changed : (c d : EisView) (q : List EisRequest) → ChangesRequests c d → with_requests d q ≡ with_requests c q
as_changed c d q changes = ap (λ (x : EisView). with_requests x q) changes ∙ twice c (queue_in d.phase) q

pub changes_twice : (c d e : EisView) → ChangesRequests c d → ChangesRequests d e → ChangesRequests c e
changes_twice c d e first then = then ∙ as_changed c d (queue_in e.phase) first

-- a call leaves them waiting
acts_in : (does : ConnectionView → ConnectionView → Type 0) (p q : Phase) → ActsIn does p q → queue_in q ≡ queue_in p
acts_in does (phase.Standing c) (phase.Standing d) acts = acts.queue
acts_in does (phase.Standing c) (phase.Shaking s) acts = absurd acts
acts_in does (phase.Standing c) phase.Between acts = absurd acts
acts_in does (phase.Shaking s) q acts = absurd acts
acts_in does phase.Between q acts = absurd acts

pub left_in : (p q : Phase) → IsLeftIn p q → queue_in q ≡ queue_in p
left_in (phase.Standing c) (phase.Standing d) left = left.queue
left_in (phase.Standing c) (phase.Shaking s) left = ap queue_in left
left_in (phase.Standing c) phase.Between left = ap queue_in left
left_in (phase.Shaking s) q left = ap queue_in left
left_in phase.Between q left = ap queue_in left

ends_unless : (why : Fault) (c d : EisView) (o : Option CallError) → EndsUnless o why c d → queue_in d.phase ≡ queue_in c.phase
ends_unless why c d None told = acts_in _ c.phase d.phase told.acts
ends_unless why c d (Some refused) kept = left_in c.phase d.phase kept.phase

pub ends_waiting : (why : Fault) (c d : EisView) → EndsClient why c d → queue_in d.phase ≡ queue_in c.phase
ends_waiting why c d ends = ends_unless why c d (told_before why c) ends

-- which requests wait decides nothing of whether the client was told
told_in : (why : Fault) (c : EisView) (p : Phase) (q : List EisRequest) → c.phase ≡ p → told_before why (with_requests c q) ≡ told_before why c
told_in why c (phase.Shaking s) q e = rw e refl
told_in why c (phase.Standing x) q e = rw e refl
told_in why c phase.Between q e = rw e refl

pub told_the_same : (why : Fault) (c d : EisView) → ChangesRequests c d → told_before why d ≡ told_before why c
told_the_same why c d changes = ap (told_before why) changes ∙ told_in why c c.phase (queue_in d.phase) refl

pub wants_the_same : (c d : EisView) → ChangesRequests c d → (x : Sifted) → WantsMemory x d → WantsMemory x c
wants_the_same c d changes NonePasses wants = wants
wants_the_same c d changes (Passes request rest) wants = wants
wants_the_same c d changes (EndsBy request why rest) wants = sym (told_the_same why c d changes) ∙ wants
