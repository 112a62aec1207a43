-- A run whose ids run out.
use Rattle.std.proofs.Common.{◌≡◌, ◌^◌, ℕ, ◌+◌, ◌<◌, ◌≤◌, Bool, cond, List, [], ◌∷◌, ◌++◌, length, Option, Some, None, refl, sym, ap, subst, ◌∙◌, inl, arith}
use Rattle.std.proofs.lemmas.List.{append-nil, length-append}
use Rattle.ei_spec.specs.Message.{Raw, Whole, front, all_bytes}
use Rattle.ei_spec.specs.Piece.{stream}
use Rattle.ei_spec.specs.Stream.{Ended, Final, reading}
use Rattle.ei_spec.proofs.GoesOn.{read_final}
use Rattle.ei_types.specs.Capability.{all_bits}
use Rattle.ei_session.specs.Setup.{Setup}
use Rattle.ei_session.specs.Refusals.{judge}
use Rattle.ei_session.specs.Served.{Disconnect, IdsExhausted, accepted, session}
use Rattle.ei_session.proofs.RunsOut.{exhausting_last}
use Rattle.ei_request.specs.declared.event.EisRequest.{EisRequest}
use Rattle.ei_request.specs.Converter.{ConverterView}
use Rattle.ei_input.specs.Queue.{first_of}
use Rattle.reis_eis.specs.declared.ending.Ending.{Ending}
use Rattle.reis_eis.specs.declared.phase.Phase.{Phase}
use Rattle.reis_eis.specs.declared.phase.Phase.TheVariants as phase
use Rattle.reis_eis.specs.View.{EisView}
use Rattle.reis_eis.specs.Words.{context_in, unread_of, queue_in}
use Rattle.reis_alike.specs.Program.{Came, unread_with, HasOneAtMost, TakesOutTo, GivesUp}
use Rattle.reis_alike.specs.Alike.{Runs, pieces_of, ServesAlike}
use Rattle.reis_alike.proofs.Acting.{view_of, waiting}
use Rattle.reis_alike.proofs.Conversing.{Heard}
use Rattle.reis_alike.proofs.Turning.{queued, given}
use Rattle.reis_alike.proofs.Feeding.{bytes_with, fed_with, fed_stands, fed_unread, count_readings, enough_readings}
use Rattle.reis_alike.proofs.Running.{Goes, serves_so, requests_more, replies_then, over_with, at_bytes, few}
use Rattle.reis_alike.proofs.Queueing.{Queued, None-came, Early, Unknown, Some-heard, queued_by, FedOnce, fed_once}
use Rattle.reis_alike.proofs.RunLaws.{goes_by, says}
use Rattle.reis_alike.proofs.Exhausting.{still_going, few_so}

none_taken : (rs : List EisRequest) (e : EisView) → queue_in e.phase ≡ [] → TakesOutTo rs e → ⊥
none_taken [] e none t = t
none_taken (r ∷ []) e none t = let z : None ≡ Some r = sym (ap first_of none) ∙ t.0 in cc
none_taken (r ∷ s ∷ rs) e none t = let z : None ≡ Some r = sym (ap first_of none) ∙ t.0 in cc

-- ---- the turn

module _ (setup : Setup) (before : List Came) (c : Came) (out : List EisRequest) (written : List ℕ) (old : EisView) (g : Goes setup before out written old.phase) (most : length (pieces_of (c ∷ before)) ≤ setup.pieces) (one : HasOneAtMost (unread_with old c))
    (handed : List EisRequest) (u : GivesUp c old handed) where
  abbrev past : List Raw
  past = accepted setup (stream (pieces_of before))

  going : u.fed.ending ≡ None
  going = still_going handed u.fed u.takes

  abbrev once : FedOnce c old.phase g.b u.fed
  once = fed_once setup past g.readings c old g.stands g.b g.context one u.fed u.feeds going

  abbrev Result : Type 0
  Result = ((session setup (pieces_of (c ∷ before))).answer ≡ IdsExhausted) × ServesAlike setup (c ∷ before) (out ++ handed) written

  module _ (k new : ConverterView) (p_is : fed_with old.phase g.b c ≡ phase.Standing k) (q_is : u.fed.phase ≡ phase.Standing new) (h : Heard setup past g.readings c.time k once.step.s new) where
    fed_is : u.fed ≡ view_of (waiting new.handle new.queue) (None, u.fed.notices)
    fed_is = ap (λ (p : Phase). record u.fed { phase = p }) q_is ∙ ap (λ (x : Option Ending). view_of new (x, u.fed.notices)) going

    at_front : front (bytes_with g.b c) ≡ Whole h.m h.after
    at_front = ap front (sym (fed_unread setup past g.readings c old.phase g.b g.context g.stands) ∙ ap (λ (p : Phase). unread_of (context_in p)) p_is) ∙ h.front_is

    runs_out : Result
    runs_out =
        let t = few_so past new.handle h.keys u.fed.notices new.queue handed (given setup past g.readings c.time k once.step.s new h) (subst (λ (e : EisView). TakesOutTo handed e) fed_is u.takes) in
        let l = h.behind.lacks t.1 in
        let last : judge setup past h.m ≡ Final = exhausting_last setup past h.m h.fine l.0 in
        let o = over_with setup before c out written old g most (few setup before c out written old g most once.room) (reading (h.m ∷ past) h.after Ended)
        (read_final (judge setup) past _ h.m h.after (at_bytes setup before c out written old g most at_front) last) refl in
        let used : List ℕ = h.behind.used in
        let frames = h.behind.gave.frames in
        let count = count_readings setup past g.readings old.phase g.stands in
        let split = length-append g.readings used in (
          o.0 ∙ ap (λ (b : Bool). cond b IdsExhausted Disconnect) l.0,
          serves_so setup (c ∷ before) (g.readings ++ used) (out ++ handed) written (h.m ∷ past) (g.readings, used, g.times, inl l.1, refl) (omega (arith, frames, count, split)) o.1
              (requests_more setup past h.m g.readings used out handed (enough_readings setup past g.readings old.phase g.stands) g.requests (λ later. t.0 ∙ queued setup past g.readings c.time k once.step.s new h later))
              (sym (append-nil written) ∙ replies_then setup past h.m written [] g.replies (ap all_bytes (sym l.2))),
        )

  pub gives_up : Result
  gives_up = by (queued_by setup past g.readings c.time (fed_with old.phase g.b c) once.step.s u.fed.phase (fed_stands setup past g.readings c old.phase g.b g.context g.stands) once.step.steps (sym once.step.how_is ∙ going))
    where
      by : Queued setup past g.readings c.time (fed_with old.phase g.b c) once.step.s u.fed.phase → Result
      by (None-came short none) = absurd (none_taken handed u.fed none u.takes)
      by (Early off none) = absurd (none_taken handed u.fed none u.takes)
      by (Unknown m after f gone none) = absurd (none_taken handed u.fed none u.takes)
      by (Some-heard k new p_is q_is h) = runs_out k new p_is q_is h

fewer : (n m most : ℕ) → n ≡ m + 1 → n ≤ most → m ≤ most
fewer n m most e h = omega (arith, e, h)

pub exhausted : (setup : Setup) (came : List Came) (c : Came) (out handed : List EisRequest) (written : List ℕ) (e : EisView) → setup.capabilities ≤ all_bits → setup.serial < 2 ^ 32 → length (pieces_of (c ∷ came)) ≤ setup.pieces → Runs setup came out written e → e.ending ≡ None →
    HasOneAtMost (unread_with e c) → GivesUp c e handed → ((session setup (pieces_of (c ∷ came))).answer ≡ IdsExhausted) × ServesAlike setup (c ∷ came) (out ++ handed) written
exhausted setup came c out handed written e lawful small most r going one u =
    let less : length (pieces_of came) ≤ setup.pieces = fewer _ (length (pieces_of came)) setup.pieces (length-append (pieces_of came) (c.piece ∷ [])) most in
    gives_up setup came c out written e (goes_by setup came out written e going (says setup came out written e lawful small less r)) most one handed u
