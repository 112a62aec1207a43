-- How a run that goes on, or that ended, is.
use Rattle.std.proofs.Common.{◌≡◌, ◌<◌, ◌≤◌, ◌^◌, ℕ, Bool, cond, List, length, Some, None, sym, ap, subst, ◌∙◌}
use Rattle.ei_spec.specs.Message.{Raw}
use Rattle.ei_spec.specs.Piece.{stream}
use Rattle.ei_types.specs.Capability.{all_bits}
use Rattle.ei_types.specs.declared.error.Error.TheVariants as error
use Rattle.ei_session.specs.Setup.{Setup}
use Rattle.ei_session.specs.Handshake.{connected}
use Rattle.ei_session.specs.Served.{Answer, End, UnexpectedEof, Outcome, accepted, session}
use Rattle.ei_request.specs.declared.event.EisRequest.{EisRequest}
use Rattle.ei_serve.proofs.Histories.{going}
use Rattle.reis_eis.specs.declared.ending.Ending.{Ending}
use Rattle.reis_eis.specs.declared.ending.Ending.TheVariants as ending
use Rattle.reis_eis.specs.declared.phase.Phase.{Phase}
use Rattle.reis_eis.specs.declared.phase.Phase.TheVariants as phase
use Rattle.reis_eis.specs.View.{EisView}
use Rattle.reis_eis.specs.Feeding.{end_of}
use Rattle.reis_alike.specs.Standing.{StandsFor}
use Rattle.reis_alike.specs.Program.{Came}
use Rattle.reis_alike.specs.Alike.{Runs, pieces_of, ServesAlike, EndsAs}
use Rattle.reis_alike.proofs.Running.{Goes, serves_on, Says, Going, Over, runs}

pub goes_by : (setup : Setup) (came : List Came) (out : List EisRequest) (written : List ℕ) (e : EisView) → e.ending ≡ None → Says setup came out written e → Goes setup came out written e.phase
goes_by setup came out written e none (Going is g) = g
goes_by setup came out written e none (Over how is f) = let z : None ≡ Some how = sym none ∙ is in absurd cc

over_by : (setup : Setup) (came : List Came) (out : List EisRequest) (written : List ℕ) (e : EisView) (how : Ending) → e.ending ≡ Some how → (how ≡ ending.Refused error.NoMemory → ⊥) → Says setup came out written e →
    EndsAs (session setup (pieces_of came)).answer how × ServesAlike setup came out written
over_by setup came out written e how is some (Going none g) = let z : None ≡ Some how = sym none ∙ is in absurd cc
over_by setup came out written e how is some (Over other same f) =
    let z : Some other ≡ Some how = sym same ∙ is in
    let it : other ≡ how = cc in
    let x = f (λ w. some (sym it ∙ w)) in
    (subst (λ (h : Ending). EndsAs (session setup (pieces_of came)).answer h) it x.0, x.1)

ends_by : (setup : Setup) (past : List Raw) (readings : List ℕ) (p : Phase) → StandsFor setup past readings p → EndsAs (cond (connected past) End UnexpectedEof) (end_of p)
ends_by setup past readings (phase.Shaking h) i = ap (λ (b : Bool). cond b End UnexpectedEof) i.1.unfinished
ends_by setup past readings (phase.Standing c) i = ap (λ (b : Bool). cond b End UnexpectedEof) i.held.connected
ends_by setup past readings phase.Between i = absurd i

module _ (setup : Setup) (came : List Came) (out : List EisRequest) (written : List ℕ) (e : EisView) (lawful : setup.capabilities ≤ all_bits) (small : setup.serial < 2 ^ 32) (room : length (pieces_of came) ≤ setup.pieces) (r : Runs setup came out written e) where
  pub says : Says setup came out written e
  says = runs setup lawful small came out written e room r

  pub goes_on : e.ending ≡ None → ServesAlike setup came out written
  goes_on none = serves_on setup came out written e.phase (goes_by setup came out written e none says)

  pub ended : (how : Ending) → e.ending ≡ Some how → (how ≡ ending.Refused error.NoMemory → ⊥) → EndsAs (session setup (pieces_of came)).answer how × ServesAlike setup came out written
  ended how is some = over_by setup came out written e how is some says

  pub input_ends : e.ending ≡ None → EndsAs (session setup (pieces_of came)).answer (end_of e.phase)
  input_ends none =
      let g = goes_by setup came out written e none says in
      subst (λ (a : Answer). EndsAs a (end_of e.phase)) (sym (ap (λ (o : Outcome). o.answer) (going setup (pieces_of came) g.goes_on)))
      (ends_by setup (accepted setup (stream (pieces_of came))) g.readings e.phase g.stands)
