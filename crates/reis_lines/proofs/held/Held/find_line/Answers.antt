use Rattle.std.proofs.Common.{◌≡◌, ◌<◌, ◌∙◌, ap, refl, sym, inl, inr, false, length, arith}
use Rattle.std.specs.Prelude.{is_some}
use Rattle.reis_lines.specs.Text.{has_newline}
use Rattle.reis_lines.proofs.AskingLaws.{asked_on, asked_line, asked_ended, asked_failed, finds_line, few_known}
use Rattle.reis_lines.proofs.GaveLaws.{gave_none, gave_on, some_read, asked_found}
use Rattle.reis_lines.proofs.HeldLaws.{moves_on, moves_by, moves_kept, nothing_left, none_found, not_whole}
use Rattle.reis_lines.proofs.held.Held.find_line.Goals as goal
use Rattle.reis_lines.proofs.held.Held.find_line.Goals.{then-is_some-via-then-is_some, then-is_some-via-else-is_some+then-len-ge-TOO_LONG}

pub returns-in_err-read-clause-text : goal.returns-in_err-read-clause-text
returns-in_err-read-clause-text g c = λ text told.
    moves_kept _ text _ _ _ _ _ (c.lines.invariant.text text told) c.newline-found.ensures.same c.in_err-read.ensures.err c.in_err-read.ensures.left

pub returns-then-branch-eq0-clause-text : goal.returns-then-branch-eq0-clause-text
returns-then-branch-eq0-clause-text g c = λ text told.
    moves_on _ text _ _ _ _ _ (c.lines.invariant.text text told) c.newline-found.ensures.same (λ t now. moves_by _ t _ _ _ (c.in_ok-read.ensures.text t now))

pub returns-then-branch-eq0-clause-ends : goal.returns-then-branch-eq0-clause-ends
returns-then-branch-eq0-clause-ends g c = λ is less text told.
    let m = c.lines.invariant.text text told in
    nothing_left _ m.rest _ _ _ (c.in_ok-read.ensures.text m.rest m.left_is) c.if-branch-eq0.true

pub lines-preserved : goal.lines-preserved
lines-preserved g c =
    let none : is_some c.newline-found.result ≡ false = cc in
    let quiet : has_newline c.lines.self ≡ false = none_found _ _ c.newline-found.ensures.found none in
    record {
      text = λ text told. moves_on _ text _ _ _ _ _ (c.lines.invariant.text text told) c.newline-found.ensures.same (λ t now. moves_by _ t _ _ _ (c.in_ok-read.ensures.text t now));
      given = gave_on _ _ _ _ _ _ _ c.lines.invariant.given c.newline-found.ensures.same c.in_ok-read.ensures.given;
      asked = inr (some_read c.in_ok-read.field-0 _ c.in_ok-read.ensures.last c.if-branch-eq0.false);
      fetched =
          asked_on g.I.Input.view _ _ _ _ _ _ _ _ c.lines.invariant.fetched c.newline-found.ensures.same (ap has_newline c.newline-found.ensures.same ∙ quiet)
          (omega (arith, c.len.ensures, c.if-len-ge-TOO_LONG.false)) c.in_ok-read.ensures.answered c.if-branch-eq0.false;
      unasked = λ has. absurd (not_whole _ _ has (c.lines.invariant.kept has) quiet);
      kept = λ has. absurd (not_whole _ _ has (c.lines.invariant.kept has) quiet);
      kept_count = c.in_ok-read.ensures.cause.kept ∙ c.lines.invariant.kept_count;
      later = g.met.I.Input.later_trans _ _ _ c.lines.invariant.later c.in_ok-read.ensures.later;
    }

pub returns-then-is_some-clause-given : goal.returns-then-is_some-clause-given
returns-then-is_some-clause-given g c = gave_on _ _ _ _ _ _ _ c.lines.invariant.given c.newline-found.ensures.same (gave_none _ _ _ _ refl refl)

pub returns-then-is_some-clause-asked : goal.returns-then-is_some-clause-asked
returns-then-is_some-clause-asked g c =
    asked_found g.I.Input.view _ _ c.newline-found.result _
    (elim c.then-is_some.branch [
      | then-is_some-via-then-is_some w ↦ inl (sym c.is_some.ensures ∙ w.if-is_some.true)
      | then-is_some-via-else-is_some+then-len-ge-TOO_LONG w ↦ inr (omega (arith, w.len.ensures, w.if-len-ge-TOO_LONG.true))
    ])
    c.lines.invariant.asked

pub returns-in_err-read-clause-given : goal.returns-in_err-read-clause-given
returns-in_err-read-clause-given g c = gave_on _ _ _ _ _ _ _ c.lines.invariant.given c.newline-found.ensures.same
    (gave_none _ _ _ _ c.in_err-read.ensures.none_given c.in_err-read.ensures.err)

pub returns-then-branch-eq0-clause-given : goal.returns-then-branch-eq0-clause-given
returns-then-branch-eq0-clause-given g c = gave_on _ _ _ _ _ _ _ c.lines.invariant.given c.newline-found.ensures.same c.in_ok-read.ensures.given

pub returns-then-is_some-clause-fetched : goal.returns-then-is_some-clause-fetched
returns-then-is_some-clause-fetched g c =
    asked_line g.I.Input.view _ _ _ _ _ _ c.lines.invariant.fetched c.newline-found.ensures.same
    (finds_line c.newline-found.result _ _ c.newline-found.ensures.found c.newline-found.ensures.same
    (elim c.then-is_some.branch [
      | then-is_some-via-then-is_some w ↦ inl (sym c.is_some.ensures ∙ w.if-is_some.true)
      | then-is_some-via-else-is_some+then-len-ge-TOO_LONG w ↦ inr (omega (arith, w.len.ensures, w.if-len-ge-TOO_LONG.true))
    ]))

pub returns-in_err-read-clause-fetched : goal.returns-in_err-read-clause-fetched
returns-in_err-read-clause-fetched g c =
    let none : is_some c.newline-found.result ≡ false = cc in
    asked_failed g.I.Input.view _ _ _ _ _ _ _ _ _ c.lines.invariant.fetched c.newline-found.ensures.same
    (ap has_newline c.newline-found.ensures.same ∙ none_found _ _ c.newline-found.ensures.found none)
    (omega (arith, c.len.ensures, c.if-len-ge-TOO_LONG.false)) c.in_err-read.ensures.faulted c.in_err-read.ensures.err

pub returns-then-branch-eq0-clause-fetched : goal.returns-then-branch-eq0-clause-fetched
returns-then-branch-eq0-clause-fetched g c =
    let none : is_some c.newline-found.result ≡ false = cc in
    let few : length c.newline-found.new.self < 131073 = omega (arith, c.len.ensures, c.if-len-ge-TOO_LONG.false) in
    asked_ended g.I.Input.view _ _ _ _ _ _ _ _ _ c.lines.invariant.fetched c.newline-found.ensures.same
    (ap has_newline c.newline-found.ensures.same ∙ none_found _ _ c.newline-found.ensures.found none) few c.in_ok-read.ensures.answered c.if-branch-eq0.true
    (few_known _ _ (omega (arith, c.in_ok-read.ensures.count, c.if-branch-eq0.true)) few)
