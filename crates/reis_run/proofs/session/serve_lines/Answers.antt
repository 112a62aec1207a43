use Rattle.std.proofs.Common.{sym, ◌∙◌, subst, arith}
use Rattle.ei_serve.specs.Standing.{setup_of}
use Rattle.reis_lines.proofs.TextBegins.{unread_text}
use Rattle.reis_run.specs.Session.{end_of, EndsAs, IsDecidedLine, TellsFault, TookLines, TookAllAs}
use Rattle.reis_lines.specs.Asking.{fetches_since}
use Rattle.reis_lines.specs.Text.{pieces_of}
use Rattle.reis_run.specs.declared.session.LastLine.{LastLine}
use Rattle.reis_run.proofs.SessionLaws.{went, went_input, served, line_ends, line_handles, line_clock}
use Rattle.reis_run.proofs.SessionLaws.{line_cut, line_took, line_fault, line_last, line_risen, line_met, line_given, fetched_none, nothing_handled}
use Rattle.reis_run.proofs.session.serve_lines.Goals as goal

pub returns-clause-serves : goal.returns-clause-serves
returns-clause-serves g c = λ text left is.
    let one_input = sym c.over-source.ensures.same_reference ∙ c.serve-answer.ensures.source.later_source.same_reference ∙ sym c.close-input.ensures.same_reference in
    let w =
    went g.I.Input.view g.I.Input.later _ c.input-1.given.0 c.over-source.result c.serve-answer.new.source c.serve-answer.result
    c.over-source.ensures.fresh c.over-source.ensures.unasked c.serve-answer.ensures.source (c.input-1.given.1 one_input ∙ c.close-input.ensures.same) in
    let says = c.serve-answer.ensures.serves in
    let s =
    served g.I.Input.view g.I.Input.later _ _ c.over-source.result c.serve-answer.new.source (setup_of c.args.setup) text left _ _ c.serve-answer.result _ _ _ _ c.over-source.ensures.fresh w is
    (λ pieces rest are. record {
      answers = (says pieces rest are).answer;
      gives = (says pieces rest are).requests;
      replied = (says pieces rest are).replies;
      clock = (says pieces rest are).readings;
      handled = (says pieces rest are).handled;
      taken = (says pieces rest are).taken;
      cut = (says pieces rest are).cut_short;
    }) in
    record {
      ends = subst (λ (l : LastLine). IsDecidedLine l → EndsAs (end_of (setup_of c.args.setup) text) l) (sym c.last_line.ensures) (line_ends s c.bad_line-bad.result c.bad_line-bad.ensures);
      requests = λ d. (line_handles s c.bad_line-bad.result c.bad_line-bad.ensures (rw c.last_line.ensures at d)).0;
      replies = λ d. (line_handles s c.bad_line-bad.result c.bad_line-bad.ensures (rw c.last_line.ensures at d)).1;
      readings = λ d. line_clock s c.bad_line-bad.result (rw c.last_line.ensures at d);
      given = λ d. line_given s c.bad_line-bad.result c.bad_line-bad.ensures (sym c.last_line.ensures ∙ d);
      cut_short = λ d. line_cut s c.bad_line-bad.result (rw c.last_line.ensures at d);
      taken = λ d. subst (λ (l : LastLine). TookLines text (fetches_since g.I.Input.view c.args.input.now c.input-1.given.0) left (TookAllAs (setup_of c.args.setup) (pieces_of text) l)) (sym c.last_line.ensures) (line_took s c.bad_line-bad.result c.bad_line-bad.ensures (rw c.last_line.ensures at d));
    }

pub returns-clause-fault : goal.returns-clause-fault
returns-clause-fault g c = λ d.
    let one_input = sym c.over-source.ensures.same_reference ∙ c.serve-answer.ensures.source.later_source.same_reference ∙ sym c.close-input.ensures.same_reference in
    let w =
    went g.I.Input.view g.I.Input.later _ c.input-1.given.0 c.over-source.result c.serve-answer.new.source c.serve-answer.result
    c.over-source.ensures.fresh c.over-source.ensures.unasked c.serve-answer.ensures.source (c.input-1.given.1 one_input ∙ c.close-input.ensures.same) in
    record { fault = line_fault w c.bad_line-bad.result c.bad_line-bad.ensures (sym c.last_line.ensures ∙ d); last = line_last w c.bad_line-bad.result c.bad_line-bad.ensures (sym c.last_line.ensures ∙ d) }

pub returns-clause-risen : goal.returns-clause-risen
returns-clause-risen g c = λ d.
    let one_input = sym c.over-source.ensures.same_reference ∙ c.serve-answer.ensures.source.later_source.same_reference ∙ sym c.close-input.ensures.same_reference in
    let w =
    went g.I.Input.view g.I.Input.later _ c.input-1.given.0 c.over-source.result c.serve-answer.new.source c.serve-answer.result
    c.over-source.ensures.fresh c.over-source.ensures.unasked c.serve-answer.ensures.source (c.input-1.given.1 one_input ∙ c.close-input.ensures.same) in
    subst TellsFault (sym c.last_line.ensures) (line_risen w c.bad_line-bad.result c.bad_line-bad.ensures d)

pub returns-clause-bad_line : goal.returns-clause-bad_line
returns-clause-bad_line g c = λ n d.
    let one_input = sym c.over-source.ensures.same_reference ∙ c.serve-answer.ensures.source.later_source.same_reference ∙ sym c.close-input.ensures.same_reference in
    let w =
    went g.I.Input.view g.I.Input.later _ c.input-1.given.0 c.over-source.result c.serve-answer.new.source c.serve-answer.result
    c.over-source.ensures.fresh c.over-source.ensures.unasked c.serve-answer.ensures.source (c.input-1.given.1 one_input ∙ c.close-input.ensures.same) in
    line_met w c.bad_line-bad.result n c.bad_line-bad.ensures (sym c.last_line.ensures ∙ d)

pub returns-clause-input : goal.returns-clause-input
returns-clause-input g c = let one_input = sym c.over-source.ensures.same_reference ∙ c.serve-answer.ensures.source.later_source.same_reference ∙ sym c.close-input.ensures.same_reference in
    let w =
    went g.I.Input.view g.I.Input.later _ c.input-1.given.0 c.over-source.result c.serve-answer.new.source c.serve-answer.result
    c.over-source.ensures.fresh c.over-source.ensures.unasked c.serve-answer.ensures.source (c.input-1.given.1 one_input ∙ c.close-input.ensures.same) in
    went_input w

pub returns-in-Err-clause-serves : goal.returns-in-Err-clause-serves
returns-in-Err-clause-serves g c = λ text left is.
    record {
      ends = elim [ ];
      requests = elim [ ];
      replies = elim [ ];
      readings = elim [ ];
      given = λ e. grind arith;
      cut_short = λ e. nothing_handled _ text _ left _ _ _ (fetched_none g.I.Input.view _) (unread_text g.I.Input.view _ text left is);
      taken = elim [ ];
    }
