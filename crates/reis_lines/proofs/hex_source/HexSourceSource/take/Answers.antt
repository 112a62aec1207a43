use Rattle.std.proofs.Common.{ap, sym, Ok, refl, rules}
use Rattle.reis_lines.specs.HexSource.{text_reading, unread}
use Rattle.reis_lines.proofs.SourceLaws.{take_hands, take_keeps, told_at_end}
use Rattle.reis_lines.proofs.hex_source.HexSourceSource.take.Goals as goal

pub returns-in-Ok-eq0-clause-takes : goal.returns-in-Ok-eq0-clause-takes
returns-in-Ok-eq0-clause-takes g c = record {
  pieces = λ pieces told.
      take_hands (unread g.I.Input.view (text_reading c.args.self.now)) (unread g.I.Input.view (text_reading c.next_piece.new.self)) c.args.self.now.held c.next_piece.new.self.held pieces 0 _ _ told
      (λ t is. rw c.in-Ok-eq0.field-0-test at (c.in-Ok-eq0.ensures.pieces t is));
  given = search rules;
  cause = search rules;
  asked = search rules;
  last = search rules;
}

pub returns-in-Ok-clause-takes : goal.returns-in-Ok-clause-takes
returns-in-Ok-clause-takes g c = record {
  pieces = λ pieces told.
      take_hands (unread g.I.Input.view (text_reading c.args.self.now)) (unread g.I.Input.view (text_reading c.next_piece.new.self)) c.args.self.now.held c.next_piece.new.self.held pieces _ _ _ told
      (λ t is. c.in-Ok.ensures.pieces t is);
  given = search rules;
  cause = search rules;
  asked = search rules;
  last = search rules;
}

pub returns-in-Err-clause-takes : goal.returns-in-Err-clause-takes
returns-in-Err-clause-takes g c = record {
  pieces = λ pieces told.
      take_keeps (unread g.I.Input.view (text_reading c.args.self.now)) (unread g.I.Input.view (text_reading c.next_piece.new.self)) c.args.self.now.held c.next_piece.new.self.held pieces told
      (λ t is. c.in-Err.ensures.pieces t is);
  given = search rules;
  cause = search rules;
  asked = search rules;
  last = search rules;
}

pub returns-in-Ok-eq0-clause-later : goal.returns-in-Ok-eq0-clause-later
returns-in-Ok-eq0-clause-later g c = record {
  same_reference = sym c.in-Ok-eq0.ensures.same_reference;
  reading = c.in-Ok-eq0.ensures.later;
  truly = λ true. record { ends = λ end. c.in-Ok-eq0.ensures.end (ap (λ n. Ok n) c.in-Ok-eq0.field-0-test); fails = λ fault. absurd (cc) };
  ends = λ t told true end now is.
      let l = rw c.in-Ok-eq0.field-0-test at (c.in-Ok-eq0.ensures.pieces t told) in
      told_at_end _ _ l.rest now l.left_is is (l.ends refl).2;
}
