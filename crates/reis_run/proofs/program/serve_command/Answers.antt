use Rattle.reis_run.proofs.ReportLaws.{Kept, is_of, is_of_given, is_of_first, is_status, has_cause, is_complete, is_risen, seen_text, seen_met}
use Rattle.reis_run.proofs.program.serve_command.Goals as goal

pub returns-clause-serves : goal.returns-clause-serves
returns-clause-serves g c =
    let says = c.serve_lines-last.ensures in
    let last = c.serve_lines-last.result in
    let statuses = c.tell_session.ensures.statuses in
    let seen = seen_text g.I.Input.view c.args.input.now c.serve_lines-last.new.input in
    let met = seen_met g.I.Input.view c.args.input.now c.serve_lines-last.new.input in
    let kept : Kept c.new-reply.result c.serve_lines-last.new.reply.held c.bytes.result.now c.new-requests.result.items c.serve_lines-last.new.requests.items c.deref.result.now =
    record { empty = c.new-reply.ensures; reply_same = c.bytes.ensures; none = c.new-requests.ensures.items; requests_same = c.deref.ensures.value } in
    record {
      report = record {
        report = record { reply = c.bytes.result.now; requests = c.deref.result.now; last = last };
        is = record {
          ends = λ text left is. (says.serves text left (seen text left is)).ends;
          decided = λ text left is d. is_of _ _ _ _ c.serve_lines-last.new.reply _ _ _ _ last kept ((says.serves text left (seen text left is)).requests d) ((says.serves text left (seen text left is)).replies d);
          clock = λ text left is. (says.serves text left (seen text left is)).readings;
          taken = λ text left is. (says.serves text left (seen text left is)).taken;
          given = λ text left is e. is_of_given _ text left _ _ _ c.serve_lines-last.new.reply _ _ _ _ last kept ((says.serves text left (seen text left is)).given e);
          cut_short = λ text left is d. is_of_first _ text _ left _ _ _ c.serve_lines-last.new.reply _ _ _ _ last kept ((says.serves text left (seen text left is)).cut_short d);
          fault = λ f. (says.fault f).fault;
          fault_last = λ f. (says.fault f).last;
          risen = says.risen;
          bad_line = λ n bad. met n (says.bad_line n bad);
        };
        status = statuses;
        told = c.tell_session.ensures.told;
      };
      status = λ text left is. is_status _ last _ _ ((says.serves text left (seen text left is)).ends) (λ f. (says.fault f).fault) statuses;
      cause = has_cause last _ _ _ (λ f. (says.fault f).fault) (λ n bad. met n (says.bad_line n bad)) statuses;
      risen = is_risen last _ _ says.risen statuses;
      complete = λ text left is none complete f k.
          is_complete _ text _ _ _ none complete (is_status _ last _ _ ((says.serves text left (seen text left is)).ends) (λ f. (says.fault f).fault) statuses)
          f c.tell_session.ensures.output.write_fault k;
    }
