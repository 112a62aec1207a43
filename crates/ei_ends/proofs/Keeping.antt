-- Each step keeps what ties two ends.
use Rattle.std.proofs.Common.{◌≡◌, ◌<◌, ◌≤◌, Bool, true, false, List, [], ◌∷◌, ◌++◌, Option, Some, None, refl, sym, ap, subst, ◌∙◌, arith, length}
use Rattle.ei_spec.specs.Rows.{Row}
use Rattle.ei_spec.specs.Piece.{Piece}
use Rattle.ei_backend.specs.Table.{TableView, own_end, own_limit}
use Rattle.ei_backend.specs.Backend.{unsent_of}
use Rattle.ei_ends.specs.Sent.{other, Sent, Got, New, new_of, destroys, IsCall, row_of}
use Rattle.ei_ends.specs.Announced.{next_own}
use Rattle.ei_ends.specs.Way.{onto, HasNextId, MaySend, AllSent, Flows, HasObjects, End, Cut, Tied, unread_of}
use Rattle.ei_ends.specs.Steps.{behind, table_after, table_with, HasId, after_call, flushed, delivered, closed_end, IsPiece, piece_in}
use Rattle.ei_spec.specs.Arguments.{HasFewHandles}
use Rattle.ei_ends.proofs.Known.{Rising, rising, Apart, new_unknown, next_onto, all_sent_onto, rising_onto}
use Rattle.ei_ends.proofs.Objects.{call_keeps}
use Rattle.ei_ends.proofs.Agreeing.{agree_more, times_more}
use Rattle.ei_ends.proofs.InTime.{AllFew}
use Rattle.ei_spec.proofs.RowHandles.{few_handles}
use Rattle.ei_ends.proofs.Flowing.{call_flows, flush_flows, deliver_flows, close_flows}

-- ---- the ranges of two ends

limit_of : (t : TableView) (client : Bool) → t.client ≡ client → own_end t ≡ own_limit client
limit_of t client e = ap own_limit e

within_limit : (client : Bool) (own past : List Sent) (gots : List Got) (t : TableView) → HasObjects client own past gots t → next_own (other client) own ≤ own_limit client
within_limit client own past gots t h =
    let limit = limit_of t client h.client_is in
    subst (λ n. next_own (other client) own ≤ n) limit (subst (λ n. n ≤ own_end t) h.next h.ends)

-- the bounds of a direction that is tied
pub ranges : (events : Bool) (x y : End) (to_y to_x : Piece) (cx cy : Cut) → Tied events x y to_y to_x cx cy → Apart events x.sent y.sent
ranges true x y to_y to_x cx cy h = record {
  sent_rises = rising true x.sent cy.past h.says;
  own_rises = rising false y.sent cx.past h.answers;
  sent_ends = within_limit false x.sent cy.past x.taken x.backend.table h.back.objects;
  own_ends = within_limit true y.sent cx.past y.taken y.backend.table h.there.objects;
}
ranges false x y to_y to_x cx cy h = record {
  sent_rises = rising false x.sent cy.past h.says;
  own_rises = rising true y.sent cx.past h.answers;
  sent_ends = within_limit true x.sent cy.past x.taken x.backend.table h.back.objects;
  own_ends = within_limit false y.sent cx.past y.taken y.backend.table h.there.objects;
}

-- ---- a call

onto_more : (ms past : List Sent) (m : Sent) → onto (ms ++ (m ∷ [])) past ≡ m ∷ onto ms past
onto_more [] past m = refl
onto_more (x ∷ ms) past m = onto_more ms (x ∷ past) m

all_sent_next : (events : Bool) (sent theirs : List Sent) (m : Sent) → MaySend events sent theirs m → AllSent events sent theirs → AllSent events (m ∷ sent) theirs
unfolding AllSent
all_sent_next events sent theirs m one h = (one, h)

-- there is an id for what is announced
id_left : (o : Option New) (n : New) (t : TableView) → o ≡ Some n → HasId o t → t.next_own < own_end t
unfolding HasId
id_left None n t e h = absurd cc
id_left (Some k) n t e h = h

below_limit : (client : Bool) (own past : List Sent) (gots : List Got) (t : TableView) (o : Option New) (n : New) → HasObjects client own past gots t → o ≡ Some n → HasId o t → next_own (other client) own < own_limit client
below_limit client own past gots t o n h e id =
    let lt = id_left o n t e id in
    let limit = limit_of t client h.client_is in
    subst (λ k. next_own (other client) own < k) limit (subst (λ k. k < own_end t) h.next lt)

call_objects : (events : Bool) (m : Sent) (x : End) (own past : List Sent) (gots : List Got) → HasObjects (other events) x.sent past gots x.backend.table → AllSent events x.sent past → Apart events x.sent past →
    HasNextId (next_own events x.sent) (new_of events m) → HasId (new_of events m) x.backend.table →
    HasObjects (other events) (m ∷ x.sent) past gots (table_after (destroys events m) m.target (table_with (new_of events m) x.backend.table))
call_objects true m x own past gots h all apart fresh id =
    call_keeps false m x.sent past gots x.backend.table h all fresh (λ n e. new_unknown true x.sent past apart (below_limit false x.sent past gots x.backend.table (new_of true m) n h e id)) id
call_objects false m x own past gots h all apart fresh id =
    call_keeps true m x.sent past gots x.backend.table h all fresh (λ n e. new_unknown false x.sent past apart (below_limit true x.sent past gots x.backend.table (new_of false m) n h e id)) id

-- the bounds of what the first end sent, and what it took of the other
ranges_back : (events : Bool) (x y : End) (to_y to_x : Piece) (cx cy : Cut) → Tied events x y to_y to_x cx cy → Apart events x.sent cy.past
ranges_back true x y to_y to_x cx cy h =
    let r = ranges true x y to_y to_x cx cy h in
    record { sent_rises = r.sent_rises; own_rises = rising_onto false cy.flight cy.past (subst (λ l. Rising false l) h.back.sent_is r.own_rises); sent_ends = r.sent_ends; own_ends = omega (arith, r.own_ends, next_onto false cy.flight cy.past, ap (next_own false) h.back.sent_is) }
ranges_back false x y to_y to_x cx cy h =
    let r = ranges false x y to_y to_x cx cy h in
    record { sent_rises = r.sent_rises; own_rises = rising_onto true cy.flight cy.past (subst (λ l. Rising true l) h.back.sent_is r.own_rises); sent_ends = r.sent_ends; own_ends = omega (arith, r.own_ends, next_onto true cy.flight cy.past, ap (next_own true) h.back.sent_is) }

-- one more message is on its way
abbrev pub cut_longer : Sent → Cut → Cut
cut_longer m c = record { past = c.past; flight = c.flight ++ (m ∷ []); rest = behind c.rest (piece_in m) }

pub call_step : (events : Bool) (m : Sent) (x y : End) (to_y to_x : Piece) (cx cy : Cut) → Tied events x y to_y to_x cx cy → MaySend events x.sent cy.past m → HasId (new_of events m) x.backend.table →
    Tied events (after_call events m x) y to_y to_x (cut_longer m cx) cy
call_step events m x y to_y to_x cx cy h may id = record {
  there = record {
    sent_is = ap (λ l. m ∷ l) h.there.sent_is ∙ sym (onto_more cx.flight cx.past m);
    agree = h.there.agree;
    times = h.there.times;
    flows = call_flows y.backend.closed (unread_of y.backend) to_y (unsent_of x.backend) x.sent cx.flight y.taken cx.rest m h.there.flows;
    objects = h.there.objects;
  };
  back = record {
    sent_is = h.back.sent_is;
    agree = agree_more (other events) m x.sent cy.past x.taken h.back.agree;
    times = times_more (length x.sent) x.taken h.back.times;
    flows = h.back.flows;
    objects = call_objects events m x x.sent cy.past x.taken h.back.objects h.says (ranges_back events x y to_y to_x cx cy h) may.fresh id;
  };
  says = all_sent_next events x.sent cy.past m may h.says;
  answers = h.answers;
}

-- ---- a flush

pub flush_step : (events : Bool) (x y : End) (to_y to_x : Piece) (cx cy : Cut) → Tied events x y to_y to_x cx cy → Tied events (flushed x) y (behind to_y (unsent_of x.backend)) to_x cx cy
flush_step events x y to_y to_x cx cy h = record {
  there = record {
    sent_is = h.there.sent_is;
    agree = h.there.agree;
    times = h.there.times;
    flows = flush_flows events y.backend.closed (unread_of y.backend) to_y (unsent_of x.backend) y.sent x.sent cx.past cx.flight y.taken cx.rest h.there.agree h.there.sent_is h.there.flows;
    objects = h.there.objects;
  };
  back = record { sent_is = h.back.sent_is; agree = h.back.agree; times = h.back.times; flows = h.back.flows; objects = h.back.objects };
  says = h.says;
  answers = h.answers;
}

-- ---- a delivery

few : (events : Bool) (m : Sent) (r : Row) → IsCall events m r → HasFewHandles m.values
unfolding row_of
few events m r h = few_handles events m.interface m.opcode r m.values h.row h.kinds

few_all : (events : Bool) (ms past theirs : List Sent) → AllSent events (onto ms past) theirs → AllFew ms
unfolding AllSent
few_all events [] past theirs h = tt
few_all events (m ∷ ms) past theirs h =
    let one = (all_sent_onto events ms (m ∷ past) theirs h).0 in
    (few events m one.row one.call, few_all events ms (m ∷ past) theirs h)

pub deliver_step : (events : Bool) (x y : End) (to_y to_x p left : Piece) (cx cy : Cut) → Tied events x y to_y to_x cx cy → y.backend.closed ≡ false → IsPiece p left to_y →
    Tied events x (delivered p y) left to_x (record { past = cx.past; flight = cx.flight; rest = behind left (unsent_of x.backend) }) cy
deliver_step events x y to_y to_x p left cx cy h opened is =
    let few = few_all events cx.flight cx.past cy.past (subst (λ l. AllSent events l cy.past) h.there.sent_is h.says) in
    let flows : Flows false (unread_of y.backend) to_y (unsent_of x.backend) x.sent cx.flight y.taken cx.rest = subst (λ c. Flows c (unread_of y.backend) to_y (unsent_of x.backend) x.sent cx.flight y.taken cx.rest) opened h.there.flows in
    record {
      there = record {
        sent_is = h.there.sent_is;
        agree = h.there.agree;
        times = h.there.times;
        flows = rw opened (deliver_flows (unread_of y.backend) to_y (unsent_of x.backend) x.sent cx.flight y.taken cx.rest p left few is flows);
        objects = h.there.objects;
      };
      back = record { sent_is = h.back.sent_is; agree = h.back.agree; times = h.back.times; flows = h.back.flows; objects = h.back.objects };
      says = h.says;
      answers = h.answers;
    }

-- the end is closed, whatever is left between them
pub close_step : (events : Bool) (x y : End) (to_y to_x left : Piece) (cx cy : Cut) → Tied events x y to_y to_x cx cy → Tied events x (closed_end y) left to_x cx cy
close_step events x y to_y to_x left cx cy h = record {
  there = record {
    sent_is = h.there.sent_is;
    agree = h.there.agree;
    times = h.there.times;
    flows = close_flows y.backend.closed (unread_of y.backend) to_y (unsent_of x.backend) x.sent cx.flight y.taken cx.rest left h.there.flows;
    objects = h.there.objects;
  };
  back = record { sent_is = h.back.sent_is; agree = h.back.agree; times = h.back.times; flows = h.back.flows; objects = h.back.objects };
  says = h.says;
  answers = h.answers;
}
