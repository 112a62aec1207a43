-- What a client traces, answer by answer and piece by piece.
use Rattle.std.proofs.Common.{◌≡◌, ℕ, ◌<◌, Bool, true, false, List, [], ◌∷◌, ◌++◌, length, take, drop, Option, Some, None, refl, sym, ap, subst, ◌∙◌}
use Rattle.std.proofs.Common.{arith, append_assoc, eqb}
use Rattle.std.specs.Prelude.{IfSome, IsSome}
use Rattle.std.proofs.lemmas.List.{append-nil, take-append-drop}
use Rattle.std.proofs.lemmas.Bool.{eqb-true}
use Rattle.ei_spec.specs.Reading.{Fault}
use Rattle.ei_wire.specs.Gives.{fault_of}
use Rattle.ei_backend.specs.Table.{TableView, new_table}
use Rattle.ei_backend.specs.Backend.{BackendView, Waits, Refused, Answers, Shortens, new_backend, next, with_piece}
use Rattle.ei_backend.specs.declared.message.PendingRequestResult.{PendingRequestResult}
use Rattle.ei_backend.specs.declared.message.PendingRequestResult.TheVariants as pending
use Rattle.ei_client.specs.declared.event.Event.{Event}
use Rattle.ei_client.specs.Event.{target_of, opcode_of, values_of}
use Rattle.reis_trace.specs.Pieces.{bytes_alone}
use Rattle.reis_trace.specs.Traced.{event_line, lines_from, lines_read, traced_bytes}
use Rattle.reis_trace.specs.SoFar.{lines_with, answer_line, IsPushed, TracesOn, TracesNext}
use Rattle.reis_trace.proofs.GoingOn.{message_read, message_leaves, gone_read, refused_read, nothing_read}

-- ---- answer by answer

no_more : (old : BackendView) (lines after more : List ℕ) → after ≡ lines → lines_read old.table (old.unread ++ more) ≡ [] → after ≡ lines_with lines old more
no_more old lines after more same empty = same ∙ sym (append-nil lines) ∙ ap (λ (l : List ℕ). lines ++ l) (sym empty)

module _ (old new : BackendView) (lines after : List ℕ) (none : old.handles ≡ []) where
  message : (a : PendingRequestResult Event) → IsPushed (answer_line a) true lines after → Answers target_of opcode_of values_of (Some a) new (next true old) → TracesOn old new lines after
  message (pending.Request m) pushed is =
      let target = target_of m in
      let line = event_line target.interface target.id (opcode_of m) (values_of m) in
      let left = message_leaves old new target (opcode_of m) (values_of m) none is in
      record {
        lines = λ more.
            ap (λ (l : List ℕ). l ++ lines_read new.table (new.unread ++ more)) pushed ∙ append_assoc lines line (lines_read new.table (new.unread ++ more))
            ∙ ap (λ (l : List ℕ). lines ++ l) (sym (message_read old new target (opcode_of m) (values_of m) more none is));
        no_handles = left.0;
        closed = left.1;
      }
  message (pending.ParseError e) pushed is = absurd pushed
  message (pending.InvalidObject id) pushed is = absurd pushed

  refused_by : (f : Option Fault) (more : List ℕ) → after ≡ lines → IfSome f (λ f. next true old ≡ (Refused f, new)) → IsSome f → after ≡ lines_with lines old more
  refused_by None more same is some = absurd cc
  refused_by (Some f) more same is some = no_more old lines after more same (refused_read old new f more none is)

  other : (a : PendingRequestResult Event) → IsPushed (answer_line a) false lines after → Answers target_of opcode_of values_of (Some a) new (next true old) → (more : List ℕ) → after ≡ lines_with lines old more
  other (pending.Request m) pushed is more = absurd pushed
  other (pending.ParseError e) pushed is more = refused_by (fault_of e) more pushed is.0 is.1
  other (pending.InvalidObject id) pushed is more = no_more old lines after more pushed (gone_read old new id more none is)

-- a message takes bytes
shrinks : (a : PendingRequestResult Event) (lines after old new : List ℕ) → IsPushed (answer_line a) true lines after → Shortens old new (Some a) → length new < length old
shrinks (pending.Request m) lines after old new pushed less = less
shrinks (pending.ParseError e) lines after old new pushed less = absurd pushed
shrinks (pending.InvalidObject id) lines after old new pushed less = absurd pushed

-- the next answer
pub next_traced : (old new : BackendView) (lines after : List ℕ) (a : PendingRequestResult Event) (is_message : Bool) → old.handles ≡ [] → IsPushed (answer_line a) is_message lines after → Answers target_of opcode_of values_of (Some a) new (next true old) → Shortens old.unread new.unread (Some a) →
    TracesNext (Some is_message) old new lines after
next_traced old new lines after a true none pushed is less = (message old new lines after none a pushed is, shrinks a lines after old.unread new.unread pushed less)
next_traced old new lines after a false none pushed is less = other old new lines after none a pushed is

-- no answer
pub none_traced : (old new : BackendView) (lines : List ℕ) → old.handles ≡ [] → next true old ≡ (Waits, new) → TracesNext None old new lines lines
none_traced old new lines none is =
    let n = nothing_read old new is in
    subst (λ (x : BackendView). TracesOn old x lines lines × (lines_read x.table x.unread ≡ [])) (sym n.0) (record { lines = λ more. refl; no_handles = none; closed = refl }, n.1)

pub begins : (first : BackendView) (lines : List ℕ) → first.handles ≡ [] → TracesOn first first lines lines
begins first lines none = record { lines = λ more. refl; no_handles = none; closed = refl }

pub goes_then : (a b c : BackendView) (x y z : List ℕ) → TracesOn a b x y → TracesOn b c y z → TracesOn a c x z
goes_then a b c x y z g h = record { lines = λ more. h.lines more ∙ g.lines more; no_handles = h.no_handles; closed = h.closed ∙ g.closed }

pub goes_last : (a b : BackendView) (x y z : List ℕ) → TracesOn a b x y → ((more : List ℕ) → z ≡ lines_with y b more) → (more : List ℕ) → z ≡ lines_with x a more
goes_last a b x y z g h more = h more ∙ g.lines more

-- ---- answer behind answer

module _ (first old new : BackendView) (before lines after : List ℕ) (g : TracesOn first old before lines) where
  last_by : (b : Bool) → b ≡ false → TracesNext (Some b) old new lines after → (more : List ℕ) → after ≡ lines_with before first more
  last_by true e t = absurd cc
  last_by false e t = goes_last first old before lines after g t

  more_by : (b : Bool) → b ≡ true → TracesNext (Some b) old new lines after → TracesOn first new before after × (length new.unread < length old.unread)
  more_by true e t = (goes_then first old new before lines after g t.0, t.1)
  more_by false e t = absurd cc

  pub last_traced : (o : Option Bool) (b : Bool) → o ≡ Some b → b ≡ false → TracesNext o old new lines after → (more : List ℕ) → after ≡ lines_with before first more
  last_traced o b is e t = last_by b e (subst (λ (o : Option Bool). TracesNext o old new lines after) is t)

  pub more_traced : (o : Option Bool) (b : Bool) → o ≡ Some b → b ≡ true → TracesNext o old new lines after → TracesOn first new before after × (length new.unread < length old.unread)
  more_traced o b is e t = more_by b e (subst (λ (o : Option Bool). TracesNext o old new lines after) is t)

  pub all_traced : (o : Option Bool) → o ≡ None → TracesNext o old new lines after → TracesOn first new before after × (lines_read new.table new.unread ≡ [])
  all_traced o is t =
      let rest : TracesNext None old new lines after = subst (λ (o : Option Bool). TracesNext o old new lines after) is t in
      (goes_then first old new before lines after g rest.0, rest.1)

-- ---- piece by piece

-- the lines so far, and those that the client reads of what it has and of the bytes behind it, are those of all bytes; the client reads on
pub record TracesAll (all lines : List ℕ) (client : BackendView) (rest : List ℕ) : Type 0 where
  pub traced : traced_bytes all ≡ lines_with lines client rest
  pub none : lines_read client.table client.unread ≡ []
  pub no_handles : client.handles ≡ []
  pub open_still : client.closed ≡ false

nothing_yet : (t : TableView) → lines_read t [] ≡ []
unfolding lines_read lines_from
nothing_yet t = refl

pub fresh_follows : (all lines : List ℕ) (client : BackendView) → lines ≡ [] → client ≡ new_backend (new_table true 1) → TracesAll all lines client all
fresh_follows all lines client none is =
    rw (none, is) (record { traced = refl; none = nothing_yet (new_table true 1); no_handles = refl; open_still = refl })

all_followed : (all lines rest : List ℕ) (client : BackendView) → TracesAll all lines client rest → rest ≡ [] → lines ≡ traced_bytes all
all_followed all lines rest client f none =
    sym (f.traced ∙ ap (λ (l : List ℕ). lines_with lines client l) none
    ∙ ap (λ (l : List ℕ). lines ++ lines_read client.table l) (append-nil client.unread)
    ∙ ap (λ (l : List ℕ). lines ++ l) f.none ∙ append-nil lines)

module _ (all lines rest piece behind : List ℕ) (client with : BackendView) (f : TracesAll all lines client rest) (parts : rest ≡ piece ++ behind) (is : with ≡ with_piece (bytes_alone piece) client) where
  -- with the piece
  taken : traced_bytes all ≡ lines_with lines with behind
  taken =
      f.traced ∙ ap (λ (l : List ℕ). lines_with lines client l) parts
      ∙ ap (λ (l : List ℕ). lines ++ lines_read client.table l) (sym (append_assoc client.unread piece behind))
      ∙ ap (λ (x : BackendView). lines_with lines x behind) (sym is)

  pub still_none : with.handles ≡ []
  still_none = ap (λ (x : BackendView). x.handles) is ∙ append-nil client.handles ∙ f.no_handles

  pub piece_last : (after : List ℕ) → ((more : List ℕ) → after ≡ lines_with lines with more) → after ≡ traced_bytes all
  piece_last after h = h behind ∙ sym taken

  pub piece_follows : (after : List ℕ) (new : BackendView) → TracesOn with new lines after × (lines_read new.table new.unread ≡ []) → TracesAll all after new behind
  piece_follows after new h = record {
    traced = taken ∙ sym (h.0.lines behind);
    none = h.1;
    no_handles = h.0.no_handles;
    open_still = h.0.closed ∙ ap (λ (x : BackendView). x.closed) is ∙ f.open_still;
  }

pub parts_of : (n : ℕ) (rest piece behind : List ℕ) → piece ≡ take n rest → behind ≡ drop n rest → rest ≡ piece ++ behind
parts_of n rest piece behind p b = rw (p, b) (sym (take-append-drop n rest))

empty : (rest : List ℕ) → eqb (length rest) 0 ≡ true → rest ≡ []
empty [] e = refl
empty (x ∷ rest) e = absurd (omega (arith, eqb-true (length (x ∷ rest)) 0 e))

pub end_followed : (all lines rest : List ℕ) (client : BackendView) → TracesAll all lines client rest → eqb (length rest) 0 ≡ true → lines ≡ traced_bytes all
end_followed all lines rest client f e = all_followed all lines rest client f (empty rest e)
