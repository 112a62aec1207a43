use Rattle.std.proofs.Common.{◌≡◌, ℕ, length, take, drop, List, sym, ap, subst, ◌∙◌, true, false}
use Rattle.std.specs.Prelude.{min, reverse, ◌==◌}
use Rattle.ei_spec.specs.declared.handle.Handle.{Handle}
use Rattle.std.proofs.lemmas.Bool.{eq-eqb}
use Rattle.ei_spec.specs.Piece.{Piece}
use Rattle.ei_backend.specs.Backend.{BackendView}
use Rattle.ei_linked.specs.Held.{stored_by}
use Rattle.ei_linked.specs.Stored.{StoredEnd}
use Rattle.ei_linked.specs.Delivered.{Delivers, TakesIn, moves}
use Rattle.ei_linked.proofs.Pieces.{delivered_by}
use Rattle.ei_linked.proofs.half.Half.deliver.Goals.{then-is_moved, else-is_moved}
use Rattle.ei_linked.proofs.half.Half.deliver.Goals as goal
use Rattle.ei_linked.proofs.half.Half.deliver.Given.{Over}

went : (g : Over) (c : goal.Joined-is_moved g) → moves c.take_in-answer.result ≡ true → c.if-is_moved.link ≡ record { bytes = drop c.min-count.result c.args.link.now.bytes; handles = drop c.min-handle_count.result c.args.link.now.handles }
went g c e = elim c.if-is_moved.branch [
  | then-is_moved w ↦ w.link-is ∙ w.advance.ensures
  | else-is_moved w ↦ let no = w.if-is_moved.ensures in cc
]

stays : (g : Over) (c : goal.Joined-is_moved g) → moves c.take_in-answer.result ≡ false → c.if-is_moved.link ≡ c.args.link.now
stays g c e = elim c.if-is_moved.branch [
  | then-is_moved w ↦ let no = w.if-is_moved.ensures in cc
  | else-is_moved w ↦ w.link-is
]

not_none : (n : ℕ) → false ≡ (n == 0) → n ≡ 0 → ⊥
not_none n e z = let yes : (n == 0) ≡ true = eq-eqb n 0 z in cc

pub returns-clause-delivers : goal.returns-clause-delivers
returns-clause-delivers g c =
    let link : Piece = c.args.link.now in
    let y : StoredEnd = record { backend = (g.C.HasBackend.seen c.self.inside.context); sent = reverse c.self.inside.sent.items; taken = reverse c.self.inside.taken.items } in
    let z : StoredEnd = record { backend = c.take_in-answer.new.backend; sent = y.sent; taken = y.taken } in
    let bytes_are : c.bytes-bytes.result.now ≡ link.bytes = c.bytes-bytes.ensures in
    let handles_are : c.handles-handles.result.now ≡ link.handles = c.handles-handles.ensures in
    let count = c.min-count.ensures ∙ ap (λ (l : List ℕ). min (length l) c.args.n) bytes_are in
    let k = c.min-handle_count.ensures ∙ ap (λ (l : List Handle). min (length l) 64) handles_are in
    let opened : (g.C.HasBackend.seen c.self.inside.context).closed ≡ false = ap (λ (b : BackendView). b.closed) (sym c.backend.ensures) ∙ sym c.is_closed.ensures ∙ c.if-is_closed.false in
    let any : length link.bytes ≡ 0 → ⊥ = not_none (length link.bytes) (c.if-is_empty.ensures ∙ ap (λ (l : List ℕ). length l == 0) bytes_are) in
    let took : TakesIn (record { bytes = take c.min-count.result link.bytes; handles = take c.min-handle_count.result link.handles }) c.take_in-answer.result y.backend z.backend =
    subst (λ (l : List Handle). TakesIn (record { bytes = take c.min-count.result link.bytes; handles = take c.min-handle_count.result l }) c.take_in-answer.result y.backend z.backend) handles_are
    (subst (λ (l : List ℕ). TakesIn (record { bytes = take c.min-count.result l; handles = take c.min-handle_count.result c.handles-handles.result.now }) c.take_in-answer.result y.backend z.backend) bytes_are
    (subst (λ (b : BackendView). TakesIn (record { bytes = take c.min-count.result c.bytes-bytes.result.now; handles = take c.min-handle_count.result c.handles-handles.result.now }) c.take_in-answer.result b z.backend) c.backend_mut.ensures.value c.take_in-answer.ensures.takes_in)) in
    subst (λ (b : BackendView). Delivers c.args.n c.take_in-answer.result (stored_by g.C.HasBackend.seen c.args.self.now) link (record { backend = b; sent = y.sent; taken = y.taken }) c.if-is_moved.link)
    (sym (g.met.C.HasBackend.seen_with c.self.inside.context c.take_in-answer.new.backend))
    (subst (λ (e : StoredEnd). Delivers c.args.n c.take_in-answer.result e link z c.if-is_moved.link) (ap (stored_by g.C.HasBackend.seen) c.self.view_is)
    (delivered_by c.take_in-answer.result y c.take_in-answer.new.backend link c.if-is_moved.link c.min-count.result c.min-handle_count.result c.args.n count k any opened took (went g c) (stays g c)))
