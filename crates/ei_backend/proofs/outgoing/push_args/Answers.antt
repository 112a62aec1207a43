use Rattle.std.proofs.Common.{ℕ, take, ap, List, length, ◌∙◌, arith, length-append}
use Rattle.std.proofs.lemmas.Bool.{false≢true}
use Rattle.std.proofs.lemmas.Result.{err_from_is_err_and}
use Rattle.ei_spec.specs.declared.handle.Handle.{Handle}
use Rattle.ei_wire.specs.declared.arg.Arg.TheVariants.{Uint32}
use Rattle.ei_backend.specs.Outgoing.{args_body, args_handles}
use Rattle.ei_backend.proofs.Sending.{spelled_at, next_le, next_handles_le}
use Rattle.ei_backend.proofs.outgoing.push_args.Goals as goal

pub write-requires : goal.write-requires
write-requires c = spelled_at c.args.args.now c.loop-arg.arg-index _ c.loop-arg-test.true c.requires

pub returns-in_err-write-clause-err : goal.returns-in_err-write-clause-err
returns-in_err-write-clause-err c =
    let p = err_from_is_err_and c.from_residual.result c.from_residual.ensures.1 in
    rw p.1 (args_body (take c.loop-arg.arg-index c.args.args.now), c.in_err-write.ensures.err ∙ c.loop-arg.invariant.bytes)

pub returns-in_err-write-clause-err_handles : goal.returns-in_err-write-clause-err_handles
returns-in_err-write-clause-err_handles c =
    let p = err_from_is_err_and c.from_residual.result c.from_residual.ensures.1 in
    rw p.1 (args_handles (take c.loop-arg.arg-index c.args.args.now), c.in_err-write.ensures.err_handles ∙ c.loop-arg.invariant.handles)

pub returns-in_err-write-clause-succeeds : goal.returns-in_err-write-clause-succeeds
returns-in_err-write-clause-succeeds c = λ room handle_room.
    let i = c.loop-arg.arg-index in
    let next = next_le c.args.args.now i (Uint32 0) c.loop-arg-test.true in
    let next_handles = next_handles_le c.args.args.now i (Uint32 0) c.loop-arg-test.true in
    let written_so_far = ap (λ (l : List ℕ). length l) c.loop-arg.invariant.bytes ∙ length-append c.args.out.now.items (args_body (take i c.args.args.now)) in
    let handles_so_far = ap (λ (l : List Handle). length l) c.loop-arg.invariant.handles ∙ length-append c.args.handles.now.items (args_handles (take i c.args.args.now)) in
    absurd (false≢true (c.in_err-write.ensures.succeeds
    (omega (arith, next, written_so_far, c.loop-arg.out.ok.0, c.args.out.now.ok.0, c.loop-arg.invariant.capacity))
    (omega (arith, next_handles, handles_so_far, c.loop-arg.handles.ok.0, c.args.handles.now.ok.0, c.loop-arg.invariant.handle_capacity))))
