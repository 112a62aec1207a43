use Rattle.std.proofs.Common.{◌≡◌, ◌<◌, ◌-◌, ap, ◌∙◌, arith, length-drop, take, drop, length, Some}
use Rattle.std.proofs.lemmas.List.{take_all}
use Rattle.ei_backend.proofs.GoingOut.{put_on, put_more, same_piece}
use Rattle.ei_backend.proofs.outgoing.put_all.Goals as goal

pub loop-done-preserved : goal.loop-done-preserved
loop-done-preserved g c =
    let rest : take (length c.args.bytes.now - c.loop-done.done) (drop c.loop-done.done c.args.bytes.now) ≡ drop c.loop-done.done c.args.bytes.now =
    take_all _ (drop c.loop-done.done c.args.bytes.now) (omega (arith, length-drop c.loop-done.done c.args.bytes.now)) in
    let some : 0 < length (take (length c.args.bytes.now - c.loop-done.done) (drop c.loop-done.done c.args.bytes.now)) =
    omega (arith, length-drop c.loop-done.done c.args.bytes.now, ap length rest, c.loop-done-test.true) in
    record {
      within = omega (arith, length-drop c.loop-done.done c.args.bytes.now, c.in-Ok.ensures.size.at_most);
      taken = λ held told. c.in-Ok.ensures.puts.taken _ (c.loop-done.invariant.taken held told)
          ∙ ap Some (put_on held c.args.bytes.now _ c.args.handles.now _ c.loop-done.done c.in-Ok.n rest c.next_beside.ensures (c.in-Ok.ensures.size.at_least some));
      puts = put_more _ _ c.loop-done.done _ _ _ c.loop-done-test.true (same_piece _ _ _ _ rest c.next_beside.ensures) c.loop-done.invariant.puts c.in-Ok.ensures.puts.puts;
      kept = c.in-Ok.ensures.puts.cause.kept ∙ c.loop-done.invariant.kept;
      kept_wants = c.in-Ok.ensures.puts.want.kept ∙ c.loop-done.invariant.kept_wants;
      later = g.met.K.Sink.later_trans _ _ _ c.loop-done.invariant.later c.in-Ok.ensures.later;
    }

pub returns-in-Err-Fault-clause-puts : goal.returns-in-Err-Fault-clause-puts
returns-in-Err-Fault-clause-puts g c =
    let rest = take_all (length c.args.bytes.now - c.loop-done.done) (drop c.loop-done.done c.args.bytes.now) (omega (arith, length-drop c.loop-done.done c.args.bytes.now)) in
    put_more _ _ c.loop-done.done _ _ _ c.loop-done-test.true (same_piece _ _ _ _ rest c.next_beside.ensures) c.loop-done.invariant.puts c.in-Err-Fault.ensures.puts.puts

pub returns-in-Err-NoMemory-clause-puts : goal.returns-in-Err-NoMemory-clause-puts
returns-in-Err-NoMemory-clause-puts g c =
    let rest = take_all (length c.args.bytes.now - c.loop-done.done) (drop c.loop-done.done c.args.bytes.now) (omega (arith, length-drop c.loop-done.done c.args.bytes.now)) in
    put_more _ _ c.loop-done.done _ _ _ c.loop-done-test.true (same_piece _ _ _ _ rest c.next_beside.ensures) c.loop-done.invariant.puts c.in-Err-NoMemory.ensures.puts.puts
