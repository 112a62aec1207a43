use Rattle.std.proofs.Common.{◌≡◌, arith, ap, ◌∙◌, length, take}
use Rattle.reis_lines.proofs.GaveLaws.{read_gave, read_answer}
use Rattle.reis_lines.proofs.HeldLaws.{read_buffer, read_held, all_written, sees_all, moved_from}
use Rattle.reis_lines.proofs.held.Held.read.Goals as goal

pub invariant_of-self-2 : goal.invariant_of-self-2
invariant_of-self-2 g c =
    let room = c.self.inside.room in
    let moved = c.moved_to_front-start.new.room in
    let e = c.moved_to_front-start.result.1 in
    let moved_full : length moved ≡ room.len = omega arith in
    let full : length c.fetch_behind.new.room ≡ room.len = omega arith in
    let slice : c.deref_mut-2.result.now ≡ moved = sees_all moved _ _ room.len c.deref_mut-2.ensures.value moved_full in
    rw (all_written c.fetch_behind.new.room _ _ full)
    (read_buffer room.items moved c.fetch_behind.new.room _ _ _ _ e _ c.self.invariant
    (moved_from moved c.deref_mut.result.now room.items _ e _ _ c.moved_to_front-start.ensures.same c.deref_mut.ensures.value)
    c.moved_to_front-start.ensures.kept_order c.moved_to_front-start.ensures.kept_len (omega (arith, room.ok.0, c.self.invariant.room))
    (c.fetch_behind.ensures.front ∙ ap (take e) slice) c.in_ok-count.ensures.fits)

pub returns-clause-text : goal.returns-clause-text
returns-clause-text g c = λ text told.
    let room = c.self.inside.room in
    let moved = c.moved_to_front-start.new.room in
    let e = c.moved_to_front-start.result.1 in
    let moved_full : length moved ≡ room.len = omega arith in
    let full : length c.fetch_behind.new.room ≡ room.len = omega arith in
    let slice : c.deref_mut-2.result.now ≡ moved = sees_all moved _ _ room.len c.deref_mut-2.ensures.value moved_full in
    rw (all_written c.fetch_behind.new.room _ _ full)
    (read_held moved c.fetch_behind.new.room c.args.self.now text _ _ e _
    (moved_from moved c.deref_mut.result.now room.items _ e _ _ c.moved_to_front-start.ensures.same c.deref_mut.ensures.value ∙ c.self.view_is)
    c.moved_to_front-start.ensures.kept_order (omega (arith, c.moved_to_front-start.ensures.room))
    (rw slice at (c.in_ok-count.ensures.text text told)))

pub returns-clause-given : goal.returns-clause-given
returns-clause-given g c =
    let room = c.self.inside.room in
    let moved = c.moved_to_front-start.new.room in
    let e = c.moved_to_front-start.result.1 in
    let moved_full : length moved ≡ room.len = omega arith in
    let full : length c.fetch_behind.new.room ≡ room.len = omega arith in
    let slice : c.deref_mut-2.result.now ≡ moved = sees_all moved _ _ room.len c.deref_mut-2.ensures.value moved_full in
    rw (all_written c.fetch_behind.new.room _ _ full)
    (read_gave moved c.fetch_behind.new.room c.args.self.now _ _ _ e _
    (moved_from moved c.deref_mut.result.now room.items _ e _ _ c.moved_to_front-start.ensures.same c.deref_mut.ensures.value ∙ c.self.view_is)
    c.moved_to_front-start.ensures.kept_order (omega (arith, c.moved_to_front-start.ensures.room))
    (rw slice at c.in_ok-count.ensures.given))

pub returns-clause-answered : goal.returns-clause-answered
returns-clause-answered g c =
    let room = c.self.inside.room in
    let moved = c.moved_to_front-start.new.room in
    let e = c.moved_to_front-start.result.1 in
    let moved_full : length moved ≡ room.len = omega arith in
    let full : length c.fetch_behind.new.room ≡ room.len = omega arith in
    let slice : c.deref_mut-2.result.now ≡ moved = sees_all moved _ _ room.len c.deref_mut-2.ensures.value moved_full in
    rw (all_written c.fetch_behind.new.room _ _ full)
    (read_answer moved c.fetch_behind.new.room c.args.self.now _ _ _ e _
    (moved_from moved c.deref_mut.result.now room.items _ e _ _ c.moved_to_front-start.ensures.same c.deref_mut.ensures.value ∙ c.self.view_is)
    c.moved_to_front-start.ensures.kept_order (omega (arith, c.moved_to_front-start.ensures.room))
    (rw slice at c.in_ok-count.ensures.answered))
