use Rattle.std.proofs.Common.{◌≡◌, ◌∙◌, refl, take, arith}
use Rattle.std.proofs.lemmas.List.{take_at}
use Rattle.ei_spec.specs.Piece.{Piece}
use Rattle.ei_backend.specs.Outside.{piece_of}
use Rattle.ei_backend.proofs.ComingIn.{hands, has_none, fits, overflows, filled, came}
use Rattle.ei_backend.proofs.incoming.Incoming.read.Goals as goal

pub returns-then-taken-eq0-clause-reads : goal.returns-then-taken-eq0-clause-reads
returns-then-taken-eq0-clause-reads g c = (
  has_none (g.S.Source.view c.args.source.now) (g.S.Source.view c.take.new.self) c.in-Ok.taken c.take.new.bytes c.take.new.handles c.in-Ok.ensures.takes c.if-taken-eq0.true,
  rw (← c.self.view_is, c.in_ok-make_room.ensures.ok) refl,
)

pub returns-then-len-taken-gt-MOST_UNREAD_HANDLES-clause-reads :
    goal.returns-then-len-taken-gt-MOST_UNREAD_HANDLES-clause-reads
returns-then-len-taken-gt-MOST_UNREAD_HANDLES-clause-reads g c = (
  piece_of c.in-Ok.taken c.take.new.bytes c.take.new.handles,
  hands (g.S.Source.view c.args.source.now) (g.S.Source.view c.take.new.self) c.in-Ok.taken c.take.new.bytes c.take.new.handles c.in-Ok.ensures.takes (omega (arith, c.if-taken-eq0.false)),
  rw (← c.self.view_is) (overflows c.self.inside.handles.items c.in-Ok.taken c.take.new.bytes c.take.new.handles c.in-Ok.ensures.size (omega (arith, c.if-taken-eq0.false)) (omega (arith, c.in-Ok.ensures.size.bytes)) (omega (arith, c.in-Ok.ensures.size.handles)) (omega arith)),
  rw (← c.self.view_is, c.in_ok-make_room.ensures.ok) refl,
)

pub returns-clause-reads : goal.returns-clause-reads
returns-clause-reads g c =
    let old : Piece = record { bytes = c.self.inside.bytes.items; handles = c.self.inside.handles.items } in
    let room : c.deref.result.now ≡ c.take.new.bytes = c.deref.ensures.value ∙ take_at c.take.new.bytes _ c.self.inside.room.len (omega arith) in
    let handle_room : c.deref-2.result.now ≡ c.take.new.handles = c.deref-2.ensures.value ∙ take_at c.take.new.handles _ c.self.inside.handle_room.len (omega arith) in
    let fit = fits old.handles c.in-Ok.taken c.take.new.bytes c.take.new.handles c.in-Ok.ensures.size (omega (arith, c.if-taken-eq0.false)) (omega (arith, c.in-Ok.ensures.size.bytes)) (omega (arith, c.in-Ok.ensures.size.handles)) (omega arith) in
    let bytes = came old.bytes c.self.inside.bytes.capacity c.make_room.new.bytes c.fill_from_slice.new.self (take c.in-Ok.taken.bytes c.deref.result.now) c.fill_from_slice.result c.in_ok-make_room.ensures.ok c.fill_from_slice.ensures.count c.fill_from_slice.ensures.items (rw room (omega (arith, fit.bytes, fit.most))) in
    let handles = filled c.self.inside.handles c.add_handles.new.handles (take c.in-Ok.taken.handles c.deref-2.result.now) c.add_handles.result c.add_handles.ensures.count c.add_handles.ensures.items (rw handle_room (omega (arith, fit.limit, c.self.invariant))) in (
      piece_of c.in-Ok.taken c.take.new.bytes c.take.new.handles,
      hands (g.S.Source.view c.args.source.now) (g.S.Source.view c.take.new.self) c.in-Ok.taken c.take.new.bytes c.take.new.handles c.in-Ok.ensures.takes (omega (arith, c.if-taken-eq0.false)),
      rw (← c.self.view_is) fit,
      rw (← c.self.view_is, bytes, handles, room, handle_room) refl,
    )
