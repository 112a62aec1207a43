use Rattle.std.proofs.Common.{◌≡◌, None, refl, ap, ◌∙◌}
use Rattle.ei_backend.specs.Outside.{SourceView}
use Rattle.reis_eis.specs.declared.one_piece.OnePiece.{OnePiece}
use Rattle.reis_eis.specs.Lent.{lent, lent_view}
use Rattle.reis_eis.specs.View.{EisView}
use Rattle.reis_eis.proofs.Feeding.{takes_all, takes_none}
use Rattle.reis_eis.proofs.connection.Connection.take.Goals as goal

abbrev piece_view : OnePiece → SourceView
piece_view s = lent_view (lent s.bytes.now s.handles.now) s.given.pieces s.last

pub returns-in-Err : goal.returns-in-Err
returns-in-Err c =
    let source = c.of-source.result in
    let going : c.self.inside.ending ≡ None = ap (λ (v : EisView). v.ending) c.self.view_is ∙ c.requires.going in
    rw (← c.self.view_is, c.from.ensures) (record {
      feeds = takes_none piece_view (λ _ _. Unit {0}) source c.read.new.source source.bytes.now source.handles.now source.given.pieces source.last refl
          c.args.bytes.now c.args.handles.now c.of-source.ensures.bytes c.of-source.ensures.handles c.requires.some c.self.inside.phase c.self.inside.ending going
          refl c.in-Err.error c.args.time c.read.new.self c.self.inside.notices.items c.self.invariant c.in-Err.ensures.reads;
    })

pub returns : goal.returns
returns c =
    let source = c.of-source.result in
    let going : c.self.inside.ending ≡ None = ap (λ (v : EisView). v.ending) c.self.view_is ∙ c.requires.going in
    rw (← c.self.view_is) (record {
      feeds = takes_all piece_view (λ _ _. Unit {0}) source c.read.new.source source.bytes.now source.handles.now source.given.pieces source.last refl
          c.args.bytes.now c.args.handles.now c.of-source.ensures.bytes c.of-source.ensures.handles c.requires.some c.self.inside.phase c.self.inside.ending going
          _ c.args.time c.read.new.self c.handle_messages.new.self c.self.inside.notices.items c.handle_messages.new.notices.items c.handle_messages.result c.in_default.ensures.reads c.handle_messages.ensures.handles;
    })
