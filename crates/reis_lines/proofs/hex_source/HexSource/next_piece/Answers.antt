use Rattle.std.proofs.Common.{◌≡◌, ◌<◌, inl, [], ◌∷◌, ◌++◌, length, take, refl, arith, ap, sym, ◌∙◌, Ok, None, true}
use Rattle.std.proofs.lemmas.List.{append-nil, length-take-le}
use Rattle.std.specs.Prelude.{is_some}
use Rattle.reis_lines.specs.HexSource.{text_reading}
use Rattle.reis_lines.specs.LaterReadings.{LaterLines-none, LaterFetches-none, left_all}
use Rattle.reis_lines.proofs.AskingLaws.{later_fetches, takes_as, takes_none, bad_met}
use Rattle.reis_lines.proofs.SourceLaws.{some_not_none, none_if_not_some, not_both, first_of, line_is, removed_is, no_line, handed_out, hands_line}
use Rattle.reis_lines.proofs.SourceLaws.{ends_here, holds_end, holds_bad, left_behind, removed_fits, unmet_later}
use Rattle.reis_lines.proofs.hex_source.HexSource.next_piece.Goals as goal

pub returns-then-is_some-clause-later : goal.returns-then-is_some-clause-later
unfolding LaterLines-none
returns-then-is_some-clause-later g c =
    let some : is_some c.args.self.now.bad ≡ true = cc in
    record {
      input = g.met.I.Input.later_refl _;
      count = omega arith;
      bytes = [];
      gave = sym (append-nil _);
      lines = LaterLines-none _ [] _ _ _ _ (sym (append-nil _)) refl;
      fetched = LaterFetches-none _ _ _ _;
      pieces = sym (append-nil _);
      left = left_all _;
      told = λ t left is. is ∙ sym left;
      asked = inl (refl, refl);
      ended = λ is. (refl, is);
      kept = λ n is. record { input = refl; held = refl; ended = refl; line = refl; bad = refl };
      unmet = λ none. absurd (some_not_none _ some none);
      met = λ none. absurd (some_not_none _ some none);
      holds = λ none. absurd (some_not_none _ some none);
      bad_count = omega (arith, c.saturating_add-self.ensures);
      fits = λ few. few;
    }

pub returns-in_err-found-clause-later : goal.returns-in_err-found-clause-later
unfolding LaterLines-none
returns-in_err-found-clause-later g c =
    let is = c.in_err-found.ensures in
    unmet_later g.I.Input.view g.I.Input.later _ _ (none_if_not_some _ (sym c.is_some.ensures ∙ c.if-is_some.false)) is.same_bad
    is.same_faults
    (record {
      input = is.later;
      count = is.cause.later;
      bytes = is.given.bytes;
      gave = is.given.gave;
      lines = LaterLines-none _ _ _ _ _ _ is.given.held is.same_line;
      fetched = later_fetches g.I.Input.view _ _ _ _ is.given.bytes _ _ _ is.given.held is.fetched;
      pieces = is.same_pieces ∙ sym (append-nil _);
      left = left_behind _ _ _ _ is.given.bytes is.given.held is.text;
      told = is.told;
      asked = is.asked;
      ended = is.behind_end;
      fits = is.fits;
    })

pub returns-then-count-eq0-clause-later : goal.returns-then-count-eq0-clause-later
unfolding LaterLines-none
returns-then-count-eq0-clause-later g c =
    let is = c.in_ok-found.ensures in
    unmet_later g.I.Input.view g.I.Input.later _ _ (none_if_not_some _ (sym c.is_some.ensures ∙ c.if-is_some.false)) is.same_bad
    is.same_faults
    (record {
      input = is.later;
      count = is.cause.later;
      bytes = is.given.bytes;
      gave = is.given.gave;
      lines = LaterLines-none _ _ _ _ _ _ is.given.held is.same_line;
      fetched = later_fetches g.I.Input.view _ _ _ _ is.given.bytes _ _ _ is.given.held is.fetched;
      pieces = is.same_pieces ∙ sym (append-nil _);
      left = left_behind _ _ _ _ is.given.bytes is.given.held is.text;
      told = is.told;
      asked = is.asked;
      ended = is.behind_end;
      fits = is.fits;
    })

pub returns-then-count-eq0-clause-pieces : goal.returns-then-count-eq0-clause-pieces
returns-then-count-eq0-clause-pieces g c = λ text told.
    let found = c.in_ok-found.found in
    let is = c.in_ok-found.ensures in
    let m = is.text text told in
    let first = first_of _ text _ _ found _ m is.place (λ none less. is.ends (ap (λ o. Ok o) none) less) in
    ends_here _ text _ m.rest _ _ found _ first (no_line found _ _ _ c.line_extent-count.ensures.count c.bytes-line.ensures c.if-count-eq0.true) m.left_is

pub returns-then-count-eq0-clause-end : goal.returns-then-count-eq0-clause-end
returns-then-count-eq0-clause-end g c = λ _.
    let found = c.in_ok-found.found in
    let is = c.in_ok-found.ensures in
    holds_end found _ _ is.place (λ none less. is.ends (ap (λ o. Ok o) none) less)
    (no_line found _ _ _ c.line_extent-count.ensures.count c.bytes-line.ensures c.if-count-eq0.true)

pub returns-in-Some-clause-pieces : goal.returns-in-Some-clause-pieces
returns-in-Some-clause-pieces g c = λ text told.
    let found = c.in_ok-found.found in
    let is = c.in_ok-found.ensures in
    let m = is.text text told in
    let first = first_of _ text _ _ found _ m is.place (λ none less. is.ends (ap (λ o. Ok o) none) less) in
    hands_line _ text _ m.rest _ _ _ _ found _ _ first
    (line_is found _ _ _ c.line_extent-count.ensures.count c.bytes-line.ensures) c.in-Some.ensures.spells
    (removed_is found _ _ _ _ c.line_extent-count.ensures.skip c.bytes-line.ensures c.remove.ensures) m.left_is c.in-Some.ensures.size.0

pub returns-in-Some-clause-later : goal.returns-in-Some-clause-later
unfolding handed_out
returns-in-Some-clause-later g c =
    let found = c.in_ok-found.found in
    let is = c.in_ok-found.ensures in
    unmet_later g.I.Input.view g.I.Input.later _ _ (none_if_not_some _ (sym c.is_some.ensures ∙ c.if-is_some.false)) is.same_bad
    is.same_faults
    (record {
      input = is.later;
      count = is.cause.later;
      bytes = is.given.bytes;
      gave = is.given.gave;
      lines = handed_out _ is.given.bytes _ _ _ _ found _ _ _ is.given.held is.place (λ none less. is.ends (ap (λ o. Ok o) none) less)
          (line_is found _ _ _ c.line_extent-count.ensures.count c.bytes-line.ensures) c.in-Some.ensures.spells
          (removed_is found _ _ _ _ c.line_extent-count.ensures.skip c.bytes-line.ensures c.remove.ensures)
          (omega (arith, c.saturating_add-self-in-Some.ensures, is.same_line));
      fetched = later_fetches g.I.Input.view _ _ _ _ is.given.bytes _ _ _ is.given.held is.fetched;
      pieces = c.note.ensures ∙ ap (λ v. v ++ record { bytes = take c.in-Some.n c.decode_line.new.bytes; handles = [] } ∷ []) is.same_pieces;
      left = left_behind _ _ _ _ is.given.bytes is.given.held is.text;
      told = is.told;
      asked = is.asked;
      ended = is.behind_end;
      fits = removed_fits _ _ _ found (removed_is found _ _ _ _ c.line_extent-count.ensures.skip c.bytes-line.ensures c.remove.ensures) is.fits;
    })

pub returns-in-None-clause-later : goal.returns-in-None-clause-later
unfolding LaterLines-none
returns-in-None-clause-later g c =
    let unmet : c.args.self.now.bad ≡ None = none_if_not_some _ (sym c.is_some.ensures ∙ c.if-is_some.false) in
    let found = c.in_ok-found.found in
    let is = c.in_ok-found.ensures in
    let line = line_is found _ _ _ c.line_extent-count.ensures.count c.bytes-line.ensures in
    let some : 0 < length (take c.line_extent-count.result.0 c.bytes-line.result.now) =
    omega (
      arith,
      c.line_extent-count.ensures.bound,
      c.if-count-eq0.false,
      length-take-le c.line_extent-count.result.0 c.bytes-line.result.now c.line_extent-count.ensures.bound,
    ) in
    record {
      input = is.later;
      count = is.cause.later;
      bytes = is.given.bytes;
      gave = is.given.gave;
      lines = LaterLines-none _ _ _ _ _ _ is.given.held is.same_line;
      fetched = later_fetches g.I.Input.view _ _ _ _ is.given.bytes _ _ _ is.given.held is.fetched;
      pieces = is.same_pieces ∙ sym (append-nil _);
      left = left_behind _ _ _ _ is.given.bytes is.given.held is.text;
      told = is.told;
      asked = is.asked;
      ended = is.behind_end;
      kept = λ n was. absurd (not_both _ n unmet was);
      unmet = λ none. absurd (not_both _ _ none refl);
      met = λ none n was. omega (arith, c.saturating_add-self-in-None.ensures, is.same_faults);
      holds = λ none n was. holds_bad found _ _ _ _ _ n is.place (λ e less. is.ends (ap (λ o. Ok o) e) less) line c.in-None.ensures.spells some
          (omega (arith, c.saturating_add.ensures)) was;
      bad_count = omega (arith, c.saturating_add-self-in-None.ensures, is.same_faults);
      fits = λ few. is.fits;
    }

pub returns-in_err-found-clause-fetched : goal.returns-in_err-found-clause-fetched
returns-in_err-found-clause-fetched g c = takes_as g.I.Input.view (text_reading c.args.self.now) _ _ _ (none_if_not_some _ (sym c.is_some.ensures ∙ c.if-is_some.false)) c.in_err-found.ensures.fetched

pub returns-then-count-eq0-clause-fetched : goal.returns-then-count-eq0-clause-fetched
returns-then-count-eq0-clause-fetched g c = takes_as g.I.Input.view (text_reading c.args.self.now) _ _ _ (none_if_not_some _ (sym c.is_some.ensures ∙ c.if-is_some.false)) c.in_ok-found.ensures.fetched

pub returns-in-Some-clause-fetched : goal.returns-in-Some-clause-fetched
returns-in-Some-clause-fetched g c = takes_as g.I.Input.view (text_reading c.args.self.now) _ _ _ (none_if_not_some _ (sym c.is_some.ensures ∙ c.if-is_some.false)) c.in_ok-found.ensures.fetched

pub returns-in-None-clause-fetched : goal.returns-in-None-clause-fetched
returns-in-None-clause-fetched g c = takes_as g.I.Input.view (text_reading c.args.self.now) _ _ _ (none_if_not_some _ (sym c.is_some.ensures ∙ c.if-is_some.false)) c.in_ok-found.ensures.fetched

pub returns-then-is_some-clause-fetched : goal.returns-then-is_some-clause-fetched
returns-then-is_some-clause-fetched g c = takes_none g.I.Input.view (text_reading c.args.self.now) (bad_met _ (sym c.is_some.ensures ∙ c.if-is_some.true))
