-- The name that a client told is told before the finish.
use Rattle.std.proofs.Common.{◌≡◌, Bool, true, false, not, ◌&&◌, ◌||◌, eqb, List, [], ◌∷◌, refl, sym, ap, ◌∙◌, arith}
use Rattle.std.specs.Prelude.{codes, is_some}
use Rattle.std.proofs.lemmas.Bool.{eqb-true}
use Rattle.ei_spec.specs.declared.interface.KnownInterface.TheVariants as known
use Rattle.ei_spec.specs.Value.{Text}
use Rattle.ei_spec.specs.Rows.{row}
use Rattle.ei_spec.specs.Message.{Raw}
use Rattle.ei_spec.specs.History.{occurs}
use Rattle.ei_spec.proofs.HistoryLaws.{occurs_before, occurs_or}
use Rattle.ei_session.specs.Asked.{asks}
use Rattle.ei_session.specs.Handshake.{connected, is_finish, is_the_finish}
use Rattle.ei_session.specs.Refusals.{came}
use Rattle.ei_session.proofs.BeforeTheFinish.{came_more}
use Rattle.ei_session.proofs.AskedRows.{asked_other}
use Rattle.ei_session.proofs.Choices.{and_right, and_false}
use Rattle.ei_session.proofs.FirstObjects.{not_the_finish}
use Rattle.ei_session.proofs.ObjectShape.{at_finish}
use Rattle.ei_standing.specs.Standing.{was_named}

-- a message that tells a name, and such a message before the finish
abbrev is_name : Raw → Bool
is_name m = eqb m.id 0 && asks known.Handshake (codes "name") m

abbrev tells_name : List Raw → Raw → Bool
tells_name before m = not (connected before) && is_name m

-- the finish tells none
finish_opcode : (before : List Raw) (m : Raw) → is_the_finish before m ≡ true → m.opcode ≡ 1
unfolding is_finish
finish_opcode before m f = eqb-true m.opcode 1 (and_right (eqb m.id 0) (eqb m.opcode 1) (at_finish before m f).0)

not_named : (before : List Raw) (m : Raw) → is_the_finish before m ≡ true → asks known.Handshake (codes "name") m ≡ false
unfolding asks
not_named before m f =
    let o = finish_opcode before m f in
    ap is_some (asked_other known.Handshake (codes "name") 3 (row (codes "name") (Text ∷ [])) m refl (λ (same : m.opcode ≡ 3). omega (arith, o, same)))

pub named_finish : (before : List Raw) (m : Raw) → is_the_finish before m ≡ true → was_named (m ∷ before) ≡ was_named before
named_finish before m f = occurs_before tells_name before m (rw (not_named before m f, and_false (eqb m.id 0)) (and_false (not (connected before))))

-- behind the finish none is told
pub named_after : (past : List Raw) (m : Raw) → connected past ≡ true → was_named (m ∷ past) ≡ was_named past
named_after past m on = occurs_before tells_name past m (rw on refl)

one_early : (past : List Raw) (m : Raw) → connected past ≡ false → was_named (m ∷ past) ≡ (is_name m || was_named past)
one_early past m off = occurs_or tells_name past m ∙ ap (λ (b : Bool). (not b && is_name m) || was_named past) off

-- before it each is
pub named_early : (past : List Raw) → connected past ≡ false → was_named past ≡ came (codes "name") past
unfolding came occurs
named_early [] off = refl
named_early (m ∷ past) off =
    let two = not_the_finish past m off in
    one_early past m two.1 ∙ ap (λ (b : Bool). is_name m || b) (named_early past two.1) ∙ sym (came_more (codes "name") past m)
