use Rattle.std.proofs.Common.{◌≡◌, ◌/◌, ◌%◌, ◌++◌, ap, ◌∙◌, arith}
use Rattle.ei_spec.specs.Message.{Raw, bytes_of}
use Rattle.reis_demo.proofs.Saying.{motion_is, button_is, key_is, scroll_is}
use Rattle.reis_demo.proofs.script.push_input.Goals as goal

pub returns-in-0-clause-bytes : goal.returns-in-0-clause-bytes
returns-in-0-clause-bytes c = c.push_words.ensures.bytes ∙ ap (λ (m : Raw). c.args.out.now.items ++ bytes_of m) (motion_is c.args.number c.in-0.is)

pub returns-in-1-clause-bytes : goal.returns-in-1-clause-bytes
returns-in-1-clause-bytes c = c.push_words-in-1.ensures.bytes ∙ ap (λ (m : Raw). c.args.out.now.items ++ bytes_of m) (button_is c.args.number _ c.in-1.is c.drawn_state.ensures)

pub returns-in-2-clause-bytes : goal.returns-in-2-clause-bytes
returns-in-2-clause-bytes c = c.push_words-in-2.ensures.bytes ∙ ap (λ (m : Raw). c.args.out.now.items ++ bytes_of m) (key_is c.args.number _ c.in-2.is c.drawn_state-in-2.ensures)

pub returns-in_default-clause-bytes : goal.returns-in_default-clause-bytes
returns-in_default-clause-bytes c =
    let three : (c.args.number / 65536) % 4 ≡ 3 = omega arith in
    c.push_words-in_default.ensures.bytes ∙ ap (λ (m : Raw). c.args.out.now.items ++ bytes_of m) (scroll_is c.args.number _ three c.cast_unsigned.ensures)
