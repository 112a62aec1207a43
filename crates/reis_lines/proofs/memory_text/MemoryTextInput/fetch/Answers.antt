use Rattle.std.proofs.Common.{◌≡◌, ◌∙◌, ap, arith, rules}
use Rattle.reis_lines.specs.Input.{TextView}
use Rattle.reis_lines.proofs.GivenParts.{fetched_on, noted_on}
use Rattle.reis_lines.proofs.memory_text.MemoryTextInput.fetch.Goals as goal

pub returns-clause-fetches : goal.returns-clause-fetches
returns-clause-fetches c = record {
  text = λ text told.
      let is : c.args.self.now.left ≡ text = cc in
      fetched_on c.self.inside.text.items c.deref.result.now c.copy_from_slice.new.self _ text c.self.inside.next c.min-count.result
      (omega (arith, c.self.invariant, c.self.inside.text.ok.0)) (omega (arith, c.min-count.ensures, c.deref.ensures.len))
      (λ none. omega (arith, none, c.min-count.ensures, c.deref.ensures.len, c.requires, c.self.inside.text.ok.0)) c.deref.ensures.value
      (ap (λ (v : TextView). v.left) c.self.view_is ∙ is) c.copy_from_slice.ensures.after;
  given = noted_on _ _ _ _ c.note.ensures.0 (ap (λ (v : TextView). v.given) c.self.view_is);
  fetches = noted_on _ _ _ _ c.note.ensures.1 (ap (λ (v : TextView). v.fetches) c.self.view_is);
  cause = search rules;
  asked = search rules;
  last = search rules;
}
