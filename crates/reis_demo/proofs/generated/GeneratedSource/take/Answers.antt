use Rattle.std.proofs.Common.{◌≡◌, ◌≤◌, ◌⊎◌, inl, inr, ℕ, ◌-◌, ◌^◌, List, [], ◌∷◌, ◌++◌, length, take, min, Ok, refl, sym, ap, ◌∙◌, arith, lit<}
use Rattle.ei_spec.specs.declared.handle.Handle.{Handle}
use Rattle.ei_backend.specs.Outside.{HasCause, CountsOne, given_with}
use Rattle.ei_spec.specs.Message.{Raw, all_bytes}
use Rattle.reis_demo.specs.Script.{StreamView, unsaid}
use Rattle.reis_demo.proofs.CutLaws.{goes_out, hands_first}
use Rattle.reis_demo.proofs.generated.GeneratedSource.take.Goals as goal

-- a source that never fails, and one that doesn't count how often it is asked
never_fails : {T : Type 0} (x : T) → HasCause 0 0 (Ok x)
never_fails x = record { later = omega arith; failed = search; kept = search }

uncounted : CountsOne (2 ^ 64 - 1) (2 ^ 64 - 1)
uncounted = record { rose = omega arith; once = omega arith }

no_handles : (hs : List Handle) → take 0 hs ≡ []
no_handles [] = refl
no_handles (h ∷ hs) = refl

full_of : (len : ℕ) (waits : List ℕ) (left : List Raw) → length waits ≡ len → (4096 ≤ len) ⊎ (left ≡ []) → (4096 ≤ length waits) ⊎ (all_bytes left ≡ [])
full_of len waits left l (inl le) = inl (omega (arith, l, le))
full_of len waits left l (inr none) = inr (ap (λ (ms : List Raw). all_bytes ms) none)

pub returns-clause-left : goal.returns-clause-left
returns-clause-left c =
    let waits = c.say_until.new.out.items in
    let rest = all_bytes (unsaid c.say_until.new.self) in
    let all : waits ++ rest ≡ c.args.self.now.left = c.say_until.ensures.said ∙ ap (λ (v : StreamView). v.left) c.self.view_is in
    let many : c.min-count.result ≡ min (length waits) 4096 = omega (arith, c.min-count.ensures, c.len.ensures, c.say_until.new.out.ok.0) in
    let out = goes_out waits rest c.args.self.now.left 4096 c.min-count.result all many (full_of _ waits (unsaid c.say_until.new.self) (sym c.say_until.new.out.ok.0) c.say_until.ensures.full) in
    ap (λ (x : List ℕ). x ++ rest) c.hand_out.ensures.left ∙ out.behind

pub returns-clause-takes : goal.returns-clause-takes
returns-clause-takes c = record {
  pieces = λ pieces told.
      let waits = c.say_until.new.out.items in
      let rest = all_bytes (unsaid c.say_until.new.self) in
      let all : waits ++ rest ≡ c.args.self.now.left = c.say_until.ensures.said ∙ ap (λ (v : StreamView). v.left) c.self.view_is in
      let many : c.min-count.result ≡ min (length waits) 4096 = omega (arith, c.min-count.ensures, c.len.ensures, c.say_until.new.out.ok.0) in
      let out = goes_out waits rest c.args.self.now.left 4096 c.min-count.result all many (full_of _ waits (unsaid c.say_until.new.self) (sym c.say_until.new.out.ok.0) c.say_until.ensures.full) in
      hands_first 4096 c.args.self.now.left (c.hand_out.new.waiting.items ++ rest) c.hand_out.new.bytes pieces c.min-count.result c.args._handles.now (lit< tt) told
      (ap (λ (x : List ℕ). x ++ rest) c.hand_out.ensures.left ∙ out.behind) out.many (c.hand_out.ensures.bytes ∙ out.front);
  given = c.hand_out.ensures.given
      ∙ ap (λ (hs : List Handle). given_with c.self.inside.given.pieces c.min-count.result (record { bytes = take c.min-count.result c.hand_out.new.bytes; handles = hs })) (sym (no_handles c.args._handles.now))
      ∙ ap (λ (v : StreamView). given_with v.given c.min-count.result (record { bytes = take c.min-count.result c.hand_out.new.bytes; handles = take 0 c.args._handles.now })) c.self.view_is;
  cause = never_fails _;
  asked = uncounted;
  last = search;
}
