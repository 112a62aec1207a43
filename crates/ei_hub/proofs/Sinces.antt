-- What became of a client: nothing, one turn, and one thing after another.
use Rattle.std.proofs.Common.{◌≡◌, ℕ, ◌+◌, inl, inr, List, [], ◌++◌, Option, Some, None, Result, refl, ap, sym, subst, ◌∙◌, append_assoc, arith}
use Rattle.std.specs.Prelude.{IsSome}
use Rattle.std.proofs.lemmas.List.{append-nil}
use Rattle.ei_spec.specs.Piece.{Piece}
use Rattle.ei_session.specs.Setup.{Setup}
use Rattle.ei_backend.specs.Lent.{LentSource, LentSink}
use Rattle.ei_backend.specs.Outside.{SourceView, SinkView}
use Rattle.ei_backend.proofs.Lending.{source_as, source_twice, sink_as, sink_twice, untouched_source, untouched_sink}
use Rattle.ei_types.specs.declared.error.Error.{Error}
use Rattle.ei_types.specs.declared.error.Error.TheVariants as error
use Rattle.ei_serve.specs.declared.session.Ended.{Ended as HowEnded}
use Rattle.ei_serve.specs.Serving.{IsSourceEnd}
use Rattle.ei_backend.specs.Pieces.{ArePieces}
use Rattle.ei_serve.specs.Whole.{Serves}
use Rattle.ei_serve.proofs.AsTold.{same_behind}
use Rattle.ei_hub.specs.declared.client.Client.{Client}
use Rattle.ei_hub.specs.Alone.{ClientView, Start, IsAlone, GaveThese, GoesOnAlone, AnswersAlone, TurnsAlone, at_start, at_now}
use Rattle.ei_hub.specs.Clients.{seen, IsEndOf, IsInputEnd}
use Rattle.ei_hub.specs.Clocks.{AreTaken, GaveReadings, AreSomeGiven}
use Rattle.ei_hub.specs.Since.{Since}
use Rattle.ei_hub.proofs.Readings.{taken_given, none_given, given_later, given_then, gave_nothing}

-- ---- the pieces that a source gave

nothing_came : (x : SourceView) → GaveThese [] x x
nothing_came x = record { gave = sym (append-nil x.given); told = λ told is. (told, refl, is) }

came_then : (came more : List Piece) (x y z : SourceView) → GaveThese came x y → GaveThese more y z → GaveThese (came ++ more) x z
came_then came more x y z g h = record {
  gave = h.gave ∙ ap (λ (l : List Piece). l ++ more) g.gave ∙ append_assoc x.given came more;
  told = λ told is.
      let t = g.told told is in
      let s = h.told t.0 t.2 in
      (s.0, t.1 ∙ ap (λ (l : List Piece). came ++ l) s.1 ∙ sym (append_assoc came more s.0), s.2);
}

-- the pieces told, or given, behind those that came
record Behind (came : List Piece) (y z : SourceView) (over : Type 0) (told : List Piece) (left : Option (List Piece)) : Type 0 where
  rest : List Piece
  told_is : told ≡ came ++ rest
  are : ArePieces y z over rest left

pieces_behind : (came more : List Piece) (x y z : SourceView) (over : Type 0) (told : List Piece) (left : Option (List Piece)) → GaveThese came x y → GaveThese more y z → ArePieces x z over told left → Behind came y z over told left
pieces_behind came more x y z over told left g h (inl a) =
    let t = g.told told a.told_is in
    record { rest = t.0; told_is = t.1; are = inl (record { told_is = t.2; left_is = a.left_is }) }
pieces_behind came more x y z over told left g h (inr a) =
    let all = came_then came more x y z g h in
    let same : a.came ≡ came ++ more = same_behind x.given a.came (came ++ more) (sym a.gave ∙ all.gave) in
    record {
      rest = more ++ a.more;
      told_is = a.told_is ∙ ap (λ (l : List Piece). l ++ a.more) same ∙ append_assoc came more a.more;
      are = inr (record { came = more; more = a.more; gave = h.gave; told_is = refl; left_is = a.left_is; ends = a.ends });
    }

-- ---- of a client that is alone

-- over readings of which more is so
module _ (setup : Setup) (start : Start) (pieces : List Piece) (times : List ℕ) (drawn wider : List ℕ → Type 0) (x z : ClientView) (so : (used : List ℕ) → drawn used → wider used) where
  pub answers_wider : (answer : Option (Result HowEnded Error)) → AnswersAlone setup start pieces times drawn answer x z → AnswersAlone setup start pieces times wider answer x z
  answers_wider None h = record { came = h.came; used = h.used; gave = h.gave; alone = h.alone; drawn_so = so h.used h.drawn_so }
  answers_wider (Some answer) h = record { came = h.came; used = h.used; gave = h.gave; drawn_so = so h.used h.drawn_so; serves = h.serves }

-- nothing happened to it
still_alone : (setup : Setup) (start : Start) (pieces : List Piece) (times : List ℕ) (drawn : List ℕ → Type 0) (x : ClientView) → drawn [] → IsAlone setup start pieces times x → AnswersAlone setup start pieces times drawn x.answer x x
still_alone setup start pieces times drawn x none alone =
    let h : GoesOnAlone setup start pieces times drawn x x = record {
      came = [];
      used = [];
      gave = nothing_came x.source;
      alone = subst (λ (p : List Piece). IsAlone setup start p (times ++ []) x) (sym (append-nil pieces)) (subst (λ (q : List ℕ). IsAlone setup start pieces q x) (sym (append-nil times)) alone);
      drawn_so = none;
    } in
    subst (λ (a : Option (Result HowEnded Error)). AnswersAlone setup start pieces times drawn a x x) (sym alone.goes_on) h

-- it went on, and then something more happened to it
module _ (setup : Setup) (start : Start) (pieces : List Piece) (times : List ℕ) (first second whole : List ℕ → Type 0) (x y z : ClientView)
    (both : (used more : List ℕ) → first used → second more → whole (used ++ more)) (g : GoesOnAlone setup start pieces times first x y) where
  then_answers : (answer : Option (Result HowEnded Error)) → AnswersAlone setup start (pieces ++ g.came) (times ++ g.used) second answer y z → AnswersAlone setup start pieces times whole answer x z
  then_answers None h = record {
    came = g.came ++ h.came;
    used = g.used ++ h.used;
    gave = came_then g.came h.came x.source y.source z.source g.gave h.gave;
    alone = subst (λ (p : List Piece). IsAlone setup start p (times ++ (g.used ++ h.used)) z) (append_assoc pieces g.came h.came)
        (subst (λ (q : List ℕ). IsAlone setup start ((pieces ++ g.came) ++ h.came) q z) (append_assoc times g.used h.used) h.alone);
    drawn_so = both g.used h.used g.drawn_so h.drawn_so;
  }
  then_answers (Some answer) h = record {
    came = g.came ++ h.came;
    used = g.used ++ h.used;
    gave = came_then g.came h.came x.source y.source z.source g.gave h.gave;
    drawn_so = both g.used h.used g.drawn_so h.drawn_so;
    serves = λ told left are.
        let b = pieces_behind g.came h.came x.source y.source z.source (IsSourceEnd answer) told left g.gave h.gave are in
        let all : (pieces ++ g.came) ++ b.rest ≡ pieces ++ told = append_assoc pieces g.came b.rest ∙ ap (λ (l : List Piece). pieces ++ l) (sym b.told_is) in
        subst (λ (p : List Piece). Serves setup p left answer (at_start start (times ++ (g.used ++ h.used))) (at_now z)) all
        (subst (λ (q : List ℕ). Serves setup ((pieces ++ g.came) ++ b.rest) left answer (at_start start q) (at_now z)) (append_assoc times g.used h.used) (h.serves b.rest left b.are));
  }

-- ---- of any client

end_none : (answer : Option (Result HowEnded Error)) (e : Error) → answer ≡ None → IsEndOf answer e → ⊥
end_none answer e none is = absurd cc

input_none : (answer : Option (Result HowEnded Error)) → answer ≡ None → IsInputEnd answer → ⊥
input_none answer none is = subst (λ (a : Option (Result HowEnded Error)). IsInputEnd a) none is

some_none : (answer : Option (Result HowEnded Error)) → answer ≡ None → IsSome answer → ⊥
some_none None none is = absurd cc
some_none (Some a) none is = absurd cc

module _ {S K : Type 0} (source_view : S → SourceView) (source_later : S → S → Type 0) (sink_view : K → SinkView) (sink_later : K → K → Type 0) where
  abbrev So : ℕ → Option (List ℕ) → Option (List ℕ) → Client S K → Client S K → Type 0
  So turns before after c d = Since source_view source_later sink_view sink_later turns before after c d

  abbrev view : Client S K → ClientView
  view c = seen source_view sink_view c

  -- nothing happened to it, or it had its end
  pub since_still : ((a : S) → source_later a a) → ((a : K) → sink_later a a) → (turns : ℕ) (before after : Option (List ℕ)) (c : Client S K) → GaveReadings before after → (c.end ≡ None → turns ≡ 0) → So turns before after c c
  since_still source_same sink_same turns before after c gave ended = record {
    kept = λ some. refl;
    alone = λ setup start pieces times alone. still_alone setup start pieces times (AreSomeGiven before after) (view c) (none_given before after gave) alone;
    source = λ none. source_as (λ f. absurd f) (end_none c.end error.ReadFault none) (input_none c.end none) (untouched_source (source_same c.source));
    sink = λ none. sink_as (λ f. absurd f) (end_none c.end error.WriteFault none) (untouched_sink (sink_same c.sink));
    more = λ none. omega (arith, ended none);
  }

  -- its end was there
  pub since_ended : ((a : S) → source_later a a) → ((a : K) → sink_later a a) → (turns : ℕ) (before : Option (List ℕ)) (o : Option (Client S K)) (d e : Client S K) → o ≡ Some d → o ≡ Some e → (d.end ≡ None → ⊥) → So turns before before d e
  since_ended source_same sink_same turns before o d e was now never =
      let is : d ≡ e = cc in
      subst (λ (f : Client S K). So turns before before d f) is (since_still source_same sink_same turns before before d (gave_nothing before) (λ none. absurd (never none)))

  -- one turn
  pub since_turned : (before after : Option (List ℕ)) (c d : Client S K) → c.end ≡ None →
      ((setup : Setup) (start : Start) (pieces : List Piece) (times : List ℕ) → IsAlone setup start pieces times (view c) → TurnsAlone setup start pieces times (AreTaken before after) (view c) (view d)) →
      LentSource source_view source_later (IsEndOf d.end error.ReadFault) (IsInputEnd d.end) c.source d.source →
      LentSink sink_view sink_later (IsEndOf d.end error.WriteFault) c.sink d.sink →
      (d.end ≡ None → d.session.taken ≡ c.session.taken + 1) → So 1 before after c d
  since_turned before after c d going alone source sink more = record {
    kept = λ some. absurd (some_none c.end going some);
    alone = λ setup start pieces times is.
        answers_wider setup start pieces times (AreTaken before after) (AreSomeGiven before after) (view c) (view d) (taken_given before after) d.end (alone setup start pieces times is);
    source = λ none. source;
    sink = λ none. sink;
    more = λ none. omega (arith, more none);
  }

  -- of so many pieces more, none need be told
  pub since_fewer : (n : ℕ) (before after : Option (List ℕ)) (c d : Client S K) → So n before after c d → So 0 before after c d
  since_fewer n before after c d h = record { kept = h.kept; alone = h.alone; source = h.source; sink = h.sink; more = λ none. omega (arith, h.more none) }

  -- one thing after another
  module _ (source_trans : (a b c : S) → source_later a b → source_later b c → source_later a c) (sink_trans : (a b c : K) → sink_later a b → sink_later b c → sink_later a c)
      (m n : ℕ) (before mid after : Option (List ℕ)) (gave : GaveReadings mid after) (c d e : Client S K) where
    -- it had its end at the second time
    ended_then : (a : Result HowEnded Error) → d.end ≡ Some a → So m before mid c d → So n mid after d e → So (m + n) before after c e
    ended_then a is g h =
        let some : IsSome d.end = subst (λ (o : Option (Result HowEnded Error)). IsSome o) (sym is) refl in
        let same : e ≡ d = h.kept some in
        let wide : So (m + n) before after c d = record {
          kept = g.kept;
          alone = λ setup start pieces times alone.
              answers_wider setup start pieces times (AreSomeGiven before mid) (AreSomeGiven before after) (view c) (view d) (given_later before mid after gave) d.end (g.alone setup start pieces times alone);
          source = g.source;
          sink = g.sink;
          more = λ none. absurd (some_none d.end none some);
        } in
        subst (λ (f : Client S K). So (m + n) before after c f) (sym same) wide

    goes_then : d.end ≡ None → So m before mid c d → So n mid after d e → So (m + n) before after c e
    goes_then none g h = record {
      kept = λ some.
          let same : d ≡ c = g.kept some in
          absurd (some_none d.end none (subst (λ (f : Client S K). IsSome f.end) (sym same) some));
      alone = λ setup start pieces times alone.
          let first = subst (λ (a : Option (Result HowEnded Error)). AnswersAlone setup start pieces times (AreSomeGiven before mid) a (view c) (view d)) none (g.alone setup start pieces times alone) in
          then_answers setup start pieces times (AreSomeGiven before mid) (AreSomeGiven mid after) (AreSomeGiven before after) (view c) (view d) (view e) (given_then before mid after) first e.end
          (h.alone setup start (pieces ++ first.came) (times ++ first.used) first.alone);
      source = λ on. source_twice source_trans (end_none d.end error.ReadFault none) (g.source on) (h.source none);
      sink = λ on. sink_twice sink_trans (end_none d.end error.WriteFault none) (g.sink on) (h.sink none);
      more = λ on. omega (arith, g.more none, h.more on);
    }

    by_end : (answer : Option (Result HowEnded Error)) → d.end ≡ answer → So m before mid c d → So n mid after d e → So (m + n) before after c e
    by_end None is g h = goes_then is g h
    by_end (Some a) is g h = ended_then a is g h

    pub since_then : So m before mid c d → So n mid after d e → So (m + n) before after c e
    since_then g h = by_end d.end refl g h
