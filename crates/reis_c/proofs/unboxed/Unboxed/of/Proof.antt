-- `of` lets the box go into its pointer and its allocator, which own what it owned.
use Rattle.std.proofs.Common.{◌≡◌, List, [], ◌∷◌, ◌++◌, refl, sym, ap, ◌∙◌, subst}
use mir.Syntax.{Fn, Args, a_type, dcons, dnil}
use mir.MapTy.{inst_fn}
use mir.Raw.{raw as bare}
use mir.Val.{Val, vstruct, of_list}
use base.Logic.{SProp, ent, emp, id⊢, never, fst∗}
use prog.Wp.{WpFn}
use types.Kit.{Item, ‵, raw, ◌⊛◌, some, later, ◌$◌, ◌∵◌, !, qed, by, move, keep, drop, use0, use1, split}
use types.Kit.{join, fsplit, fjoin, fpick, feq_l, pick, await, rewrite, suffices}
use types.Run.{stop, fld, of_opd, no_more, and_then, returns, enter}
use types.ByLocal.{alloc_all, pass_all, free_all, look_at, get, get_in, lands_as, sets}
use types.Part.{agg, sub, whole as whole_v}
use contract.Monad.{fact, fact_i}
use contract.Running.{tables}
use denote.Exit.{no}
use denote.Param.{bounded}
use denote.RattleType.{RattleType, owns}
use denote.Builtin.{RawPtr}
use denote.Struct.Tuple.{Tuple}
use types.Logic.{sem}
use denote.RawPtr.{Ptr, block_ptr, null_ptr, ptr_val, in_a_block}
use denote.Signature.{types_at, plain}
use denote.Steps.{heard, nothing, only}
use denote.Triple.Call.{calls_at}
use denote.Triple.Clauses.{Lasts, lasts}
use denote.Triple.Entry.{alive}
use denote.Triple.Spec.{triple_of}
use denote.Triple.Table.{framed}
use denote.Triple.Walked.{Stays, stay_dropped, walk_of}
use Rattle.std.proofs.alloc.Calls.{token, handle_tells, Goes-blank}
use Rattle.std.proofs.BoxSteps.Form.{Bx, τ, R, P, B, word, box_typed}
use Rattle.std.proofs.BoxSteps.Steps.{box_out, box_in}
use Rattle.std.proofs.raw_atomic.Walks.{proved_at, leaves}
use Rattle.std.specs.Box.Ownership.{box_owns}
use Rattle.std.specs.contracts.boxed.Box.into_raw_with_allocator as callee
use Rattle.std.proofs.boxed.Box.into_raw_with_allocator.Met.{met}
use Rattle.reis_c.specs.contracts.unboxed.Unboxed as unboxed
use Rattle.reis_c.specs.contracts.unboxed.Unboxed.of as f
use Rattle.reis_c.specs.contracts.unboxed.Unboxed.of.Key.{name as #self}
use Rattle.reis_c.proofs.unboxed.Unboxed.of.Statement.{statement}
use Rattle.reis_c.proofs.unboxed.Unboxed.of.Code as code

pub of_spec : {M : Type 1} → statement M
of_spec 𝓤 𝓛 𝓜 𝓡 wired X Z LX LZ g d dd dx allocator ends_a ends_x =
    let E : Bx = record { row = X; laws = LX; al = record { row = Z; laws = LZ; g = g; d = d; drops = dd } } in
    let H = 𝓛.H in let 𝓣 = tables 𝓤 H 𝓜 𝓡 𝓡.env in
    let args : Args = bounded (a_type ∷ a_type ∷ []) (X, (Z, tt)) (dcons d (dcons dd (dcons dx dnil))) in
    let fn : Fn = inst_fn args code.function in
    let ended = f.ended X Z g d dd dx in
    let c = f.clauses X Z g d dd dx 𝓛 𝓜.mem 𝓡.returns in
    let hs : Stays ended.signature.params ended.kept = (stay_dropped (plain (λ _. B E)) no, tt) in
    let called = callee.ended X Z g d dd dx in
    let Made : RattleType = unboxed.the_row (R E) (P E) g in
    let G = triple_of 𝓛 (callee.signature X Z g d dd dx) (callee.spec X Z g d dd dx 𝓛 𝓜.mem 𝓡.returns) in
    proved_at 𝓛 ended hs c 𝓜 𝓡 (Goes-blank 𝓛 2 (plain (λ _. B E)) no (λ κs x f. tt), tt) (#self args) fn
    (code.unfolded 𝓤 H 𝓜 𝓡 wired (X, (Z, tt)) d dd dx) (λ z are.
    let κs = z.0.0 in let qs = z.0.1 in let held = z.0.3.0 in let a = held.alloc in
    let Post : Val → SProp 𝓤 = (walk_of 𝓛 ended hs c).post z in
    let Run : List Val → SProp 𝓤 = λ ws. WpFn 𝓤 H 𝓣.C 𝓣.Λ fn ws Post in
    let tokens : Item 𝓤 = raw (alive 𝓛 ended.signature κs qs) in
    qed 𝓛 ((tokens ⊛ ‵ (owns (types_at ended.signature.params κs) z.0.3 z.0.4)) ∷ raw ((c κs z.0.3).requires z.1) ∷ []) ∵
    split ! $ move ! (1 ∷ []) $ fsplit ! $ box_out E ! held z.0.4.0 (λ b o h at_b is fits. box_in E ! held b o held.value at_b refl $
    let w : Val = word E h b o in let typed = box_typed E h b o fits in
    let y : G.Ghost = ((κs, qs, tt, (held, tt), (w ∷ [], tt)), tt) in
    suffices ! (Run (w ∷ [])) (subst (λ (us : List Val). ent 𝓤 (Run (w ∷ [])) (Run us)) (sym (λ i. is i ++ [])) (id⊢ 𝓤 (Run (w ∷ [])))) $
    enter ! 𝓣.C 𝓣.Λ fn (w ∷ []) Post $ alloc_all ! (λ l. pass_all ! refl (typed, tt) $ sets ! (of_opd ! (get ! refl)) refl typed $
    -- [the box; nothing; the tokens; what is required]
    fjoin ! $ move ! (1 ∷ 0 ∷ []) $ join ! $ join ! $ use1 𝓛 (raw (G.pre y)) (id⊢ 𝓤 _) $
    calls_at ! (framed 𝓤 H 𝓜 𝓣) G
    (met 𝓤 𝓛 𝓜 𝓡 (code.calls-std::boxed::Box::into_raw_with_allocator 𝓡.env wired) X Z LX LZ g d dd dx allocator ends_a ends_x) y
    (and_then ! (get ! refl) (no_more !)) (λ u.
    use1 𝓛 (later (some (λ (r : Ptr × Z.Denot). (tokens ⊛ ‵ ((Tuple (RawPtr ∷ P E ∷ [])).own_val r (u ∷ []))) ⊛
    some (λ (ws : Lasts called κs (held, tt)). ‵ (lasts called κs (held, tt) ws) ⊛
    (raw (fact 𝓤 (r.1 ≡ a)) ⊛ ‵ (box_owns (token E.al a) (R E) r.0 held.value)))))) (id⊢ 𝓤 _) $
    await ! tt $ pick ! (λ r. split ! $ split ! $ move ! (2 ∷ []) $ pick ! (λ ws. split ! $ drop ! $ split ! $ heard ! (r.1 ≡ a) (λ same.
    -- [the block; the tokens; the pointer and the allocator]
    in_a_block ! r.0 (λ p. box_owns (token E.al a) (R E) p held.value) (fst∗ 𝓤 (never 𝓤) (sem 𝓛 (token E.al a (bare (τ E)) null_ptr))) (λ b₁ o₁ at_b₁.
    move ! (2 ∷ []) $ fpick ! (λ vss. fsplit ! $ feq_l ! (λ whole. fsplit ! $ feq_l ! (λ first. fsplit ! $
    rewrite ! 0 (λ (s : Z.Denot). ‵ ((P E).own_val s vss.1.0)) same refl $ handle_tells E.al ! a vss.1.0 (λ h₁ second fits₁.
    let made : Made.Denot = record { at = block_ptr b₁ o₁; alloc = a; value = held.value } in
    let w₁ : Val = word E h₁ b₁ o₁ in let typed₁ = box_typed E h₁ b₁ o₁ fits₁ in
    let told : vstruct (of_list (vss.0 ++ (vss.1.0 ++ []))) ≡ w₁ =
    (λ i. vstruct (of_list ((first ∙ ap (λ (p : Ptr). ptr_val p ∷ []) at_b₁) i ++ (second i ++ [])))) in
    lands_as ! (ap only whole ∙ told) refl typed₁ $
    sets ! (of_opd ! (get_in ! (fld ! refl (stop !)) (sub ! 0 refl (whole_v !)))) refl (tt, tt) $
    sets ! (of_opd ! (get_in ! (fld ! refl (stop !)) (sub ! 1 refl (whole_v !)))) refl fits₁ $
    sets ! (of_opd ! (get ! refl)) refl fits₁ $
    sets ! (agg ! (and_then ! (get ! refl) (and_then ! (get ! refl) (no_more !)))) refl typed₁ $
    -- [the allocator; nothing; the block; the tokens]
    move ! (2 ∷ []) $ fsplit ! $ box_in E ! (record { ptr = block_ptr b₁ o₁; alloc = a; value = held.value }) b₁ o₁ held.value refl refl $
    use1 𝓛 (‵ (Made.own_val made (w₁ ∷ []))) (id⊢ 𝓤 _) $
    use0 𝓛 (raw (fact 𝓤 (held.value ≡ held.value))) (fact_i 𝓤 (held.value ≡ held.value) (emp 𝓤) refl) $ nothing ! $ nothing ! $ fjoin ! $
    returns ! (look_at ! 0 refl) $ free_all ! refl $ keep ! (4 ∷ 0 ∷ 2 ∷ 1 ∷ []) $
    by ! (leaves 𝓛 ended hs c z w₁ made ((tt, (tt, tt)), tt) (tt, tt))))))))))))))
