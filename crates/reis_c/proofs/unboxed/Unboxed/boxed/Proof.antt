-- `boxed` hands the block and its allocator to the box.
use Rattle.std.proofs.Common.{◌≡◌, List, [], ◌∷◌, ◌++◌, refl, sym, ap, subst}
use lib.Dec.{T}
use mir.Syntax.{Fn}
use mir.MapTy.{inst_fn}
use mir.Val.{Val, vptr, has_ty, WT}
use base.Logic.{SProp, ent, emp, id⊢}
use base.Fml.{ftrue}
use contract.BorrowLft.{◌⊑◌}
use prog.Wp.{WpFn}
use types.Kit.{Item, ‵, raw, ◌⊛◌, some, later, at_ret, ◌$◌, ◌∵◌, !, qed, by, move, keep, drop, use0, use1, split}
use types.Kit.{split3, join, fsplit, fjoin, feq_i, pick, await, rewrite, suffices}
use types.Run.{stop, fld, of_opd, no_more, and_then, first, blocks, exec, returns, enter}
use types.ByLocal.{alloc_all, pass_all, free_all, look_at, get, get_in, lands_last, sets, env}
use types.Part.{sub, whole}
use contract.Monad.{fact, fact_i}
use contract.Running.{tables}
use denote.Exit.{no}
use denote.RattleType.{RattleType, owns}
use denote.RawPtr.{block_ptr}
use denote.Signature.{types_at, plain}
use denote.Steps.{heard, nothing, only}
use denote.Triple.Call.{calls_at_last}
use denote.Triple.Clauses.{Lasts, lasts}
use denote.Triple.Entry.{alive}
use denote.Triple.Spec.{triple_of}
use denote.Triple.Table.{framed}
use denote.Triple.Walked.{Stays, stay_dropped, walk_of}
use Rattle.std.proofs.alloc.Calls.{Goes-blank}
use Rattle.std.proofs.alloc.Shapes.{after}
use Rattle.std.proofs.BoxSteps.Form.{Bx, D, R, P, B, args, box_ty, word, box_typed}
use Rattle.std.proofs.BoxSteps.Steps.{box_out, box_in}
use Rattle.std.proofs.raw_atomic.Walks.{proved_at, leaves}
use Rattle.std.specs.contracts.boxed.Box.from_raw as callee
use Rattle.std.proofs.boxed.Box.from_raw.Met.{met}
use Rattle.reis_c.specs.contracts.unboxed.Unboxed as unboxed
use Rattle.reis_c.specs.contracts.unboxed.Unboxed.boxed as f
use Rattle.reis_c.specs.contracts.unboxed.Unboxed.boxed.Key.{name as #self}
use Rattle.reis_c.proofs.unboxed.Unboxed.boxed.Statement.{statement}
use Rattle.reis_c.proofs.unboxed.Unboxed.boxed.Code as code

pub boxed_spec : {M : Type 1} → statement M
boxed_spec 𝓤 𝓛 𝓜 𝓡 wired X Z LX LZ g d dd allocator ends_a =
    let E : Bx = record { row = X; laws = LX; al = record { row = Z; laws = LZ; g = g; d = d; drops = dd } } in
    let H = 𝓛.H in let 𝓣 = tables 𝓤 H 𝓜 𝓡 𝓡.env in
    let fn : Fn = inst_fn (args E) code.function in
    let ended = f.ended X Z g d dd in
    let c = f.clauses X Z g d dd 𝓛 𝓜.mem 𝓡.returns in
    let Given : RattleType = unboxed.the_row (R E) (P E) g in
    let hs : Stays ended.signature.params ended.kept = (stay_dropped (plain (λ _. Given)) no, tt) in
    let called = callee.ended X Z g d dd in
    let G = triple_of 𝓛 (callee.signature X Z g d dd) (callee.spec X Z g d dd 𝓛 𝓜.mem 𝓡.returns) in
    proved_at 𝓛 ended hs c 𝓜 𝓡 (Goes-blank 𝓛 2 (plain (λ _. Given)) no (λ κs x f. tt), tt) (#self (args E)) fn
    (code.unfolded 𝓤 H 𝓜 𝓡 wired (X, (Z, tt)) d dd) (λ z are.
    let κs = z.0.0 in let qs = z.0.1 in let block = z.0.3.0 in let a = block.alloc in let x = block.value in
    let Post : Val → SProp 𝓤 = (walk_of 𝓛 ended hs c).post z in
    let Run : List Val → SProp 𝓤 = λ ws. WpFn 𝓤 H 𝓣.C 𝓣.Λ fn ws Post in
    let tokens : Item 𝓤 = raw (alive 𝓛 ended.signature κs qs) in
    let in_x : Item 𝓤 = raw (fact 𝓤 (κs.0 ⊑ X.lives)) in let in_a : Item 𝓤 = raw (fact 𝓤 (κs.1.0 ⊑ Z.lives)) in
    let v : D E = record { ptr = block.at; alloc = a; value = x } in
    qed 𝓛 ((tokens ⊛ ‵ (owns (types_at ended.signature.params κs) z.0.3 z.0.4)) ∷ (in_x ⊛ in_a ⊛ ‵ ftrue) ∷ []) ∵
    split ! $ move ! (1 ∷ []) $ fsplit ! $ use1 𝓛 (‵ ((B E).own_val v z.0.4.0)) (id⊢ 𝓤 _) $
    box_out E ! v z.0.4.0 (λ b o h at_b is fits. fjoin ! $
    let w : Val = word E h b o in let typed = box_typed E h b o fits in
    let y : G.Ghost = ((κs, qs, tt, (a, (block_ptr b o, tt)), (h ∷ [], (vptr b o ∷ [], tt))), x) in
    suffices ! (Run (w ∷ [])) (subst (λ (us : List Val). ent 𝓤 (Run (w ∷ [])) (Run us)) (sym (λ i. is i ++ [])) (id⊢ 𝓤 (Run (w ∷ [])))) $
    enter ! 𝓣.C 𝓣.Λ fn (w ∷ []) Post $ alloc_all ! (λ l. pass_all ! refl (typed, tt) $ let Ev = env fn.locals l in
    sets ! (of_opd ! (get_in ! (fld ! refl (stop !)) (sub ! 0 refl (whole !)))) refl (tt, tt) $
    sets ! (of_opd ! (get_in ! (fld ! refl (stop !)) (sub ! 1 refl (whole !)))) refl fits $
    first ! $ blocks ! $ sets ! (of_opd ! (get ! refl)) refl fits $
    -- [the block; the allocator; nothing; the tokens; what is required]
    move ! (4 ∷ []) $ split3 ! $ move ! (2 ∷ []) $ drop ! $ move ! (1 ∷ 2 ∷ []) $ join ! $ move ! (1 ∷ 0 ∷ []) $ join ! $
    -- [what the callee requires; the allocator; nothing; the tokens]
    move ! (2 ∷ []) $ feq_i ! (List Val) (vptr b o ∷ []) (vptr b o ∷ []) refl $ fjoin ! $ move ! (2 ∷ 0 ∷ []) $ fjoin ! $
    move ! (2 ∷ 0 ∷ []) $ join ! $ join ! $ use1 𝓛 (raw (G.pre y)) (id⊢ 𝓤 _) $
    calls_at_last ! (framed 𝓤 H 𝓜 𝓣) G (met 𝓤 𝓛 𝓜 𝓡 (code.calls-std::boxed::Box::from_raw 𝓡.env wired) X Z LX LZ g d dd allocator ends_a) y
    (and_then ! (get ! refl) (and_then ! (get ! refl) (no_more !))) (λ u.
    use1 𝓛 (later (some (λ (r : D E). (tokens ⊛ ‵ ((B E).own_val r (u ∷ []))) ⊛
    some (λ (ws : Lasts called κs y.0.3). ‵ (lasts called κs y.0.3 ws) ⊛ (raw (fact 𝓤 (r.value ≡ x)) ⊛ raw (fact 𝓤 (r.alloc ≡ a))))))) (id⊢ 𝓤 _) $
    await ! tt $ pick ! (λ r. split ! $ split ! $ move ! (2 ∷ []) $ pick ! (λ ws. split ! $ drop ! $ split ! $ heard ! (r.value ≡ x) (λ same. drop ! $
    -- [the tokens; the box]
    move ! (1 ∷ []) $ box_out E ! r (u ∷ []) (λ b₁ o₁ h₁ at_b₁ is₁ fits₁. box_in E ! r b₁ o₁ r.value at_b₁ refl $
    rewrite ! 0 (λ (us : List Val). ‵ ((B E).own_val r us)) (sym is₁) refl $
    let typed₁ : T (has_ty (box_ty E) u) × WT u =
    subst (λ (s : Val). T (has_ty (box_ty E) s) × WT s) (sym (ap only is₁)) (box_typed E h₁ b₁ o₁ fits₁) in
    lands_last ! refl typed₁ $ exec ! 𝓣.C 𝓣.Λ Ev (after 3 fn.body) (at_ret Ev Post) $ sets ! (of_opd ! (get ! refl)) refl typed₁ $
    use0 𝓛 (raw (fact 𝓤 (r.value ≡ x))) (fact_i 𝓤 (r.value ≡ x) (emp 𝓤) same) $ nothing ! $ nothing ! $ fjoin ! $
    returns ! (look_at ! 0 refl) $ free_all ! refl $ keep ! (3 ∷ 0 ∷ 2 ∷ 1 ∷ []) $
    by ! (leaves 𝓛 ended hs c z u r ((tt, (tt, tt)), tt) (tt, tt))))))))))
