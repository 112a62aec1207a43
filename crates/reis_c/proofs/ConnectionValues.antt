-- A `ReisConnection` by value: zero, or the address of a block, and the allocator. Assumes `Logic`.
use Rattle.std.proofs.Common.{◌≡◌, ℕ, Option, None, Some, List, [], ◌∷◌, ◌++◌, refl, subst}
use lib.Dec.{T, lit<}
use mathlib.Core.Bool.{true, ◌&&◌}
use seplogic.Ra.Ura.{Ura}
use mir.Syntax.{impl, tnil, dnil}
use mir.Raw.{raw as bare}
use mir.Val.{Val, vnull, vptr, vstruct, of_list, has_ty, WT}
use base.Fraction.{full_share}
use base.Logic.{ent, guard, via, snd∗, never_e, guard_i}
use base.Fml.{ftrue}
use types.Logic.{Logic, sem}
use types.Kit.{Item, Goal, Seq, Step, step, given, ‵, ◌$◌, move, drop, fsplit, fjoin, fpick, fpack, learn, use1, feq_i, feq_l}
use contract.Monad.{fact_use}
use denote.RattleType.{RattleType, Valss}
use denote.Builtin.{RawPtr}
use denote.Memory.{lone}
use denote.RawPtr.{Ptr, block_ptr, null_ptr, ptr_val, lies_at, Testable}
use denote.Steps.{nothing}
use denote.Param.{layout}
use denote.Struct.Struct.{within}
use denote.Struct.Owning.{shape}
use Rattle.std.proofs.alloc.Calls.{Al, handle_tells}
use Rattle.std.proofs.cell.Inside.{Good}
use Rattle.std.proofs.GlobalToken.{dealloc_token-Testable}
use Rattle.std.specs.Box.Ownership.{box_owns}
use Rattle.std.proofs.ResultValues.{and_tt}
use Rattle.std.specs.declared.alloc.Global.{Global}
use Rattle.std.specs.contracts.alloc.Global as heap
use Rattle.std.proofs.alloc.Global.TheLaws as heap_laws
use Rattle.std.specs.contracts.impls.GlobalAllocator.TheImpl.{ghosts}
use Rattle.reis_c.specs.contracts.connection.HeldConnection as held
use Rattle.reis_c.specs.contracts.connection_slot.ReisConnection as slot
use Rattle.reis_c.specs.Slot.{slot_owns}
use Rattle.reis_c.proofs.BlockValues.{pair}

abbrev pub R : RattleType
R = held.the_row

abbrev pub Z : RattleType
Z = heap.the_row

abbrev pub Slot : RattleType
Slot = slot.the_row

abbrev al : Al
al = record { row = Z; laws = heap_laws.the_row_laws; g = ghosts; d = impl [] tnil dnil; drops = impl [] tnil dnil }

abbrev pub boxed : Global → Ptr → R.Denot → base.Fml.Fml
boxed a p x = box_owns (ghosts.dealloc_token a) R p x

pub null_good : (h : Val) → Good (layout Z) h → T (has_ty (layout Z) h && true) × WT (pair vnull h)
null_good h fits = (and_tt (has_ty (layout Z) h) fits.0, (record { fits = lit< tt }, (fits.1, tt)))

module _ {M : Type 1} {𝓤 : Ura M} (𝓛 : Logic 𝓤) where
  pub tested : (a : Global) (p : Ptr) (x : R.Denot) → ent 𝓤 (sem 𝓛 (boxed a p x)) (guard 𝓤 (Testable p) (sem 𝓛 (boxed a p x)))
  tested a p x =
      let token = sem 𝓛 (ghosts.dealloc_token a (bare (lone R.mir)) p) in
      fact_use 𝓤 (Testable p) (via 𝓤 _ (snd∗ 𝓤 (sem 𝓛 (lies_at R full_share p x)) token) (dealloc_token-Testable 𝓛 a (bare (lone R.mir)) p))
      (guard_i 𝓤 (Testable p) (sem 𝓛 (boxed a p x)))

module _ {M : Type 1} {𝓤 : Ura M} {𝓛 : Logic 𝓤} {K : Type 0} {Γ : List (Item 𝓤)} {G : Goal 𝓤 𝓛.H} where
  slot_apart : K → (p : Ptr) (m : Option R.Denot) (a : Global) → (p ≡ null_ptr → m ≡ None → Seq K 𝓛 Γ G)
      → ((b o : ℕ) (x : R.Denot) → p ≡ block_ptr b o → m ≡ Some x → Seq K 𝓛 (‵ (boxed a (block_ptr b o) x) ∷ Γ) G) → Seq K 𝓛 (‵ (slot_owns R a p m) ∷ Γ) G
  slot_apart t null_ptr None a n s = drop t $ n refl refl
  slot_apart t null_ptr (Some x) a n s = use1 𝓛 (given ⊥ (‵ ftrue)) (never_e 𝓤 _) $ learn t (λ z. absurd z)
  slot_apart t (block_ptr b o) None a n s = use1 𝓛 (given ⊥ (‵ ftrue)) (never_e 𝓤 _) $ learn t (λ z. absurd z)
  slot_apart t (block_ptr b o) (Some x) a n s = s b o x refl refl

module _ {M : Type 1} {𝓤 : Ura M} {𝓛 : Logic 𝓤} {K : Type 0} {Γ : List (Item 𝓤)} {G : Goal 𝓤 𝓛.H} where
  pub slot_out : K → (d : Slot.Denot) (vs : List Val)
      → ((h : Val) → d.held ≡ None → vs ≡ pair vnull h ∷ [] → Good (layout Z) h → Seq K 𝓛 (‵ (Z.own_val d.alloc (h ∷ [])) ∷ Γ) G)
      → ((b o : ℕ) (h : Val) (x : R.Denot) → d.held ≡ Some x → vs ≡ pair (vptr b o) h ∷ [] → Good (layout Z) h
      → Seq K 𝓛 (‵ (boxed d.alloc (block_ptr b o) x) ∷ ‵ (Z.own_val d.alloc (h ∷ [])) ∷ Γ) G)
      → Seq K 𝓛 (‵ (Slot.own_val d vs) ∷ Γ) G
  slot_out t d vs n s =
      fsplit t $ fpick t (λ vss. fsplit t $ feq_l t (λ ev. fsplit t $ feq_l t (λ ep. fsplit t $
      handle_tells al t d.alloc vss.1.0 (λ h ea fits. move t (1 ∷ []) $ drop t $ move t (1 ∷ []) $
      let told : vs ≡ pair (ptr_val d.at) h ∷ [] =
      subst (λ (ws : List Val). vs ≡ vstruct (of_list (ptr_val d.at ∷ (ws ++ []))) ∷ []) ea
      (subst (λ (ps : List Val). vs ≡ vstruct (of_list (ps ++ (vss.1.0 ++ []))) ∷ []) ep ev) in
      slot_apart t d.at d.held d.alloc (λ e m. n h m (subst (λ (p : Ptr). vs ≡ pair (ptr_val p) h ∷ []) e told) fits)
      (λ b o x e m. s b o h x m (subst (λ (p : Ptr). vs ≡ pair (ptr_val p) h ∷ []) e told) fits)))))

  pub slot_none : K → (h : Val) (a : Global)
      → Step K 𝓛 (‵ (Slot.own_val (record { at = null_ptr; alloc = a; held = None }) (pair vnull h ∷ [])) ∷ Γ) G (‵ (Z.own_val a (h ∷ [])) ∷ Γ) G
  slot_none t h a = step (λ s. let v : Val = pair vnull h in
      nothing t $ nothing t $ move t (2 ∷ 0 ∷ []) $ fjoin t $ feq_i t (List Val) (vnull ∷ []) (vnull ∷ []) refl $ fjoin t $
      feq_i t (List Val) (v ∷ []) (v ∷ []) refl $ fjoin t $
      fpack t (Valss (RawPtr ∷ Z ∷ [])) (within (shape slot.the_type) (null_ptr, (heap.the_field.into a, tt)) (v ∷ [])) (vnull ∷ [], (h ∷ [], tt)) $
      fjoin t $ s)

  pub slot_in : K → (b o : ℕ) (h : Val) (a : Global) (x : R.Denot)
      → Step K 𝓛 (‵ (Slot.own_val (record { at = block_ptr b o; alloc = a; held = Some x }) (pair (vptr b o) h ∷ [])) ∷ Γ) G
      (‵ (boxed a (block_ptr b o) x) ∷ ‵ (Z.own_val a (h ∷ [])) ∷ Γ) G
  slot_in t b o h a x = step (λ s. let v : Val = pair (vptr b o) h in
      nothing t $ move t (2 ∷ 0 ∷ []) $ fjoin t $ feq_i t (List Val) (vptr b o ∷ []) (vptr b o ∷ []) refl $ fjoin t $
      feq_i t (List Val) (v ∷ []) (v ∷ []) refl $ fjoin t $
      fpack t (Valss (RawPtr ∷ Z ∷ [])) (within (shape slot.the_type) (block_ptr b o, (heap.the_field.into a, tt)) (v ∷ [])) (vptr b o ∷ [], (h ∷ [], tt)) $
      fjoin t $ s)
