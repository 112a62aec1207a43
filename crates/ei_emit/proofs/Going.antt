-- One round of carrying: bytes come, or the side takes a message, or neither is there.
use Rattle.std.proofs.Common.{◌≡◌, ℕ, ◌<◌, ◌≤◌, Bool, true, false, inl, inr, List, [], ◌∷◌, Option, Result, Ok, refl, sym, ap, subst, ◌∙◌, arith}
use Rattle.std.specs.Prelude.{IsErrOf}
use Rattle.ei_types.specs.declared.error.Error.{Error}
use Rattle.ei_types.specs.declared.error.Error.TheVariants as error
use Rattle.ei_linked.specs.declared.side.Side.{Side}
use Rattle.ei_linked.specs.declared.side.Side.TheVariants as side
use Rattle.ei_linked.specs.Stored.{StoredEnd}
use Rattle.ei_linked.specs.TwoEnds.{WorldView, other_side, stored_of, flushed_world, Agrees, DeliversAt, HasTakenAll}
use Rattle.ei_promises.specs.Pair.{PairView, with_ends}
use Rattle.ei_promises.specs.Stepping.{StepsServer, StepsClient}
use Rattle.ei_promises.specs.Promises.{TakesAll}
use Rattle.ei_promises.specs.Keeping.{SameLists}
use Rattle.ei_promises.proofs.Resting.{flush_same, deliver_same}
use Rattle.ei_pair.specs.Done.{HasFirstIds}
use Rattle.ei_pair.specs.Spent.{SpendsAtStep}
use Rattle.ei_pair.specs.Stepped.{IsKept}
use Rattle.ei_emit.specs.Carried.{Moment, moment, IsMoved, Takes, GoesOn, HasGone, IsCarried, NoneUnsent, left_for}
use Rattle.ei_emit.proofs.Worlds.{came_less, came_le, none_unsent, whole_then, all_there, flushed_none, flushed_whole}
use Rattle.ei_emit.proofs.Idle.{server_idle, client_idle}
use Rattle.ei_emit.proofs.Weaker.{any_answer}
use Rattle.ei_emit.proofs.Took.{TookOne, server_took, client_took, stays_first, client_first, took_less}

-- what a round comes to where it answers so
pub record Goes {H : Type 0} (to : Side) (more : Bool) (old new : PairView H) (told now : Option (List ℕ)) : Type 0 where
  pub goes : GoesOn to (moment old told) (moment new now)
  pub unsent : NoneUnsent (other_side to) new.ends
  pub less : more ≡ true → left_for to new.ends < left_for to old.ends

-- what is known of a step that answered so, and of the pair behind it
pub record WasStepped {H : Type 0} (may : H → ℕ → ℕ → Type 0) (to : Side) (old new : PairView H) (told now : Option (List ℕ)) (took : Bool) : Type 0 where
  pub server : to ≡ side.Server → new.ends.spent ≡ false → StepsServer old told now (Ok took) new
  pub client : to ≡ side.Client → new.ends.spent ≡ false → StepsClient may old told now (Ok took) new
  pub spent : new.ends.spent ≡ true → IsErrOf {T = Bool} {E = Error} (Ok took) error.NoMemory × SpendsAtStep to old new
  pub all : TakesAll to old (Ok took)
  pub begins : to ≡ side.Server → new.ends.spent ≡ false → HasFirstIds old new
  pub agrees : Agrees to new.ends
  pub kept : IsKept new

module _ {H : Type 0} (to : Side) (old mid : PairView H) (k : ℕ) (told : Option (List ℕ)) (d : DeliversAt to 1536 (Ok k) old.ends mid.ends) (others : mid ≡ with_ends mid.ends old) (whole : old.ends.spent ≡ false) (unsent : NoneUnsent (other_side to) old.ends) where
  moves : IsMoved old mid
  moves = record { same = deliver_same to 1536 (Ok k) old.ends mid.ends d; kept = others }

  pub whole_mid : mid.ends.spent ≡ false
  whole_mid = whole_then to k old.ends mid.ends d whole

  unsent_mid : NoneUnsent (other_side to) mid.ends
  unsent_mid = none_unsent to k old.ends mid.ends d unsent

  -- bytes came
  pub came : IsKept mid → 0 < k → Goes to true old mid told told
  came kept some = record {
    goes = record { moved = mid; moves = moves; between = kept; whole_between = whole_mid; takes = inr refl; begins = stays_first mid mid refl; kept = kept; whole = whole_mid };
    unsent = unsent_mid;
    less = λ is. came_less to k old.ends mid.ends d some;
  }

  -- a step was made
  module _ (between : IsKept mid) (new : PairView H) (now : Option (List ℕ)) (may : H → ℕ → ℕ → Type 0) (none : k ≤ 0) where
    not_spent : (took : Bool) → WasStepped may to mid new told now took → new.ends.spent ≡ false
    not_spent took h = by new.ends.spent refl
      where
        by : (b : Bool) → new.ends.spent ≡ b → new.ends.spent ≡ false
        by true e = absurd (let f = (h.spent e).0 in cc)
        by false e = e

    takes_by : (s : Side) → s ≡ to → (to ≡ side.Server → StepsServer mid told now (Ok true) new) → (to ≡ side.Client → StepsClient may mid told now (Ok true) new) → Takes s (moment mid told) (moment new now) × TookOne s mid.ends new.ends
    takes_by side.Server is server client = let h = server (sym is) in (h, server_took mid new told now h)
    takes_by side.Client is server client = let h = client (sym is) in (any_answer may mid new told now (Ok true) h, client_took may mid new told now h)

    begins_by : (s : Side) → s ≡ to → (to ≡ side.Server → HasFirstIds mid new) → (to ≡ side.Client → StepsClient may mid told now (Ok true) new) → HasFirstIds mid new
    begins_by side.Server is server client = server (sym is)
    begins_by side.Client is server client = client_first may mid new told now (client (sym is))

    idles_by : (s : Side) → s ≡ to → (to ≡ side.Server → StepsServer mid told now (Ok false) new) → (to ≡ side.Client → StepsClient may mid told now (Ok false) new) → (new ≡ mid) × (now ≡ told)
    idles_by side.Server is server client = server_idle mid new told now (Ok false) (server (sym is)) refl
    idles_by side.Client is server client = client_idle may mid new told now (Ok false) (client (sym is)) refl

    idles : WasStepped may to mid new told now false → (new ≡ mid) × (now ≡ told)
    idles h = let still = not_spent false h in idles_by to refl (λ is. h.server is still) (λ is. h.client is still)

    pub stepped : (took : Bool) → WasStepped may to mid new told now took → Goes to took old new told now
    stepped true h =
        let still = not_spent true h in
        let t = takes_by to refl (λ is. h.server is still) (λ is. h.client is still) in
        record {
          goes = record {
            moved = mid;
            moves = moves;
            between = between;
            whole_between = whole_mid;
            takes = inl t.0;
            begins = begins_by to refl (λ is. h.begins is still) (λ is. h.client is still);
            kept = h.kept;
            whole = still;
          };
          unsent = ap (λ (x : StoredEnd). x.backend.unsent) t.1.other ∙ unsent_mid;
          less = λ is. let le = came_le to k old.ends mid.ends d in let lt = took_less to mid.ends new.ends t.1 h.agrees.few in omega (arith, le, lt);
        }
    stepped false h =
        let i = idles h in
        record {
          goes = record {
            moved = mid;
            moves = moves;
            between = between;
            whole_between = whole_mid;
            takes = inr (λ j. moment (i.0 j) (i.1 j));
            begins = stays_first mid new i.0;
            kept = h.kept;
            whole = not_spent false h;
          };
          unsent = subst (λ (p : PairView H). NoneUnsent (other_side to) p.ends) (sym i.0) unsent_mid;
          less = λ is. absurd cc;
        }

    -- no message was there
    pub took_all : (took : Bool) → took ≡ false → WasStepped may to mid new told now took → HasTakenAll to new.ends × Agrees to new.ends
    took_all true is h = absurd cc
    took_all false is h = (subst (λ (p : PairView H). HasTakenAll to p.ends) (sym (idles h).0) (h.all refl (all_there to k old.ends mid.ends d (let z : k ≡ 0 = omega (arith, none) in z) unsent)), h.agrees)

-- ---- from one round to the next

-- what waited at the other side was sent
pub record Began {H : Type 0} (to : Side) (old new : PairView H) : Type 0 where
  pub moves : IsMoved old new
  pub whole : new.ends.spent ≡ false
  pub unsent : NoneUnsent (other_side to) new.ends

pub began : {H : Type 0} (to s : Side) (old new : PairView H) → s ≡ other_side to → new ≡ with_ends (flushed_world s old.ends) old → old.ends.spent ≡ false → Began to old new
began {H} to s old new is flushed whole =
    let e : new ≡ with_ends (flushed_world (other_side to) old.ends) old = flushed ∙ ap (λ (x : Side). with_ends (flushed_world x old.ends) old) is in
    let ends : new.ends ≡ flushed_world (other_side to) old.ends = ap (λ (p : PairView H). p.ends) e in
    record {
      moves = record {
        same = subst (λ (w : WorldView). SameLists old.ends w) (sym ends) (flush_same (other_side to) old.ends);
        kept = e ∙ ap (λ (w : WorldView). with_ends w old) (sym ends);
      };
      whole = ap (λ (w : WorldView). w.spent) ends ∙ flushed_whole to old.ends ∙ whole;
      unsent = ap (λ (w : WorldView). (stored_of (other_side to) w).backend.unsent) ends ∙ flushed_none to old.ends;
    }

pub first_gone : {H : Type 0} (to : Side) (old new : PairView H) (told : Option (List ℕ)) → Began to old new → IsKept new → HasGone to (moment old told) (moment new told)
first_gone to old new told b kept = record {
  between = moment old told ∷ [];
  goes = (record { moved = new; moves = b.moves; between = kept; whole_between = b.whole; takes = inr refl; begins = stays_first new new refl; kept = kept; whole = b.whole }, refl);
}

pub then_gone : {H : Type 0} (to : Side) (first : Moment H) (old new : PairView H) (told now : Option (List ℕ)) → HasGone to first (moment old told) → GoesOn to (moment old told) (moment new now) → HasGone to first (moment new now)
then_gone to first old new told now h g = record { between = moment old told ∷ h.between; goes = (g, h.goes) }

pub carried : {H : Type 0} (to : Side) (first : Moment H) (old new : PairView H) (told now : Option (List ℕ)) → HasGone to first (moment old told) → GoesOn to (moment old told) (moment new now) → HasTakenAll to new.ends × Agrees to new.ends → IsCarried to first (moment new now)
carried to first old new told now h g all =
    let gone = then_gone to first old new told now h g in
    record { between = gone.between; goes = gone.goes; all = all.0; agrees = all.1; kept = g.kept; whole = g.whole }

pub ok_is : {E : Type 0} (a b : Bool) → ◌≡◌ {A = Result Bool E} (Ok a) (Ok b) → a ≡ b
ok_is a b e = cc

pub as_ok : {E : Type 0} (a b : Bool) → a ≡ b → ◌≡◌ {A = Result Bool E} (Ok a) (Ok b)
as_ok {E} a b e = ap (λ (x : Bool). let r : Result Bool E = Ok x in r) e
