-- Bytes went or came: all else of a pair is as before, and what it keeps holds.
use Rattle.std.proofs.Common.{◌≡◌, ℕ, false, Result, Ok, Err, refl, sym, ap, subst, ◌∙◌}
use Rattle.std.specs.Prelude.{OnOk, OnErr}
use Rattle.ei_wire.specs.declared.error.ReadError.{ReadError}
use Rattle.ei_wire.specs.declared.error.ReadError.TheVariants as read_error
use Rattle.ei_linked.specs.declared.side.Side.{Side}
use Rattle.ei_linked.specs.declared.side.Side.TheVariants as side
use Rattle.ei_linked.specs.Held.{Keeps as IsKeptBy}
use Rattle.ei_linked.specs.Ends.{EndsView, world_in}
use Rattle.ei_linked.specs.TwoEnds.{WorldView, IsWorld, flushed_world, DeliversAt}
use Rattle.ei_promises.specs.Pair.{PairView, IsPair, with_ends}
use Rattle.ei_promises.specs.Keeping.{Keeps, SameLists}
use Rattle.ei_pair.specs.declared.server_end.ServerEnd.{ServerEnd}
use Rattle.ei_pair.specs.ServerEnd.{endpoint_in, with_endpoint_in}
use Rattle.ei_pair.specs.Parts.{PartsView, pair_in}
use Rattle.ei_pair.specs.Stepped.{IsSound}
use Rattle.ei_pair.proofs.Moved.{moved}
use Rattle.ei_pair.proofs.Sound.{is_pair}

-- what is said of a pair whose bytes go or come
abbrev pub MovesSaid : Type 0 → Type 0
MovesSaid H = (p : PairView H) (w : WorldView) → SameLists p.ends w → p.ends.spent ≡ false → w.spent ≡ false → IsPair p → IsPair (with_ends w p) → Keeps p → Keeps (with_ends w p)

pub moved_sound : {H : Type 0} (moves : MovesSaid H) (p : PartsView H) (e : EndsView ServerEnd) → IsSound p → IsKeptBy endpoint_in with_endpoint_in p.ends.server e.server → IsWorld (world_in endpoint_in e) → SameLists (pair_in p).ends (world_in endpoint_in e) →
    p.ends.spent ≡ false → e.spent ≡ false → IsSound (record p { ends = e })
moved_sound {H} moves p e sound keeps world same whole whole_now =
    let is : pair_in (record p { ends = e }) ≡ with_ends (world_in endpoint_in e) (pair_in p) = moved p e keeps in
    let pair : IsPair (pair_in (record p { ends = e })) = is_pair (record p { ends = e }) world in
    record {
      kept = record {
        pair = pair;
        keeps = subst (λ (v : PairView H). Keeps v) (sym is) (moves (pair_in p) (world_in endpoint_in e) same whole whole_now sound.kept.pair (subst (λ (v : PairView H). IsPair v) is pair) sound.kept.keeps);
      };
      serial = sound.serial;
    }

-- ---- they go

flushed_whole : (s : Side) (w : WorldView) → (flushed_world s w).spent ≡ w.spent
flushed_whole side.Client w = refl
flushed_whole side.Server w = refl

nothing_moved : (w : WorldView) → SameLists w w
nothing_moved w = record { client_sent = refl; client_taken = refl; client_table = refl; server_sent = refl; server_taken = refl; server_table = refl }

abbrev pub FlushesSaid : Type 0
FlushesSaid = (s : Side) (w : WorldView) → SameLists w (flushed_world s w)

pub flush_same : {T E : Type 0} (flushes : FlushesSaid) (s : Side) (result : Result T E) (w v : WorldView) → OnOk result (v ≡ flushed_world s w) → OnErr result (v ≡ w) → SameLists w v × (v.spent ≡ w.spent)
flush_same flushes s (Ok t) w v ok err = (subst (λ (x : WorldView). SameLists w x) (sym ok) (flushes s w), ap (λ (x : WorldView). x.spent) ok ∙ flushed_whole s w)
flush_same flushes s (Err e) w v ok err = (subst (λ (x : WorldView). SameLists w x) (sym err) (nothing_moved w), ap (λ (x : WorldView). x.spent) err)

-- ---- they come

pub delivered_whole : (s : Side) (n : ℕ) (result : Result ℕ ReadError) (w v : WorldView) → DeliversAt s n result w v → v.spent ≡ w.spent
delivered_whole side.Client n (Ok k) w v d = ap (λ (x : WorldView). x.spent) d.3
delivered_whole side.Client n (Err read_error.UnexpectedEof) w v d = ap (λ (x : WorldView). x.spent) d.1
delivered_whole side.Client n (Err read_error.HandleLimit) w v d = ap (λ (x : WorldView). x.spent) d.2
delivered_whole side.Client n (Err read_error.NoMemory) w v d = ap (λ (x : WorldView). x.spent) d.1
delivered_whole side.Client n (Err read_error.ReadFault) w v d = absurd d
delivered_whole side.Server n (Ok k) w v d = ap (λ (x : WorldView). x.spent) d.3
delivered_whole side.Server n (Err read_error.UnexpectedEof) w v d = ap (λ (x : WorldView). x.spent) d.1
delivered_whole side.Server n (Err read_error.HandleLimit) w v d = ap (λ (x : WorldView). x.spent) d.2
delivered_whole side.Server n (Err read_error.NoMemory) w v d = ap (λ (x : WorldView). x.spent) d.1
delivered_whole side.Server n (Err read_error.ReadFault) w v d = absurd d
