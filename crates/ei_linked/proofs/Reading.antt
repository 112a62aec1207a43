-- What an end wrote is read back: values of their kinds, and the message at the front.
use Rattle.std.proofs.Common.{◌≡◌, ℕ, ◌+◌, ◌<◌, ◌≤◌, List, [], ◌∷◌, ◌++◌, map, drop, length, get_or, Result, Ok, Err, refl, sym, ap, subst, ◌∙◌, append_assoc, append-nil}
use Rattle.std.proofs.lemmas.List.{drop_more, drop_all}
use Rattle.ei_rows.specs.declared.table.ArgKind.{ArgKind}
use Rattle.ei_rows.specs.Parts.{kind_view}
use Rattle.ei_spec.specs.Value.{Kind, Value}
use Rattle.ei_spec.specs.Reading.{Unread, Read, ArgumentStop, read, all_at, stopping, ◌then◌}
use Rattle.ei_values.specs.declared.value.Value.{Value as StoredValue}
use Rattle.ei_values.specs.Stored.{stored_as, all_stored}
use Rattle.ei_linked.specs.declared.written.StoreError.{StoreError}
use Rattle.ei_linked.specs.declared.written.StoreError.TheVariants as store_error
use Rattle.ei_linked.specs.Written.{FindsValue, TakesAll}

-- values of some kinds were read: one of the first, and those of the others
record Reads (k : Kind) (ks : List Kind) (s : Unread) (vs : List Value) (left : Unread) : Type 0 where
  pub value : Value
  pub more : Unread
  pub rest : List Value
  pub one : read k s ≡ Ok (value, more)
  pub others : all_at ks more ≡ Ok (rest, left)
  pub are : vs ≡ value ∷ rest

abbrev found : List Value × Unread → Result (List Value × Unread) ArgumentStop → List Value × Unread
found other (Ok x) = x
found other (Err e) = other

others_by : (r : Result (List Value × Unread) ArgumentStop) (v : Value) (vs : List Value) (left : Unread) →
    (r then λ xs. let o : Result (List Value × Unread) ArgumentStop = Ok (v ∷ xs.0, xs.1) in o) ≡ Ok (vs, left) → (rest : List Value) × (r ≡ Ok (rest, left)) × (vs ≡ v ∷ rest)
others_by (Err e) v vs left h = absurd cc
others_by (Ok xs) v vs left h =
    let both : ◌≡◌ {A = List Value × Unread} (v ∷ xs.0, xs.1) (vs, left) = ap (found (vs, left)) h in
    let first : xs.1 ≡ left = ap (λ (x : List Value × Unread). x.1) both in
    let list : v ∷ xs.0 ≡ vs = ap (λ (x : List Value × Unread). x.0) both in
    (xs.0, ap (λ (u : Unread). let o : Result (List Value × Unread) ArgumentStop = Ok (xs.0, u) in o) first, sym list)

one_by : (k : Kind) (ks : List Kind) (s : Unread) (r : Read) (vs : List Value) (left : Unread) → read k s ≡ r →
    (stopping s.taken r then λ x. all_at ks x.1 then λ xs. let o : Result (List Value × Unread) ArgumentStop = Ok (x.0 ∷ xs.0, xs.1) in o) ≡ Ok (vs, left) → Reads k ks s vs left
one_by k ks s (Err f) vs left is h = absurd cc
one_by k ks s (Ok x) vs left is h =
    let o = others_by (all_at ks x.1) x.0 vs left h in
    record { value = x.0; more = x.1; rest = o.0; one = is; others = o.1; are = o.2 }

reads_one : (k : Kind) (ks : List Kind) (s : Unread) (vs : List Value) (left : Unread) → all_at (k ∷ ks) s ≡ Ok (vs, left) → Reads k ks s vs left
reads_one k ks s vs left h = one_by k ks s (read k s) vs left refl h

-- behind some values these are left to be read, and all of them are those stored so far and these
pub record Left (kinds : List ArgKind) (whole done : List StoredValue) (left s : Unread) : Type 0 where
  pub rest : List Value
  pub reads : all_at (map kind_view kinds) s ≡ Ok (rest, left)
  pub whole_is : whole ≡ done ++ all_stored (map kind_view kinds) rest

pub begins : (kinds : List ArgKind) (vs : List Value) (left s : Unread) → all_at (map kind_view kinds) s ≡ Ok (vs, left) → Left (drop 0 kinds) (all_stored (map kind_view kinds) vs) [] left s
begins kinds vs left s h = record { rest = vs; reads = h; whole_is = refl }

-- one more is read
pub record OneMore (kinds : List ArgKind) (i : ℕ) (k : ArgKind) (whole done : List StoredValue) (left s : Unread) : Type 0 where
  pub value : Value
  pub more : Unread
  pub one : read (kind_view k) s ≡ Ok (value, more)
  pub goes : Left (drop (i + 1) kinds) whole (done ++ (stored_as (kind_view k) value ∷ [])) left more

one_left : (k : ArgKind) (ks : List ArgKind) (whole done : List StoredValue) (left s : Unread) → (h : Left (k ∷ ks) whole done left s) → Reads (kind_view k) (map kind_view ks) s h.rest left
one_left k ks whole done left s h = reads_one (kind_view k) (map kind_view ks) s h.rest left h.reads

goes_one : (k : ArgKind) (ks : List ArgKind) (whole done : List StoredValue) (left s : Unread) (h : Left (k ∷ ks) whole done left s) (r : Reads (kind_view k) (map kind_view ks) s h.rest left) →
    Left ks whole (done ++ (stored_as (kind_view k) r.value ∷ [])) left r.more
goes_one k ks whole done left s h r = record {
  rest = r.rest;
  reads = r.others;
  whole_is = h.whole_is ∙ ap (λ (vs : List Value). done ++ all_stored (map kind_view (k ∷ ks)) vs) r.are ∙ sym (append_assoc done (stored_as (kind_view k) r.value ∷ []) (all_stored (map kind_view ks) r.rest));
}

pub one_more : (kinds : List ArgKind) (i : ℕ) (d : ArgKind) (whole done : List StoredValue) (left s : Unread) → i < length kinds → Left (drop i kinds) whole done left s → OneMore kinds i (get_or kinds i d) whole done left s
one_more kinds i d whole done left s lt h =
    let k : ArgKind = get_or kinds i d in
    let g : Left (k ∷ drop (i + 1) kinds) whole done left s = subst (λ (l : List ArgKind). Left l whole done left s) (drop_more kinds i d lt) h in
    let r = one_left k (drop (i + 1) kinds) whole done left s g in
    record { value = r.value; more = r.more; one = r.one; goes = goes_one k (drop (i + 1) kinds) whole done left s g r }

pub left_is : (kinds : List ArgKind) (whole done now : List StoredValue) (left s t : Unread) → now ≡ done → t ≡ s → Left kinds whole done left s → Left kinds whole now left t
left_is kinds whole done now left s t e f h = subst (λ (u : Unread). Left kinds whole now left u) (sym f) (subst (λ (d : List StoredValue). Left kinds whole d left s) (sym e) h)

-- a value that wasn't read there stops all of them
pub err_stops : (k : Kind) (kinds : List Kind) (v : Value) (vs : List Value) (left m now : Unread) (r : Result (List StoredValue) StoreError) (q : Result StoredValue StoreError) (e : StoreError) → r ≡ Err e → q ≡ Err e → FindsValue k v m q now → TakesAll kinds vs left r now
err_stops k kinds v vs left m now r q store_error.NoMemory is was h = subst (λ (x : Result (List StoredValue) StoreError). TakesAll kinds vs left x now) (sym is) tt
err_stops k kinds v vs left m now r q store_error.Unwritten is was h = absurd (subst (λ (x : Result StoredValue StoreError). FindsValue k v m x now) was h)

nothing_left : (kinds : List ArgKind) (whole done : List StoredValue) (left s : Unread) → kinds ≡ [] → Left kinds whole done left s → whole ≡ done
nothing_left [] whole done left s e h = h.whole_is ∙ append-nil done
nothing_left (k ∷ ks) whole done left s e h = absurd cc

pub at_end : (kinds : List ArgKind) (i : ℕ) (whole done : List StoredValue) (left s : Unread) → length kinds ≤ i → Left (drop i kinds) whole done left s → done ≡ whole
at_end kinds i whole done left s le h = sym (nothing_left (drop i kinds) whole done left s (drop_all i kinds le) h)

left_all : (kinds : List ArgKind) (whole done : List StoredValue) (left s : Unread) → kinds ≡ [] → Left kinds whole done left s → s ≡ left
left_all [] whole done left s e h = ap (λ (x : List Value × Unread). x.1) (let both : ◌≡◌ {A = List Value × Unread} ([], s) (h.rest, left) = ap (found (h.rest, left)) h.reads in both)
left_all (k ∷ ks) whole done left s e h = absurd cc

pub left_at_end : (kinds : List ArgKind) (i : ℕ) (whole done : List StoredValue) (left s : Unread) → length kinds ≤ i → Left (drop i kinds) whole done left s → s ≡ left
left_at_end kinds i whole done left s le h = left_all (drop i kinds) whole done left s (drop_all i kinds le) h
