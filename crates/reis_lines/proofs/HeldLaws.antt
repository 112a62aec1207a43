-- The bytes held in a room, after a move, a read and a scan.
use Rattle.std.proofs.Common.{◌≡◌, ◌≤◌, ℕ, ◌+◌, ◌-◌, List, [], ◌∷◌, ◌++◌, length, take, drop, ap, sym, ◌∙◌, append_assoc, length-drop, arith, Some}
use Rattle.std.proofs.lemmas.List.{take-append-drop, take-append-le, length-take-le, take_all, take_at, drop-take, drop-append-le, drop-drop}
use Rattle.std.proofs.lemmas.List.Edits.{take-paste}
use Rattle.std.proofs.Math.Seq.{take-append-add}
use Rattle.std.specs.List.{copy_within}
use Rattle.std.specs.Prelude.{Option, None, true, false, is_some, Result, Ok, Err, IfOk}
use Rattle.reis_lines.specs.Input.{Fetches}
use Rattle.ei_backend.specs.declared.outside.Fault.{Fault}
use Rattle.reis_lines.specs.Text.{has_newline}
use Rattle.reis_lines.specs.Held.{IsBuffer, FindsNewline, Moves, ReadsBehind}
use Rattle.reis_lines.proofs.TextLaws.{has_newline-append}

-- the bytes from i to j, at the front
pub moved : (xs : List ℕ) (i j : ℕ) → i ≤ j → j ≤ length xs → take (j - i) (copy_within xs i j 0) ≡ drop i (take j xs)
moved xs i j le lt =
    let zero_n : 0 + (j - i) ≡ j - i = omega arith in
    let i_n : i + (j - i) ≡ j = omega arith in
    let room : j - i ≤ length (drop i xs) = omega (arith, length-drop i xs) in
    ap (λ k. take k (copy_within xs i j 0)) (sym zero_n) ∙ take-paste xs 0 (drop i xs) (j - i) (omega arith) room
    ∙ sym (ap (λ k. drop i (take k xs)) (sym i_n) ∙ drop-take i (j - i) xs)

-- the bytes between two places of a room
pub between : (xs : List ℕ) (i j : ℕ) → i ≤ j → take (j - i) (drop i xs) ≡ drop i (take j xs)
between xs i j le =
    let i_n : i + (j - i) ≡ j = omega arith in
    sym (ap (λ k. drop i (take k xs)) (sym i_n) ∙ drop-take i (j - i) xs)

-- bytes went on
pub moves_on : (a text b b' c : List ℕ) (mid new : Option (List ℕ)) → Moves a text b mid → b' ≡ b → ((t : List ℕ) → mid ≡ Some t → Moves b' t c new) → Moves a text c new
moves_on a text b b' c mid new x is y =
    let z = y x.rest x.left_is in
    record { rest = z.rest; left_is = z.left_is; same = x.same ∙ ap (λ t. t ++ x.rest) (sym is) ∙ z.same }

-- no byte went on
pub moves_kept : (a text b b' c : List ℕ) (mid new : Option (List ℕ)) → Moves a text b mid → b' ≡ b → c ≡ b' → ((t : List ℕ) → mid ≡ Some t → new ≡ Some t) → Moves a text c new
moves_kept a text b b' c mid new x is same y =
    record { rest = x.rest; left_is = y x.rest x.left_is; same = x.same ∙ ap (λ t. t ++ x.rest) (sym (same ∙ is)) }

-- no byte was read: nothing is left
pub nothing_left : (a text b : List ℕ) (left : Option (List ℕ)) (n : ℕ) → ReadsBehind a text b left n → n ≡ 0 → left ≡ Some []
nothing_left a text b left n r zero = r.left_is ∙ ap (λ k. Some (drop k text)) zero ∙ ap (λ t. Some t) (r.ends zero)

-- no newline was found
pub none_found : (found : Option ℕ) (bytes : List ℕ) → FindsNewline found bytes → is_some found ≡ false → has_newline bytes ≡ false
none_found None bytes f e = f
none_found (Some n) bytes f e = cc

-- no line is held where the same bytes have no newline
pub not_whole : (a b : List ℕ) → has_newline a ≡ true → b ≡ a → has_newline b ≡ false → ⊥
not_whole a b has same none = cc

-- what an input gave, written behind the first e bytes of a room
pub fetched : (old new : Option (List ℕ)) (r : Result ℕ Fault) (room bytes post text : List ℕ) (e : ℕ) → e ≤ length room → IfOk r (λ n. n ≤ length bytes) →
    Fetches old new r bytes → old ≡ Some text → IfOk r (λ n. ReadsBehind (take e room) text (take (e + n) (take e room ++ (bytes ++ post))) new n)
fetched old new (Err x) room bytes post text e le lt f told = tt
fetched old new (Ok n) room bytes post text e le lt f told =
    let r = f text told in
    let len : length (take e room) ≡ e = length-take-le e room le in
    record {
      left_is = r.left;
      held =
          ap (λ k. take (k + n) (take e room ++ (bytes ++ post))) (sym len) ∙ take-append-add (take e room) (bytes ++ post) n
          ∙ ap (λ t. take e room ++ t) (take-append-le n bytes post lt ∙ r.read);
      ends = r.ends;
    }

-- what was read behind bytes went from the text to them
pub moves_by : (a text b : List ℕ) (left : Option (List ℕ)) (n : ℕ) → ReadsBehind a text b left n → Moves a text b left
moves_by a text b left n r = record {
  rest = drop n text;
  left_is = r.left_is;
  same = ap (λ t. a ++ t) (sym (take-append-drop n text)) ∙ sym (append_assoc a (take n text) (drop n text)) ∙ ap (λ t. t ++ drop n text) (sym r.held);
}

-- a newline found behind bytes that have none
pub finds_behind : (bytes : List ℕ) (k n : ℕ) → k ≤ length bytes → has_newline (take k bytes) ≡ false → FindsNewline (Some n) (drop k bytes) → FindsNewline (Some (k + n)) bytes
finds_behind bytes k n le quiet f = record {
  before =
      let parts : take (k + n) bytes ≡ take k bytes ++ take n (drop k bytes) =
      ap (take (k + n)) (sym (take-append-drop k bytes)) ∙ ap (λ j. take (j + n) (take k bytes ++ drop k bytes)) (sym (length-take-le k bytes le)) ∙ take-append-add (take k bytes) (drop k bytes) n in
      ap has_newline parts ∙ has_newline-append (take k bytes) (take n (drop k bytes)) quiet ∙ f.before;
  here =
      let next : k + (n + 1) ≡ k + n + 1 = omega arith in
      sym (drop-drop n k bytes) ∙ f.here ∙ ap (λ t. 10 ∷ t) (drop-drop (n + 1) k bytes ∙ ap (λ j. drop j bytes) next);
  within = omega (arith, length-drop k bytes, f.within);
}

-- no newline at all
pub finds_none : (bytes : List ℕ) (k : ℕ) → has_newline (take k bytes) ≡ false → has_newline (drop k bytes) ≡ false → has_newline bytes ≡ false
finds_none bytes k quiet rest = ap has_newline (sym (take-append-drop k bytes)) ∙ has_newline-append (take k bytes) (drop k bytes) quiet ∙ rest

-- the bytes behind those scanned
behind : (bytes : List ℕ) (start end scanned : ℕ) → start + scanned ≤ end →
    take (end - (start + scanned)) (drop (start + scanned) bytes) ≡ drop scanned (drop start (take end bytes))
behind bytes start end scanned le = between bytes (start + scanned) end le ∙ sym (drop-drop scanned start (take end bytes))

held_len : (bytes : List ℕ) (start end : ℕ) → start ≤ end → end ≤ length bytes → length (drop start (take end bytes)) ≡ end - start
held_len bytes start end order within = length-drop start (take end bytes) ∙ ap (λ n. n - start) (length-take-le end bytes within)

-- where a scan behind those scanned found a newline
pub scan_finds : (bytes : List ℕ) (start end scanned n : ℕ) → IsBuffer bytes start end scanned →
    FindsNewline (Some n) (take (end - (start + scanned)) (drop (start + scanned) bytes)) → FindsNewline (Some (scanned + n)) (drop start (take end bytes))
scan_finds bytes start end scanned n b f =
    let slice = behind bytes start end scanned (omega (arith, b.looked_at, b.order)) in
    let len = held_len bytes start end b.order (omega (arith, b.within, b.room)) in
    finds_behind (drop start (take end bytes)) scanned n (omega (arith, len, b.looked_at)) b.quiet (rw slice at f)

pub scan_finds_none : (bytes : List ℕ) (start end scanned : ℕ) → IsBuffer bytes start end scanned →
    FindsNewline None (take (end - (start + scanned)) (drop (start + scanned) bytes)) → has_newline (drop start (take end bytes)) ≡ false
scan_finds_none bytes start end scanned b f =
    let slice = behind bytes start end scanned (omega (arith, b.looked_at, b.order)) in
    finds_none (drop start (take end bytes)) scanned b.quiet (rw slice at f)

-- the buffer where they are scanned
pub scan_buffer : (bytes : List ℕ) (start end scanned n : ℕ) → IsBuffer bytes start end scanned →
    FindsNewline (Some n) (take (end - (start + scanned)) (drop (start + scanned) bytes)) → IsBuffer bytes start end (scanned + n)
scan_buffer bytes start end scanned n b f =
    let g = scan_finds bytes start end scanned n b f in
    let len = held_len bytes start end b.order (omega (arith, b.within, b.room)) in
    record { room = b.room; order = b.order; within = b.within; looked_at = omega (arith, g.within, len); quiet = g.before }

pub scan_buffer_none : (bytes : List ℕ) (start end scanned : ℕ) → IsBuffer bytes start end scanned →
    FindsNewline None (take (end - (start + scanned)) (drop (start + scanned) bytes)) → IsBuffer bytes start end (end - start)
scan_buffer_none bytes start end scanned b f =
    let len = held_len bytes start end b.order (omega (arith, b.within, b.room)) in
    record {
      room = b.room;
      order = b.order;
      within = b.within;
      looked_at = omega arith;
      quiet = ap has_newline (take_all (end - start) (drop start (take end bytes)) (omega (arith, len))) ∙ scan_finds_none bytes start end scanned b f;
    }

-- the bytes from s on, with n more behind them
grown : (bytes : List ℕ) (s e n : ℕ) → s ≤ e → e ≤ length bytes → drop s (take (e + n) bytes) ≡ drop s (take e bytes) ++ take n (drop e bytes)
grown bytes s e n order within =
    let len : length (take e bytes) ≡ e = length-take-le e bytes within in
    let parts : take (e + n) bytes ≡ take e bytes ++ take n (drop e bytes) =
    ap (take (e + n)) (sym (take-append-drop e bytes)) ∙ ap (λ k. take (k + n) (take e bytes ++ drop e bytes)) (sym len) ∙ take-append-add (take e bytes) (drop e bytes) n in
    ap (drop s) parts ∙ drop-append-le s (take e bytes) (take n (drop e bytes)) (omega (arith, len))

-- the buffer once its bytes were moved and more were read behind them
pub read_buffer : (room moved b : List ℕ) (start end scanned s e n : ℕ) → IsBuffer room start end scanned → drop s (take e moved) ≡ drop start (take end room) → s ≤ e → e - s ≡ end - start →
    length b ≡ 262146 → take e b ≡ take e moved → e + n ≤ length b → IsBuffer b s (e + n) scanned
read_buffer room moved b start end scanned s e n is same order len full front fits = record {
  room = full;
  order = omega arith;
  within = omega arith;
  looked_at = omega (arith, is.looked_at);
  quiet =
      let long : length (drop s (take e b)) ≡ e - s = held_len b s e order (omega arith) in
      let shorter : scanned ≤ length (drop s (take e b)) = omega (arith, is.looked_at) in
      ap (λ t. has_newline (take scanned t)) (grown b s e n order (omega arith))
      ∙ ap has_newline (take-append-le scanned (drop s (take e b)) (take n (drop e b)) shorter)
      ∙ ap (λ t. has_newline (take scanned (drop s t))) front
      ∙ ap (λ t. has_newline (take scanned t)) same ∙ is.quiet;
}

-- what was read behind the bytes of a room is behind those held
pub read_held : (moved b held text : List ℕ) (left : Option (List ℕ)) (s e n : ℕ) → drop s (take e moved) ≡ held → s ≤ e → e ≤ length moved →
    ReadsBehind (take e moved) text (take (e + n) b) left n → ReadsBehind held text (drop s (take (e + n) b)) left n
read_held moved b held text left s e n is order within r = record {
  left_is = r.left_is;
  held =
      let len : length (take e moved) ≡ e = length-take-le e moved within in
      ap (drop s) r.held ∙ drop-append-le s (take e moved) (take n text) (omega (arith, len)) ∙ ap (λ t. t ++ take n text) is;
  ends = r.ends;
}

-- a Vec's items after a write of all of them
pub all_written : (xs ys : List ℕ) (n : ℕ) → length xs ≡ n → take n (xs ++ ys) ≡ xs
all_written xs ys n len = take_at xs ys n len

-- and what a reference to them all sees
pub sees_all : (xs ys now : List ℕ) (n : ℕ) → now ≡ take n (xs ++ ys) → length xs ≡ n → now ≡ xs
sees_all xs ys now n is len = is ∙ take_at xs ys n len

-- the bytes held, behind a move of what the reference saw
pub moved_from : (moved slice room : List ℕ) (s e start end : ℕ) → drop s (take e moved) ≡ drop start (take end slice) → slice ≡ room → drop s (take e moved) ≡ drop start (take end room)
moved_from moved slice room s e start end same is = same ∙ ap (λ t. drop start (take end t)) is
