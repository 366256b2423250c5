-- Numbers in the bytes of a list: read from a part of it, written one after the other, and brought back as bytes. Assumes nothing.
use mathlib.Core.Path.{◌≡◌, sym, ap, ◌∙◌}
use mathlib.Core.List.{List, ◌++◌}
use Prim.Native.Nat.{ℕ, ◌+◌, ◌-◌, ◌≤◌, ◌<◌}
use native.Mathlib.Omega.{arith}
use lib.Dec.{leb}
use lib.ListN.{length, take, drop, length-take, length-drop, take-append-drop}
use lib.Seq.{length-take-le, take_all, drop-drop}
use borrow.Author.Tests.{le-leb}
use Rattle.refusal.proofs.Tests.{leb_same}
use Rattle.little_endian.specs.LittleEndian.{Bytes, word, bytes_of, get_at, put_at}
use Rattle.little_endian.proofs.Laws.{take_bytes, drop_bytes, bytes_of_word, put_at_next}

-- ---- get_at
pub get_at_drop : (s a b : ℕ) (l : List ℕ) → 0 < b → get_at a b (drop s l) ≡ get_at (s + a) (s + b) l
unfolding get_at
get_at_drop s a b l h =
    let w : s + b - (s + a) ≡ b - a = omega arith in
    let e₁ : leb (s + a) (s + b) ≡ leb a b = leb_same (s + a) (s + b) a b (λ x. omega arith) (λ x. omega arith) in
    let e₂ : leb (s + b) (length l) ≡ leb b (length l - s) = leb_same (s + b) (length l) b (length l - s) (λ x. omega arith) (λ x. omega arith) in
    rw (drop-drop a s l, length-drop s l, w, e₁, e₂)

pub get_at_part : (start end w : ℕ) (l : List ℕ) → start + w ≡ end → w ≤ 8 → end ≤ length l → get_at start end l ≡ word (take w (drop start l))
unfolding get_at
get_at_part start end w l e h n =
    let k : end - start ≡ w = omega arith in
    let short : length (take w (drop start l)) ≤ 8 = rw (length-take w (drop start l)) (omega arith) in
    rw (le-leb start end (omega arith), le-leb end (length l) n, k, take_all 8 (take w (drop start l)) short)

-- a field comes back
pub field_back : (start end w : ℕ) (l : List ℕ) → start + w ≡ end → w ≤ 8 → end ≤ length l → Bytes l → bytes_of w (get_at start end l) ≡ take w (drop start l)
field_back start end w l e h n b =
    let t = take w (drop start l) in
    let k : length t ≡ w = length-take-le w (drop start l) (rw (length-drop start l) (omega arith)) in
    ap (bytes_of w) (get_at_part start end w l e h n) ∙ ap (λ (x : ℕ). bytes_of x (word t)) (sym k) ∙ bytes_of_word t (take_bytes w (drop start l) (drop_bytes start l b))

-- ---- put_at: fields written one after the other
pub put_at_front : (p rest : List ℕ) (start end w number : ℕ) → length p ≡ start → start + w ≡ end → w ≤ length rest
    → put_at start end number (p ++ rest) ≡ (p ++ bytes_of w number) ++ drop w rest
put_at_front p rest start end w number hp he hw =
    let n : length (take w rest) ≡ w = length-take-le w rest hw in
    ap (λ (x : List ℕ). put_at start end number (p ++ x)) (sym (take-append-drop w rest))
    ∙ put_at_next p (take w rest) (drop w rest) start end hp (omega arith) number w n
