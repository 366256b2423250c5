-- Laws of bytes that end in their own check. Assumes nothing.
use mathlib.Core.Bool.{true}
use mathlib.Core.Path.{◌≡◌, sym, ap, ◌∙◌}
use mathlib.Core.List.{List, ◌++◌}
use Prim.Native.Nat.{ℕ, ◌+◌, ◌-◌, ◌^◌, ◌≤◌, ◌<◌}
use native.Mathlib.Omega.{arith}
use lib.Bits.{xor_lt}
use lib.Dec.{lit<}
use lib.ListN.{length, length-append, length-drop, take-append-drop}
use lib.Seq.{take_at, drop_at}
use borrow.Author.Tests.{eq-eqb, eqb-true}
use Rattle.little_endian.specs.LittleEndian.{Bytes, word, bytes_of}
use Rattle.little_endian.proofs.Laws.{append_bytes, drop_bytes, length_bytes_of, bytes_of_bytes, word_bytes_of, bytes_of_word}
use Rattle.sizes.specs.Sizes.{check_width}
use Rattle.crc_steps.proofs.Laws.{crc32_lt}
use Rattle.seal.specs.Seal.{check_of, signed, body_of, tail_of, is_signed, resigned}

-- ---- check_of
pub check_of_lt : (body : List ℕ) → Bytes body → check_of body < 256 ^ check_width
unfolding check_of
check_of_lt body h = xor_lt 32 _ 0xAF (crc32_lt body h) (lit< tt)

-- ---- signed
pub length_signed : (body : List ℕ) → length (signed body) ≡ length body + check_width
unfolding signed
length_signed body = rw (length-append body (bytes_of check_width (check_of body)), length_bytes_of check_width (check_of body))

pub signed_bytes : (body : List ℕ) → Bytes body → Bytes (signed body)
unfolding signed
signed_bytes body h = append_bytes body (bytes_of check_width (check_of body)) h (bytes_of_bytes check_width (check_of body))

end : (body : List ℕ) → length body ≡ length (signed body) - check_width
end body = omega (arith, length_signed body)

pub body_of_signed : (body : List ℕ) → body_of (signed body) ≡ body
unfolding signed
body_of_signed body = take_at body (bytes_of check_width (check_of body)) (length (signed body) - check_width) (end body)

pub tail_of_signed : (body : List ℕ) → tail_of (signed body) ≡ bytes_of check_width (check_of body)
unfolding signed
tail_of_signed body = drop_at body (bytes_of check_width (check_of body)) (length (signed body) - check_width) (end body)

-- ---- what is signed is told to be, and what is told to be is signed
pub is_signed_signed : (body : List ℕ) → Bytes body → is_signed (signed body) ≡ true
unfolding is_signed
is_signed_signed body h =
    let w : word (tail_of (signed body)) ≡ check_of body = ap word (tail_of_signed body) ∙ word_bytes_of check_width (check_of body) (check_of_lt body h) in
    eq-eqb _ _ (ap check_of (body_of_signed body) ∙ sym w)

pub signed_is_signed : (bytes : List ℕ) → Bytes bytes → check_width ≤ length bytes → is_signed bytes ≡ true → bytes ≡ signed (body_of bytes)
unfolding is_signed signed
signed_is_signed bytes h l e =
    let n : length (tail_of bytes) ≡ check_width = length-drop (length bytes - check_width) bytes ∙ omega arith in
    let t : bytes_of check_width (word (tail_of bytes)) ≡ tail_of bytes =
    ap (λ (k : ℕ). bytes_of k (word (tail_of bytes))) (sym n) ∙ bytes_of_word (tail_of bytes) (drop_bytes (length bytes - check_width) bytes h) in
    sym (take-append-drop (length bytes - check_width) bytes)
    ∙ ap (λ (x : List ℕ). body_of bytes ++ x) (sym (ap (bytes_of check_width) (eqb-true _ _ e) ∙ t))

-- ---- resigned
pub resigned_body : (body old : List ℕ) → length old ≡ check_width → resigned (body ++ old) ≡ signed body
unfolding resigned signed
resigned_body body old h =
    let n : length body ≡ length (body ++ old) - check_width = omega (arith, length-append body old) in
    let b : body_of (body ++ old) ≡ body = take_at body old (length (body ++ old) - check_width) n in
    let t : tail_of (body ++ old) ≡ old = drop_at body old (length (body ++ old) - check_width) n in
    rw (b, t, h)
