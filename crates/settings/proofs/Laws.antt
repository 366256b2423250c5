-- Laws of the settings cookie. Assumes nothing.
use mathlib.Core.Bool.{true, false}
use mathlib.Core.Path.{◌≡◌, refl, ap, ◌∙◌}
use mathlib.Core.List.{List, [], ◌++◌, append_assoc}
use Prim.Native.Nat.{ℕ, ◌+◌, ◌^◌, ◌<◌}
use native.Mathlib.Omega.{arith}
use lib.Dec.{ltb, lit<}
use lib.ListN.{length, take, drop, replicate, length-append, length-drop}
use lib.Seq.{take_at}
use borrow.Author.Tests.{le-ltb}
use Rattle.list_parts.proofs.Ranges.{length_range, drop_range}
use Rattle.little_endian.specs.LittleEndian.{bytes_of, get_at, put_at}
use Rattle.little_endian.proofs.Laws.{append_bytes, zero_bytes, bytes_of_bytes, bytes_of_zero, length_bytes_of, word_bytes_of, put_at_next, get_at_middle}
use Rattle.sizes.specs.Sizes.{check_width}
use Rattle.seal.specs.Seal.{check_of, signed, is_signed, resigned}
use Rattle.seal.proofs.Laws.{length_signed, is_signed_signed, resigned_body}
use Rattle.std.specs.Prelude.{Ok}
use Rattle.settings.specs.Settings.{cookie_length, cookie_of, settings_of}
use Rattle.settings.specs.declared.PersistentSettings.TheVariants as P

-- ---- writing: the version, the fanout, the padding, the check
stored : (cookie : List ℕ) (fanout : ℕ) → length cookie ≡ cookie_length
    → resigned (put_at 10 60 0 (put_at 2 10 fanout (put_at 0 2 1 cookie))) ≡ cookie_of fanout
unfolding cookie_of
stored cookie fanout n =
    let m₁ = take 2 cookie in
    let m₂ = take 8 (drop 2 cookie) in
    let m₃ = take 50 (drop 10 cookie) in
    let old = drop 60 cookie in
    let l₁ : length m₁ ≡ 2 = length_range cookie 0 2 (omega arith) (omega arith) in
    let l₂ : length m₂ ≡ 8 = length_range cookie 2 10 (omega arith) (omega arith) in
    let l₃ : length m₃ ≡ 50 = length_range cookie 10 60 (omega arith) (omega arith) in
    let l₄ : length old ≡ 4 = length-drop 60 cookie ∙ omega arith in
    let split : cookie ≡ m₁ ++ (m₂ ++ (m₃ ++ old)) =
    drop_range cookie 0 2 (omega arith)
    ∙ ap (λ (x : List ℕ). m₁ ++ x) (drop_range cookie 2 10 (omega arith) ∙ ap (λ (x : List ℕ). m₂ ++ x) (drop_range cookie 10 60 (omega arith))) in
    let b₁ = bytes_of 2 1 in
    let b₂ = b₁ ++ bytes_of 8 fanout in
    let k₁ = length_bytes_of 2 1 in
    let k₂ : length b₂ ≡ 10 = length-append b₁ (bytes_of 8 fanout) ∙ omega (arith, length_bytes_of 8 fanout) in
    ap (λ (x : List ℕ). resigned (put_at 10 60 0 (put_at 2 10 fanout (put_at 0 2 1 x)))) split
    ∙ ap (λ (x : List ℕ). resigned (put_at 10 60 0 (put_at 2 10 fanout x))) (put_at_next [] m₁ (m₂ ++ (m₃ ++ old)) 0 2 refl (omega arith) 1 2 l₁)
    ∙ ap (λ (x : List ℕ). resigned (put_at 10 60 0 x)) (put_at_next b₁ m₂ (m₃ ++ old) 2 10 k₁ (omega arith) fanout 8 l₂)
    ∙ ap resigned (put_at_next b₂ m₃ old 10 60 k₂ (omega arith) 0 50 l₃)
    ∙ resigned_body (b₂ ++ bytes_of 50 0) old l₄
    ∙ ap signed (append_assoc b₁ (bytes_of 8 fanout) (bytes_of 50 0) ∙ ap (λ (x : List ℕ). b₁ ++ (bytes_of 8 fanout ++ x)) (bytes_of_zero 50))

-- ---- cookie_of
body : ℕ → List ℕ
body fanout = bytes_of 2 1 ++ (bytes_of 8 fanout ++ replicate 50 0)

length_body : (fanout : ℕ) → length (body fanout) ≡ 60
unfolding body
length_body fanout =
    length-append (bytes_of 2 1) (bytes_of 8 fanout ++ replicate 50 0)
    ∙ omega (arith, length_bytes_of 2 1, length-append (bytes_of 8 fanout) (replicate 50 0), length_bytes_of 8 fanout)

pub length_cookie_of : (fanout : ℕ) → length (cookie_of fanout) ≡ cookie_length
unfolding cookie_of body
length_cookie_of fanout = length_signed (body fanout) ∙ omega (arith, length_body fanout)

cookie_intact : (fanout : ℕ) → is_signed (cookie_of fanout) ≡ true
unfolding cookie_of body
cookie_intact fanout =
    is_signed_signed (body fanout)
    (append_bytes (bytes_of 2 1) (bytes_of 8 fanout ++ replicate 50 0) (bytes_of_bytes 2 1)
    (append_bytes (bytes_of 8 fanout) (replicate 50 0) (bytes_of_bytes 8 fanout) (zero_bytes 50)))

-- what comes after the fanout
after : ℕ → List ℕ → List ℕ
after fanout rest = replicate 50 0 ++ (bytes_of check_width (check_of (body fanout)) ++ rest)

cookie_three : (fanout : ℕ) (rest : List ℕ) → cookie_of fanout ++ rest ≡ bytes_of 2 1 ++ (bytes_of 8 fanout ++ after fanout rest)
unfolding cookie_of signed body after
cookie_three fanout rest = simp append_assoc

-- ---- what is written is read, whatever comes after it
pub settings_cookie : (fanout : ℕ) (rest : List ℕ) → fanout < 2 ^ 64 → settings_of (cookie_of fanout ++ rest) ≡ Ok (P.V1 fanout)
unfolding settings_of
settings_cookie fanout rest h =
    let l = length_cookie_of fanout in
    let long : length (cookie_of fanout ++ rest) ≡ cookie_length + length rest = length-append (cookie_of fanout) rest ∙ ap (λ (n : ℕ). n + length rest) l in
    let first : take cookie_length (cookie_of fanout ++ rest) ≡ cookie_of fanout = take_at (cookie_of fanout) rest cookie_length l in
    let three : cookie_of fanout ++ rest ≡ bytes_of 2 1 ++ (bytes_of 8 fanout ++ after fanout rest) = cookie_three fanout rest in
    let version : get_at 0 2 (cookie_of fanout ++ rest) ≡ 1 =
    ap (get_at 0 2) three ∙ get_at_middle [] (bytes_of 2 1) (bytes_of 8 fanout ++ after fanout rest) 0 2 refl (omega (arith, length_bytes_of 2 1)) (omega (arith, length_bytes_of 2 1))
    ∙ word_bytes_of 2 1 (lit< tt) in
    let kept : get_at 2 10 (cookie_of fanout ++ rest) ≡ fanout =
    ap (get_at 2 10) three ∙ get_at_middle (bytes_of 2 1) (bytes_of 8 fanout) (after fanout rest) 2 10 (length_bytes_of 2 1) (omega (arith, length_bytes_of 8 fanout)) (omega (arith, length_bytes_of 8 fanout))
    ∙ word_bytes_of 8 fanout h in
    let short : ltb (length (cookie_of fanout ++ rest)) cookie_length ≡ false = le-ltb (length (cookie_of fanout ++ rest)) cookie_length (omega arith) in
    let intact : is_signed (take cookie_length (cookie_of fanout ++ rest)) ≡ true = ap is_signed first ∙ cookie_intact fanout in
    simp (short, intact, version, kept)

-- the fields are written one after the other, then the check
pub written : (cookie version fan padded after : List ℕ) (fanout : ℕ) → length cookie ≡ cookie_length → version ≡ put_at 0 2 1 cookie → fan ≡ put_at 2 10 fanout version
    → padded ≡ put_at 10 60 0 fan → after ≡ resigned padded → after ≡ cookie_of fanout
written cookie version fan padded after fanout n v f p e = e ∙ ap resigned (p ∙ ap (put_at 10 60 0) (f ∙ ap (put_at 2 10 fanout) v)) ∙ stored cookie fanout n
