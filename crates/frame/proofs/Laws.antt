-- Laws of frames, over every slab size, and so over every width of the length field. Assumes nothing.
use mathlib.Core.Bool.{Bool, true, false, not, cond}
use mathlib.Core.Path.{◌≡◌, refl, sym, ap, ◌∙◌}
use mathlib.Core.List.{List, ◌++◌, append_assoc}
use Prim.Native.Nat.{ℕ, ◌+◌, ◌-◌, ◌^◌, ◌≤◌, ◌<◌}
use native.Mathlib.Nat.{lt_of_le_of_lt}
use native.Mathlib.Omega.{arith}
use lib.Dec.{ltb}
use lib.ListN.{length, take, drop, replicate, length-append, length-take, length-drop, length-replicate, take-append-drop}
use lib.Seq.{take_at, drop_at, take_all, length-take-le, take-append_seam, drop-append_seam}
use borrow.Author.Tests.{le-leb, le-ltb, ltb-false}
use Rattle.refusal.specs.Refusals.{refusal, wrong_shape, check_differs, too_long, gap_not_zero}
use Rattle.little_endian.specs.LittleEndian.{Bytes, word, bytes_of, get_at, put_at}
use Rattle.little_endian.proofs.Laws.{take_bytes, drop_bytes, append_bytes, zero_bytes, bytes_of_bytes, bytes_of_zero, bytes_of_word, length_bytes_of, word_bytes_of, put_at_next}
use Rattle.list_parts.proofs.Ranges.{length_range, drop_range}
use Rattle.sizes.specs.Sizes.{is_slab_size, field_width, check_width, longest_object}
use Rattle.sizes.proofs.Laws.{field_width_le, is_slab_size_most, longest_object_frame, longest_object_lt}
use Rattle.zeros.specs.Zeros.{all_zero}
use Rattle.zeros.proofs.Laws.{all_zero_replicate, replicate_all_zero}
use Rattle.seal.specs.Seal.{check_of, signed, is_signed, resigned, body_of}
use Rattle.seal.proofs.Laws.{length_signed, is_signed_signed, signed_is_signed, resigned_body}
use Rattle.frame.specs.Frame.{body, framed, stored_length, gap_of, verdict_of, object_part}
use Rattle.std.specs.Prelude.{Result, Ok, Err}
use Rattle.refusal.specs.declared.Refusal.{Refusal}

-- ---- body: the object, the gap, the length
abbrev gap : ℕ → List ℕ → List ℕ
gap s object = replicate (longest_object s - length object) 0

pub length_body : (s : ℕ) (object : List ℕ) → length object ≤ longest_object s → length (body s object) ≡ longest_object s + field_width s
unfolding body
length_body s object h =
    rw (
      length-append object (gap s object ++ bytes_of (field_width s) (length object)),
      length-append (gap s object) (bytes_of (field_width s) (length object)),
      length-replicate {A = ℕ} (longest_object s - length object) 0,
      length_bytes_of (field_width s) (length object),
    ) (omega arith)

pub body_bytes : (s : ℕ) (object : List ℕ) → Bytes object → Bytes (body s object)
unfolding body
body_bytes s object h =
    append_bytes object (gap s object ++ bytes_of (field_width s) (length object)) h
    (append_bytes (gap s object) (bytes_of (field_width s) (length object)) (zero_bytes (longest_object s - length object)) (bytes_of_bytes (field_width s) (length object)))

-- ---- framed
pub length_framed : (s : ℕ) (object : List ℕ) → is_slab_size s ≡ true → length object ≤ longest_object s → length (framed s object) ≡ s
unfolding framed
length_framed s object k h = length_signed (body s object) ∙ ap (λ (n : ℕ). n + check_width) (length_body s object h) ∙ longest_object_frame s k

-- ---- a slot behind its first n bytes: up to the length field, the field, the check
module _ (slot : List ℕ) (n : ℕ) (k : is_slab_size (length slot) ≡ true) (h : n ≤ longest_object (length slot)) where
  length_filling : length (take (longest_object (length slot) - n) (drop n slot)) ≡ longest_object (length slot) - n
  length_filling = length_range slot n (longest_object (length slot)) h (omega (arith, longest_object_frame (length slot) k))

  drop_three : drop n slot
      ≡ take (longest_object (length slot) - n) (drop n slot)
      ++ (take (field_width (length slot)) (drop (longest_object (length slot)) slot) ++ drop (length slot - check_width) slot)
  drop_three =
      let s = length slot in
      let f = longest_object_frame s k in
      let w : s - check_width - longest_object s ≡ field_width s = omega arith in
      drop_range slot n (longest_object s) h
      ∙ ap (λ (x : List ℕ). take (longest_object s - n) (drop n slot) ++ x)
      (drop_range slot (longest_object s) (s - check_width) (omega arith) ∙ ap (λ (m : ℕ). take m (drop (longest_object s) slot) ++ drop (s - check_width) slot) w)

length_field : (slot : List ℕ) → is_slab_size (length slot) ≡ true → length (take (field_width (length slot)) (drop (longest_object (length slot)) slot)) ≡ field_width (length slot)
length_field slot k =
    let s = length slot in
    let f = longest_object_frame s k in
    length-take-le (field_width s) (drop (longest_object s) slot) (rw (length-drop (longest_object s) slot) (omega arith))

-- ---- writing
pub laid : (slot object : List ℕ) → is_slab_size (length slot) ≡ true → length object ≤ longest_object (length slot)
    → resigned (put_at (longest_object (length slot)) (length slot - check_width) (length object) (put_at (length object) (longest_object (length slot)) 0 (object ++ drop (length object) slot)))
    ≡ framed (length slot) object
unfolding framed body
laid slot object k h =
    let s = length slot in
    let n = length object in
    let f = longest_object_frame s k in
    let end : ℕ = s - check_width in
    let m₁ = take (longest_object s - n) (drop n slot) in
    let m₂ = take (field_width s) (drop (longest_object s) slot) in
    let l₃ : length (drop end slot) ≡ check_width = length-drop end slot ∙ omega arith in
    let z = bytes_of (longest_object s - n) 0 in
    let l : length (object ++ z) ≡ longest_object s = length-append object z ∙ omega (arith, length_bytes_of (longest_object s - n) 0) in
    let l₁ = length_filling slot n k h in
    let l₂ = length_field slot k in
    let cleared : put_at n (longest_object s) 0 (object ++ drop n slot) ≡ (object ++ z) ++ (m₂ ++ drop end slot) =
    ap (λ (x : List ℕ). put_at n (longest_object s) 0 (object ++ x)) (drop_three slot n k h)
    ∙ put_at_next object m₁ (m₂ ++ drop end slot) n (longest_object s) refl (omega arith) 0 (longest_object s - n) l₁ in
    ap (λ (x : List ℕ). resigned (put_at (longest_object s) end n x)) cleared
    ∙ ap resigned (put_at_next (object ++ z) m₂ (drop end slot) (longest_object s) end l (omega arith) n (field_width s) l₂)
    ∙ resigned_body ((object ++ z) ++ bytes_of (field_width s) n) (drop end slot) l₃
    ∙ ap signed (append_assoc object z (bytes_of (field_width s) n) ∙ ap (λ (x : List ℕ). object ++ (x ++ bytes_of (field_width s) n)) (bytes_of_zero (longest_object s - n)))

-- ---- reading
-- the length field is the part between the longest object and the check
stored_length_field : (slot : List ℕ) → is_slab_size (length slot) ≡ true → get_at (longest_object (length slot)) (length slot - check_width) slot ≡ stored_length slot
unfolding get_at stored_length
stored_length_field slot k =
    let s = length slot in
    let f = longest_object_frame s k in
    let w : s - check_width - longest_object s ≡ field_width s = omega arith in
    let short : length (take (field_width s) (drop (longest_object s) slot)) ≤ 8 = rw (length-take (field_width s) (drop (longest_object s) slot)) (omega (arith, field_width_le s)) in
    rw (le-leb (longest_object s) (s - check_width) (omega arith), le-leb (s - check_width) s (omega arith), w, take_all 8 (take (field_width s) (drop (longest_object s) slot)) short)

-- the field, read from where the longest object ends
pub stored_read : (slot : List ℕ) (start n : ℕ) → is_slab_size (length slot) ≡ true → start ≡ longest_object (length slot) → n ≡ get_at start (length slot - check_width) slot → n ≡ stored_length slot
stored_read slot start n k p e = e ∙ ap (λ x. get_at x (length slot - check_width) slot) p ∙ stored_length_field slot k

-- the gap, from where the field says to where the field begins
pub gap_read : (slot : List ℕ) (start n : ℕ) → start ≡ longest_object (length slot) → n ≡ stored_length slot → take (start - n) (drop n slot) ≡ gap_of slot
unfolding gap_of
gap_read slot start n p e = rw (p, e)

-- a read accepts a slot exactly if its length is one of the 78, its check agrees, its stored length fits and its gap is zero
pub record Accepted (slot : List ℕ) (n : ℕ) : Type 0 where
  pub slab : is_slab_size (length slot) ≡ true
  pub intact : is_signed slot ≡ true
  pub stored : stored_length slot ≡ n
  pub fits : n ≤ longest_object (length slot)
  pub blank : all_zero (gap_of slot) ≡ true

pub verdict_accepted : (slot : List ℕ) (n : ℕ) → verdict_of slot ≡ Ok n → Accepted slot n
unfolding verdict_of
verdict_accepted slot n = by (is_slab_size (length slot)) (is_signed slot) (ltb (longest_object (length slot)) (stored_length slot)) (all_zero (gap_of slot)) refl refl refl refl
  where
    by : (k i l z : Bool) → is_slab_size (length slot) ≡ k → is_signed slot ≡ i → ltb (longest_object (length slot)) (stored_length slot) ≡ l → all_zero (gap_of slot) ≡ z
        → cond (not k) (Err (refusal wrong_shape 0)) (cond (not i) (Err (refusal check_differs 0)) (cond l (Err (refusal too_long 0)) (cond (not z) (Err (refusal gap_not_zero 0)) (Ok (stored_length slot))))) ≡ Ok n
        → Accepted slot n
    by false i l z p q r b e = let y : ◌≡◌ {A = ℕ} 0 1 = cc in absurd (omega arith)
    by true false l z p q r b e = let y : ◌≡◌ {A = ℕ} 0 1 = cc in absurd (omega arith)
    by true true true z p q r b e = let y : ◌≡◌ {A = ℕ} 0 1 = cc in absurd (omega arith)
    by true true false false p q r b e = let y : ◌≡◌ {A = ℕ} 0 1 = cc in absurd (omega arith)
    by true true false true p q r b e =
        let m : stored_length slot ≡ n = cc in
        record { slab = p; intact = q; stored = m; fits = rw m at (ltb-false (longest_object (length slot)) (stored_length slot) r); blank = b }

pub accepted_verdict : (slot : List ℕ) (n : ℕ) → Accepted slot n → verdict_of slot ≡ Ok n
unfolding verdict_of
accepted_verdict slot n a = rw (a.slab, a.intact, a.blank, a.stored, le-ltb (longest_object (length slot)) n a.fits)

pub verdict_within : (slot : List ℕ) (n : ℕ) → verdict_of slot ≡ Ok n → n ≤ length slot
verdict_within slot n e =
    let a = verdict_accepted slot n e in
    omega (arith, a.fits, longest_object_frame (length slot) a.slab)

-- the stored length of a slot in three: what is before the length field, the field, the check
stored_length_three : (slot p m q : List ℕ) (s : ℕ) → slot ≡ p ++ (m ++ q) → length slot ≡ s → length p ≡ longest_object s → length m ≡ field_width s → stored_length slot ≡ word m
unfolding stored_length
stored_length_three slot p m q s e n hp hm =
    ap (λ (k : ℕ). word (take (field_width k) (drop (longest_object k) slot))) n
    ∙ ap (λ (x : List ℕ). word (take (field_width s) (drop (longest_object s) x))) e
    ∙ ap (λ (x : List ℕ). word (take (field_width s) x)) (drop_at p (m ++ q) (longest_object s) hp)
    ∙ ap word (take_at m q (field_width s) hm)

framed_three : (s : ℕ) (object : List ℕ)
    → framed s object ≡ (object ++ gap s object) ++ (bytes_of (field_width s) (length object) ++ bytes_of check_width (check_of (body s object)))
unfolding framed signed body
framed_three s object = simp append_assoc

framed_two : (s : ℕ) (object : List ℕ)
    → framed s object ≡ object ++ (gap s object ++ (bytes_of (field_width s) (length object) ++ bytes_of check_width (check_of (body s object))))
framed_two s object =
    framed_three s object ∙ append_assoc object (gap s object) (bytes_of (field_width s) (length object) ++ bytes_of check_width (check_of (body s object)))

-- ---- what is written is read: every object that fits, in every slab
module _ (s : ℕ) (object : List ℕ) (k : is_slab_size s ≡ true) (h : length object ≤ longest_object s) where
  stored_length_framed : stored_length (framed s object) ≡ length object
  stored_length_framed =
      let head : length (object ++ gap s object) ≡ longest_object s =
      length-append object (gap s object) ∙ omega (arith, length-replicate {A = ℕ} (longest_object s - length object) 0) in
      let lt : length object < 256 ^ field_width s = lt_of_le_of_lt h (longest_object_lt s (omega (arith, is_slab_size_most s k))) in
      stored_length_three (framed s object) (object ++ gap s object) (bytes_of (field_width s) (length object)) (bytes_of check_width (check_of (body s object))) s
      (framed_three s object) (length_framed s object k h) head (length_bytes_of (field_width s) (length object))
      ∙ word_bytes_of (field_width s) (length object) lt

  gap_of_framed : gap_of (framed s object) ≡ gap s object
  unfolding gap_of
  gap_of_framed =
      let tail = bytes_of (field_width s) (length object) ++ bytes_of check_width (check_of (body s object)) in
      rw (length_framed s object k h, stored_length_framed)
      (ap (λ (x : List ℕ). take (longest_object s - length object) (drop (length object) x)) (framed_two s object)
      ∙ ap (take (longest_object s - length object)) (drop-append_seam object (gap s object ++ tail))
      ∙ take_at (gap s object) tail (longest_object s - length object) (length-replicate {A = ℕ} (longest_object s - length object) 0))

  pub verdict_framed : Bytes object → verdict_of (framed s object) ≡ Ok (length object)
  unfolding framed signed
  verdict_framed b =
      let n = length_framed s object k h in
      accepted_verdict (framed s object) (length object)
      (record {
        slab = rw n k;
        intact = is_signed_signed (body s object) (body_bytes s object b);
        stored = stored_length_framed;
        fits = rw n h;
        blank = ap all_zero gap_of_framed ∙ all_zero_replicate (longest_object s - length object);
      })

  pub object_part_framed : Bytes object → object_part (verdict_of (framed s object)) (framed s object) ≡ object
  unfolding object_part
  object_part_framed b =
      ap (λ (v : Result ℕ Refusal). object_part v (framed s object)) (verdict_framed b)
      ∙ ap (take (length object)) (framed_two s object)
      ∙ take-append_seam object (gap s object ++ (bytes_of (field_width s) (length object) ++ bytes_of check_width (check_of (body s object))))

-- ---- what is read was written: an accepted slot is the written slot of its own first bytes
module _ (slot : List ℕ) (n : ℕ) (a : Accepted slot n) where
  pub length_object : length (take n slot) ≡ n
  length_object = length-take-le n slot (omega (arith, a.fits, longest_object_frame (length slot) a.slab))

  gap_accepted : take (longest_object (length slot) - n) (drop n slot) ≡ gap (length slot) (take n slot)
  gap_accepted =
      replicate_all_zero _ (ap all_zero (gap_read slot (longest_object (length slot)) n refl (sym a.stored)) ∙ a.blank)
      ∙ ap (λ (m : ℕ). replicate m 0) (length_filling slot n a.slab a.fits ∙ ap (λ (m : ℕ). longest_object (length slot) - m) (sym length_object))

  field_accepted : Bytes slot → take (field_width (length slot)) (drop (longest_object (length slot)) slot) ≡ bytes_of (field_width (length slot)) (length (take n slot))
  unfolding stored_length
  field_accepted b =
      let field = take (field_width (length slot)) (drop (longest_object (length slot)) slot) in
      sym (bytes_of_word field (take_bytes (field_width (length slot)) _ (drop_bytes (longest_object (length slot)) slot b)))
      ∙ ap (λ (m : ℕ). bytes_of m (word field)) (length_field slot a.slab)
      ∙ ap (bytes_of (field_width (length slot))) (a.stored ∙ sym length_object)

  body_accepted : Bytes slot → body_of slot ≡ body (length slot) (take n slot)
  unfolding body
  body_accepted b =
      let s = length slot in
      let object = take n slot in
      let end : ℕ = s - check_width in
      let field = bytes_of (field_width s) (length object) in
      let f = longest_object_frame s a.slab in
      let l : length (body s object) ≡ end = length_body s object (rw length_object a.fits) ∙ omega arith in
      ap (take end)
      (sym (take-append-drop n slot)
      ∙ ap (λ (x : List ℕ). object ++ x)
      (drop_three slot n a.slab a.fits
      ∙ ap (λ (x : List ℕ). x ++ (take (field_width s) (drop (longest_object s) slot) ++ drop end slot)) gap_accepted
      ∙ ap (λ (x : List ℕ). gap s object ++ (x ++ drop end slot)) (field_accepted b)
      ∙ sym (append_assoc (gap s object) field (drop end slot)))
      ∙ sym (append_assoc object (gap s object ++ field) (drop end slot)))
      ∙ take_at (body s object) (drop end slot) end l

  pub framed_accepted : Bytes slot → slot ≡ framed (length slot) (take n slot)
  unfolding framed
  framed_accepted b =
      signed_is_signed slot b (omega (arith, longest_object_frame (length slot) a.slab)) a.intact ∙ ap signed (body_accepted b)
