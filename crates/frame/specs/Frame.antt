-- Document 01, "Sizes and frames", and request 2026-02: what a written slot holds, and when a read accepts one. Assumes nothing.
use Rattle.std.specs.Prelude.{not, cond, List, [], ◌++◌, ℕ, ◌-◌, ltb, length, take, drop, replicate, Result, Ok, Err, ⊤}
use Rattle.refusal.specs.Refusals.{refusal, wrong_shape, check_differs, too_long, gap_not_zero}
use Rattle.little_endian.specs.LittleEndian.{word, bytes_of}
use Rattle.sizes.specs.Sizes.{is_slab_size, field_width, longest_object}
use Rattle.zeros.specs.Zeros.{all_zero}
use Rattle.seal.specs.Seal.{signed, is_signed}
use Rattle.refusal.specs.declared.Refusal.{Refusal}

-- ---- writing
-- the object, zeros, and the object's length: all of a slot of size s but its check
unfoldable pub body : ℕ → List ℕ → List ℕ
body s object = object ++ (replicate (longest_object s - length object) 0 ++ bytes_of (field_width s) (length object))

-- a slot of size s that holds the object
unfoldable pub framed : ℕ → List ℕ → List ℕ
framed s object = signed (body s object)

pub record Writing : Type 0 where
  pub answer : Result ⊤ Refusal
  pub slot : List ℕ

-- the answer, and the slot after it: a refusal leaves the slot as it was
unfoldable pub writing : List ℕ → List ℕ → Writing
writing slot object =
    cond (not (is_slab_size (length slot))) (record { answer = Err (refusal wrong_shape 0); slot = slot })
    (cond (ltb (longest_object (length slot)) (length object)) (record { answer = Err (refusal too_long 0); slot = slot })
    (record { answer = Ok tt; slot = framed (length slot) object }))

-- ---- reading
-- the number in the length field
unfoldable pub stored_length : List ℕ → ℕ
stored_length slot = word (take (field_width (length slot)) (drop (longest_object (length slot)) slot))

-- the bytes between the object and the length field
unfoldable pub gap_of : List ℕ → List ℕ
gap_of slot = take (longest_object (length slot) - stored_length slot) (drop (stored_length slot) slot)

unfoldable pub verdict_of : List ℕ → Result ℕ Refusal
verdict_of slot =
    cond (not (is_slab_size (length slot))) (Err (refusal wrong_shape 0))
    (cond (not (is_signed slot)) (Err (refusal check_differs 0))
    (cond (ltb (longest_object (length slot)) (stored_length slot)) (Err (refusal too_long 0))
    (cond (not (all_zero (gap_of slot))) (Err (refusal gap_not_zero 0))
    (Ok (stored_length slot)))))

-- what a verdict hands back of the slot itself: its first bytes, or none
unfoldable pub object_part : Result ℕ Refusal → List ℕ → List ℕ
object_part (Ok n) slot = take n slot
object_part (Err r) slot = []
