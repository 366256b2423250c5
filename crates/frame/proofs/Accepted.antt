-- A slot is accepted exactly if it is what a write of some object gives: the statements of specs/Accepted. One way every written slot is accepted
-- (`verdict_framed`), the other an accepted slot is the written slot of its own first bytes (`framed_accepted`). Assumes nothing.
use mathlib.Core.Bool.{Bool, true, false, not, cond}
use mathlib.Core.Path.{◌≡◌, refl, sym, ap, ◌∙◌}
use mathlib.Core.List.{List}
use Prim.Native.Nat.{ℕ, ◌≤◌}
use native.Mathlib.Omega.{arith}
use lib.Dec.{ltb}
use lib.ListN.{length, take, length-take}
use borrow.Author.Tests.{le-ltb, ltb-false}
use Rattle.refusal.specs.Refusals.{refusal, wrong_shape, too_long}
use Rattle.refusal.specs.declared.Refusal.{Refusal}
use Rattle.little_endian.specs.LittleEndian.{Bytes}
use Rattle.little_endian.proofs.Laws.{take_bytes}
use Rattle.sizes.specs.Sizes.{is_slab_size, longest_object}
use Rattle.sizes.proofs.Laws.{longest_object_frame}
use Rattle.frame.specs.Frame.{Writing, writing, framed, verdict_of, object_part}
use Rattle.frame.specs.Accepted.{IsWritten, AcceptedNamed, AcceptedSome, AcceptedBack}
use Rattle.frame.proofs.Laws.{Accepted, length_framed, length_object, verdict_accepted, verdict_framed, object_part_framed, framed_accepted}
use Rattle.std.specs.Prelude.{Result, Ok, Err, ⊤}

-- a write that is done: the slot has one of the 78 sizes, the object fits it, and the slot is framed
record Done (before object slot : List ℕ) : Type 0 where
  pub slab : is_slab_size (length before) ≡ true
  pub fits : length object ≤ longest_object (length before)
  pub is : slot ≡ framed (length before) object

refused : {A : Type 0} {r : Refusal} → ◌≡◌ {A = Result ⊤ Refusal} (Err r) (Ok tt) → A
refused e = let y : ◌≡◌ {A = ℕ} 0 1 = cc in absurd (omega arith)

done : (before object slot : List ℕ) → writing before object ≡ record { answer = Ok tt; slot = slot } → Done before object slot
unfolding writing
done before object slot = by (is_slab_size (length before)) (ltb (longest_object (length before)) (length object)) refl refl
  where
    by : (k l : Bool) → is_slab_size (length before) ≡ k → ltb (longest_object (length before)) (length object) ≡ l
        → ◌≡◌ {A = Writing} (cond (not k) (record { answer = Err (refusal wrong_shape 0); slot = before })
        (cond l (record { answer = Err (refusal too_long 0); slot = before }) (record { answer = Ok tt; slot = framed (length before) object })))
        (record { answer = Ok tt; slot = slot })
        → Done before object slot
    by false l p q e = refused (ap (λ (w : Writing). w.answer) e)
    by true true p q e = refused (ap (λ (w : Writing). w.answer) e)
    by true false p q e = record { slab = p; fits = ltb-false _ _ q; is = sym (ap (λ (w : Writing). w.slot) e) }

module _ (before object slot : List ℕ) (d : Done before object slot) (b : Bytes object) where
  verdict_done : verdict_of slot ≡ Ok (length object)
  verdict_done = ap verdict_of d.is ∙ verdict_framed (length before) object d.slab d.fits b

  back_done : object_part (verdict_of slot) slot ≡ object
  back_done = ap (λ (x : List ℕ). object_part (verdict_of x) x) d.is ∙ object_part_framed (length before) object d.slab d.fits b

-- an object fits its slot with bytes to spare, so it is no more of the slot than is there
length_done : (before slot : List ℕ) (n : ℕ) → Done before (take n slot) slot → length (take n slot) ≡ n
length_done before slot n d =
    let l : length slot ≡ length before = ap length d.is ∙ length_framed (length before) (take n slot) d.slab d.fits in
    omega (arith, length-take n slot, d.fits, longest_object_frame (length before) d.slab)

written_accepted : (slot : List ℕ) (n : ℕ) → Bytes slot → Accepted slot n → IsWritten (take n slot) slot
unfolding writing
written_accepted slot n b a = (
  slot,
  rw (a.slab, length_object slot n a, le-ltb (longest_object (length slot)) n a.fits)
      (ap (λ (x : List ℕ). record { answer = Ok tt; slot = x }) (sym (framed_accepted slot n a b))),
)

pub accepted_named : AcceptedNamed
accepted_named slot b n = (
  λ e. written_accepted slot n b (verdict_accepted slot n e),
  λ w.
      let d = done w.0 (take n slot) slot w.1 in
      verdict_done w.0 (take n slot) slot d (take_bytes n slot b) ∙ ap Ok (length_done w.0 slot n d),
)

pub accepted_some : AcceptedSome
accepted_some slot b = (
  λ p. (take p.0 slot, take_bytes p.0 slot b, written_accepted slot p.0 b (verdict_accepted slot p.0 p.1)),
  λ q. (length q.0, verdict_done q.2.0 q.0 slot (done q.2.0 q.0 slot q.2.1) q.1),
)

pub accepted_back : AcceptedBack
accepted_back slot object b w = back_done w.0 object slot (done w.0 object slot w.1) b
