-- What a search for the first byte 0 finds among marks. Assumes nothing.
use Rattle.std.proofs.Common.{◌≡◌, ℕ, List, arith, length}
use borrow.Author.Tests.{eqb-true, eq-eqb}
use Rattle.memchr.specs.Find.{Nowhere, NoneBefore, Passes, is_byte}
use Rattle.marks.specs.Marks.{first_free}
use Rattle.marks.proofs.LawsFree.{smallest_free_is, first_free_none}

pub found_free : (ms : List ℕ) (at : ℕ) → NoneBefore (Passes (is_byte 0) ms) 0 (length ms) at × Passes (is_byte 0) ms at → first_free ms ≡ at
found_free ms at found =
    omega (arith, smallest_free_is 0 at ms (omega arith) found.0.high (eqb-true _ 0 found.1) (λ j g h e. found.0.before j g h (eq-eqb _ 0 e)))

pub found_none : (ms : List ℕ) → Nowhere (Passes (is_byte 0) ms) 0 (length ms) → first_free ms ≡ length ms
found_none ms none = first_free_none ms (λ j h e. none j (omega arith) h (eq-eqb _ 0 e))
