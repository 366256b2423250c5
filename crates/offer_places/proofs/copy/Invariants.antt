use Rattle.std.proofs.Common.{◌≡◌, ◌+◌, length, drop}
use lib.Seq.{sets}
use Rattle.offer_places.proofs.copy.Given as goal

abbrev pub invariant-loop-i : goal.invariant-loop-i
invariant-loop-i l = (length l.words ≡ length l.initial.words) × (sets l.words (l.base + l.i) (drop l.i l.from) ≡ sets l.initial.words l.base l.from)
