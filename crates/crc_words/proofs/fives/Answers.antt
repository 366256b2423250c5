-- `crc_words::fives` meets its contract: each five words are put off.
-- Assumes nothing.
use mathlib.Core.Path.{◌≡◌, sym, ap, ◌∙◌, subst}
use mathlib.Core.List.{List, [], ◌++◌}
use Prim.Native.Nat.{ℕ}
use native.Mathlib.Omega.{arith}
use lib.Bits.{bit_xor, xor_zero_r}
use lib.ListN.{get_or}
use lib.Seq.{take_all}
use Rattle.std.proofs.Common.{append-nil}
use Rattle.std.specs.List.{flat_map}
use Rattle.crc_words.specs.Fold.{held, past, register_after, Far}
use Rattle.crc_words.proofs.Passed.{passed_block}
use Rattle.crc_words.proofs.LastWords.{past_zero, num_zero}
use Rattle.crc_words.proofs.fives.Goals as goal

pub loop-words-init : goal.loop-words-init
loop-words-init c =
    let first = c.args.first.now in
    let z = held c.args.from in
    let h = past c.five-h.result in
    let d = c.default.result in
    let none = c.default.ensures in
    let e : bit_xor (past d) z ≡ z = ap (λ (x : ℕ). bit_xor x z) (past_zero d.p d.q d.r d.s d.t none.0 none.1.0 none.1.1.0 none.1.1.1.0 none.1.1.1.1) in
    subst (λ (ws : List (List ℕ)). Far ws z h) (sym (append-nil first)) (subst (λ (x : ℕ). Far first x h) e c.five-h.ensures)

pub loop-words-preserved : goal.loop-words-preserved
loop-words-preserved c =
    let blocks = c.args.blocks.now in
    let i = c.loop-words.words-index in
    let h = past c.loop-words.h in
    let r = past c.five-h-in-loop-words.result in
    let d = c.default-in-loop-words.result in
    let none = c.default-in-loop-words.ensures in
    let e : bit_xor h (held d) ≡ h = ap (bit_xor h) (num_zero d.a d.b d.c d.d d.e none.0 none.1.0 none.1.1.0 none.1.1.1.0 none.1.1.1.1) ∙ xor_zero_r h in
    passed_block register_after 5 c.args.first.now blocks i (held c.args.from) h r (omega arith) c.loop-words.invariant
    (subst (λ (x : ℕ). Far (get_or blocks i []) x r) e c.five-h-in-loop-words.ensures)

pub returns : goal.returns
returns c =
    let first = c.args.first.now in
    let blocks = c.args.blocks.now in
    let z = held c.args.from in
    subst (Far (first ++ flat_map (λ words. words) blocks) z) (sym c.from.ensures)
    (subst (λ (bs : List (List (List ℕ))). Far (first ++ flat_map (λ words. words) bs) z (past c.loop-words.h)) (take_all c.loop-words.words-index blocks (omega arith)) c.loop-words.invariant)
