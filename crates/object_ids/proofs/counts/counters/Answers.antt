-- `object_ids::counters` meets its contract: the lists' lengths, then what `stats` answers; its answer tells whether the pairs are copied.
-- Assumes nothing.
use Rattle.std.proofs.lemmas.Result.{err_from_is_err_and}
use Rattle.std.proofs.Common.{sym, ap, ◌∙◌, arith}
use Rattle.model.specs.Tables.{allocators}
use Rattle.model.specs.Outcomes.{list_in}
use Rattle.object_ids.specs.Counts.{counters_answer, stats_answer}
use Rattle.object_ids.proofs.LawsCounts.{counters_length, words_over, listed_first, listed_second, listed_both}
use Rattle.object_ids.proofs.counts.counters.Goals as goal
use Rattle.std.specs.Prelude.{Ok, Err}

pub returns-then-granted-ne-ALLOCATORS : goal.returns-then-granted-ne-ALLOCATORS
returns-then-granted-ne-ALLOCATORS c =
    let g = c.args.granted.now in
    let f = c.args.freed.now in
    let r = sym (listed_first g f _ c.if-granted-ne-ALLOCATORS.true) in
    record { result_after = (λ i. counters_answer g f (Err (c.of.ensures i))) ∙ r; granted_after = ap (λ a. list_in 0 a g) r; freed_after = ap (λ a. list_in 1 a f) r }

pub returns-then-freed-ne-ALLOCATORS : goal.returns-then-freed-ne-ALLOCATORS
returns-then-freed-ne-ALLOCATORS c =
    let g = c.args.granted.now in
    let f = c.args.freed.now in
    let r = sym (listed_second g f _ c.if-granted-ne-ALLOCATORS.false c.if-freed-ne-ALLOCATORS.true) in
    record { result_after = (λ i. counters_answer g f (Err (c.of-then-freed-ne-ALLOCATORS.ensures i))) ∙ r; granted_after = ap (λ a. list_in 0 a g) r; freed_after = ap (λ a. list_in 1 a f) r }

pub copy_words-requires : goal.copy_words-requires
copy_words-requires c =
    let l = counters_length _ _ _ _ (sym (ap (stats_answer c.args.tallies.now) c.in_ok-stats.was) ∙ c.stats.ensures) in
    (omega arith, c.if-granted-ne-ALLOCATORS.false)

pub copy_words-requires-2 : goal.copy_words-requires-2
copy_words-requires-2 c =
    let l = counters_length _ _ _ _ (sym (ap (stats_answer c.args.tallies.now) c.in_ok-stats.was) ∙ c.stats.ensures) in
    (omega arith, c.if-freed-ne-ALLOCATORS.false)

pub returns : goal.returns
returns c =
    let g = c.args.granted.now in
    let f = c.args.freed.now in
    let t = c.args.tallies.now in
    let e = sym (ap (stats_answer t) c.in_ok-stats.was) ∙ c.stats.ensures in
    let l = counters_length _ _ _ _ e in
    let long = c.if-granted-ne-ALLOCATORS.false in
    let long-2 = c.if-freed-ne-ALLOCATORS.false in
    let r = e ∙ sym (listed_both g f _ long long-2) in
    record { result_after = (λ i. counters_answer (c.copy_words.ensures i) (c.copy_words-2.ensures i) (Ok c.in_ok-stats.stats)) ∙ r; granted_after = c.copy_words.ensures ∙ words_over t g 0 (omega arith) long ∙ ap (λ a. list_in 0 a g) r; freed_after = c.copy_words-2.ensures ∙ words_over t f allocators (omega arith) long-2 ∙ ap (λ a. list_in 1 a f) r }

pub returns-in_err-stats : goal.returns-in_err-stats
returns-in_err-stats c =
    let g = c.args.granted.now in
    let f = c.args.freed.now in
    let r = sym (ap (stats_answer c.args.tallies.now) c.in_err-stats.was) ∙ c.stats.ensures ∙ sym (listed_both g f _ c.if-granted-ne-ALLOCATORS.false c.if-freed-ne-ALLOCATORS.false) in
    let p = err_from_is_err_and c.from_residual.result c.from_residual.ensures.1 in
    rw (p.1, p.2) (record { result_after = r; granted_after = ap (λ a. list_in 0 a g) r; freed_after = ap (λ a. list_in 1 a f) r })
