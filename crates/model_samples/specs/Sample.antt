-- A sample of the oracle's histories, on the definitions themselves. Each call and its answer are taken line by line from oracle/answers
-- (README.md there has the grammar) by oracle/sample_data: the answer is the Rust's where that is the documents' too, and elsewhere that of the
-- oracle's model of them.
-- Assumes nothing.
use Rattle.std.specs.Prelude.{◌≡◌, Bool, true, false, List, [], ◌∷◌, ◌++◌, map, ℕ, ◌-◌, length, get_or, set, replicate, pos, negsuc}
use Rattle.std.specs.Float.{nan, inf, fin}
use Rattle.refusal.specs.declared.Kind.{Kind}
use Rattle.refusal.specs.Refusals.{wrong_shape, too_large, out_of_range, check_differs, too_long, unknown_version, fanout_differs, no_such_id, repeated_id, none_free, batch_open, no_batch, tables_disagree, ratio_out_of_range, too_many, repeated_location, nothing_to_cut, gap_not_zero, wrong_block, wrong_end, key_too_long, settings_differ, bad_move, no_face, bad_face, totals_refused}
use Rattle.refusal.specs.Outcomes.{granted, refused}
use Rattle.little_endian.specs.LittleEndian.{bytes_of}
use Rattle.carried.specs.Carried.{width, up_from}
use Rattle.model.specs.Store.{Store, Call, new_id, release, offer, commit, abandon, rebuild, ask, lookup, why, counters, snapshot_length, snapshot, truncation, report}
use Rattle.model.specs.Store.{Standing, not_stored, full_enough, before_line, listed}
use Rattle.model.specs.Store.{keep, cut, Grant, done, gave, found, Told, told, placed, counts, moves, because, truncated, Answer}
use Rattle.model.specs.Tables.{allocators}
use Rattle.model.specs.Rebuild.{fresh_store}
use Rattle.model.specs.Step.{answer, next}
use Rattle.model.specs.Cases.{concat, defrag_of, page_of, refused_row}

-- a call, and what was answered
pub record Asked : Type 0 where
  pub call : Call
  pub answered : Answer

-- granted
abbrev pub asked : Call → Grant → Asked
asked c g = record { call = c; answered = granted g }

-- the kinds in the order of their numbers, of which the first is 1
abbrev pub kind_by : ℕ → Kind
kind_by n =
    get_or (wrong_shape ∷ too_large ∷ out_of_range ∷ check_differs ∷ too_long ∷ unknown_version ∷ fanout_differs ∷ no_such_id ∷ repeated_id ∷ none_free ∷ batch_open ∷ no_batch ∷ tables_disagree ∷
    ratio_out_of_range ∷ too_many ∷ repeated_location ∷ nothing_to_cut ∷ gap_not_zero ∷ wrong_block ∷ wrong_end ∷ key_too_long ∷ settings_differ ∷ bad_move ∷ no_face ∷ bad_face ∷ totals_refused ∷ []) (n - 1) totals_refused

-- refused, with a number and an index
abbrev pub denied : Call → ℕ → ℕ → Asked
denied c n i = record { call = c; answered = refused (kind_by n) i }

-- what a row is brought with: a collection alone; and with how long its key is said to be, and the bytes that begin with it
abbrev pub plain : ℕ → List ℕ
plain c = bytes_of 8 c ++ replicate 72 0

abbrev pub keyed : ℕ → ℕ → List ℕ → List ℕ
keyed c n k = bytes_of 8 c ++ (bytes_of 8 n ++ (k ++ replicate (64 - length k) 0))

-- what is lent for the answer holds some numbers, as many as there are updates
abbrev pub offer_of : List ℕ → List Bool → List ℕ → List (List ℕ) → Call
offer_of is ss ls rs = offer (record { ids = is; stores = ss; lengths = ls; carried = concat rs; placed = is })

abbrev pub rebuild_of : List ℕ → List ℕ → List (List ℕ) → Call
rebuild_of is ls rs = rebuild (record { ids = is; locations = ls; carried = concat rs })

abbrev pub lookup_of : ℕ → Call
lookup_of i = ask (lookup i (replicate width 0))

-- a row as the store keeps it: a collection, a key
abbrev pub kept_of : ℕ → List ℕ → List ℕ
kept_of c k = bytes_of 8 c ++ (length k ∷ (k ++ replicate (71 - length k) 0))

-- a location, a collection, a key
abbrev pub found_at : ℕ → ℕ → List ℕ → Grant
found_at l c k = found l (kept_of c k)

-- the same of a row of a page
abbrev pub told_row : ℕ → ℕ → List ℕ → Told
told_row l c k = record { number = 0; location = l; carried = kept_of c k }

-- where an object stands: slab and slot, how many smaller slots are in use, how many in all, the tip
abbrev pub standing_of : ℕ → ℕ → ℕ → ℕ → ℕ → Standing
standing_of k j n l t = record { slab = k; slot = j; smaller = n; live = l; tip = t }

-- a lent file of so many bytes
abbrev pub snapshot_in : ℕ → Call
snapshot_in n = ask (snapshot (replicate n 0))

-- of some allocators the granted and freed numbers, 0 of the others; and the sums
abbrev pub granted_from : List (ℕ × ℕ × ℕ) → List ℕ
granted_from [] = replicate allocators 0
granted_from (c ∷ cs) = set (granted_from cs) c.0 c.1

abbrev pub freed_from : List (ℕ × ℕ × ℕ) → List ℕ
freed_from [] = replicate allocators 0
freed_from (c ∷ cs) = set (freed_from cs) c.0 c.2

abbrev pub counts_from : List (ℕ × ℕ × ℕ) → ℕ → ℕ → ℕ → ℕ → Grant
counts_from cs a b c d = counts (granted_from cs) (freed_from cs)
    (record { objects_allocated = a; objects_freed = b; heap_slots_allocated = c; heap_slots_freed = d })

-- what the rules answer, one call after the other
abbrev pub answers_to : Store → List Asked → List Answer
answers_to s [] = []
answers_to s (q ∷ qs) = answer s q.call ∷ answers_to (next s q.call) qs

-- each is the answer that stands there
abbrev pub Agrees : Store → List Asked → Type 0
Agrees s qs = answers_to s qs ≡ map (λ (q : Asked). q.answered) qs

abbrev pub AllAgree : List (Store × List Asked) → Type 0
AllAgree [] = Unit
AllAgree (h ∷ hs) = Agrees h.0 h.1 × AllAgree hs

-- ---- the sample

-- stores.txt, history 1: each reason; 15 calls after fresh, less those that the list says in part
unfoldable pub sample1 : List Asked
sample1 =
    asked new_id (gave 1) ∷ asked new_id (gave 2) ∷ asked new_id (gave 3) ∷ asked (offer_of (1 ∷ 2 ∷ 3 ∷ []) (true ∷ true ∷ true ∷ []) (3 ∷ 3 ∷ 3 ∷ [])
    (keyed 72340172838076417 3 (125 ∷ 151 ∷ 243 ∷ []) ∷ keyed 72340172838076418 2 (144 ∷ 19 ∷ 122 ∷ 138 ∷ []) ∷ keyed 72340172838076419 2 (163 ∷ 227 ∷ 110 ∷
    39 ∷ []) ∷ [])) (placed (72057594037927936 ∷ 72057594037927937 ∷ 72057594037927938 ∷ [])) ∷ asked commit done ∷
    asked (offer_of (2 ∷ []) (false ∷ []) (0 ∷ []) (plain 144680345676152834 ∷ [])) (placed (0 ∷ [])) ∷ asked commit done ∷ asked release done ∷
    asked new_id (gave 2) ∷ asked (page_of (1 ∷ 2 ∷ 3 ∷ [])) (told (told_row 72057594037927936 72340172838076417 (125 ∷ 151 ∷ 243 ∷ []) ∷ refused_row
    (kind_by 8) ∷ told_row 72057594037927938 72340172838076419 (163 ∷ 227 ∷ []) ∷ [])) ∷
    asked (ask (why 1 (fin false 3 (negsuc 1)))) (because (before_line (standing_of 0 0 0 2 3) 2)) ∷
    asked (ask (why 2 (fin false 3 (negsuc 1)))) (because not_stored) ∷
    asked (ask (why 3 (fin false 3 (negsuc 1)))) (because (listed (standing_of 0 2 1 2 3) 2)) ∷
    asked (ask (why 3 (fin false 1 (negsuc 0)))) (because (full_enough (standing_of 0 2 1 2 3))) ∷ denied (ask (why 3 nan)) 14 0 ∷ []

-- stores.txt, history 8: keys of all kinds; 35 calls after fresh, less those that the list says in part
unfoldable pub sample2 : List Asked
sample2 =
    asked new_id (gave 1) ∷ asked new_id (gave 2) ∷ asked new_id (gave 3) ∷ asked new_id (gave 4) ∷ asked new_id (gave 5) ∷ asked new_id (gave 6) ∷
    asked new_id (gave 7) ∷ asked new_id (gave 8) ∷ asked (offer_of (1 ∷ 2 ∷ 3 ∷ 4 ∷ 5 ∷ 6 ∷ 7 ∷ 8 ∷ []) (true ∷ true ∷ true ∷ true ∷ true ∷ true ∷ true ∷
    true ∷ []) (3 ∷ 3 ∷ 3 ∷ 3 ∷ 3 ∷ 3 ∷ 3 ∷ 3 ∷ []) (keyed 72340172838076417 0 (up_from 1 64) ∷ keyed 72340172838076418 1 (up_from 1 64) ∷
    keyed 72340172838076419 2 (up_from 1 64) ∷ keyed 72340172838076420 31 (up_from 1 64) ∷ keyed 72340172838076421 62 (up_from 1 64) ∷
    keyed 72340172838076422 63 (up_from 1 64) ∷ keyed 72340172838076423 64 (up_from 1 64) ∷ plain 72340172838076424 ∷ [])) (placed (72057594037927936 ∷
    72057594037927937 ∷ 72057594037927938 ∷ 72057594037927939 ∷ 72057594037927940 ∷ 72057594037927941 ∷ 72057594037927942 ∷ 72057594037927943 ∷ [])) ∷
    asked commit done ∷ asked (lookup_of 1) (found_at 72057594037927936 72340172838076417 []) ∷
    asked (lookup_of 2) (found_at 72057594037927937 72340172838076418 (1 ∷ [])) ∷
    asked (lookup_of 3) (found_at 72057594037927938 72340172838076419 (1 ∷ 2 ∷ [])) ∷
    asked (lookup_of 4) (found_at 72057594037927939 72340172838076420 (up_from 1 31)) ∷
    asked (lookup_of 5) (found_at 72057594037927940 72340172838076421 (up_from 1 62)) ∷
    asked (lookup_of 6) (found_at 72057594037927941 72340172838076422 (up_from 1 63)) ∷
    asked (lookup_of 7) (found_at 72057594037927942 72340172838076423 (up_from 1 64)) ∷ asked (lookup_of 8) (found_at 72057594037927943 72340172838076424 []) ∷
    asked (ask snapshot_length) (gave 1024) ∷ denied (snapshot_in 512) 1 0 ∷ asked (offer_of (1 ∷ 7 ∷ 8 ∷ []) (true ∷ true ∷ true ∷ []) (3 ∷ 3 ∷ 3 ∷ [])
    (keyed 144680345676152833 64 (replicate 64 255) ∷ keyed 144680345676152839 3 (110 ∷ 101 ∷ 119 ∷ []) ∷ keyed 144680345676152840 5 [] ∷ [])) (placed
    (72057594037927944 ∷ 72057594037927945 ∷ 72057594037927946 ∷ [])) ∷ asked (lookup_of 1) (found_at 72057594037927936 72340172838076417 []) ∷ asked (page_of
    (1 ∷ 7 ∷ 9 ∷ 1 ∷ [])) (told (told_row 72057594037927936 72340172838076417 [] ∷ told_row 72057594037927942 72340172838076423 (up_from 1 64) ∷ refused_row
    (kind_by 8) ∷ told_row 72057594037927936 72340172838076417 [] ∷ [])) ∷ asked commit done ∷
    asked (lookup_of 1) (found_at 72057594037927944 144680345676152833 (replicate 64 255)) ∷
    asked (lookup_of 2) (found_at 72057594037927937 72340172838076418 (1 ∷ [])) ∷
    asked (lookup_of 3) (found_at 72057594037927938 72340172838076419 (1 ∷ 2 ∷ [])) ∷
    asked (lookup_of 4) (found_at 72057594037927939 72340172838076420 (up_from 1 31)) ∷
    asked (lookup_of 5) (found_at 72057594037927940 72340172838076421 (up_from 1 62)) ∷
    asked (lookup_of 6) (found_at 72057594037927941 72340172838076422 (up_from 1 63)) ∷
    asked (lookup_of 7) (found_at 72057594037927945 144680345676152839 (110 ∷ 101 ∷ 119 ∷ [])) ∷
    asked (lookup_of 8) (found_at 72057594037927946 144680345676152840 (replicate 5 0)) ∷ asked (ask snapshot_length) (gave 1024) ∷
    denied (snapshot_in 1025) 1 0 ∷ asked (offer_of (6 ∷ []) (true ∷ []) (3 ∷ []) (keyed 217020518514229254 7 (110 ∷ 111 ∷ 116 ∷ 104 ∷ 105 ∷ 110 ∷ 103 ∷ []) ∷
    [])) (placed (72057594037927947 ∷ [])) ∷ []

-- stores.txt, history 9: 21 beside other refusals; 101 calls after fresh, less those that the list says in part
unfoldable pub sample3 : List Asked
sample3 =
    asked new_id (gave 1) ∷ asked new_id (gave 2) ∷ asked new_id (gave 3) ∷
    asked (offer_of (1 ∷ []) (true ∷ []) (3 ∷ []) (keyed 72340172838076417 64 (replicate 64 255) ∷ [])) (placed (72057594037927936 ∷ [])) ∷ asked commit done ∷
    denied (offer_of (1 ∷ []) (true ∷ []) (3 ∷ []) (keyed 144680345676152833 65 (108 ∷ 111 ∷ 110 ∷ 103 ∷ []) ∷ [])) 21 0 ∷
    denied (offer_of (1 ∷ []) (true ∷ []) (3 ∷ []) (keyed 217020518514229249 66 (108 ∷ 111 ∷ 110 ∷ 103 ∷ []) ∷ [])) 21 0 ∷
    denied (offer_of (1 ∷ []) (true ∷ []) (3 ∷ []) (keyed 289360691352305665 128 (108 ∷ 111 ∷ 110 ∷ 103 ∷ []) ∷ [])) 21 0 ∷
    denied (offer_of (1 ∷ []) (true ∷ []) (3 ∷ []) (keyed 361700864190382081 255 (108 ∷ 111 ∷ 110 ∷ 103 ∷ []) ∷ [])) 21 0 ∷
    denied (offer_of (1 ∷ []) (true ∷ []) (3 ∷ []) (keyed 434041037028458497 256 (108 ∷ 111 ∷ 110 ∷ 103 ∷ []) ∷ [])) 21 0 ∷
    denied (offer_of (1 ∷ []) (true ∷ []) (3 ∷ []) (keyed 506381209866534913 257 (108 ∷ 111 ∷ 110 ∷ 103 ∷ []) ∷ [])) 21 0 ∷
    denied (offer_of (1 ∷ []) (true ∷ []) (3 ∷ []) (keyed 578721382704611329 4294967296 (108 ∷ 111 ∷ 110 ∷ 103 ∷ []) ∷ [])) 21 0 ∷
    denied (offer_of (1 ∷ []) (true ∷ []) (3 ∷ []) (keyed 651061555542687745 4294967297 (108 ∷ 111 ∷ 110 ∷ 103 ∷ []) ∷ [])) 21 0 ∷
    denied (offer_of (1 ∷ []) (true ∷ []) (3 ∷ []) (keyed 723401728380764161 9223372036854775808 (108 ∷ 111 ∷ 110 ∷ 103 ∷ []) ∷ [])) 21 0 ∷
    denied (offer_of (1 ∷ []) (true ∷ []) (3 ∷ []) (keyed 795741901218840577 18446744073709551615 (108 ∷ 111 ∷ 110 ∷ 103 ∷ []) ∷ [])) 21 0 ∷
    denied (offer_of (4 ∷ []) (true ∷ []) (3 ∷ []) (keyed 868082074056916996 65 [] ∷ [])) 8 0 ∷
    denied (offer_of (4 ∷ 2 ∷ []) (true ∷ true ∷ []) (3 ∷ 3 ∷ []) (plain 940422246894993412 ∷ keyed 940422246894993410 65 [] ∷ [])) 8 0 ∷
    denied (offer_of (2 ∷ 4 ∷ []) (true ∷ true ∷ []) (3 ∷ 3 ∷ []) (keyed 1012762419733069826 65 [] ∷ plain 1012762419733069828 ∷ [])) 21 0 ∷
    denied (offer_of (2 ∷ 4 ∷ []) (true ∷ true ∷ []) (3 ∷ 3 ∷ []) (plain 1085102592571146242 ∷ keyed 1085102592571146244 65 [] ∷ [])) 8 1 ∷
    denied (offer_of (2 ∷ 4 ∷ []) (true ∷ true ∷ []) (3 ∷ 3 ∷ []) (keyed 1157442765409222658 65 [] ∷ keyed 1157442765409222660 65 [] ∷ [])) 21 0 ∷
    denied (offer_of (0 ∷ []) (true ∷ []) (3 ∷ []) (keyed 1229782938247299072 65 [] ∷ [])) 8 0 ∷
    denied (offer_of (0 ∷ 2 ∷ []) (true ∷ true ∷ []) (3 ∷ 3 ∷ []) (plain 1302123111085375488 ∷ keyed 1302123111085375490 65 [] ∷ [])) 8 0 ∷
    denied (offer_of (2 ∷ 0 ∷ []) (true ∷ true ∷ []) (3 ∷ 3 ∷ []) (keyed 1374463283923451906 65 [] ∷ plain 1374463283923451904 ∷ [])) 21 0 ∷
    denied (offer_of (2 ∷ 0 ∷ []) (true ∷ true ∷ []) (3 ∷ 3 ∷ []) (plain 1446803456761528322 ∷ keyed 1446803456761528320 65 [] ∷ [])) 8 1 ∷
    denied (offer_of (2 ∷ 0 ∷ []) (true ∷ true ∷ []) (3 ∷ 3 ∷ []) (keyed 1519143629599604738 65 [] ∷ keyed 1519143629599604736 65 [] ∷ [])) 21 0 ∷
    denied (offer_of (1 ∷ 1 ∷ []) (true ∷ true ∷ []) (3 ∷ 3 ∷ []) (plain 1591483802437681153 ∷ keyed 1591483802437681153 65 [] ∷ [])) 9 1 ∷ denied (offer_of
    (1 ∷ 1 ∷ 2 ∷ []) (true ∷ true ∷ true ∷ []) (3 ∷ 3 ∷ 3 ∷ []) (plain 1663823975275757569 ∷ plain 1663823975275757569 ∷ keyed 1663823975275757570 65 [] ∷
    [])) 9 1 ∷ denied (offer_of (1 ∷ 2 ∷ 1 ∷ []) (true ∷ true ∷ true ∷ []) (3 ∷ 3 ∷ 3 ∷ []) (plain 1736164148113833985 ∷ keyed 1736164148113833986 65 [] ∷
    plain 1736164148113833985 ∷ [])) 21 1 ∷ denied (offer_of (1 ∷ 2 ∷ 1 ∷ []) (true ∷ true ∷ true ∷ []) (3 ∷ 3 ∷ 3 ∷ []) (plain 1808504320951910401 ∷
    plain 1808504320951910402 ∷ keyed 1808504320951910401 65 [] ∷ [])) 9 2 ∷ denied (offer_of (1 ∷ 2 ∷ 1 ∷ []) (true ∷ true ∷ true ∷ []) (3 ∷ 3 ∷ 3 ∷ [])
    (plain 1880844493789986817 ∷ keyed 1880844493789986818 65 [] ∷ keyed 1880844493789986817 65 [] ∷ [])) 21 1 ∷
    denied (offer_of (1 ∷ []) (true ∷ []) (34359738368 ∷ []) (keyed 1953184666628063233 65 [] ∷ [])) 21 0 ∷
    denied (offer_of (1 ∷ 2 ∷ []) (true ∷ true ∷ []) (34359738368 ∷ 3 ∷ []) (plain 2025524839466139649 ∷ keyed 2025524839466139650 65 [] ∷ [])) 2 0 ∷
    denied (offer_of (2 ∷ 1 ∷ []) (true ∷ true ∷ []) (3 ∷ 34359738368 ∷ []) (keyed 2097865012304216066 65 [] ∷ plain 2097865012304216065 ∷ [])) 21 0 ∷
    denied (offer_of (2 ∷ 1 ∷ []) (true ∷ true ∷ []) (3 ∷ 34359738368 ∷ []) (plain 2170205185142292482 ∷ keyed 2170205185142292481 65 [] ∷ [])) 21 1 ∷
    denied (offer_of (2 ∷ 1 ∷ []) (true ∷ true ∷ []) (3 ∷ 34359738368 ∷ []) (keyed 2242545357980368898 65 [] ∷ keyed 2242545357980368897 65 [] ∷ [])) 21 0 ∷
    denied (offer_of (4 ∷ []) (false ∷ []) (0 ∷ []) (keyed 2314885530818445316 65 [] ∷ [])) 8 0 ∷
    denied (offer_of (4 ∷ 2 ∷ []) (false ∷ true ∷ []) (0 ∷ 3 ∷ []) (plain 2387225703656521732 ∷ keyed 2387225703656521730 65 [] ∷ [])) 8 0 ∷
    denied (offer_of (2 ∷ 4 ∷ []) (true ∷ false ∷ []) (3 ∷ 0 ∷ []) (keyed 2459565876494598146 65 [] ∷ plain 2459565876494598148 ∷ [])) 21 0 ∷
    denied (offer_of (2 ∷ 4 ∷ []) (true ∷ false ∷ []) (3 ∷ 0 ∷ []) (plain 2531906049332674562 ∷ keyed 2531906049332674564 65 [] ∷ [])) 8 1 ∷
    denied (offer_of (2 ∷ 4 ∷ []) (true ∷ false ∷ []) (3 ∷ 0 ∷ []) (keyed 2604246222170750978 65 [] ∷ keyed 2604246222170750980 65 [] ∷ [])) 21 0 ∷
    denied (offer_of (1 ∷ 1 ∷ []) (true ∷ false ∷ []) (3 ∷ 0 ∷ []) (plain 2676586395008827393 ∷ keyed 2676586395008827393 65 [] ∷ [])) 9 1 ∷ denied (offer_of
    (1 ∷ 1 ∷ 2 ∷ []) (true ∷ false ∷ true ∷ []) (3 ∷ 0 ∷ 3 ∷ []) (plain 2748926567846903809 ∷ plain 2748926567846903809 ∷ keyed 2748926567846903810 65 [] ∷
    [])) 9 1 ∷ denied (offer_of (1 ∷ 2 ∷ 1 ∷ []) (true ∷ true ∷ false ∷ []) (3 ∷ 3 ∷ 0 ∷ []) (plain 2821266740684980225 ∷ keyed 2821266740684980226 65 [] ∷
    plain 2821266740684980225 ∷ [])) 21 1 ∷ denied (offer_of (1 ∷ 2 ∷ 1 ∷ []) (true ∷ true ∷ false ∷ []) (3 ∷ 3 ∷ 0 ∷ []) (plain 2893606913523056641 ∷
    plain 2893606913523056642 ∷ keyed 2893606913523056641 65 [] ∷ [])) 9 2 ∷ denied (offer_of (1 ∷ 2 ∷ 1 ∷ []) (true ∷ true ∷ false ∷ []) (3 ∷ 3 ∷ 0 ∷ [])
    (plain 2965947086361133057 ∷ keyed 2965947086361133058 65 [] ∷ keyed 2965947086361133057 65 [] ∷ [])) 21 1 ∷
    asked (offer_of (1 ∷ []) (false ∷ []) (0 ∷ []) (keyed 3038287259199209473 65 [] ∷ [])) (placed (0 ∷ [])) ∷ asked abandon done ∷
    denied (offer_of (1 ∷ 2 ∷ []) (false ∷ true ∷ []) (0 ∷ 3 ∷ []) (plain 3110627432037285889 ∷ keyed 3110627432037285890 65 [] ∷ [])) 21 1 ∷
    denied (offer_of (2 ∷ 1 ∷ []) (true ∷ false ∷ []) (3 ∷ 0 ∷ []) (keyed 3182967604875362306 65 [] ∷ plain 3182967604875362305 ∷ [])) 21 0 ∷ asked (offer_of
    (2 ∷ 1 ∷ []) (true ∷ false ∷ []) (3 ∷ 0 ∷ []) (plain 3255307777713438722 ∷ keyed 3255307777713438721 65 [] ∷ [])) (placed (72057594037927937 ∷ 0 ∷ [])) ∷
    asked abandon done ∷
    denied (offer_of (2 ∷ 1 ∷ []) (true ∷ false ∷ []) (3 ∷ 0 ∷ []) (keyed 3327647950551515138 65 [] ∷ keyed 3327647950551515137 65 [] ∷ [])) 21 0 ∷ denied
    (offer_of (1 ∷ 2 ∷ 3 ∷ []) (true ∷ true ∷ true ∷ []) (3 ∷ 3 ∷ 3 ∷ []) (plain 3399988123389591553 ∷ plain 3399988123389591554 ∷ plain 3399988123389591555 ∷
    [])) 10 0 ∷ denied (offer_of (1 ∷ 2 ∷ 3 ∷ []) (true ∷ true ∷ true ∷ []) (3 ∷ 3 ∷ 3 ∷ []) (plain 3472328296227667969 ∷ plain 3472328296227667970 ∷
    keyed 3472328296227667971 65 [] ∷ [])) 21 2 ∷
    asked (offer_of (2 ∷ []) (true ∷ []) (3 ∷ []) (plain 3617008641903820802 ∷ [])) (placed (72057594037927937 ∷ [])) ∷
    denied (offer_of (2 ∷ []) (true ∷ []) (3 ∷ []) (keyed 3689348814741897218 65 [] ∷ [])) 11 0 ∷ asked commit done ∷
    asked (lookup_of 1) (found_at 72057594037927936 72340172838076417 (replicate 64 255)) ∷
    asked (lookup_of 2) (found_at 72057594037927937 3617008641903820802 []) ∷ asked (ask snapshot_length) (gave 512) ∷ denied (snapshot_in 1024) 1 0 ∷
    denied (rebuild_of (0 ∷ []) (72057594037927936 ∷ []) (keyed 3761688987579973632 65 [] ∷ [])) 8 0 ∷
    denied (rebuild_of (0 ∷ 2 ∷ []) (72057594037927936 ∷ 72057594037927937 ∷ []) (plain 3834029160418050048 ∷ keyed 3834029160418050050 65 [] ∷ [])) 8 0 ∷
    denied (rebuild_of (2 ∷ 0 ∷ []) (72057594037927937 ∷ 72057594037927936 ∷ []) (keyed 3906369333256126466 65 [] ∷ plain 3906369333256126464 ∷ [])) 21 0 ∷
    denied (rebuild_of (2 ∷ 0 ∷ []) (72057594037927937 ∷ 72057594037927936 ∷ []) (plain 3978709506094202882 ∷ keyed 3978709506094202880 65 [] ∷ [])) 8 1 ∷
    denied (rebuild_of (5 ∷ []) (72057594037927936 ∷ []) (keyed 4051049678932279301 65 [] ∷ [])) 8 0 ∷
    denied (rebuild_of (5 ∷ 2 ∷ []) (72057594037927936 ∷ 72057594037927937 ∷ []) (plain 4123389851770355717 ∷ keyed 4123389851770355714 65 [] ∷ [])) 8 0 ∷
    denied (rebuild_of (2 ∷ 5 ∷ []) (72057594037927937 ∷ 72057594037927936 ∷ []) (keyed 4195730024608432130 65 [] ∷ plain 4195730024608432133 ∷ [])) 21 0 ∷
    denied (rebuild_of (2 ∷ 5 ∷ []) (72057594037927937 ∷ 72057594037927936 ∷ []) (plain 4268070197446508546 ∷ keyed 4268070197446508549 65 [] ∷ [])) 8 1 ∷
    denied (rebuild_of (1 ∷ 1 ∷ []) (72057594037927936 ∷ 144115188075855872 ∷ []) (plain 4340410370284584961 ∷ keyed 4340410370284584961 65 [] ∷ [])) 9 1 ∷
    denied (rebuild_of (1 ∷ 1 ∷ 2 ∷ []) (72057594037927936 ∷ 144115188075855872 ∷ 72057594037927937 ∷ []) (plain 4412750543122661377 ∷
    plain 4412750543122661377 ∷ keyed 4412750543122661378 65 [] ∷ [])) 9 1 ∷ denied (rebuild_of (1 ∷ 2 ∷ 1 ∷ []) (72057594037927936 ∷ 72057594037927937 ∷
    144115188075855872 ∷ []) (plain 4485090715960737793 ∷ keyed 4485090715960737794 65 [] ∷ plain 4485090715960737793 ∷ [])) 21 1 ∷ denied (rebuild_of (1 ∷ 2 ∷
    1 ∷ []) (72057594037927936 ∷ 72057594037927937 ∷ 144115188075855872 ∷ []) (plain 4557430888798814209 ∷ plain 4557430888798814210 ∷
    keyed 4557430888798814209 65 [] ∷ [])) 9 2 ∷ denied (rebuild_of (1 ∷ []) (0 ∷ []) (keyed 4629771061636890625 65 [] ∷ [])) 3 0 ∷
    denied (rebuild_of (1 ∷ 2 ∷ []) (0 ∷ 72057594037927937 ∷ []) (plain 4702111234474967041 ∷ keyed 4702111234474967042 65 [] ∷ [])) 3 0 ∷
    denied (rebuild_of (2 ∷ 1 ∷ []) (72057594037927937 ∷ 0 ∷ []) (keyed 4774451407313043458 65 [] ∷ plain 4774451407313043457 ∷ [])) 21 0 ∷
    denied (rebuild_of (2 ∷ 1 ∷ []) (72057594037927937 ∷ 0 ∷ []) (plain 4846791580151119874 ∷ keyed 4846791580151119873 65 [] ∷ [])) 3 1 ∷
    denied (rebuild_of (1 ∷ []) (72057594037927938 ∷ []) (keyed 4919131752989196289 65 [] ∷ [])) 3 0 ∷
    denied (rebuild_of (1 ∷ 2 ∷ []) (72057594037927938 ∷ 72057594037927937 ∷ []) (plain 4991471925827272705 ∷ keyed 4991471925827272706 65 [] ∷ [])) 3 0 ∷
    denied (rebuild_of (2 ∷ 1 ∷ []) (72057594037927937 ∷ 72057594037927938 ∷ []) (keyed 5063812098665349122 65 [] ∷ plain 5063812098665349121 ∷ [])) 21 0 ∷
    denied (rebuild_of (2 ∷ 1 ∷ []) (72057594037927937 ∷ 72057594037927938 ∷ []) (plain 5136152271503425538 ∷ keyed 5136152271503425537 65 [] ∷ [])) 3 1 ∷
    denied (rebuild_of (3 ∷ 1 ∷ []) (72057594037927936 ∷ 72057594037927936 ∷ []) (plain 5208492444341501955 ∷ keyed 5208492444341501953 65 [] ∷ [])) 16 1 ∷
    denied (rebuild_of (3 ∷ 1 ∷ 2 ∷ []) (72057594037927936 ∷ 72057594037927936 ∷ 72057594037927937 ∷ []) (plain 5280832617179578371 ∷
    plain 5280832617179578369 ∷ keyed 5280832617179578370 65 [] ∷ [])) 16 1 ∷ denied (rebuild_of (3 ∷ 2 ∷ 1 ∷ []) (72057594037927936 ∷ 72057594037927937 ∷
    72057594037927936 ∷ []) (plain 5353172790017654787 ∷ keyed 5353172790017654786 65 [] ∷ plain 5353172790017654785 ∷ [])) 21 1 ∷ denied (rebuild_of (3 ∷ 2 ∷
    1 ∷ []) (72057594037927936 ∷ 72057594037927937 ∷ 72057594037927936 ∷ []) (plain 5425512962855731203 ∷ plain 5425512962855731202 ∷
    keyed 5425512962855731201 65 [] ∷ [])) 16 2 ∷ denied (rebuild_of (1 ∷ []) (72057594037927936 ∷ []) (keyed 5497853135693807617 65 [] ∷ [])) 21 0 ∷
    denied (rebuild_of (1 ∷ 2 ∷ []) (72057594037927936 ∷ 72057594037927937 ∷ []) (plain 5570193308531884033 ∷ keyed 5570193308531884034 65 [] ∷ [])) 21 1 ∷
    denied (rebuild_of (2 ∷ 1 ∷ []) (72057594037927937 ∷ 72057594037927936 ∷ []) (keyed 5642533481369960450 65 [] ∷ plain 5642533481369960449 ∷ [])) 21 0 ∷
    denied (rebuild_of (2 ∷ 1 ∷ []) (72057594037927937 ∷ 72057594037927936 ∷ []) (plain 5714873654208036866 ∷ keyed 5714873654208036865 65 [] ∷ [])) 21 1 ∷
    denied (rebuild_of (2 ∷ 1 ∷ []) (72057594037927937 ∷ 72057594037927936 ∷ []) (keyed 5787213827046113282 64 [] ∷ keyed 5787213827046113281 65
    (replicate 64 255) ∷ [])) 21 1 ∷ denied (rebuild_of (2 ∷ 1 ∷ []) (72057594037927937 ∷ 72057594037927936 ∷ []) (keyed 5859553999884189698 64 [] ∷
    keyed 5859553999884189697 66 (replicate 64 255) ∷ [])) 21 1 ∷ denied (rebuild_of (2 ∷ 1 ∷ []) (72057594037927937 ∷ 72057594037927936 ∷ [])
    (keyed 5931894172722266114 64 [] ∷ keyed 5931894172722266113 128 (replicate 64 255) ∷ [])) 21 1 ∷ denied (rebuild_of (2 ∷ 1 ∷ []) (72057594037927937 ∷
    72057594037927936 ∷ []) (keyed 6004234345560342530 64 [] ∷ keyed 6004234345560342529 255 (replicate 64 255) ∷ [])) 21 1 ∷ denied (rebuild_of (2 ∷ 1 ∷ [])
    (72057594037927937 ∷ 72057594037927936 ∷ []) (keyed 6076574518398418946 64 [] ∷ keyed 6076574518398418945 256 (replicate 64 255) ∷ [])) 21 1 ∷ denied
    (rebuild_of (2 ∷ 1 ∷ []) (72057594037927937 ∷ 72057594037927936 ∷ []) (keyed 6148914691236495362 64 [] ∷ keyed 6148914691236495361 257 (replicate 64 255) ∷
    [])) 21 1 ∷ denied (rebuild_of (2 ∷ 1 ∷ []) (72057594037927937 ∷ 72057594037927936 ∷ []) (keyed 6221254864074571778 64 [] ∷
    keyed 6221254864074571777 4294967296 (replicate 64 255) ∷ [])) 21 1 ∷ denied (rebuild_of (2 ∷ 1 ∷ []) (72057594037927937 ∷ 72057594037927936 ∷ [])
    (keyed 6293595036912648194 64 [] ∷ keyed 6293595036912648193 4294967297 (replicate 64 255) ∷ [])) 21 1 ∷ denied (rebuild_of (2 ∷ 1 ∷ [])
    (72057594037927937 ∷ 72057594037927936 ∷ []) (keyed 6365935209750724610 64 [] ∷ keyed 6365935209750724609 9223372036854775808 (replicate 64 255) ∷
    [])) 21 1 ∷ denied (rebuild_of (2 ∷ 1 ∷ []) (72057594037927937 ∷ 72057594037927936 ∷ []) (keyed 6438275382588801026 64 [] ∷
    keyed 6438275382588801025 18446744073709551615 (replicate 64 255) ∷ [])) 21 1 ∷
    asked (lookup_of 1) (found_at 72057594037927936 72340172838076417 (replicate 64 255)) ∷
    asked (lookup_of 2) (found_at 72057594037927937 3617008641903820802 []) ∷ []

-- stores.txt, history 10; 36 calls after fresh, less those that the list says in part
unfoldable pub sample4 : List Asked
sample4 =
    asked release done ∷ asked new_id (gave 1) ∷ asked new_id (gave 2) ∷ asked (ask counters) (counts_from ((0, 3, 0) ∷ []) 3 0 0 0) ∷
    asked (offer_of (2 ∷ []) (true ∷ []) (3 ∷ []) (plain 72340172838076418 ∷ [])) (placed (72057594037927936 ∷ [])) ∷ asked commit done ∷ asked release done ∷
    asked (rebuild_of (2 ∷ []) (72057594037927936 ∷ []) (plain 72340172838076418 ∷ [])) done ∷ asked (ask snapshot_length) (gave 512) ∷
    denied (snapshot_in 513) 1 0 ∷ asked (defrag_of (fin false 1 (negsuc 0)) 4) (moves []) ∷ asked new_id (gave 1) ∷ asked (truncation 0 86) (truncated keep) ∷
    denied (report 0 86) 17 0 ∷ asked (truncation 0 86) (truncated keep) ∷ denied (report 0 86) 17 0 ∷
    asked (defrag_of (fin false 15099495 (negsuc 23)) 4) (moves []) ∷ denied (offer_of (1 ∷ 1 ∷ 2 ∷ []) (true ∷ true ∷ true ∷ []) (3 ∷ 3 ∷ 3 ∷ [])
    (plain 217020518514229249 ∷ keyed 217020518514229249 3 (40 ∷ 232 ∷ 64 ∷ []) ∷ keyed 217020518514229250 2 (21 ∷ 125 ∷ []) ∷ [])) 9 1 ∷
    asked new_id (gave 3) ∷ denied (lookup_of 18446744073709551615) 8 0 ∷ denied (defrag_of nan 4) 14 0 ∷ asked release done ∷ asked (offer_of (1 ∷ 2 ∷ 3 ∷ [])
    (true ∷ true ∷ true ∷ []) (3 ∷ 3 ∷ 3 ∷ []) (plain 289360691352305665 ∷ plain 289360691352305666 ∷ plain 289360691352305667 ∷ [])) (placed
    (72057594037927937 ∷ 72057594037927938 ∷ 72057594037927939 ∷ [])) ∷ asked commit done ∷
    asked (lookup_of 2) (found_at 72057594037927938 289360691352305666 []) ∷ denied commit 12 0 ∷ denied (defrag_of nan 4) 14 0 ∷ denied (lookup_of 5) 8 0 ∷
    asked (ask counters) (counts_from ((0, 3, 0) ∷ (1, 3, 0) ∷ []) 3 0 3 0) ∷ asked (page_of (3 ∷ 3 ∷ 3 ∷ 2 ∷ [])) (told
    (told_row 72057594037927939 289360691352305667 [] ∷ told_row 72057594037927939 289360691352305667 [] ∷ told_row 72057594037927939 289360691352305667 [] ∷
    told_row 72057594037927938 289360691352305666 [] ∷ [])) ∷ asked release done ∷ asked (offer_of (1 ∷ 2 ∷ 3 ∷ []) (false ∷ true ∷ true ∷ []) (0 ∷ 3 ∷ 3 ∷ [])
    (plain 361700864190382081 ∷ plain 361700864190382082 ∷ plain 361700864190382083 ∷ [])) (placed (0 ∷ 72057594037927936 ∷ 72057594037927940 ∷ [])) ∷
    asked commit done ∷ asked release done ∷ asked (defrag_of (fin false 1 (negsuc 148)) 4) (moves []) ∷
    asked (lookup_of 2) (found_at 72057594037927936 361700864190382082 []) ∷ []

-- stores.txt, history 14; 20 calls after fresh, less those that the list says in part
unfoldable pub sample5 : List Asked
sample5 =
    asked (offer_of [] [] [] []) (placed []) ∷ asked abandon done ∷ asked new_id (gave 1) ∷ asked (offer_of (1 ∷ []) (true ∷ []) (8388599 ∷ [])
    (keyed 144680345676152833 4 (175 ∷ 178 ∷ 58 ∷ 114 ∷ 228 ∷ 86 ∷ []) ∷ [])) (placed (4035225266123964416 ∷ [])) ∷ asked commit done ∷ denied (offer_of (1 ∷
    1 ∷ []) (true ∷ true ∷ []) (8388599 ∷ 17179869173 ∷ []) (plain 217020518514229249 ∷ keyed 217020518514229249 3 (95 ∷ 13 ∷ 233 ∷ 22 ∷ 236 ∷ []) ∷ [])) 9 1 ∷
    asked release done ∷ asked release done ∷ asked new_id (gave 2) ∷ asked new_id (gave 3) ∷ asked new_id (gave 4) ∷
    asked (defrag_of (fin false 11184811 (negsuc 24)) 4) (moves []) ∷
    asked (rebuild_of (1 ∷ []) (4035225266123964416 ∷ []) (keyed 144680345676152833 4 (175 ∷ 178 ∷ 58 ∷ 114 ∷ []) ∷ [])) done ∷
    asked (ask snapshot_length) (gave 512) ∷ denied (snapshot_in 0) 1 0 ∷ asked new_id (gave 2) ∷ asked new_id (gave 3) ∷ asked release done ∷
    asked (offer_of (2 ∷ []) (true ∷ []) (8388599 ∷ []) (keyed 361700864190382082 2 (251 ∷ 114 ∷ []) ∷ [])) (placed (4035225266123964417 ∷ [])) ∷
    asked commit done ∷ []

-- stores.txt, history 38; 28 calls after fresh, less those that the list says in part
unfoldable pub sample6 : List Asked
sample6 =
    asked (rebuild_of [] [] []) done ∷ asked (ask snapshot_length) (gave 512) ∷ denied (snapshot_in 0) 1 0 ∷ denied commit 12 0 ∷
    denied (defrag_of (fin true 0 (pos 0)) 7) 14 0 ∷ asked release done ∷ asked (offer_of [] [] [] []) (placed []) ∷ asked commit done ∷
    asked (offer_of [] [] [] []) (placed []) ∷ denied new_id 11 0 ∷ denied release 11 0 ∷ denied (offer_of [] [] [] []) 11 0 ∷
    denied (defrag_of (fin false 3 (negsuc 1)) 7) 11 0 ∷ denied (truncation 0 80) 11 0 ∷ denied (report 0 80) 11 0 ∷ denied (lookup_of 1) 8 0 ∷
    denied (ask snapshot_length) 11 0 ∷ denied (snapshot_in 0) 1 0 ∷ denied (snapshot_in 512) 11 0 ∷ asked commit done ∷ asked release done ∷
    asked release done ∷ asked new_id (gave 1) ∷ denied (truncation 78 86) 3 0 ∷ denied (report 78 86) 3 0 ∷ denied (truncation 78 86) 3 0 ∷
    denied (report 78 86) 3 0 ∷ asked new_id (gave 2) ∷ []

-- stores.txt, history 52; 29 calls after fresh, less those that the list says in part
unfoldable pub sample7 : List Asked
sample7 =
    asked (offer_of [] [] [] []) (placed []) ∷ asked commit done ∷ denied (truncation 75 0) 14 0 ∷ denied (report 75 0) 14 0 ∷
    asked (truncation 75 86) (truncated keep) ∷ denied (report 75 86) 17 0 ∷ denied (truncation 78 50) 3 0 ∷ denied (report 78 50) 3 0 ∷
    denied (truncation 78 86) 3 0 ∷ denied (report 78 86) 3 0 ∷ asked new_id (gave 1) ∷ asked new_id (gave 2) ∷ denied new_id 10 0 ∷ denied new_id 10 0 ∷ denied
    (offer_of (2 ∷ 1 ∷ []) (true ∷ true ∷ []) (8589934579 ∷ 8589934579 ∷ []) (keyed 144680345676152834 1 (1 ∷ []) ∷ keyed 144680345676152833 2 (74 ∷ 214 ∷ []) ∷
    [])) 10 75 ∷ asked release done ∷ asked (truncation 77 80) (truncated keep) ∷ denied (report 77 80) 17 0 ∷ asked (truncation 77 86) (truncated keep) ∷
    denied (report 77 86) 17 0 ∷ denied new_id 10 0 ∷ asked release done ∷ asked release done ∷ denied (lookup_of 2) 8 0 ∷ asked (offer_of (1 ∷ 2 ∷ []) (true ∷
    true ∷ []) (8589934579 ∷ 20426 ∷ []) (plain 217020518514229249 ∷ plain 217020518514229250 ∷ [])) (placed (5476377146882523136 ∷ 2449958197289549824 ∷ [])) ∷
    asked commit done ∷ denied (truncation 33 0) 14 0 ∷ denied (report 33 0) 14 0 ∷ asked (truncation 33 86) (truncated keep) ∷ []

-- files.txt, history 5; 43 calls after fresh, less those that the list says in part
unfoldable pub sample8 : List Asked
sample8 =
    asked (offer_of [] [] [] []) (placed []) ∷ asked commit done ∷ asked new_id (gave 1) ∷ asked new_id (gave 2) ∷ asked new_id (gave 3) ∷ asked (offer_of (1 ∷
    2 ∷ 3 ∷ []) (true ∷ true ∷ true ∷ []) (3 ∷ 662 ∷ 3 ∷ []) (plain 144680345676152833 ∷ keyed 144680345676152834 2 (11 ∷ 183 ∷ []) ∷ plain 144680345676152835 ∷
    [])) (placed (72057594037927936 ∷ 1080863910568919040 ∷ 72057594037927937 ∷ [])) ∷ asked commit done ∷ asked (truncation 0 80) (truncated keep) ∷
    asked (truncation 14 80) (truncated keep) ∷ asked (ask counters) (counts_from ((0, 4, 0) ∷ (1, 2, 0) ∷ (15, 1, 0) ∷ []) 4 0 3 0) ∷
    denied (defrag_of (fin false 0 (pos 0)) 6) 14 0 ∷ asked new_id (gave 4) ∷ asked new_id (gave 5) ∷
    asked (ask counters) (counts_from ((0, 6, 0) ∷ (1, 2, 0) ∷ (15, 1, 0) ∷ []) 6 0 3 0) ∷ denied (lookup_of 7) 8 0 ∷
    asked (defrag_of (fin false 1 (negsuc 148)) 6) (moves []) ∷ asked new_id (gave 6) ∷ denied (lookup_of 18446744073709551615) 8 0 ∷
    denied (defrag_of (fin true 1 (negsuc 0)) 6) 14 0 ∷
    denied (offer_of (0 ∷ 3 ∷ []) (true ∷ true ∷ []) (3 ∷ 106 ∷ []) (plain 217020518514229248 ∷ plain 217020518514229251 ∷ [])) 8 0 ∷
    asked (ask counters) (counts_from ((0, 7, 0) ∷ (1, 2, 0) ∷ (15, 1, 0) ∷ []) 7 0 3 0) ∷ asked (offer_of (2 ∷ 4 ∷ 6 ∷ []) (false ∷ false ∷ false ∷ []) (0 ∷
    0 ∷ 0 ∷ []) (plain 289360691352305666 ∷ plain 289360691352305668 ∷ plain 289360691352305670 ∷ [])) (placed (0 ∷ 0 ∷ 0 ∷ [])) ∷ asked commit done ∷
    asked (truncation 0 80) (truncated keep) ∷ asked (truncation 14 80) (truncated keep) ∷
    asked (offer_of (1 ∷ []) (true ∷ []) (662 ∷ []) (plain 361700864190382081 ∷ [])) (placed (1080863910568919041 ∷ [])) ∷ asked commit done ∷
    asked (truncation 0 80) (truncated keep) ∷ asked (truncation 14 80) (truncated keep) ∷ asked (offer_of (1 ∷ 3 ∷ 5 ∷ []) (false ∷ true ∷ true ∷ []) (0 ∷
    662 ∷ 106 ∷ []) (keyed 434041037028458497 2 (82 ∷ 215 ∷ []) ∷ plain 434041037028458499 ∷ plain 434041037028458501 ∷ [])) (placed (0 ∷ 1080863910568919042 ∷
    288230376151711744 ∷ [])) ∷ asked commit done ∷ asked (truncation 0 80) (truncated keep) ∷ asked (truncation 3 80) (truncated keep) ∷
    asked (truncation 14 80) (truncated keep) ∷ asked release done ∷
    asked (ask counters) (counts_from ((0, 7, 4) ∷ (1, 2, 2) ∷ (4, 1, 0) ∷ (15, 3, 2) ∷ []) 7 4 6 4) ∷ denied (defrag_of (inf false) 6) 14 0 ∷
    denied (lookup_of 0) 8 0 ∷ asked release done ∷ asked (offer_of (5 ∷ 3 ∷ []) (false ∷ false ∷ []) (0 ∷ 0 ∷ []) (plain 506381209866534917 ∷
    keyed 506381209866534915 65 (163 ∷ 227 ∷ 106 ∷ 157 ∷ 48 ∷ 153 ∷ 133 ∷ 50 ∷ 13 ∷ 89 ∷ 115 ∷ 111 ∷ 149 ∷ 10 ∷ 3 ∷ 220 ∷ 125 ∷ 58 ∷ 108 ∷ 8 ∷ 165 ∷ 13 ∷ 211 ∷
    218 ∷ 94 ∷ 132 ∷ 66 ∷ 123 ∷ 23 ∷ 150 ∷ 13 ∷ 179 ∷ 220 ∷ 113 ∷ 182 ∷ 78 ∷ 250 ∷ 183 ∷ 134 ∷ 109 ∷ 150 ∷ 66 ∷ 90 ∷ 181 ∷ 214 ∷ 107 ∷ 47 ∷ 86 ∷ 99 ∷ 60 ∷ 113 ∷
    147 ∷ 121 ∷ 145 ∷ 230 ∷ 15 ∷ 100 ∷ 207 ∷ 127 ∷ 62 ∷ 236 ∷ 53 ∷ 209 ∷ 104 ∷ []) ∷ [])) (placed (0 ∷ 0 ∷ [])) ∷ asked commit done ∷
    asked (truncation 0 80) (truncated (cut 64 64)) ∷ asked (report 0 80) done ∷ []

-- stores.txt, history 129: 17 slots in use of 20; 14 calls after fresh, less those that the list says in part
unfoldable pub sample9 : List Asked
sample9 =
    asked (rebuild_of (1 ∷ 2 ∷ []) (72057594037927952 ∷ 72057594037927955 ∷ []) (plain 72340172838076417 ∷ plain 72340172838076418 ∷ [])) done ∷
    asked (truncation 0 86) (truncated keep) ∷
    asked (offer_of (2 ∷ []) (false ∷ []) (0 ∷ []) (keyed 144680345676152834 3 (64 ∷ 150 ∷ 89 ∷ []) ∷ [])) (placed (0 ∷ [])) ∷ asked commit done ∷
    asked release done ∷ denied (truncation 0 0) 14 0 ∷ asked (truncation 0 1) (truncated keep) ∷ asked (truncation 0 80) (truncated keep) ∷
    asked (truncation 0 85) (truncated keep) ∷ asked (truncation 0 86) (truncated keep) ∷ denied (truncation 0 87) 14 0 ∷ denied (report 0 86) 17 0 ∷
    denied (report 0 86) 17 0 ∷ asked (truncation 0 86) (truncated keep) ∷ []

-- stores.txt, history 130: 17 slots in use of 21; 14 calls after fresh, less those that the list says in part
unfoldable pub sample10 : List Asked
sample10 =
    asked (rebuild_of (1 ∷ 2 ∷ []) (72057594037927952 ∷ 72057594037927956 ∷ []) (plain 72340172838076417 ∷ plain 72340172838076418 ∷ [])) done ∷
    asked (truncation 0 86) (truncated keep) ∷ asked (offer_of (2 ∷ []) (false ∷ []) (0 ∷ []) (plain 144680345676152834 ∷ [])) (placed (0 ∷ [])) ∷
    asked commit done ∷ asked release done ∷ denied (truncation 0 0) 14 0 ∷ asked (truncation 0 1) (truncated keep) ∷ asked (truncation 0 80) (truncated keep) ∷
    asked (truncation 0 85) (truncated (cut 1280 64)) ∷ asked (truncation 0 86) (truncated (cut 1280 64)) ∷ denied (truncation 0 87) 14 0 ∷
    asked (report 0 86) done ∷ denied (report 0 86) 17 0 ∷ asked (truncation 0 86) (truncated keep) ∷ []

unfoldable pub samples : List (Store × List Asked)
samples =
    (fresh_store 9 8, sample1) ∷
    (fresh_store 9 12, sample2) ∷
    (fresh_store 5 2, sample3) ∷
    (fresh_store 5 9, sample4) ∷
    (fresh_store 5 2, sample5) ∷
    (fresh_store 8 4, sample6) ∷
    (fresh_store 3 1, sample7) ∷
    (fresh_store 7 20, sample8) ∷
    (fresh_store 3 20, sample9) ∷
    (fresh_store 3 21, sample10) ∷
    []
