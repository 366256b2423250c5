-- Document 01, "Cases": all that are marked P, the run whole and the easy slips; the edges of a cutoff and of a cut, and what the requests say of keys, of pages and of reasons: one table of what is
-- asked and what the documents say. proofs/Computed.antt has the one claim about it, `cases_hold`. Assumes nothing.
use Rattle.std.specs.Prelude.{◌≡◌, true, false, List, [], ◌∷◌, ◌++◌, map, ℕ, ◌-◌, ◌*◌, length, replicate, pos, negsuc, Float, Result, Ok, Err, Option, Some, None}
use Rattle.std.specs.Float.{fin}
use Rattle.refusal.specs.Outcomes.{granted, refused}
use Rattle.refusal.specs.declared.Kind.{Kind}
use Rattle.refusal.specs.Refusals.{refusal, number_of, wrong_shape, too_large, no_such_id, repeated_id, none_free, batch_open, tables_disagree, ratio_out_of_range, too_many, repeated_location, key_too_long}
use Rattle.sizes.specs.Sizes.{class_of}
use Rattle.carried.specs.Carried.{width}
use Rattle.address.specs.Address.{most_slots, packing, packed, unpacked}
use Rattle.fragmentation.specs.Answer.{cutoff_of}
use Rattle.model.specs.Store.{Store, with_id_marks, with_owners, Standing, not_stored, full_enough, before_line, listed, Cut, keep, cut}
use Rattle.model.specs.Store.{Call, new_id, release, offer, commit, rebuild, ask, lookup, lookups, counters, defrag, why, snapshot_length}
use Rattle.model.specs.Store.{Row, Told, gave, found, told, placed, counts, moves, because, Answer}
use Rattle.model.specs.Tables.{ids_of}
use Rattle.model.specs.Rebuild.{columns}
use Rattle.model.specs.Truncation.{cut_at}
use Rattle.model.specs.Step.{answer, state}
use Rattle.refusal.specs.declared.Refusal.{Refusal}

-- ---- a case

-- what is asked, and what the document says
pub data Case : Type 0 where
  -- so many bytes, and their class
  class : ℕ → Result ℕ Refusal → Case
  -- a slab, a slot and the location that they are packed into; and back
  packs : ℕ → ℕ → ℕ → Case
  unpacks : ℕ → ℕ → ℕ → Case
  -- live slots, a tip and r, and where the list starts
  defrags : ℕ → ℕ → Float → Result (Option ℕ) Refusal → Case
  -- a slab, its high mark, t and its tip, and what becomes of its file
  truncates : ℕ → ℕ → ℕ → ℕ → Cut → Case
  -- a store, a call and its answer
  call : Store → Call → Answer → Case

-- what the rules give is what is written: the answer itself, not only its numbers
abbrev pub Holds : Case → Type 0
Holds (class n c) = class_of n ≡ c
Holds (packs slab slot l) = packed most_slots (record { slab = slab; slot = slot }) ≡ Ok l
Holds (unpacks l slab slot) = unpacked most_slots l ≡ Ok (Some (record { slab = slab; slot = slot }))
Holds (defrags live tip r c) = cutoff_of live tip r ≡ c
Holds (truncates slab high t tip c) = cut_at slab high t tip ≡ c
Holds (call s c a) = answer s c ≡ a

abbrev pub AllHold : List Case → Type 0
AllHold [] = Unit
AllHold (c ∷ cs) = Holds c × AllHold cs

-- ---- calls and stores that the cases speak of

-- lists, one after the other
abbrev pub concat : List (List ℕ) → List ℕ
concat [] = []
concat (xs ∷ xss) = xs ++ concat xss

-- a row as it is brought, with a collection, below 256, a key, and bytes behind it that are not looked at; and as it is kept
abbrev pub bringing : ℕ → List ℕ → List ℕ
bringing n key = (n ∷ replicate 7 0) ++ ((length key ∷ replicate 7 0) ++ (key ++ replicate (64 - length key) 255))

abbrev pub keeping : ℕ → List ℕ → List ℕ
keeping n key = (n ∷ replicate 7 0) ++ (length key ∷ (key ++ replicate (71 - length key) 0))

abbrev pub longest : List ℕ
longest = replicate 64 3

-- a row whose key is said to be of 65 bytes
abbrev pub too_much : List ℕ
too_much = replicate 8 0 ++ ((65 ∷ replicate 7 0) ++ replicate 64 1)

-- rows, each in the collection of its id's number, with this number and 7 as its key
abbrev pub rows_for : List ℕ → List ℕ
rows_for is = concat (map (λ (i : ℕ). bringing i (i ∷ 7 ∷ [])) is)

-- a batch of Stores of three bytes; a batch of Frees, each with a key that would be too long
abbrev pub stores : List ℕ → Call
stores is = offer (record { ids = is; stores = map (λ (i : ℕ). true) is; lengths = map (λ (i : ℕ). 3) is; carried = rows_for is; placed = is })

abbrev pub frees : List ℕ → Call
frees is = offer (record { ids = is; stores = map (λ (i : ℕ). false) is; lengths = is; carried = concat (map (λ (i : ℕ). too_much) is); placed = is })

-- id 1 stored with an empty key, and then Stores of n bytes, each with a key that is too long
abbrev pub stores_long : List ℕ → ℕ → Call
stores_long is n =
    offer (record {
      ids = 1 ∷ is;
      stores = true ∷ map (λ (i : ℕ). true) is;
      lengths = 3 ∷ map (λ (i : ℕ). n) is;
      carried = bringing 1 [] ++ concat (map (λ (i : ℕ). too_much) is);
      placed = 1 ∷ is;
    })

abbrev pub three_quarters : Float
three_quarters = fin false 3 (negsuc 1)

abbrev pub half : Float
half = fin false 1 (negsuc 0)

-- bits 3f666667: the smallest f32 above nine tenths
abbrev pub above_nine_tenths : Float
above_nine_tenths = fin false 15099495 (negsuc 23)

-- bits 3f666666: the f32 nearest to nine tenths, just below
abbrev pub nine_tenths : Float
nine_tenths = fin false 15099494 (negsuc 23)

-- bits 0, which are no ratio
abbrev pub nought : Float
nought = fin false 0 (pos 0)

-- bits 1: the smallest f32 above 0
abbrev pub smallest : Float
smallest = fin false 1 (negsuc 148)

-- three ids stored in one batch, 2 freed in a second
abbrev pub stored3 : List Call
stored3 = new_id ∷ new_id ∷ new_id ∷ stores (1 ∷ 2 ∷ 3 ∷ []) ∷ commit ∷ frees (2 ∷ []) ∷ commit ∷ []

-- ids 1 to 8 stored in order, 1, 2, 3, 5, 7 freed and released
abbrev pub whole_run : List Call
whole_run =
    new_id ∷ new_id ∷ new_id ∷ new_id ∷ new_id ∷ new_id ∷ new_id ∷ new_id ∷ stores (1 ∷ 2 ∷ 3 ∷ 4 ∷ 5 ∷ 6 ∷ 7 ∷ 8 ∷ []) ∷ commit ∷
    frees (1 ∷ 2 ∷ 3 ∷ 5 ∷ 7 ∷ []) ∷ commit ∷ release ∷ []

abbrev pub after_whole : Store
after_whole = state 9 8 whole_run

-- ids 1 to 10 stored in order, 1 freed and released: live 9, tip 10
abbrev pub nine_of_ten : List Call
nine_of_ten =
    new_id ∷ new_id ∷ new_id ∷ new_id ∷ new_id ∷ new_id ∷ new_id ∷ new_id ∷ new_id ∷ new_id ∷ stores (1 ∷ 2 ∷ 3 ∷ 4 ∷ 5 ∷ 6 ∷ 7 ∷ 8 ∷ 9 ∷ 10 ∷ []) ∷ commit ∷
    frees (1 ∷ []) ∷ commit ∷ release ∷ []

abbrev pub defrag_of : Float → ℕ → Call
defrag_of r n = ask (defrag r (replicate n 0) (replicate n 0))

-- a page of these ids, with room for so many rows; and with a row for each
abbrev pub page_in : ℕ → List ℕ → Call
page_in n is = ask (lookups (record { ids = is; numbers = replicate n 7; locations = replicate n 7; carried = replicate (n * width) 7 }))

abbrev pub page_of : List ℕ → Call
page_of is = page_in (length is) is

-- what it is told of an id that is stored, as `rows_for` has its row, and of one that is refused
abbrev pub stored_at : ℕ → ℕ → Told
stored_at l i = record { number = 0; location = l; carried = keeping i (i ∷ 7 ∷ []) }

abbrev pub refused_row : Kind → Told
refused_row n = record { number = number_of n; location = 0; carried = replicate width 0 }

-- ids 1, 3 and 4 at slots 0, 1 and 2 of slab 0, of which slot 1 has another owner
abbrev pub disowned : Store
disowned =
    with_owners (state 9 4 (rebuild (columns ((1, packing 0 0) ∷ (3, packing 0 1) ∷ (4, packing 0 2) ∷ []) (rows_for (1 ∷ 3 ∷ 4 ∷ []))) ∷ []))
    (1 ∷ 2 ∷ 4 ∷ replicate 309 0)

-- a store from rows, with the keys of `rows_for`
abbrev pub rebuilt_from : ℕ → ℕ → List Row → Store
rebuilt_from n m rs = state n m (rebuild (columns rs (rows_for (ids_of rs))) ∷ [])

-- three of the eight slots below the tip of slab 0 are in use, and the only one of slab 1
abbrev pub three_of_eight : Store
three_of_eight = rebuilt_from 9 8 ((1, packing 0 3) ∷ (2, packing 0 4) ∷ (3, packing 0 7) ∷ (4, packing 1 0) ∷ [])

-- the same with id 3 marked free: no history leaves an id free that has a location
abbrev pub unheld : Store
unheld = with_id_marks three_of_eight (0 ∷ 1 ∷ 1 ∷ 0 ∷ 1 ∷ replicate 4 0)

-- nine of ten
abbrev pub all_but_first : Store
all_but_first =
    rebuilt_from 11 10
    ((1, packing 0 1) ∷ (2, packing 0 2) ∷ (3, packing 0 3) ∷ (4, packing 0 4) ∷ (5, packing 0 5) ∷ (6, packing 0 6) ∷ (7, packing 0 7) ∷ (8, packing 0 8) ∷ (9, packing 0 9) ∷ [])

-- at a slab and a slot; smaller slots in use, live slots, tip
abbrev pub stands : ℕ → ℕ → ℕ → ℕ → ℕ → Standing
stands k j n live tip = record { slab = k; slot = j; smaller = n; live = live; tip = tip }

-- ---- the table

unfoldable pub cases : List Case
cases =
    -- P1
    class 0 (Ok 0) ∷
    -- P2
    class 59 (Ok 0) ∷ class 60 (Ok 1) ∷
    -- P3
    class 250 (Ok 8) ∷ class 251 (Ok 9) ∷
    -- P4
    class 65528 (Ok 40) ∷ class 65529 (Ok 41) ∷
    -- P5
    class 4294967284 (Ok 73) ∷ class 4294967285 (Ok 74) ∷
    -- P6
    class 17179869172 (Ok 77) ∷ class 17179869173 (Err (refusal too_large 0)) ∷
    -- P7
    packs 0 0 72057594037927936 ∷ packs 77 5 5620492334958379013 ∷ unpacks 72057594037927936 0 0 ∷ unpacks 5620492334958379013 77 5 ∷
    -- P8: new ids 1, 2, 3; after both batches the next is 2 with the release, 4 without
    call (state 9 4 []) new_id (granted (gave 1)) ∷
    call (state 9 4 (new_id ∷ [])) new_id (granted (gave 2)) ∷
    call (state 9 4 (new_id ∷ new_id ∷ [])) new_id (granted (gave 3)) ∷
    call (state 9 4 (stored3 ++ release ∷ [])) new_id (granted (gave 2)) ∷
    call (state 9 4 stored3) new_id (granted (gave 4)) ∷
    -- P9
    defrags 3 8 three_quarters (Ok (Some 4)) ∷ defrags 4 8 half (Ok None) ∷
    -- the quotient, rounded, reaches the tip; the smallest ratio finds only a slab with nothing live too empty
    defrags 9 10 above_nine_tenths (Ok None) ∷ defrags 0 65536 smallest (Ok (Some 0)) ∷ defrags 1 65536 smallest (Ok None) ∷
    -- P10 as request 2026-05 reads it: slab 0, whose slots have 64 bytes, high mark 99, t 80, the tip
    truncates 0 99 80 40 (cut 2944 3456) ∷ truncates 0 99 80 17 (cut 1280 5120) ∷ truncates 0 99 80 16 (cut 1024 5376) ∷
    -- one slot in use: 1 percent of 100 slots, less than 1 of 101
    truncates 0 99 1 1 keep ∷ truncates 0 100 1 1 (cut 64 6400) ∷
    -- 17 slots of 20 are below 86 percent, and 19.55 rounded up leave nothing to cut; of 21 they leave one slot
    truncates 0 19 86 17 keep ∷ truncates 0 20 86 17 (cut 1280 64) ∷
    -- the top is the high mark
    truncates 0 99 86 100 keep ∷
    -- the largest slots, 65,536 of them: the most that are below 86 percent, and one more
    truncates 77 65535 86 56360 (cut 1113496041291776 12403865550848) ∷ truncates 77 65535 86 56361 keep ∷
    -- the run whole: slab 0 slot 5 has id 6, slot 7 id 8
    call after_whole (defrag_of three_quarters 8) (granted (moves ((6, packing 0 5) ∷ (8, packing 0 7) ∷ []))) ∷
    -- the quotient is rounded before it is cut: 9 / r is 10, not 9 and a fraction, so that nothing is listed
    call (state 11 10 nine_of_ten) (defrag_of above_nine_tenths 10) (granted (moves [])) ∷
    -- a committed Store is found
    call after_whole (ask (lookup 6 (keeping 0 []))) (granted (found (packing 0 5) (keeping 6 (6 ∷ 7 ∷ [])))) ∷
    -- and has a row in the snapshot, of which there are three: one block
    call after_whole (ask snapshot_length) (granted (gave 512)) ∷
    -- its counters: 0 was held with the first id, and five ids and slots were freed
    call after_whole (ask counters)
    (granted (counts (9 ∷ 8 ∷ replicate 77 0) (5 ∷ 5 ∷ replicate 77 0)
    (record { objects_allocated = 9; objects_freed = 5; heap_slots_allocated = 8; heap_slots_freed = 5 }))) ∷
    -- a slot freed at commit is pending: the next batch takes another
    call (state 9 4 stored3) (stores (1 ∷ [])) (granted (placed (packing 0 3 ∷ []))) ∷
    call (state 9 4 stored3) (stores (1 ∷ 3 ∷ [])) (refused none_free 0) ∷
    -- request 2026-06: a key over 64 is refused after 8 and 9, before 2; a Free's was not looked at
    call (state 9 4 stored3) (stores_long (3 ∷ []) 3) (refused key_too_long 1) ∷
    call (state 9 4 stored3) (stores_long (4 ∷ []) 3) (refused no_such_id 1) ∷
    call (state 9 4 stored3) (stores_long (1 ∷ []) 3) (refused repeated_id 1) ∷
    call (state 9 4 stored3) (stores_long (3 ∷ []) 17179869173) (refused key_too_long 1) ∷
    -- a key of 64 bytes is kept whole
    call (state 9 4 (rebuild (columns ((1, packing 0 0) ∷ []) (bringing 9 longest)) ∷ [])) (ask (lookup 1 (keeping 0 [])))
    (granted (found (packing 0 0) (keeping 9 longest))) ∷
    -- per row of a rebuild after the others
    call (state 9 4 []) (rebuild (columns ((1, packing 0 0) ∷ (3, packing 0 1) ∷ []) (bringing 1 [] ++ too_much))) (refused key_too_long 1) ∷
    call (state 9 4 []) (rebuild (columns ((1, packing 0 0) ∷ (3, packing 0 0) ∷ []) (bringing 1 [] ++ too_much))) (refused repeated_location 1) ∷
    -- request 2026-09: in the order asked; an id that is asked twice has two rows, and one that is refused spoils no other
    call after_whole (page_of (6 ∷ 0 ∷ 8 ∷ 7 ∷ 6 ∷ 9 ∷ []))
    (granted (told (stored_at (packing 0 5) 6 ∷ refused_row no_such_id ∷ stored_at (packing 0 7) 8 ∷ refused_row no_such_id ∷ stored_at (packing 0 5) 6 ∷
    refused_row no_such_id ∷ []))) ∷
    call disowned (page_of (1 ∷ 3 ∷ 4 ∷ [])) (granted (told (stored_at (packing 0 0) 1 ∷ refused_row tables_disagree ∷ stored_at (packing 0 2) 4 ∷ []))) ∷
    -- a batch may be open: what it stores is not seen yet
    call (state 9 4 (new_id ∷ new_id ∷ stores (1 ∷ []) ∷ commit ∷ stores (1 ∷ 2 ∷ []) ∷ [])) (page_of (2 ∷ 1 ∷ []))
    (granted (told (refused_row no_such_id ∷ stored_at (packing 0 0) 1 ∷ []))) ∷
    -- of no id, of 256 and of one more; 1 comes before 15
    call (state 9 4 []) (page_of []) (granted (told [])) ∷
    call (state 9 4 []) (page_of (replicate 256 1)) (granted (told (replicate 256 (refused_row no_such_id)))) ∷
    call (state 9 4 []) (page_of (replicate 257 1)) (refused too_many 0) ∷
    call (state 9 4 []) (page_in 256 (replicate 257 1)) (refused wrong_shape 0) ∷
    -- request 2026-08: one slot before the line, and at it; a slab of one slot is full
    call three_of_eight (ask (why 1 three_quarters)) (granted (because (before_line (stands 0 3 0 3 8) 4))) ∷
    call three_of_eight (ask (why 2 three_quarters)) (granted (because (listed (stands 0 4 1 3 8) 4))) ∷
    call three_of_eight (ask (why 3 three_quarters)) (granted (because (listed (stands 0 7 2 3 8) 4))) ∷
    call three_of_eight (ask (why 4 three_quarters)) (granted (because (full_enough (stands 1 0 0 1 1)))) ∷
    -- full enough on both grounds: live / tip rounds to r; live / r rounds to the tip
    call all_but_first (ask (why 9 nine_tenths)) (granted (because (full_enough (stands 0 9 8 9 10)))) ∷
    call all_but_first (ask (why 9 above_nine_tenths)) (granted (because (full_enough (stands 0 9 8 9 10)))) ∷
    -- no such stored object: 0, the capacity, never stored in a slab whose tip is 0, pending
    call three_of_eight (ask (why 0 three_quarters)) (granted (because not_stored)) ∷
    call three_of_eight (ask (why 9 three_quarters)) (granted (because not_stored)) ∷
    call (state 9 4 (new_id ∷ [])) (ask (why 1 three_quarters)) (granted (because not_stored)) ∷
    call (state 9 4 stored3) (ask (why 2 three_quarters)) (granted (because not_stored)) ∷
    -- a pending slot is among the smaller ones
    call (state 9 4 stored3) (ask (why 3 three_quarters)) (granted (because (full_enough (stands 0 2 2 3 3)))) ∷
    -- a defrag list looks at no id's mark, a lookup does
    call unheld (defrag_of three_quarters 8) (granted (moves ((2, packing 0 4) ∷ (3, packing 0 7) ∷ []))) ∷
    call unheld (ask (why 3 three_quarters)) (granted (because not_stored)) ∷
    -- 1, 11, 14, 13
    call (with_owners (state 9 4 (stores [] ∷ [])) []) (ask (why 1 three_quarters)) (refused wrong_shape 0) ∷
    call (state 9 4 (stores [] ∷ [])) (ask (why 1 nought)) (refused batch_open 0) ∷
    call disowned (ask (why 3 nought)) (refused ratio_out_of_range 0) ∷
    call disowned (ask (why 3 three_quarters)) (refused tables_disagree 0) ∷
    -- after a rebuild 0 is free, and is not issued
    call (state 9 4 (rebuild (columns ((1, packing 0 0) ∷ (3, packing 0 1) ∷ []) (rows_for (1 ∷ 3 ∷ []))) ∷ [])) new_id (granted (gave 2)) ∷
    []
