-- Why an object is on a defrag list, or is not. The list of a slab has a slot exactly from the cutoff on and below the tip (on_list); a stored object owns its
-- slot, which is held and so below the tip, so that it is listed exactly if the cutoff is not past it. Assumes nothing.
use mathlib.Core.Path.{◌≡◌, refl, sym, ap, ◌∙◌, subst}
use mathlib.Core.Logic.{◌⊎◌, inl, inr, ◌≢◌, ◌↔◌}
use mathlib.Core.Bool.{Bool, true, false, not, cond, ◌&&◌, ◌||◌}
use mathlib.Core.List.Memᴰ
use mathlib.Core.List.{List, Memᴰ}
use Prim.Native.Nat.{ℕ, zero, suc, ◌+◌, ◌-◌, ◌*◌, ◌/◌, ◌%◌, ◌≤◌, ◌<◌, pred}
use native.Mathlib.Omega.{arith}
use lib.Dec.{eqb, ltb}
use lib.ListN.{length, get_or}
use lib.Ieee as Ieee
use lib.Ieee.{Float}
use borrow.Author.Tests.{not-false, eqb-true, eqb-false, eq-eqb, ne_eqb, lt-ltb, le-ltb, ltb-true, ltb-false}
use Rattle.refusal.specs.Outcomes.{granted, refused}
use Rattle.refusal.specs.Refusals.{no_such_id, tables_disagree}
use Rattle.refusal.proofs.Tests.{and_true, all, by_test, clash, contradiction}
use Rattle.list_parts.specs.Parts.{part}
use Rattle.list_parts.proofs.Parts.{part_at}
use Rattle.address.specs.Address.{unit, packing, is_location, slabs}
use Rattle.marks.specs.Marks.{is_held}
use Rattle.marks.proofs.LawsCount.{last_taken_gt, tip_ge}
use Rattle.carried.specs.Carried.{width}
use Rattle.fragmentation.specs.Cutoff.{float, quotient, cutoff}
use Rattle.fragmentation.proofs.LawsCutoff.{cutoff_le}
use Rattle.model.specs.Defrag.{cons_if, movable, moves_in, slab_moves, moves_from, all_moves}
use Rattle.model.specs.Questions.{unfound, ask_refusal, reply}
use Rattle.model.specs.Reasons.{standing, standing_at, reason_by, reason_for, reason_of}
use Rattle.model.specs.Snapshots.{is_stored}
use Rattle.model.specs.Step.{refusal, refusal_of, grant, answer, answer_by, state}
use Rattle.model.specs.Store.{Store, Row, Standing, Reason, not_stored, full_enough, before_line, listed, Grant, found, moves, because, Call, ask, lookup, defrag, why}
use Rattle.model.specs.Tables.{slot_place, slab_tip, live, location_of, carried_of, in_ids, held_id, bad_at, bad_location}
use Rattle.model.specs.Tests.{lists}
use Rattle.model.specs.Verdict.{Verdict, ok, refuse, test, ◌⨾◌}
use Rattle.model.proofs.Granted.{granted_rest, granted_sizes}
use Rattle.model.proofs.Locations.{is_location_says, is_location_slab, is_location_packed}
use Rattle.model.proofs.Sizes.{sized_shape, slab_tip_le}
use Rattle.model.proofs.Verdicts.{test_ok, then_ok}
use Rattle.histories.specs.Statements.{ListedAt, StartsAt, Stands, line_for, Full, Applies, WhyNotStored, WhyListed, ReachedListed, ListUses, OneReason}
use Rattle.histories.specs.Invariant.{Inv}
use Rattle.histories.proofs.Reached.{reached}
use Rattle.histories.proofs.SameReasons.{stored_somewhere}

-- ---- what is on a list

-- the slots of a slab from a on and below b
abbrev Between : Store → ℕ → ℕ → ℕ → ℕ → ℕ → Type 0
Between s k a b j o = (a ≤ j) × (j < b) × (get_or s.owners (k * s.slots + j) 0 ≡ o) × (movable s k j o ≡ true)

in_cons_if : (b : Bool) (x y : Row) (ys : List Row) → Memᴰ x (cons_if b y ys) → ((b ≡ true) × (x ≡ y)) ⊎ Memᴰ x ys
in_cons_if true x y ys m = go (Memᴰ.cases_cons m)
  where
    go : (x ≡ y) ⊎ Memᴰ x ys → (◌≡◌ {A = Bool} true true × (x ≡ y)) ⊎ Memᴰ x ys
    go (inl e) = inl (refl, e)
    go (inr k) = inr k
in_cons_if false x y ys m = inr m

to_head : (b : Bool) (x y : Row) (ys : List Row) → b ≡ true → x ≡ y → Memᴰ x (cons_if b y ys)
to_head true x y ys e p = Memᴰ.head p
to_head false x y ys e p = clash (sym e)

to_tail : (b : Bool) (x y : Row) (ys : List Row) → Memᴰ x ys → Memᴰ x (cons_if b y ys)
to_tail true x y ys m = Memᴰ.tail m
to_tail false x y ys m = m

-- rows of n slots of slab k from a on, at a slot j of slab p
in_slab_lem : (s : Store) (k a n p j o : ℕ) → a + n ≤ unit → j < unit → Memᴰ (o, packing p j) (moves_in s k a n) → (p ≡ k) × Between s k a (a + n) j o
in_slab_lem s k a zero p j o h c m = absurd (Memᴰ.not-nil m)
in_slab_lem s k a (suc n) p j o h c m = go (λ q. in_slab_lem s k (suc a) n p j o (omega arith) c q) (in_cons_if (movable s k a w) (o, packing p j) (w, packing k a) (moves_in s k (suc a) n) m)
  where
    w : ℕ
    w = get_or s.owners (k * s.slots + a) 0

    go : (Memᴰ (o, packing p j) (moves_in s k (suc a) n) → (p ≡ k) × Between s k (suc a) (suc a + n) j o)
        → ((movable s k a w ≡ true) × ◌≡◌ {A = Row} (o, packing p j) (w, packing k a)) ⊎ Memᴰ (o, packing p j) (moves_in s k (suc a) n)
        → (p ≡ k) × Between s k a (a + suc n) j o
    go f (inl q) =
        let eo : o ≡ w = ap (λ (x : Row). x.0) q.1 in
        let el : packing p j ≡ packing k a = ap (λ (x : Row). x.1) q.1 in
        let ep : p ≡ k = omega arith in
        let ej : j ≡ a = omega arith in
        (ep, (omega arith, omega arith, ap (λ x. get_or s.owners (k * s.slots + x) 0) ej ∙ sym eo, (λ i. movable s k (ej i) (eo i)) ∙ q.0))
    go f (inr q) = let r = f q in (r.0, (omega (arith, r.1.0), omega (arith, r.1.1), r.1.2, r.1.3))

to_slab : (s : Store) (k a n j o : ℕ) → Between s k a (a + n) j o → Memᴰ (o, packing k j) (moves_in s k a n)
to_slab s k a zero j o b = absurd (omega (arith, b.0, b.1))
to_slab s k a (suc n) j o b = by_test (eqb j a)
    (λ e.
    let q : j ≡ a = eqb-true j a e in
    let t : o ≡ w = sym b.2 ∙ ap (λ x. get_or s.owners (k * s.slots + x) 0) q in
    to_head (movable s k a w) (o, packing k j) (w, packing k a) _ (sym (λ i. movable s k (q i) (t i)) ∙ b.3) (λ i. (t i, packing k (q i))))
    (λ e. to_tail (movable s k a w) (o, packing k j) (w, packing k a) _ (to_slab s k (suc a) n j o (omega (arith, b.0, eqb-false j a e), omega (arith, b.1), b.2, b.3)))
  where
    w : ℕ
    w = get_or s.owners (k * s.slots + a) 0

-- a row names its id's location
rows_own : (s : Store) (k a n : ℕ) (x : Row) → Memᴰ x (moves_in s k a n) → (in_ids s x.0 ≡ true) × (location_of s x.0 ≡ x.1) × (x.1 ≢ 0)
rows_own s k a zero x m = absurd (Memᴰ.not-nil m)
rows_own s k a (suc n) x m = go (λ q. rows_own s k (suc a) n x q) (in_cons_if (movable s k a w) x (w, packing k a) (moves_in s k (suc a) n) m)
  where
    w : ℕ
    w = get_or s.owners (k * s.slots + a) 0

    go : (Memᴰ x (moves_in s k (suc a) n) → (in_ids s x.0 ≡ true) × (location_of s x.0 ≡ x.1) × (x.1 ≢ 0))
        → ((movable s k a w ≡ true) × (x ≡ (w, packing k a))) ⊎ Memᴰ x (moves_in s k (suc a) n)
        → (in_ids s x.0 ≡ true) × (location_of s x.0 ≡ x.1) × (x.1 ≢ 0)
    go f (inl q) =
        let b = and_true (in_ids s w) (eqb (location_of s w) (packing k a)) q.0 in
        let e0 : x.0 ≡ w = ap (λ (y : Row). y.0) q.1 in
        let e1 : x.1 ≡ packing k a = ap (λ (y : Row). y.1) q.1 in
        (ap (in_ids s) e0 ∙ b.0, ap (location_of s) e0 ∙ eqb-true _ _ b.1 ∙ sym e1, λ z. omega (arith, e1, z))
    go f (inr q) = f q

all_own : (s : Store) (r : Float) (n q : ℕ) (x : Row) → Memᴰ x (moves_from s r n q) → (in_ids s x.0 ≡ true) × (location_of s x.0 ≡ x.1) × (x.1 ≢ 0)
unfolding moves_from
all_own s r zero q x m = absurd (Memᴰ.not-nil m)
all_own s r (suc n) q x m = go (λ p. all_own s r n (suc q) x p) (Memᴰ.append_cases (slab_moves s r q (slab_tip s q)) m)
  where
    go : (Memᴰ x (moves_from s r n (suc q)) → (in_ids s x.0 ≡ true) × (location_of s x.0 ≡ x.1) × (x.1 ≢ 0))
        → Memᴰ x (slab_moves s r q (slab_tip s q)) ⊎ Memᴰ x (moves_from s r n (suc q))
        → (in_ids s x.0 ≡ true) × (location_of s x.0 ≡ x.1) × (x.1 ≢ 0)
    go f (inl p) = rows_own s q (cutoff (live s q) (slab_tip s q) r) (slab_tip s q - cutoff (live s q) (slab_tip s q) r) x p
    go f (inr p) = f p

module _ (s : Store) (r : Float) (low : 1 ≤ s.slots) (top : s.slots ≤ 65536) where
  abbrev from : ℕ → ℕ
  from k = cutoff (live s k) (slab_tip s k) r

  abbrev OnList : ℕ → ℕ → ℕ → Type 0
  OnList k j o = Between s k (from k) (slab_tip s k) j o

  span : (k : ℕ) → from k + (slab_tip s k - from k) ≡ slab_tip s k
  span k = let a = cutoff_le (live s k) (slab_tip s k) r in omega arith

  in_moves : (q k j o : ℕ) → j < s.slots → Memᴰ (o, packing k j) (slab_moves s r q (slab_tip s q)) → OnList k j o
  in_moves q k j o h m =
      let a = cutoff_le (live s q) (slab_tip s q) r in
      let t = slab_tip_le s low q in
      let b = in_slab_lem s q (from q) (slab_tip s q - from q) k j o (omega arith) (omega arith) m in
      subst (λ x. OnList x j o) (sym b.0) (b.1.0, omega (arith, b.1.1, span q), b.1.2, b.1.3)

  all_in : (n q k j o : ℕ) → j < s.slots → Memᴰ (o, packing k j) (moves_from s r n q) → OnList k j o
  unfolding moves_from
  all_in zero q k j o h m = absurd (Memᴰ.not-nil m)
  all_in (suc n) q k j o h m = go (λ p. all_in n (suc q) k j o h p) (Memᴰ.append_cases (slab_moves s r q (slab_tip s q)) m)
    where
      go : (Memᴰ (o, packing k j) (moves_from s r n (suc q)) → OnList k j o)
          → Memᴰ (o, packing k j) (slab_moves s r q (slab_tip s q)) ⊎ Memᴰ (o, packing k j) (moves_from s r n (suc q)) → OnList k j o
      go f (inl p) = in_moves q k j o h p
      go f (inr p) = f p

  all_to : (n q k j o : ℕ) → q ≤ k → k < q + n → OnList k j o → Memᴰ (o, packing k j) (moves_from s r n q)
  unfolding moves_from
  all_to zero q k j o a b l = absurd (omega arith)
  all_to (suc n) q k j o a b l = by_test (eqb k q)
      (λ e.
      let p : k ≡ q = eqb-true k q e in
      Memᴰ.append_left (moves_from s r n (suc q)) (subst (λ x. Memᴰ (o, packing k j) (slab_moves s r x (slab_tip s x))) p
      (to_slab s k (from k) (slab_tip s k - from k) j o (l.0, omega (arith, l.1, span k), l.2, l.3))))
      (λ e. Memᴰ.append_right (slab_moves s r q (slab_tip s q)) (all_to n (suc q) k j o (omega (arith, eqb-false k q e)) (omega arith) l))

  on_list : (k j o : ℕ) → k < slabs → j < s.slots → Memᴰ (o, packing k j) (all_moves s r) ↔ OnList k j o
  on_list k j o h b = (all_in slabs 0 k j o b, all_to slabs 0 k j o (omega arith) (omega arith))

-- ---- the cutoff by document 01's two grounds

full_cut : (w : Standing) (r : Float) → Full w r → cutoff w.live w.tip r ≡ w.tip
unfolding cutoff
full_cut w r (inl e) = rw e
full_cut w r (inr h) = by_test (Ieee.le r (quotient (float w.live) (float w.tip))) (λ e. rw e) (λ e. rw e (omega arith))

open_cut : (w : Standing) (r : Float) → ¬ (Full w r) → (cutoff w.live w.tip r ≡ line_for w r) × (line_for w r < w.tip)
unfolding cutoff
open_cut w r n = by_test (Ieee.le r (quotient (float w.live) (float w.tip)))
    (λ e. absurd (n (inl e)))
    (λ e. by_test (ltb (line_for w r) w.tip)
    (λ p. let h = ltb-true (line_for w r) w.tip p in (rw e (omega arith), h))
    (λ p. absurd (n (inr (ltb-false (line_for w r) w.tip p)))))

is_full : (w : Standing) (r : Float) → Full w r ⊎ ¬ (Full w r)
is_full w r = by_test (Ieee.le r (quotient (float w.live) (float w.tip)))
    (λ e. inl (inl e))
    (λ e. by_test (ltb (line_for w r) w.tip) (λ p. inr (neither e (ltb-true _ _ p))) (λ p. inl (inr (ltb-false _ _ p))))
  where
    neither : Ieee.le r (quotient (float w.live) (float w.tip)) ≡ false → line_for w r < w.tip → Full w r → ⊥
    neither e h (inl q) = contradiction q e
    neither e h (inr q) = omega arith

-- ---- the reason by the cutoff

module _ (w : Standing) (c : ℕ) where
  by_full : w.tip ≤ c → reason_by w c ≡ full_enough w
  by_full h = simp (le-ltb c w.tip h)

  by_before : c < w.tip → w.slot < c → reason_by w c ≡ before_line w c
  by_before h b = simp (lt-ltb c w.tip h, lt-ltb w.slot c b)

  by_listed : c < w.tip → c ≤ w.slot → reason_by w c ≡ listed w c
  by_listed h b = simp (lt-ltb c w.tip h, le-ltb w.slot c b)

-- which of the three it is
data By (w : Standing) (c : ℕ) : Type 0 where
  full : w.tip ≤ c → By w c
  before : c < w.tip → w.slot < c → By w c
  on : c < w.tip → c ≤ w.slot → By w c

by_of : (w : Standing) (c : ℕ) → By w c
by_of w c = by_test (ltb c w.tip)
    (λ e. by_test (ltb w.slot c) (λ b. before (ltb-true _ _ e) (ltb-true _ _ b)) (λ b. on (ltb-true _ _ e) (ltb-false _ _ b)))
    (λ e. full (ltb-false _ _ e))

abbrev is_not_stored : Reason → Bool
is_not_stored not_stored = true
is_not_stored (full_enough w) = false
is_not_stored (before_line w line) = false
is_not_stored (listed w line) = false

-- an object that stands somewhere is stored
reason_by_stored : (w : Standing) (c : ℕ) → reason_by w c ≢ not_stored
reason_by_stored w c e = go (by_of w c)
  where
    go : By w c → ⊥
    go (full h) = clash (sym (ap is_not_stored (sym (by_full w c h) ∙ e)))
    go (before h b) = clash (sym (ap is_not_stored (sym (by_before w c h b) ∙ e)))
    go (on h b) = clash (sym (ap is_not_stored (sym (by_listed w c h b) ∙ e)))

-- ---- a question that is granted

granted_by : (s : Store) (c : Call) (g : Grant) → answer s c ≡ granted g → (refusal s c ≡ ok) × (grant s c ≡ g)
unfolding answer
granted_by s c g e = go (refusal s c) refl e
  where
    go : (v : Verdict) → refusal s c ≡ v → answer_by v (grant s c) ≡ granted g → (refusal s c ≡ ok) × (grant s c ≡ g)
    go ok p q = let same : grant s c ≡ g = cc in (p, same)
    go (refuse n i) p q = let z : ◌≡◌ {A = ℕ} 0 1 = cc in absurd (omega arith)

moves_are : (s : Store) (r : Float) (is ls : List ℕ) (ms : List Row) → answer s (ask (defrag r is ls)) ≡ granted (moves ms) → all_moves s r ≡ ms
unfolding grant reply
moves_are s r is ls ms e = let q = (granted_by s (ask (defrag r is ls)) (moves ms) e).1 in cc

-- what a reason that is given tells
record Known (s : Store) (i : ℕ) (r : Float) (g : Reason) : Type 0 where
  pub low : 1 ≤ s.slots
  pub top : s.slots ≤ 65536
  pub fine : (is_stored s i && bad_location s i) ≡ false
  pub given : reason_of s r i ≡ g

known : (s : Store) (i : ℕ) (r : Float) (g : Reason) → answer s (ask (why i r)) ≡ granted (because g) → Known s i r g
unfolding refusal_of ask_refusal grant reply
known s i r g e =
    let q = granted_by s (ask (why i r)) (because g) e in
    let z = (granted_sizes s (ask (why i r)) q.0).range in
    let given : because (reason_of s r i) ≡ because g = q.1 in
    record { low = z.slots_from; top = z.slots_to; fine = test_ok _ _ _ (then_ok _ _ (then_ok _ _ (granted_rest s (ask (why i r)) q.0))); given = cc }

-- it applies, and no other does
abbrev Only : Store → Float → ℕ → Reason → Type 0
Only s r i g = Applies s r i g × ((other : Reason) → Applies s r i other → other ≡ g)

-- ---- the object of a stored id

-- its slot is held, and it is the owner
record Owned (s : Store) (i l : ℕ) : Type 0 where
  pub range : is_location s.slots l ≡ true
  pub held : is_held (get_or s.slot_marks (slot_place s.slots l) 0) ≡ true
  pub owner : get_or s.owners (slot_place s.slots l) 0 ≡ i

owned : (s : Store) (i l : ℕ) → l ≢ 0 → bad_at s i l ≡ false → Owned s i l
owned s i zero n e = absurd (n refl)
owned s i (suc l) n e =
    let a = and_true _ _ (not-false _ e) in
    let b = and_true _ _ a.0 in
    record { range = b.0; held = b.1; owner = eqb-true _ _ a.1 }

module _ (s : Store) (i : ℕ) (r : Float) (low : 1 ≤ s.slots) (top : s.slots ≤ 65536) (is_stored_lem : is_stored s i ≡ true) (fine : bad_location s i ≡ false) where
  abbrev l : ℕ
  l = location_of s i

  abbrev k : ℕ
  k = pred (l / unit)

  abbrev j : ℕ
  j = l % unit

  abbrev w : Standing
  w = standing_at s l

  abbrev c : ℕ
  c = cutoff w.live w.tip r

  own : Owned s i l
  own = owned s i l (stored_somewhere s i is_stored_lem) fine

  k_lt : k < slabs
  k_lt = is_location_slab s.slots l own.range

  j_lt : j < s.slots
  j_lt = (is_location_says s.slots l own.range).slot

  whole : l ≡ packing k j
  whole = is_location_packed s.slots l own.range

  -- a held slot is below the tip
  j_below : j < slab_tip s k
  j_below =
      let at : get_or (part s.slots s.slot_marks k) j 0 ≡ get_or s.slot_marks (slot_place s.slots l) 0 = part_at s.slots s.slot_marks k j 0 j_lt in
      let h = last_taken_gt (part s.slots s.slot_marks k) j (λ z. clash (sym own.held ∙ ap is_held (sym at ∙ z))) in
      omega (arith, tip_ge (part s.slots s.slot_marks k) (get_or s.tallies.used (suc k) 0))

  own_moves : movable s k j i ≡ true
  own_moves = all (and_true (in_ids s i) _ (and_true (held_id s i) _ is_stored_lem).0).0 (eq-eqb l (packing k j) whole)

  on_list_from : Memᴰ (i, packing k j) (all_moves s r) ↔ (c ≤ j)
  on_list_from =
      let o = on_list s r low top k j i k_lt j_lt in
      (λ m. (o.0 m).0, λ h. o.1 (h, j_below, own.owner, own_moves))

  stands : Stands s i w
  stands = record { stored = is_stored_lem; location = whole; in_slab_lem = j_lt; smaller = refl; live = refl; tip = refl }

  stands_one : (v : Standing) → Stands s i v → v ≡ w
  stands_one v h =
      let p : packing v.slab v.slot ≡ packing k j = sym h.location ∙ whole in
      let a = h.in_slab_lem in
      let b = j_lt in
      let ek : v.slab ≡ k = omega arith in
      let ej : v.slot ≡ j = omega arith in
      (λ t. record { slab = v.slab; slot = v.slot; smaller = h.smaller t; live = h.live t; tip = h.tip t })
      ∙ (λ t. standing s (ek t) (ej t))

  -- ---- of the three that are left exactly one applies

  open_at : (v : Standing) → Stands s i v → ¬ (Full v r) → ¬ (Full w r)
  open_at v h n f = n (subst (λ x. Full x r) (sym (stands_one v h)) f)

  full_at : (v : Standing) → Stands s i v → Full v r → Full w r
  full_at v h f = subst (λ x. Full x r) (stands_one v h) f

  start_at : (v : Standing) → Stands s i v → (line : ℕ) → line ≡ line_for v r → line ≡ line_for w r
  start_at v h line e = e ∙ ap (λ x. line_for x r) (stands_one v h)

  listed_at : (v : Standing) → Stands s i v → Memᴰ (i, packing v.slab v.slot) (all_moves s r) → c ≤ j
  listed_at v h m = on_list_from.0 (subst (λ x. Memᴰ (i, packing x.slab x.slot) (all_moves s r)) (stands_one v h) m)

  only_full : Full w r → Only s r i (full_enough w)
  only_full f = ((stands, f), go)
    where
      go : (other : Reason) → Applies s r i other → other ≡ full_enough w
      go not_stored a = contradiction is_stored_lem a
      go (full_enough v) a = ap full_enough (stands_one v a.0)
      go (before_line v line) a = absurd (open_at v a.0 a.1 f)
      go (listed v line) a = let h = listed_at v a.0 a.2 in absurd (omega (arith, full_cut w r f, j_below))

  module _ (n : ¬ (Full w r)) where
    cut : (c ≡ line_for w r) × (line_for w r < w.tip)
    cut = open_cut w r n

    only_before : j < c → Only s r i (before_line w c)
    only_before b = ((stands, n, cut.0, b), go)
      where
        go : (other : Reason) → Applies s r i other → other ≡ before_line w c
        go not_stored a = contradiction is_stored_lem a
        go (full_enough v) a = absurd (n (full_at v a.0 a.1))
        go (before_line v line) a = λ t. before_line (stands_one v a.0 t) ((start_at v a.0 line a.2 ∙ sym cut.0) t)
        go (listed v line) a = let h = listed_at v a.0 a.2 in absurd (omega arith)

    only_listed : c ≤ j → Only s r i (listed w c)
    only_listed b = ((stands, cut.0, on_list_from.1 b), go)
      where
        go : (other : Reason) → Applies s r i other → other ≡ listed w c
        go not_stored a = contradiction is_stored_lem a
        go (full_enough v) a = absurd (n (full_at v a.0 a.1))
        go (before_line v line) a =
            let e : line ≡ c = start_at v a.0 line a.2 ∙ sym cut.0 in
            let q : v.slot ≡ j = ap (λ (x : Standing). x.slot) (stands_one v a.0) in
            let h = a.3 in
            absurd (omega arith)
        go (listed v line) a = λ t. listed (stands_one v a.0 t) ((start_at v a.0 line a.1 ∙ sym cut.0) t)

  only : Only s r i (reason_for w r)
  only = go (is_full w r)
    where
      go : Full w r ⊎ ¬ (Full w r) → Only s r i (reason_for w r)
      go (inl f) = subst (Only s r i) (sym (by_full w c (omega (arith, full_cut w r f)))) (only_full f)
      go (inr n) = by_test (ltb j c)
          (λ b. let h = ltb-true j c b in subst (Only s r i) (sym (by_before w c (omega (arith, (cut n).0, (cut n).1)) h)) (only_before n h))
          (λ b. let h = ltb-false j c b in subst (Only s r i) (sym (by_listed w c (omega (arith, (cut n).0, (cut n).1)) h)) (only_listed n h))

  -- ---- listed, and on the list

  listed_both : (x : ℕ) → ListedAt (reason_for w r) x ↔ ((reason_for w r ≢ not_stored) × Memᴰ (i, x) (all_moves s r))
  listed_both x = (to (by_of w c), λ p. back (by_of w c) p.1)
    where
      to : By w c → ListedAt (reason_for w r) x → (reason_for w r ≢ not_stored) × Memᴰ (i, x) (all_moves s r)
      to (full h) e = absurd (subst (λ g. ListedAt g x) (by_full w c h) e)
      to (before h b) e = absurd (subst (λ g. ListedAt g x) (by_before w c h b) e)
      to (on h b) e =
          let q : packing k j ≡ x = subst (λ g. ListedAt g x) (by_listed w c h b) e in
          (reason_by_stored w c, subst (λ y. Memᴰ (i, y) (all_moves s r)) q (on_list_from.1 b))

      back : By w c → Memᴰ (i, x) (all_moves s r) → ListedAt (reason_for w r) x
      back d m =
          let q : packing k j ≡ x = sym whole ∙ (all_own s r slabs 0 (i, x) m).1 in
          let h = on_list_from.0 (subst (λ y. Memᴰ (i, y) (all_moves s r)) (sym q) m) in
          let b : c < w.tip = omega (arith, j_below) in
          subst (λ g. ListedAt g x) (sym (by_listed w c b h)) q

  -- ---- the line and the tip

  starts : (v : Standing) (start : ℕ) → StartsAt (reason_for w r) v start → (w ≡ v) × (c ≡ start)
  starts v start e = go (by_of w c)
    where
      go : By w c → (w ≡ v) × (c ≡ start)
      go (full h) =
          let q : (w ≡ v) × (w.tip ≡ start) = subst (λ g. StartsAt g v start) (by_full w c h) e in
          (q.0, omega (arith, cutoff_le w.live w.tip r, q.1))
      go (before h b) = subst (λ g. StartsAt g v start) (by_before w c h b) e
      go (on h b) = subst (λ g. StartsAt g v start) (by_listed w c h b) e

  abbrev Uses : Standing → ℕ → Type 0
  Uses v start = (b o : ℕ) → b < s.slots → Memᴰ (o, packing v.slab b) (all_moves s r) ↔ Between s v.slab start v.tip b o

  uses : (v : Standing) (start : ℕ) → StartsAt (reason_for w r) v start → Uses v start
  uses v start e =
      let q = starts v start e in
      subst (λ x. Uses x start) q.0 (subst (λ x. Uses w x) q.1 (λ b o h. on_list s r low top k b o k_lt h))

-- ---- the statements

reason_stored_not : (s : Store) (i : ℕ) (r : Float) → reason_for (standing_at s (location_of s i)) r ≢ not_stored
reason_stored_not s i r = reason_by_stored (standing_at s (location_of s i)) (cutoff (standing_at s (location_of s i)).live (standing_at s (location_of s i)).tip r)

-- a granted reason by whether the id is stored
reason_stored : (s : Store) (i : ℕ) (r : Float) (g : Reason) → Known s i r g → is_stored s i ≡ true → (bad_location s i ≡ false) × (reason_for (standing_at s (location_of s i)) r ≡ g)
reason_stored s i r g q e = (both (is_stored s i) (bad_location s i) e q.fine, sym (ap (λ b. cond b (reason_for (standing_at s (location_of s i)) r) not_stored) e) ∙ q.given)
  where
    both : (a b : Bool) → a ≡ true → (a && b) ≡ false → b ≡ false
    both true b e f = f
    both false b e f = clash (sym e)

reason_none : (s : Store) (i : ℕ) (r : Float) (g : Reason) → Known s i r g → is_stored s i ≡ false → not_stored ≡ g
reason_none s i r g q e = sym (ap (λ b. cond b (reason_for (standing_at s (location_of s i)) r) not_stored) e) ∙ q.given

pub one_reason : OneReason
one_reason s i r g e = by_test (is_stored s i)
    (λ p. let q = known s i r g e in let h = reason_stored s i r g q p in subst (Only s r i) h.1 (only s i r q.low q.top p h.0))
    (λ p. let q = known s i r g e in subst (Only s r i) (reason_none s i r g q p) (p, nothing p))
  where
    nothing : is_stored s i ≡ false → (other : Reason) → Applies s r i other → other ≡ not_stored
    nothing p not_stored a = refl
    nothing p (full_enough v) a = contradiction a.0.stored p
    nothing p (before_line v line) a = contradiction a.0.stored p
    nothing p (listed v line) a = contradiction a.0.stored p

pub why_listed : WhyListed
why_listed s i r g is ls ms e d x = subst (λ ys. ListedAt g x ↔ ((g ≢ not_stored) × Memᴰ (i, x) ys)) (moves_are s r is ls ms d) (by_test (is_stored s i)
    (λ p. let q = known s i r g e in let h = reason_stored s i r g q p in
    subst (λ y. ListedAt y x ↔ ((y ≢ not_stored) × Memᴰ (i, x) (all_moves s r))) h.1 (listed_both s i r q.low q.top p h.0 x))
    (λ p. let q = known s i r g e in
    subst (λ y. ListedAt y x ↔ ((y ≢ not_stored) × Memᴰ (i, x) (all_moves s r))) (reason_none s i r g q p) (λ b. absurd b, λ b. absurd (b.0 refl))))

pub list_uses : ListUses
list_uses s i r g v start is ls ms e d st = by_test (is_stored s i)
    (λ p. let q = known s i r g e in let h = reason_stored s i r g q p in
    subst (λ ys. (b o : ℕ) → b < s.slots → Memᴰ (o, packing v.slab b) ys ↔ Between s v.slab start v.tip b o) (moves_are s r is ls ms d)
    (uses s i r q.low q.top p h.0 v start (subst (λ y. StartsAt y v start) (sym h.1) st)))
    (λ p. absurd (subst (λ y. StartsAt y v start) (sym (reason_none s i r g (known s i r g e) p)) st))

-- what is on the list of a store that a history reaches is stored
moved_stored : (s : Store) → Inv s → (r : Float) (i x : ℕ) → Memᴰ (i, x) (all_moves s r) → is_stored s i ≡ true
moved_stored s v r i x m =
    let q = all_own s r slabs 0 (i, x) m in
    let n : location_of s i ≢ 0 = λ z. q.2 (sym q.1 ∙ z) in
    all (all q.0 (ap is_held (v.good.located i n).id_held)) (ap not (ne_eqb (location_of s i) 0 n))

pub reached_listed : ReachedListed
reached_listed n m h i r g is ls ms c e d x =
    let s = state n m h in
    let q = why_listed s i r g is ls ms e d x in
    (λ b. (q.0 b).1, λ b. q.1 (given b, b))
  where
    given : Memᴰ (i, x) ms → g ≢ not_stored
    given b z =
        let s = state n m h in
        let p = moved_stored s (reached n m c h) r i x (subst (λ ys. Memᴰ (i, x) ys) (sym (moves_are s r is ls ms d)) b) in
        reason_stored_not s i r ((reason_stored s i r g (known s i r g e) p).1 ∙ z)

-- a lookup is refused with 8 where nothing is stored, and with no other number where a reason is given
pub why_not_stored : WhyNotStored
unfolding answer refusal refusal_of ask_refusal grant reply test ◌⨾◌
why_not_stored s i r g row sized-is wide e = by_test (is_stored s i)
    (λ p.
    let q = known s i r g e in
    let h = reason_stored s i r g q p in
    (λ z. absurd (reason_stored_not s i r (h.1 ∙ z)), λ z. absurd (found_not p h.0 z)))
    (λ p. (λ z. refused_with p, λ z. sym (reason_none s i r g (known s i r g e) p)))
  where
    lookup_is : answer s (ask (lookup i row)) ≡ answer_by (unfound s i) (found (location_of s i) (carried_of s i))
    lookup_is = λ t. answer_by (sized_shape s sized-is (ask (lookup i row)) t ⨾ lists (eq-eqb (length row) width wide t) ⨾ unfound s i) (found (location_of s i) (carried_of s i))

    unstored : is_stored s i ≡ false → (not (held_id s i) || eqb (location_of s i) 0) ≡ true
    unstored p = by (held_id s i) (eqb (location_of s i) 0) p
      where
        by : (a b : Bool) → (a && not b) ≡ false → (not a || b) ≡ true
        by true true q = refl
        by true false q = clash q
        by false b q = refl

    refused_with : is_stored s i ≡ false → answer s (ask (lookup i row)) ≡ refused no_such_id 0
    refused_with p = lookup_is ∙ (λ t. answer_by (test (unstored p t) no_such_id 0 ⨾ test (bad_location s i) tables_disagree 0) (found (location_of s i) (carried_of s i)))

    found_not : is_stored s i ≡ true → bad_location s i ≡ false → answer s (ask (lookup i row)) ≡ refused no_such_id 0 → ⊥
    found_not p b z =
        let y : granted (found (location_of s i) (carried_of s i)) ≡ refused no_such_id 0 = sym (lookup_is ∙ (λ t. answer_by (test (stored p t) no_such_id 0 ⨾ test (b t) tables_disagree 0) (found (location_of s i) (carried_of s i)))) ∙ z in
        let n : ◌≡◌ {A = ℕ} 0 1 = cc in omega arith
      where
        stored : is_stored s i ≡ true → (not (held_id s i) || eqb (location_of s i) 0) ≡ false
        stored p = by (held_id s i) (eqb (location_of s i) 0) p
          where
            by : (a b : Bool) → (a && not b) ≡ true → (not a || b) ≡ false
            by true true q = clash (sym q)
            by true false q = refl
            by false b q = clash (sym q)
