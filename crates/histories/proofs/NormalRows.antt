-- Each row of the column is normal in every store that a history reaches: an offer and a rebuild store normal rows, a commit moves rows or clears
-- them. Assumes nothing.
use mathlib.Core.Path.{◌≡◌, refl, sym, ap, subst, ◌∙◌}
use mathlib.Core.Bool.{Bool, true, false}
use mathlib.Core.List.{List, [], ◌∷◌}
use Prim.Native.Nat.{ℕ, ◌*◌}
use native.Mathlib.Omega.{arith}
use lib.ListN.{length, take, drop, replicate, length-replicate, length-map}
use lib.Seq.{take_at, drop_at}
use Rattle.carried.specs.Carried.{width, up_from}
use Rattle.carried.proofs.Laws.{rows_first, length_up_from}
use Rattle.carried.proofs.Each.{EachOf, each_zeros, each_put_rows, each_committed}
use Rattle.keys.specs.Keys.{is_normal, normal_of, normal_rows, all_stored}
use Rattle.keys.proofs.Laws.{length_normal, normal_is_normal, zeros_is_normal}
use Rattle.model.specs.Columns.{offered_column, committed_column, rebuilt_column}
use Rattle.model.specs.Rebuild.{fresh_store}
use Rattle.model.specs.Step.{effect, refusal, next, unless, after}
use Rattle.model.specs.Store.{Store, Call, new_id, release, offer, commit, abandon, fresh, rebuild, ask, truncation, report}
use Rattle.model.specs.Tables.{carried_bytes, kept}
use Rattle.model.specs.Verdict.{Verdict, ok, refuse}
use Rattle.histories.specs.Statements.{Normal, ReachedNormal}
use Rattle.model.proofs.Granted.{offer_granted, rebuild_carries}

abbrev IsNormal : List ℕ → Type 0
IsNormal r = is_normal r ≡ true

-- ---- rows that are normal, one after the other

one : (s : Bool) (row : List ℕ) → length row ≡ width → (length (normal_of s row) ≡ width) × IsNormal (normal_of s row)
one true row l = (length_normal row l, normal_is_normal row l)
one false row l = (length-replicate {A = ℕ} width 0, zeros_is_normal)

each_normal_rows : (ss : List Bool) (is bytes : List ℕ) → length is ≡ length ss → length bytes ≡ length ss * width → EachOf width IsNormal is (normal_rows ss bytes)
unfolding normal_rows
each_normal_rows [] [] bytes e l = tt
each_normal_rows [] (i ∷ is) bytes e l = absurd (omega arith)
each_normal_rows (s ∷ ss) [] bytes e l = absurd (omega arith)
each_normal_rows (s ∷ ss) (i ∷ is) bytes e l =
    let f = rows_first width (length ss) bytes l in
    let o = one s (take width bytes) f.0 in (
      subst IsNormal (sym (take_at (normal_of s (take width bytes)) (normal_rows ss (drop width bytes)) width o.0)) o.1,
      subst (EachOf width IsNormal is) (sym (drop_at (normal_of s (take width bytes)) (normal_rows ss (drop width bytes)) width o.0))
          (each_normal_rows ss is (drop width bytes) (omega arith) f.1),
    )

zeros_normal : (n : ℕ) → Normal (replicate n 0)
zeros_normal n = each_zeros width IsNormal zeros_is_normal n

-- ---- call by call

length_all_stored : (is : List ℕ) → length is ≡ length (all_stored is)
length_all_stored is = sym (length-map is (λ (i : ℕ). true))

pub keep_normal : (s : Store) (c : Call) → refusal s c ≡ ok → Normal s.carried → Normal (effect s c).carried
unfolding effect offered_column committed_column rebuilt_column
keep_normal s new_id e v = v
keep_normal s release e v = v
keep_normal s (offer o) e v =
    let g = offer_granted s o e in
    each_put_rows width IsNormal (up_from s.ids (length o.ids)) (normal_rows o.stores o.carried) s.carried v
    (each_normal_rows o.stores (up_from s.ids (length o.ids)) o.carried (length_up_from s.ids (length o.ids) ∙ sym g.stores)
    (g.carries ∙ ap (λ x. x * width) (sym g.stores)))
keep_normal s commit e v = each_committed width IsNormal s.ids (kept s) s.carried (omega arith) zeros_is_normal v
keep_normal s abandon e v = v
keep_normal s fresh e v = zeros_normal (carried_bytes s.ids)
keep_normal s (rebuild rs) e v =
    let b = rebuild_carries s rs e in
    each_put_rows width IsNormal rs.ids (normal_rows (all_stored rs.ids) rs.carried) (replicate (carried_bytes s.ids) 0) (zeros_normal (carried_bytes s.ids))
    (each_normal_rows (all_stored rs.ids) rs.ids rs.carried (length_all_stored rs.ids) (b ∙ ap (λ x. x * width) (length_all_stored rs.ids)))
keep_normal s (ask q) e v = v
keep_normal s (truncation k t) e v = v
keep_normal s (report k t) e v = v

next_normal : (s : Store) (c : Call) → Normal s.carried → Normal (next s c).carried
unfolding next
next_normal s c v = go (refusal s c) refl
  where
    go : (w : Verdict) → refusal s c ≡ w → Normal (unless w s (effect s c)).carried
    go ok e = keep_normal s c e v
    go (refuse n i) e = v

after_normal : (s : Store) (h : List Call) → Normal s.carried → Normal (after s h).carried
after_normal s [] v = v
after_normal s (c ∷ cs) v = after_normal (next s c) cs (next_normal s c v)

pub reached_normal : ReachedNormal
reached_normal n m h = after_normal (fresh_store n m) h (zeros_normal (carried_bytes n))
